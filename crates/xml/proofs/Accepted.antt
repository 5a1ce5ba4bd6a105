-- A text that has a derivation is accepted by the machine: it runs through each production to what follows the production.
use mathlib.Core.Path.{◌≡◌, refl, ap, ◌∙◌, sym}
use mathlib.Core.Bool.{Bool, true, false, ◌||◌, ◌&&◌, false≢true, or-true, and-false}
use mathlib.Core.List.{List, [], ◌∷◌, ◌++◌, append_assoc, append-nil}
use mathlib.Core.Logic.{◌⊎◌, inl, inr}
use Prim.Native.Nat.{ℕ, suc, ◌+◌, ◌-◌, ◌/◌, ◌%◌, ◌<◌, ◌≤◌, min}
use native.Mathlib.Omega.{arith}
use borrow.Author.Tests.{eq-eqb, ne_eqb, lt-ltb, le-ltb, lt-leb, eqb-true, ltb-true, ltb-false, leb-true}
use lib.Dec.{eqb, ltb, leb, eqb-suc-zero}
use lib.ListN.{length}
use Rattle.xml.specs.Bytes.{is_space, is_ascii_letter, is_name_byte, declaration}
use Rattle.xml.specs.CheckSteps.{Mode, before, root, name, tag, key, keyed, equals, value, valued, content, opens, closed, after, more, lead239, Held, blank, words, children, State, at, reads, char, in_text, inside_element, tag_end, outside, leave, innermost, without_text, form_step, good, ended, form_run, form}
use Rattle.xml.specs.Tree.{Head, Forest, none, node}
use Rattle.xml.specs.Grammar.{Spaces, NameBytes, Name, Char, Entity, Value, Quoted, Equals, Attribute, Start, End, Text, Elements, Document, utf8, is_char}
use Rattle.xml.proofs.Leads.{lead_two, lead_224, lead_three, lead_237, lead_239, lead_240, lead_four, lead_244}
use Rattle.xml.proofs.Runs.{run_to, run_word}
use Rattle.xml.proofs.Stays.{before_stay, tag_stay, keyed_stay, equals_stay, valued_stay, closed_stay, blank_stay, children_stay, after_stay}
use Rattle.xml.proofs.Utf8.{Tail}
use Rattle.xml.proofs.Classes.{space_low, space_no_name, letter_no_space, letter_not}
use Rattle.xml.proofs.Logic.{cons_head, cons_tail}
use Rattle.slices.specs.Words.{bytes}

stays : (p : Mode) (ns : List (List ℕ)) → ((b : ℕ) → is_space b ≡ true → form_step p ns b ≡ at p ns) → {s t : List ℕ} → Spaces s t → form_run (at p ns) s ≡ form_run (at p ns) t
stays p ns h Spaces.end = refl
stays p ns h (Spaces.more {b} {s} e x) = run_to p ns b s (at p ns) (h b e) ∙ stays p ns h x

-- characters
tail_run : (p : Mode) (ns : List (List ℕ)) {lo hi n : ℕ} {s t : List ℕ} → Tail lo hi n s t → form_run (at (more p lo hi n) ns) s ≡ form_run (at p ns) t
unfolding form_step
tail_run p ns (Tail.last {lo} {hi} {b} {t} h g) = run_to (more p lo hi 0) ns b t (at p ns) (simp (le-ltb b lo h, le-ltb hi b g))
tail_run p ns (Tail.next {lo} {hi} {b} {n} {s} h g x) =
    let y : suc n - 1 ≡ n = omega arith in
    run_to (more p lo hi (suc n)) ns b s (at (more p 128 191 n) ns) (simp (le-ltb b lo h, le-ltb hi b g, eqb-suc-zero n, y)) ∙ tail_run p ns x

ascii_printable : (c : ℕ) → c < 128 → is_char c ≡ true → (leb 32 c || is_space c) ≡ true
unfolding is_char is_space
ascii_printable c h e = go (leb 32 c) (eqb c 9) (eqb c 10) (eqb c 13) refl refl refl refl
  where
    go : (q r u v : Bool) → leb 32 c ≡ q → eqb c 9 ≡ r → eqb c 10 ≡ u → eqb c 13 ≡ v → (leb 32 c || is_space c) ≡ true
    go true r u v x y z w = simp x
    go false true u v x y z w = simp (x, y, or-true)
    go false false true v x y z w = simp (x, y, z, or-true)
    go false false false true x y z w = simp (x, y, w, or-true)
    go false false false false x y z w =
        let f : is_char c ≡ false = simp (x, y, z, w, lt-leb 57344 c (omega arith), lt-leb 65536 c (omega arith)) in
        absurd (false≢true (sym f ∙ e))

-- where the characters from 2048 on are
code_ranges : (c : ℕ) → 2048 ≤ c → is_char c ≡ true → (c ≤ 55295) ⊎ (((57344 ≤ c) × (c ≤ 65533)) ⊎ ((65536 ≤ c) × (c ≤ 1114111)))
unfolding is_char
code_ranges c h e = go (leb c 55295) (leb 57344 c) (leb c 65533) (leb 65536 c) (leb c 1114111) refl refl refl refl refl
  where
    none_of : leb c 55295 ≡ false → (leb 57344 c && leb c 65533) ≡ false → (leb 65536 c && leb c 1114111) ≡ false → ⊥
    none_of x y z =
        let f : is_char c ≡ false = simp (x, y, z, ne_eqb c 9 (omega arith), ne_eqb c 10 (omega arith), ne_eqb c 13 (omega arith), and-false (leb 32 c)) in
        false≢true (sym f ∙ e)

    go : (q r u v w : Bool) → leb c 55295 ≡ q → leb 57344 c ≡ r → leb c 65533 ≡ u → leb 65536 c ≡ v → leb c 1114111 ≡ w → (c ≤ 55295) ⊎ (((57344 ≤ c) × (c ≤ 65533)) ⊎ ((65536 ≤ c) × (c ≤ 1114111)))
    go true r u v w x₀ x₁ x₂ x₃ x₄ = inl (leb-true c 55295 x₀)
    go false true true v w x₀ x₁ x₂ x₃ x₄ = inr (inl (leb-true 57344 c x₁, leb-true c 65533 x₂))
    go false true false true true x₀ x₁ x₂ x₃ x₄ = inr (inr (leb-true 65536 c x₃, leb-true c 1114111 x₄))
    go false true false true false x₀ x₁ x₂ x₃ x₄ = absurd (none_of x₀ (simp (x₁, x₂)) (simp (x₃, x₄)))
    go false true false false w x₀ x₁ x₂ x₃ x₄ = absurd (none_of x₀ (simp (x₁, x₂)) (simp x₃))
    go false false u true true x₀ x₁ x₂ x₃ x₄ = inr (inr (leb-true 65536 c x₃, leb-true c 1114111 x₄))
    go false false u true false x₀ x₁ x₂ x₃ x₄ = absurd (none_of x₀ (simp x₁) (simp (x₃, x₄)))
    go false false u false w x₀ x₁ x₂ x₃ x₄ = absurd (none_of x₀ (simp x₁) (simp x₃))

-- what a character does at p
record Runs (p : Mode) (ns : List (List ℕ)) (s t : List ℕ) : Type 0 where
  first : ℕ
  others : List ℕ
  split : s ≡ first ∷ others
  not60 : first ≡ 60 → ⊥
  single : first < 128 → (first ≡ 38 → ⊥) → others ≡ t
  runs : form_run (char p ns first) others ≡ form_run (at p ns) t

module _ (p : Mode) (ns : List (List ℕ)) where
  -- from its bytes
  by_tail : (b lo hi n : ℕ) (s : List ℕ) {u t : List ℕ} → 128 ≤ b → char p ns b ≡ at (more p lo hi n) ns → u ≡ b ∷ s → Tail lo hi n s t → Runs p ns u t
  by_tail b lo hi n s h e z x =
      record { first = b; others = s; split = z; not60 = omega arith; single = λ g. absurd (omega arith); runs = ap (λ (σ : State). form_run σ s) e ∙ tail_run p ns x }

  ascii_runs : (c : ℕ) (t : List ℕ) {s : List ℕ} → c < 128 → is_char c ≡ true → (c ≡ 60 → ⊥) → (c ≡ 38 → ⊥) → s ≡ c ∷ t → Runs p ns s t
  unfolding char
  ascii_runs c t h e g k z =
      record { first = c; others = t; split = z; not60 = g; single = λ _ _. refl; runs = ap (λ (σ : State). form_run σ t) (simp (lt-ltb c 128 h, ne_eqb c 38 k, printable)) }
    where
      printable : (leb 32 c || is_space c) ≡ true
      printable = ascii_printable c h e

  two_runs : (c : ℕ) (t : List ℕ) {s : List ℕ} → 128 ≤ c → c < 2048 → s ≡ (192 + c / 64) ∷ (128 + c % 64) ∷ t → Runs p ns s t
  two_runs c t h g z =
      by_tail (192 + c / 64) 128 191 0 ((128 + c % 64) ∷ t) (omega arith) (lead_two p ns (192 + c / 64) (omega arith) (omega arith)) z
      (Tail.last (omega arith) (omega arith))

  three_low : (c : ℕ) (t : List ℕ) {s : List ℕ} → 2048 ≤ c → c ≤ 55295 → s ≡ (224 + c / 4096) ∷ (128 + c / 64 % 64) ∷ (128 + c % 64) ∷ t → Runs p ns s t
  three_low c t {s} h g z = go (ltb c 4096) (ltb c 53248) refl refl
    where
      go : (q r : Bool) → ltb c 4096 ≡ q → ltb c 53248 ≡ r → Runs p ns s t
      go true r x y =
          let l : c < 4096 = ltb-true c 4096 x in
          by_tail (224 + c / 4096) 160 191 1 _ (omega arith) (lead_224 p ns (224 + c / 4096) (omega arith)) z (Tail.next (omega arith) (omega arith) (Tail.last (omega arith) (omega arith)))
      go false true x y =
          let l : 4096 ≤ c = ltb-false c 4096 x in
          let m : c < 53248 = ltb-true c 53248 y in
          by_tail (224 + c / 4096) 128 191 1 _ (omega arith) (lead_three p ns (224 + c / 4096) (omega arith) (omega arith) (λ w. omega arith)) z (Tail.next (omega arith) (omega arith) (Tail.last (omega arith) (omega arith)))
      go false false x y =
          let m : 53248 ≤ c = ltb-false c 53248 y in
          by_tail (224 + c / 4096) 128 159 1 _ (omega arith) (lead_237 p ns (224 + c / 4096) (omega arith)) z (Tail.next (omega arith) (omega arith) (Tail.last (omega arith) (omega arith)))

  three_mid : (c : ℕ) (t : List ℕ) {s : List ℕ} → 57344 ≤ c → c ≤ 65533 → s ≡ (224 + c / 4096) ∷ (128 + c / 64 % 64) ∷ (128 + c % 64) ∷ t → Runs p ns s t
  unfolding form_step
  three_mid c t {s} h g z = go (ltb c 61440) (ltb c 65472) refl refl
    where
      by_239 : (d hi : ℕ) (u : List ℕ) → 61440 ≤ c → s ≡ (224 + c / 4096) ∷ d ∷ u → form_step (lead239 p) ns d ≡ at (more p 128 hi 0) ns → Tail 128 hi 0 u t → Runs p ns s t
      by_239 d hi u l z e x =
          record {
            first = 224 + c / 4096;
            others = d ∷ u;
            split = z;
            not60 = omega arith;
            single = λ g. absurd (omega arith);
            runs = ap (λ (σ : State). form_run σ (d ∷ u)) (lead_239 p ns (224 + c / 4096) (omega arith)) ∙ run_to (lead239 p) ns d u (at (more p 128 hi 0) ns) e ∙ tail_run p ns x;
          }

      go : (q r : Bool) → ltb c 61440 ≡ q → ltb c 65472 ≡ r → Runs p ns s t
      go true r x y =
          let l : c < 61440 = ltb-true c 61440 x in
          by_tail (224 + c / 4096) 128 191 1 _ (omega arith) (lead_three p ns (224 + c / 4096) (omega arith) (omega arith) (λ w. omega arith)) z (Tail.next (omega arith) (omega arith) (Tail.last (omega arith) (omega arith)))
      go false true x y =
          let l : 61440 ≤ c = ltb-false c 61440 x in
          let m : c < 65472 = ltb-true c 65472 y in
          by_239 (128 + c / 64 % 64) 191 ((128 + c % 64) ∷ t) l z
          (simp (le-ltb (128 + c / 64 % 64) 128 (omega arith), lt-ltb (128 + c / 64 % 64) 191 (omega arith))) (Tail.last (omega arith) (omega arith))
      go false false x y =
          let l : 61440 ≤ c = ltb-false c 61440 x in
          let m : 65472 ≤ c = ltb-false c 65472 y in
          by_239 (128 + c / 64 % 64) 189 ((128 + c % 64) ∷ t) l z
          (simp (le-ltb (128 + c / 64 % 64) 128 (omega arith), le-ltb (128 + c / 64 % 64) 191 (omega arith), lt-ltb (128 + c / 64 % 64) 192 (omega arith))) (Tail.last (omega arith) (omega arith))

  four_runs : (c : ℕ) (t : List ℕ) {s : List ℕ} → 65536 ≤ c → c ≤ 1114111 → s ≡ (240 + c / 262144) ∷ (128 + c / 4096 % 64) ∷ (128 + c / 64 % 64) ∷ (128 + c % 64) ∷ t → Runs p ns s t
  four_runs c t {s} h g z = go (ltb c 262144) (ltb c 1048576) refl refl
    where
      go : (q r : Bool) → ltb c 262144 ≡ q → ltb c 1048576 ≡ r → Runs p ns s t
      go true r x y =
          let l : c < 262144 = ltb-true c 262144 x in
          by_tail (240 + c / 262144) 144 191 2 _ (omega arith) (lead_240 p ns (240 + c / 262144) (omega arith)) z (Tail.next (omega arith) (omega arith) (Tail.next (omega arith) (omega arith) (Tail.last (omega arith) (omega arith))))
      go false true x y =
          let l : 262144 ≤ c = ltb-false c 262144 x in
          let m : c < 1048576 = ltb-true c 1048576 y in
          by_tail (240 + c / 262144) 128 191 2 _ (omega arith) (lead_four p ns (240 + c / 262144) (omega arith) (omega arith)) z (Tail.next (omega arith) (omega arith) (Tail.next (omega arith) (omega arith) (Tail.last (omega arith) (omega arith))))
      go false false x y =
          let m : 1048576 ≤ c = ltb-false c 1048576 y in
          by_tail (240 + c / 262144) 128 143 2 _ (omega arith) (lead_244 p ns (240 + c / 262144) (omega arith)) z (Tail.next (omega arith) (omega arith) (Tail.next (omega arith) (omega arith) (Tail.last (omega arith) (omega arith))))

  entity_runs : (e t : List ℕ) → Entity e → form_run (char p ns 38) (e ++ t) ≡ form_run (at p ns) t
  unfolding char form_run form_step reads bytes
  entity_runs e t Entity.amp = refl
  entity_runs e t Entity.lt = refl
  entity_runs e t Entity.gt = refl
  entity_runs e t Entity.quot = refl
  entity_runs e t Entity.apos = refl

  char_runs : {s t : List ℕ} → Char s t → Runs p ns s t
  unfolding utf8
  char_runs (Char.char c {s} {t} e g h z) = go (ltb c 128) (ltb c 2048) (ltb c 65536) refl refl refl
    where
      go : (q r u : Bool) → ltb c 128 ≡ q → ltb c 2048 ≡ r → ltb c 65536 ≡ u → Runs p ns s t
      go true r u x y w = ascii_runs c t (ltb-true c 128 x) e g h (z ∙ simp x)
      go false true u x y w = two_runs c t (ltb-false c 128 x) (ltb-true c 2048 y) (z ∙ simp (x, y))
      go false false true x y w = wide (code_ranges c (ltb-false c 2048 y) e)
        where
          wide : (c ≤ 55295) ⊎ (((57344 ≤ c) × (c ≤ 65533)) ⊎ ((65536 ≤ c) × (c ≤ 1114111))) → Runs p ns s t
          wide (inl k) = three_low c t (ltb-false c 2048 y) k (z ∙ simp (x, y, w))
          wide (inr (inl k)) = three_mid c t k.0 k.1 (z ∙ simp (x, y, w))
          wide (inr (inr k)) = absurd (omega (arith, ltb-true c 65536 w))
      go false false false x y w = wide (code_ranges c (ltb-false c 2048 y) e)
        where
          wide : (c ≤ 55295) ⊎ (((57344 ≤ c) × (c ≤ 65533)) ⊎ ((65536 ≤ c) × (c ≤ 1114111))) → Runs p ns s t
          wide (inl k) = absurd (omega (arith, ltb-false c 65536 w))
          wide (inr (inl k)) = absurd (omega (arith, ltb-false c 65536 w))
          wide (inr (inr k)) = four_runs c t k.0 k.1 (z ∙ simp (x, y, w))
  char_runs (Char.reference {e} {t} x) =
      record { first = 38; others = e ++ t; split = refl; not60 = omega arith; single = λ _ h. absurd (h refl); runs = entity_runs e t x }

-- attributes
module _ (ns : List (List ℕ)) where
  value_run : (q : ℕ) {s t : List ℕ} → Value q s t → form_run (at (value q) ns) s ≡ form_run (at valued ns) t
  unfolding form_step
  value_run q (Value.end {t}) = run_to (value q) ns q t (at valued ns) (simp (eq-eqb q q refl))
  value_run q (Value.more {b} {s} {s₁} h c x) =
      let r : Runs (value q) ns (b ∷ s) s₁ = char_runs (value q) ns c in
      let y : b ≡ r.first = cons_head r.split in
      let z : s ≡ r.others = cons_tail r.split in
      let g : b ≡ 60 → ⊥ = λ w. r.not60 (sym y ∙ w) in
      run_to (value q) ns b s (char (value q) ns b) (simp (ne_eqb b q h, ne_eqb b 60 g))
      ∙ ap (λ (c : ℕ). form_run (char (value q) ns c) s) y ∙ ap (λ (u : List ℕ). form_run (char (value q) ns r.first) u) z ∙ r.runs ∙ value_run q x

  quoted_run : {v s t : List ℕ} → Quoted v s t → form_run (at equals ns) s ≡ form_run (at valued ns) t
  unfolding form_run form_step is_space
  quoted_run (Quoted.double v _) = value_run 34 v
  quoted_run (Quoted.single v _) = value_run 39 v

  key_equals : {u v : List ℕ} → Spaces u v → form_run (at key ns) (61 ∷ u) ≡ form_run (at equals ns) v
  unfolding form_run form_step is_name_byte is_ascii_letter is_space
  key_equals y = stays equals ns (equals_stay ns) y

  keyed_equals : {u v : List ℕ} → Spaces u v → form_run (at keyed ns) (61 ∷ u) ≡ form_run (at equals ns) v
  unfolding form_run form_step is_space
  keyed_equals y = stays equals ns (equals_stay ns) y

  key_run : {s t : List ℕ} → Equals s t → form_run (at key ns) s ≡ form_run (at equals ns) t
  unfolding form_step
  key_run (Equals.equals Spaces.end y) = key_equals y
  key_run (Equals.equals (Spaces.more {b} {s} e x) y) =
      run_to key ns b s (at keyed ns) (simp (space_no_name b e, e)) ∙ stays keyed ns (keyed_stay ns) x ∙ keyed_equals y

  key_bytes : {v : List ℕ} (s : List ℕ) → NameBytes v → form_run (at key ns) (v ++ s) ≡ form_run (at key ns) s
  unfolding form_step
  key_bytes s NameBytes.end = refl
  key_bytes s (NameBytes.more {b} {w} e x) = run_to key ns b (w ++ s) (at key ns) (simp e) ∙ key_bytes s x

  -- an attribute
  pair_run : {k v s s₁ s₂ t : List ℕ} → Spaces s (k ++ s₁) → Name k → Equals s₁ s₂ → Quoted v s₂ t → form_run (at tag ns) s ≡ form_run (at valued ns) t
  unfolding form_step
  pair_run {s₁ = s₁} x (Name.name {b} {w} e y) z v =
      stays tag ns (tag_stay ns) x ∙ run_to tag ns b (w ++ s₁) (at key ns) (simp (letter_no_space b e, e))
      ∙ key_bytes s₁ y ∙ key_run z ∙ quoted_run v

-- the end of a start tag
module _ (c : ℕ) (h : is_space c ≡ false) (g : is_name_byte c ≡ false) (k : is_ascii_letter c ≡ false) (n : List ℕ) (ns : List (List ℕ)) where
  valued_ends : {s t : List ℕ} → Spaces s (c ∷ t) → form_run (at valued (n ∷ ns)) s ≡ form_run (tag_end (n ∷ ns) c) t
  unfolding form_step
  valued_ends {t = t} x = stays valued (n ∷ ns) (valued_stay (n ∷ ns)) x ∙ run_to valued (n ∷ ns) c t (tag_end (n ∷ ns) c) (simp h)

  tag_ends : {s t : List ℕ} → Spaces s (c ∷ t) → form_run (at tag (n ∷ ns)) s ≡ form_run (tag_end (n ∷ ns) c) t
  unfolding form_step
  tag_ends {t = t} x = stays tag (n ∷ ns) (tag_stay (n ∷ ns)) x ∙ run_to tag (n ∷ ns) c t (tag_end (n ∷ ns) c) (simp (h, k))

  name_ends : {s t : List ℕ} → Spaces s (c ∷ t) → form_run (at (name n) ns) s ≡ form_run (tag_end (n ∷ ns) c) t
  unfolding form_step
  name_ends (Spaces.end) = run_to (name n) ns c _ (tag_end (n ∷ ns) c) (simp (g, h))
  name_ends (Spaces.more {b} {s} e x) = run_to (name n) ns b s (at tag (n ∷ ns)) (simp (space_no_name b e, e)) ∙ tag_ends x

  attribute_ends : {j v s s₁ t : List ℕ} → Attribute j v s s₁ → Spaces s₁ (c ∷ t) → form_run (at (name n) ns) s ≡ form_run (tag_end (n ∷ ns) c) t
  unfolding form_step
  attribute_ends Attribute.without x = name_ends x
  attribute_ends (Attribute.with {b} {s = s} e x y z v) w =
      run_to (name n) ns b s (at tag (n ∷ ns)) (simp (space_no_name b e, e)) ∙ pair_run (n ∷ ns) x y z v ∙ valued_ends w

name_bytes : (ns : List (List ℕ)) (w : List ℕ) {v : List ℕ} (s : List ℕ) → NameBytes v → form_run (at (name w) ns) (v ++ s) ≡ form_run (at (name (w ++ v)) ns) s
unfolding form_step
name_bytes ns w s NameBytes.end = ap (λ (m : List ℕ). form_run (at (name m) ns) s) (sym (append-nil w))
name_bytes ns w s (NameBytes.more {b} {w = v} e x) =
    run_to (name w) ns b (v ++ s) (at (name (w ++ b ∷ [])) ns) (simp e) ∙ name_bytes ns (w ++ b ∷ []) s x
    ∙ ap (λ (m : List ℕ). form_run (at (name m) ns) s) (append_assoc w (b ∷ []) v)

before_60 : (ns : List (List ℕ)) (s : List ℕ) → form_run (at before ns) (60 ∷ s) ≡ form_run (at root ns) s
unfolding form_run form_step is_space
before_60 ns s = refl

start_run : (c : ℕ) → is_space c ≡ false → is_name_byte c ≡ false → is_ascii_letter c ≡ false → (ns : List (List ℕ)) {n k v s t : List ℕ} → Start n k v s (c ∷ t)
    → form_run (at before ns) s ≡ form_run (tag_end (n ∷ ns) c) t
unfolding form_step
start_run c h g k ns (Start.start {s = s} (Name.name {b} {w} e y) a x) =
    before_60 ns (b ∷ w ++ s) ∙ run_to root ns b (w ++ s) (at (name (b ∷ [])) ns) (simp e) ∙ name_bytes ns (b ∷ []) s y
    ∙ attribute_ends c h g k (b ∷ w) ns a x

content_60 : (h : Held) (ns : List (List ℕ)) (s : List ℕ) → form_run (at (content h) ns) (60 ∷ s) ≡ form_run (at (opens (without_text h)) ns) s
unfolding form_run form_step
content_60 h ns s = refl

-- an element begins in another
content_before : (h : Held) (ns : List (List ℕ)) {n k v s t : List ℕ} → without_text h ≡ true → length ns < 64 → Start n k v s t → form_run (at (content h) ns) s ≡ form_run (at before ns) s
unfolding form_step is_ascii_letter
content_before h ns q l (Start.start {s = s} (Name.name {b} {w} e y) a x) =
    content_60 h ns (b ∷ w ++ s) ∙ ap (λ (o : Bool). form_run (at (opens o) ns) (b ∷ w ++ s)) q
    ∙ run_to (opens true) ns b (w ++ s) (at (name (b ∷ [])) ns) (simp (letter_not b 47 e refl, e, lt-ltb (length ns) 64 l))
    ∙ sym (before_60 ns (b ∷ w ++ s) ∙ run_to root ns b (w ++ s) (at (name (b ∷ [])) ns) (simp e))

-- text, up to an end tag
module _ (ns : List (List ℕ)) where
  shuts : (h : Held) (u : List ℕ) → form_run (at (content h) ns) (60 ∷ 47 ∷ u) ≡ form_run (at (reads closed (innermost ns)) ns) u
  unfolding form_run form_step
  shuts h u = refl

  abbrev Shuts : List ℕ → State → List ℕ → Type 0
  Shuts u σ s = form_run σ s ≡ form_run (at (reads closed (innermost ns)) ns) u

  -- a byte of text
  text_step : (k : ℕ) {s s₁ : List ℕ} (u : List ℕ) → (r : Runs (content (words 0)) ns s s₁) → (r.first ≡ 62 → k ≡ 2 → ⊥)
      → Shuts u (at (content (words 0)) ns) s₁
      → (r.first ≡ 93 → Shuts u (at (content (words (min 2 (k + 1)))) ns) s₁)
      → Shuts u (in_text k ns r.first) r.others
  unfolding in_text
  text_step k {s} {s₁} u r g i j = go (eqb r.first 93) (eqb r.first 62) (eqb k 2) refl refl refl
    where
      go : (v w x : Bool) → eqb r.first 93 ≡ v → eqb r.first 62 ≡ w → eqb k 2 ≡ x → Shuts u (in_text k ns r.first) r.others
      go true w x e f h =
          let a : r.first ≡ 93 = eqb-true r.first 93 e in
          let q : r.others ≡ s₁ = r.single (omega arith) (omega arith) in
          ap (λ (σ : State). form_run σ r.others) (simp e) ∙ ap (λ (l : List ℕ). form_run (at (content (words (min 2 (k + 1)))) ns) l) q ∙ j a
      go false true true e f h = absurd (g (eqb-true r.first 62 f) (eqb-true k 2 h))
      go false true false e f h = ap (λ (σ : State). form_run σ r.others) (simp (e, f, h)) ∙ r.runs ∙ i
      go false false x e f h = ap (λ (σ : State). form_run σ r.others) (simp (e, f)) ∙ r.runs ∙ i

  abbrev Guard : ℕ → List ℕ → Type 0
  Guard k s = ((r : List ℕ) → 1 ≤ k → s ≡ 93 ∷ 62 ∷ r → ⊥) × ((r : List ℕ) → 2 ≤ k → s ≡ 62 ∷ r → ⊥)

  -- a character in text that is left at k `]`
  char_step : (k : ℕ) {s s₁ : List ℕ} (u : List ℕ) → k ≤ 2 → Guard k s → ((r : List ℕ) → s ≡ 93 ∷ 93 ∷ 62 ∷ r → ⊥) → (r : Runs (content (words 0)) ns s s₁)
      → ((j : ℕ) → j ≤ 2 → Guard j s₁ → Shuts u (at (content (words j)) ns) s₁) → Shuts u (in_text k ns r.first) r.others
  char_step k {s} {s₁} u l f not r ih =
      text_step k u r (λ e h. f.1 r.others (omega arith) (r.split ∙ ap (λ (b : ℕ). b ∷ r.others) e))
      (ih 0 (omega arith) (λ q h. absurd (omega arith), λ q h. absurd (omega arith)))
      (λ e. ih (min 2 (k + 1)) (omega arith) (λ q _ z. not q (whole e ∙ ap (λ (t : List ℕ). 93 ∷ t) z), λ q h z. f.0 q (omega arith) (whole e ∙ ap (λ (t : List ℕ). 93 ∷ t) z)))
    where
      whole : r.first ≡ 93 → s ≡ 93 ∷ s₁
      whole e = r.split ∙ ap (λ (b : ℕ). b ∷ r.others) e ∙ ap (λ (t : List ℕ). 93 ∷ t) (r.single (omega arith) (omega arith))

  -- the first byte of a character in an element
  enter : (h : Held) {s s₁ : List ℕ} → (r : Runs (content (words 0)) ns s s₁) → form_run (at (content h) ns) s ≡ form_run (inside_element h ns r.first) r.others
  unfolding form_step
  enter h {s} r =
      ap (λ (l : List ℕ). form_run (at (content h) ns) l) r.split
      ∙ run_to (content h) ns r.first r.others (inside_element h ns r.first) (simp (ne_eqb r.first 60 r.not60))

  words_run : (k : ℕ) {s u : List ℕ} → k ≤ 2 → Text s (60 ∷ 47 ∷ u) → Guard k s → Shuts u (at (content (words k)) ns) s
  unfolding inside_element
  words_run k {u = u} l Text.end f = shuts (words k) u
  words_run k {u = u} l (Text.more not c x) f =
      enter (words k) (char_runs (content (words 0)) ns c) ∙ char_step k u l f not (char_runs (content (words 0)) ns c) (λ j i g. words_run j i x g)

  blank_run : {s u : List ℕ} → Text s (60 ∷ 47 ∷ u) → Shuts u (at (content blank) ns) s
  unfolding inside_element
  blank_run {u = u} Text.end = shuts blank u
  blank_run {s} {u} (Text.more {s₁ = s₁} not c x) = enter blank (char_runs (content (words 0)) ns c) ∙ go (char_runs (content (words 0)) ns c) (blank_run x)
    where
      go : (r : Runs (content (words 0)) ns s s₁) → Shuts u (at (content blank) ns) s₁ → Shuts u (inside_element blank ns r.first) r.others
      go r ih = split (is_space r.first) refl
        where
          split : (v : Bool) → is_space r.first ≡ v → Shuts u (inside_element blank ns r.first) r.others
          split true e =
              let b : r.first ≤ 32 = space_low r.first e in
              let q : r.others ≡ s₁ = r.single (omega arith) (omega arith) in
              ap (λ (σ : State). form_run σ r.others) (simp e) ∙ ap (λ (l : List ℕ). form_run (at (content blank) ns) l) q ∙ ih
          split false e =
              ap (λ (σ : State). form_run σ r.others) (simp e)
              ∙ char_step 0 u (omega arith) (λ q h. absurd (omega arith), λ q h. absurd (omega arith)) not r (λ j i g. words_run j i x g)

closed_62 : (ns : List (List ℕ)) (t : List ℕ) → form_run (at closed ns) (62 ∷ t) ≡ form_run (leave ns) t
unfolding form_run form_step is_space
closed_62 ns t = refl

-- an end tag, behind its `</`
end_run : (n : List ℕ) (ns : List (List ℕ)) {s t : List ℕ} → Spaces s (62 ∷ t) → form_run (at (reads closed n) (n ∷ ns)) (n ++ s) ≡ form_run (leave (n ∷ ns)) t
end_run n ns {s} {t} x = run_word closed (n ∷ ns) n s ∙ stays closed (n ∷ ns) (closed_stay (n ∷ ns)) x ∙ closed_62 (n ∷ ns) t

-- a start tag up to its `>`, and an empty-element tag
open_run : (ns : List (List ℕ)) {n k v s t : List ℕ} → Start n k v s (62 ∷ t) → form_run (at before ns) s ≡ form_run (at (content blank) (n ∷ ns)) t
unfolding is_space is_name_byte is_ascii_letter tag_end
open_run ns x = start_run 62 refl refl refl ns x

empty_run : (ns : List (List ℕ)) {n k v s t : List ℕ} → Start n k v s (47 ∷ 62 ∷ t) → form_run (at before ns) s ≡ form_run (leave (n ∷ ns)) t
unfolding is_space is_name_byte is_ascii_letter tag_end form_run form_step
empty_run ns x = start_run 47 refl refl refl ns x

text_run : (ns : List (List ℕ)) {n k v s s₁ s₂ t : List ℕ} → Start n k v s (62 ∷ s₁) → Text s₁ s₂ → End n s₂ t → form_run (at before ns) s ≡ form_run (leave (n ∷ ns)) t
unfolding innermost
text_run ns {n} x y (End.end z) = open_run ns x ∙ blank_run (n ∷ ns) y ∙ end_run n ns z

nest_run : (ns : List (List ℕ)) {n k v s s₁ s₂ s₃ t : List ℕ} → Start n k v s (62 ∷ s₁) → Spaces s₁ s₂ → form_run (at (content blank) (n ∷ ns)) s₂ ≡ form_run (at (reads closed n) (n ∷ ns)) (n ++ s₃) → Spaces s₃ (62 ∷ t)
    → form_run (at before ns) s ≡ form_run (leave (n ∷ ns)) t
nest_run ns {n} x y r z = open_run ns x ∙ stays (content blank) (n ∷ ns) (blank_stay (n ∷ ns)) y ∙ r ∙ end_run n ns z

left_run : (n m : List ℕ) (ns : List (List ℕ)) {s t : List ℕ} → Spaces s t → form_run (leave (n ∷ m ∷ ns)) s ≡ form_run (at (content children) (m ∷ ns)) t
unfolding leave outside
left_run n m ns x = stays (content children) (m ∷ ns) (children_stay (m ∷ ns)) x

elements_run : (m : List ℕ) (ns : List (List ℕ)) (h : Held) {d : ℕ} {f : Forest} {s u : List ℕ} → d + suc (length ns) ≡ 64 → without_text h ≡ true → Elements d f s (60 ∷ 47 ∷ u)
    → form_run (at (content h) (m ∷ ns)) s ≡ form_run (at (reads closed m) (m ∷ ns)) u
unfolding innermost without_text
elements_run m ns h {u = u} l q Elements.end = shuts (m ∷ ns) h u
elements_run m ns h l q (Elements.empty {n = n} x y z) =
    content_before h (m ∷ ns) q (omega arith) x ∙ empty_run (m ∷ ns) x ∙ left_run n m ns y ∙ elements_run m ns children l refl z
elements_run m ns h l q (Elements.text {n = n} x _ y w v z) =
    content_before h (m ∷ ns) q (omega arith) x ∙ text_run (m ∷ ns) x y w ∙ left_run n m ns v ∙ elements_run m ns children l refl z
elements_run m ns h l q (Elements.nest {n = n} x _ y k (End.end w) v z) =
    content_before h (m ∷ ns) q (omega arith) x ∙ nest_run (m ∷ ns) x y (elements_run n (m ∷ ns) blank (omega arith) refl k) w
    ∙ left_run n m ns v ∙ elements_run m ns children l refl z

after_run : (n : List ℕ) {s : List ℕ} → Spaces s [] → form_run (leave (n ∷ [])) s ≡ good
unfolding leave outside form_run ended
after_run n x = stays after [] (after_stay []) x

root_run : {h : Head} {k : Forest} {s : List ℕ} → Elements 64 (node h k none) s [] → form_run (at before []) s ≡ good
unfolding innermost without_text
root_run (Elements.empty {n = n} x y Elements.end) = empty_run [] x ∙ after_run n y
root_run (Elements.text {n = n} x _ y w v Elements.end) = text_run [] x y w ∙ after_run n v
root_run (Elements.nest {n = n} x _ y k (End.end w) v Elements.end) = nest_run [] x y (elements_run n [] blank refl refl k) w ∙ after_run n v

-- every text with a derivation is in the form
pub derived_form : {f : Forest} {s : List ℕ} → Document f s → form s ≡ good
unfolding form declaration reads bytes
derived_form (Document.document {s = s} x y) = run_word before [] declaration s ∙ stays before [] (before_stay []) x ∙ root_run y
