-- Numbers as XML Schema spells them: texts without the white space around them, and that a text says n exactly where it spells n.
use Rattle.std.specs.Prelude.{None, Option, Some}
use mathlib.Core.Path.{◌≡◌, refl, ap, ap₂, sym, ◌∙◌, subst}
use mathlib.Core.Bool.{Bool, true, false, cond, not, false≢true, and-false, and-true}
use mathlib.Core.List.{List, [], ◌∷◌, ◌++◌, reverse, append-nil, append_assoc}
use Prim.Native.Nat.{ℕ, suc, ◌+◌, ◌-◌, ◌<◌, ◌≤◌}
use native.Mathlib.Omega.{arith}
use borrow.Author.Tests.{ne_eqb, eqb-true, le-leb, leb-true, not-true}
use lib.Dec.{leb, eqb}
use native.Mathlib.Numerals.{one-add}
use lib.ListN.{length, take, drop, get_or, take-append-drop, length-append, length-drop}
use lib.Seq.{take_all}
use Rattle.std.proofs.lemmas.List.{reverse-append, reverse-reverse, take-append-le, length-reverse}
use Rattle.std.specs.List.{prefix_len, suffix_len}
use Rattle.std.proofs.lemmas.Bool.Decides.{nat_tests}
use Rattle.slices.specs.Slices.{every, same}
use Rattle.slices.proofs.Booleans.{and_left, and_right, and_both}
use Rattle.slices.proofs.Every.{every_append, every_weaker}
use Rattle.slices.proofs.Ranges.{range}
use Rattle.xml.specs.Bytes.{is_space}
use Rattle.xml.specs.Tree.{front, behind}
use Rattle.digits.specs.Decimal.{is_digit, largest, is_run, run, short}
use Rattle.digits.specs.Steps.{of_few}
use Rattle.digits.proofs.Numbers.{run_of_few, run_parts, run_short}
use Rattle.values.specs.Values.{at_most, end_trimmed, trimmed, signed, number}
use Rattle.values.specs.Spells.{Sign, unsigned, plus, minus, Spells, spells}

-- ---- white space at the end

end_blank : (t : List ℕ) → every is_space t ≡ true → end_trimmed t ≡ []
unfolding end_trimmed
end_blank [] e = refl
end_blank (b ∷ t) e = rw e

module _ (b : ℕ) where
  -- along a text, from its end on
  end_space : is_space b ≡ true → (s : List ℕ) → end_trimmed (s ++ b ∷ []) ≡ end_trimmed s
  unfolding end_trimmed
  end_space e [] = rw e
  end_space e (c ∷ s) =
      let h : every is_space (s ++ b ∷ []) ≡ every is_space s = every_append is_space s (b ∷ []) ∙ rw e (and-true (every is_space s)) in
      rw (h, end_space e s)

  end_stays : is_space b ≡ false → (s : List ℕ) → end_trimmed (s ++ b ∷ []) ≡ s ++ b ∷ []
  unfolding end_trimmed
  end_stays e [] = rw e
  end_stays e (c ∷ s) =
      let h : every is_space (s ++ b ∷ []) ≡ false = every_append is_space s (b ∷ []) ∙ rw e (and-false (every is_space s)) in
      rw (h, and-false (is_space c), end_stays e s)

-- of a text from its end on: as many bytes as are white space from there on
end_reversed : (t : List ℕ) → end_trimmed (reverse t) ≡ take (length t - prefix_len is_space t) (reverse t)
unfolding end_trimmed
end_reversed [] = refl
end_reversed (b ∷ t) = go (is_space b) refl (end_reversed t)
  where
    turned : reverse (b ∷ t) ≡ reverse t ++ b ∷ []
    turned = reverse-append (b ∷ []) t

    go : (e : Bool) → is_space b ≡ e → end_trimmed (reverse t) ≡ take (length t - prefix_len is_space t) (reverse t)
        → end_trimmed (reverse (b ∷ t)) ≡ take (length (b ∷ t) - cond e (1 + prefix_len is_space t) 0) (reverse (b ∷ t))
    go true e n =
        let z : length (b ∷ t) - (1 + prefix_len is_space t) ≡ length t - prefix_len is_space t = omega arith in
        rw (turned, z)
        (end_space b e (reverse t) ∙ n
        ∙ sym (take-append-le (length t - prefix_len is_space t) (reverse t) (b ∷ []) (omega (arith, length-reverse t))))
    go false e n =
        let z : length (b ∷ t) - 0 ≡ suc (length t) = omega arith in
        rw (turned, z)
        (end_stays b e (reverse t) ∙ sym (take_all (suc (length t)) (reverse t ++ b ∷ []) (omega (arith, length-append (reverse t) (b ∷ []), length-reverse t))))

pub end_taken : (s : List ℕ) → end_trimmed s ≡ take (length s - suffix_len is_space s) s
end_taken s =
    let n : length (reverse s) - suffix_len is_space s ≡ length s - suffix_len is_space s = omega (arith, length-reverse s) in
    sym (ap end_trimmed (reverse-reverse s)) ∙ end_reversed (reverse s) ∙ ap₂ take n (reverse-reverse s)

-- what was taken off is white space
record Ended (s : List ℕ) : Type 0 where
  back : List ℕ
  whole : s ≡ end_trimmed s ++ back
  blank : every is_space back ≡ true

ended : (s : List ℕ) → Ended s
unfolding end_trimmed
ended [] = record { back = []; whole = refl; blank = refl }
ended (b ∷ s) = go (every is_space (b ∷ s)) refl (ended s)
  where
    go : (t : Bool) → every is_space (b ∷ s) ≡ t → Ended s → Ended (b ∷ s)
    go true e n = record { back = b ∷ s; whole = rw e; blank = e }
    go false e n = record { back = n.back; whole = rw e (ap (λ (r : List ℕ). b ∷ r) n.whole); blank = n.blank }

-- ---- white space in front

module _ (test : ℕ → Bool) where
  every_front : (s : List ℕ) → every test (take (front test s) s) ≡ true
  unfolding front
  every_front [] = refl
  every_front (b ∷ s) = go (test b) refl (every_front s)
    where
      go : (t : Bool) → test b ≡ t → every test (take (front test s) s) ≡ true → every test (take (cond t (suc (front test s)) 0) (b ∷ s)) ≡ true
      go true e n = and_both (test b) (every test (take (front test s) s)) e n
      go false e n = refl

  behind_joined : (s : List ℕ) → s ≡ take (front test s) s ++ behind test s
  unfolding behind
  behind_joined s = sym (take-append-drop (front test s) s)

  behind_append : (f t : List ℕ) → every test f ≡ true → behind test (f ++ t) ≡ behind test t
  unfolding behind front
  behind_append [] t e = refl
  behind_append (b ∷ f) t e = rw (and_left (test b) (every test f) e) (behind_append f t (and_right (test b) (every test f) e))

-- as many bytes as pass from the front on
pub front_taken : (test : ℕ → Bool) (s : List ℕ) → behind test s ≡ take (length s - prefix_len test s) (drop (prefix_len test s) s)
unfolding behind front
front_taken test s =
    ap (λ (k : ℕ). drop k s) (front_prefix s)
    ∙ sym (take_all (length s - prefix_len test s) (drop (prefix_len test s) s) (omega (arith, length-drop (prefix_len test s) s)))
  where
    front_prefix : (t : List ℕ) → front test t ≡ prefix_len test t
    front_prefix [] = refl
    front_prefix (b ∷ t) = rw (front_prefix t, one-add)

-- ---- a text without white space in it

abbrev no_space : ℕ → Bool
no_space b = not (is_space b)

-- none is in front, and what is behind is taken off
none_in_front : (s t : List ℕ) → every no_space s ≡ true → 0 < length s → behind is_space (s ++ t) ≡ s ++ t
unfolding behind front
none_in_front [] t e h = absurd (omega arith)
none_in_front (b ∷ s) t e h = rw (not-true (is_space b) (and_left (no_space b) (every no_space s) e))

end_behind : (s t : List ℕ) → every no_space s ≡ true → every is_space t ≡ true → end_trimmed (s ++ t) ≡ s
unfolding end_trimmed
end_behind [] t e f = end_blank t f
end_behind (b ∷ s) t e f =
    rw (not-true (is_space b) (and_left (no_space b) (every no_space s) e), end_behind s t (and_right (no_space b) (every no_space s) e) f)

trimmed_part : (f s t : List ℕ) → every is_space f ≡ true → every no_space s ≡ true → 0 < length s → every is_space t ≡ true → trimmed (f ++ (s ++ t)) ≡ s
trimmed_part f s t d e h g =
    ap end_trimmed (behind_append is_space f (s ++ t) d ∙ none_in_front s t e h)
    ∙ end_behind s t e g

-- ---- a sign and digits

-- by the first byte
pub signed_plus : (s : List ℕ) → same (take 1 s) (43 ∷ []) ≡ true → signed s ≡ run (drop 1 s)
unfolding signed
signed_plus [] e = absurd (false≢true e)
signed_plus (b ∷ s) e = grind (arith, nat_tests)

pub signed_minus : (s : List ℕ) → same (take 1 s) (45 ∷ []) ≡ true → signed s ≡ at_most 0 (run (drop 1 s))
unfolding signed
signed_minus [] e = absurd (false≢true e)
signed_minus (b ∷ s) e = grind (arith, nat_tests)

pub signed_digits : (s : List ℕ) → same (take 1 s) (43 ∷ []) ≡ false → same (take 1 s) (45 ∷ []) ≡ false → signed s ≡ run s
unfolding signed run is_run
signed_digits [] e f = refl
signed_digits (b ∷ s) e f = grind (arith, nat_tests)

-- what is behind it
abbrev rest : List ℕ → List ℕ
rest s = take (length s - 1) (drop 1 s)

-- the three together
pub first_byte : (s : List ℕ) → 0 < length s → signed s ≡ cond (eqb (get_or s 0 0) 43) (run (rest s)) (cond (eqb (get_or s 0 0) 45) (at_most 0 (run (rest s))) (run s))
first_byte [] h = absurd (omega arith)
first_byte (b ∷ s) h = rw (take_all (length (b ∷ s) - 1) s (omega arith)) (go (eqb b 43) refl (eqb b 45) refl)
  where
    go : (t : Bool) → eqb b 43 ≡ t → (u : Bool) → eqb b 45 ≡ u → signed (b ∷ s) ≡ cond t (run s) (cond u (at_most 0 (run s)) (run (b ∷ s)))
    go true e u f = signed_plus (b ∷ s) (rw e)
    go false e true f = signed_minus (b ∷ s) (rw f)
    go false e false f = signed_digits (b ∷ s) (rw e) (rw f)

-- a digit is neither white space nor a sign
digit_no_space : (b : ℕ) → is_digit b ≡ true → no_space b ≡ true
unfolding is_space
digit_no_space b e =
    let h = range 48 57 b e in
    let p : b ≡ 32 → ⊥ = λ z. omega arith in
    let q : b ≡ 9 → ⊥ = λ z. omega arith in
    let r : b ≡ 13 → ⊥ = λ z. omega arith in
    let u : b ≡ 10 → ⊥ = λ z. omega arith in
    rw (ne_eqb b 32 p, ne_eqb b 9 q, ne_eqb b 13 r, ne_eqb b 10 u)

digits_alone : (s : List ℕ) → every is_digit s ≡ true → 0 < length s → signed s ≡ run s
unfolding signed
digits_alone [] e h = absurd (omega arith)
digits_alone (b ∷ s) e h =
    let d = range 48 57 b (and_left (is_digit b) (every is_digit s) e) in
    let p : b ≡ 43 → ⊥ = λ z. omega arith in
    let q : b ≡ 45 → ⊥ = λ z. omega arith in
    rw (ne_eqb b 43 p, ne_eqb b 45 q)

module _ (n : ℕ) where
  sign_no_space : {x : List ℕ} → Sign n x → every no_space x ≡ true
  unfolding is_space
  sign_no_space unsigned = refl
  sign_no_space plus = refl
  sign_no_space (minus z) = refl

  sign_says : {x : List ℕ} → Sign n x → (d : List ℕ) → run d ≡ Some n → signed (x ++ d) ≡ Some n
  unfolding signed
  sign_says unsigned d r = let (e, h, v, l) = run_parts d n r in digits_alone d e h ∙ r
  sign_says plus d r = r
  sign_says (minus z) d r = ap (at_most 0) r ∙ rw (le-leb n 0 (omega arith))

  -- a text that says n behind its sign
  record Signed (s : List ℕ) : Type 0 where
    sign : List ℕ
    digits : List ℕ
    whole : s ≡ sign ++ digits
    signs : Sign n sign
    says : run digits ≡ Some n

  at_most_zero : (o : Option ℕ) → at_most 0 o ≡ Some n → (o ≡ Some n) × (n ≡ 0)
  at_most_zero None e = let y : ◌≡◌ {A = ℕ} 0 1 = cc in absurd (omega arith)
  at_most_zero (Some m) e = go (leb m 0) refl e
    where
      go : (t : Bool) → leb m 0 ≡ t → cond t (Some m) None ≡ Some n → (Some m ≡ Some n) × (n ≡ 0)
      go true f z = let y : m ≡ n = cc in (z, omega (arith, leb-true m 0 f))
      go false f z = let y : ◌≡◌ {A = ℕ} 0 1 = cc in absurd (omega arith)

  said_signed : (s : List ℕ) → signed s ≡ Some n → Signed s
  unfolding signed
  said_signed [] e = let y : ◌≡◌ {A = ℕ} 0 1 = cc in absurd (omega arith)
  said_signed (b ∷ s) e = go (eqb b 43) refl (eqb b 45) refl e
    where
      go : (t : Bool) → eqb b 43 ≡ t → (u : Bool) → eqb b 45 ≡ u → cond t (run s) (cond u (at_most 0 (run s)) (run (b ∷ s))) ≡ Some n → Signed (b ∷ s)
      go true f u g z = record { sign = 43 ∷ []; digits = s; whole = ap (λ (k : ℕ). k ∷ s) (eqb-true b 43 f); signs = plus; says = z }
      go false f true g z =
          let (r, o) = at_most_zero (run s) z in
          record { sign = 45 ∷ []; digits = s; whole = ap (λ (k : ℕ). k ∷ s) (eqb-true b 45 g); signs = minus o; says = r }
      go false f false g z = record { sign = []; digits = b ∷ s; whole = refl; signs = unsigned; says = z }

  -- ---- the form

  joined : (f x d b : List ℕ) → f ++ x ++ d ++ b ≡ f ++ ((x ++ d) ++ b)
  joined f x d b = ap (λ (t : List ℕ). t ++ b) (append_assoc f x d) ∙ append_assoc f (x ++ d) b

  spelled_says : {s : List ℕ} → Spells n s → number s ≡ Some n
  unfolding number
  spelled_says (spells f x d b blank sign r blank') =
      let (e, h, v, l) = run_parts d n r in
      let bare : every no_space (x ++ d) ≡ true = every_append no_space x d ∙ rw (sign_no_space sign) (every_weaker is_digit no_space digit_no_space d e) in
      ap (λ (t : List ℕ). signed (trimmed t)) (joined f x d b)
      ∙ ap signed (trimmed_part f (x ++ d) b blank bare (rw length-append (omega arith)) blank')
      ∙ sign_says sign d r

  says_spelled : (s : List ℕ) → number s ≡ Some n → Spells n s
  unfolding number
  says_spelled s e =
      let f = take (front is_space s) s in
      let w = ended (behind is_space s) in
      let g = said_signed (trimmed s) e in
      let whole : f ++ g.sign ++ g.digits ++ w.back ≡ s =
      joined f g.sign g.digits w.back
      ∙ ap (λ (t : List ℕ). f ++ t) (ap (λ (t : List ℕ). t ++ w.back) (sym g.whole) ∙ sym w.whole)
      ∙ sym (behind_joined is_space s) in
      subst (Spells n) whole (spells f g.sign g.digits w.back (every_front is_space s) g.signs g.says w.blank)

  -- a text says n exactly where it spells n: white space, a sign or none, digits, white space
  pub schema_form : (s : List ℕ) → (number s ≡ Some n → Spells n s) × (Spells n s → number s ≡ Some n)
  schema_form s = (says_spelled s, spelled_says)

  -- digits alone say what the run says
  pub number_run : (s : List ℕ) → run s ≡ Some n → number s ≡ Some n
  number_run s r = spelled_says (subst (Spells n) (append-nil s) (spells [] [] s [] refl unsigned r refl))

  -- and so do a few digits
  pub number_few : (s : List ℕ) → of_few s ≡ Some n → Some n ≡ number s
  number_few s e = sym (number_run s (run_of_few s n e))

  -- the short form of a number says it
  pub number_short : n ≤ largest → number (short n) ≡ Some n
  number_short h = number_run (short n) (run_short n h)

-- an empty text says none
pub number_empty : number [] ≡ None
unfolding number signed front behind end_trimmed
number_empty = refl
