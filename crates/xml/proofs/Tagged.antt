-- Start tags put together: the name, and then what the rest of the tag leads to.
use Rattle.std.specs.Prelude.{Some, None, Result, Ok, Err}
use Rattle.std.specs.Borrow.{Bor}
use mathlib.Core.Path.{◌≡◌, refl, ap, ◌∙◌, sym, subst}
use mathlib.Core.Bool.{Bool, true, false, cond}
use mathlib.Core.List.{List, [], ◌∷◌, ◌++◌, append_assoc, append-nil}
use Prim.Native.Nat.{ℕ, suc, ◌+◌, ◌-◌, ◌<◌, ◌≤◌}
use native.Mathlib.Omega.{arith}
use native.Mathlib.Numerals.{add-one}
use lib.ListN.{length, take, drop, get_or}
use lib.Seq.{drop-cons, drop-drop}
use Rattle.xml.specs.Bytes.{is_ascii_letter, is_name_byte}
use Rattle.xml.specs.Tree.{front}
use Rattle.xml.specs.CheckSteps.{Mode, name, tag, content, blank, State, stop, at, leave, form_step, ended, form_run}
use Rattle.xml.specs.ScanSteps.{Past, Scans, ScansTag, ToldFrom, Starts, part, told, tag_state}
use Rattle.xml.specs.declared.FormError.{FormError}
use Rattle.xml.specs.declared.tags.TagEnd.{TagEnd}
use Rattle.xml.specs.declared.tags.TagEnd.TheVariants.{Open, Empty}
use Rattle.xml.proofs.Classes.{letter_name}
use Rattle.xml.proofs.Past.{front_more, past_stop}
use Rattle.xml.proofs.Scanning.{run_on, run_as}
use Rattle.xml.proofs.Runs.{run_to}

-- what a scan told, by a name for it
pub tells : {A : Type 0} {r : Result (A × ℕ) FormError} (p : A × ℕ) (a : A) → r ≡ Ok p → p.0 ≡ a → r ≡ Ok (a, p.1)
tells {A} p a e f = e ∙ ap (λ (w : A). Ok (w, p.1)) f

later : (i j n : ℕ) → i ≤ j → (r : Result (TagEnd × ℕ) FormError) → ToldFrom j n r → ToldFrom i n r
later i j n h (Ok p) b = (omega arith, b.1)
later i j n h (Err u) b = b

module _ {t : List ℕ} {i : ℕ} where
  -- a scan, and then the rest of the tag
  pub tags_after : {a b : List (List ℕ) → State} {r : Result (TagEnd × ℕ) FormError} (j : ℕ) → Scans t i a b (Ok j) → ScansTag t j b r → ScansTag t i a r
  tags_after {r = r} j x y = record { runs = λ ns. x.runs ns ∙ y.runs ns; ends = later i j (length t) x.ends.0 r y.ends }

  pub tags_broken : {a b : List (List ℕ) → State} {u : FormError} → Scans t i a b (Err u) → ScansTag t i a (Err u)
  tags_broken x = record { runs = x.runs; ends = x.ends }

  pub tags_open : (j : ℕ) {a : List (List ℕ) → State} → Scans t i a (at (content blank)) (Ok j) → ScansTag t i a (Ok (Open, j))
  tags_open j x = record { runs = x.runs; ends = x.ends }

  pub tags_empty : (j : ℕ) {a : List (List ℕ) → State} → Scans t i a leave (Ok j) → ScansTag t i a (Ok (Empty, j))
  tags_empty j x = record { runs = x.runs; ends = x.ends }

-- the rest of a name
name_front : (w : List ℕ) (ns : List (List ℕ)) (s : List ℕ)
    → form_run (at (name w) ns) s ≡ form_run (at (name (w ++ take (front is_name_byte s) s)) ns) (drop (front is_name_byte s) s)
unfolding front form_step
name_front w ns [] = ap (λ (v : List ℕ). form_run (at (name v) ns) []) (sym (append-nil w))
name_front w ns (b ∷ s) = go (is_name_byte b) refl (name_front (w ++ b ∷ []) ns s)
  where
    go : (v : Bool) → is_name_byte b ≡ v
        → form_run (at (name (w ++ b ∷ [])) ns) s ≡ form_run (at (name ((w ++ b ∷ []) ++ take (front is_name_byte s) s)) ns) (drop (front is_name_byte s) s)
        → form_run (at (name w) ns) (b ∷ s) ≡ form_run (at (name (w ++ take (front is_name_byte (b ∷ s)) (b ∷ s))) ns) (drop (front is_name_byte (b ∷ s)) (b ∷ s))
    go true e r = run_to (name w) ns b s (at (name (w ++ b ∷ [])) ns) (simp e) ∙ simp e (r ∙ simp append_assoc)
    go false e r = simp (e, append-nil)

letter_not : (b : ℕ) → is_name_byte b ≡ false → is_ascii_letter b ≡ false
letter_not b z = go (is_ascii_letter b) refl
  where
    go : (v : Bool) → is_ascii_letter b ≡ v → v ≡ false
    go true y = sym (letter_name b y) ∙ z
    go false y = refl

-- a byte that no name has is taken by `name` as by `tag`
name_tag : (w : List ℕ) (ns : List (List ℕ)) (b : ℕ) → is_name_byte b ≡ false → form_step (name w) ns b ≡ form_step tag (w ∷ ns) b
unfolding form_step
name_tag w ns b z = simp (z, letter_not b z)

module _ (t : List ℕ) (i e : ℕ) (l : i < length t) (h : is_ascii_letter (get_or t i 0) ≡ true) (past : Past is_name_byte t i e) where
  front_rest : e ≡ (i + 1) + front is_name_byte (drop (i + 1) t)
  front_rest = past.found ∙ front_more is_name_byte t i l (letter_name (get_or t i 0) h)

  name_part : part t i e ≡ get_or t i 0 ∷ take (front is_name_byte (drop (i + 1) t)) (drop (i + 1) t)
  name_part =
      let n : e - i ≡ suc (front is_name_byte (drop (i + 1) t)) = omega (arith, front_rest) in
      rw (n, drop-cons t i 0, add-one)

  -- a name that begins at i and ends at e
  pub run_name : (p : Mode) (ns : List (List ℕ)) → form_step p ns (get_or t i 0) ≡ at (name (get_or t i 0 ∷ [])) ns
      → form_run (at p ns) (drop i t) ≡ form_run (at (name (part t i e)) ns) (drop e t)
  run_name p ns f =
      run_on t i p ns l f ∙ name_front (get_or t i 0 ∷ []) ns (drop (i + 1) t)
      ∙ ap (λ (w : List ℕ). form_run (at (name w) ns) (drop (front is_name_byte (drop (i + 1) t)) (drop (i + 1) t))) (sym name_part)
      ∙ ap (form_run (at (name (part t i e)) ns)) (drop-drop (front is_name_byte (drop (i + 1) t)) (i + 1) t)
      ∙ ap (λ (k : ℕ). form_run (at (name (part t i e)) ns) (drop k t)) (sym front_rest)

  -- behind a name the machine is in its tag
  pub run_named : (p : Mode) (ns : List (List ℕ)) → form_step p ns (get_or t i 0) ≡ at (name (get_or t i 0 ∷ [])) ns
      → form_run (at p ns) (drop i t) ≡ form_run (at tag (part t i e ∷ ns)) (drop e t)
  unfolding ended
  run_named p ns f = run_name p ns f ∙ run_as t e (name (part t i e)) ns tag (part t i e ∷ ns) refl (λ g. name_tag (part t i e) ns (get_or t e 0) (past_stop past g))

  starts : (p : Mode) (ns : List (List ℕ)) → form_step p ns (get_or t i 0) ≡ cond (is_ascii_letter (get_or t i 0)) (at (name (get_or t i 0 ∷ [])) ns) stop
      → form_step p ns (get_or t i 0) ≡ at (name (get_or t i 0 ∷ [])) ns
  starts p ns f = f ∙ simp h

  -- the start tag, by how its rest ended
  pub starts_open : {r : Result (TagEnd × ℕ) FormError} (n : Bor (List ℕ)) (j : ℕ) → n.now ≡ part t i e → ScansTag t e (at tag) r → r ≡ Ok (Open, j)
      → Starts t i (Ok (Some n, j))
  starts_open n j m x g =
      let b : (e ≤ j) × (j ≤ length t) = subst (ToldFrom e (length t)) g x.ends in
      record {
        runs = λ p ns o f. run_named p ns (starts p ns f) ∙ x.runs (part t i e ∷ ns) ∙ ap (told t (tag_state (part t i e ∷ ns))) g
            ∙ ap (λ (w : List ℕ). form_run (at (content blank) (w ∷ ns)) (drop j t)) (sym m);
        ends = (omega (arith, front_rest), b.1);
      }

  pub starts_empty : {r : Result (TagEnd × ℕ) FormError} (j : ℕ) → ScansTag t e (at tag) r → r ≡ Ok (Empty, j) → Starts t i (Ok (None, j))
  unfolding leave
  starts_empty j x g =
      let b : (e ≤ j) × (j ≤ length t) = subst (ToldFrom e (length t)) g x.ends in
      record {
        runs = λ p ns n f. run_named p ns (starts p ns f) ∙ x.runs (part t i e ∷ ns) ∙ ap (told t (tag_state (part t i e ∷ ns))) g;
        ends = (omega (arith, front_rest), b.1);
      }

  pub starts_broken : {r : Result (TagEnd × ℕ) FormError} (u : FormError) → ScansTag t e (at tag) r → r ≡ Err u → Starts t i (Err u)
  starts_broken u x g =
      record { runs = λ p ns n f. run_named p ns (starts p ns f) ∙ x.runs (part t i e ∷ ns) ∙ ap (told t (tag_state (part t i e ∷ ns))) g; ends = subst (ToldFrom e (length t)) g x.ends }
