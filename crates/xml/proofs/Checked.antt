-- What `check` answers of a text; and the refusals that an answer about a text can have, of which 4 has its longest front.
use mathlib.Core.Path.{◌≡◌, refl, sym, ap, ◌∙◌}
use mathlib.Core.Bool.{Bool, true, false, false≢true}
use mathlib.Core.List.{List}
use Prim.Native.Nat.{ℕ, ◌-◌, ◌≤◌}
use native.Mathlib.Omega.{arith}
use lib.Dec.{eqb}
use lib.ListN.{length}
use borrow.Author.Tests.{eq-eqb}
use Rattle.refusals.specs.declared.Refusal.{Refusal}
use Rattle.refusals.specs.declared.Refusal.TheVariants.{Form}
use Rattle.refusals.specs.Refusals.{Answer, number_of, place_of, left_at}
use Rattle.refusals.proofs.Refusing.{Refuses, refuses_require}
use Rattle.std.specs.Prelude.{Result, Ok, Err}
use Rattle.xml.specs.declared.FormError.{FormError}
use Rattle.xml.specs.Form.{LeavesForm}
use Rattle.xml.specs.CheckSteps.{Outcome, good, broken, form, is_good, in_form, read_of, front, require_form, form_checked}
use Rattle.xml.specs.ScanSteps.{outcome_of, FrontIn}
use Rattle.xml.proofs.Form.{same_form, longest_front}

module _ (s : List ℕ) where
  pub good_checked : form s ≡ good → Ok tt ≡ form_checked s
  unfolding in_form front
  good_checked e = rw e

  pub broken_checked : (u : ℕ) → form s ≡ broken u → Err (record { front = length s - u }) ≡ form_checked s
  unfolding in_form front
  broken_checked u e = rw e

  abbrev left_at_place : ℕ → Result (Unit {0}) FormError
  left_at_place k = Err (record { front = k })

  -- what an end of s shows
  pub ends_checked : (r : Result (Unit {0}) FormError) → form s ≡ outcome_of s r → FrontIn (length s) r → r ≡ form_checked s
  ends_checked (Ok u) e h = good_checked e
  ends_checked (Err r) e h =
      let g : r.front ≤ length s = h in
      let n : r.front ≡ length s - (length s - r.front) = omega (arith, g) in
      ap left_at_place n ∙ broken_checked (length s - r.front) e

  pub checked_good : Ok tt ≡ form_checked s → in_form s ≡ true
  checked_good e = go (in_form s) refl
    where
      go : (b : Bool) → in_form s ≡ b → in_form s ≡ true
      go true h = h
      go false h = let z : ◌≡◌ {A = Result (Unit {0}) FormError} (Ok tt) (Err (record { front = front s })) = e ∙ rw h in cc

  pub checked_broken : (r : FormError) → Err r ≡ form_checked s → (in_form s ≡ false) × (r.front ≡ front s)
  checked_broken r e = go (in_form s) refl
    where
      go : (b : Bool) → in_form s ≡ b → (in_form s ≡ false) × (r.front ≡ front s)
      go true h = let z : Err r ≡ Ok tt = e ∙ rw h in cc
      go false h =
          let z : Err r ≡ Err (record { front = front s }) = e ∙ rw h in
          let w : r ≡ record { front = front s } = cc in
          (h, ap (λ (x : FormError). x.front) w)

  -- a text outside the form, with its longest front
  pub leaves_form : in_form s ≡ false → LeavesForm s (front s)
  unfolding in_form front
  leaves_form e = go (form s) refl
    where
      go : (o : Outcome) → form s ≡ o → LeavesForm s (read_of (length s) (form s))
      go good h = absurd (false≢true (sym e ∙ ap is_good h))
      go (broken u) h =
          record {
            outside = λ f d. false≢true (sym e ∙ ap is_good ((same_form s).1 (f, d)));
            longest = rw h (longest_front s u h);
          }

  -- a refusal that an answer about s can have: 4 with its front, and where it is not in the form; or another
  abbrev pub OfText : Refusal → Type 0
  OfText r = number_of r ≡ 4 → (in_form s ≡ false) × (place_of r ≡ left_at (front s))

  pub another : (r : Refusal) → eqb (number_of r) 4 ≡ false → OfText r
  another r e h = absurd (false≢true (sym e ∙ eq-eqb (number_of r) 4 h))

  pub of_form : {A : Type 0} (next : Answer A) → Refuses OfText next → Refuses OfText (require_form s next)
  of_form next q = go (in_form s) refl
    where
      go : (b : Bool) → in_form s ≡ b → Refuses OfText (require_form s next)
      go true e = rw e q
      go false e = refuses_require OfText (in_form s) (Form (left_at (front s))) next (λ h. (e, refl)) q
