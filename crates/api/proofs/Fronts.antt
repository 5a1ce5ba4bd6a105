-- What is told with a refusal of a text's form, and of whose label.
use Rattle.std.specs.Prelude.{Err, Ok}
use mathlib.Core.Path.{◌≡◌, refl, sym, ap, ◌∙◌}
use mathlib.Core.Bool.{Bool, true, false, false≢true}
use mathlib.Core.List.{List}
use mathlib.Core.Logic.{◌⊎◌, inl, inr}
use Prim.Native.Nat.{ℕ, suc}
use native.Mathlib.Omega.{arith}
use lib.ListN.{take, get_or}
use borrow.Author.Tests.{eq-eqb}
use Rattle.refusals.specs.declared.Refusal.{Refusal}
use Rattle.refusals.specs.declared.Refusal.TheVariants.{Form}
use Rattle.refusals.specs.declared.Place.{Place}
use Rattle.refusals.specs.Refusals.{Answer, require, shown_number, number_of, place_of, left_at}
use Rattle.refusals.proofs.Places.{Another, form_or_another}
use Rattle.refusals.proofs.Refusing.{Refuses}
use Rattle.xml.specs.CheckSteps.{in_form, front, require_form}
use Rattle.xml.proofs.Form.{same_form, in_form_lem}
use Rattle.xml.proofs.Checked.{OfText, leaves_form}
use Rattle.labels.proofs.TextFronts.{OfLabels, Whose}
use Rattle.api.specs.Outputs.{bit}
use Rattle.tape.specs.Answers.{tape_in}
use Rattle.labels.specs.Places.{text_on}
use Rattle.api.specs.Fronts.{TellsFront, WithFront, TellsSide, WithSide}

-- another number than 4, where a refusal has it
not_four : (r : Refusal) {k : ℕ} → Another r → k ≡ number_of r → k ≡ 4 → ⊥
not_four r x h z = false≢true (sym x.0 ∙ eq-eqb (number_of r) 4 (sym h ∙ z))

-- the number of a refusal of the form is the same whatever follows the check
pub form_number : (s : List ℕ) {k : ℕ} → k ≡ shown_number (require_form s (Ok (tt {0}))) → k ≡ shown_number (require_form s (Ok s))
form_number s {k} h = go (in_form s) h
  where
    go : (b : Bool) → k ≡ shown_number (require b (Form (left_at (front s))) (Ok (tt {0}))) → k ≡ shown_number (require b (Form (left_at (front s))) (Ok s))
    go true h = h
    go false h = h

module _ {s : List ℕ} where
  pub no_front : TellsFront s 0 0
  no_front = record { with4 = λ z. absurd (omega arith); else = λ z. refl }

  pub refused_front : {A : Type 0} {a : Answer A} (r : Refusal) {k f : ℕ} → Refuses (OfText s) a → Err r ≡ a → k ≡ number_of r → f ≡ (place_of r).front → TellsFront s k f
  refused_front r {k} {f} q e h p = go (form_or_another r)
    where
      of : OfText s r
      of = (rw (sym e) at q).only

      go : ((w : Place) × (r ≡ Form w)) ⊎ Another r → TellsFront s k f
      go (inl (w, g)) =
          let (unformed, at) = of (ap number_of g) in
          let z : f ≡ front s = p ∙ ap (λ (x : Place). x.front) at in
          record { with4 = λ _. rw z (leaves_form s unformed); else = λ n. absurd (n (h ∙ ap number_of g)) }
      go (inr x) = record { with4 = λ z. absurd (not_four r x h z); else = λ _. p ∙ ap (λ (y : Place). y.front) x.1 }

  module _ {n : ℕ} {shows : ℕ → List ℕ → Type 0} {k : ℕ} {out : List ℕ} where
    pub with_answer : k ≡ 0 → shows k (take n out) → get_or out n 0 ≡ 0 → WithFront n s shows k out
    with_answer h w z = record { numbers = w; front = rw (h, z) no_front }

    pub with_refusal : {A : Type 0} {a : Answer A} (r : Refusal) → Refuses (OfText s) a → Err r ≡ a → k ≡ number_of r → get_or out n 0 ≡ (place_of r).front → shows k (take n out)
        → WithFront n s shows k out
    with_refusal r q e h p w = record { numbers = w; front = refused_front r q e h p }

-- of the label texts of two sides
module _ {s t : List ℕ} where
  pub no_side : TellsSide s t 0 0 0
  no_side = record { with4 = λ z. absurd (omega arith); else = λ z. (refl, refl) }

  whose : {p : Place} {f d : ℕ} → Whose s t p → f ≡ p.front → d ≡ bit p.on_data → TellsSide s t 4 f d
  whose (Whose.index_side unformed e) h g =
      record { with4 = λ _. inl (g ∙ ap (λ (x : Place). bit x.on_data) e, rw (h ∙ ap (λ (x : Place). x.front) e) (leaves_form s unformed)); else = λ n. absurd (n refl) }
  whose (Whose.data_side formed unformed e) h g =
      record {
        with4 =
            λ _. inr
            (g ∙ ap (λ (x : Place). bit x.on_data) e, (same_form s).0 (in_form_lem s formed), rw (h ∙ ap (λ (x : Place). x.front) e) (leaves_form t unformed));
        else = λ n. absurd (n refl);
      }

  pub refused_side : {A : Type 0} {a : Answer A} (r : Refusal) {k f d : ℕ} → Refuses (OfLabels s t) a → Err r ≡ a → k ≡ number_of r → f ≡ (place_of r).front → d ≡ bit (place_of r).on_data
      → TellsSide s t k f d
  refused_side r {k} {f} {d} q e h p g = go (form_or_another r)
    where
      of : OfLabels s t r
      of = (rw (sym e) at q).only

      go : ((w : Place) × (r ≡ Form w)) ⊎ Another r → TellsSide s t k f d
      go (inl (w, z)) = let four : k ≡ 4 = h ∙ ap number_of z in rw four (whose (of (ap number_of z)) p g)
      go (inr x) =
          record {
            with4 = λ z. absurd (not_four r x h z);
            else = λ _. (p ∙ ap (λ (y : Place). y.front) x.1, g ∙ ap (λ (y : Place). bit y.on_data) x.1);
          }

module _ {n : ℕ} {il is dl ds : List ℕ} {shows : ℕ → List ℕ → Type 0} {k : ℕ} {out : List ℕ} where
  pub side_answered : k ≡ 0 → shows k (take n out) → get_or out n 0 ≡ 0 → get_or out (suc n) 0 ≡ 0 → WithSide n il is dl ds shows k out
  side_answered h w y z = record { numbers = w; side = rw (h, y, z) no_side }

  pub side_told : {A : Type 0} {a : Answer A} (r : Refusal) → Refuses (OfLabels (text_on (tape_in il is)) (text_on (tape_in dl ds))) a → Err r ≡ a → k ≡ number_of r
      → get_or out n 0 ≡ (place_of r).front → get_or out (suc n) 0 ≡ bit (place_of r).on_data → shows k (take n out) → WithSide n il is dl ds shows k out
  side_told r q e h p g w = record { numbers = w; side = refused_side r q e h p g }
