-- The labels of a volume are refused 4 with the front of the text that is refused, and its side; and for nothing else (02, Item 6).
use Rattle.std.specs.Prelude.{None, Option, Some, Err, Ok, length}
use mathlib.Core.Path.{◌≡◌, refl, sym, ap, ◌∙◌, subst}
use mathlib.Core.Bool.{true, false, false≢true, ◌&&◌}
use mathlib.Core.List.{List, []}
use mathlib.Core.Logic.{◌⊎◌, inl, inr}
use Prim.Native.Nat.{ℕ}
use lib.Dec.{eqb}
use borrow.Author.Tests.{eq-eqb}
use Rattle.refusals.specs.declared.Refusal.{Refusal}
use Rattle.refusals.specs.declared.Refusal.TheVariants as refusal
use Rattle.refusals.specs.declared.Place.{Place}
use Rattle.refusals.specs.Refusals.{Answer, and_then, require, number_of, place_of, on_data_side, left_at}
use Rattle.refusals.proofs.Places.{Another, form_or_another, stays}
use Rattle.refusals.proofs.Refusing.{Refuses, refuses_answer, refuses_require, refuses_then}
use Rattle.xml.specs.CheckSteps.{in_form, front}
use Rattle.xml.proofs.Checked.{OfText}
use Rattle.tape.specs.Tape.{Tape}
use Rattle.tape.specs.ReadingSteps.{tape_of}
use Rattle.tape.specs.Answers.{tape_in, or_refused}
use Rattle.slices.specs.Slices.{same}
use Rattle.vol1.specs.Vol1.{vol1, vol1_of, identifier_in, owner_in, is_printed}
use Rattle.label.specs.Label.{Label, label_of}
use Rattle.label.specs.Agreement.{agree}
use Rattle.label.proofs.Fronts.{label_front, label_formed}
use Rattle.labels.specs.Labels.{is_laid, bytes_at, on_data, labels_from, labels_of, labels_in}
use Rattle.labels.specs.Places.{text_on}

-- the label text s of the index side, or else t of the data side, leaves the form at the place p
module _ (s t : List ℕ) where
  pub data Whose (p : Place) : Type 0 where
    index_side : in_form s ≡ false → p ≡ left_at (front s) → Whose p
    data_side : in_form s ≡ true → in_form t ≡ false → p ≡ record { front = front t; on_data = true } → Whose p

  -- a refusal that an answer about the two labels can have
  abbrev pub OfLabels : Refusal → Type 0
  OfLabels r = number_of r ≡ 4 → Whose (place_of r)

  pub another : (r : Refusal) → eqb (number_of r) 4 ≡ false → OfLabels r
  another r e h = absurd (false≢true (sym e ∙ eq-eqb (number_of r) 4 h))

  vol1_of_lem : (v : List ℕ) → Refuses OfLabels (vol1_of v)
  unfolding vol1_of
  vol1_of_lem v =
      refuses_require OfLabels (eqb (length v) 80 && same v (vol1 (identifier_in v) (owner_in v)) && is_printed (identifier_in v) && is_printed (owner_in v)) refusal.Vol1 _
      (another refusal.Vol1 refl) (refuses_answer OfLabels _)

  -- the data side's label, where the index side's is in the form
  module _ (formed : in_form s ≡ true) where
    data_refused : (r : Refusal) → OfText t r → OfLabels (on_data_side r)
    data_refused r of = go (form_or_another r)
      where
        go : ((p : Place) × (r ≡ refusal.Form p)) ⊎ Another r → OfLabels (on_data_side r)
        go (inl (p, e)) h =
            let (unformed, q) = of (ap number_of e) in
            let z : p ≡ left_at (front t) = sym (ap place_of e) ∙ q in
            Whose.data_side formed unformed (rw (e, z))
        go (inr x) h = subst OfLabels (stays r x) (another r x.0) h

    data_of : Refuses OfLabels (on_data (label_of t))
    data_of = go (label_of t) (label_front t)
      where
        go : (a : Answer Label) → Refuses (OfText t) a → Refuses OfLabels (on_data a)
        go (Err r) q = record { only = data_refused r q.only }
        go (Ok f) q = refuses_answer OfLabels f

  module _ (v w : List ℕ) where
    index_of : (a : Answer Label) → label_of s ≡ a → Refuses (OfText s) a
        → Refuses OfLabels (and_then a (λ f. and_then (on_data (label_of t)) (λ g. require (agree v f w g) refusal.Foreign (Ok f))))
    index_of (Err r) e q = record { only = λ h. Whose.index_side (q.only h).0 (q.only h).1 }
    index_of (Ok f) e q =
        refuses_then OfLabels (on_data (label_of t)) _ (data_of (label_formed s f e))
        (λ g. refuses_require OfLabels (agree v f w g) refusal.Foreign _ (another refusal.Foreign refl) (refuses_answer OfLabels f))

    sides_of : Refuses OfLabels (labels_from v s w t)
    unfolding labels_from
    sides_of = refuses_then OfLabels (vol1_of v) _ (vol1_of_lem v) (λ x. refuses_then OfLabels (vol1_of w) _ (vol1_of_lem w) (λ y. index_of (label_of s) refl (label_front s)))

-- of two tapes
pub labels_of_lem : (i d : Tape) → Refuses (OfLabels (bytes_at i 2) (bytes_at d 2)) (labels_of i d)
unfolding labels_of
labels_of_lem i d =
    let s = bytes_at i 2 in
    let t = bytes_at d 2 in
    refuses_require (OfLabels s t) (is_laid i) refusal.Layout _ (another s t refusal.Layout refl)
    (refuses_require (OfLabels s t) (is_laid d) refusal.Layout _ (another s t refusal.Layout refl) (sides_of s t (bytes_at i 0) (bytes_at d 0)))

-- from the lists and the stores, whatever is asked of the tapes
pub on_tapes : {A : Type 0} (next : Tape → Tape → Answer A) → ((i d : Tape) → Refuses (OfLabels (bytes_at i 2) (bytes_at d 2)) (next i d)) → (il is dl ds : List ℕ)
    → Refuses (OfLabels (text_on (tape_in il is)) (text_on (tape_in dl ds))) (and_then (tape_in il is) (λ i. and_then (tape_in dl ds) (λ d. next i d)))
on_tapes {A} next q il is dl ds = go (tape_of il is) (tape_of dl ds)
  where
    go : (x y : Option Tape) → Refuses (OfLabels (text_on (or_refused x)) (text_on (or_refused y))) (and_then (or_refused x) (λ i. and_then (or_refused y) (λ d. next i d)))
    go None y = record { only = another [] (text_on (or_refused y)) refusal.List refl }
    go (Some i) None = record { only = another (bytes_at i 2) [] refusal.List refl }
    go (Some i) (Some d) = q i d

pub labels_front : (il is dl ds : List ℕ) → Refuses (OfLabels (text_on (tape_in il is)) (text_on (tape_in dl ds))) (labels_in il is dl ds)
unfolding labels_in
labels_front il is dl ds = on_tapes labels_of labels_of_lem il is dl ds
