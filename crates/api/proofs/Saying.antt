-- A label in numbers says what was read.
use mathlib.Core.Path.{◌≡◌, refl, subst, sym}
use mathlib.Core.List.{List, [], ◌∷◌, ◌++◌}
use Prim.Native.Nat.{ℕ}
use lib.ListN.{take}
use Rattle.label.specs.TextPlaces.{TextPlaces}
use Rattle.label.specs.Steps.{fields_in, LieIn, places_of}
use Rattle.label.specs.declared.reader.LabelFields.{LabelFields}
use Rattle.api.specs.Labels.{SaysLabel}
use Rattle.api.specs.Steps.{label_numbers}

pub says_label : (s : List ℕ) (f : LabelFields) {w : TextPlaces} {out : List ℕ} → LieIn s f → places_of f ≡ w → out ≡ label_numbers f → SaysLabel s w (fields_in s f) (take 12 out)
says_label s f {w} i p e =
    subst (λ (out : List ℕ). SaysLabel s w (fields_in s f) (take 12 out)) (sym e)
    record {
      release = refl;
      places = p;
      creator = refl;
      creator_inside = i.creator;
      time = record { part = refl; inside = i.time };
      uuid = record { part = refl; inside = i.uuid };
      location = refl;
      index_letter = refl;
      data_letter = refl;
      block_size = refl;
      compression = refl;
    }

-- the same with a place more
pub says_on_volume : (s : List ℕ) (f : LabelFields) {w : TextPlaces} {out : List ℕ} → LieIn s f → places_of f ≡ w → out ≡ label_numbers f ++ 0 ∷ []
    → SaysLabel s w (fields_in s f) (take 12 out)
says_on_volume s f {w} i p e =
    subst (λ (out : List ℕ). SaysLabel s w (fields_in s f) (take 12 out)) (sym e) (says_label s f {out = label_numbers f} i p refl)
