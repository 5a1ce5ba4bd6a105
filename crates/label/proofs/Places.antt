-- A reader's answer: where it refuses it tells no places, and where it says fields their places lie in the text.
use Rattle.std.specs.Prelude.{Err, Ok, Result}
use mathlib.Core.Path.{◌≡◌, subst, ◌∙◌}
use mathlib.Core.List.{List}
use Prim.Native.Nat.{ℕ}
use Rattle.refusals.specs.Refusals.{Answer}
use Rattle.refusals.specs.declared.Refusal.{Refusal}
use Rattle.elements.specs.declared.heads.Span.{Span}
use Rattle.label.specs.Label.{Label}
use Rattle.label.specs.TextPlaces.{TextPlaces}
use Rattle.label.specs.Steps.{LieIn, PlacesInside, places_of, Stands, ReadsLabel}
use Rattle.label.specs.declared.reader.LabelFields.{LabelFields}

module _ {s : List ℕ} {a : Answer Label} {w : TextPlaces} where
  pub refuses : {r : Refusal} → Err r ≡ a → ReadsLabel s a w (Err r)
  refuses e = record { says = e; inside = tt; stands = tt }

  pub said_inside : {r : (Result LabelFields Refusal)} {f : LabelFields} → r ≡ Ok f → ReadsLabel s a w r → LieIn s f
  said_inside e p = subst (PlacesInside s) e p.inside

  pub said_places : {r : (Result LabelFields Refusal)} {f : LabelFields} → r ≡ Ok f → ReadsLabel s a w r → places_of f ≡ w
  said_places e p = subst (Stands w) e p.stands

  pub reads_as : {b : Answer Label} {v : TextPlaces} {r : (Result LabelFields Refusal)} → a ≡ b → w ≡ v → ReadsLabel s a w r → ReadsLabel s b v r
  reads_as {r = r} e q p = record { says = p.says ∙ e; inside = p.inside; stands = subst (λ (x : TextPlaces). Stands x r) q p.stands }

pub same_places : {c c' t t' u u' : Span} → c ≡ c' → t ≡ t' → u ≡ u'
    → ◌≡◌ {A = TextPlaces} (record { creator = c; time = t; uuid = u }) (record { creator = c'; time = t'; uuid = u' })
same_places p q r = cc
