-- A refusal is 4, with its place, or another one, without.
use mathlib.Core.Path.{◌≡◌, refl}
use mathlib.Core.Bool.{false}
use mathlib.Core.Logic.{◌⊎◌, inl, inr}
use lib.Dec.{eqb}
use Rattle.refusals.specs.declared.Refusal.{Refusal}
use Rattle.refusals.specs.declared.Refusal.TheVariants as refusal
use Rattle.refusals.specs.declared.Place.{Place}
use Rattle.refusals.specs.Refusals.{number_of, place_of, nowhere, on_data_side}

-- another refusal than 4
abbrev pub Another : Refusal → Type 0
Another r = (eqb (number_of r) 4 ≡ false) × (place_of r ≡ nowhere)

pub form_or_another : (r : Refusal) → ((p : Place) × (r ≡ refusal.Form p)) ⊎ Another r
form_or_another refusal.List = inr (refl, refl)
form_or_another refusal.Missing = inr (refl, refl)
form_or_another refusal.Vol1 = inr (refl, refl)
form_or_another (refusal.Form p) = inl (p, refl)
form_or_another refusal.Structure = inr (refl, refl)
form_or_another refusal.Value = inr (refl, refl)
form_or_another refusal.Version = inr (refl, refl)
form_or_another refusal.Foreign = inr (refl, refl)
form_or_another refusal.Layout = inr (refl, refl)
form_or_another refusal.Short = inr (refl, refl)
form_or_another refusal.Extents = inr (refl, refl)
form_or_another refusal.Location = inr (refl, refl)
form_or_another refusal.NoCut = inr (refl, refl)
form_or_another refusal.Caller = inr (refl, refl)
form_or_another refusal.TooMany = inr (refl, refl)
form_or_another refusal.Labels = inr (refl, refl)
form_or_another refusal.EndOfVolume = inr (refl, refl)
form_or_another refusal.BlockCount = inr (refl, refl)
form_or_another refusal.Unreadable = inr (refl, refl)

-- a refusal that is not 4
pub tagged : (r : Refusal) → ((p : Place) → r ≡ refusal.Form p → ⊥) → Another r
tagged r o = go (form_or_another r)
  where
    go : ((p : Place) × (r ≡ refusal.Form p)) ⊎ Another r → Another r
    go (inl (p, e)) = absurd (o p e)
    go (inr x) = x

pub stays : (r : Refusal) → Another r → r ≡ on_data_side r
stays r x = rw x.0
