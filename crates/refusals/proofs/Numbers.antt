-- Refusals and their numbers.
use mathlib.Core.Path.{◌≡◌, refl, ap}
use mathlib.Core.Bool.{true, false}
use Prim.Native.Nat.{ℕ}
use native.Mathlib.Omega.{arith}
use lib.Dec.{eqb}
use Rattle.refusals.specs.declared.Refusal.{Refusal}
use Rattle.refusals.specs.declared.Refusal.TheVariants as refusal
use Rattle.refusals.specs.Refusals.{number_of}

tested : (r : Refusal) → eqb (number_of r) 0 ≡ false
tested refusal.List = refl
tested refusal.Missing = refl
tested refusal.Vol1 = refl
tested (refusal.Form p) = refl
tested refusal.Structure = refl
tested refusal.Value = refl
tested refusal.Version = refl
tested refusal.Foreign = refl
tested refusal.Layout = refl
tested refusal.Short = refl
tested refusal.Extents = refl
tested refusal.Location = refl
tested refusal.NoCut = refl
tested refusal.Caller = refl
tested refusal.TooMany = refl
tested refusal.Labels = refl
tested refusal.EndOfVolume = refl
tested refusal.BlockCount = refl
tested refusal.Unreadable = refl

-- no refusal has the number 0
pub not_zero : (r : Refusal) → number_of r ≡ 0 → ⊥
not_zero r h =
    let test = tested r in
    let zero : eqb (number_of r) 0 ≡ true = ap (λ (n : ℕ). eqb n 0) h in
    let z : ◌≡◌ {A = ℕ} 0 1 = cc in
    omega arith
