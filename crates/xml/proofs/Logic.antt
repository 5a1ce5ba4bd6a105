-- Small laws of lists and Booleans.
use mathlib.Core.Path.{◌≡◌, refl}
use mathlib.Core.Bool.{Bool, true, false, ◌||◌, ◌&&◌, false≢true}
use mathlib.Core.List.{List, ◌∷◌}
use mathlib.Core.Logic.{◌⊎◌, inl, inr}
use Prim.Native.Nat.{ℕ}

pub cons_head : {b c : ℕ} {s t : List ℕ} → ◌≡◌ {A = List ℕ} (b ∷ s) (c ∷ t) → b ≡ c
cons_head e = cc

pub cons_tail : {b c : ℕ} {s t : List ℕ} → ◌≡◌ {A = List ℕ} (b ∷ s) (c ∷ t) → s ≡ t
cons_tail e = cc

pub or_cases : (a b : Bool) → (a || b) ≡ true → (a ≡ true) ⊎ (b ≡ true)
or_cases true b e = inl refl
or_cases false b e = inr e

pub and_both : (a b : Bool) → (a && b) ≡ true → (a ≡ true) × (b ≡ true)
and_both true b e = (refl, e)
and_both false b e = absurd (false≢true e)

pub not_so : (t : Bool) → (t ≡ true → ⊥) → t ≡ false
not_so true h = absurd (h refl)
not_so false h = refl
