-- A letter by its one byte.
use Rattle.std.specs.Prelude.{None, Some}
use mathlib.Core.Path.{◌≡◌, refl}
use mathlib.Core.Bool.{cond}
use mathlib.Core.List.{List, [], ◌∷◌}
use Prim.Native.Nat.{ℕ}
use native.Mathlib.Omega.{arith}
use lib.ListN.{length, get_or}
use Rattle.quantities.specs.Letters.{is_letter}
use Rattle.values.specs.Values.{letter}

pub letter_one : (s : List ℕ) → length s ≡ 1 → letter s ≡ cond (is_letter (get_or s 0 0)) (Some (get_or s 0 0)) None
unfolding letter
letter_one [] h = absurd (omega arith)
letter_one (b ∷ []) h = refl
letter_one (b ∷ c ∷ s) h = absurd (omega arith)

pub letter_none : (s : List ℕ) → (length s ≡ 1 → ⊥) → letter s ≡ None
unfolding letter
letter_none [] h = refl
letter_none (b ∷ []) h = absurd (h refl)
letter_none (b ∷ c ∷ s) h = refl
