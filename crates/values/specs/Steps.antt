-- What an answer of this crate says, and what its functions promise each other.
use Rattle.std.specs.Prelude.{Bool, true, not, ◌&&◌, List, [], ◌∷◌, ℕ, eqb, drop, get_or}
use Rattle.slices.specs.Slices.{within}

-- each byte is from the first list's to the second's
unfoldable pub between : List ℕ → List ℕ → List ℕ → Bool
between low high [] = true
between low high (b ∷ s) = within (get_or low 0 0) (get_or high 0 0) b && between (drop 1 low) (drop 1 high) s

-- an ASCII character from space on, no `&` and no `/`
unfoldable pub is_common : ℕ → Bool
is_common b = within 32 127 b && not (eqb b 38) && not (eqb b 47)
