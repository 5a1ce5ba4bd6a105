-- The next byte that a text means, as a reader finds it.
use Rattle.std.specs.Prelude.{Option, None, Some, ◌≡◌, List, [], ◌∷◌, ℕ, ◌<◌, ◌≤◌, length, drop}
use Rattle.texts.specs.Decoded.{decoded}

-- the byte b is meant at i, and what is meant goes on at j
pub record Means (s : List ℕ) (i b j : ℕ) : Type 0 where
  pub bytes : decoded (drop i s) ≡ b ∷ decoded (drop j s)
  pub place : (i < j) × (j ≤ length s)

-- the next byte that is meant from i on, and the place behind what spells it
abbrev pub NextByte : List ℕ → ℕ → Option (ℕ × ℕ) → Type 0
NextByte s i None = decoded (drop i s) ≡ []
NextByte s i (Some p) = Means s i p.0 p.1
