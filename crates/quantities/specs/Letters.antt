-- Partition letters (01, Values), those of a volume and the letter of a place on it.
use Rattle.std.specs.Prelude.{Bool, not, ◌&&◌, ◌||◌, ℕ, eqb}
use Rattle.slices.specs.Slices.{within}

-- from `a` to `z`
abbrev pub is_letter : ℕ → Bool
is_letter b = within 97 122 b

-- two letters are different, and a third is one of them
abbrev pub is_one_of : ℕ → ℕ → ℕ → Bool
is_one_of i d letter = not (eqb i d) && (eqb letter i || eqb letter d)

-- two different partition letters, and a letter that is one of them
abbrev pub are_letters : ℕ → ℕ → ℕ → Bool
are_letters i d letter = is_letter i && is_letter d && is_one_of i d letter
