-- Bytes in a row: a range of byte values, a test of each, equal runs, and what a buffer holds once a run is written into it.
use Rattle.std.specs.List.{list_all}
use Rattle.std.specs.Str.{bytes_eq}
use Rattle.std.specs.Prelude.{Bool, ◌&&◌, List, ◌++◌, ℕ, ◌+◌, leb, length, take, drop}

-- from lo to hi
abbrev pub within : ℕ → ℕ → ℕ → Bool
within lo hi b = leb lo b && leb b hi

-- each passes the test
abbrev pub every : {A : Type 0} → (A → Bool) → List A → Bool
every = list_all

-- the same numbers in the same order
abbrev pub same : List ℕ → List ℕ → Bool
same = bytes_eq

-- the buffer with w written at its place at, and all else as it was
unfoldable pub written : ℕ → List ℕ → List ℕ → List ℕ
written at w buffer = take at buffer ++ w ++ drop (at + length w) buffer
