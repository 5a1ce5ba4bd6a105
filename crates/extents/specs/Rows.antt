-- Rows of extents (01, Extents): five numbers each, in a list of numbers one after the other.
use Rattle.std.specs.Prelude.{List, [], ◌∷◌, ◌++◌, ℕ}
use Rattle.extents.specs.declared.Row.{Row}

-- the rows of numbers in fives; fewer than five are no row
unfoldable pub rows_of : List ℕ → List Row
rows_of [] = []
rows_of (a ∷ []) = []
rows_of (a ∷ b ∷ []) = []
rows_of (a ∷ b ∷ c ∷ []) = []
rows_of (a ∷ b ∷ c ∷ d ∷ []) = []
rows_of (a ∷ b ∷ c ∷ d ∷ e ∷ rest) = record { letter = a; startblock = b; byteoffset = c; bytecount = d; fileoffset = e } ∷ rows_of rest

-- the numbers of a row
abbrev pub five : Row → List ℕ
five r = r.letter ∷ r.startblock ∷ r.byteoffset ∷ r.bytecount ∷ r.fileoffset ∷ []

-- the numbers of rows, one row after the other
unfoldable pub numbers_of : List Row → List ℕ
numbers_of [] = []
numbers_of (r ∷ rows) = five r ++ numbers_of rows
