-- Lawful extents for a file of length L and blocks of size B (01, Extents), in exact numbers.
use Rattle.std.specs.Prelude.{◌≡◌, Bool, true, cond, ◌&&◌, ◌||◌, List, [], ◌∷◌, ℕ, ◌+◌, ◌-◌, ◌/◌, ◌≤◌, leb, ltb}
use Rattle.slices.specs.Slices.{every}
use Rattle.extents.specs.declared.Row.{Row}

-- the file position after a row's last
abbrev pub row_end : Row → ℕ
row_end r = r.fileoffset + r.bytecount

-- whether a file position is in a row
abbrev pub in_row : ℕ → Row → Bool
in_row p r = leb r.fileoffset p && ltb p (row_end r)

-- the number of a row's last block
abbrev pub last_block : ℕ → Row → ℕ
last_block B r = r.startblock + (r.byteoffset + r.bytecount - 1) / B

-- bytecount at least 1; byteoffset below B; fileoffset + bytecount at most L; the last block number fits 64 bits
unfoldable pub row_lawful : ℕ → ℕ → Row → Bool
row_lawful L B r = leb 1 r.bytecount && ltb r.byteoffset B && leb (row_end r) L && leb (last_block B r) 18446744073709551615

-- such is each row
abbrev pub each_lawful : ℕ → ℕ → List Row → Bool
each_lawful L B rows = every (row_lawful L B) rows

-- one of two rows ends before the other begins
abbrev pub clear : Row → Row → Bool
clear r q = leb (row_end r) q.fileoffset || leb (row_end q) r.fileoffset

-- so it is for every two rows
unfoldable pub apart : List Row → Bool
apart [] = true
apart (r ∷ rows) = every (clear r) rows && apart rows

-- the test that is computed: it says what the sentences below say (proofs/Sharing)
unfoldable pub lawful : ℕ → ℕ → List Row → Bool
lawful L B rows = each_lawful L B rows && apart rows

-- in how many rows a file position is
unfoldable pub holders : ℕ → List Row → ℕ
holders p [] = 0
holders p (r ∷ rows) = cond (in_row p r) 1 0 + holders p rows

-- lawful: each row is, and no two rows share a file position
pub record Lawful (L B : ℕ) (rows : List Row) : Type 0 where
  pub each : each_lawful L B rows ≡ true
  pub unshared : (p : ℕ) → holders p rows ≤ 1
