-- The row whose numbers begin at a place.
use Rattle.std.specs.Prelude.{List, ℕ, ◌+◌, get_or}
use Rattle.extents.specs.declared.Row.{Row}

-- the row whose numbers begin at a place
abbrev pub row_from : List ℕ → ℕ → Row
row_from numbers at =
    record {
      letter = get_or numbers at 0;
      startblock = get_or numbers (at + 1) 0;
      byteoffset = get_or numbers (at + 2) 0;
      bytecount = get_or numbers (at + 3) 0;
      fileoffset = get_or numbers (at + 4) 0;
    }
