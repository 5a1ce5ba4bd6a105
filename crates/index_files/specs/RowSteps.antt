-- A file's rows, read along its text (01, Extents: rows in text order).
use Rattle.std.specs.Prelude.{◌≡◌, List, [], ◌∷◌, ℕ, ◌<◌, ◌≤◌, length, None, Option, Some}
use Rattle.slices.specs.Words.{bytes}
use Rattle.elements.specs.Reading.{forest_at, children_at}
use Rattle.extents.specs.declared.Row as extents
use Rattle.index_values.specs.Elements.{children_in}
use Rattle.index_values.specs.Tests.{rows_in}
use Rattle.index_files.specs.declared.extent_rows.Row.{Row}
use Rattle.index_files.specs.declared.extent_rows.NextRow.{NextRow}

-- the five numbers of a row that is handed out
abbrev pub row_is : Row → extents.Row
row_is r =
    record {
      letter = r.letter;
      startblock = r.startblock.0;
      byteoffset = r.byteoffset.0;
      bytecount = r.bytecount.0;
      fileoffset = r.fileoffset.0;
    }

-- at j the rows of the file whose tag is at n begin
pub record RowsFrom (s : List ℕ) (n j : ℕ) : Type 0 where
  pub row : forest_at s j ≡ children_in (bytes "extentinfo") (children_at s n)

-- the first of the rows at i, and where they go on
pub record FirstRow (s : List ℕ) (i : ℕ) (r : Row) (j : ℕ) : Type 0 where
  pub rows : rows_in (forest_at s i) ≡ row_is r ∷ rows_in (forest_at s j)
  pub place : (i < j) × (j ≤ length s)

-- the next of the rows at i
abbrev pub RowAhead : List ℕ → ℕ → Option NextRow → Type 0
RowAhead s i None = rows_in (forest_at s i) ≡ []
RowAhead s i (Some r) = FirstRow s i r.row r.next
