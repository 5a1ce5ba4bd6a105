-- The rows that an iterator over a file's rows has left.
use Rattle.std.specs.Prelude.{List}
use Rattle.elements.specs.Reading.{forest_at}
use Rattle.extents.specs.declared.Row.{Row}
use Rattle.index_values.specs.Tests.{rows_in}
use Rattle.index_files.specs.declared.extent_rows.EachRow.{EachRow}

abbrev pub rows_left : EachRow → List Row
rows_left s = rows_in (forest_at s.text.now s.at)
