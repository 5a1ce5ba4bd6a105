-- `EachRow::new` meets its contract: the rows in the file's extentinfo.
use mathlib.Core.Path.{ap}
use Rattle.index_values.specs.Tests.{rows_in}
use Rattle.index_files.proofs.extent_rows.EachRow.new.Goals as goal

pub returns : goal.returns
returns c = ap rows_in c.first_row.ensures.row
