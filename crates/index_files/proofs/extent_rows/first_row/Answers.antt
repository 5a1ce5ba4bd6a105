-- `first_row` meets its contract: the row in the file's extentinfo.
use mathlib.Core.Path.{ap, ◌∙◌}
use Rattle.slices.specs.Words.{bytes}
use Rattle.index_values.specs.Elements.{children_in}
use Rattle.index_files.proofs.extent_rows.first_row.Goals as goal

pub returns : goal.returns
unfolding bytes
returns c = record { row = c.row_in.ensures ∙ ap (children_in (bytes "extentinfo")) c.first_child.ensures.row }
