-- `has_file` meets its contract: each row is tested.
use Rattle.std.proofs.Common.{rules, tests}
use Rattle.std.proofs.lemmas.Iterator.Consumers.{YieldsList-from_first}
use Rattle.std.proofs.lemmas.Iterator.Search.{all_from_yields_List}
use Rattle.index_files.specs.RowSteps.{row_is}
use Rattle.index_files.specs.EachRow.{rows_left}
use Rattle.index_values.specs.Tests.{extent_rows}
use Rattle.elements.specs.Reading.{children_at}
use Rattle.volume.specs.Readers.{lies_on}
use Rattle.volume.proofs.lost.Kept.has_file.Goals as goal

pub returns : goal.returns
returns c =
    let a = c.args in
    all_from_yields_List (lies_on a.self.now) c.all.new.self _ _ c.all.ensures.ran
    (YieldsList-from_first row_is rows_left (extent_rows (children_at a.text.now a.n)) c.new.ensures) (λ x b q k. search (rules, tests))
