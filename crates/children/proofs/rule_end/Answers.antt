-- `children::rule_end` meets its contract: the place of the first mark is told by `position`.
use Rattle.std.proofs.Common.{rules, tests}
use Rattle.std.proofs.lemmas.Iterator.{YieldsList-from_slice}
use Rattle.std.proofs.lemmas.Iterator.Search.{position_from_yields_List}
use Rattle.children.specs.RowSteps.{is_rule_mark}
use Rattle.children.proofs.Tables.{mark_position}
use Rattle.children.proofs.rule_end.Goals as goal

pub returns : goal.returns
returns c =
    mark_position c.args.table.now c.position.result
    (position_from_yields_List is_rule_mark c.position.new.self _ _ c.position.ensures.ran (YieldsList-from_slice c.args.table.now c.iter.ensures.rest) (λ x b q k. search (rules, tests)))
