-- `first_lost` meets its contract: the first file that the tables do not have.
use Rattle.std.specs.Prelude.{None, Some}
use Rattle.std.proofs.Common.{rules, tests}
use Rattle.std.proofs.lemmas.Iterator.Search.{position_from_yields_List}
use mathlib.Core.Path.{sym, ◌∙◌}
use Rattle.slices.specs.Slices.{every}
use Rattle.elements.specs.Reading.{left_at}
use Rattle.index_files.specs.FileSteps.{files_left}
use Rattle.index_files.proofs.Walking.{yields_children}
use Rattle.volume.specs.Readers.{lies_on}
use Rattle.volume.proofs.Extents.{fails, first_lost_lem, loses}
use Rattle.volume.proofs.lost.Kept.first_lost.Goals as goal

pub returns-in_err-k : goal.returns-in_err-k
returns-in_err-k c =
    let t = c.args.text.now in
    let k = c.args.self.now in
    let place =
    position_from_yields_List (fails (every (lies_on k))) c.position.new.self _ c.position.result c.position.ensures.ran
    (yields_children t 38 c.new.result c.new.ensures) (λ x b q k. search (rules, tests)) in
    rw c.from_residual.ensures
    (loses t k.volume k.index_reach.now k.index_count k.data_reach.now k.data_count None
    (sym c.in_err-k.was ∙ first_lost_lem (every (lies_on k)) (files_left (left_at t 38)) c.position.result place))

pub returns : goal.returns
returns c =
    let t = c.args.text.now in
    let k = c.args.self.now in
    let place =
    position_from_yields_List (fails (every (lies_on k))) c.position.new.self _ c.position.result c.position.ensures.ran
    (yields_children t 38 c.new.result c.new.ensures) (λ x b q k. search (rules, tests)) in
    loses t k.volume k.index_reach.now k.index_count k.data_reach.now k.data_count (Some c.in_ok-k.k)
    (sym c.in_ok-k.was ∙ first_lost_lem (every (lies_on k)) (files_left (left_at t 38)) c.position.result place)
