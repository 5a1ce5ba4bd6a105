-- `close_empty` meets its contract: no element has a place in an empty row.
use mathlib.Core.Path.{refl, ap, ◌∙◌}
use Rattle.xml.specs.Tree.{none}
use Rattle.elements.specs.Tags.{told}
use Rattle.index_rows.proofs.Placing.{placed_none, tags_none}
use Rattle.index.specs.Steps.{asked}
use Rattle.index.specs.SweepSteps.{gathered, after_row, after_element}
use Rattle.index.specs.declared.walk.Sums.{Sums}
use Rattle.index.proofs.walk.Walk.close_empty.Goals as goal

pub returns : goal.returns
unfolding after_row told
returns c =
    let a = c.args in
    let w = a.self.now in
    let s = a.source.text.now in
    let closes = c.close.ensures in
    record {
      same = record { entry_table = closes.same.entry_table; row_table = closes.same.row_table; entry_room = closes.same.entry_room; row_room = closes.same.row_room };
      gathers =
          closes.gathers none (λ q. placed_none s a.sort none _ refl refl) (λ q. tags_none s a.sort none _ refl refl)
          ∙ ap (λ (x : Sums). after_element s (asked a.source) a.sort none a.parent a.prior (gathered x w.uids.now w.entry_table.now w.row_table.now)) c.finish-self.ensures;
    }
