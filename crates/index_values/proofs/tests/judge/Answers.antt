-- `judge` meets its contract: by the rows that were read.
use mathlib.Core.Path.{ap, sym, ◌∙◌}
use Rattle.index_values.specs.Entries.{number_or_zero}
use Rattle.index_values.proofs.Judging.{no_file, too_many, judged}
use Rattle.index_values.proofs.Seated.{length_placed, extents_placed}
use borrow.Author.Rules.{rules}
use Rattle.index_values.proofs.tests.judge.Goals as goal

pub returns-in_default : goal.returns-in_default
returns-in_default c f p = no_file _ f c.args.volume _ c.in_default.not-File

pub returns-then-count-gt1024 : goal.returns-then-count-gt1024
returns-then-count-gt1024 c f p =
    let s = c.args.text.now in
    let t = c.args.places.now in
    let placed = p c.in-File.is in
    too_many c.args.sort f c.args.volume _ s c.row_at.result c.in-File.is (c.row_at.ensures.0 ∙ sym (extents_placed s f t placed)) c.read_rows-count.result c.read_rows-count.ensures c.if-count-gt1024.true

pub returns : goal.returns
returns c f p =
    let s = c.args.text.now in
    let t = c.args.places.now in
    let placed = p c.in-File.is in
    judged c.args.sort f c.args.volume _ s c.row_at.result c.in-File.is (c.row_at.ensures.0 ∙ sym (extents_placed s f t placed)) c.read_rows-count.result c.read_rows-count.ensures c.if-count-gt1024.false (search rules) c.number_placed.result (c.number_placed.ensures ∙ ap number_or_zero (sym (length_placed s f t placed))) c.are_lawful-good.result c.are_lawful-good.ensures
