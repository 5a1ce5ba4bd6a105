-- `row_from` meets its contract: number by number, each by the place of its element.
use mathlib.Core.Path.{ap, sym, ◌∙◌}
use Rattle.elements.specs.Reading.{forest_at}
use Rattle.index_values.specs.Entries.{number_or_zero}
use Rattle.index_values.specs.Tests.{row_of, letter_or_zero}
use Rattle.index_values.proofs.Seated.{fileoffset_placed, partition_placed, startblock_placed, byteoffset_placed, bytecount_placed}
use Rattle.index_files.proofs.extent_rows.row_from.Goals as goal

pub returns : goal.returns
unfolding row_of
returns c =
    let s = c.args.text.now in
    let f = forest_at s c.args.at in
    let t = c.read_row.result.places in
    let placed = c.read_row.ensures.0 in
    rw (
      c.from.ensures ∙ c.letter_said.ensures ∙ ap letter_or_zero (c.text_at.ensures ∙ sym (partition_placed s f t placed)),
      c.number_placed.ensures ∙ ap number_or_zero (sym (startblock_placed s f t placed)),
      c.number_placed-2.ensures ∙ ap number_or_zero (sym (byteoffset_placed s f t placed)),
      c.number_placed-3.ensures ∙ ap number_or_zero (sym (bytecount_placed s f t placed)),
      c.number_placed-4.ensures ∙ ap number_or_zero (sym (fileoffset_placed s f t placed)),
    )
