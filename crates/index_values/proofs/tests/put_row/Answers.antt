-- `put_row` meets its contract: the five numbers one after the other, each by the place of its element.
use mathlib.Core.Path.{ap, sym, ◌∙◌}
use Prim.Native.Nat.{ℕ, ◌+◌}
use lib.ListN.{set}
use Rattle.elements.specs.Reading.{forest_at}
use Rattle.index_values.specs.Entries.{number_or_zero}
use Rattle.index_values.specs.Tests.{row_of, letter_or_zero}
use Rattle.index_values.proofs.RowTable.{put_five}
use Rattle.index_values.proofs.Seated.{fileoffset_placed, partition_placed, startblock_placed, byteoffset_placed, bytecount_placed}
use Rattle.index_values.proofs.tests.put_row.Goals as goal

pub returns : goal.returns
unfolding row_of
returns c =
    let at = c.args.at in
    let s = c.args.text.now in
    let f = forest_at s c.args.from in
    let t = c.read_row-row.result.places in
    let placed = c.read_row-row.ensures.0 in (
      put_five at (row_of f) c.args.out.now c.put.new.table c.put-2.new.table c.put-3.new.table c.put-4.new.table c.put-5.new.table
          (c.put.ensures ∙ ap (λ (v : ℕ). set c.args.out.now at v) (c.from.ensures ∙ c.letter_said-letter.ensures ∙ ap letter_or_zero (c.text_at.ensures ∙ sym (partition_placed s f t placed))))
          (c.put-2.ensures ∙ ap (λ (v : ℕ). set c.put.new.table (at + 1) v) (c.number_placed.ensures ∙ ap number_or_zero (sym (startblock_placed s f t placed))))
          (c.put-3.ensures ∙ ap (λ (v : ℕ). set c.put-2.new.table (at + 2) v) (c.number_placed-2.ensures ∙ ap number_or_zero (sym (byteoffset_placed s f t placed))))
          (c.put-4.ensures ∙ ap (λ (v : ℕ). set c.put-3.new.table (at + 3) v) (c.number_placed-3.ensures ∙ ap number_or_zero (sym (bytecount_placed s f t placed))))
          (c.put-5.ensures ∙ ap (λ (v : ℕ). set c.put-4.new.table (at + 4) v) (c.number_placed-4.ensures ∙ ap number_or_zero (sym (fileoffset_placed s f t placed)))),
      c.read_row-row.ensures.1,
    )
