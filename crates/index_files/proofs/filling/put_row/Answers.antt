-- `put_row` meets its contract: the five numbers copied to their place.
use mathlib.Core.Path.{refl, ◌∙◌}
use native.Mathlib.Omega.{arith}
use Rattle.std.proofs.lemmas.Slice.{put_mid-paste}
use Rattle.slices.proofs.Writing.{written_paste}
use Rattle.extents.specs.Rows.{five}
use Rattle.index_files.specs.RowSteps.{row_is}
use Rattle.index_files.proofs.filling.put_row.Goals as goal

pub returns : goal.returns
returns c =
    let w = five (row_is c.args.row) in
    put_mid-paste _ _ _ _ w _ (c.copy_from_slice.ensures.after ∙ c.numbers.ensures) (omega arith) refl ∙ written_paste c.args.at w c.args.out.now
