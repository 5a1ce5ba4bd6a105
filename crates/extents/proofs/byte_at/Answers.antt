-- `extents::byte_at` meets its contract: what `find` requires are two of the tests.
use Rattle.std.proofs.Common.{sym, ◌∙◌}
use Rattle.extents.specs.Rows.{rows_of}
use Rattle.extents.proofs.Sharing.{lawful_each}
use Rattle.extents.proofs.byte_at.Goals as goal

pub find-requires : goal.find-requires
find-requires c =
    let a = c.args in
    (sym c.each_lettered.ensures ∙ c.if-not-each_lettered.false, lawful_each a.file_length.0 a.block_size (rows_of a.rows.now) (sym c.lawful.ensures ∙ c.if-not-lawful.false))
