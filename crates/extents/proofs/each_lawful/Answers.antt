-- `extents::each_lawful` meets its contract: each row is tested.
use Rattle.std.proofs.Common.{refl, rules, tests}
use Rattle.std.proofs.lemmas.Iterator.Consumers.{YieldsList-from_first}
use Rattle.std.proofs.lemmas.Iterator.Search.{all_from_yields_List}
use Rattle.extents.specs.Rows.{rows_of}
use Rattle.extents.specs.Lawful.{row_lawful}
use Rattle.extents.proofs.each_lawful.Goals as goal

pub returns : goal.returns
returns c =
    all_from_yields_List (row_lawful c.args.file_length.0 c.args.block_size) c.all.new.self _ _ c.all.ensures.ran (YieldsList-from_first (λ x. x) (λ s. rows_of s.0.now) (rows_of c.args.rows.now) refl) (λ x b q k. search (rules, tests))
