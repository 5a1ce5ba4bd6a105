-- `extents::is_clear_of` meets its contract: each row is compared.
use Rattle.std.proofs.Common.{refl, rules, tests}
use Rattle.std.proofs.lemmas.Iterator.Consumers.{YieldsList-from_first}
use Rattle.std.proofs.lemmas.Iterator.Search.{all_from_yields_List}
use Rattle.extents.specs.Rows.{rows_of}
use Rattle.extents.specs.Lawful.{clear}
use Rattle.extents.proofs.is_clear_of.Goals as goal

pub returns : goal.returns
returns c =
    all_from_yields_List (clear c.args.row.now) c.all.new.self _ _ c.all.ensures.ran (YieldsList-from_first (λ x. x) (λ s. rows_of s.0.now) (rows_of c.args.rows.now) refl) (λ x b q k. search (rules, tests))
