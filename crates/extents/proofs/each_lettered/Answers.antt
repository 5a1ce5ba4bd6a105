-- `extents::each_lettered` meets its contract: each letter is tested.
use Rattle.std.proofs.Common.{refl, rules, tests}
use Rattle.std.proofs.lemmas.Iterator.Consumers.{YieldsList-from_first}
use Rattle.std.proofs.lemmas.Iterator.Search.{all_from_yields_List}
use Rattle.quantities.specs.Letters.{is_letter}
use Rattle.extents.specs.declared.Row.{Row}
use Rattle.extents.specs.Rows.{rows_of}
use Rattle.extents.proofs.each_lettered.Goals as goal

pub returns : goal.returns
returns c =
    all_from_yields_List (λ (r : Row). is_letter r.letter) c.all.new.self _ _ c.all.ensures.ran (YieldsList-from_first (λ x. x) (λ s. rows_of s.0.now) (rows_of c.args.rows.now) refl) (λ x b q k. search (rules, tests))
