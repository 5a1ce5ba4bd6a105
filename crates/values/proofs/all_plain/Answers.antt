-- `all_plain` meets its contract: each byte is tested as it comes.
use Rattle.std.proofs.Common.{rules, tests}
use Rattle.std.proofs.lemmas.Iterator.Search.{all_from_yields_List}
use Rattle.texts.proofs.Meanings.{yields_decoded}
use Rattle.values.specs.Values.{is_plain}
use Rattle.values.proofs.all_plain.Goals as goal

pub returns : goal.returns
returns c = all_from_yields_List (is_plain c.args.slash) c.all.new.self _ _ c.all.ensures.ran (yields_decoded c.args.raw.now c.decoded.ensures) (λ x b q k. search (rules, tests))
