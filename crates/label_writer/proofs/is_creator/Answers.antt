-- `is_creator` meets its contract: the count, then each byte.
use Rattle.std.proofs.Common.{◌≡◌, true, arith, rules, tests}
use Rattle.std.proofs.lemmas.Bool.Decides.{nat_tests}
use Rattle.std.proofs.lemmas.Iterator.{YieldsList-from_slice}
use Rattle.std.proofs.lemmas.Iterator.Search.{all_from_yields_List}
use Rattle.slices.specs.Slices.{every}
use Rattle.values.specs.Values.{is_creator, is_plain}
use Rattle.label_writer.proofs.is_creator.Goals as goal

pub returns-then-contains : goal.returns-then-contains
unfolding is_creator
returns-then-contains c =
    let s = c.args.s.now in
    let e : c.all.result ≡ every (is_plain true) s
    = all_from_yields_List (is_plain true) _ _ _ c.all.ensures.ran (YieldsList-from_slice s cc) (λ x b q k. search (rules, tests)) in
    grind (arith, nat_tests)
