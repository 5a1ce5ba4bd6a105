-- `children::all_seated` meets its contract: what `all` tells of the first seats.
use Rattle.std.proofs.Common.{ℕ, not, eqb, take, ◌∙◌, rules, tests, arith}
use Rattle.std.proofs.lemmas.Iterator.{YieldsList-from_slice}
use Rattle.std.proofs.lemmas.Iterator.Search.{all_from_yields_List}
use Rattle.children.proofs.Below.{below_listed}
use Rattle.children.proofs.all_seated.Goals as goal

pub returns : goal.returns
returns c =
    let taken = λ (n : ℕ). not (eqb n 0) in
    all_from_yields_List taken c.all.new.self _ _ c.all.ensures.ran (YieldsList-from_slice (take c.args.must c.args.seats.now) c.iter.ensures.rest) (λ x b q k. search (rules, tests))
    ∙ below_listed taken c.args.seats.now c.args.must (omega arith)
