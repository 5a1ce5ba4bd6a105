-- `values::is_between` meets its contract: each byte by those of both at its place.
use Rattle.std.proofs.Common.{◌∙◌, true, rules, tests}
use Rattle.std.proofs.lemmas.Iterator.{YieldsList-from_slice, YieldsList-from_zip}
use Rattle.std.proofs.lemmas.Iterator.Consumers.{fold_from_yields_List}
use Rattle.values.proofs.Patterns.{lies, fold_between}
use Rattle.values.proofs.is_between.Goals as goal

pub returns : goal.returns
returns c =
    let l = c.args.low.now in
    let h = c.args.high.now in
    let s = c.args.raw.now in
    fold_from_yields_List _ lies true _ c.fold.ensures.ran
    (YieldsList-from_zip (YieldsList-from_zip (YieldsList-from_slice l cc) (YieldsList-from_slice h cc)) (YieldsList-from_slice s cc))
    (λ a x b q k. search (rules, tests))
    ∙ fold_between true l h s c.requires.low c.requires.high
