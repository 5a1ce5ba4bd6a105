-- `find` meets its contract: the first element whose name is the one asked for.
use Rattle.std.proofs.Common.{rules, tests, refl}
use Rattle.index_values.proofs.Found.{same_rest, found_first}
use Rattle.index_values.proofs.rows.find.Goals as goal

pub returns : goal.returns
returns c =
    let a = c.args in
    let (xs, last, y, p, t) = c.find.ensures.ran in
    found_first _ _ a.name.now a.text.now a.at (λ x b q k. search (rules, tests)) xs _ _ _ last refl (same_rest a.name.now a.text.now a.at) y p t
