-- `find_one` meets its contract: the place of the first b is told by `position`.
use Rattle.std.proofs.Common.{eqb, refl, rules, tests}
use Rattle.std.proofs.lemmas.List.{take_rest}
use Rattle.std.proofs.lemmas.Iterator.{YieldsList-from_slice}
use Rattle.std.proofs.lemmas.Iterator.Search.{position_from_yields_List}
use Rattle.xml.specs.Tree.{is_not}
use Rattle.elements.proofs.Finding.{rest_at, past_position}
use Rattle.elements.proofs.scan.find_one.Goals as goal

pub returns : goal.returns
unfolding is_not
returns c =
    let a = c.args in
    past_position (is_not a.b) (λ x. eqb x a.b) a.text.now a.at c.requires (rest_at a.text.now a.at) (take_rest a.text.now a.at) c.position.result c.unwrap_or.result
    (position_from_yields_List (λ x. eqb x a.b) c.position.new.self _ _ c.position.ensures.ran (YieldsList-from_slice (rest_at a.text.now a.at) c.iter.ensures.rest) (λ x b q k. search (rules, tests)))
    c.unwrap_or.ensures (λ b. refl)
