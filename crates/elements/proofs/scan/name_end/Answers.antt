-- `name_end` meets its contract: past small letters, the place of the first other byte is told by `position`.
use Rattle.std.proofs.Common.{not, rules, tests}
use Rattle.std.proofs.lemmas.List.{take_rest}
use Rattle.std.proofs.lemmas.Iterator.{YieldsList-from_slice}
use Rattle.std.proofs.lemmas.Iterator.Search.{position_from_yields_List}
use Rattle.xml.specs.Bytes.{is_name_byte}
use Rattle.elements.proofs.Finding.{rest_at, past_position, not_not, onward_end}
use Rattle.elements.proofs.scan.name_end.Goals as goal

pub returns : goal.returns
returns c =
    let t = c.args.text.now in
    let from = c.letters_end-from in
    onward_end from.ensures
    (past_position is_name_byte (λ x. not (is_name_byte x)) t from.result from.ensures.inside (rest_at t from.result) (take_rest t from.result) c.position.result c.unwrap_or.result
    (position_from_yields_List (λ x. not (is_name_byte x)) c.position.new.self _ _ c.position.ensures.ran (YieldsList-from_slice (rest_at t from.result) c.iter.ensures.rest) (λ x b q k. search (rules, tests)))
    c.unwrap_or.ensures (λ b. not_not (is_name_byte b)))
