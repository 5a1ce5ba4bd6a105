-- `values::numbers::end_trimmed` meets its contract: as many bytes are left out as white space is at the end.
use Rattle.std.proofs.Common.{◌∙◌, sym, reverse, rules, tests}
use Rattle.std.proofs.lemmas.Iterator.Adapters.{YieldsList-from_rev_slice}
use Rattle.std.proofs.lemmas.Iterator.Consumers.{count_from_yields_List}
use Rattle.std.proofs.lemmas.Iterator.Search.{YieldsList-from_take_while}
use Rattle.std.proofs.lemmas.List.Folds.{length-prefix_len}
use Rattle.xml.specs.Bytes.{is_space}
use Rattle.values.proofs.SchemaForm.{end_taken}
use Rattle.values.proofs.numbers.end_trimmed.Goals as goal

pub returns : goal.returns
returns c =
    let s = c.args.raw.now in
    let n =
    count_from_yields_List c.take_while.result _ c.count-blank.ensures.ran
    (YieldsList-from_take_while _ is_space (YieldsList-from_rev_slice s cc) c.take_while.ensures.closure c.take_while.ensures.done (λ x b q k. search (rules, tests)))
    ∙ length-prefix_len is_space (reverse s) in
    rw n (sym (end_taken s))
