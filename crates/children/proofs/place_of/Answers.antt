-- `children::place_of` meets its contract. Invariant: the rules of what is passed are not for the name.
use Rattle.std.proofs.Common.{sym, ◌+◌, ◌∙◌}
use Rattle.std.proofs.lemmas.List.{take_rest}
use Rattle.children.specs.RowSteps.{rules}
use Rattle.children.proofs.Tables.{searched_all, rules_off, rule_hit, rule_passed}
use Rattle.children.proofs.place_of.Goals as goal

pub returns-then-eq : goal.returns-then-eq
returns-then-eq c =
    let l = c.loop-end in
    rule_hit c.args.table.now c.args.name.now l.number l.rest.now l.invariant.1 c.in-Some.end c.in-Some.ensures (sym c.eq.ensures ∙ c.if-eq.true)

pub loop-end-preserved : goal.loop-end-preserved
loop-end-preserved c =
    let l = c.loop-end in
    rule_passed c.args.table.now c.args.name.now l.number l.rest.now l.invariant.1 c.in-Some.end c.in-Some.ensures _ (take_rest l.rest.now (c.in-Some.end + 1)) l.invariant.0 (sym c.eq.ensures ∙ c.if-eq.false)

pub returns : goal.returns
returns c =
    let l = c.loop-end in
    searched_all (rules c.args.table.now) c.args.name.now l.number (rules l.rest.now) l.invariant.1 (rules_off l.rest.now c.in_default.ensures)
