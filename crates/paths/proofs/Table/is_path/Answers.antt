-- `is_path` meets its contract. Invariant: the entry has a path exactly where the one that was reached has.
use Prim.Native.Nat.{ℕ}
use mathlib.Core.Path.{sym, ◌∙◌, ap, subst}
use Rattle.paths.specs.Paths.{path_down}
use Rattle.paths.specs.Steps.{is_answer}
use Rattle.paths.specs.EachUp.{GoesFrom}
use Rattle.paths.proofs.Walks.{placed_before, answered_on, answered_off, root_answered}
use Rattle.paths.proofs.Climbing.{at_first, at_next, given_inside, to_parent}
use Rattle.paths.proofs.Table.is_path.Goals as goal

pub loop-n-init : goal.loop-n-init
loop-n-init c =
    let t = c.args.self.now in
    let from = subst (GoesFrom t c.args.entry) (sym c.into_iter-n-iterator.ensures.into_iter_gives) c.up-n-items.ensures in
    (at_first from c.requires, ap (λ (n : ℕ). is_answer (path_down t.text.now t.entries.now n)) (sym from.1))

pub is_placed-requires : goal.is_placed-requires
is_placed-requires c = given_inside c.loop-n.invariant.0 c.in-Some.ensures.steps

pub returns-then-not-is_placed : goal.returns-then-not-is_placed
returns-then-not-is_placed c =
    let t = c.args.self.now in
    let l = c.loop-n in
    let step = c.in-Some.ensures.steps in
    let here = l.invariant.1 ∙ ap (λ (n : ℕ). is_answer (path_down t.text.now t.entries.now n)) step.0 in
    sym (here ∙ answered_off t.text.now t.entries.now c.in-Some.n step.1 (sym c.is_placed.ensures ∙ c.if-not-is_placed.true))

pub loop-n-preserved : goal.loop-n-preserved
loop-n-preserved c =
    let t = c.args.self.now in
    let l = c.loop-n in
    let n = c.in-Some.n in
    let step = c.in-Some.ensures.steps in
    let here = l.invariant.1 ∙ ap (λ (n : ℕ). is_answer (path_down t.text.now t.entries.now n)) step.0 in
    let e = sym c.is_placed.ensures ∙ c.if-not-is_placed.false in
    let on = to_parent l.invariant.0 step (placed_before t.text.now t.entries.now n e) in
    (at_next l.invariant.0 step, here ∙ answered_on t.text.now t.entries.now n step.1 e ∙ ap (λ (n : ℕ). is_answer (path_down t.text.now t.entries.now n)) (sym on))

pub returns : goal.returns
returns c =
    let t = c.args.self.now in
    let l = c.loop-n in
    sym (l.invariant.1 ∙ root_answered t.text.now t.entries.now l.n-iterator.n c.in-None.ensures.steps.0)
