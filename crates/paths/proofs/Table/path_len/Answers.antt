-- `path_len` meets its contract. Invariant: the path of the entry reached and the room that was taken are the whole path.
use Prim.Native.Nat.{ℕ, ◌+◌, ◌-◌}
use mathlib.Core.Path.{sym, ◌∙◌, ap, subst}
use native.Mathlib.Omega.{arith}
use lib.ListN.{length}
use Rattle.paths.specs.Paths.{path_down}
use Rattle.paths.specs.Steps.{is_answer, path_bytes}
use Rattle.paths.specs.EachUp.{GoesFrom}
use Rattle.paths.proofs.Walks.{up}
use Rattle.paths.proofs.Names.{root_length, fits}
use Rattle.paths.proofs.Climbing.{at_first, at_next, given_inside, to_parent}
use Rattle.paths.proofs.Table.path_len.Goals as goal

pub loop-n-init : goal.loop-n-init
loop-n-init c =
    let a = c.args in
    let t = a.self.now in
    let from = subst (GoesFrom t a.entry) (sym c.into_iter-n-iterator.ensures.into_iter_gives) c.up-n-items.ensures in (
      at_first from c.requires.in_table,
      ap (λ (n : ℕ). is_answer (path_down t.text.now t.entries.now n)) from.1 ∙ c.requires.answered,
      omega arith,
      ap (λ (n : ℕ). length (path_bytes t.text.now t.entries.now n) + a.room) (sym from.1),
    )

pub added_len-requires : goal.added_len-requires
added_len-requires c =
    let t = c.args.self.now in
    let l = c.loop-n in
    let step = c.in-Some.ensures.steps in
    let answered = ap (λ (n : ℕ). is_answer (path_down t.text.now t.entries.now n)) (sym step.0) ∙ l.invariant.1 in
    (step.1, record { in_table = given_inside l.invariant.0 step; answered = answered })

pub loop-n-preserved : goal.loop-n-preserved
loop-n-preserved c =
    let t = c.args.self.now in
    let l = c.loop-n in
    let n = c.in-Some.n in
    let step = c.in-Some.ensures.steps in
    let answered = ap (λ (n : ℕ). is_answer (path_down t.text.now t.entries.now n)) (sym step.0) ∙ l.invariant.1 in
    let here = ap (λ (n : ℕ). length (path_bytes t.text.now t.entries.now n)) step.0 in
    let u = up t.text.now t.entries.now n step.1 answered in
    let on = to_parent l.invariant.0 step u.before in
    let next = ap (λ (n : ℕ). length (path_bytes t.text.now t.entries.now n)) on in
    (at_next l.invariant.0 step, ap (λ (n : ℕ). is_answer (path_down t.text.now t.entries.now n)) on ∙ u.answered, omega arith, omega arith)

pub returns : goal.returns
returns c =
    let a = c.args in
    let t = a.self.now in
    let l = c.loop-n in
    let z = root_length t.text.now t.entries.now l.n-iterator.n c.in-None.ensures.steps.0 in
    fits a.room (path_bytes t.text.now t.entries.now a.entry) (a.room - l.left) (omega arith) (omega arith)
