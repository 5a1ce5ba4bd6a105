-- `put_path` meets its contract. Invariant: the path of the entry reached, written in front of what was written, is the whole path written.
use Prim.Native.Nat.{ℕ}
use mathlib.Core.Path.{refl, sym, ◌∙◌, ap, subst}
use native.Mathlib.Omega.{arith}
use lib.ListN.{length}
use Rattle.slices.specs.Slices.{written}
use Rattle.paths.specs.Paths.{path_down}
use Rattle.paths.specs.Steps.{is_answer, path_bytes}
use Rattle.paths.specs.EachUp.{GoesFrom}
use Rattle.paths.proofs.Walks.{up}
use Rattle.paths.proofs.Names.{parts_fit, root_written}
use Rattle.paths.proofs.Climbing.{at_first, at_next, given_inside, to_parent}
use Rattle.paths.proofs.Table.put_path.Goals as goal

pub loop-n-init : goal.loop-n-init
loop-n-init c =
    let a = c.args in
    let t = a.self.now in
    let from = subst (GoesFrom t a.entry) (sym c.into_iter-n-iterator.ensures.into_iter_gives) c.up-n-items.ensures in (
      at_first from c.requires.path.in_table,
      ap (λ (n : ℕ). is_answer (path_down t.text.now t.entries.now n)) from.1 ∙ c.requires.path.answered,
      c.requires.ends ∙ ap (λ (n : ℕ). length (path_bytes t.text.now t.entries.now n)) (sym from.1),
      c.requires.room,
      refl,
      ap (λ (n : ℕ). written 0 (path_bytes t.text.now t.entries.now n) a.out.now) from.1,
    )

pub put_last-end-requires : goal.put_last-end-requires
put_last-end-requires c =
    let t = c.args.self.now in
    let l = c.loop-n in
    let step = c.in-Some.ensures.steps in
    let answered = ap (λ (n : ℕ). is_answer (path_down t.text.now t.entries.now n)) (sym step.0) ∙ l.invariant.1 in
    let ends = l.invariant.2 ∙ ap (λ (n : ℕ). length (path_bytes t.text.now t.entries.now n)) step.0 in
    (step.1, record { path = record { in_table = given_inside l.invariant.0 step; answered = answered }; ends = ends; room = l.invariant.3 })

pub loop-n-preserved : goal.loop-n-preserved
loop-n-preserved c =
    let t = c.args.self.now in
    let l = c.loop-n in
    let n = c.in-Some.n in
    let step = c.in-Some.ensures.steps in
    let answered = ap (λ (n : ℕ). is_answer (path_down t.text.now t.entries.now n)) (sym step.0) ∙ l.invariant.1 in
    let ends = l.invariant.2 ∙ ap (λ (n : ℕ). length (path_bytes t.text.now t.entries.now n)) step.0 in
    let left = ap (λ (n : ℕ). written 0 (path_bytes t.text.now t.entries.now n) l.out) (sym step.0) ∙ l.invariant.5 in
    let u = up t.text.now t.entries.now n step.1 answered in
    let on = to_parent l.invariant.0 step u.before in
    let fit = parts_fit t.text.now t.entries.now n u in
    let w = c.put_last-end.ensures in (
      at_next l.invariant.0 step,
      ap (λ (n : ℕ). is_answer (path_down t.text.now t.entries.now n)) on ∙ u.answered,
      w.ends ∙ ap (λ (n : ℕ). length (path_bytes t.text.now t.entries.now n)) (sym on),
      omega (arith, w.ends, w.long, ends, l.invariant.3),
      w.long ∙ l.invariant.4,
      rw on (w.left ∙ left),
    )

pub shape_of-out : goal.shape_of-out
shape_of-out c = c.loop-n.invariant.4

pub returns : goal.returns
returns c =
    let t = c.args.self.now in
    let l = c.loop-n in
    sym (root_written t.text.now t.entries.now l.n-iterator.n c.in-None.ensures.steps.0 l.out) ∙ l.invariant.5
