-- `walk` meets its contract. Invariant: `Matched`, what was read so far is what a reading comes to, and the rows hold its files.
use mathlib.Core.Path.{sym, ◌∙◌, ap}
use Rattle.std.proofs.Common.{inl, inr}
use Rattle.ansi.specs.PhaseSteps.{step_of}
use Rattle.ansi.proofs.Matching.{matched_start, says_here, at_small, matched_mark, matched_block, stopped_mark, stopped_block, stopped_unreadable, small, bytes_bound, matched_end}
use borrow.Author.Rules.{rules}
use Rattle.ansi.proofs.walk.Goals as goal
use Rattle.ansi.proofs.walk.Goals.{in-Mark+in-Ok, in-Block+in-Ok-after}

pub loop-at-init : goal.loop-at-init
loop-at-init c = matched_start c.args.list.now c.args.store.now c.args.count c.args.out.now c.requires.0 c.requires.1

pub note-end-requires : goal.note-end-requires
note-end-requires c = at_small c.loop-at.invariant c.loop-at-test.true

pub loop-at-preserved : goal.loop-at-preserved
loop-at-preserved c =
    elim c.match-entry_at.branch [
      | in-Mark+in-Ok w ↦
          rw (w.out-is, w.place-is, w.off-is, w.end-is, w.phase-is)
          (matched_mark c.loop-at.invariant c.loop-at-test.true w.in-Ok.p (says_here c.loop-at.invariant c.loop-at-test.true (sym c.entry_at.ensures ∙ w.in-Mark.is)) (ap (step_of c.args.store.now) (sym w.in-Ok.is) ∙ w.after_mark.ensures) w.note-end.ensures)
      | in-Block+in-Ok-after w ↦
          rw (w.out-is, w.place-is, w.off-is, w.end-is, w.phase-is)
          (matched_block c.loop-at.invariant c.loop-at-test.true w.in-Ok-after.p (says_here c.loop-at.invariant c.loop-at-test.true (sym c.entry_at.ensures ∙ w.in-Block.is)) (ap (step_of c.args.store.now) (sym w.in-Ok-after.is) ∙ w.after.ensures))
    ]

pub returns-in-Err : goal.returns-in-Err
returns-in-Err c = stopped_mark c.loop-at.invariant c.loop-at-test.true c.in-Err.refusal (says_here c.loop-at.invariant c.loop-at-test.true (sym c.entry_at.ensures ∙ c.in-Mark.is)) (ap (step_of c.args.store.now) (sym c.in-Err.is) ∙ c.after_mark.ensures)

pub after-requires : goal.after-requires
after-requires c = small c.loop-at.invariant c.loop-at-test.true

pub overflow_add-off : goal.overflow_add-off
overflow_add-off c = let b = bytes_bound (matched_block c.loop-at.invariant c.loop-at-test.true c.in-Ok-after.p (says_here c.loop-at.invariant c.loop-at-test.true (sym c.entry_at.ensures ∙ c.in-Block.is)) (ap (step_of c.args.store.now) (sym c.in-Ok-after.is) ∙ c.after.ensures)) in search rules

pub returns-in-Err-after : goal.returns-in-Err-after
returns-in-Err-after c = stopped_block c.loop-at.invariant c.loop-at-test.true c.in-Err-after.refusal (says_here c.loop-at.invariant c.loop-at-test.true (sym c.entry_at.ensures ∙ c.in-Block.is)) (ap (step_of c.args.store.now) (sym c.in-Err-after.is) ∙ c.after.ensures)

pub returns-in-Unreadable : goal.returns-in-Unreadable
returns-in-Unreadable c = stopped_unreadable c.loop-at.invariant c.loop-at-test.true (says_here c.loop-at.invariant c.loop-at-test.true (sym c.entry_at.ensures ∙ c.in-Unreadable.is))

pub returns-in-End : goal.returns-in-End
returns-in-End c =
    elim c.in-End.is [
      | inl e ↦ absurd (says_here c.loop-at.invariant c.loop-at-test.true (sym c.entry_at.ensures ∙ e))
      | inr e ↦ absurd (says_here c.loop-at.invariant c.loop-at-test.true (sym c.entry_at.ensures ∙ e))
    ]

pub returns : goal.returns
returns c = matched_end c.at_end.result c.loop-at.invariant c.loop-at-test.false c.at_end.ensures
