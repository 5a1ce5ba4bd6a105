-- `values::is_time` meets its contract: the length, the pattern by its least and its greatest text, and then the ranges.
use Rattle.std.proofs.Common.{◌∙◌, sym}
use borrow.Author.Tests.{eqb-true}
use Rattle.slices.specs.Words.{bytes}
use Rattle.values.specs.Values.{is_time}
use Rattle.values.proofs.Patterns.{pattern_differs, time_between}
use Rattle.values.proofs.is_time.Goals.{then-raw-eq30, else-raw-eq30}
use Rattle.values.proofs.is_time.Goals as goal

pub returns-then-is_between : goal.returns-then-is_between
unfolding is_time bytes
returns-then-is_between c =
    elim c.if-raw-eq30.branch [
      | then-raw-eq30 w ↦ rw (sym (time_between c.args.raw.now w.if-raw-eq30.true) ∙ sym w.is_between.ensures ∙ sym w.value-is ∙ c.if-is_between.true) c.is_in_ranges.ensures
      | else-raw-eq30 w ↦ absurd (w.if-raw-eq30.false (eqb-true _ _ (sym w.value-is ∙ c.if-is_between.true)))
    ]

pub returns-else-is_between : goal.returns-else-is_between
unfolding is_time bytes
returns-else-is_between c =
    elim c.if-raw-eq30.branch [
      | then-raw-eq30 w ↦ rw (c.if-is_between.false, sym (time_between c.args.raw.now w.if-raw-eq30.true) ∙ sym w.is_between.ensures ∙ sym w.value-is ∙ c.if-is_between.false)
      | else-raw-eq30 w ↦ rw (c.if-is_between.false, pattern_differs (bytes "####-##-##T##:##:##.#########Z") c.args.raw.now (λ e. w.if-raw-eq30.false (sym e)))
    ]
