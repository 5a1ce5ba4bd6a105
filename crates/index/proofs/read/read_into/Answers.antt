-- `read_into` meets its contract: what the caller gives, the length, the form, then the root.
use mathlib.Core.Path.{sym, ◌∙◌}
use Rattle.std.proofs.lemmas.Result.{err_from_is_err_and}
use borrow.Author.Tests.{le-leb, lt-leb}
use Rattle.xml.proofs.Form.{in_form_lem}
use Rattle.xml.proofs.Checked.{checked_good, checked_broken}
use Rattle.index_values.specs.Steps.{given}
use Rattle.index.proofs.Answers.{into_refused, same_into, index_14, index_15, index_4, index_read}
use Rattle.index.proofs.read.read_into.Goals as goal

pub returns-then-not-is_caller_right : goal.returns-then-not-is_caller_right
returns-then-not-is_caller_right c = into_refused (index_14 (given c.args.uuid.now c.args.volume) c.args.letter c.args.block.0 c.args.text.now (sym c.is_caller_right.ensures ∙ c.if-not-is_caller_right.true))

pub returns-then-text-gt1048576 : goal.returns-then-text-gt1048576
returns-then-text-gt1048576 c = into_refused (index_15 (given c.args.uuid.now c.args.volume) c.args.letter c.args.block.0 c.args.text.now (sym c.is_caller_right.ensures ∙ c.if-not-is_caller_right.false) (lt-leb _ _ c.if-text-gt1048576.true))

pub read_root-requires : goal.read_root-requires
read_root-requires c = in_form_lem c.args.text.now (checked_good c.args.text.now (sym c.in_ok-check.was ∙ c.check.ensures))

pub returns-in_err-check : goal.returns-in_err-check
returns-in_err-check c =
    let broken = checked_broken c.args.text.now _ (sym c.in_err-check.was ∙ c.check.ensures) in
    let p = err_from_is_err_and c.from_residual.result c.from_residual.ensures.1 in
    rw (p.1, p.2) (into_refused (index_4 (given c.args.uuid.now c.args.volume) c.args.letter c.args.block.0 c.args.text.now (sym c.is_caller_right.ensures ∙ c.if-not-is_caller_right.false) (le-leb _ _ c.if-text-gt1048576.false) _ broken.0 broken.1))

pub returns : goal.returns
returns c = same_into c.read_root.ensures (index_read (given c.args.uuid.now c.args.volume) c.args.letter c.args.block.0 c.args.text.now (sym c.is_caller_right.ensures ∙ c.if-not-is_caller_right.false) (le-leb _ _ c.if-text-gt1048576.false) (checked_good c.args.text.now (sym c.in_ok-check.was ∙ c.check.ensures)))
