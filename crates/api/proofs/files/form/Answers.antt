-- `form` meets its contract: the check's answer, its error as a refusal.
use mathlib.Core.Path.{sym, ◌∙◌}
use Rattle.std.proofs.lemmas.Result.{err_from_is_err_and}
use Rattle.xml.proofs.Checked.{checked_good, checked_broken}
use Rattle.api.proofs.files.form.Goals as goal

pub returns-in_err-check : goal.returns-in_err-check
returns-in_err-check c =
    let broken = checked_broken c.args.text.now _ (sym c.in_err-check.was ∙ c.check.ensures) in
    let p = err_from_is_err_and c.from_residual.result c.from_residual.ensures.1 in
    rw (p.1, p.2, broken.0, broken.1)

pub returns : goal.returns
returns c = rw (checked_good c.args.text.now (sym c.in_ok-check.was ∙ c.check.ensures))
