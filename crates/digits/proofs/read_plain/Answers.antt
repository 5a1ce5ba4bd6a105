-- `digits::read_plain` meets its contract: plain, and then a run.
use mathlib.Core.Path.{sym, ◌∙◌}
use Rattle.digits.proofs.Numbers.{not_plain, plain_run}
use Rattle.digits.proofs.read_plain.Goals as goal

pub returns-then-is_plain : goal.returns-then-is_plain
returns-then-is_plain c = c.read_run.ensures ∙ sym (plain_run _ (sym c.is_plain.ensures ∙ c.if-is_plain.true))

pub returns-else-is_plain : goal.returns-else-is_plain
returns-else-is_plain c = sym (not_plain _ (sym c.is_plain.ensures ∙ c.if-is_plain.false))
