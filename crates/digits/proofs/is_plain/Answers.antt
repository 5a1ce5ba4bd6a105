-- `digits::is_plain` meets its contract: one case of the definition at each arm.
use mathlib.Core.Path.{sym}
use native.Mathlib.Omega.{arith}
use Rattle.digits.proofs.Short.{plain_empty, plain_alone, plain_first}
use Rattle.digits.proofs.is_plain.Goals as goal

pub returns-in-empty : goal.returns-in-empty
returns-in-empty c = sym (plain_empty _ (omega arith))

pub returns-in-len1 : goal.returns-in-len1
returns-in-len1 c = sym (plain_alone _ (omega arith))

pub returns-in-len1-up : goal.returns-in-len1-up
returns-in-len1-up c = sym (plain_first _ (omega arith))
