-- `count` meets its contract.
use native.Mathlib.Omega.{arith}
use Rattle.ansi_labels.proofs.Sums.{count_sum}
use Rattle.ansi_labels.proofs.count.Goals as goal

pub returns : goal.returns
returns c = omega (arith, count_sum c.args.x.now c.requires)
