-- `add_refusal` meets its contract: the pieces one after the other.
use native.Mathlib.Omega.{arith}
use Rattle.writing.proofs.Pieces.{then, within, the_same}
use Rattle.slices.specs.Words.{bytes}
use Rattle.bench_lines.specs.Lines.{refused_line}
use mathlib.Core.Path.{ap}
use Rattle.digits.specs.Decimal.{short}
use Rattle.bench_lines.proofs.composing.add_refusal.Goals as goal

pub returns : goal.returns
unfolding refused_line bytes
returns c = within (omega arith) (then (then c.add.ensures (the_same (ap short c.from.ensures) c.add_number.ensures)) c.add-2.ensures)
