-- `add_pair` meets its contract: the pieces one after the other.
use native.Mathlib.Omega.{arith}
use Rattle.writing.proofs.Pieces.{then, within}
use Rattle.slices.specs.Words.{bytes}
use Rattle.bench_lines.specs.Lines.{pair}
use Rattle.bench_lines.proofs.composing.add_pair.Goals as goal

pub returns : goal.returns
unfolding pair bytes
returns c = within (omega arith) (then (then (then c.add.ensures c.add_number.ensures) c.add-2.ensures) c.add_number-2.ensures)
