-- `add_cut` meets its contract: the pieces one after the other.
use native.Mathlib.Omega.{arith}
use Rattle.writing.proofs.Pieces.{then, within}
use Rattle.slices.specs.Words.{bytes}
use Rattle.bench_lines.specs.Lines.{cut_line}
use Rattle.bench_lines.proofs.composing.add_cut.Goals as goal

pub returns : goal.returns
unfolding cut_line bytes
returns c = within (omega arith) (then (then (then (then c.add_pair.ensures c.add_pair-2.ensures) c.add.ensures) c.add_number.ensures) c.add-2.ensures)
