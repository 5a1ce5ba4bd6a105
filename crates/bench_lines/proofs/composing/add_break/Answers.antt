-- `add_break` meets its contract: the pair, and the line's end.
use native.Mathlib.Omega.{arith}
use mathlib.Core.Path.{ap₂}
use Rattle.writing.proofs.Pieces.{then, within, the_same}
use Rattle.slices.specs.Words.{bytes}
use Rattle.bench_lines.specs.Lines.{break_line}
use Rattle.bench_lines.proofs.composing.add_break.Goals as goal

pub returns : goal.returns
unfolding break_line bytes
returns c = the_same (ap₂ break_line c.which.ensures c.number.ensures) (within (omega arith) (then c.add_pair.ensures c.add.ensures))
