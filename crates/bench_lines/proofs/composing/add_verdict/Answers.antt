-- `add_verdict` meets its contract: the break, or that there is none.
use Rattle.std.specs.Prelude.{Option}
use native.Mathlib.Omega.{arith}
use mathlib.Core.Path.{sym, ap}
use Rattle.volume.specs.declared.judge.Break.{Break}
use Rattle.volume.specs.Steps.{break_of}
use Rattle.writing.proofs.Pieces.{within, the_same}
use Rattle.slices.specs.Words.{bytes}
use Rattle.bench_lines.specs.Lines.{consistent_line, verdict_line}
use Rattle.bench_lines.proofs.composing.add_verdict.Goals as goal

pub returns-in-Some : goal.returns-in-Some
returns-in-Some c = the_same (ap (λ (x : Option Break). verdict_line (break_of x)) (sym c.in-Some.is)) c.add_break.ensures

pub returns-in-None : goal.returns-in-None
unfolding consistent_line bytes
returns-in-None c = the_same (ap (λ (x : Option Break). verdict_line (break_of x)) (sym c.in-None.is)) (within (omega arith) c.add.ensures)
