-- `add_rescue` meets its contract: the cut, or that there is none.
use Rattle.refusals.specs.declared.Refusal.{Refusal}
use Rattle.std.specs.Prelude.{Result}
use Rattle.volume.specs.declared.search.FoundCut.{FoundCut}
use native.Mathlib.Omega.{arith}
use mathlib.Core.Path.{sym, ap}
use Rattle.volume.specs.Answers.{rescued}
use Rattle.writing.proofs.Pieces.{within, the_same}
use Rattle.slices.specs.Words.{bytes}
use Rattle.bench_lines.specs.Lines.{none_line, rescue_line}
use Rattle.bench_lines.proofs.composing.add_rescue.Goals as goal

pub returns-in-Ok : goal.returns-in-Ok
returns-in-Ok c = the_same (ap (λ (x : Result FoundCut Refusal). rescue_line (rescued x)) (sym c.in-Ok.is)) c.add_cut.ensures

pub returns-in-Err : goal.returns-in-Err
unfolding none_line bytes
returns-in-Err c = the_same (ap (λ (x : Result FoundCut Refusal). rescue_line (rescued x)) (sym c.in-Err.is)) (within (omega arith) c.add.ensures)
