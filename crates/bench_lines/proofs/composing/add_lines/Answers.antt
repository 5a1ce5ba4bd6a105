-- `add_lines` meets its contract: by the verdict.
use Rattle.std.specs.Prelude.{Option, Result}
use native.Mathlib.Omega.{arith}
use mathlib.Core.Path.{sym, ap}
use Rattle.refusals.specs.declared.Refusal.{Refusal}
use Rattle.volume.specs.declared.judge.Break.{Break}
use Rattle.volume.specs.Answers.{rescued}
use Rattle.volume.specs.AnswerSteps.{judged}
use Rattle.writing.proofs.Pieces.{then, within, the_same}
use Rattle.bench_lines.specs.Lines.{lines_of}
use Rattle.bench_lines.proofs.composing.add_lines.Goals as goal

pub returns-in-Ok : goal.returns-in-Ok
returns-in-Ok c = the_same (ap (λ (x : Result (Option Break) Refusal). lines_of (judged x) (rescued c.args.rescue)) (sym c.in-Ok.is)) (within (omega arith) (then c.add_verdict.ensures c.add_rescue.ensures))

pub returns-in-Err : goal.returns-in-Err
returns-in-Err c = the_same (ap (λ (x : Result (Option Break) Refusal). lines_of (judged x) (rescued c.args.rescue)) (sym c.in-Err.is)) (within (omega arith) c.add_refusal.ensures)
