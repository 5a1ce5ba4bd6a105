-- `add_escaped` meets its contract. Invariant: the bytes passed are added.
use Rattle.std.proofs.Common.{take}
use Rattle.writing.specs.Steps.{GrowsBy}
use Rattle.label_writer.specs.Text.{escaped}
use Rattle.label_writer.proofs.add_escaped.Given as goal

abbrev pub invariant-loop-b : goal.invariant-loop-b
invariant-loop-b l = GrowsBy l.initial.text (escaped (take l.b-index l.s)) l.text
