-- `add_escaped` meets its contract. Invariant: the bytes passed are added.
use Rattle.std.proofs.Common.{sym, rules}
use Rattle.label_writer.specs.Text.{escaped}
use Rattle.writing.proofs.Pieces.{grows_as, grows_none, grows_then}
use Rattle.label_writer.proofs.Escaping.{escaped_on, escaped_all}
use Rattle.label_writer.proofs.add_escaped.Goals as goal

pub loop-b-init : goal.loop-b-init
unfolding escaped
loop-b-init c = grows_none

pub loop-b-preserved : goal.loop-b-preserved
loop-b-preserved c = grows_as (sym (escaped_on c.args.s.now c.loop-b.b-index (search rules))) (grows_then c.loop-b.invariant c.add_escape.ensures)

pub returns : goal.returns
returns c = grows_as (escaped_all c.args.s.now c.loop-b.b-index (search rules)) c.loop-b.invariant
