-- `add` meets its contract: what was put is added, and where nothing was put there was no room.
use native.Mathlib.Omega.{arith}
use Rattle.writing.proofs.Pieces.{piece}
use Rattle.writing.proofs.add.Goals as goal

pub returns : goal.returns
returns c = piece c.put.result c.unwrap_or.result (omega arith) c.put.ensures c.unwrap_or.ensures
