-- `add_number` meets its contract: what was written is added, and where nothing was written there was no room.
use mathlib.Core.Path.{refl}
use native.Mathlib.Omega.{arith}
use Rattle.digits.proofs.Short.{length_short}
use Rattle.writing.proofs.Pieces.{piece, grown}
use Rattle.writing.proofs.Text.add_number.Goals as goal

pub returns : goal.returns
returns c = grown refl (piece c.write.result c.unwrap_or-self.result (length_short 20 c.args.n (omega arith) (omega arith)) c.write.ensures c.unwrap_or-self.ensures)
