-- `add_big_endian` meets its contract: what was put is added, and where nothing was put there was no room.
use mathlib.Core.Path.{refl}
use native.Mathlib.Omega.{arith}
use Rattle.big_endian.proofs.Left.{length_big_endian}
use Rattle.writing.proofs.Pieces.{piece, grown}
use Rattle.writing.proofs.Text.add_big_endian.Goals as goal

pub returns : goal.returns
returns c = grown refl (piece c.put.result c.unwrap_or-self.result (omega (arith, length_big_endian c.args.width c.args.n)) c.put.ensures c.unwrap_or-self.ensures)
