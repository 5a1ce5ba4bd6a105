-- `add_file` meets its contract: the parts of the two labels, and then the number.
use mathlib.Core.Path.{ap, ap₂, ◌∙◌}
use mathlib.Core.List.{List, ◌++◌}
use Prim.Native.Nat.{ℕ}
use native.Mathlib.Omega.{arith}
use lib.ListN.{length, drop, length-take}
use Rattle.big_endian.specs.BigEndian.{big_endian}
use Rattle.writing.proofs.Pieces.{then, within, the_same}
use Rattle.ansi.proofs.FileBytes.{file_bytes_lem}
use Rattle.ansi.proofs.rows.add_file.Goals as goal

pub returns : goal.returns
returns c = the_same (ap₂ (λ (x y : List ℕ). (x ++ y) ++ big_endian 8 c.args.first) c.part.ensures c.part-2.ensures ∙ file_bytes_lem c.args.h.now c.args.g.now c.args.first) (within (omega (arith, ap length c.part.ensures, ap length c.part-2.ensures, length-take 17 (drop 4 c.args.h.now), length-take 11 (drop 4 c.args.g.now))) (then (then c.add.ensures c.add-2.ensures) c.add_big_endian.ensures))
