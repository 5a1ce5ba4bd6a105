-- `big_endian::put` meets its contract. Invariant: with the bytes that are left written too, the buffer is as promised.
use mathlib.Core.Path.{◌≡◌}
use Prim.Native.Nat.{◌-◌, ◌≤◌}
use Rattle.slices.specs.Slices.{written}
use Rattle.big_endian.specs.BigEndian.{big_endian}
use Rattle.big_endian.proofs.put.Given as goal

abbrev pub invariant-loop-i : goal.invariant-loop-i
invariant-loop-i l = (l.at ≤ l.i) × (written l.at (big_endian (l.i - l.at) l.rest) l.out ≡ written l.at (big_endian l.width l.n) l.initial.out)
