-- `digits::write` meets its contract. Invariant: with the digits that are left written too, the buffer is as promised.
use mathlib.Core.Path.{◌≡◌}
use mathlib.Core.List.{map}
use Prim.Native.Nat.{◌-◌, ◌≤◌}
use Rattle.slices.specs.Slices.{written}
use Rattle.digits.specs.Runs as run
use Rattle.digits.specs.Decimal.{byte_of, short}
use Rattle.digits.proofs.write.Given as goal

abbrev pub invariant-loop-i : goal.invariant-loop-i
invariant-loop-i l = (l.at ≤ l.i) × (written l.at (map byte_of (run.digits 10 (l.i - l.at) l.v)) l.out ≡ written l.at (short l.n) l.initial.out)
