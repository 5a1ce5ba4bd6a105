-- `digits::read_run` meets its contract. Invariant: the digits passed say v, and what is left says the number after it.
use mathlib.Core.Path.{◌≡◌}
use Prim.Native.Nat.{◌≤◌}
use lib.ListN.{drop}
use Rattle.slices.specs.Slices.{every}
use Rattle.digits.specs.Decimal.{is_digit, decimal, largest}
use Rattle.digits.proofs.read_run.Given as goal

abbrev pub invariant-loop-b : goal.invariant-loop-b
invariant-loop-b l = (every is_digit l.s ≡ every is_digit (drop l.b-index l.s)) × (decimal 0 l.s ≡ decimal l.v (drop l.b-index l.s)) × (l.v ≤ largest)
