-- `decode` meets its contract. Invariant: what is still meant, written behind what was written, leaves what is to be left.
use Rattle.std.proofs.Common.{◌≡◌, ◌+◌, ◌≤◌, length}
use Rattle.slices.specs.Slices.{written}
use Rattle.texts.specs.Decoded.{decoded}
use Rattle.texts.proofs.decode.Given as goal

abbrev pub invariant-loop-b : goal.invariant-loop-b
invariant-loop-b l =
    let rest = decoded l.b-iterator.raw.now in
    (l.end + length rest ≡ l.at + length (decoded l.raw)) × (l.at + length (decoded l.raw) ≤ length l.initial.out)
    × (written l.end rest l.out ≡ written l.at (decoded l.raw) l.initial.out)
