-- `tape::walk` meets its contract. Invariant: the walk over what is left, from here, reaches as far as the whole walk.
use Rattle.std.proofs.Common.{◌≡◌, ◌≤◌, ◌*◌, ◌-◌}
use Rattle.tape.specs.Tape.{max_block}
use Rattle.tape.specs.WalkSteps.{reach}
use Rattle.tape.proofs.walk.Given as goal

abbrev pub invariant-loop : goal.invariant-loop
invariant-loop l =
    (l.store ≤ l.counter * max_block) × (reach l.n l.list 0 0 ≡ reach (l.n - l.counter) l.list l.at l.store)
