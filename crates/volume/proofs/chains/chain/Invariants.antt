-- `chain` meets its contract: construct by construct, up to the first that breaks it.
use Rattle.volume.proofs.Chaining.{ChainsAt}
use Rattle.volume.specs.Volume.{volume_with}
use Rattle.volume.specs.Readers.{given_to}
use lib.ListN.{length}
use mathlib.Core.Path.{◌≡◌}
use Rattle.volume.proofs.chains.chain.Given as goal

abbrev pub invariant-loop-k : goal.invariant-loop-k
invariant-loop-k l =
    record {
      room : length l.generations ≡ length l.initial.generations;
      chain : ChainsAt (volume_with (given_to l.reader)) l.partition.store.now l.partition.constructs.now l.partition.count (length l.initial.generations) l.generations l.k l.last.0;
    }
