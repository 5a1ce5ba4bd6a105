-- `put_beginnings` meets its contract: construct after construct.
use Rattle.volume.proofs.Searching.{BeginsAt}
use lib.ListN.{length}
use mathlib.Core.Path.{◌≡◌}
use Rattle.volume.proofs.search.put_beginnings.Given as goal

abbrev pub invariant-loop-k : goal.invariant-loop-k
invariant-loop-k l =
    record {
      room : length l.beginnings ≡ length l.initial.beginnings;
      begun : BeginsAt l.partition.constructs.now l.n l.initial.beginnings l.beginnings l.k;
    }
