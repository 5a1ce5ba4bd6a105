-- Reading on never hurts (02, Item 14), of the lists and stores handed in: those of a first read, and those of a second, with a prime.
use Rattle.std.specs.Prelude.{List, ℕ, Option}
use Rattle.tape.specs.Tape.{Tape}
use Rattle.verdict.specs.Verdict.{Volume, Cut}
use Rattle.verdict.specs.Demand.{Leaves}
use Rattle.verdict.specs.Continued.{NeverHurts}
use Rattle.volume.specs.Volume.{volume_of}
use Rattle.volume.specs.Answers.{Premises}

module _ (indexList indexStore dataList dataStore indexList' indexStore' dataList' dataStore' : List ℕ) where
  -- both reads are of one volume
  pub record OneVolume : Type 0 where
    pub i : Tape
    pub d : Tape
    pub i' : Tape
    pub d' : Tape
    pub v : Volume
    pub first : Premises indexList indexStore dataList dataStore i d v
    pub second : Premises indexList' indexStore' dataList' dataStore' i' d' v

  -- and what the rescue owes of the second, if that is its answer, a being the cut that the first had
  pub record RescuesOn (a : Cut) (answered : Option Cut) : Type 0 where
    pub reads : OneVolume
    pub never_hurts : NeverHurts volume_of reads.v reads.i reads.d reads.i' reads.d' a answered

  -- and every pair of places to stop that leaves a consistent volume of the first leaves one of the second
  pub record LeavesOn : Type 0 where
    pub reads : OneVolume
    pub leaves : (n m : ℕ) → Leaves volume_of reads.v reads.i reads.d n m → Leaves volume_of reads.v reads.i' reads.d' n m
