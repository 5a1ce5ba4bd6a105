-- What the verdict and the rescue promise of the lists and stores handed in: their answers, and demand 3.
use Rattle.std.specs.Prelude.{◌≡◌, List, ℕ, None, Option, Some, Err, Ok}
use Rattle.refusals.specs.Refusals.{Answer}
use Rattle.tape.specs.Tape.{Tape}
use Rattle.tape.specs.Answers.{tape_in}
use Rattle.verdict.specs.Verdict.{Volume, Cut}
use Rattle.verdict.specs.Demand.{Demand3, Verdict3}
use Rattle.volume.specs.Volume.{volume_of, rescue_in}
use Rattle.volume.specs.declared.search.FoundCut.{FoundCut}

abbrev pub cut_is : FoundCut → Cut
cut_is k =
    record {
      index_construct = k.index_construct;
      data_construct = k.data_construct;
      index_kept = k.index_kept;
      data_kept = k.data_kept;
      generation = k.generation.0;
    }

abbrev pub rescued : Answer FoundCut → Answer Cut
rescued (Ok k) = Ok (cut_is k)
rescued (Err r) = Err r

-- the cut that is answered, if one is
abbrev pub cut_of : Answer Cut → Option Cut
cut_of (Err r) = None
cut_of (Ok a) = Some a

module _ (indexList indexStore dataList dataStore : List ℕ) where
  -- the premises of demand 3: the lists are not refused 1, and the labels are sound and agree
  pub record Premises (i d : Tape) (v : Volume) : Type 0 where
    pub index_tape : tape_in indexList indexStore ≡ Ok i
    pub data_tape : tape_in dataList dataStore ≡ Ok d
    pub agree : volume_of i d ≡ Some v

  -- what demand 3 asks of the cut that is answered, if one is
  abbrev pub RescueOwes : Option Cut → Type 0
  RescueOwes cut = (i d : Tape) (v : Volume) → Premises i d v → Demand3 volume_of v i d cut

  -- what it asks of the verdict, noBreak being that none is answered
  abbrev pub VerdictOwes : Type 0 → Type 0
  VerdictOwes noBreak = (i d : Tape) (v : Volume) → Premises i d v → Verdict3 volume_of v i d noBreak (cut_of (rescue_in indexList indexStore dataList dataStore))

  pub record Rescues (r : Answer FoundCut) : Type 0 where
    pub answers : rescued r ≡ rescue_in indexList indexStore dataList dataStore
    pub demand : RescueOwes (cut_of (rescued r))
