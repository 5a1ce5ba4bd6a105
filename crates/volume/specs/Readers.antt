-- What this crate's structs say, and what the functions that are handed them owe.
use Rattle.std.specs.Prelude.{◌≡◌, true, Bool, List, ℕ, ◌-◌, ◌<◌, length, None, Option, Some, MatchOption}
use Rattle.extents.specs.declared.Row.{Row}
use Rattle.tape.specs.Tape.{Tape, Encodes, max_elements}
use Rattle.constructs.specs.Constructs.{standing}
use Rattle.constructs.specs.TableSteps.{table_length}
use Rattle.constructs.specs.declared.Bounds.{Bounds}
use Rattle.index_values.specs.Tests.{Given}
use Rattle.index_values.specs.Steps.{given}
use Rattle.verdict.specs.Verdict.{ends_with, verdict}
use Rattle.verdict.specs.Rescue.{rescue}
use Rattle.volume.specs.Volume.{volume_with}
use Rattle.volume.specs.Steps.{bounds_text, lies_in, Loses, Fits, Tries, LastOf, PartitionTables, tried_cut, break_of, JudgesLast}
use Rattle.volume.specs.declared.sound.Reader.{Reader}
use Rattle.volume.specs.declared.sound.Brief.{Brief}
use Rattle.volume.specs.declared.filling.Partition.{Partition}
use Rattle.volume.specs.declared.filling.Tables.{Tables}
use Rattle.volume.specs.declared.lost.Kept.{Kept}
use Rattle.volume.specs.declared.filled.Filled.{Filled}
use Rattle.volume.specs.declared.filled.Misfit.{Misfit}
use Rattle.volume.specs.declared.search.Search.{Search}
use Rattle.volume.specs.declared.search.FoundCut.{FoundCut}
use Rattle.volume.specs.declared.judge.Break.{Break}

-- what a reader reads indexes with
abbrev pub given_to : Reader → Given
given_to r = given r.uuid.now r.volume

-- an extent lies on what is kept
abbrev pub lies_on : Kept → Row → Bool
lies_on k = lies_in k.volume k.index_reach.now k.index_count k.data_reach.now k.data_count

abbrev pub LosesOn : List ℕ → Kept → Option ℕ → Type 0
LosesOn t k = Loses t k.volume k.index_reach.now k.index_count k.data_reach.now k.data_count

-- the tables of a partition with blocks of size B, whose elements are t
pub record TablesOf (B : ℕ) (t : Tape) (r : Tables) : Type 0 where
  pub tables : PartitionTables B r.store.now t r.constructs.now r.count r.reach.now
  pub elements : r.elements ≡ length t

-- both tables filled, of a partition with that list and store
pub record FillsOf (B : ℕ) (l s before empty : List ℕ) (r : Tables) : Type 0 where
  pub store : r.store.now ≡ s
  pub filled : (t : Tape) → Encodes l s t → length before ≡ table_length → length empty ≡ max_elements → TablesOf B t r

module _ (x : Filled) where
  abbrev pub given_in : Given
  given_in = given_to x.reader

  abbrev pub FitsIn : Bounds → Brief → Bounds → ℕ → Option Misfit → Type 0
  FitsIn here b there generation =
      Fits (bounds_text x.index.store.now here) b x.reader.volume here.end there generation x.index.reach.now x.data.reach.now

  abbrev pub JudgesLastIn : ℕ → Option Break → Type 0
  JudgesLastIn generation =
      JudgesLast given_in x.index.store.now x.index.constructs.now (x.index.count - 1) x.data.constructs.now (x.data.count - 1) generation x.index.reach.now x.data.reach.now

  -- the tables are those of the partitions i and d
  pub record FilledOf (dl : List ℕ) (i d : Tape) : Type 0 where
    pub index : PartitionTables given_in.block_size x.index.store.now i x.index.constructs.now x.index.count x.index.reach.now
    pub other : PartitionTables given_in.block_size x.data.store.now d x.data.constructs.now x.data.count x.data.reach.now
    pub encodes : Encodes dl x.data.store.now d

  -- the breaks from 3 on, of partitions that both end with a construct
  abbrev pub JudgesIn : Option Break → Type 0
  JudgesIn r =
      (dl : List ℕ) (i d : Tape) → FilledOf dl i d → ends_with i (standing given_in.block_size i) ≡ true → ends_with d (standing given_in.block_size d) ≡ true
      → break_of r ≡ verdict (volume_with given_in) i d

  -- the cut by the tables of both partitions
  abbrev pub CutsIn : Option FoundCut → Type 0
  CutsIn r = (dl : List ℕ) (i d : Tape) → FilledOf dl i d → tried_cut r ≡ rescue (volume_with given_in) i d

-- the cut after construct k of the index partition, or that there is none
unfoldable pub TriesIn : Search → ℕ → Option FoundCut → Type 0
TriesIn x k r =
    Tries (given_in x.filled) x.filled.reader.volume x.filled.index.store.now x.filled.index.constructs.now k x.filled.data.constructs.now
    x.generations.now x.beginnings.now x.filled.index.reach.now x.filled.data.reach.now r

-- that of the last index construct that has one
abbrev pub SearchesIn : Search → Option FoundCut → Type 0
SearchesIn x r = LastOf (TriesIn x) x.filled.index.count r

module _ (r : Reader) (i d : Partition) where
  -- the cut of the volume that is read so
  abbrev pub Cuts : Option FoundCut → Type 0
  Cuts c = (t u : Tape) → Encodes i.list.now i.store.now t → Encodes d.list.now d.store.now u → tried_cut c ≡ rescue (volume_with (given_to r)) t u

  -- its first break, or none
  abbrev pub Breaks : Option Break → Type 0
  Breaks b = (t u : Tape) → Encodes i.list.now i.store.now t → Encodes d.list.now d.store.now u → break_of b ≡ verdict (volume_with (given_to r)) t u
