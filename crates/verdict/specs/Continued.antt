-- Reading on never hurts (02, Item 14), on tapes whose labels are sound and agree: i and d of a first read, i' and d' of a second.
use Rattle.std.specs.Prelude.{◌≡◌, ◌⊎◌, ◌≤◌, ◌<◌, take, Option, Some}
use Rattle.tape.specs.Tape.{Tape}
use Rattle.verdict.specs.Verdict.{Volume, Cut}
use Rattle.verdict.specs.Demand.{keeps, Leaves}

-- a cut of the first read keeps the same elements of the second
pub record KeptAlike (i d i' d' : Tape) (a : Cut) : Type 0 where
  pub in_index : take a.index_kept i' ≡ take a.index_kept i
  pub in_data : take a.data_kept d' ≡ take a.data_kept d

module _ (labels : Tape → Tape → Option Volume) (v : Volume) (i d i' d' : Tape) where
  -- what the rescue owes of the second read, if that is its answer, a being the cut that the first had
  pub record NeverHurts (a : Cut) (answered : Option Cut) : Type 0 where
    -- there is a cut
    pub cut : Cut
    pub answers : answered ≡ Some cut
    -- it keeps at least as many index constructs in the index partition
    pub as_many : keeps labels v i d a.index_kept ≤ keeps labels v i' d' cut.index_kept
    -- it is the same cut, or it keeps more of them
    pub same_or_more : (cut ≡ a) ⊎ (a.index_construct < cut.index_construct)
    -- and the first cut can be made still
    pub still : Leaves labels v i' d' a.index_kept a.data_kept
