-- Demand 3, of two tapes whose labels are sound and agree: what the rescue owes, and what the verdict.
use Rattle.std.specs.Prelude.{◌≡◌, ◌⊎◌, ◌↔◌, List, ◌∷◌, ℕ, suc, ◌≤◌, ◌<◌, length, take, None, Option, Some}
use Rattle.tape.specs.Tape.{Tape}
use Rattle.constructs.specs.Constructs.{Construct, standing}
use Rattle.verdict.specs.Verdict.{IndexLinks, Volume, Consistent, read_index, Cut}

module _ (labels : Tape → Tape → Option Volume) (v : Volume) (i d : Tape) where
  -- the index constructs that a place to stop keeps in the index partition
  abbrev pub keeps : ℕ → ℕ
  keeps n = length (standing v.size (take n i))

  -- n and m are places to stop, and leave a consistent volume
  pub record Leaves (n m : ℕ) : Type 0 where
    pub in_index : n ≤ length i
    pub in_data : m ≤ length d
    pub consistent : Consistent labels (take n i) (take m d)

  -- the generation of the last index that n elements of the index partition keep
  pub record LastGeneration (n g : ℕ) : Type 0 where
    pub last : Construct
    pub before : List Construct
    pub index : IndexLinks
    pub stands : standing v.size (take n i) ≡ last ∷ before
    pub reads : read_index v last ≡ Some index
    pub is : g ≡ index.generation

  -- the rescue's pair drops nothing
  abbrev pub DropsNothing : Option Cut → Type 0
  DropsNothing answered = (a : Cut) × (answered ≡ Some a) × (a.index_kept ≡ length i) × (a.data_kept ≡ length d)

  -- what the rescue owes, if that is its answer: a cut, or none
  pub record Demand3 (answered : Option Cut) : Type 0 where
    -- the answer is a pair that leaves a consistent volume
    pub sound : (a : Cut) → answered ≡ Some a → Leaves a.index_kept a.data_kept
    -- its construct numbers are those of the last constructs kept
    pub numbers : (a : Cut) → answered ≡ Some a
        → (keeps a.index_kept ≡ suc a.index_construct) × (length (standing v.size (take a.data_kept d)) ≡ suc a.data_construct)
    -- its generation is that of the last index kept
    pub generation : (a : Cut) → answered ≡ Some a → LastGeneration a.index_kept a.generation
    -- where it answers none there is no such pair
    pub complete : answered ≡ None → (n m : ℕ) → Leaves n m → ⊥
    -- every other pair keeps fewer index constructs
    pub best : (a : Cut) → answered ≡ Some a → (n m : ℕ) → Leaves n m
        → ((n ≡ a.index_kept) × (m ≡ a.data_kept)) ⊎ (keeps n < keeps a.index_kept)
    -- the uncut volume is consistent exactly when the pair drops nothing
    pub uncut : Consistent labels i d ↔ DropsNothing answered

  -- what the verdict owes, noBreak being that it tells of no break, and answered what the rescue answers
  pub record Verdict3 (noBreak : Type 0) (answered : Option Cut) : Type 0 where
    pub consistent : noBreak ↔ Consistent labels i d
    pub uncut : noBreak ↔ DropsNothing answered
