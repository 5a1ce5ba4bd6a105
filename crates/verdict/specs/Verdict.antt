-- The verdict on two partitions (01, Constructs, verdict and cut; 002, 2.1.4). What the labels give and the reading of one index are
-- parameters here.
use Rattle.std.specs.Prelude.{◌≡◌, Bool, true, false, cond, ◌&&◌, List, [], ◌∷◌, ℕ, suc, ◌-◌, length, take, leb, eqb, None, Option, Some}
use Rattle.slices.specs.Slices.{every}
use Rattle.quantities.specs.Addresses.{Address}
use Rattle.tape.specs.Tape.{Tape}
use Rattle.extents.specs.declared.Row.{Row}
use Rattle.extents.specs.Tape.{lies_on_tape}
use Rattle.constructs.specs.Constructs.{Construct, standing, data_lengths}

-- what the verdict asks of a sound index: its generation, its back pointer if it has one, and the extents of its files in text order
pub record IndexLinks : Type 0 where
  pub generation : ℕ
  pub back : Option Address
  pub files : List (List Row)

-- what agreeing labels give, and the reading of an index from the letter of its partition, the number of its first block and its text;
-- none where it is not sound
pub record Volume : Type 0 where
  pub size : ℕ
  pub index_letter : ℕ
  pub data_letter : ℕ
  pub read : ℕ → ℕ → List ℕ → Option IndexLinks

module _ {A : Type 0} where
  -- the first that is given
  abbrev pub or_else : Option A → Option A → Option A
  or_else None y = y
  or_else (Some x) y = Some x

  abbrev pub unless : Bool → A → Option A
  unless true x = None
  unless false x = Some x

  abbrev pub is_none : Option A → Bool
  is_none None = true
  is_none (Some x) = false

-- the number of the first that fails the test, counted from k
unfoldable pub first_failing : {A : Type 0} → (A → Bool) → ℕ → List A → Option ℕ
first_failing test k [] = None
first_failing test k (x ∷ xs) = or_else (unless (test x) k) (first_failing test (suc k) xs)

-- a break: which of the five, and its number
pub record Break : Type 0 where
  pub which : ℕ
  pub number : ℕ

abbrev pub numbered : ℕ → Option ℕ → Option Break
numbered w None = None
numbered w (Some n) = Some (record { which = w; number = n })

abbrev pub is_at : Option Address → ℕ → ℕ → Bool
is_at None letter block = false
is_at (Some p) letter block = eqb p.letter letter && eqb p.block block

-- a tape ends with the last of its standing constructs
abbrev pub ends_with : Tape → List Construct → Bool
ends_with t [] = false
ends_with t (c ∷ cs) = eqb c.end (length t)

module _ (v : Volume) where
  -- the index of a partition that begins at a block; without a text, with an unreadable block in its run, it is not sound (02, Item 7)
  abbrev pub read_text : ℕ → ℕ → Option (List ℕ) → Option IndexLinks
  read_text letter first None = None
  read_text letter first (Some x) = v.read letter first x

  abbrev pub read_index : Construct → Option IndexLinks
  read_index c = read_text v.index_letter c.first c.text

  abbrev pub read_data : Construct → Option IndexLinks
  read_data c = read_text v.data_letter c.first c.text

  -- an extent lies on the tape, given the lengths of both partitions' data blocks
  unfoldable pub lies : List ℕ → List ℕ → Row → Bool
  lies li ld r =
      cond (eqb r.letter v.index_letter) (lies_on_tape li v.size r)
      (cond (eqb r.letter v.data_letter) (lies_on_tape ld v.size r) false)

  -- a sound index points at the data partition's construct d, whose index is sound, and has no lower generation
  unfoldable pub follows : Option IndexLinks → Construct → Option IndexLinks → Bool
  follows None d y = false
  follows (Some x) d None = false
  follows (Some x) d (Some y) = is_at x.back v.data_letter d.first && leb y.generation x.generation

  -- a sound index with no back pointer
  abbrev pub begins_chain : Option IndexLinks → Bool
  begins_chain None = false
  begins_chain (Some x) = is_none x.back

  -- a data partition's construct is sound and follows the one before it, or begins the chain
  abbrev pub chained : Construct → List Construct → Bool
  chained c [] = begins_chain (read_data c)
  chained c (p ∷ ps) = follows (read_data c) p (read_data p)

  -- the lowest construct that breaks the chain
  unfoldable pub chain_break : List Construct → Option ℕ
  chain_break [] = None
  chain_break (c ∷ cs) = or_else (chain_break cs) (unless (chained c cs) (length cs))

  -- the index partition's last index follows the data partition's last
  abbrev pub tied : List Construct → List Construct → Bool
  tied [] ds = false
  tied (c ∷ cs) [] = false
  tied (c ∷ cs) (d ∷ ds) = follows (read_index c) d (read_data d)

  abbrev pub bad_file_in : Option IndexLinks → List ℕ → List ℕ → Option ℕ
  bad_file_in None li ld = None
  bad_file_in (Some x) li ld = first_failing (every (lies li ld)) 0 x.files

  -- the lowest file of that index with an extent that does not lie on the tape
  abbrev pub bad_file : List Construct → List ℕ → List ℕ → Option ℕ
  bad_file [] li ld = None
  bad_file (c ∷ cs) li ld = bad_file_in (read_index c) li ld

  -- the first of the five breaks, or none
  unfoldable pub verdict : Tape → Tape → Option Break
  verdict i d =
      let cs = standing v.size i in
      let ds = standing v.size d in
      or_else (unless (ends_with i cs) (record { which = 1; number = 0 }))
      (or_else (unless (ends_with d ds) (record { which = 2; number = 0 }))
      (or_else (numbered 3 (chain_break ds))
      (or_else (unless (tied cs ds) (record { which = 4; number = length cs - 1 }))
      (numbered 5 (bad_file cs (data_lengths i) (data_lengths d))))))

-- consistent: the labels, in elements 0 to 3 of each partition, are sound and agree, and there is no break
module _ (labels : Tape → Tape → Option Volume) where
  abbrev pub Consistent : Tape → Tape → Type 0
  Consistent i d = (v : Volume) × (labels (take 4 i) (take 4 d) ≡ Some v) × (verdict v i d ≡ None)

-- both construct numbers, both counts of kept elements, and the generation of the last index kept in the index partition
pub record Cut : Type 0 where
  pub index_construct : ℕ
  pub data_construct : ℕ
  pub index_kept : ℕ
  pub data_kept : ℕ
  pub generation : ℕ
