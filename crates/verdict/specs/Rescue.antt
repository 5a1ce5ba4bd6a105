-- The rescue: the cut after standing constructs that keeps most index constructs and leaves a consistent volume (01, Constructs, verdict
-- and cut). `proofs/Demand.antt` shows that it is that cut.
use Rattle.std.specs.Prelude.{Bool, cond, ◌&&◌, List, [], ◌∷◌, ℕ, length, take, eqb, None, Option, Some}
use Rattle.quantities.specs.Addresses.{Address}
use Rattle.tape.specs.Tape.{Tape}
use Rattle.constructs.specs.Constructs.{Construct, standing, data_lengths}
use Rattle.verdict.specs.Verdict.{Cut, IndexLinks, Volume, or_else, is_none, read_index, read_data, follows, chain_break, bad_file_in}

abbrev pub pointed_block : Option Address → ℕ
pointed_block None = 0
pointed_block (Some p) = p.block

-- the element that an index's back pointer names
abbrev pub target : Option IndexLinks → ℕ
target None = 0
target (Some x) = pointed_block x.back

abbrev pub generation_of : Option IndexLinks → ℕ
generation_of None = 0
generation_of (Some x) = x.generation

-- the constructs through the one whose first block has that number
unfoldable pub through : ℕ → List Construct → List Construct
through k [] = []
through k (d ∷ ds) = cond (eqb d.first k) (d ∷ ds) (through k ds)

module _ (v : Volume) where
  -- the longest front of the data partition's constructs whose chain has no break
  unfoldable pub chain : List Construct → List Construct
  chain [] = []
  chain (d ∷ ds) = cond (is_none (chain_break v (d ∷ ds))) (d ∷ ds) (chain ds)

  -- the cut after c, which has cs before it in the index partition, and d, which has ds before it in the data partition
  abbrev pub cut_at : Construct → List Construct → Construct → List Construct → Cut
  cut_at c cs d ds =
      record {
        index_construct = length cs;
        data_construct = length ds;
        index_kept = c.end;
        data_kept = d.end;
        generation = generation_of (read_index v c);
      }

  -- cut there, the index partition's last index follows the data partition's last, and its extents lie on what is kept
  abbrev pub fits_cut : List ℕ → List ℕ → Construct → Construct → Bool
  fits_cut li ld c d = follows v (read_index v c) d (read_data v d) && is_none (bad_file_in v (read_index v c) (take c.end li) (take d.end ld))

  abbrev pub attempt : List ℕ → List ℕ → Construct → List Construct → List Construct → Option Cut
  attempt li ld c cs [] = None
  attempt li ld c cs (d ∷ ds) = cond (fits_cut li ld c d) (Some (cut_at c cs d ds)) None

  -- from the last index construct back: the first that fits the construct of the chain that it points at
  unfoldable pub cut_among : List ℕ → List ℕ → List Construct → List Construct → Option Cut
  cut_among li ld ds [] = None
  cut_among li ld ds (c ∷ cs) = or_else (attempt li ld c cs (through (target (read_index v c)) ds)) (cut_among li ld ds cs)

  unfoldable pub rescue : Tape → Tape → Option Cut
  rescue i d = cut_among (data_lengths i) (data_lengths d) (chain (standing v.size d)) (standing v.size i)
