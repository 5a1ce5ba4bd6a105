-- What this crate's functions owe each other.
use Rattle.std.specs.Prelude.{◌≡◌, Bool, true, false, cond, ◌&&◌, List, [], ◌∷◌, ◌++◌, ℕ, ◌-◌, ◌≤◌, ◌<◌, leb, eqb, length, get_or, take, drop, None, Option, Some, Ok, option_map, MatchOption}
use Rattle.std.specs.Bool.{then_some}
use Rattle.slices.specs.Slices.{every}
use Rattle.quantities.specs.Addresses.{Address}
use Rattle.quantities.specs.declared.Generation.{Generation}
use Rattle.extents.specs.declared.Row.{Row}
use Rattle.index.specs.Index as text
use Rattle.index.specs.Index.{index_of}
use Rattle.index.specs.Steps.{back_of}
use Rattle.index_values.specs.Tests.{Given}
use Rattle.index_values.specs.declared.tests.Partitions.{Partitions}
use Rattle.tape.specs.Tape.{Tape, Encodes, max_elements}
use Rattle.tape.specs.Answers.{bytes_before}
use Rattle.constructs.specs.Constructs.{Construct, standing, data_lengths}
use Rattle.constructs.specs.Tables.{is_holed, text_end}
use Rattle.constructs.specs.TableSteps.{bounds_in, table_length}
use Rattle.constructs.specs.ReachSteps.{reaches, lies_by}
use Rattle.constructs.specs.declared.Bounds.{Bounds}
use Rattle.constructs.specs.Steps.{Suffix}
use Rattle.verdict.specs.Verdict.{IndexLinks, Volume, Break, or_else, unless, numbered, follows, bad_file_in, verdict, is_at, ends_with, first_failing, read_index, read_data, chained, chain_break, Cut}
use Rattle.verdict.specs.Rescue.{generation_of, target, through, chain, attempt, cut_among, rescue}
use Rattle.verdict.specs.Steps.{beginnings, firsts}
use Rattle.volume.specs.Volume.{volume_with, rows_of_each}
use Rattle.volume.specs.Chosen.{text_bytes}
use Rattle.volume.specs.declared.sound.Brief.{Brief}
use Rattle.volume.specs.declared.judge.Break as declared
use Rattle.volume.specs.declared.judge.Break.TheVariants as break_is
use Rattle.volume.specs.declared.filled.Misfit.{Misfit}
use Rattle.volume.specs.declared.filled.Misfit.TheVariants as misfit
use Rattle.volume.specs.declared.search.FoundCut.{FoundCut}
use Rattle.volume.specs.Answers.{cut_is}

-- the bytes of a store that a spot names
abbrev pub bounds_text : List ℕ → Bounds → List ℕ
bounds_text s p = take (p.to - p.from) (drop p.from s)

-- the spot of a construct of a tape: its text begins behind the bytes of the blocks before it, and ends before its closing mark, or is empty
abbrev pub bounds_of : Tape → Construct → Bounds
bounds_of t c =
    record {
      first = record { 0 = c.first };
      end = c.end;
      from = bytes_before t c.first;
      to = text_end (is_holed c.text) (bytes_before t c.first) (bytes_before t (c.end - 1));
    }

-- a construct lies at a spot of the store
pub record Located (s : List ℕ) (p : Bounds) (c : Construct) : Type 0 where
  pub first : p.first.0 ≡ c.first
  pub end : p.end ≡ c.end
  pub text : bounds_text s p ≡ text_bytes c.text

-- a table tells where each construct of a list, the last one first, lies
abbrev pub Listed : List ℕ → List ℕ → List Construct → Type 0
Listed s table ds = (c : Construct) (cs : List Construct) → Suffix (c ∷ cs) ds → Located s (bounds_in table (length cs)) c

-- how an index stands in the chain: its generation and its back pointer; none of an index that is not sound
pub record Link : Type 0 where
  pub generation : ℕ
  pub back : Option Address

abbrev pub link_of : Option IndexLinks → Option Link
link_of None = None
link_of (Some x) = Some (record { generation = x.generation; back = x.back })

abbrev pub link_in : Brief → Link
link_in b = record { generation = b.generation.0; back = back_of b.back }

abbrev pub brief_link : Option Brief → Option Link
brief_link None = None
brief_link (Some b) = Some (link_in b)

-- a sound index points at a construct of that partition with that first block, and has no lower generation
abbrev pub joined : Option Link → ℕ → ℕ → ℕ → Bool
joined None letter first generation = false
joined (Some x) letter first generation = is_at x.back letter first && leb generation x.generation

-- the generation of the last of some constructs of the data partition
abbrev pub last_generation : Volume → List Construct → ℕ
last_generation v [] = 0
last_generation v (c ∷ cs) = generation_of (read_data v c)

-- the generation of a construct's index, where it goes on a chain without a break after some
abbrev pub linked : Volume → Construct → List Construct → Option Generation
linked v c cs = then_some (chained v c cs) (record { 0 = generation_of (read_data v c) })

abbrev pub LinksAt : Volume → List ℕ → List ℕ → ℕ → ℕ → Option Generation → Type 0
LinksAt v s table k before r =
    (ds : List Construct) → Listed s table ds → (c : Construct) (cs : List Construct) → Suffix (c ∷ cs) ds → length cs ≡ k → chain_break v cs ≡ None
    → last_generation v cs ≡ before → r ≡ linked v c cs

-- a table of generations: at each construct's number the generation of its index
abbrev pub Generations : Volume → List ℕ → List Construct → Type 0
Generations v table ds = (c : Construct) (cs : List Construct) → Suffix (c ∷ cs) ds → get_or table (length cs) 0 ≡ generation_of (read_data v c)

-- the first k constructs are the longest chain without a break, and their generations are in the table
pub record Chains (v : Volume) (ds : List Construct) (table : List ℕ) (k : ℕ) : Type 0 where
  pub few : k ≤ length ds
  pub whole : chain_break v (firsts k ds) ≡ None
  pub longest : chain v ds ≡ firsts k ds
  pub stops : k < length ds → chain_break v ds ≡ Some k
  pub generations : Generations v table (firsts k ds)

abbrev pub ChainsOf : Volume → List ℕ → List ℕ → ℕ → ℕ → List ℕ → ℕ → Type 0
ChainsOf v s table n room after k = (ds : List Construct) → Listed s table ds → length ds ≡ n → n ≤ room → Chains v ds after k

-- the table with the number plus 1 of each of the first n constructs at its first block
abbrev pub BeginsOf : List ℕ → ℕ → List ℕ → List ℕ → Type 0
BeginsOf table n before after =
    (s : List ℕ) (ds : List Construct) → Listed s table ds → n ≤ length ds → n < 4294967296 → after ≡ beginnings (firsts n ds) before

-- an extent lies on so many elements of each partition, by tables of how far data blocks reach
abbrev pub lies_in : Partitions → List ℕ → ℕ → List ℕ → ℕ → Row → Bool
lies_in w ri ki rd kd r =
    cond (eqb r.letter w.index_letter) (lies_by ri w.block_size ki r.startblock r.byteoffset r.bytecount)
    (cond (eqb r.letter w.data_letter) (lies_by rd w.block_size kd r.startblock r.byteoffset r.bytecount) false)

-- the lowest file of an index that reads with an extent that does not lie there
abbrev pub Loses : List ℕ → Partitions → List ℕ → ℕ → List ℕ → ℕ → Option ℕ → Type 0
Loses t w ri ki rd kd r =
    (g : Given) (letter block : ℕ) (x : text.Index) → index_of g letter block t ≡ Ok x
    → r ≡ first_failing (every (lies_in w ri ki rd kd)) 0 (rows_of_each x.files)

-- an index that has the text t and says b does not follow the construct at there; or by the tables the first of its files is lost whose extents do not
-- all lie on the ki elements of its partition and on those of the other up to that construct's end; or it fits
pub data Fits (t : List ℕ) (b : Brief) (w : Partitions) (ki : ℕ) (there : Bounds) (generation : ℕ) (ri rd : List ℕ) (r : Option Misfit) : Type 0 where
  apart : r ≡ Some misfit.Apart → joined (Some (link_in b)) w.data_letter there.first.0 generation ≡ false → Fits t b w ki there generation ri rd r
  behind : (l : Option ℕ) → r ≡ option_map misfit.Lost l → joined (Some (link_in b)) w.data_letter there.first.0 generation ≡ true
      → Loses t w ri ki rd there.end l → Fits t b w ki there generation ri rd r

-- a table of how far data blocks reach, by the lengths of a partition's data blocks
pub record ReachTable (B : ℕ) (lengths table : List ℕ) : Type 0 where
  pub rest : List ℕ
  pub holds : table ≡ reaches B lengths ++ rest

-- what the tables hold before the search: cs and ds are the constructs of the index partition and of the data partition's chain, li and
-- ld the lengths of their data blocks
pub record Ready (v : Volume) (is ti : List ℕ) (td gens begins ri rd : List ℕ) (cs ds : List Construct) (li ld : List ℕ) : Type 0 where
  pub ds_store : List ℕ
  pub index : Listed is ti cs
  pub chain : Listed ds_store td ds
  pub whole : chain_break v ds ≡ None
  pub generations : Generations v gens ds
  pub partners : (k : ℕ) → get_or begins k 0 ≡ length (through k ds)
  pub index_reach : ReachTable v.size li ri
  pub data_reach : ReachTable v.size ld rd
  pub index_fits : (c : Construct) (bs : List Construct) → Suffix (c ∷ bs) cs → c.end ≤ length li
  pub data_fits : (d : Construct) (bs : List Construct) → Suffix (d ∷ bs) ds → d.end ≤ length ld

abbrev pub tried_cut : Option FoundCut → Option Cut
tried_cut None = None
tried_cut (Some k) = Some (cut_is k)

abbrev pub Tries : Given → Partitions → List ℕ → List ℕ → ℕ → List ℕ → List ℕ → List ℕ → List ℕ → List ℕ → Option FoundCut → Type 0
Tries g w is ti k td gens begins ri rd r =
    (cs ds : List Construct) (li ld : List ℕ) → Ready (volume_with g) is ti td gens begins ri rd cs ds li ld
    → (c : Construct) (bs : List Construct) → Suffix (c ∷ bs) cs → length bs ≡ k
    → tried_cut r ≡ attempt (volume_with g) li ld c bs (through (target (read_index (volume_with g) c)) ds)

-- the answer of the last of n trials that has one
abbrev pub LastOf : {A : Type 0} → (ℕ → Option A → Type 0) → ℕ → Option A → Type 0
LastOf trial n r =
    MatchOption r ((k : ℕ) → k < n → trial k None) (λ a. (k : ℕ) × (k < n) × trial k (Some a) × ((m : ℕ) → k < m → m < n → trial m None))

abbrev pub Searches : Given → Partitions → List ℕ → List ℕ → ℕ → List ℕ → List ℕ → List ℕ → List ℕ → List ℕ → Option FoundCut → Type 0
Searches g w is ti n td gens begins ri rd r =
    (cs ds : List Construct) (li ld : List ℕ) → Ready (volume_with g) is ti td gens begins ri rd cs ds li ld
    → length cs ≡ n → tried_cut r ≡ cut_among (volume_with g) li ld ds cs

-- the standing constructs of a partition, counted and in a table
abbrev pub ListsOf : ℕ → List ℕ → List ℕ → List ℕ → List ℕ → ℕ → Type 0
ListsOf B l s before after n =
    (t : Tape) → Encodes l s t → length before ≡ table_length → (n ≡ length (standing B t)) × Listed s after (standing B t)

-- how far data blocks reach, in a table, and the number of elements
abbrev pub ReachesOf : ℕ → List ℕ → List ℕ → List ℕ → List ℕ → ℕ → Type 0
ReachesOf B l s before after n =
    (t : Tape) → Encodes l s t → length before ≡ max_elements → (n ≡ length t) × ReachTable B (data_lengths t) after

-- a table's last construct of n ends with the last of so many elements
pub record EndsAt (table : List ℕ) (n count : ℕ) (r : Bool) : Type 0 where
  pub ends : (s : List ℕ) (t : Tape) (ds : List Construct) → Listed s table ds → n ≡ length ds → count ≡ length t → r ≡ ends_with t ds

-- the tables of a partition: its n standing constructs, and how far data blocks reach
pub record PartitionTables (B : ℕ) (s : List ℕ) (t : Tape) (table : List ℕ) (n : ℕ) (reach : List ℕ) : Type 0 where
  pub number : n ≡ length (standing B t)
  pub listed : Listed s table (standing B t)
  pub reaches : ReachTable B (data_lengths t) reach

-- a break, or none
abbrev pub break_told : declared.Break → Break
break_told break_is.IndexEnd = record { which = 1; number = 0 }
break_told break_is.DataEnd = record { which = 2; number = 0 }
break_told (break_is.Chain k) = record { which = 3; number = k }
break_told (break_is.Apart k) = record { which = 4; number = k }
break_told (break_is.Lost file) = record { which = 5; number = file }

abbrev pub break_of : Option declared.Break → Option Break
break_of None = None
break_of (Some b) = Some (break_told b)

-- the breaks 4 and 5 of the last constructs of both partitions
abbrev pub last_break : Volume → ℕ → Construct → Construct → List ℕ → List ℕ → Option Break
last_break v k c d li ld =
    or_else (unless (follows v (read_index v c) d (read_data v d)) (record { which = 4; number = k })) (numbered 5 (bad_file_in v (read_index v c) li ld))

-- whether they hold, of construct k of the index partition and construct j of the data partition
abbrev pub JudgesLast : Given → List ℕ → List ℕ → ℕ → List ℕ → ℕ → ℕ → List ℕ → List ℕ → Option declared.Break → Type 0
JudgesLast g is ti k td j generation ri rd r =
    (ds : List ℕ) (c d : Construct) (li ld : List ℕ) → Located is (bounds_in ti k) c → Located ds (bounds_in td j) d
    → (y : IndexLinks) → read_data (volume_with g) d ≡ Some y → generation ≡ y.generation
    → ReachTable g.block_size li ri → ReachTable g.block_size ld rd → c.end ≡ length li → d.end ≡ length ld
    → break_of r ≡ last_break (volume_with g) k c d li ld
