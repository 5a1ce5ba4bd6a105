-- What is shown of an index: its header, its files, their rows.
use Rattle.std.specs.Prelude.{◌≡◌, List, [], ◌∷◌, ℕ, None, Option, Some}
use lib.ListN.{length, take, drop, get_or}
use Rattle.refusals.specs.Refusals.{Answer}
use Rattle.quantities.specs.Addresses.{Address}
use Rattle.extents.specs.declared.Row.{Row}
use Rattle.index.specs.Index.{Index, Summary, summary, index_of}
use Rattle.index.specs.Places.{update_time_place}
use Rattle.index_files.specs.Names.{file_tag}
use Rattle.index_files.specs.Asked.{file_in}
use Rattle.index_files.specs.Filling.{TellsPart, Stored, SaysFile, rows_for, HoldsRows}
use Rattle.index_files.specs.Whole.{whole_for, HoldsWhole}
use Rattle.volume.specs.Chosen.{Indexed, text_asked, chosen_in}
use Rattle.api.specs.Outputs.{ShownAs, Shown, bit, one}
use Rattle.api.specs.Fronts.{TellsFront, WithFront}

-- whether there is a back pointer, its letter, its block
abbrev pub back_numbers : Option Address → List ℕ
back_numbers None = 0 ∷ 0 ∷ 0 ∷ []
back_numbers (Some p) = 1 ∷ p.letter ∷ p.block ∷ []

-- fourteen numbers say what an index says: the R of its version, its generation, the place of its update time in s, its text, and its length, its
-- location's letter and block, its back pointer, the policy's boolean, the highest file UID, and how many directories, files and rows it has
pub record SaysHeader (s : List ℕ) (x : Summary) (out : List ℕ) : Type 0 where
  pub release : get_or out 0 0 ≡ x.heading.release
  pub generation : get_or out 1 0 ≡ x.heading.generation
  pub updatetime : TellsPart s out 2 x.heading.updatetime
  pub place : record { from = get_or out 2 0; len = get_or out 3 0 } ≡ update_time_place s
  pub letter : get_or out 4 0 ≡ x.heading.location.letter
  pub block : get_or out 5 0 ≡ x.heading.location.block
  pub back : take 3 (drop 6 out) ≡ back_numbers x.heading.back
  pub allowpolicyupdate : get_or out 9 0 ≡ bit x.heading.allowpolicyupdate
  pub highestfileuid : get_or out 10 0 ≡ x.heading.highestfileuid
  pub directories : get_or out 11 0 ≡ x.heading.directories
  pub files : get_or out 12 0 ≡ x.files
  pub rows : get_or out 13 0 ≡ x.rows

abbrev pub SaysIndex : List ℕ → Index → List ℕ → Type 0
SaysIndex s x out = SaysHeader s (summary x) out

-- eighteen numbers say where a construct lies and what its index says: its first block, the elements through its closing mark, where its text begins
-- in the store s and its length; then the fourteen of its index, whose places are in that text
pub record SaysConstruct (s : List ℕ) (c : Indexed) (out : List ℕ) : Type 0 where
  pub first : get_or out 0 0 ≡ c.first
  pub end : get_or out 1 0 ≡ c.end
  pub from : get_or out 2 0 ≡ c.from
  pub length : get_or out 3 0 ≡ lib.ListN.length c.text
  pub text : TellsPart s out 2 c.text
  pub header : SaysHeader c.text c.summary (drop 4 out)

module _ {A : Type 0} where
  -- how many there are
  abbrev pub how_many : List A → List ℕ
  how_many l = length l ∷ []

  -- what filling a buffer returns, the number that it tells, and what the buffer holds after
  pub record FillsOut (holds : List A → List ℕ → List ℕ → Type 0) (a : Answer (List A)) (before after : List ℕ) (returned told : ℕ) : Type 0 where
    pub answers : Shown 1 how_many a returned (one told)
    pub stored : Stored holds a before after

-- what reading the rows of a file of the index s returns, how many it tells, what the buffer holds after, and the front
pub record ShowsRows (s : List ℕ) (a : Answer (List Row)) (before after : List ℕ) (returned count front : ℕ) : Type 0 where
  pub fills : FillsOut HoldsRows a before after returned count
  pub place : TellsFront s returned front

-- what reading all of an index returns, its header, and what the buffers for entries and rows hold after
pub record ShowsWhole (s : List ℕ) (a : Answer Index) (e e' o o' : List ℕ) (returned : ℕ) (out : List ℕ) : Type 0 where
  pub answers : ShownAs 14 (SaysIndex s) (whole_for s (length e) (length o) a) returned out
  pub stored : HoldsWhole s e e' o o' (whole_for s (length e) (length o) a)

-- the volume with that UUID, those letters and that block size
module _ (uuid : List ℕ) (index other size : ℕ) where
  -- the index that a text is, at a partition letter and a block number: its header, a file by its number, the rows of a file, all of it
  module _ (s : List ℕ) (letter block : ℕ) where
    abbrev pub index_in : Answer Index
    index_in = index_of (record { uuid = uuid; index_letter = index; data_letter = other; block_size = size }) letter block s

    abbrev pub ReadsIndexOut : ℕ → List ℕ → Type 0
    ReadsIndexOut = WithFront 14 s (ShownAs 14 (SaysIndex s) index_in)

    abbrev pub ReadsFileOut : ℕ → ℕ → List ℕ → Type 0
    ReadsFileOut file = WithFront 4 s (ShownAs 4 (SaysFile s (file_tag s file)) (file_in file index_in))

    abbrev pub FillsRows : ℕ → List ℕ → List ℕ → ℕ → ℕ → ℕ → Type 0
    FillsRows file rows = ShowsRows s (rows_for (length rows) (file_in file index_in)) rows

    abbrev pub ReadsWholeOut : List ℕ → List ℕ → List ℕ → List ℕ → ℕ → List ℕ → Type 0
    ReadsWholeOut e e' o o' = WithFront 14 s (ShowsWhole s index_in e e' o o')

  -- the index of a construct of a partition, by its number
  abbrev pub ReadsConstructOut : List ℕ → List ℕ → ℕ → ℕ → ℕ → List ℕ → Type 0
  ReadsConstructOut l s letter number =
      WithFront 18 (text_asked size number l s)
      (ShownAs 18 (SaysConstruct s) (chosen_in (record { uuid = uuid; index_letter = index; data_letter = other; block_size = size }) letter number l s))
