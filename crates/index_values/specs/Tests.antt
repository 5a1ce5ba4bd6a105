-- What each element of an index is tested for by itself (01, Index, Values, Extents and Refusal numbers): its value (6), that it is of this
-- volume (8), the number of a file's extents (15), and that they are lawful (11).
use Rattle.std.specs.Prelude.{Bool, true, false, cond, not, ◌&&◌, ◌||◌, List, [], ◌∷◌, ℕ, eqb, leb, length, None, Option, Some}
use Rattle.slices.specs.Words.{bytes}
use Rattle.xml.specs.Tree.{Forest, none as no_element, node}
use Rattle.texts.specs.Decoded.{decoded}
use Rattle.values.specs.Values as values
use Rattle.extents.specs.declared.Row.{Row}
use Rattle.extents.specs.Lawful as extents
use Rattle.extents.specs.Map.{max_rows}
use Rattle.index_names.specs.declared.Sort.{Sort}
use Rattle.index_names.specs.declared.Sort.TheVariants.{Creator, Uuid, Generation, Time, Boolean, Number, Letter, Name, RootName, Uid, RootUid}
use Rattle.index_names.specs.Sorts.{is_file}
use Rattle.index_values.specs.Elements.{text_in, children_in}
use Rattle.index_values.specs.Entries.{or_zero, number_or_zero}

-- what the caller gives: the label's UUID, its two letters, the block size
pub record Given : Type 0 where
  pub uuid : List ℕ
  pub index_letter : ℕ
  pub data_letter : ℕ
  pub block_size : ℕ

abbrev pub is_some : {A : Type 0} → Option A → Bool
is_some None = false
is_some (Some x) = true

-- 6: the value of an element of sort s with that text. A fileuid is 1 in the root directory, else at least 2
unfoldable pub valued : Sort → List ℕ → Bool
valued Time t = values.is_time t
valued Number t = is_some (values.number t)
valued Boolean t = is_some (values.boolean t)
valued Name t = values.is_name (decoded t)
valued Uid t = leb 2 (number_or_zero t)
valued Letter t = is_some (values.letter t)
valued Creator t = values.is_creator (decoded t)
valued Uuid t = values.is_uuid t
valued Generation t = leb 1 (number_or_zero t)
valued RootName t = values.is_root_name (decoded t)
valued RootUid t = eqb (number_or_zero t) 1
valued _ t = true

-- the letter that a text says, 0 where it says none
abbrev pub letter_or_zero : List ℕ → ℕ
letter_or_zero t = or_zero (values.letter t)

-- 8: the volume's UUID, and letters of its two partitions
unfoldable pub own : Given → Sort → List ℕ → Bool
own g Letter t = eqb (letter_or_zero t) g.index_letter || eqb (letter_or_zero t) g.data_letter
own g Uuid t = values.same_uuid t g.uuid
own g _ t = true

-- the row of an extent
unfoldable pub row_of : Forest → Row
row_of c =
    record {
      letter = letter_or_zero (text_in (bytes "partition") c);
      startblock = number_or_zero (text_in (bytes "startblock") c);
      byteoffset = number_or_zero (text_in (bytes "byteoffset") c);
      bytecount = number_or_zero (text_in (bytes "bytecount") c);
      fileoffset = number_or_zero (text_in (bytes "fileoffset") c);
    }

-- the rows of extents in a row of elements
unfoldable pub rows_in : Forest → List Row
rows_in no_element = []
rows_in (node h c r) = row_of c ∷ rows_in r

-- of a file: its extents' rows in text order, and its length
abbrev pub extent_rows : Forest → List Row
extent_rows c = rows_in (children_in (bytes "extentinfo") c)

abbrev pub length_of : Forest → ℕ
length_of c = number_or_zero (text_in (bytes "length") c)

-- 15
unfoldable pub few : Sort → Forest → Bool
few s c = not (is_file s) || leb (length (extent_rows c)) max_rows

-- 11: a file's extents, not too many, are lawful for its length and the block size
unfoldable pub lawful_file : Given → Sort → Forest → Bool
lawful_file g s c = not (is_file s) || (few s c && extents.lawful (length_of c) g.block_size (extent_rows c))

-- the rows of a file; any other element has none
unfoldable pub rows_held : Sort → Forest → List Row
rows_held s c = cond (is_file s) (extent_rows c) []
