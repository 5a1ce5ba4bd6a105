-- An index's text (01, Index and Refusal numbers): what it is refused for, in the order of the classes, and what it holds.
use Rattle.std.specs.Prelude.{Bool, false, cond, ◌&&◌, List, [], ◌∷◌, ◌++◌, ℕ, ◌-◌, eqb, leb, length, None, Option, Some, Err, Ok}
use Rattle.refusals.specs.Refusals.{Answer, require, and_then}
use Rattle.refusals.specs.declared.Refusal.TheVariants.{Caller, TooMany, Structure, Version, Value, Foreign, Extents, Location}
use Rattle.slices.specs.Slices.{every}
use Rattle.slices.specs.Words.{bytes}
use Rattle.quantities.specs.Letters.{are_letters}
use Rattle.quantities.specs.Sizes.{is_block_size}
use Rattle.quantities.specs.Addresses.{Address}
use Rattle.xml.specs.Tree.{Head, Forest, none as no_element, node}
use Rattle.xml.specs.CheckSteps.{require_form}
use Rattle.elements.specs.Reading.{forest_at, has_element}
use Rattle.values.specs.Values as values
use Rattle.children.specs.Children as children
use Rattle.extents.specs.declared.Row.{Row}
use Rattle.index_names.specs.declared.Sort.TheVariants.{Index as index}
use Rattle.index_names.specs.Sorts.{is_file}
use Rattle.index_values.specs.Elements.{IndexElement, elements, text_in, children_in}
use Rattle.index.specs.Structure.{complete, rightly}
use Rattle.index_values.specs.Entries.{or_zero, number_or_zero, entries_of, uids_of, many}
use Rattle.index_values.specs.Tests.{Given, is_some, valued, own, few, lawful_file, letter_or_zero, extent_rows, length_of}
use Rattle.index_values.specs.Different.{different}

-- a file: its length, its name as spelled, its rows
pub record File : Type 0 where
  pub length : ℕ
  pub name : List ℕ
  pub rows : List Row

-- what an index says besides its files; the root is among its directories
pub record Heading : Type 0 where
  pub release : ℕ
  pub generation : ℕ
  pub updatetime : List ℕ
  pub location : Address
  pub back : Option Address
  pub allowpolicyupdate : Bool
  pub highestfileuid : ℕ
  pub directories : ℕ

pub record Index : Type 0 where
  pub heading : Heading
  pub files : List File

-- what a location says
abbrev pub location_of : Forest → Address
location_of f = record { letter = letter_or_zero (text_in (bytes "partition") f); block = number_or_zero (text_in (bytes "startblock") f) }

abbrev pub location_in : Forest → Address
location_in k = location_of (children_in (bytes "location") k)

-- the back pointer, if there is one
abbrev pub back_at : Forest → Option Address
back_at f = cond (has_element f) (Some (location_of f)) None

abbrev pub back_in : Forest → Option Address
back_in k = back_at (children_in (bytes "previousgenerationlocation") k)

abbrev pub file_of : Forest → File
file_of c = record { length = length_of c; name = text_in (bytes "name") c; rows = extent_rows c }

-- files in text order
unfoldable pub files_of : List IndexElement → List File
files_of [] = []
files_of (e ∷ l) = cond (is_file e.sort) (file_of e.kids ∷ files_of l) (files_of l)

abbrev pub file_count : List IndexElement → ℕ
file_count l = many (λ e. is_file e.sort) l

abbrev pub is_true : Option Bool → Bool
is_true None = false
is_true (Some b) = b

-- the heading of an index with that release and those children
abbrev pub heading_of : ℕ → Forest → Heading
heading_of release k =
    record {
      release = release;
      generation = number_or_zero (text_in (bytes "generationnumber") k);
      updatetime = text_in (bytes "updatetime") k;
      location = location_in k;
      back = back_in k;
      allowpolicyupdate = is_true (values.boolean (text_in (bytes "allowpolicyupdate") k));
      highestfileuid = number_or_zero (text_in (bytes "highestfileuid") k);
      directories = entries_of (elements index k) - file_count (elements index k);
    }

abbrev pub index_with : ℕ → Forest → Index
index_with release k = record { heading = heading_of release k; files = files_of (elements index k) }

-- 5, of all but the root's own tag: the index's children, and every element below
unfoldable pub structured : Forest → Bool
structured k = complete index k && every rightly (elements index k)

-- 15: at most 4,096 directories and files, at most 1,024 extents of a file
unfoldable pub bounded : List IndexElement → Bool
bounded l = leb (entries_of l) 4096 && every (λ e. few e.sort e.kids) l

-- 6
unfoldable pub all_valued : List IndexElement → Bool
all_valued l = every (λ e. valued e.sort e.head.text) l && different (uids_of l)

-- 8
abbrev pub all_own : Given → List IndexElement → Bool
all_own g l = every (λ e. own g e.sort e.head.text) l

-- 11
abbrev pub all_lawful : Given → List IndexElement → Bool
all_lawful g l = every (λ e. lawful_file g e.sort e.kids) l

-- 12: the index stands where it says
abbrev pub stands_at : ℕ → ℕ → Address → Bool
stands_at letter block p = eqb p.letter letter && eqb p.block block

-- the classes behind the version, in their order
unfoldable pub children_read : Given → ℕ → ℕ → ℕ → Forest → Answer Index
children_read g letter block release k =
    require (structured k) Structure
    (require (bounded (elements index k)) TooMany
    (require (all_valued (elements index k)) Value
    (require (all_own g (elements index k)) Foreign
    (require (all_lawful g (elements index k)) Extents
    (require (stands_at letter block (location_in k)) Location
    (Ok (index_with release k)))))))

-- the root's name and its one attribute
abbrev pub is_root : Head → Bool
is_root = children.is_root (bytes "ltfsindex")

-- 5 for them, then 7 for the attribute's value, then the rest
unfoldable pub tag_read : Given → ℕ → ℕ → Head → Forest → Answer Index
tag_read g letter block h k =
    require (is_root h) Structure
    (require (is_some (values.version h.value)) Version
    (children_read g letter block (or_zero (values.version h.value)) k))

unfoldable pub root_read : Given → ℕ → ℕ → Forest → Answer Index
root_read g letter block no_element = Err Structure
root_read g letter block (node h k r) = tag_read g letter block h k

-- 14: the caller's letters, block size, UUID and place
unfoldable pub caller_right : Given → ℕ → Bool
caller_right g letter =
    are_letters g.index_letter g.data_letter letter && is_block_size g.block_size && values.is_uuid g.uuid

-- the longest text of an index
abbrev pub max_text : ℕ
max_text = 1048576

-- an index's text, at a partition letter and the number of its first block
unfoldable pub index_of : Given → ℕ → ℕ → List ℕ → Answer Index
index_of g letter block text =
    require (caller_right g letter) Caller
    (require (leb (length text) max_text) TooMany
    (require_form text
    (root_read g letter block (forest_at text 38))))

-- the rows of files, one file after the other
unfoldable pub all_rows : List File → List Row
all_rows [] = []
all_rows (f ∷ fs) = f.rows ++ all_rows fs

-- what a read hands out of an index: its heading, how many files it has, and how many rows these have
pub record Summary : Type 0 where
  pub heading : Heading
  pub files : ℕ
  pub rows : ℕ

abbrev pub summary : Index → Summary
summary x = record { heading = x.heading; files = length x.files; rows = length (all_rows x.files) }

abbrev pub summary_of : Answer Index → Answer Summary
summary_of a = and_then a (λ x. Ok (summary x))
