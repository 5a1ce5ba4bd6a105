-- What reading and testing a file's extents owes.
use Rattle.std.specs.Prelude.{◌≡◌, cond, List, [], ℕ, ◌*◌, ◌≤◌, ◌<◌, length, take, drop, None, Option, Some}
use Rattle.xml.specs.Tree.{Forest, none}
use Rattle.elements.specs.Tags.{tags_at, text_place}
use Rattle.elements.specs.Reading.{forest_at, head_at, children_at, Spans}
use Rattle.elements.specs.StartSteps.{Shape}
use Rattle.elements.specs.declared.starts.Start.{Start}
use Rattle.elements.specs.declared.heads.Span.{Span}
use Rattle.children.specs.Places.{tags_named, first_text}
use Rattle.extents.specs.Rows as numbers
use Rattle.extents.specs.declared.Row.{Row}
use Rattle.extents.specs.Map.{max_rows}
use Rattle.index_rows.specs.Steps.{Placed}
use Rattle.index_names.specs.declared.Sort.{Sort}
use Rattle.index_names.specs.declared.Sort.TheVariants.{File}
use Rattle.index_values.specs.declared.tests.Partitions.{Partitions}
use Rattle.index_values.specs.Elements.{text_in, children_in}
use Rattle.index_values.specs.declared.tests.Judged.{Judged}
use Rattle.index_values.specs.Tests.{Given, few, lawful_file, rows_held}

-- w is where the text of the first element of a name stands, in the row at i
pub record TextFound (s : List ℕ) (i : ℕ) (name : List ℕ) (w : Span) : Type 0 where
  pub place : w ≡ first_text s (tags_named name (tags_at s i))
  pub spans : Spans s w.from w.len (text_in name (forest_at s i))

-- h is the start of the first element of a name in the row at i
pub record FoundStart (s : List ℕ) (i : ℕ) (name : List ℕ) (h : Start) : Type 0 where
  pub shape : Shape s h
  pub place : first_text s (tags_named name (tags_at s i)) ≡ text_place s (drop h.at s)
  pub text : text_in name (forest_at s i) ≡ (head_at s h.at).text
  pub row : children_in name (forest_at s i) ≡ children_at s h.at

-- or there is none
pub record NoneFound (s : List ℕ) (i : ℕ) (name : List ℕ) : Type 0 where
  pub place : first_text s (tags_named name (tags_at s i)) ≡ record { from = 0; len = 0 }
  pub text : text_in name (forest_at s i) ≡ []
  pub row : children_in name (forest_at s i) ≡ none

abbrev pub Finds : List ℕ → ℕ → List ℕ → Option Start → Type 0
Finds s i name None = NoneFound s i name
Finds s i name (Some h) = FoundStart s i name h

abbrev pub given : List ℕ → Partitions → Given
given u v = record { uuid = u; index_letter = v.index_letter; data_letter = v.data_letter; block_size = v.block_size }

-- n rows stand in the front of out, if there are not too many
pub record RowsRead (rows : List Row) (out : List ℕ) (n : ℕ) : Type 0 where
  pub all : n ≤ max_rows → (numbers.rows_of (take (n * 5) out) ≡ rows) × (length rows ≡ n)
  pub many : max_rows < n → max_rows < length rows

-- the rows that are taken of an element of sort s: those that it has, if they are not too many
unfoldable pub rows_taken : Sort → Forest → List Row
rows_taken s c = cond (few s c) (rows_held s c) []

-- the two tests of the extents of an element of sort s with the children c, and the rows taken, which stand in the front of out
pub record Tested (s : Sort) (c : Forest) (v : Partitions) (out : List ℕ) (r : Judged) : Type 0 where
  pub few : r.few ≡ few s c
  pub lawful : (u : List ℕ) → r.lawful ≡ lawful_file (given u v) s c
  pub count : r.count ≡ length (rows_taken s c)
  pub rows : take (r.count * 5) out ≡ numbers.numbers_of (rows_taken s c)

-- of any element whose children stand at places t of the text x
abbrev pub TestsExtents : List ℕ → List ℕ → Sort → Partitions → List ℕ → Judged → Type 0
TestsExtents x t s v out r = (c : Forest) → (s ≡ File → Placed x File c t) → Tested s c v out r
