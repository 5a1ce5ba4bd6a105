-- What this crate's functions owe each other.
use Rattle.refusals.specs.declared.Refusal.{Refusal}
use Rattle.refusals.specs.declared.Refusal.TheVariants as refusal
use Rattle.std.specs.Prelude.{◌≡◌, true, cond, ◌&&◌, List, ℕ, ◌*◌, ◌/◌, ◌≤◌, leb, length, set, drop, Err, None, Ok, Option, Result, Some}
use Rattle.std.proofs.lemmas.List.Edits.{sets}
use Rattle.tables.specs.Copying.{copied}
use Rattle.extents.specs.declared.Row.{Row}
use Rattle.extents.specs.Rows.{numbers_of}
use Rattle.xml.specs.Tree.{Forest, none}
use Rattle.elements.specs.Tags.{Tags, heads, tags_at, tags_in}
use Rattle.elements.specs.declared.heads.Span.{Span}
use Rattle.elements.specs.Reading.{forest_at, head_at, children_at, part_at, Inside}
use Rattle.elements.specs.TagSteps.{Behind, FirstOf}
use Rattle.elements.specs.StartSteps.{StartsElement}
use Rattle.elements.specs.declared.starts.Start.{Start}
use Rattle.index_names.specs.declared.Sort.{Sort}
use Rattle.index_names.specs.declared.Sort.TheVariants.{Index as index}
use Rattle.children.specs.Children.{children_of_first}
use Rattle.index_rows.specs.Steps.{noted, Placed, TagsPlaced}
use Rattle.index_values.specs.Elements.{IndexElement, name_number, sort_of, elements}
use Rattle.index_values.specs.Entries.{is_entry, uid_of, entries_of}
use Rattle.index_values.specs.Tests.{Given}
use Rattle.index_values.specs.Steps.{given}
use Rattle.index.specs.Index.{children_read, tag_read, root_read, Index, Summary, all_rows, file_count, files_of, heading_of, index_with, location_in, stands_at, summary_of}
use Rattle.index.specs.Entries.{Entry, entry_with, entries_in, entry_rows, nine, nines}
use Rattle.index.specs.Places.{update_time_in, update_time_place}
use Rattle.index.specs.SweepSteps.{All, gathered, none_seen, marked, after_row, entry_put, after_element, sweep}
use Rattle.index.specs.declared.survey.Gathered.{Gathered}
use Rattle.index.specs.declared.walk.Sums.{Sums}
use Rattle.index.specs.declared.walk.Left.{Left}
use Rattle.index.specs.declared.walk.Source.{Source}
use Rattle.index.specs.declared.walk.Walk.{Walk}
use Rattle.refusals.specs.Refusals.{Answer, require}
use Rattle.quantities.specs.Addresses.{Address}
use Rattle.index.specs.declared.read.Header.{Header}
use Rattle.index.specs.declared.read.Location.{Location}

-- how many rows the files among some elements have
abbrev pub row_count : List IndexElement → ℕ
row_count l = length (all_rows (files_of l))

-- the volume that a source is of
abbrev pub asked : Source → Given
asked x = given x.uuid.now x.volume

-- a location, and a back pointer, as places on the volume
abbrev pub address_of : Location → Address
address_of l = record { letter = l.letter; block = l.block.0 }

abbrev pub back_of : Option Location → Option Address
back_of None = None
back_of (Some l) = Some (address_of l)

-- what a reader's header means of a text
abbrev pub summary_in : List ℕ → Header → Summary
summary_in s h =
    record {
      heading =
          record {
            release = h.release;
            generation = h.generation.0;
            updatetime = part_at s h.time;
            location = address_of h.location;
            back = back_of h.back;
            allowpolicyupdate = h.allow;
            highestfileuid = h.highest;
            directories = h.directories;
          };
      files = h.files;
      rows = h.rows;
    }

abbrev pub means : List ℕ → Result Header Refusal → Answer Summary
means s (Ok h) = Ok (summary_in s h)
means s (Err r) = Err r

-- what that leaves open: the update time stands at w, which lies in the text
pub record Definite (s : List ℕ) (w : Span) (h : Header) : Type 0 where
  pub time : h.time ≡ w
  pub inside : Inside s h.time.from h.time.len

abbrev pub IsDefinite : List ℕ → Span → Result Header Refusal → Type 0
IsDefinite s w (Ok h) = Definite s w h
IsDefinite s w (Err r) = Unit {0}

-- what is read of a text s that is that index, its update time at w, or is refused
pub record ReadsAs (s : List ℕ) (w : Span) (a : Answer Index) (r : Result Header Refusal) : Type 0 where
  pub answers : means s r ≡ summary_of a
  pub header : IsDefinite s w r

abbrev pub ReadsIndex : List ℕ → Answer Index → Result Header Refusal → Type 0
ReadsIndex s = ReadsAs s (update_time_place s)

-- the header of any index of whose children that was gathered in the text s
pub record HeaderOf (s : List ℕ) (release : ℕ) (r : Gathered) (h : Header) : Type 0 where
  pub heading : (k : Forest) → Placed s index k r.places → r.entries ≡ entries_of (elements index k) → r.files ≡ file_count (elements index k)
      → r.rows ≡ row_count (elements index k)
      → summary_in s h ≡ record { heading = heading_of release k; files = file_count (elements index k); rows = row_count (elements index k) }
  pub definite : (f : Tags) → TagsPlaced s index f r.places → Definite s (update_time_in s f) h

-- the element whose tag is at n of the text s is met in such a row: what is seen then, and the places; and its sort
pub record Meets (s : List ℕ) (kind : Sort) (n : ℕ) (m t m' t' : List ℕ) (sort : Sort) : Type 0 where
  pub seen : m' ≡ marked (name_number kind (head_at s n)) m
  pub places : t' ≡ noted (name_number kind (head_at s n)) n t
  pub known : sort ≡ sort_of kind (head_at s n)

-- any row whose first element is h goes on at j
abbrev pub GoesOn : List ℕ → Start → ℕ → Type 0
GoesOn s h j = (i : ℕ) → StartsElement s i h → FirstOf s i h.at j

-- the first of a table of a file's rows, so many, in the table t behind n rows
unfoldable pub rows_copied : List ℕ → ℕ → ℕ → List ℕ → List ℕ
rows_copied rows count n t = cond (leb count 1024 && leb n (length t / 5)) (copied rows (count * 5) t (n * 5)) t

-- the numbers of an entry of that sort, whose children stand at places t of the text x, where b was gathered before it
abbrev pub SaysEntry : List ℕ → List ℕ → ℕ → Sort → ℕ → Sums → ℕ → List ℕ → Type 0
SaysEntry x t uid sort p b count r =
    (k : Tags) (l : List Row) → is_entry sort ≡ true → Placed x sort (heads k) t → TagsPlaced x sort k t → uid ≡ uid_of (heads k) → count ≡ length l
    → r ≡ nine b.files b.rows (entry_with x sort p k l)

-- an entry's fileuid and its numbers are in their tables
pub record PutsEntry (x : List ℕ) (sort : Sort) (p : ℕ) (b : Sums) (k : Tags) (l : List Row) (u u' e e' : List ℕ) : Type 0 where
  pub uids : u' ≡ cond (is_entry sort) (set u b.entries (uid_of (heads k))) u
  pub table : e' ≡ cond (is_entry sort) (entry_put b.entries (nine b.files b.rows (entry_with x sort p k l)) e) e

abbrev pub EntryListed : List ℕ → List ℕ → Sort → ℕ → Sums → ℕ → List ℕ → List ℕ → List ℕ → List ℕ → Type 0
EntryListed x t sort p b count u u' e e' =
    (k : Tags) (l : List Row) → (is_entry sort ≡ true → Placed x sort (heads k) t) → (is_entry sort ≡ true → TagsPlaced x sort k t) → count ≡ length l
    → PutsEntry x sort p b k l u u' e e'

-- what a walk has gathered
abbrev pub all_of : Walk → All
all_of w = gathered w.sums w.uids.now w.entry_table.now w.row_table.now

-- the tables that a walk fills are the same after, whatever is in them
pub record SameTables (before after : Walk) : Type 0 where
  pub entry_table : after.entry_table.ghost_name ≡ before.entry_table.ghost_name
  pub row_table : after.row_table.ghost_name ≡ before.row_table.ghost_name
  pub entry_room : length after.entry_table.now ≡ length before.entry_table.now
  pub row_room : length after.row_table.now ≡ length before.row_table.now

-- the end of an element of sort s in directory p, where b was gathered before it, and whose children stand at places t of the text
pub record Closes (x : Source) (t : List ℕ) (s : Sort) (p : ℕ) (b : Sums) (before after : Walk) : Type 0 where
  pub same : SameTables before after
  pub gathers : (k : Tags) → (is_entry s ≡ true → Placed x.text.now s (heads k) t) → (is_entry s ≡ true → TagsPlaced x.text.now s k t)
      → all_of after ≡ after_element x.text.now (asked x) s k p b (all_of before)

-- of one that has no children
pub record ClosesEmpty (x : Source) (s : Sort) (p : ℕ) (b : Sums) (before after : Walk) : Type 0 where
  pub same : SameTables before after
  pub gathers : all_of after ≡ after_element x.text.now (asked x) s none p b (after_row s none_seen (all_of before))

-- the walk over the row at a place of the text, in an element of that kind in directory p: what is gathered after it; where reading goes on; and the
-- places of the row's elements
pub record WalksRow (x : Source) (kind : Sort) (at p : ℕ) (before after : Walk) (r : Left) : Type 0 where
  pub same : SameTables before after
  pub gathers : all_of after ≡ sweep x.text.now (asked x) kind p none_seen (tags_at x.text.now at) (all_of before)
  pub behind : Behind x.text.now at r.at
  pub places : Placed x.text.now kind (forest_at x.text.now at) r.places
  pub tags : TagsPlaced x.text.now kind (tags_at x.text.now at) r.places

-- nothing gathered yet
abbrev pub nothing_yet : Sums
nothing_yet = record { structure = true; few = true; values = true; own = true; lawful = true; entries = 0; files = 0; rows = 0 }

-- the entries es of an index and all their rows stand in the front of tables that have room for all of them
pub record Listed (es : List Entry) (e e' r r' : List ℕ) : Type 0 where
  pub entries : length es * 9 ≤ length e → e' ≡ sets e 0 (nines es)
  pub rows : length (entry_rows es) * 5 ≤ length r → r' ≡ sets r 0 (numbers_of (entry_rows es))

-- nothing in an index's children k is refused but for the place of the index; so many entries, files and rows are in it
pub record Counted (g : Given) (k : Forest) (e f r : ℕ) : Type 0 where
  pub sound : (letter block release : ℕ) → children_read g letter block release k ≡ require (stands_at letter block (location_in k)) refusal.Location (Ok (index_with release k))
  pub entries : e ≡ entries_of (elements index k)
  pub files : f ≡ file_count (elements index k)
  pub rows : r ≡ row_count (elements index k)

-- they are refused, wherever the index is to stand
abbrev pub Refuses : Given → Forest → Refusal → Type 0
Refuses g k r = (letter block release : ℕ) → children_read g letter block release k ≡ Err r

-- what the sums a of the walk over an index's children k refuse
abbrev pub Summed : Given → Tags → Sums → List Entry → List ℕ → List ℕ → List ℕ → List ℕ → Result Unit Refusal → Type 0
Summed g k a es e e' o o' (Ok u) = Counted g (heads k) a.entries a.files a.rows × Listed es e e' o o'
Summed g k a es e e' o o' (Err r) = Refuses g (heads k) r

-- the same of any index, u the table with the fileuids
abbrev pub SumsUp : List ℕ → Sums → Result Unit Refusal → Type 0
SumsUp u a r =
    (s : List ℕ) (g : Given) (k : Tags) (u₀ e e' o o' : List ℕ) → gathered a u e' o' ≡ sweep s g index 0 none_seen k (gathered nothing_yet u₀ e o)
    → Summed g k a (entries_in s index 0 0 k) e e' o o' r

-- the survey of an index whose children are that row, with its tables before and after
pub record Surveyed (g : Given) (s : List ℕ) (at : ℕ) (e e' o o' : List ℕ) (r : Gathered) : Type 0 where
  pub counted : Counted g (forest_at s at) r.entries r.files r.rows
  pub places : Placed s index (forest_at s at) r.places
  pub tags : TagsPlaced s index (tags_at s at) r.places
  pub tables : Listed (entries_in s index 0 0 (tags_at s at)) e e' o o'

abbrev pub Surveys : Source → ℕ → List ℕ → List ℕ → List ℕ → List ℕ → Result Gathered Refusal → Type 0
Surveys x at e e' o o' (Ok r) = Surveyed (asked x) x.text.now at e e' o o' r
Surveys x at e e' o o' (Err r) = Refuses (asked x) (forest_at x.text.now at) r

-- where an index is answered, its entries and rows are in their tables
abbrev pub IsListed : List Entry → List ℕ → List ℕ → List ℕ → List ℕ → Result Header Refusal → Type 0
IsListed es e e' o o' (Ok h) = Listed es e e' o o'
IsListed es e e' o o' (Err r) = Unit {0}

-- what is read of a text s whose root's children are t, and is that index or is refused, with its tables before and after
pub record ReadsInto (s : List ℕ) (t : Tags) (a : Answer Index) (e e' o o' : List ℕ) (r : Result Header Refusal) : Type 0 where
  pub reads : ReadsAs s (update_time_in s t) a r
  pub tables : IsListed (entries_in s index 0 0 t) e e' o o' r

abbrev pub ReadsAll : List ℕ → Answer Index → List ℕ → List ℕ → List ℕ → List ℕ → Result Header Refusal → Type 0
ReadsAll s = ReadsInto s (children_of_first (tags_at s 38))

module _ (x : Source) (p : Location) where
  -- what is read of an index at that place: by its release and the row of its children
  abbrev pub ReadsChildren : ℕ → ℕ → List ℕ → List ℕ → List ℕ → List ℕ → Result Header Refusal → Type 0
  ReadsChildren release at =
      ReadsInto x.text.now (tags_at x.text.now at) (children_read (asked x) p.letter p.block.0 release (forest_at x.text.now at))

  -- by its root's tag
  abbrev pub ReadsTag : ℕ → List ℕ → List ℕ → List ℕ → List ℕ → Result Header Refusal → Type 0
  ReadsTag n =
      ReadsInto x.text.now (tags_in (drop n x.text.now)) (tag_read (asked x) p.letter p.block.0 (head_at x.text.now n) (children_at x.text.now n))

  -- by its text in the XML form
  abbrev pub ReadsRoot : List ℕ → List ℕ → List ℕ → List ℕ → Result Header Refusal → Type 0
  ReadsRoot = ReadsAll x.text.now (root_read (asked x) p.letter p.block.0 (forest_at x.text.now 38))
