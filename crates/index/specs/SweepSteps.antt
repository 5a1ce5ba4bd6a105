-- What one walk over the elements gathers, step by step as the code does it; proofs/ says what that means for the whole text.
use Rattle.std.specs.Prelude.{Bool, cond, ◌&&◌, ◌||◌, List, ℕ, ◌+◌, ◌*◌, length, get_or, set, replicate, leb, ltb}
use Rattle.std.proofs.lemmas.List.Edits.{sets}
use Rattle.xml.specs.Tree.{Head, Forest, none, node, tag_head}
use Rattle.elements.specs.Tags.{Tags, heads}
use Rattle.extents.specs.declared.Row.{Row}
use Rattle.extents.specs.Rows.{numbers_of}
use Rattle.index_names.specs.declared.Sort.{Sort}
use Rattle.index_names.specs.Sorts.{holds_elements, is_file}
use Rattle.index_names.specs.Tables.{must, repeats}
use Rattle.index_values.specs.Elements.{name_number, sort_of}
use Rattle.children.specs.Children.{below}
use Rattle.index.specs.Structure.{may_stand, right_often}
use Rattle.index_values.specs.Entries.{is_entry, uid_of}
use Rattle.index_values.specs.Tests.{Given, valued, own, few, lawful_file}
use Rattle.index_values.specs.Steps.{rows_taken}
use Rattle.index.specs.Entries.{holder, entry_with, nine}
use Rattle.index.specs.declared.walk.Sums.{Sums}

-- numbers and flags; the fileuids; the numbers of the entries; the rows of the files
pub record All : Type 0 where
  pub sums : Sums
  pub uids : List ℕ
  pub entry_table : List ℕ
  pub row_table : List ℕ

abbrev pub gathered : Sums → List ℕ → List ℕ → List ℕ → All
gathered a u e r = record { sums = a; uids = u; entry_table = e; row_table = r }

-- the same with other numbers and flags
abbrev pub with_sums : Sums → All → All
with_sums b a = gathered b a.uids a.entry_table a.row_table

-- one more, up to a limit that no lawful count reaches
unfoldable pub one_more : ℕ → ℕ
one_more n = cond (ltb n 5000) (n + 1) n

-- k rows more, likewise
unfoldable pub more_rows : ℕ → ℕ → ℕ
more_rows n k = cond (leb n 8388608 && leb k 1024) (n + k) n

-- how often each name was seen in a row
abbrev pub none_seen : List ℕ
none_seen = replicate 16 0

unfoldable pub marked : ℕ → List ℕ → List ℕ
marked j m = set m j (one_more (get_or m j 0))

-- a row in an element of that kind is over
unfoldable pub row_done : Sort → List ℕ → Bool
row_done kind m = repeats kind || below 16 (λ j. right_often (must kind) j (get_or m j 0))

unfoldable pub ended_sums : Sort → List ℕ → Sums → Sums
ended_sums kind m a =
    record {
      structure = a.structure && row_done kind m;
      few = a.few;
      values = a.values;
      own = a.own;
      lawful = a.lawful;
      entries = a.entries;
      files = a.files;
      rows = a.rows;
    }

unfoldable pub after_row : Sort → List ℕ → All → All
after_row kind m a = with_sums (ended_sums kind m a.sums) a

-- the start tag of an element of sort s
unfoldable pub begun : Given → Sort → Head → Forest → Sums → Sums
begun g s h c a =
    record {
      structure = a.structure && may_stand s h c;
      few = a.few;
      values = a.values && valued s h.text;
      own = a.own && own g s h.text;
      lawful = a.lawful;
      entries = cond (is_entry s) (one_more a.entries) a.entries;
      files = cond (is_file s) (one_more a.files) a.files;
      rows = a.rows;
    }

-- the tests of its extents, and how many rows were taken of it
unfoldable pub settled : Bool → Bool → ℕ → Sums → Sums
settled isFew isLawful count a =
    record {
      structure = a.structure;
      few = a.few && isFew;
      values = a.values;
      own = a.own;
      lawful = a.lawful && isLawful;
      entries = a.entries;
      files = a.files;
      rows = more_rows a.rows count;
    }

-- the numbers of entry n, in a table that has room for them
unfoldable pub entry_put : ℕ → List ℕ → List ℕ → List ℕ
entry_put n v t = cond (leb ((n + 1) * 9) (length t)) (sets t (n * 9) v) t

-- rows behind n others, all of them or none
unfoldable pub rows_put : ℕ → List Row → List ℕ → List ℕ
rows_put n l t = cond (leb ((n + length l) * 5) (length t)) (sets t (n * 5) (numbers_of l)) t

-- the text x
module _ (x : List ℕ) (g : Given) where
  -- the end of an element of sort s with the children k, in directory p, where b was gathered before it: its extents are tested, its rows taken, and
  -- an entry's numbers are known
  unfoldable pub after_element : Sort → Tags → ℕ → Sums → All → All
  after_element s k p b a =
      let l = rows_taken s (heads k) in
      record {
        sums = settled (few s (heads k)) (lawful_file g s (heads k)) (length l) a.sums;
        uids = cond (is_entry s) (set a.uids b.entries (uid_of (heads k))) a.uids;
        entry_table = cond (is_entry s) (entry_put b.entries (nine b.files b.rows (entry_with x s p k l)) a.entry_table) a.entry_table;
        row_table = rows_put a.sums.rows l a.row_table;
      }

  -- the rest of a row in an element of that kind, in directory p, of which m is seen
  unfoldable pub sweep : Sort → ℕ → List ℕ → Tags → All → All
  sweep kind p m none a = after_row kind m a
  sweep kind p m (node r k f) a =
      let s = sort_of kind (tag_head r) in
      let b = with_sums (begun g s (tag_head r) (heads k) a.sums) a in
      sweep kind p (marked (name_number kind (tag_head r)) m) f
      (after_element s k p a.sums (cond (holds_elements s) (sweep s (holder s p a.sums.entries) none_seen k b) b))
