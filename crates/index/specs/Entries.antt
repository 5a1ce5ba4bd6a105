-- The entries of an index: directories and files (01, Index), in text order, by their start tags; each with the directory that holds it.
use Rattle.std.specs.Prelude.{Bool, cond, List, [], ◌∷◌, ◌++◌, ℕ, ◌+◌, length}
use Rattle.slices.specs.Words.{bytes}
use Rattle.xml.specs.Tree.{none, node, tag_head}
use Rattle.elements.specs.Tags.{Tags, heads, tags_at}
use Rattle.elements.specs.declared.heads.Span.{Span}
use Rattle.children.specs.Children.{children_of_first}
use Rattle.children.specs.Places.{tags_named, first_text}
use Rattle.extents.specs.declared.Row.{Row}
use Rattle.index_names.specs.declared.Sort.{Sort}
use Rattle.index_names.specs.declared.Sort.TheVariants.{Index as index}
use Rattle.index_names.specs.Sorts.{holds_elements, is_file}
use Rattle.index_values.specs.Elements.{sort_of}
use Rattle.index_values.specs.Entries.{is_entry, uid_of}
use Rattle.index_values.specs.Tests.{length_of, rows_held}

-- an entry: whether it is a file; the number of the directory that holds it, which for the root is its own; its fileuid; where its name stands in the
-- text; its length and its rows, 0 and none of a directory
pub record Entry : Type 0 where
  pub is_file : Bool
  pub parent : ℕ
  pub fileuid : ℕ
  pub name : Span
  pub length : ℕ
  pub rows : List Row

-- the directory that holds what is in an element of that sort: it, with n entries before it, or else the one around it
abbrev pub holder : Sort → ℕ → ℕ → ℕ
holder sort p n = cond (is_entry sort) n p

module _ (s : List ℕ) where
  -- where the name stands of an element with those children
  abbrev pub name_in : Tags → Span
  name_in k = first_text s (tags_named (bytes "name") k)

  -- the entry that an element of that sort with those children is, in directory p, with rows l
  unfoldable pub entry_with : Sort → ℕ → Tags → List Row → Entry
  entry_with sort p k l =
      record {
        is_file = is_file sort;
        parent = p;
        fileuid = uid_of (heads k);
        name = name_in k;
        length = cond (is_file sort) (length_of (heads k)) 0;
        rows = l;
      }

  abbrev pub entry_of : Sort → ℕ → Tags → Entry
  entry_of sort p k = entry_with sort p k (rows_held sort (heads k))

  abbrev pub entry_itself : Sort → ℕ → Tags → List Entry
  entry_itself sort p k = cond (is_entry sort) (entry_of sort p k ∷ []) []

  -- the entries of a row in an element of that kind, and those in them; the row is in directory p, and n entries come before it
  unfoldable pub entries_in : Sort → ℕ → ℕ → Tags → List Entry
  entries_in kind p n none = []
  entries_in kind p n (node r k f) =
      let sort = sort_of kind (tag_head r) in
      let one = entry_itself sort p k in
      let inner = cond (holds_elements sort) (entries_in sort (holder sort p n) (n + length one) k) [] in
      one ++ (inner ++ entries_in kind p (n + length one + length inner) f)

  -- of an index's text
  abbrev pub index_entries : List Entry
  index_entries = entries_in index 0 0 (children_of_first (tags_at s 38))

-- their rows, one entry after the other
unfoldable pub entry_rows : List Entry → List Row
entry_rows [] = []
entry_rows (e ∷ l) = e.rows ++ entry_rows l

-- how many of them are files
unfoldable pub entry_files : List Entry → ℕ
entry_files [] = 0
entry_files (e ∷ l) = cond e.is_file 1 0 + entry_files l

-- nine numbers of an entry: 1 for a file and 0 for a directory, its parent, how many files come before it, its fileuid, where its name stands and the
-- name's length there, its length, how many rows come before its own, and how many it has
unfoldable pub nine : ℕ → ℕ → Entry → List ℕ
nine files rows e =
    cond e.is_file 1 0 ∷ e.parent ∷ files ∷ e.fileuid ∷ e.name.from ∷ e.name.len ∷ e.length ∷ rows ∷ length e.rows ∷ []

-- of each, with so many files and rows before the first
unfoldable pub nines_from : ℕ → ℕ → List Entry → List ℕ
nines_from files rows [] = []
nines_from files rows (e ∷ l) = nine files rows e ++ nines_from (files + cond e.is_file 1 0) (rows + length e.rows) l

abbrev pub nines : List Entry → List ℕ
nines = nines_from 0 0
