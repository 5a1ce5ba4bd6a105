-- The elements of an index in text order, each with its sort (01, Index). What is inside skipped elements is not among them.
use Rattle.std.specs.Prelude.{cond, List, [], ◌∷◌, ◌++◌, ℕ}
use Rattle.slices.specs.Slices.{same}
use Rattle.xml.specs.Tree.{Head, Forest, none, node}
use Rattle.index_names.specs.declared.Sort.{Sort}
use Rattle.index_names.specs.Sorts.{holds_elements}
use Rattle.index_names.specs.Tables.{sort}
use Rattle.index_names.specs.Names.{names, number_in}

-- an element: its sort, its head, and the elements in it
pub record IndexElement : Type 0 where
  pub sort : Sort
  pub head : Head
  pub kids : Forest

abbrev pub element : Sort → Head → Forest → IndexElement
element s h c = record { sort = s; head = h; kids = c }

-- its number among the names of the row, in an element of that kind
abbrev pub name_number : Sort → Head → ℕ
name_number kind h = number_in (names kind) h.name

abbrev pub sort_of : Sort → Head → Sort
sort_of kind h = sort kind (name_number kind h)

-- the elements of a row in an element of that kind, and those in them
unfoldable pub elements : Sort → Forest → List IndexElement
elements kind none = []
elements kind (node h c r) =
    element (sort_of kind h) h c ∷ (cond (holds_elements (sort_of kind h)) (elements (sort_of kind h) c) [] ++ elements kind r)

-- the text of the first element of that name in a row, and the elements in it; nothing where there is none
unfoldable pub text_in : List ℕ → Forest → List ℕ
text_in name none = []
text_in name (node h c r) = cond (same h.name name) h.text (text_in name r)

unfoldable pub children_in : List ℕ → Forest → Forest
children_in name none = none
children_in name (node h c r) = cond (same h.name name) c (children_in name r)
