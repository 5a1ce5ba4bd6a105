-- Structure of an index (01, Index and Refusal numbers: 5): which elements stand in which, how often, and what they hold.
use Rattle.std.specs.Prelude.{Bool, cond, not, ◌&&◌, ◌||◌, ℕ, suc, eqb, leb, ltb, length}
use Rattle.slices.specs.Slices.{every}
use Rattle.xml.specs.Bytes.{is_space}
use Rattle.xml.specs.Tree.{Head, Forest, none, node}
use Rattle.elements.specs.Reading.{has_element}
use Rattle.children.specs.Children.{below}
use Rattle.index_names.specs.declared.Sort.{Sort}
use Rattle.index_names.specs.Sorts.{holds_elements, is_skipped, is_unknown}
use Rattle.index_names.specs.Tables.{must, repeats}
use Rattle.index_values.specs.Elements.{IndexElement, name_number}

-- it may stand where it does; it has no attribute; one that holds elements has no other text, a value has no elements
unfoldable pub may_stand : Sort → Head → Forest → Bool
may_stand s h c =
    not (is_unknown s) && eqb (length h.key) 0
    && cond (holds_elements s) (has_element c || every is_space h.text) (is_skipped s || not (has_element c))

-- how many elements of a row in an element of that kind have the name of number j
unfoldable pub count : ℕ → Sort → Forest → ℕ
count j kind none = 0
count j kind (node h c r) = cond (eqb (name_number kind h) j) (suc (count j kind r)) (count j kind r)

-- the elements that must be there come once, the others at most once
abbrev pub right_often : ℕ → ℕ → ℕ → Bool
right_often needed j n = cond (ltb j needed) (eqb n 1) (leb n 1)

-- 16 is more than any kind has names, so names that are unknown are counted too. With `may_stand` of each of its elements, this is
-- `lawful_children` of children's specs/Children by the table of the kind's names: proofs/Lawful, row-lawful
unfoldable pub complete : Sort → Forest → Bool
complete kind f = repeats kind || below 16 (λ j. right_often (must kind) j (count j kind f))

-- 5, of an element
unfoldable pub rightly : IndexElement → Bool
rightly e = may_stand e.sort e.head e.kids && (not (holds_elements e.sort) || complete e.sort e.kids)
