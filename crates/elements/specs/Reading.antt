-- Places in a text, and the elements there (01, The XML form; xml's specs/Tree): what a reader that goes from tag to tag finds. A place
-- may lie anywhere, past the end too; a tag's place is that of the byte behind its `<`.
use Rattle.std.specs.Prelude.{◌≡◌, Bool, true, false, cond, List, ℕ, ◌+◌, ◌≤◌, length, take, drop}
use Rattle.xml.specs.Tree.{Head, Forest, none, node, past, tag_head, top, forests}
use Rattle.elements.specs.declared.heads.Span.{Span}

-- what is left to read at i: of the element that is open there, of the one around it, and so on
abbrev pub left_at : List ℕ → ℕ → List Forest
left_at s i = forests (drop i s)

-- the elements from i on in the element that is open there
abbrev pub forest_at : List ℕ → ℕ → Forest
forest_at s i = top (left_at s i)

-- the element whose tag is at n: whether that is an empty-element tag, its head, its children
abbrev pub empty_at : List ℕ → ℕ → Bool
empty_at s n = (past 0 0 (drop n s)).empty

abbrev pub head_at : List ℕ → ℕ → Head
head_at s n = tag_head (drop n s)

unfoldable pub children_at : List ℕ → ℕ → Forest
children_at s n = cond (empty_at s n) none (forest_at s n)

-- whether a row has an element
unfoldable pub has_element : Forest → Bool
has_element none = false
has_element (node h k f) = true

-- the n bytes from i on lie in the text s
abbrev pub Inside : List ℕ → ℕ → ℕ → Type 0
Inside s i n = i + n ≤ length s

-- the n bytes of the text s from i on are the part w
pub record Spans (s : List ℕ) (i n : ℕ) (w : List ℕ) : Type 0 where
  pub part : take n (drop i s) ≡ w
  pub inside : Inside s i n

-- that part of a text
abbrev pub part_at : List ℕ → Span → List ℕ
part_at s w = take w.len (drop w.from s)
