-- The elements of a text by their tags (01, The XML form). A tag is told by what follows its `<`, to the end of the text: so it has one place
-- there, and so has the text of its element.
use Rattle.std.specs.Prelude.{cond, List, ℕ, ◌-◌, length, drop}
use Rattle.xml.specs.Tree.{Tree, Forest, none, node, past, tag_head, top, pop, trees}
use Rattle.elements.specs.declared.heads.Span.{Span}

-- elements in a row, each told by its tag
abbrev pub Tags : Type 0
Tags = Tree (List ℕ)

module _ {A : Type 0} (tell : List ℕ → A) where
  -- the same elements, told by something else
  unfoldable pub told : Tags → Tree A
  told none = none
  told (node r k f) = node (tell r) (told k) (told f)

-- by their heads
abbrev pub heads : Tags → Forest
heads = told tag_head

-- what is left to read of a text
abbrev pub tags_of : List ℕ → List Tags
tags_of = trees (λ r. r)

-- what is left to read at i: of the element that is open there, of the one around it, and so on
abbrev pub tags_left : List ℕ → ℕ → List Tags
tags_left s i = tags_of (drop i s)

-- the elements from i on in the element that is open there
abbrev pub tags_at : List ℕ → ℕ → Tags
tags_at s i = top (tags_left s i)

-- what is left around that element
abbrev pub tags_around : List ℕ → ℕ → List Tags
tags_around s i = pop (tags_left s i)

-- the children of the element with the tag r
unfoldable pub tags_in : List ℕ → Tags
tags_in r = cond (past 0 0 r).empty none (top (tags_of r))

-- the place of the tag r in the text s: that of the byte behind its `<`
abbrev pub tag_place : List ℕ → List ℕ → ℕ
tag_place s r = length s - length r

-- where the text of its element stands: it begins where the tag ends
abbrev pub text_place : List ℕ → List ℕ → Span
text_place s r = record { from = length s - length (past 0 0 r).rest; len = length (tag_head r).text }
