-- What a reader that goes from tag to tag owes: the next tag, the next element, where reading goes on behind an element.
use Rattle.std.specs.Prelude.{Option, None, Some, ◌≡◌, true, false, List, [], ℕ, ◌+◌, ◌≤◌, min, length, drop}
use Rattle.xml.specs.Tree.{Tree, Forest, none, node, front, not_open, tag_head, pop, closed, opened, alone, trees}
use Rattle.elements.specs.Tags.{tags_left, tags_at, tags_around, tags_in, text_place}
use Rattle.elements.specs.declared.tags.Tag.{Tag}
use Rattle.elements.specs.declared.tags.Tag.TheVariants.{End, Close, Open, Empty}
use Rattle.elements.specs.declared.tags.Child.{Child}
use Rattle.elements.specs.declared.heads.Span.{Span}
use Rattle.elements.specs.Reading.{Spans, children_at, empty_at, head_at, left_at, forest_at}

-- what is left around that element
abbrev pub around_at : List ℕ → ℕ → List Forest
around_at s i = pop (left_at s i)

module _ {A : Type 0} where
  -- what is left to read where this tag comes next
  abbrev pub seen : (List ℕ → A) → List ℕ → Tag → List (Tree A)
  seen tell s End = []
  seen tell s (Close n) = closed (trees tell (drop n s))
  seen tell s (Open n) = opened (tell (drop n s)) (trees tell (drop n s))
  seen tell s (Empty n) = alone (tell (drop n s)) (trees tell (drop n s))

-- it is an empty-element tag or not, as it is taken for
abbrev pub IsRightKind : List ℕ → Tag → Type 0
IsRightKind s End = Unit {0}
IsRightKind s (Close n) = Unit {0}
IsRightKind s (Open n) = empty_at s n ≡ false
IsRightKind s (Empty n) = empty_at s n ≡ true

-- n is the place behind the first `<` from i on
abbrev pub Next : List ℕ → ℕ → ℕ → Type 0
Next s i n = (n ≡ i + front not_open (drop i s) + 1) × (n ≤ length s)

abbrev pub IsAhead : List ℕ → ℕ → Tag → Type 0
IsAhead s i End = Unit {0}
IsAhead s i (Close n) = Next s i n
IsAhead s i (Open n) = Next s i n
IsAhead s i (Empty n) = Next s i n

-- the next tag from i on
pub record NextTag (s : List ℕ) (i : ℕ) (tag : Tag) : Type 0 where
  pub left : left_at s i ≡ seen tag_head s tag
  pub tags : tags_left s i ≡ seen (λ r. r) s tag
  pub kind : IsRightKind s tag
  pub place : IsAhead s i tag

-- at j reading goes on behind the element that is open at i
pub record Behind (s : List ℕ) (i j : ℕ) : Type 0 where
  pub left : left_at s j ≡ around_at s i
  pub tags : tags_left s j ≡ tags_around s i
  pub ahead : min i (length s) ≤ j
  pub inside : j ≤ length s

-- the first element of the row at i has its tag at n, and the row goes on at j
pub record FirstOf (s : List ℕ) (i n j : ℕ) : Type 0 where
  pub row : forest_at s i ≡ node (head_at s n) (children_at s n) (forest_at s j)
  pub around : around_at s i ≡ around_at s j
  pub tags : tags_at s i ≡ node (drop n s) (tags_in (drop n s)) (tags_at s j)
  pub tags_kept : tags_around s i ≡ tags_around s j
  pub place : Next s i n
  pub after : (n ≤ j) × (j ≤ length s)

-- the next element of the row at i
abbrev pub NextChild : List ℕ → ℕ → Option Child → Type 0
NextChild s i None = forest_at s i ≡ none
NextChild s i (Some c) = FirstOf s i c.at c.next

-- at j the row of the children of the element at n begins
pub record ChildrenFrom (s : List ℕ) (n j : ℕ) : Type 0 where
  pub row : forest_at s j ≡ children_at s n
  pub tags : tags_at s j ≡ tags_in (drop n s)
  pub inside : j ≤ length s

-- w is where the text of the element at n stands
pub record TextAt (s : List ℕ) (n : ℕ) (w : Span) : Type 0 where
  pub place : w ≡ text_place s (drop n s)
  pub spans : Spans s w.from w.len (head_at s n).text
