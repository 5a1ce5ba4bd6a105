-- What a look at a start tag tells: the element there, and where reading goes on.
use Rattle.std.specs.Prelude.{Option, None, Some, ◌≡◌, Bool, true, false, not, cond, List, ℕ, eqb, length, drop}
use Rattle.xml.specs.Tree.{none}
use Rattle.elements.specs.Tags.{text_place}
use Rattle.elements.specs.Reading.{forest_at, head_at, empty_at, children_at, has_element, Spans}
use Rattle.elements.specs.TagSteps.{NextTag, Behind, FirstOf}
use Rattle.elements.specs.declared.tags.Tag.{Tag}
use Rattle.elements.specs.declared.tags.Tag.TheVariants as tag
use Rattle.elements.specs.declared.starts.Start.{Start}
use Rattle.elements.specs.declared.starts.Next.{Next}
use Rattle.elements.specs.declared.starts.Next.TheVariants.{End, Close, Opens}
use Rattle.elements.specs.declared.starts.Item.{Item}

-- what is told of the element is so
pub record Shape (s : List ℕ) (h : Start) : Type 0 where
  pub name : Spans s h.name.from h.name.len (head_at s h.at).name
  pub plain : h.plain ≡ eqb (length (head_at s h.at).key) 0
  pub empty : empty_at s h.at ≡ h.empty
  pub text : Spans s h.text.from h.text.len (head_at s h.at).text
  pub place : h.text ≡ text_place s (drop h.at s)
  pub leaf : h.leaf ≡ not (has_element (children_at s h.at))

-- where reading goes on at the element whose tag is at n, an empty-element tag or not, with children or without
pub record GoesOnAt (s : List ℕ) (n : ℕ) (empty leaf : Bool) (j : ℕ) : Type 0 where
  pub alone : empty ≡ true → j ≡ n
  pub left : empty ≡ false → leaf ≡ true → Behind s n j

-- the element whose tag is at n; one without children is left at the place told
pub record Opening (s : List ℕ) (n : ℕ) (h : Start) : Type 0 where
  pub here : h.at ≡ n
  pub shape : Shape s h
  pub alone : h.empty ≡ true → h.next ≡ n
  pub left : h.empty ≡ false → h.leaf ≡ true → Behind s n h.next

-- its tag
abbrev pub tag_of : Start → Tag
tag_of h = cond h.empty (tag.Empty h.at) (tag.Open h.at)

-- the element that comes next from i on; where it has no children, its row goes on at the place told
pub record StartsElement (s : List ℕ) (i : ℕ) (h : Start) : Type 0 where
  pub tag : NextTag s i (tag_of h)
  pub shape : Shape s h
  pub next : h.leaf ≡ true → FirstOf s i h.at h.next

abbrev pub NextStart : List ℕ → ℕ → Next → Type 0
NextStart s i End = NextTag s i tag.End
NextStart s i (Close n) = NextTag s i (tag.Close n)
NextStart s i (Opens h) = StartsElement s i h

-- the first element of the row at i; the row goes on at j
pub record ItemOf (s : List ℕ) (i : ℕ) (h : Start) (j : ℕ) : Type 0 where
  pub first : FirstOf s i h.at j
  pub shape : Shape s h

abbrev pub NextItem : List ℕ → ℕ → Option Item → Type 0
NextItem s i None = forest_at s i ≡ none
NextItem s i (Some e) = ItemOf s i e.start e.next
