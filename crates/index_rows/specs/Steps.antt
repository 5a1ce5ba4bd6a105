-- The first element of each number in a row (01, Index), and where it stands in a text.
use Rattle.std.specs.Prelude.{◌≡◌, cond, ◌&&◌, List, ℕ, ◌<◌, eqb, ltb, get_or, set}
use Rattle.xml.specs.Tree.{Tree, Forest, none, node, tag_head}
use Rattle.elements.specs.Tags.{Tags}
use Rattle.elements.specs.Reading.{Spans}
use Rattle.elements.specs.declared.heads.Span.{Span}
use Rattle.children.specs.Children.{text_of_first}
use Rattle.children.specs.Places.{first_text}
use Rattle.children.specs.RowSteps.{seat, tag_seat}
use Rattle.index_names.specs.declared.Sort.{Sort}
use Rattle.index_names.specs.Names.{names, number_in}

module _ {A : Type 0} (name : A → List ℕ) where
  -- the first element of that number, alone, in a row of an element of that kind, by its name
  unfoldable pub first_by : Sort → ℕ → Tree A → Tree A
  first_by kind j none = none
  first_by kind j (node x c r) = cond (eqb (number_in (names kind) (name x)) j) (node x c none) (first_by kind j r)

abbrev pub first_in : Sort → ℕ → Forest → Forest
first_in = first_by (λ h. h.name)

-- the same by its tag
abbrev pub first_tag : Sort → ℕ → Tags → Tags
first_tag = first_by (λ r. (tag_head r).name)

-- an element of number j stands at n: its place is noted if there is none yet
unfoldable pub noted : ℕ → ℕ → List ℕ → List ℕ
noted j n t = cond (ltb j 16 && eqb (get_or t j 0) 0) (set t j n) t

-- t has the places of the first elements of a row
abbrev pub Placed : List ℕ → Sort → Forest → List ℕ → Type 0
Placed s kind f t = (j : ℕ) → j < 16 → first_in kind j f ≡ seat s (get_or t j 0)

-- and of their tags
abbrev pub TagsPlaced : List ℕ → Sort → Tags → List ℕ → Type 0
TagsPlaced s kind f t = (j : ℕ) → j < 16 → first_tag kind j f ≡ tag_seat s (get_or t j 0)

-- w is where the text of the element at n stands; nothing at 0 for the place 0
pub record TextSeated (s : List ℕ) (n : ℕ) (w : Span) : Type 0 where
  pub place : w ≡ first_text s (tag_seat s n)
  pub spans : Spans s w.from w.len (text_of_first (seat s n))
