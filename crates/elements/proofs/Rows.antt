-- How the elements at a place unfold. A row is none, or its first element and the row behind that; what is left around a row does not change
-- along it.
use mathlib.Core.Path.{◌≡◌, refl, ap, ◌∙◌, sym}
use mathlib.Core.Bool.{true, false}
use mathlib.Core.List.{List, []}
use Prim.Native.Nat.{ℕ, ◌≤◌, min}
use native.Mathlib.Omega.{arith}
use lib.ListN.{length, drop}
use Rattle.xml.specs.Tree.{Forest, none, node, tag_head, closed, opened, alone, top, pop}
use Rattle.elements.specs.declared.tags.Tag.{Tag}
use Rattle.elements.specs.declared.tags.Tag.TheVariants.{End, Close, Open, Empty}
use Rattle.elements.specs.Reading.{left_at, forest_at, head_at, children_at, has_element}
use Rattle.elements.specs.TagSteps.{around_at, NextTag, Behind, FirstOf}
use Rattle.elements.specs.Tags.{tags_left, tags_at, tags_around, tags_in}
use Rattle.elements.proofs.ByTag.{left_kept}
use Rattle.elements.proofs.Left.{left_end}

-- past the end there is nothing
pub row_past : (s : List ℕ) (i : ℕ) → length s ≤ i → forest_at s i ≡ none
unfolding top
row_past s i h = ap top (left_end tag_head s i h)

pub around_past : (s : List ℕ) (i : ℕ) → length s ≤ i → around_at s i ≡ []
unfolding pop
around_past s i h = ap pop (left_end tag_head s i h)

-- what is left by tags says where reading goes on
pub behind : (s : List ℕ) (i j : ℕ) → tags_left s j ≡ tags_around s i → min i (length s) ≤ j → j ≤ length s → Behind s i j
behind s i j e a b = record { left = left_kept s i j e; tags = e; ahead = a; inside = b }

module _ {s : List ℕ} {i : ℕ} where
  -- the text ends
  pub row_end : NextTag s i End → forest_at s i ≡ none
  unfolding top
  row_end t = ap top t.left

  pub around_end : NextTag s i End → around_at s i ≡ []
  unfolding pop
  around_end t = ap pop t.left

  module _ {n : ℕ} where
    -- an end tag comes next
    pub row_close : NextTag s i (Close n) → forest_at s i ≡ none
    unfolding top closed
    row_close t = ap top t.left

    pub around_close : NextTag s i (Close n) → around_at s i ≡ left_at s n
    unfolding pop closed
    around_close t = ap pop t.left

    -- an empty-element tag comes next
    pub row_empty : NextTag s i (Empty n) → forest_at s i ≡ node (head_at s n) none (forest_at s n)
    unfolding top alone
    row_empty t = ap top t.left

    pub around_empty : NextTag s i (Empty n) → around_at s i ≡ around_at s n
    unfolding pop alone
    around_empty t = ap pop t.left

    -- a start tag comes next; its element is left at j
    module _ {j : ℕ} where
      pub row_open : NextTag s i (Open n) → Behind s n j → forest_at s i ≡ node (head_at s n) (forest_at s n) (forest_at s j)
      unfolding top opened
      row_open t l = ap top t.left ∙ rw l.left

      pub around_open : NextTag s i (Open n) → Behind s n j → around_at s i ≡ around_at s j
      unfolding pop opened
      around_open t l = ap pop t.left ∙ sym (ap pop l.left)

    -- the children of the element at n
    pub children_open : NextTag s i (Open n) → children_at s n ≡ forest_at s n
    unfolding children_at
    children_open t = rw t.kind

    pub children_empty : NextTag s i (Empty n) → children_at s n ≡ none
    unfolding children_at
    children_empty t = rw t.kind

    -- the row begins with the element at n
    pub node_open : NextTag s i (Open n) → forest_at s i ≡ node (head_at s n) (children_at s n) (top (around_at s n))
    unfolding top opened
    node_open t = ap top t.left ∙ ap (λ (k : Forest). node (head_at s n) k (top (around_at s n))) (sym (children_open t))

    pub node_empty : NextTag s i (Empty n) → forest_at s i ≡ node (head_at s n) (children_at s n) (forest_at s n)
    node_empty t = row_empty t ∙ ap (λ (k : Forest). node (head_at s n) k (forest_at s n)) (sym (children_empty t))

    -- the same by tags
    tags_open : {j : ℕ} → NextTag s i (Open n) → Behind s n j → tags_at s i ≡ node (drop n s) (tags_in (drop n s)) (tags_at s j)
    unfolding top opened tags_in
    tags_open {j} t l = ap top t.tags ∙ rw (t.kind, l.tags)

    tags_empty : NextTag s i (Empty n) → tags_at s i ≡ node (drop n s) (tags_in (drop n s)) (tags_at s n)
    unfolding top alone tags_in
    tags_empty t = ap top t.tags ∙ rw t.kind

    -- the element at n is the first of the row at i
    pub first_open : {j : ℕ} → NextTag s i (Open n) → Behind s n j → FirstOf s i n j
    unfolding pop opened
    first_open {j} t l =
        record {
          row = row_open t l ∙ ap (λ (k : Forest). node (head_at s n) k (forest_at s j)) (sym (children_open t));
          around = around_open t l;
          tags = tags_open t l;
          tags_kept = ap pop t.tags ∙ sym (ap pop l.tags);
          place = t.place;
          after = (omega (arith, t.place, l.ahead), l.inside);
        }

    pub first_empty : NextTag s i (Empty n) → FirstOf s i n n
    unfolding pop alone
    first_empty t =
        record {
          row = node_empty t;
          around = around_empty t;
          tags = tags_empty t;
          tags_kept = ap pop t.tags;
          place = t.place;
          after = (omega arith, t.place.1);
        }

    -- an end tag leaves the element that is open at i
    pub behind_close : NextTag s i (Close n) → Behind s i n
    unfolding pop closed
    behind_close t = behind s i n (sym (ap pop t.tags)) (omega (arith, t.place)) t.place.1

  -- and so does the end of the text
  pub behind_end : NextTag s i End → Behind s i (length s)
  unfolding pop
  behind_end t =
      behind s i (length s) (left_end (λ r. r) s (length s) (omega arith) ∙ sym (ap pop t.tags)) (omega arith) (omega arith)

  -- what is left behind an element is the same from anywhere along its row
  pub behind_along : {k j : ℕ} → min k (length s) ≤ i → tags_around s k ≡ tags_around s i → Behind s i j → Behind s k j
  behind_along {k} {j} h e l = behind s k j (l.tags ∙ sym e) (omega (arith, l.ahead, l.inside)) l.inside

-- whether an element comes next
module _ {s : List ℕ} {i : ℕ} where
  pub one_open : (n : ℕ) → NextTag s i (Open n) → has_element (forest_at s i) ≡ true
  unfolding has_element top opened
  one_open n t = ap (λ f. has_element (top f)) t.left

  pub one_empty : (n : ℕ) → NextTag s i (Empty n) → has_element (forest_at s i) ≡ true
  unfolding has_element top alone
  one_empty n t = ap (λ f. has_element (top f)) t.left

  pub none_more : (tag : Tag) → NextTag s i tag → ((n : ℕ) → tag ≡ Open n → ⊥) → ((n : ℕ) → tag ≡ Empty n → ⊥) → has_element (forest_at s i) ≡ false
  unfolding has_element
  none_more End t a b = ap has_element (row_end t)
  none_more (Close n) t a b = ap has_element (row_close t)
  none_more (Open n) t a b = absurd (a n refl)
  none_more (Empty n) t a b = absurd (b n refl)
