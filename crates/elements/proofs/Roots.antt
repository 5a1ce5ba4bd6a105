-- The root of a text in the form, and how deep the elements at a place are nested: what a reader that starts at the root relies on.
use mathlib.Core.Path.{◌≡◌, ap, ◌∙◌, sym, subst}
use mathlib.Core.List.{List, []}
use Prim.Native.Nat.{ℕ, ◌<◌, ◌≤◌}
use native.Mathlib.Omega.{arith}
use Rattle.xml.specs.Tree.{Head, Forest, none, node, top, pop, opened}
use Rattle.xml.specs.FormSteps.{Reads, height}
use Rattle.elements.specs.declared.tags.Tag.TheVariants.{Open}
use Rattle.elements.specs.Reading.{forest_at, head_at, children_at}
use Rattle.elements.specs.TagSteps.{around_at, NextTag, FirstOf}

module _ {s : List ℕ} {h : Head} {k : Forest} (form : Reads s h k) where
  -- behind the declaration the root stands alone
  pub root_row : forest_at s 38 ≡ node h k none
  unfolding top
  root_row = ap top form.tree

  pub root_around : around_at s 38 ≡ []
  unfolding pop
  root_around = ap pop form.tree

  pub root_there : forest_at s 38 ≡ none → ⊥
  root_there e = let z : node h k none ≡ none = sym root_row ∙ e in let y : ◌≡◌ {A = ℕ} 0 1 = cc in omega arith

  -- its tag is at n, and nothing follows it
  module _ {n j : ℕ} (first : FirstOf s 38 n j) where
    same_node : node (head_at s n) (children_at s n) (forest_at s j) ≡ node h k none
    same_node = sym first.row ∙ root_row

    pub root_head : head_at s n ≡ h
    root_head = let z = same_node in cc

    pub root_children : children_at s n ≡ k
    root_children = let z = same_node in cc

    pub root_alone : forest_at s j ≡ none
    root_alone = let z = same_node in cc

  pub root_height : height (forest_at s 38) ≤ 64
  root_height = subst (λ (f : Forest). height f ≤ 64) (sym root_row) form.bounded

-- children are nested less deep than the row that their element stands in, and the rest of the row no deeper
module _ (h : Head) (k f : Forest) where
  pub height_children : height k < height (node h k f)
  unfolding height
  height_children = omega arith

  pub height_after : height f ≤ height (node h k f)
  unfolding height
  height_after = omega arith

module _ {s : List ℕ} {i n : ℕ} where
  pub height_open : NextTag s i (Open n) → height (forest_at s n) < height (forest_at s i)
  unfolding top opened
  height_open t = rw t.left (height_children _ _ _)

  module _ {j : ℕ} (first : FirstOf s i n j) where
    pub height_first : height (children_at s n) < height (forest_at s i)
    height_first = rw first.row (height_children _ _ _)

    pub height_rest : height (forest_at s j) ≤ height (forest_at s i)
    height_rest = rw first.row (height_after _ _ _)
