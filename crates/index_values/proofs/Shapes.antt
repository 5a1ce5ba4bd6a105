-- Whether an element has children, by what the look at its start tag tells.
use mathlib.Core.Path.{◌≡◌, refl}
use mathlib.Core.Bool.{Bool, true, false, not}
use mathlib.Core.List.{List}
use Prim.Native.Nat.{ℕ}
use Rattle.xml.specs.Tree.{Forest, node}
use Rattle.elements.specs.declared.starts.Start.{Start}
use Rattle.elements.specs.Reading.{forest_at, head_at, children_at}
use Rattle.elements.specs.StartSteps.{StartsElement}
use Rattle.elements.proofs.Rows.{node_open, node_empty}

pub no_row : {leaf row : Bool} → leaf ≡ not row → leaf ≡ true → row ≡ false
no_row {leaf = leaf} {row = true} e l = cc
no_row {leaf = leaf} {row = false} e l = refl

pub has_row : {leaf row : Bool} → leaf ≡ not row → leaf ≡ false → row ≡ true
has_row {leaf = leaf} {row = true} e l = refl
has_row {leaf = leaf} {row = false} e l = cc

-- the row begins with the element that comes next
pub start_node : {s : List ℕ} {i : ℕ} {x : Start} → StartsElement s i x → (r : Forest) × (forest_at s i ≡ node (head_at s x.at) (children_at s x.at) r)
start_node {s} {i} {x} o = go x.empty refl
  where
    go : (b : Bool) → x.empty ≡ b → (r : Forest) × (forest_at s i ≡ node (head_at s x.at) (children_at s x.at) r)
    go true e = (_, node_empty (rw e at o.tag))
    go false e = (_, node_open (rw e at o.tag))
