-- The index of a text is that of the tree that the grammar derives of it.
use mathlib.Core.Path.{◌≡◌, ap}
use mathlib.Core.Bool.{true}
use mathlib.Core.List.{List}
use Prim.Native.Nat.{ℕ, ◌≤◌}
use borrow.Author.Tests.{le-leb}
use lib.ListN.{length}
use Rattle.xml.specs.Tree.{Head, Forest, none, node, top}
use Rattle.xml.specs.Grammar.{Document}
use Rattle.xml.specs.CheckSteps.{form, good, in_form}
use Rattle.xml.proofs.Form.{same_form}
use Rattle.xml.proofs.Trees.{tree_read}
use Rattle.elements.specs.Reading.{forest_at}
use Rattle.index_values.specs.Tests.{Given}
use Rattle.index.specs.Index.{tag_read, root_read, caller_right, index_of}

pub index_of_tree : (g : Given) (letter block : ℕ) {h : Head} {k : Forest} {s : List ℕ} → Document (node h k none) s
    → caller_right g letter ≡ true → length s ≤ 1048576 → index_of g letter block s ≡ tag_read g letter block h k
unfolding index_of in_form root_read top
index_of_tree g letter block {h} {k} {s} d c l =
    let e : form s ≡ good = (same_form s).1 (node h k none, d) in
    let z : forest_at s 38 ≡ node h k none = ap top (tree_read d) in
    rw (c, le-leb _ _ l, e, z)
