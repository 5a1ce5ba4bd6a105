-- `other_start` meets its contract: each part by the function that reads it.
use mathlib.Core.Path.{ap}
use mathlib.Core.Bool.{not}
use mathlib.Core.List.{List}
use Prim.Native.Nat.{ℕ}
use native.Mathlib.Omega.{arith}
use lib.Dec.{eqb}
use lib.ListN.{length}
use Rattle.xml.proofs.Past.{past_ahead}
use Rattle.elements.proofs.Plain.{start_told}
use Rattle.elements.proofs.starts.other_start.Goals as goal

pub tag_end-tag-requires : goal.tag_end-tag-requires
tag_end-tag-requires c = omega (arith, past_ahead c.requires, c.requires.inside)

pub overflow_sub-result : goal.overflow_sub-result
overflow_sub-result c = omega (arith, past_ahead c.requires)

pub returns : goal.returns
returns c = start_told c.args.text.now c.args.n c.args.e c.requires c.tag_end-tag.result.empty c.tag_end-tag.result.at c.tag_end-tag.ensures.0 _ (ap (λ (k : List ℕ). eqb (length k) 0) c.key_of.ensures) c.text_at-said.result c.text_at-said.ensures _ (ap not c.has_children-leaf.ensures) c.next_of-next.ensures
