-- `past_spaces` meets its contract. Invariant: the bytes from `from` to i are white space.
use mathlib.Core.Path.{refl}
use Prim.Native.Nat.{◌+◌}
use borrow.Author.Rules.{rules}
use Rattle.xml.proofs.KindTable.{no_space, a_space}
use Rattle.xml.proofs.Past.{along_on, along_then, along_stop, along_end}
use Rattle.xml.proofs.bytes.past_spaces.Goals as goal

pub loop-i-preserved : goal.loop-i-preserved
loop-i-preserved c = along_then (along_on c.loop-i.invariant (search rules) (a_space c.kind.result _ c.kind.ensures c.if-kind-eq100.true) (c.loop-i.i + 1) refl) c.past_indentation-i.ensures

pub returns-else-kind-eq100 : goal.returns-else-kind-eq100
returns-else-kind-eq100 c = along_stop c.loop-i.invariant (search rules) (no_space c.kind.result _ c.kind.ensures c.if-kind-eq100.false)

pub returns-after-loop-i : goal.returns-after-loop-i
returns-after-loop-i c = along_end c.loop-i.invariant (search rules)
