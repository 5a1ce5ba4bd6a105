-- `behind` meets its contract: a place told with the element, or the end of what is inside it.
use Rattle.elements.proofs.Plain.{inner_first}
use Rattle.index.proofs.walk.behind.Goals as goal

pub returns-then-h : goal.returns-then-h
returns-then-h c i o = o.next c.if-h.true

pub returns-else-h : goal.returns-else-h
returns-else-h c i o = inner_first o c.if-h.false c.leave.ensures
