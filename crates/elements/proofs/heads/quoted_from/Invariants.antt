-- `quoted_from` meets its contract. Invariant: what is quoted from here on is what is quoted from at on.
use Rattle.std.proofs.Common.{◌≡◌, ◌+◌, drop}
use Rattle.xml.specs.Tree.{quoted}
use Rattle.elements.proofs.heads.quoted_from.Given as goal

abbrev pub invariant-loop-k : goal.invariant-loop-k
invariant-loop-k l = quoted (drop l.at l.text) ≡ quoted (drop (l.at + l.k) l.text)
