-- `tag_end` meets its contract: a name with `>` behind it at once; for any other, invariant: the tag ends from here on as it does from n on.
use Rattle.std.proofs.Common.{◌≡◌, ◌+◌, drop}
use Rattle.std.specs.Option.{unwrap_or}
use Rattle.xml.specs.Tree.{past}
use Rattle.elements.specs.ScanSteps.{IsQuote}
use Rattle.elements.proofs.scan.tag_end.Given as goal

abbrev pub invariant-loop-k : goal.invariant-loop-k
invariant-loop-k l = IsQuote l.quote × (past 0 0 (drop l.n l.text) ≡ past (unwrap_or l.quote 0) l.last (drop (l.n + l.k) l.text))
