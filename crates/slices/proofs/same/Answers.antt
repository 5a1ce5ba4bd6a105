-- `slices::same` meets its contract: as long as each other, and each pair the same.
use Rattle.std.proofs.Common.{rules}
use borrow.Author.Tests.{tests}
use Rattle.std.proofs.lemmas.Iterator.{YieldsList-from_slice, YieldsList-from_zip, same_from_all}
use Rattle.std.proofs.lemmas.Bool.Decides.{same_from_decides}
use Rattle.std.proofs.lemmas.Slice.Eq.{bytes_eq-Decides}
use Rattle.slices.proofs.same.Goals as goal

pub returns-then-a-b : goal.returns-then-a-b
returns-then-a-b c =
    let a = c.args in
    same_from_decides _ _
    (same_from_all c.all.new.self _ c.all.result a.a.now a.b.now c.all.ensures.ran
    (YieldsList-from_zip (YieldsList-from_slice a.a.now cc) (YieldsList-from_slice a.b.now cc)) c.if-a-b.true
    (λ x q k. search (rules, tests)) (λ x q k. search (rules, tests)))
    (bytes_eq-Decides a.a.now a.b.now)
