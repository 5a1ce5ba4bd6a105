-- `within_end` meets its contract.
use mathlib.Core.Path.{refl}
use native.Mathlib.Omega.{arith}
use lib.ListN.{length}
use borrow.Author.Rules.{rules}
use borrow.Author.Tests.{lt-ltb, le-ltb}
use Rattle.xml.specs.CheckSteps.{form_step, ended}
use Rattle.xml.proofs.Scanned.{found_none, scan_refused, scan_at, scan_done, scan_out}
use Rattle.xml.proofs.characters.within_end.Goals as goal

pub returns-in_default : goal.returns-in_default
unfolding form_step ended
returns-in_default c =
    λ p n. scan_refused c.in-Some.b.now (c.in-Some.ensures.lookup.4 (omega arith) 0) (search rules) refl (λ ns. simp (le-ltb _ _ c.if-lo-b.true, lt-ltb _ _ c.if-b-hi.false))

pub returns-in_default-2 : goal.returns-in_default-2
unfolding form_step ended
returns-in_default-2 c =
    λ p n. scan_refused c.in-Some.b.now (c.in-Some.ensures.lookup.4 (omega arith) 0) (search rules) refl (λ ns. simp (lt-ltb _ _ c.if-lo-b.false))

pub returns-in_default-3 : goal.returns-in_default-3
unfolding ended
returns-in_default-3 c = λ p n. scan_out (search rules) (found_none c.args.i (length c.args.text.now) c.in_default.is c.get.ensures.lookup.0) refl

pub returns-in-Some : goal.returns-in-Some
unfolding form_step
returns-in-Some c =
    let g = c.in-Some.ensures.lookup in
    λ p n. scan_at c.in-Some.b.now g.3.0 (g.4 (omega arith) 0) (λ ns. simp (le-ltb _ _ c.if-lo-b.true, le-ltb _ _ c.if-b-hi.true)) (scan_done (omega (arith, g.3.0)))
