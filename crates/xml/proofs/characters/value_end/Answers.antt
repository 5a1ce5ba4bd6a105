-- `value_end` meets its contract. Invariant: a scan of the value from i on is a scan of it from `from` on.
use mathlib.Core.Path.{refl}
use native.Mathlib.Omega.{arith}
use Rattle.std.proofs.lemmas.Result.{err_from_is_err_and}
use borrow.Author.Tests.{eq-eqb, ne_eqb}
use borrow.Author.Rules.{rules}
use Rattle.xml.specs.CheckSteps.{value, form_step, ended}
use Rattle.xml.proofs.Scanned.{scan_refused, scan_at, scan_done, scan_out, scan_then, scan_broken, scan_bounds}
use Rattle.xml.proofs.characters.value_end.Goals as goal

pub returns-then-b-q : goal.returns-then-b-q
unfolding form_step
returns-then-b-q c =
    let g = c.in-Some.ensures.lookup in
    c.loop-b.invariant.2 _ (scan_at c.in-Some.field-0.now g.3.0 (g.4 (omega arith) 0) (λ ns. simp (eq-eqb _ _ c.if-b-q.true)) (scan_done (omega (arith, g.3.0))))

pub returns-then-b-eq60 : goal.returns-then-b-eq60
unfolding form_step ended
returns-then-b-eq60 c =
    let g = c.in-Some.ensures.lookup in
    c.loop-b.invariant.2 _ (scan_refused c.in-Some.field-0.now (g.4 (omega arith) 0) (search rules) refl (λ ns. simp (ne_eqb _ _ c.if-b-q.false, eq-eqb _ _ c.if-b-eq60.true)))

pub loop-b-smaller : goal.loop-b-smaller
loop-b-smaller c =
    let b = scan_bounds c.in_ok-i.i (c.char_end.ensures (value c.args.q)) c.in_ok-i.was in
    search rules

pub loop-b-preserved : goal.loop-b-preserved
unfolding form_step
loop-b-preserved c =
    let g = c.in-Some.ensures.lookup in
    let r = c.char_end.ensures (value c.args.q) in
    let b = scan_bounds c.in_ok-i.i r c.in_ok-i.was in
    (search rules, search rules, λ s x. c.loop-b.invariant.2 s (scan_at c.in-Some.field-0.now g.3.0 (g.4 (omega arith) 0) (λ ns. simp (ne_eqb _ _ c.if-b-q.false, ne_eqb _ _ c.if-b-eq60.false)) (scan_then c.in_ok-i.i r c.in_ok-i.was x)))

pub returns-in_err-i : goal.returns-in_err-i
unfolding form_step
returns-in_err-i c =
    let g = c.in-Some.ensures.lookup in
    let r = c.char_end.ensures (value c.args.q) in
    let p = err_from_is_err_and c.from_residual.result c.from_residual.ensures.1 in
    rw (p.1, p.2)
    (c.loop-b.invariant.2 _ (scan_at c.in-Some.field-0.now g.3.0 (g.4 (omega arith) 0) (λ ns. simp (ne_eqb _ _ c.if-b-q.false, ne_eqb _ _ c.if-b-eq60.false)) (scan_broken c.in_err-i.field-0.0 r c.in_err-i.was)))

pub returns : goal.returns
unfolding ended
returns c = c.loop-b.invariant.2 _ (scan_out (search rules) c.in_default.ensures.lookup.3 refl)
