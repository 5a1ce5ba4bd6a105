-- `tail_end` meets its contract. Invariant: a scan from i on, where the bytes that are left of n are to follow, is a scan from `from` on.
use mathlib.Core.Path.{◌≡◌}
use Prim.Native.Nat.{◌+◌, ◌-◌}
use native.Mathlib.Omega.{arith}
use Rattle.std.proofs.lemmas.Result.{err_from_is_err_and}
use borrow.Author.Tests.{eq-eqb, ne_eqb}
use Rattle.xml.specs.CheckSteps.{after}
use Rattle.xml.proofs.Scanned.{scan_from, scan_done, scan_then, scan_broken, scan_bounds}
use Rattle.xml.proofs.characters.tail_end.Goals as goal

pub returns-in_err-i : goal.returns-in_err-i
returns-in_err-i c =
    let e = err_from_is_err_and c.from_residual.result c.from_residual.ensures.1 in
    λ p. rw (e.1, e.2) (scan_broken c.in_err-i.field-0.0 (c.within_end.ensures p c.args.n) c.in_err-i.was)

pub loop-init : goal.loop-init
loop-init c =
    let b = scan_bounds c.in_ok-i.i (c.within_end.ensures after c.args.n) c.in_ok-i.was in
    let n : c.args.n - 0 ≡ c.args.n = omega arith in
    (b.1, λ p r x. scan_then c.in_ok-i.i (c.within_end.ensures p c.args.n) c.in_ok-i.was (rw n at x))

pub returns-in_err-i-2 : goal.returns-in_err-i-2
returns-in_err-i-2 c =
    let l = c.loop in
    let z : c.args.n - l.counter ≡ 0 → ⊥ = λ z. omega arith in
    let e = err_from_is_err_and c.from_residual-in_err-i-2.result c.from_residual-in_err-i-2.ensures.1 in
    λ p. rw (e.1, e.2)
    (l.invariant.1 p _ (scan_from (λ ns. simp (ne_eqb _ _ z)) (scan_broken c.in_err-i-2.field-0.0 (c.within_end-in-loop.ensures p (c.args.n - l.counter - 1)) c.in_err-i-2.was)))

pub loop-preserved : goal.loop-preserved
loop-preserved c =
    let l = c.loop in
    let n : c.args.n - (l.counter + 1) ≡ c.args.n - l.counter - 1 = omega arith in
    let z : c.args.n - l.counter ≡ 0 → ⊥ = λ z. omega arith in
    let b = scan_bounds c.in_ok-i-2.i (c.within_end-in-loop.ensures after 0) c.in_ok-i-2.was in (
      b.1,
      λ p r x. l.invariant.1 p r (scan_from (λ ns. simp (ne_eqb _ _ z)) (scan_then c.in_ok-i-2.i (c.within_end-in-loop.ensures p (c.args.n - l.counter - 1)) c.in_ok-i-2.was (rw n at x))),
    )

pub returns : goal.returns
returns c =
    let l = c.loop in
    let z : c.args.n - l.counter ≡ 0 = omega arith in
    λ p. l.invariant.1 p _ (scan_from (λ ns. simp (eq-eqb _ _ z)) (scan_done l.invariant.0))
