-- `text_end` meets its contract. Invariant: a scan of the text from i on, behind n `]`, is a scan of it from `from` on.
use mathlib.Core.Path.{◌≡◌, refl}
use mathlib.Core.Bool.{false, ◌&&◌, and-false}
use native.Mathlib.Omega.{arith}
use lib.Dec.{eqb}
use Rattle.std.proofs.lemmas.Result.{err_from_is_err_and}
use borrow.Author.Tests.{eq-eqb, ne_eqb}
use borrow.Author.Rules.{rules}
use Rattle.xml.specs.CheckSteps.{content, words, without_text, form_step, inside_element, in_text, ended}
use Rattle.xml.proofs.Scanned.{scan_refused, scan_at, scan_done, scan_out, scan_then, scan_broken, scan_bounds}
use Rattle.xml.proofs.characters.text_end.Goals as goal
use Rattle.xml.proofs.characters.text_end.Goals.{else-b-eq62-via-then-b-eq62+else-n-eq2, else-b-eq62-via-else-b-eq62}

pub loop-b-init : goal.loop-b-init
loop-b-init c =
    let e = c.past_chars-i.ensures in
    let h = e.ends in
    (search rules, search rules, search rules, λ r x. scan_then c.past_chars-i.result e refl x)

pub returns-then-b-eq60 : goal.returns-then-b-eq60
unfolding form_step without_text
returns-then-b-eq60 c = c.loop-b.invariant.3 _ (scan_at c.in-Some.field-0.now c.in-Some.ensures.lookup.3.0 (c.in-Some.ensures.lookup.4 (omega arith) 0) (λ ns. simp (eq-eqb _ _ c.if-b-eq60.true)) (scan_done (omega (arith, c.in-Some.ensures.lookup.3.0))))

pub loop-b-preserved-then-b-eq93 : goal.loop-b-preserved-then-b-eq93
unfolding form_step inside_element in_text
loop-b-preserved-then-b-eq93 c =
    let l = c.loop-b in (
      omega arith,
      omega (arith, c.in-Some.ensures.lookup.3.0),
      omega arith,
      λ r x. l.invariant.3 r (scan_at c.in-Some.field-0.now c.in-Some.ensures.lookup.3.0 (c.in-Some.ensures.lookup.4 (omega arith) 0) (λ ns. simp (ne_eqb _ _ c.if-b-eq60.false, eq-eqb _ _ c.if-b-eq93.true, ← c.min-n.ensures)) x),
    )

pub returns-then-n-eq2 : goal.returns-then-n-eq2
unfolding form_step inside_element in_text ended
returns-then-n-eq2 c =
    c.loop-b.invariant.3 _
    (scan_refused c.in-Some.field-0.now (c.in-Some.ensures.lookup.4 (omega arith) 0) (search rules) refl
    (λ ns. simp (ne_eqb _ _ c.if-b-eq60.false, ne_eqb _ _ c.if-b-eq93.false, eq-eqb _ _ c.if-b-eq62.true, eq-eqb _ _ c.if-n-eq2.true)))

pub past_wide-i-requires : goal.past_wide-i-requires
past_wide-i-requires c =
    let b = scan_bounds c.in_ok-char_end.field-0 (c.char_end.ensures (content (words 0))) c.in_ok-char_end.was in
    b.1

pub loop-b-smaller : goal.loop-b-smaller
loop-b-smaller c =
    let b = scan_bounds c.in_ok-char_end.field-0 (c.char_end.ensures (content (words 0))) c.in_ok-char_end.was in
    let h = c.past_wide-i.ensures.ends in
    search rules

pub loop-b-preserved : goal.loop-b-preserved
unfolding form_step inside_element in_text
loop-b-preserved c =
    let r = c.char_end.ensures (content (words 0)) in
    let b = scan_bounds c.in_ok-char_end.field-0 r c.in_ok-char_end.was in
    let e = c.past_wide-i.ensures in
    let h = e.ends in
    let z : (eqb c.in-Some.field-0.now 62 && eqb c.loop-b.n 2) ≡ false =
    elim c.else-b-eq62.branch [
      | else-b-eq62-via-then-b-eq62+else-n-eq2 w ↦ simp (ne_eqb _ _ w.if-n-eq2.false, and-false)
      | else-b-eq62-via-else-b-eq62 w ↦ simp (ne_eqb _ _ w.if-b-eq62.false)
    ] in (
      search rules,
      search rules,
      search rules,
      λ s x. c.loop-b.invariant.3 s
          (scan_at c.in-Some.field-0.now c.in-Some.ensures.lookup.3.0 (c.in-Some.ensures.lookup.4 (omega arith) 0) (λ ns. simp (ne_eqb _ _ c.if-b-eq60.false, ne_eqb _ _ c.if-b-eq93.false, z)) (scan_then c.in_ok-char_end.field-0 r c.in_ok-char_end.was (scan_then c.past_wide-i.result e refl x))),
    )

pub returns-in_err-char_end : goal.returns-in_err-char_end
unfolding form_step inside_element in_text
returns-in_err-char_end c =
    let r = c.char_end.ensures (content (words 0)) in
    let z : (eqb c.in-Some.field-0.now 62 && eqb c.loop-b.n 2) ≡ false =
    elim c.else-b-eq62.branch [
      | else-b-eq62-via-then-b-eq62+else-n-eq2 w ↦ simp (ne_eqb _ _ w.if-n-eq2.false, and-false)
      | else-b-eq62-via-else-b-eq62 w ↦ simp (ne_eqb _ _ w.if-b-eq62.false)
    ] in
    let p = err_from_is_err_and c.from_residual.result c.from_residual.ensures.1 in
    rw (p.1, p.2)
    (c.loop-b.invariant.3 _ (scan_at c.in-Some.field-0.now c.in-Some.ensures.lookup.3.0 (c.in-Some.ensures.lookup.4 (omega arith) 0) (λ ns. simp (ne_eqb _ _ c.if-b-eq60.false, ne_eqb _ _ c.if-b-eq93.false, z)) (scan_broken c.in_err-char_end.field-0.0 r c.in_err-char_end.was)))

pub returns : goal.returns
unfolding ended
returns c = c.loop-b.invariant.3 _ (scan_out (search rules) c.in_default.ensures.lookup.3 refl)
