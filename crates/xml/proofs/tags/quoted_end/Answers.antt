-- `quoted_end` meets its contract: white space, a quote, and the value up to that quote.
use mathlib.Core.Path.{◌≡◌, refl, ap, ◌∙◌}
use mathlib.Core.Bool.{true, false, ◌||◌, or-true}
use mathlib.Core.Logic.{◌⊎◌, inl, inr}
use Prim.Native.Nat.{ℕ, ◌<◌}
use native.Mathlib.Omega.{arith}
use lib.Dec.{eqb}
use borrow.Author.Tests.{eq-eqb, ne_eqb}
use borrow.Author.Rules.{rules}
use Rattle.xml.specs.Bytes.{is_space}
use Rattle.xml.specs.CheckSteps.{form_step, ended}
use Rattle.xml.proofs.Past.{past_not}
use Rattle.xml.proofs.Stays.{equals_stay}
use Rattle.xml.proofs.Scanned.{stands, scan_past, scan_on, scan_refused}
use Rattle.xml.proofs.tags.quoted_end.Goals as goal

-- one of the two quotes
quote : {A : Type 0} (q : ℕ) → (q ≡ 34) ⊎ (A × (q ≡ 39)) → ((eqb q 34 || eqb q 39) ≡ true) × (0 < q)
quote q (inl e) = (simp (eq-eqb q 34 e), omega arith)
quote q (inr e) = (simp (eq-eqb q 39 e.1, or-true), omega (arith, e.1))

pub overflow_add-i : goal.overflow_add-i
overflow_add-i c =
    let h = stands c.args.text.now c.past_spaces-i.result c.byte-q.result c.byte-q.ensures (quote c.byte-q.result c.if-q-eq39.either).1 in
    search rules

pub value_end-requires : goal.value_end-requires
value_end-requires c =
    let h = stands c.args.text.now c.past_spaces-i.result c.byte-q.result c.byte-q.ensures (quote c.byte-q.result c.if-q-eq39.either).1 in
    search rules

pub returns-then-q-eq39 : goal.returns-then-q-eq39
unfolding form_step is_space
returns-then-q-eq39 c =
    let e = c.past_spaces-i.ensures in
    let q = quote c.byte-q.result c.if-q-eq39.either in
    let s : is_space c.byte-q.result ≡ false = ap is_space c.byte-q.ensures ∙ past_not e refl in
    scan_past equals_stay e (scan_on c.byte-q.result c.byte-q.ensures q.1 (λ ns. simp (s, q.0)) c.value_end.ensures)

pub returns-else-q-eq39 : goal.returns-else-q-eq39
unfolding form_step is_space ended
returns-else-q-eq39 c =
    let e = c.past_spaces-i.ensures in
    let s : is_space c.byte-q.result ≡ false = ap is_space c.byte-q.ensures ∙ past_not e refl in
    scan_past equals_stay e (scan_refused c.byte-q.result c.byte-q.ensures (search rules) refl (λ ns. simp (s, ne_eqb _ _ c.if-q-eq39.false.0, ne_eqb _ _ c.if-q-eq39.false.1)))
