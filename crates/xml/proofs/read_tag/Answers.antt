-- `read_tag` meets its contract: its tests are those of `opens`.
use Rattle.std.specs.Prelude.{Some, None}
use Rattle.std.proofs.lemmas.Result.{err_from_is_err_and}
use mathlib.Core.Path.{◌≡◌, refl, ap, ◌∙◌, sym}
use mathlib.Core.Bool.{true, false, and-false, and-true}
use mathlib.Core.List.{◌∷◌}
use Prim.Native.Nat.{◌+◌}
use borrow.Author.Tests.{ne_eqb}
use borrow.Author.Rules.{rules}
use Rattle.xml.specs.CheckSteps.{at, opens, closed, reads, innermost, form_step, ended}
use Rattle.xml.proofs.Scanning.{run_on, run_refused}
use Rattle.xml.proofs.Scanned.{stands}
use Rattle.xml.proofs.Tagged.{tells}
use Rattle.xml.proofs.Turned.{turns_outside, turns_left, turns_opened, turns_inside, turns_cut}
use Rattle.xml.proofs.read_tag.Goals as goal

pub overflow_add-from : goal.overflow_add-from
overflow_add-from c =
    let h = stands c.args.text.now c.args.from c.byte.result c.byte.ensures (search rules) in
    search rules

pub end_tag-requires : goal.end_tag-requires
end_tag-requires c =
    let h = stands c.args.text.now c.args.from c.byte.result c.byte.ensures (search rules) in
    search rules

pub returns-then-byte-eq47 : goal.returns-then-byte-eq47
unfolding form_step innermost
returns-then-byte-eq47 c =
    let t = c.args.text.now in
    let i = c.args.from in
    let n = c.args.name.now in
    let e = c.byte.ensures in
    let h = stands t i c.byte.result e (search rules) in
    λ o. turns_outside {b = at (reads closed n)} (i + 1) (search rules) (λ ns. run_on t i (opens o) (n ∷ ns) h (ap (form_step (opens o) (n ∷ ns)) (sym e ∙ c.if-byte-eq47.true))) c.end_tag.ensures c.in_ok-j.j c.in_ok-j.was

pub returns-in_err-j : goal.returns-in_err-j
unfolding form_step innermost
returns-in_err-j c =
    let t = c.args.text.now in
    let i = c.args.from in
    let n = c.args.name.now in
    let e = c.byte.ensures in
    let h = stands t i c.byte.result e (search rules) in
    let p = err_from_is_err_and c.from_residual.result c.from_residual.ensures.1 in
    rw (p.1, p.2)
    (λ o. turns_left {b = at (reads closed n)} (i + 1) (search rules) (λ ns. run_on t i (opens o) (n ∷ ns) h (ap (form_step (opens o) (n ∷ ns)) (sym e ∙ c.if-byte-eq47.true))) c.end_tag.ensures c.in_err-j.field-0.0 c.in_err-j.was)

pub returns-then-not-begins : goal.returns-then-not-begins
unfolding form_step ended
returns-then-not-begins c =
    let t = c.args.text.now in
    let i = c.args.from in
    let n = c.args.name.now in
    let e = c.byte.ensures in
    let no : c.args.begins ≡ false = c.if-not-begins.true in
    λ o. record { runs = λ ns f. run_refused t i (opens o) (n ∷ ns) (search rules) refl (simp (← e, ne_eqb _ _ c.if-byte-eq47.false, f, no, and-false)); ends = c.requires; opens_if = tt }

pub returns-in-Some-default : goal.returns-in-Some-default
unfolding form_step ended
returns-in-Some-default c =
    let t = c.args.text.now in
    let i = c.args.from in
    let n = c.args.name.now in
    let e = c.byte.ensures in
    let yes : c.args.begins ≡ true = c.if-not-begins.false in
    λ o. turns_opened (opens o) refl yes (λ ns f. simp (← e, ne_eqb _ _ c.if-byte-eq47.false, f, yes, and-true)) c.inner_tag.ensures c.in-Some-default.opened c.in_ok-opened.field-0.1
    (tells c.in_ok-opened.field-0 (Some c.in-Some-default.opened) c.in_ok-opened.was c.in-Some-default.is-0)

pub returns-in-None-default : goal.returns-in-None-default
unfolding form_step ended
returns-in-None-default c =
    let t = c.args.text.now in
    let i = c.args.from in
    let n = c.args.name.now in
    let e = c.byte.ensures in
    let yes : c.args.begins ≡ true = c.if-not-begins.false in
    λ o. turns_inside (opens o) refl yes (λ ns f. simp (← e, ne_eqb _ _ c.if-byte-eq47.false, f, yes, and-true)) c.inner_tag.ensures c.in_ok-opened.field-0.1 (tells c.in_ok-opened.field-0 None c.in_ok-opened.was c.in-None-default.is-0)

pub returns-in_err-opened : goal.returns-in_err-opened
unfolding form_step ended
returns-in_err-opened c =
    let t = c.args.text.now in
    let i = c.args.from in
    let n = c.args.name.now in
    let e = c.byte.ensures in
    let yes : c.args.begins ≡ true = c.if-not-begins.false in
    let p = err_from_is_err_and c.from_residual-in_err-opened.result c.from_residual-in_err-opened.ensures.1 in
    rw (p.1, p.2) (λ o. turns_cut (opens o) refl yes (λ ns f. simp (← e, ne_eqb _ _ c.if-byte-eq47.false, f, yes, and-true)) c.inner_tag.ensures c.in_err-opened.field-0.0 c.in_err-opened.was)
