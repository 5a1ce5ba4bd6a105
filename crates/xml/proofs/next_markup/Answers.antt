-- `next_markup` meets its contract: white space, and text where there are no children, and then `<`.
use Rattle.std.proofs.lemmas.Result.{err_from_is_err_and}
use mathlib.Core.Path.{◌≡◌, refl, ap, ◌∙◌}
use mathlib.Core.Bool.{true, false}
use Prim.Native.Nat.{◌+◌}
use lib.Dec.{eqb}
use lib.ListN.{get_or}
use borrow.Author.Tests.{ne_eqb}
use borrow.Author.Rules.{rules}
use Rattle.xml.specs.Bytes.{is_space}
use Rattle.xml.specs.CheckSteps.{at, content, opens, words, form_step, ended}
use Rattle.xml.specs.ScanSteps.{held}
use Rattle.xml.proofs.Past.{past_not}
use Rattle.xml.proofs.Stays.{held_stay, held_opens, held_mixed, held_text}
use Rattle.xml.proofs.Scanned.{stands, scan_past, scan_on, scan_as, scan_is, scan_done, scan_refused}
use Rattle.xml.proofs.Turned.{reaches, reaches_not}
use Rattle.xml.proofs.next_markup.Goals as goal

pub overflow_add-result : goal.overflow_add-result
overflow_add-result c =
    let h = stands c.args.text.now c.past_spaces-i.result c.byte.result c.byte.ensures (search rules) in
    search rules

pub returns-then-byte-eq60 : goal.returns-then-byte-eq60
returns-then-byte-eq60 c =
    let h = stands c.args.text.now c.past_spaces-i.result c.byte.result c.byte.ensures (search rules) in
    reaches true (c.past_spaces-i.result + 1)
    (scan_past (held_stay c.args.children) c.past_spaces-i.ensures
    (scan_on c.byte.result c.byte.ensures (search rules) (λ ns. ap (form_step (content (held c.args.children)) ns) c.if-byte-eq60.true ∙ held_opens c.args.children ns) (scan_done (search rules))))

pub returns-then-children : goal.returns-then-children
unfolding is_space ended
returns-then-children c =
    let e = c.past_spaces-i.ensures in
    let s : is_space c.byte.result ≡ false = ap is_space c.byte.ensures ∙ past_not e refl in
    reaches_not {to = at (opens false)} _
    (scan_past (held_stay c.args.children) e
    (scan_refused c.byte.result c.byte.ensures (search rules) refl (λ ns. held_mixed c.args.children ns c.byte.result c.if-children.true s (ne_eqb _ _ c.if-byte-eq60.false))))

pub returns : goal.returns
unfolding is_space ended
returns c =
    let t = c.args.text.now in
    let i = c.past_spaces-i.result in
    let e = c.past_spaces-i.ensures in
    let s : is_space (get_or t i 0) ≡ false = past_not e refl in
    let o : eqb (get_or t i 0) 60 ≡ false = ne_eqb _ _ (λ z. c.if-byte-eq60.false (c.byte.ensures ∙ z)) in
    reaches false c.in_ok-j.j
    (scan_past (held_stay c.args.children) e
    (scan_as (content (words 0)) refl (λ ns h. held_text c.args.children ns (get_or t i 0) c.if-children.false s o) (scan_is c.text_end.ensures c.in_ok-j.was)))

pub returns-in_err-j : goal.returns-in_err-j
unfolding is_space ended
returns-in_err-j c =
    let t = c.args.text.now in
    let i = c.past_spaces-i.result in
    let e = c.past_spaces-i.ensures in
    let s : is_space (get_or t i 0) ≡ false = past_not e refl in
    let o : eqb (get_or t i 0) 60 ≡ false = ne_eqb _ _ (λ z. c.if-byte-eq60.false (c.byte.ensures ∙ z)) in
    let p = err_from_is_err_and c.from_residual.result c.from_residual.ensures.1 in
    rw (p.1, p.2)
    (reaches_not c.in_err-j.field-0.0
    (scan_past (held_stay c.args.children) e
    (scan_as (content (words 0)) refl (λ ns h. held_text c.args.children ns (get_or t i 0) c.if-children.false s o) (scan_is c.text_end.ensures c.in_err-j.was))))
