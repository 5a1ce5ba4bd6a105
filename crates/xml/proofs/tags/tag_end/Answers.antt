-- `tag_end` meets its contract: white space, at most one attribute with white space behind it, and the end of the tag.
use mathlib.Core.Path.{◌≡◌, refl, ap, ◌∙◌}
use mathlib.Core.Bool.{true, false}
use lib.ListN.{get_or}
use borrow.Author.Rules.{rules}
use Rattle.std.proofs.lemmas.Result.{err_from_is_err_and}
use Rattle.xml.specs.Bytes.{is_space, is_ascii_letter}
use Rattle.xml.specs.CheckSteps.{at, tag, valued, form_step, ended}
use Rattle.xml.specs.ScanSteps.{kind_of}
use Rattle.xml.proofs.KindTable.{no_letter, a_letter}
use Rattle.xml.proofs.Past.{past_not}
use Rattle.xml.proofs.Stays.{tag_stay, valued_stay}
use Rattle.xml.proofs.Scanned.{inside_letter, scan_past, scan_step, scan_done, scan_then, scan_broken, scan_bounds}
use Rattle.xml.proofs.Tagged.{tags_after, tags_broken}
use Rattle.xml.proofs.tags.tag_end.Goals as goal

pub returns-then-kind-ne97 : goal.returns-then-kind-ne97
unfolding is_space form_step ended
returns-then-kind-ne97 c =
    let t = c.args.text.now in
    let i = c.past_spaces-i.result in
    let e = c.past_spaces-i.ensures in
    let s : is_space (get_or t i 0) ≡ false = past_not e refl in
    let l : is_ascii_letter (get_or t i 0) ≡ false = no_letter c.kind.result (get_or t i 0) (c.kind.ensures ∙ ap kind_of c.byte.ensures) c.if-kind-ne97.true in
    tags_after i (scan_past tag_stay e (scan_done e.inside)) (c.close.ensures tag refl (λ ns. simp (s, l)))

pub overflow_add-i : goal.overflow_add-i
overflow_add-i c =
    let t = c.args.text.now in
    let i = c.past_spaces-i.result in
    let l : is_ascii_letter (get_or t i 0) ≡ true = a_letter c.kind.result (get_or t i 0) (c.kind.ensures ∙ ap kind_of c.byte.ensures) c.if-kind-ne97.false in
    let h = inside_letter t i l in
    search rules

pub attribute_end-requires : goal.attribute_end-requires
attribute_end-requires c =
    let t = c.args.text.now in
    let i = c.past_spaces-i.result in
    let l : is_ascii_letter (get_or t i 0) ≡ true = a_letter c.kind.result (get_or t i 0) (c.kind.ensures ∙ ap kind_of c.byte.ensures) c.if-kind-ne97.false in
    let h = inside_letter t i l in
    search rules

pub past_spaces-requires : goal.past_spaces-requires
past_spaces-requires c =
    let b = scan_bounds c.in_ok-j.j c.attribute_end.ensures c.in_ok-j.was in
    b.1

pub returns : goal.returns
unfolding is_space form_step ended
returns c =
    let t = c.args.text.now in
    let i = c.past_spaces-i.result in
    let e = c.past_spaces-i.ensures in
    let s : is_space (get_or t i 0) ≡ false = past_not e refl in
    let l : is_ascii_letter (get_or t i 0) ≡ true = a_letter c.kind.result (get_or t i 0) (c.kind.ensures ∙ ap kind_of c.byte.ensures) c.if-kind-ne97.false in
    let h = inside_letter t i l in
    let e₂ = c.past_spaces.ensures in
    let s₂ : is_space (get_or t c.past_spaces.result 0) ≡ false = past_not e₂ refl in
    tags_after c.past_spaces.result
    (scan_past tag_stay e (scan_step h (λ ns. simp (s, l)) (scan_then c.in_ok-j.j c.attribute_end.ensures c.in_ok-j.was (scan_past valued_stay e₂ (scan_done e₂.inside)))))
    (c.close-2.ensures valued refl (λ ns. simp s₂))

pub returns-in_err-j : goal.returns-in_err-j
unfolding is_space form_step
returns-in_err-j c =
    let t = c.args.text.now in
    let i = c.past_spaces-i.result in
    let e = c.past_spaces-i.ensures in
    let s : is_space (get_or t i 0) ≡ false = past_not e refl in
    let l : is_ascii_letter (get_or t i 0) ≡ true = a_letter c.kind.result (get_or t i 0) (c.kind.ensures ∙ ap kind_of c.byte.ensures) c.if-kind-ne97.false in
    let h = inside_letter t i l in
    let p = err_from_is_err_and c.from_residual.result c.from_residual.ensures.1 in
    rw (p.1, p.2) (tags_broken {b = at valued} (scan_past tag_stay e (scan_step h (λ ns. simp (s, l)) (scan_broken c.in_err-j.field-0.0 c.attribute_end.ensures c.in_err-j.was))))
