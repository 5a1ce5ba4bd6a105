-- `start_tag` meets its contract: a name, and then the rest of the tag.
use mathlib.Core.Path.{◌≡◌, refl, ap, ◌∙◌}
use mathlib.Core.Bool.{true, false}
use lib.ListN.{get_or}
use borrow.Author.Rules.{rules}
use Rattle.std.proofs.lemmas.Result.{err_from_is_err_and}
use Rattle.xml.specs.Bytes.{is_ascii_letter}
use Rattle.xml.specs.ScanSteps.{kind_of}
use Rattle.xml.specs.declared.tags.TagEnd.TheVariants.{Open, Empty}
use Rattle.xml.proofs.KindTable.{no_letter, a_letter}
use Rattle.xml.proofs.Scanning.{run_refused}
use Rattle.xml.proofs.Scanned.{inside_letter}
use Rattle.xml.proofs.Tagged.{tells, starts_open, starts_empty, starts_broken}
use Rattle.xml.proofs.tags.start_tag.Goals as goal

pub returns-then-kind-ne97 : goal.returns-then-kind-ne97
returns-then-kind-ne97 c =
    let t = c.args.text.now in
    let i = c.args.from in
    let l : is_ascii_letter (get_or t i 0) ≡ false = no_letter c.kind.result (get_or t i 0) (c.kind.ensures ∙ ap kind_of c.byte.ensures) c.if-kind-ne97.true in
    record { runs = λ p ns n f. run_refused t i p ns (search rules) n (f ∙ simp l); ends = c.requires }

pub returns-in-Open-default : goal.returns-in-Open-default
returns-in-Open-default c =
    let t = c.args.text.now in
    let i = c.args.from in
    let l : is_ascii_letter (get_or t i 0) ≡ true = a_letter c.kind.result (get_or t i 0) (c.kind.ensures ∙ ap kind_of c.byte.ensures) c.if-kind-ne97.false in
    starts_open t i c.past_name-e.result (inside_letter t i l) l c.past_name-e.ensures _ c.in_ok-j.field-0.1 refl c.tag_end.ensures (tells c.in_ok-j.field-0 Open c.in_ok-j.was c.in-Open-default.is-0)

pub returns-in-Empty-default : goal.returns-in-Empty-default
returns-in-Empty-default c =
    let t = c.args.text.now in
    let i = c.args.from in
    let l : is_ascii_letter (get_or t i 0) ≡ true = a_letter c.kind.result (get_or t i 0) (c.kind.ensures ∙ ap kind_of c.byte.ensures) c.if-kind-ne97.false in
    starts_empty t i c.past_name-e.result (inside_letter t i l) l c.past_name-e.ensures c.in_ok-j.field-0.1 c.tag_end.ensures (tells c.in_ok-j.field-0 Empty c.in_ok-j.was c.in-Empty-default.is-0)

pub returns-in_err-j : goal.returns-in_err-j
returns-in_err-j c =
    let t = c.args.text.now in
    let i = c.args.from in
    let l : is_ascii_letter (get_or t i 0) ≡ true = a_letter c.kind.result (get_or t i 0) (c.kind.ensures ∙ ap kind_of c.byte.ensures) c.if-kind-ne97.false in
    let p = err_from_is_err_and c.from_residual.result c.from_residual.ensures.1 in
    rw (p.1, p.2) (starts_broken t i c.past_name-e.result (inside_letter t i l) l c.past_name-e.ensures c.in_err-j.field-0.0 c.tag_end.ensures c.in_err-j.was)
