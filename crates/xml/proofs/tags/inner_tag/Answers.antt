-- `inner_tag` meets its contract: a name with `>` behind it, or any start tag.
use mathlib.Core.Path.{◌≡◌, refl, ap, ◌∙◌}
use mathlib.Core.Bool.{true}
use Prim.Native.Nat.{◌+◌}
use lib.ListN.{get_or}
use borrow.Author.Rules.{rules}
use Rattle.xml.specs.Bytes.{is_space, is_ascii_letter}
use Rattle.xml.specs.CheckSteps.{tag, tag_end, form_step}
use Rattle.xml.specs.ScanSteps.{kind_of}
use Rattle.xml.proofs.KindTable.{a_letter}
use Rattle.xml.proofs.Scanned.{stands, inside_letter, scan_on, scan_done}
use Rattle.xml.proofs.Tagged.{tags_open, starts_open}
use Rattle.xml.proofs.tags.inner_tag.Goals as goal

pub overflow_add-result : goal.overflow_add-result
overflow_add-result c =
    let h = stands c.args.text.now c.past_name-e.result c.byte-then-kind-eq97.result c.byte-then-kind-eq97.ensures (search rules) in
    search rules

pub returns-then-byte-eq62 : goal.returns-then-byte-eq62
unfolding form_step is_space is_ascii_letter tag_end
returns-then-byte-eq62 c =
    let t = c.args.text.now in
    let i = c.args.from in
    let e = c.past_name-e.result in
    let l : is_ascii_letter (get_or t i 0) ≡ true = a_letter c.kind.result (get_or t i 0) (c.kind.ensures ∙ ap kind_of c.byte.ensures) c.if-kind-eq97.true in
    let h = stands t e c.byte-then-kind-eq97.result c.byte-then-kind-eq97.ensures (search rules) in
    starts_open t i e (inside_letter t i l) l c.past_name-e.ensures _ (e + 1) refl
    (tags_open (e + 1) (scan_on c.byte-then-kind-eq97.result c.byte-then-kind-eq97.ensures (search rules) (λ ns. ap (form_step tag ns) c.if-byte-eq62.true) (scan_done (search rules)))) refl
