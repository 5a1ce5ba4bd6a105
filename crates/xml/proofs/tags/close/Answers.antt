-- `close` meets its contract: its tests are those of `tag_end`, and then that of `slash`.
use mathlib.Core.Path.{refl, ap, ◌∙◌, sym}
use Prim.Native.Nat.{◌+◌}
use borrow.Author.Tests.{ne_eqb}
use borrow.Author.Rules.{rules}
use Rattle.xml.specs.CheckSteps.{at, slash, tag_end, form_step, ended}
use Rattle.xml.proofs.Scanned.{stands, scan_step, scan_on, scan_done, scan_refused}
use Rattle.xml.proofs.Tagged.{tags_open, tags_empty, tags_broken}
use Rattle.xml.proofs.tags.close.Goals as goal

pub returns-then-b-eq62 : goal.returns-then-b-eq62
unfolding tag_end
returns-then-b-eq62 c =
    let t = c.args.text.now in
    let h = stands t c.args.from c.byte-b.result c.byte-b.ensures (search rules) in
    λ p n f. tags_open (c.args.from + 1) (scan_step h (λ ns. f ns ∙ ap (tag_end ns) (sym c.byte-b.ensures ∙ c.if-b-eq62.true)) (scan_done (search rules)))

pub returns-then-b-ne47 : goal.returns-then-b-ne47
unfolding tag_end
returns-then-b-ne47 c =
    let e = c.byte-b.ensures in
    λ p n f. tags_broken {b = at p} (scan_refused c.byte-b.result e (search rules) n (λ ns. ap (form_step p ns) e ∙ f ns ∙ ap (tag_end ns) (sym e) ∙ simp (ne_eqb _ _ c.if-b-eq62.false, ne_eqb _ _ c.if-b-ne47.true)))

pub returns-then-byte-eq62 : goal.returns-then-byte-eq62
unfolding tag_end form_step
returns-then-byte-eq62 c =
    let t = c.args.text.now in
    let h = stands t c.args.from c.byte-b.result c.byte-b.ensures (search rules) in
    let g = stands t (c.args.from + 1) c.byte.result c.byte.ensures (search rules) in
    λ p n f. tags_empty (c.args.from + 1 + 1) (scan_step h (λ ns. f ns ∙ ap (tag_end ns) (sym c.byte-b.ensures ∙ c.if-b-ne47.false)) (scan_on c.byte.result c.byte.ensures (search rules) (λ ns. ap (form_step slash ns) c.if-byte-eq62.true) (scan_done (search rules))))

pub returns-else-byte-eq62 : goal.returns-else-byte-eq62
unfolding tag_end form_step ended
returns-else-byte-eq62 c =
    let t = c.args.text.now in
    let h = stands t c.args.from c.byte-b.result c.byte-b.ensures (search rules) in
    λ p n f. tags_broken {b = at slash} (scan_step h (λ ns. f ns ∙ ap (tag_end ns) (sym c.byte-b.ensures ∙ c.if-b-ne47.false)) (scan_refused c.byte.result c.byte.ensures (search rules) refl (λ ns. simp (ne_eqb _ _ c.if-byte-eq62.false))))
