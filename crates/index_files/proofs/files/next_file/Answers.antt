-- `next_file` meets its contract. Invariant: no file was passed.
use mathlib.Core.Path.{refl, ap, sym, ◌∙◌, subst}
use native.Mathlib.Omega.{arith}
use Rattle.elements.specs.declared.tags.Tag.TheVariants.{End, Close, Open, Empty}
use Rattle.elements.specs.TagSteps.{NextTag}
use Rattle.index_files.specs.Names.{names_file, names_skipped}
use Rattle.index_files.proofs.Passing.{files_end, files_close, file_open, files_skipped, files_open, file_empty, files_empty, passed_on, none_along, file_along}
use Rattle.index_files.proofs.files.next_file.Goals as goal

pub loop-n-init : goal.loop-n-init
loop-n-init c = (omega arith, record { left = refl; tags = refl })

pub returns-in-End : goal.returns-in-End
returns-in-End c =
    let s = c.args.text.now in
    let l = c.loop-n in
    let t : NextTag s l.i End = subst (NextTag s l.i) c.in-End.is c.next_tag.ensures in
    none_along l.invariant.1 (files_end t)

pub loop-n-smaller-in-Close : goal.loop-n-smaller-in-Close
loop-n-smaller-in-Close c =
    let s = c.args.text.now in
    let l = c.loop-n in
    let t : NextTag s l.i (Close c.in-Close.n) = subst (NextTag s l.i) c.in-Close.is c.next_tag.ensures in
    omega (arith, t.place)

pub loop-n-preserved-in-Close : goal.loop-n-preserved-in-Close
loop-n-preserved-in-Close c =
    let s = c.args.text.now in
    let l = c.loop-n in
    let t : NextTag s l.i (Close c.in-Close.n) = subst (NextTag s l.i) c.in-Close.is c.next_tag.ensures in
    (omega (arith, t.place), passed_on l.invariant.1 (files_close t))

pub returns-then-is_file : goal.returns-then-is_file
returns-then-is_file c =
    let s = c.args.text.now in
    let l = c.loop-n in
    let t : NextTag s l.i (Open c.in-Open.n) = subst (NextTag s l.i) c.in-Open.is c.next_tag.ensures in
    let e = sym (ap names_file c.name_of-name.ensures) ∙ sym c.is_file.ensures ∙ c.if-is_file.true in
    file_along l.invariant.1 l.invariant.0 (file_open t c.leave-next.ensures e)

pub loop-n-smaller-then-is_skipped : goal.loop-n-smaller-then-is_skipped
loop-n-smaller-then-is_skipped c =
    let s = c.args.text.now in
    let l = c.loop-n in
    let t : NextTag s l.i (Open c.in-Open.n) = subst (NextTag s l.i) c.in-Open.is c.next_tag.ensures in
    omega (arith, t.place, c.leave-i.ensures.ahead)

pub loop-n-preserved-then-is_skipped : goal.loop-n-preserved-then-is_skipped
loop-n-preserved-then-is_skipped c =
    let s = c.args.text.now in
    let l = c.loop-n in
    let t : NextTag s l.i (Open c.in-Open.n) = subst (NextTag s l.i) c.in-Open.is c.next_tag.ensures in
    let e = sym (ap names_file c.name_of-name.ensures) ∙ sym c.is_file.ensures ∙ c.if-is_file.false in
    let k = sym (ap names_skipped c.name_of-name.ensures) ∙ sym c.is_skipped.ensures ∙ c.if-is_skipped.true in
    (omega (arith, t.place, c.leave-i.ensures.ahead), passed_on l.invariant.1 (files_skipped t c.leave-i.ensures e k))

pub loop-n-smaller-else-is_skipped : goal.loop-n-smaller-else-is_skipped
loop-n-smaller-else-is_skipped c =
    let s = c.args.text.now in
    let l = c.loop-n in
    let t : NextTag s l.i (Open c.in-Open.n) = subst (NextTag s l.i) c.in-Open.is c.next_tag.ensures in
    omega (arith, t.place)

pub loop-n-preserved-else-is_skipped : goal.loop-n-preserved-else-is_skipped
loop-n-preserved-else-is_skipped c =
    let s = c.args.text.now in
    let l = c.loop-n in
    let t : NextTag s l.i (Open c.in-Open.n) = subst (NextTag s l.i) c.in-Open.is c.next_tag.ensures in
    let e = sym (ap names_file c.name_of-name.ensures) ∙ sym c.is_file.ensures ∙ c.if-is_file.false in
    let k = sym (ap names_skipped c.name_of-name.ensures) ∙ sym c.is_skipped.ensures ∙ c.if-is_skipped.false in
    (omega (arith, t.place), passed_on l.invariant.1 (files_open t e k))

pub returns-then-is_file-2 : goal.returns-then-is_file-2
returns-then-is_file-2 c =
    let s = c.args.text.now in
    let l = c.loop-n in
    let t : NextTag s l.i (Empty c.in-Empty.n) = subst (NextTag s l.i) c.in-Empty.is c.next_tag.ensures in
    let e = sym (ap names_file c.name_of.ensures) ∙ sym c.is_file-in-Empty.ensures ∙ c.if-is_file-2.true in
    file_along l.invariant.1 l.invariant.0 (file_empty t e)

pub loop-n-smaller : goal.loop-n-smaller
loop-n-smaller c =
    let s = c.args.text.now in
    let l = c.loop-n in
    let t : NextTag s l.i (Empty c.in-Empty.n) = subst (NextTag s l.i) c.in-Empty.is c.next_tag.ensures in
    omega (arith, t.place)

pub loop-n-preserved : goal.loop-n-preserved
loop-n-preserved c =
    let s = c.args.text.now in
    let l = c.loop-n in
    let t : NextTag s l.i (Empty c.in-Empty.n) = subst (NextTag s l.i) c.in-Empty.is c.next_tag.ensures in
    let e = sym (ap names_file c.name_of.ensures) ∙ sym c.is_file-in-Empty.ensures ∙ c.if-is_file-2.false in
    (omega (arith, t.place), passed_on l.invariant.1 (files_empty t e))
