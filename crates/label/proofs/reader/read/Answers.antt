-- `read` meets its contract: the length, the form, and the root.
use Rattle.std.proofs.Common.{◌≡◌, true, ap, sym, subst}
use Rattle.std.proofs.lemmas.Result.{err_from_is_err_and}
use Rattle.std.specs.Prelude.{None, Some, Err}
use Rattle.std.proofs.Common.{arith}
use Rattle.refusals.specs.declared.Refusal.TheVariants.{Structure}
use Rattle.elements.specs.TagSteps.{NextChild}
use Rattle.xml.specs.CheckSteps.{in_form}
use Rattle.xml.proofs.Checked.{checked_good, checked_broken}
use Rattle.elements.specs.Tags.{Tags}
use Rattle.children.specs.Children.{children_of_first}
use Rattle.label.specs.TextPlaces.{places_in}
use Rattle.label.proofs.Values.{too_long, unformed, no_first, the_first}
use Rattle.label.proofs.Places.{refuses, reads_as}
use Rattle.label.proofs.reader.read.Goals as goal

pub returns-then-text-gt4096 : goal.returns-then-text-gt4096
returns-then-text-gt4096 c = refuses (too_long c.args.text.now c.if-text-gt4096.true)

pub returns-in_err-check : goal.returns-in_err-check
returns-in_err-check c =
    let s = c.args.text.now in
    let p = err_from_is_err_and c.from_residual.result c.from_residual.ensures.1 in
    let e = checked_broken s c.in_err-check.field-0.0 c.in_err-check.ensures in
    rw (p.1, p.2) (refuses (unformed s c.if-text-gt4096.false _ e.0 e.1))

pub returns-in_err-root : goal.returns-in_err-root
returns-in_err-root c =
    let s = c.args.text.now in
    let f : in_form s ≡ true = checked_good s c.in_ok-check.ensures in
    let n : c.next_child.result ≡ None = grind arith in
    let e : NextChild s 38 None = subst (NextChild s 38) n c.next_child.ensures in
    let r : c.from_residual-in_err-root.result ≡ Err Structure = grind arith in
    rw r (refuses (no_first s c.if-text-gt4096.false f e))

pub returns : goal.returns
unfolding children_of_first
returns c =
    let s = c.args.text.now in
    let f : in_form s ≡ true = checked_good s c.in_ok-check.ensures in
    let n : c.next_child.result ≡ Some c.in_ok-root.root = grind arith in
    let q : NextChild s 38 (Some c.in_ok-root.root) = subst (NextChild s 38) n c.next_child.ensures in
    reads_as (the_first s c.if-text-gt4096.false f _ _ _ q.row) (ap (λ (t : Tags). places_in s (children_of_first t)) (sym q.tags))
    (record { says = c.read_root.ensures.says; inside = c.read_root.ensures.inside; stands = c.read_root.ensures.stands })
