-- `attribute_end` meets its contract: behind the name `key` takes each byte as `keyed` does.
use mathlib.Core.Path.{refl}
use Rattle.std.proofs.lemmas.Result.{err_from_is_err_and}
use Rattle.xml.specs.CheckSteps.{keyed, form_step, ended}
use Rattle.xml.proofs.Past.{past_stop}
use Rattle.xml.proofs.Stays.{key_stay, to_equals}
use Rattle.xml.proofs.Scanned.{scan_past, scan_as, scan_then, scan_broken, scan_bounds}
use Rattle.xml.proofs.tags.attribute_end.Goals as goal

pub quoted_end-requires : goal.quoted_end-requires
quoted_end-requires c =
    let b = scan_bounds c.in_ok-j.j (to_equals c.byte_end.ensures) c.in_ok-j.was in
    b.1

pub returns : goal.returns
unfolding form_step ended
returns c =
    let e = c.past_name-i.ensures in
    scan_past key_stay e (scan_as keyed refl (λ ns h. simp (past_stop e h)) (scan_then c.in_ok-j.j (to_equals c.byte_end.ensures) c.in_ok-j.was c.quoted_end.ensures))

pub returns-in_err-j : goal.returns-in_err-j
unfolding form_step ended
returns-in_err-j c =
    let e = c.past_name-i.ensures in
    let p = err_from_is_err_and c.from_residual.result c.from_residual.ensures.1 in
    rw (p.1, p.2) (scan_past key_stay e (scan_as keyed refl (λ ns h. simp (past_stop e h)) (scan_broken c.in_err-j.field-0.0 (to_equals c.byte_end.ensures) c.in_err-j.was)))
