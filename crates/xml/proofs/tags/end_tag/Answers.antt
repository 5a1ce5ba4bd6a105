-- `end_tag` meets its contract: the name, at once or byte by byte, and then the rest of the tag.
use mathlib.Core.Path.{refl, sym, ◌∙◌}
use Prim.Native.Nat.{◌+◌}
use native.Mathlib.Omega.{arith}
use lib.ListN.{length}
use Rattle.std.proofs.lemmas.Result.{err_from_is_err_and}
use Rattle.slices.proofs.Equal.{same_eq}
use Rattle.xml.specs.CheckSteps.{closed}
use Rattle.xml.proofs.Stays.{to_leave}
use Rattle.xml.proofs.Scanned.{scan_word, scan_then, scan_broken, scan_bounds}
use Rattle.xml.proofs.tags.end_tag.Goals as goal

pub returns-then-same : goal.returns-then-same
returns-then-same c =
    let n = c.args.name.now in
    let end = c.args.from + length n in
    scan_then end (scan_word n end (same_eq _ n (sym c.same.ensures ∙ c.if-same.true)) (omega arith) (omega arith)) refl (to_leave c.byte_end.ensures)

pub byte_end-requires-2 : goal.byte_end-requires-2
byte_end-requires-2 c =
    let b = scan_bounds c.in_ok-j.j (c.word_end.ensures closed) c.in_ok-j.was in
    b.1

pub returns : goal.returns
returns c = scan_then c.in_ok-j.j (c.word_end.ensures closed) c.in_ok-j.was (to_leave c.byte_end-2.ensures)

pub returns-in_err-j : goal.returns-in_err-j
returns-in_err-j c =
    let p = err_from_is_err_and c.from_residual.result c.from_residual.ensures.1 in
    rw (p.1, p.2) (scan_broken c.in_err-j.field-0.0 (c.word_end.ensures closed) c.in_err-j.was)
