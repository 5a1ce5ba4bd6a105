-- `check` meets its contract: the declaration, and then the root.
use Rattle.std.proofs.lemmas.Result.{err_from_is_err_and}
use mathlib.Core.List.{[]}
use mathlib.Core.Path.{ap, ◌∙◌, subst}
use lib.ListN.{length}
use Rattle.slices.specs.Words.{bytes}
use Rattle.xml.specs.Bytes.{declaration}
use Rattle.xml.specs.CheckSteps.{before, at, reads, form}
use Rattle.xml.specs.ScanSteps.{Between, goes_on}
use Rattle.xml.proofs.Scanned.{scan_bounds}
use Rattle.xml.proofs.Checked.{ends_checked}
use Rattle.xml.proofs.check.Goals as goal

pub root-requires : goal.root-requires
root-requires c = (scan_bounds c.in_ok-i.i (c.word_end.ensures before) c.in_ok-i.was).1

pub returns : goal.returns
unfolding form declaration reads bytes
returns c =
    let t = c.args.text.now in
    let y = c.root.ensures in
    ends_checked t c.root.result ((c.word_end.ensures before).runs [] ∙ ap (goes_on t (at before [])) c.in_ok-i.was ∙ y.runs) y.ends

pub returns-in_err-i : goal.returns-in_err-i
unfolding form declaration reads bytes
returns-in_err-i c =
    let t = c.args.text.now in
    let x = c.word_end.ensures before in
    let p = err_from_is_err_and c.from_residual.result c.from_residual.ensures.1 in
    rw (p.1, p.2) (ends_checked t _ (x.runs [] ∙ ap (goes_on t (at before [])) c.in_err-i.was) (subst (Between 0 (length t)) c.in_err-i.was x.ends))
