-- `next_tag` meets its contract: content up to a `<`, and then a tag.
use Rattle.std.proofs.lemmas.Result.{err_from_is_err_and}
use mathlib.Core.Path.{◌≡◌, ap, ◌∙◌, sym}
use mathlib.Core.Bool.{◌&&◌}
use Prim.Native.Nat.{ℕ}
use lib.Dec.{ltb}
use Rattle.xml.specs.CheckSteps.{at, opens}
use Rattle.xml.proofs.Logic.{and_both}
use Rattle.xml.proofs.Turned.{turns_after, turns_broken}
use Rattle.xml.proofs.next_tag.Goals as goal
use Rattle.xml.proofs.next_tag.Goals.{then-alone, else-alone}

pub returns : goal.returns
returns c =
    let b : c.if-alone.begins ≡ (c.in_ok-alone.alone && ltb c.args.depth 64) =
    elim c.if-alone.branch [ then-alone w ↦ w.begins-is ∙ simp w.if-alone.true | else-alone w ↦ w.begins-is ∙ simp w.if-alone.false ] in
    let x = c.in_ok-alone.ensures in
    turns_after {b = at (opens c.in_ok-alone.alone)} c.if-alone.begins c.in_ok-alone.j (λ e. (and_both _ _ (sym b ∙ e)).1) (λ ns e. ap (λ (k : ℕ). c.in_ok-alone.alone && ltb k 64) e ∙ sym b)
    x.runs x.ends.0 (c.read_tag.ensures c.in_ok-alone.alone)

pub returns-in_err-alone : goal.returns-in_err-alone
returns-in_err-alone c =
    let p = err_from_is_err_and c.from_residual.result c.from_residual.ensures.1 in
    let x = c.in_err-alone.ensures in
    rw (p.1, p.2) (turns_broken c.in_err-alone.field-0.0 x.runs x.ends)
