-- `decode` meets its contract. Invariant: what is still meant, written behind what was written, leaves what is to be left.
use Rattle.std.proofs.Common.{ap, sym, ◌∙◌, length, arith}
use Rattle.slices.specs.Slices.{written}
use Rattle.slices.proofs.Writing.{written_nil}
use Rattle.slices.proofs.Writers.{puts_short, puts_whole}
use Rattle.texts.specs.Decoded.{decoded}
use Rattle.texts.proofs.Meanings.{written_on}
use Rattle.texts.proofs.decode.Goals as goal
use Rattle.texts.proofs.decode.Goals.{then-out-at-via-then-out-at, then-out-at-via-else-out-at+then-out-at-2}

pub returns-then-out-at : goal.returns-then-out-at
returns-then-out-at c =
    puts_short _ _ _
    (elim c.then-out-at.branch [ then-out-at-via-then-out-at w ↦ omega (arith, w.if-out-at) | then-out-at-via-else-out-at+then-out-at-2 w ↦ omega (arith, w.if-out-at, w.if-out-at-2, w.decoded_len.ensures) ])

pub loop-b-preserved : goal.loop-b-preserved
loop-b-preserved c =
    let l = c.loop-b in
    let e = c.in-Some.ensures.steps in (
      omega (arith, ap length e, l.invariant.0),
      l.invariant.1,
      sym (written_on l.end c.in-Some.b (decoded c.next.new.self.raw.now) l.out (omega (arith, ap length e, l.invariant.0, l.invariant.1)))
          ∙ ap (λ w. written l.end w l.out) (sym e) ∙ l.invariant.2,
    )

pub returns : goal.returns
returns c =
    let l = c.loop-b in
    let e = c.in-None.ensures.steps.0 in
    puts_whole c.args.at (decoded c.args.raw.now) c.args.out.now l.out l.end l.invariant.1 (omega (arith, ap length e, l.invariant.0))
    (sym (written_nil l.end l.out) ∙ ap (λ w. written l.end w l.out) (sym e) ∙ l.invariant.2)
