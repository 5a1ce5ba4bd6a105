-- `tag_end` meets its contract: a name with `>` behind it at once; for any other, invariant: the tag ends from here on as it does from n on.
use Rattle.std.proofs.Common.{◌+◌, ◌≡◌, sym, ◌∙◌, length, get_or, false, arith}
use Rattle.std.specs.Option.{is_some, unwrap_or}
use Rattle.xml.proofs.Past.{past_ahead}
use mathlib.Core.Bool.{false≢true}
use Rattle.elements.proofs.Left.{past_shut, past_byte, past_end}
use Rattle.elements.proofs.Finding.{item_at, onward_shut}
use Rattle.elements.proofs.Plain.{named_past}
use Rattle.elements.proofs.scan.tag_end.Goals as goal
use Rattle.elements.proofs.scan.tag_end.Goals.{else-is_none-via-then-is_none+else-b-eq62, else-is_none-via-else-is_none}

pub returns-then-text-e-eq62 : goal.returns-then-text-e-eq62
returns-then-text-e-eq62 c =
    let r = c.letters_end-e in
    let p = onward_shut r.ensures c.if-e-text.true c.if-text-e-eq62.true in (
      named_past c.args.text.now c.args.n r.result p c.if-e-text.true c.if-text-e-eq62.true,
      omega (arith, past_ahead p),
      omega arith,
    )

pub returns-then-b-eq62 : goal.returns-then-b-eq62
returns-then-b-eq62 c =
    let t = c.args.text.now in
    let n = c.args.n in
    let l = c.loop-k in
    (l.invariant.1 ∙ past_shut t (n + l.k) l.last l.quote c.if-is_none.ensures (omega arith) (sym (item_at t n l.k) ∙ c.if-b-eq62.true), omega arith, omega arith)

pub loop-k-preserved : goal.loop-k-preserved
loop-k-preserved c =
    let t = c.args.text.now in
    let n = c.args.n in
    let l = c.loop-k in
    let b = get_or t (n + l.k) 0 in
    let next : n + l.k + 1 ≡ n + (l.k + 1) = omega arith in
    let ends : is_some l.quote ≡ false → b ≡ 62 → ⊥ =
    elim c.else-is_none.branch [
      | else-is_none-via-then-is_none+else-b-eq62 w ↦ λ e z. w.if-b-eq62.false (item_at t n l.k ∙ z)
      | else-is_none-via-else-is_none w ↦ λ e z. false≢true (sym e ∙ w.if-is_none.ensures)
    ] in (
      c.quote_after-quote.ensures.kept,
      l.invariant.1 ∙ past_byte t (n + l.k) l.last l.quote l.invariant.0 (omega arith) ends ∙ rw (c.quote_after-quote.ensures.after, item_at t n l.k, next),
    )

pub returns : goal.returns
returns c =
    let t = c.args.text.now in
    let n = c.args.n in
    let l = c.loop-k in
    let z : n + l.k ≡ length t = omega arith in
    let e = l.invariant.1 ∙ past_end t (n + l.k) l.last (unwrap_or l.quote 0) (omega arith) in
    (rw (← z) e, omega arith, omega arith)
