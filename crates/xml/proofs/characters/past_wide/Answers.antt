-- `past_wide` meets its contract. Invariant: what is before i is text; each turn passes one character.
use mathlib.Core.Path.{refl}
use native.Mathlib.Omega.{arith}
use borrow.Author.Rules.{rules}
use Rattle.xml.proofs.KindTable.{a_text}
use Rattle.xml.proofs.Scanned.{scan_then}
use Rattle.xml.proofs.Wide.{text_one, text_two, text_three, text_four}
use Rattle.xml.proofs.characters.past_wide.Goals as goal

pub loop-i-preserved-then-b-lt128 : goal.loop-i-preserved-then-b-lt128
loop-i-preserved-then-b-lt128 c =
    let l = c.loop-i in
    (search rules, scan_then l.i l.invariant.1 refl (text_one c.args.text.now l.i (omega arith) (a_text c.kind.result _ c.kind.ensures c.if-kind-eq101.false)))

pub loop-i-preserved-then-b-lt224 : goal.loop-i-preserved-then-b-lt224
loop-i-preserved-then-b-lt224 c =
    let l = c.loop-i in
    (search rules, scan_then l.i l.invariant.1 refl (text_two c.args.text.now l.i c.if-b-lt128.false c.if-not-two_bytes.false c.two_bytes.ensures (omega arith)))

pub loop-i-preserved-then-b-lt240 : goal.loop-i-preserved-then-b-lt240
loop-i-preserved-then-b-lt240 c =
    let l = c.loop-i in
    (search rules, scan_then l.i l.invariant.1 refl (text_three c.args.text.now l.i c.if-b-lt128.false c.if-not-three_bytes.false c.three_bytes.ensures (omega arith)))

pub loop-i-preserved : goal.loop-i-preserved
loop-i-preserved c =
    let l = c.loop-i in
    (search rules, scan_then l.i l.invariant.1 refl (text_four c.args.text.now l.i c.if-b-lt128.false c.if-not-four_bytes.false c.four_bytes.ensures (omega arith)))
