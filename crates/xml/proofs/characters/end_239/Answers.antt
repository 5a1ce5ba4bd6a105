-- `end_239` meets its contract: behind 239 and 191 the last byte is at most 189.
use mathlib.Core.Path.{refl}
use native.Mathlib.Omega.{arith}
use borrow.Author.Tests.{lt-ltb, le-ltb}
use borrow.Author.Rules.{rules}
use Rattle.xml.specs.CheckSteps.{form_step, ended}
use Rattle.xml.proofs.Scanned.{stands, scan_refused, scan_on}
use Rattle.xml.proofs.characters.end_239.Goals as goal

pub overflow_add-from : goal.overflow_add-from
overflow_add-from c =
    let h = stands c.args.text.now c.args.from c.byte.result c.byte.ensures (omega arith) in
    omega arith

pub tail_end-requires : goal.tail_end-requires
tail_end-requires c =
    let h = stands c.args.text.now c.args.from c.byte.result c.byte.ensures (omega arith) in
    omega arith

pub returns-in-191 : goal.returns-in-191
unfolding form_step
returns-in-191 c =
    λ p. scan_on c.byte.result c.byte.ensures (omega arith)
    (λ ns. simp (le-ltb c.byte.result 128 (omega arith), le-ltb c.byte.result 191 (omega arith), lt-ltb c.byte.result 192 (omega arith))) (c.tail_end.ensures p)

pub overflow_add-from-in-128-to-190 : goal.overflow_add-from-in-128-to-190
overflow_add-from-in-128-to-190 c =
    let h = stands c.args.text.now c.args.from c.byte.result c.byte.ensures (omega arith) in
    omega arith

pub tail_end-requires-in-128-to-190 : goal.tail_end-requires-in-128-to-190
tail_end-requires-in-128-to-190 c =
    let h = stands c.args.text.now c.args.from c.byte.result c.byte.ensures (omega arith) in
    omega arith

pub returns-in-128-to-190 : goal.returns-in-128-to-190
unfolding form_step
returns-in-128-to-190 c =
    λ p. scan_on c.byte.result c.byte.ensures (omega arith) (λ ns. simp (le-ltb c.byte.result 128 (omega arith), lt-ltb c.byte.result 191 (omega arith)))
    (c.tail_end-in-128-to-190.ensures p)

pub returns-in_default : goal.returns-in_default
unfolding form_step ended
returns-in_default c = λ p. scan_refused c.byte.result c.byte.ensures (search rules) refl (λ ns. simp (lt-ltb c.byte.result 128 (omega arith)))

pub returns-in_default-2 : goal.returns-in_default-2
unfolding form_step ended
returns-in_default-2 c =
    λ p. scan_refused c.byte.result c.byte.ensures (search rules) refl (λ ns. simp (le-ltb c.byte.result 128 (omega arith), le-ltb c.byte.result 191 (omega arith), le-ltb c.byte.result 192 (omega arith)))
