-- `word_end` meets its contract. Invariant: what is left of the word is read from i on.
use mathlib.Core.Path.{◌∙◌, sym}
use native.Mathlib.Omega.{arith}
use lib.ListN.{length}
use borrow.Author.Rules.{rules}
use Rattle.xml.proofs.Scanned.{found_none}
use Rattle.xml.proofs.Scanning.{word_out, word_refused, word_on, word_done}
use Rattle.xml.proofs.bytes.word_end.Goals as goal

pub returns-in_default : goal.returns-in_default
returns-in_default c =
    let l = c.loop-c in
    let a = c.args in
    let g = c.in-Some.ensures.lookup in
    λ p. record { runs = λ ns. l.invariant.2 p ns ∙ word_refused a.text.now l.i a.word.now l.c-index p ns g.3.0 (search rules) (λ z. c.if-b-c.false (g.4 (omega arith) 0 ∙ z)); ends = l.invariant.1 }

pub returns-in_default-2 : goal.returns-in_default-2
returns-in_default-2 c =
    let l = c.loop-c in
    let a = c.args in
    let n = found_none l.i (length a.text.now) c.in_default.is c.get.ensures.lookup.0 in
    λ p. record { runs = λ ns. l.invariant.2 p ns ∙ word_out a.text.now l.i a.word.now l.c-index p ns (search rules) n (search rules); ends = l.invariant.1 }

pub loop-c-preserved : goal.loop-c-preserved
loop-c-preserved c =
    let l = c.loop-c in
    let a = c.args in
    let g = c.in-Some.ensures.lookup in
    (search rules, omega (arith, g.3.0), λ p ns. l.invariant.2 p ns ∙ word_on a.text.now l.i a.word.now l.c-index p ns g.3.0 (search rules) (sym (g.4 (omega arith) 0) ∙ c.if-b-c.true))

pub returns : goal.returns
returns c =
    let l = c.loop-c in
    let a = c.args in
    λ p. record { runs = λ ns. l.invariant.2 p ns ∙ word_done a.text.now l.i a.word.now l.c-index p ns (search rules); ends = (search rules, search rules) }
