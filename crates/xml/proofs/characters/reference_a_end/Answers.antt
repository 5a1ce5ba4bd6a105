-- `reference_a_end` meets its contract: `m` and `p` begin the rest of `amp;` and `apos;`.
use mathlib.Core.Path.{refl, ◌∙◌, sym}
use native.Mathlib.Omega.{arith}
use lib.ListN.{length}
use borrow.Author.Tests.{ne_eqb}
use borrow.Author.Rules.{rules}
use Rattle.slices.specs.Words.{bytes}
use Rattle.xml.specs.CheckSteps.{form_step, ended, reads}
use Rattle.xml.proofs.Scanned.{found, found_none, scan_refused, scan_at, scan_out}
use Rattle.xml.proofs.characters.reference_a_end.Goals as goal

pub returns-in-Some-eq109 : goal.returns-in-Some-eq109
unfolding form_step reads bytes
returns-in-Some-eq109 c =
    let g = c.in-Some-eq109.ensures.lookup in
    λ p. scan_at 109 g.3.0 (sym c.in-Some-eq109.field-0-test ∙ g.4 (omega arith) 0) (λ ns. refl) (c.word_end.ensures p)

pub returns-in-Some-eq112 : goal.returns-in-Some-eq112
unfolding form_step reads bytes
returns-in-Some-eq112 c =
    let g = c.in-Some-eq112.ensures.lookup in
    λ p. scan_at 112 g.3.0 (sym c.in-Some-eq112.field-0-test ∙ g.4 (omega arith) 0) (λ ns. refl) (c.word_end-in-Some-eq112.ensures p)

pub returns-in_default : goal.returns-in_default
unfolding form_step ended bytes
returns-in_default c =
    λ p. scan_refused c.in_default.field-0.now (found c.in_default.field-0 c.in_default.is (c.get.ensures.lookup.4 (omega arith) 0)) (search rules) refl (λ ns. simp (ne_eqb c.in_default.field-0.now 109 (λ z. grind (arith, c.in_default.field-0-test, z)), ne_eqb c.in_default.field-0.now 112 (λ z. grind (arith, c.in_default.field-0-test, z))))

pub returns-in_default-2 : goal.returns-in_default-2
unfolding ended
returns-in_default-2 c = λ p. scan_out (search rules) (found_none c.args.from (length c.args.text.now) c.in_default.is c.get.ensures.lookup.0) refl
