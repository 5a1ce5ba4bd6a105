-- `reference_end` meets its contract: `a`, `l`, `g` and `q` begin the five references.
use mathlib.Core.Path.{refl, ◌∙◌, sym}
use native.Mathlib.Omega.{arith}
use lib.ListN.{length}
use borrow.Author.Tests.{ne_eqb}
use borrow.Author.Rules.{rules}
use Rattle.slices.specs.Words.{bytes}
use Rattle.xml.specs.CheckSteps.{form_step, ended, reads}
use Rattle.xml.proofs.Scanned.{found, found_none, scan_refused, scan_at, scan_out}
use Rattle.xml.proofs.characters.reference_end.Goals as goal

pub returns-in-Some-eq97 : goal.returns-in-Some-eq97
unfolding form_step reads bytes
returns-in-Some-eq97 c =
    let g = c.in-Some-eq97.ensures.lookup in
    λ p. scan_at 97 g.3.0 (sym c.in-Some-eq97.field-0-test ∙ g.4 (omega arith) 0) (λ ns. refl) (c.reference_a_end.ensures p)

pub returns-in-Some-eq108 : goal.returns-in-Some-eq108
unfolding form_step reads bytes
returns-in-Some-eq108 c =
    let g = c.in-Some-eq108.ensures.lookup in
    λ p. scan_at 108 g.3.0 (sym c.in-Some-eq108.field-0-test ∙ g.4 (omega arith) 0) (λ ns. refl) (c.word_end.ensures p)

pub returns-in-Some-eq103 : goal.returns-in-Some-eq103
unfolding form_step reads bytes
returns-in-Some-eq103 c =
    let g = c.in-Some-eq103.ensures.lookup in
    λ p. scan_at 103 g.3.0 (sym c.in-Some-eq103.field-0-test ∙ g.4 (omega arith) 0) (λ ns. refl) (c.word_end-in-Some-eq103.ensures p)

pub returns-in-Some-eq113 : goal.returns-in-Some-eq113
unfolding form_step reads bytes
returns-in-Some-eq113 c =
    let g = c.in-Some-eq113.ensures.lookup in
    λ p. scan_at 113 g.3.0 (sym c.in-Some-eq113.field-0-test ∙ g.4 (omega arith) 0) (λ ns. refl) (c.word_end-in-Some-eq113.ensures p)

pub returns-in_default : goal.returns-in_default
unfolding form_step ended bytes
returns-in_default c =
    λ p. scan_refused c.in_default.field-0.now (found c.in_default.field-0 c.in_default.is (c.get.ensures.lookup.4 (omega arith) 0)) (search rules) refl (λ ns. simp (ne_eqb c.in_default.field-0.now 97 (λ z. grind (arith, c.in_default.field-0-test, z)), ne_eqb c.in_default.field-0.now 108 (λ z. grind (arith, c.in_default.field-0-test, z)), ne_eqb c.in_default.field-0.now 103 (λ z. grind (arith, c.in_default.field-0-test, z)), ne_eqb c.in_default.field-0.now 113 (λ z. grind (arith, c.in_default.field-0-test, z))))

pub returns-in_default-2 : goal.returns-in_default-2
unfolding ended
returns-in_default-2 c = λ p. scan_out (search rules) (found_none c.args.from (length c.args.text.now) c.in_default.is c.get.ensures.lookup.0) refl
