-- `elements` meets its contract. Invariant: in the elements whose names are at the first d places, the outcome from i on is the same.
use mathlib.Core.Path.{refl, ◌∙◌}
use lib.ListN.{replicate}
use borrow.Author.Rules.{rules}
use Rattle.std.proofs.lemmas.Result.{err_from_is_err_and}
use Rattle.xml.specs.declared.Turn.TheVariants.{Opened, Inside, Outside}
use Rattle.xml.proofs.Tagged.{tells}
use Rattle.xml.proofs.OpenElements.{first, opened, inside, left, root_ended, stopped}
use Rattle.xml.proofs.elements.Goals as goal

pub loop-turn-init : goal.loop-turn-init
loop-turn-init c = first _ _ (replicate 63 c.args.name) _ (search rules) refl

pub loop-turn-preserved-in-Opened : goal.loop-turn-preserved-in-Opened
loop-turn-preserved-in-Opened c =
    let j = c.in_ok-turn.j in
    opened c.loop-turn.invariant c.next_tag.ensures c.in-Opened.opened j (tells (c.in_ok-turn.turn, j) (Opened c.in-Opened.opened) c.in_ok-turn.was c.in-Opened.is)

pub loop-turn-preserved-in-Inside : goal.loop-turn-preserved-in-Inside
loop-turn-preserved-in-Inside c =
    let j = c.in_ok-turn.j in
    inside c.loop-turn.invariant c.next_tag.ensures j (tells (c.in_ok-turn.turn, j) Inside c.in_ok-turn.was c.in-Inside.is)

pub returns-then-depth-eq1 : goal.returns-then-depth-eq1
returns-then-depth-eq1 c =
    let j = c.in_ok-turn.j in
    let y = c.finish.ensures in
    record {
      runs = root_ended c.loop-turn.invariant c.next_tag.ensures j (tells (c.in_ok-turn.turn, j) Outside c.in_ok-turn.was c.in-Outside.is) c.if-depth-eq1.true ∙ y.runs;
      ends = y.ends;
    }

pub loop-turn-preserved : goal.loop-turn-preserved
loop-turn-preserved c =
    let j = c.in_ok-turn.j in
    left c.loop-turn.invariant c.next_tag.ensures j (tells (c.in_ok-turn.turn, j) Outside c.in_ok-turn.was c.in-Outside.is) c.if-depth-eq1.false

pub returns-in_err-turn : goal.returns-in_err-turn
returns-in_err-turn c =
    let p = err_from_is_err_and c.from_residual.result c.from_residual.ensures.1 in
    let z = stopped c.loop-turn.invariant c.next_tag.ensures c.in_err-turn.field-0.0 c.in_err-turn.was in
    rw (p.1, p.2) (record { runs = z.0; ends = z.1 })
