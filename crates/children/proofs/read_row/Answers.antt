-- `children::read_row` meets its contract. Invariant: the elements before i are passed, each with its place at its rule's number.
use Rattle.std.proofs.Common.{◌≡◌, ◌∙◌, refl, sym, replicate, arith}
use Rattle.std.specs.Prelude.{None}
use Rattle.std.proofs.Math.ListN.{length-take}
use Rattle.elements.specs.Reading.{forest_at}
use Rattle.children.specs.RowSteps.{rules, table_of}
use Rattle.children.proofs.Counted.{too_many}
use Rattle.children.proofs.Seats.{no_seats}
use Rattle.children.proofs.Passed.{none_passed, all_passed}
use Rattle.children.proofs.Next.{unruled, uncounted, unfitting, twice, noted_there}
use Rattle.children.proofs.read_row.Goals.{then-rule-ge16-via-then-rule-ge16, then-rule-ge16-via-else-rule-ge16+then-not-is_known}
use Rattle.children.proofs.read_row.Goals as goal

pub returns-then-must-gt16 : goal.returns-then-must-gt16
returns-then-must-gt16 c =
    let rs = rules c.args.table.now in
    too_many (table_of c.args.table.now) c.args.must (forest_at c.args.text.now c.args.at) (omega (arith, length-take 16 rs, c.if-must-gt16.true))

pub loop-child-init : goal.loop-child-init
loop-child-init c = (omega arith, refl, none_passed c.args.text.now (table_of c.args.table.now) c.args.at (replicate 16 0) no_seats)

pub returns-in_err-rule : goal.returns-in_err-rule
returns-in_err-rule c =
    let l = c.loop-child in
    let r : c.from_residual.result ≡ None = grind arith in
    rw r (unruled _ _ l.invariant.2 c.in-Some.ensures c.name_of.ensures c.in_err-rule.ensures)

pub returns-then-rule-ge16 : goal.returns-then-rule-ge16
returns-then-rule-ge16 c =
    let l = c.loop-child in
    elim c.then-rule-ge16.branch [
      | then-rule-ge16-via-then-rule-ge16 w ↦ uncounted _ _ l.invariant.2 c.in-Some.ensures c.name_of.ensures c.in_ok-rule.ensures w.if-rule-ge16.true
      | then-rule-ge16-via-else-rule-ge16+then-not-is_known w ↦ unfitting _ _ l.invariant.2 c.in-Some.ensures c.name_of.ensures c.in_ok-rule.ensures (sym w.is_known.ensures ∙ w.if-not-is_known.true)
    ]

pub returns-then-seats-rule-ne0 : goal.returns-then-seats-rule-ne0
returns-then-seats-rule-ne0 c =
    let l = c.loop-child in
    twice _ _ l.invariant.2 c.in-Some.ensures c.name_of.ensures c.in_ok-rule.ensures
    (omega arith) (sym c.is_known.ensures ∙ c.if-not-is_known.false) c.if-seats-rule-ne0.true

pub loop-child-preserved : goal.loop-child-preserved
loop-child-preserved c =
    let l = c.loop-child in
    let on = noted_there _ c.args.must l.invariant.2 c.in-Some.ensures c.name_of.ensures c.in_ok-rule.ensures (omega arith) (sym c.is_known.ensures ∙ c.if-not-is_known.false) l.invariant.1 c.if-seats-rule-ne0.false in
    (l.invariant.0, on.0, on.1)

pub returns : goal.returns
returns c =
    let l = c.loop-child in
    rw c.then_some.ensures (all_passed c.args.text.now (table_of c.args.table.now) c.args.at l.i l.seats l.invariant.2 c.in_default.ensures c.args.must _ c.all_seated.ensures)
