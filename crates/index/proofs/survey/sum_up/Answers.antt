-- `sum_up` meets its contract: the classes in their order.
use borrow.Author.Tests.{not-true, not-false}
use Rattle.index.proofs.Surveying.{refused_structure, refused_few, refused_many, refused_values, refused_repeated, refused_foreign, refused_extents, all_sound}
use Rattle.index.proofs.survey.sum_up.Goals as goal
use Rattle.index.proofs.survey.sum_up.Goals.{then-not-s-2-via-then-not-s-2, then-not-s-2-via-else-not-s-2+then-s-gt4096, then-not-s-3-via-then-not-s-3, then-not-s-3-via-else-not-s-3+then-not-unique}

pub returns-then-not-s : goal.returns-then-not-s
returns-then-not-s c s g k u₀ e e' o o' swept = refused_structure s g k u₀ e e' o o' c.args.s c.args.table.now swept (not-true _ c.if-not-s.true)

pub returns-then-not-s-2 : goal.returns-then-not-s-2
returns-then-not-s-2 c s g k u₀ e e' o o' swept =
    let a = c.args.s in
    let u = c.args.table.now in
    let c5 = not-false _ c.if-not-s.false in
    elim c.then-not-s-2.branch [
      | then-not-s-2-via-then-not-s-2 w ↦ refused_few s g k u₀ e e' o o' a u swept c5 (not-true _ w.if-not-s-2.true)
      | then-not-s-2-via-else-not-s-2+then-s-gt4096 w ↦ refused_many s g k u₀ e e' o o' a u swept c5 w.if-s-gt4096.true
    ]

pub returns-then-not-s-3 : goal.returns-then-not-s-3
returns-then-not-s-3 c s g k u₀ e e' o o' swept =
    let a = c.args.s in
    let u = c.args.table.now in
    let c5 = not-false _ c.if-not-s.false in
    let c15 = not-false _ c.if-not-s-2.false in
    let few = c.if-s-gt4096.false in
    elim c.then-not-s-3.branch [
      | then-not-s-3-via-then-not-s-3 w ↦ refused_values s g k u₀ e e' o o' a u swept c5 c15 few (not-true _ w.if-not-s-3.true)
      | then-not-s-3-via-else-not-s-3+then-not-unique w ↦ refused_repeated s g k u₀ e e' o o' a u swept c5 c15 few c.told-table w.unique.ensures w.if-not-unique.true
    ]

pub returns-then-not-s-4 : goal.returns-then-not-s-4
returns-then-not-s-4 c s g k u₀ e e' o o' swept =
    refused_foreign s g k u₀ e e' o o' c.args.s c.args.table.now swept (not-false _ c.if-not-s.false) (not-false _ c.if-not-s-2.false) c.if-s-gt4096.false
    c.told-table c.unique.ensures (not-false _ c.if-not-s-3.false) c.if-not-unique.false (not-true _ c.if-not-s-4.true)

pub returns-then-not-s-5 : goal.returns-then-not-s-5
returns-then-not-s-5 c s g k u₀ e e' o o' swept =
    refused_extents s g k u₀ e e' o o' c.args.s c.args.table.now swept (not-false _ c.if-not-s.false) (not-false _ c.if-not-s-2.false) c.if-s-gt4096.false
    c.told-table c.unique.ensures (not-false _ c.if-not-s-3.false) c.if-not-unique.false (not-false _ c.if-not-s-4.false) (not-true _ c.if-not-s-5.true)

pub returns : goal.returns
returns c s g k u₀ e e' o o' swept =
    all_sound s g k u₀ e e' o o' c.args.s c.args.table.now swept (not-false _ c.if-not-s.false) (not-false _ c.if-not-s-2.false) c.if-s-gt4096.false
    c.told-table c.unique.ensures (not-false _ c.if-not-s-3.false) c.if-not-unique.false (not-false _ c.if-not-s-4.false) (not-false _ c.if-not-s-5.false)
