-- `row` ends, since a row goes on behind each of its elements.
use Rattle.std.proofs.Common.{arith}
use Rattle.elements_cases.proofs.row.Goals as goal

pub loop-next-smaller : goal.loop-next-smaller
loop-next-smaller g c =
    let s = c.args.text.now in
    let l = c.loop-next in
    let t = c.in-Some.ensures in
    omega (arith, t.place, t.after)
