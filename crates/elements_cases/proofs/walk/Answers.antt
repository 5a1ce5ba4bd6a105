-- `walk` ends, since each tag stands behind the one before it.
use Rattle.std.proofs.Common.{arith}
use Rattle.elements_cases.proofs.walk.Goals as goal

pub loop-n-smaller-in-Close : goal.loop-n-smaller-in-Close
loop-n-smaller-in-Close g c =
    let s = c.args.text.now in
    let l = c.loop-n in
    let t = c.in-Close.ensures in
    omega (arith, t.place)

pub loop-n-smaller-in-Open : goal.loop-n-smaller-in-Open
loop-n-smaller-in-Open g c =
    let s = c.args.text.now in
    let l = c.loop-n in
    let t = c.in-Open.ensures in
    omega (arith, t.place)

pub loop-n-smaller : goal.loop-n-smaller
loop-n-smaller g c =
    let s = c.args.text.now in
    let l = c.loop-n in
    let t = c.in-Empty.ensures in
    omega (arith, t.place)
