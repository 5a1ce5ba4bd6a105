-- `find` meets its contract: b is found from the place on that the bytes before it were passed to.
use native.Mathlib.Omega.{arith}
use Rattle.elements.proofs.Finding.{onward_end}
use Rattle.elements.proofs.scan.find.Goals as goal

pub returns-then-text-i-lt8 : goal.returns-then-text-i-lt8
returns-then-text-i-lt8 c = onward_end c.others_end-i.ensures.onward c.find_one.ensures

pub find_ahead-requires : goal.find_ahead-requires
find_ahead-requires c = c.others_end-i.ensures.ends (omega (arith, c.others_end-i.ensures.onward.inside))

pub returns : goal.returns
returns c = onward_end c.others_end-i.ensures.onward c.find_ahead.ensures
