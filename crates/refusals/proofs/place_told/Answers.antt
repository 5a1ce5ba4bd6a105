-- `place_told` meets its contract: the place of a Form; of another refusal none.
use mathlib.Core.Path.{sym, ap}
use Rattle.refusals.specs.Refusals.{place_of}
use Rattle.refusals.proofs.Places.{tagged}
use Rattle.refusals.proofs.place_told.Goals as goal

pub returns-in_default : goal.returns-in_default
returns-in_default c = sym (tagged c.args.refusal c.in_default.not-Form).1

pub returns : goal.returns
returns c = sym (ap place_of c.in-Form.is)
