-- `on_data_side` meets its contract: a Form is the data side's; another refusal stays.
use mathlib.Core.Path.{sym, ap}
use Rattle.refusals.specs.Refusals.{on_data_side}
use Rattle.refusals.proofs.Places.{tagged, stays}
use Rattle.refusals.proofs.on_data_side.Goals as goal

pub returns-in_default : goal.returns-in_default
returns-in_default c = stays c.args.refusal (tagged c.args.refusal c.in_default.not-Form)

pub returns : goal.returns
returns c = sym (ap on_data_side c.in-Form.is)
