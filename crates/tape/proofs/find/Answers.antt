-- `tape::find` meets its contract: the entry where the walk ends is the one asked for.
use Rattle.std.proofs.Common.{◌≡◌, inl, inr}
use Rattle.tape.specs.declared.Entry.{Entry}
use Rattle.tape.specs.WalkSteps.{spot_of, spot_at}
use Rattle.tape.proofs.Blocks.{spot_as}
use Rattle.tape.proofs.find.Goals as goal

pub returns-in-Block : goal.returns-in-Block
returns-in-Block c = spot_as c.args.list.now c.args.n c.walk-front.ensures c.entry_at.ensures c.in-Block.is

pub returns-in-Unreadable : goal.returns-in-Unreadable
returns-in-Unreadable c = spot_as c.args.list.now c.args.n c.walk-front.ensures c.entry_at.ensures c.in-Unreadable.is

pub returns-in-Mark : goal.returns-in-Mark
returns-in-Mark c =
    let found : (e : Entry) → c.entry_at.result ≡ e → spot_of c.walk-front.result.store e ≡ spot_at c.args.list.now c.args.n
    = λ e q. spot_as c.args.list.now c.args.n c.walk-front.ensures c.entry_at.ensures q in
    elim c.in-Mark.is [ inl m ↦ found _ m.1 | inr o ↦ elim o [ inl e ↦ found _ e | inr b ↦ found _ b ] ]
