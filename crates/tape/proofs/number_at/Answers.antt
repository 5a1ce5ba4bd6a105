-- `tape::number_at` meets its contract: the four bytes are the digits of the sum.
use Rattle.std.proofs.Common.{rules}
use Rattle.tape.proofs.Entries.{number_four}
use Rattle.tape.proofs.number_at.Goals as goal

pub returns : goal.returns
returns c =
    let z = number_four c.args.list.now c.args.at c.requires in
    let e = c.from_be_bytes.ensures in
    search rules
