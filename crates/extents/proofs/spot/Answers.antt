-- `extents::spot` meets its contract: the byte is in the block of ahead, or in the one after it.
use Rattle.std.proofs.Common.{◌≡◌, ◌+◌, ◌-◌, ◌%◌, sym, ◌∙◌, arith}
use Rattle.extents.proofs.Blocks.{same_block, next_block}
use Rattle.extents.proofs.spot.Goals as goal

pub returns-then-offset-size : goal.returns-then-offset-size
returns-then-offset-size c =
    let a = c.args in
    let z = same_block a.offset a.ahead a.size c.requires (omega arith) in
    (sym z.0, sym z.1)

pub returns : goal.returns
returns c =
    let a = c.args in
    let z = next_block a.offset a.ahead a.size c.requires (omega arith) in
    let e : a.offset - (a.size - a.ahead % a.size) ≡ a.offset + a.ahead % a.size - a.size = omega arith in
    (sym z.0, e ∙ sym z.1)
