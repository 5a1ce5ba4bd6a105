-- When an extent lies on the tape (01, Extents), over the lengths of a partition's data blocks by block number; 0 where no data block stands.
use Rattle.std.specs.Prelude.{Bool, ◌&&◌, List, ℕ, ◌+◌, ◌-◌, ◌/◌, ◌%◌, leb, eqb, take, drop, get_or}
use Rattle.slices.specs.Slices.{every}
use Rattle.extents.specs.declared.Row.{Row}

-- with E = byteoffset + bytecount, of the blocks startblock to startblock + (E - 1) div B all but the last are exactly B long,
-- the last at least (E - 1) mod B + 1. Where the list ends before the last block, `take` is shorter and the last test fails
unfoldable pub lies_on_tape : List ℕ → ℕ → Row → Bool
lies_on_tape lengths B r =
    let E : ℕ = r.byteoffset + r.bytecount in
    every (eqb B) (take ((E - 1) / B) (drop r.startblock lengths))
    && leb ((E - 1) % B + 1) (get_or lengths (r.startblock + (E - 1) / B) 0)
