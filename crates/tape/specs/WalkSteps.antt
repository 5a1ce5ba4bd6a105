-- What the walks over a list answer: its totals, how far its first n entries reach, and the block that stands behind them.
use Rattle.std.specs.Prelude.{cond, List, [], ◌∷◌, ℕ, zero, suc, ◌+◌, length, leb, None, Option, Some, Err, Ok}
use Rattle.refusals.specs.declared.Refusal.TheVariants as refusal
use Rattle.refusals.specs.Refusals.{Answer}
use Rattle.tape.specs.declared.Entry.{Entry}
use Rattle.tape.specs.declared.Entry.TheVariants.{Mark, Block, Unreadable, End, Bad}
use Rattle.tape.specs.declared.Front.{Front}
use Rattle.tape.specs.declared.Spot.{Spot}
use Rattle.tape.specs.declared.Totals.{Totals}
use Rattle.tape.specs.declared.Cell.{Cell}
use Rattle.tape.specs.declared.Cell.TheVariants.{Mark as mark_cell, Block as block_cell, Unreadable as unreadable_cell}
use Rattle.tape.specs.Tape.{max_elements}
use Rattle.tape.specs.ReadingSteps.{size, total, entry_at}

-- the number of elements and the bytes of their blocks, with n elements and v bytes already counted; none past the bound
unfoldable pub totals_from : ℕ → ℕ → Option (List Cell) → Option Totals
totals_from n v None = None
totals_from n v (Some cs) = cond (leb (n + length cs) max_elements) (Some (record { elements = n + length cs; bytes = v + total cs })) None

-- what an entry says of its element, and the place of the next entry; none where no element stands
abbrev pub passed : Entry → Option (Cell × ℕ)
passed (Mark next) = Some (mark_cell, next)
passed (Block n next) = Some (block_cell n, next)
passed (Unreadable next) = Some (unreadable_cell, next)
passed End = None
passed Bad = None

-- an element and those from the next place on, or none
abbrev pub and_on : (ℕ → List Cell) → Option (Cell × ℕ) → List Cell
and_on rest None = []
and_on rest (Some x) = x.0 ∷ rest x.1

-- the elements of a list from a place on, as far as there are entries; at most so many
unfoldable pub cells_within : ℕ → List ℕ → ℕ → List Cell
cells_within zero l at = []
cells_within (suc n) l at = and_on (cells_within n l) (passed (entry_at l at))

-- an entry has at least a byte
abbrev pub cells_left : List ℕ → ℕ → List Cell
cells_left l at = cells_within (length l) l at

-- what follows an entry: the walk from the next place with the element's bytes, or where it stops
abbrev pub past : (ℕ → ℕ → Front) → Front → Option (Cell × ℕ) → Front
past walk here None = here
past walk here (Some x) = walk x.1 (here.store + size x.0)

-- how far the next n entries reach from a place, and the bytes of their blocks on top of v; where the list ends or breaks off, it stops
unfoldable pub reach : ℕ → List ℕ → ℕ → ℕ → Front
reach zero l at v = record { list = at; store = v }
reach (suc n) l at v = past (reach n l) (record { list = at; store = v }) (passed (entry_at l at))

abbrev pub spot_of : ℕ → Entry → Answer Spot
spot_of from (Mark next) = Err refusal.Missing
spot_of from (Block n next) = Ok (record { from = from; size = n })
spot_of from (Unreadable next) = Err refusal.Unreadable
spot_of from End = Err refusal.Missing
spot_of from Bad = Err refusal.Missing

-- the block behind the first n entries: where its bytes begin, and their number; 2 where none stands there, 19 where it is unreadable
unfoldable pub spot_at : List ℕ → ℕ → Answer Spot
spot_at l n = spot_of (reach n l 0 0).store (entry_at l (reach n l 0 0).list)

-- the block with a number, of a list with so many elements
abbrev pub spot_below : ℕ → List ℕ → ℕ → Answer Spot
spot_below count l n = cond (leb count n) (Err refusal.Missing) (spot_at l n)
