-- A list and a store read from left to right: what stands at a place of the list, and the tape that they encode, if there is one.
-- `proofs/Encoding.antt` shows that this is the tape of `Encodes`.
use Rattle.std.specs.Prelude.{Bool, cond, ◌&&◌, List, [], ◌∷◌, ℕ, zero, suc, ◌+◌, length, get_or, take, drop, leb, ltb, eqb, None, Option, Some}
use Rattle.big_endian.specs.BigEndian.{bytes_say}
use Rattle.tape.specs.declared.Entry.{Entry}
use Rattle.tape.specs.declared.Entry.TheVariants.{Mark, Block, Unreadable, End, Bad}
use Rattle.tape.specs.declared.Cell.{Cell}
use Rattle.tape.specs.declared.Cell.TheVariants.{Mark as mark_cell, Block as block_cell, Unreadable as unreadable_cell}
use Rattle.tape.specs.Tape.{Element, mark, block, unreadable, Tape, mark_kind, block_kind, unreadable_kind, is_block_length, max_elements, max_store}

-- the number in the four bytes at a place, high byte first
abbrev pub number_at : List ℕ → ℕ → ℕ
number_at l at = bytes_say (take 4 (drop at l))

-- what stands at a place of a list, and where the next entry begins; nothing where the list ends
unfoldable pub entry_at : List ℕ → ℕ → Entry
entry_at l at =
    cond (ltb at (length l))
    (cond (eqb (get_or l at 0) mark_kind) (Mark (at + 1))
    (cond (eqb (get_or l at 0) unreadable_kind) (Unreadable (at + 1))
    (cond (eqb (get_or l at 0) block_kind && leb (at + 5) (length l) && is_block_length (number_at l (at + 1)))
    (Block (number_at l (at + 1)) (at + 5))
    Bad)))
    End

unfoldable pub added : Cell → Option (List Cell) → Option (List Cell)
added c None = None
added c (Some cs) = Some (c ∷ cs)

-- an entry's element and those behind it; none where no entry of a list stands
abbrev pub and_behind : (ℕ → Option (List Cell)) → Entry → Option (List Cell)
and_behind behind (Mark next) = added mark_cell (behind next)
and_behind behind (Block n next) = added (block_cell n) (behind next)
and_behind behind (Unreadable next) = added unreadable_cell (behind next)
and_behind behind End = Some []
and_behind behind Bad = None

-- what a list says of its elements from a place on; none past so many entries
unfoldable pub cells_from : ℕ → List ℕ → ℕ → Option (List Cell)
cells_from zero l at = None
cells_from (suc n) l at = and_behind (cells_from n l) (entry_at l at)

-- what a list says of its elements; an entry has at least a byte
abbrev pub cells : List ℕ → Option (List Cell)
cells l = cells_from (suc (length l)) l 0

-- the bytes that an element has in the store
abbrev pub size : Cell → ℕ
size mark_cell = 0
size (block_cell n) = n
size unreadable_cell = 0

unfoldable pub total : List Cell → ℕ
total [] = 0
total (c ∷ cs) = size c + total cs

-- the element with those bytes
abbrev pub element_of : Cell → List ℕ → Element
element_of mark_cell x = mark
element_of (block_cell n) x = block x
element_of unreadable_cell x = unreadable

-- the blocks' bytes from the store
unfoldable pub filled : List Cell → List ℕ → Tape
filled [] s = []
filled (c ∷ cs) s = element_of c (take (size c) s) ∷ filled cs (drop (size c) s)

abbrev pub within_bounds : List Cell → List ℕ → Bool
within_bounds cs s = leb (length cs) max_elements && eqb (total cs) (length s) && leb (length s) max_store

unfoldable pub filled_with : List ℕ → Option (List Cell) → Option Tape
filled_with s None = None
filled_with s (Some cs) = cond (within_bounds cs s) (Some (filled cs s)) None

-- the tape that a list and a store encode
unfoldable pub tape_of : List ℕ → List ℕ → Option Tape
tape_of l s = filled_with s (cells l)
