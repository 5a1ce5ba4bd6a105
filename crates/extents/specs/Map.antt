-- The byte map (01, Extents): where the byte at a file position is.
use Rattle.std.specs.Prelude.{Bool, cond, ◌&&◌, List, [], ◌∷◌, ℕ, ◌+◌, ◌-◌, ◌/◌, ◌%◌, leb, ltb, eqb, length, None, Option, Some, Ok}
use Rattle.refusals.specs.Refusals.{Answer, require}
use Rattle.refusals.specs.declared.Refusal.TheVariants.{Caller, TooMany, Extents, Missing}
use Rattle.slices.specs.Slices.{every}
use Rattle.quantities.specs.Letters.{is_letter}
use Rattle.quantities.specs.Sizes.{is_block_size}
use Rattle.extents.specs.declared.Stored.{Stored}
use Rattle.extents.specs.declared.Row.{Row}
use Rattle.extents.specs.Rows.{rows_of}
use Rattle.extents.specs.Lawful.{in_row, lawful}

-- a byte of a block; none: a zero byte that is not stored
abbrev pub BytePlace : Type 0
BytePlace = Option Stored

-- in a row: the block is startblock + (byteoffset + p - fileoffset) div B, at the remainder
abbrev pub byte_in_row : ℕ → ℕ → Row → Stored
byte_in_row B p r =
    record {
      letter = r.letter;
      block = record { 0 = r.startblock + (r.byteoffset + (p - r.fileoffset)) / B };
      byte = record { 0 = (r.byteoffset + (p - r.fileoffset)) % B };
    }

-- in no row: not stored
unfoldable pub byte_at : ℕ → ℕ → List Row → BytePlace
byte_at B p [] = None
byte_at B p (r ∷ rows) = cond (in_row p r) (Some (byte_in_row B p r)) (byte_at B p rows)

-- each row's letter is `a` to `z`
abbrev pub lettered : List Row → Bool
lettered rows = every (λ (r : Row). is_letter r.letter) rows

-- the most extents of a file (01, Bounds)
abbrev pub max_rows : ℕ
max_rows = 1024

-- 14 for block size, letters and numbers not in fives; 15; 11; 2 (01, Refusal numbers)
unfoldable pub byte_map : List ℕ → ℕ → ℕ → ℕ → Answer BytePlace
byte_map numbers L B p =
    require (is_block_size B && lettered (rows_of numbers) && eqb (length numbers % 5) 0) Caller
    (require (leb (length (rows_of numbers)) max_rows) TooMany
    (require (lawful L B (rows_of numbers)) Extents
    (require (ltb p L) Missing
    (Ok (byte_at B p (rows_of numbers))))))
