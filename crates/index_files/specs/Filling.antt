-- A file's four numbers, and rows in a lent buffer (01, Index and Extents), five numbers each, from the front on. Refusals: those of what is asked for,
-- then 10 for a buffer too short, which is left as it was.
use Rattle.std.specs.Prelude.{◌≡◌, List, ℕ, ◌+◌, ◌*◌, leb, Err, Ok}
use lib.ListN.{length, take, drop, get_or}
use Rattle.refusals.specs.Refusals.{Answer, require, and_then}
use Rattle.refusals.specs.declared.Refusal.TheVariants.{Short}
use Rattle.slices.specs.Slices.{written}
use Rattle.elements.specs.declared.heads.Span.{Span}
use Rattle.elements.specs.Reading.{Spans}
use Rattle.extents.specs.declared.Row.{Row}
use Rattle.extents.specs.Rows.{numbers_of}
use Rattle.index.specs.Index.{File}
use Rattle.index_files.specs.Names.{name_place}

module _ {A : Type 0} where
  -- 10: a buffer of that length is too short for so many numbers of each
  abbrev pub with_room : ℕ → ℕ → List A → Answer (List A)
  with_room each room l = require (leb (length l * each) room) Short (Ok l)

  -- the buffer after: as it was, where refused
  abbrev pub Stored : (List A → List ℕ → List ℕ → Type 0) → Answer (List A) → List ℕ → List ℕ → Type 0
  Stored holds (Err r) before after = after ≡ before
  Stored holds (Ok l) before after = holds l before after

-- the buffer after: rows at its front, and the rest as it was
abbrev pub HoldsRows : List Row → List ℕ → List ℕ → Type 0
HoldsRows l before after = after ≡ written 0 (numbers_of l) before

-- the part of a text whose place and length are the numbers k and k + 1
abbrev pub part_told : List ℕ → List ℕ → ℕ → List ℕ
part_told s out k = take (get_or out (k + 1) 0) (drop (get_or out k 0) s)

-- they are the place of the part w, which lies in the text
abbrev pub TellsPart : List ℕ → List ℕ → ℕ → List ℕ → Type 0
TellsPart s out k w = Spans s (get_or out k 0) (get_or out (k + 1) 0) w

-- the place that they tell
abbrev pub place_told : List ℕ → ℕ → Span
place_told out k = record { from = get_or out k 0; len = get_or out (k + 1) 0 }

-- four numbers say what a file with the tag t says: its length, the place of its name, as spelled, in s and its length, and how many rows it has
pub record SaysFile (s t : List ℕ) (f : File) (out : List ℕ) : Type 0 where
  pub length : get_or out 0 0 ≡ f.length
  pub name : TellsPart s out 1 f.name
  pub place : place_told out 1 ≡ name_place s t
  pub rows : get_or out 3 0 ≡ lib.ListN.length f.rows

-- where a buffer of so many numbers has room for the rows of a file
abbrev pub rows_for : ℕ → Answer File → Answer (List Row)
rows_for room a = and_then a (λ f. with_room 5 room f.rows)
