-- The VOL1 label (01, VOL1; 002, 6.1.1).
use Rattle.std.specs.Prelude.{Bool, ◌&&◌, List, ◌++◌, ℕ, eqb, length, take, drop, Ok}
use Rattle.refusals.specs.Refusals.{Answer, require}
use Rattle.refusals.specs.declared.Refusal.TheVariants as refusal
use Rattle.slices.specs.Slices.{within, every, same}
use Rattle.slices.specs.Words.{bytes}

-- its two fields
pub record Vol1Fields : Type 0 where
  pub identifier : List ℕ
  pub owner : List ℕ

-- the block: `VOL1`, the identifier, `L`, 13 spaces, `LTFS` padded to 13, the owner, 28 spaces, `4`
unfoldable pub vol1 : List ℕ → List ℕ → List ℕ
vol1 identifier owner =
    bytes "VOL1" ++ identifier ++ bytes "L" ++ bytes "             " ++ bytes "LTFS         " ++ owner ++ bytes "                            " ++ bytes "4"

-- where the fields stand in it, and how long they are
abbrev pub identifier_at : ℕ
identifier_at = 4

abbrev pub identifier_length : ℕ
identifier_length = 6

abbrev pub owner_at : ℕ
owner_at = 37

abbrev pub owner_length : ℕ
owner_length = 14

-- the fields of a block
abbrev pub identifier_in : List ℕ → List ℕ
identifier_in s = take identifier_length (drop identifier_at s)

abbrev pub owner_in : List ℕ → List ℕ
owner_in s = take owner_length (drop owner_at s)

-- ASCII 32 to 126
abbrev pub is_printed : List ℕ → Bool
is_printed s = every (within 32 126) s

-- 3 unless the block is that of its own fields, 80 bytes, and they are ASCII
unfoldable pub vol1_of : List ℕ → Answer Vol1Fields
vol1_of s =
    require (eqb (length s) 80 && same s (vol1 (identifier_in s) (owner_in s)) && is_printed (identifier_in s) && is_printed (owner_in s)) refusal.Vol1
    (Ok (record { identifier = identifier_in s; owner = owner_in s }))

-- fields that a caller gives: in their lengths, and ASCII
unfoldable pub are_fields : List ℕ → List ℕ → Bool
are_fields identifier owner = eqb (length identifier) identifier_length && eqb (length owner) owner_length && is_printed identifier && is_printed owner
