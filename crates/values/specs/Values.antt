-- Values (01, Values): what the text of an element says, or that it says nothing. Number, boolean, time, UUID and letter are told by the text
-- as spelled, white space around a number aside; creator and name by the bytes that it means, decoded.
use Rattle.std.specs.Prelude.{Bool, true, false, not, cond, ◌&&◌, ◌||◌, List, [], ◌∷◌, ℕ, ◌+◌, ◌*◌, leb, eqb, length, drop, get_or, None, Option, Some}
use Prim.Native.Char.{code}
use Rattle.slices.specs.Slices.{within, every, same}
use Rattle.slices.specs.Words.{bytes}
use Rattle.quantities.specs.Letters.{is_letter}
use Rattle.xml.specs.Bytes.{is_space}
use Rattle.xml.specs.Tree.{behind}
use Rattle.digits.specs.Decimal as decimal
use Rattle.digits.specs.Hex.{is_hex, uuid_bytes}
use Rattle.texts.specs.Decoded.{begins, code_points}

-- what is said, if it is at most the bound
abbrev pub at_most : ℕ → Option ℕ → Option ℕ
at_most bound (Some n) = cond (leb n bound) (Some n) None
at_most bound None = None

-- a text without the white space at its end
unfoldable pub end_trimmed : List ℕ → List ℕ
end_trimmed [] = []
end_trimmed (b ∷ s) = cond (every is_space (b ∷ s)) [] (b ∷ end_trimmed s)

-- and without that in front
abbrev pub trimmed : List ℕ → List ℕ
trimmed s = end_trimmed (behind is_space s)

-- what digits say behind `+`, behind `-` if they say zero, or alone
unfoldable pub signed : List ℕ → Option ℕ
signed [] = None
signed (b ∷ s) = cond (eqb b (code "+")) (decimal.run s) (cond (eqb b (code "-")) (at_most 0 (decimal.run s)) (decimal.run (b ∷ s)))

-- Number (02, Item 2; 002, Appendix A and B), as XML Schema spells a nonnegative integer: what it means to every reader is this value. Its form
-- in one line: specs/Spells
unfoldable pub number : List ℕ → Option ℕ
number s = signed (trimmed s)

-- Boolean: `true`, `1`, `false`, `0`
unfoldable pub boolean : List ℕ → Option Bool
boolean s =
    cond (same s (bytes "true") || same s (bytes "1")) (Some true)
    (cond (same s (bytes "false") || same s (bytes "0")) (Some false) None)

-- a byte by a pattern's: `#` stands for a decimal digit, `*` for a hex digit, any other byte for itself
unfoldable pub by_pattern : ℕ → ℕ → Bool
by_pattern p b = cond (eqb p 35) (decimal.is_digit b) (cond (eqb p 42) (is_hex b) (eqb p b))

-- each byte by the pattern's, and none missing
unfoldable pub in_pattern : List ℕ → List ℕ → Bool
in_pattern [] [] = true
in_pattern [] (b ∷ s) = false
in_pattern (p ∷ ps) [] = false
in_pattern (p ∷ ps) (b ∷ s) = by_pattern p b && in_pattern ps s

-- the number of the two decimal digits at i
abbrev pub two : List ℕ → ℕ → ℕ
two s i = decimal.digit_of (get_or s i 0) * 10 + decimal.digit_of (get_or s (i + 1) 0)

-- the ranges of a time's fields (002, 5.7): month 01 to 12, day 01 to 31 in any month, hour to 23, minute and second to 59
unfoldable pub in_ranges : List ℕ → Bool
in_ranges s =
    within 1 12 (two s 5) && within 1 31 (two s 8) && within 0 23 (two s 11) && within 0 59 (two s 14) && within 0 59 (two s 17)

-- Time: 30 bytes, the fields in their ranges
unfoldable pub is_time : List ℕ → Bool
is_time s = in_pattern (bytes "####-##-##T##:##:##.#########Z") s && in_ranges s

-- UUID (002, 5.8): 8-4-4-4-12 hex digits
unfoldable pub is_uuid : List ℕ → Bool
is_uuid s = in_pattern (bytes "********-****-****-****-************") s

-- two UUIDs are the same when the 16 bytes that they spell are (02, Item 3); what is no UUID is the same as nothing
unfoldable pub same_uuid : List ℕ → List ℕ → Bool
same_uuid a b = is_uuid a && is_uuid b && same (uuid_bytes a) (uuid_bytes b)

-- Letter: `a` to `z`
unfoldable pub letter : List ℕ → Option ℕ
letter [] = None
letter (b ∷ []) = cond (is_letter b) (Some b) None
letter (b ∷ c ∷ s) = None

-- a byte not below 32, and no `/` where none may be
abbrev pub is_plain : Bool → ℕ → Bool
is_plain slash b = leb 32 b && (slash || not (eqb b 47))

-- Creator: 1 to 255 bytes decoded, none below 32. That it is UTF-8 in XML's characters is the form's duty; for one that a caller gives see label_writer/Text
unfoldable pub is_creator : List ℕ → Bool
is_creator s = within 1 255 (length s) && every (is_plain true) s

-- Name: 1 to 255 code points decoded, no byte below 32, no `/`
unfoldable pub is_name : List ℕ → Bool
is_name s = within 1 255 (code_points s) && every (is_plain false) s

-- the root directory's name: a name, or empty
unfoldable pub is_root_name : List ℕ → Bool
is_root_name s = eqb (length s) 0 || is_name s

-- a version (01, Refusal numbers: 7): the R of 2.0.R, in plain numbers up to 65,535
unfoldable pub version : List ℕ → Option ℕ
version s = cond (begins (bytes "2.0.") s) (at_most 65535 (decimal.plain_number (drop 4 s))) None
