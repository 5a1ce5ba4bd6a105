-- The blocks of an ANSI labelled tape (02, Item 1; source document 004): what is tested in a label and in a data block.
use Rattle.std.specs.Prelude.{Bool, ◌&&◌, ◌||◌, List, ℕ, ◌+◌, ◌-◌, length, get_or, take, drop, eqb}
use Rattle.slices.specs.Slices.{within, every, same}
use Rattle.slices.specs.Words.{bytes}
use Rattle.digits.specs.Decimal.{is_digit, digit_of, decimal}

-- bytes a to b of a block, counted from 1
abbrev pub label_part : ℕ → ℕ → List ℕ → List ℕ
label_part a b x = take (b + 1 - a) (drop (a - 1) x)

-- byte n of a block, counted from 1
abbrev pub byte : ℕ → List ℕ → ℕ
byte n x = get_or x (n - 1) 0

-- a label that begins with the word w: a block of 80 bytes
unfoldable pub is_label : List ℕ → List ℕ → Bool
is_label w x = eqb (length x) 80 && same (take (length w) x) w

-- the number of a label, in its fourth byte
abbrev pub label_number : List ℕ → ℕ
label_number x = digit_of (byte 4 x)

-- a label with the word w and a number from n to 9
unfoldable pub is_numbered : List ℕ → ℕ → List ℕ → Bool
is_numbered w n x = is_label w x && within n 9 (label_number x)

-- VOL1, of version 3 or 4
unfoldable pub is_volume : List ℕ → Bool
is_volume x = is_label (bytes "VOL1") x && within 51 52 (byte 80 x)

-- the record formats: F, D and S
abbrev pub is_format : ℕ → Bool
is_format b = eqb b 70 || eqb b 68 || eqb b 83

-- HDR2: record format, block length and record length
unfoldable pub is_header2 : List ℕ → Bool
is_header2 x = is_label (bytes "HDR2") x && is_format (byte 5 x) && every is_digit (label_part 6 15 x)

-- EOF1 of the file whose HDR1 is h, with any six digits as its block count
unfoldable pub is_trailer : List ℕ → List ℕ → Bool
is_trailer h x =
    is_label (bytes "EOF1") x && same (label_part 5 54 x) (label_part 5 54 h) && same (label_part 61 80 x) (label_part 61 80 h) && every is_digit (label_part 55 60 x)

-- the block count of EOF1
unfoldable pub block_count : List ℕ → ℕ
block_count x = decimal 0 (label_part 55 60 x)

-- a data block
unfoldable pub is_data : List ℕ → Bool
is_data x = within 18 20480 (length x)
