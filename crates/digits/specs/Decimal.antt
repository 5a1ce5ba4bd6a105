-- Numbers as texts (01, Values and Refusal numbers: 7): the number that decimal digits say, and the short form of a number.
use Rattle.std.specs.Prelude.{Bool, true, false, not, cond, ◌&&◌, List, [], ◌∷◌, map, ℕ, ◌+◌, ◌-◌, leb, ltb, eqb, length, None, Option, Some}
use Rattle.slices.specs.Slices.{within, every}
use Rattle.digits.specs.Runs.{value, digits, width}

-- the ASCII digits, and what each counts
abbrev pub is_digit : ℕ → Bool
is_digit b = within 48 57 b

abbrev pub digit_of : ℕ → ℕ
digit_of b = b - 48

-- the ASCII digit of a number below ten
abbrev pub byte_of : ℕ → ℕ
byte_of d = 48 + d

-- the number that decimal digits say after the number v
abbrev pub decimal : ℕ → List ℕ → ℕ
decimal v s = value 10 digit_of v s

abbrev pub largest : ℕ
largest = 18446744073709551615

-- one or more decimal digits, with leading zeros or without, that say at most the largest
unfoldable pub is_run : List ℕ → Bool
is_run s = every is_digit s && ltb 0 (length s) && leb (decimal 0 s) largest

-- the number that a run of digits says
unfoldable pub run : List ℕ → Option ℕ
run s = cond (is_run s) (Some (decimal 0 s)) None

-- at least one digit, and no leading zero except `0` itself
unfoldable pub plain : List ℕ → Bool
plain [] = false
plain (b ∷ []) = true
plain (b ∷ c ∷ s) = not (eqb b 48)

-- the number that a plain run of digits says
unfoldable pub plain_number : List ℕ → Option ℕ
plain_number s = cond (plain s) (run s) None

-- the short form: the digits of n, as many as it has
unfoldable pub short : ℕ → List ℕ
short n = map byte_of (digits 10 (width 10 n) n)
