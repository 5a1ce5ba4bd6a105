-- Hex digits (01, Values: UUID): which bytes they are, and the bytes that a UUID's digits spell.
use Rattle.std.specs.Prelude.{Bool, cond, ◌||◌, List, [], ◌∷◌, ◌++◌, ℕ, ◌+◌, ◌-◌, take, drop}
use Prim.Native.Char.{code}
use Rattle.slices.specs.Slices.{within}
use Rattle.digits.specs.Runs.{value}

-- 0-9, a-f or A-F (002, 5.8)
abbrev pub is_hex : ℕ → Bool
is_hex b = within (code "0") (code "9") b || within (code "a") (code "f") b || within (code "A") (code "F") b

-- what such a digit counts
abbrev pub hex_value : ℕ → ℕ
hex_value b =
    cond (within (code "0") (code "9") b) (b - code "0")
    (cond (within (code "a") (code "f") b) (10 + (b - code "a")) (10 + (b - code "A")))

-- the 32 digits of a UUID's 36 bytes, without the hyphens at 8, 13, 18 and 23
unfoldable pub uuid_digits : List ℕ → List ℕ
uuid_digits s = take 8 s ++ take 4 (drop 9 s) ++ take 4 (drop 14 s) ++ take 4 (drop 19 s) ++ take 12 (drop 24 s)

-- the bytes that hex digits spell, two a byte
unfoldable pub spelled : List ℕ → List ℕ
spelled [] = []
spelled (high ∷ []) = []
spelled (high ∷ low ∷ s) = value 16 hex_value 0 (high ∷ low ∷ []) ∷ spelled s

-- the 16 bytes of a UUID
unfoldable pub uuid_bytes : List ℕ → List ℕ
uuid_bytes s = spelled (uuid_digits s)
