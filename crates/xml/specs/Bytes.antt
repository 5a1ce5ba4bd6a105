-- Bytes of the XML form (01, The XML form): those with a meaning of their own, white space, the bytes of names, and the declaration that a
-- text starts with.
use Rattle.std.specs.Prelude.{Bool, ◌||◌, List, ℕ, eqb}
use Rattle.slices.specs.Slices.{within}
use Rattle.slices.specs.Words.{bytes}

-- `<` and `>`
abbrev pub less : ℕ
less = 60

abbrev pub greater : ℕ
greater = 62

-- `]`
abbrev pub bracket : ℕ
bracket = 93

-- `/`
abbrev pub slash : ℕ
slash = 47

-- `&`
abbrev pub ampersand : ℕ
ampersand = 38

-- `=`
abbrev pub equality : ℕ
equality = 61

-- `"` and `'`
abbrev pub double_quote : ℕ
double_quote = 34

abbrev pub single_quote : ℕ
single_quote = 39

-- space, tab, CR, LF
unfoldable pub is_space : ℕ → Bool
is_space b = eqb b 32 || eqb b 9 || eqb b 13 || eqb b 10

-- an ASCII letter
unfoldable pub is_ascii_letter : ℕ → Bool
is_ascii_letter b = within 97 122 b || within 65 90 b

-- letters, digits, `_`, `-`, `.`
unfoldable pub is_name_byte : ℕ → Bool
is_name_byte b = is_ascii_letter b || within 48 57 b || eqb b 95 || eqb b 45 || eqb b 46

-- the 38 bytes `<?xml version="1.0" encoding="UTF-8"?>`
unfoldable pub declaration : List ℕ
declaration = bytes "<?xml version=\"1.0\" encoding=\"UTF-8\"?>"
