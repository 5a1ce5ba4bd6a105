-- UTF-8 in XML 1.0's characters (01, Values: a creator, also when given).
use Rattle.std.specs.Prelude.{◌≡◌, Bool, true, cond, ◌&&◌, List, [], ◌∷◌, ◌++◌, ℕ, zero, suc, ◌+◌, ◌-◌, ◌*◌, ltb, take}
use Rattle.slices.specs.Slices.{same}
use Rattle.xml.specs.Grammar.{is_char, utf8}

-- how many bytes of a character follow its first, as the first says
unfoldable pub following : ℕ → ℕ
following b = cond (ltb b 128) 0 (cond (ltb b 224) 1 (cond (ltb b 240) 2 3))

-- the code point that the bytes of a character spell
unfoldable pub code_point : List ℕ → ℕ
code_point [] = 0
code_point (b ∷ []) = b
code_point (b ∷ c ∷ []) = (b - 192) * 64 + (c - 128)
code_point (b ∷ c ∷ d ∷ []) = (b - 224) * 4096 + (c - 128) * 64 + (d - 128)
code_point (b ∷ c ∷ d ∷ e ∷ s) = (b - 240) * 262144 + (c - 128) * 4096 + (d - 128) * 64 + (e - 128)

-- one of XML 1.0's characters, and just the bytes that it has in UTF-8
unfoldable pub is_character : List ℕ → Bool
is_character w = is_char (code_point w) && same w (utf8 (code_point w))

-- characters one after the other, behind n bytes of the one before
unfoldable pub characters_behind : ℕ → List ℕ → Bool
characters_behind n [] = true
characters_behind zero (b ∷ s) = is_character (b ∷ take (following b) s) && characters_behind (following b) s
characters_behind (suc n) (b ∷ s) = characters_behind n s

abbrev pub is_characters : List ℕ → Bool
is_characters s = characters_behind 0 s

-- the same without the reading of a code point (proofs/Characters: `are_characters`): some characters have these bytes
pub data Characters : List ℕ → Type 0 where
  end : Characters []
  more : (c : ℕ) {s t : List ℕ} → is_char c ≡ true → s ≡ utf8 c ++ t → Characters t → Characters s
