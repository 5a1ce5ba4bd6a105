-- A text as it is meant (01, The XML form: the five references; 01, Values: bytes and code points decoded).
use Rattle.std.specs.Prelude.{Bool, cond, List, [], ◌∷◌, ℕ, zero, suc, ◌+◌, eqb, length, take}
use Rattle.slices.specs.Slices.{within, same}
use Rattle.slices.specs.Words.{bytes}

-- whether s begins with w
abbrev pub begins : List ℕ → List ℕ → Bool
begins w s = same (take (length w) s) w

-- a byte as it is meant, and how many bytes more spell it
pub record Meant : Type 0 where
  pub byte : ℕ
  pub more : ℕ

abbrev pub meant : ℕ → ℕ → Meant
meant b n = record { byte = b; more = n }

-- what an `&` before s means: `&amp;`, `&lt;`, `&gt;`, `&quot;`, `&apos;`, and itself before anything else
unfoldable pub reference_meant : List ℕ → Meant
reference_meant s =
    cond (begins (bytes "amp;") s) (meant 38 4)
    (cond (begins (bytes "lt;") s) (meant 60 3)
    (cond (begins (bytes "gt;") s) (meant 62 3)
    (cond (begins (bytes "quot;") s) (meant 34 5)
    (cond (begins (bytes "apos;") s) (meant 39 5) (meant 38 0)))))

-- what the byte b before s means
unfoldable pub meaning : ℕ → List ℕ → Meant
meaning b s = cond (eqb b 38) (reference_meant s) (meant b 0)

-- what is meant by a text of which the first n bytes belong to a reference
unfoldable pub decoded_behind : ℕ → List ℕ → List ℕ
decoded_behind n [] = []
decoded_behind zero (b ∷ s) = let m = meaning b s in m.byte ∷ decoded_behind m.more s
decoded_behind (suc n) (b ∷ s) = decoded_behind n s

abbrev pub decoded : List ℕ → List ℕ
decoded s = decoded_behind 0 s

-- a byte of UTF-8 that continues a code point
abbrev pub continues : ℕ → Bool
continues b = within 128 191 b

-- how many code points UTF-8 bytes spell: as many as bytes that do not continue one
unfoldable pub code_points : List ℕ → ℕ
code_points [] = 0
code_points (b ∷ s) = cond (continues b) 0 1 + code_points s
