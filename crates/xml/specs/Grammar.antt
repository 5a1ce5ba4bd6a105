-- The XML form (01, The XML form), production by production. A production relates a text with what follows the production in it:
-- `Spaces s t` says that s is white space, and then t. `Document f s` says that the text s is in the form, and that f is the tree that it spells.
use Rattle.std.specs.Prelude.{◌≡◌, Bool, true, cond, ◌||◌, List, [], ◌∷◌, ◌++◌, ℕ, suc, ◌+◌, ◌/◌, ◌%◌, ltb, eqb}
use Rattle.slices.specs.Slices.{within}
use Rattle.slices.specs.Words.{bytes}
use Rattle.xml.specs.Bytes.{less, greater, bracket, slash, ampersand, equality, double_quote, single_quote, is_space, is_ascii_letter, is_name_byte, declaration}
use Rattle.xml.specs.Tree.{Head, Forest, none, node}

-- white space, or nothing
pub data Spaces : List ℕ → List ℕ → Type 0 where
  end : {s : List ℕ} → Spaces s s
  more : {b : ℕ} {s t : List ℕ} → is_space b ≡ true → Spaces s t → Spaces (b ∷ s) t

pub data NameBytes : List ℕ → Type 0 where
  end : NameBytes []
  more : {b : ℕ} {w : List ℕ} → is_name_byte b ≡ true → NameBytes w → NameBytes (b ∷ w)

-- an ASCII letter, then letters, digits, `_`, `-`, `.`
pub data Name : List ℕ → Type 0 where
  name : {b : ℕ} {w : List ℕ} → is_ascii_letter b ≡ true → NameBytes w → Name (b ∷ w)

-- the code points of XML 1.0's characters (its production 2)
unfoldable pub is_char : ℕ → Bool
is_char c = eqb c 9 || eqb c 10 || eqb c 13 || within 32 55295 c || within 57344 65533 c || within 65536 1114111 c

-- the bytes of a code point
unfoldable pub utf8 : ℕ → List ℕ
utf8 c =
    cond (ltb c 128) (c ∷ [])
    (cond (ltb c 2048) ((192 + c / 64) ∷ (128 + c % 64) ∷ [])
    (cond (ltb c 65536) ((224 + c / 4096) ∷ (128 + c / 64 % 64) ∷ (128 + c % 64) ∷ [])
    ((240 + c / 262144) ∷ (128 + c / 4096 % 64) ∷ (128 + c / 64 % 64) ∷ (128 + c % 64) ∷ [])))

-- a reference behind its `&`: `amp;`, `lt;`, `gt;`, `quot;`, `apos;`
pub data Entity : List ℕ → Type 0 where
  amp : Entity (bytes "amp;")
  lt : Entity (bytes "lt;")
  gt : Entity (bytes "gt;")
  quot : Entity (bytes "quot;")
  apos : Entity (bytes "apos;")

-- a character other than `<` and `&`, or a reference
pub data Char : List ℕ → List ℕ → Type 0 where
  char : (c : ℕ) {s t : List ℕ} → is_char c ≡ true → (c ≡ less → ⊥) → (c ≡ ampersand → ⊥) → s ≡ utf8 c ++ t → Char s t
  reference : {e t : List ℕ} → Entity e → Char (ampersand ∷ e ++ t) t

-- the rest of an attribute's value in the quotes q, with the quote that ends it
pub data Value (q : ℕ) : List ℕ → List ℕ → Type 0 where
  end : {t : List ℕ} → Value q (q ∷ t) t
  more : {b : ℕ} {s s₁ t : List ℕ} → (b ≡ q → ⊥) → Char (b ∷ s) s₁ → Value q s₁ t → Value q (b ∷ s) t

-- the value v in double or single quotes
pub data Quoted (v : List ℕ) : List ℕ → List ℕ → Type 0 where
  double : {s t : List ℕ} → Value double_quote s t → s ≡ v ++ double_quote ∷ t → Quoted v (double_quote ∷ s) t
  single : {s t : List ℕ} → Value single_quote s t → s ≡ v ++ single_quote ∷ t → Quoted v (single_quote ∷ s) t

-- `=`, with white space around it
pub data Equals : List ℕ → List ℕ → Type 0 where
  equals : {s s₁ t : List ℕ} → Spaces s (equality ∷ s₁) → Spaces s₁ t → Equals s t

-- at most one attribute, behind white space: its name and its value, both empty where there is none
pub data Attribute : List ℕ → List ℕ → List ℕ → List ℕ → Type 0 where
  without : {s : List ℕ} → Attribute [] [] s s
  with : {b : ℕ} {k v s s₁ s₂ t : List ℕ} → is_space b ≡ true → Spaces s (k ++ s₁) → Name k → Equals s₁ s₂ → Quoted v s₂ t → Attribute k v (b ∷ s) t

-- a start tag or an empty-element tag, up to its `>` or `/>`
pub data Start (n k v : List ℕ) : List ℕ → List ℕ → Type 0 where
  start : {s s₁ t : List ℕ} → Name n → Attribute k v s s₁ → Spaces s₁ t → Start n k v (less ∷ n ++ s) t

-- an end tag
pub data End (n : List ℕ) : List ℕ → List ℕ → Type 0 where
  end : {s t : List ℕ} → Spaces s (greater ∷ t) → End n (less ∷ slash ∷ n ++ s) t

-- characters and references, `]]>` nowhere
pub data Text : List ℕ → List ℕ → Type 0 where
  end : {s : List ℕ} → Text s s
  more : {s s₁ t : List ℕ} → ((r : List ℕ) → s ≡ bracket ∷ bracket ∷ greater ∷ r → ⊥) → Char s s₁ → Text s₁ t → Text s t

abbrev pub head : List ℕ → List ℕ → List ℕ → List ℕ → Head
head n k v w = record { name = n; key = k; value = v; text = w }

-- elements in a row, nested at most d deep, each with the white space after it. An element is an empty-element tag, or has text alone, or
-- has elements with only white space besides them; its text reaches to its first tag
pub data Elements : ℕ → Forest → List ℕ → List ℕ → Type 0 where
  end : {d : ℕ} {s : List ℕ} → Elements d none s s
  empty : {d : ℕ} {f : Forest} {n k v s s₁ s₂ t : List ℕ} → Start n k v s (slash ∷ greater ∷ s₁) → Spaces s₁ s₂ → Elements (suc d) f s₂ t
      → Elements (suc d) (node (head n k v []) none f) s t
  text : {d : ℕ} {f : Forest} {n k v w s s₁ s₂ s₃ s₄ t : List ℕ} → Start n k v s (greater ∷ s₁) → s₁ ≡ w ++ s₂ → Text s₁ s₂ → End n s₂ s₃
      → Spaces s₃ s₄ → Elements (suc d) f s₄ t → Elements (suc d) (node (head n k v w) none f) s t
  nest : {d : ℕ} {g f : Forest} {n k v w s s₁ s₂ s₃ s₄ s₅ t : List ℕ} → Start n k v s (greater ∷ s₁) → s₁ ≡ w ++ s₂ → Spaces s₁ s₂ → Elements d g s₂ s₃
      → End n s₃ s₄ → Spaces s₄ s₅ → Elements (suc d) f s₅ t → Elements (suc d) (node (head n k v w) g f) s t

-- the declaration, one root element, white space around it
pub data Document : Forest → List ℕ → Type 0 where
  document : {h : Head} {k : Forest} {s s₁ : List ℕ} → Spaces s s₁ → Elements 64 (node h k none) s₁ [] → Document (node h k none) (declaration ++ s)
