-- How XML Schema spells a nonnegative integer (02, Item 2; 002, Appendix A and B). By `schema_form` (proofs/SchemaForm) a text says n exactly where it spells n.
use Rattle.std.specs.Prelude.{◌≡◌, true, List, [], ◌∷◌, ◌++◌, ℕ, Some}
use Prim.Native.Char.{code}
use Rattle.slices.specs.Slices.{every}
use Rattle.xml.specs.Bytes.{is_space}
use Rattle.digits.specs.Decimal.{run}

-- the sign of n: none, `+`, or `-` of zero
pub data Sign (n : ℕ) : List ℕ → Type 0 where
  unsigned : Sign n []
  plus : Sign n (code "+" ∷ [])
  minus : n ≡ 0 → Sign n (code "-" ∷ [])

-- white space, a sign or none, one or more digits that say n, at most 18446744073709551615, white space
pub data Spells (n : ℕ) : List ℕ → Type 0 where
  spells : (front sign digits back : List ℕ) → every is_space front ≡ true → Sign n sign → run digits ≡ Some n → every is_space back ≡ true
      → Spells n (front ++ sign ++ digits ++ back)
