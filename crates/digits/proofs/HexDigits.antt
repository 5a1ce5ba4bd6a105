-- What holds of each range of hex digits holds of every hex digit: it counts less than 16; and what it counts tells it but for its case.
use mathlib.Core.Path.{◌≡◌, refl, ap, ap₂, sym, ◌∙◌}
use mathlib.Core.Bool.{Bool, true, false, false≢true, cond, ◌||◌}
use mathlib.Core.List.{List, [], ◌∷◌, map}
use Prim.Native.Nat.{ℕ, ◌+◌, ◌-◌, ◌<◌, ◌≤◌}
use Prim.Native.Char.{code}
use native.Mathlib.Omega.{arith}
use borrow.Author.Tests.{lt-ltb, le-ltb}
use lib.Dec.{ltb}
use Rattle.slices.specs.Slices.{within, every}
use Rattle.slices.proofs.Booleans.{and_parts}
use Rattle.slices.proofs.Ranges.{range, in_range, below_range, above_range}
use Rattle.digits.specs.Hex.{is_hex, hex_value}
use Rattle.digits.specs.Steps.{folded}

module _ (P : ℕ → Type 0) where
  pub hex_each : ((b : ℕ) → within (code "0") (code "9") b ≡ true → P b) → ((b : ℕ) → within (code "a") (code "f") b ≡ true → P b)
      → ((b : ℕ) → within (code "A") (code "F") b ≡ true → P b) → (b : ℕ) → is_hex b ≡ true → P b
  hex_each f g h b = go (within (code "0") (code "9") b) (within (code "a") (code "f") b) (within (code "A") (code "F") b) (f b) (g b) (h b)
    where
      go : (t u v : Bool) → (t ≡ true → P b) → (u ≡ true → P b) → (v ≡ true → P b) → (t || u || v) ≡ true → P b
      go true u v p q r e = p refl
      go false true v p q r e = q refl
      go false false true p q r e = r refl
      go false false false p q r e = absurd (false≢true e)

-- ---- the three ranges: what a digit counts, and the small digit that counts the same

abbrev small_digit : ℕ → ℕ
small_digit n = cond (ltb n 10) (48 + n) (87 + n)

module _ (b : ℕ) where
  module _ (l : 48 ≤ b) (h : b ≤ 57) where
    decimal_value : hex_value b ≡ b - 48
    decimal_value = rw (in_range 48 57 b l h)

    decimal_folded : folded b ≡ b
    decimal_folded = rw (below_range 65 70 b (omega arith))

    decimal_digit : b ≡ small_digit (b - 48)
    decimal_digit = let s : b ≡ 48 + (b - 48) = omega arith in rw (lt-ltb (b - 48) 10 (omega arith)) s

  module _ (l : 97 ≤ b) (h : b ≤ 102) where
    small_value : hex_value b ≡ 10 + (b - 97)
    small_value = rw (above_range 48 57 b (omega arith), in_range 97 102 b l h)

    small_folded : folded b ≡ b
    small_folded = rw (above_range 65 70 b (omega arith))

    small_digit_lem : b ≡ small_digit (10 + (b - 97))
    small_digit_lem = let s : b ≡ 87 + (10 + (b - 97)) = omega arith in rw (le-ltb (10 + (b - 97)) 10 (omega arith)) s

module _ (b : ℕ) (l : 65 ≤ b) (h : b ≤ 70) where
  capital_value : hex_value b ≡ 10 + (b - 65)
  capital_value = rw (above_range 48 57 b (omega arith), below_range 97 102 b (omega arith))

  -- its small letter counts the same
  capital_folded : hex_value (folded b) ≡ 10 + (b - 65)
  capital_folded =
      let t : 10 + (97 + (b - 65) - 97) ≡ 10 + (b - 65) = omega arith in
      rw (in_range 65 70 b l h) (small_value (97 + (b - 65)) (omega arith) (omega arith) ∙ t)

  capital_digit : folded b ≡ small_digit (10 + (b - 65))
  capital_digit =
      let s : 97 + (b - 65) ≡ 87 + (10 + (b - 65)) = omega arith in
      rw (in_range 65 70 b l h, le-ltb (10 + (b - 65)) 10 (omega arith)) s

pub hex_below : (b : ℕ) → is_hex b ≡ true → hex_value b < 16
hex_below =
    hex_each (λ b. hex_value b < 16)
    (λ b e. let (l, h) = range 48 57 b e in omega (arith, decimal_value b l h))
    (λ b e. let (l, h) = range 97 102 b e in omega (arith, small_value b l h))
    (λ b e. let (l, h) = range 65 70 b e in omega (arith, capital_value b l h))

-- a digit of either case counts the same
folded_counts : (b : ℕ) → is_hex b ≡ true → hex_value b ≡ hex_value (folded b)
folded_counts =
    hex_each (λ b. hex_value b ≡ hex_value (folded b))
    (λ b e. let (l, h) = range 48 57 b e in ap hex_value (sym (decimal_folded b l h)))
    (λ b e. let (l, h) = range 97 102 b e in ap hex_value (sym (small_folded b l h)))
    (λ b e. let (l, h) = range 65 70 b e in capital_value b l h ∙ sym (capital_folded b l h))

-- and what it counts tells it but for its case
counts_folded : (b : ℕ) → is_hex b ≡ true → folded b ≡ small_digit (hex_value b)
counts_folded =
    hex_each (λ b. folded b ≡ small_digit (hex_value b))
    (λ b e. let (l, h) = range 48 57 b e in decimal_folded b l h ∙ decimal_digit b l h ∙ ap small_digit (sym (decimal_value b l h)))
    (λ b e. let (l, h) = range 97 102 b e in small_folded b l h ∙ small_digit_lem b l h ∙ ap small_digit (sym (small_value b l h)))
    (λ b e. let (l, h) = range 65 70 b e in capital_digit b l h ∙ ap small_digit (sym (capital_value b l h)))

-- ---- runs of hex digits: they count the same, digit by digit, exactly where they are the same but for their case

module _ (f g h : ℕ → ℕ) (each : (b : ℕ) → is_hex b ≡ true → f b ≡ h (g b)) where
  map_through : (s : List ℕ) → every is_hex s ≡ true → map f s ≡ map h (map g s)
  map_through [] e = refl
  map_through (b ∷ s) e = let (p, q) = and_parts (is_hex b) (every is_hex s) e in ap₂ ◌∷◌ (each b p) (map_through s q)

module _ (s t : List ℕ) (e : every is_hex s ≡ true) (f : every is_hex t ≡ true) where
  pub counts_alike : map folded s ≡ map folded t → map hex_value s ≡ map hex_value t
  counts_alike z =
      map_through hex_value folded hex_value folded_counts s e ∙ ap (map hex_value) z ∙ sym (map_through hex_value folded hex_value folded_counts t f)

  pub folded_alike : map hex_value s ≡ map hex_value t → map folded s ≡ map folded t
  folded_alike z =
      map_through folded hex_value small_digit counts_folded s e ∙ ap (map small_digit) z ∙ sym (map_through folded hex_value small_digit counts_folded t f)
