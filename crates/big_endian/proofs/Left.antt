-- The bytes of a number that are left to write, while the last ones are stored one by one: the laws of digits, in base 256.
use mathlib.Core.Path.{◌≡◌, ap, sym, ◌∙◌}
use mathlib.Core.List.{List, map-id}
use Prim.Native.Nat.{ℕ, ◌+◌, ◌-◌, ◌/◌, ◌%◌, ◌<◌, ◌≤◌}
use lib.ListN.{length, set}
use Rattle.slices.specs.Slices.{written}
use Rattle.digits.proofs.Values.{length_digits}
use Rattle.digits.proofs.Left as digits
use Rattle.big_endian.specs.BigEndian.{big_endian}

-- so many bytes
pub length_big_endian : (w n : ℕ) → length (big_endian w n) ≡ w
length_big_endian w n = length_digits 256 w n

module _ (at : ℕ) (b : List ℕ) where
  -- the lowest byte is stored, and those of the rest are left
  pub left_less :
      (i n : ℕ) → 0 < i → at + i ≤ length b
      → written at (big_endian (i - 1) (n / 256)) (set b (at + (i - 1)) (n % 256)) ≡ written at (big_endian i n) b
  left_less i n p h =
      ap (λ (s : List ℕ). written at s (set b (at + (i - 1)) (n % 256))) (sym (map-id (big_endian (i - 1) (n / 256))))
      ∙ digits.left_less (λ (d : ℕ). d) 256 at b i n p h
      ∙ ap (λ (s : List ℕ). written at s b) (map-id (big_endian i n))

  pub left_none : (i n : ℕ) → i ≡ 0 → written at (big_endian i n) b ≡ b
  left_none i n e = ap (λ (s : List ℕ). written at s b) (sym (map-id (big_endian i n))) ∙ digits.left_none (λ (d : ℕ). d) 256 at b i n e
