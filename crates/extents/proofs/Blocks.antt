-- Bytes counted in blocks of a size: the block and the byte ahead of an offset, without the sum that may pass 64 bits.
use mathlib.Core.Path.{◌≡◌, ap, ◌∙◌}
use Prim.Native.Nat.{ℕ, ◌+◌, ◌-◌, ◌*◌, ◌/◌, ◌%◌, ◌<◌, ◌≤◌}
use native.Mathlib.Nat.{div-add-mod', mod-lt, add-mul, one-mul, le-div_iff_mul-le, div-mul-le_self, le_trans}
use native.Mathlib.Omega.{arith}
use lib.Arith.{digits_div, digits_mod}

module _ (offset ahead size : ℕ) (inside : offset < size) where
  split : offset + ahead ≡ ahead / size * size + (offset + ahead % size)
  split = let e = div-add-mod' ahead size in omega arith

  -- the byte is in the block of ahead
  pub same_block : offset + ahead % size < size → ((offset + ahead) / size ≡ ahead / size) × ((offset + ahead) % size ≡ offset + ahead % size)
  same_block h = (
    ap (λ (n : ℕ). n / size) split ∙ digits_div (ahead / size) h,
    ap (λ (n : ℕ). n % size) split ∙ digits_mod (ahead / size) h,
  )

  -- or in the one after it
  pub next_block : size ≤ offset + ahead % size → ((offset + ahead) / size ≡ ahead / size + 1) × ((offset + ahead) % size ≡ offset + ahead % size - size)
  next_block h =
      let r : ahead % size < size = mod-lt ahead (omega arith) in
      let l : offset + ahead % size - size < size = omega arith in
      let m : (ahead / size + 1) * size ≡ ahead / size * size + size = add-mul (ahead / size) 1 size ∙ ap (λ (n : ℕ). ahead / size * size + n) (one-mul size) in
      let e : offset + ahead ≡ (ahead / size + 1) * size + (offset + ahead % size - size) = omega (arith, split) in (
        ap (λ (n : ℕ). n / size) e ∙ digits_div (ahead / size + 1) l,
        ap (λ (n : ℕ). n % size) e ∙ digits_mod (ahead / size + 1) l,
      )

-- a byte further on is in no earlier block
pub div_mono : (size m n : ℕ) → 0 < size → m ≤ n → m / size ≤ n / size
div_mono size m n h g = (le-div_iff_mul-le h).1 (le_trans (div-mul-le_self m size) g)
