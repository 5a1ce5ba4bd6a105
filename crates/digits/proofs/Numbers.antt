-- The number of a run of digits: what each failed test tells, and its parts. Of the short form it is the number, and no other plain run says it.
use Rattle.std.specs.Prelude.{None, Some}
use mathlib.Core.Path.{◌≡◌, refl, ap, sym, ◌∙◌}
use mathlib.Core.Bool.{Bool, true, false, cond, ◌&&◌, and-false}
use mathlib.Core.List.{List}
use Prim.Native.Nat.{ℕ, ◌+◌, ◌*◌, ◌^◌, ◌<◌, ◌≤◌}
use native.Mathlib.Nat.{suc-mul, pow-suc, mul-le-mul_right, pow-le-pow_right}
use native.Mathlib.Numerals.{add-one}
use native.Mathlib.Omega.{arith}
use borrow.Author.Tests.{le-leb, lt-leb, leb-true, lt-ltb, ltb-true}
use lib.Dec.{leb, ltb}
use lib.ListN.{length, drop, get_or}
use Rattle.slices.specs.Slices.{every}
use Rattle.slices.proofs.Booleans.{and_parts}
use Rattle.digits.specs.Decimal.{is_digit, digit_of, decimal, largest, is_run, run, plain, plain_number, short}
use Rattle.digits.specs.Steps.{of_few}
use Rattle.digits.proofs.Values.{value_on, value_grows}
use Rattle.digits.proofs.Short.{decimal_short, digits_short, short_some, plain_short, short_decimal}

module _ (s : List ℕ) where
  no_run : is_run s ≡ false → run s ≡ None
  unfolding run
  no_run e = rw e

  -- the three ways in which a text is no run
  pub run_empty : length s ≡ 0 → run s ≡ None
  unfolding is_run
  run_empty e = no_run (rw (e, and-false (every is_digit s)))

  pub not_digits : every is_digit s ≡ false → run s ≡ None
  unfolding is_run
  not_digits e = no_run (rw e)

  pub too_large : largest < decimal 0 s → run s ≡ None
  unfolding is_run
  too_large h = no_run (rw (lt-leb _ _ h) (and-false (every is_digit s && ltb 0 (length s))))

  -- a digit takes what was read so far past the largest
  pub grown_too_large : (i v : ℕ) → i < length s → decimal 0 s ≡ decimal v (drop i s) → largest < v * 10 + digit_of (get_or s i 0) → run s ≡ None
  grown_too_large i v h e g =
      let z = e ∙ value_on 10 digit_of s i v h in
      let n = value_grows 10 digit_of (omega arith) (drop (i + 1) s) (v * 10 + digit_of (get_or s i 0)) in
      too_large (omega arith)

  pub a_run : every is_digit s ≡ true → 0 < length s → decimal 0 s ≤ largest → run s ≡ Some (decimal 0 s)
  unfolding is_run run
  a_run e p h = rw (e, lt-ltb _ _ p, le-leb _ _ h)

  -- a run that says n
  pub run_parts : (n : ℕ) → run s ≡ Some n → (every is_digit s ≡ true) × (0 < length s) × (decimal 0 s ≡ n) × (n ≤ largest)
  unfolding is_run run
  run_parts n = go (is_run s) refl
    where
      go : (t : Bool) → is_run s ≡ t → cond t (Some (decimal 0 s)) None ≡ Some n → (every is_digit s ≡ true) × (0 < length s) × (decimal 0 s ≡ n) × (n ≤ largest)
      go true e z =
          let y : decimal 0 s ≡ n = cc in
          let (f, h) = and_parts (every is_digit s && ltb 0 (length s)) (leb (decimal 0 s) largest) e in
          let (d, p) = and_parts (every is_digit s) (ltb 0 (length s)) f in
          (d, ltb-true 0 (length s) p, y, omega (arith, leb-true (decimal 0 s) largest h))
      go false e z = let y : ◌≡◌ {A = ℕ} 0 1 = cc in absurd (omega arith)

  -- of up to 19 digits
  pub few_run : length s ≤ 19 → of_few s ≡ run s
  unfolding of_few
  few_run h = rw (le-leb _ _ h)

  pub too_many : 19 < length s → of_few s ≡ None
  unfolding of_few
  too_many h = rw (lt-leb _ _ h)

  pub run_of_few : (n : ℕ) → of_few s ≡ Some n → run s ≡ Some n
  unfolding of_few
  run_of_few n = go (leb (length s) 19)
    where
      go : (t : Bool) → cond t (run s) None ≡ Some n → run s ≡ Some n
      go true z = z
      go false z = let y : ◌≡◌ {A = ℕ} 0 1 = cc in absurd (omega arith)

  pub not_plain : plain s ≡ false → plain_number s ≡ None
  unfolding plain_number
  not_plain e = rw e

  pub plain_run : plain s ≡ true → plain_number s ≡ run s
  unfolding plain_number
  plain_run e = rw e

  -- a plain run that says n is its short form
  pub plain_short_form : (n : ℕ) → plain_number s ≡ Some n → (s ≡ short n) × (n ≤ largest)
  unfolding plain_number
  plain_short_form n = go (plain s) refl
    where
      go : (t : Bool) → plain s ≡ t → cond t (run s) None ≡ Some n → (s ≡ short n) × (n ≤ largest)
      go true p z = let (d, l, y, h) = run_parts n z in (sym (short_decimal s d p) ∙ ap short y, h)
      go false p z = let y : ◌≡◌ {A = ℕ} 0 1 = cc in absurd (omega arith)

-- a number that i digits say, up to 19: below the largest, and so it is with a digit more
module _ (i v : ℕ) (small : v < 10 ^ i) where
  pub few_small : i ≤ 19 → v ≤ largest
  few_small h = let m = pow-le-pow_right {n = 10} (omega arith) {j = 19} h in omega arith

  pub digit_more : (d : ℕ) → d < 10 → v * 10 + d < 10 ^ (i + 1)
  digit_more d h = let m : v * 10 + 10 ≤ 10 ^ i * 10 = rw suc-mul at (mul-le-mul_right 10 small) in rw (add-one, pow-suc) (omega arith)

-- the short form of a number up to the largest says it
pub run_short : (n : ℕ) → n ≤ largest → run (short n) ≡ Some n
run_short n h =
    let e = decimal_short n in
    a_run (short n) (digits_short n) (short_some n) (omega arith) ∙ ap Some e

pub plain_number_short : (n : ℕ) → n ≤ largest → plain_number (short n) ≡ Some n
plain_number_short n h = plain_run (short n) (plain_short n) ∙ run_short n h
