-- The short form of a number: that it says the number, that no other plain run does, and how long it is.
use mathlib.Core.Path.{◌≡◌, refl, ap, ap₂, sym, ◌∙◌}
use mathlib.Core.Bool.{Bool, true, false, not, false≢true}
use mathlib.Core.List.{List, [], ◌∷◌, map, map-append}
use Prim.Native.Nat.{ℕ, zero, suc, ◌+◌, ◌*◌, ◌-◌, ◌/◌, ◌%◌, ◌^◌, ◌<◌, ◌≤◌}
use native.Mathlib.Nat.{zero-add, one-mul, mul-le-mul_right, pow-le-pow_right, le_trans}
use native.Mathlib.Omega.{arith}
use borrow.Author.Tests.{le-leb, ltb-true, ltb-false, leb-true, eqb-true, eqb-false, not-true}
use lib.Dec.{leb, ltb, eqb}
use lib.ListN.{length, get_or, length-map}
use Rattle.slices.specs.Slices.{every}
use Rattle.slices.proofs.Booleans.{split, and_parts}
use Rattle.slices.proofs.Every.{every_append}
use Rattle.digits.specs.Runs.{value, digits, width}
use Rattle.digits.specs.Decimal.{is_digit, digit_of, byte_of, decimal, plain, short}
use Rattle.digits.proofs.Values.{value_map, value_least, value_below, digits_value, value_digits, length_digits}
use Rattle.digits.proofs.Widths.{Width, width_of, width_is}

-- ---- the ASCII digits

pub digit_between : (b : ℕ) → 48 ≤ b → b ≤ 57 → is_digit b ≡ true
digit_between b lo hi = rw (le-leb _ _ lo) (le-leb _ _ hi)

-- a digit's byte, and what it counts
digit_bounds : (b : ℕ) → is_digit b ≡ true → (48 ≤ b) × (b ≤ 57)
digit_bounds b e = let (lo, hi) = and_parts (leb 48 b) (leb b 57) e in (leb-true 48 b lo, leb-true b 57 hi)

pub digit_small : (b : ℕ) → is_digit b ≡ true → digit_of b < 10
digit_small b e = let d = digit_bounds b e in omega arith

byte_counts : (d : ℕ) → digit_of (byte_of d) ≡ d
byte_counts d = omega arith

bytes_counted : (s : List ℕ) → every is_digit s ≡ true → map byte_of (map digit_of s) ≡ s
bytes_counted [] e = refl
bytes_counted (b ∷ s) e =
    let (d, r) = and_parts (is_digit b) (every is_digit s) e in
    let n = digit_bounds b d in
    let q : byte_of (digit_of b) ≡ b = omega arith in
    ap₂ ◌∷◌ q (bytes_counted s r)

bytes_digits : (w n : ℕ) → every is_digit (map byte_of (digits 10 w n)) ≡ true
unfolding digits
bytes_digits zero n = refl
bytes_digits (suc w) n =
    let d : is_digit (byte_of (n % 10)) ≡ true = digit_between (byte_of (n % 10)) (omega arith) (omega arith) in
    rw (map-append byte_of (digits 10 w (n / 10)) (n % 10 ∷ []), every_append, bytes_digits w (n / 10), d)

-- ---- it says the number, in digits, as many as the number has

pub short_width : (n : ℕ) → length (short n) ≡ width 10 n
unfolding short
short_width n = length-map (digits 10 (width 10 n) n) byte_of ∙ length_digits 10 (width 10 n) n

pub decimal_short : (n : ℕ) → decimal 0 (short n) ≡ n
unfolding short
decimal_short n = value_map 10 digit_of byte_of byte_counts (digits 10 (width 10 n) n) 0 ∙ value_digits 10 (omega arith) (width 10 n) n (width_of 10 (omega arith) n).fits

pub digits_short : (n : ℕ) → every is_digit (short n) ≡ true
unfolding short
digits_short n = bytes_digits (width 10 n) n

pub short_some : (n : ℕ) → 0 < length (short n)
short_some n = omega (arith, short_width n, (width_of 10 (omega arith) n).some)

-- a number below 10 ^ w has at most w digits
pub length_short : (w n : ℕ) → 0 < w → n < 10 ^ w → length (short n) ≤ w
length_short w n p h = go (ltb w (width 10 n)) refl
  where
    go : (t : Bool) → ltb w (width 10 n) ≡ t → length (short n) ≤ w
    go true e = let m = (width_of 10 (omega arith) n).least w p (ltb-true _ _ e) in absurd (omega arith)
    go false e = omega (arith, short_width n, ltb-false w (width 10 n) e)

-- ---- plain runs

pub plain_empty : (s : List ℕ) → length s ≡ 0 → plain s ≡ false
unfolding plain
plain_empty [] e = refl
plain_empty (b ∷ s) e = absurd (omega arith)

pub plain_alone : (s : List ℕ) → length s ≡ 1 → plain s ≡ true
unfolding plain
plain_alone [] e = absurd (omega arith)
plain_alone (b ∷ []) e = refl
plain_alone (b ∷ c ∷ s) e = absurd (omega arith)

pub plain_first : (s : List ℕ) → 1 < length s → plain s ≡ not (eqb (get_or s 0 0) 48)
unfolding plain
plain_first [] h = absurd (omega arith)
plain_first (b ∷ []) h = absurd (omega arith)
plain_first (b ∷ c ∷ s) h = refl

-- a run of digits as long as its number is wide is plain: a zero in front would leave less than the rest's least
plain_wide : (s : List ℕ) → every is_digit s ≡ true → Width 10 (decimal 0 s) (length s) → plain s ≡ true
unfolding plain value
plain_wide [] e w = absurd (omega (arith, w.some))
plain_wide (b ∷ []) e w = refl
plain_wide (b ∷ c ∷ s) e w = split (λ (t : Bool). not t ≡ true) (eqb b 48) zero_first (λ q. refl)
  where
    zero_first : eqb b 48 ≡ true → false ≡ true
    zero_first q =
        let z : 0 * 10 + (b - 48) ≡ 0 = let y : b ≡ 48 = eqb-true b 48 q in omega arith in
        let n = value_below 10 digit_of is_digit digit_small (c ∷ s) 0 (and_parts (is_digit b) (every is_digit (c ∷ s)) e).1 in
        let m : 10 ^ length (c ∷ s) ≤ decimal 0 (c ∷ s) = rw z at (w.least (length (c ∷ s)) (omega arith) (omega arith)) in
        absurd (omega (arith, one-mul (10 ^ length (c ∷ s))))

-- and a plain one is so long
wide_plain : (s : List ℕ) → every is_digit s ≡ true → plain s ≡ true → Width 10 (decimal 0 s) (length s)
unfolding plain value
wide_plain [] e p = absurd (false≢true p)
wide_plain (b ∷ []) e p =
    record { some = omega arith; fits = rw one-mul at (value_below 10 digit_of is_digit digit_small (b ∷ []) 0 e); least = λ k q l. absurd (omega arith) }
wide_plain (b ∷ c ∷ s) e p =
    let d = digit_bounds b (and_parts (is_digit b) (every is_digit (c ∷ s)) e).0 in
    let n : b ≡ 48 → ⊥ = eqb-false b 48 (not-true (eqb b 48) p) in
    let v : 1 ≤ 0 * 10 + (b - 48) = omega (arith, n) in
    let r = mul-le-mul_right (10 ^ length (c ∷ s)) v in
    let m = value_least 10 digit_of (c ∷ s) (0 * 10 + (b - 48)) in
    record {
      some = omega arith;
      fits = rw one-mul at (value_below 10 digit_of is_digit digit_small (b ∷ c ∷ s) 0 e);
      least = λ k q l. le_trans (pow-le-pow_right {n = 10} (omega arith) {j = length (c ∷ s)} (omega arith)) (omega (arith, one-mul (10 ^ length (c ∷ s))));
    }

pub plain_short : (n : ℕ) → plain (short n) ≡ true
plain_short n = plain_wide (short n) (digits_short n) (rw (decimal_short n, short_width n) (width_of 10 (omega arith) n))

-- no other plain run says it
pub short_decimal : (s : List ℕ) → every is_digit s ≡ true → plain s ≡ true → short (decimal 0 s) ≡ s
unfolding short digits
short_decimal s e p =
    ap (λ (w : ℕ). map byte_of (digits 10 w (decimal 0 s))) (width_is 10 (omega arith) (decimal 0 s) (length s) (wide_plain s e p) ∙ sym (zero-add (length s)))
    ∙ ap (map byte_of) (digits_value 10 digit_of is_digit digit_small s 0 0 e)
    ∙ bytes_counted s e
