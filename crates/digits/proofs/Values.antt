-- What runs of digits say, over the base and the width: a run of w digits and the numbers below base ^ w tell each other.
use mathlib.Core.Path.{◌≡◌, refl, ap, ap₂, sym, ◌∙◌}
use mathlib.Core.Bool.{Bool, true}
use mathlib.Core.List.{List, [], ◌∷◌, ◌++◌, map, append-nil, append_assoc}
use Prim.Native.Nat.{ℕ, zero, suc, ◌+◌, ◌*◌, ◌/◌, ◌%◌, ◌^◌, ◌<◌, ◌≤◌}
use native.Mathlib.Nat.{add-zero, add-suc, suc-add, suc-mul, mul-one, mul_assoc, pow-zero, pow-suc, pow-succ', one-le-pow, mul-le-mul_left, mul-le-mul_right, le_trans, div-lt_iff_lt-mul, div-add-mod'}
use native.Mathlib.Omega.{arith}
use lib.Arith.{digits_div, digits_mod, lt-one}
use native.Mathlib.Numerals.{add-one}
use lib.ListN.{length, drop, get_or, drop_of_length-le, length-append}
use lib.Seq.{drop-cons}
use Rattle.slices.specs.Slices.{every}
use Rattle.slices.proofs.Booleans.{and_parts}
use Rattle.digits.specs.Runs.{value, digits}

module _ (base : ℕ) (digit : ℕ → ℕ) where
  pub value_append : (s t : List ℕ) (v : ℕ) → value base digit v (s ++ t) ≡ value base digit (value base digit v s) t
  unfolding value
  value_append [] t v = refl
  value_append (b ∷ s) t v = value_append s t (v * base + digit b)

  -- along a run of which i digits were passed
  module _ (s : List ℕ) (i v : ℕ) where
    pub value_on : i < length s → value base digit v (drop i s) ≡ value base digit (v * base + digit (get_or s i 0)) (drop (i + 1) s)
    unfolding value
    value_on h = rw (drop-cons s i 0, add-one)

    pub value_end : length s ≤ i → value base digit v (drop i s) ≡ v
    unfolding value
    value_end h = ap (value base digit v) (drop_of_length-le s h)

  -- after v, w digits say at least v * base ^ w
  pub value_least : (s : List ℕ) (v : ℕ) → v * base ^ length s ≤ value base digit v s
  unfolding value
  value_least [] v = rw (pow-zero, mul-one) (omega arith)
  value_least (b ∷ s) v =
      let k : v * base * base ^ length s ≤ (v * base + digit b) * base ^ length s = mul-le-mul_right (base ^ length s) (omega arith) in
      rw (pow-succ', ← mul_assoc) (le_trans k (value_least s (v * base + digit b)))

  -- more digits say no less
  pub value_grows : 0 < base → (s : List ℕ) (v : ℕ) → v ≤ value base digit v s
  value_grows h s v =
      let k : v * 1 ≤ v * base ^ length s = mul-le-mul_left v (one-le-pow (length s) base h) in
      omega (arith, mul-one v, value_least s v)

  -- what bytes say that stand for their digits
  pub value_map : (code : ℕ → ℕ) → ((d : ℕ) → digit (code d) ≡ d) → (s : List ℕ) (v : ℕ) → value base digit v (map code s) ≡ value base (λ (d : ℕ). d) v s
  unfolding value
  value_map code h [] v = refl
  value_map code h (d ∷ s) v = ap (λ (x : ℕ). value base digit (v * base + x) (map code s)) (h d) ∙ value_map code h s (v * base + d)

  module _ (test : ℕ → Bool) (small : (b : ℕ) → test b ≡ true → digit b < base) where
    -- after v, w digits say a number below (v + 1) * base ^ w
    pub value_below : (s : List ℕ) (v : ℕ) → every test s ≡ true → value base digit v s < suc v * base ^ length s
    unfolding value
    value_below [] v e = rw (pow-zero, mul-one) (omega arith)
    value_below (b ∷ s) v e =
        let d : digit b < base = small b (and_parts (test b) (every test s) e).0 in
        let n = value_below s (v * base + digit b) (and_parts (test b) (every test s) e).1 in
        let k : suc (v * base + digit b) ≤ suc v * base = rw suc-mul (omega arith) in
        let m : suc (v * base + digit b) * base ^ length s ≤ suc v * base * base ^ length s = mul-le-mul_right (base ^ length s) k in
        le_trans n (rw (pow-succ', ← mul_assoc) m)

    -- the digits of what a run says are the run's
    pub digits_value : (s : List ℕ) (k v : ℕ) → every test s ≡ true → digits base (k + length s) (value base digit v s) ≡ digits base k v ++ map digit s
    unfolding value digits
    digits_value [] k v e = rw (add-zero, append-nil)
    digits_value (b ∷ s) k v e =
        let d : digit b < base = small b (and_parts (test b) (every test s) e).0 in
        let n = digits_value s (suc k) (v * base + digit b) (and_parts (test b) (every test s) e).1 in
        ap (λ (w : ℕ). digits base w (value base digit (v * base + digit b) s)) (add-suc k (length s) ∙ sym (suc-add k (length s)))
        ∙ n
        ∙ ap₂ (λ (q r : ℕ). digits base k q ++ (r ∷ []) ++ map digit s) (digits_div v d) (digits_mod v d)
        ∙ append_assoc (digits base k v) (digit b ∷ []) (map digit s)

pub length_digits : (base w n : ℕ) → length (digits base w n) ≡ w
unfolding digits
length_digits base zero n = refl
length_digits base (suc w) n = length-append (digits base w (n / base)) (n % base ∷ []) ∙ add-one (length (digits base w (n / base))) ∙ ap suc (length_digits base w (n / base))

-- what the digits of a number say is the number
pub value_digits : (base : ℕ) → 0 < base → (w n : ℕ) → n < base ^ w → value base (λ (d : ℕ). d) 0 (digits base w n) ≡ n
unfolding value digits
value_digits base h zero n k = sym (lt-one (rw pow-zero at k))
value_digits base h (suc w) n k =
    let q : n / base < base ^ w = (div-lt_iff_lt-mul h).1 (rw pow-suc at k) in
    value_append base (λ (d : ℕ). d) (digits base w (n / base)) (n % base ∷ []) 0
    ∙ ap (λ (v : ℕ). v * base + n % base) (value_digits base h w (n / base) q)
    ∙ div-add-mod' n base
