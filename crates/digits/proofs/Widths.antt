-- The width of a number in a base: the least number of digits that holds it, and so one below the base and one more than its quotient's.
use mathlib.Core.Path.{◌≡◌, refl, sym, ◌∙◌, subst}
use mathlib.Core.Bool.{Bool, true, false, cond}
use Prim.Native.Nat.{ℕ, zero, suc, ◌+◌, ◌*◌, ◌/◌, ◌^◌, ◌<◌, ◌≤◌}
use native.Mathlib.Nat.{pow-zero, pow-suc, one-mul, mul-le-mul_left, le-div_iff_mul-le, div-lt_iff_lt-mul, div-lt_self}
use native.Mathlib.Omega.{arith}
use borrow.Author.Tests.{lt-ltb, le-ltb, ltb-true, ltb-false, eqb-true, eqb-false}
use lib.Dec.{ltb, eqb}
use Rattle.digits.specs.Runs.{first_from, width}

-- a number that passes, and none before it, is the first
first_is : (test : ℕ → Bool) (w n k : ℕ) → w ≤ k → k ≤ w + n → test k ≡ true → ((j : ℕ) → w ≤ j → j < k → test j ≡ false) → first_from test w n ≡ k
unfolding first_from
first_is test w zero k lo hi this before = omega arith
first_is test w (suc n) k lo hi this before = go (eqb w k) refl (first_is test (suc w) n k)
  where
    go : (t : Bool) → eqb w k ≡ t
        → (suc w ≤ k → k ≤ suc w + n → test k ≡ true → ((j : ℕ) → suc w ≤ j → j < k → test j ≡ false) → first_from test (suc w) n ≡ k)
        → cond (test w) w (first_from test (suc w) n) ≡ k
    go true e next = let q : w ≡ k = eqb-true w k e in rw (q, this)
    go false e next =
        let q : w ≡ k → ⊥ = eqb-false w k e in
        rw (before w (omega arith) (omega (arith, q))) (next (omega (arith, q)) (omega arith) this (λ j l. before j (omega arith)))

-- w digits hold n, and fewer do not
pub record Width (base n w : ℕ) : Type 0 where
  pub some : 0 < w
  pub fits : n < base ^ w
  pub least : (k : ℕ) → 0 < k → k < w → base ^ k ≤ n

pow_one : (base : ℕ) → base ^ 1 ≡ base
pow_one base = pow-suc base 0 ∙ rw (pow-zero, one-mul)

module _ (base : ℕ) (h : 1 < base) where
  less_than_power : (k : ℕ) → k < base ^ k
  less_than_power zero = rw pow-zero (omega arith)
  less_than_power (suc k) =
      let n = less_than_power k in
      let m : base ^ k * 2 ≤ base ^ k * base = mul-le-mul_left (base ^ k) h in
      rw pow-suc (omega arith)

  few : (n w : ℕ) → Width base n w → w ≤ 1 + n
  few n zero q = omega arith
  few n (suc zero) q = omega arith
  few n (suc (suc k)) q = omega (arith, less_than_power (suc k), q.least (suc k) (omega arith) (omega arith))

  -- such a number is the width
  pub width_is : (n w : ℕ) → Width base n w → width base n ≡ w
  unfolding width
  width_is n w q =
      first_is (λ (k : ℕ). ltb n (base ^ k)) 1 n w q.some (few n w q) (lt-ltb _ _ q.fits) (λ j l g. le-ltb _ _ (q.least j l g))

  one_digit : (n : ℕ) → n < base → Width base n 1
  one_digit n g = record { some = omega arith; fits = rw (pow_one base) g; least = λ k p l. absurd (omega arith) }

  one_more : (n w : ℕ) → base ≤ n → Width base (n / base) w → Width base n (suc w)
  one_more n w g q = record { some = omega arith; fits = rw pow-suc ((div-lt_iff_lt-mul {k = base} {x = n} {y = base ^ w} (omega arith)).0 q.fits); least = least }
    where
      least : (k : ℕ) → 0 < k → k < suc w → base ^ k ≤ n
      least zero p l = absurd (omega arith)
      least (suc zero) p l = rw (pow_one base) g
      least (suc (suc k)) p l = rw pow-suc ((le-div_iff_mul-le {k = base} {x = base ^ suc k} {y = n} (omega arith)).0 (q.least (suc k) (omega arith) (omega arith)))

  -- there is one
  holding : (k n : ℕ) → n ≤ k → (w : ℕ) × Width base n w
  holding zero n g = (1, one_digit n (omega arith))
  holding (suc k) n g = go (ltb n base) refl (holding k (n / base))
    where
      go : (t : Bool) → ltb n base ≡ t → (n / base ≤ k → (w : ℕ) × Width base (n / base) w) → (w : ℕ) × Width base n w
      go true e next = (1, one_digit n (ltb-true n base e))
      go false e next =
          let m : base ≤ n = ltb-false n base e in
          let l : n / base < n = div-lt_self (omega arith) h in
          let (w, q) = next (omega arith) in
          (suc w, one_more n w m q)

  pub width_of : (n : ℕ) → Width base n (width base n)
  width_of n = let (w, q) = holding n n (omega arith) in subst (Width base n) (sym (width_is n w q)) q

  pub width_one : (n : ℕ) → n < base → width base n ≡ 1
  width_one n g = width_is n 1 (one_digit n g)
