-- Runs of digits in a base, the high digit first: the number that a run says, the digits of a number, and how many it has.
use Rattle.std.specs.Prelude.{Bool, cond, List, [], ◌∷◌, ◌++◌, ℕ, zero, suc, ◌+◌, ◌*◌, ◌/◌, ◌%◌, ◌^◌, ltb}

-- the number that a run says after the number v, where digit tells what a byte counts
unfoldable pub value : ℕ → (ℕ → ℕ) → ℕ → List ℕ → ℕ
value base digit v [] = v
value base digit v (b ∷ s) = value base digit (v * base + digit b) s

-- the last w digits of n
unfoldable pub digits : ℕ → ℕ → ℕ → List ℕ
digits base zero n = []
digits base (suc w) n = digits base w (n / base) ++ (n % base ∷ [])

-- the first of the n numbers from w on that passes the test; the one behind them where none does
unfoldable pub first_from : (ℕ → Bool) → ℕ → ℕ → ℕ
first_from test w zero = w
first_from test w (suc n) = cond (test w) w (first_from test (suc w) n)

-- the least number of digits that holds n, at least one; no number has more digits than it counts, but 0
unfoldable pub width : ℕ → ℕ → ℕ
width base n = first_from (λ w. ltb n (base ^ w)) 1 n
