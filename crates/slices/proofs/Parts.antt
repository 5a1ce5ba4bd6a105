-- Parts of a list: one cut off at the end, and the end of a front.
use mathlib.Core.Path.{◌≡◌, ap, sym}
use mathlib.Core.List.{List, [], ◌∷◌}
use Prim.Native.Nat.{ℕ, zero, suc, ◌+◌, ◌-◌}
use native.Mathlib.Omega.{arith}
use lib.ListN.{take, drop}
use lib.Seq.{take-nil}

module _ (s : List ℕ) (from len : ℕ) where
  pub cut_whole : take (from + len - from) (drop from s) ≡ take len (drop from s)
  cut_whole = let z : from + len - from ≡ len = omega arith in ap (λ (k : ℕ). take k (drop from s)) z

-- the end of a front is a front of the end
pub drop_front : (i n : ℕ) (l : List ℕ) → drop i (take n l) ≡ take (n - i) (drop i l)
drop_front zero n l = let e : n - 0 ≡ n = omega arith in rw e
drop_front (suc i) zero l = let e : 0 - suc i ≡ 0 = omega arith in rw e
drop_front (suc i) (suc n) [] = sym (take-nil {A = ℕ} (suc n - suc i))
drop_front (suc i) (suc n) (x ∷ l) = let e : suc n - suc i ≡ n - i = omega arith in rw e (drop_front i n l)
