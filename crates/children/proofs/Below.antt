-- A test of each number below a bound.
use mathlib.Core.Path.{◌≡◌, refl, ap, ◌∙◌, sym}
use mathlib.Core.Bool.{Bool, true, false, ◌&&◌, false≢true}
use mathlib.Core.List.{List}
use Rattle.std.specs.List.{list_all}
use Rattle.std.proofs.lemmas.List.Folds.{list_all_more}
use lib.ListN.{length, take, get_or}
use Prim.Native.Nat.{ℕ, zero, suc, ◌<◌, ◌≤◌}
use Rattle.std.proofs.Common.{add-one}
use native.Mathlib.Omega.{arith}
use native.Mathlib.Nat.{not-suc-le-zero}
use Rattle.children.specs.Children.{below}

module _ (f : ℕ → Bool) where
  pub below_false : (n k : ℕ) → k < n → f k ≡ false → below n f ≡ false
  unfolding below
  below_false zero k h e = absurd (not-suc-le-zero h)
  below_false (suc n) k h e = go (f n) refl (below_false n k)
    where
      go : (t : Bool) → f n ≡ t → (k < n → f k ≡ false → below n f ≡ false) → below (suc n) f ≡ false
      go true q r =
          let ne : k ≡ n → ⊥ = λ z. false≢true (sym e ∙ ap f z ∙ q) in
          simp q (r (omega arith) e)
      go false q r = simp q

  pub below_all : (n : ℕ) → ((k : ℕ) → f k ≡ true) → below n f ≡ true
  unfolding below
  below_all zero h = refl
  below_all (suc n) h = rw (h n) (below_all n h)

pub below_ext : (f g : ℕ → Bool) → ((k : ℕ) → f k ≡ g k) → (n : ℕ) → below n f ≡ below n g
unfolding below
below_ext f g h zero = refl
below_ext f g h (suc n) = rw (h n, below_ext f g h n)

-- each of the first n numbers of a list passes
pub below_listed : (test : ℕ → Bool) (xs : List ℕ) (n : ℕ) → n ≤ length xs → list_all test (take n xs) ≡ below n (λ k. test (get_or xs k 0))
unfolding below
below_listed test xs zero h = refl
below_listed test xs (suc n) h = rw (add-one n) at (list_all_more {X = ℕ} test xs n 0 h) ∙ swapped _ _ _ (below_listed test xs n (omega arith))
  where
    swapped : (a b c : Bool) → a ≡ b → (a && c) ≡ (c && b)
    swapped true b true e = e
    swapped false b true e = e
    swapped true b false e = refl
    swapped false b false e = refl
