-- The number of a name, found by comparing it with one after another.
use mathlib.Core.Bool.{Bool, true, false, cond}
use mathlib.Core.Path.{◌≡◌, refl, ap, ◌∙◌}
use mathlib.Core.List.{List, [], ◌∷◌, ◌++◌}
use Prim.Native.Nat.{ℕ, suc, ◌+◌, ◌<◌, ◌≤◌}
use native.Mathlib.Omega.{arith}
use lib.ListN.{length}
use Rattle.slices.specs.Slices.{same}
use Rattle.index_names.specs.Names.{number_in}

module _ (n x : List ℕ) (xs : List (List ℕ)) where
  -- the first one has it
  pub number_first : same n x ≡ true → 0 ≡ number_in (x ∷ xs) n
  unfolding number_in
  number_first e = simp e

  -- the first one hasn't
  pub number_later : (k : ℕ) → same n x ≡ false → k ≡ number_in xs n → suc k ≡ number_in (x ∷ xs) n
  unfolding number_in
  number_later k e q = simp (e, q)

-- none is left
pub number_none : (n : List ℕ) → 0 ≡ number_in [] n
unfolding number_in
number_none n = refl

-- among those of two lists: one of the first list, or none of them
front : (xs ys : List (List ℕ)) (n : List ℕ) → number_in xs n < length xs → number_in xs n ≡ number_in (xs ++ ys) n
unfolding number_in
front [] ys n h = absurd (omega (arith, h))
front (x ∷ xs) ys n h = go (same n x) h (front xs ys n)
  where
    go : (b : Bool) → cond b 0 (suc (number_in xs n)) < suc (length xs) → (number_in xs n < length xs → number_in xs n ≡ number_in (xs ++ ys) n)
        → cond b 0 (suc (number_in xs n)) ≡ cond b 0 (suc (number_in (xs ++ ys) n))
    go true h i = refl
    go false h i = ap suc (i (omega (arith, h)))

behind : (xs ys : List (List ℕ)) (n : List ℕ) → length xs ≤ number_in xs n → length xs + number_in ys n ≡ number_in (xs ++ ys) n
unfolding number_in
behind [] ys n h = omega arith
behind (x ∷ xs) ys n h = go (same n x) h (behind xs ys n)
  where
    go : (b : Bool) → suc (length xs) ≤ cond b 0 (suc (number_in xs n)) → (length xs ≤ number_in xs n → length xs + number_in ys n ≡ number_in (xs ++ ys) n)
        → suc (length xs) + number_in ys n ≡ cond b 0 (suc (number_in (xs ++ ys) n))
    go true h i = absurd (omega (arith, h))
    go false h i = let q : length xs + number_in ys n ≡ number_in (xs ++ ys) n = i (omega (arith, h)) in omega (arith, q)

module _ (xs ys : List (List ℕ)) (n : List ℕ) (m : ℕ) (e : m ≡ number_in xs n) where
  pub number_front : m < length xs → m ≡ number_in (xs ++ ys) n
  number_front h = e ∙ front xs ys n (omega (arith, e, h))

  pub number_behind : length xs ≤ m → (k : ℕ) → k ≡ number_in ys n → length xs + k ≡ number_in (xs ++ ys) n
  number_behind h k q = ap (λ (k : ℕ). length xs + k) q ∙ behind xs ys n (omega (arith, e, h))
