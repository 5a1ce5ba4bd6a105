-- Stores in a row.
use mathlib.Core.Path.{◌≡◌, sym, ◌∙◌, ap}
use mathlib.Core.List.{List, [], ◌∷◌, ◌++◌}
use Prim.Native.Nat.{ℕ, suc, ◌+◌}
use native.Mathlib.Nat.{add-zero, zero-add}
use native.Mathlib.Omega.{arith}
use lib.ListN.{length, take, drop, set}
use lib.Seq.{sets}
use Rattle.tape.proofs.Passing.{take_next, length_taken}

module _ {A : Type 0} where
  -- stores in a row, and then in a row behind them
  pub sets_append : (l : List A) (i : ℕ) (xs ys : List A) → sets (sets l i xs) (i + length xs) ys ≡ sets l i (xs ++ ys)
  sets_append l i [] ys = rw (add-zero i)
  sets_append l i (x ∷ xs) ys =
      let e : i + suc (length xs) ≡ suc i + length xs = omega arith in
      rw e (sets_append (set l i x) (suc i) xs ys)

  -- one store more
  pub set_next : (T xs : List A) (n : ℕ) (e : A) (rest : List A) → drop n xs ≡ e ∷ rest → set (sets T 0 (take n xs)) n e ≡ sets T 0 (take (suc n) xs)
  set_next T xs n e rest d =
      let w : n ≡ 0 + length (take n xs) = sym (length_taken xs n e rest d) ∙ sym (zero-add (length (take n xs))) in
      ap (λ (i : ℕ). set (sets T 0 (take n xs)) i e) w ∙ sets_append T 0 (take n xs) (e ∷ []) ∙ ap (sets T 0) (sym (take_next xs n e rest d))
