-- The rows of numbers in fives: how many they are, and which numbers each has; rows whose numbers are written are the rows that are read.
use mathlib.Core.Path.{◌≡◌, refl, ap, sym, ◌∙◌}
use mathlib.Core.List.{List, [], ◌∷◌}
use Prim.Native.Nat.{ℕ, zero, suc, ◌+◌, ◌*◌, ◌/◌, ◌-◌, ◌<◌, ◌≤◌}
use native.Mathlib.Nat.{add_comm, add_assoc, not-suc-le-zero, le_of_suc-le-suc}
use native.Mathlib.Omega.{arith}
use native.Mathlib.Numerals.{add-one}
use Rattle.std.proofs.lemmas.Grind.{common_steps}
use lib.ListN.{length, take, drop, get_or, drop_of_length-le}
use lib.Seq.{drop-drop, get_or-drop, drop-cons}
use Rattle.extents.specs.declared.Row.{Row}
use Rattle.extents.specs.Rows.{rows_of, numbers_of}
use Rattle.extents.specs.Steps.{row_from}

pub rows_count : (s : List ℕ) → length (rows_of s) ≡ length s / 5
unfolding rows_of
rows_count [] = refl
rows_count (a ∷ []) = refl
rows_count (a ∷ b ∷ []) = refl
rows_count (a ∷ b ∷ c ∷ []) = refl
rows_count (a ∷ b ∷ c ∷ d ∷ []) = refl
rows_count (a ∷ b ∷ c ∷ d ∷ e ∷ s) = let n = rows_count s in omega arith

-- the first row, and those of what follows its numbers
pub rows_none : (s : List ℕ) → length s < 5 → rows_of s ≡ []
unfolding rows_of
rows_none [] h = refl
rows_none (a ∷ []) h = refl
rows_none (a ∷ b ∷ []) h = refl
rows_none (a ∷ b ∷ c ∷ []) h = refl
rows_none (a ∷ b ∷ c ∷ d ∷ []) h = refl
rows_none (a ∷ b ∷ c ∷ d ∷ e ∷ s) h = absurd (omega arith)

pub rows_first : (s : List ℕ) → 5 ≤ length s → rows_of s ≡ row_from s 0 ∷ rows_of (drop 5 s)
unfolding rows_of
rows_first [] h = absurd (omega arith)
rows_first (a ∷ []) h = absurd (omega arith)
rows_first (a ∷ b ∷ []) h = absurd (omega arith)
rows_first (a ∷ b ∷ c ∷ []) h = absurd (omega arith)
rows_first (a ∷ b ∷ c ∷ d ∷ []) h = absurd (omega arith)
rows_first (a ∷ b ∷ c ∷ d ∷ e ∷ s) h = refl

pub rows_numbers : (rows : List Row) → rows_of (numbers_of rows) ≡ rows
unfolding rows_of numbers_of
rows_numbers [] = refl
rows_numbers (r ∷ rows) = ap (λ (l : List Row). r ∷ l) (rows_numbers rows)

pub length_numbers : (rows : List Row) → length (numbers_of rows) ≡ length rows * 5
unfolding numbers_of
length_numbers [] = refl
length_numbers (r ∷ rows) = omega (arith, length_numbers rows)

-- behind the numbers of the first rows stand the others
short_drop : (s : List ℕ) (k : ℕ) → length s < 5 → rows_of (drop (suc k * 5) s) ≡ []
unfolding rows_of
short_drop s k h = ap rows_of (drop_of_length-le s (omega arith))

pub rows_drop : (s : List ℕ) (k : ℕ) → rows_of (drop (k * 5) s) ≡ drop k (rows_of s)
unfolding rows_of
rows_drop s zero = refl
rows_drop [] (suc k) = short_drop [] k (omega arith)
rows_drop (a ∷ []) (suc k) = short_drop _ k (omega arith)
rows_drop (a ∷ b ∷ []) (suc k) = short_drop _ k (omega arith)
rows_drop (a ∷ b ∷ c ∷ []) (suc k) = short_drop _ k (omega arith)
rows_drop (a ∷ b ∷ c ∷ d ∷ []) (suc k) = short_drop _ k (omega arith)
rows_drop (a ∷ b ∷ c ∷ d ∷ e ∷ s) (suc k) =
    let z : suc k * 5 ≡ k * 5 + 5 = omega arith in
    ap (λ (n : ℕ). rows_of (drop n (a ∷ b ∷ c ∷ d ∷ e ∷ s))) (z ∙ add_comm (k * 5) 5)
    ∙ ap rows_of (sym (drop-drop (k * 5) 5 (a ∷ b ∷ c ∷ d ∷ e ∷ s)))
    ∙ rows_drop s k

-- also where they are cut out to the end
pub rows_behind : (s : List ℕ) (k : ℕ) → 0 < k → rows_of (take (length s - (k - 1 + 1) * 5) (drop ((k - 1 + 1) * 5) s)) ≡ drop k (rows_of s)
rows_behind s k h =
    let z : k - 1 + 1 ≡ k = omega arith in
    let w : take (length s - k * 5) (drop (k * 5) s) ≡ drop (k * 5) s = grind (arith, common_steps) in
    rw (z, w) (rows_drop s k)

-- a row of what follows the first five numbers
row_past : (s : List ℕ) (k : ℕ) → row_from s (5 + k) ≡ row_from (drop 5 s) k
row_past s k = λ i. record {
  letter = sym (get_or-drop 5 s k 0) i;
  startblock = at 1 i;
  byteoffset = at 2 i;
  bytecount = at 3 i;
  fileoffset = at 4 i;
}
  where
    at : (n : ℕ) → get_or s (5 + k + n) 0 ≡ get_or (drop 5 s) (k + n) 0
    at n = rw add_assoc (sym (get_or-drop 5 s (k + n) 0))

module _ (d : Row) where
  pub row_at : (s : List ℕ) (i : ℕ) → i < length (rows_of s) → get_or (rows_of s) i d ≡ row_from s (i * 5)
  unfolding rows_of
  row_at [] i h = absurd (not-suc-le-zero h)
  row_at (a ∷ []) i h = absurd (not-suc-le-zero h)
  row_at (a ∷ b ∷ []) i h = absurd (not-suc-le-zero h)
  row_at (a ∷ b ∷ c ∷ []) i h = absurd (not-suc-le-zero h)
  row_at (a ∷ b ∷ c ∷ e ∷ []) i h = absurd (not-suc-le-zero h)
  row_at (a ∷ b ∷ c ∷ e ∷ f ∷ s) zero h = refl
  row_at (a ∷ b ∷ c ∷ e ∷ f ∷ s) (suc i) h =
      let z : suc i * 5 ≡ 5 + i * 5 = omega arith in
      row_at s i (le_of_suc-le-suc h)
      ∙ sym (ap (row_from (a ∷ b ∷ c ∷ e ∷ f ∷ s)) z ∙ row_past (a ∷ b ∷ c ∷ e ∷ f ∷ s) (i * 5))

-- along the rows of s, of which i were passed
module _ (s : List ℕ) (i : ℕ) where
  -- any row, for places past the last
  default : Row
  default = row_from s 0

  below : i < length s / 5 → i < length (rows_of s)
  below h = rw (rows_count s) h

  pub rows_on : i < length s / 5 → drop i (rows_of s) ≡ row_from s (i * 5) ∷ drop (i + 1) (rows_of s)
  rows_on h =
      drop-cons (rows_of s) i default (below h)
      ∙ ap (λ (r : Row). r ∷ drop (suc i) (rows_of s)) (row_at default s i (below h))
      ∙ ap (λ (k : ℕ). row_from s (i * 5) ∷ drop k (rows_of s)) (sym (add-one i))

  pub rows_end : length s / 5 ≤ i → drop i (rows_of s) ≡ []
  rows_end h = let g : length (rows_of s) ≤ i = rw (rows_count s) h in drop_of_length-le (rows_of s) g
