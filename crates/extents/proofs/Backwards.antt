-- Rows apart, along the rows from the last one back; and rows that end by the first position of all others.
use mathlib.Core.Path.{◌≡◌, ap, ◌∙◌}
use mathlib.Core.Bool.{Bool, true, false, and-false}
use mathlib.Core.List.{List, [], ◌∷◌}
use Prim.Native.Nat.{ℕ, zero, suc, ◌+◌, ◌-◌, ◌*◌, ◌/◌, ◌<◌, ◌≤◌}
use native.Mathlib.Omega.{arith}
use borrow.Author.Tests.{le-leb, leb-true}
use lib.Dec.{leb}
use lib.ListN.{length, drop}
use Rattle.slices.specs.Slices.{every}
use Rattle.slices.proofs.Booleans.{and_both}
use Rattle.slices.proofs.Every.{every_weaker}
use Rattle.extents.specs.declared.Row.{Row}
use Rattle.extents.specs.Rows.{rows_of}
use Rattle.extents.specs.Steps.{row_from}
use Rattle.extents.specs.Lawful.{row_end, clear, apart}
use Rattle.extents.proofs.Rows.{rows_on, rows_end}

-- no row begins below a position
abbrev pub above : ℕ → List Row → Bool
above low rows = every (λ (q : Row). leb low q.fileoffset) rows

-- a row that ends by the position is clear of such rows
pub clear_above : (r : Row) (low : ℕ) (rows : List Row) → row_end r ≤ low → above low rows ≡ true → every (clear r) rows ≡ true
clear_above r low rows h e = every_weaker (λ (q : Row). leb low q.fileoffset) (clear r) weaker rows e
  where
    weaker : (q : Row) → leb low q.fileoffset ≡ true → clear r q ≡ true
    weaker q t = let g = leb-true low q.fileoffset t in rw (le-leb (row_end r) q.fileoffset (omega arith))

pub above_lower : (low lower : ℕ) (rows : List Row) → lower ≤ low → above low rows ≡ true → above lower rows ≡ true
above_lower low lower rows h e = every_weaker (λ (q : Row). leb low q.fileoffset) (λ (q : Row). leb lower q.fileoffset) weaker rows e
  where
    weaker : (q : Row) → leb low q.fileoffset ≡ true → leb lower q.fileoffset ≡ true
    weaker q t = let g = leb-true low q.fileoffset t in le-leb lower q.fileoffset (omega arith)

-- rows of which the last ones are not apart
pub not_apart : (rows : List Row) (i : ℕ) → apart (drop i rows) ≡ false → apart rows ≡ false
unfolding apart
not_apart rows zero e = e
not_apart [] (suc i) e = e
not_apart (r ∷ rows) (suc i) e = rw (not_apart rows i e) (and-false (every (clear r) rows))

-- the row before the rows from k on
module _ (s : List ℕ) (k : ℕ) (some : 0 < k) (inside : k ≤ length s / 5) where
  abbrev before : Row
  before = row_from s ((k - 1) * 5)

  row_back : drop (k - 1) (rows_of s) ≡ before ∷ drop k (rows_of s)
  row_back =
      let e : k - 1 + 1 ≡ k = omega arith in
      rows_on s (k - 1) (omega arith) ∙ ap (λ (n : ℕ). before ∷ drop n (rows_of s)) e

  pub above_more : (low : ℕ) → low ≤ before.fileoffset → above low (drop k (rows_of s)) ≡ true → above low (drop (k - 1) (rows_of s)) ≡ true
  above_more low h e = rw row_back (and_both _ _ (le-leb _ _ h) e)

  pub apart_more : every (clear before) (drop k (rows_of s)) ≡ true → apart (drop k (rows_of s)) ≡ true → apart (drop (k - 1) (rows_of s)) ≡ true
  unfolding apart
  apart_more e f = rw row_back (and_both _ _ e f)

  apart_less : every (clear before) (drop k (rows_of s)) ≡ false → apart (drop (k - 1) (rows_of s)) ≡ false
  unfolding apart
  apart_less e = rw (row_back, e)

  pub shared_before : every (clear before) (drop k (rows_of s)) ≡ false → apart (rows_of s) ≡ false
  shared_before e = not_apart (rows_of s) (k - 1) (apart_less e)

pub apart_end : (s : List ℕ) → apart (drop (length s / 5) (rows_of s)) ≡ true
unfolding apart
apart_end s = ap apart (rows_end s (length s / 5) (omega arith))

pub above_end : (low : ℕ) (s : List ℕ) → above low (drop (length s / 5) (rows_of s)) ≡ true
above_end low s = ap (above low) (rows_end s (length s / 5) (omega arith))
