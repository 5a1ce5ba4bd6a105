-- The block count of a label byte by byte.
use mathlib.Core.Path.{◌≡◌, ap, ◌∙◌}
use mathlib.Core.List.{List, [], ◌∷◌}
use Prim.Native.Nat.{ℕ, ◌+◌, ◌-◌, ◌*◌}
use native.Mathlib.Omega.{arith}
use lib.ListN.{length, get_or}
use lib.Seq.{drop-cons}
use Rattle.digits.specs.Decimal.{decimal}
use Rattle.digits.specs.Runs.{value}
use Rattle.ansi_labels.specs.Labels.{label_part, block_count}

module _ (x : List ℕ) (l : length x ≡ 80) where
  six_bytes : label_part 55 60 x ≡ get_or x 54 0 ∷ get_or x 55 0 ∷ get_or x 56 0 ∷ get_or x 57 0 ∷ get_or x 58 0 ∷ get_or x 59 0 ∷ []
  six_bytes =
      rw (drop-cons x 54 0 (omega arith), drop-cons x 55 0 (omega arith), drop-cons x 56 0 (omega arith), drop-cons x 57 0 (omega arith), drop-cons x 58 0 (omega arith), drop-cons x 59 0 (omega arith))

  pub count_sum : block_count x ≡ (get_or x 54 0 - 48) * 100000 + (get_or x 55 0 - 48) * 10000 + (get_or x 56 0 - 48) * 1000 + (get_or x 57 0 - 48) * 100 + (get_or x 58 0 - 48) * 10 + (get_or x 59 0 - 48)
  unfolding block_count value
  count_sum = ap (decimal 0) six_bytes ∙ omega arith
