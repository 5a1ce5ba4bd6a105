-- The rows of extents along a row of elements.
use mathlib.Core.Path.{◌≡◌, ap}
use mathlib.Core.List.{List, [], ◌∷◌}
use Prim.Native.Nat.{ℕ}
use Rattle.xml.specs.Tree.{none}
use Rattle.elements.specs.Reading.{forest_at, children_at}
use Rattle.elements.specs.TagSteps.{FirstOf}
use Rattle.index_values.specs.Tests.{row_of, rows_in}

module _ (s : List ℕ) (i : ℕ) where
  pub rows_over : forest_at s i ≡ none → rows_in (forest_at s i) ≡ []
  unfolding rows_in
  rows_over e = ap rows_in e

  pub rows_first : {n j : ℕ} → FirstOf s i n j → rows_in (forest_at s i) ≡ row_of (children_at s n) ∷ rows_in (forest_at s j)
  unfolding rows_in
  rows_first f = ap rows_in f.row
