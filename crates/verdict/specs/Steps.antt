-- Which construct of the data partition begins at an element, in a table; and the first constructs of a list that has its last one first.
use Rattle.std.specs.Prelude.{List, [], ◌∷◌, ℕ, suc, ◌-◌, length, set, drop}
use Rattle.constructs.specs.Constructs.{Construct}

-- at each construct's first block its number plus 1; constructs are listed the last one first
unfoldable pub beginnings : List Construct → List ℕ → List ℕ
beginnings [] table = table
beginnings (c ∷ cs) table = set (beginnings cs table) c.first (suc (length cs))

module _ {A : Type 0} where
  -- the first k elements of a list that has its last one first
  abbrev pub firsts : ℕ → List A → List A
  firsts k xs = drop (length xs - k) xs
