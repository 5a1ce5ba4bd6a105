-- Numbers that are all different (01, Index: fileuids).
use Rattle.std.specs.Prelude.{Bool, true, not, ◌&&◌, List, [], ◌∷◌, ℕ, eqb}
use Rattle.std.specs.List.{list_any}

unfoldable pub member : ℕ → List ℕ → Bool
member x = list_any (eqb x)

unfoldable pub different : List ℕ → Bool
different [] = true
different (x ∷ l) = not (member x l) && different l
