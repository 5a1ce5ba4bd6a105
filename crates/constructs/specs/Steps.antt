-- The ends of a list: `Suffix xs ys` says that ys is xs with elements put in front.
use Rattle.std.specs.Prelude.{◌≡◌, List, ◌∷◌}

pub data Suffix {A : Type 0} (xs : List A) : List A → Type 0 where
  here : {ys : List A} → xs ≡ ys → Suffix xs ys
  there : {y : A} {ys : List A} → Suffix xs ys → Suffix xs (y ∷ ys)
