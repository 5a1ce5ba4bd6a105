-- The ends of a list: `Suffix xs ys` says that ys is xs with elements put in front.
use mathlib.Core.Path.{◌≡◌, sym, ap, ◌∙◌}
use mathlib.Core.List.{List, [], ◌∷◌}
use Prim.Native.Nat.{◌≤◌}
use native.Mathlib.Omega.{arith}
use lib.ListN.{length}
use Rattle.constructs.specs.Steps.{Suffix, here, there}

module _ {A : Type 0} where
  pub suffix_trans : {xs ys zs : List A} → Suffix xs ys → Suffix ys zs → Suffix xs zs
  suffix_trans s (here e) = rw (← e) s
  suffix_trans s (there t) = there (suffix_trans s t)

  pub suffix_length : {xs ys : List A} → Suffix xs ys → length xs ≤ length ys
  suffix_length (here e) = omega (arith, ap length e)
  suffix_length (there t) = omega (arith, suffix_length t)

  pub nil_suffix : {x : A} {xs : List A} → Suffix (x ∷ xs) [] → ⊥
  nil_suffix (here e) = omega (arith, ap length e)

  -- two ends of one length are one
  pub suffix_same : {xs ys zs : List A} → Suffix xs zs → Suffix ys zs → length xs ≡ length ys → xs ≡ ys
  suffix_same (here e) (here f) h = e ∙ sym f
  suffix_same (here e) (there t) h = absurd (omega (arith, ap length e, suffix_length t))
  suffix_same (there s) (here f) h = absurd (omega (arith, ap length f, suffix_length s))
  suffix_same (there s) (there t) h = suffix_same s t h
