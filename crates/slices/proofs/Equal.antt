-- Two runs are the same exactly where they are equal lists.
use mathlib.Core.Path.{◌≡◌, refl, ap, sym, ◌∙◌}
use mathlib.Core.Bool.{Bool, true, false, false≢true}
use mathlib.Core.List.{List}
use Prim.Native.Nat.{ℕ}
use lib.ListN.{length}
use Rattle.std.proofs.lemmas.Slice.Eq.{bytes_eq-Decides}
use Rattle.slices.specs.Slices.{same}
use Rattle.slices.proofs.Booleans.{same_tests}

pub same_eq : (a b : List ℕ) → same a b ≡ true → a ≡ b
same_eq a b = (bytes_eq-Decides a b).0

pub same_refl : (a : List ℕ) → same a a ≡ true
same_refl a = (bytes_eq-Decides a a).1 refl

pub eq_same : (a b : List ℕ) → a ≡ b → same a b ≡ true
eq_same a b = (bytes_eq-Decides a b).1

pub ne_same : (a b : List ℕ) → (a ≡ b → ⊥) → same a b ≡ false
ne_same a b n = go (same a b) refl
  where
    go : (t : Bool) → same a b ≡ t → t ≡ false
    go true e = absurd (n (same_eq a b e))
    go false e = refl

pub same_ne : (a b : List ℕ) → same a b ≡ false → a ≡ b → ⊥
same_ne a b e h = false≢true (sym e ∙ eq_same a b h)

-- two comparisons that follow from each other
pub same_both : (a b c d : List ℕ) → (a ≡ b → c ≡ d) → (c ≡ d → a ≡ b) → same a b ≡ same c d
same_both a b c d f g = same_tests (same a b) (same c d) (λ e. eq_same c d (f (same_eq a b e))) (λ e. eq_same a b (g (same_eq c d e)))

pub lengths_differ : (a b : List ℕ) → (length a ≡ length b → ⊥) → same a b ≡ false
lengths_differ a b n = ne_same a b (λ e. n (ap length e))
