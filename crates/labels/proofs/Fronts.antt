-- The labels stand in elements 0 to 3: no other element has a say in them.
use Rattle.std.specs.Prelude.{Ok, slice_get}
use mathlib.Core.Path.{◌≡◌, refl, sym, subst₂, ◌∙◌}
use mathlib.Core.Bool.{Bool, true, false, ◌&&◌}
use mathlib.Core.List.{[], ◌∷◌, ◌++◌}
use Prim.Native.Nat.{ℕ, zero, suc, ◌≤◌, ◌<◌}
use native.Mathlib.Omega.{arith}
use lib.ListN.{length, take, drop, take-append-drop}
use lib.Seq.{take-append-le}
use Rattle.slices.proofs.Booleans.{and_right}
use Rattle.refusals.specs.declared.Refusal.TheVariants.{Layout}
use Rattle.refusals.specs.Refusals.{require}
use Rattle.tape.specs.Tape.{Tape}
use Rattle.label.specs.Label.{Label}
use Rattle.labels.specs.Labels.{is_mark, is_block, is_laid, bytes_at, labels_from, labels_of}

element_front : (n k : ℕ) (t : Tape) → k < n → slice_get (take n t) k ≡ slice_get t k
element_front zero k t h = absurd (omega arith)
element_front (suc n) k [] h = refl
element_front (suc n) zero (e ∷ t) h = refl
element_front (suc n) (suc k) (e ∷ t) h = element_front n k t (omega arith)

pub labels_front : (i d : Tape) → labels_of (take 4 i) (take 4 d) ≡ labels_of i d
unfolding labels_of
labels_front i d =
    let at : (t : Tape) (k : ℕ) → k < 4 → slice_get (take 4 t) k ≡ slice_get t k = λ t k h. element_front 4 k t h in
    rw (
      at i 0 (omega arith),
      at i 1 (omega arith),
      at i 2 (omega arith),
      at i 3 (omega arith),
      at d 0 (omega arith),
      at d 1 (omega arith),
      at d 2 (omega arith),
      at d 3 (omega arith),
    )

-- where element 3 is a mark there are four
fourth : (t : Tape) → is_mark (slice_get t 3) ≡ true → 4 ≤ length t
fourth [] h = let z : ◌≡◌ {A = ℕ} 0 1 = cc in absurd (omega arith)
fourth (a ∷ []) h = let z : ◌≡◌ {A = ℕ} 0 1 = cc in absurd (omega arith)
fourth (a ∷ b ∷ []) h = let z : ◌≡◌ {A = ℕ} 0 1 = cc in absurd (omega arith)
fourth (a ∷ b ∷ c ∷ []) h = let z : ◌≡◌ {A = ℕ} 0 1 = cc in absurd (omega arith)
fourth (a ∷ b ∷ c ∷ e ∷ t) h = omega arith

laid_four : (t : Tape) → is_laid t ≡ true → 4 ≤ length t
laid_four t h = fourth t (and_right (is_block (slice_get t 0) && is_mark (slice_get t 1) && is_block (slice_get t 2)) (is_mark (slice_get t 3)) h)

-- labels that agree do so however the tapes go on
pub labels_on : (i d x y : Tape) (f : Label) → labels_of i d ≡ Ok f → labels_of (i ++ x) (d ++ y) ≡ Ok f
unfolding labels_of
labels_on i d x y f e = go (is_laid i) refl (is_laid d) refl e
  where
    go : (p : Bool) → is_laid i ≡ p → (q : Bool) → is_laid d ≡ q
        → require p Layout (require q Layout (labels_from (bytes_at i 0) (bytes_at i 2) (bytes_at d 0) (bytes_at d 2))) ≡ Ok f
        → labels_of (i ++ x) (d ++ y) ≡ Ok f
    go false h q k r = let z : ◌≡◌ {A = ℕ} 0 1 = cc in absurd (omega arith)
    go true h false k r = let z : ◌≡◌ {A = ℕ} 0 1 = cc in absurd (omega arith)
    go true h true k r =
        sym (labels_front (i ++ x) (d ++ y))
        ∙ rw (take-append-le 4 i x (laid_four i h), take-append-le 4 d y (laid_four d k)) (labels_front i d) ∙ e

-- and so does a tape whose front has them
pub labels_within : (n m : ℕ) (i d : Tape) (f : Label) → labels_of (take n i) (take m d) ≡ Ok f → labels_of i d ≡ Ok f
labels_within n m i d f e =
    subst₂ (λ (x y : Tape). labels_of x y ≡ Ok f) (take-append-drop n i) (take-append-drop m d)
    (labels_on (take n i) (take m d) (drop n i) (drop m d) f e)
