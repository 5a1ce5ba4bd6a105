-- Numbers into a buffer: rows from a place on.
use mathlib.Core.Path.{◌≡◌, refl, ap, sym, ◌∙◌}
use mathlib.Core.List.{List, [], ◌∷◌, ◌++◌}
use Prim.Native.Nat.{ℕ, ◌+◌, ◌*◌, ◌≤◌}
use native.Mathlib.Omega.{arith}
use lib.ListN.{length, length-append}
use Rattle.slices.specs.Slices.{written}
use Rattle.slices.proofs.Writing.{written_then, written_nil, length_written}
use Rattle.extents.specs.declared.Row.{Row}
use Rattle.extents.specs.Rows.{five, numbers_of}
use Rattle.extents.proofs.Rows.{length_numbers}
use Rattle.index_files.specs.FillingSteps.{WritesRows}

numbers_append : (a b : List Row) → numbers_of (a ++ b) ≡ numbers_of a ++ numbers_of b
unfolding numbers_of
numbers_append [] b = refl
numbers_append (x ∷ a) b = ap (λ (l : List ℕ). five x ++ l) (numbers_append a b)

-- rows written one after the other: those still to be written from k on, up to last
pub record Writing (end : List ℕ) (last : ℕ) (before o : List ℕ) (k : ℕ) (l : List Row) : Type 0 where
  pub left : end ≡ written k (numbers_of l) o
  pub up_to : last ≡ k + length l * 5
  pub room : last ≤ length o
  pub long : length o ≡ length before

pub writing_first : (k : ℕ) (l : List Row) (o : List ℕ) → k + length l * 5 ≤ length o → Writing (written k (numbers_of l) o) (k + length l * 5) o o k l
writing_first k l o h = record { left = refl; up_to = refl; room = h; long = refl }

module _ {end : List ℕ} {last : ℕ} {before o : List ℕ} {k : ℕ} {l : List Row} (w : Writing end last before o k l) where
  pub writing_done : l ≡ [] → (o ≡ end) × (k ≡ last)
  unfolding numbers_of
  writing_done e =
      (sym (w.left ∙ ap (λ (r : List Row). written k (numbers_of r) o) e ∙ written_nil k o), omega (arith, w.up_to, ap length e))

  module _ (a r : List Row) (e : l ≡ a ++ r) where
    pub writing_fits : k + length a * 5 ≤ length o
    writing_fits = omega (arith, w.up_to, w.room, ap length e ∙ length-append a r)

    pub writing_on : {o' : List ℕ} {k' : ℕ} → WritesRows k a o o' k' → Writing end last before o' k' r
    writing_on {o'} {k'} q =
        let n : k + length (numbers_of a) ≡ k' = ap (λ (m : ℕ). k + m) (length_numbers a) ∙ sym q.up_to in
        let f : k + length (numbers_of a) ≤ length o = omega (arith, writing_fits, length_numbers a) in
        let z : length o' ≡ length o = ap length q.holds ∙ length_written k (numbers_of a) o f in
        record {
          left =
              w.left
              ∙ ap (λ (y : List Row). written k (numbers_of y) o) e
              ∙ ap (λ (y : List ℕ). written k y o) (numbers_append a r)
              ∙ sym (written_then k (numbers_of a) (numbers_of r) o (omega (arith, f)))
              ∙ ap (λ (m : ℕ). written m (numbers_of r) (written k (numbers_of a) o)) n
              ∙ sym (ap (written k' (numbers_of r)) q.holds);
          up_to = omega (arith, w.up_to, q.up_to, ap length e ∙ length-append a r);
          room = omega (arith, w.room, z);
          long = z ∙ w.long;
        }

  -- one row
  module _ (x : Row) (r : List Row) (e : l ≡ x ∷ r) where
    pub row_fits : k + 5 ≤ length o
    row_fits = writing_fits (x ∷ []) r e

    pub row_on : {o' : List ℕ} → o' ≡ written k (five x) o → Writing end last before o' (k + 5) r
    unfolding numbers_of
    row_on q = writing_on (x ∷ []) r e record { holds = q; up_to = refl }
