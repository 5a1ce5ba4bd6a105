-- A file is judged by the rows that were read of it.
use mathlib.Core.Path.{◌≡◌, refl, ap, sym, ◌∙◌}
use mathlib.Core.Bool.{Bool, true, false}
use mathlib.Core.List.{List, [], ◌∷◌}
use Prim.Native.Nat.{ℕ, zero, suc, ◌*◌, ◌≤◌, ◌<◌}
use native.Mathlib.Omega.{arith}
use borrow.Author.Tests.{le-leb, lt-leb}
use lib.Dec.{leb}
use lib.ListN.{length, take}
use lib.Seq.{length-take-le}
use Rattle.slices.specs.Words.{bytes}
use Rattle.xml.specs.Tree.{Forest}
use Rattle.elements.specs.Reading.{forest_at}
use Rattle.extents.specs.Rows as numbers
use Rattle.extents.specs.Lawful as extents
use Rattle.index_names.specs.declared.Sort.{Sort}
use Rattle.index_names.specs.declared.Sort.TheVariants.{File}
use Rattle.index_names.specs.Sorts.{is_file}
use Rattle.index_names.proofs.ByKind.{is_file-false}
use Rattle.index_values.specs.Elements.{text_in, children_in}
use Rattle.index_values.specs.Entries.{number_or_zero}
use Rattle.index_values.specs.Tests.{rows_in, extent_rows, length_of, few, lawful_file, rows_held}
use Rattle.index_values.specs.Steps.{RowsRead, rows_taken, Tested}
use Rattle.index_values.specs.declared.tests.Partitions.{Partitions}

-- numbers in fives are those of their rows
numbers_rows : (n : ℕ) (l : List ℕ) → length l ≡ n * 5 → numbers.numbers_of (numbers.rows_of l) ≡ l
unfolding numbers.rows_of numbers.numbers_of
numbers_rows n [] e = refl
numbers_rows n (a ∷ []) e = absurd (omega arith)
numbers_rows n (a ∷ b ∷ []) e = absurd (omega arith)
numbers_rows n (a ∷ b ∷ c ∷ []) e = absurd (omega arith)
numbers_rows n (a ∷ b ∷ c ∷ d ∷ []) e = absurd (omega arith)
numbers_rows zero (a ∷ b ∷ c ∷ d ∷ f ∷ l) e = absurd (omega arith)
numbers_rows (suc n) (a ∷ b ∷ c ∷ d ∷ f ∷ l) e = ap (λ (x : List ℕ). a ∷ b ∷ c ∷ d ∷ f ∷ x) (numbers_rows n l (omega arith))

module _ (sort : Sort) (c : Forest) (v : Partitions) (out : List ℕ) where
  -- nothing is taken
  none_taken : rows_taken sort c ≡ [] → (take (0 * 5) out ≡ numbers.numbers_of (rows_taken sort c)) × (0 ≡ length (rows_taken sort c))
  unfolding numbers.numbers_of
  none_taken e = (sym (ap numbers.numbers_of e), sym (ap length e))

  pub no_file : (sort ≡ File → ⊥) → Tested sort c v out (record { few = true; lawful = true; count = 0 })
  unfolding few lawful_file rows_taken rows_held
  no_file e =
      let n = none_taken (simp (is_file-false sort e)) in
      record { few = simp (is_file-false sort e); lawful = λ u. simp (is_file-false sort e); count = n.1; rows = n.0 }

  module _ (s : List ℕ) (from : ℕ) (is : sort ≡ File) (ef : forest_at s from ≡ children_in (bytes "extentinfo") c)
      (k : ℕ) (read : RowsRead (rows_in (forest_at s from)) out k) where
    rows_are : rows_in (forest_at s from) ≡ extent_rows c
    rows_are = ap rows_in ef

    pub too_many : 1024 < k → Tested sort c v out (record { few = false; lawful = false; count = 0 })
    unfolding few lawful_file rows_taken
    too_many h =
        let m : 1024 < length (extent_rows c) = rw rows_are at (read.many h) in
        let n = none_taken (simp (ap is_file is, lt-leb (length (extent_rows c)) 1024 m)) in
        record {
          few = sym (simp (ap is_file is, lt-leb (length (extent_rows c)) 1024 m));
          lawful = λ u. sym (simp (ap is_file is, lt-leb (length (extent_rows c)) 1024 m));
          count = n.1;
          rows = n.0;
        }

    pub judged : k ≤ 1024 → k * 5 ≤ length out → (size : ℕ) → size ≡ number_or_zero (text_in (bytes "length") c) → (good : Bool)
        → good ≡ extents.lawful size v.block_size (numbers.rows_of (take (k * 5) out)) → Tested sort c v out (record { few = true; lawful = good; count = k })
    unfolding few lawful_file rows_taken rows_held
    judged h room size es good eg =
        let a = read.all h in
        let n : length (extent_rows c) ≡ k = ap length (sym rows_are) ∙ a.1 in
        let m : leb (length (extent_rows c)) 1024 ≡ true = le-leb (length (extent_rows c)) 1024 (omega arith) in
        let z : size ≡ length_of c = es in
        let y : good ≡ extents.lawful (length_of c) v.block_size (extent_rows c) =
        eg ∙ ap (λ (n : ℕ). extents.lawful n v.block_size (numbers.rows_of (take (k * 5) out))) z ∙ ap (extents.lawful (length_of c) v.block_size) (a.0 ∙ rows_are) in
        let t : rows_taken sort c ≡ extent_rows c = simp (ap is_file is, m) in
        record {
          few = sym (simp (ap is_file is, m));
          lawful = λ u. y ∙ sym (simp (ap is_file is, m));
          count = sym n ∙ sym (ap length t);
          rows = sym (numbers_rows k (take (k * 5) out) (length-take-le (k * 5) out room)) ∙ ap numbers.numbers_of (a.0 ∙ rows_are ∙ sym t);
        }
