-- What is gathered, part by part.
use mathlib.Core.Path.{◌≡◌, refl, ap, sym, ◌∙◌}
use mathlib.Core.Bool.{Bool, true, false, cond, ◌&&◌, and-true, and-false}
use mathlib.Core.List.{List, []}
use Prim.Native.Nat.{ℕ, ◌+◌, ◌*◌}
use native.Mathlib.Nat.{add-zero}
use lib.Dec.{leb}
use lib.ListN.{length, set}
use Rattle.extents.specs.declared.Row.{Row}
use Rattle.extents.specs.Rows.{numbers_of}
use Rattle.xml.specs.Tree.{Head, Forest}
use Rattle.elements.specs.Tags.{Tags, heads}
use Rattle.index_names.specs.declared.Sort.{Sort}
use Rattle.index_names.specs.declared.Sort.TheVariants.{File}
use Rattle.index_names.specs.Sorts.{is_file}
use Rattle.index.specs.Structure.{may_stand}
use Rattle.index_values.specs.Entries.{is_entry, uid_of}
use Rattle.index_values.specs.Tests.{Given, valued, own, few, lawful_file, rows_held}
use Rattle.index_values.specs.Steps.{rows_taken}
use Rattle.index.specs.Entries.{entry_with, nine}
use Rattle.index.specs.SweepSteps.{All, gathered, one_more, more_rows, row_done, ended_sums, begun, settled, entry_put, rows_put, after_element}
use Rattle.index.specs.Steps.{PutsEntry}
use Rattle.index.specs.declared.walk.Sums.{Sums}

abbrev with_structure : Bool → Sums → Sums
with_structure b a =
    record { structure = b; few = a.few; values = a.values; own = a.own; lawful = a.lawful; entries = a.entries; files = a.files; rows = a.rows }

module _ (kind : Sort) (m : List ℕ) (a : Sums) where
  pub ended_done : row_done kind m ≡ true → a ≡ ended_sums kind m a
  unfolding ended_sums
  ended_done e = sym (ap (λ (b : Bool). with_structure (a.structure && b) a) e ∙ ap (λ (b : Bool). with_structure b a) (and-true a.structure))

  pub ended_open : row_done kind m ≡ false → with_structure false a ≡ ended_sums kind m a
  unfolding ended_sums
  ended_open e = sym (ap (λ (b : Bool). with_structure (a.structure && b) a) e ∙ ap (λ (b : Bool). with_structure b a) (and-false a.structure))

-- all of it, from its parts
unfoldable pack : Bool → Bool → Bool → Bool → Bool → ℕ → ℕ → ℕ → Sums
pack b1 b2 b3 b4 b5 n1 n2 n3 = record { structure = b1; few = b2; values = b3; own = b4; lawful = b5; entries = n1; files = n2; rows = n3 }

same_parts : {a1 a2 a3 a4 a5 b1 b2 b3 b4 b5 : Bool} {m1 m2 m3 n1 n2 n3 : ℕ}
    → a1 ≡ b1 → a2 ≡ b2 → a3 ≡ b3 → a4 ≡ b4 → a5 ≡ b5 → m1 ≡ n1 → m2 ≡ n2 → m3 ≡ n3 → pack a1 a2 a3 a4 a5 m1 m2 m3 ≡ pack b1 b2 b3 b4 b5 n1 n2 n3
same_parts e1 e2 e3 e4 e5 e6 e7 e8 = cc

pub begun_parts : (g : Given) (s : Sort) (h : Head) (c : Forest) (a r : Sums)
    → r.structure ≡ (a.structure && may_stand s h c) → r.few ≡ a.few → r.values ≡ (a.values && valued s h.text)
    → r.own ≡ (a.own && own g s h.text) → r.lawful ≡ a.lawful
    → r.entries ≡ cond (is_entry s) (one_more a.entries) a.entries → r.files ≡ cond (is_file s) (one_more a.files) a.files
    → r.rows ≡ a.rows → r ≡ begun g s h c a
unfolding begun pack
begun_parts g s h c a r e1 e2 e3 e4 e5 e6 e7 e8 = same_parts e1 e2 e3 e4 e5 e6 e7 e8

pub settled_parts : (x y : Bool) (n : ℕ) (a r : Sums) → r.structure ≡ a.structure → r.few ≡ (a.few && x) → r.values ≡ a.values → r.own ≡ a.own
    → r.lawful ≡ (a.lawful && y) → r.entries ≡ a.entries → r.files ≡ a.files → r.rows ≡ more_rows a.rows n → r ≡ settled x y n a
unfolding settled pack
settled_parts x y n a r e1 e2 e3 e4 e5 e6 e7 e8 = same_parts e1 e2 e3 e4 e5 e6 e7 e8

same_all : {a b : Sums} {u v e f o q : List ℕ} → a ≡ b → u ≡ v → e ≡ f → o ≡ q → gathered a u e o ≡ gathered b v f q
same_all e1 e2 e3 e4 = cc

module _ (x : List ℕ) (g : Given) (s : Sort) (k : Tags) (p : ℕ) where
  -- the end of an element, from the outcomes of the tests and the tables
  pub closed_parts : (b : Sums) (a r : Sums) (isFew isLawful : Bool) (n : ℕ) (u u' e e' o o' : List ℕ)
      → isFew ≡ few s (heads k) → isLawful ≡ lawful_file g s (heads k) → n ≡ length (rows_taken s (heads k)) → r ≡ settled isFew isLawful n a
      → PutsEntry x s p b k (rows_taken s (heads k)) u u' e e' → o' ≡ rows_put a.rows (rows_taken s (heads k)) o
      → gathered r u' e' o' ≡ after_element x g s k p b (gathered a u e o)
  unfolding after_element
  closed_parts b a r isFew isLawful n u u' e e' o o' ef el en er w rest = same_all (er ∙ rw (ef, el, en)) w.uids w.table rest

  -- an element that is no directory and no file leaves all as it is
  module _ (no : is_entry s ≡ false) where
    no_file : is_file s ≡ false
    no_file = go s no
      where
        go : (s : Sort) → is_entry s ≡ false → is_file s ≡ false
        go File e = e
        go _ e = refl

    none_taken : rows_taken s (heads k) ≡ []
    unfolding rows_taken rows_held few
    none_taken = rw no_file

    no_more : (n : ℕ) → more_rows n (length (rows_taken s (heads k))) ≡ n
    unfolding more_rows
    no_more n = ap (λ (l : List Row). more_rows n (length l)) none_taken ∙ go (leb n 8388608)
      where
        go : (b : Bool) → cond (b && true) (n + 0) n ≡ n
        go true = add-zero n
        go false = refl

    none_put : (n : ℕ) (t : List ℕ) → rows_put n (rows_taken s (heads k)) t ≡ t
    unfolding rows_put numbers_of
    none_put n t = ap (λ (l : List Row). rows_put n l t) none_taken ∙ go (leb ((n + 0) * 5) (length t))
      where
        go : (b : Bool) → cond b t t ≡ t
        go true = refl
        go false = refl

    still_few : few s (heads k) ≡ true
    unfolding few
    still_few = rw no_file

    still_lawful : lawful_file g s (heads k) ≡ true
    unfolding lawful_file
    still_lawful = rw no_file

    pub closed_other : (b : Sums) (a : All) → after_element x g s k p b a ≡ a
    unfolding after_element settled
    closed_other b a =
        same_all
        (sym
        (settled_parts (few s (heads k)) (lawful_file g s (heads k)) (length (rows_taken s (heads k))) a.sums a.sums refl
        (sym (ap (λ (q : Bool). a.sums.few && q) still_few ∙ and-true a.sums.few)) refl refl
        (sym (ap (λ (q : Bool). a.sums.lawful && q) still_lawful ∙ and-true a.sums.lawful)) refl refl (sym (no_more a.sums.rows))))
        (ap (λ (q : Bool). cond q (set a.uids b.entries (uid_of (heads k))) a.uids) no)
        (ap (λ (q : Bool). cond q (entry_put b.entries (nine b.files b.rows (entry_with x s p k (rows_taken s (heads k)))) a.entry_table) a.entry_table) no)
        (none_put a.sums.rows a.row_table)
