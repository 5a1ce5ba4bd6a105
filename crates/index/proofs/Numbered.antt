-- The numbers of an entry by the places of its children, and its rows in the table of all rows.
use mathlib.Core.Path.{◌≡◌, refl, ap, sym, ◌∙◌, subst}
use mathlib.Core.Bool.{Bool, true, false, cond, not, ◌&&◌, ◌||◌}
use mathlib.Core.List.{List, [], ◌∷◌}
use Prim.Native.Nat.{ℕ, ◌+◌, ◌*◌, ◌/◌, ◌≤◌, ◌<◌}
use native.Mathlib.Omega.{arith}
use borrow.Author.Tests.{le-leb, lt-leb, leb-true, leb-false}
use lib.Dec.{leb}
use lib.ListN.{length, take, get_or, set, length-take}
use lib.Seq.{sets}
use Rattle.tables.specs.Copying.{copied}
use Rattle.elements.specs.Tags.{Tags, heads}
use Rattle.elements.specs.declared.heads.Span.{Span}
use Rattle.children.specs.Children.{text_of_first}
use Rattle.children.specs.RowSteps.{seat}
use Rattle.extents.specs.declared.Row.{Row}
use Rattle.extents.specs.Rows.{numbers_of}
use Rattle.extents.proofs.Rows.{length_numbers}
use Rattle.index_names.specs.declared.Sort.{Sort}
use Rattle.index_names.specs.Sorts.{is_file}
use Rattle.index_names.proofs.ByKind.{is_file-true}
use Rattle.index_rows.specs.Steps.{Placed, TagsPlaced, TextSeated}
use Rattle.index_values.specs.Entries.{is_entry, number_or_zero, uid_of}
use Rattle.index_values.specs.Tests.{length_of, few, extent_rows, rows_held}
use Rattle.index_values.specs.Steps.{rows_taken}
use Rattle.xml.specs.Tree.{Forest}
use Rattle.index_values.proofs.Seated.{length_placed, name_stands}
use Rattle.index.specs.Entries.{name_in, entry_with, nine}
use Rattle.index.specs.SweepSteps.{entry_put, rows_put}
use Rattle.index.specs.Steps.{rows_copied, PutsEntry}
use Rattle.index.specs.declared.walk.Sums.{Sums}

same_nine : {a₁ a₂ a₃ a₄ a₅ a₆ a₇ a₈ a₉ b₁ b₄ b₅ b₆ b₇ b₉ : ℕ} → a₁ ≡ b₁ → a₄ ≡ b₄ → a₅ ≡ b₅ → a₆ ≡ b₆ → a₇ ≡ b₇ → a₉ ≡ b₉
    → ◌≡◌ {A = List ℕ} (a₁ ∷ a₂ ∷ a₃ ∷ a₄ ∷ a₅ ∷ a₆ ∷ a₇ ∷ a₈ ∷ a₉ ∷ []) (b₁ ∷ a₂ ∷ a₃ ∷ b₄ ∷ b₅ ∷ b₆ ∷ b₇ ∷ a₈ ∷ b₉ ∷ [])
same_nine e1 e4 e5 e6 e7 e9 = cc

pub numbers_said : (x t : List ℕ) (sort : Sort) (p : ℕ) (b : Sums) (k : Tags) (l : List Row) → is_entry sort ≡ true → Placed x sort (heads k) t → TagsPlaced x sort k t
    → (kind uid count long : ℕ) (name : Span) → kind ≡ cond (is_file sort) 1 0 → uid ≡ uid_of (heads k) → TextSeated x (get_or t 1 0) name
    → long ≡ cond (is_file sort) (number_or_zero (text_of_first (seat x (get_or t 8 0)))) 0 → count ≡ length l
    → ◌≡◌ {A = List ℕ} (kind ∷ p ∷ b.files ∷ uid ∷ name.from ∷ name.len ∷ long ∷ b.rows ∷ count ∷ []) (nine b.files b.rows (entry_with x sort p k l))
unfolding nine entry_with
numbers_said x t sort p b k l is placed tags kind uid count long name ek eu en el ec =
    same_nine ek eu (ap (λ (w : Span). w.from) named) (ap (λ (w : Span). w.len) named) (el ∙ says (is_file sort) refl) ec
  where
    named : name ≡ name_in x k
    named = en.place ∙ sym (name_stands sort is x k t tags)

    says : (o : Bool) → is_file sort ≡ o → cond o (number_or_zero (text_of_first (seat x (get_or t 8 0)))) 0 ≡ cond o (length_of (heads k)) 0
    says true q = ap number_or_zero (sym (length_placed x (heads k) t (subst (λ (n : Sort). Placed x n (heads k) t) (is_file-true sort q) placed)))
    says false q = refl

-- the rows of a file that stand in the front of a table
pub rows_kept : (rows : List ℕ) (l : List Row) (n : ℕ) (t : List ℕ) → length l ≤ 1024 → take (length l * 5) rows ≡ numbers_of l
    → rows_copied rows (length l) n t ≡ rows_put n l t
unfolding rows_copied copied rows_put
rows_kept rows l n t h e = go (leb n (length t / 5)) refl (leb ((n + length l) * 5) (length t)) refl
  where
    fits : leb (length l * 5) (length rows) ≡ true
    fits = le-leb (length l * 5) (length rows) (omega (arith, sym (length-take (length l * 5) rows) ∙ ap length e ∙ length_numbers l))

    small : leb (length l) 1024 ≡ true
    small = le-leb (length l) 1024 h

    go : (a : Bool) → leb n (length t / 5) ≡ a → (b : Bool) → leb ((n + length l) * 5) (length t) ≡ b
        → cond (leb (length l) 1024 && leb n (length t / 5)) (cond (leb (length l * 5) (length rows) && leb (n * 5 + length l * 5) (length t)) (sets t (n * 5) (take (length l * 5) rows)) t) t
        ≡ cond (leb ((n + length l) * 5) (length t)) (sets t (n * 5) (numbers_of l)) t
    go true p true q =
        let w : leb (n * 5 + length l * 5) (length t) ≡ true = le-leb (n * 5 + length l * 5) (length t) (omega (arith, leb-true ((n + length l) * 5) (length t) q)) in
        rw (small, p, fits, w, q, e)
    go true p false q =
        let w : leb (n * 5 + length l * 5) (length t) ≡ false = lt-leb (n * 5 + length l * 5) (length t) (omega (arith, leb-false ((n + length l) * 5) (length t) q)) in
        rw (small, p, fits, w, q)
    go false p true q = absurd (omega (arith, leb-false n (length t / 5) p, leb-true ((n + length l) * 5) (length t) q))
    go false p false q = rw (small, p, q)

-- not too many are taken
pub taken_few : (s : Sort) (c : Forest) → length (rows_taken s c) ≤ 1024
unfolding rows_taken rows_held few
taken_few s c = go (is_file s) (leb (length (extent_rows c)) 1024) refl
  where
    go : (a b : Bool) → leb (length (extent_rows c)) 1024 ≡ b → length (cond (not a || b) (cond a (extent_rows c) []) []) ≤ 1024
    go false b e = omega arith
    go true true e = leb-true (length (extent_rows c)) 1024 e
    go true false e = omega arith

-- an entry's numbers in their tables
module _ (x : List ℕ) (sort : Sort) (p : ℕ) (b : Sums) (k : Tags) (l : List Row) (u e : List ℕ) where
  abbrev numbers : List ℕ
  numbers = nine b.files b.rows (entry_with x sort p k l)

  pub puts_none : is_entry sort ≡ false → PutsEntry x sort p b k l u u e e
  puts_none other =
      record {
        uids = sym (ap (λ (o : Bool). cond o (set u b.entries (uid_of (heads k))) u) other);
        table = sym (ap (λ (o : Bool). cond o (entry_put b.entries numbers e) e) other);
      }

  module _ (is : is_entry sort ≡ true) (u' : List ℕ) (uid : ℕ) (eu : u' ≡ set u b.entries uid) (ed : uid ≡ uid_of (heads k)) where
    uids_put : u' ≡ cond (is_entry sort) (set u b.entries (uid_of (heads k))) u
    uids_put = eu ∙ ap (set u b.entries) ed ∙ sym (ap (λ (o : Bool). cond o (set u b.entries (uid_of (heads k))) u) is)

    table_put : (e' : List ℕ) → e' ≡ entry_put b.entries numbers e → e' ≡ cond (is_entry sort) (entry_put b.entries numbers e) e
    table_put e' q = q ∙ sym (ap (λ (o : Bool). cond o (entry_put b.entries numbers e) e) is)

    pub puts_full : length e / 9 ≤ b.entries → PutsEntry x sort p b k l u u' e e
    unfolding entry_put
    puts_full h = record { uids = uids_put; table = table_put e (sym (rw (lt-leb ((b.entries + 1) * 9) (length e) (omega arith)))) }

    pub puts_room : b.entries < length e / 9 → (v e' : List ℕ) → v ≡ numbers → e' ≡ copied v 9 e (b.entries * 9) → PutsEntry x sort p b k l u u' e e'
    unfolding entry_put copied nine
    puts_room h v e' q w =
        let a : leb (b.entries * 9 + 9) (length e) ≡ true = le-leb (b.entries * 9 + 9) (length e) (omega arith) in
        let c : leb ((b.entries + 1) * 9) (length e) ≡ true = le-leb ((b.entries + 1) * 9) (length e) (omega arith) in
        record { uids = uids_put; table = table_put e' (w ∙ ap (λ (n : List ℕ). copied n 9 e (b.entries * 9)) q ∙ rw (a, c)) }
