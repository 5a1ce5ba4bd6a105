-- How often each name was seen in a row, against how often it is there: a count up to the limit tells once from twice.
use mathlib.Core.Path.{◌≡◌, refl, ap, sym, ◌∙◌}
use mathlib.Core.Bool.{Bool, true, false, cond, ◌&&◌, ◌||◌}
use Rattle.std.specs.Prelude.{◌↔◌, IsTrue}
use Rattle.children.proofs.Below.{below_all}
use Rattle.children.proofs.Found.{below_at}
use mathlib.Core.List.{List}
use Prim.Native.Nat.{ℕ, zero, suc, ◌+◌, ◌<◌}
use native.Mathlib.Nat.{add-zero, zero-add}
use native.Mathlib.Omega.{arith}
use native.Mathlib.Numerals.{add-one}
use borrow.Author.Tests.{eqb-true, eqb-false, ltb-true, ltb-false, lt-ltb, le-ltb, ne_eqb, lt-leb}
use lib.Dec.{eqb, leb, ltb}
use lib.ListN.{length, get_or, set, length-set, get_or-replicate}
use lib.Seq.{get_or-set_same, get_or-set_other}
use Rattle.xml.specs.Tree.{Forest, none, node}
use Rattle.index_names.specs.declared.Sort.{Sort}
use Rattle.index_names.specs.Tables.{must, repeats}
use Rattle.index_values.specs.Elements.{name_number}
use Rattle.children.specs.Children.{below}
use Rattle.index.specs.Structure.{count, right_often, complete}
use Rattle.index.specs.SweepSteps.{one_more, none_seen, marked, row_done}

-- a count, up to the limit
unfoldable pub sat : ℕ → ℕ
sat n = cond (ltb n 5000) n 5000

pub more_sat : (n : ℕ) → one_more (sat n) ≡ sat (suc n)
unfolding sat one_more
more_sat n = go (ltb n 5000) refl (ltb (suc n) 5000) refl
  where
    go : (s : Bool) → ltb n 5000 ≡ s → (t : Bool) → ltb (suc n) 5000 ≡ t → one_more (sat n) ≡ sat (suc n)
    go true e true g = simp (e, g) (add-one n)
    go true e false g = let a = ltb-true n 5000 e in let b = ltb-false (suc n) 5000 g in let r : n + 1 ≡ 5000 = omega arith in simp (e, g) r
    go false e t g = let a = ltb-false n 5000 e in let b : ltb (suc n) 5000 ≡ false = le-ltb (suc n) 5000 (omega arith) in simp (e, b)

pub sat_below : (n : ℕ) → n < 5000 → sat n ≡ n
unfolding sat
sat_below n h = simp (lt-ltb n 5000 h)

once_sat : (needed j n : ℕ) → right_often needed j (sat n) ≡ right_often needed j n
unfolding sat
once_sat needed j n = go (ltb n 5000) refl
  where
    go : (s : Bool) → ltb n 5000 ≡ s → right_often needed j (sat n) ≡ right_often needed j n
    go true e = simp e
    go false e =
        let a = ltb-false n 5000 e in
        let b : eqb n 1 ≡ false = ne_eqb n 1 (λ z. omega arith) in
        let c : leb n 1 ≡ false = lt-leb n 1 (omega arith) in
        simp (e, b, c)

-- what is seen at the end of a row
unfoldable pub tally : Sort → List ℕ → Forest → List ℕ
tally kind m none = m
tally kind m (node h c r) = tally kind (marked (name_number kind h) m) r

marked_at : (i j : ℕ) (m : List ℕ) (n : ℕ) → j < length m → get_or m j 0 ≡ sat n → get_or (marked i m) j 0 ≡ sat (cond (eqb i j) (suc n) n)
unfolding marked
marked_at i j m n h e = go (eqb i j) refl
  where
    go : (b : Bool) → eqb i j ≡ b → get_or (set m i (one_more (get_or m i 0))) j 0 ≡ sat (cond b (suc n) n)
    go true q =
        let z = eqb-true i j q in
        ap (λ (k : ℕ). get_or (set m k (one_more (get_or m k 0))) j 0) z ∙ get_or-set_same m j (one_more (get_or m j 0)) 0 h ∙ ap one_more e ∙ more_sat n
    go false q = get_or-set_other m i j (one_more (get_or m i 0)) 0 (λ z. eqb-false i j q (sym z)) ∙ e

length_marked : (i : ℕ) (m : List ℕ) → length (marked i m) ≡ length m
unfolding marked
length_marked i m = length-set m i (one_more (get_or m i 0))

tally_at : (kind : Sort) (f : Forest) (j : ℕ) (m : List ℕ) (n : ℕ) → j < length m → get_or m j 0 ≡ sat n → get_or (tally kind m f) j 0 ≡ sat (n + count j kind f)
unfolding tally count
tally_at kind none j m n h e = e ∙ ap sat (sym (add-zero n))
tally_at kind (node x c r) j m n h e =
    tally_at kind r j (marked (name_number kind x) m) (cond (eqb (name_number kind x) j) (suc n) n) (rw length_marked h) (marked_at (name_number kind x) j m n h e)
    ∙ ap sat (sum (eqb (name_number kind x) j))
  where
    sum : (b : Bool) → cond b (suc n) n + count j kind r ≡ n + cond b (suc (count j kind r)) (count j kind r)
    sum true = omega arith
    sum false = refl

pub below_ext : (t u : ℕ → Bool) (n : ℕ) → ((j : ℕ) → j < n → t j ≡ u j) → below n t ≡ below n u
unfolding below
below_ext t u zero e = refl
below_ext t u (suc n) e = ap (λ (b : Bool). b && below n t) (e n (omega arith)) ∙ ap (λ (b : Bool). u n && b) (below_ext t u n (λ j h. e j (omega arith)))

-- what all of the first n pass
pub below_told : (t : ℕ → Bool) (n : ℕ) (r : Bool) → (IsTrue r ↔ ((k : ℕ) → k < n → IsTrue (t k))) → r ≡ below n t
below_told t n true w = sym (below_ext t (λ (k : ℕ). true) n (w.0 refl) ∙ below_all (λ (k : ℕ). true) n (λ k. refl))
below_told t n false w = go (below n t) refl
  where
    go : (b : Bool) → below n t ≡ b → false ≡ b
    go true e = w.1 (λ k h. below_at t n k e h)
    go false e = refl

sat_zero : 0 ≡ sat 0
unfolding sat
sat_zero = refl

-- the test at the row's end is that of the counts
pub done_counts : (kind : Sort) (f : Forest) → row_done kind (tally kind none_seen f) ≡ complete kind f
unfolding row_done complete
done_counts kind f =
    ap (λ (b : Bool). repeats kind || b)
    (below_ext (λ j. right_often (must kind) j (get_or (tally kind none_seen f) j 0)) (λ j. right_often (must kind) j (count j kind f)) 16
    (λ j h. ap (right_often (must kind) j) (tally_at kind f j none_seen 0 h (get_or-replicate 16 j 0 0 h ∙ sat_zero) ∙ ap sat (zero-add (count j kind f))) ∙ once_sat (must kind) j (count j kind f)))
