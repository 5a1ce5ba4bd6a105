-- The computed test says what the paper's sentences say: rows of at least a byte are apart exactly where no file position is in two of them.
use mathlib.Core.Path.{◌≡◌, refl}
use mathlib.Core.Bool.{Bool, true, false, cond, ◌||◌}
use mathlib.Core.List.{List, [], ◌∷◌}
use mathlib.Core.Logic.{◌↔◌}
use Prim.Native.Nat.{ℕ, ◌+◌, ◌<◌, ◌≤◌, max}
use native.Mathlib.Omega.{arith}
use borrow.Author.Tests.{leb-true, leb-false}
use lib.Dec.{leb}
use Rattle.slices.specs.Slices.{every}
use Rattle.slices.proofs.Booleans.{split, and_left, and_right, and_both}
use Rattle.extents.specs.declared.Row.{Row}
use Rattle.extents.specs.Lawful.{row_end, in_row, row_lawful, each_lawful, clear, apart, lawful, holders, Lawful}
use Rattle.extents.proofs.OneRow.{in_row_lem, in_row_if}

-- one of two clear rows has the position, so the other hasn't
not_both : (p : ℕ) (r q : Row) → clear r q ≡ true → in_row p r ≡ true → in_row p q ≡ false
not_both p r q e h = split (λ (t : Bool). t ≡ false) (in_row p q) (λ g. absurd (go (leb (row_end r) q.fileoffset) refl (in_row_lem p r h) (in_row_lem p q g))) (λ g. refl)
  where
    go : (t : Bool) → leb (row_end r) q.fileoffset ≡ t → (r.fileoffset ≤ p) × (p < row_end r) → (q.fileoffset ≤ p) × (p < row_end q) → ⊥
    go true f a b = let z = leb-true (row_end r) q.fileoffset f in omega arith
    go false f a b =
        let y : leb (row_end q) r.fileoffset ≡ true = rw f at e in
        let z = leb-true (row_end q) r.fileoffset y in
        omega arith

no_holder : (p : ℕ) (r : Row) (rows : List Row) → every (clear r) rows ≡ true → in_row p r ≡ true → holders p rows ≡ 0
unfolding holders
no_holder p r [] e h = refl
no_holder p r (q ∷ rows) e h =
    rw (not_both p r q (and_left _ _ e) h, no_holder p r rows (and_right (clear r q) _ e) h)

pub apart_unshared : (rows : List Row) → apart rows ≡ true → (p : ℕ) → holders p rows ≤ 1
unfolding apart holders
apart_unshared [] e p = omega arith
apart_unshared (r ∷ rows) e p =
    let a = and_left (every (clear r) rows) (apart rows) e in
    let next = apart_unshared rows (and_right (every (clear r) rows) (apart rows) e) p in
    split (λ (t : Bool). cond t 1 0 + holders p rows ≤ 1) (in_row p r) (λ h. omega (arith, no_holder p r rows a h)) (λ h. omega arith)

-- two rows of at least a byte that no position shares are clear of each other: the later begin would be shared
unshared_clear : (r q : Row) → 0 < r.bytecount → 0 < q.bytecount → ((p : ℕ) → in_row p r ≡ true → in_row p q ≡ true → ⊥) → clear r q ≡ true
unshared_clear r q m n f = go (leb (row_end r) q.fileoffset) refl (leb (row_end q) r.fileoffset) refl
  where
    go : (t : Bool) → leb (row_end r) q.fileoffset ≡ t → (u : Bool) → leb (row_end q) r.fileoffset ≡ u → (t || u) ≡ true
    go true e u g = refl
    go false e true g = refl
    go false e false g =
        let a = leb-false (row_end r) q.fileoffset e in
        let b = leb-false (row_end q) r.fileoffset g in
        let p : ℕ = max r.fileoffset q.fileoffset in
        absurd (f p (in_row_if p r (omega arith) (omega arith)) (in_row_if p q (omega arith) (omega arith)))

some_byte : (L B : ℕ) (r : Row) → row_lawful L B r ≡ true → 0 < r.bytecount
unfolding row_lawful
some_byte L B r e = leb-true 1 r.bytecount (and_left _ _ (and_left _ _ (and_left _ _ e)))

clear_of_all : (L B : ℕ) (r : Row) (rows : List Row) → 0 < r.bytecount → each_lawful L B rows ≡ true → ((p : ℕ) → in_row p r ≡ true → holders p rows ≡ 0)
    → every (clear r) rows ≡ true
unfolding holders
clear_of_all L B r [] m e f = refl
clear_of_all L B r (q ∷ rows) m e f =
    and_both _ _ (unshared_clear r q m (some_byte L B q (and_left _ _ e)) first)
    (clear_of_all L B r rows m (and_right (row_lawful L B q) _ e) (λ p h. omega (arith, f p h)))
  where
    first : (p : ℕ) → in_row p r ≡ true → in_row p q ≡ true → ⊥
    first p h g = let z : 1 + holders p rows ≡ 0 = rw g at (f p h) in omega arith

pub unshared_apart : (L B : ℕ) (rows : List Row) → each_lawful L B rows ≡ true → ((p : ℕ) → holders p rows ≤ 1) → apart rows ≡ true
unfolding apart holders
unshared_apart L B [] e f = refl
unshared_apart L B (r ∷ rows) e f =
    and_both _ _ (clear_of_all L B r rows (some_byte L B r (and_left _ _ e)) (and_right (row_lawful L B r) _ e) others)
    (unshared_apart L B rows (and_right (row_lawful L B r) _ e) (λ p. omega (arith, f p)))
  where
    others : (p : ℕ) → in_row p r ≡ true → holders p rows ≡ 0
    others p h = let z : 1 + holders p rows ≤ 1 = rw h at (f p) in omega arith

pub lawful_each : (L B : ℕ) (rows : List Row) → lawful L B rows ≡ true → each_lawful L B rows ≡ true
unfolding lawful
lawful_each L B rows e = and_left _ _ e

pub lawful_means : (L B : ℕ) (rows : List Row) → (lawful L B rows ≡ true) ↔ Lawful L B rows
unfolding lawful
lawful_means L B rows = (
  λ e. record { each = lawful_each L B rows e; unshared = apart_unshared rows (and_right (each_lawful L B rows) _ e) },
  λ h. and_both _ _ h.each (unshared_apart L B rows h.each h.unshared),
)
