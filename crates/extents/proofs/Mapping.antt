-- The byte map's answers: rows by their numbers, and the place that the first row with the position tells.
use Rattle.std.specs.Prelude.{None, Some, Ok}
use mathlib.Core.Path.{◌≡◌, refl}
use mathlib.Core.Bool.{Bool, true, false, cond}
use mathlib.Core.List.{List, [], ◌∷◌}
use Prim.Native.Nat.{ℕ, zero, suc, ◌+◌, ◌%◌, ◌<◌, ◌≤◌}
use native.Mathlib.Nat.{not-suc-le-zero, le_of_suc-le-suc}
use native.Mathlib.Omega.{arith}
use borrow.Author.Tests.{le-leb, eq-eqb}
use lib.Dec.{ltb}
use lib.ListN.{length, get_or}
use Rattle.std.specs.List.{find}
use Rattle.std.specs.Option.{option_map}
use Rattle.slices.specs.Slices.{every}
use Rattle.slices.proofs.Booleans.{split, and_left, and_right}
use Rattle.refusals.specs.Refusals.{require}
use Rattle.refusals.specs.declared.Refusal.TheVariants.{Missing}
use Rattle.quantities.specs.Sizes.{is_block_size}
use Rattle.extents.specs.declared.Row.{Row}
use Rattle.extents.specs.Rows.{numbers_of}
use Rattle.extents.specs.Lawful.{in_row, lawful, holders}
use Rattle.extents.specs.Map.{byte_in_row, byte_at, lettered, byte_map}
use Rattle.extents.proofs.Rows.{rows_numbers, length_numbers}

-- rows by their numbers, where each test passes
pub numbers_mapped : (rows : List Row) (L B p : ℕ) → is_block_size B ≡ true → lettered rows ≡ true → length rows ≤ 1024 → lawful L B rows ≡ true
    → byte_map (numbers_of rows) L B p ≡ require (ltb p L) Missing (Ok (byte_at B p rows))
unfolding byte_map
numbers_mapped rows L B p size letters few law =
    let fives : length (numbers_of rows) % 5 ≡ 0 = omega (arith, length_numbers rows) in
    rw (rows_numbers rows, size, letters, eq-eqb (length (numbers_of rows) % 5) 0 fives, le-leb (length rows) 1024 few, law)

-- of rows, the first one that has the position
pub place_found : (B p : ℕ) (rows : List Row) → byte_at B p rows ≡ option_map (byte_in_row B p) (find (in_row p) rows)
unfolding byte_at
place_found B p [] = refl
place_found B p (r ∷ rows) =
    split (λ t. cond t (Some (byte_in_row B p r)) (byte_at B p rows) ≡ option_map (byte_in_row B p) (cond t (Some r) (find (in_row p) rows))) (in_row p r)
    (λ h. refl) (λ h. place_found B p rows)

-- passes that test, and each that all rows pass
pub found_passes : (test each : Row → Bool) (rows : List Row) {r : Row} → find test rows ≡ Some r → every each rows ≡ true → (test r ≡ true) × (each r ≡ true)
found_passes test each [] e h = cc
found_passes test each (q ∷ rows) {r} e h =
    split (λ t. cond t (Some q) (find test rows) ≡ Some r → (test r ≡ true) × (each r ≡ true)) (test q)
    (λ t g. let z : q ≡ r = cc in rw (← z) (t, and_left (each q) (every each rows) h))
    (λ t g. found_passes test each rows g (and_right (each q) (every each rows) h)) e

-- the paper's two sentences: in a row, by that row, whichever it is; in no row, not stored
module _ (d : Row) (B p : ℕ) where
  held : (rows : List Row) (i : ℕ) → i < length rows → in_row p (get_or rows i d) ≡ true → 1 ≤ holders p rows
  unfolding holders
  held [] i h e = absurd (not-suc-le-zero h)
  held (r ∷ rows) zero h e = rw e (omega arith)
  held (r ∷ rows) (suc i) h e = omega (arith, held rows i (le_of_suc-le-suc h) e)

  pub place_in_row : (rows : List Row) (i : ℕ) → i < length rows → in_row p (get_or rows i d) ≡ true → holders p rows ≤ 1 → byte_at B p rows ≡ Some (byte_in_row B p (get_or rows i d))
  unfolding byte_at holders
  place_in_row [] i h e u = absurd (not-suc-le-zero h)
  place_in_row (r ∷ rows) zero h e u = rw e
  place_in_row (r ∷ rows) (suc i) h e u = go (in_row p r) refl (place_in_row rows i g e)
    where
      g : i < length rows
      g = le_of_suc-le-suc h

      go : (t : Bool) → in_row p r ≡ t → (holders p rows ≤ 1 → byte_at B p rows ≡ Some (byte_in_row B p (get_or rows i d)))
          → cond t (Some (byte_in_row B p r)) (byte_at B p rows) ≡ Some (byte_in_row B p (get_or rows i d))
      go true f next = let z : 1 + holders p rows ≤ 1 = rw f at u in absurd (omega (arith, held rows i g e))
      go false f next = next (omega (arith, u))

pub place_in_none : (B p : ℕ) (rows : List Row) → holders p rows ≡ 0 → byte_at B p rows ≡ None
unfolding byte_at holders
place_in_none B p [] e = refl
place_in_none B p (r ∷ rows) e = go (in_row p r) refl (place_in_none B p rows)
  where
    go : (t : Bool) → in_row p r ≡ t → (holders p rows ≡ 0 → byte_at B p rows ≡ None) → cond t (Some (byte_in_row B p r)) (byte_at B p rows) ≡ None
    go true f next = let z : 1 + holders p rows ≡ 0 = rw f at e in absurd (omega arith)
    go false f next = next (omega (arith, e))
