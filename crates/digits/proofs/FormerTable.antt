-- The ranges tell of every byte what a table of 256 entries told before them (02, Item 10). Its numbers are kept here as they stood in the
-- code, so that they are compared with the ranges, and not the ranges with themselves.
use mathlib.Core.Path.{◌≡◌, refl, sym, ap, ◌∙◌}
use mathlib.Core.Bool.{Bool, true, false, not, cond, ◌&&◌}
use mathlib.Core.List.{List, [], ◌∷◌}
use Prim.Native.Nat.{ℕ, zero, suc, ◌+◌, ◌<◌}
use native.Mathlib.Nat.{zero-add, add-suc, suc-add, add-zero, not-suc-le-zero, le_of_suc-le-suc}
use borrow.Author.Tests.{eqb-true}
use lib.Dec.{ltb, eqb}
use lib.ListN.{length, get_or}
use Rattle.slices.proofs.Booleans.{and_left, and_right}
use Rattle.digits.specs.Hex.{is_hex, hex_value}

-- what each byte counts as a hex digit, 255 for a byte that is none
unfoldable pub table : List ℕ
table =
    255 ∷ 255 ∷ 255 ∷ 255 ∷ 255 ∷ 255 ∷ 255 ∷ 255 ∷ 255 ∷ 255 ∷ 255 ∷ 255 ∷ 255 ∷ 255 ∷ 255 ∷ 255 ∷
    255 ∷ 255 ∷ 255 ∷ 255 ∷ 255 ∷ 255 ∷ 255 ∷ 255 ∷ 255 ∷ 255 ∷ 255 ∷ 255 ∷ 255 ∷ 255 ∷ 255 ∷ 255 ∷
    255 ∷ 255 ∷ 255 ∷ 255 ∷ 255 ∷ 255 ∷ 255 ∷ 255 ∷ 255 ∷ 255 ∷ 255 ∷ 255 ∷ 255 ∷ 255 ∷ 255 ∷ 255 ∷
    0 ∷ 1 ∷ 2 ∷ 3 ∷ 4 ∷ 5 ∷ 6 ∷ 7 ∷ 8 ∷ 9 ∷ 255 ∷ 255 ∷ 255 ∷ 255 ∷ 255 ∷ 255 ∷
    255 ∷ 10 ∷ 11 ∷ 12 ∷ 13 ∷ 14 ∷ 15 ∷ 255 ∷ 255 ∷ 255 ∷ 255 ∷ 255 ∷ 255 ∷ 255 ∷ 255 ∷ 255 ∷
    255 ∷ 255 ∷ 255 ∷ 255 ∷ 255 ∷ 255 ∷ 255 ∷ 255 ∷ 255 ∷ 255 ∷ 255 ∷ 255 ∷ 255 ∷ 255 ∷ 255 ∷ 255 ∷
    255 ∷ 10 ∷ 11 ∷ 12 ∷ 13 ∷ 14 ∷ 15 ∷ 255 ∷ 255 ∷ 255 ∷ 255 ∷ 255 ∷ 255 ∷ 255 ∷ 255 ∷ 255 ∷
    255 ∷ 255 ∷ 255 ∷ 255 ∷ 255 ∷ 255 ∷ 255 ∷ 255 ∷ 255 ∷ 255 ∷ 255 ∷ 255 ∷ 255 ∷ 255 ∷ 255 ∷ 255 ∷
    255 ∷ 255 ∷ 255 ∷ 255 ∷ 255 ∷ 255 ∷ 255 ∷ 255 ∷ 255 ∷ 255 ∷ 255 ∷ 255 ∷ 255 ∷ 255 ∷ 255 ∷ 255 ∷
    255 ∷ 255 ∷ 255 ∷ 255 ∷ 255 ∷ 255 ∷ 255 ∷ 255 ∷ 255 ∷ 255 ∷ 255 ∷ 255 ∷ 255 ∷ 255 ∷ 255 ∷ 255 ∷
    255 ∷ 255 ∷ 255 ∷ 255 ∷ 255 ∷ 255 ∷ 255 ∷ 255 ∷ 255 ∷ 255 ∷ 255 ∷ 255 ∷ 255 ∷ 255 ∷ 255 ∷ 255 ∷
    255 ∷ 255 ∷ 255 ∷ 255 ∷ 255 ∷ 255 ∷ 255 ∷ 255 ∷ 255 ∷ 255 ∷ 255 ∷ 255 ∷ 255 ∷ 255 ∷ 255 ∷ 255 ∷
    255 ∷ 255 ∷ 255 ∷ 255 ∷ 255 ∷ 255 ∷ 255 ∷ 255 ∷ 255 ∷ 255 ∷ 255 ∷ 255 ∷ 255 ∷ 255 ∷ 255 ∷ 255 ∷
    255 ∷ 255 ∷ 255 ∷ 255 ∷ 255 ∷ 255 ∷ 255 ∷ 255 ∷ 255 ∷ 255 ∷ 255 ∷ 255 ∷ 255 ∷ 255 ∷ 255 ∷ 255 ∷
    255 ∷ 255 ∷ 255 ∷ 255 ∷ 255 ∷ 255 ∷ 255 ∷ 255 ∷ 255 ∷ 255 ∷ 255 ∷ 255 ∷ 255 ∷ 255 ∷ 255 ∷ 255 ∷
    255 ∷ 255 ∷ 255 ∷ 255 ∷ 255 ∷ 255 ∷ 255 ∷ 255 ∷ 255 ∷ 255 ∷ 255 ∷ 255 ∷ 255 ∷ 255 ∷ 255 ∷ 255 ∷ []

-- the entries of a list pass a test beside their bytes, from byte b on
unfoldable passes : (ℕ → ℕ → Bool) → ℕ → List ℕ → Bool
passes test b [] = true
passes test b (x ∷ l) = test b x && passes test (suc b) l

module _ (test : ℕ → ℕ → Bool) where
  passes_at : (l : List ℕ) (b k : ℕ) → passes test b l ≡ true → k < length l → test (b + k) (get_or l k 0) ≡ true
  unfolding passes
  passes_at [] b k e h = absurd (not-suc-le-zero h)
  passes_at (x ∷ l) b zero e h = rw (add-zero b) (and_left (test b x) (passes test (suc b) l) e)
  passes_at (x ∷ l) b (suc k) e h =
      ap (λ (n : ℕ). test n (get_or l k 0)) (add-suc b k ∙ sym (suc-add b k))
      ∙ passes_at l (suc b) k (and_right (test b x) (passes test (suc b) l) e) (le_of_suc-le-suc h)

  in_table : passes test 0 table ≡ true → (b : ℕ) → b < 256 → test b (get_or table b 0) ≡ true
  in_table e b h = ap (λ (n : ℕ). test n (get_or table b 0)) (sym (zero-add b)) ∙ passes_at table 0 b e (unfold table in h)

abbrev alike : Bool → Bool → Bool
alike a b = cond a b (not b)

alike_same : (a b : Bool) → alike a b ≡ true → a ≡ b
alike_same true b e = sym e
alike_same false true e = e
alike_same false false e = refl

-- a byte was told a hex digit, by an entry below 16, exactly where the ranges tell it
pub told_as_by_table : (b : ℕ) → b < 256 → is_hex b ≡ ltb (get_or table b 0) 16
told_as_by_table b h =
    alike_same (is_hex b) (ltb (get_or table b 0) 16)
    (in_table (λ (c : ℕ) (x : ℕ). alike (is_hex c) (ltb x 16)) (unfold passes table in refl) b h)

-- and its entry was what it counts, or 255
pub counted_as_by_table : (b : ℕ) → b < 256 → cond (is_hex b) (hex_value b) 255 ≡ get_or table b 0
counted_as_by_table b h =
    eqb-true (cond (is_hex b) (hex_value b) 255) (get_or table b 0)
    (in_table (λ (c : ℕ) (x : ℕ). eqb (cond (is_hex c) (hex_value c) 255) x) (unfold passes table in refl) b h)
