-- The element at a place, alone: none for the place 0, else its head and its children.
use mathlib.Core.Path.{◌≡◌, refl, ap, sym}
use mathlib.Core.Bool.{Bool, true, false, not}
use mathlib.Core.List.{List}
use Prim.Native.Nat.{ℕ, ◌≤◌}
use borrow.Author.Tests.{eq-eqb, ne_eqb, eqb-true, eqb-false, ltb-true, ltb-false}
use lib.Dec.{eqb, ltb}
use lib.ListN.{length, drop, get_or, replicate, get_or-replicate, get_or-eq_default}
use Rattle.xml.specs.Tree.{none, node}
use Rattle.elements.specs.Tags.{tags_in}
use Rattle.elements.specs.Reading.{head_at, children_at, has_element}
use Rattle.elements.proofs.ByTag.{place_kept}
use Rattle.children.specs.Children.{at_most_one, text_of_first, children_of_first}
use Rattle.children.specs.Places.{first_place}
use Rattle.children.specs.RowSteps.{seat, tag_seat}

module _ (s : List ℕ) (n : ℕ) where
  pub seat_none : n ≡ 0 → seat s n ≡ none
  unfolding seat
  seat_none e = rw (eq-eqb _ _ e)

  pub seat_some : (n ≡ 0 → ⊥) → seat s n ≡ node (head_at s n) (children_at s n) none
  unfolding seat
  seat_some e = rw (ne_eqb _ _ e)

  pub row_seat : has_element (seat s n) ≡ not (eqb n 0)
  unfolding has_element
  row_seat = go (eqb n 0) refl
    where
      go : (t : Bool) → eqb n 0 ≡ t → has_element (seat s n) ≡ not t
      go true e = ap has_element (seat_none (eqb-true _ _ e))
      go false e = ap has_element (seat_some (eqb-false _ _ e))

  pub one_seat : at_most_one (seat s n) ≡ true
  unfolding at_most_one has_element
  one_seat = go (eqb n 0) refl
    where
      go : (t : Bool) → eqb n 0 ≡ t → at_most_one (seat s n) ≡ true
      go true e = ap at_most_one (seat_none (eqb-true _ _ e))
      go false e = ap at_most_one (seat_some (eqb-false _ _ e))

  pub tag_none : n ≡ 0 → tag_seat s n ≡ none
  unfolding tag_seat
  tag_none e = rw (eq-eqb _ _ e)

  pub tag_some : (n ≡ 0 → ⊥) → tag_seat s n ≡ node (drop n s) (tags_in (drop n s)) none
  unfolding tag_seat
  tag_some e = rw (ne_eqb _ _ e)

  -- the place of the tag there
  pub tag_place : n ≤ length s → n ≡ first_place s (tag_seat s n)
  tag_place h = go (eqb n 0) refl
    where
      go : (t : Bool) → eqb n 0 ≡ t → n ≡ first_place s (tag_seat s n)
      go true e = rw (tag_none (eqb-true _ _ e)) (eqb-true _ _ e)
      go false e = rw (tag_some (eqb-false _ _ e)) (sym (place_kept s n h))

  pub seat_text : (n ≡ 0 → ⊥) → text_of_first (seat s n) ≡ (head_at s n).text
  unfolding text_of_first
  seat_text e = ap text_of_first (seat_some e)

  pub seat_children : (n ≡ 0 → ⊥) → children_of_first (seat s n) ≡ children_at s n
  unfolding children_of_first
  seat_children e = ap children_of_first (seat_some e)

-- no seat is taken
pub no_seats : (k : ℕ) → get_or {A = ℕ} (replicate 16 0) k 0 ≡ 0
no_seats k = go (ltb k 16) refl
  where
    go : (t : Bool) → ltb k 16 ≡ t → get_or {A = ℕ} (replicate 16 0) k 0 ≡ 0
    go true e = get_or-replicate 16 k 0 0 (ltb-true k 16 e)
    go false e = get_or-eq_default {A = ℕ} (replicate 16 0) 0 (ltb-false k 16 e)
