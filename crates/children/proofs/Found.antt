-- In a lawful row each required child stands at its seat: its text and its children are those of the element there.
use mathlib.Core.Path.{◌≡◌, refl, ap, ◌∙◌, sym}
use mathlib.Core.Bool.{Bool, true, false, not, ◌&&◌, false≢true}
use mathlib.Core.List.{List}
use Prim.Native.Nat.{ℕ, zero, suc, ◌<◌}
use native.Mathlib.Omega.{arith}
use native.Mathlib.Nat.{not-suc-le-zero}
use borrow.Author.Tests.{eq-eqb, eqb-true, eqb-false}
use lib.Dec.{eqb}
use lib.ListN.{length, drop, get_or}
use Rattle.slices.proofs.Booleans.{and_left, and_right}
use Rattle.xml.specs.Tree.{Forest, none, node}
use Rattle.elements.specs.Tags.{Tags, tags_in, text_place}
use Rattle.elements.specs.Reading.{head_at, children_at, has_element}
use Rattle.children.specs.Rules.{Rule}
use Rattle.children.specs.Children.{all_known, pick, at_most_one, below, lawful_children, only, text_of_first, children_of_first}
use Rattle.children.specs.Places.{tags_named, first_text}
use Rattle.children.specs.RowSteps.{Seated, PlacedSeats}
use Rattle.children.proofs.Named.{name_of, fresh, pick_only, tags_only}
use Rattle.children.proofs.Seats.{row_seat, tag_some, seat_text, seat_children}

pub below_at : (test : ℕ → Bool) (n k : ℕ) → below n test ≡ true → k < n → test k ≡ true
unfolding below
below_at test zero k e h = absurd (not-suc-le-zero h)
below_at test (suc n) k e h = go (eqb k n) refl (below_at test n k (and_right (test n) (below n test) e))
  where
    go : (t : Bool) → eqb k n ≡ t → (k < n → test k ≡ true) → test k ≡ true
    go true q r = ap test (eqb-true k n q) ∙ and_left (test n) (below n test) e
    go false q r = r (omega (arith, eqb-false k n q))

module _ {s : List ℕ} {rs : List Rule} {must : ℕ} {f : Forest} {seats : List ℕ} (row : Seated s rs must f seats)
    (k : ℕ) (h : k < must) (new : fresh rs k ≡ true) where
  here : has_element (pick rs k f) ≡ true
  unfolding lawful_children
  here = below_at (λ j. has_element (pick rs j f)) must k (and_right (all_known rs f && below (length rs) (λ j. at_most_one (pick rs j f))) (below must (λ j. has_element (pick rs j f))) row.lawful) h

  there : get_or seats k 0 ≡ 0 → ⊥
  there e = false≢true (ap not (sym (eq-eqb _ _ e)) ∙ sym (row_seat s (get_or seats k 0)) ∙ sym (ap has_element (row.found k)) ∙ here)

  pub found_text : text_of_first (only (name_of rs k) f) ≡ (head_at s (get_or seats k 0)).text
  found_text = ap text_of_first (sym (pick_only rs k new f) ∙ row.found k) ∙ seat_text s (get_or seats k 0) there

  pub found_children : children_of_first (only (name_of rs k) f) ≡ children_at s (get_or seats k 0)
  found_children = ap children_of_first (sym (pick_only rs k new f) ∙ row.found k) ∙ seat_children s (get_or seats k 0) there

  -- and it is the tag there
  module _ {g : Tags} (stand : PlacedSeats s rs g seats) where
    pub found_tag : tags_named (name_of rs k) g ≡ node (drop (get_or seats k 0) s) (tags_in (drop (get_or seats k 0) s)) none
    found_tag = sym (tags_only rs k new g) ∙ stand.tags k ∙ tag_some s (get_or seats k 0) there

    pub found_place : first_text s (tags_named (name_of rs k) g) ≡ text_place s (drop (get_or seats k 0) s)
    found_place = ap (first_text s) found_tag
