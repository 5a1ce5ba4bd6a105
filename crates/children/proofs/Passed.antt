-- A row of which a part is passed: what is known of the elements before, by the place that was noted of each.
use mathlib.Core.Path.{◌≡◌, refl, ap, ◌∙◌, sym}
use mathlib.Core.Bool.{Bool, true, false, not, ◌&&◌}
use mathlib.Core.List.{List}
use Prim.Native.Nat.{ℕ, ◌<◌, ◌≤◌}
use native.Mathlib.Omega.{arith}
use borrow.Author.Tests.{eq-eqb, eqb-true, eqb-false}
use lib.Dec.{eqb}
use lib.ListN.{length, drop, get_or, set}
use lib.Seq.{get_or-set_same, get_or-set_other}
use Rattle.std.specs.Prelude.{None}
use Rattle.std.specs.Bool.{then_some}
use Rattle.xml.specs.Tree.{Forest, none, tag_head}
use Rattle.elements.specs.Tags.{Tags, tags_at, tags_in}
use Rattle.elements.specs.Reading.{forest_at, head_at, children_at, has_element}
use Rattle.elements.specs.TagSteps.{FirstOf}
use Rattle.elements.proofs.ByTag.{no_tags}
use Rattle.children.specs.Rules.{Rule, rule_number, mark_of}
use Rattle.children.specs.Children.{no_attribute, may_hold, matching, all_known, pick, at_most_one, below, lawful_children}
use Rattle.children.specs.Places.{tags_for, first_place}
use Rattle.children.specs.RowSteps.{seat, tag_seat, ReadsRow}
use Rattle.children.proofs.Below.{below_false, below_all, below_ext}
use Rattle.children.proofs.Noted.{join, Noted, noted_none, noted_all, noted_next}
use Rattle.children.proofs.Seats.{seat_none, seat_some, row_seat, one_seat, tag_none, tag_some, tag_place}

module _ (s : List ℕ) (rs : List Rule) where
  abbrev ByHeads : Forest → Forest → List ℕ → Type 0
  ByHeads = Noted (λ h. h.name) rs (seat s) (seat_none s 0 refl)

  abbrev ByTags : Tags → Tags → List ℕ → Type 0
  ByTags = Noted (λ r. (tag_head r).name) rs (tag_seat s) (tag_none s 0 refl)

  -- of the row at i the elements before j are passed, and each one's place is noted at its rule's number
  pub record Passed (i j : ℕ) (seats : List ℕ) : Type 0 where
    pub known : all_known rs (forest_at s i) ≡ all_known rs (forest_at s j)
    pub seated : ByHeads (forest_at s i) (forest_at s j) seats
    pub tagged : ByTags (tags_at s i) (tags_at s j) seats
    pub inside : (k : ℕ) → get_or seats k 0 ≤ length s

  pub none_passed : (i : ℕ) (seats : List ℕ) → ((k : ℕ) → get_or seats k 0 ≡ 0) → Passed i i seats
  none_passed i seats z =
      record {
        known = refl;
        seated = noted_none (λ h. h.name) rs (seat s) (seat_none s 0 refl) (forest_at s i) seats z;
        tagged = noted_none (λ r. (tag_head r).name) rs (tag_seat s) (tag_none s 0 refl) (tags_at s i) seats z;
        inside = λ k. let e = z k in omega arith;
      }

  -- the next element is the one at n, and the row goes on at j'
  module _ (i j j' : ℕ) (seats : List ℕ) (n : ℕ) (p : Passed i j seats) (first : FirstOf s j n j') where
    abbrev named : List ℕ
    named = (head_at s n).name

    abbrev fits : Bool
    fits = no_attribute (head_at s n) && may_hold (mark_of rs named) (head_at s n) (children_at s n)

    pub unknown_next : (must : ℕ) → fits ≡ false → ReadsRow s i rs must None
    unfolding lawful_children all_known
    unknown_next must e =
        let z : all_known rs (forest_at s i) ≡ false = p.known ∙ ap (all_known rs) first.row ∙ rw e in
        rw z

    pub twice_next : (must k : ℕ) → k ≡ rule_number rs named → k < length rs → (get_or seats k 0 ≡ 0 → ⊥) → ReadsRow s i rs must None
    unfolding lawful_children at_most_one join matching has_element
    twice_next must k e h q =
        middle_false (all_known rs (forest_at s i)) _ (below must (λ j. has_element (pick rs j (forest_at s i)))) (below_false (λ (j : ℕ). at_most_one (pick rs j (forest_at s i))) (length rs) k h two)
      where
        middle_false : (a b c : Bool) → b ≡ false → (a && b && c) ≡ false
        middle_false true b c e = rw e
        middle_false false b c e = refl

        two : at_most_one (pick rs k (forest_at s i)) ≡ false
        two =
            ap at_most_one (p.seated.each k ∙ ap (λ (t : Forest). join t (pick rs k (forest_at s j))) (seat_some s _ q))
            ∙ ap (λ (t : Forest). not (has_element (pick rs k t))) first.row ∙ rw (eq-eqb _ _ (sym e))

    pub pass_next : (k : ℕ) → k ≡ rule_number rs named → k < length seats → get_or seats k 0 ≡ 0 → fits ≡ true → Passed i j' (set seats k n)
    unfolding all_known
    pass_next k e h q t =
        let there : n ≡ 0 → ⊥ = λ y. omega (arith, first.place) in
        record {
          known = p.known ∙ ap (all_known rs) first.row ∙ rw t;
          seated = noted_next (λ h. h.name) rs (seat s) (seat_none s 0 refl) (forest_at s i) (forest_at s j) (forest_at s j') (head_at s n) (children_at s n) seats n k p.seated first.row (seat_some s n there) e h q;
          tagged = noted_next (λ r. (tag_head r).name) rs (tag_seat s) (tag_none s 0 refl) (tags_at s i) (tags_at s j) (tags_at s j') (drop n s) (tags_in (drop n s)) seats n k p.tagged first.tags (tag_some s n there) e h q;
          inside = λ m. at m (eqb m k) refl;
        }
      where
        at : (m : ℕ) (b : Bool) → eqb m k ≡ b → get_or (set seats k n) m 0 ≤ length s
        at m true b = rw (eqb-true m k b, get_or-set_same seats k n 0 h) first.place.1
        at m false b = rw (get_or-set_other seats k m n 0 (eqb-false _ _ b)) (p.inside m)

  -- all elements are passed
  module _ (i j : ℕ) (seats : List ℕ) (p : Passed i j seats) (e : forest_at s j ≡ none) where
    all : (k : ℕ) → pick rs k (forest_at s i) ≡ seat s (get_or seats k 0)
    all = noted_all (λ h. h.name) rs (seat s) (seat_none s 0 refl) (forest_at s i) (forest_at s j) seats p.seated e

    all_tags : (k : ℕ) → tags_for rs k (tags_at s i) ≡ tag_seat s (get_or seats k 0)
    all_tags = noted_all (λ r. (tag_head r).name) rs (tag_seat s) (tag_none s 0 refl) (tags_at s i) (tags_at s j) seats p.tagged (no_tags s j e)

    known_all : all_known rs (forest_at s i) ≡ true
    unfolding all_known
    known_all = p.known ∙ ap (all_known rs) e

    one : below (length rs) (λ k. at_most_one (pick rs k (forest_at s i))) ≡ true
    one = below_all (λ k. at_most_one (pick rs k (forest_at s i))) (length rs) (λ k. ap at_most_one (all k) ∙ one_seat s (get_or seats k 0))

    told_all : (must : ℕ) → lawful_children rs must (forest_at s i) ≡ below must (λ k. not (eqb (get_or seats k 0) 0))
    unfolding lawful_children
    told_all must =
        rw (known_all, one)
        (below_ext (λ k. has_element (pick rs k (forest_at s i))) (λ k. not (eqb (get_or seats k 0) 0)) (λ k. ap has_element (all k) ∙ row_seat s (get_or seats k 0)) must)

    pub all_passed : (must : ℕ) (ok : Bool) → ok ≡ below must (λ k. not (eqb (get_or seats k 0) 0)) → ReadsRow s i rs must (then_some ok seats)
    all_passed must true o =
        record {
          row = record { lawful = told_all must ∙ sym o; found = all };
          places = record { tags = all_tags; place = λ k. tag_place s (get_or seats k 0) (p.inside k) ∙ ap (first_place s) (sym (all_tags k)) };
        }
    all_passed must false o = told_all must ∙ sym o
