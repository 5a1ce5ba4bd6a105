-- A table of which the first n rules count: a name whose rule comes later has none.
use mathlib.Core.Path.{◌≡◌, refl, ap, ◌∙◌}
use mathlib.Core.Bool.{Bool, true, false, ◌&&◌, and-false}
use mathlib.Core.List.{List, [], ◌∷◌}
use Prim.Native.Nat.{ℕ, zero, suc, ◌<◌, ◌≤◌}
use native.Mathlib.Omega.{arith}
use native.Mathlib.Nat.{not-suc-le-zero, le_of_suc-le-suc}
use borrow.Author.Tests.{ne_eqb, ltb-true, ltb-false}
use lib.Dec.{ltb}
use lib.ListN.{length, take}
use Rattle.slices.specs.Slices.{same}
use Rattle.slices.proofs.Booleans.{and_left, and_right}
use Rattle.xml.specs.Tree.{Head, Forest, none, node}
use Rattle.elements.specs.Reading.{has_element}
use Rattle.children.specs.Rules.{Rule, rule_number, mark_of}
use Rattle.children.specs.Children.{no_attribute, may_hold, matching, all_known, pick, at_most_one, below, lawful_children}
use Rattle.children.proofs.Below.{below_false}
use Rattle.children.proofs.Tables.{known}

pub place_counted : (n : ℕ) (rs : List Rule) (w : List ℕ) → rule_number rs w < n → rule_number (take n rs) w ≡ rule_number rs w
unfolding rule_number
place_counted zero rs w h = absurd (not-suc-le-zero h)
place_counted (suc n) [] w h = refl
place_counted (suc n) (r ∷ rs) w h = go (same r.name w) refl (place_counted n rs w) h
  where
    go : (t : Bool) → same r.name w ≡ t → (rule_number rs w < n → rule_number (take n rs) w ≡ rule_number rs w) → rule_number (r ∷ rs) w < suc n
        → rule_number (take (suc n) (r ∷ rs)) w ≡ rule_number (r ∷ rs) w
    go true e i g = simp e
    go false e i g = let z : rule_number rs w < n = le_of_suc-le-suc (simp e at g) in simp e (ap suc (i z))

pub mark_counted : (n : ℕ) (rs : List Rule) (w : List ℕ) → rule_number rs w < n → mark_of (take n rs) w ≡ mark_of rs w
unfolding rule_number mark_of
mark_counted zero rs w h = absurd (not-suc-le-zero h)
mark_counted (suc n) [] w h = refl
mark_counted (suc n) (r ∷ rs) w h = go (same r.name w) refl (mark_counted n rs w) h
  where
    go : (t : Bool) → same r.name w ≡ t → (rule_number rs w < n → mark_of (take n rs) w ≡ mark_of rs w) → rule_number (r ∷ rs) w < suc n
        → mark_of (take (suc n) (r ∷ rs)) w ≡ mark_of (r ∷ rs) w
    go true e i g = simp e
    go false e i g = let z : rule_number rs w < n = le_of_suc-le-suc (simp e at g) in simp e (i z)

pub mark_uncounted : (n : ℕ) (rs : List Rule) (w : List ℕ) → n ≤ rule_number rs w → mark_of (take n rs) w ≡ 0
unfolding rule_number mark_of
mark_uncounted zero rs w h = refl
mark_uncounted (suc n) [] w h = absurd (not-suc-le-zero h)
mark_uncounted (suc n) (r ∷ rs) w h = go (same r.name w) refl (mark_uncounted n rs w) h
  where
    go : (t : Bool) → same r.name w ≡ t → (n ≤ rule_number rs w → mark_of (take n rs) w ≡ 0) → suc n ≤ rule_number (r ∷ rs) w → mark_of (take (suc n) (r ∷ rs)) w ≡ 0
    go true e i g = absurd (not-suc-le-zero (simp e at g))
    go false e i g = let z : n ≤ rule_number rs w = le_of_suc-le-suc (simp e at g) in simp e (i z)

-- what an element may hold by those rules
module _ (n : ℕ) (rs : List Rule) (h : Head) (k : Forest) where
  pub late : n ≤ rule_number rs h.name → (no_attribute h && may_hold (mark_of (take n rs) h.name) h k) ≡ false
  unfolding may_hold
  late g = ap (λ (m : ℕ). no_attribute h && may_hold m h k) (mark_uncounted n rs h.name g) ∙ and-false (no_attribute h)

  pub early : rule_number rs h.name < n → (no_attribute h && may_hold (mark_of (take n rs) h.name) h k) ≡ (no_attribute h && may_hold (mark_of rs h.name) h k)
  early g = ap (λ (m : ℕ). no_attribute h && may_hold m h k) (mark_counted n rs h.name g)

  pub unfit : (no_attribute h && may_hold (mark_of rs h.name) h k) ≡ false → (no_attribute h && may_hold (mark_of (take n rs) h.name) h k) ≡ false
  unfit e = go (ltb (rule_number rs h.name) n) refl
    where
      go : (t : Bool) → ltb (rule_number rs h.name) n ≡ t → (no_attribute h && may_hold (mark_of (take n rs) h.name) h k) ≡ false
      go true q = early (ltb-true _ _ q) ∙ e
      go false q = late (ltb-false _ _ q)

-- where every element has a rule, none has a number past the last
no_more : (rs : List Rule) (f : Forest) → all_known rs f ≡ true → pick rs (length rs) f ≡ none
unfolding all_known matching
no_more rs none e = refl
no_more rs (node h k f) e =
    let own : (no_attribute h && may_hold (mark_of rs h.name) h k) ≡ true = and_left (no_attribute h && may_hold (mark_of rs h.name) h k) (all_known rs f) e in
    let p : rule_number rs h.name < length rs = known rs h.name h k own in
    rw (ne_eqb (rule_number rs h.name) (length rs) (λ z. omega arith)) (no_more rs f (and_right (no_attribute h && may_hold (mark_of rs h.name) h k) (all_known rs f) e))

-- more required rules than there are
pub too_many : (rs : List Rule) (must : ℕ) (f : Forest) → length rs < must → lawful_children rs must f ≡ false
unfolding lawful_children has_element
too_many rs must f h = go (all_known rs f) refl
  where
    last : (a b c : Bool) → c ≡ false → (a && b && c) ≡ false
    last true true c e = e
    last true false c e = refl
    last false b c e = refl

    go : (t : Bool) → all_known rs f ≡ t → lawful_children rs must f ≡ false
    go false e = rw e
    go true e =
        last (all_known rs f) (below (length rs) (λ k. at_most_one (pick rs k f))) (below must (λ k. has_element (pick rs k f)))
        (below_false (λ k. has_element (pick rs k f)) must (length rs) h (ap has_element (no_more rs f e)))
