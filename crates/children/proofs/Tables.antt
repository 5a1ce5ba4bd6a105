-- A table of rules, read from its front: the first rule ends with the first mark, and the others follow.
use mathlib.Core.Path.{◌≡◌, refl, ap, ◌∙◌, sym, subst}
use Rattle.std.specs.Prelude.{Option, None, Some}
use Rattle.std.specs.List.{position_or_len}
use mathlib.Core.Bool.{Bool, true, false, cond, ◌&&◌, false≢true}
use borrow.Author.Tests.{ltb-true, ltb-false}
use lib.Dec.{ltb}
use mathlib.Core.List.{List, [], ◌∷◌}
use Prim.Native.Nat.{ℕ, suc, ◌+◌, ◌<◌, ◌≤◌}
use native.Mathlib.Omega.{arith}
use native.Mathlib.Nat.{not-suc-le-zero, le_of_suc-le-suc}
use lib.ListN.{length, take, drop, get_or, length-drop}
use Rattle.slices.specs.Slices.{same}
use Rattle.slices.proofs.Booleans.{and_right}
use Rattle.xml.specs.Tree.{Head, Forest, front}
use Rattle.children.specs.Rules.{Rule, rule_number, mark_of}
use Rattle.children.specs.RowSteps.{is_rule_mark, not_rule_mark, longer, rules, FirstMark, FindsRule}
use Rattle.children.specs.Children.{no_attribute, may_hold}

cut : (s : List ℕ) → front not_rule_mark s < length s
    → rules s ≡ record { name = take (front not_rule_mark s) s; mark = get_or s (front not_rule_mark s) 0 } ∷ rules (drop (suc (front not_rule_mark s)) s)
unfolding rules longer front
cut [] h = absurd (not-suc-le-zero h)
cut (b ∷ s) h = go (is_rule_mark b) refl (cut s) h
  where
    go : (t : Bool) → is_rule_mark b ≡ t
        → (front not_rule_mark s < length s → rules s ≡ record { name = take (front not_rule_mark s) s; mark = get_or s (front not_rule_mark s) 0 } ∷ rules (drop (suc (front not_rule_mark s)) s))
        → front not_rule_mark (b ∷ s) < length (b ∷ s)
        → rules (b ∷ s) ≡ record { name = take (front not_rule_mark (b ∷ s)) (b ∷ s); mark = get_or (b ∷ s) (front not_rule_mark (b ∷ s)) 0 } ∷ rules (drop (suc (front not_rule_mark (b ∷ s))) (b ∷ s))
    go true e r g = simp e
    go false e r g = let z = r (le_of_suc-le-suc (simp e at g)) in simp e (ap (longer b) z)

uncut : (s : List ℕ) → length s ≤ front not_rule_mark s → rules s ≡ []
unfolding rules longer front
uncut [] h = refl
uncut (b ∷ s) h = go (is_rule_mark b) refl (uncut s) h
  where
    go : (t : Bool) → is_rule_mark b ≡ t → (length s ≤ front not_rule_mark s → rules s ≡ []) → length (b ∷ s) ≤ front not_rule_mark (b ∷ s) → rules (b ∷ s) ≡ []
    go true e r g = absurd (not-suc-le-zero (simp e at g))
    go false e r g = simp e (ap (longer b) (r (le_of_suc-le-suc (simp e at g))))

-- the first mark, in the library's words
first_mark : (s : List ℕ) → front not_rule_mark s ≡ position_or_len is_rule_mark s
unfolding front
first_mark [] = refl
first_mark (b ∷ s) = step (not_rule_mark b) _ _ (first_mark s)
  where
    step : (t : Bool) (m n : ℕ) → m ≡ n → cond t (suc m) 0 ≡ cond t (1 + n) 0
    step true m n z = omega arith
    step false m n z = refl

pub mark_position : (s : List ℕ) (r : Option ℕ)
    → r ≡ cond (ltb (position_or_len is_rule_mark s) (length s)) (Some (position_or_len is_rule_mark s)) None → FirstMark s r
mark_position s r e = go (ltb (position_or_len is_rule_mark s) (length s)) refl
  where
    go : (t : Bool) → ltb (position_or_len is_rule_mark s) (length s) ≡ t → FirstMark s r
    go true q = rw (e, q) (sym (first_mark s), ltb-true _ _ q)
    go false q = rw (e, q) (omega (arith, first_mark s, ltb-false _ _ q))

-- where its first mark stands
pub rules_on : (t : List ℕ) (e : ℕ) → FirstMark t (Some e) → rules t ≡ record { name = take e t; mark = get_or t e 0 } ∷ rules (drop (e + 1) t)
rules_on t e found =
    let z : suc e ≡ e + 1 = omega arith in
    subst (λ (m : ℕ). rules t ≡ record { name = take m t; mark = get_or t m 0 } ∷ rules (drop (m + 1) t)) (sym found.0)
    (let y : suc (front not_rule_mark t) ≡ front not_rule_mark t + 1 = omega arith in rw (← y) (cut t (omega (arith, found.0, found.1))))

pub rules_off : (t : List ℕ) → FirstMark t None → rules t ≡ []
rules_off t found = uncut t found

-- the rules before those that are left, k of them, are not for the name w
pub record Searched (rs : List Rule) (w : List ℕ) (k : ℕ) (left : List Rule) : Type 0 where
  pub number : rule_number rs w ≡ k + rule_number left w
  pub mark : mark_of rs w ≡ mark_of left w
  pub count : length rs ≡ k + length left

module _ (rs : List Rule) (w : List ℕ) where
  pub none_searched : Searched rs w 0 rs
  none_searched = record { number = omega arith; mark = refl; count = omega arith }

  module _ (k : ℕ) (left : List Rule) (s : Searched rs w k left) where
    pub searched_more : (r : Rule) (on : List Rule) → left ≡ r ∷ on → same r.name w ≡ false → Searched rs w (k + 1) on
    unfolding rule_number mark_of
    searched_more r on e q =
        let n : rule_number left w ≡ suc (rule_number on w) = ap (λ (l : List Rule). rule_number l w) e ∙ rw q in
        let m : mark_of left w ≡ mark_of on w = ap (λ (l : List Rule). mark_of l w) e ∙ rw q in
        let c : length left ≡ suc (length on) = ap (λ (l : List Rule). length l) e in
        record { number = omega (arith, s.number); mark = s.mark ∙ m; count = omega (arith, s.count) }

    pub searched_hit : (r : Rule) (on : List Rule) → left ≡ r ∷ on → same r.name w ≡ true → FindsRule rs w (Some (record { number = k; mark = r.mark }))
    unfolding rule_number mark_of
    searched_hit r on e q =
        let n : rule_number left w ≡ 0 = ap (λ (l : List Rule). rule_number l w) e ∙ rw q in
        let m : mark_of left w ≡ r.mark = ap (λ (l : List Rule). mark_of l w) e ∙ rw q in
        (omega (arith, s.number), sym (s.mark ∙ m))

    pub searched_all : left ≡ [] → FindsRule rs w None
    unfolding rule_number mark_of
    searched_all e =
        let n : rule_number left w ≡ 0 = ap (λ (l : List Rule). rule_number l w) e in
        let m : mark_of left w ≡ 0 = ap (λ (l : List Rule). mark_of l w) e in
        let c : length left ≡ 0 = ap (λ (l : List Rule). length l) e in
        (omega (arith, s.number, s.count), s.mark ∙ m)

-- the next rule of a table t, of which k rules are passed, and of which s is left
module _ (t w : List ℕ) (k : ℕ) (s : List ℕ) (passed : Searched (rules t) w k (rules s)) (e : ℕ) (found : FirstMark s (Some e)) where
  pub rule_hit : same (take e s) w ≡ true → FindsRule (rules t) w (Some (record { number = k; mark = get_or s e 0 }))
  rule_hit q = searched_hit (rules t) w k (rules s) passed (record { name = take e s; mark = get_or s e 0 }) (rules (drop (e + 1) s)) (rules_on s e found) q

  pub rule_passed : (on : List ℕ) → on ≡ drop (e + 1) s → k + length s ≤ length t → same (take e s) w ≡ false
      → (k + 1 + length on ≤ length t) × Searched (rules t) w (k + 1) (rules on)
  rule_passed on d h q =
      rw d
      (omega (arith, h, found.1, length-drop (e + 1) s), searched_more (rules t) w k (rules s) passed (record { name = take e s; mark = get_or s e 0 }) (rules (drop (e + 1) s)) (rules_on s e found) q)

-- a rule of that mark is in the list, or the mark is 0
listed : (rs : List Rule) (n : List ℕ) → (mark_of rs n ≡ 0 → ⊥) → rule_number rs n < length rs
unfolding rule_number mark_of
listed [] n h = absurd (h refl)
listed (r ∷ rs) n h = go (same r.name n) refl h (listed rs n)
  where
    go : (t : Bool) → same r.name n ≡ t → (mark_of (r ∷ rs) n ≡ 0 → ⊥) → ((mark_of rs n ≡ 0 → ⊥) → rule_number rs n < length rs) → rule_number (r ∷ rs) n < length (r ∷ rs)
    go true e g d = simp e (omega arith)
    go false e g d = let z = d (λ q. g (simp e q)) in simp e (omega arith)

-- what may stand in a row has a rule
pub known : (rs : List Rule) (n : List ℕ) (h : Head) (k : Forest) → (no_attribute h && may_hold (mark_of rs n) h k) ≡ true → rule_number rs n < length rs
unfolding may_hold
known rs n h k e =
    listed rs n (λ z. false≢true (ap (λ (m : ℕ). may_hold m h k) (sym z) ∙ and_right (no_attribute h) (may_hold (mark_of rs n) h k) e))
