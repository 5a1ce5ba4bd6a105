-- The next element of a row, by the rule that was found for its name: the row is not lawful, or the element's place is noted.
use mathlib.Core.Path.{◌≡◌, ap, ◌∙◌, sym, subst}
use mathlib.Core.Bool.{Bool, true, false, ◌&&◌, and-false}
use mathlib.Core.List.{List}
use Prim.Native.Nat.{ℕ, ◌<◌, ◌≤◌}
use native.Mathlib.Omega.{arith}
use lib.ListN.{length, take, get_or, set, length-set}
use Rattle.std.specs.Prelude.{Option, None, Some}
use Rattle.elements.specs.Reading.{head_at, children_at}
use Rattle.elements.specs.TagSteps.{FirstOf}
use Rattle.children.specs.Rules.{Rule, rule_number, mark_of}
use Rattle.children.specs.Children.{no_attribute, may_hold}
use Rattle.children.specs.RowSteps.{FindsRule, ReadsRow}
use Rattle.children.specs.declared.RuleFound.{RuleFound}
use Rattle.children.proofs.Tables.{known}
use Rattle.children.proofs.Counted.{place_counted, late, early, unfit}
use Rattle.children.proofs.Passed.{Passed, unknown_next, twice_next, pass_next}

-- whether the element at n may stand where its rule has a mark
abbrev fits : List ℕ → ℕ → ℕ → Bool
fits s n mark = no_attribute (head_at s n) && may_hold mark (head_at s n) (children_at s n)

unmarked : (s : List ℕ) (n mark : ℕ) → mark ≡ 0 → fits s n mark ≡ false
unfolding may_hold
unmarked s n mark e = ap (fits s n) e ∙ and-false (no_attribute (head_at s n))

-- of the row at i the elements before j are passed, the next is the one at n, and the row goes on at j'; of the rules the first 16 count
module _ (rs : List Rule) (must : ℕ) {s : List ℕ} {i j j' n : ℕ} {seats : List ℕ} (p : Passed s (take 16 rs) i j seats) (first : FirstOf s j n j')
    {name : List ℕ} (named : name ≡ (head_at s n).name) where
  of_own : (r : Option RuleFound) → FindsRule rs name r → FindsRule rs (head_at s n).name r
  of_own r = subst (λ (w : List ℕ). FindsRule rs w r) named

  pub unruled : FindsRule rs name None → ReadsRow s i (take 16 rs) must None
  unruled found =
      unknown_next s (take 16 rs) i j j' seats n p first must (unfit 16 rs (head_at s n) (children_at s n) (unmarked s n _ (of_own None found).1))

  module _ {r : RuleFound} (found : FindsRule rs name (Some r)) where
    number : r.number ≡ rule_number rs (head_at s n).name
    number = (of_own (Some r) found).0

    by_mark : fits s n (mark_of rs (head_at s n).name) ≡ fits s n r.mark
    by_mark = ap (fits s n) (sym (of_own (Some r) found).1)

    pub uncounted : 16 ≤ r.number → ReadsRow s i (take 16 rs) must None
    uncounted h = unknown_next s (take 16 rs) i j j' seats n p first must (late 16 rs (head_at s n) (children_at s n) (omega (arith, number, h)))

    pub unfitting : fits s n r.mark ≡ false → ReadsRow s i (take 16 rs) must None
    unfitting e = unknown_next s (take 16 rs) i j j' seats n p first must (unfit 16 rs (head_at s n) (children_at s n) (by_mark ∙ e))

    module _ (h : r.number < 16) (e : fits s n r.mark ≡ true) where
      few : rule_number rs (head_at s n).name < 16
      few = omega (arith, number, h)

      counted : r.number ≡ rule_number (take 16 rs) (head_at s n).name
      counted = number ∙ sym (place_counted 16 rs (head_at s n).name few)

      fitting : fits s n (mark_of (take 16 rs) (head_at s n).name) ≡ true
      fitting = early 16 rs (head_at s n) (children_at s n) few ∙ by_mark ∙ e

      pub twice : (get_or seats r.number 0 ≡ 0 → ⊥) → ReadsRow s i (take 16 rs) must None
      twice q =
          twice_next s (take 16 rs) i j j' seats n p first must r.number counted
          (subst (λ (k : ℕ). k < length (take 16 rs)) (sym counted) (known (take 16 rs) (head_at s n).name (head_at s n) (children_at s n) fitting)) q

      pub noted_there : length seats ≡ 16 → get_or seats r.number 0 ≡ 0 → (length (set seats r.number n) ≡ 16) × Passed s (take 16 rs) i j' (set seats r.number n)
      noted_there l q =
          (length-set seats r.number n ∙ l, pass_next s (take 16 rs) i j j' seats n p first r.number counted (omega (arith, l, h)) q fitting)
