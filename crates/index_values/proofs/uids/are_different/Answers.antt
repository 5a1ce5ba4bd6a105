-- `are_different` meets its contract. Invariant: those from i on are all different, and none is below low, so one below low is new.
use Rattle.index_values.proofs.Differ.{Above, above_less, not_member, different_drop, step_back, rest, new_first, old_first, above_cons, above_none}
use native.Mathlib.Nat.{le_refl, le_of_lt}
use mathlib.Core.Path.{subst}
use Rattle.index_values.specs.Different.{member, different}
use mathlib.Core.List.{◌∷◌}
use lib.ListN.{drop, get_or}
use Rattle.std.proofs.Math.Seq.{drop-length}
use mathlib.Core.Path.{◌≡◌, sym, ap, ◌∙◌}
use mathlib.Core.Bool.{true, false}
use Prim.Native.Nat.{ℕ, ◌+◌, ◌-◌, ◌<◌}
use native.Mathlib.Omega.{arith}
use Rattle.index_values.proofs.uids.are_different.Goals as goal

pub loop-i-init : goal.loop-i-init
unfolding different
loop-i-init c =
    let s = c.args.t.now in
    let o = drop-length s in
    (ap different o, subst (Above 18446744073709551615) (sym o) (above_none 18446744073709551615))

pub loop-i-preserved-then-x-low : goal.loop-i-preserved-then-x-low
loop-i-preserved-then-x-low c =
    let l = c.loop-i in
    let s = c.args.t.now in
    let D = drop l.i s in
    let x = get_or s (l.i - 1) 0 in
    let b : drop (l.i - 1) s ≡ x ∷ D = step_back s l.i (omega arith) (omega arith) in
    let lt : x < l.low = c.if-x-low.true in (
      ap different b ∙ new_first x D (not_member l.low x D lt l.invariant.1) l.invariant.0,
      subst (Above x) (sym b) (above_cons x D (le_refl x) (above_less l.low x D (le_of_lt lt) l.invariant.1)),
    )

pub returns-then-among : goal.returns-then-among
returns-then-among c =
    let l = c.loop-i in
    let s = c.args.t.now in
    let D = drop l.i s in
    let x = get_or s (l.i - 1) 0 in
    let b : drop (l.i - 1) s ≡ x ∷ D = step_back s l.i (omega arith) (omega arith) in
    let one : l.i ≡ l.i - 1 + 1 = omega arith in
    let m : member x D ≡ true = ap (member x) (ap (λ (k : ℕ). drop k s) one ∙ rest s (l.i - 1 + 1)) ∙ sym c.among.ensures ∙ c.if-among.true in
    sym (different_drop (l.i - 1) s (ap different b ∙ old_first x D m))

pub loop-i-preserved : goal.loop-i-preserved
loop-i-preserved c =
    let l = c.loop-i in
    let s = c.args.t.now in
    let D = drop l.i s in
    let x = get_or s (l.i - 1) 0 in
    let b : drop (l.i - 1) s ≡ x ∷ D = step_back s l.i (omega arith) (omega arith) in
    let one : l.i ≡ l.i - 1 + 1 = omega arith in
    let m : member x D ≡ false = ap (member x) (ap (λ (k : ℕ). drop k s) one ∙ rest s (l.i - 1 + 1)) ∙ sym c.among.ensures ∙ c.if-among.false in
    (ap different b ∙ new_first x D m l.invariant.0, subst (Above l.low) (sym b) (above_cons x D c.if-x-low.false l.invariant.1))
