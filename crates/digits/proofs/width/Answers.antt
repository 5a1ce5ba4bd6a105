-- `digits::width` meets its contract: one more than the power of ten that n reaches; 0 has a digit too.
use mathlib.Core.Path.{sym, ◌∙◌}
use Prim.Native.Nat.{ℕ, ◌+◌, ◌^◌, ◌<◌, ◌≤◌}
use native.Mathlib.Nat.{pow-suc, pow-le-pow_right, le_trans}
use native.Mathlib.Numerals.{add-one}
use native.Mathlib.Omega.{arith}
use Rattle.digits.proofs.Widths.{width_is, width_one}
use Rattle.digits.proofs.Short.{short_width}
use Rattle.digits.proofs.width.Goals as goal

pub returns-in-Some : goal.returns-in-Some
returns-in-Some c =
    let n = c.args.n in
    let p = c.in-Some.power in
    let least : (k : ℕ) → 0 < k → k < p + 1 → 10 ^ k ≤ n = λ k h l. le_trans (pow-le-pow_right {n = 10} (omega arith) {j = p} (omega arith)) c.in-Some.ensures.power_le in
    sym (short_width n ∙ width_is 10 (omega arith) n (p + 1) (record { some = omega arith; fits = rw (add-one, pow-suc) (omega (arith, c.in-Some.ensures.next_power_gt)); least = least }))

pub returns-in-None : goal.returns-in-None
returns-in-None c = sym (short_width c.args.n ∙ width_one 10 (omega arith) c.args.n (omega (arith, c.in-None.ensures.none)))
