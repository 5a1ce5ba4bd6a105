-- `digits::read_run` meets its contract. Invariant: the digits passed say v, and what is left says the number after it.
use Rattle.std.specs.Prelude.{Some}
use mathlib.Core.Path.{◌≡◌, ap, sym, ◌∙◌}
use Prim.Native.Nat.{ℕ, ◌+◌, ◌*◌, ◌^◌, ◌<◌}
use native.Mathlib.Omega.{arith}
use lib.ListN.{drop, get_or}
use Rattle.slices.proofs.Every.{every_on, every_off, every_end}
use Rattle.digits.specs.Decimal.{is_digit, digit_of, decimal}
use Rattle.digits.proofs.Values.{value_on, value_end}
use Rattle.digits.proofs.Numbers.{run_empty, not_digits, grown_too_large, a_run}
use borrow.Author.Rules.{rules}
use Rattle.digits.proofs.read_run.Goals as goal

pub returns-then-is_empty : goal.returns-then-is_empty
returns-then-is_empty c = sym (run_empty _ (search rules))

pub returns-then-not-is_ascii_digit : goal.returns-then-not-is_ascii_digit
returns-then-not-is_ascii_digit c =
    let s = c.args.s.now in
    let l = c.loop-b in
    sym (not_digits s (l.invariant.0 ∙ every_off is_digit 0 s l.b-index (search rules) (sym c.if-not-is_ascii_digit.ensures.value)))

pub returns-in_err-checked_mul : goal.returns-in_err-checked_mul
returns-in_err-checked_mul c =
    let l = c.loop-b in
    let h : l.v * 10 < 2 ^ 64 → ⊥ = c.in_err-checked_mul.ensures in
    c.from_residual.ensures ∙ sym (grown_too_large c.args.s.now l.b-index l.v (search rules) l.invariant.1 (omega arith))

pub returns-in_err-v : goal.returns-in_err-v
returns-in_err-v c =
    let l = c.loop-b in
    let h : c.in_ok-checked_mul.field-0 + c.from.result < 2 ^ 64 → ⊥ = c.in_err-v.ensures in
    c.from_residual-in_err-v.ensures
    ∙ sym (grown_too_large c.args.s.now l.b-index l.v (search rules) l.invariant.1 (omega (arith, c.in_ok-checked_mul.ensures, c.from.ensures)))

pub loop-b-preserved : goal.loop-b-preserved
loop-b-preserved c =
    let s = c.args.s.now in
    let l = c.loop-b in
    let v : c.in_ok-v.v ≡ l.v * 10 + digit_of (get_or s l.b-index 0) = omega (arith, c.in_ok-checked_mul.ensures, c.from.ensures, c.in_ok-v.ensures) in (
      l.invariant.0 ∙ every_on is_digit 0 s l.b-index (search rules) (sym c.if-not-is_ascii_digit.ensures.value),
      l.invariant.1 ∙ value_on 10 digit_of s l.b-index l.v (search rules) ∙ ap (λ (n : ℕ). decimal n (drop (l.b-index + 1) s)) (sym v),
      omega (arith, c.in_ok-v.ensures),
    )

pub returns : goal.returns
returns c =
    let s = c.args.s.now in
    let l = c.loop-b in
    let z : decimal 0 s ≡ l.v = l.invariant.1 ∙ value_end 10 digit_of s l.b-index l.v (search rules) in
    sym (a_run s (l.invariant.0 ∙ every_end is_digit 0 s l.b-index (search rules)) (search rules) (omega arith) ∙ ap Some z)
