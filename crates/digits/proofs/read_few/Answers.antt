-- `digits::read_few` meets its contract. Invariant: the digits passed say v, what is left says the number after it, and v has no more digits than were passed.
use Rattle.std.specs.Prelude.{Some}
use mathlib.Core.Path.{◌≡◌, refl, ap, sym, ◌∙◌}
use mathlib.Core.Bool.{true}
use Prim.Native.Nat.{ℕ, ◌+◌, ◌*◌, ◌<◌}
use native.Mathlib.Nat.{pow-zero}
use native.Mathlib.Omega.{arith}
use lib.ListN.{drop, get_or}
use Rattle.slices.proofs.Every.{every_on, every_off, every_end}
use Rattle.digits.specs.Decimal.{is_digit, digit_of, decimal}
use Rattle.digits.proofs.Values.{value_on, value_end}
use Rattle.digits.proofs.Short.{digit_small}
use Rattle.digits.proofs.Numbers.{run_empty, not_digits, a_run, few_run, too_many, few_small, digit_more}
use borrow.Author.Rules.{rules}
use Rattle.digits.proofs.read_few.Goals as goal
use Rattle.digits.proofs.read_few.Goals.{then-is_empty-via-then-is_empty, then-is_empty-via-else-is_empty+then-s-gt19}

pub returns-then-is_empty : goal.returns-then-is_empty
returns-then-is_empty c =
    elim c.then-is_empty.branch [
      | then-is_empty-via-then-is_empty w ↦ sym (few_run _ (search rules) ∙ run_empty _ (search rules))
      | then-is_empty-via-else-is_empty+then-s-gt19 w ↦ sym (too_many _ w.if-s-gt19.true)
    ]

pub returns-then-not-is_ascii_digit : goal.returns-then-not-is_ascii_digit
returns-then-not-is_ascii_digit c =
    let s = c.args.s.now in
    let l = c.loop-b in
    sym (few_run s (omega arith) ∙ not_digits s (l.invariant.0 ∙ every_off is_digit 0 s l.b-index (search rules) (sym c.if-not-is_ascii_digit.ensures.value)))

pub overflow_mul-v : goal.overflow_mul-v
overflow_mul-v c =
    let l = c.loop-b in
    let m = few_small (l.b-index + 1) (l.v * 10 + 0) (digit_more l.b-index l.v l.invariant.2 0 (omega arith)) (omega arith) in
    omega arith

pub overflow_add-v : goal.overflow_add-v
overflow_add-v c =
    let l = c.loop-b in
    let d : c.from.result < 10 = omega (arith, c.from.ensures, digit_small (get_or c.args.s.now l.b-index 0) (sym c.if-not-is_ascii_digit.ensures.value)) in
    let m = few_small (l.b-index + 1) (l.v * 10 + c.from.result) (digit_more l.b-index l.v l.invariant.2 c.from.result d) (omega arith) in
    omega arith

pub loop-b-init : goal.loop-b-init
loop-b-init c = (refl, refl, rw pow-zero (omega arith))

pub loop-b-preserved : goal.loop-b-preserved
loop-b-preserved c =
    let s = c.args.s.now in
    let l = c.loop-b in
    let f : is_digit (get_or s l.b-index 0) ≡ true = sym c.if-not-is_ascii_digit.ensures.value in (
      l.invariant.0 ∙ every_on is_digit 0 s l.b-index (search rules) f,
      l.invariant.1 ∙ value_on 10 digit_of s l.b-index l.v (search rules) ∙ ap (λ (d : ℕ). decimal (l.v * 10 + d) (drop (l.b-index + 1) s)) (sym c.from.ensures),
      digit_more l.b-index l.v l.invariant.2 c.from.result (omega (arith, c.from.ensures, digit_small (get_or s l.b-index 0) f)),
    )

pub returns : goal.returns
returns c =
    let s = c.args.s.now in
    let l = c.loop-b in
    let z : decimal 0 s ≡ l.v = l.invariant.1 ∙ value_end 10 digit_of s l.b-index l.v (search rules) in
    let m = few_small l.b-index l.v l.invariant.2 (omega arith) in
    sym (few_run s (omega arith) ∙ a_run s (l.invariant.0 ∙ every_end is_digit 0 s l.b-index (search rules)) (search rules) (omega arith) ∙ ap Some z)
