-- Runs of digits written from the last one on: the digits that are left, while the last ones are stored one by one. Over the base, the width
-- and the bytes that stand for the digits.
use mathlib.Core.Path.{◌≡◌, ap, ap₂, sym, ◌∙◌}
use mathlib.Core.List.{List, [], ◌∷◌, ◌++◌, map, map-append, append_assoc}
use Prim.Native.Nat.{ℕ, zero, suc, ◌+◌, ◌-◌, ◌/◌, ◌%◌, ◌<◌, ◌≤◌}
use native.Mathlib.Omega.{arith}
use lib.ListN.{length, take, drop, set, length-append, length-set, length-map}
use lib.Seq.{take-set-le, drop-cons, drop-set-lt, get_or-set_same, append_snoc}
use Rattle.slices.specs.Slices.{written}
use Rattle.slices.proofs.Writing.{written_nil}
use Rattle.digits.specs.Runs.{digits}
use Rattle.digits.proofs.Values.{length_digits}

-- a run's last byte may be stored before the others are written
last_first : (at x : ℕ) (w b : List ℕ) → at + length w < length b → written at w (set b (at + length w) x) ≡ written at (w ++ (x ∷ [])) b
unfolding written
last_first at x w b h =
    let n : length (set b (at + length w) x) ≡ length b = length-set b (at + length w) x in
    let m : length (w ++ (x ∷ [])) ≡ length w + 1 = length-append w (x ∷ []) in
    let e : suc (at + length w) ≡ at + length (w ++ (x ∷ [])) = omega arith in
    ap (λ (l : List ℕ). l ++ w ++ drop (at + length w) (set b (at + length w) x)) (take-set-le at b (at + length w) x (omega arith))
    ∙ ap (λ (l : List ℕ). take at b ++ w ++ l)
    (drop-cons (set b (at + length w) x) (at + length w) 0 (omega arith)
    ∙ ap₂ ◌∷◌ (get_or-set_same b (at + length w) x 0 h) (drop-set-lt (suc (at + length w)) b (at + length w) x (omega arith)))
    ∙ sym (append_snoc (take at b ++ w) x (drop (suc (at + length w)) b))
    ∙ ap₂ (λ (l : List ℕ) (k : ℕ). l ++ drop k b) (append_assoc (take at b) w (x ∷ [])) e

module _ (code : ℕ → ℕ) (base at : ℕ) (b : List ℕ) where
  -- the lowest digit is stored, and those of the quotient are left
  pub left_less :
      (i n : ℕ) → 0 < i → at + i ≤ length b
      → written at (map code (digits base (i - 1) (n / base))) (set b (at + (i - 1)) (code (n % base))) ≡ written at (map code (digits base i n)) b
  unfolding digits
  left_less zero n p h = absurd (omega arith)
  left_less (suc i) n p h =
      let e : suc i - 1 ≡ i = omega arith in
      let s : List ℕ = map code (digits base i (n / base)) in
      let l : length s ≡ i = length-map (digits base i (n / base)) code ∙ length_digits base i (n / base) in
      let k : at + i ≡ at + length s = ap (λ (j : ℕ). at + j) (sym l) in
      ap (λ (j : ℕ). written at (map code (digits base j (n / base))) (set b (at + j) (code (n % base)))) e
      ∙ ap (λ (j : ℕ). written at s (set b j (code (n % base)))) k
      ∙ last_first at (code (n % base)) s b (omega arith)
      ∙ ap (λ (t : List ℕ). written at t b) (sym (map-append code (digits base i (n / base)) (n % base ∷ [])))

  pub left_none : (i n : ℕ) → i ≡ 0 → written at (map code (digits base i n)) b ≡ b
  unfolding digits
  left_none i n e = ap (λ (j : ℕ). written at (map code (digits base j n)) b) e ∙ written_nil at b
