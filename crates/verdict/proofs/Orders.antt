-- The chain from its first construct on, and the search from the last construct back, one construct at a time.
use Rattle.std.specs.Prelude.{None, Some}
use mathlib.Core.Path.{◌≡◌, refl, ap, ◌∙◌}
use mathlib.Core.Bool.{true, false}
use mathlib.Core.List.{List, [], ◌∷◌}
use Prim.Native.Nat.{ℕ, zero, suc, ◌-◌, ◌<◌}
use native.Mathlib.Omega.{arith}
use lib.ListN.{length, drop}
use Rattle.constructs.specs.Constructs.{Construct}
use Rattle.constructs.specs.Steps.{Suffix, here, there}
use Rattle.verdict.specs.Verdict.{Volume, read_index, chained, chain_break, Cut}
use Rattle.verdict.specs.Rescue.{target, through, chain, attempt, cut_among}
use Rattle.verdict.specs.Steps.{firsts}

module _ {A : Type 0} where
  pub firsts_suffix : (n : ℕ) (xs : List A) → Suffix (drop n xs) xs
  firsts_suffix zero xs = here refl
  firsts_suffix (suc n) [] = here refl
  firsts_suffix (suc n) (x ∷ xs) = there (firsts_suffix n xs)

  drop_one : (n : ℕ) (xs : List A) → n < length xs → (x : A) × (drop n xs ≡ x ∷ drop (suc n) xs)
  drop_one n [] h = absurd (omega arith)
  drop_one zero (x ∷ xs) h = (x, refl)
  drop_one (suc n) (x ∷ xs) h = drop_one n xs (omega arith)

  -- one more
  pub firsts_next : (k : ℕ) (xs : List A) → k < length xs → (x : A) × (firsts (suc k) xs ≡ x ∷ firsts k xs)
  firsts_next k xs h =
      let r = drop_one (length xs - suc k) xs (omega arith) in
      let e : suc (length xs - suc k) ≡ length xs - k = omega arith in
      (r.0, r.1 ∙ ap (λ (n : ℕ). r.0 ∷ drop n xs) e)

  pub firsts_all : (xs : List A) → firsts (length xs) xs ≡ xs
  firsts_all xs = let e : length xs - length xs ≡ 0 = omega arith in rw e

module _ (v : Volume) where
  -- constructs without a break are their own chain
  pub chain_whole : (ds : List Construct) → chain_break v ds ≡ None → chain v ds ≡ ds
  unfolding chain
  chain_whole [] e = refl
  chain_whole (d ∷ ds) e = rw e

  -- the first construct that breaks the chain is the break
  pub break_at : {c : Construct} {cs ds : List Construct} → Suffix (c ∷ cs) ds → chain_break v cs ≡ None → chained v c cs ≡ false
      → chain_break v ds ≡ Some (length cs)
  unfolding chain_break
  break_at {c} {cs} (here q) e f = rw (← q, e, f)
  break_at (there s) e f = rw (break_at s e f)

  -- and the chain ends before it
  pub chain_stops : {c : Construct} {cs ds : List Construct} → Suffix (c ∷ cs) ds → chain_break v cs ≡ None → chained v c cs ≡ false → chain v ds ≡ cs
  unfolding chain
  chain_stops {c} {cs} (here q) e f =
      let b : chain_break v (c ∷ cs) ≡ Some (length cs) = break_at (here refl) e f in
      rw (← q, b) (chain_whole cs e)
  chain_stops {c} {cs} (there {y} {ys} s) e f =
      let b : chain_break v (y ∷ ys) ≡ Some (length cs) = break_at (there s) e f in
      rw b (chain_stops s e f)

  -- a construct that is chained lengthens a chain with no break
  pub chain_grows : (c : Construct) (cs : List Construct) → chain_break v cs ≡ None → chained v c cs ≡ true → chain_break v (c ∷ cs) ≡ None
  unfolding chain_break
  chain_grows c cs e f = rw (e, f)

  -- the search goes on where a construct is no cut, and ends where it is
  pub search_on : (li ld : List ℕ) (ds : List Construct) (c : Construct) (cs : List Construct)
      → attempt v li ld c cs (through (target (read_index v c)) ds) ≡ None → cut_among v li ld ds (c ∷ cs) ≡ cut_among v li ld ds cs
  unfolding cut_among
  search_on li ld ds c cs e = rw e

  pub search_found : (li ld : List ℕ) (ds : List Construct) (c : Construct) (cs : List Construct) (a : Cut)
      → attempt v li ld c cs (through (target (read_index v c)) ds) ≡ Some a → cut_among v li ld ds (c ∷ cs) ≡ Some a
  unfolding cut_among
  search_found li ld ds c cs a e = rw e
