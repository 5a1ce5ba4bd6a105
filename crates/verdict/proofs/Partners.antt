-- The table of beginnings tells the construct that a back pointer names.
use mathlib.Core.Path.{◌≡◌, refl, sym, ◌∙◌}
use mathlib.Core.Bool.{cond}
use mathlib.Core.Logic.{◌⊎◌, inl, inr}
use mathlib.Core.List.{List, [], ◌∷◌}
use Prim.Native.Nat.{ℕ, suc, ◌-◌, ◌<◌}
use native.Mathlib.Omega.{arith}
use lib.Dec.{eqb}
use lib.ListN.{length, get_or, set, replicate, length-set, length-replicate, length-drop, get_or-replicate}
use lib.Seq.{get_or-set_same, get_or-set_other, drop-length}
use borrow.Author.Tests.{eqb-true, eqb-false}
use Rattle.slices.proofs.Booleans.{split}
use Rattle.constructs.specs.Constructs.{Construct}
use Rattle.constructs.specs.Steps.{Suffix}
use Rattle.constructs.proofs.Suffixes.{suffix_same, suffix_length}
use Rattle.verdict.specs.Rescue.{through}
use Rattle.verdict.specs.Steps.{beginnings, firsts}
use Rattle.verdict.proofs.Chains.{through_suffix}
use Rattle.verdict.proofs.Orders.{firsts_suffix}

pub length_beginnings : (cs : List Construct) (table : List ℕ) → length (beginnings cs table) ≡ length table
unfolding beginnings
length_beginnings [] table = refl
length_beginnings (c ∷ cs) table = length-set (beginnings cs table) c.first (suc (length cs)) ∙ length_beginnings cs table

-- what stands at an element in a table that was zero: how many constructs there are through the one that begins there
pub begins_at : (cs : List Construct) (n k : ℕ) → k < n → get_or (beginnings cs (replicate n 0)) k 0 ≡ length (through k cs)
unfolding beginnings through
begins_at [] n k h = get_or-replicate n k 0 0 h
begins_at (c ∷ cs) n k h =
    let T : List ℕ = beginnings cs (replicate n 0) in
    let w : length (beginnings cs (replicate n 0)) ≡ n = length_beginnings cs (replicate n 0) ∙ length-replicate n 0 in
    split (λ b. eqb c.first k ≡ b → get_or (set (beginnings cs (replicate n 0)) c.first (suc (length cs))) k 0 ≡ length (cond b (c ∷ cs) (through k cs)))
    (eqb c.first k)
    (λ e q. let z : c.first ≡ k = eqb-true c.first k q in
    rw z (get_or-set_same (beginnings cs (replicate n 0)) k (suc (length cs)) 0 (omega arith)))
    (λ e q. let z : c.first ≡ k → ⊥ = eqb-false c.first k q in
    get_or-set_other (beginnings cs (replicate n 0)) c.first k (suc (length cs)) 0 (λ y. z (sym y)) ∙ begins_at cs n k h)
    refl

-- those constructs are the first so many
pub through_firsts : (k : ℕ) (cs : List Construct) → through k cs ≡ firsts (length (through k cs)) cs
through_firsts k cs = go (through_suffix k cs)
  where
    go : Suffix (through k cs) cs ⊎ (through k cs ≡ []) → through k cs ≡ firsts (length (through k cs)) cs
    go (inl s) =
        suffix_same s (firsts_suffix (length cs - length (through k cs)) cs)
        (sym (length-drop (length cs - length (through k cs)) cs ∙ omega (arith, suffix_length s)))
    go (inr e) = let z : length cs - 0 ≡ length cs = omega arith in rw (e, z) (sym (drop-length cs))
