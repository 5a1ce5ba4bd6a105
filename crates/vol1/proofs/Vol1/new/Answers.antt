-- `Vol1::new` meets its contract: each of the eight pieces stands where the one before it ends, and together they are the block.
use mathlib.Core.Path.{◌≡◌, refl, sym, ◌∙◌}
use native.Mathlib.Omega.{arith}
use borrow.Author.Rules.{rules}
use Rattle.slices.specs.Words.{bytes}
use mathlib.Core.List.{[], List, ◌++◌}
use Prim.Native.Nat.{ℕ}
use lib.ListN.{length, replicate, length-append}
use Rattle.vol1.specs.Vol1.{vol1}
use Rattle.writing.proofs.Adding.{fits, nothing_yet, all_written}
use Rattle.vol1.proofs.Vol1.new.Goals as goal

pub returns : goal.returns
unfolding vol1 bytes
returns c =
    let i = c.args.identifier.now in
    let o = c.args.owner.now in
    let h : length i ≡ 6 = search rules in
    let g : length o ≡ 14 = search rules in
    let b : List ℕ = replicate 80 0 in
    let w₁ : List ℕ = bytes "VOL1" in
    let w₂ = w₁ ++ i in
    let w₃ = w₂ ++ bytes "L" in
    let w₄ = w₃ ++ bytes "             " in
    let w₅ = w₄ ++ bytes "LTFS         " in
    let w₆ = w₅ ++ o in
    let w₇ = w₆ ++ bytes "                            " in
    let w₈ = w₇ ++ bytes "4" in
    let n₂ : 10 ≡ length w₂ = omega (arith, length-append w₁ i) in
    let n₃ : 11 ≡ length w₃ = omega (arith, length-append w₂ (bytes "L")) in
    let n₄ : 24 ≡ length w₄ = omega (arith, length-append w₃ (bytes "             ")) in
    let n₅ : 37 ≡ length w₅ = omega (arith, length-append w₄ (bytes "LTFS         ")) in
    let n₆ : 51 ≡ length w₆ = omega (arith, length-append w₅ o) in
    let n₇ : 79 ≡ length w₇ = omega (arith, length-append w₆ (bytes "                            ")) in
    let n₈ : 80 ≡ length w₈ = omega (arith, length-append w₇ (bytes "4")) in
    let s₁ = c.add.ensures.added.run b [] (omega arith) (nothing_yet b) refl in
    let s₂ = c.add-2.ensures.added.run b w₁ (fits w₂ n₂ (omega arith)) s₁.0 refl in
    let s₃ = c.add-3.ensures.added.run b w₂ (fits w₃ n₃ (omega arith)) s₂.0 n₂ in
    let s₄ = c.add-4.ensures.added.run b w₃ (fits w₄ n₄ (omega arith)) s₃.0 n₃ in
    let s₅ = c.add-5.ensures.added.run b w₄ (fits w₅ n₅ (omega arith)) s₄.0 n₄ in
    let s₆ = c.add-6.ensures.added.run b w₅ (fits w₆ n₆ (omega arith)) s₅.0 n₅ in
    let s₇ = c.add-7.ensures.added.run b w₆ (fits w₇ n₇ (omega arith)) s₆.0 n₆ in
    let s₈ = c.add-8.ensures.added.run b w₇ (fits w₈ n₈ (omega arith)) s₇.0 n₇ in
    s₈.0 ∙ all_written w₈ b (sym n₈)
