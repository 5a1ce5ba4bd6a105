-- `digits::hex::same_folded` meets its contract: as long as each other, and each pair the same but for case.
use Rattle.std.proofs.Common.{rules, Iter, Bor, Option}
use borrow.Author.Tests.{tests}
use mathlib.Core.Path.{◌≡◌, ap, sym, ◌∙◌}
use mathlib.Core.List.{List, [], ◌∷◌, map}
use Prim.Native.Nat.{ℕ}
use lib.ListN.{length, length-map}
use Rattle.std.proofs.iter.Yields.{fronts}
use Rattle.std.specs.Slice.Iter.{iter_rest}
use Rattle.std.specs.Iterator.{AlwaysYields}
use Rattle.std.proofs.lemmas.Iterator.{YieldsList, YieldsList-from_slice, YieldsList-from_zip, same_from_all}
use Rattle.std.proofs.lemmas.Bool.Decides.{same_from_decides}
use Rattle.std.proofs.lemmas.Slice.Eq.{bytes_eq-Decides}
use Rattle.digits.specs.Steps.{folded}
use Rattle.digits.proofs.hex.same_folded.Goals as goal

-- what a function makes of each item that is read
module _ {S A B C : Type 0} (steps : S → Option A → S → Type 0) (v : A → B) (h : B → C) where
  always : (ys : List B) (s : S) → AlwaysYields steps v s ys → AlwaysYields steps (λ x. h (v x)) s (map h ys)
  always [] s a = a
  always (y ∷ ys) s a = (a.0, λ x j t. (ap h (a.1 x j t).0, always ys j (a.1 x j t).1))

of_folded : {s : Iter ℕ} (xs : List ℕ) → iter_rest s ≡ xs → YieldsList fronts (λ (y : Bor ℕ). folded y.now) s (map folded xs)
of_folded {s = s} xs e = record { runs = always fronts (λ y. y.now) folded xs s (YieldsList-from_slice {s = s} xs e).runs }

pub returns-then-a-b : goal.returns-then-a-b
returns-then-a-b c =
    let a = c.args in
    let n : length (map folded a.a.now) ≡ length (map folded a.b.now) = length-map a.a.now folded ∙ c.if-a-b.true ∙ sym (length-map a.b.now folded) in
    same_from_decides _ _
    (same_from_all c.all.new.self _ c.all.result (map folded a.a.now) (map folded a.b.now) c.all.ensures.ran
    (YieldsList-from_zip (of_folded a.a.now cc) (of_folded a.b.now cc)) n
    (λ x q k. search (rules, tests)) (λ x q k. search (rules, tests)))
    (bytes_eq-Decides (map folded a.a.now) (map folded a.b.now))
