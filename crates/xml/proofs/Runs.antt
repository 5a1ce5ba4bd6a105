-- Runs of the machine: a stopped one, one byte, a fixed word.
use mathlib.Core.Path.{◌≡◌, refl, ap, ◌∙◌}
use mathlib.Core.List.{List, [], ◌∷◌, ◌++◌}
use Prim.Native.Nat.{ℕ, suc}
use native.Mathlib.Omega.{arith}
use borrow.Author.Tests.{eq-eqb}
use lib.ListN.{length}
use Rattle.xml.specs.CheckSteps.{Mode, word, State, stop, at, reads, form_step, good, broken, form_run}

pub run_stop : (s : List ℕ) → form_run stop s ≡ broken (suc (length s))
unfolding form_run
run_stop [] = refl
run_stop (b ∷ s) = refl

pub stop_not_good : (s : List ℕ) → form_run stop s ≡ good → ⊥
stop_not_good s e = let y : form_run stop s ≡ broken (suc (length s)) = run_stop s in let z : ◌≡◌ {A = ℕ} 0 1 = cc in omega arith

pub run_to : (p : Mode) (ns : List (List ℕ)) (b : ℕ) (s : List ℕ) (σ : State) → form_step p ns b ≡ σ → form_run (at p ns) (b ∷ s) ≡ form_run σ s
unfolding form_run
run_to p ns b s σ e = ap (λ (σ : State). form_run σ s) e

-- the fixed word w
pub run_word : (p : Mode) (ns : List (List ℕ)) (w t : List ℕ) → form_run (at (reads p w) ns) (w ++ t) ≡ form_run (at p ns) t
unfolding reads form_step
run_word p ns [] t = refl
run_word p ns (c ∷ w) t = run_to (word p (c ∷ w)) ns c (w ++ t) (at (reads p w) ns) (simp (eq-eqb c c refl)) ∙ run_word p ns w t
