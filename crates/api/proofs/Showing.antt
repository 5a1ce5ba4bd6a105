-- What a function shows of a callee's answer: a value's numbers, or a refusal's number and zeros.
use Rattle.std.specs.Prelude.{Err, Ok, MatchResult}
use mathlib.Core.Path.{◌≡◌, refl, subst}
use mathlib.Core.List.{List}
use Prim.Native.Nat.{ℕ}
use lib.ListN.{replicate}
use Rattle.refusals.specs.declared.Refusal.{Refusal}
use Rattle.refusals.specs.Refusals.{Answer, number_of}
use Rattle.api.specs.Outputs.{Shown, ShownAs}

-- what follows from what is told of an answer: of its value, or of its refusal
pub by_answer : {A G : Type 0} (a : Answer A) {P : A → Type 0} {Q : Refusal → Type 0} → MatchResult a P Q → ((x : A) → Ok x ≡ a → P x → G) → ((r : Refusal) → Err r ≡ a → Q r → G) → G
by_answer (Ok x) h of_value of_refusal = of_value x refl h
by_answer (Err r) h of_value of_refusal = of_refusal r refl h

module _ {A : Type 0} {n : ℕ} {a : Answer A} {k : ℕ} {out : List ℕ} where
  pub shown : {show : A → List ℕ} (v : A) → Ok v ≡ a → k ≡ 0 → out ≡ show v → Shown n show a k out
  shown {show} v e h g = subst (λ (x : Answer A). Shown n show x k out) e record { refusal = h; holds = g }

  pub not_shown : {show : A → List ℕ} (r : Refusal) → Err r ≡ a → k ≡ number_of r → out ≡ replicate n 0 → Shown n show a k out
  not_shown {show} r e h g = subst (λ (x : Answer A). Shown n show x k out) e record { refusal = h; holds = g }

  pub told : {says : A → List ℕ → Type 0} (v : A) → Ok v ≡ a → k ≡ 0 → says v out → ShownAs n says a k out
  told {says} v e h g = subst (λ (x : Answer A). ShownAs n says x k out) e record { refusal = h; tells = g }

  pub not_told : {says : A → List ℕ → Type 0} (r : Refusal) → Err r ≡ a → k ≡ number_of r → out ≡ replicate n 0 → ShownAs n says a k out
  not_told {says} r e h g = subst (λ (x : Answer A). ShownAs n says x k out) e record { refusal = h; tells = g }
