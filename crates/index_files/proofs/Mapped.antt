-- An answer whose value was mapped: its refusal is the first one's, its value comes from the first one's.
use Rattle.std.specs.Prelude.{Err, Ok}
use mathlib.Core.Path.{◌≡◌, refl, ap}
use Prim.Native.Nat.{ℕ}
use native.Mathlib.Omega.{arith}
use Rattle.refusals.specs.declared.Refusal.{Refusal}
use Rattle.refusals.specs.Refusals.{Answer, and_then}

module _ {A B : Type 0} (f : A → B) where
  pub mapped : (a : Answer A) (b : B) → Ok b ≡ and_then a (λ x. Ok (f x)) → (x : A) × (Ok x ≡ a) × (b ≡ f x)
  mapped (Err r) b e = let z : ◌≡◌ {A = ℕ} 0 1 = cc in absurd (omega arith)
  mapped (Ok x) b e = let p : b ≡ f x = cc in (x, refl, p)

  pub mapped_refused : (a : Answer A) (r : Refusal) → Err r ≡ and_then a (λ x. Ok (f x)) → Err r ≡ a
  mapped_refused (Err q) r e = let z : r ≡ q = cc in ap Err z
  mapped_refused (Ok x) r e = let z : ◌≡◌ {A = ℕ} 0 1 = cc in absurd (omega arith)
