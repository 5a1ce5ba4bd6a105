-- Answers: what an accepted one passed, and which refusals one can have.
use Rattle.std.specs.Prelude.{None, Option, Some, Err, Ok}
use mathlib.Core.Path.{◌≡◌, refl}
use mathlib.Core.Bool.{Bool, true, false}
use Prim.Native.Nat.{ℕ}
use native.Mathlib.Omega.{arith}
use Rattle.refusals.specs.declared.Refusal.{Refusal}
use Rattle.refusals.specs.Refusals.{Answer, require, and_then, or_refuse}

module _ {A : Type 0} (r : Refusal) (next : Answer A) (x : A) where
  -- a check was passed, where an answer was given
  pub passed : (b : Bool) → require b r next ≡ Ok x → (b ≡ true) × (next ≡ Ok x)
  passed true e = (refl, e)
  passed false e = let z : ◌≡◌ {A = ℕ} 0 1 = cc in absurd (omega arith)

-- its refusals, if any, are of P
module _ (P : Refusal → Type 0) where
  abbrev IfRefused : {A : Type 0} → Answer A → Type 0
  IfRefused (Err r) = P r
  IfRefused (Ok a) = Unit {0}

  pub record Refuses {A : Type 0} (a : Answer A) : Type 0 where
    pub only : IfRefused a

  module _ {A : Type 0} where
    pub refuses_answer : (a : A) → Refuses (Ok a)
    refuses_answer a = record { only = tt }

    pub refuses_require : (b : Bool) (r : Refusal) (next : Answer A) → P r → Refuses next → Refuses (require b r next)
    refuses_require true r next p q = q
    refuses_require false r next p q = record { only = p }

  module _ {A B : Type 0} where
    pub refuses_then : (a : Answer A) (next : A → Answer B) → Refuses a → ((x : A) → Refuses (next x)) → Refuses (and_then a next)
    refuses_then (Err r) next p q = record { only = p.only }
    refuses_then (Ok x) next p q = q x

    pub refuses_without : (o : Option A) (r : Refusal) (next : A → Answer B) → P r → ((x : A) → Refuses (next x)) → Refuses (or_refuse o r next)
    refuses_without (Some x) r next p q = q x
    refuses_without None r next p q = record { only = p }
