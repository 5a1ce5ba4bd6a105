-- What is told of a volume keeps demand 3.
use Rattle.std.specs.Prelude.{None, Option, Some, Err, Ok}
use mathlib.Core.Path.{◌≡◌, refl, sym, ◌∙◌, ap}
use mathlib.Core.Logic.{◌↔◌}
use mathlib.Core.List.{List}
use Prim.Native.Nat.{ℕ, ◌≤◌}
use native.Mathlib.Omega.{arith}
use lib.ListN.{get_or}
use Rattle.refusals.specs.Refusals.{Answer}
use Rattle.refusals.proofs.Numbers.{not_zero}
use Rattle.verdict.specs.Verdict.{Break}
use Rattle.volume.specs.Volume.{verdict_in}
use Rattle.volume.proofs.Demands.{verdict_owes, breaks_named}
use Rattle.api.specs.Outputs.{Shown}
use Rattle.api.specs.Volumes.{break_numbers, NoBreak, ShowsBreak}

-- the numbers tell that no break is answered
no_break_told : (a : Answer (Option Break)) → ((b : Break) → a ≡ Ok (Some b) → 1 ≤ b.which) → {n : ℕ} {out : List ℕ} → Shown 2 break_numbers a n out
    → NoBreak n out ↔ (a ≡ Ok None)
no_break_told (Err r) w s = (
  (λ q. absurd (not_zero r (sym s.refusal ∙ q.0))),
  (λ q. let z : ◌≡◌ {A = ℕ} 0 1 = cc in absurd (omega arith)),
)
no_break_told (Ok None) w s = ((λ q. refl), (λ q. (s.refusal, ap (λ (o : List ℕ). get_or o 0 0) s.holds)))
no_break_told (Ok (Some b)) w {n} {out} s = (
  (λ q. let e : get_or out 0 0 ≡ b.which = ap (λ (o : List ℕ). get_or o 0 0) s.holds in absurd (omega (arith, w b refl, e, q.1))),
  (λ q. let z : ◌≡◌ {A = ℕ} 0 1 = cc in absurd (omega arith)),
)

module _ {il is dl ds : List ℕ} {n : ℕ} {out : List ℕ} where
  pub judges_out : Shown 2 break_numbers (verdict_in il is dl ds) n out → ShowsBreak il is dl ds n out
  judges_out s =
      record {
        answers = s;
        demand = λ i d v p. verdict_owes il is dl ds i d v p (no_break_told (verdict_in il is dl ds) (breaks_named il is dl ds) s);
      }
