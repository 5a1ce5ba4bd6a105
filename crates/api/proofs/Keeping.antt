-- What keeping shows of `tape::keep`'s answer.
use Rattle.std.specs.Prelude.{Err, Ok}
use mathlib.Core.Path.{◌≡◌, refl, sym, ◌∙◌, ap}
use mathlib.Core.List.{List, [], ◌∷◌}
use Prim.Native.Nat.{ℕ, min}
use Rattle.refusals.specs.declared.Refusal.{Refusal}
use Rattle.refusals.specs.Refusals.{number_of, shown_number}
use Rattle.refusals.proofs.Numbers.{not_zero}
use Rattle.tape.specs.declared.Front.{Front}
use Rattle.tape.specs.Answers.{kept_of}
use Rattle.tape.specs.Steps.{Keeps}
use Rattle.api.specs.Outputs.{numbers}
use Rattle.api.specs.Partitions.{fronts, told_fronts, ShowsKept}
use Rattle.api.proofs.Showing.{shown, not_shown}

module _ {m : ℕ} {l s : List ℕ} where
  pub kept_shown : (f : Front) {n : ℕ} {out : List ℕ} → Keeps m l s (Ok f) → n ≡ 0 → out ≡ fronts f → ShowsKept m l s n out
  kept_shown f k h g =
      rw (h, g) record { shown = shown f k.answers refl refl; bytes = λ z. k.bytes; again = λ z. k.again f refl }

  pub kept_refused : (r : Refusal) {n : ℕ} {out : List ℕ} → Keeps m l s (Err r) → n ≡ number_of r → out ≡ 0 ∷ 0 ∷ [] → ShowsKept m l s n out
  kept_refused r {n} k h g =
      record {
        shown = not_shown r k.answers h g;
        bytes = λ z. absurd (not_zero r (sym h ∙ z));
        again = λ z. absurd (not_zero r (sym h ∙ z));
      }

-- three calls: m elements, n of the bytes that these tell, and the smaller of the two of the whole. The last two show the same
pub shown_twice : {m n r r' : ℕ} {l s first again once : List ℕ} → ShowsKept m l s 0 first
    → ShowsKept n (told_fronts first l s).list (told_fronts first l s).store r again → ShowsKept (min m n) l s r' once → (r ≡ r') × (again ≡ once)
shown_twice {m} {n} {r} {r'} {l} {s} {first} a b c =
    let same : kept_of n (told_fronts first l s).list (told_fronts first l s).store ≡ kept_of (min m n) l s = rw (a.again refl n) in (
      b.shown.refusal ∙ ap shown_number same ∙ sym c.shown.refusal,
      b.shown.holds ∙ ap (numbers 2 fronts) same ∙ sym c.shown.holds,
    )
