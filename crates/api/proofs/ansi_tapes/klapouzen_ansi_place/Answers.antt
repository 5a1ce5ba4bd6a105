-- `klapouzen_ansi_place` meets its contract: the place that is answered, and that it is behind the longest front.
use Rattle.std.specs.Prelude.{Err, Ok}
use mathlib.Core.Path.{◌≡◌, refl, subst}
use mathlib.Core.List.{List, [], ◌∷◌}
use Prim.Native.Nat.{ℕ}
use Rattle.refusals.specs.declared.Refusal.{Refusal}
use Rattle.refusals.specs.Refusals.{Answer}
use Rattle.tape.specs.Tape.{Tape}
use Rattle.tape.specs.Answers.{tape_in}
use Rattle.ansi.specs.Places.{LongestFront}
use Rattle.ansi.specs.Answers.{front_in}
use Rattle.ansi.proofs.Answering.{place_longest, place_none}
use Rattle.api.specs.Outputs.{Shown, one}
use Rattle.api.proofs.ansi_tapes.klapouzen_ansi_place.Goals as goal

-- a place that is told is that of the answer; a tape that does not read has none
longest_shown : (l s : List ℕ) (a : Answer ℕ) {k told : ℕ} → ((n : ℕ) → Ok n ≡ a → (t : Tape) → tape_in l s ≡ Ok t → LongestFront t n)
    → ((r : Refusal) → Err r ≡ a → (t : Tape) → tape_in l s ≡ Ok t → LongestFront t told) → Shown 1 one a k (one told)
    → (t : Tape) → tape_in l s ≡ Ok t → LongestFront t told
longest_shown l s (Ok n) {k} {told} of none w t e =
    let h : told ∷ [] ≡ n ∷ [] = w.holds in
    let q : n ≡ told = cc in
    subst (LongestFront t) q (of n refl t e)
longest_shown l s (Err r) {k} {told} of none w t e = none r refl t e

pub returns : goal.returns
returns c =
    let a = c.args in
    let s = subst (λ (x : Answer ℕ). Shown 1 one x c.tell_count.result (one c.tell_count.new.count)) c.place.ensures c.tell_count.ensures in
    record {
      answers = s;
      longest =
          longest_shown a.list.now a.store.now (front_in a.list.now a.store.now)
          (λ n e. place_longest a.list.now a.store.now n (λ i. (c.type_inv.list i).fits) e)
          (λ r e t q. place_none a.list.now a.store.now r e t q c.tell_count.new.count) s;
    }
