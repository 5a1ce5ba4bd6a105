-- `klapouzen_ansi` meets its contract: what reading answers, and that it is what the layout says.
use Rattle.std.specs.Prelude.{Err, Ok}
use mathlib.Core.Path.{◌≡◌, refl, subst}
use mathlib.Core.List.{[], ◌∷◌}
use Prim.Native.Nat.{ℕ, ◌≤◌}
use native.Mathlib.Omega.{arith}
use lib.ListN.{length}
use Rattle.refusals.specs.Refusals.{Answer}
use Rattle.ansi.specs.Layout.{max_files}
use Rattle.ansi.specs.Answers.{files_on}
use Rattle.ansi.proofs.Answering.{by_layout, few_told}
use Rattle.api.specs.Outputs.{Shown, one}
use Rattle.api.proofs.Headers.{shown_counted}
use Rattle.api.proofs.ansi_tapes.klapouzen_ansi.Goals as goal

-- a count that is told is that of the answer, or 0
few_shown : (a : Answer ℕ) {k told : ℕ} → ((n : ℕ) → Ok n ≡ a → n ≤ max_files) → Shown 1 one a k (one told) → told ≤ max_files
few_shown (Ok n) {k} {told} few s = let h : told ∷ [] ≡ n ∷ [] = s.holds in let e : told ≡ n = cc in omega (arith, few n refl)
few_shown (Err r) {k} {told} few s = let h : told ∷ [] ≡ 0 ∷ [] = s.holds in let e : told ≡ 0 = cc in omega arith

pub returns : goal.returns
returns c =
    let a = c.args in
    let s = subst (λ (x : Answer ℕ). Shown 1 one x c.tell_count.result (one c.tell_count.new.count)) c.files.ensures.answers c.tell_count.ensures in
    record {
      answers = shown_counted (files_on (length a.buffer.now) a.list.now a.store.now) s;
      holds = c.files.ensures.holds;
      layout = by_layout (length a.buffer.now) a.list.now a.store.now (λ i. (c.type_inv.list i).fits);
      few = few_shown _ (λ n e. few_told (length a.buffer.now) a.list.now a.store.now n (λ i. (c.type_inv.list i).fits) e) s;
    }
