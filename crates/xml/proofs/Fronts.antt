-- Where the machine stops: what it has read is the longest front that some text in the form begins with.
use mathlib.Core.Path.{◌≡◌, refl, ◌∙◌, sym}
use mathlib.Core.List.{List, [], ◌∷◌, ◌++◌}
use Prim.Native.Nat.{ℕ, zero, suc, ◌+◌, ◌-◌, ◌<◌, ◌≤◌}
use native.Mathlib.Omega.{arith}
use native.Mathlib.Nat.{not-suc-le-zero, le_of_suc-le-suc}
use lib.ListN.{length, take}
use Rattle.slices.specs.Words.{bytes}
use Rattle.xml.specs.Bytes.{declaration}
use Rattle.xml.specs.CheckSteps.{Mode, word, before, root, name, tag, key, keyed, equals, value, valued, slash, content, opens, closed, after, amp, amp_a, more, lead239, State, stop, at, form_step, good, broken, ended, form_run, form_start, form}
use Rattle.xml.proofs.Runs.{run_stop, run_to, stop_not_good}
use Rattle.xml.proofs.Live.{Live, LiveAt, live, step_live, ends}

-- n bytes of s are the longest front of it that some text in the form, with which the reading of σ ends well, begins with
pub record Longest (σ : State) (s : List ℕ) (n : ℕ) : Type 0 where
  pub inside : n ≤ length s
  pub begins : (t : List ℕ) × (form_run σ (take n s ++ t) ≡ good)
  pub last : (m : ℕ) (t : List ℕ) → n < m → m ≤ length s → form_run σ (take m s ++ t) ≡ good → ⊥

ended_broken : (p : Mode) (u : ℕ) → ended p ≡ broken u → u ≡ 0
unfolding ended
ended_broken (word p w) u e = cc
ended_broken before u e = cc
ended_broken root u e = cc
ended_broken (name w) u e = cc
ended_broken tag u e = cc
ended_broken key u e = cc
ended_broken keyed u e = cc
ended_broken equals u e = cc
ended_broken (value q) u e = cc
ended_broken valued u e = cc
ended_broken slash u e = cc
ended_broken (content h) u e = cc
ended_broken (opens o) u e = cc
ended_broken closed u e = cc
ended_broken after u e = cc
ended_broken (amp p) u e = cc
ended_broken (amp_a p) u e = cc
ended_broken (more p lo hi n) u e = cc
ended_broken (lead239 p) u e = cc

abbrev Front : Mode → List (List ℕ) → List ℕ → ℕ → Type 0
Front p ns s u = (n : ℕ) × (n + u ≡ length s) × Longest (at p ns) s n

module _ (b : ℕ) (s : List ℕ) (p : Mode) (ns : List (List ℕ)) (u : ℕ) where
  halts : Live p ns → form_step p ns b ≡ stop → form_run stop s ≡ broken u → Front p ns (b ∷ s) u
  halts l h e =
      let y : form_run stop s ≡ broken (suc (length s)) = run_stop s in
      let z : u ≡ suc (length s) = cc in
      (0, omega arith, record { inside = omega arith; begins = ends p ns l; last = later })
    where
      later : (m : ℕ) (t : List ℕ) → 0 < m → m ≤ suc (length s) → form_run (at p ns) (take m (b ∷ s) ++ t) ≡ good → ⊥
      later zero t g k r = not-suc-le-zero g
      later (suc m) t g k r = stop_not_good (take m s ++ t) (sym (run_to p ns b (take m s ++ t) stop h) ∙ r)

  goes : (q : Mode) (ms : List (List ℕ)) → form_step p ns b ≡ at q ms → Front q ms s u → Front p ns (b ∷ s) u
  goes q ms h (n, e, f) = (
    suc n,
    omega (arith, e),
    record {
      inside = omega (arith, f.inside);
      begins = (f.begins.0, run_to p ns b (take n s ++ f.begins.0) (at q ms) h ∙ f.begins.1);
      last = later;
    },
  )
    where
      later : (m : ℕ) (t : List ℕ) → suc n < m → m ≤ suc (length s) → form_run (at p ns) (take m (b ∷ s) ++ t) ≡ good → ⊥
      later zero t g k r = not-suc-le-zero g
      later (suc m) t g k r = f.last m t (le_of_suc-le-suc g) (le_of_suc-le-suc k) (sym (run_to p ns b (take m s ++ t) (at q ms) h) ∙ r)

longest : (s : List ℕ) (p : Mode) (ns : List (List ℕ)) (u : ℕ) → Live p ns → form_run (at p ns) s ≡ broken u → Front p ns s u
unfolding form_run
longest [] p ns u l e =
    let z : u ≡ 0 = ended_broken p u e in
    (0, omega arith, record { inside = omega arith; begins = ends p ns l; last = λ m t g h r. omega arith })
longest (b ∷ s) p ns u l e = go (form_step p ns b) refl (step_live p ns b l) (longest s)
  where
    go : (σ : State) → form_step p ns b ≡ σ → LiveAt σ → ((q : Mode) (ms : List (List ℕ)) (v : ℕ) → Live q ms → form_run (at q ms) s ≡ broken v → Front q ms s v) → Front p ns (b ∷ s) u
    go stop h g k = halts b s p ns u l h (sym (run_to p ns b s stop h) ∙ e)
    go (at q ms) h (live g) k = goes b s p ns u q ms h (k q ms u g (sym (run_to p ns b s (at q ms) h) ∙ e))

pub longest_run : (s : List ℕ) (u : ℕ) → form s ≡ broken u → Longest form_start s (length s - u)
unfolding form declaration bytes
longest_run s u e =
    let (n, z, f) = longest s (word before declaration) [] u (tt, tt) e in
    let y : length s - u ≡ n = omega (arith, z) in
    rw y f
