-- Runs of the machine along a slice: a byte that fits, one that does not, the end, a run of bytes of one class, a word.
use mathlib.Core.Path.{◌≡◌, refl, ap, ◌∙◌, sym}
use mathlib.Core.Bool.{Bool, true, false}
use mathlib.Core.List.{List, [], ◌∷◌}
use Prim.Native.Nat.{ℕ, suc, ◌+◌, ◌-◌, ◌<◌, ◌≤◌}
use native.Mathlib.Omega.{arith}
use native.Mathlib.Numerals.{add-one}
use lib.Dec.{ltb}
use lib.ListN.{length, drop, get_or, drop_of_length-le, length-drop}
use lib.Seq.{drop-cons, drop-drop}
use borrow.Author.Tests.{eq-eqb, ne_eqb, ltb-true, ltb-false}
use Rattle.xml.specs.Tree.{front}
use Rattle.xml.specs.CheckSteps.{Mode, State, stop, at, reads, form_step, broken, ended, form_run}
use Rattle.xml.specs.ScanSteps.{Past}
use Rattle.xml.proofs.Past.{beyond}
use Rattle.xml.proofs.Runs.{run_stop}

-- a byte that is not 0 stands inside
pub inside : (t : List ℕ) (i : ℕ) → (get_or t i 0 ≡ 0 → ⊥) → i < length t
inside t i h = go (ltb i (length t)) refl
  where
    go : (v : Bool) → ltb i (length t) ≡ v → i < length t
    go true e = ltb-true i (length t) e
    go false e = absurd (h (beyond t i (ltb-false i (length t) e)))

-- the machine stops at the byte at i
pub run_stopped : (t : List ℕ) (i : ℕ) {σ : State} → i < length t → σ ≡ stop → form_run σ (drop (i + 1) t) ≡ broken (length t - i)
run_stopped t i h e =
    ap (λ (σ : State). form_run σ (drop (i + 1) t)) e ∙ run_stop (drop (i + 1) t) ∙ ap broken (ap suc (length-drop (i + 1) t) ∙ omega arith)

module _ (t : List ℕ) (i : ℕ) (p : Mode) (ns : List (List ℕ)) where
  -- the byte at i leads to σ
  pub run_on : {σ : State} → i < length t → form_step p ns (get_or t i 0) ≡ σ → form_run (at p ns) (drop i t) ≡ form_run σ (drop (i + 1) t)
  unfolding form_run
  run_on h e = rw (drop-cons t i 0, add-one) (ap (λ (σ : State). form_run σ (drop (suc i) t)) e)

  pub run_out : length t ≤ i → form_run (at p ns) (drop i t) ≡ ended p
  unfolding form_run
  run_out h = rw (drop_of_length-le t h)

  -- the byte at i does not fit, or there is none
  pub run_refused : i ≤ length t → ended p ≡ broken 0 → form_step p ns (get_or t i 0) ≡ stop → form_run (at p ns) (drop i t) ≡ broken (length t - i)
  run_refused h e f = go (ltb i (length t)) refl
    where
      go : (v : Bool) → ltb i (length t) ≡ v → form_run (at p ns) (drop i t) ≡ broken (length t - i)
      go true g = run_on (ltb-true i (length t) g) f ∙ run_stopped t i (ltb-true i (length t) g) refl
      go false g = let l : length t ≤ i = ltb-false i (length t) g in run_out l ∙ e ∙ ap broken (omega arith)

  -- another place takes the byte at i as p does
  pub run_as : (q : Mode) (ms : List (List ℕ)) → ended p ≡ ended q → (i < length t → form_step p ns (get_or t i 0) ≡ form_step q ms (get_or t i 0))
      → form_run (at p ns) (drop i t) ≡ form_run (at q ms) (drop i t)
  unfolding form_run
  run_as q ms e f = go (ltb i (length t)) refl
    where
      go : (v : Bool) → ltb i (length t) ≡ v → form_run (at p ns) (drop i t) ≡ form_run (at q ms) (drop i t)
      go true g =
          let l : i < length t = ltb-true i (length t) g in
          rw (drop-cons t i 0) (ap (λ (σ : State). form_run σ (drop (suc i) t)) (f l))
      go false g = rw (drop_of_length-le t (ltb-false i (length t) g)) e

-- bytes at which the machine stays where it is
module _ (f : ℕ → Bool) (p : Mode) (ns : List (List ℕ)) (stays : (b : ℕ) → f b ≡ true → form_step p ns b ≡ at p ns) where
  run_front : (s : List ℕ) → form_run (at p ns) s ≡ form_run (at p ns) (drop (front f s) s)
  unfolding form_run front
  run_front [] = refl
  run_front (b ∷ s) = go (f b) refl (run_front s)
    where
      go : (v : Bool) → f b ≡ v → form_run (at p ns) s ≡ form_run (at p ns) (drop (front f s) s) → form_run (at p ns) (b ∷ s) ≡ form_run (at p ns) (drop (front f (b ∷ s)) (b ∷ s))
      go true e r = rw (stays b e) (simp e r)
      go false e r = simp e

  pub run_past : (t : List ℕ) (i j : ℕ) → Past f t i j → form_run (at p ns) (drop i t) ≡ form_run (at p ns) (drop j t)
  run_past t i j e =
      run_front (drop i t) ∙ ap (form_run (at p ns)) (drop-drop (front f (drop i t)) i t) ∙ ap (λ (k : ℕ). form_run (at p ns) (drop k t)) (sym e.found)

-- in a word w, of which the bytes from k on are left
module _ (t : List ℕ) (i : ℕ) (w : List ℕ) (k : ℕ) (p : Mode) (ns : List (List ℕ)) where
  pub word_out : i ≤ length t → length t ≤ i → k < length w → form_run (at (reads p (drop k w)) ns) (drop i t) ≡ broken (length t - i)
  unfolding reads ended
  word_out h g l = rw (drop-cons w k 0) (run_out t i _ ns g ∙ ap broken (omega arith))

  pub word_refused : i < length t → k < length w → (get_or t i 0 ≡ get_or w k 0 → ⊥) → form_run (at (reads p (drop k w)) ns) (drop i t) ≡ broken (length t - i)
  unfolding reads form_step ended
  word_refused h g e = rw (drop-cons w k 0) (run_refused t i _ ns (omega arith) refl (simp (ne_eqb _ _ e)))

  pub word_on : i < length t → k < length w → get_or t i 0 ≡ get_or w k 0 → form_run (at (reads p (drop k w)) ns) (drop i t) ≡ form_run (at (reads p (drop (k + 1) w)) ns) (drop (i + 1) t)
  unfolding reads form_step
  word_on h g e = rw (drop-cons w k 0, add-one k) (run_on t i _ ns h (simp (eq-eqb _ _ e)))

  pub word_done : length w ≤ k → form_run (at (reads p (drop k w)) ns) (drop i t) ≡ form_run (at p ns) (drop i t)
  unfolding reads
  word_done h = rw (drop_of_length-le w h)
