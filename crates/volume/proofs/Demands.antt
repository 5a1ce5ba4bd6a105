-- Demand 3 of the definitions on the bytes handed in.
use Rattle.std.specs.Prelude.{None, Option, Some, Err, Ok}
use mathlib.Core.Path.{◌≡◌, refl, sym, ap, subst, ◌∙◌}
use mathlib.Core.Logic.{◌↔◌}
use mathlib.Core.List.{List}
use Prim.Native.Nat.{ℕ, ◌≤◌}
use native.Mathlib.Omega.{arith}
use Rattle.refusals.specs.Refusals.{Answer, and_then}
use Rattle.tape.specs.Tape.{Tape}
use Rattle.tape.specs.Answers.{tape_in}
use Rattle.label.specs.Label.{Label}
use Rattle.labels.specs.Labels.{labels_of}
use Rattle.labels.proofs.Fronts.{labels_front}
use Rattle.verdict.specs.Verdict.{Volume, Break, Consistent, verdict, Cut}
use Rattle.verdict.specs.Rescue.{rescue}
use Rattle.verdict.specs.Demand.{Demand3, Verdict3}
use Rattle.verdict.proofs.Demand.{demand3}
use Rattle.verdict.proofs.Judged.{judged as judged_sound, named}
use Rattle.volume.specs.Volume.{volume_with, given_by, agreed, volume_of, on_volume, or_no_cut, rescue_in, verdict_in}
use Rattle.volume.specs.Answers.{cut_of, Premises}
use Rattle.volume.specs.AnswerSteps.{judged}
use Rattle.volume.specs.declared.judge.Break as declared

pub agreed_label : (a : Answer Label) (v : Volume) → agreed a ≡ Some v → (f : Label) × (a ≡ Ok f) × (volume_with (given_by f) ≡ v)
agreed_label (Err r) v e = let z : ◌≡◌ {A = ℕ} 0 1 = cc in absurd (omega arith)
agreed_label (Ok f) v e = (f, refl, let z : volume_with (given_by f) ≡ v = cc in z)

cut_of_lem : (o : Option Cut) → cut_of (or_no_cut o) ≡ o
cut_of_lem None = refl
cut_of_lem (Some a) = refl

module _ (il is dl ds : List ℕ) where
  module _ (i d : Tape) (v : Volume) (p : Premises il is dl ds i d v) where
    asked_with : {A : Type 0} (ask : Volume → Tape → Tape → Answer A) (f : Label) → labels_of i d ≡ Ok f → on_volume ask il is dl ds ≡ ask (volume_with (given_by f)) i d
    asked_with ask f e = rw (p.index_tape, p.data_tape, e)

    -- what is asked is asked of that volume
    asked_of : {A : Type 0} (ask : Volume → Tape → Tape → Answer A) → on_volume ask il is dl ds ≡ ask v i d
    asked_of ask = let x = agreed_label (labels_of i d) v p.agree in asked_with ask x.0 x.1 ∙ ap (λ (w : Volume). ask w i d) x.2

    pub rescue_owes : Demand3 volume_of v i d (cut_of (rescue_in il is dl ds))
    rescue_owes =
        let q = ap cut_of (asked_of (λ w t u. or_no_cut (rescue w t u))) ∙ cut_of_lem (rescue v i d) in
        subst (Demand3 volume_of v i d) (sym q) (demand3 volume_of v i d (ap agreed (labels_front i d) ∙ p.agree))

    pub verdict_owes : {noBreak : Type 0} → (noBreak ↔ (verdict_in il is dl ds ≡ Ok None)) → Verdict3 volume_of v i d noBreak (cut_of (rescue_in il is dl ds))
    verdict_owes {noBreak} (to, from) = record { consistent = sound; uncut = ((λ n. rescue_owes.uncut.0 (sound.0 n)), (λ w. sound.1 (rescue_owes.uncut.1 w))) }
      where
        told : verdict_in il is dl ds ≡ Ok (verdict v i d)
        told = asked_of (λ w t u. Ok (verdict w t u))

        none_found : verdict_in il is dl ds ≡ Ok None → verdict v i d ≡ None
        none_found e = let z : Ok (verdict v i d) ≡ Ok None = sym told ∙ e in cc

        j : (verdict v i d ≡ None) ↔ Consistent volume_of i d
        j = judged_sound volume_of v i d (ap agreed (labels_front i d) ∙ p.agree)

        sound : noBreak ↔ Consistent volume_of i d
        sound = ((λ n. j.0 (none_found (to n))), (λ w. from (told ∙ ap Ok (j.1 w))))

  -- each break that is found is one of the five
  pub breaks_named : (b : Break) → verdict_in il is dl ds ≡ Ok (Some b) → 1 ≤ b.which
  breaks_named b = go (tape_in il is) (tape_in dl ds)
    where
      last : (i d : Tape) (a : Answer Label) → and_then a (λ f. Ok (verdict (volume_with (given_by f)) i d)) ≡ Ok (Some b) → 1 ≤ b.which
      last i d (Err q) e = let z : ◌≡◌ {A = ℕ} 0 1 = cc in absurd (omega arith)
      last i d (Ok f) e = named (volume_with (given_by f)) i d b cc

      go : (x y : Answer Tape)
          → and_then x (λ i. and_then y (λ d. and_then (labels_of i d) (λ f. Ok (verdict (volume_with (given_by f)) i d)))) ≡ Ok (Some b) → 1 ≤ b.which
      go (Err q) y e = let z : ◌≡◌ {A = ℕ} 0 1 = cc in absurd (omega arith)
      go (Ok i) (Err q) e = let z : ◌≡◌ {A = ℕ} 0 1 = cc in absurd (omega arith)
      go (Ok i) (Ok d) e = last i d (labels_of i d) e

-- a verdict tells of no break where none is answered
pub no_break : (r : Answer (Option declared.Break)) (a : Answer (Option Break)) → judged r ≡ a → (r ≡ Ok None) ↔ (a ≡ Ok None)
no_break r a e = ((λ q. sym e ∙ ap judged q), (λ q. go r (e ∙ q)))
  where
    go : (t : Answer (Option declared.Break)) → judged t ≡ Ok None → t ≡ Ok None
    go (Ok None) q = refl
    go (Ok (Some b)) q = let z : ◌≡◌ {A = ℕ} 0 1 = cc in absurd (omega arith)
    go (Err w) q = let z : ◌≡◌ {A = ℕ} 0 1 = cc in absurd (omega arith)
