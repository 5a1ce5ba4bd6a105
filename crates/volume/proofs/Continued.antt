-- Reading on never hurts (02, Item 14): of two answers of the rescue that keep its promise, where the cut of the first keeps the same bytes of
-- the second read's lists and stores; and of these where they continue the first one's.
use Rattle.refusals.specs.Refusals.{Answer}
use Rattle.std.specs.Prelude.{Some, Ok}
use mathlib.Core.Path.{◌≡◌, sym, ap, ◌∙◌}
use mathlib.Core.List.{List, ◌++◌}
use Prim.Native.Nat.{ℕ}
use lib.ListN.{take}
use Rattle.tape.specs.Tape.{Tape}
use Rattle.tape.specs.Answers.{keeping}
use Rattle.tape.specs.Continued.{Continued}
use Rattle.tape.proofs.Continued.{tape_continued, kept_continued, elements_alike}
use Rattle.label.specs.Label.{Label}
use Rattle.labels.specs.Labels.{labels_of}
use Rattle.labels.proofs.Fronts.{labels_front, labels_on, labels_within}
use Rattle.verdict.specs.Verdict.{Volume, Consistent, Cut}
use Rattle.verdict.specs.Rescue.{rescue}
use Rattle.verdict.specs.Demand.{Leaves}
use Rattle.verdict.proofs.Continued.{never_hurts_lem, leaves_on}
use Rattle.volume.specs.Volume.{volume_with, given_by, agreed, volume_of, or_no_cut}
use Rattle.volume.specs.Answers.{rescued, cut_of, Premises, Rescues}
use Rattle.volume.specs.declared.search.FoundCut.{FoundCut}
use Rattle.volume.specs.Continued.{RescuesOn, LeavesOn}
use Rattle.volume.proofs.Demands.{agreed_label}
use Rattle.volume.proofs.Answering.{asked_labelled}

-- fronts that are consistent have their labels, and so have all tapes with these fronts
labels_of_fronts : (i d i' d' : Tape) (f : Label) (n m : ℕ) → labels_of i d ≡ Ok f → Consistent volume_of (take n i) (take m d)
    → take n i' ≡ take n i → take m d' ≡ take m d → labels_of i' d' ≡ Ok f
labels_of_fronts i d i' d' f n m e (v, l, c) x y =
    let (g, q, r) = agreed_label (labels_of (take n i) (take m d)) v (ap agreed (sym (labels_front (take n i) (take m d))) ∙ l) in
    let same : g ≡ f = cc (labels_within n m i d g q, e) in
    labels_within n m i' d' g (rw (x, y) q) ∙ ap Ok same

-- what is known of a read that has a cut
record HasCut (il is dl ds : List ℕ) (a : Cut) : Type 0 where
  label : Label
  i : Tape
  d : Tape
  says : labels_of i d ≡ Ok label
  premises : Premises il is dl ds i d (volume_with (given_by label))
  leaves : Leaves volume_of (volume_with (given_by label)) i d a.index_kept a.data_kept

has_cut : {il is dl ds : List ℕ} {r : Answer FoundCut} → Rescues il is dl ds r → (a : Cut) → rescued r ≡ Ok a → HasCut il is dl ds a
has_cut {il} {is} {dl} {ds} w a h =
    let (f, k) = asked_labelled (λ v i d. or_no_cut (rescue v i d)) il is dl ds a (sym w.answers ∙ h) in
    let p : Premises il is dl ds k.index k.other (volume_with (given_by f))
    = record { index_tape = k.index_read; data_tape = k.other_read; agree = ap agreed k.says } in
    record {
      label = f;
      i = k.index;
      d = k.other;
      says = k.says;
      premises = p;
      leaves = (w.demand k.index k.other (volume_with (given_by f)) p).sound a (ap cut_of h);
    }

module _ {il is dl ds il' is' dl' ds' : List ℕ} {r : Answer FoundCut} (old : Rescues il is dl ds r) (a : Cut) (h : rescued r ≡ Ok a) where
  pub rescues_on : {r' : Answer FoundCut} → Rescues il' is' dl' ds' r' → keeping a.index_kept il' is' ≡ keeping a.index_kept il is
      → keeping a.data_kept dl' ds' ≡ keeping a.data_kept dl ds → RescuesOn il is dl ds il' is' dl' ds' a (cut_of (rescued r'))
  rescues_on new on_index on_data =
      let c = has_cut old a h in
      let i = c.i in
      let d = c.d in
      let v = volume_with (given_by c.label) in
      let one = c.premises in
      let (i', p, x) = elements_alike il is il' is' a.index_kept c.i c.premises.index_tape on_index in
      let (d', q, y) = elements_alike dl ds dl' ds' a.data_kept c.d c.premises.data_tape on_data in
      let says = labels_of_fronts i d i' d' c.label a.index_kept a.data_kept c.says c.leaves.consistent x y in
      let two : Premises il' is' dl' ds' i' d' (volume_with (given_by c.label)) = record { index_tape = p; data_tape = q; agree = ap agreed says } in
      record {
        reads = record { i = i; d = d; i' = i'; d' = d'; v = v; first = one; second = two };
        never_hurts =
            never_hurts_lem volume_of v i d i' d' (old.demand i d v one) (new.demand i' d' v two) a (ap cut_of h) (record { in_index = x; in_data = y });
      }

  -- what continues a read has all that its cut keeps
  pub cut_continued : Continued il is il' is' → Continued dl ds dl' ds'
      → (keeping a.index_kept il' is' ≡ keeping a.index_kept il is) × (keeping a.data_kept dl' ds' ≡ keeping a.data_kept dl ds)
  cut_continued on_index on_data =
      let c = has_cut old a h in (
        kept_continued on_index c.i c.premises.index_tape a.index_kept c.leaves.in_index,
        kept_continued on_data c.d c.premises.data_tape a.data_kept c.leaves.in_data,
      )

module _ {il is dl ds il' is' dl' ds' : List ℕ} (on_index : Continued il is il' is') (on_data : Continued dl ds dl' ds') where
  pub leaves_continued : (i d : Tape) (v : Volume) → Premises il is dl ds i d v → LeavesOn il is dl ds il' is' dl' ds'
  leaves_continued i d v p =
      let (f, q, e) = agreed_label (labels_of i d) v p.agree in
      let (x, xt) = tape_continued on_index i p.index_tape in
      let (y, yt) = tape_continued on_data d p.data_tape in
      let two : Premises il' is' dl' ds' (i ++ x) (d ++ y) v
      = record { index_tape = xt; data_tape = yt; agree = ap agreed (labels_on i d x y f q) ∙ ap Some e } in
      record {
        reads = record { i = i; d = d; i' = i ++ x; d' = d ++ y; v = v; first = p; second = two };
        leaves = leaves_on volume_of v i d x y;
      }
