-- The verdict and the rescue are refused 4 with the front of a label's text, and its side; an index asked for by its construct with that of its
-- own text; and none of them for anything else (02, Item 6).
use Rattle.std.specs.Prelude.{None, Option, Some, Err, Ok}
use mathlib.Core.Path.{◌≡◌, refl}
use mathlib.Core.Bool.{Bool, true, false, cond}
use mathlib.Core.List.{List, [], ◌∷◌}
use Prim.Native.Nat.{ℕ}
use lib.Dec.{eqb}
use lib.ListN.{length}
use Rattle.refusals.specs.declared.Refusal.TheVariants as refusal
use Rattle.refusals.specs.Refusals.{Answer, and_then}
use Rattle.refusals.proofs.Refusing.{Refuses, refuses_answer, refuses_require, refuses_then}
use Rattle.xml.proofs.Checked.{OfText, another}
use Rattle.tape.specs.Tape.{Tape}
use Rattle.tape.specs.Answers.{tape_in, or_refused}
use Rattle.tape.specs.ReadingSteps.{tape_of}
use Rattle.constructs.specs.Constructs.{Construct, standing}
use Rattle.index.specs.Index.{summary, summary_of, caller_right, index_of}
use Rattle.index.proofs.Fronts.{index_front}
use Rattle.index_values.specs.Tests.{Given}
use Rattle.labels.specs.Labels.{bytes_at, labels_of}
use Rattle.labels.specs.Places.{text_on}
use Rattle.labels.proofs.TextFronts.{OfLabels, labels_of_lem, on_tapes}
use Rattle.labels.proofs.TextFronts.{another as of_another}
use Rattle.volume.specs.Volume.{on_volume, volume_with, given_by, verdict_in, or_no_cut, rescue_in}
use Rattle.volume.specs.Chosen.{construct_at, text_bytes, text_found, text_asked, read_at, chosen_in}
use Rattle.verdict.specs.Verdict.{Volume, Cut, verdict}
use Rattle.verdict.specs.Rescue.{rescue}

-- what is asked of a volume, where the question itself is refused for no text
on_volume_lem : {A : Type 0} (ask : Volume → Tape → Tape → Answer A) → ((s t : List ℕ) (v : Volume) (i d : Tape) → Refuses (OfLabels s t) (ask v i d)) → (il is dl ds : List ℕ)
    → Refuses (OfLabels (text_on (tape_in il is)) (text_on (tape_in dl ds))) (on_volume ask il is dl ds)
on_volume_lem ask q =
    on_tapes (λ i d. and_then (labels_of i d) (λ f. ask (volume_with (given_by f)) i d))
    (λ i d. refuses_then (OfLabels (bytes_at i 2) (bytes_at d 2)) (labels_of i d) _ (labels_of_lem i d) (λ f. q (bytes_at i 2) (bytes_at d 2) (volume_with (given_by f)) i d))

pub verdict_front : (il is dl ds : List ℕ) → Refuses (OfLabels (text_on (tape_in il is)) (text_on (tape_in dl ds))) (verdict_in il is dl ds)
verdict_front = on_volume_lem (λ v i d. Ok (verdict v i d)) (λ s t v i d. refuses_answer (OfLabels s t) (verdict v i d))

no_cut_of : (s t : List ℕ) (o : Option Cut) → Refuses (OfLabels s t) (or_no_cut o)
no_cut_of s t None = record { only = of_another s t refusal.NoCut refl }
no_cut_of s t (Some a) = refuses_answer (OfLabels s t) a

pub rescue_front : (il is dl ds : List ℕ) → Refuses (OfLabels (text_on (tape_in il is)) (text_on (tape_in dl ds))) (rescue_in il is dl ds)
rescue_front = on_volume_lem (λ v i d. or_no_cut (rescue v i d)) (λ s t v i d. no_cut_of s t (rescue v i d))

construct_of : (s : List ℕ) (k : ℕ) (cs : List Construct) → Refuses (OfText s) (construct_at k cs)
unfolding construct_at
construct_of s k [] = record { only = another s refusal.Missing refl }
construct_of s k (c ∷ cs) = go (eqb (length cs) k) (construct_of s k cs)
  where
    go : (b : Bool) → Refuses (OfText s) (construct_at k cs) → Refuses (OfText s) (cond b (Ok c) (construct_at k cs))
    go true q = refuses_answer (OfText s) c
    go false q = q

module _ (g : Given) (letter : ℕ) where
  text_of : (t : Tape) (c : Construct) (o : Option (List ℕ)) → c.text ≡ o → Refuses (OfText (text_bytes o)) (read_at g letter t c)
  text_of t c None e = rw e record { only = another [] refusal.Unreadable refl }
  text_of t c (Some x) e =
      rw e
      (refuses_then (OfText x) (summary_of (index_of g letter c.first x)) _
      (refuses_then (OfText x) (index_of g letter c.first x) _ (index_front x g letter c.first) (λ y. refuses_answer (OfText x) (summary y)))
      (λ y. refuses_answer (OfText x) _))

  found_of : (t : Tape) (a : Answer Construct) → Refuses (OfText (text_found a)) a → Refuses (OfText (text_found a)) (and_then a (read_at g letter t))
  found_of t (Err r) q = record { only = q.only }
  found_of t (Ok c) q = text_of t c c.text refl

  pub chosen_front : (k : ℕ) (l s : List ℕ) → Refuses (OfText (text_asked g.block_size k l s)) (chosen_in g letter k l s)
  unfolding chosen_in text_asked
  chosen_front k l s = refuses_require (OfText (text_asked g.block_size k l s)) (caller_right g letter) refusal.Caller _ (another _ refusal.Caller refl) (go (tape_of l s))
    where
      go : (o : Option Tape)
          → Refuses (OfText (text_found (and_then (or_refused o) (λ t. construct_at k (standing g.block_size t)))))
          (and_then (or_refused o) (λ t. and_then (construct_at k (standing g.block_size t)) (read_at g letter t)))
      go None = record { only = another [] refusal.List refl }
      go (Some t) = found_of t (construct_at k (standing g.block_size t)) (construct_of _ k (standing g.block_size t))
