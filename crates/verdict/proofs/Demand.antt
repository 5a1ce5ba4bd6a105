-- Demand 3 holds.
use Rattle.std.specs.Prelude.{None, Option, Some}
use mathlib.Core.Path.{◌≡◌, refl, sym, ap, subst, subst₂, ◌∙◌}
use mathlib.Core.Logic.{◌⊎◌, inl, inr}
use mathlib.Core.Bool.{true}
use mathlib.Core.List.{List, [], ◌∷◌}
use Prim.Native.Nat.{ℕ, suc, ◌≤◌, ◌<◌}
use native.Mathlib.Omega.{arith}
use native.Mathlib.Decide.{dec_le}
use lib.ListN.{length, take}
use lib.Seq.{length-take-le, take-length, take-take}
use Rattle.tape.specs.Tape.{Element}
use Rattle.constructs.specs.Constructs.{Construct, standing}
use Rattle.verdict.specs.Verdict.{IndexLinks, Volume, read_index, read_data, follows, verdict, Consistent, Cut}
use Rattle.verdict.specs.Rescue.{generation_of, cut_at, rescue}
use Rattle.verdict.specs.Demand.{Demand3, Leaves, LastGeneration, keeps}
use Rattle.constructs.proofs.Suffixes.{suffix_length}
use Rattle.constructs.proofs.Fronts.{standing_at, standing_front, standing_short}
use Rattle.verdict.proofs.Chains.{and-true}
use Rattle.verdict.proofs.Cuts.{none_sound, Kept, kept, keep, kept_count, answer, best}

module _ (labels : List Element → List Element → Option Volume) (v : Volume) (i d : List Element) (agree : labels (take 4 i) (take 4 d) ≡ Some v) where
  -- a tape that endsWith with a standing construct has its four label elements
  long : (b : ℕ) (t : List Element) (c : Construct) (cs : List Construct) → standing b t ≡ c ∷ cs → 4 ≤ length t
  long b t c cs h = go (dec_le 4 (length t))
    where
      go : Dec (4 ≤ length t) → 4 ≤ length t
      go (yes p) = p
      go (no p) = let q : standing b t ≡ [] = standing_short b t (omega arith) in let z : ◌≡◌ {A = ℕ} 0 1 = cc in absurd (omega arith)

  -- the labels of such fronts are the labels of the whole
  labels_front : (n m : ℕ) → 4 ≤ n → 4 ≤ m → labels (take 4 (take n i)) (take 4 (take m d)) ≡ Some v
  labels_front n m hn hm = rw (take-take 4 n i hn, take-take 4 m d hm) agree

  leaves_kept : (n m : ℕ) → Leaves labels v i d n m → Kept v i d n m
  leaves_kept n m l =
      let w = l.consistent in
      let s = none_sound w.0 (take n i) (take m d) w.2 in
      let hn : 4 ≤ n = omega (arith, long w.0.size (take n i) s.c s.cs s.is_i, length-take-le n i l.in_index) in
      let hm : 4 ≤ m = omega (arith, long w.0.size (take m d) s.e s.es s.is_d, length-take-le m d l.in_data) in
      let q : w.0 ≡ v = cc (labels_front n m hn hm, w.1) in
      kept v i d n m l.in_index l.in_data (subst (λ (x : Volume). verdict x (take n i) (take m d) ≡ None) q w.2)

  kept_leaves : (n m : ℕ) → Kept v i d n m → Leaves labels v i d n m
  kept_leaves n m k =
      let li = standing_at v.size i k.c k.cs k.in_i in
      let ld = standing_at v.size d k.e k.es k.in_d in
      let h = keep v i d n m k in
      let s = none_sound v (take n i) (take m d) h in
      let ln : n ≤ length i = omega arith in
      let lm : m ≤ length d = omega arith in
      let hn : 4 ≤ n = omega (arith, long v.size (take n i) s.c s.cs s.is_i, length-take-le n i ln) in
      let hm : 4 ≤ m = omega (arith, long v.size (take m d) s.e s.es s.is_d, length-take-le m d lm) in
      record { in_index = ln; in_data = lm; consistent = (v, labels_front n m hn hm, h) }

  numbers : (a : Cut) → rescue v i d ≡ Some a
      → (keeps labels v i d a.index_kept ≡ suc a.index_construct) × (length (standing v.size (take a.data_kept d)) ≡ suc a.data_construct)
  numbers a h =
      let r = answer v i d a h in
      let k = kept_count v i d a.index_kept a.data_kept r.0 in
      (omega (arith, k.0, ap (λ (x : Cut). x.index_construct) r.1), omega (arith, k.1, ap (λ (x : Cut). x.data_construct) r.1))

  -- what follows another is sound
  sound_follows : (o : Option IndexLinks) (e : Construct) (y : Option IndexLinks) → follows v o e y ≡ true → (x : IndexLinks) × (o ≡ Some x)
  unfolding follows
  sound_follows None e y h = let z : ◌≡◌ {A = ℕ} 0 1 = cc in absurd (omega arith)
  sound_follows (Some x) e y h = (x, refl)

  generation : (a : Cut) → rescue v i d ≡ Some a → LastGeneration labels v i d a.index_kept a.generation
  generation a h =
      let r = answer v i d a h in
      let k = r.0 in
      let x = sound_follows (read_index v k.c) k.e (read_data v k.e) (and-true _ _ k.fit).0 in
      record {
        last = k.c;
        before = k.cs;
        index = x.0;
        stands = subst (λ (n : ℕ). standing v.size (take n i) ≡ k.c ∷ k.cs) k.at_i (standing_at v.size i k.c k.cs k.in_i).1;
        reads = x.1;
        is = ap (λ (b : Cut). b.generation) r.1 ∙ ap generation_of x.1;
      }

  complete : rescue v i d ≡ None → (n m : ℕ) → Leaves labels v i d n m → ⊥
  complete h n m l =
      let b = best v i d n m (leaves_kept n m l) in
      let z : ◌≡◌ {A = ℕ} 0 1 = cc (h, b.1) in
      omega arith

  best_pair : (a : Cut) → rescue v i d ≡ Some a → (n m : ℕ) → Leaves labels v i d n m
      → ((n ≡ a.index_kept) × (m ≡ a.data_kept)) ⊎ (keeps labels v i d n < keeps labels v i d a.index_kept)
  best_pair a h n m l = go (leaves_kept n m l)
    where
      from : (k : Kept v i d n m) → (a ≡ cut_at v k.c k.cs k.e k.es) ⊎ (length k.cs < a.index_construct)
          → ((n ≡ a.index_kept) × (m ≡ a.data_kept)) ⊎ (keeps labels v i d n < keeps labels v i d a.index_kept)
      from k (inl q) = inl (omega (arith, ap (λ (x : Cut). x.index_kept) q), omega (arith, ap (λ (x : Cut). x.data_kept) q))
      from k (inr q) = inr (omega (arith, (kept_count v i d n m k).0, (numbers a h).0))

      go : Kept v i d n m
          → ((n ≡ a.index_kept) × (m ≡ a.data_kept)) ⊎ (keeps labels v i d n < keeps labels v i d a.index_kept)
      go k =
          let b = best v i d n m k in
          let q : b.0 ≡ a = cc (h, b.1) in
          from k (subst (λ (x : Cut). (x ≡ cut_at v k.c k.cs k.e k.es) ⊎ (length k.cs < x.index_construct)) q b.2)

  whole : Consistent labels i d → Leaves labels v i d (length i) (length d)
  whole w = record { in_index = omega arith; in_data = omega arith; consistent = rw (take-length i, take-length d) w }

  uncut_to : Consistent labels i d → (a : Cut) × (rescue v i d ≡ Some a) × (a.index_kept ≡ length i) × (a.data_kept ≡ length d)
  uncut_to w =
      let b = best v i d (length i) (length d) (leaves_kept _ _ (whole w)) in
      let p = pick b.0 (best_pair b.0 b.1 _ _ (whole w)) in
      (b.0, b.1, p.0, p.1)
    where
      pick : (a : Cut) → ((length i ≡ a.index_kept) × (length d ≡ a.data_kept)) ⊎ (keeps labels v i d (length i) < keeps labels v i d a.index_kept)
          → (a.index_kept ≡ length i) × (a.data_kept ≡ length d)
      pick a (inl q) = (sym q.0, sym q.1)
      pick a (inr q) = absurd (omega (arith, suffix_length (standing_front v.size a.index_kept i), ap (λ (t : List Element). length (standing v.size t)) (take-length i)))

  uncut_from : (a : Cut) × (rescue v i d ≡ Some a) × (a.index_kept ≡ length i) × (a.data_kept ≡ length d) → Consistent labels i d
  uncut_from (a, h, p, q) =
      subst₂ (λ (x y : List Element). Consistent labels x y)
      (ap (λ (n : ℕ). take n i) p ∙ take-length i)
      (ap (λ (n : ℕ). take n d) q ∙ take-length d)
      (kept_leaves a.index_kept a.data_kept (answer v i d a h).0).consistent

  pub demand3 : Demand3 labels v i d (rescue v i d)
  demand3 = record {
    sound = λ a h. kept_leaves a.index_kept a.data_kept (answer v i d a h).0;
    numbers = numbers;
    generation = generation;
    complete = complete;
    best = best_pair;
    uncut = (uncut_to, uncut_from);
  }
