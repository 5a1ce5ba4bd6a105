-- Reading on never hurts (02, Item 14): what keeps demand 3 on the tapes of two reads, of which the second has the elements that the first
-- one's cut keeps, keeps of the second at least as many index constructs.
use Rattle.std.specs.Prelude.{None, Option, Some}
use mathlib.Core.Path.{◌≡◌, refl, sym, ap, subst, ◌∙◌}
use mathlib.Core.Logic.{◌⊎◌, inl, inr}
use mathlib.Core.List.{◌∷◌, ◌++◌}
use Prim.Native.Nat.{ℕ, ◌≤◌, ◌<◌, min}
use native.Mathlib.Omega.{arith}
use lib.ListN.{length, take, length-append, length-take}
use lib.Seq.{take-append-le, length-take-le}
use Rattle.tape.specs.Tape.{Tape}
use Rattle.constructs.specs.Constructs.{standing}
use Rattle.verdict.specs.Verdict.{IndexLinks, Volume, read_index, Cut}
use Rattle.verdict.specs.Demand.{Demand3, Leaves, LastGeneration, keeps}
use Rattle.verdict.specs.Continued.{KeptAlike, NeverHurts}

-- a cut is its five numbers
same_cut : (a b : Cut) → b.index_construct ≡ a.index_construct → b.data_construct ≡ a.data_construct → b.index_kept ≡ a.index_kept
    → b.data_kept ≡ a.data_kept → b.generation ≡ a.generation → b ≡ a
same_cut a b p q r s t = λ k. record { index_construct = p k; data_construct = q k; index_kept = r k; data_kept = s k; generation = t k }

-- the same cut, or more index constructs: at least as many
pub at_least : (a b : Cut) → (b ≡ a) ⊎ (a.index_construct < b.index_construct) → a.index_construct ≤ b.index_construct
at_least a b (inl q) = omega (arith, ap (λ (c : Cut). c.index_construct) q)
at_least a b (inr q) = omega arith

module _ (labels : Tape → Tape → Option Volume) (v : Volume) (i d : Tape) where
  -- tapes that begin with others: every pair of places to stop that left a consistent volume leaves one
  pub leaves_on : (x y : Tape) (n m : ℕ) → Leaves labels v i d n m → Leaves labels v (i ++ x) (d ++ y) n m
  leaves_on x y n m l =
      record {
        in_index = let h = l.in_index in omega (arith, length-append i x);
        in_data = let h = l.in_data in omega (arith, length-append d y);
        consistent = rw (take-append-le n i x l.in_index, take-append-le m d y l.in_data) l.consistent;
      }

  module _ (i' d' : Tape) where
    -- the last index of the same elements has one generation
    one_generation : (n g g' : ℕ) → take n i' ≡ take n i → LastGeneration labels v i d n g → LastGeneration labels v i' d' n g' → g ≡ g'
    one_generation n g g' h p q =
        let e : p.last ∷ p.before ≡ q.last ∷ q.before = sym p.stands ∙ ap (standing v.size) (sym h) ∙ q.stands in
        let same : p.last ≡ q.last = cc in
        let r : Some p.index ≡ Some q.index = sym p.reads ∙ ap (read_index v) same ∙ q.reads in
        let k : p.index ≡ q.index = cc in
        p.is ∙ ap (λ (z : IndexLinks). z.generation) k ∙ sym q.is

    module _ {old new : Option Cut} (o : Demand3 labels v i d old) (w : Demand3 labels v i' d' new) (a : Cut) (h : old ≡ Some a) (k : KeptAlike i d i' d' a) where
      -- what the cut keeps of the first read is there in the second
      within : (n : ℕ) (t t' : Tape) → n ≤ length t → take n t' ≡ take n t → n ≤ length t'
      within n t t' few e =
          let x : min n (length t') ≡ n = sym (length-take n t') ∙ ap length e ∙ length-take-le n t few in
          omega arith

      pair : Leaves labels v i' d' a.index_kept a.data_kept
      pair =
          let l = o.sound a h in
          record {
            in_index = within a.index_kept i i' l.in_index k.in_index;
            in_data = within a.data_kept d d' l.in_data k.in_data;
            consistent = rw (k.in_index, k.in_data) l.consistent;
          }

      alike : keeps labels v i' d' a.index_kept ≡ keeps labels v i d a.index_kept
      alike = ap (λ (t : Tape). length (standing v.size t)) k.in_index

      module _ (b : Cut) (e : new ≡ Some b) where
        -- where the places to stop are the same, all is
        all_same : a.index_kept ≡ b.index_kept → a.data_kept ≡ b.data_kept → b ≡ a
        all_same p q =
            let c = o.numbers a h in
            let f = w.numbers b e in
            let m : length (standing v.size (take b.data_kept d')) ≡ length (standing v.size (take a.data_kept d))
            = ap (λ (n : ℕ). length (standing v.size (take n d'))) (sym q) ∙ ap (λ (t : Tape). length (standing v.size t)) k.in_data in
            let g = subst (λ (n : ℕ). LastGeneration labels v i' d' n b.generation) (sym p) (w.generation b e) in
            same_cut a b (omega (arith, c.0, f.0, alike, ap (keeps labels v i' d') p)) (omega (arith, c.1, f.1, m)) (sym p) (sym q)
            (sym (one_generation a.index_kept a.generation b.generation k.in_index (o.generation a h) g))

        same_or_more_lem : ((a.index_kept ≡ b.index_kept) × (a.data_kept ≡ b.data_kept)) ⊎ (keeps labels v i' d' a.index_kept < keeps labels v i' d' b.index_kept)
            → (b ≡ a) ⊎ (a.index_construct < b.index_construct)
        same_or_more_lem (inl (p, q)) = inl (all_same p q)
        same_or_more_lem (inr m) = inr (omega (arith, alike, (o.numbers a h).0, (w.numbers b e).0))

        found : NeverHurts labels v i d i' d' a new
        found =
            let s = same_or_more_lem (w.best b e a.index_kept a.data_kept pair) in
            record {
              cut = b;
              answers = e;
              as_many = omega (arith, at_least a b s, (o.numbers a h).0, (w.numbers b e).0);
              same_or_more = s;
              still = pair;
            }

      pub never_hurts_lem : NeverHurts labels v i d i' d' a new
      never_hurts_lem = go new refl
        where
          go : (n : Option Cut) → new ≡ n → NeverHurts labels v i d i' d' a new
          go None e = absurd (w.complete e a.index_kept a.data_kept pair)
          go (Some b) e = found b e
