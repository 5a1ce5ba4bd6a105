-- Demand 3: the rescue against the verdict.
use Rattle.std.specs.Prelude.{None, Option, Some}
use mathlib.Core.Path.{◌≡◌, refl, sym, ap, subst, ◌∙◌}
use mathlib.Core.Logic.{◌⊎◌}
use mathlib.Core.Bool.{true}
use mathlib.Core.List.{List, [], ◌∷◌}
use Prim.Native.Nat.{ℕ, suc, ◌≤◌, ◌<◌}
use native.Mathlib.Omega.{arith}
use lib.ListN.{length, take}
use lib.Seq.{length-take-le}
use borrow.Author.Tests.{eqb-true, eq-eqb}
use Rattle.tape.specs.Tape.{Element}
use Rattle.constructs.specs.Constructs.{Construct, scan, scan_start, standing, data_lengths}
use Rattle.verdict.specs.Verdict.{Volume, numbered, is_none, ends_with, read_index, read_data, follows, chain_break, tied, bad_file_in, bad_file, verdict, Cut}
use Rattle.verdict.specs.Rescue.{chain, cut_at, fits_cut, rescue}
use Rattle.constructs.specs.Steps.{Suffix}
use Rattle.constructs.proofs.Suffixes.{suffix_trans}
use Rattle.constructs.proofs.Fronts.{standing_front, standing_at, data_lengths_from_front, Below, standing_below, below_suffix}
use Rattle.verdict.proofs.Chains.{or_else_none, unless_none, and-true, is_none_none, chain_suffix, chain_good, good_suffix, good_chain, search_sound, search_best}

numbered_none : (w : ℕ) (o : Option ℕ) → numbered w o ≡ None → o ≡ None
numbered_none w None e = refl
numbered_none w (Some n) e = let z : ◌≡◌ {A = ℕ} 0 1 = cc in absurd (omega arith)

-- a tape ends_with with a standing construct: which, and where
ends_with_at : (t : List Element) (cs : List Construct) → ends_with t cs ≡ true → (c : Construct) × (cs' : List Construct) × (cs ≡ c ∷ cs') × (c.end ≡ length t)
ends_with_at t [] e = let z : ◌≡◌ {A = ℕ} 0 1 = cc in absurd (omega arith)
ends_with_at t (c ∷ cs') e = (c, cs', refl, eqb-true c.end (length t) e)

module _ (v : Volume) where
  -- a verdict with no break, by its parts
  pub record Sound (i d : List Element) : Type 0 where
    pub c : Construct
    pub cs : List Construct
    pub e : Construct
    pub es : List Construct
    pub is_i : standing v.size i ≡ c ∷ cs
    pub is_d : standing v.size d ≡ e ∷ es
    pub up_i : c.end ≡ length i
    pub up_d : e.end ≡ length d
    pub good : chain_break v (e ∷ es) ≡ None
    pub tie : follows v (read_index v c) e (read_data v e) ≡ true
    pub files : bad_file_in v (read_index v c) (data_lengths i) (data_lengths d) ≡ None

  abbrev Last : List Element → Type 0
  Last t = (c : Construct) × (cs : List Construct) × (standing v.size t ≡ c ∷ cs) × (c.end ≡ length t)

  from_parts : (i d : List Element) → Last i → Last d → chain_break v (standing v.size d) ≡ None
      → tied v (standing v.size i) (standing v.size d) ≡ true
      → bad_file v (standing v.size i) (data_lengths i) (data_lengths d) ≡ None
      → Sound i d
  from_parts i d x y g t f =
      record {
        c = x.0;
        cs = x.1;
        e = y.0;
        es = y.1;
        is_i = x.2;
        is_d = y.2;
        up_i = x.3;
        up_d = y.3;
        good = rw y.2 at g;
        tie = rw (x.2, y.2) at t;
        files = rw x.2 at f;
      }

  pub none_sound : (i d : List Element) → verdict v i d ≡ None → Sound i d
  unfolding verdict
  none_sound i d h =
      let h₁ = or_else_none _ _ h in
      let h₂ = or_else_none _ _ h₁.1 in
      let h₃ = or_else_none _ _ h₂.1 in
      let h₄ = or_else_none _ _ h₃.1 in
      from_parts i d
      (ends_with_at i (standing v.size i) (unless_none _ _ h₁.0))
      (ends_with_at d (standing v.size d) (unless_none _ _ h₂.0))
      (numbered_none 3 _ h₃.0)
      (unless_none _ _ h₄.0)
      (numbered_none 5 _ h₄.1)

  sound_none : (i d : List Element) → Sound i d → verdict v i d ≡ None
  unfolding verdict
  sound_none i d s = rw (s.is_i, s.is_d, eq-eqb _ _ s.up_i, eq-eqb _ _ s.up_d, s.good, s.tie, s.files)

  module _ (i d : List Element) where
    -- the construct lists of two tapes' fronts that can be kept together
    pub record Kept (n m : ℕ) : Type 0 where
      pub c : Construct
      pub cs : List Construct
      pub e : Construct
      pub es : List Construct
      pub in_i : Suffix (c ∷ cs) (standing v.size i)
      pub in_d : Suffix (e ∷ es) (standing v.size d)
      pub at_i : c.end ≡ n
      pub at_d : e.end ≡ m
      pub good : chain_break v (e ∷ es) ≡ None
      pub fit : fits_cut v (data_lengths i) (data_lengths d) c e ≡ true

    size_front : (t : List Element) (c : Construct) (n : ℕ) → c.end ≡ n → data_lengths (take n t) ≡ take c.end (data_lengths t)
    size_front t c n h = data_lengths_from_front n 4 true t ∙ ap (λ (k : ℕ). take k (data_lengths t)) (sym h)

    pub kept : (n m : ℕ) → n ≤ length i → m ≤ length d → verdict v (take n i) (take m d) ≡ None → Kept n m
    kept n m hn hm h =
        let s = none_sound (take n i) (take m d) h in
        let un : s.c.end ≡ n = s.up_i ∙ length-take-le n i hn in
        let um : s.e.end ≡ m = s.up_d ∙ length-take-le m d hm in
        record {
          c = s.c;
          cs = s.cs;
          e = s.e;
          es = s.es;
          in_i = rw s.is_i at (standing_front v.size n i);
          in_d = rw s.is_d at (standing_front v.size m d);
          at_i = un;
          at_d = um;
          good = s.good;
          fit = rw s.tie (ap is_none (rw (size_front i s.c n un, size_front d s.e m um) at s.files));
        }

    pub keep : (n m : ℕ) → Kept n m → verdict v (take n i) (take m d) ≡ None
    keep n m k =
        let li = standing_at v.size i k.c k.cs k.in_i in
        let ld = standing_at v.size d k.e k.es k.in_d in
        let f = and-true (follows v (read_index v k.c) k.e (read_data v k.e)) _ k.fit in
        sound_none (take n i) (take m d) record {
          c = k.c;
          cs = k.cs;
          e = k.e;
          es = k.es;
          is_i = subst (λ (x : ℕ). standing v.size (take x i) ≡ k.c ∷ k.cs) k.at_i li.1;
          is_d = subst (λ (x : ℕ). standing v.size (take x d) ≡ k.e ∷ k.es) k.at_d ld.1;
          up_i = omega (arith, length-take-le n i (omega arith));
          up_d = omega (arith, length-take-le m d (omega arith));
          good = k.good;
          tie = f.0;
          files = rw (size_front i k.c n k.at_i, size_front d k.e m k.at_d) (is_none_none _ f.1);
        }

    below : Below (scan v.size scan_start d).at (chain v (standing v.size d))
    below = below_suffix _ (chain_suffix v (standing v.size d)) (standing_below v.size d)

    -- the rescue's answer is a pair that can be kept
    pub answer : (a : Cut) → rescue v i d ≡ Some a
        → (k : Kept a.index_kept a.data_kept) × (a ≡ cut_at v k.c k.cs k.e k.es)
    unfolding rescue
    answer a h =
        let p = search_sound v (data_lengths i) (data_lengths d) _ (chain v (standing v.size d)) below (standing v.size i) a h in (
          record {
            c = p.c;
            cs = p.cs';
            e = p.d;
            es = p.ds';
            in_i = p.in_i;
            in_d = suffix_trans p.in_d (chain_suffix v (standing v.size d));
            at_i = ap (λ (x : Cut). x.index_kept) (sym p.is);
            at_d = ap (λ (x : Cut). x.data_kept) (sym p.is);
            good = good_suffix v p.in_d (chain_good v (standing v.size d));
            fit = p.fit;
          },
          p.is,
        )

    -- how many constructs a pair that can be kept keeps
    pub kept_count : (n m : ℕ) (k : Kept n m)
        → (length (standing v.size (take n i)) ≡ suc (length k.cs)) × (length (standing v.size (take m d)) ≡ suc (length k.es))
    kept_count n m k = (
      ap length (subst (λ (x : ℕ). standing v.size (take x i) ≡ k.c ∷ k.cs) k.at_i (standing_at v.size i k.c k.cs k.in_i).1),
      ap length (subst (λ (x : ℕ). standing v.size (take x d) ≡ k.e ∷ k.es) k.at_d (standing_at v.size d k.e k.es k.in_d).1),
    )

    pub best : (n m : ℕ) (k : Kept n m) → (b : Cut) × (rescue v i d ≡ Some b) × ((b ≡ cut_at v k.c k.cs k.e k.es) ⊎ (length k.cs < b.index_construct))
    unfolding rescue
    best n m k =
        search_best v (data_lengths i) (data_lengths d) _ (chain v (standing v.size d)) below (standing v.size i)
        k.c k.cs k.e k.es k.in_i (good_chain v k.in_d k.good) k.fit
