-- The data partition's chain and the rescue's search, over lists of constructs.
use Rattle.std.specs.Prelude.{None, Option, Some}
use mathlib.Core.Path.{◌≡◌, refl, sym, ap, subst, ◌∙◌}
use mathlib.Core.Logic.{◌⊎◌, inl, inr}
use mathlib.Core.Bool.{Bool, true, false, cond, ◌&&◌}
use mathlib.Core.List.{List, [], ◌∷◌}
use Prim.Native.Nat.{ℕ, ◌<◌}
use native.Mathlib.Omega.{arith}
use lib.ListN.{length}
use lib.Dec.{eqb}
use borrow.Author.Tests.{eqb-true, eq-eqb, ne_eqb}
use Rattle.quantities.specs.Addresses.{Address}
use Rattle.constructs.specs.Constructs.{Construct}
use Rattle.verdict.specs.Verdict.{IndexLinks, Volume, or_else, unless, is_none, is_at, read_index, read_data, follows, chain_break, Cut}
use Rattle.verdict.specs.Rescue.{pointed_block, target, through, chain, cut_at, fits_cut, attempt, cut_among}
use Rattle.constructs.specs.Steps.{Suffix, here, there}
use Rattle.constructs.proofs.Suffixes.{suffix_length, nil_suffix}
use Rattle.constructs.proofs.Fronts.{Below, below_first}

pub or_else_none : {A : Type 0} (x y : Option A) → or_else x y ≡ None → (x ≡ None) × (y ≡ None)
or_else_none None y e = (refl, e)
or_else_none (Some a) y e = (e, let z : ◌≡◌ {A = ℕ} 0 1 = cc in absurd (omega arith))

pub unless_none : {A : Type 0} (b : Bool) (x : A) → unless b x ≡ None → b ≡ true
unless_none true x e = refl
unless_none false x e = let z : ◌≡◌ {A = ℕ} 0 1 = cc in absurd (omega arith)

pub and-true : (a b : Bool) → (a && b) ≡ true → (a ≡ true) × (b ≡ true)
and-true true b e = (refl, e)
and-true false b e = (e, let z : ◌≡◌ {A = ℕ} 0 1 = cc in absurd (omega arith))

pub is_none_none : {A : Type 0} (x : Option A) → is_none x ≡ true → x ≡ None
is_none_none None e = refl
is_none_none (Some a) e = let z : ◌≡◌ {A = ℕ} 0 1 = cc in absurd (omega arith)

-- the construct that a number names is the only one that starts there
pub through_at : (n : ℕ) (d : Construct) (ds es : List Construct) → Below n es → Suffix (d ∷ ds) es → through d.first es ≡ d ∷ ds
unfolding through
through_at n d ds [] w h = absurd (nil_suffix h)
through_at n d ds (e ∷ es) w (here q) = let z : d ≡ e = cc in rw (eq-eqb e.first d.first (ap (λ (x : Construct). x.first) (sym z))) (sym q)
through_at n d ds (e ∷ es) w (there h) =
    rw (ne_eqb e.first d.first (λ q. omega (arith, below_first w.2 h))) (through_at e.first d ds es w.2 h)

pub through_suffix : (k : ℕ) (es : List Construct) → Suffix (through k es) es ⊎ (through k es ≡ [])
unfolding through
through_suffix k [] = inr refl
through_suffix k (e ∷ es) = go (eqb e.first k) (through_suffix k es)
  where
    go : (t : Bool) → Suffix (through k es) es ⊎ (through k es ≡ [])
        → Suffix (cond t (e ∷ es) (through k es)) (e ∷ es) ⊎ (cond t (e ∷ es) (through k es) ≡ [])
    go true h = inl (here refl)
    go false (inl h) = inl (there h)
    go false (inr h) = inr h

module _ (v : Volume) where
  pub chain_suffix : (ds : List Construct) → Suffix (chain v ds) ds
  unfolding chain
  chain_suffix [] = here refl
  chain_suffix (d ∷ ds) = go (is_none (chain_break v (d ∷ ds))) (chain_suffix ds)
    where
      go : (t : Bool) → Suffix (chain v ds) ds → Suffix (cond t (d ∷ ds) (chain v ds)) (d ∷ ds)
      go true h = here refl
      go false h = there h

  pub chain_good : (ds : List Construct) → chain_break v (chain v ds) ≡ None
  unfolding chain
  chain_good [] = unfold chain_break in refl
  chain_good (d ∷ ds) = go (is_none (chain_break v (d ∷ ds))) refl (chain_good ds)
    where
      go : (t : Bool) → is_none (chain_break v (d ∷ ds)) ≡ t → chain_break v (chain v ds) ≡ None → chain_break v (cond t (d ∷ ds) (chain v ds)) ≡ None
      go true e h = is_none_none (chain_break v (d ∷ ds)) e
      go false e h = h

  -- a chain's front is a chain
  pub good_suffix : {ds es : List Construct} → Suffix ds es → chain_break v es ≡ None → chain_break v ds ≡ None
  unfolding chain_break
  good_suffix (here q) e = rw q e
  good_suffix (there {y} {ys} h) e = good_suffix h (or_else_none (chain_break v ys) _ e).0

  -- and each is a front of the longest
  pub good_chain : {ds es : List Construct} → Suffix ds es → chain_break v ds ≡ None → Suffix ds (chain v es)
  unfolding chain
  good_chain {ds} {es = []} h e = h
  good_chain {ds} {es = f ∷ fs} (here q) e = let z : chain_break v (f ∷ fs) ≡ None = cc in rw z (here q)
  good_chain {ds} {es = f ∷ fs} (there h) e = go (is_none (chain_break v (f ∷ fs))) (good_chain h e)
    where
      go : (t : Bool) → Suffix ds (chain v fs) → Suffix ds (cond t (f ∷ fs) (chain v fs))
      go true k = there h
      go false k = k

  -- where a follows holds, the target is where the back pointer points
  follows_target : (x : Option IndexLinks) (d : Construct) (y : Option IndexLinks) → follows v x d y ≡ true → target x ≡ d.first
  unfolding follows
  follows_target None d y h = let z : ◌≡◌ {A = ℕ} 0 1 = cc in absurd (omega arith)
  follows_target (Some x) d None h = let z : ◌≡◌ {A = ℕ} 0 1 = cc in absurd (omega arith)
  follows_target (Some x) d (Some y) h = at x.back (and-true _ _ h).0
    where
      at : (p : Option Address) → is_at p v.data_letter d.first ≡ true → pointed_block p ≡ d.first
      at None e = let z : ◌≡◌ {A = ℕ} 0 1 = cc in absurd (omega arith)
      at (Some p) e = eqb-true p.block d.first (and-true (eqb p.letter v.data_letter) (eqb p.block d.first) e).1

  module _ (li ld : List ℕ) (n : ℕ) (ds : List Construct) (w : Below n ds) where
    -- a pair of constructs at which both tapes can be cut
    pub record Pair (cs : List Construct) (a : Cut) : Type 0 where
      pub c : Construct
      pub cs' : List Construct
      pub d : Construct
      pub ds' : List Construct
      pub in_i : Suffix (c ∷ cs') cs
      pub in_d : Suffix (d ∷ ds') ds
      pub fit : fits_cut v li ld c d ≡ true
      pub is : a ≡ cut_at v c cs' d ds'

    pair_there : {c : Construct} {cs : List Construct} {a : Cut} → Pair cs a → Pair (c ∷ cs) a
    pair_there p = record { c = p.c; cs' = p.cs'; d = p.d; ds' = p.ds'; in_i = there p.in_i; in_d = p.in_d; fit = p.fit; is = p.is }

    attempt_sound : (c : Construct) (cs es : List Construct) (a : Cut) → Suffix es ds → attempt v li ld c cs es ≡ Some a → Pair (c ∷ cs) a
    attempt_sound c cs [] a h e = let z : ◌≡◌ {A = ℕ} 0 1 = cc in absurd (omega arith)
    attempt_sound c cs (d ∷ es) a h e = go (fits_cut v li ld c d) refl e
      where
        go : (t : Bool) → fits_cut v li ld c d ≡ t → cond t (Some (cut_at v c cs d es)) None ≡ Some a → Pair (c ∷ cs) a
        go true q e = record { c = c; cs' = cs; d = d; ds' = es; in_i = here refl; in_d = h; fit = q; is = cc }
        go false q e = let z : ◌≡◌ {A = ℕ} 0 1 = cc in absurd (omega arith)

    pub search_sound : (cs : List Construct) (a : Cut) → cut_among v li ld ds cs ≡ Some a → Pair cs a
    unfolding cut_among
    search_sound [] a e = let z : ◌≡◌ {A = ℕ} 0 1 = cc in absurd (omega arith)
    search_sound (c ∷ cs) a e = go (attempt v li ld c cs (through (target (read_index v c)) ds)) refl e (search_sound cs a)
      where
        part : Suffix (through (target (read_index v c)) ds) ds ⊎ (through (target (read_index v c)) ds ≡ [])
            → attempt v li ld c cs (through (target (read_index v c)) ds) ≡ Some a → Pair (c ∷ cs) a
        part (inl h) q = attempt_sound c cs _ a h q
        part (inr h) q = let z : ◌≡◌ {A = ℕ} 0 1 = cc in absurd (omega arith)

        go : (o : Option Cut) → attempt v li ld c cs (through (target (read_index v c)) ds) ≡ o → or_else o (cut_among v li ld ds cs) ≡ Some a
            → (cut_among v li ld ds cs ≡ Some a → Pair cs a) → Pair (c ∷ cs) a
        go None q e ih = pair_there (ih e)
        go (Some a') q e ih = part (through_suffix (target (read_index v c)) ds) (q ∙ e)

    -- the search finds that pair, or one further back
    abbrev pub Best : List Construct → Cut → Type 0
    Best cs a = (b : Cut) × (cut_among v li ld ds cs ≡ Some b) × ((b ≡ a) ⊎ (a.index_construct < b.index_construct))

    attempt_index : (c : Construct) (cs es : List Construct) (a : Cut) → attempt v li ld c cs es ≡ Some a → a.index_construct ≡ length cs
    attempt_index c cs [] a e = let z : ◌≡◌ {A = ℕ} 0 1 = cc in absurd (omega arith)
    attempt_index c cs (d ∷ es) a e = go (fits_cut v li ld c d) e
      where
        go : (t : Bool) → cond t (Some (cut_at v c cs d es)) None ≡ Some a → a.index_construct ≡ length cs
        go true q = let z : cut_at v c cs d es ≡ a = cc in ap (λ (x : Cut). x.index_construct) (sym z)
        go false q = let z : ◌≡◌ {A = ℕ} 0 1 = cc in absurd (omega arith)

    found : (c : Construct) (cs : List Construct) (d : Construct) (ds' : List Construct) → Suffix (d ∷ ds') ds → fits_cut v li ld c d ≡ true
        → cut_among v li ld ds (c ∷ cs) ≡ Some (cut_at v c cs d ds')
    unfolding cut_among
    found c cs d ds' h f =
        let t : target (read_index v c) ≡ d.first = follows_target (read_index v c) d (read_data v d) (and-true _ _ f).0 in
        let q : through (target (read_index v c)) ds ≡ d ∷ ds' = ap (λ (k : ℕ). through k ds) t ∙ through_at n d ds' ds w h in
        rw (q, f)

    pub search_best : (cs : List Construct) (c : Construct) (cs' : List Construct) (d : Construct) (ds' : List Construct)
        → Suffix (c ∷ cs') cs → Suffix (d ∷ ds') ds → fits_cut v li ld c d ≡ true → Best cs (cut_at v c cs' d ds')
    unfolding cut_among
    search_best [] c cs' d ds' h hd f = absurd (nil_suffix h)
    search_best (e ∷ es) c cs' d ds' (here q) hd f =
        subst (λ (l : List Construct). Best l (cut_at v c cs' d ds')) q (cut_at v c cs' d ds', found c cs' d ds' hd f, inl refl)
    search_best (e ∷ es) c cs' d ds' (there h) hd f = go (attempt v li ld e es (through (target (read_index v e)) ds)) refl (search_best es c cs' d ds' h hd f)
      where
        go : (o : Option Cut) → attempt v li ld e es (through (target (read_index v e)) ds) ≡ o → Best es (cut_at v c cs' d ds')
            → (b : Cut) × (or_else o (cut_among v li ld ds es) ≡ Some b) × ((b ≡ cut_at v c cs' d ds') ⊎ (length cs' < b.index_construct))
        go None q ih = ih
        go (Some b) q ih = (b, refl, inr (omega (arith, attempt_index e es (through (target (read_index v e)) ds) b q, suffix_length h)))
