-- The chain of the data partition, one construct more at a time.
use Rattle.std.specs.Prelude.{None, Option, Some, is_some}
use mathlib.Core.Path.{◌≡◌, refl, sym, ap, subst, ◌∙◌}
use mathlib.Core.Bool.{Bool, true, false, not}
use mathlib.Core.List.{List, [], ◌∷◌}
use Prim.Native.Nat.{ℕ, suc, ◌+◌, ◌-◌, ◌≤◌, ◌<◌}
use native.Mathlib.Omega.{arith}
use lib.ListN.{length, set, length-drop}
use lib.Seq.{get_or-set_same, get_or-set_other, drop-length}
use Rattle.quantities.specs.Addresses.{Address}
use Rattle.quantities.specs.declared.Generation.{Generation}
use Rattle.constructs.specs.Constructs.{Construct}
use Rattle.constructs.specs.TableSteps.{bounds_in}
use Rattle.constructs.specs.declared.Bounds.{Bounds}
use Rattle.constructs.specs.Steps.{Suffix, here, there}
use Rattle.constructs.proofs.Suffixes.{suffix_length, suffix_trans, nil_suffix}
use Rattle.verdict.specs.Verdict.{IndexLinks, Volume, is_none, read_text, read_data, follows, begins_chain, chained, chain_break}
use Rattle.verdict.specs.Rescue.{generation_of}
use Rattle.verdict.proofs.Chains.{or_else_none, unless_none}
use Rattle.verdict.specs.Steps.{firsts}
use Rattle.verdict.proofs.Orders.{firsts_suffix, firsts_next, firsts_all, break_at, chain_stops, chain_grows, chain_whole}
use Rattle.index_values.specs.Tests.{Given}
use Rattle.index.specs.Index.{index_of}
use Rattle.index.specs.Steps.{back_of}
use Rattle.index.specs.declared.read.Location.{Location}
use Rattle.std.specs.Bool.{then_some}
use Rattle.volume.specs.Volume.{soundly, volume_with}
use Rattle.volume.specs.Steps.{Link, link_of, brief_link, joined, bounds_text, Located, Listed, last_generation, linked, LinksAt, Generations, Chains, ChainsOf}
use Rattle.volume.specs.declared.sound.Brief.{Brief}
use Rattle.volume.proofs.Briefs.{read_bytes, joined_follows}

abbrev link_generation : Option Link → ℕ
link_generation None = 0
link_generation (Some t) = t.generation

abbrev link_back : Option Link → Option Address
link_back None = None
link_back (Some t) = t.back

-- what is read of a sound index is its generation and its back pointer; of no index there is nothing
pub link_read : (o : Option IndexLinks) (b : Brief) → brief_link (Some b) ≡ link_of o
    → (x : IndexLinks) × (o ≡ Some x) × (x.generation ≡ b.generation.0) × (x.back ≡ back_of b.back)
link_read None b e = let z : ◌≡◌ {A = ℕ} 0 1 = cc in absurd (omega arith)
link_read (Some x) b e = (x, refl, sym (ap link_generation e), sym (ap link_back e))

pub link_none : (o : Option IndexLinks) → None ≡ link_of o → o ≡ None
link_none None e = refl
link_none (Some x) e = let z : ◌≡◌ {A = ℕ} 0 1 = cc in absurd (omega arith)

none_back : (b : Option Location) (t : Bool) → is_some b ≡ not t → t ≡ is_none (back_of b)
none_back None true e = refl
none_back None false e = let z : ◌≡◌ {A = ℕ} 0 1 = cc in absurd (omega arith)
none_back (Some l) true e = let z : ◌≡◌ {A = ℕ} 0 1 = cc in absurd (omega arith)
none_back (Some l) false e = refl

module _ (v : Volume) where
  follows_sound : (o : Option IndexLinks) (d : Construct) (p : Option IndexLinks) → follows v o d p ≡ true → (x : IndexLinks) × (o ≡ Some x)
  unfolding follows
  follows_sound None d p h = let z : ◌≡◌ {A = ℕ} 0 1 = cc in absurd (omega arith)
  follows_sound (Some x) d p h = (x, refl)

  begins_sound : (o : Option IndexLinks) → begins_chain v o ≡ true → (x : IndexLinks) × (o ≡ Some x)
  begins_sound None h = let z : ◌≡◌ {A = ℕ} 0 1 = cc in absurd (omega arith)
  begins_sound (Some x) h = (x, refl)

  chained_sound : (c : Construct) (cs : List Construct) → chained v c cs ≡ true → (x : IndexLinks) × (read_data v c ≡ Some x)
  chained_sound c [] h = begins_sound (read_data v c) h
  chained_sound c (p ∷ ps) h = follows_sound (read_data v c) p (read_data v p) h

  -- the last index of a chain without a break is sound
  pub last_sound : (c : Construct) (cs : List Construct) → chain_break v (c ∷ cs) ≡ None → (x : IndexLinks) × (read_data v c ≡ Some x)
  unfolding chain_break
  last_sound c cs h = chained_sound c cs (unless_none (chained v c cs) (length cs) (or_else_none (chain_break v cs) _ h).1)

  unread_chained : (c : Construct) (cs : List Construct) → read_data v c ≡ None → chained v c cs ≡ false
  unfolding follows
  unread_chained c [] e = rw e
  unread_chained c (p ∷ ps) e = rw e

  module _ (c : Construct) where
    -- no sound index goes on no chain
    links_unsound : (cs : List Construct) → None ≡ link_of (read_data v c) → None ≡ linked v c cs
    links_unsound cs e = let z : chained v c cs ≡ false = unread_chained c cs (link_none (read_data v c) e) in rw z

    module _ (b : Brief) (e : brief_link (Some b) ≡ link_of (read_data v c)) where
      same_generation : (t u : Bool) → t ≡ u → then_some t b.generation ≡ then_some u (record { 0 = generation_of (read_data v c) })
      same_generation t u f =
          let x = link_read (read_data v c) b e in
          let g : generation_of (read_data v c) ≡ b.generation.0 = ap generation_of x.1 ∙ x.2 in
          rw (f, g)

      -- the first construct
      links_first : (t : Bool) → is_some b.back ≡ not t → then_some t b.generation ≡ linked v c []
      links_first t f =
          let x = link_read (read_data v c) b e in
          same_generation t (begins_chain v (read_data v c)) (none_back b.back t f ∙ ap is_none (sym x.3) ∙ ap (begins_chain v) (sym x.1))

      -- one behind others
      links_behind : (p : Construct) (ps : List Construct) (first before : ℕ) (t : Bool) → chain_break v (p ∷ ps) ≡ None → first ≡ p.first
          → last_generation v (p ∷ ps) ≡ before → t ≡ joined (brief_link (Some b)) v.data_letter first before → then_some t b.generation ≡ linked v c (p ∷ ps)
      links_behind p ps first before t whole at gen j =
          let y = last_sound p ps whole in
          let g : before ≡ y.0.generation = sym gen ∙ ap generation_of y.1 in
          same_generation t (follows v (read_data v c) p (read_data v p))
          (j ∙ ap (λ (o : Option Link). joined o v.data_letter first before) e ∙ rw (at, g) (joined_follows v (read_data v c) p (read_data v p) y.0 y.1))

-- what is read of a construct at its place in the store
pub link_located : (g : Given) (s : List ℕ) (letter : ℕ) (p : Bounds) (t : List ℕ) (b : Option Brief) → t ≡ bounds_text s p → brief_link b ≡ link_of (soundly (index_of g letter p.first.0 t))
    → (c : Construct) → Located s p c → brief_link b ≡ link_of (read_text (volume_with g) letter c.first c.text)
link_located g s letter p t b f r c w =
    r ∙ ap (λ (x : ℕ). link_of (soundly (index_of g letter x t))) w.first ∙ ap (λ (x : List ℕ). link_of (soundly (index_of g letter c.first x))) (f ∙ w.text)
    ∙ ap link_of (read_bytes g letter c.first c.text)

-- construct k lies at the place that the table has for it
pub located_at : (s table : List ℕ) (k : ℕ) (p : Bounds) (c : Construct) (cs : List Construct) → p ≡ bounds_in table k → Located s (bounds_in table (length cs)) c → length cs ≡ k → Located s p c
located_at s table k p c cs e l n = subst (λ (x : Bounds). Located s x c) (sym (e ∙ ap (bounds_in table) (sym n))) l

pub link_placed : (g : Given) (s table : List ℕ) (letter k : ℕ) (p : Bounds) (t : List ℕ) (b : Option Brief) → p ≡ bounds_in table k → t ≡ bounds_text s p
    → brief_link b ≡ link_of (soundly (index_of g letter p.first.0 t))
    → (c : Construct) (cs : List Construct) → Located s (bounds_in table (length cs)) c → length cs ≡ k
    → brief_link b ≡ link_of (read_text (volume_with g) letter c.first c.text)
link_placed g s table letter k p t b e f r c cs l n = link_located g s letter p t b f r c (located_at s table k p c cs e l n)

module _ (v : Volume) (s table : List ℕ) (k before : ℕ) (o : Option Brief)
    (link-of : (c : Construct) (cs : List Construct) → Located s (bounds_in table (length cs)) c → length cs ≡ k → brief_link o ≡ link_of (read_data v c)) where
  pub at_unsound : o ≡ None → LinksAt v s table k before None
  at_unsound e ds l c cs suf n whole gen = links_unsound v c cs (ap brief_link (sym e) ∙ link-of c cs (l c cs suf) n)

  module _ (b : Brief) (e : o ≡ Some b) where
    pub at_first : k ≡ 0 → (t : Bool) → is_some b.back ≡ not t → LinksAt v s table k before (then_some t b.generation)
    at_first z t f ds l c [] suf n whole gen = links_first v c b (ap brief_link (sym e) ∙ link-of c [] (l c [] suf) n) t f
    at_first z t f ds l c (p ∷ ps) suf n whole gen = absurd (omega arith)

    pub at_behind : (k ≡ 0 → ⊥) → (q : Bounds) (t : Bool) → q ≡ bounds_in table (k - 1) → t ≡ joined (brief_link (Some b)) v.data_letter q.first.0 before
        → LinksAt v s table k before (then_some t b.generation)
    at_behind z q t at j ds l c [] suf n whole gen = absurd (z (sym n))
    at_behind z q t at j ds l c (p ∷ ps) suf n whole gen =
        let m : k - 1 ≡ length ps = omega arith in
        let w : Located s q p = subst (λ (x : Bounds). Located s x p) (sym (at ∙ ap (bounds_in table) m)) (l p ps (suffix_trans (there (here refl)) suf)) in
        links_behind v c b (ap brief_link (sym e) ∙ link-of c (p ∷ ps) (l c (p ∷ ps) suf) n) p ps q.first.0 before t whole w.first gen j

-- the chain so far: the first k constructs have no break, the table has their generations, and the last one's is at hand
pub record ChainAt (v : Volume) (ds : List Construct) (table : List ℕ) (k before : ℕ) : Type 0 where
  pub whole : chain_break v (firsts k ds) ≡ None
  pub last : last_generation v (firsts k ds) ≡ before
  pub generations : Generations v table (firsts k ds)

abbrev pub ChainsAt : Volume → List ℕ → List ℕ → ℕ → ℕ → List ℕ → ℕ → ℕ → Type 0
ChainsAt v s table n room gens k before = (ds : List Construct) → Listed s table ds → length ds ≡ n → n ≤ room → ChainAt v ds gens k before

module _ (ds : List Construct) where
  pub firsts_none : firsts 0 ds ≡ []
  firsts_none = let e : length ds - 0 ≡ length ds = omega arith in rw e (drop-length ds)

  pub firsts_length : (k : ℕ) → k ≤ length ds → length (firsts k ds) ≡ k
  firsts_length k h = length-drop (length ds - k) ds ∙ omega arith

  -- construct k and those before it
  pub next_first : (k : ℕ) → k < length ds → (c : Construct) × (firsts (k + 1) ds ≡ c ∷ firsts k ds) × Suffix (c ∷ firsts k ds) ds
  next_first k h =
      let x = firsts_next k ds h in
      let e : k + 1 ≡ suc k = omega arith in
      (x.0, ap (λ (n : ℕ). firsts n ds) e ∙ x.1, subst (λ (l : List Construct). Suffix l ds) x.1 (firsts_suffix (length ds - suc k) ds))

goes_on : (t : Bool) (x : Generation) {g : Generation} → then_some t x ≡ Some g → (t ≡ true) × (x ≡ g)
goes_on true x {g} e = (refl, let z : x ≡ g = cc in z)
goes_on false x e = let z : ◌≡◌ {A = ℕ} 0 1 = cc in absurd (omega arith)

breaks_off : (t : Bool) (x : Generation) → then_some t x ≡ None → t ≡ false
breaks_off true x e = let z : ◌≡◌ {A = ℕ} 0 1 = cc in absurd (omega arith)
breaks_off false x e = refl

module _ (v : Volume) (ds : List Construct) where
  chain_none : (gens : List ℕ) → ChainAt v ds gens 0 0
  unfolding chain_break
  chain_none gens =
      record {
        whole = ap (chain_break v) (firsts_none ds);
        last = ap (last_generation v) (firsts_none ds);
        generations = λ c cs h. absurd (nil_suffix (subst (λ (l : List Construct). Suffix (c ∷ cs) l) (firsts_none ds) h));
      }

  module _ (gens : List ℕ) (k before : ℕ) (w : ChainAt v ds gens k before) (h : k < length ds) (r : Option Generation) (l : r ≡ linked v (next_first ds k h).0 (firsts k ds)) where
    chain_more : (g : Generation) → k < length gens → r ≡ Some g → ChainAt v ds (set gens k g.0) (k + 1) g.0
    chain_more g room e =
        let x = next_first ds k h in
        let n = firsts_length ds k (omega arith) in
        let y = goes_on (chained v x.0 (firsts k ds)) (record { 0 = generation_of (read_data v x.0) }) (sym l ∙ e) in
        let q : g.0 ≡ generation_of (read_data v x.0) = ap (λ (z : Generation). z.0) (sym y.1) in
        record {
          whole = ap (chain_break v) x.1 ∙ chain_grows v x.0 (firsts k ds) w.whole y.0;
          last = ap (last_generation v) x.1 ∙ sym q;
          generations = λ c cs s. go q c cs (subst (λ (t : List Construct). Suffix (c ∷ cs) t) x.1 s);
        }
      where
        go : g.0 ≡ generation_of (read_data v (next_first ds k h).0) → Generations v (set gens k g.0) ((next_first ds k h).0 ∷ firsts k ds)
        go f c cs (here q) =
            let z : c ≡ (next_first ds k h).0 = cc in
            let y : cs ≡ firsts k ds = cc in
            let n : length cs ≡ k = ap length y ∙ firsts_length ds k (omega arith) in
            rw (n, z) (get_or-set_same gens k g.0 0 room ∙ f)
        go f c cs (there s) =
            let n = firsts_length ds k (omega arith) in
            let m = suffix_length s in
            get_or-set_other gens k (length cs) g.0 0 (λ q. omega arith) ∙ w.generations c cs s

    chain_over : r ≡ None → Chains v ds gens k
    chain_over e =
        let x = next_first ds k h in
        let n = firsts_length ds k (omega arith) in
        let f : chained v x.0 (firsts k ds) ≡ false = breaks_off (chained v x.0 (firsts k ds)) (record { 0 = generation_of (read_data v x.0) }) (sym l ∙ e) in
        record {
          few = omega arith;
          whole = w.whole;
          longest = chain_stops v x.2 w.whole f;
          stops = λ u. break_at v x.2 w.whole f ∙ ap Some n;
          generations = w.generations;
        }

  chain_all : (gens : List ℕ) (k before : ℕ) → ChainAt v ds gens k before → k ≡ length ds → Chains v ds gens k
  chain_all gens k before w e =
      let a : firsts k ds ≡ ds = ap (λ (n : ℕ). firsts n ds) e ∙ firsts_all ds in
      let b : chain_break v ds ≡ None = rw a at w.whole in
      record {
        few = omega arith;
        whole = w.whole;
        longest = chain_whole v ds b ∙ sym a;
        stops = λ u. absurd (omega arith);
        generations = w.generations;
      }

module _ (v : Volume) (s table : List ℕ) (n room : ℕ) where
  pub chains_start : (gens : List ℕ) → ChainsAt v s table n room gens 0 0
  chains_start gens ds l e f = chain_none v ds gens

  module _ (gens : List ℕ) (k before : ℕ) (w : ChainsAt v s table n room gens k before) (h : k < n) (r : Option Generation) (l : LinksAt v s table k before r) where
    link_at : (ds : List Construct) (d : Listed s table ds) (e : length ds ≡ n) (f : n ≤ room) (i : k < length ds)
        → r ≡ linked v (next_first ds k i).0 (firsts k ds)
    link_at ds d e f i =
        let x = next_first ds k i in
        let a = w ds d e f in
        l ds d x.0 (firsts k ds) x.2 (firsts_length ds k (omega arith)) a.whole a.last

    pub chains_more : (g : Generation) → length gens ≡ room → r ≡ Some g → ChainsAt v s table n room (set gens k g.0) (k + 1) g.0
    chains_more g long ok ds d e f =
        let i : k < length ds = omega arith in
        chain_more v ds gens k before (w ds d e f) i r (link_at ds d e f i) g (omega arith) ok

    pub chains_over : r ≡ None → ChainsOf v s table n room gens k
    chains_over ok ds d e f =
        let i : k < length ds = omega arith in
        chain_over v ds gens k before (w ds d e f) i r (link_at ds d e f i) ok

  pub chains_all : (gens : List ℕ) (k before : ℕ) → ChainsAt v s table n room gens k before → k ≤ n → n ≤ k → ChainsOf v s table n room gens n
  chains_all gens k before w a b ds d e f =
      let q : k ≡ n = omega arith in
      subst (λ (m : ℕ). Chains v ds gens m) q (chain_all v ds gens k before (w ds d e f) (omega arith))
