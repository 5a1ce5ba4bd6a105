-- The rescue and the verdict, from what the tables hold, from the labels, and on the bytes handed in.
use Rattle.std.specs.Prelude.{None, Option, Some, Err, Ok, ok_or}
use mathlib.Core.Path.{◌≡◌, refl, sym, ap, subst, ◌∙◌}
use mathlib.Core.Bool.{Bool, true, false}
use mathlib.Core.List.{List, ◌∷◌}
use Prim.Native.Nat.{ℕ, ◌-◌, ◌≤◌, ◌<◌}
use native.Mathlib.Omega.{arith}
use native.Mathlib.Decide.{dec_le}
use lib.ListN.{length, get_or, replicate, length-replicate, get_or-eq_default}
use Rattle.refusals.specs.declared.Refusal.{Refusal}
use Rattle.refusals.specs.declared.Refusal.TheVariants.{NoCut}
use Rattle.refusals.specs.Refusals.{Answer, and_then}
use Rattle.tape.specs.Tape.{Tape, Encodes}
use Rattle.tape.specs.Answers.{tape_in}
use Rattle.tape.proofs.Encoding.{Bytes, encodes_read, tape_read}
use Rattle.constructs.specs.TableSteps.{bounds_in}
use Rattle.constructs.specs.Constructs.{Construct, scan_start, standing, data_lengths}
use Rattle.constructs.specs.Steps.{Suffix, here}
use Rattle.constructs.proofs.Suffixes.{suffix_trans}
use Rattle.constructs.proofs.Scanning.{scan_at, standing_few}
use Rattle.constructs.proofs.Fronts.{Below, standing_at, standing_below, below_suffix}
use Rattle.constructs.proofs.Lengths.{length_lengths}
use Rattle.label.specs.Label.{Label}
use Rattle.labels.specs.Labels.{labels_of, labels_in}
use Rattle.index_values.specs.Tests.{Given}
use Rattle.verdict.specs.Verdict.{Volume, ends_with, chain_break, verdict, Cut}
use Rattle.verdict.specs.Rescue.{generation_of, through, cut_among, rescue}
use Rattle.verdict.specs.Steps.{beginnings, firsts}
use Rattle.verdict.specs.Demand.{Demand3}
use Rattle.verdict.proofs.Orders.{firsts_suffix, firsts_all}
use Rattle.verdict.proofs.Partners.{begins_at, length_beginnings}
use Rattle.volume.specs.Volume.{volume_with, given_by, volume_of, on_volume, or_no_cut, rescue_in, verdict_in}
use Rattle.volume.specs.Steps.{Located, Listed, EndsAt, break_of, last_break, Chains, ChainsOf, Ready, BeginsOf, Tries, LastOf, Searches, tried_cut}
use Rattle.volume.specs.Readers.{given_to, TablesOf, FillsOf, given_in, JudgesLastIn, FilledOf, JudgesIn, CutsIn, TriesIn, SearchesIn, Cuts, Breaks}
use Rattle.volume.specs.Answers.{rescued, cut_of, Rescues}
use Rattle.volume.specs.AnswerSteps.{judged, Judges}
use Rattle.volume.specs.declared.sound.Reader.{Reader}
use Rattle.volume.specs.declared.filling.Partition.{Partition}
use Rattle.volume.specs.declared.filling.Tables.{Tables}
use Rattle.volume.specs.declared.filled.Filled.{Filled}
use Rattle.volume.specs.declared.search.Search.{Search}
use Rattle.volume.specs.declared.search.FoundCut.{FoundCut}
use Rattle.volume.specs.declared.judge.Break.{Break}
use Rattle.volume.specs.declared.judge.Break.TheVariants as break_is
use Rattle.volume.proofs.Chaining.{last_sound}
use Rattle.volume.proofs.Trying.{searches}
use Rattle.volume.proofs.Verdicts.{verdict_1, verdict_2, verdict_3, verdict_last, ends_some}
use Rattle.volume.proofs.Demands.{rescue_owes, verdict_owes, no_break}
use Rattle.volume.proofs.Partitions.{through_past, listed_suffix}

-- the last construct of a list
located_first : (s table : List ℕ) (cs : List Construct) (c : Construct) (bs : List Construct) (p : ℕ) → Listed s table cs → cs ≡ c ∷ bs → length bs ≡ p
    → Located s (bounds_in table p) c
located_first s table cs c bs p l e n = subst (λ (z : ℕ). Located s (bounds_in table z) c) n (l c bs (here (sym e)))

scan_length : (B : ℕ) (t : Tape) → Below (length t) (standing B t)
scan_length B t = subst (λ (n : ℕ). Below n (standing B t)) (scan_at B scan_start t ∙ omega arith) (standing_below B t)

-- a volume whose tables are filled, of the partitions i and d
module _ (x : Filled) (dl : List ℕ) (i d : Tape) (h : FilledOf x dl i d) where
  abbrev g : Given
  g = given_in x

  abbrev v : Volume
  v = volume_with g

  few : length (standing g.block_size d) ≤ 21845
  few = omega (arith, standing_few g.block_size d, h.encodes.elements)

  chain_of : (gens : List ℕ) (k : ℕ) → ChainsOf v x.data.store.now x.data.constructs.now x.data.count (length {A = ℕ} (replicate 21845 0)) gens k
      → Chains v (standing g.block_size d) gens k
  chain_of gens k lc =
      let room : length {A = ℕ} (replicate 21845 0) ≡ 21845 = length-replicate {A = ℕ} 21845 0 in
      lc (standing g.block_size d) h.other.listed (sym h.other.number) (omega (arith, few, room, h.other.number))

  module _ (gens begins : List ℕ) (k : ℕ) (hc : Chains v (standing g.block_size d) gens k)
      (hb : begins ≡ beginnings (firsts k (standing g.block_size d)) (replicate 65536 0)) where
    front : Suffix (firsts k (standing g.block_size d)) (standing g.block_size d)
    front = firsts_suffix (length (standing g.block_size d) - k) (standing g.block_size d)

    partners : (q : ℕ) → get_or begins q 0 ≡ length (through q (firsts k (standing g.block_size d)))
    partners q = ap (λ (y : List ℕ). get_or y q 0) hb ∙ go (dec_le 65536 q)
      where
        go : Dec (65536 ≤ q) → get_or (beginnings (firsts k (standing g.block_size d)) (replicate 65536 0)) q 0 ≡ length (through q (firsts k (standing g.block_size d)))
        go (yes h₁) =
            let w : length (beginnings (firsts k (standing g.block_size d)) (replicate 65536 0)) ≡ 65536
            = length_beginnings (firsts k (standing g.block_size d)) (replicate 65536 0) ∙ length-replicate {A = ℕ} 65536 0 in
            get_or-eq_default (beginnings (firsts k (standing g.block_size d)) (replicate 65536 0)) 0 (omega arith)
            ∙ sym (ap length (through_past (length d) q (firsts k (standing g.block_size d)) (below_suffix (length d) front (scan_length g.block_size d)) (omega (arith, h.encodes.elements))))
        go (no h₁) = begins_at (firsts k (standing g.block_size d)) 65536 q (omega arith)

    fits : (t : Tape) (c : Construct) (bs : List Construct) → Suffix (c ∷ bs) (standing g.block_size t) → c.end ≤ length (data_lengths t)
    fits t c bs suf = omega (arith, (standing_at g.block_size t c bs suf).0, length_lengths 4 true t)

    ready : Ready v x.index.store.now x.index.constructs.now x.data.constructs.now gens begins x.index.reach.now x.data.reach.now (standing g.block_size i)
        (firsts k (standing g.block_size d)) (data_lengths i) (data_lengths d)
    ready =
        record {
          ds_store = x.data.store.now;
          index = h.index.listed;
          chain = listed_suffix x.data.store.now x.data.constructs.now (firsts k (standing g.block_size d)) (standing g.block_size d) front h.other.listed;
          whole = hc.whole;
          generations = hc.generations;
          partners = partners;
          index_reach = h.index.reaches;
          data_reach = h.other.reaches;
          index_fits = fits i;
          data_fits = λ c bs suf. fits d c bs (suffix_trans suf front);
        }

    -- the search over those tables finds the rescue's cut
    found : (r : Option FoundCut) → tried_cut r ≡ cut_among v (data_lengths i) (data_lengths d) (firsts k (standing g.block_size d)) (standing g.block_size i) → tried_cut r ≡ rescue v i d
    unfolding rescue
    found r e = e ∙ ap (λ (y : List Construct). cut_among (volume_with g) (data_lengths i) (data_lengths d) y (standing g.block_size i)) (sym hc.longest)

    cuts : (r : Option FoundCut)
        → Searches g x.reader.volume x.index.store.now x.index.constructs.now x.index.count x.data.constructs.now gens begins x.index.reach.now x.data.reach.now r
        → tried_cut r ≡ rescue v i d
    cuts r e = found r (e (standing g.block_size i) (firsts k (standing g.block_size d)) (data_lengths i) (data_lengths d) ready (sym h.index.number))

last_of : {A : Type 0} {P Q : ℕ → Option A → Type 0} (n : ℕ) → ((k : ℕ) (o : Option A) → P k o → Q k o) → (r : Option A) → LastOf P n r → LastOf Q n r
last_of n f None h = λ k lt. f k None (h k lt)
last_of n f (Some a) (k, lt, p, q) = (k, lt, f k (Some a) p, λ m x y. f m None (q m x y))

-- the cut by what the search goes by
module _ (s : Search) (k : ℕ)
    (lc : ChainsOf (volume_with (given_in s.filled)) s.filled.data.store.now s.filled.data.constructs.now s.filled.data.count (length {A = ℕ} (replicate 21845 0)) s.generations.now k) where
  abbrev tried : ℕ → Option FoundCut → Type 0
  tried n =
      Tries (given_in s.filled) s.filled.reader.volume s.filled.index.store.now s.filled.index.constructs.now n s.filled.data.constructs.now s.generations.now
      s.beginnings.now s.filled.index.reach.now s.filled.data.reach.now

  tried_in : (n : ℕ) (o : Option FoundCut) → TriesIn s n o → tried n o
  unfolding TriesIn
  tried_in n o t = t

  pub cuts_by : (r : Option FoundCut) → BeginsOf s.filled.data.constructs.now k (replicate 65536 0) s.beginnings.now → SearchesIn s r → CutsIn s.filled r
  cuts_by r lb ls dl i d h =
      let x = s.filled in
      let g = given_in x in
      let c = chain_of x dl i d h s.generations.now k lc in
      let f = few x dl i d h in
      let last : LastOf tried x.index.count r = last_of {P = TriesIn s} {Q = tried} x.index.count tried_in r ls in
      cuts x dl i d h s.generations.now s.beginnings.now k c (lb x.data.store.now (standing g.block_size d) h.other.listed c.few (omega (arith, f, c.few))) r
      (searches g x.reader.volume x.index.store.now x.index.constructs.now x.index.count x.data.constructs.now s.generations.now s.beginnings.now
      x.index.reach.now x.data.reach.now r last)

-- the breaks from 3 on, by the tables of both partitions
module _ (x : Filled) (gens : List ℕ) (k : ℕ)
    (lc : ChainsOf (volume_with (given_in x)) x.data.store.now x.data.constructs.now x.data.count (length {A = ℕ} (replicate 21845 0)) gens k) where
  abbrev given_x : Given
  given_x = given_in x

  pub judges_3 : k < x.data.count → JudgesIn x (Some (break_is.Chain k))
  judges_3 lt dl i d h ei ee =
      verdict_3 (volume_with given_x) i d k ei ee ((chain_of x dl i d h gens k lc).stops (omega (arith, h.other.number)))

  pub judges_rest : (generation : ℕ) (r : Option Break) → x.data.count ≤ k → generation ≡ get_or gens (x.data.count - 1) 0 → JudgesLastIn x generation r → JudgesIn x r
  judges_rest generation r le hg w dl i d h ei ee =
      let v = volume_with given_x in
      let ch = chain_of x dl i d h gens k lc in
      let one = ends_some v i d i (standing given_x.block_size i) ei in
      let two = ends_some v i d d (standing given_x.block_size d) ee in
      let k_all : k ≡ length (standing given_x.block_size d) = omega (arith, ch.few, h.other.number) in
      let all : firsts k (standing given_x.block_size d) ≡ standing given_x.block_size d
      = ap (λ (z : ℕ). firsts z (standing given_x.block_size d)) k_all ∙ firsts_all (standing given_x.block_size d) in
      let whole : chain_break v (standing given_x.block_size d) ≡ None = ap (chain_break v) (sym all) ∙ ch.whole in
      let y = last_sound v two.0 two.1 (ap (chain_break v) (sym two.2) ∙ whole) in
      let bs_p : length one.1 ≡ x.index.count - 1 = omega (arith, h.index.number, ap length one.2) in
      let es_q : length two.1 ≡ x.data.count - 1 = omega (arith, h.other.number, ap length two.2) in
      let li = located_first x.index.store.now x.index.constructs.now (standing given_x.block_size i) one.0 one.1 (x.index.count - 1) h.index.listed one.2 bs_p in
      let ld = located_first x.data.store.now x.data.constructs.now (standing given_x.block_size d) two.0 two.1 (x.data.count - 1) h.other.listed two.2 es_q in
      let gen : generation ≡ y.0.generation
      = hg ∙ ap (λ (z : ℕ). get_or gens z 0) (sym es_q) ∙ ch.generations two.0 two.1 (here (sym (all ∙ two.2))) ∙ ap generation_of y.1 in
      w x.data.store.now one.0 two.0 (data_lengths i) (data_lengths d) li ld y.0 y.1 gen h.index.reaches h.other.reaches
      (one.3 ∙ sym (length_lengths 4 true i)) (two.3 ∙ sym (length_lengths 4 true d))
      ∙ ap (λ (z : ℕ). last_break v z one.0 two.0 (data_lengths i) (data_lengths d)) (sym bs_p)
      ∙ verdict_last v i d one.0 one.1 two.0 two.1 ei ee whole one.2 two.2

-- tables that were all zeros before they were filled
abbrev Zeroed : Reader → Partition → Tables → Type 0
Zeroed r p x = FillsOf r.volume.block_size p.list.now p.store.now (replicate 87380 0) (replicate 65536 0) x

module _ (r : Reader) (p : Partition) (x : Tables) (f : Zeroed r p x) (t : Tape) (e : Encodes p.list.now p.store.now t) where
  held : TablesOf r.volume.block_size t x
  held = f.filled t e (length-replicate {A = ℕ} 87380 0) (length-replicate {A = ℕ} 65536 0)

  ends_told : (b : Bool) → EndsAt x.constructs.now x.count x.elements b → b ≡ ends_with t (standing r.volume.block_size t)
  ends_told b w = w.ends x.store.now t (standing r.volume.block_size t) held.tables.listed held.tables.number held.elements

-- of a volume that is read so, and its partitions
module _ (r : Reader) (p q : Partition) (x : Tables) (fx : Zeroed r p x) where
  pub judges_1 : EndsAt x.constructs.now x.count x.elements false → Breaks r p q (Some break_is.IndexEnd)
  judges_1 w t u et eu = verdict_1 (volume_with (given_to r)) t u (sym (ends_told r p x fx t et false w))

  module _ (y : Tables) (fy : Zeroed r q y) where
    abbrev filled : Filled
    filled = record { reader = r; index = x; «data» = y }

    filled_of : (t u : Tape) → Encodes p.list.now p.store.now t → Encodes q.list.now q.store.now u → FilledOf filled q.list.now t u
    filled_of t u et eu =
        record {
          index = (held r p x fx t et).tables;
          other = (held r q y fy u eu).tables;
          encodes = subst (λ (s : List ℕ). Encodes q.list.now s u) (sym fy.store) eu;
        }

    pub judges_2 : EndsAt x.constructs.now x.count x.elements true → EndsAt y.constructs.now y.count y.elements false → Breaks r p q (Some break_is.DataEnd)
    judges_2 w z t u et eu =
        verdict_2 (volume_with (given_to r)) t u (sym (ends_told r p x fx t et true w)) (sym (ends_told r q y fy u eu false z))

    pub judges_on : EndsAt x.constructs.now x.count x.elements true → EndsAt y.constructs.now y.count y.elements true → (b : Option Break) → JudgesIn filled b → Breaks r p q b
    judges_on w z b j t u et eu =
        j q.list.now t u (filled_of t u et eu) (sym (ends_told r p x fx t et true w)) (sym (ends_told r q y fy u eu true z))

    pub cuts_on : (c : Option FoundCut) → CutsIn filled c → Cuts r p q c
    cuts_on c w t u et eu = w q.list.now t u (filled_of t u et eu)

module _ {A : Type 0} (ask : Volume → Tape → Tape → Answer A) (il is dl ds : List ℕ) where
  -- where the labels are refused, so is the question
  pub ask_refused : (r : Refusal) → Err r ≡ labels_in il is dl ds → Err r ≡ on_volume ask il is dl ds
  unfolding labels_in
  ask_refused r = go (tape_in il is) (tape_in dl ds)
    where
      last : (i d : Tape) (a : Answer Label) → Err r ≡ a → Err r ≡ and_then a (λ f. ask (volume_with (given_by f)) i d)
      last i d (Err q) e = let z : r ≡ q = cc in rw z
      last i d (Ok f) e = let z : ◌≡◌ {A = ℕ} 0 1 = cc in absurd (omega arith)

      go : (a b : Answer Tape) → Err r ≡ and_then a (λ i. and_then b (λ d. labels_of i d))
          → Err r ≡ and_then a (λ i. and_then b (λ d. and_then (labels_of i d) (λ f. ask (volume_with (given_by f)) i d)))
      go (Err q) b e = let z : r ≡ q = cc in rw z
      go (Ok i) (Err q) e = let z : r ≡ q = cc in rw z
      go (Ok i) (Ok d) e = last i d (labels_of i d) e

  -- where they are read, both lists are well formed
  pub record Labelled (f : Label) : Type 0 where
    pub index : Tape
    pub other : Tape
    pub index_read : tape_in il is ≡ Ok index
    pub other_read : tape_in dl ds ≡ Ok other
    pub says : labels_of index other ≡ Ok f

  pub labelled : (f : Label) → Ok f ≡ labels_in il is dl ds → Labelled f
  unfolding labels_in
  labelled f = go (tape_in il is) (tape_in dl ds) refl refl
    where
      go : (a b : Answer Tape) → tape_in il is ≡ a → tape_in dl ds ≡ b → Ok f ≡ and_then a (λ i. and_then b (λ d. labels_of i d)) → Labelled f
      go (Err q) b x y e = let z : ◌≡◌ {A = ℕ} 0 1 = cc in absurd (omega arith)
      go (Ok i) (Err q) x y e = let z : ◌≡◌ {A = ℕ} 0 1 = cc in absurd (omega arith)
      go (Ok i) (Ok d) x y e = record { index = i; other = d; index_read = x; other_read = y; says = sym e }

  -- where the question is answered, the labels are read
  pub asked_labelled : (a : A) → on_volume ask il is dl ds ≡ Ok a → (f : Label) × Labelled f
  asked_labelled a e = go (labels_in il is dl ds) refl
    where
      go : (x : Answer Label) → labels_in il is dl ds ≡ x → (f : Label) × Labelled f
      go (Err r) q = let y = ask_refused r (sym q) in let z : ◌≡◌ {A = ℕ} 0 1 = cc in absurd (omega arith)
      go (Ok f) q = (f, labelled f (sym q))

  pub ask_labelled : (f : Label) (l : Labelled f) → on_volume ask il is dl ds ≡ ask (volume_with (given_by f)) l.index l.other
  ask_labelled f l = rw (l.index_read, l.other_read, l.says)

-- an answer that is the definition's keeps demand 3
module _ (il is dl ds : List ℕ) where
  pub rescues : (r : Answer FoundCut) → rescued r ≡ rescue_in il is dl ds → Rescues il is dl ds r
  rescues r e =
      record {
        answers = e;
        demand = λ i d v p. subst (λ (a : Answer Cut). Demand3 volume_of v i d (cut_of a)) (sym e) (rescue_owes il is dl ds i d v p);
      }

  pub judges : (r : Answer (Option Break)) → judged r ≡ verdict_in il is dl ds → Judges il is dl ds r
  judges r e = record { answers = e; demand = λ i d v p. verdict_owes il is dl ds i d v p (no_break r (verdict_in il is dl ds) e) }

-- lists whose labels are read are well formed
pub read_tape : (l s : List ℕ) (t : Tape) → Bytes l → tape_in l s ≡ Ok t → Encodes l s t
read_tape l s t bs e = encodes_read l s t bs (tape_read l s t e)

-- of the volume that is read with what its labels give
module _ (il is dl ds : List ℕ) (bi : Bytes il) (bd : Bytes dl) (f : Label) (e : Ok f ≡ labels_in il is dl ds) (r : Reader) (same : given_to r ≡ given_by f) where
  module _ {A : Type 0} (ask : Volume → Tape → Tape → Answer A) where
    asked_here : (t u : Tape) × Encodes il is t × Encodes dl ds u × (ask (volume_with (given_to r)) t u ≡ on_volume ask il is dl ds)
    asked_here =
        let l = labelled ask il is dl ds f e in (
          l.index,
          l.other,
          read_tape il is l.index bi l.index_read,
          read_tape dl ds l.other bd l.other_read,
          ap (λ (x : Given). ask (volume_with x) l.index l.other) same ∙ sym (ask_labelled ask il is dl ds f l),
        )

  pub cut_found : (c : Option FoundCut) → ((t u : Tape) → Encodes il is t → Encodes dl ds u → tried_cut c ≡ rescue (volume_with (given_to r)) t u)
      → Rescues il is dl ds (ok_or c NoCut)
  cut_found c w =
      let (t, u, et, eu, x) = asked_here (λ v i d. or_no_cut (rescue v i d)) in
      rescues il is dl ds (ok_or c NoCut) (cut_or_none c ∙ ap or_no_cut (w t u et eu) ∙ x)
    where
      cut_or_none : (o : Option FoundCut) → rescued (ok_or o NoCut) ≡ or_no_cut (tried_cut o)
      cut_or_none None = refl
      cut_or_none (Some k) = refl

  pub verdict_found : (b : Option Break) → ((t u : Tape) → Encodes il is t → Encodes dl ds u → break_of b ≡ verdict (volume_with (given_to r)) t u) → Judges il is dl ds (Ok b)
  verdict_found b w =
      let (t, u, et, eu, x) = asked_here (λ v i d. Ok (verdict v i d)) in
      judges il is dl ds (Ok b) (ap Ok (w t u et eu) ∙ x)
