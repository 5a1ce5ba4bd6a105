-- The table of beginnings, the construct that an index points at, and the search from the last index construct back.
use Rattle.std.specs.Prelude.{None, Option, Some}
use mathlib.Core.Path.{◌≡◌, refl, sym, ap, subst, ◌∙◌}
use mathlib.Core.Logic.{◌⊎◌, inl, inr}
use mathlib.Core.Bool.{true, false}
use mathlib.Core.List.{List, [], ◌∷◌}
use Prim.Native.Nat.{ℕ, suc, ◌+◌, ◌-◌, ◌≤◌, ◌<◌}
use native.Mathlib.Omega.{arith}
use lib.ListN.{length, get_or, set, take}
use Rattle.index.specs.Steps.{back_of}
use Rattle.index.specs.declared.read.Location.{Location}
use Rattle.constructs.specs.Constructs.{Construct}
use Rattle.constructs.specs.TableSteps.{bounds_in}
use Rattle.constructs.specs.declared.Bounds.{Bounds}
use Rattle.constructs.specs.Steps.{Suffix}
use Rattle.verdict.specs.Verdict.{IndexLinks, Volume, read_index, read_data, follows, chain_break, bad_file_in}
use Rattle.verdict.specs.Rescue.{pointed_block, target, generation_of, through, cut_at, attempt}
use Rattle.verdict.specs.Steps.{beginnings, firsts}
use Rattle.verdict.proofs.Chains.{through_suffix, good_suffix}
use Rattle.volume.specs.Steps.{Link, link_of, brief_link, joined, Located, Listed, Generations, BeginsOf}
use Rattle.volume.specs.Answers.{cut_is}
use Rattle.volume.specs.declared.sound.Brief.{Brief}
use Rattle.volume.specs.declared.search.FoundCut.{FoundCut}
use Rattle.volume.proofs.Briefs.{joined_follows}
use Rattle.volume.proofs.Chaining.{next_first, firsts_none, firsts_length, last_sound, link_read, link_none}

-- the table has the first k constructs
abbrev pub BeginsAt : List ℕ → ℕ → List ℕ → List ℕ → ℕ → Type 0
BeginsAt table n before after k =
    (s : List ℕ) (ds : List Construct) → Listed s table ds → n ≤ length ds → n < 4294967296 → after ≡ beginnings (firsts k ds) before

module _ (table : List ℕ) (n : ℕ) (before : List ℕ) where
  pub begins_start : BeginsAt table n before before 0
  unfolding beginnings
  begins_start s ds l h b = sym (ap (λ (x : List Construct). beginnings x before) (firsts_none ds))

  pub begins_more : (after : List ℕ) (k : ℕ) (p : Bounds) (m : ℕ) → BeginsAt table n before after k → k < n → p ≡ bounds_in table k → (k + 1 < 4294967296 → m ≡ k + 1)
      → BeginsAt table n before (set after p.first.0 m) (k + 1)
  unfolding beginnings
  begins_more after k p m w i e q s ds l h b =
      let x = next_first ds k (omega arith) in
      let z : length (firsts k ds) ≡ k = firsts_length ds k (omega arith) in
      let c = l x.0 (firsts k ds) x.2 in
      let f : p.first.0 ≡ x.0.first = ap (λ (y : Bounds). y.first.0) (e ∙ ap (bounds_in table) (sym z)) ∙ c.first in
      let r : m ≡ suc (length (firsts k ds)) = q (omega arith) ∙ omega arith in
      ap (λ (y : List ℕ). set y p.first.0 m) (w s ds l h b) ∙ rw (f, r) (sym (ap (λ (y : List Construct). beginnings y before) x.1))

  pub begins_end : (after : List ℕ) (k : ℕ) → BeginsAt table n before after k → k ≤ n → n ≤ k → BeginsOf table n before after
  begins_end after k w a b s ds l h i = let q : k ≡ n = omega arith in w s ds l h i ∙ ap (λ (m : ℕ). beginnings (firsts m ds) before) q

-- no index follows anything, nor does one without a back pointer
nothing_follows : (v : Volume) (d : Construct) (p : Option IndexLinks) → follows v None d p ≡ false
unfolding follows
nothing_follows v d p = refl

alone_follows : (v : Volume) (x : IndexLinks) (d : Construct) (p : Option IndexLinks) → x.back ≡ None → follows v (Some x) d p ≡ false
unfolding follows
alone_follows v x d None e = refl
alone_follows v x d (Some y) e = rw e

no_length : {A : Type 0} (l : List A) → length l ≡ 0 → l ≡ []
no_length [] e = refl
no_length (x ∷ l) e = absurd (omega arith)

-- the construct of the chain that begins at a block
pub record Partner (v : Volume) (ds : List Construct) (gens s td : List ℕ) (q j : ℕ) : Type 0 where
  pub one : Construct
  pub before : List Construct
  pub is : through q ds ≡ one ∷ before
  pub inside : Suffix (one ∷ before) ds
  pub number : length before ≡ j
  pub placed : Located s (bounds_in td j) one
  pub index : IndexLinks
  pub reads : read_data v one ≡ Some index
  pub generation : get_or gens j 0 ≡ index.generation

pub partner : (v : Volume) (ds : List Construct) (gens s td : List ℕ) (q j : ℕ) → Listed s td ds → chain_break v ds ≡ None → Generations v gens ds
    → length (through q ds) ≡ j + 1 → Partner v ds gens s td q j
partner v ds gens s td q j l whole g e = go (through q ds) refl (through_suffix q ds)
  where
    found : (d : Construct) (bs : List Construct) → through q ds ≡ d ∷ bs → Suffix (d ∷ bs) ds → Partner v ds gens s td q j
    found d bs is suf =
        let n : length bs ≡ j = omega (arith, e, ap length is) in
        let y = last_sound v d bs (good_suffix v suf whole) in
        record {
          one = d;
          before = bs;
          is = is;
          inside = suf;
          number = n;
          placed = subst (λ (k : ℕ). Located s (bounds_in td k) d) n (l d bs suf);
          index = y.0;
          reads = y.1;
          generation = ap (λ (k : ℕ). get_or gens k 0) (sym n) ∙ g d bs suf ∙ ap generation_of y.1;
        }

    go : (t : List Construct) → through q ds ≡ t → Suffix (through q ds) ds ⊎ (through q ds ≡ []) → Partner v ds gens s td q j
    go t is (inr h) = absurd (omega (arith, e, ap length h))
    go [] is (inl h) = absurd (omega (arith, e, ap length is))
    go (d ∷ bs) is (inl h) = found d bs is (subst (λ (x : List Construct). Suffix x ds) is h)

module _ (v : Volume) (li ld : List ℕ) (c : Construct) (bs : List Construct) where
  attempt_not : (l : List Construct) → ((d : Construct) (p : Option IndexLinks) → follows v (read_index v c) d p ≡ false) → attempt v li ld c bs l ≡ None
  attempt_not [] h = refl
  attempt_not (d ∷ ds) h = rw (h d (read_data v d))

  module _ (ds : List Construct) where
    -- an index that is not sound follows nothing
    pub try_unsound : None ≡ link_of (read_index v c) → attempt v li ld c bs (through (target (read_index v c)) ds) ≡ None
    try_unsound e =
        attempt_not (through (target (read_index v c)) ds)
        (λ d p. ap (λ (o : Option IndexLinks). follows v o d p) (link_none (read_index v c) e) ∙ nothing_follows v d p)

    module _ (b : Brief) (e : brief_link (Some b) ≡ link_of (read_index v c)) where
      -- nor does one without a back pointer
      pub try_alone : b.back ≡ None → attempt v li ld c bs (through (target (read_index v c)) ds) ≡ None
      try_alone f =
          let x = link_read (read_index v c) b e in
          attempt_not (through (target (read_index v c)) ds)
          (λ d p. ap (λ (o : Option IndexLinks). follows v o d p) x.1 ∙ alone_follows v x.0 d p (x.3 ∙ ap back_of f))

      module _ (place : Location) (f : b.back ≡ Some place) where
        target_is : target (read_index v c) ≡ place.block.0
        target_is = let x = link_read (read_index v c) b e in ap target x.1 ∙ ap pointed_block (x.3 ∙ ap back_of f)

        -- no construct of the chain begins where it points
        pub try_nowhere : length (through place.block.0 ds) ≡ 0 → attempt v li ld c bs (through (target (read_index v c)) ds) ≡ None
        try_nowhere z =
            ap (λ (k : ℕ). attempt v li ld c bs (through k ds)) target_is ∙ ap (attempt v li ld c bs) (no_length (through place.block.0 ds) z)

        module _ (gens s td : List ℕ) (j : ℕ) (p : Partner v ds gens s td place.block.0 j) (first generation : ℕ) (at : first ≡ p.one.first)
            (g : generation ≡ p.index.generation) where
          follows_by : joined (brief_link (Some b)) v.data_letter first generation ≡ follows v (read_index v c) p.one (read_data v p.one)
          follows_by =
              ap (λ (o : Option Link). joined o v.data_letter first generation) e
              ∙ rw (at, g) (joined_follows v (read_index v c) p.one (read_data v p.one) p.index p.reads)

          found_there : through (target (read_index v c)) ds ≡ p.one ∷ p.before
          found_there = ap (λ (k : ℕ). through k ds) target_is ∙ p.is

          -- it does not follow the one that does
          pub try_apart : joined (brief_link (Some b)) v.data_letter first generation ≡ false → attempt v li ld c bs (through (target (read_index v c)) ds) ≡ None
          try_apart n = ap (attempt v li ld c bs) found_there ∙ rw (sym follows_by ∙ n)

          module _ (n : joined (brief_link (Some b)) v.data_letter first generation ≡ true) where
            -- it does, and an extent lies past what is kept
            pub try_lost : (k : ℕ) → bad_file_in v (read_index v c) (take c.end li) (take p.one.end ld) ≡ Some k
                → attempt v li ld c bs (through (target (read_index v c)) ds) ≡ None
            try_lost k h = ap (attempt v li ld c bs) found_there ∙ rw (sym follows_by ∙ n, h)

            -- and all extents lie on it
            pub try_fits : bad_file_in v (read_index v c) (take c.end li) (take p.one.end ld) ≡ None
                → attempt v li ld c bs (through (target (read_index v c)) ds) ≡ Some (cut_at v c bs p.one p.before)
            try_fits h = ap (attempt v li ld c bs) found_there ∙ rw (sym follows_by ∙ n, h)

          pub try_cut : (k : FoundCut) → k.index_construct ≡ length bs → k.data_construct ≡ j → k.index_kept ≡ c.end → k.data_kept ≡ p.one.end
              → k.generation.0 ≡ b.generation.0 → cut_is k ≡ cut_at v c bs p.one p.before
          try_cut k a₁ a₂ a₃ a₄ a₅ =
              let y = link_read (read_index v c) b e in
              let x : b.generation.0 ≡ generation_of (read_index v c) = sym (ap generation_of y.1 ∙ y.2) in
              rw (a₁, a₂, a₃, a₄, a₅, x, p.number)
