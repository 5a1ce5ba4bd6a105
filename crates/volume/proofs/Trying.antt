-- One index construct tried, and the search over them, by what the tables hold.
use Rattle.std.specs.Prelude.{None, Option, Some, Err, Ok, is_some, SomeIff}
use mathlib.Core.Path.{◌≡◌, refl, sym, ap, subst, ◌∙◌}
use mathlib.Core.Bool.{Bool, true, false}
use mathlib.Core.List.{List, ◌∷◌}
use Prim.Native.Nat.{ℕ, zero, suc, ◌+◌, ◌-◌, ◌≤◌, ◌<◌}
use native.Mathlib.Omega.{arith}
use lib.ListN.{length, get_or, take}
use Rattle.refusals.specs.Refusals.{Answer}
use Rattle.constructs.specs.Constructs.{Construct}
use Rattle.constructs.specs.TableSteps.{bounds_in}
use Rattle.constructs.specs.declared.Bounds.{Bounds}
use Rattle.constructs.specs.Steps.{Suffix}
use Rattle.index.specs.Index as text
use Rattle.index.specs.Index.{index_of}
use Rattle.index_values.specs.Tests.{Given}
use Rattle.index_values.specs.Steps.{given}
use Rattle.index_values.specs.declared.tests.Partitions.{Partitions}
use Rattle.verdict.specs.Verdict.{IndexLinks, Volume, read_index, bad_file_in}
use Rattle.verdict.specs.Rescue.{cut_among}
use Rattle.verdict.specs.Steps.{firsts}
use Rattle.verdict.proofs.Orders.{firsts_all, search_on, search_found}
use Rattle.volume.specs.Volume.{soundly, volume_with}
use Rattle.volume.specs.Steps.{Link, link_of, link_in, brief_link, joined, bounds_text, Located, ReachTable, Ready, Loses, Fits, apart, behind, Tries, LastOf, Searches}
use Rattle.volume.specs.Answers.{cut_is}
use Rattle.index.specs.declared.read.Location.{Location}
use Rattle.volume.specs.declared.sound.Brief.{Brief}
use Rattle.volume.specs.declared.filled.Misfit.{Misfit}
use Rattle.volume.specs.declared.search.FoundCut.{FoundCut}
use Rattle.volume.proofs.Briefs.{read_bytes}
use Rattle.volume.proofs.Chaining.{link_placed, located_at, next_first, firsts_none, firsts_length}
use Rattle.volume.proofs.Searching.{Partner, partner, try_unsound, try_alone, try_nowhere, try_apart, try_lost, try_fits, try_cut}
use Rattle.volume.proofs.Extents.{lost_same}

-- an index that joins a construct reads
sound_answer : (a : Answer text.Index) (o : Option Link) (letter first generation : ℕ) → o ≡ link_of (soundly a) → joined o letter first generation ≡ true
    → (x : text.Index) × (a ≡ Ok x)
sound_answer (Err r) o letter first generation e f =
    let z : ◌≡◌ {A = Bool} false true = ap (λ (y : Option Link). joined y letter first generation) (sym e) ∙ f in
    let y : ◌≡◌ {A = ℕ} 0 1 = cc in
    absurd (omega arith)
sound_answer (Ok x) o letter first generation e f = (x, refl)

-- of an index that reads: by the tables and by the definition the same file is lost
pub lost_located : (u : List ℕ) (w : Partitions) (is ds : List ℕ) (li ld ri rd : List ℕ) (here there : Bounds) (t : List ℕ) (b : Brief) (c d : Construct)
    → t ≡ bounds_text is here → Some (link_in b) ≡ link_of (soundly (index_of (given u w) w.index_letter here.first.0 t)) → Located is here c → Located ds there d
    → ReachTable w.block_size li ri → ReachTable w.block_size ld rd → c.end ≤ length li → d.end ≤ length ld
    → (lost : Option ℕ) → Loses t w ri here.end rd there.end lost
    → (generation : ℕ) → joined (Some (link_in b)) w.data_letter there.first.0 generation ≡ true
    → bad_file_in (volume_with (given u w)) (read_index (volume_with (given u w)) c) (take c.end li) (take d.end ld) ≡ lost
lost_located u w is ds li ld ri rd here there t b c d is_text reads p q hi hd fi fd lost l generation s =
    let x = sound_answer (index_of (given u w) w.index_letter here.first.0 t) (Some (link_in b)) w.data_letter there.first.0 generation reads s in
    let o : soundly (index_of (given u w) w.index_letter here.first.0 t) ≡ read_index (volume_with (given u w)) c
    = ap (λ (y : ℕ). soundly (index_of (given u w) w.index_letter y t)) p.first ∙ ap (λ (y : List ℕ). soundly (index_of (given u w) w.index_letter c.first y)) (is_text ∙ p.text)
    ∙ read_bytes (given u w) w.index_letter c.first c.text in
    let z = lost_same (given u w) w li ld ri rd here.end there.end w.index_letter here.first.0 t x.0 hi hd
    (subst (λ (y : ℕ). y ≤ length li) (sym p.end) fi) (subst (λ (y : ℕ). y ≤ length ld) (sym q.end) fd) refl refl refl x.1 in
    sym (l (given u w) w.index_letter here.first.0 x.0 x.1 ∙ z
    ∙ ap (λ (y : Option IndexLinks). bad_file_in (volume_with (given u w)) y (take here.end li) (take there.end ld)) o
    ∙ ap (λ (y : ℕ). bad_file_in (volume_with (given u w)) (read_index (volume_with (given u w)) c) (take y li) (take there.end ld)) p.end
    ∙ ap (λ (y : ℕ). bad_file_in (volume_with (given u w)) (read_index (volume_with (given u w)) c) (take c.end li) (take y ld)) q.end)

-- one construct of the index partition tried: it lies at here and its text is t, of which b is read
module _ (u : List ℕ) (w : Partitions) (is ti : List ℕ) (k : ℕ) (td gens begins ri rd : List ℕ) (here : Bounds) (t : List ℕ) (b : Option Brief)
    (at_here : here ≡ bounds_in ti k) (is_text : t ≡ bounds_text is here) (reads : brief_link b ≡ link_of (soundly (index_of (given u w) w.index_letter here.first.0 t))) where
  v : Volume
  v = volume_with (given u w)

  module _ (cs ds : List Construct) (li ld : List ℕ) (r : Ready v is ti td gens begins ri rd cs ds li ld) (c : Construct) (bs : List Construct)
      (suf : Suffix (c ∷ bs) cs) (n : length bs ≡ k) where
    link_here : brief_link b ≡ link_of (read_index v c)
    unfolding v
    link_here = link_placed (given u w) is ti w.index_letter k here t b at_here is_text reads c bs (r.index c bs suf) n

    located_here : Located is here c
    located_here = located_at is ti k here c bs at_here (r.index c bs suf) n

  pub tries_unsound : b ≡ None → Tries (given u w) w is ti k td gens begins ri rd None
  unfolding v
  tries_unsound e cs ds li ld r c bs suf n =
      sym (try_unsound (volume_with (given u w)) li ld c bs ds (ap brief_link (sym e) ∙ link_here cs ds li ld r c bs suf n))

  module _ (x : Brief) (is_brief : b ≡ Some x) where
    link_some : (cs ds : List Construct) (li ld : List ℕ) (r : Ready v is ti td gens begins ri rd cs ds li ld) (c : Construct) (bs : List Construct)
        (suf : Suffix (c ∷ bs) cs) (n : length bs ≡ k) → brief_link (Some x) ≡ link_of (read_index v c)
    unfolding v
    link_some cs ds li ld r c bs suf n = ap brief_link (sym is_brief) ∙ link_here cs ds li ld r c bs suf n

    pub tries_alone : x.back ≡ None → Tries (given u w) w is ti k td gens begins ri rd None
    unfolding v
    tries_alone e cs ds li ld r c bs suf n = sym (try_alone (volume_with (given u w)) li ld c bs ds x (link_some cs ds li ld r c bs suf n) e)

    module _ (place : Location) (points : x.back ≡ Some place) where
      pub tries_nowhere : get_or begins place.block.0 0 ≡ 0 → Tries (given u w) w is ti k td gens begins ri rd None
      unfolding v
      tries_nowhere z cs ds li ld r c bs suf n =
          sym (try_nowhere (volume_with (given u w)) li ld c bs ds x (link_some cs ds li ld r c bs suf n) place points (sym (r.partners place.block.0) ∙ z))

      module _ (j : ℕ) (at_begin : get_or begins place.block.0 0 ≡ j + 1) (there : Bounds) (at_there : there ≡ bounds_in td j) (generation : ℕ)
          (is_generation : generation ≡ get_or gens j 0) where
        module _ (cs ds : List Construct) (li ld : List ℕ) (r : Ready v is ti td gens begins ri rd cs ds li ld) where
          there_is : Partner v ds gens r.ds_store td place.block.0 j
          there_is = partner v ds gens r.ds_store td place.block.0 j r.chain r.whole r.generations (sym (r.partners place.block.0) ∙ at_begin)

          located_there : Located r.ds_store there there_is.one
          located_there = subst (λ (y : Bounds). Located r.ds_store y there_is.one) (sym at_there) there_is.placed

          lost_here : (c : Construct) (bs : List Construct) → Suffix (c ∷ bs) cs → length bs ≡ k → (lost : Option ℕ) → Loses t w ri here.end rd there.end lost
              → joined (Some (link_in x)) w.data_letter there.first.0 generation ≡ true → bad_file_in v (read_index v c) (take c.end li) (take there_is.one.end ld) ≡ lost
          unfolding v
          lost_here c bs suf n lost l f =
              lost_located u w is r.ds_store li ld ri rd here there t x c there_is.one is_text (ap brief_link (sym is_brief) ∙ reads) (located_here cs ds li ld r c bs suf n) located_there r.index_reach
              r.data_reach (r.index_fits c bs suf) (r.data_fits there_is.one there_is.before there_is.inside) lost l generation f

        tries_apart : joined (Some (link_in x)) w.data_letter there.first.0 generation ≡ false → Tries (given u w) w is ti k td gens begins ri rd None
        unfolding v
        tries_apart f cs ds li ld r c bs suf n =
            let p = there_is cs ds li ld r in
            sym (try_apart (volume_with (given u w)) li ld c bs ds x (link_some cs ds li ld r c bs suf n) place points gens r.ds_store td j p there.first.0 generation
            (located_there cs ds li ld r).first (is_generation ∙ p.generation) f)

        module _ (f : joined (Some (link_in x)) w.data_letter there.first.0 generation ≡ true) (lost : Option ℕ) (l : Loses t w ri here.end rd there.end lost) where
          tries_lost : (m : ℕ) → lost ≡ Some m → Tries (given u w) w is ti k td gens begins ri rd None
          unfolding v
          tries_lost m e cs ds li ld r c bs suf n =
              let p = there_is cs ds li ld r in
              sym (try_lost (volume_with (given u w)) li ld c bs ds x (link_some cs ds li ld r c bs suf n) place points gens r.ds_store td j p there.first.0 generation
              (located_there cs ds li ld r).first (is_generation ∙ p.generation) f m (lost_here cs ds li ld r c bs suf n lost l f ∙ e))

          tries_fits : lost ≡ None → (a : FoundCut) → a.index_construct ≡ k → a.data_construct ≡ j → a.index_kept ≡ here.end → a.data_kept ≡ there.end
              → a.generation.0 ≡ x.generation.0 → Tries (given u w) w is ti k td gens begins ri rd (Some a)
          unfolding v
          tries_fits e a a₁ a₂ a₃ a₄ a₅ cs ds li ld r c bs suf n =
              let p = there_is cs ds li ld r in
              let q = located_there cs ds li ld r in
              let h = located_here cs ds li ld r c bs suf n in
              ap Some (try_cut (volume_with (given u w)) li ld c bs ds x (link_some cs ds li ld r c bs suf n) place points gens r.ds_store td j p there.first.0 generation
              q.first (is_generation ∙ p.generation) a (a₁ ∙ sym n) a₂ (a₃ ∙ h.end) (a₄ ∙ q.end) a₅)
              ∙ sym (try_fits (volume_with (given u w)) li ld c bs ds x (link_some cs ds li ld r c bs suf n) place points gens r.ds_store td j p there.first.0 generation
              q.first (is_generation ∙ p.generation) f (lost_here cs ds li ld r c bs suf n lost l f ∙ e))

        -- by one test of both
        pub tries_not : (r : Option Misfit) → Fits t x w here.end there generation ri rd r → is_some r ≡ true → Tries (given u w) w is ti k td gens begins ri rd None
        tries_not r (apart e f) z = tries_apart f
        tries_not r (behind None e f h) z = let y : ◌≡◌ {A = Bool} false true = sym (ap is_some e) ∙ z in let n : ◌≡◌ {A = ℕ} 0 1 = cc in absurd (omega arith)
        tries_not r (behind (Some q) e f h) z = tries_lost f (Some q) h q refl

        pub tries_so : (r : Option Misfit) → Fits t x w here.end there generation ri rd r → is_some r ≡ false → (a : FoundCut) → a.index_construct ≡ k
            → a.data_construct ≡ j → a.index_kept ≡ here.end → a.data_kept ≡ there.end → a.generation.0 ≡ x.generation.0
            → Tries (given u w) w is ti k td gens begins ri rd (Some a)
        tries_so r (apart e f) z = let y : ◌≡◌ {A = Bool} true false = sym (ap is_some e) ∙ z in let n : ◌≡◌ {A = ℕ} 0 1 = cc in absurd (omega arith)
        tries_so r (behind None e f h) z = tries_fits f None h refl
        tries_so r (behind (Some q) e f h) z = let y : ◌≡◌ {A = Bool} true false = sym (ap is_some e) ∙ z in let n : ◌≡◌ {A = ℕ} 0 1 = cc in absurd (omega arith)

-- one less than a number, where it is not 0
pub none_less : (o : Option ℕ) (n : ℕ) → SomeIff o (1 ≤ n) (n - 1) → o ≡ None → n ≡ 0
none_less None n h e = let z : n < 1 = omega (arith, h) in omega arith
none_less (Some j) n h e = let z : ◌≡◌ {A = ℕ} 0 1 = cc in absurd (omega arith)

pub one_less : (o : Option ℕ) (n j : ℕ) → SomeIff o (1 ≤ n) (n - 1) → o ≡ Some j → n ≡ j + 1
one_less None n j h e = let z : ◌≡◌ {A = ℕ} 0 1 = cc in absurd (omega arith)
one_less (Some i) n j h e = let z : i ≡ j = cc in omega (arith, h.0, h.1)

-- the constructs from k on are no cut
abbrev SearchesAt : Given → List ℕ → List ℕ → ℕ → List ℕ → List ℕ → List ℕ → List ℕ → List ℕ → ℕ → Type 0
SearchesAt g is ti n td gens begins ri rd k =
    (cs ds : List Construct) (li ld : List ℕ) → Ready (volume_with g) is ti td gens begins ri rd cs ds li ld
    → length cs ≡ n → cut_among (volume_with g) li ld ds cs ≡ cut_among (volume_with g) li ld ds (firsts k cs)

module _ (g : Given) (w : Partitions) (is ti : List ℕ) (n : ℕ) (td gens begins ri rd : List ℕ) where
  searches_start : SearchesAt g is ti n td gens begins ri rd n
  searches_start cs ds li ld r e =
      ap (cut_among (volume_with g) li ld ds) (sym (ap (λ (m : ℕ). firsts m cs) (sym e) ∙ firsts_all cs))

  module _ (k : ℕ) (s : SearchesAt g is ti n td gens begins ri rd (k + 1)) (le : k < n) where
    searches_on : Tries g w is ti k td gens begins ri rd None → SearchesAt g is ti n td gens begins ri rd k
    searches_on t cs ds li ld r e =
        let x = next_first cs k (omega arith) in
        s cs ds li ld r e ∙ ap (cut_among (volume_with g) li ld ds) x.1
        ∙ search_on (volume_with g) li ld ds x.0 (firsts k cs) (sym (t cs ds li ld r x.0 (firsts k cs) x.2 (firsts_length cs k (omega arith))))

    searches_found : (a : FoundCut) → Tries g w is ti k td gens begins ri rd (Some a) → Searches g w is ti n td gens begins ri rd (Some a)
    searches_found a t cs ds li ld r e =
        let x = next_first cs k (omega arith) in
        sym (s cs ds li ld r e ∙ ap (cut_among (volume_with g) li ld ds) x.1
        ∙ search_found (volume_with g) li ld ds x.0 (firsts k cs) (cut_is a) (sym (t cs ds li ld r x.0 (firsts k cs) x.2 (firsts_length cs k (omega arith)))))

  searches_end : SearchesAt g is ti n td gens begins ri rd 0 → Searches g w is ti n td gens begins ri rd None
  unfolding cut_among
  searches_end s cs ds li ld r e = sym (s cs ds li ld r e ∙ ap (cut_among (volume_with g) li ld ds) (firsts_none cs))

  passed : (j k : ℕ) → k + j ≡ n → ((m : ℕ) → k ≤ m → m < n → Tries g w is ti m td gens begins ri rd None) → SearchesAt g is ti n td gens begins ri rd k
  passed zero k e h = let q : n ≡ k = omega arith in subst (SearchesAt g is ti n td gens begins ri rd) q searches_start
  passed (suc j) k e h = searches_on k (passed j (k + 1) (omega arith) (λ m a b. h m (omega arith) b)) (omega arith) (h k (omega arith) (omega arith))

  -- the last that fits is the cut that is searched
  pub searches : (r : Option FoundCut) → LastOf (λ k. Tries g w is ti k td gens begins ri rd) n r → Searches g w is ti n td gens begins ri rd r
  searches None h = searches_end (passed n 0 (omega arith) (λ m a b. h m b))
  searches (Some a) (k, le, t, h) = searches_found k (passed (n - (k + 1)) (k + 1) (omega arith) (λ m a b. h m (omega arith) b)) le a t
