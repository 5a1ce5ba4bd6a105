-- The verdict, break by break.
use Rattle.std.specs.Prelude.{None, Option, Some, option_map}
use mathlib.Core.Path.{◌≡◌, refl, sym, ap, subst, ◌∙◌}
use mathlib.Core.Bool.{Bool, true, false}
use mathlib.Core.List.{List, [], ◌∷◌}
use Prim.Native.Nat.{ℕ, suc, ◌-◌}
use native.Mathlib.Omega.{arith}
use borrow.Author.Tests.{eqb-true}
use lib.ListN.{length, take}
use lib.Seq.{take-length}
use Rattle.tape.specs.Tape.{Tape}
use Rattle.constructs.specs.Constructs.{Construct, standing, data_lengths}
use Rattle.constructs.specs.TableSteps.{bounds_in}
use Rattle.constructs.specs.declared.Bounds.{Bounds}
use Rattle.index.specs.Index.{index_of}
use Rattle.index_values.specs.Steps.{given}
use Rattle.index_values.specs.declared.tests.Partitions.{Partitions}
use Rattle.verdict.specs.Verdict.{IndexLinks, Volume, numbered, ends_with, read_index, read_data, follows, chain_break, verdict}
use Rattle.volume.specs.Volume.{soundly, volume_with}
use Rattle.volume.specs.Steps.{Link, link_of, link_in, brief_link, joined, bounds_text, Located, Loses, Fits, apart, behind, break_of, last_break, JudgesLast}
use Rattle.volume.specs.declared.sound.Brief.{Brief}
use Rattle.volume.specs.declared.filled.Misfit.{Misfit}
use Rattle.volume.specs.declared.filled.Misfit.TheVariants as misfit
use Rattle.volume.specs.declared.judge.Break.{Break}
use Rattle.volume.specs.declared.judge.Break.TheVariants as break_is
use Rattle.volume.proofs.Briefs.{joined_follows}
use Rattle.volume.proofs.Chaining.{link_located}
use Rattle.volume.proofs.Trying.{lost_located}

-- the break of construct k that a misfit is
abbrev pub misfit_break : ℕ → Misfit → Break
misfit_break k misfit.Apart = break_is.Apart k
misfit_break k (misfit.Lost file) = break_is.Lost file

module _ (u : List ℕ) (w : Partitions) (is ti : List ℕ) (k : ℕ) (td : List ℕ) (j generation : ℕ) (ri rd : List ℕ) (here there : Bounds) (t : List ℕ) (b : Option Brief)
    (at_here : here ≡ bounds_in ti k) (is_text : t ≡ bounds_text is here) (reads : brief_link b ≡ link_of (soundly (index_of (given u w) w.index_letter here.first.0 t)))
    (at_there : there ≡ bounds_in td j) where
  abbrev v : Volume
  v = volume_with (given u w)

  module _ (ds : List ℕ) (c d : Construct) (lc : Located is (bounds_in ti k) c) (ld : Located ds (bounds_in td j) d) (y : IndexLinks) (r : read_data v d ≡ Some y)
      (g : generation ≡ y.generation) where
    located_here : Located is here c
    located_here = subst (λ (x : Bounds). Located is x c) (sym at_here) lc

    located_there : Located ds there d
    located_there = subst (λ (x : Bounds). Located ds x d) (sym at_there) ld

    follows_by : joined (brief_link b) w.data_letter there.first.0 generation ≡ follows v (read_index v c) d (read_data v d)
    follows_by =
        ap (λ (o : Option Link). joined o w.data_letter there.first.0 generation) (link_located (given u w) is w.index_letter here t b is_text reads c located_here)
        ∙ rw (located_there.first, g) (joined_follows v (read_index v c) d (read_data v d) y r)

  lost_numbered : (l : Option ℕ) → break_of (option_map (misfit_break k) (option_map misfit.Lost l)) ≡ numbered 5 l
  lost_numbered None = refl
  lost_numbered (Some file) = refl

  -- the index partition's last index does not follow the data partition's last
  judges_apart : joined (brief_link b) w.data_letter there.first.0 generation ≡ false → JudgesLast (given u w) is ti k td j generation ri rd (Some (break_is.Apart k))
  judges_apart f ds c d li ld lc lcd y r g hi hd ei ed = rw (sym (follows_by ds c d lc lcd y r g) ∙ f)

  -- one that is not sound does not
  pub judges_unsound : b ≡ None → JudgesLast (given u w) is ti k td j generation ri rd (Some (break_is.Apart k))
  judges_unsound e = judges_apart (ap (λ (o : Option Brief). joined (brief_link o) w.data_letter there.first.0 generation) e)

  module _ (x : Brief) (is_some : b ≡ Some x) where
    joins_same : (q : Bool) → joined (Some (link_in x)) w.data_letter there.first.0 generation ≡ q → joined (brief_link b) w.data_letter there.first.0 generation ≡ q
    joins_same q f = ap (λ (o : Option Brief). joined (brief_link o) w.data_letter there.first.0 generation) is_some ∙ f

    -- it does; then the lowest file with an extent that is lost
    judges_lost : joined (Some (link_in x)) w.data_letter there.first.0 generation ≡ true → (lost : Option ℕ) → Loses t w ri here.end rd there.end lost
        → (a : Option Break) → break_of a ≡ numbered 5 lost → JudgesLast (given u w) is ti k td j generation ri rd a
    judges_lost f lost l a e ds c d li ld lc lcd y r g hi hd ei ed =
        let z = lost_located u w is ds li ld ri rd here there t x c d is_text (ap brief_link (sym is_some) ∙ reads) (located_here ds c d lc lcd y r g)
        (located_there ds c d lc lcd y r g) hi hd (omega arith) (omega arith) lost l generation f in
        let p : take c.end li ≡ li = ap (λ (n : ℕ). take n li) ei ∙ take-length li in
        let q : take d.end ld ≡ ld = ap (λ (n : ℕ). take n ld) ed ∙ take-length ld in
        e ∙ ap (numbered 5) (sym z) ∙ rw (p, q, sym (follows_by ds c d lc lcd y r g) ∙ joins_same true f)

    pub judges_by : (r : Option Misfit) → Fits t x w here.end there generation ri rd r → (a : Option Break) → a ≡ option_map (misfit_break k) r
        → JudgesLast (given u w) is ti k td j generation ri rd a
    judges_by r (apart e f) a h =
        subst (JudgesLast (given u w) is ti k td j generation ri rd) (sym (h ∙ ap (option_map (misfit_break k)) e)) (judges_apart (joins_same false f))
    judges_by r (behind l e f m) a h = judges_lost f l m a (ap break_of (h ∙ ap (option_map (misfit_break k)) e) ∙ lost_numbered l)

module _ (v : Volume) (i d : Tape) where
  pub verdict_1 : ends_with i (standing v.size i) ≡ false → Some (record { which = 1; number = 0 }) ≡ verdict v i d
  unfolding verdict
  verdict_1 a = rw a

  pub verdict_2 : ends_with i (standing v.size i) ≡ true → ends_with d (standing v.size d) ≡ false → Some (record { which = 2; number = 0 }) ≡ verdict v i d
  unfolding verdict
  verdict_2 a b = rw (a, b)

  pub verdict_3 : (k : ℕ) → ends_with i (standing v.size i) ≡ true → ends_with d (standing v.size d) ≡ true → chain_break v (standing v.size d) ≡ Some k
      → Some (record { which = 3; number = k }) ≡ verdict v i d
  unfolding verdict
  verdict_3 k a b e = rw (a, b, e)

  pub verdict_last : (c : Construct) (bs : List Construct) (e : Construct) (fs : List Construct) → ends_with i (standing v.size i) ≡ true → ends_with d (standing v.size d) ≡ true
      → chain_break v (standing v.size d) ≡ None → standing v.size i ≡ c ∷ bs → standing v.size d ≡ e ∷ fs
      → last_break v (length bs) c e (data_lengths i) (data_lengths d) ≡ verdict v i d
  unfolding verdict
  verdict_last c bs e fs a b n p q =
      let m : suc (length bs) - 1 ≡ length bs = omega arith in
      rw (a, b, n, p, q, m)

  -- both partitions end with a standing construct
  pub ends_some : (t : Tape) (ds : List Construct) → ends_with t ds ≡ true → (c : Construct) × (bs : List Construct) × (ds ≡ c ∷ bs) × (c.end ≡ length t)
  ends_some t [] e = let z : ◌≡◌ {A = ℕ} 0 1 = cc in absurd (omega arith)
  ends_some t (c ∷ bs) e = (c, bs, refl, eqb-true c.end (length t) e)
