-- The places of a row's first elements, one element more at a time.
use mathlib.Core.Path.{◌≡◌, refl, ap, sym, ◌∙◌, subst}
use mathlib.Core.Bool.{Bool, true, false, cond, ◌&&◌}
use mathlib.Core.List.{List}
use Prim.Native.Nat.{ℕ, ◌<◌}
use native.Mathlib.Omega.{arith}
use borrow.Author.Tests.{ne_eqb, eqb-true, eqb-false, lt-ltb}
use lib.Dec.{eqb, ltb}
use lib.ListN.{length, get_or, set, length-set, replicate, get_or-replicate, length-replicate, drop}
use lib.Seq.{get_or-set_same, get_or-set_other}
use Rattle.xml.specs.Tree.{Tree, Forest, none, node, tag_head}
use Rattle.elements.specs.Tags.{Tags, tags_at, tags_in}
use Rattle.elements.specs.Reading.{forest_at, head_at, children_at}
use Rattle.elements.specs.TagSteps.{FirstOf}
use Rattle.elements.proofs.ByTag.{no_tags}
use Rattle.children.specs.RowSteps.{seat, tag_seat}
use Rattle.children.proofs.Seats.{seat_none, seat_some, tag_none, tag_some}
use Rattle.index_names.specs.declared.Sort.{Sort}
use Rattle.index_names.specs.Names.{names, number_in}
use Rattle.index_rows.specs.Steps.{first_by, noted, Placed, TagsPlaced}

length_noted : (j n : ℕ) (t : List ℕ) → length (noted j n t) ≡ length t
unfolding noted
length_noted j n t = go (ltb j 16 && eqb (get_or t j 0) 0)
  where
    go : (b : Bool) → length (cond b (set t j n) t) ≡ length t
    go true = length-set t j n
    go false = refl

noted_other : (i j n : ℕ) (t : List ℕ) → (j ≡ i → ⊥) → get_or (noted i n t) j 0 ≡ get_or t j 0
unfolding noted
noted_other i j n t e = go (ltb i 16 && eqb (get_or t i 0) 0)
  where
    go : (b : Bool) → get_or (cond b (set t i n) t) j 0 ≡ get_or t j 0
    go true = get_or-set_other t i j n 0 e
    go false = refl

-- an element has a name, and the one at a place stands alone there
module _ {A : Type 0} (name : A → List ℕ) (alone : ℕ → Tree A) (empty : alone 0 ≡ none) (kind : Sort) where
  -- the first element of number j: the one noted, or else the first in what is left of the row
  abbrev still : List ℕ → ℕ → Tree A → Tree A
  still t j f = cond (eqb (get_or t j 0) 0) (first_by name kind j f) (alone (get_or t j 0))

  -- so far the places of the row f are noted, and g is left of it
  pub record NotingBy (f g : Tree A) (t : List ℕ) : Type 0 where
    pub size : length t ≡ 16
    pub each : (j : ℕ) → j < 16 → first_by name kind j f ≡ still t j g

  by_none : (f : Tree A) → NotingBy f f (replicate 16 0)
  by_none f =
      record {
        size = length-replicate {A = ℕ} 16 0;
        each = λ j h. sym (ap (λ (n : ℕ). cond (eqb n 0) (first_by name kind j f) (alone n)) (get_or-replicate 16 j 0 0 h));
      }

  by_all : (f g : Tree A) (t : List ℕ) → g ≡ none → NotingBy f g t → (j : ℕ) → j < 16 → first_by name kind j f ≡ alone (get_or t j 0)
  unfolding first_by
  by_all f g t e n j h = n.each j h ∙ ap (still t j) e ∙ go (eqb (get_or t j 0) 0) refl
    where
      go : (b : Bool) → eqb (get_or t j 0) 0 ≡ b → still t j none ≡ alone (get_or t j 0)
      go true q = rw q (sym (ap alone (eqb-true _ _ q) ∙ empty))
      go false q = rw q

  -- the next element is x with the children c, of number i, at n, before the elements g'
  by_more : (i n : ℕ) (t t' : List ℕ) (f g g' : Tree A) (x : A) (c : Tree A) → g ≡ node x c g' → alone n ≡ node x c none → (n ≡ 0 → ⊥)
      → i ≡ number_in (names kind) (name x) → t' ≡ noted i n t → NotingBy f g t → NotingBy f g' t'
  unfolding first_by noted
  by_more i n t t' f g g' x c next here there en et w =
      record {
        size = ap length et ∙ length_noted i n t ∙ w.size;
        each = λ j h. w.each j h ∙ ap (still t j) next ∙ go j h (eqb i j) refl ∙ sym (ap (λ (t : List ℕ). still t j g') et);
      }
    where
      go : (j : ℕ) → j < 16 → (b : Bool) → eqb i j ≡ b → still t j (node x c g') ≡ still (noted i n t) j g'
      go j h false q =
          let e : eqb (number_in (names kind) (name x)) j ≡ false = ap (λ (y : ℕ). eqb y j) (sym en) ∙ q in
          rw (noted_other i j n t (λ z. eqb-false i j q (sym z)), e)
      go j h true q = at (eqb (get_or t j 0) 0) refl
        where
          e : eqb (number_in (names kind) (name x)) j ≡ true
          e = ap (λ (y : ℕ). eqb y j) (sym en) ∙ q

          same : i ≡ j
          same = eqb-true i j q

          at : (b : Bool) → eqb (get_or t j 0) 0 ≡ b → still t j (node x c g') ≡ still (noted i n t) j g'
          at true z =
              let v : (ltb j 16 && eqb (get_or t j 0) 0) ≡ true = rw (lt-ltb j 16 h, z) in
              let y : get_or (noted i n t) j 0 ≡ n =
              ap (λ (x : ℕ). get_or (noted x n t) j 0) same ∙ ap (λ (b : Bool). get_or (cond b (set t j n) t) j 0) v
              ∙ get_or-set_same t j n 0 (omega (arith, w.size)) in
              rw (z, e, y, ne_eqb n 0 there) (sym here)
          at false z =
              let v : (ltb j 16 && eqb (get_or t j 0) 0) ≡ false = rw (lt-ltb j 16 h, z) in
              let y : noted i n t ≡ t =
              ap (λ (x : ℕ). noted x n t) same ∙ ap (λ (b : Bool). cond b (set t j n) t) v in
              rw (y, z)

module _ (s : List ℕ) (kind : Sort) where
  -- so far the places of the row at i are noted, and the row at m is left of it: by heads and by tags
  pub record Noting (i m : ℕ) (t : List ℕ) : Type 0 where
    pub heads : NotingBy (λ h. h.name) (seat s) (seat_none s 0 refl) kind (forest_at s i) (forest_at s m) t
    pub tags : NotingBy (λ r. (tag_head r).name) (tag_seat s) (tag_none s 0 refl) kind (tags_at s i) (tags_at s m) t

  pub noting_none : (i : ℕ) → Noting i i (replicate 16 0)
  noting_none i =
      record {
        heads = by_none (λ h. h.name) (seat s) (seat_none s 0 refl) kind (forest_at s i);
        tags = by_none (λ r. (tag_head r).name) (tag_seat s) (tag_none s 0 refl) kind (tags_at s i);
      }

  module _ (i m : ℕ) (t : List ℕ) (e : forest_at s m ≡ none) (w : Noting i m t) where
    pub noting_all : Placed s kind (forest_at s i) t
    noting_all = by_all (λ h. h.name) (seat s) (seat_none s 0 refl) kind (forest_at s i) (forest_at s m) t e w.heads

    pub noting_tags : TagsPlaced s kind (tags_at s i) t
    noting_tags = by_all (λ r. (tag_head r).name) (tag_seat s) (tag_none s 0 refl) kind (tags_at s i) (tags_at s m) t (no_tags s m e) w.tags

  -- a row with no element
  pub placed_none : (f : Forest) (t : List ℕ) → f ≡ none → t ≡ replicate 16 0 → Placed s kind f t
  placed_none f t e z =
      subst (Placed s kind f) (sym z)
      (by_all (λ h. h.name) (seat s) (seat_none s 0 refl) kind f f (replicate 16 0) e (by_none (λ h. h.name) (seat s) (seat_none s 0 refl) kind f))

  pub tags_none : (f : Tags) (t : List ℕ) → f ≡ none → t ≡ replicate 16 0 → TagsPlaced s kind f t
  tags_none f t e z =
      subst (TagsPlaced s kind f) (sym z)
      (by_all (λ r. (tag_head r).name) (tag_seat s) (tag_none s 0 refl) kind f f (replicate 16 0) e (by_none (λ r. (tag_head r).name) (tag_seat s) (tag_none s 0 refl) kind f))

-- an element of number i at n, before the row at k
module _ (s : List ℕ) (kind : Sort) (i : ℕ) (t t' : List ℕ) {m n k : ℕ} (first : FirstOf s m n k) (en : i ≡ number_in (names kind) (head_at s n).name) (et : t' ≡ noted i n t) where
  pub noting_more : (o : ℕ) → Noting s kind o m t → Noting s kind o k t'
  noting_more o w =
      let there : n ≡ 0 → ⊥ = λ e. omega (arith, first.place) in
      record {
        heads = by_more (λ h. h.name) (seat s) (seat_none s 0 refl) kind i n t t' (forest_at s o) (forest_at s m) (forest_at s k) (head_at s n) (children_at s n) first.row (seat_some s n there) there en et w.heads;
        tags = by_more (λ r. (tag_head r).name) (tag_seat s) (tag_none s 0 refl) kind i n t t' (tags_at s o) (tags_at s m) (tags_at s k) (drop n s) (tags_in (drop n s)) first.tags (tag_some s n there) there en et w.tags;
      }
