-- What a sweep gathers, said of the list of elements.
use mathlib.Core.Path.{◌≡◌, refl, ap, sym, ◌∙◌}
use mathlib.Core.Bool.{Bool, true, false, cond, not, ◌&&◌, ◌||◌, and-true}
use mathlib.Core.List.{List, [], ◌∷◌, ◌++◌, foldl, foldl-append}
use Prim.Native.Nat.{ℕ, suc, ◌+◌}
use native.Mathlib.Nat.{add-zero, zero-add}
use native.Mathlib.Omega.{arith}
use lib.ListN.{length}
use Rattle.slices.specs.Slices.{every}
use Rattle.slices.proofs.Every.{every_append}
use Rattle.xml.specs.Tree.{Head, Forest, none, node, tag_head}
use Rattle.elements.specs.Tags.{Tags, told, heads}
use Rattle.index_names.specs.declared.Sort.{Sort}
use Rattle.index_names.specs.Sorts.{holds_elements}
use Rattle.index_values.specs.Elements.{IndexElement, element, elements, name_number, sort_of}
use Rattle.index.specs.Structure.{may_stand, complete, rightly}
use Rattle.index_values.specs.Entries.{many}
use Rattle.index_values.specs.Tests.{Given, valued, own, few, lawful_file}
use Rattle.index_values.specs.Steps.{rows_taken}
use Rattle.index.specs.Entries.{holder}
use Rattle.index.specs.SweepSteps.{All, with_sums, one_more, none_seen, marked, row_done, after_row, ended_sums, begun, settled, after_element, sweep}
use Rattle.index.specs.declared.walk.Sums.{Sums}
use Rattle.index.proofs.Counted.{tally, done_counts, sat, more_sat}

shuffle : (n p q r s t : Bool) → (((n && p) && (q && r)) && (s && t)) ≡ (n && (s && ((p && q) && (r && t))))
shuffle false p q r s t = refl
shuffle true false q r false t = refl
shuffle true false q r true t = refl
shuffle true true false r false t = refl
shuffle true true false r true t = refl
shuffle true true true false false t = refl
shuffle true true true false true t = refl
shuffle true true true true s t = refl

mix : (a p e q r : Bool) → ((((a && p) && e) && q) && r) ≡ (a && ((p && q) && (e && r)))
mix false p e q r = refl
mix true false e q r = refl
mix true true false false r = refl
mix true true false true r = refl
mix true true true q r = refl

module _ (x : List ℕ) (g : Given) where
  -- what the start tags alone decide is a fold over the elements
  module _ {B : Type 0} (view : Sums → B) (next : B → IndexElement → B)
      (one : (s : Sort) (h : Head) (c : Forest) (a : Sums) → view (begun g s h c a) ≡ next (view a) (element s h c))
      (other : (y z : Bool) (n : ℕ) (a : Sums) → view (settled y z n a) ≡ view a)
      (end : (kind : Sort) (m : List ℕ) (a : Sums) → view (ended_sums kind m a) ≡ view a) where
    pub fold_law : (kind : Sort) (p : ℕ) (f : Tags) (m : List ℕ) (a : All) → view (sweep x g kind p m f a).sums ≡ foldl next (view a.sums) (elements kind (heads f))
    unfolding sweep elements after_row after_element told
    fold_law kind p none m a = end kind m a.sums
    fold_law kind p (node t k f) m a =
        fold_law kind p f (marked (name_number kind h) m) (after_element x g s k p a.sums y)
        ∙ ap (λ (z : B). foldl next z (elements kind (heads f))) (other (few s c) (lawful_file g s c) (length (rows_taken s c)) y.sums ∙ go (fold_law s q k none_seen b) (holds_elements s))
        ∙ sym (foldl-append next (next (view a.sums) (element s h c)) (cond (holds_elements s) (elements s c) []) (elements kind (heads f)))
      where
        h : Head
        h = tag_head t

        c : Forest
        c = heads k

        s : Sort
        s = sort_of kind h

        q : ℕ
        q = holder s p a.sums.entries

        b : All
        b = with_sums (begun g s h c a.sums) a

        y : All
        y = cond (holds_elements s) (sweep x g s q none_seen k b) b

        go : view (sweep x g s q none_seen k b).sums ≡ foldl next (view b.sums) (elements s c) → (o : Bool)
            → view (cond o (sweep x g s q none_seen k b) b).sums ≡ foldl next (next (view a.sums) (element s h c)) (cond o (elements s c) [])
        go w true = w ∙ ap (λ (z : B). foldl next z (elements s c)) (one s h c a.sums)
        go w false = one s h c a.sums

  -- a flag that every element keeps or takes down, at its start tag or at its end
  module _ (view : Sums → Bool) (first last : IndexElement → Bool)
      (one : (s : Sort) (h : Head) (c : Forest) (a : Sums) → view (begun g s h c a) ≡ (view a && first (element s h c)))
      (two : (s : Sort) (h : Head) (c : Forest) (n : ℕ) (a : Sums) → view (settled (few s c) (lawful_file g s c) n a) ≡ (view a && last (element s h c)))
      (end : (kind : Sort) (m : List ℕ) (a : Sums) → view (ended_sums kind m a) ≡ view a) where
    abbrev test : IndexElement → Bool
    test e = first e && last e

    pub flag_law : (kind : Sort) (p : ℕ) (f : Tags) (m : List ℕ) (a : All) → view (sweep x g kind p m f a).sums ≡ (view a.sums && every test (elements kind (heads f)))
    unfolding sweep elements after_row after_element told
    flag_law kind p none m a = end kind m a.sums ∙ sym (and-true (view a.sums))
    flag_law kind p (node t k f) m a =
        flag_law kind p f (marked (name_number kind h) m) (after_element x g s k p a.sums y)
        ∙ ap (λ (z : Bool). z && every test (elements kind (heads f))) (two s h c (length (rows_taken s c)) y.sums ∙ ap (λ (z : Bool). z && last e) (go (flag_law s q k none_seen b) (holds_elements s)))
        ∙ mix (view a.sums) (first e) (every test (cond (holds_elements s) (elements s c) [])) (last e) (every test (elements kind (heads f)))
        ∙ ap (λ (z : Bool). view a.sums && (test e && z)) (sym (every_append test (cond (holds_elements s) (elements s c) []) (elements kind (heads f))))
      where
        h : Head
        h = tag_head t

        c : Forest
        c = heads k

        s : Sort
        s = sort_of kind h

        q : ℕ
        q = holder s p a.sums.entries

        e : IndexElement
        e = element s h c

        b : All
        b = with_sums (begun g s h c a.sums) a

        y : All
        y = cond (holds_elements s) (sweep x g s q none_seen k b) b

        go : view (sweep x g s q none_seen k b).sums ≡ (view b.sums && every test (elements s c)) → (o : Bool)
            → view (cond o (sweep x g s q none_seen k b) b).sums ≡ ((view a.sums && first e) && every test (cond o (elements s c) []))
        go w true = w ∙ ap (λ (z : Bool). z && every test (elements s c)) (one s h c a.sums)
        go w false = one s h c a.sums ∙ sym (and-true (view a.sums && first e))

  -- where nothing is tested at the end
  module _ (t : IndexElement → Bool) where
    at_start : (l : List IndexElement) → every (λ e. t e && true) l ≡ every t l
    at_start [] = refl
    at_start (e ∷ l) = ap (λ (b : Bool). b && every (λ e. t e && true) l) (and-true (t e)) ∙ ap (λ (b : Bool). t e && b) (at_start l)

  module _ (kind : Sort) (p : ℕ) (f : Tags) (m : List ℕ) (a : All) where
    abbrev l : List IndexElement
    l = elements kind (heads f)

    abbrev z : Sums
    z = (sweep x g kind p m f a).sums

    pub few_law : z.few ≡ (a.sums.few && every (λ e. few e.sort e.kids) l)
    unfolding begun settled ended_sums
    few_law = flag_law (λ b. b.few) (λ e. true) (λ e. few e.sort e.kids) (λ s h c a. sym (and-true a.few)) (λ s h c n a. refl) (λ k m a. refl) kind p f m a

    pub values_law : z.values ≡ (a.sums.values && every (λ e. valued e.sort e.head.text) l)
    unfolding begun settled ended_sums
    values_law =
        flag_law (λ b. b.values) (λ e. valued e.sort e.head.text) (λ e. true) (λ s h c a. refl) (λ s h c n a. sym (and-true a.values)) (λ k m a. refl) kind p f m a
        ∙ ap (λ (b : Bool). a.sums.values && b) (at_start (λ e. valued e.sort e.head.text) l)

    pub own_law : z.own ≡ (a.sums.own && every (λ e. own g e.sort e.head.text) l)
    unfolding begun settled ended_sums
    own_law =
        flag_law (λ b. b.own) (λ e. own g e.sort e.head.text) (λ e. true) (λ s h c a. refl) (λ s h c n a. sym (and-true a.own)) (λ k m a. refl) kind p f m a
        ∙ ap (λ (b : Bool). a.sums.own && b) (at_start (λ e. own g e.sort e.head.text) l)

    pub lawful_law : z.lawful ≡ (a.sums.lawful && every (λ e. lawful_file g e.sort e.kids) l)
    unfolding begun settled ended_sums
    lawful_law = flag_law (λ b. b.lawful) (λ e. true) (λ e. lawful_file g e.sort e.kids) (λ s h c a. sym (and-true a.lawful)) (λ s h c n a. refl) (λ k m a. refl) kind p f m a

  -- the structure: the row is complete, and every element in it and below is right
  pub structure_law : (kind : Sort) (p : ℕ) (f : Tags) (m : List ℕ) (a : All)
      → (sweep x g kind p m f a).sums.structure ≡ (a.sums.structure && (row_done kind (tally kind m (heads f)) && every rightly (elements kind (heads f))))
  unfolding sweep tally elements after_row ended_sums rightly begun after_element settled told
  structure_law kind p none m a = ap (λ (b : Bool). a.sums.structure && b) (sym (and-true (row_done kind m)))
  structure_law kind p (node v k f) m a =
      structure_law kind p f (marked (name_number kind h) m) (after_element x g s k p a.sums (cond (holds_elements s) (sweep x g s q none_seen k b) b)) ∙ go (structure_law s q k none_seen b) (holds_elements s) refl
    where
      h : Head
      h = tag_head v

      c : Forest
      c = heads k

      s : Sort
      s = sort_of kind h

      q : ℕ
      q = holder s p a.sums.entries

      b : All
      b = with_sums (begun g s h c a.sums) a

      n : Bool
      n = a.sums.structure

      w : Bool
      w = may_stand s h c

      d : Bool
      d = row_done kind (tally kind (marked (name_number kind h) m) (heads f))

      t : Bool
      t = every rightly (elements kind (heads f))

      go : (sweep x g s q none_seen k b).sums.structure ≡ ((n && w) && (row_done s (tally s none_seen c) && every rightly (elements s c))) → (o : Bool) → holds_elements s ≡ o
          → ((cond (holds_elements s) (sweep x g s q none_seen k b) b).sums.structure && (d && t))
          ≡ (n && (d && ((w && (not (holds_elements s) || complete s c)) && every rightly (cond (holds_elements s) (elements s c) [] ++ elements kind (heads f)))))
      go i true e =
          ap (λ (z : Bool). (cond z (sweep x g s q none_seen k b) b).sums.structure && (d && t)) e
          ∙ ap (λ (z : Bool). z && (d && t)) (i ∙ ap (λ (z : Bool). (n && w) && (z && every rightly (elements s c))) (done_counts s c))
          ∙ shuffle n w (complete s c) (every rightly (elements s c)) d t
          ∙ ap (λ (z : Bool). n && (d && ((w && complete s c) && z))) (sym (every_append rightly (elements s c) (elements kind (heads f))))
          ∙ sym (ap (λ (z : Bool). n && (d && ((w && (not z || complete s c)) && every rightly (cond z (elements s c) [] ++ elements kind (heads f))))) e)
      go i false e =
          ap (λ (z : Bool). (cond z (sweep x g s q none_seen k b) b).sums.structure && (d && t)) e
          ∙ ap (λ (z : Bool). z && (d && t)) (sym (and-true (n && w)))
          ∙ shuffle n w true true d t
          ∙ sym (ap (λ (z : Bool). n && (d && ((w && (not z || complete s c)) && every rightly (cond z (elements s c) [] ++ elements kind (heads f))))) e)

-- a count of some elements, up to the limit
module _ (test : IndexElement → Bool) where
  tick : ℕ → IndexElement → ℕ
  tick n e = cond (test e) (one_more n) n

  ticks : (l : List IndexElement) (n : ℕ) → foldl tick (sat n) l ≡ sat (n + many test l)
  unfolding tick many
  ticks [] n = sym (ap sat (add-zero n))
  ticks (e ∷ l) n = go (test e) refl (ticks l (suc n)) (ticks l n)
    where
      go : (t : Bool) → test e ≡ t → foldl tick (sat (suc n)) l ≡ sat (suc n + many test l) → foldl tick (sat n) l ≡ sat (n + many test l)
          → foldl tick (tick (sat n) e) l ≡ sat (n + many test (e ∷ l))
      go true q i j = ap (λ (x : ℕ). foldl tick x l) (simp q (more_sat n)) ∙ i ∙ ap sat (simp q (omega arith))
      go false q i j = ap (λ (x : ℕ). foldl tick x l) (simp q) ∙ j ∙ simp q

  pub count_law : (x : List ℕ) (g : Given) (view : Sums → ℕ)
      → ((s : Sort) (h : Head) (c : Forest) (a : Sums) → view (begun g s h c a) ≡ cond (test (element s h c)) (one_more (view a)) (view a))
      → ((y z : Bool) (n : ℕ) (a : Sums) → view (settled y z n a) ≡ view a)
      → ((kind : Sort) (m : List ℕ) (a : Sums) → view (ended_sums kind m a) ≡ view a) → (kind : Sort) (p : ℕ) (f : Tags) (m : List ℕ) (a : All) → view a.sums ≡ 0
      → view (sweep x g kind p m f a).sums ≡ sat (many test (elements kind (heads f)))
  unfolding tick sat
  count_law x g view one other end kind p f m a z =
      fold_law x g view tick one other end kind p f m a ∙ ap (λ (n : ℕ). foldl tick n (elements kind (heads f))) z ∙ ticks (elements kind (heads f)) 0
      ∙ ap sat (zero-add (many test (elements kind (heads f))))
