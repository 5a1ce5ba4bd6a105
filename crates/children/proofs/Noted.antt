-- A row of which a part is passed, the place of each element passed noted at its rule's number: by whatever elements are told.
use mathlib.Core.Path.{◌≡◌, refl, ap, ◌∙◌, sym}
use mathlib.Core.Bool.{Bool, true, false}
use mathlib.Core.List.{List}
use Prim.Native.Nat.{ℕ, ◌<◌}
use borrow.Author.Tests.{eq-eqb, ne_eqb, eqb-true, eqb-false}
use lib.Dec.{eqb}
use lib.ListN.{length, get_or, set}
use lib.Seq.{get_or-set_same, get_or-set_other}
use Rattle.xml.specs.Tree.{Tree, none, node}
use Rattle.children.specs.Rules.{Rule, rule_number}
use Rattle.children.specs.Children.{matching}

module _ {A : Type 0} where
  -- a row, and then another
  unfoldable pub join : Tree A → Tree A → Tree A
  join none g = g
  join (node h k f) g = node h k (join f g)

  pub join_none : (f : Tree A) → join f none ≡ f
  unfolding join
  join_none none = refl
  join_none (node h k f) = ap (node h k) (join_none f)

  pub kept_same : (p q : A → Bool) → ((x : A) → p x ≡ q x) → (f : Tree A) → matching p f ≡ matching q f
  unfolding matching
  kept_same p q e none = refl
  kept_same p q e (node h c f) = rw (e h, kept_same p q e f)

-- an element has a name, and the one at a place stands alone there
module _ {A : Type 0} (name : A → List ℕ) (rs : List Rule) (alone : ℕ → Tree A) (empty : alone 0 ≡ none) where
  abbrev pub chosen : ℕ → Tree A → Tree A
  chosen k = matching (λ x. eqb (rule_number rs (name x)) k)

  -- of the row f the elements before g are passed
  pub record Noted (f g : Tree A) (seats : List ℕ) : Type 0 where
    pub each : (k : ℕ) → chosen k f ≡ join (alone (get_or seats k 0)) (chosen k g)

  pub noted_none : (f : Tree A) (seats : List ℕ) → ((k : ℕ) → get_or seats k 0 ≡ 0) → Noted f f seats
  unfolding join
  noted_none f seats z = record { each = λ k. sym (ap (λ (n : ℕ). join (alone n) (chosen k f)) (z k) ∙ ap (λ (t : Tree A). join t (chosen k f)) empty) }

  pub noted_all : (f g : Tree A) (seats : List ℕ) → Noted f g seats → g ≡ none → (k : ℕ) → chosen k f ≡ alone (get_or seats k 0)
  unfolding matching
  noted_all f g seats p e k = p.each k ∙ ap (λ (h : Tree A). join (alone (get_or seats k 0)) (chosen k h)) e ∙ join_none (alone (get_or seats k 0))

  -- the next element is x with the children c, at n, before the elements g'
  pub noted_next : (f g g' : Tree A) (x : A) (c : Tree A) (seats : List ℕ) (n k : ℕ) → Noted f g seats → g ≡ node x c g' → alone n ≡ node x c none
      → k ≡ rule_number rs (name x) → k < length seats → get_or seats k 0 ≡ 0 → Noted f g' (set seats k n)
  unfolding matching join
  noted_next f g g' x c seats n k p next here e h q = record { each = λ j. at j (eqb j k) refl }
    where
      own : chosen k g ≡ node x c (chosen k g')
      own = ap (chosen k) next ∙ rw (eq-eqb _ _ (sym e))

      other : (j : ℕ) → (j ≡ k → ⊥) → chosen j g ≡ chosen j g'
      other j d = ap (chosen j) next ∙ rw (ne_eqb _ _ (λ z. d (sym z ∙ sym e)))

      at : (j : ℕ) (b : Bool) → eqb j k ≡ b → chosen j f ≡ join (alone (get_or (set seats k n) j 0)) (chosen j g')
      at j true b =
          let z : j ≡ k = eqb-true _ _ b in
          rw (z, get_or-set_same seats k n 0 h, here)
          (p.each k ∙ ap (λ (m : ℕ). join (alone m) (chosen k g)) q ∙ ap (λ (t : Tree A). join t (chosen k g)) empty ∙ own)
      at j false b =
          let d = eqb-false _ _ b in
          rw (get_or-set_other seats k j n 0 d) (p.each j ∙ ap (join (alone (get_or seats j 0))) (other j d))
