-- What is told of elements by their tags: heads, or anything else. The elements of a text stand in one order, by whatever they are told.
use mathlib.Core.Path.{◌≡◌, refl, ap, ◌∙◌, sym}
use mathlib.Core.Bool.{Bool, true, false}
use mathlib.Core.List.{List, [], ◌∷◌}
use Prim.Native.Nat.{ℕ, ◌≤◌}
use native.Mathlib.Omega.{arith}
use lib.Dec.{eqb}
use lib.ListN.{length, drop, get_or, length-drop}
use Rattle.xml.specs.Tree.{Tree, none, node, past, not_open, tag_head, top, pop, closed, opened, alone, put, trees}
use Rattle.elements.specs.Tags.{Tags, told, heads, tags_of, tags_left, tags_at, tags_around, tags_in, tag_place}
use Rattle.elements.specs.Reading.{left_at, forest_at, children_at}
use Rattle.elements.specs.TagSteps.{around_at}

module _ {A : Type 0} (tell : List ℕ → A) where
  unfoldable pub each : List Tags → List (Tree A)
  each [] = []
  each (f ∷ fs) = told tell f ∷ each fs

  pub top_each : (fs : List Tags) → top (each fs) ≡ told tell (top fs)
  unfolding top each told
  top_each [] = refl
  top_each (f ∷ fs) = refl

  pub pop_each : (fs : List Tags) → pop (each fs) ≡ each (pop fs)
  unfolding pop each
  pop_each [] = refl
  pop_each (f ∷ fs) = refl

  put_each : (r : List ℕ) (fs : List Tags) → put tell r (each fs) ≡ each (put (λ r. r) r fs)
  unfolding put closed opened alone each told
  put_each r fs = go (eqb (get_or r 0 0) 47) (past 0 0 r).empty refl refl
    where
      go : (a b : Bool) → eqb (get_or r 0 0) 47 ≡ a → (past 0 0 r).empty ≡ b → put tell r (each fs) ≡ each (put (λ r. r) r fs)
      go true b e g = simp e
      go false true e g = simp (e, g) (rw (top_each fs, pop_each fs))
      go false false e g = simp (e, g) (rw (top_each fs, pop_each fs, top_each (pop fs), pop_each (pop fs)))

  pub trees_each : (s : List ℕ) → trees tell s ≡ each (tags_of s)
  unfolding trees each
  trees_each [] = refl
  trees_each (b ∷ s) = go (not_open b) refl (trees_each s)
    where
      go : (t : Bool) → not_open b ≡ t → trees tell s ≡ each (tags_of s) → trees tell (b ∷ s) ≡ each (tags_of (b ∷ s))
      go true e h = simp e h
      go false e h = simp e (ap (put tell s) h ∙ put_each s (tags_of s))

  pub told_none : (f : Tags) → told tell f ≡ none → f ≡ none
  unfolding told
  told_none none e = refl
  told_none (node r k f) e = let y : ◌≡◌ {A = ℕ} 0 1 = cc in absurd (omega arith)

module _ (s : List ℕ) where
  pub left_told : (i : ℕ) → left_at s i ≡ each tag_head (tags_left s i)
  left_told i = trees_each tag_head (drop i s)

  -- a row's heads
  pub row_told : (i : ℕ) → forest_at s i ≡ heads (tags_at s i)
  row_told i = ap top (left_told i) ∙ top_each tag_head (tags_left s i)

  pub around_told : (i : ℕ) → around_at s i ≡ each tag_head (tags_around s i)
  around_told i = ap pop (left_told i) ∙ pop_each tag_head (tags_left s i)

  pub no_tags : (i : ℕ) → forest_at s i ≡ none → tags_at s i ≡ none
  no_tags i e = told_none tag_head (tags_at s i) (sym (row_told i) ∙ e)

  pub children_told : (n : ℕ) → children_at s n ≡ heads (tags_in (drop n s))
  unfolding children_at tags_in told
  children_told n = go (past 0 0 (drop n s)).empty refl
    where
      go : (b : Bool) → (past 0 0 (drop n s)).empty ≡ b → children_at s n ≡ heads (tags_in (drop n s))
      go true e = simp e
      go false e = simp e (row_told n)

  -- what holds of tags holds of heads
  module _ (i j : ℕ) where
    pub left_kept : tags_left s j ≡ tags_around s i → left_at s j ≡ around_at s i
    left_kept e = left_told j ∙ ap (each tag_head) e ∙ sym (around_told i)

    pub around_kept : tags_around s i ≡ tags_around s j → around_at s i ≡ around_at s j
    around_kept e = around_told i ∙ ap (each tag_head) e ∙ sym (around_told j)

  -- the place of a tag
  pub place_kept : (n : ℕ) → n ≤ length s → tag_place s (drop n s) ≡ n
  place_kept n h = omega (arith, length-drop n s)
