-- What is found by name in a row: in none of its elements, in the first one, or behind it.
use Rattle.std.specs.Prelude.{None, Option, Some, IfSome}
use Rattle.std.specs.Fn.{CalledAt}
use Rattle.std.specs.Iterator.{YieldsThen}
use Rattle.std.specs.List.{FoldsTo}
use denote.Param.Members.{Mut}
use denote.Ref.{Bor}
use mathlib.Core.Path.{◌≡◌, refl, ap, sym, ◌∙◌, subst}
use mathlib.Core.Bool.{Bool, true, false}
use mathlib.Core.List.{List, [], ◌∷◌}
use Prim.Native.Nat.{ℕ}
use lib.ListN.{drop}
use Rattle.slices.specs.Slices.{same}
use Rattle.xml.specs.Tree.{none}
use Rattle.elements.specs.Tags.{tags_at, text_place}
use Rattle.elements.specs.Reading.{forest_at, head_at, children_at, part_at}
use Rattle.elements.specs.StartSteps.{ItemOf}
use Rattle.elements.specs.declared.starts.Start.{Start}
use Rattle.elements.specs.TagSteps.{FirstOf}
use Rattle.elements.specs.declared.heads.Span.{Span}
use Rattle.elements.proofs.ByTag.{no_tags}
use Rattle.children.specs.Children.{matching}
use Rattle.children.specs.Places.{tags_named, first_text}
use Rattle.index_rows.proofs.Named.{same_flip}
use Rattle.index_values.specs.Elements.{text_in, children_in}
use Rattle.index_values.specs.declared.rows.EachStart.{EachStart}
use Rattle.index_values.specs.EachStart.{GivesStart}
use Rattle.index_values.specs.Steps.{FoundStart, NoneFound, Finds}

module _ (name s : List ℕ) (i : ℕ) where
  -- where the text stands that is found
  abbrev pub place_from : Span
  place_from = first_text s (tags_named name (tags_at s i))

  pub place_none : forest_at s i ≡ none → place_from ≡ record { from = 0; len = 0 }
  unfolding matching
  place_none e = ap (λ t. first_text s (tags_named name t)) (no_tags s i e)

  pub text_none : forest_at s i ≡ none → text_in name (forest_at s i) ≡ []
  unfolding text_in
  text_none e = ap (text_in name) e

  pub row_none : forest_at s i ≡ none → children_in name (forest_at s i) ≡ none
  unfolding children_in
  row_none e = ap (children_in name) e

  module _ {n j : ℕ} (first : FirstOf s i n j) where
    pub text_here : same (head_at s n).name name ≡ true → text_in name (forest_at s i) ≡ (head_at s n).text
    unfolding text_in
    text_here e = ap (text_in name) first.row ∙ simp e

    pub place_here : same (head_at s n).name name ≡ true → place_from ≡ text_place s (drop n s)
    unfolding matching
    place_here e = ap (λ t. first_text s (tags_named name t)) first.tags ∙ simp (same_flip name (head_at s n).name ∙ e)

    pub place_next : same (head_at s n).name name ≡ false → place_from ≡ first_text s (tags_named name (tags_at s j))
    unfolding matching
    place_next e = ap (λ t. first_text s (tags_named name t)) first.tags ∙ simp (same_flip name (head_at s n).name ∙ e)

    pub text_next : same (head_at s n).name name ≡ false → text_in name (forest_at s i) ≡ text_in name (forest_at s j)
    unfolding text_in
    text_next e = ap (text_in name) first.row ∙ simp e

    pub row_here : same (head_at s n).name name ≡ true → children_in name (forest_at s i) ≡ children_at s n
    unfolding children_in
    row_here e = ap (children_in name) first.row ∙ simp e

    pub row_next : same (head_at s n).name name ≡ false → children_in name (forest_at s i) ≡ children_in name (forest_at s j)
    unfolding children_in
    row_next e = ap (children_in name) first.row ∙ simp e

-- what the row at i has of the name is what the row at m has
pub record SameRest (name s : List ℕ) (i m : ℕ) : Type 0 where
  pub text : text_in name (forest_at s i) ≡ text_in name (forest_at s m)
  pub place : place_from name s i ≡ place_from name s m
  pub row : children_in name (forest_at s i) ≡ children_in name (forest_at s m)

pub same_rest : (name s : List ℕ) (i : ℕ) → SameRest name s i i
same_rest name s i = record { text = refl; place = refl; row = refl }

module _ {name s : List ℕ} {i m : ℕ} (w : SameRest name s i m) where
  pub rest_none : forest_at s m ≡ none → NoneFound s i name
  rest_none e =
      record { place = w.place ∙ place_none name s m e; text = w.text ∙ text_none name s m e; row = w.row ∙ row_none name s m e }

  pub rest_here : {h : Start} {k : ℕ} → ItemOf s m h k → same (part_at s h.name) name ≡ true → FoundStart s i name h
  rest_here {h} f e =
      let n : same (head_at s h.at).name name ≡ true = ap (λ (n : List ℕ). same n name) (sym f.shape.name.part) ∙ e in
      record { shape = f.shape; place = w.place ∙ place_here name s m f.first n; text = w.text ∙ text_here name s m f.first n; row = w.row ∙ row_here name s m f.first n }

  pub rest_next : {h : Start} {k : ℕ} → ItemOf s m h k → same (part_at s h.name) name ≡ false → SameRest name s i k
  rest_next {h} f e =
      let n : same (head_at s h.at).name name ≡ false = ap (λ (n : List ℕ). same n name) (sym f.shape.name.part) ∙ e in
      record { text = w.text ∙ text_next name s m f.first n; place = w.place ∙ place_next name s m f.first n; row = w.row ∙ row_next name s m f.first n }

-- what find answers, after elements of other names
module _ {F : Type 0} (g : Mut F (Bor Start × Unit {0}) Bool) (f : F) (name s : List ℕ) (i : ℕ)
    (named : (h : Start) (b : Bool) (q : F) → CalledAt g f h b q → (q ≡ f) × (b ≡ same (part_at s h.name) name)) where
  pub found_first : (xs : List Start) (e : EachStart) (r : Option Start) (u : EachStart) (last : F) → e.text.now ≡ s → SameRest name s i e.at
      → YieldsThen GivesStart e xs r u → FoldsTo (λ p x q. CalledAt g p x false q) f xs last → IfSome r (λ x. (h : F) × CalledAt g last x true h)
      → Finds s i name r
  found_first [] e None u last reads w (t, y, z) p c =
      let here = subst (λ (a : EachStart). GivesStart a None u) (sym y) z in
      rest_none w (subst (λ (a : List ℕ). forest_at a e.at ≡ none) reads here.0)
  found_first [] e (Some h) u last reads w (t, y, z) p (q, c) =
      let here = subst (λ (a : EachStart). GivesStart a (Some h) u) (sym y) z in
      let called = named h true q (subst (λ (a : F). CalledAt g a h true q) (sym p) c) in
      rest_here w (subst (λ (a : List ℕ). ItemOf a e.at h u.at) reads here.0) (sym called.1)
  found_first (x ∷ xs) e r u last reads w (t, (j, st, ys), z) (m, cl, fs) c =
      let called = named x false m cl in
      let on = subst (λ (a : F). FoldsTo (λ p x q. CalledAt g p x false q) a xs last) called.0 fs in
      found_first xs j r u last (st.1 ∙ reads) (rest_next w (subst (λ (a : List ℕ). ItemOf a e.at x j.at) reads st.0) (sym called.1)) (t, ys, z) on c
