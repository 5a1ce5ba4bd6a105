-- What one element means for the sweep of the row that it stands in.
use mathlib.Core.Path.{◌≡◌, refl, ap, sym, ◌∙◌}
use mathlib.Core.Bool.{Bool, true, false, cond}
use mathlib.Core.List.{List}
use Prim.Native.Nat.{ℕ, ◌≤◌}
use lib.ListN.{length, drop}
use Rattle.xml.specs.Tree.{Forest, none}
use Rattle.elements.specs.Tags.{Tags, heads, tags_at, tags_around, tags_in}
use Rattle.elements.specs.declared.tags.Tag.TheVariants.{Open, Empty}
use Rattle.elements.proofs.ByTag.{row_told, children_told}
use Rattle.elements.specs.Reading.{forest_at, head_at, children_at}
use Rattle.elements.specs.TagSteps.{NextTag, FirstOf}
use Rattle.index_names.specs.declared.Sort.{Sort}
use Rattle.index_names.specs.declared.Sort.TheVariants.{Root, Directory, File}
use Rattle.index_names.specs.Sorts.{holds_elements}
use Rattle.index_values.specs.Elements.{name_number, sort_of}
use Rattle.index_values.specs.Entries.{is_entry}
use Rattle.index_values.specs.Tests.{Given}
use Rattle.index.specs.SweepSteps.{All, with_sums, none_seen, marked, after_row, begun, after_element, sweep}
use Rattle.index.specs.Entries.{holder}
use Rattle.index.specs.declared.walk.Source.{Source}
use Rattle.index.specs.declared.walk.Sums.{Sums}
use Rattle.index.specs.declared.walk.Walk.{Walk}
use Rattle.index.specs.Steps.{asked, all_of, SameTables}
use Rattle.index_rows.proofs.Placing.{Noting}
use Rattle.xml.specs.FormSteps.{height}
use Rattle.index.proofs.Gathering.{closed_other}

-- the elements in an element of sort s are swept, if it holds elements
abbrev inside : List ℕ → Given → Sort → ℕ → Tags → All → All
inside x g s p k a = cond (holds_elements s) (sweep x g s p none_seen k a) a

-- directories and files hold elements
pub no_entry : (s : Sort) → holds_elements s ≡ false → is_entry s ≡ false
no_entry Root h = h
no_entry Directory h = h
no_entry File h = h
no_entry _ h = refl

-- the children of an element, by its tag
module _ {x : List ℕ} {i n : ℕ} where
  pub inner_empty : NextTag x i (Empty n) → tags_in (drop n x) ≡ none
  unfolding tags_in
  inner_empty t = rw t.kind

  pub inner_open : NextTag x i (Open n) → tags_in (drop n x) ≡ tags_at x n
  unfolding tags_in
  inner_open t = rw t.kind

  pub inner_heads : NextTag x i (Open n) → forest_at x n ≡ heads (tags_in (drop n x))
  inner_heads t = row_told x n ∙ ap heads (sym (inner_open t))

module _ (x : List ℕ) (g : Given) (kind : Sort) (p : ℕ) (m : List ℕ) (a : All) where
  pub row_over : (f : Tags) → f ≡ none → sweep x g kind p m f a ≡ after_row kind m a
  unfolding sweep
  row_over f e = ap (λ (f : Tags). sweep x g kind p m f a) e

  -- the first element of the row at i, as the code goes past it: its sort, what is seen then, and what is gathered behind its start tag
  module _ {i n j : ℕ} (first : FirstOf x i n j) (srt : Sort) (m' : List ℕ) (b : Sums) (es : srt ≡ sort_of kind (head_at x n))
      (em : m' ≡ marked (name_number kind (head_at x n)) m) (eb : b ≡ begun g srt (head_at x n) (children_at x n) a.sums) where
    abbrev k : Tags
    k = tags_in (drop n x)

    told : sweep x g kind p m (tags_at x i) a
        ≡ sweep x g kind p m' (tags_at x j) (after_element x g srt k p a.sums (inside x g srt (holder srt p a.sums.entries) k (with_sums b a)))
    unfolding sweep
    told = ap (λ (f : Tags). sweep x g kind p m f a) first.tags ∙ sym (rw (eb ∙ ap (λ (c : Forest). begun g srt (head_at x n) c a.sums) (children_told x n), es, em))

    pub step_holds : (c : All) → holds_elements srt ≡ true
        → c ≡ after_element x g srt k p a.sums (sweep x g srt (holder srt p a.sums.entries) none_seen k (with_sums b a))
        → sweep x g kind p m (tags_at x i) a ≡ sweep x g kind p m' (tags_at x j) c
    step_holds c h e =
        told
        ∙ ap (λ (o : Bool). sweep x g kind p m' (tags_at x j) (after_element x g srt k p a.sums (cond o (sweep x g srt (holder srt p a.sums.entries) none_seen k (with_sums b a)) (with_sums b a)))) h
        ∙ ap (sweep x g kind p m' (tags_at x j)) (sym e)

    pub step_other : holds_elements srt ≡ false → sweep x g kind p m (tags_at x i) a ≡ sweep x g kind p m' (tags_at x j) (with_sums b a)
    step_other h =
        told
        ∙ ap (λ (o : Bool). sweep x g kind p m' (tags_at x j) (after_element x g srt k p a.sums (cond o (sweep x g srt (holder srt p a.sums.entries) none_seen k (with_sums b a)) (with_sums b a)))) h
        ∙ ap (sweep x g kind p m' (tags_at x j)) (closed_other x g srt k p (no_entry srt h) a.sums (with_sums b a))

-- a walk over the row at a place, in an element of that kind in directory p, that has come to i: sweeping the whole row comes to the same as sweeping the
-- rest of it, of which m is seen and the places t are noted, with what is gathered so far
pub record Sweeping (x : Source) (kind : Sort) (at p depth : ℕ) (first w : Walk) (i : ℕ) (m t : List ℕ) : Type 0 where
  pub ahead : at ≤ i
  pub inside : i ≤ length x.text.now
  pub deep : height (forest_at x.text.now i) ≤ depth
  pub around : tags_around x.text.now at ≡ tags_around x.text.now i
  pub sweeps : sweep x.text.now (asked x) kind p none_seen (tags_at x.text.now at) (all_of first) ≡ sweep x.text.now (asked x) kind p m (tags_at x.text.now i) (all_of w)
  pub places : Noting x.text.now kind at i t
  pub same : SameTables first w
