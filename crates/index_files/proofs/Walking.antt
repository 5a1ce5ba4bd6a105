-- The files that an iterator over a text gives, by their children and by their tags.
use Rattle.std.specs.Prelude.{None, Option, Some}
use Rattle.std.specs.List.{slice_get}
use Rattle.std.specs.Option.{option_map, ok_or}
use Rattle.std.proofs.lemmas.Option.{get_or_from_slice_get}
use Rattle.std.proofs.lemmas.Iterator.{YieldsList}
use Rattle.std.proofs.lemmas.Iterator.Splits.{YieldsList-from_shown_while}
use mathlib.Core.Path.{◌≡◌, refl, ap, sym, ◌∙◌, subst}
use mathlib.Core.List.{List, [], ◌∷◌}
use Prim.Native.Nat.{ℕ, zero, suc}
use lib.ListN.{length, drop}
use Rattle.refusals.specs.declared.Refusal.TheVariants.{Missing}
use Rattle.xml.specs.Tree.{Forest}
use Rattle.elements.specs.Reading.{left_at, children_at}
use Rattle.index_files.specs.declared.files.EachFile.{EachFile}
use Rattle.index_files.specs.FileSteps.{files_left, file_tags_from}
use Rattle.index_files.specs.EachFile.{IsAt, GivesFile}
use Rattle.index_files.specs.Asked.{nth}
use Rattle.index_files.specs.AskedSteps.{FindsFile}

module _ (s : List ℕ) where
  abbrev reads : EachFile → Type 0
  reads e = e.text.now ≡ s

  children_end : (e after : EachFile) → reads e → GivesFile e None after → length (files_left (left_at s e.at)) ≡ 0
  children_end e after r g = ap length (subst (λ (t : List ℕ). files_left (left_at t e.at) ≡ []) r g.0.left)

  children_on : (e : EachFile) (n : ℕ) (after : EachFile) → reads e → GivesFile e (Some n) after
      → reads after × (files_left (left_at s e.at) ≡ children_at s n ∷ files_left (left_at s after.at))
  children_on e n after r g =
      (g.1 ∙ r, subst (λ (t : List ℕ). files_left (left_at t e.at) ≡ children_at t n ∷ files_left (left_at t after.at)) r g.0.left)

  tags_end : (e after : EachFile) → reads e → GivesFile e None after → length (file_tags_from s e.at) ≡ 0
  tags_end e after r g = ap length (subst (λ (t : List ℕ). file_tags_from t e.at ≡ []) r g.0.tags)

  tags_on : (e : EachFile) (n : ℕ) (after : EachFile) → reads e → GivesFile e (Some n) after
      → reads after × (file_tags_from s e.at ≡ drop n s ∷ file_tags_from s after.at)
  tags_on e n after r g =
      (g.1 ∙ r, subst (λ (t : List ℕ). file_tags_from t e.at ≡ drop n t ∷ file_tags_from t after.at) r g.0.tags)

  module _ (i : ℕ) (e : EachFile) (a : IsAt s i e) where
    pub yields_children : YieldsList GivesFile (children_at s) e (files_left (left_at s i))
    yields_children =
        subst (λ (k : ℕ). YieldsList GivesFile (children_at s) e (files_left (left_at s k))) a.1
        (YieldsList-from_shown_while GivesFile (children_at s) (λ w. files_left (left_at s w.at)) reads children_end children_on e a.0)

    pub yields_tags : YieldsList GivesFile (λ n. drop n s) e (file_tags_from s i)
    yields_tags =
        subst (λ (k : ℕ). YieldsList GivesFile (λ n. drop n s) e (file_tags_from s k)) a.1
        (YieldsList-from_shown_while GivesFile (λ n. drop n s) (λ w. file_tags_from s w.at) reads tags_end tags_on e a.0)

-- the element of a number, refused where there is none
nth_got : {A : Type 0} (k : ℕ) (l : List A) → ok_or (slice_get l k) Missing ≡ nth k l
unfolding nth
nth_got k [] = refl
nth_got zero (x ∷ l) = refl
nth_got (suc k) (x ∷ l) = nth_got k l

-- the file of number k, from what an iterator gave
pub found : (s : List ℕ) (k : ℕ) (r : Option ℕ) → option_map (children_at s) r ≡ slice_get (files_left (left_at s 38)) k
    → option_map (λ n. drop n s) r ≡ slice_get (file_tags_from s 38) k → FindsFile s k (ok_or r Missing)
found s k None e f =
    record { children = ap (λ (o : Option Forest). ok_or o Missing) e ∙ nth_got k (files_left (left_at s 38)); tag = tt }
found s k (Some n) e f =
    record {
      children = ap (λ (o : Option Forest). ok_or o Missing) e ∙ nth_got k (files_left (left_at s 38));
      tag = sym (get_or_from_slice_get (file_tags_from s 38) k (drop n s) [] (sym f));
    }
