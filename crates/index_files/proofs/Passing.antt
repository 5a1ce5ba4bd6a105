-- The files that are left, from tag to tag: a file's element is one of them, a skipped one is passed over whole, any other is gone into.
use mathlib.Core.Path.{◌≡◌, refl, ap, sym, ◌∙◌}
use mathlib.Core.Bool.{Bool, true, false, cond}
use mathlib.Core.List.{List, [], ◌∷◌, ◌++◌, append_assoc}
use Prim.Native.Nat.{ℕ, ◌≤◌}
use native.Mathlib.Omega.{arith}
use lib.ListN.{drop}
use Rattle.xml.specs.Tree.{Head, Tree, Forest, none, tag_head, top, pop, closed, opened, alone, trees}
use Rattle.elements.specs.declared.tags.Tag.TheVariants.{End, Close, Open, Empty}
use Rattle.elements.specs.Tags.{Tags}
use Rattle.elements.specs.Reading.{left_at, head_at}
use Rattle.elements.specs.TagSteps.{NextTag, Behind}
use Rattle.elements.proofs.Rows.{children_open, children_empty}
use Rattle.index_files.specs.Names.{names_file, names_skipped, each_file}
use Rattle.index_files.specs.FileSteps.{each_left, files_left, file_tags_from, FileAt, NoFile}

-- elements told by their heads or by their tags
module _ {A B : Type 0} (say : List ℕ → A) (name : A → List ℕ) (tell : A → Tree A → B) (s : List ℕ) where
  -- what is left to read at i, and its files
  abbrev at : ℕ → List (Tree A)
  at i = trees say (drop i s)

  abbrev told : ℕ → List B
  told i = each_left name tell (at i)

  -- the files of an element with those children
  abbrev here : A → Tree A → List B
  here h c = cond (names_file (name h)) (tell h c ∷ []) (cond (names_skipped (name h)) [] (each_file name tell c))

  left_row : (fs : List (Tree A)) → each_left name tell fs ≡ each_file name tell (top fs) ++ each_left name tell (pop fs)
  unfolding each_left each_file top pop
  left_row [] = refl
  left_row (f ∷ fs) = refl

  here_alone : (h : A) → names_file (name h) ≡ false → here h none ≡ []
  unfolding each_file
  here_alone h e = ap (λ (b : Bool). cond b (tell h none ∷ []) (cond (names_skipped (name h)) [] [])) e ∙ go (names_skipped (name h))
    where
      go : (b : Bool) → ◌≡◌ {A = List B} (cond b [] []) []
      go true = refl
      go false = refl

  module _ (i : ℕ) where
    told_end : at i ≡ [] → told i ≡ []
    unfolding each_left
    told_end t = ap (each_left name tell) t

    module _ (n : ℕ) where
      told_close : at i ≡ closed (at n) → told i ≡ told n
      unfolding each_left each_file closed
      told_close t = ap (each_left name tell) t

      module _ (t : at i ≡ opened (say (drop n s)) (at n)) where
        open_left : told i ≡ here (say (drop n s)) (top (at n)) ++ each_left name tell (pop (at n))
        unfolding each_left each_file opened
        open_left =
            ap (each_left name tell) t
            ∙ append_assoc (here (say (drop n s)) (top (at n))) (each_file name tell (top (pop (at n)))) (each_left name tell (pop (pop (at n))))
            ∙ ap (λ (l : List B). here (say (drop n s)) (top (at n)) ++ l) (sym (left_row (pop (at n))))

        module _ (j : ℕ) (b : at j ≡ pop (at n)) where
          told_file : names_file (name (say (drop n s))) ≡ true → told i ≡ tell (say (drop n s)) (top (at n)) ∷ told j
          told_file e = open_left ∙ rw (e, b)

          told_skipped : names_file (name (say (drop n s))) ≡ false → names_skipped (name (say (drop n s))) ≡ true → told i ≡ told j
          told_skipped e k = open_left ∙ rw (e, k, b)

        told_into : names_file (name (say (drop n s))) ≡ false → names_skipped (name (say (drop n s))) ≡ false → told i ≡ told n
        told_into e k = open_left ∙ rw (e, k) (sym (left_row (at n)))

      module _ (t : at i ≡ alone (say (drop n s)) (at n)) where
        empty_left : told i ≡ here (say (drop n s)) none ++ told n
        unfolding each_left each_file alone
        empty_left =
            ap (each_left name tell) t
            ∙ append_assoc (here (say (drop n s)) none) (each_file name tell (top (at n))) (each_left name tell (pop (at n)))
            ∙ ap (λ (l : List B). here (say (drop n s)) none ++ l) (sym (left_row (at n)))

        told_alone : names_file (name (say (drop n s))) ≡ true → told i ≡ tell (say (drop n s)) none ∷ told n
        told_alone e = empty_left ∙ rw e

        told_other : names_file (name (say (drop n s))) ≡ false → told i ≡ told n
        told_other e = empty_left ∙ ap (λ (l : List B). l ++ told n) (here_alone (say (drop n s)) e)

-- no file stands between i and j
pub record NonePassed (s : List ℕ) (i j : ℕ) : Type 0 where
  pub left : files_left (left_at s i) ≡ files_left (left_at s j)
  pub tags : file_tags_from s i ≡ file_tags_from s j

-- what is told of an element, by its head or by its tag
abbrev head_name : Head → List ℕ
head_name h = h.name

abbrev tag_name : List ℕ → List ℕ
tag_name r = (tag_head r).name

abbrev its_row : Head → Forest → Forest
its_row h c = c

abbrev its_tag : List ℕ → Tags → List ℕ
its_tag r c = r

abbrev itself : List ℕ → List ℕ
itself r = r

module _ {s : List ℕ} {i : ℕ} where
  pub files_end : NextTag s i End → NoFile s i
  files_end t = record { left = told_end tag_head head_name its_row s i t.left; tags = told_end itself tag_name its_tag s i t.tags }

  pub files_close : {n : ℕ} → NextTag s i (Close n) → NonePassed s i n
  files_close {n} t = record { left = told_close tag_head head_name its_row s i n t.left; tags = told_close itself tag_name its_tag s i n t.tags }

  module _ {n : ℕ} (t : NextTag s i (Open n)) where
    module _ {j : ℕ} (b : Behind s n j) where
      pub file_open : names_file (head_at s n).name ≡ true → FileAt s i n j
      file_open e =
          record {
            left = told_file tag_head head_name its_row s i n t.left j b.left e ∙ ap (λ (c : Forest). c ∷ files_left (left_at s j)) (sym (children_open t));
            tags = told_file itself tag_name its_tag s i n t.tags j b.tags e;
            place = (omega (arith, t.place), omega (arith, t.place, b.ahead), b.inside);
          }

      pub files_skipped : names_file (head_at s n).name ≡ false → names_skipped (head_at s n).name ≡ true → NonePassed s i j
      files_skipped e k =
          record {
            left = told_skipped tag_head head_name its_row s i n t.left j b.left e k;
            tags = told_skipped itself tag_name its_tag s i n t.tags j b.tags e k;
          }

    pub files_open : names_file (head_at s n).name ≡ false → names_skipped (head_at s n).name ≡ false → NonePassed s i n
    files_open e k = record { left = told_into tag_head head_name its_row s i n t.left e k; tags = told_into itself tag_name its_tag s i n t.tags e k }

  module _ {n : ℕ} (t : NextTag s i (Empty n)) where
    pub file_empty : names_file (head_at s n).name ≡ true → FileAt s i n n
    file_empty e =
        record {
          left = told_alone tag_head head_name its_row s i n t.left e ∙ ap (λ (c : Forest). c ∷ files_left (left_at s n)) (sym (children_empty t));
          tags = told_alone itself tag_name its_tag s i n t.tags e;
          place = (omega (arith, t.place), omega arith, t.place.1);
        }

    pub files_empty : names_file (head_at s n).name ≡ false → NonePassed s i n
    files_empty e = record { left = told_other tag_head head_name its_row s i n t.left e; tags = told_other itself tag_name its_tag s i n t.tags e }

  -- from at on, where no file stands between at and i
  module _ {at : ℕ} (p : NonePassed s at i) where
    pub passed_on : {j : ℕ} → NonePassed s i j → NonePassed s at j
    passed_on q = record { left = p.left ∙ q.left; tags = p.tags ∙ q.tags }

    pub none_along : NoFile s i → NoFile s at
    none_along q = record { left = p.left ∙ q.left; tags = p.tags ∙ q.tags }

    pub file_along : {n j : ℕ} → at ≤ i → FileAt s i n j → FileAt s at n j
    file_along h f = record { left = p.left ∙ f.left; tags = p.tags ∙ f.tags; place = (omega (arith, f.place), f.place.1, f.place.2) }
