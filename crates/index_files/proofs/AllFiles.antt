-- The files that are read along an index's text are those that the index says, where it is read without refusal.
use Rattle.std.specs.Prelude.{Ok}
use mathlib.Core.Path.{◌≡◌, refl, ap, sym, ◌∙◌}
use mathlib.Core.Bool.{Bool, true, false, cond, not, ◌&&◌, ◌||◌, false≢true}
use mathlib.Core.List.{List, [], ◌∷◌, ◌++◌, map, append-nil}
use Prim.Native.Nat.{ℕ}
use native.Mathlib.Omega.{arith}
use lib.Dec.{eqb}
use lib.ListN.{length}
use Rattle.slices.specs.Slices.{every, same}
use Rattle.slices.specs.Words.{bytes}
use Rattle.slices.proofs.Booleans.{and_left, and_right}
use Rattle.slices.proofs.Every.{every_append}
use Rattle.slices.proofs.Equal.{same_eq}
use Rattle.xml.specs.Bytes.{is_space}
use Rattle.xml.specs.Tree.{Head, Forest, none, node, tag_head, top}
use Rattle.elements.specs.Tags.{Tags, tags_left}
use Rattle.elements.specs.Reading.{left_at, has_element}
use Rattle.elements.proofs.ByTag.{each, left_told}
use Rattle.index_names.specs.declared.Sort.{Sort}
use Rattle.index_names.specs.declared.Sort.TheVariants.{Index as index, File as file, Skipped as skipped}
use Rattle.index_names.specs.Sorts.{holds_elements, is_file, is_skipped, is_unknown}
use Rattle.index_names.proofs.ByKind.{is_file-true, is_skipped-true}
use Rattle.index_values.specs.Elements.{IndexElement, element, elements, sort_of}
use Rattle.index.specs.Structure.{may_stand, complete, rightly}
use Rattle.index.specs.Index.{File, file_of, files_of}
use Rattle.index_values.specs.Tests.{Given}
use Rattle.index.specs.Index.{Index, index_of}
use Rattle.index_files.specs.Names.{names_file, names_skipped, each_file, file_tags, all_file_tags}
use Rattle.index_files.specs.FileSteps.{files_in, each_left, files_left, file_tags_left, file_tags_from}
use Rattle.index_files.proofs.Accepted.{accepted}
use Rattle.index_files.proofs.Names.{file_named, skipped_named, in_file, keeps, inside_file}

not_eq : (b : Bool) → not b ≡ true → b ≡ false
not_eq true e = sym e
not_eq false e = refl

files_append : (a b : List IndexElement) → files_of (a ++ b) ≡ files_of a ++ files_of b
unfolding files_of
files_append [] b = refl
files_append (e ∷ a) b = go (is_file e.sort) (files_append a b)
  where
    go : (t : Bool) → files_of (a ++ b) ≡ files_of a ++ files_of b
        → cond t (file_of e.kids ∷ files_of (a ++ b)) (files_of (a ++ b)) ≡ cond t (file_of e.kids ∷ files_of a) (files_of a) ++ files_of b
    go true i = ap (λ (l : List File). file_of e.kids ∷ l) i
    go false i = i

map-append : {A B : Type 0} (f : A → B) (a b : List A) → map f (a ++ b) ≡ map f a ++ map f b
map-append f [] b = refl
map-append f (x ∷ a) b = ap (λ l. f x ∷ l) (map-append f a b)

-- the elements in an element of sort s
abbrev within : Sort → Forest → List IndexElement
within s c = cond (holds_elements s) (elements s c) []

-- no file stands in a file
no_files : (kind : Sort) (f : Forest) → in_file kind ≡ true → files_of (elements kind f) ≡ []
unfolding elements files_of
no_files kind none e = refl
no_files kind (node h c r) e = go (inside_file kind e h.name) (no_files (sort_of kind h) c) (no_files kind r e)
  where
    s : Sort
    s = sort_of kind h

    go : keeps s ≡ true → (in_file s ≡ true → files_of (elements s c) ≡ []) → files_of (elements kind r) ≡ []
        → cond (is_file s) (file_of c ∷ files_of (within s c ++ elements kind r)) (files_of (within s c ++ elements kind r)) ≡ []
    go k i j =
        ap (λ (b : Bool). cond b (file_of c ∷ files_of (within s c ++ elements kind r)) (files_of (within s c ++ elements kind r))) (not_eq (is_file s) (and_left _ (not (holds_elements s) || in_file s) k))
        ∙ files_append (within s c) (elements kind r)
        ∙ ap (λ (l : List File). files_of (within s c) ++ l) j
        ∙ append-nil (files_of (within s c))
        ∙ below (holds_elements s) (and_right (not (is_file s)) _ k)
      where
        below : (b : Bool) → (not b || in_file s) ≡ true → files_of (cond b (elements s c) []) ≡ []
        below true w = i w
        below false w = refl

no_row : (c : Forest) → not (has_element c) ≡ true → c ≡ none
unfolding has_element
no_row none e = refl
no_row (node h c r) e = absurd (false≢true e)

-- one element, that may stand where it does: the files that its name and its children show are those of its sort
module _ (kind : Sort) (h : Head) (c : Forest) where
  s : Sort
  s = sort_of kind h

  shown : List Forest
  shown = cond (names_file h.name) (c ∷ []) (cond (names_skipped h.name) [] (files_in c))

  said : List File
  said = cond (is_file s) (file_of c ∷ []) [] ++ files_of (within s c)

  module _ (e : is_unknown s ≡ false) (w : cond (holds_elements s) (has_element c || every is_space h.text) (is_skipped s || not (has_element c)) ≡ true)
      (i : holds_elements s ≡ true → map file_of (files_in c) ≡ files_of (elements s c)) where
    a_file : is_file s ≡ true → map file_of shown ≡ said
    unfolding s shown said files_of
    a_file q =
        let z : s ≡ file = is_file-true s q in
        let n : names_file h.name ≡ true = file_named kind h.name e ∙ q in
        let k : files_of (elements s c) ≡ [] = no_files s c (ap in_file z) in
        let o : holds_elements s ≡ true = ap (λ (m : Sort). holds_elements m) z in
        rw n (sym (rw (q, o) (ap (λ (l : List File). file_of c ∷ l) k)))

    skip : is_skipped s ≡ true → map file_of shown ≡ said
    unfolding s shown said files_of
    skip q =
        let z : s ≡ skipped = is_skipped-true s q in
        let f : is_file s ≡ false = ap (λ (m : Sort). is_file m) z in
        let n : names_file h.name ≡ false = file_named kind h.name e ∙ f in
        let k : names_skipped h.name ≡ true = skipped_named kind h.name e ∙ q in
        let o : holds_elements s ≡ false = ap (λ (m : Sort). holds_elements m) z in
        rw (n, k) (sym (rw (f, o)))

    into : is_file s ≡ false → is_skipped s ≡ false → map file_of shown ≡ said
    unfolding s shown said files_of each_file
    into f q =
        let n : names_file h.name ≡ false = file_named kind h.name e ∙ f in
        let k : names_skipped h.name ≡ false = skipped_named kind h.name e ∙ q in
        rw (n, k, f) (go (holds_elements s) refl)
      where
        go : (b : Bool) → holds_elements s ≡ b → map file_of (files_in c) ≡ files_of (cond b (elements s c) [])
        go true o = i o
        go false o = ap (λ (d : Forest). map file_of (files_in d)) (no_row c (sym (rw (o, q)) ∙ w))

    shown_said : map file_of shown ≡ said
    shown_said = first (is_file s) refl
      where
        second : is_file s ≡ false → (b : Bool) → is_skipped s ≡ b → map file_of shown ≡ said
        second f true q = skip q
        second f false q = into f q

        first : (b : Bool) → is_file s ≡ b → map file_of shown ≡ said
        first true q = a_file q
        first false q = second q (is_skipped s) refl

-- rows of elements whose structure is right
pub files_row : (kind : Sort) (f : Forest) → every rightly (elements kind f) ≡ true → map file_of (files_in f) ≡ files_of (elements kind f)
unfolding elements files_of each_file rightly may_stand s shown said
files_row kind none e = refl
files_row kind (node h c r) e = go (files_row (sort_of kind h) c) (files_row kind r)
  where
    k : Sort
    k = sort_of kind h

    right : rightly (element k h c) ≡ true
    right = and_left (rightly (element k h c)) (every rightly (within k c ++ elements kind r)) e

    below : (every rightly (within k c) && every rightly (elements kind r)) ≡ true
    below = sym (every_append rightly (within k c) (elements kind r)) ∙ and_right (rightly (element k h c)) (every rightly (within k c ++ elements kind r)) e

    fitting : may_stand k h c ≡ true
    fitting = and_left (may_stand k h c) (not (holds_elements k) || complete k c) right

    known : (not (is_unknown k) && eqb (length h.key) 0) ≡ true
    known = and_left (not (is_unknown k) && eqb (length h.key) 0) (cond (holds_elements k) (has_element c || every is_space h.text) (is_skipped k || not (has_element c))) fitting

    kept : cond (holds_elements k) (has_element c || every is_space h.text) (is_skipped k || not (has_element c)) ≡ true
    kept = and_right (not (is_unknown k) && eqb (length h.key) 0) (cond (holds_elements k) (has_element c || every is_space h.text) (is_skipped k || not (has_element c))) fitting

    join : (b : Bool) → cond b (file_of c ∷ []) [] ++ files_of (within k c) ++ files_of (elements kind r)
        ≡ cond b (file_of c ∷ (files_of (within k c) ++ files_of (elements kind r))) (files_of (within k c) ++ files_of (elements kind r))
    join true = refl
    join false = refl

    go : (every rightly (elements k c) ≡ true → map file_of (files_in c) ≡ files_of (elements k c))
        → (every rightly (elements kind r) ≡ true → map file_of (files_in r) ≡ files_of (elements kind r))
        → map file_of (cond (names_file h.name) (c ∷ []) (cond (names_skipped h.name) [] (files_in c)) ++ files_in r)
        ≡ cond (is_file k) (file_of c ∷ files_of (within k c ++ elements kind r)) (files_of (within k c ++ elements kind r))
    go i j =
        map-append file_of (shown kind h c) (files_in r)
        ∙ ap (λ (l : List File). l ++ map file_of (files_in r)) (shown_said kind h c (not_eq (is_unknown k) (and_left (not (is_unknown k)) (eqb (length h.key) 0) known)) kept held)
        ∙ ap (λ (l : List File). said kind h c ++ l) (j (and_right (every rightly (within k c)) (every rightly (elements kind r)) below))
        ∙ join (is_file k)
        ∙ sym (ap (λ (l : List File). cond (is_file k) (file_of c ∷ l) l) (files_append (within k c) (elements kind r)))
      where
        held : holds_elements k ≡ true → map file_of (files_in c) ≡ files_of (elements k c)
        held o = i (sym (ap (λ (b : Bool). every rightly (cond b (elements k c) [])) o) ∙ and_left (every rightly (within k c)) (every rightly (elements kind r)) below)

-- the root's own element is gone into
root_left : (h : Head) (k : Forest) → same h.name (bytes "ltfsindex") ≡ true → files_left (node h k none ∷ []) ≡ files_in k
unfolding each_left each_file names_file names_skipped bytes
root_left h k e =
    let n : h.name ≡ bytes "ltfsindex" = same_eq h.name (bytes "ltfsindex") e in
    ap (λ (w : List ℕ). cond (names_file w) (k ∷ []) (cond (names_skipped w) [] (files_in k)) ++ [] ++ []) n
    ∙ append-nil (files_in k ++ []) ∙ append-nil (files_in k)

-- where one row is left, its files are all that are left
row_tags : (fs : List Tags) (f : Forest) → each tag_head fs ≡ f ∷ [] → file_tags_left fs ≡ file_tags (top fs)
unfolding each each_left top
row_tags [] f e = let z : ◌≡◌ {A = ℕ} 0 1 = cc in absurd (omega arith)
row_tags (t ∷ []) f e = append-nil (file_tags t)
row_tags (t ∷ u ∷ fs) f e = let z : ◌≡◌ {A = ℕ} 0 1 = cc in absurd (omega arith)

module _ (g : Given) (letter block : ℕ) (text : List ℕ) (x : Index) (e : index_of g letter block text ≡ Ok x) where
  pub tags_left_lem : file_tags_from text 38 ≡ all_file_tags text
  tags_left_lem =
      let a = accepted g letter block text x e in
      row_tags (tags_left text 38) (node a.head a.kids none) (sym (left_told text 38) ∙ a.reads.tree)

  -- the files that are read from behind the declaration on are the index's files
  pub files_left_lem : map file_of (files_left (left_at text 38)) ≡ x.files
  files_left_lem =
      let a = accepted g letter block text x e in
      ap (λ (l : List Forest). map file_of (files_left l)) a.reads.tree
      ∙ ap (map file_of) (root_left a.head a.kids a.name)
      ∙ files_row index a.kids a.right
      ∙ sym (ap (λ (y : Index). y.files) a.says)
