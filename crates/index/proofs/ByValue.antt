-- An index is read the same whichever way its numbers are spelled (02, Item 2): what a number means to a reader is its value.
use Rattle.std.specs.Prelude.{Option}
use mathlib.Core.Path.{◌≡◌, refl, ap, ap₂, sym, ◌∙◌, fun_ext}
use mathlib.Core.Bool.{Bool, true, false, cond, not, ◌&&◌, ◌||◌, false≢true}
use mathlib.Core.List.{List, [], ◌∷◌, ◌++◌}
use Prim.Native.Nat.{ℕ, suc}
use lib.Dec.{eqb, leb}
use lib.ListN.{length}
use Rattle.slices.specs.Slices.{every, same}
use Rattle.slices.specs.Words.{bytes}
use Rattle.slices.proofs.Booleans.{and_left, and_right}
use Rattle.slices.proofs.Equal.{same_eq}
use Rattle.xml.specs.Bytes.{is_space}
use Rattle.xml.specs.Tree.{Head, Forest, node}
use Rattle.xml.specs.CheckSteps.{in_form}
use Rattle.elements.specs.Reading.{forest_at, has_element}
use Rattle.children.specs.Children.{below}
use Rattle.values.specs.Values as values
use Rattle.index_names.specs.declared.Sort.{Sort}
use Rattle.index_names.specs.declared.Sort.TheVariants.{Index as index, Generation, Number, Uid, RootUid}
use Rattle.index_names.specs.Sorts.{holds_elements, is_file, is_skipped}
use Rattle.index_names.specs.Tables.{must, repeats}
use Rattle.index_values.specs.Elements.{IndexElement, element, name_number, sort_of, elements, text_in, children_in}
use Rattle.index_values.specs.Entries.{or_zero, is_entry, uid_of, uids_of, many}
use Rattle.index_values.specs.Different.{different}
use Rattle.index_values.specs.Tests.{Given, is_some, valued, own, row_of, rows_in, extent_rows, length_of, few, lawful_file}
use Rattle.index.specs.Structure.{count, right_often, complete, may_stand, rightly}
use Rattle.index.specs.Index.{file_of, files_of, location_of, stands_at, max_text, structured, bounded, all_valued, all_own, all_lawful, index_with, children_read, tag_read, root_read, index_of}
use Rattle.index.specs.Respelled.{head, is_number_name, is_number_sort, SameText, same_bytes, same_value, Respelled, end, next}

-- ---- number elements

-- the sorts one by one
number_sorts : (P : Sort → Type 0) → P Number → P Generation → P Uid → P RootUid → (s : Sort) → is_number_sort s ≡ true → P s
number_sorts P a b c d Number e = a
number_sorts P a b c d Generation e = b
number_sorts P a b c d Uid e = c
number_sorts P a b c d RootUid e = d
number_sorts P a b c d _ e = absurd (false≢true e)

holds_no_elements : (s : Sort) → is_number_sort s ≡ true → holds_elements s ≡ false
holds_no_elements = number_sorts (λ s. holds_elements s ≡ false) refl refl refl refl

module _ {kind : Sort} {h : Head} where
  same_number : {t : List ℕ} → SameText kind h t → values.number h.text ≡ values.number t
  same_number same_bytes = refl
  same_number (same_value e z) = z

  same_bytes_lem : is_number_name h.name ≡ false → {t : List ℕ} → SameText kind h t → h.text ≡ t
  same_bytes_lem e same_bytes = refl
  same_bytes_lem e (same_value f z) = absurd (false≢true (sym e ∙ and_left (is_number_name h.name) (is_number_sort (sort_of kind h)) f))

  -- the tests of an element by itself
  same_valued : {t : List ℕ} → SameText kind h t → valued (sort_of kind h) h.text ≡ valued (sort_of kind h) t
  unfolding valued
  same_valued same_bytes = refl
  same_valued {t} (same_value e z) =
      number_sorts (λ s. valued s h.text ≡ valued s t) (ap is_some z) (ap (λ (o : Option ℕ). leb 1 (or_zero o)) z) (ap (λ (o : Option ℕ). leb 2 (or_zero o)) z)
      (ap (λ (o : Option ℕ). eqb (or_zero o) 1) z) (sort_of kind h) (and_right (is_number_name h.name) (is_number_sort (sort_of kind h)) e)

  same_own : (g : Given) {t : List ℕ} → SameText kind h t → own g (sort_of kind h) h.text ≡ own g (sort_of kind h) t
  unfolding own
  same_own g same_bytes = refl
  same_own g {t} (same_value e z) =
      number_sorts (λ s. own g s h.text ≡ own g s t) refl refl refl refl (sort_of kind h) (and_right (is_number_name h.name) (is_number_sort (sort_of kind h)) e)

  -- a text beside elements
  same_blank : (x y : Bool) {t : List ℕ} → SameText kind h t
      → cond (holds_elements (sort_of kind h)) (x || every is_space h.text) y ≡ cond (holds_elements (sort_of kind h)) (x || every is_space t) y
  same_blank x y same_bytes = refl
  same_blank x y (same_value e z) = rw (holds_no_elements (sort_of kind h) (and_right (is_number_name h.name) (is_number_sort (sort_of kind h)) e))

-- ---- rows of elements

-- rows in an element of some kind
record Rows (f g : Forest) : Type 0 where
  kind : Sort
  same_but : Respelled kind f g

some_element : {kind : Sort} {f g : Forest} → Respelled kind f g → has_element f ≡ has_element g
unfolding has_element
some_element end = refl
some_element (next w k r) = refl

as_often : {kind : Sort} {f g : Forest} (j : ℕ) → Respelled kind f g → count j kind f ≡ count j kind g
unfolding count
as_often j end = refl
as_often {kind} j (next {h = h} w k r) = ap (λ (n : ℕ). cond (eqb (name_number kind h) j) (suc n) n) (as_often j r)

as_complete : {kind : Sort} {f g : Forest} → Respelled kind f g → complete kind f ≡ complete kind g
unfolding complete
as_complete {kind} r = ap (λ (n : ℕ → ℕ). repeats kind || below 16 (λ j. right_often (must kind) j (n j))) (fun_ext (λ (j : ℕ). as_often j r))

module _ (x : List ℕ) where
  number_in : {kind : Sort} {f g : Forest} → Respelled kind f g → values.number (text_in x f) ≡ values.number (text_in x g)
  unfolding text_in
  number_in end = refl
  number_in (next {h = h} {t = t} {f = f} {g = g} w k r) = go (same h.name x) (same_number w) (number_in r)
    where
      go : (b : Bool) → values.number h.text ≡ values.number t → values.number (text_in x f) ≡ values.number (text_in x g)
          → values.number (cond b h.text (text_in x f)) ≡ values.number (cond b t (text_in x g))
      go true e i = e
      go false e i = i

  text_in_lem : {kind : Sort} {f g : Forest} → is_number_name x ≡ false → Respelled kind f g → text_in x f ≡ text_in x g
  unfolding text_in
  text_in_lem e end = refl
  text_in_lem e (next {h = h} {t = t} {f = f} {g = g} w k r) = go (same h.name x) refl (text_in_lem e r)
    where
      go : (b : Bool) → same h.name x ≡ b → text_in x f ≡ text_in x g → cond b h.text (text_in x f) ≡ cond b t (text_in x g)
      go true q i = same_bytes_lem (ap is_number_name (same_eq h.name x q) ∙ e) w
      go false q i = i

  children_in_lem : {kind : Sort} {f g : Forest} → Respelled kind f g → Rows (children_in x f) (children_in x g)
  unfolding children_in
  children_in_lem {kind} end = record { kind = kind; same_but = end }
  children_in_lem {kind} (next {h = h} {c = c} {d = d} {f = f} {g = g} w k r) = go (same h.name x) (children_in_lem r)
    where
      go : (b : Bool) → Rows (children_in x f) (children_in x g) → Rows (cond b c (children_in x f)) (cond b d (children_in x g))
      go true i = record { kind = sort_of kind h; same_but = k }
      go false i = i

-- ---- what is in an element

same_row : {kind : Sort} {f g : Forest} → Respelled kind f g → row_of f ≡ row_of g
unfolding row_of is_number_name bytes
same_row r =
    rw (text_in_lem (bytes "partition") refl r, number_in (bytes "startblock") r, number_in (bytes "byteoffset") r, number_in (bytes "bytecount") r, number_in (bytes "fileoffset") r)

same_rows : {kind : Sort} {f g : Forest} → Respelled kind f g → rows_in f ≡ rows_in g
unfolding rows_in
same_rows end = refl
same_rows (next w k r) = ap₂ ◌∷◌ (same_row k) (same_rows r)

module _ {kind : Sort} {f g : Forest} (r : Respelled kind f g) where
  same_extents : extent_rows f ≡ extent_rows g
  same_extents = same_rows (children_in_lem (bytes "extentinfo") r).same_but

  same_length : length_of f ≡ length_of g
  same_length = ap or_zero (number_in (bytes "length") r)

  same_file : file_of f ≡ file_of g
  unfolding is_number_name bytes
  same_file = rw (same_extents, number_in (bytes "length") r, text_in_lem (bytes "name") refl r)

  same_uid : uid_of f ≡ uid_of g
  unfolding uid_of
  same_uid = ap or_zero (number_in (bytes "fileuid") r)

  as_few : (s : Sort) → few s f ≡ few s g
  unfolding few
  as_few s = rw same_extents

  as_lawful : (v : Given) (s : Sort) → lawful_file v s f ≡ lawful_file v s g
  unfolding lawful_file few
  as_lawful v s = rw (same_extents, number_in (bytes "length") r)

-- ---- all elements of an index

data Alike : List IndexElement → List IndexElement → Type 0 where
  none_left : Alike [] []
  one_more : {kind : Sort} {h : Head} {t : List ℕ} {c d : Forest} {l m : List IndexElement} → SameText kind h t → Respelled (sort_of kind h) c d → Alike l m
      → Alike (element (sort_of kind h) h c ∷ l) (element (sort_of kind h) (head h.name h.key h.value t) d ∷ m)

joined : {l m l' m' : List IndexElement} → Alike l m → Alike l' m' → Alike (l ++ l') (m ++ m')
joined none_left y = y
joined (one_more w k r) y = one_more w k (joined r y)

all_alike : {kind : Sort} {f g : Forest} → Respelled kind f g → Alike (elements kind f) (elements kind g)
unfolding elements
all_alike end = none_left
all_alike {kind} (next {h = h} {c = c} {d = d} w k r) = one_more w k (joined (go (holds_elements (sort_of kind h)) (all_alike k)) (all_alike r))
  where
    go : (b : Bool) → Alike (elements (sort_of kind h) c) (elements (sort_of kind h) d) → Alike (cond b (elements (sort_of kind h) c) []) (cond b (elements (sort_of kind h) d) [])
    go true i = i
    go false i = none_left

-- a test that passes of both or of neither
abbrev Agrees : (IndexElement → Bool) → Type 0
Agrees p = (kind : Sort) (h : Head) (t : List ℕ) (c d : Forest) → SameText kind h t → Respelled (sort_of kind h) c d
    → p (element (sort_of kind h) h c) ≡ p (element (sort_of kind h) (head h.name h.key h.value t) d)

every_alike : (p : IndexElement → Bool) → Agrees p → {l m : List IndexElement} → Alike l m → every p l ≡ every p m
every_alike p f none_left = refl
every_alike p f (one_more {kind} {h} {t} {c} {d} w k r) = ap₂ ◌&&◌ (f kind h t c d w k) (every_alike p f r)

many_alike : (p : Sort → Bool) {l m : List IndexElement} → Alike l m → many (λ e. p e.sort) l ≡ many (λ e. p e.sort) m
unfolding many
many_alike p none_left = refl
many_alike p (one_more {kind} {h} w k r) = ap (λ (n : ℕ). cond (p (sort_of kind h)) (suc n) n) (many_alike p r)

uids_alike : {l m : List IndexElement} → Alike l m → uids_of l ≡ uids_of m
unfolding uids_of
uids_alike none_left = refl
uids_alike (one_more {kind} {h} w k r) = rw (same_uid k, uids_alike r)

files_alike : {l m : List IndexElement} → Alike l m → files_of l ≡ files_of m
unfolding files_of
files_alike none_left = refl
files_alike (one_more {kind} {h} w k r) = rw (same_file k, files_alike r)

rightly_alike : Agrees rightly
unfolding rightly may_stand
rightly_alike kind h t c d w k = rw (some_element k, as_complete k, same_blank (has_element d) (is_skipped (sort_of kind h) || not (has_element d)) w)

module _ {k l : Forest} (r : Respelled index k l) where
  same_structured : structured k ≡ structured l
  unfolding structured
  same_structured = ap₂ ◌&&◌ (as_complete r) (every_alike rightly rightly_alike (all_alike r))

  same_bounded : bounded (elements index k) ≡ bounded (elements index l)
  unfolding bounded
  same_bounded =
      ap₂ (λ (n : ℕ) (b : Bool). leb n 4096 && b) (many_alike is_entry (all_alike r))
      (every_alike (λ e. few e.sort e.kids) (λ kind h t c d w s. as_few s (sort_of kind h)) (all_alike r))

  same_all_valued : all_valued (elements index k) ≡ all_valued (elements index l)
  unfolding all_valued
  same_all_valued =
      ap₂ (λ (b : Bool) (u : List ℕ). b && different u) (every_alike (λ e. valued e.sort e.head.text) (λ kind h t c d w s. same_valued w) (all_alike r))
      (uids_alike (all_alike r))

  module _ (v : Given) where
    same_all_own : all_own v (elements index k) ≡ all_own v (elements index l)
    same_all_own = every_alike (λ e. own v e.sort e.head.text) (λ kind h t c d w s. same_own v w) (all_alike r)

    same_all_lawful : all_lawful v (elements index k) ≡ all_lawful v (elements index l)
    same_all_lawful = every_alike (λ e. lawful_file v e.sort e.kids) (λ kind h t c d w s. as_lawful s v (sort_of kind h)) (all_alike r)

  location_in : (x : List ℕ) → location_of (children_in x k) ≡ location_of (children_in x l)
  unfolding is_number_name bytes
  location_in x = let s = (children_in_lem x r).same_but in rw (text_in_lem (bytes "partition") refl s, number_in (bytes "startblock") s)

  same_index : (release : ℕ) → index_with release k ≡ index_with release l
  unfolding is_number_name bytes
  same_index release =
      rw (
        number_in (bytes "generationnumber") r,
        text_in_lem (bytes "updatetime") refl r,
        location_in (bytes "location"),
        some_element (children_in_lem (bytes "previousgenerationlocation") r).same_but,
        location_in (bytes "previousgenerationlocation"),
        text_in_lem (bytes "allowpolicyupdate") refl r,
        number_in (bytes "highestfileuid") r,
        many_alike is_entry (all_alike r),
        many_alike is_file (all_alike r),
        files_alike (all_alike r),
      )

  same_children : (v : Given) (letter block release : ℕ) → children_read v letter block release k ≡ children_read v letter block release l
  unfolding children_read
  same_children v letter block release =
      rw (same_index release, same_structured, same_bounded, same_all_valued, same_all_own v, same_all_lawful v, ap (stands_at letter block) (location_in (bytes "location")))

-- two texts of an index with the same root, in the form and not too long, whose numbers are spelled differently, are the same index
pub index_by_value : (v : Given) (letter block : ℕ) (s t : List ℕ) {h : Head} {k l f g : Forest}
    → leb (length s) max_text ≡ true → in_form s ≡ true → forest_at s 38 ≡ node h k f
    → leb (length t) max_text ≡ true → in_form t ≡ true → forest_at t 38 ≡ node h l g
    → Respelled index k l → index_of v letter block s ≡ index_of v letter block t
unfolding index_of root_read tag_read
index_by_value v letter block s t {h} a b c d e z r = rw (a, b, c, d, e, z, same_children r v letter block (or_zero (values.version h.value)))
