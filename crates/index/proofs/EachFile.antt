-- What each file of an index passes where all its elements pass their tests: its rows have letters (5 and 6), are not too many (15) and are
-- lawful (11).
use Rattle.std.specs.Prelude.{None, Some}
use mathlib.Core.Path.{◌≡◌, refl, ap, sym, ◌∙◌}
use mathlib.Core.Bool.{Bool, true, false, cond, not, ◌&&◌, ◌||◌, false≢true}
use mathlib.Core.List.{List, [], ◌∷◌, ◌++◌}
use Prim.Native.Nat.{ℕ, zero, suc, ◌≤◌}
use native.Mathlib.Omega.{arith}
use borrow.Author.Tests.{eqb-true}
use lib.Dec.{eqb, leb}
use lib.ListN.{length}
use Rattle.slices.specs.Slices.{every, same}
use Rattle.slices.specs.Words.{bytes}
use Rattle.slices.proofs.Booleans.{and_left, and_right, and_both, and_parts}
use Rattle.slices.proofs.Every.{every_append, every_weaker}
use Rattle.quantities.specs.Letters.{is_letter}
use Rattle.xml.specs.Bytes.{is_space}
use Rattle.xml.specs.Tree.{Head, Forest, none as no_element, node}
use Rattle.values.specs.Values as values
use Rattle.elements.specs.Reading.{has_element}
use Rattle.extents.specs.Lawful as extents
use Rattle.extents.specs.Map.{lettered}
use Rattle.index_names.specs.declared.Sort.{Sort}
use Rattle.index_names.specs.declared.Sort.TheVariants.{File as file, ExtentInfo as extentinfo, Extent as extent}
use Rattle.index_names.specs.Sorts.{holds_elements, is_file, is_skipped, is_unknown}
use Rattle.index_names.specs.Rows.{count_once, some_any_number}
use Rattle.index_names.specs.Tables.{times, entry_table, of_file, extentinfo_table, extent_table, table, sort, must, repeats}
use Rattle.index_names.specs.Names.{names, number_in}
use Rattle.index_names.proofs.ByKind.{is_file-true}
use Rattle.index_rows.proofs.Named.{ruled, number_own}
use Rattle.index_values.specs.Elements.{IndexElement, element, elements, name_number, sort_of, text_in, children_in}
use Rattle.index_values.specs.Entries.{or_zero}
use Rattle.index_values.specs.Tests.{Given, is_some, valued, few, lawful_file, letter_or_zero, row_of, rows_in, extent_rows, length_of}
use Rattle.index.specs.Structure.{may_stand, count, right_often, complete, rightly}
use Rattle.index.specs.Index.{File, file_of, files_of, all_lawful}
use Rattle.index.proofs.Lawful.{below_at}

-- 6, of an element; and 5 with it
abbrev has_value : IndexElement → Bool
has_value e = valued e.sort e.head.text

abbrev sound : IndexElement → Bool
sound e = rightly e && has_value e

-- the elements in an element of sort s
abbrev pub within : Sort → Forest → List IndexElement
within s c = cond (holds_elements s) (elements s c) []

-- a test that each element of a row passes: the first one, those in it, those behind it
module _ (test : IndexElement → Bool) (kind : Sort) (h : Head) (c r : Forest) (e : every test (elements kind (node h c r)) ≡ true) where
  pub here : test (element (sort_of kind h) h c) ≡ true
  unfolding elements
  here = and_left _ (every test (within (sort_of kind h) c ++ elements kind r)) e

  parts : (every test (within (sort_of kind h) c) && every test (elements kind r)) ≡ true
  unfolding elements
  parts = sym (every_append test (within (sort_of kind h) c) (elements kind r)) ∙ and_right (test (element (sort_of kind h) h c)) _ e

  pub inside : holds_elements (sort_of kind h) ≡ true → every test (elements (sort_of kind h) c) ≡ true
  inside o = sym (ap (λ (b : Bool). every test (cond b (elements (sort_of kind h) c) [])) o) ∙ and_left _ (every test (elements kind r)) parts

  pub behind : every test (elements kind r) ≡ true
  behind = and_right (every test (within (sort_of kind h) c)) _ parts

-- what says a letter says one from `a` to `z`
letter_said : (t : List ℕ) → is_some (values.letter t) ≡ true → is_letter (letter_or_zero t) ≡ true
unfolding values.letter
letter_said [] e = absurd (false≢true e)
letter_said (b ∷ []) e = go (is_letter b) refl e
  where
    go : (x : Bool) → is_letter b ≡ x → is_some (cond x (Some b) None) ≡ true → is_letter (or_zero (cond x (Some b) None)) ≡ true
    go true q e = q
    go false q e = absurd (false≢true e)
letter_said (b ∷ c ∷ t) e = absurd (false≢true e)

-- an element whose structure is right is known, and complete if it holds elements
module _ (s : Sort) (h : Head) (c : Forest) (e : rightly (element s h c) ≡ true) where
  right_fits : is_unknown s ≡ false
  unfolding rightly may_stand
  right_fits =
      not-true (is_unknown s)
      (and_left _ (eqb (length h.key) 0) (and_left _ (cond (holds_elements s) (has_element c || every is_space h.text) (is_skipped s || not (has_element c))) (and_left (may_stand s h c) (not (holds_elements s) || complete s c) e)))
    where
      not-true : (b : Bool) → not b ≡ true → b ≡ false
      not-true true q = sym q
      not-true false q = refl

  right_complete : (not (holds_elements s) || complete s c) ≡ true
  unfolding rightly
  right_complete = and_right (may_stand s h c) (not (holds_elements s) || complete s c) e

-- sorts by numbers
partition_valued : (j : ℕ) → j ≡ 1 → (t : List ℕ) → valued (sort extent j) t ≡ true → is_some (values.letter t) ≡ true
unfolding sort table extent_table valued
partition_valued j q t e = sym (ap (λ (n : ℕ). valued (sort extent n) t) q) ∙ e

only_extents : (j : ℕ) → is_unknown (sort extentinfo j) ≡ false → sort extentinfo j ≡ extent
unfolding sort table extentinfo_table
only_extents zero e = refl
only_extents (suc j) e = absurd (false≢true (sym e))

extentinfo_sort : (j : ℕ) → j ≡ 9 → sort file j ≡ extentinfo
unfolding sort table times entry_table of_file
extentinfo_sort j q = ap (sort file) q

-- in an extent stands a partition
partition_told : (n : List ℕ) → eqb (number_in (names extent) n) 1 ≡ same n (bytes "partition")
unfolding names table extent_table bytes ruled
partition_told n = number_own (names extent) 1 n refl

partition_there : (c : Forest) → complete extent c ≡ true → 1 ≤ count 1 extent c
unfolding complete repeats some_any_number must count_once table extent_table
partition_there c e =
    let n : count 1 extent c ≡ 1 = eqb-true (count 1 extent c) 1 (below_at (λ j. right_often (must extent) j (count j extent c)) 16 1 e (omega arith)) in
    omega arith

extent_lettered : (f : Forest) → every sound (elements extent f) ≡ true → 1 ≤ count 1 extent f → is_letter (letter_or_zero (text_in (bytes "partition") f)) ≡ true
unfolding count text_in
extent_lettered no_element e n = absurd (omega arith)
extent_lettered (node h c r) e n =
    ap (λ (b : Bool). is_letter (letter_or_zero (cond b h.text (text_in (bytes "partition") r)))) (sym (partition_told h.name))
    ∙ go (eqb (name_number extent h) 1) refl n (extent_lettered r (behind sound extent h c r e))
  where
    value : name_number extent h ≡ 1 → is_some (values.letter h.text) ≡ true
    value q = partition_valued (name_number extent h) q h.text (and_right (rightly (element (sort_of extent h) h c)) _ (here sound extent h c r e))

    go : (b : Bool) → eqb (name_number extent h) 1 ≡ b → 1 ≤ cond b (suc (count 1 extent r)) (count 1 extent r)
        → (1 ≤ count 1 extent r → is_letter (letter_or_zero (text_in (bytes "partition") r)) ≡ true)
        → is_letter (letter_or_zero (cond b h.text (text_in (bytes "partition") r))) ≡ true
    go true q n i = letter_said h.text (value (eqb-true (name_number extent h) 1 q))
    go false q n i = i n

-- in an extentinfo stand extents
rows_lettered : (f : Forest) → every sound (elements extentinfo f) ≡ true → lettered (rows_in f) ≡ true
unfolding rows_in row_of
rows_lettered no_element e = refl
rows_lettered (node h c r) e = and_both _ _ first (rows_lettered r (behind sound extentinfo h c r e))
  where
    s : Sort
    s = sort_of extentinfo h

    right : rightly (element s h c) ≡ true
    right = and_left _ (valued s h.text) (here sound extentinfo h c r e)

    is_extent : s ≡ extent
    is_extent = only_extents (name_number extentinfo h) (right_fits s h c right)

    first : is_letter (letter_or_zero (text_in (bytes "partition") c)) ≡ true
    first =
        extent_lettered c
        (ap (λ (k : Sort). every sound (elements k c)) (sym is_extent) ∙ inside sound extentinfo h c r e (ap (λ (k : Sort). holds_elements k) is_extent))
        (partition_there c (sym (ap (λ (k : Sort). not (holds_elements k) || complete k c) is_extent) ∙ right_complete s h c right))

-- in a file stands its extentinfo
extentinfo_told : (n : List ℕ) → eqb (number_in (names file) n) 9 ≡ same n (bytes "extentinfo")
unfolding names table times entry_table of_file bytes ruled
extentinfo_told n = number_own (names file) 9 n refl

extents_sound : (f : Forest) → every sound (elements file f) ≡ true → every sound (elements extentinfo (children_in (bytes "extentinfo") f)) ≡ true
unfolding children_in elements
extents_sound no_element e = refl
extents_sound (node h c r) e =
    ap (λ (b : Bool). every sound (elements extentinfo (cond b c (children_in (bytes "extentinfo") r)))) (sym (extentinfo_told h.name))
    ∙ go (eqb (name_number file h) 9) refl (extents_sound r (behind sound file h c r e))
  where
    go : (b : Bool) → eqb (name_number file h) 9 ≡ b → every sound (elements extentinfo (children_in (bytes "extentinfo") r)) ≡ true
        → every sound (elements extentinfo (cond b c (children_in (bytes "extentinfo") r))) ≡ true
    go true q i =
        let z : sort_of file h ≡ extentinfo = extentinfo_sort (name_number file h) (eqb-true (name_number file h) 9 q) in
        ap (λ (k : Sort). every sound (elements k c)) (sym z) ∙ inside sound file h c r e (ap (λ (k : Sort). holds_elements k) z)
    go false q i = i

-- what all elements pass, all elements of each file pass
module _ (test : IndexElement → Bool) where
  abbrev files_pass : IndexElement → Bool
  files_pass e = not (is_file e.sort) || every test (elements file e.kids)

  files_inside : (kind : Sort) (f : Forest) → every test (elements kind f) ≡ true → every files_pass (elements kind f) ≡ true
  unfolding elements
  files_inside kind no_element e = refl
  files_inside kind (node h c r) e =
      and_both _ _ (own (is_file s) refl)
      (every_append files_pass (within s c) (elements kind r)
      ∙ and_both _ _ (below (holds_elements s) refl (files_inside s c)) (files_inside kind r (behind test kind h c r e)))
    where
      s : Sort
      s = sort_of kind h

      own : (b : Bool) → is_file s ≡ b → (not b || every test (elements file c)) ≡ true
      own true q =
          let z : s ≡ file = is_file-true s q in
          ap (λ (k : Sort). every test (elements k c)) (sym z) ∙ inside test kind h c r e (ap (λ (k : Sort). holds_elements k) z)
      own false q = refl

      below : (b : Bool) → holds_elements s ≡ b → (every test (elements s c) ≡ true → every files_pass (elements s c) ≡ true) → every files_pass (cond b (elements s c) []) ≡ true
      below true o i = i (inside test kind h c r e o)
      below false o i = refl

-- what each element passes that is a file, each file passes that the index says
files_each : (test : File → Bool) (l : List IndexElement) → every (λ e. not (is_file e.sort) || test (file_of e.kids)) l ≡ true → every test (files_of l) ≡ true
unfolding files_of
files_each test [] e = refl
files_each test (x ∷ l) e = go (is_file x.sort) (and_left _ _ e) (files_each test l (and_right (not (is_file x.sort) || test (file_of x.kids)) _ e))
  where
    go : (b : Bool) → (not b || test (file_of x.kids)) ≡ true → every test (files_of l) ≡ true → every test (cond b (file_of x.kids ∷ files_of l) (files_of l)) ≡ true
    go true q i = and_both _ _ q i
    go false q i = i

both_pass : (l : List IndexElement) → every rightly l ≡ true → every has_value l ≡ true → every sound l ≡ true
both_pass [] p q = refl
both_pass (x ∷ l) p q =
    let (a, b) = and_parts (rightly x) (every rightly l) p in
    let (c, d) = and_parts (has_value x) (every has_value l) q in
    and_both (sound x) (every sound l) (and_both (rightly x) (has_value x) a c) (both_pass l b d)

pub files_lettered : (kind : Sort) (k : Forest) → every rightly (elements kind k) ≡ true → every (λ e. valued e.sort e.head.text) (elements kind k) ≡ true
    → every (λ f. lettered f.rows) (files_of (elements kind k)) ≡ true
files_lettered kind k p q =
    files_each (λ f. lettered f.rows) (elements kind k)
    (every_weaker (files_pass sound) (λ e. not (is_file e.sort) || lettered (extent_rows e.kids)) weaker (elements kind k)
    (files_inside sound kind k (both_pass (elements kind k) p q)))
  where
    weaker : (e : IndexElement) → files_pass sound e ≡ true → (not (is_file e.sort) || lettered (extent_rows e.kids)) ≡ true
    weaker e = go (is_file e.sort)
      where
        go : (b : Bool) → (not b || every sound (elements file e.kids)) ≡ true → (not b || lettered (extent_rows e.kids)) ≡ true
        go true q = rows_lettered (children_in (bytes "extentinfo") e.kids) (extents_sound e.kids q)
        go false q = refl

file_lawful : (g : Given) (s : Sort) (c : Forest) → lawful_file g s c ≡ true
    → (not (is_file s) || (leb (length (extent_rows c)) 1024 && extents.lawful (length_of c) g.block_size (extent_rows c))) ≡ true
unfolding lawful_file few
file_lawful g s c = go (is_file s)
  where
    go : (b : Bool) → (not b || ((not b || leb (length (extent_rows c)) 1024) && extents.lawful (length_of c) g.block_size (extent_rows c))) ≡ true
        → (not b || (leb (length (extent_rows c)) 1024 && extents.lawful (length_of c) g.block_size (extent_rows c))) ≡ true
    go true e = e
    go false e = refl

pub files_lawful : (g : Given) (l : List IndexElement) → all_lawful g l ≡ true
    → every (λ f. leb (length f.rows) 1024 && extents.lawful f.length g.block_size f.rows) (files_of l) ≡ true
files_lawful g l e =
    files_each (λ f. leb (length f.rows) 1024 && extents.lawful f.length g.block_size f.rows) l
    (every_weaker (λ x. lawful_file g x.sort x.kids) (λ x. not (is_file x.sort) || (leb (length (extent_rows x.kids)) 1024 && extents.lawful (length_of x.kids) g.block_size (extent_rows x.kids)))
    (λ x. file_lawful g x.sort x.kids) l e)
