-- Children once each in any order: a row in an element of an index is right exactly where it is `lawful_children` of children's specs/Children by the table
-- of its kind, which has the kind's names in their order, each with a mark for what an element of its sort may hold.
use mathlib.Core.Path.{◌≡◌, refl, ap, sym, ◌∙◌}
use mathlib.Core.Bool.{Bool, true, false, cond, not, ◌&&◌, ◌||◌, and-true, and-false, false≢true}
use mathlib.Core.List.{List, [], ◌∷◌}
use Prim.Native.Nat.{ℕ, zero, suc, ◌+◌, ◌<◌, ◌≤◌}
use native.Mathlib.Nat.{add-zero, zero-add}
use native.Mathlib.Omega.{arith}
use borrow.Author.Tests.{ne_eqb, eqb-true, eqb-false, lt-ltb, le-ltb, ltb-true, ltb-false, le-leb, lt-leb, leb-true, leb-false}
use lib.Dec.{eqb, leb, ltb}
use lib.ListN.{length}
use Rattle.slices.specs.Slices.{every, same}
use Rattle.slices.proofs.Booleans.{split, and_left, and_right}
use Rattle.xml.specs.Bytes.{is_space}
use Rattle.xml.specs.Tree.{Head, Forest, none, node}
use Rattle.elements.specs.Reading.{has_element}
use Rattle.children.specs.Rules.{Rule, rule_number, mark_of}
use Rattle.children.specs.Children.{no_attribute, may_hold as held_by, matching, all_known, pick, at_most_one, below, lawful_children}
use Rattle.children.proofs.Below.{below_false}
use Rattle.index_names.specs.declared.Sort.{Sort}
use Rattle.index_names.specs.declared.Sort.TheVariants.{Index, Place, Root, Directory, Contents, File, ExtentInfo, Extent}
use Rattle.index_names.specs.Sorts.{holds_elements, is_skipped, is_unknown}
use Rattle.index_names.specs.Rows.{count_once}
use Rattle.index_names.specs.Tables.{index_table, place_table, times, entry_table, of_directory, contents_table, of_file, extentinfo_table, extent_table, table, sort, must, repeats}
use Rattle.index_names.specs.Names.{names, number_in}
use Rattle.index_rows.proofs.Named.{same_flip, names_of, number_place}
use Rattle.index_values.specs.Elements.{name_number, sort_of}
use Rattle.index.specs.Structure.{may_stand, count, right_often, complete}
use Rattle.index.proofs.Counted.{below_ext}

-- the mark for what an element of a sort may hold
abbrev pub mark : Sort → ℕ
mark s = cond (holds_elements s) 47 (cond (is_skipped s) 42 61)

-- the rules of a kind's names from number j on
unfoldable pub rules_from : Sort → ℕ → List (List ℕ) → List Rule
rules_from kind j [] = []
rules_from kind j (x ∷ xs) = record { name = x; mark = mark (sort kind j) } ∷ rules_from kind (suc j) xs

abbrev pub rules_of : Sort → List Rule
rules_of kind = rules_from kind 0 (names kind)

-- each element of a row may stand there, and holds what it may
unfoldable pub all_fit : Sort → Forest → Bool
all_fit kind none = true
all_fit kind (node h c r) = may_stand (sort_of kind h) h c && all_fit kind r

-- a rule's number and mark are the name's
module _ (kind : Sort) where
  length_rules : (j : ℕ) (xs : List (List ℕ)) → length (rules_from kind j xs) ≡ length xs
  unfolding rules_from
  length_rules j [] = refl
  length_rules j (x ∷ xs) = ap suc (length_rules (suc j) xs)

  names_rules : (j : ℕ) (xs : List (List ℕ)) → names_of (rules_from kind j xs) ≡ xs
  unfolding rules_from names_of
  names_rules j [] = refl
  names_rules j (x ∷ xs) = ap (λ (l : List (List ℕ)). x ∷ l) (names_rules (suc j) xs)

  place_number : (n : List ℕ) → rule_number (rules_of kind) n ≡ number_in (names kind) n
  place_number n = number_place (rules_of kind) n ∙ ap (λ (l : List (List ℕ)). number_in l n) (names_rules 0 (names kind))

  mark_number : (j : ℕ) (xs : List (List ℕ)) (n : List ℕ)
      → mark_of (rules_from kind j xs) n ≡ cond (ltb (number_in xs n) (length xs)) (mark (sort kind (j + number_in xs n))) 0
  unfolding rules_from mark_of number_in
  mark_number j [] n = refl
  mark_number j (x ∷ xs) n =
      ap (λ (b : Bool). cond b (mark (sort kind j)) (mark_of (rules_from kind (suc j) xs) n)) (same_flip x n)
      ∙ go (same n x) (mark_number (suc j) xs n)
    where
      m : ℕ
      m = number_in xs n

      go : (b : Bool) → mark_of (rules_from kind (suc j) xs) n ≡ cond (ltb m (length xs)) (mark (sort kind (suc j + m))) 0
          → cond b (mark (sort kind j)) (mark_of (rules_from kind (suc j) xs) n)
          ≡ cond (ltb (cond b 0 (suc m)) (suc (length xs))) (mark (sort kind (j + cond b 0 (suc m)))) 0
      go true i = rw (lt-ltb 0 (suc (length xs)) (omega arith), add-zero)
      go false i =
          let e : ltb (suc m) (suc (length xs)) ≡ ltb m (length xs) =
          split (λ (t : Bool). ltb (suc m) (suc (length xs)) ≡ t) (ltb m (length xs)) (λ q. lt-ltb (suc m) (suc (length xs)) (omega (arith, ltb-true m (length xs) q))) (λ q. le-ltb (suc m) (suc (length xs)) (omega (arith, ltb-false m (length xs) q))) in
          let z : j + suc m ≡ suc j + m = omega arith in
          rw (e, z) i

number_most : (xs : List (List ℕ)) (n : List ℕ) → number_in xs n ≤ length xs
unfolding number_in
number_most [] n = omega arith
number_most (x ∷ xs) n = go (same n x) (number_most xs n)
  where
    go : (b : Bool) → number_in xs n ≤ length xs → cond b 0 (suc (number_in xs n)) ≤ suc (length xs)
    go true h = omega arith
    go false h = omega arith

-- the tables, by one computed test: no more than 16 names, the required ones among them, and a sort for each name and for nothing else
agree : Bool → Bool → Bool
agree true b = b
agree false b = not b

abbrev tabled : Sort → Bool
tabled k =
    leb (must k) (length (names k)) && leb (length (names k)) 16
    && below (suc (length (names k))) (λ j. agree (is_unknown (sort k j)) (leb (length (names k)) j))

all_tabled : (kind : Sort) → holds_elements kind ≡ true → tabled kind ≡ true
unfolding below agree names sort must count_once table index_table place_table times entry_table of_directory contents_table of_file extentinfo_table extent_table
all_tabled Index e = refl
all_tabled Place e = refl
all_tabled Root e = refl
all_tabled Directory e = refl
all_tabled Contents e = refl
all_tabled File e = refl
all_tabled ExtentInfo e = refl
all_tabled Extent e = refl
all_tabled _ e = absurd (false≢true e)

pub below_at : (f : ℕ → Bool) (n j : ℕ) → below n f ≡ true → j < n → f j ≡ true
below_at f n j e h = split (λ (t : Bool). f j ≡ t → t ≡ true) (f j) (λ q z. refl) (λ q z. absurd (false≢true (sym (below_false f n j h q) ∙ e))) refl

agree_same : (a b : Bool) → agree a b ≡ true → a ≡ b
unfolding agree
agree_same true true e = refl
agree_same true false e = sym e
agree_same false true e = e
agree_same false false e = refl

-- tests of all numbers below a bound: two at once, and where those from n on pass
below_and : (f g : ℕ → Bool) (n : ℕ) → below n (λ j. f j && g j) ≡ (below n f && below n g)
unfolding below
below_and f g zero = refl
below_and f g (suc n) = ap (λ (b : Bool). (f n && g n) && b) (below_and f g n) ∙ go (f n) (g n) (below n f) (below n g)
  where
    go : (a b c d : Bool) → ((a && b) && (c && d)) ≡ ((a && c) && (b && d))
    go false b c d = refl
    go true true c d = refl
    go true false c d = sym (and-false c)

below_cut : (f : ℕ → Bool) (n m : ℕ) → n ≤ m → ((j : ℕ) → n ≤ j → f j ≡ true) → below m f ≡ below n f
unfolding below
below_cut f n zero h t = let z : n ≡ 0 = omega arith in sym (ap (λ (k : ℕ). below k f) z)
below_cut f n (suc m) h t =
    split (λ (b : Bool). eqb n (suc m) ≡ b → below (suc m) f ≡ below n f) (eqb n (suc m))
    (λ q z. sym (ap (λ (k : ℕ). below k f) (eqb-true n (suc m) q)))
    (λ q z. let y : n ≤ m = less (eqb-false n (suc m) q) in ap (λ (b : Bool). b && below m f) (t m y) ∙ below_cut f n m y t) refl
  where
    less : (n ≡ suc m → ⊥) → n ≤ m
    less d = split (λ (b : Bool). leb n m ≡ b → n ≤ m) (leb n m) (λ q z. leb-true n m q) (λ q z. absurd (d (omega (arith, leb-false n m q)))) refl

-- once is at most once, and at least once where it must be
once_two : (needed j n : ℕ) → right_often needed j n ≡ (leb n 1 && (not (ltb j needed) || leb 1 n))
once_two needed j n = go (ltb j needed)
  where
    go : (b : Bool) → cond b (eqb n 1) (leb n 1) ≡ (leb n 1 && (not b || leb 1 n))
    go false = sym (and-true (leb n 1))
    go true =
        split (λ (t : Bool). eqb n 1 ≡ t → t ≡ (leb n 1 && leb 1 n)) (eqb n 1)
        (λ q z. let e : n ≡ 1 = eqb-true n 1 q in sym (rw (le-leb n 1 (omega arith), le-leb 1 n (omega arith))))
        (λ q z. sym (other (eqb-false n 1 q))) refl
      where
        other : (n ≡ 1 → ⊥) → (leb n 1 && leb 1 n) ≡ false
        other d =
            split (λ (t : Bool). leb 1 n ≡ t → (leb n 1 && t) ≡ false) (leb 1 n)
            (λ q z. let h = leb-true 1 n q in rw (lt-leb n 1 (more d h))) (λ q z. and-false (leb n 1)) refl
          where
            more : (n ≡ 1 → ⊥) → 1 ≤ n → 1 < n
            more d h = split (λ (t : Bool). ltb 1 n ≡ t → 1 < n) (ltb 1 n) (λ q z. ltb-true 1 n q) (λ q z. absurd (d (omega (arith, ltb-false 1 n q)))) refl

module _ (kind : Sort) (one : holds_elements kind ≡ true) where
  abbrev rs : List Rule
  rs = rules_of kind

  abbrev size : ℕ
  size = length (names kind)

  passed : tabled kind ≡ true
  passed = all_tabled kind one

  must_named : must kind ≤ size
  must_named = leb-true (must kind) size (and_left (leb (must kind) size) (leb size 16) (and_left (leb (must kind) size && leb size 16) _ passed))

  size_most : size ≤ 16
  size_most = leb-true size 16 (and_right (leb (must kind) size) (leb size 16) (and_left (leb (must kind) size && leb size 16) _ passed))

  -- a name that is none of the kind's has no sort
  sorted : (n : List ℕ) → is_unknown (sort kind (number_in (names kind) n)) ≡ leb size (number_in (names kind) n)
  sorted n =
      agree_same _ _
      (below_at (λ j. agree (is_unknown (sort kind j)) (leb size j)) (suc size) (number_in (names kind) n)
      (and_right (leb (must kind) size && leb size 16) _ passed) (omega (arith, number_most (names kind) n)))

  -- what an element may hold by its sort is what it may by its mark
  held : (s : Sort) (h : Head) (c : Forest) → cond (holds_elements s) (has_element c || every is_space h.text) (is_skipped s || not (has_element c)) ≡ held_by (mark s) h c
  unfolding held_by
  held s h c = go (holds_elements s) (is_skipped s)
    where
      go : (a b : Bool) → cond a (has_element c || every is_space h.text) (b || not (has_element c))
          ≡ cond (eqb (cond a 47 (cond b 42 61)) 61) (not (has_element c)) (cond (eqb (cond a 47 (cond b 42 61)) 47) (has_element c || every is_space h.text) (eqb (cond a 47 (cond b 42 61)) 42))
      go true b = refl
      go false true = refl
      go false false = refl

  fits_rule : (h : Head) (c : Forest) → may_stand (sort_of kind h) h c ≡ (no_attribute h && held_by (mark_of rs h.name) h c)
  unfolding may_stand held_by
  fits_rule h c =
      split (λ (t : Bool). leb size j ≡ t → may_stand (sort kind j) h c ≡ (no_attribute h && held_by (mark_of rs h.name) h c)) (leb size j)
      (λ q z.
      let u : is_unknown (sort kind j) ≡ true = sorted h.name ∙ q in
      let m : mark_of rs h.name ≡ 0 = mark_number kind 0 (names kind) h.name ∙ rw (le-ltb j size (leb-true size j q)) in
      rw (u, m) (sym (and-false (no_attribute h))))
      (λ q z.
      let u : is_unknown (sort kind j) ≡ false = sorted h.name ∙ q in
      let m : mark_of rs h.name ≡ mark (sort kind j) = mark_number kind 0 (names kind) h.name ∙ rw (lt-ltb j size (leb-false size j q), zero-add) in
      rw (u, m) (ap (λ (b : Bool). no_attribute h && b) (held (sort kind j) h c)))
      refl
    where
      j : ℕ
      j = number_in (names kind) h.name

  all_fit_lem : (f : Forest) → all_fit kind f ≡ all_known rs f
  unfolding all_fit all_known
  all_fit_lem none = refl
  all_fit_lem (node h c r) =
      ap (λ (b : Bool). b && all_fit kind r) (fits_rule h c) ∙ ap (λ (b : Bool). (no_attribute h && held_by (mark_of rs h.name) h c) && b) (all_fit_lem r)

  -- so many elements have a name as its rule picks
  there : (j : ℕ) (f : Forest) → has_element (pick rs j f) ≡ leb 1 (count j kind f)
  unfolding matching count has_element
  there j none = refl
  there j (node h c r) = ap (λ (k : ℕ). has_element (cond (eqb k j) (node h c (pick rs j r)) (pick rs j r))) (place_number kind h.name) ∙ go (eqb (name_number kind h) j) (there j r)
    where
      go : (b : Bool) → has_element (pick rs j r) ≡ leb 1 (count j kind r)
          → has_element (cond b (node h c (pick rs j r)) (pick rs j r)) ≡ leb 1 (cond b (suc (count j kind r)) (count j kind r))
      go true i = sym (le-leb 1 (suc (count j kind r)) (omega arith))
      go false i = i

  not_twice : (j : ℕ) (f : Forest) → at_most_one (pick rs j f) ≡ leb (count j kind f) 1
  unfolding matching count at_most_one
  not_twice j none = refl
  not_twice j (node h c r) = ap (λ (k : ℕ). at_most_one (cond (eqb k j) (node h c (pick rs j r)) (pick rs j r))) (place_number kind h.name) ∙ go (eqb (name_number kind h) j) (not_twice j r)
    where
      n : ℕ
      n = count j kind r

      go : (b : Bool) → at_most_one (pick rs j r) ≡ leb n 1 → at_most_one (cond b (node h c (pick rs j r)) (pick rs j r)) ≡ leb (cond b (suc n) n) 1
      go true i =
          ap not (there j r)
          ∙ split (λ (t : Bool). leb 1 n ≡ t → not t ≡ leb (suc n) 1) (leb 1 n) (λ q z. sym (lt-leb (suc n) 1 (omega (arith, leb-true 1 n q)))) (λ q z. sym (le-leb (suc n) 1 (omega (arith, leb-false 1 n q)))) refl
      go false i = i

  -- where each element may stand, none has a number past the names
  none_past : (j : ℕ) → size ≤ j → (f : Forest) → all_fit kind f ≡ true → count j kind f ≡ 0
  unfolding all_fit may_stand count
  none_past j past none e = refl
  none_past j past (node h c r) e =
      let u : is_unknown (sort_of kind h) ≡ false = no (is_unknown (sort_of kind h)) (and_left (not (is_unknown (sort_of kind h))) (no_attribute h) (and_left (not (is_unknown (sort_of kind h)) && no_attribute h) _ (and_left (may_stand (sort_of kind h) h c) (all_fit kind r) e))) in
      let l : name_number kind h < size = leb-false size (name_number kind h) (sym (sorted h.name) ∙ u) in
      ap (λ (b : Bool). cond b (suc (count j kind r)) (count j kind r)) (ne_eqb (name_number kind h) j (λ z. omega arith))
      ∙ none_past j past r (and_right (may_stand (sort_of kind h) h c) (all_fit kind r) e)
    where
      no : (b : Bool) → not b ≡ true → b ≡ false
      no true z = sym z
      no false z = refl

  -- children once each in any order, nothing else
  lawful_row : repeats kind ≡ false → (f : Forest) → (all_fit kind f && complete kind f) ≡ lawful_children rs (must kind) f
  unfolding complete lawful_children
  lawful_row single f =
      split (λ (t : Bool). all_fit kind f ≡ t → (t && (repeats kind || below 16 (λ j. right_often (must kind) j (count j kind f)))) ≡ (all_known rs f && below (length rs) (λ k. at_most_one (pick rs k f)) && below (must kind) (λ k. has_element (pick rs k f)))) (all_fit kind f)
      (λ q z. rw (sym (all_fit_lem f) ∙ q, single) (numbers q)) (λ q z. rw (sym (all_fit_lem f) ∙ q)) refl
    where
      a : ℕ → Bool
      a j = leb (count j kind f) 1

      b : ℕ → Bool
      b j = not (ltb j (must kind)) || leb 1 (count j kind f)

      numbers : all_fit kind f ≡ true → below 16 (λ j. right_often (must kind) j (count j kind f)) ≡ (below (length rs) (λ k. at_most_one (pick rs k f)) && below (must kind) (λ k. has_element (pick rs k f)))
      numbers q =
          below_ext (λ j. right_often (must kind) j (count j kind f)) (λ j. a j && b j) 16 (λ j h. once_two (must kind) j (count j kind f))
          ∙ below_and a b 16
          ∙ ap (λ (t : Bool). t && below 16 b)
          (below_cut a size 16 size_most (λ j h. ap (λ (n : ℕ). leb n 1) (none_past j h f q)) ∙ ap (λ (n : ℕ). below n a) (sym (length_rules kind 0 (names kind)))
          ∙ below_ext a (λ k. at_most_one (pick rs k f)) (length rs) (λ j h. sym (not_twice j f)))
          ∙ ap (λ (t : Bool). below (length rs) (λ k. at_most_one (pick rs k f)) && t)
          (below_cut b (must kind) 16 (omega (arith, must_named, size_most)) (λ j h. rw (le-ltb j (must kind) h))
          ∙ below_ext b (λ k. has_element (pick rs k f)) (must kind) (λ j h. rw (lt-ltb j (must kind) h) (sym (there j f))))

pub row_lawful : (kind : Sort) → holds_elements kind ≡ true → repeats kind ≡ false → (f : Forest) → (all_fit kind f && complete kind f) ≡ lawful_children (rules_of kind) (must kind) f
row_lawful kind h single f = lawful_row kind h single f
