-- What the walk lists: the entries of a row with their numbers, and all their rows, in tables that have room for them.
use mathlib.Core.Path.{◌≡◌, refl, ap, sym, ◌∙◌, subst}
use mathlib.Core.Bool.{Bool, true, false, cond, not, ◌&&◌, ◌||◌, false≢true}
use mathlib.Core.List.{List, [], ◌∷◌, ◌++◌, append-nil, append_assoc}
use Prim.Native.Nat.{ℕ, suc, ◌+◌, ◌*◌, ◌≤◌, ◌<◌}
use native.Mathlib.Nat.{add-zero, zero-add}
use native.Mathlib.Omega.{arith}
use borrow.Author.Tests.{le-leb, leb-true}
use lib.Dec.{leb}
use lib.ListN.{length, get_or, set, length-append}
use lib.Seq.{sets, set_comm, length-sets}
use Rattle.slices.specs.Slices.{every}
use Rattle.slices.proofs.Booleans.{and_left, and_right}
use Rattle.xml.specs.Tree.{Head, Forest, none, node, tag_head}
use Rattle.elements.specs.Tags.{Tags, told, heads}
use Rattle.extents.specs.declared.Row.{Row}
use Rattle.extents.specs.Rows.{numbers_of}
use Rattle.extents.proofs.Rows.{length_numbers}
use Rattle.index_names.specs.declared.Sort.{Sort}
use Rattle.index_names.specs.declared.Sort.TheVariants.{Unknown as unknown, File, ExtentInfo, Extent}
use Rattle.index_names.specs.Sorts.{holds_elements, is_file}
use Rattle.index_names.specs.Rows.{sorts_of}
use Rattle.index_names.specs.Tables.{times, entry_table, of_file, extentinfo_table, extent_table, table, sort}
use Rattle.index_values.specs.Elements.{IndexElement, elements, name_number, sort_of}
use Rattle.index_values.specs.Entries.{is_entry, uid_of}
use Rattle.index_values.specs.Tests.{Given, few, extent_rows, rows_held}
use Rattle.index_values.specs.Steps.{rows_taken}
use Rattle.index.specs.Entries.{Entry, holder, entry_with, entry_of, entry_itself, entries_in, entry_rows, entry_files, nine, nines_from}
use Rattle.index.specs.SweepSteps.{All, with_sums, one_more, more_rows, none_seen, marked, after_row, ended_sums, begun, settled, entry_put, rows_put, after_element, sweep}
use Rattle.index.proofs.Counted.{sat_below, more_sat}
use Rattle.index.proofs.EachFile.{here, inside, behind}
use Rattle.index.proofs.Gathering.{closed_other}

-- stores that do not meet may change places, and one behind the other is one
set_later : (u t : List ℕ) (k n v : ℕ) → k < n → set (sets t n u) k v ≡ sets (set t k v) n u
set_later [] t k n v h = refl
set_later (x ∷ u) t k n v h = set_later u (set t n x) k (suc n) v (omega arith) ∙ ap (λ (l : List ℕ). sets l (suc n) u) (set_comm t n k x v (λ e. omega arith))

sets_later : (v u t : List ℕ) (k n : ℕ) → k + length v ≤ n → sets (sets t n u) k v ≡ sets (sets t k v) n u
sets_later [] u t k n h = refl
sets_later (y ∷ v) u t k n h = ap (λ (l : List ℕ). sets l (suc k) v) (set_later u t k n y (omega arith)) ∙ sets_later v u (set t k y) (suc k) n (omega arith)

sets_append : (u w t : List ℕ) (n : ℕ) → sets (sets t n u) (n + length u) w ≡ sets t n (u ++ w)
sets_append [] w t n = ap (λ (k : ℕ). sets t k w) (add-zero n)
sets_append (x ∷ u) w t n =
    let e : n + suc (length u) ≡ suc n + length u = omega arith in
    ap (λ (k : ℕ). sets (sets (set t n x) (suc n) u) k w) e ∙ sets_append u w (set t n x) (suc n)

-- what is told of entries one after the other
unfoldable pub uids_in : List Entry → List ℕ
uids_in [] = []
uids_in (e ∷ l) = e.fileuid ∷ uids_in l

pub uids_length : (l : List Entry) → length (uids_in l) ≡ length l
unfolding uids_in
uids_length [] = refl
uids_length (e ∷ l) = ap suc (uids_length l)

module _ (k : List Entry) where
  uids_append : (l : List Entry) → uids_in (l ++ k) ≡ uids_in l ++ uids_in k
  unfolding uids_in
  uids_append [] = refl
  uids_append (e ∷ l) = ap (λ (x : List ℕ). e.fileuid ∷ x) (uids_append l)

  files_append : (l : List Entry) → entry_files (l ++ k) ≡ entry_files l + entry_files k
  unfolding entry_files
  files_append [] = sym (zero-add (entry_files k))
  files_append (e ∷ l) = let i = files_append l in omega arith

  rows_append : (l : List Entry) → entry_rows (l ++ k) ≡ entry_rows l ++ entry_rows k
  unfolding entry_rows
  rows_append [] = refl
  rows_append (e ∷ l) = ap (λ (x : List Row). e.rows ++ x) (rows_append l) ∙ sym (append_assoc e.rows (entry_rows l) (entry_rows k))

  nines_append : (l : List Entry) (f r : ℕ) → nines_from f r (l ++ k) ≡ nines_from f r l ++ nines_from (f + entry_files l) (r + length (entry_rows l)) k
  unfolding nines_from entry_files entry_rows
  nines_append [] f r = sym (ap (λ (n : ℕ). nines_from n (r + 0) k) (add-zero f) ∙ ap (λ (n : ℕ). nines_from f n k) (add-zero r))
  nines_append (e ∷ l) f r =
      let d : ℕ = cond e.is_file 1 0 in
      let p : (f + d) + entry_files l ≡ f + (d + entry_files l) = omega arith in
      let q : (r + length e.rows) + length (entry_rows l) ≡ r + length (e.rows ++ entry_rows l) = omega (arith, length-append e.rows (entry_rows l)) in
      ap (λ (x : List ℕ). nine f r e ++ x) (nines_append l (f + d) (r + length e.rows))
      ∙ sym (append_assoc (nine f r e) (nines_from (f + d) (r + length e.rows) l) (nines_from ((f + d) + entry_files l) ((r + length e.rows) + length (entry_rows l)) k))
      ∙ ap (λ (n : ℕ). (nine f r e ++ nines_from (f + d) (r + length e.rows) l) ++ nines_from n ((r + length e.rows) + length (entry_rows l)) k) p
      ∙ ap (λ (n : ℕ). (nine f r e ++ nines_from (f + d) (r + length e.rows) l) ++ nines_from (f + (d + entry_files l)) n k) q

nine_length : (f r : ℕ) (e : Entry) → length (nine f r e) ≡ 9
unfolding nine
nine_length f r e = refl

pub nines_length : (l : List Entry) (f r : ℕ) → length (nines_from f r l) ≡ length l * 9
unfolding nines_from
nines_length [] f r = refl
nines_length (e ∷ l) f r =
    let i = nines_length l (f + cond e.is_file 1 0) (r + length e.rows) in
    let j = nine_length f r e in
    let k = length-append (nine f r e) (nines_from (f + cond e.is_file 1 0) (r + length e.rows) l) in
    omega arith

numbers_append : (l k : List Row) → numbers_of (l ++ k) ≡ numbers_of l ++ numbers_of k
unfolding numbers_of
numbers_append [] k = refl
numbers_append (r ∷ l) k = ap (λ (x : List ℕ). r.letter ∷ r.startblock ∷ r.byteoffset ∷ r.bytecount ∷ r.fileoffset ∷ x) (numbers_append l k)

-- from a, with so many entries, files and rows, to z the entries es have come
pub record Lists (n m j : ℕ) (a : All) (es : List Entry) (z : All) : Type 0 where
  pub count : z.sums.entries ≡ n + length es
  pub files : z.sums.files ≡ m + entry_files es
  pub rows : z.sums.rows ≡ j + length (entry_rows es)
  pub uids : z.uids ≡ sets a.uids n (uids_in es)
  pub entry_table : (n + length es) * 9 ≤ length a.entry_table → z.entry_table ≡ sets a.entry_table (n * 9) (nines_from m j es)
  pub row_table : (j + length (entry_rows es)) * 5 ≤ length a.row_table → z.row_table ≡ sets a.row_table (j * 5) (numbers_of (entry_rows es))

lists_none : (n files rows : ℕ) (a z : All) → z.sums.entries ≡ n → z.sums.files ≡ files → z.sums.rows ≡ rows → z.uids ≡ a.uids
    → z.entry_table ≡ a.entry_table → z.row_table ≡ a.row_table → Lists n files rows a [] z
unfolding uids_in entry_files entry_rows nines_from numbers_of
lists_none n files rows a z en ef er eu et eo =
    record {
      count = en ∙ sym (add-zero n);
      files = ef ∙ sym (add-zero files);
      rows = er ∙ sym (add-zero rows);
      uids = eu;
      entry_table = λ h. et;
      row_table = λ h. eo;
    }

lists_append : (n files rows : ℕ) (a y z : All) (l k : List Entry) → Lists n files rows a l y
    → Lists (n + length l) (files + entry_files l) (rows + length (entry_rows l)) y k z → Lists n files rows a (l ++ k) z
lists_append n files rows a y z l k i j =
    record {
      count = j.count ∙ omega (arith, length-append l k);
      files = j.files ∙ omega (arith, files_append k l);
      rows = j.rows ∙ omega (arith, rows_long);
      uids = j.uids ∙ ap (λ (t : List ℕ). sets t (n + length l) (uids_in k)) i.uids
          ∙ ap (λ (m : ℕ). sets (sets a.uids n (uids_in l)) (n + m) (uids_in k)) (sym (uids_length l))
          ∙ sets_append (uids_in l) (uids_in k) a.uids n ∙ ap (sets a.uids n) (sym (uids_append k l));
      entry_table = λ h.
          let e = i.entry_table (omega (arith, length-append l k)) in
          let s : length y.entry_table ≡ length a.entry_table = ap length e ∙ length-sets a.entry_table (n * 9) (nines_from files rows l) in
          let m : (n + length l) * 9 ≡ n * 9 + length (nines_from files rows l) = omega (arith, nines_length l files rows) in
          j.entry_table (omega (arith, length-append l k))
          ∙ ap (λ (t : List ℕ). sets t ((n + length l) * 9) (nines_from (files + entry_files l) (rows + length (entry_rows l)) k)) e
          ∙ ap (λ (q : ℕ). sets (sets a.entry_table (n * 9) (nines_from files rows l)) q (nines_from (files + entry_files l) (rows + length (entry_rows l)) k)) m
          ∙ sets_append (nines_from files rows l) (nines_from (files + entry_files l) (rows + length (entry_rows l)) k) a.entry_table (n * 9)
          ∙ ap (sets a.entry_table (n * 9)) (sym (nines_append k l files rows));
      row_table = λ h.
          let e = i.row_table (omega (arith, rows_long)) in
          let s : length y.row_table ≡ length a.row_table = ap length e ∙ length-sets a.row_table (rows * 5) (numbers_of (entry_rows l)) in
          let m : (rows + length (entry_rows l)) * 5 ≡ rows * 5 + length (numbers_of (entry_rows l)) = omega (arith, length_numbers (entry_rows l)) in
          j.row_table (omega (arith, rows_long))
          ∙ ap (λ (t : List ℕ). sets t ((rows + length (entry_rows l)) * 5) (numbers_of (entry_rows k))) e
          ∙ ap (λ (q : ℕ). sets (sets a.row_table (rows * 5) (numbers_of (entry_rows l))) q (numbers_of (entry_rows k))) m
          ∙ sets_append (numbers_of (entry_rows l)) (numbers_of (entry_rows k)) a.row_table (rows * 5)
          ∙ ap (sets a.row_table (rows * 5)) (sym (ap numbers_of (rows_append k l) ∙ numbers_append (entry_rows l) (entry_rows k)));
    }
  where
    rows_long : length (entry_rows (l ++ k)) ≡ length (entry_rows l) + length (entry_rows k)
    rows_long = ap length (rows_append k l) ∙ length-append (entry_rows l) (entry_rows k)

-- no entry stands in a file: which sorts elements have there
abbrev in_file : Sort → Bool
in_file File = true
in_file ExtentInfo = true
in_file Extent = true
in_file _ = false

abbrev none_below : Sort → Bool
none_below s = not (is_entry s) && (not (holds_elements s) || in_file s)

each_sort : (l : List Sort) → every none_below l ≡ true → (j : ℕ) → none_below (get_or l j unknown) ≡ true
each_sort [] e j = refl
each_sort (s ∷ l) e Prim.Native.Nat.zero = and_left (none_below s) (every none_below l) e
each_sort (s ∷ l) e (suc j) = each_sort l (and_right (none_below s) (every none_below l) e) j

sorts_in : (kind : Sort) → in_file kind ≡ true → (j : ℕ) → none_below (sort kind j) ≡ true
unfolding sort table times entry_table of_file extentinfo_table extent_table
sorts_in File e j = each_sort (sorts_of (table File)) refl j
sorts_in ExtentInfo e j = each_sort (sorts_of (table ExtentInfo)) refl j
sorts_in Extent e j = each_sort (sorts_of (table Extent)) refl j
sorts_in _ e j = absurd (false≢true e)

module _ (x : List ℕ) where
  alone : (kind : Sort) → in_file kind ≡ true → (p n : ℕ) (f : Tags) → entries_in x kind p n f ≡ []
  unfolding entries_in
  alone kind e p n none = refl
  alone kind e p n (node r k f) = go (is_entry s) (holds_elements s) (sorts_in kind e (name_number kind (tag_head r))) (λ o q m. alone s o q m k) (λ m. alone kind e p m f)
    where
      s : Sort
      s = sort_of kind (tag_head r)

      go : (i h : Bool) → (not i && (not h || in_file s)) ≡ true → (in_file s ≡ true → (q m : ℕ) → entries_in x s q m k ≡ []) → ((m : ℕ) → entries_in x kind p m f ≡ [])
          → cond i (entry_of x s p k ∷ []) []
          ++ (cond h (entries_in x s (cond i n p) (n + length (cond i (entry_of x s p k ∷ []) [])) k) []
          ++ entries_in x kind p (n + length (cond i (entry_of x s p k ∷ []) []) + length (cond h (entries_in x s (cond i n p) (n + length (cond i (entry_of x s p k ∷ []) [])) k) [])) f)
          ≡ []
      go true h q a b = absurd (false≢true q)
      go false false q a b = b (n + 0 + 0)
      go false true q a b = ap (λ (l : List Entry). l ++ entries_in x kind p (n + 0 + length l) f) (a q p (n + 0)) ∙ b (n + 0 + 0)

-- rows of a file that are not too many
rows_few : (s : Sort) (c : Forest) → few s c ≡ true → length (rows_held s c) ≤ 1024
unfolding few rows_held
rows_few s c e = go (is_file s) e
  where
    go : (b : Bool) → (not b || leb (length (extent_rows c)) 1024) ≡ true → length (cond b (extent_rows c) []) ≤ 1024
    go true e = leb-true (length (extent_rows c)) 1024 e
    go false e = omega arith

taken_few : (s : Sort) (c : Forest) → few s c ≡ true → rows_taken s c ≡ rows_held s c
unfolding rows_taken
taken_few s c e = rw e

more_few : (n k : ℕ) → n ≤ 8388608 → k ≤ 1024 → more_rows n k ≡ n + k
unfolding more_rows
more_few n k h g = rw (le-leb n 8388608 h, le-leb k 1024 g)

more_one : (n : ℕ) → n < 4999 → one_more n ≡ n + 1
more_one n h = ap one_more (sym (sat_below n (omega arith))) ∙ more_sat n ∙ sat_below (suc n) (omega arith) ∙ omega arith

put_room : (n : ℕ) (v t : List ℕ) → (n + 1) * 9 ≤ length t → entry_put n v t ≡ sets t (n * 9) v
unfolding entry_put
put_room n v t h = rw (le-leb ((n + 1) * 9) (length t) h)

rows_room : (n : ℕ) (l : List Row) (t : List ℕ) → (n + length l) * 5 ≤ length t → rows_put n l t ≡ sets t (n * 5) (numbers_of l)
unfolding rows_put
rows_room n l t h = rw (le-leb ((n + length l) * 5) (length t) h)

-- an entry, with those in it, where what is in it came before its own numbers
module _ (x : List ℕ) (g : Given) (s : Sort) (p : ℕ) (k : Tags) (a : All) (n files rows : ℕ) (inner : List Entry) (z : All)
    (is : is_entry s ≡ true) (en : a.sums.entries ≡ n) (ef : a.sums.files ≡ files) (er : a.sums.rows ≡ rows)
    (fits : few s (heads k) ≡ true) (deep : is_file s ≡ true → inner ≡ [])
    (i : Lists (n + 1) (files + cond (is_file s) 1 0) rows a inner z) where
  abbrev e : Entry
  e = entry_of x s p k

  abbrev held : List Row
  held = rows_held s (heads k)

  -- a directory has no rows, and a file has no entries in it
  no_rows : is_file s ≡ false → held ≡ []
  unfolding rows_held
  no_rows q = rw q

  rows_swapped : held ++ entry_rows inner ≡ entry_rows inner ++ held
  unfolding entry_rows
  rows_swapped = go (is_file s) refl
    where
      go : (b : Bool) → is_file s ≡ b → held ++ entry_rows inner ≡ entry_rows inner ++ held
      go true q = ap (λ (l : List Entry). held ++ entry_rows l) (deep q) ∙ append-nil held ∙ sym (ap (λ (l : List Entry). entry_rows l ++ held) (deep q))
      go false q = ap (λ (l : List Row). l ++ entry_rows inner) (no_rows q) ∙ sym (ap (λ (l : List Row). entry_rows inner ++ l) (no_rows q) ∙ append-nil (entry_rows inner))

  nines_shifted : (m : ℕ) → nines_from m (rows + length held) inner ≡ nines_from m rows inner
  unfolding nines_from
  nines_shifted m = go (is_file s) refl
    where
      go : (b : Bool) → is_file s ≡ b → nines_from m (rows + length held) inner ≡ nines_from m rows inner
      go true q = ap (λ (l : List Entry). nines_from m (rows + length held) l) (deep q) ∙ sym (ap (λ (l : List Entry). nines_from m rows l) (deep q))
      go false q = ap (λ (j : ℕ). nines_from m j inner) (ap (λ (l : List Row). rows + length l) (no_rows q) ∙ add-zero rows)

  rows_total : length (held ++ entry_rows inner) ≡ length held + length (entry_rows inner)
  rows_total = length-append held (entry_rows inner)

  -- what its end adds
  numbers_told : nine a.sums.files a.sums.rows (entry_with x s p k (rows_taken s (heads k))) ≡ nine files rows e
  numbers_told = rw (ef, er, taken_few s (heads k) fits)

  lists_rows : (rows + length (entry_rows inner)) ≤ 8388608 → more_rows z.sums.rows (length (rows_taken s (heads k))) ≡ rows + length (held ++ entry_rows inner)
  lists_rows h =
      ap (λ (l : List Row). more_rows z.sums.rows (length l)) (taken_few s (heads k) fits) ∙ ap (λ (m : ℕ). more_rows m (length held)) i.rows
      ∙ more_few (rows + length (entry_rows inner)) (length held) h (rows_few s (heads k) fits) ∙ omega (arith, rows_total)

  lists_uids : cond (is_entry s) (set z.uids a.sums.entries (uid_of (heads k))) z.uids ≡ sets a.uids n (uid_of (heads k) ∷ uids_in inner)
  lists_uids =
      ap (λ (b : Bool). cond b (set z.uids a.sums.entries (uid_of (heads k))) z.uids) is
      ∙ ap (λ (m : ℕ). set z.uids m (uid_of (heads k))) en ∙ ap (λ (t : List ℕ). set t n (uid_of (heads k))) i.uids
      ∙ set_later (uids_in inner) a.uids n (n + 1) (uid_of (heads k)) (omega arith)
      ∙ ap (λ (m : ℕ). sets (set a.uids n (uid_of (heads k))) m (uids_in inner)) next
    where
      next : n + 1 ≡ suc n
      next = omega arith

  lists_table : (n + suc (length inner)) * 9 ≤ length a.entry_table
      → cond (is_entry s) (entry_put a.sums.entries (nine a.sums.files a.sums.rows (entry_with x s p k (rows_taken s (heads k)))) z.entry_table) z.entry_table
      ≡ sets a.entry_table (n * 9) (nine files rows e ++ nines_from (files + cond (is_file s) 1 0) (rows + length held) inner)
  lists_table h =
      let d : ℕ = files + cond (is_file s) 1 0 in
      let w = i.entry_table (omega arith) in
      let m : length z.entry_table ≡ length a.entry_table = ap length w ∙ length-sets a.entry_table ((n + 1) * 9) (nines_from d rows inner) in
      let q : (n + 1) * 9 ≡ n * 9 + length (nine files rows e) = omega (arith, nine_length files rows e) in
      ap (λ (b : Bool). cond b (entry_put a.sums.entries (nine a.sums.files a.sums.rows (entry_with x s p k (rows_taken s (heads k)))) z.entry_table) z.entry_table) is
      ∙ ap (λ (j : ℕ). entry_put j (nine a.sums.files a.sums.rows (entry_with x s p k (rows_taken s (heads k)))) z.entry_table) en
      ∙ ap (λ (v : List ℕ). entry_put n v z.entry_table) numbers_told
      ∙ put_room n (nine files rows e) z.entry_table (omega arith)
      ∙ ap (λ (t : List ℕ). sets t (n * 9) (nine files rows e)) w
      ∙ sets_later (nine files rows e) (nines_from d rows inner) a.entry_table (n * 9) ((n + 1) * 9) (omega (arith, nine_length files rows e))
      ∙ ap (λ (j : ℕ). sets (sets a.entry_table (n * 9) (nine files rows e)) j (nines_from d rows inner)) q
      ∙ sets_append (nine files rows e) (nines_from d rows inner) a.entry_table (n * 9)
      ∙ ap (λ (l : List ℕ). sets a.entry_table (n * 9) (nine files rows e ++ l)) (sym (nines_shifted d))

  lists_kept : (rows + length (held ++ entry_rows inner)) * 5 ≤ length a.row_table
      → rows_put z.sums.rows (rows_taken s (heads k)) z.row_table ≡ sets a.row_table (rows * 5) (numbers_of (held ++ entry_rows inner))
  lists_kept h =
      let w = i.row_table (omega (arith, rows_total)) in
      let m : length z.row_table ≡ length a.row_table = ap length w ∙ length-sets a.row_table (rows * 5) (numbers_of (entry_rows inner)) in
      let q : (rows + length (entry_rows inner)) * 5 ≡ rows * 5 + length (numbers_of (entry_rows inner)) = omega (arith, length_numbers (entry_rows inner)) in
      ap (λ (l : List Row). rows_put z.sums.rows l z.row_table) (taken_few s (heads k) fits)
      ∙ ap (λ (j : ℕ). rows_put j held z.row_table) i.rows
      ∙ rows_room (rows + length (entry_rows inner)) held z.row_table (omega (arith, rows_total))
      ∙ ap (λ (t : List ℕ). sets t ((rows + length (entry_rows inner)) * 5) (numbers_of held)) w
      ∙ ap (λ (j : ℕ). sets (sets a.row_table (rows * 5) (numbers_of (entry_rows inner))) j (numbers_of held)) q
      ∙ sets_append (numbers_of (entry_rows inner)) (numbers_of held) a.row_table (rows * 5)
      ∙ ap (sets a.row_table (rows * 5)) (sym (ap numbers_of rows_swapped ∙ numbers_append (entry_rows inner) held))

  pub lists_entry : rows + length (entry_rows inner) ≤ 8388608 → Lists n files rows a (e ∷ inner) (after_element x g s k p a.sums z)
  unfolding after_element settled uids_in entry_files entry_rows nines_from entry_with
  lists_entry h =
      record {
        count = i.count ∙ omega arith;
        files = i.files ∙ omega arith;
        rows = lists_rows h;
        uids = lists_uids;
        entry_table = lists_table;
        row_table = lists_kept;
      }

file_in : (s : Sort) → is_file s ≡ true → in_file s ≡ true
file_in File q = refl
file_in _ q = absurd (false≢true q)

file_entry : (s : Sort) → is_file s ≡ true → is_entry s ≡ true
file_entry File q = refl
file_entry _ q = absurd (false≢true q)

-- the start tag of an element: what is counted then
begins : (s : Sort) (n files : ℕ) (e : Entry) → files ≤ n → n + length (cond (is_entry s) (e ∷ []) []) < 5000
    → (cond (is_entry s) (one_more n) n ≡ n + length (cond (is_entry s) (e ∷ []) []))
    × (cond (is_file s) (one_more files) files ≡ files + cond (is_file s) 1 0)
    × (files + cond (is_file s) 1 0 ≤ n + length (cond (is_entry s) (e ∷ []) []))
begins s n files e h small = go (is_entry s) (is_file s) (file_entry s) small
  where
    go : (i f : Bool) → (f ≡ true → i ≡ true) → n + length (cond i (e ∷ []) []) < 5000
        → (cond i (one_more n) n ≡ n + length (cond i (e ∷ []) [])) × (cond f (one_more files) files ≡ files + cond f 1 0)
        × (files + cond f 1 0 ≤ n + length (cond i (e ∷ []) []))
    go true true w d = (more_one n (omega arith), more_one files (omega arith), omega arith)
    go true false w d = (more_one n (omega arith), sym (add-zero files), omega arith)
    go false true w d = absurd (false≢true (w refl))
    go false false w d = (sym (add-zero n), sym (add-zero files), omega arith)

files_fewer : (l : List Entry) → entry_files l ≤ length l
unfolding entry_files
files_fewer [] = omega arith
files_fewer (e ∷ l) = at e.is_file (files_fewer l)
  where
    at : (o : Bool) → entry_files l ≤ length l → cond o 1 0 + entry_files l ≤ suc (length l)
    at true i = omega arith
    at false i = omega arith

module _ (x : List ℕ) (g : Given) where
  -- an element, and those in it
  abbrev inner : Sort → ℕ → ℕ → Tags → List Entry
  inner s p n k = cond (holds_elements s) (entries_in x s (holder s p n) (n + length (entry_itself x s p k)) k) []

  abbrev own : Sort → ℕ → ℕ → Tags → List Entry
  own s p n k = entry_itself x s p k ++ inner s p n k

  entries_node : (kind : Sort) (p n : ℕ) (t : List ℕ) (k f : Tags)
      → entries_in x kind p n (node t k f) ≡ own (sort_of kind (tag_head t)) p n k ++ entries_in x kind p (n + length (own (sort_of kind (tag_head t)) p n k)) f
  unfolding entries_in
  entries_node kind p n t k f =
      let s : Sort = sort_of kind (tag_head t) in
      let e : n + length (entry_itself x s p k) + length (inner s p n k) ≡ n + length (own s p n k) = omega (arith, length-append (entry_itself x s p k) (inner s p n k)) in
      ap (λ (m : ℕ). entry_itself x s p k ++ (inner s p n k ++ entries_in x kind p m f)) e
      ∙ sym (append_assoc (entry_itself x s p k) (inner s p n k) (entries_in x kind p (n + length (own s p n k)) f))

  file_empty : (s : Sort) (p n : ℕ) (k : Tags) → is_file s ≡ true → inner s p n k ≡ []
  file_empty s p n k q = go (holds_elements s)
    where
      go : (o : Bool) → cond o (entries_in x s (holder s p n) (n + length (entry_itself x s p k)) k) [] ≡ []
      go true = alone x s (file_in s q) (holder s p n) (n + length (entry_itself x s p k)) k
      go false = refl

  -- by what is listed of those in it
  module _ (s : Sort) (p : ℕ) (h : Head) (k : Tags) (a z : All) (n files rows : ℕ) (en : a.sums.entries ≡ n) (ef : a.sums.files ≡ files) (er : a.sums.rows ≡ rows)
      (fits : few s (heads k) ≡ true)
      (i : Lists (n + length (entry_itself x s p k)) (files + cond (is_file s) 1 0) rows (with_sums (begun g s h (heads k) a.sums) a) (inner s p n k) z)
      (low : rows + length (entry_rows (inner s p n k)) ≤ 8388608) where
    rebased : (m j : ℕ) → n + length (entry_itself x s p k) ≡ m → files + cond (is_file s) 1 0 ≡ j → Lists m j rows a (inner s p n k) z
    rebased m j q w =
        subst (λ (m : ℕ). Lists m j rows a (inner s p n k) z) q
        (subst (λ (j : ℕ). Lists (n + length (entry_itself x s p k)) j rows a (inner s p n k) z) w
        (record { count = i.count; files = i.files; rows = i.rows; uids = i.uids; entry_table = i.entry_table; row_table = i.row_table }))

    own_lists : Lists n files rows a (own s p n k) (after_element x g s k p a.sums z)
    own_lists = go (is_entry s) refl
      where
        go : (o : Bool) → is_entry s ≡ o → Lists n files rows a (own s p n k) (after_element x g s k p a.sums z)
        go true q =
            subst (λ (l : List Entry). Lists n files rows a (l ++ inner s p n k) (after_element x g s k p a.sums z)) (sym (ap (λ (b : Bool). cond b (entry_of x s p k ∷ []) []) q))
            (lists_entry x g s p k a n files rows (inner s p n k) z q en ef er fits (file_empty s p n k)
            (rebased (n + 1) (files + cond (is_file s) 1 0) (ap (λ (b : Bool). n + length (cond b (entry_of x s p k ∷ []) [])) q) refl) low)
        go false q =
            let f : is_file s ≡ false = no_file q in
            subst (λ (l : List Entry). Lists n files rows a (l ++ inner s p n k) (after_element x g s k p a.sums z)) (sym (ap (λ (b : Bool). cond b (entry_of x s p k ∷ []) []) q))
            (subst (Lists n files rows a (inner s p n k)) (sym (closed_other x g s k p q a.sums z))
            (rebased n files (ap (λ (b : Bool). n + length (cond b (entry_of x s p k ∷ []) [])) q ∙ add-zero n) (ap (λ (b : Bool). files + cond b 1 0) f ∙ add-zero files)))
          where
            no_file : is_entry s ≡ false → is_file s ≡ false
            no_file e = at (is_file s) refl
              where
                at : (b : Bool) → is_file s ≡ b → is_file s ≡ false
                at true w = absurd (false≢true (sym e ∙ file_entry s w))
                at false w = w

  abbrev fit : IndexElement → Bool
  fit e = few e.sort e.kids

  -- the entries of a row are listed behind a
  abbrev Law : Sort → ℕ → Tags → List ℕ → All → Type 0
  Law kind p f m a =
      (n files rows : ℕ) → a.sums.entries ≡ n → a.sums.files ≡ files → a.sums.rows ≡ rows → files ≤ n → n + length (entries_in x kind p n f) < 5000
      → rows + length (entry_rows (entries_in x kind p n f)) ≤ 8388608 → every fit (elements kind (heads f)) ≡ true
      → Lists n files rows a (entries_in x kind p n f) (sweep x g kind p m f a)

  -- by those in its first element and those of the rest of the row
  module _ (kind : Sort) (p : ℕ) (t : List ℕ) (k f : Tags) (m : List ℕ) (a : All) where
    abbrev h : Head
    h = tag_head t

    abbrev s : Sort
    s = sort_of kind (tag_head t)

    abbrev q : ℕ
    q = holder (sort_of kind (tag_head t)) p a.sums.entries

    abbrev b : All
    b = with_sums (begun g (sort_of kind (tag_head t)) (tag_head t) (heads k) a.sums) a

    abbrev z : All
    z = cond (holds_elements s) (sweep x g s q none_seen k b) b

    abbrev y : All
    y = after_element x g s k p a.sums z

    node_law : Law s q k none_seen b → Law kind p f (marked (name_number kind h) m) y → Law kind p (node t k f) m a
    unfolding sweep begun told
    node_law inwards onwards n files rows en ef er le small low fits =
        subst (λ (l : List Entry). Lists n files rows a l (sweep x g kind p (marked (name_number kind h) m) f y)) (sym (entries_node kind p n t k f))
        (lists_append n files rows a y (sweep x g kind p (marked (name_number kind h) m) f y) l r first
        (onwards (n + length l) (files + entry_files l) (rows + length (entry_rows l)) first.count first.files first.rows
        (omega (arith, files_fewer l)) (omega (arith, long)) (omega (arith, rows_long)) (behind fit kind h (heads k) (heads f) fits)))
      where
        l : List Entry
        l = own s p n k

        r : List Entry
        r = entries_in x kind p (n + length l) f

        one : List Entry
        one = entry_itself x s p k

        long : length (entries_in x kind p n (node t k f)) ≡ length l + length r
        long = ap length (entries_node kind p n t k f) ∙ length-append l r

        own_long : length l ≡ length one + length (inner s p n k)
        own_long = length-append one (inner s p n k)

        rows_long : length (entry_rows (entries_in x kind p n (node t k f))) ≡ length (entry_rows l) + length (entry_rows r)
        rows_long = ap (λ (l : List Entry). length (entry_rows l)) (entries_node kind p n t k f) ∙ ap length (rows_append r l) ∙ length-append (entry_rows l) (entry_rows r)

        own_rows : length (entry_rows l) ≡ length (entry_rows one) + length (entry_rows (inner s p n k))
        own_rows = ap length (rows_append (inner s p n k) one) ∙ length-append (entry_rows one) (entry_rows (inner s p n k))

        counted : (cond (is_entry s) (one_more n) n ≡ n + length one) × (cond (is_file s) (one_more files) files ≡ files + cond (is_file s) 1 0)
            × (files + cond (is_file s) 1 0 ≤ n + length one)
        counted = begins s n files (entry_of x s p k) le (omega (arith, long, own_long))

        entries_now : b.sums.entries ≡ n + length one
        entries_now = ap (λ (m : ℕ). cond (is_entry s) (one_more m) m) en ∙ counted.0

        files_now : b.sums.files ≡ files + cond (is_file s) 1 0
        files_now = ap (λ (m : ℕ). cond (is_file s) (one_more m) m) ef ∙ counted.1

        inside_law : (o : Bool) → holds_elements s ≡ o
            → Lists (n + length one) (files + cond (is_file s) 1 0) rows b (cond o (entries_in x s (holder s p n) (n + length one) k) []) (cond o (sweep x g s q none_seen k b) b)
        inside_law true o =
            let e : entries_in x s (holder s p n) (n + length one) k ≡ inner s p n k = sym (ap (λ (o : Bool). cond o (entries_in x s (holder s p n) (n + length one) k) []) o) in
            let w : entries_in x s q (n + length one) k ≡ entries_in x s (holder s p n) (n + length one) k = ap (λ (m : ℕ). entries_in x s (holder s p m) (n + length one) k) en in
            subst (λ (u : List Entry). Lists (n + length one) (files + cond (is_file s) 1 0) rows b u (sweep x g s q none_seen k b)) w
            (inwards (n + length one) (files + cond (is_file s) 1 0) rows entries_now files_now er counted.2
            (omega (arith, long, own_long, ap length (w ∙ e))) (omega (arith, rows_long, own_rows, ap (λ (u : List Entry). length (entry_rows u)) (w ∙ e)))
            (inside fit kind h (heads k) (heads f) fits o))
        inside_law false o = lists_none (n + length one) (files + cond (is_file s) 1 0) rows b b entries_now files_now er refl refl refl

        first : Lists n files rows a l y
        first =
            own_lists s p h k a z n files rows en ef er (here fit kind h (heads k) (heads f) fits) (inside_law (holds_elements s) refl)
            (omega (arith, rows_long, own_rows))

  pub lists_law : (kind : Sort) (p : ℕ) (f : Tags) (m : List ℕ) (a : All) → Law kind p f m a
  unfolding sweep entries_in after_row ended_sums
  lists_law kind p none m a n files rows en ef er le small low fits = lists_none n files rows a (after_row kind m a) en ef er refl refl refl
  lists_law kind p (node t k f) m a n files rows en ef er le small low fits =
      node_law kind p t k f m a (lists_law (sort_of kind (tag_head t)) (holder (sort_of kind (tag_head t)) p a.sums.entries) k none_seen (b kind p t k f m a))
      (lists_law kind p f (marked (name_number kind (tag_head t)) m) (y kind p t k f m a)) n files rows en ef er le small low fits
