-- All of an index, by its tables: what its header counts is what its entries and rows are.
use Rattle.std.specs.Prelude.{Err, Ok, Result}
use mathlib.Core.Path.{◌≡◌, refl, ap, sym, ◌∙◌, subst}
use mathlib.Core.Bool.{Bool, true, false, cond, ◌&&◌}
use mathlib.Core.List.{List}
use Prim.Native.Nat.{ℕ, ◌+◌, ◌*◌, ◌-◌, ◌/◌, ◌≤◌, ◌<◌}
use native.Mathlib.Nat.{zero-add}
use native.Mathlib.Omega.{arith}
use borrow.Author.Tests.{le-leb, lt-leb, leb-true, leb-false}
use lib.Dec.{leb}
use lib.ListN.{length, take, drop}
use lib.Seq.{sets, sets-eq, length-sets, take-append_seam}
use Rattle.refusals.specs.Refusals.{Answer, require}
use Rattle.refusals.specs.declared.Refusal.{Refusal}
use Rattle.refusals.specs.declared.Refusal.TheVariants.{Short}
use Rattle.slices.specs.Slices.{written}
use Rattle.slices.proofs.Booleans.{and_left, and_right}
use Rattle.tables.specs.Copying.{copied}
use Rattle.xml.specs.Tree.{Forest, none, node}
use Rattle.elements.specs.Tags.{Tags, told, heads, tags_at}
use Rattle.elements.proofs.ByTag.{row_told}
use Rattle.elements.proofs.Roots.{root_row}
use Rattle.children.specs.Children.{children_of_first}
use Rattle.extents.specs.declared.Row.{Row}
use Rattle.extents.specs.Rows.{numbers_of}
use Rattle.extents.proofs.Rows.{length_numbers}
use Rattle.index_names.specs.declared.Sort.TheVariants.{Index as index}
use Rattle.index_values.specs.Elements.{IndexElement, elements}
use Rattle.index_values.specs.Entries.{entries_of}
use Rattle.index_values.specs.Tests.{Given}
use Rattle.index.specs.Index.{Index, Summary, summary, summary_of, files_of, file_count, all_rows, index_of}
use Rattle.index.specs.Entries.{index_entries, entry_rows, nines}
use Rattle.index.specs.Steps.{Listed, IsListed, ReadsIndex, means, summary_in}
use Rattle.index.specs.declared.read.Header.{Header}
use Rattle.index.proofs.Listing.{uids_length, nines_length}
use Rattle.index.proofs.Agreeing.{uids_agree, rows_agree}
use Rattle.index.proofs.Surveying.{uids_many, files_few}
use Rattle.index.proofs.Answers.{files_length}
use Rattle.index_files.specs.Whole.{has_room, whole_for, Held, HoldsWhole}
use Rattle.index_files.specs.WholeSteps.{enough, ReadsWhole}
use Rattle.index_files.proofs.Accepted.{accepted}
use Rattle.index_files.proofs.Mapped.{mapped_refused}

-- numbers in the front of a table with room for them
pub front_is : (w t : List ℕ) → length w ≤ length t → take (length w) (sets t 0 w) ≡ w
front_is w t h = ap (take (length w)) (sets-eq w t 0 (omega (arith, zero-add (length w)))) ∙ take-append_seam w (drop (0 + length w) t)

pub sets_written : (w t : List ℕ) → length w ≤ length t → sets t 0 w ≡ written 0 w t
unfolding written
sets_written w t h = sets-eq w t 0 (omega (arith, zero-add (length w)))

-- a copy of them
pub copy_written : (w t b : List ℕ) (n : ℕ) → n ≡ length w → length w ≤ length t → length w ≤ length b → copied (sets t 0 w) n b 0 ≡ written 0 w b
unfolding copied
copy_written w t b n e h g =
    let m : leb (length w) (length (sets t 0 w)) ≡ true = le-leb (length w) (length (sets t 0 w)) (omega (arith, length-sets t 0 w)) in
    let k : leb (0 + length w) (length b) ≡ true = le-leb (0 + length w) (length b) (omega (arith, zero-add (length w))) in
    ap (λ (j : ℕ). cond (leb j (length (sets t 0 w)) && leb (0 + j) (length b)) (sets b 0 (take j (sets t 0 w))) b) e
    ∙ rw (m, k, front_is w t h) (sets_written w b g)

first_heads : (t : Tags) → heads (children_of_first t) ≡ children_of_first (heads t)
unfolding children_of_first told
first_heads none = refl
first_heads (node r k f) = refl

module _ (g : Given) (letter block : ℕ) (s : List ℕ) (x : Index) (w : index_of g letter block s ≡ Ok x) where
  abbrev t : Tags
  t = children_of_first (tags_at s 38)

  kids_are : heads t ≡ (accepted g letter block s x w).kids
  unfolding children_of_first
  kids_are = first_heads (tags_at s 38) ∙ ap children_of_first (sym (row_told s 38) ∙ root_row (accepted g letter block s x w).reads)

  files_of_lem : x.files ≡ files_of (elements index (heads t))
  files_of_lem = ap (λ (y : Index). y.files) (accepted g letter block s x w).says ∙ ap (λ (k : Forest). files_of (elements index k)) (sym kids_are)

  -- the rows of its files are those of its entries
  pub rows_of : entry_rows (index_entries s) ≡ all_rows x.files
  rows_of = rows_agree s index 0 0 t ∙ ap all_rows (sym files_of_lem)

  -- and there are as many entries as directories and files
  pub entries_of_lem : length (index_entries s) ≡ x.heading.directories + length x.files
  entries_of_lem =
      let a = accepted g letter block s x w in
      let l : List IndexElement = elements index a.kids in
      let n : length (index_entries s) ≡ entries_of l =
      sym (uids_length (index_entries s)) ∙ ap length (uids_agree s index 0 0 t) ∙ uids_many (elements index (heads t)) ∙ ap (λ (k : Forest). entries_of (elements index k)) kids_are in
      let d : x.heading.directories ≡ entries_of l - file_count l = ap (λ (y : Index). y.heading.directories) a.says in
      let f : length x.files ≡ file_count l = ap (λ (y : Index). length y.files) a.says ∙ files_length l in
      omega (arith, n, d, f, files_few l)

  -- a header that says so has room where they have
  module _ (h : Header) (said : summary_in s h ≡ summary x) (entries rows : ℕ) where
    pub counted : h.directories + h.files ≡ length (index_entries s)
    counted = ap (λ (y : Summary). y.heading.directories + y.files) said ∙ sym entries_of_lem

    pub rows_counted : h.rows ≡ length (all_rows x.files)
    rows_counted = ap (λ (y : Summary). y.rows) said

    pub room_as : enough h entries rows ≡ has_room s entries rows x
    room_as = rw (counted, rows_counted)

-- the same index
pub whole_as : {s e e' o o' : List ℕ} {a b : Answer Index} {r : (Result Header Refusal)} → a ≡ b → ReadsWhole s a e e' o o' r → ReadsWhole s b e e' o o' r
whole_as {s} {e} {e'} {o} {o'} {r = r} q w = subst (λ (a : Answer Index). ReadsWhole s a e e' o o' r) q w

module _ (s : List ℕ) (e e' o o' : List ℕ) where
  pub whole_refused : {a : Answer Index} (r : Refusal) → Err r ≡ summary_of a → ReadsWhole s a e e o o (Err r)
  whole_refused {a} r q =
      subst (λ (a : Answer Index). ReadsWhole s a e e o o (Err r)) (mapped_refused summary a r q) (record { reads = record { answers = refl; header = tt }; holds = (refl, refl) })

  module _ (x : Index) where
    pub whole_short : has_room s (length e) (length o) x ≡ false → ReadsWhole s (Ok x) e e o o (Err Short)
    whole_short q =
        let z : whole_for s (length e) (length o) (Ok x) ≡ Err Short = ap (λ (b : Bool). require b Short (Ok x)) q in
        record {
          reads = subst (λ (a : Answer Index). ReadsIndex s a (Err Short)) (sym z) (record { answers = refl; header = tt });
          holds = subst (HoldsWhole s e e o o) (sym z) (refl, refl);
        }

    pub whole_held : {r : (Result Header Refusal)} → has_room s (length e) (length o) x ≡ true → ReadsIndex s (Ok x) r → Held s x e e' o o' → ReadsWhole s (Ok x) e e' o o' r
    whole_held {r} q w h =
        let z : whole_for s (length e) (length o) (Ok x) ≡ Ok x = ap (λ (b : Bool). require b Short (Ok x)) q in
        record { reads = subst (λ (a : Answer Index). ReadsIndex s a r) (sym z) w; holds = subst (HoldsWhole s e e' o o') (sym z) h }

-- tables with room for all, and buffers
module _ (s : List ℕ) (x : Index) (same : entry_rows (index_entries s) ≡ all_rows x.files) where
  room_parts : (m n : ℕ) → has_room s m n x ≡ true → (length (nines (index_entries s)) ≤ m) × (length (numbers_of (all_rows x.files)) ≤ n)
  room_parts m n q =
      let a = leb-true (length (index_entries s) * 9) m (and_left _ (leb (length (all_rows x.files) * 5) n) q) in
      let b = leb-true (length (all_rows x.files) * 5) n (and_right (leb (length (index_entries s) * 9) m) _ q) in
      (omega (arith, nines_length (index_entries s) 0 0), omega (arith, length_numbers (all_rows x.files)))

  module _ {e e' o o' : List ℕ} (l : Listed (index_entries s) e e' o o') (room : has_room s (length e) (length o) x ≡ true) where
    entries_put : e' ≡ sets e 0 (nines (index_entries s))
    entries_put = l.entries (omega (arith, (room_parts (length e) (length o) room).0, nines_length (index_entries s) 0 0))

    rows_put : o' ≡ sets o 0 (numbers_of (all_rows x.files))
    rows_put =
        l.rows (omega (arith, (room_parts (length e) (length o) room).1, length_numbers (all_rows x.files), ap length same)) ∙ ap (λ (r : List Row). sets o 0 (numbers_of r)) same

    -- read into the buffers themselves
    pub held_there : Held s x e e' o o'
    held_there =
        record {
          entries = entries_put ∙ sets_written (nines (index_entries s)) e (room_parts (length e) (length o) room).0;
          rows = rows_put ∙ sets_written (numbers_of (all_rows x.files)) o (room_parts (length e) (length o) room).1;
        }

    -- or copied from tables
    pub held_copied : (b b' c c' : List ℕ) (m n : ℕ) → has_room s (length b) (length c) x ≡ true → m ≡ length (index_entries s) → n ≡ length (all_rows x.files)
        → b' ≡ copied e' (m * 9) b 0 → c' ≡ copied o' (n * 5) c 0 → Held s x b b' c c'
    held_copied b b' c c' m n q em en eb ec =
        record {
          entries =
              eb ∙ ap (λ (t : List ℕ). copied t (m * 9) b 0) entries_put
              ∙ copy_written (nines (index_entries s)) e b (m * 9) (ap (λ (k : ℕ). k * 9) em ∙ sym (nines_length (index_entries s) 0 0)) (room_parts (length e) (length o) room).0 (room_parts (length b) (length c) q).0;
          rows =
              ec ∙ ap (λ (t : List ℕ). copied t (n * 5) c 0) rows_put
              ∙ copy_written (numbers_of (all_rows x.files)) o c (n * 5) (ap (λ (k : ℕ). k * 5) en ∙ sym (length_numbers (all_rows x.files))) (room_parts (length e) (length o) room).1 (room_parts (length b) (length c) q).1;
        }

  -- where an index is read again, it is found again
  pub found_again : {e e' o o' : List ℕ} (r : Result Header Refusal) → means s r ≡ summary_of (Ok x) → IsListed (index_entries s) e e' o o' r → Listed (index_entries s) e e' o o'
  found_again (Ok h) q l = l
  found_again (Err r) q l = let z : ◌≡◌ {A = ℕ} 0 1 = cc in absurd (omega arith)

-- how many there is room for
module _ (h : Header) (entries rows : ℕ) where
  pub entries_over : entries / 9 < h.directories + h.files → false ≡ enough h entries rows
  entries_over q = sym (rw (lt-leb ((h.directories + h.files) * 9) entries (omega arith)))

  pub rows_only : h.directories + h.files ≤ entries / 9 → leb h.rows (rows / 5) ≡ enough h entries rows
  rows_only q =
      sym (rw (le-leb ((h.directories + h.files) * 9) entries (omega arith)) (go (leb (h.rows * 5) rows) refl))
    where
      go : (b : Bool) → leb (h.rows * 5) rows ≡ b → leb (h.rows * 5) rows ≡ leb h.rows (rows / 5)
      go true e = e ∙ sym (le-leb h.rows (rows / 5) (omega (arith, leb-true (h.rows * 5) rows e)))
      go false e = e ∙ sym (lt-leb h.rows (rows / 5) (omega (arith, leb-false (h.rows * 5) rows e)))

  pub enough_parts : enough h entries rows ≡ true → ((h.directories + h.files) * 9 ≤ entries) × (h.rows * 5 ≤ rows)
  enough_parts q = (
    leb-true ((h.directories + h.files) * 9) entries (and_left _ (leb (h.rows * 5) rows) q),
    leb-true (h.rows * 5) rows (and_right (leb ((h.directories + h.files) * 9) entries) _ q),
  )
