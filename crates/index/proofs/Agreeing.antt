-- The entries of an index and its elements: they have the same fileuids, and the files among them the same rows.
use mathlib.Core.Path.{◌≡◌, refl, ap, sym, ◌∙◌}
use mathlib.Core.Bool.{Bool, true, false, cond, not, ◌||◌}
use mathlib.Core.List.{List, [], ◌∷◌, ◌++◌, append-nil, append_assoc}
use Prim.Native.Nat.{ℕ, suc, ◌+◌, ◌*◌, ◌≤◌}
use native.Mathlib.Omega.{arith}
use borrow.Author.Tests.{leb-true}
use lib.Dec.{leb}
use lib.ListN.{length, length-append}
use Rattle.slices.specs.Slices.{every}
use Rattle.slices.proofs.Booleans.{and_left, and_right}
use Rattle.xml.specs.Tree.{Head, Forest, none, node, tag_head}
use Rattle.elements.specs.Tags.{Tags, told, heads}
use Rattle.extents.specs.declared.Row.{Row}
use Rattle.index_names.specs.declared.Sort.{Sort}
use Rattle.index_names.specs.declared.Sort.TheVariants.{File}
use Rattle.index_names.specs.Sorts.{holds_elements, is_file}
use Rattle.index_values.specs.Elements.{IndexElement, element, elements, sort_of}
use Rattle.index_values.specs.Entries.{is_entry, uid_of, uids_of, many}
use Rattle.index_values.specs.Tests.{few, extent_rows, rows_held}
use Rattle.index.specs.Index.{file_of, files_of, file_count, all_rows}
use Rattle.index.specs.Entries.{Entry, holder, entry_with, entry_of, entry_itself, entries_in, entry_rows, entry_files}
use Rattle.index.proofs.Listing.{uids_in}

module _ {A B : Type 0} (view : A → List B) where
  -- what each of a list has, one after the other
  unfoldable pub each : List A → List B
  each [] = []
  each (a ∷ l) = view a ++ each l

  each_append : (l k : List A) → each (l ++ k) ≡ each l ++ each k
  unfolding each
  each_append [] k = refl
  each_append (a ∷ l) k = ap (λ (x : List B). view a ++ x) (each_append l k) ∙ sym (append_assoc (view a) (each l) (each k))

-- what an entry has is what its element has
module _ (x : List ℕ) {B : Type 0} (view : Entry → List B) (item : IndexElement → List B)
    (same : (s : Sort) (p : ℕ) (h : Head) (k : Tags) → each view (entry_itself x s p k) ≡ item (element s h (heads k))) where
  pub each_law : (kind : Sort) (p n : ℕ) (f : Tags) → each view (entries_in x kind p n f) ≡ each item (elements kind (heads f))
  unfolding entries_in elements told each
  each_law kind p n none = refl
  each_law kind p n (node t k f) = go (λ m. each_law s (holder s p n) m k) (λ m. each_law kind p m f) (holds_elements s)
    where
      h : Head
      h = tag_head t

      s : Sort
      s = sort_of kind h

      one : List Entry
      one = entry_itself x s p k

      go : ((m : ℕ) → each view (entries_in x s (holder s p n) m k) ≡ each item (elements s (heads k)))
          → ((m : ℕ) → each view (entries_in x kind p m f) ≡ each item (elements kind (heads f))) → (o : Bool)
          → each view (one ++ (cond o (entries_in x s (holder s p n) (n + length one) k) [] ++ entries_in x kind p (n + length one + length (cond o (entries_in x s (holder s p n) (n + length one) k) [])) f))
          ≡ item (element s h (heads k)) ++ each item (cond o (elements s (heads k)) [] ++ elements kind (heads f))
      go i j true =
          let w : List Entry = entries_in x s (holder s p n) (n + length one) k in
          let r : List Entry = entries_in x kind p (n + length one + length w) f in
          each_append view one (w ++ r)
          ∙ ap (λ (y : List B). y ++ each view (w ++ r)) (same s p h k)
          ∙ ap (λ (y : List B). item (element s h (heads k)) ++ y)
          (each_append view w r ∙ ap (λ (y : List B). y ++ each view r) (i (n + length one)) ∙ ap (λ (y : List B). each item (elements s (heads k)) ++ y) (j (n + length one + length w))
          ∙ sym (each_append item (elements s (heads k)) (elements kind (heads f))))
      go i j false =
          let r : List Entry = entries_in x kind p (n + length one + 0) f in
          each_append view one r
          ∙ ap (λ (y : List B). y ++ each view r) (same s p h k)
          ∙ ap (λ (y : List B). item (element s h (heads k)) ++ y) (j (n + length one + 0))

-- a file is an entry
no_file : (s : Sort) → is_entry s ≡ false → is_file s ≡ false
no_file File e = e
no_file _ e = refl

held_none : (s : Sort) (c : Forest) → is_file s ≡ false → rows_held s c ≡ []
unfolding rows_held
held_none s c e = rw e

-- fileuids
uid_of_lem : Entry → List ℕ
uid_of_lem e = e.fileuid ∷ []

uid_in : IndexElement → List ℕ
uid_in e = cond (is_entry e.sort) (uid_of e.kids ∷ []) []

uids_of_lem : (es : List Entry) → each uid_of_lem es ≡ uids_in es
unfolding each uids_in uid_of_lem
uids_of_lem [] = refl
uids_of_lem (e ∷ es) = ap (λ (y : List ℕ). e.fileuid ∷ y) (uids_of_lem es)

uids_in_lem : (l : List IndexElement) → each uid_in l ≡ uids_of l
unfolding each uids_of uid_in
uids_in_lem [] = refl
uids_in_lem (e ∷ l) = go (is_entry e.sort) (uids_in_lem l)
  where
    go : (b : Bool) → each uid_in l ≡ uids_of l → cond b (uid_of e.kids ∷ []) [] ++ each uid_in l ≡ cond b (uid_of e.kids ∷ uids_of l) (uids_of l)
    go true i = ap (λ (y : List ℕ). uid_of e.kids ∷ y) i
    go false i = i

-- rows
rows_of : Entry → List Row
rows_of e = e.rows

rows_in : IndexElement → List Row
rows_in e = rows_held e.sort e.kids

entry_rows_lem : (es : List Entry) → each rows_of es ≡ entry_rows es
unfolding each entry_rows rows_of
entry_rows_lem [] = refl
entry_rows_lem (e ∷ es) = ap (λ (y : List Row). e.rows ++ y) (entry_rows_lem es)

file_rows : (l : List IndexElement) → each rows_in l ≡ all_rows (files_of l)
unfolding each rows_in rows_held files_of all_rows
file_rows [] = refl
file_rows (e ∷ l) = go (is_file e.sort) (file_rows l)
  where
    go : (b : Bool) → each rows_in l ≡ all_rows (files_of l)
        → cond b (extent_rows e.kids) [] ++ each rows_in l ≡ all_rows (cond b (file_of e.kids ∷ files_of l) (files_of l))
    go true i = ap (λ (y : List Row). extent_rows e.kids ++ y) i
    go false i = i

-- files
mark_of : Entry → List ℕ
mark_of e = cond e.is_file (0 ∷ []) []

mark_in : IndexElement → List ℕ
mark_in e = cond (is_file e.sort) (0 ∷ []) []

marks_of : (es : List Entry) → length (each mark_of es) ≡ entry_files es
unfolding each entry_files mark_of
marks_of [] = refl
marks_of (e ∷ es) = go e.is_file (marks_of es)
  where
    go : (b : Bool) → length (each mark_of es) ≡ entry_files es → length (cond b (0 ∷ []) [] ++ each mark_of es) ≡ cond b 1 0 + entry_files es
    go true i = omega arith
    go false i = omega arith

marks_in : (l : List IndexElement) → length (each mark_in l) ≡ file_count l
unfolding each many mark_in
marks_in [] = refl
marks_in (e ∷ l) = go (is_file e.sort) (marks_in l)
  where
    go : (b : Bool) → length (each mark_in l) ≡ file_count l → length (cond b (0 ∷ []) [] ++ each mark_in l) ≡ cond b (suc (file_count l)) (file_count l)
    go true i = ap suc i
    go false i = i

module _ (x : List ℕ) where
  module _ (s : Sort) (p : ℕ) (h : Head) (k : Tags) where
    same_uid : each uid_of_lem (entry_itself x s p k) ≡ uid_in (element s h (heads k))
    unfolding each uid_of_lem uid_in entry_with
    same_uid = go (is_entry s)
      where
        go : (b : Bool) → each uid_of_lem (cond b (entry_of x s p k ∷ []) []) ≡ cond b (uid_of (heads k) ∷ []) []
        go true = refl
        go false = refl

    same_rows : each rows_of (entry_itself x s p k) ≡ rows_in (element s h (heads k))
    unfolding each rows_of rows_in entry_with
    same_rows = go (is_entry s) refl
      where
        none_held : is_entry s ≡ false → rows_held s (heads k) ≡ []
        none_held e = held_none s (heads k) (no_file s e)

        go : (b : Bool) → is_entry s ≡ b → each rows_of (cond b (entry_of x s p k ∷ []) []) ≡ rows_held s (heads k)
        go true q = append-nil (rows_held s (heads k))
        go false q = sym (none_held q)

    same_mark : each mark_of (entry_itself x s p k) ≡ mark_in (element s h (heads k))
    unfolding each mark_of mark_in entry_with
    same_mark = go (is_entry s) refl
      where
        go : (b : Bool) → is_entry s ≡ b → each mark_of (cond b (entry_of x s p k ∷ []) []) ≡ cond (is_file s) (0 ∷ []) []
        go true q = append-nil (cond (is_file s) (0 ∷ []) [])
        go false q = sym (ap (λ (b : Bool). cond b (0 ∷ []) []) (no_file s q))

  module _ (kind : Sort) (p n : ℕ) (f : Tags) where
    pub uids_agree : uids_in (entries_in x kind p n f) ≡ uids_of (elements kind (heads f))
    uids_agree = sym (uids_of_lem (entries_in x kind p n f)) ∙ each_law x uid_of_lem uid_in same_uid kind p n f ∙ uids_in_lem (elements kind (heads f))

    pub rows_agree : entry_rows (entries_in x kind p n f) ≡ all_rows (files_of (elements kind (heads f)))
    rows_agree = sym (entry_rows_lem (entries_in x kind p n f)) ∙ each_law x rows_of rows_in same_rows kind p n f ∙ file_rows (elements kind (heads f))

    pub files_agree : entry_files (entries_in x kind p n f) ≡ file_count (elements kind (heads f))
    files_agree = sym (marks_of (entries_in x kind p n f)) ∙ ap length (each_law x mark_of mark_in same_mark kind p n f) ∙ marks_in (elements kind (heads f))

-- where no file has too many rows, there are not too many in all
pub rows_bounded : (l : List IndexElement) → every (λ e. few e.sort e.kids) l ≡ true → length (all_rows (files_of l)) ≤ file_count l * 1024
unfolding few files_of all_rows many
rows_bounded [] e = omega arith
rows_bounded (i ∷ l) e =
    go (is_file i.sort) (and_left _ (every (λ e. few e.sort e.kids) l) e) (rows_bounded l (and_right (few i.sort i.kids) _ e))
  where
    go : (b : Bool) → (not b || leb (length (extent_rows i.kids)) 1024) ≡ true → length (all_rows (files_of l)) ≤ file_count l * 1024
        → length (all_rows (cond b (file_of i.kids ∷ files_of l) (files_of l))) ≤ cond b (suc (file_count l)) (file_count l) * 1024
    go true q h =
        let a = leb-true (length (extent_rows i.kids)) 1024 q in
        let b = length-append (extent_rows i.kids) (all_rows (files_of l)) in
        omega arith
    go false q h = h
