-- What a sweep of an index's children from the start says of the classes.
use mathlib.Core.Path.{◌≡◌, refl, ap, sym, ◌∙◌, subst}
use mathlib.Core.Bool.{Bool, true, false, cond, ◌&&◌, and-false}
use mathlib.Core.List.{List, [], ◌∷◌}
use Prim.Native.Nat.{ℕ, suc, ◌+◌, ◌≤◌, ◌<◌}
use native.Mathlib.Nat.{zero-add}
use native.Mathlib.Omega.{arith}
use borrow.Author.Tests.{ltb-false, le-leb, lt-leb}
use lib.Dec.{leb, ltb}
use lib.ListN.{length, take, drop}
use lib.Seq.{sets, sets-eq, length-sets, take-append_seam}
use Rattle.elements.specs.Tags.{Tags, heads}
use Rattle.slices.specs.Slices.{every}
use Rattle.index_names.specs.declared.Sort.{Sort}
use Rattle.index_names.specs.declared.Sort.TheVariants.{Index as index, Root, Directory, File}
use Rattle.index_names.specs.Sorts.{is_file}
use Rattle.index_values.specs.Elements.{IndexElement, elements}
use Rattle.index.specs.Structure.{rightly}
use Rattle.index_values.specs.Entries.{is_entry, many, uids_of, uid_of, entries_of}
use Rattle.index_values.specs.Tests.{Given, few, valued}
use Rattle.index_values.specs.Different.{different}
use Rattle.index.specs.SweepSteps.{All, gathered, none_seen, sweep, begun, settled, ended_sums}
use Rattle.index.specs.Index.{structured, bounded, all_valued, all_own, all_lawful, file_count}
use Rattle.index.specs.Entries.{Entry, entries_in, entry_rows}
use Rattle.index.specs.Steps.{Counted, Refuses, nothing_yet, Listed}
use Rattle.index.proofs.Answers.{children_5, children_15, children_6, children_8, children_11, children_sound}
use Rattle.refusals.specs.declared.Refusal.TheVariants.{TooMany, Structure, Value, Foreign, Extents}
use Rattle.index.specs.declared.walk.Sums.{Sums}
use Rattle.index.proofs.Counted.{sat, sat_below, done_counts}
use Rattle.index.proofs.Swept.{structure_law, few_law, values_law, own_law, lawful_law, count_law}
use Rattle.index.proofs.Listing.{uids_length, Lists, lists_law}
use Rattle.index.proofs.Agreeing.{uids_agree, rows_agree, rows_bounded}

sat_few : (n : ℕ) → sat n ≤ 4096 → (n ≤ 4096) × (sat n ≡ n)
unfolding sat
sat_few n h = go (ltb n 5000) refl
  where
    go : (b : Bool) → ltb n 5000 ≡ b → (n ≤ 4096) × (sat n ≡ n)
    go true e = let w : n ≤ 4096 = simp e at h in (w, simp e)
    go false e = let w : 5000 ≤ 4096 = simp e at h in absurd (omega arith)

sat_many : (n : ℕ) → 4096 < sat n → 4096 < n
unfolding sat
sat_many n h = go (ltb n 5000) refl
  where
    go : (b : Bool) → ltb n 5000 ≡ b → 4096 < n
    go true e = simp e at h
    go false e = omega (arith, ltb-false n 5000 e)

pub uids_many : (l : List IndexElement) → length (uids_of l) ≡ entries_of l
unfolding uids_of many
uids_many [] = refl
uids_many (e ∷ l) = go (is_entry e.sort) (uids_many l)
  where
    go : (b : Bool) → length (uids_of l) ≡ entries_of l → length (cond b (uid_of e.kids ∷ uids_of l) (uids_of l)) ≡ cond b (suc (entries_of l)) (entries_of l)
    go true i = ap suc i
    go false i = i

pub files_few : (l : List IndexElement) → file_count l ≤ entries_of l
unfolding many
files_few [] = omega arith
files_few (e ∷ l) = go e.sort (files_few l)
  where
    go : (s : Sort) → file_count l ≤ entries_of l → cond (is_file s) (suc (file_count l)) (file_count l) ≤ cond (is_entry s) (suc (entries_of l)) (entries_of l)
    go Root i = omega arith
    go Directory i = omega arith
    go File i = omega arith
    go _ i = i

module _ (s : List ℕ) (g : Given) (k : Tags) (table e e' o o' : List ℕ) (a : Sums) (u : List ℕ)
    (swept : gathered a u e' o' ≡ sweep s g index 0 none_seen k (gathered nothing_yet table e o)) where
  abbrev l : List IndexElement
  l = elements index (heads k)

  abbrev es : List Entry
  es = entries_in s index 0 0 k

  abbrev start : All
  start = gathered nothing_yet table e o

  right : a.structure ≡ structured (heads k)
  unfolding structured
  right = ap (λ (x : All). x.sums.structure) swept ∙ structure_law s g index 0 k none_seen start ∙ ap (λ (b : Bool). b && every rightly l) (done_counts index (heads k))

  counted : a.entries ≡ sat (entries_of l)
  unfolding begun settled ended_sums
  counted = ap (λ (x : All). x.sums.entries) swept
      ∙ count_law (λ e. is_entry e.sort) s g (λ x. x.entries) (λ s h c x. refl) (λ p q n x. refl) (λ k m x. refl) index 0 k none_seen start refl

  files_counted : a.files ≡ sat (file_count l)
  unfolding begun settled ended_sums
  files_counted = ap (λ (x : All). x.sums.files) swept
      ∙ count_law (λ e. is_file e.sort) s g (λ x. x.files) (λ s h c x. refl) (λ p q n x. refl) (λ k m x. refl) index 0 k none_seen start refl

  few_is : a.few ≡ every (λ e. few e.sort e.kids) l
  few_is = ap (λ (x : All). x.sums.few) swept ∙ few_law s g index 0 k none_seen start

  values_are : a.values ≡ every (λ e. valued e.sort e.head.text) l
  values_are = ap (λ (x : All). x.sums.values) swept ∙ values_law s g index 0 k none_seen start

  pub refused_structure : a.structure ≡ false → Refuses g (heads k) Structure
  refused_structure c letter block release = children_5 g letter block release (heads k) (sym right ∙ c)

  module _ (c5 : a.structure ≡ true) where
    pub refused_few : a.few ≡ false → Refuses g (heads k) TooMany
    unfolding bounded
    refused_few c letter block release =
        children_15 g letter block release (heads k) (sym right ∙ c5) (rw (sym few_is ∙ c) (and-false (leb (entries_of l) 4096)))

    pub refused_many : 4096 < a.entries → Refuses g (heads k) TooMany
    unfolding bounded
    refused_many h letter block release =
        children_15 g letter block release (heads k) (sym right ∙ c5) (simp (lt-leb (entries_of l) 4096 (sat_many (entries_of l) (rw counted at h))))

    -- not too many entries
    module _ (c15 : a.few ≡ true) (h : a.entries ≤ 4096) where
      small : entries_of l ≤ 4096
      small = (sat_few (entries_of l) (rw counted at h)).0

      bounded_so : bounded l ≡ true
      unfolding bounded
      bounded_so = rw (le-leb (entries_of l) 4096 small, sym few_is ∙ c15)

      exact : a.entries ≡ entries_of l
      exact = counted ∙ (sat_few (entries_of l) (rw counted at h)).1

      entries_long : length es ≡ entries_of l
      entries_long = sym (uids_length es) ∙ ap length (uids_agree s index 0 0 k) ∙ uids_many l

      rows_long : length (entry_rows es) ≤ 8388608
      rows_long =
          omega (arith, ap length (rows_agree s index 0 0 k), rows_bounded l (sym few_is ∙ c15), files_few l, small)

      listed_all : Lists 0 0 0 start es (gathered a u e' o')
      listed_all =
          subst (Lists 0 0 0 start es) (sym swept)
          (lists_law s g index 0 k none_seen start 0 0 0 refl refl refl (omega arith) (omega (arith, entries_long, small)) (omega (arith, rows_long)) (sym few_is ∙ c15))

      uids_are : u ≡ sets table 0 (uids_of l)
      uids_are = listed_all.uids ∙ ap (sets table 0) (uids_agree s index 0 0 k)

      pub refused_values : a.values ≡ false → Refuses g (heads k) Value
      unfolding all_valued
      refused_values c letter block release =
          children_6 g letter block release (heads k) (sym right ∙ c5) bounded_so (rw (sym values_are ∙ c))

      -- whether all fileuids in the table are different
      module _ (q : length u ≡ 4096) {distinct : Bool} (ed : distinct ≡ different (take a.entries u)) where
        table_length : length table ≡ 4096
        table_length = sym (length-sets table 0 (uids_of l)) ∙ sym (ap length uids_are) ∙ q

        table_is : take a.entries u ≡ uids_of l
        table_is =
            ap (λ (n : ℕ). take n u) (exact ∙ sym (uids_many l)) ∙ ap (take (length (uids_of l))) uids_are
            ∙ ap (take (length (uids_of l))) (sets-eq (uids_of l) table 0 (omega (arith, uids_many l, small, table_length, zero-add (length (uids_of l)))))
            ∙ take-append_seam (uids_of l) (drop (0 + length (uids_of l)) table)

        different_so : different (uids_of l) ≡ distinct
        different_so = sym (ed ∙ ap different table_is)

        pub refused_repeated : distinct ≡ false → Refuses g (heads k) Value
        unfolding all_valued
        refused_repeated c letter block release =
            children_6 g letter block release (heads k) (sym right ∙ c5) bounded_so (rw (different_so ∙ c) (and-false (every (λ e. valued e.sort e.head.text) l)))

        module _ (c6 : a.values ≡ true) (d : distinct ≡ true) where
          valued_so : all_valued l ≡ true
          unfolding all_valued
          valued_so = rw (sym values_are ∙ c6, different_so ∙ d)

          own_is : a.own ≡ all_own g l
          own_is = ap (λ (x : All). x.sums.own) swept ∙ own_law s g index 0 k none_seen start

          lawful_is : a.lawful ≡ all_lawful g l
          lawful_is = ap (λ (x : All). x.sums.lawful) swept ∙ lawful_law s g index 0 k none_seen start

          pub refused_foreign : a.own ≡ false → Refuses g (heads k) Foreign
          refused_foreign c letter block release =
              children_8 g letter block release (heads k) (sym right ∙ c5) bounded_so valued_so (sym own_is ∙ c)

          module _ (c8 : a.own ≡ true) where
            pub refused_extents : a.lawful ≡ false → Refuses g (heads k) Extents
            refused_extents c letter block release =
                children_11 g letter block release (heads k) (sym right ∙ c5) bounded_so valued_so (sym own_is ∙ c8) (sym lawful_is ∙ c)

            pub all_sound : a.lawful ≡ true → Counted g (heads k) a.entries a.files a.rows × Listed es e e' o o'
            all_sound c = (
              record {
                sound = λ letter block release. children_sound g letter block release (heads k) (sym right ∙ c5) bounded_so valued_so (sym own_is ∙ c8) (sym lawful_is ∙ c);
                entries = exact;
                files = files_counted ∙ sat_below (file_count l) (omega (arith, files_few l, small));
                rows = listed_all.rows ∙ zero-add (length (entry_rows es)) ∙ ap length (rows_agree s index 0 0 k);
              },
              record {
                entries = λ z. listed_all.entry_table (omega (arith, z));
                rows = λ z. listed_all.row_table (omega (arith, z));
              },
            )
