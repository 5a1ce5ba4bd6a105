-- Names of elements and what they are: in an index whose structure is right a file is an element named so, a skipped one likewise; and no
-- file stands in a file.
use mathlib.Core.Path.{◌≡◌, refl, ap, sym, ◌∙◌, subst}
use mathlib.Core.Bool.{Bool, true, false, cond, not, ◌&&◌, ◌||◌, false≢true}
use mathlib.Core.List.{List, [], ◌∷◌}
use Prim.Native.Nat.{ℕ, suc}
use lib.ListN.{get_or}
use Rattle.slices.specs.Slices.{same}
use Rattle.slices.specs.Words.{bytes}
use Rattle.slices.proofs.Booleans.{and_left, and_right}
use Rattle.slices.proofs.Equal.{same_eq}
use Rattle.index_names.specs.declared.Sort.{Sort}
use Rattle.index_names.specs.declared.Sort.TheVariants.{Unknown as unknown, File, ExtentInfo, Extent}
use Rattle.index_names.specs.Sorts.{holds_elements, is_file, is_skipped, is_unknown}
use Rattle.index_names.specs.Rows.{TableRow, names_of, sorts_of}
use Rattle.index_names.specs.Tables.{index_table, place_table, times, entry_table, of_directory, contents_table, of_file, extentinfo_table, extent_table, table, sort}
use Rattle.index_names.specs.Names.{names, number_in}
use Rattle.index_names.proofs.ByKind.{is_unknown-true, each_table}
use Rattle.index_files.specs.Names.{names_file, names_skipped}

-- a rule of sorts and names that holds at each name of a row holds of any name there, if it holds of what may not stand there
module _ (test : Sort → List ℕ → Bool) (other : (n : List ℕ) → test unknown n ≡ true) where
  unfoldable passes : (ℕ → Sort) → List (List ℕ) → Bool
  passes f [] = is_unknown (f 0)
  passes f (x ∷ xs) = test (f 0) x && passes (λ j. f (suc j)) xs

  named : (f : ℕ → Sort) (xs : List (List ℕ)) → passes f xs ≡ true → (n : List ℕ) → test (f (number_in xs n)) n ≡ true
  unfolding passes number_in
  named f [] e n = subst (λ (s : Sort). test s n ≡ true) (sym (is_unknown-true (f 0) e)) (other n)
  named f (x ∷ xs) e n = go (same n x) refl (named (λ j. f (suc j)) xs (and_right (test (f 0) x) (passes (λ j. f (suc j)) xs) e) n)
    where
      go : (b : Bool) → same n x ≡ b → test (f (suc (number_in xs n))) n ≡ true → test (f (cond b 0 (suc (number_in xs n)))) n ≡ true
      go true q i = ap (test (f 0)) (same_eq n x q) ∙ and_left (test (f 0) x) (passes (λ j. f (suc j)) xs) e
      go false q i = i

-- both or neither
abbrev both : Bool → Bool → Bool
both a b = cond a b (not b)

both_eq : (a b : Bool) → both a b ≡ true → a ≡ b
both_eq true b e = sym e
both_eq false true e = e
both_eq false false e = refl

-- an element that may stand where it does is a file, or skipped, by its name
abbrev told : Sort → List ℕ → Bool
told s n = is_unknown s || (both (names_file n) (is_file s) && both (names_skipped n) (is_skipped s))

told_kind : (k : Sort) → passes told (λ n. refl) (sort k) (names k) ≡ true
unfolding passes names sort index_table place_table times entry_table of_directory contents_table of_file extentinfo_table extent_table names_file names_skipped bytes
told_kind =
    each_table (λ (rows : List TableRow). passes told (λ n. refl) (λ j. get_or (sorts_of rows) j unknown) (names_of rows) ≡ true) refl refl refl refl refl refl refl refl refl

module _ (kind : Sort) (n : List ℕ) (e : is_unknown (sort kind (number_in (names kind) n)) ≡ false) where
  parts : (both (names_file n) (is_file (sort kind (number_in (names kind) n))) && both (names_skipped n) (is_skipped (sort kind (number_in (names kind) n)))) ≡ true
  parts =
      sym (ap (λ (b : Bool). b || (both (names_file n) (is_file (sort kind (number_in (names kind) n))) && both (names_skipped n) (is_skipped (sort kind (number_in (names kind) n))))) e)
      ∙ named told (λ n. refl) (sort kind) (names kind) (told_kind kind) n

  pub file_named : names_file n ≡ is_file (sort kind (number_in (names kind) n))
  file_named = both_eq _ _ (and_left _ (both (names_skipped n) (is_skipped (sort kind (number_in (names kind) n)))) parts)

  pub skipped_named : names_skipped n ≡ is_skipped (sort kind (number_in (names kind) n))
  skipped_named = both_eq _ _ (and_right (both (names_file n) (is_file (sort kind (number_in (names kind) n)))) _ parts)

-- a file, and what holds elements in it
abbrev pub in_file : Sort → Bool
in_file File = true
in_file ExtentInfo = true
in_file Extent = true
in_file _ = false

-- what stands there is no file, and likewise in a file if it holds elements
abbrev pub keeps : Sort → Bool
keeps s = not (is_file s) && (not (holds_elements s) || in_file s)

keeps_kind : (k : Sort) → in_file k ≡ true → passes (λ s n. keeps s) (λ n. refl) (sort k) (names k) ≡ true
unfolding passes names sort table times entry_table of_file extentinfo_table extent_table bytes
keeps_kind File e = refl
keeps_kind ExtentInfo e = refl
keeps_kind Extent e = refl
keeps_kind _ e = absurd (false≢true e)

pub inside_file : (kind : Sort) → in_file kind ≡ true → (n : List ℕ) → keeps (sort kind (number_in (names kind) n)) ≡ true
inside_file kind e n = named (λ s n. keeps s) (λ n. refl) (sort kind) (names kind) (keeps_kind kind e) n
