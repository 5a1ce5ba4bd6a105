-- What is found by name in a row is what is found by number, by the place of the first element of that number.
use mathlib.Core.Path.{◌≡◌, refl, ap, sym, ◌∙◌}
use mathlib.Core.Bool.{Bool, true, false, cond}
use mathlib.Core.List.{List, []}
use Prim.Native.Nat.{ℕ, ◌<◌}
use native.Mathlib.Omega.{arith}
use lib.Dec.{eqb}
use lib.ListN.{get_or}
use Rattle.slices.specs.Slices.{same}
use Rattle.slices.specs.Words.{bytes}
use Rattle.values.proofs.SchemaForm.{number_empty}
use Rattle.xml.specs.Tree.{Forest, none, node, tag_head}
use Rattle.elements.specs.Tags.{Tags}
use Rattle.children.specs.Children.{matching, text_of_first, children_of_first}
use Rattle.children.specs.Places.{tags_named, first_text}
use Rattle.children.specs.RowSteps.{seat, tag_seat}
use Rattle.index_names.specs.declared.Sort.{Sort}
use Rattle.index_names.specs.declared.Sort.TheVariants.{Index, Root, Directory, File, Extent}
use Rattle.index_names.specs.Tables.{index_table, times, entry_table, of_directory, of_file, extent_table, table}
use Rattle.index_names.specs.Names.{names, number_in}
use Rattle.index_rows.specs.Steps.{first_by, first_in, first_tag, Placed, TagsPlaced}
use Rattle.index_rows.proofs.Named.{same_flip, ruled, number_own}
use Rattle.index_values.specs.Elements.{text_in, children_in}
use Rattle.index_values.specs.Entries.{is_entry, or_zero, number_or_zero, uid_of}

module _ (kind : Sort) (j : ℕ) (name : List ℕ) (told : (n : List ℕ) → eqb (number_in (names kind) n) j ≡ same n name) where
  text_first : (f : Forest) → text_in name f ≡ text_of_first (first_in kind j f)
  unfolding text_in first_by text_of_first
  text_first none = refl
  text_first (node h c r) = ap (λ (b : Bool). cond b h.text (text_in name r)) (sym (told h.name)) ∙ go (eqb (number_in (names kind) h.name) j) (text_first r)
    where
      go : (b : Bool) → text_in name r ≡ text_of_first (first_in kind j r) → cond b h.text (text_in name r) ≡ text_of_first (cond b (node h c none) (first_in kind j r))
      go true i = refl
      go false i = i

  row_first : (f : Forest) → children_in name f ≡ children_of_first (first_in kind j f)
  unfolding children_in first_by children_of_first
  row_first none = refl
  row_first (node h c r) = ap (λ (b : Bool). cond b c (children_in name r)) (sym (told h.name)) ∙ go (eqb (number_in (names kind) h.name) j) (row_first r)
    where
      go : (b : Bool) → children_in name r ≡ children_of_first (first_in kind j r) → cond b c (children_in name r) ≡ children_of_first (cond b (node h c none) (first_in kind j r))
      go true i = refl
      go false i = i

  -- where that text stands
  place_first : (s : List ℕ) (f : Tags) → first_text s (tags_named name f) ≡ first_text s (first_tag kind j f)
  unfolding matching first_by
  place_first s none = refl
  place_first s (node x c r) =
      ap (λ (b : Bool). first_text s (cond b (node x c (tags_named name r)) (tags_named name r))) (same_flip name (tag_head x).name ∙ sym (told (tag_head x).name))
      ∙ go (eqb (number_in (names kind) (tag_head x).name) j) (place_first s r)
    where
      go : (b : Bool) → first_text s (tags_named name r) ≡ first_text s (first_tag kind j r)
          → first_text s (cond b (node x c (tags_named name r)) (tags_named name r)) ≡ first_text s (cond b (node x c none) (first_tag kind j r))
      go true i = refl
      go false i = i

  module _ (s : List ℕ) (f : Forest) (t : List ℕ) (placed : Placed s kind f t) (h : j < 16) where
    text_placed : text_in name f ≡ text_of_first (seat s (get_or t j 0))
    text_placed = text_first f ∙ ap text_of_first (placed j h)

    row_placed : children_in name f ≡ children_of_first (seat s (get_or t j 0))
    row_placed = row_first f ∙ ap children_of_first (placed j h)

-- of a directory or a file: its fileuid and its name
fileuid_told : (kind : Sort) → is_entry kind ≡ true → (n : List ℕ) → eqb (number_in (names kind) n) 0 ≡ same n (bytes "fileuid")
unfolding names table times entry_table of_directory of_file bytes ruled
fileuid_told Root e n = number_own (names Root) 0 n refl
fileuid_told Directory e n = number_own (names Directory) 0 n refl
fileuid_told File e n = number_own (names File) 0 n refl
fileuid_told _ e n = cc

name_told : (kind : Sort) → is_entry kind ≡ true → (n : List ℕ) → eqb (number_in (names kind) n) 1 ≡ same n (bytes "name")
unfolding names table times entry_table of_directory of_file bytes ruled
name_told Root e n = number_own (names Root) 1 n refl
name_told Directory e n = number_own (names Directory) 1 n refl
name_told File e n = number_own (names File) 1 n refl
name_told _ e n = cc

pub fileuid_placed : (kind : Sort) → is_entry kind ≡ true → (s : List ℕ) (f : Forest) (t : List ℕ) → Placed s kind f t
    → uid_of f ≡ number_or_zero (text_of_first (seat s (get_or t 0 0)))
unfolding uid_of
fileuid_placed kind e s f t placed = ap number_or_zero (text_placed kind 0 (bytes "fileuid") (fileuid_told kind e) s f t placed (omega arith))

-- of a file: its length and its extents
module _ (s : List ℕ) (f : Forest) (t : List ℕ) (placed : Placed s File f t) where
  pub length_placed : text_in (bytes "length") f ≡ text_of_first (seat s (get_or t 8 0))
  unfolding names table times entry_table of_file bytes ruled
  length_placed = text_placed File 8 (bytes "length") (λ n. number_own (names File) 8 n refl) s f t placed (omega arith)

  pub extents_placed : children_in (bytes "extentinfo") f ≡ children_of_first (seat s (get_or t 9 0))
  unfolding names table times entry_table of_file bytes ruled
  extents_placed = row_placed File 9 (bytes "extentinfo") (λ n. number_own (names File) 9 n refl) s f t placed (omega arith)

-- of an extent: its five values
module _ (s : List ℕ) (f : Forest) (t : List ℕ) (placed : Placed s Extent f t) where
  pub fileoffset_placed : text_in (bytes "fileoffset") f ≡ text_of_first (seat s (get_or t 0 0))
  unfolding names table extent_table bytes ruled
  fileoffset_placed = text_placed Extent 0 (bytes "fileoffset") (λ n. number_own (names Extent) 0 n refl) s f t placed (omega arith)

  pub partition_placed : text_in (bytes "partition") f ≡ text_of_first (seat s (get_or t 1 0))
  unfolding names table extent_table bytes ruled
  partition_placed = text_placed Extent 1 (bytes "partition") (λ n. number_own (names Extent) 1 n refl) s f t placed (omega arith)

  pub startblock_placed : text_in (bytes "startblock") f ≡ text_of_first (seat s (get_or t 2 0))
  unfolding names table extent_table bytes ruled
  startblock_placed = text_placed Extent 2 (bytes "startblock") (λ n. number_own (names Extent) 2 n refl) s f t placed (omega arith)

  pub byteoffset_placed : text_in (bytes "byteoffset") f ≡ text_of_first (seat s (get_or t 3 0))
  unfolding names table extent_table bytes ruled
  byteoffset_placed = text_placed Extent 3 (bytes "byteoffset") (λ n. number_own (names Extent) 3 n refl) s f t placed (omega arith)

  pub bytecount_placed : text_in (bytes "bytecount") f ≡ text_of_first (seat s (get_or t 4 0))
  unfolding names table extent_table bytes ruled
  bytecount_placed = text_placed Extent 4 (bytes "bytecount") (λ n. number_own (names Extent) 4 n refl) s f t placed (omega arith)

-- of an index: what its header says
module _ (s : List ℕ) (f : Forest) (t : List ℕ) (placed : Placed s Index f t) where
  pub generation_placed : text_in (bytes "generationnumber") f ≡ text_of_first (seat s (get_or t 2 0))
  unfolding names table index_table bytes ruled
  generation_placed = text_placed Index 2 (bytes "generationnumber") (λ n. number_own (names Index) 2 n refl) s f t placed (omega arith)

  pub updatetime_placed : text_in (bytes "updatetime") f ≡ text_of_first (seat s (get_or t 3 0))
  unfolding names table index_table bytes ruled
  updatetime_placed = text_placed Index 3 (bytes "updatetime") (λ n. number_own (names Index) 3 n refl) s f t placed (omega arith)

  pub location_placed : children_in (bytes "location") f ≡ children_of_first (seat s (get_or t 4 0))
  unfolding names table index_table bytes ruled
  location_placed = row_placed Index 4 (bytes "location") (λ n. number_own (names Index) 4 n refl) s f t placed (omega arith)

  pub allow_placed : text_in (bytes "allowpolicyupdate") f ≡ text_of_first (seat s (get_or t 5 0))
  unfolding names table index_table bytes ruled
  allow_placed = text_placed Index 5 (bytes "allowpolicyupdate") (λ n. number_own (names Index) 5 n refl) s f t placed (omega arith)

  pub highest_placed : text_in (bytes "highestfileuid") f ≡ text_of_first (seat s (get_or t 6 0))
  unfolding names table index_table bytes ruled
  highest_placed = text_placed Index 6 (bytes "highestfileuid") (λ n. number_own (names Index) 6 n refl) s f t placed (omega arith)

  pub back_placed : children_in (bytes "previousgenerationlocation") f ≡ children_of_first (seat s (get_or t 9 0))
  unfolding names table index_table bytes ruled
  back_placed = row_placed Index 9 (bytes "previousgenerationlocation") (λ n. number_own (names Index) 9 n refl) s f t placed (omega arith)

-- what is not there says no number
pub no_number : number_or_zero [] ≡ 0
no_number = ap or_zero number_empty

pub updatetime_stands : (s : List ℕ) (f : Tags) (t : List ℕ) → TagsPlaced s Index f t → first_text s (tags_named (bytes "updatetime") f) ≡ first_text s (tag_seat s (get_or t 3 0))
unfolding names table index_table bytes ruled
updatetime_stands s f t placed =
    place_first Index 3 (bytes "updatetime") (λ n. number_own (names Index) 3 n refl) s f ∙ ap (first_text s) (placed 3 (omega arith))

pub name_stands : (kind : Sort) → is_entry kind ≡ true → (s : List ℕ) (f : Tags) (t : List ℕ) → TagsPlaced s kind f t
    → first_text s (tags_named (bytes "name") f) ≡ first_text s (tag_seat s (get_or t 1 0))
name_stands kind e s f t placed = place_first kind 1 (bytes "name") (name_told kind e) s f ∙ ap (first_text s) (placed 1 (omega arith))
