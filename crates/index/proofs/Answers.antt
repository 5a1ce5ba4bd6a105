-- The order of the classes, class by class, and the header that is handed out.
use Rattle.std.specs.Prelude.{Err, None, Ok, Option, Result, Some}
use mathlib.Core.Path.{◌≡◌, refl, ap, sym, subst, ◌∙◌}
use mathlib.Core.Bool.{Bool, true, false, cond, ◌||◌, and-true}
use mathlib.Core.List.{List, [], ◌∷◌}
use Prim.Native.Nat.{ℕ, suc, ◌-◌}
use lib.Dec.{eqb, leb}
use lib.ListN.{length, drop}
use mathlib.Core.Logic.{◌⊎◌, inl, inr}
use Rattle.refusals.specs.declared.Refusal.{Refusal}
use Rattle.refusals.specs.Refusals.{Answer, require, left_at}
use Rattle.refusals.specs.declared.Refusal.TheVariants.{Caller, TooMany, Form, Structure, Version, Value, Foreign, Extents, Location}
use Rattle.slices.specs.Words.{bytes}
use Rattle.quantities.specs.Letters.{is_letter}
use Rattle.quantities.specs.Sizes.{is_block_size}
use Rattle.quantities.specs.Addresses.{Address}
use Rattle.xml.specs.Tree.{Head, Forest, none as no_element, node, top, opened}
use Rattle.xml.specs.CheckSteps.{in_form, front}
use Rattle.elements.specs.Tags.{Tags, tags_at, tags_in}
use Rattle.elements.specs.TagSteps.{NextTag, around_at}
use Rattle.elements.specs.declared.tags.Tag.{Tag}
use Rattle.elements.specs.declared.tags.Tag.TheVariants.{End, Close, Open, Empty}
use Rattle.elements.proofs.Rows.{row_end, row_close, node_open, node_empty, first_empty}
use Rattle.children.specs.Children.{children_of_first}
use Rattle.elements.specs.Reading.{forest_at, head_at, children_at}
use Rattle.values.specs.Values as values
use Rattle.index_names.specs.declared.Sort.TheVariants.{Index as index}
use Rattle.index_names.specs.Sorts.{is_file}
use Rattle.index_values.specs.Elements.{IndexElement, elements, text_in}
use Rattle.index_values.specs.Entries.{number_or_zero, many, entries_of}
use Rattle.index_values.specs.Tests.{Given}
use Rattle.index_rows.specs.Steps.{Placed, TagsPlaced}
use Rattle.index.specs.declared.read.Header.{Header}
use Rattle.index.specs.declared.survey.Gathered.{Gathered}
use Rattle.index.specs.Index.{Index, Summary, heading_of, index_with, summary_of, is_true, is_root, structured, bounded, all_valued, all_own, all_lawful, stands_at, location_in, back_in, files_of, file_of, file_count, children_read, tag_read, root_read, caller_right, index_of}
use Rattle.index.specs.Places.{update_time_in}
use Rattle.index.specs.Steps.{ReadsAs, HeaderOf, ReadsInto, row_count}

pub caller_last : (g : Given) (letter : ℕ) → is_letter g.index_letter ≡ true → is_letter g.data_letter ≡ true → eqb g.index_letter g.data_letter ≡ false
    → is_block_size g.block_size ≡ true → values.is_uuid g.uuid ≡ true
    → caller_right g letter ≡ (eqb letter g.index_letter || eqb letter g.data_letter)
unfolding caller_right
caller_last g letter a b c d e = rw (a, b, c, d, e, and-true, and-true)

module _ (g : Given) (letter block release : ℕ) (k : Forest) where
  pub children_5 : structured k ≡ false → children_read g letter block release k ≡ Err Structure
  unfolding children_read
  children_5 a = rw a

  module _ (a : structured k ≡ true) where
    pub children_15 : bounded (elements index k) ≡ false → children_read g letter block release k ≡ Err TooMany
    unfolding children_read
    children_15 b = rw (a, b)

    module _ (b : bounded (elements index k) ≡ true) where
      pub children_6 : all_valued (elements index k) ≡ false → children_read g letter block release k ≡ Err Value
      unfolding children_read
      children_6 c = rw (a, b, c)

      module _ (c : all_valued (elements index k) ≡ true) where
        pub children_8 : all_own g (elements index k) ≡ false → children_read g letter block release k ≡ Err Foreign
        unfolding children_read
        children_8 d = rw (a, b, c, d)

        module _ (d : all_own g (elements index k) ≡ true) where
          pub children_11 : all_lawful g (elements index k) ≡ false → children_read g letter block release k ≡ Err Extents
          unfolding children_read
          children_11 e = rw (a, b, c, d, e)

          module _ (e : all_lawful g (elements index k) ≡ true) where
            pub children_sound : children_read g letter block release k ≡ require (stands_at letter block (location_in k)) Location (Ok (index_with release k))
            unfolding children_read
            children_sound = rw (a, b, c, d, e)

pub files_length : (l : List IndexElement) → length (files_of l) ≡ file_count l
unfolding files_of many
files_length [] = refl
files_length (e ∷ l) = go (is_file e.sort) (files_length l)
  where
    go : (b : Bool) → length (files_of l) ≡ file_count l → length (cond b (file_of e.kids ∷ files_of l) (files_of l)) ≡ cond b (suc (file_count l)) (file_count l)
    go true i = ap suc i
    go false i = i

module _ {s : List ℕ} {t : Tags} {a : Answer Index} {e e' o o' : List ℕ} where
  pub into_refused : {r : Refusal} → a ≡ Err r → ReadsInto s t a e e' o o' (Err r)
  into_refused {r} q = record { reads = record { answers = ap summary_of (sym q); header = tt }; tables = tt }

  pub same_into : {b : Answer Index} {r : (Result Header Refusal)} → ReadsInto s t a e e' o o' r → a ≡ b → ReadsInto s t b e e' o o' r
  same_into {r = r} p q = subst (λ (x : Answer Index). ReadsInto s t x e e' o o' r) q p

  -- the root's children are those
  pub same_tags : {u : Tags} {r : (Result Header Refusal)} → t ≡ u → ReadsInto s t a e e' o o' r → ReadsInto s u a e e' o o' r
  same_tags {r = r} q p = subst (λ (x : Tags). ReadsInto s x a e e' o o' r) q p

-- an index whose children are those of the header
pub reads_children : {s : List ℕ} {a : Answer Index} {h : Header} (release : ℕ) (k : Forest) (c : Tags) (r : Gathered) → HeaderOf s release r h
    → Placed s index k r.places → TagsPlaced s index c r.places → r.entries ≡ entries_of (elements index k) → r.files ≡ file_count (elements index k)
    → r.rows ≡ row_count (elements index k) → a ≡ Ok (index_with release k) → ReadsAs s (update_time_in s c) a (Ok h)
reads_children release k c r w p t e f o q =
    record {
      answers =
          ap Ok (w.heading k p e f o ∙ ap (λ (n : ℕ). record { heading = heading_of release k; files = n; rows = row_count (elements index k) }) (sym (files_length (elements index k))))
          ∙ ap summary_of (sym q);
      header = w.definite c t;
    }

module _ (g : Given) (letter block : ℕ) (f : Forest) where
  pub root_none : f ≡ no_element → root_read g letter block f ≡ Err Structure
  unfolding root_read
  root_none e = ap (root_read g letter block) e

  pub root_tag : (h : Head) (k r : Forest) → f ≡ node h k r → tag_read g letter block h k ≡ root_read g letter block f
  unfolding root_read
  root_tag h k r e = sym (ap (root_read g letter block) e)

-- the root's children, by its tag
module _ {s : List ℕ} {i n : ℕ} where
  pub tags_open : NextTag s i (Open n) → tags_in (drop n s) ≡ children_of_first (tags_at s i)
  unfolding top opened tags_in children_of_first
  tags_open t = sym (ap (λ (f : List Tags). children_of_first (top f)) t.tags ∙ rw t.kind)

  pub tags_empty : NextTag s i (Empty n) → tags_in (drop n s) ≡ children_of_first (tags_at s i)
  unfolding children_of_first
  tags_empty t = sym (ap children_of_first (first_empty t).tags)

-- the root of a text whose first tag is a start tag, at n
pub record RootAt (s : List ℕ) (n : ℕ) : Type 0 where
  pub rest : Forest
  pub row : forest_at s 38 ≡ node (head_at s n) (children_at s n) rest
  pub tags : tags_in (drop n s) ≡ children_of_first (tags_at s 38)

module _ {s : List ℕ} {tag : Tag} (t : NextTag s 38 tag) where
  pub root_at : (n : ℕ) → (tag ≡ Open n) ⊎ (tag ≡ Empty n) → RootAt s n
  root_at n (inl e) = let o = subst (NextTag s 38) e t in record { rest = top (around_at s n); row = node_open o; tags = tags_open o }
  root_at n (inr e) = let o = subst (NextTag s 38) e t in record { rest = forest_at s n; row = node_empty o; tags = tags_empty o }

  pub no_root : (tag ≡ End) ⊎ ((n : ℕ) × (tag ≡ Close n)) → forest_at s 38 ≡ no_element
  no_root (inl e) = row_end (subst (NextTag s 38) e t)
  no_root (inr p) = row_close (subst (NextTag s 38) p.1 t)

module _ (g : Given) (letter block : ℕ) (h : Head) (k : Forest) where
  pub root_refused : is_root h ≡ false → tag_read g letter block h k ≡ Err Structure
  unfolding tag_read
  root_refused a = rw a

  module _ (a : is_root h ≡ true) where
    pub root_version : values.version h.value ≡ None → tag_read g letter block h k ≡ Err Version
    unfolding tag_read
    root_version c = rw (a, c)

    pub root_read_lem : (release : ℕ) → values.version h.value ≡ Some release → children_read g letter block release k ≡ tag_read g letter block h k
    unfolding tag_read
    root_read_lem release c = sym (rw (a, c))

module _ (g : Given) (letter block : ℕ) (text : List ℕ) where
  pub index_14 : caller_right g letter ≡ false → index_of g letter block text ≡ Err Caller
  unfolding index_of
  index_14 a = rw a

  module _ (a : caller_right g letter ≡ true) where
    pub index_15 : leb (length text) 1048576 ≡ false → index_of g letter block text ≡ Err TooMany
    unfolding index_of
    index_15 b = rw (a, b)

    module _ (b : leb (length text) 1048576 ≡ true) where
      pub index_4 : (n : ℕ) → in_form text ≡ false → n ≡ front text → index_of g letter block text ≡ Err (Form (left_at n))
      unfolding index_of
      index_4 n c z = rw (a, b, c, z)

      pub index_read : in_form text ≡ true → root_read g letter block (forest_at text 38) ≡ index_of g letter block text
      unfolding index_of
      index_read c = sym (rw (a, b, c))

pub same_heading : (release : ℕ) (k : Forest) (entries files rows generation highest directories : ℕ) (time : List ℕ) (location : Address) (back : Option Address) (allow : Bool)
    → entries ≡ entries_of (elements index k) → files ≡ file_count (elements index k) → rows ≡ row_count (elements index k)
    → generation ≡ number_or_zero (text_in (bytes "generationnumber") k) → time ≡ text_in (bytes "updatetime") k → location ≡ location_in k → back ≡ back_in k
    → allow ≡ is_true (values.boolean (text_in (bytes "allowpolicyupdate") k)) → highest ≡ number_or_zero (text_in (bytes "highestfileuid") k)
    → directories ≡ entries - files
    → ◌≡◌ {A = Summary}
    (record {
      heading =
          record {
            release = release;
            generation = generation;
            updatetime = time;
            location = location;
            back = back;
            allowpolicyupdate = allow;
            highestfileuid = highest;
            directories = directories;
          };
      files = files;
      rows = rows;
    })
    (record { heading = heading_of release k; files = file_count (elements index k); rows = row_count (elements index k) })
same_heading release k entries files rows generation highest directories time location back allow m n o a b c d e f g =
    rw (a, b, c, d, e, f, g, m, n, o)
