-- Elements of an index whose numbers are spelled in other ways (02, Item 2): the same but for the texts of number elements, which say the same values.
use Rattle.std.specs.Prelude.{◌≡◌, Bool, true, false, ◌&&◌, ◌||◌, List, ℕ}
use Rattle.slices.specs.Slices.{same}
use Rattle.slices.specs.Words.{bytes}
use Rattle.xml.specs.Tree.{Head, Forest, none, node}
use Rattle.values.specs.Values as values
use Rattle.index_names.specs.declared.Sort.{Sort}
use Rattle.index_names.specs.declared.Sort.TheVariants.{Generation, Number, Uid, RootUid}
use Rattle.index_values.specs.Elements.{sort_of}

abbrev pub head : List ℕ → List ℕ → List ℕ → List ℕ → Head
head name key value text = record { name = name; key = key; value = value; text = text }

-- the elements that are numbers: by their names
unfoldable pub is_number_name : List ℕ → Bool
is_number_name n =
    same n (bytes "generationnumber") || same n (bytes "startblock") || same n (bytes "highestfileuid") || same n (bytes "fileuid")
    || same n (bytes "length") || same n (bytes "byteoffset") || same n (bytes "bytecount") || same n (bytes "fileoffset")

-- and by the sorts that they have where they stand
abbrev pub is_number_sort : Sort → Bool
is_number_sort Number = true
is_number_sort Generation = true
is_number_sort Uid = true
is_number_sort RootUid = true
is_number_sort _ = false

-- texts of an element in one of that kind that say the same: the same bytes, or, where it is a number, the same value
pub data SameText (kind : Sort) (h : Head) : List ℕ → Type 0 where
  same_bytes : SameText kind h h.text
  same_value : {t : List ℕ} → (is_number_name h.name && is_number_sort (sort_of kind h)) ≡ true → values.number h.text ≡ values.number t → SameText kind h t

-- rows of elements in one of that kind
pub data Respelled : Sort → Forest → Forest → Type 0 where
  end : {kind : Sort} → Respelled kind none none
  next : {kind : Sort} {h : Head} {t : List ℕ} {c d f g : Forest} → SameText kind h t → Respelled (sort_of kind h) c d → Respelled kind f g
      → Respelled kind (node h c f) (node (head h.name h.key h.value t) d g)
