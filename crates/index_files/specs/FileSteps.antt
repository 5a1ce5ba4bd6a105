-- The files of an index, read along its text: by their children, and by their tags.
use Rattle.std.specs.Prelude.{◌≡◌, List, [], ◌∷◌, ◌++◌, map, ℕ, ◌<◌, ◌≤◌, length, drop, None, Option, Some}
use Rattle.xml.specs.Tree.{Tree, Forest, tag_head}
use Rattle.elements.specs.Tags.{Tags, tags_left}
use Rattle.elements.specs.Reading.{left_at, children_at}
use Rattle.index.specs.Index.{File as Said, file_of}
use Rattle.index_files.specs.Names.{each_file}
use Rattle.elements.specs.declared.tags.Child.{Child}

-- the children of each file in a row of elements and in what stands in them, in text order
abbrev pub files_in : Forest → List Forest
files_in = each_file (λ h. h.name) (λ h c. c)

module _ {A B : Type 0} (name : A → List ℕ) (tell : A → Tree A → B) where
  -- the files of what is left to read: of the element that is open, of the one around it, and so on
  unfoldable pub each_left : List (Tree A) → List B
  each_left [] = []
  each_left (f ∷ fs) = each_file name tell f ++ each_left fs

abbrev pub files_left : List Forest → List Forest
files_left = each_left (λ h. h.name) (λ h c. c)

abbrev pub file_tags_left : List Tags → List (List ℕ)
file_tags_left = each_left (λ r. (tag_head r).name) (λ r c. r)

-- the files that are read from i on, and their tags
abbrev pub files_from : List ℕ → ℕ → List Said
files_from s i = map file_of (files_left (left_at s i))

abbrev pub file_tags_from : List ℕ → ℕ → List (List ℕ)
file_tags_from s i = file_tags_left (tags_left s i)

-- the next file from i on has its tag at n, and reading goes on at j
pub record FileAt (s : List ℕ) (i n j : ℕ) : Type 0 where
  pub left : files_left (left_at s i) ≡ children_at s n ∷ files_left (left_at s j)
  pub tags : file_tags_from s i ≡ drop n s ∷ file_tags_from s j
  pub place : (i < n) × (n ≤ j) × (j ≤ length s)

-- no file from i on
pub record NoFile (s : List ℕ) (i : ℕ) : Type 0 where
  pub left : files_left (left_at s i) ≡ []
  pub tags : file_tags_from s i ≡ []

-- the next file from i on
abbrev pub FileFrom : List ℕ → ℕ → Option Child → Type 0
FileFrom s i None = NoFile s i
FileFrom s i (Some f) = FileAt s i f.at f.next
