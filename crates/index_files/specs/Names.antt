-- Where the names of an index's files stand (01, Index: files number from 0 in text order). In an index whose structure is right an element is
-- a file by its name alone; proofs/AllFiles has the theorem.
use Rattle.std.specs.Prelude.{Bool, cond, ◌||◌, List, [], ◌∷◌, ◌++◌, ℕ, get_or}
use Rattle.slices.specs.Slices.{same}
use Rattle.slices.specs.Words.{bytes}
use Rattle.xml.specs.Tree.{Tree, none, node, tag_head}
use Rattle.elements.specs.Tags.{Tags, tags_at, tags_in}
use Rattle.elements.specs.declared.heads.Span.{Span}
use Rattle.children.specs.Places.{tags_named, first_text}

-- a file, by its element's name
unfoldable pub names_file : List ℕ → Bool
names_file name = same name (bytes "file")

-- a policy or extended attributes, by its element's name: nothing in it counts
unfoldable pub names_skipped : List ℕ → Bool
names_skipped name = same name (bytes "extendedattributes") || same name (bytes "dataplacementpolicy")

module _ {A B : Type 0} (name : A → List ℕ) (tell : A → Tree A → B) where
  -- what is told of each file in a row of elements and in what stands in them, in text order
  unfoldable pub each_file : Tree A → List B
  each_file none = []
  each_file (node h c r) = cond (names_file (name h)) (tell h c ∷ []) (cond (names_skipped (name h)) [] (each_file c)) ++ each_file r

-- the tags of the files
abbrev pub file_tags : Tags → List (List ℕ)
file_tags = each_file (λ r. (tag_head r).name) (λ r c. r)

-- in an index's text: those of all its files, and that of the file of number k
abbrev pub all_file_tags : List ℕ → List (List ℕ)
all_file_tags s = file_tags (tags_at s 38)

abbrev pub file_tag : List ℕ → ℕ → List ℕ
file_tag s k = get_or (all_file_tags s) k []

-- where the name of the file with the tag r stands in the text s: it is the text of the file's child of that name
abbrev pub name_place : List ℕ → List ℕ → Span
name_place s r = first_text s (tags_named (bytes "name") (tags_in r))
