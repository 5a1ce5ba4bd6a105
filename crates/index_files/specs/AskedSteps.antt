-- What finding a file by its number owes.
use Rattle.refusals.specs.declared.Refusal.{Refusal}
use Rattle.std.specs.Prelude.{◌≡◌, List, [], ℕ, Result, Err, Ok}
use lib.ListN.{length, take, drop, get_or}
use Rattle.refusals.specs.Refusals.{Answer, and_then}
use Rattle.slices.specs.Words.{bytes}
use Rattle.xml.specs.Tree.{Forest}
use Rattle.elements.specs.declared.heads.Span.{Span}
use Rattle.elements.specs.Reading.{left_at, children_at, Inside, Spans}
use Rattle.index_values.specs.Elements.{text_in}
use Rattle.index_values.specs.Tests.{extent_rows, length_of}
use Rattle.index.specs.Index.{File, file_of}
use Rattle.index_files.specs.Names.{name_place}
use Rattle.index_files.specs.FileSteps.{files_left, file_tags_from}
use Rattle.index_files.specs.Asked.{nth}
use Rattle.index_files.specs.declared.asked.FileHead.{FileHead}

-- the children of the file whose tag was found, and the file
abbrev pub children_found : List ℕ → Result ℕ Refusal → Answer Forest
children_found s (Ok n) = Ok (children_at s n)
children_found s (Err r) = Err r

abbrev pub file_found : List ℕ → Result ℕ Refusal → Answer File
file_found s l = and_then (children_found s l) (λ c. Ok (file_of c))

-- it is the tag t
abbrev pub TagFound : List ℕ → List ℕ → Result ℕ Refusal → Type 0
TagFound s t (Ok n) = drop n s ≡ t
TagFound s t (Err r) = Unit {0}

-- the file of number k that is read along the text
pub record FindsFile (s : List ℕ) (k : ℕ) (l : Result ℕ Refusal) : Type 0 where
  pub children : children_found s l ≡ nth k (files_left (left_at s 38))
  pub tag : TagFound s (get_or (file_tags_from s 38) k []) l

-- the file a, whose tag is t
pub record Locates (s t : List ℕ) (a : Answer File) (l : Result ℕ Refusal) : Type 0 where
  pub file : file_found s l ≡ a
  pub tag : TagFound s t l

-- what is handed out of a file: its length, its name as spelled, and how many rows it has
pub record FileShown : Type 0 where
  pub length : ℕ
  pub name : List ℕ
  pub rows : ℕ

abbrev pub shown : File → FileShown
shown f = record { length = f.length; name = f.name; rows = length f.rows }

-- the same of the file whose tag is at n, the name by its place in the text
pub record HeadOf (s : List ℕ) (n : ℕ) (h : FileHead) : Type 0 where
  pub length : h.length.0 ≡ length_of (children_at s n)
  pub name : Spans s h.name.from h.name.len (text_in (bytes "name") (children_at s n))
  pub place : h.name ≡ name_place s (drop n s)
  pub rows : h.rows ≡ lib.ListN.length (extent_rows (children_at s n))

-- what reading a file says
abbrev pub file_answered : List ℕ → Result FileHead Refusal → Answer FileShown
file_answered s (Ok h) = Ok (record { length = h.length.0; name = take h.name.len (drop h.name.from s); rows = h.rows })
file_answered s (Err r) = Err r

-- the name lies in the text
abbrev pub NameInside : List ℕ → Result FileHead Refusal → Type 0
NameInside s (Ok h) = Inside s h.name.from h.name.len
NameInside s (Err r) = Unit {0}

-- it stands at w
abbrev pub NameStands : Span → Result FileHead Refusal → Type 0
NameStands w (Ok h) = h.name ≡ w
NameStands w (Err r) = Unit {0}

-- the file a, whose tag is t
pub record ReadsFile (s t : List ℕ) (a : Answer File) (r : Result FileHead Refusal) : Type 0 where
  pub says : file_answered s r ≡ and_then a (λ f. Ok (shown f))
  pub inside : NameInside s r
  pub stands : NameStands (name_place s t) r
