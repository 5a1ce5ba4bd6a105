-- What the form check owes to those who read a text in the form; proofs/Form has the theorems.
use Rattle.std.specs.Prelude.{◌≡◌, List, [], ◌∷◌, ◌⊎◌, ℕ, suc, ◌≤◌, max, drop}
use Rattle.xml.specs.Tree.{Head, Forest, none, node, forests}
use Rattle.xml.specs.Grammar.{Spaces, Name, Text, Document}

-- how deep elements are nested
unfoldable pub height : Forest → ℕ
height none = 0
height (node h k f) = max (suc (height k)) (height f)

-- each element has a name and, without children, characters and references as its text, with children white space alone
abbrev pub Formed : Forest → Type 0
Formed none = Unit {0}
Formed (node h k f) = Name h.name × (((k ≡ none) × Text h.text []) ⊎ Spaces h.text []) × Formed k × Formed f

-- the text s is in the form, with one root, whose head is h and whose children are k; they are read off the bytes behind the declaration
pub record Reads (s : List ℕ) (h : Head) (k : Forest) : Type 0 where
  pub derived : Document (node h k none) s
  pub tree : forests (drop 38 s) ≡ node h k none ∷ []
  pub bounded : height (node h k none) ≤ 64
  pub lawful : Formed (node h k none)
