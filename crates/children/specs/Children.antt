-- Children once each in any order, nothing else (01, LTFS label, Index): the one definition for every element that has children.
use Rattle.std.specs.Prelude.{Bool, true, cond, not, ◌&&◌, ◌||◌, List, [], ℕ, zero, suc, eqb, length}
use Rattle.slices.specs.Slices.{every, same}
use Rattle.slices.specs.Words.{bytes}
use Rattle.xml.specs.Bytes.{is_space}
use Rattle.xml.specs.Tree.{Head, Tree, Forest, none, node}
use Rattle.elements.specs.Reading.{has_element}
use Rattle.children.specs.Rules.{Rule, rule_number, mark_of}

-- a root: its name, and its one attribute
abbrev pub is_root : List ℕ → Head → Bool
is_root name h = same h.name name && same h.key (bytes "version")

-- only the root has an attribute
abbrev pub no_attribute : Head → Bool
no_attribute h = eqb (length h.key) 0

-- no text where only children belong: white space beside children is the XML form's duty, so it is text without children
abbrev pub no_text : Head → Forest → Bool
no_text h k = has_element k || every is_space h.text

-- what a child may hold by its mark: `=` (61) a value, `/` (47) children, `*` (42) anything; a child without a rule has mark 0 and may not stand here
unfoldable pub may_hold : ℕ → Head → Forest → Bool
may_hold mark h k = cond (eqb mark 61) (not (has_element k)) (cond (eqb mark 47) (no_text h k) (eqb mark 42))

-- the elements of a row: each has a rule, no attribute, and holds what it may
unfoldable pub all_known : List Rule → Forest → Bool
all_known rs none = true
all_known rs (node h k f) = no_attribute h && may_hold (mark_of rs h.name) h k && all_known rs f

module _ {A : Type 0} where
  -- those that pass a test
  unfoldable pub matching : (A → Bool) → Tree A → Tree A
  matching test none = none
  matching test (node h k f) = cond (test h) (node h k (matching test f)) (matching test f)

-- those that the rule of this number is for
abbrev pub pick : List Rule → ℕ → Forest → Forest
pick rs k = matching (λ h. eqb (rule_number rs h.name) k)

unfoldable pub at_most_one : Forest → Bool
at_most_one none = true
at_most_one (node h k f) = not (has_element f)

-- a test of each number below n
unfoldable pub below : ℕ → (ℕ → Bool) → Bool
below zero test = true
below (suc n) test = test n && below n test

-- each child has a rule, none stands twice, and none of the first `must` rules is left out; the rules after those are optional
unfoldable pub lawful_children : List Rule → ℕ → Forest → Bool
lawful_children rs must f = all_known rs f && below (length rs) (λ k. at_most_one (pick rs k f)) && below must (λ k. has_element (pick rs k f))

-- the elements of a row that have a name
abbrev pub only : List ℕ → Forest → Forest
only name = matching (λ h. same name h.name)

-- of the first element of a row: its text, its children
unfoldable pub text_of_first : Forest → List ℕ
text_of_first none = []
text_of_first (node h k f) = h.text

module _ {A : Type 0} where
  unfoldable pub children_of_first : Tree A → Tree A
  children_of_first none = none
  children_of_first (node h k f) = k
