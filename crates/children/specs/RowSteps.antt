-- What reading a row tells: whether its elements are lawful children, and where each stands.
use Rattle.std.specs.Prelude.{Option, None, Some, ◌≡◌, Bool, true, false, cond, not, ◌||◌, List, [], ◌∷◌, ℕ, ◌<◌, ◌≤◌, eqb, length, drop, get_or, take}
use Rattle.xml.specs.Tree.{Forest, none, node, front}
use Rattle.elements.specs.Tags.{Tags, tags_at, tags_in}
use Rattle.elements.specs.Reading.{forest_at, head_at, children_at}
use Rattle.children.specs.Rules.{Rule, rule_number, mark_of}
use Rattle.children.specs.Children.{pick, lawful_children}
use Rattle.children.specs.Places.{tags_for, first_place}
use Rattle.children.specs.declared.RuleFound.{RuleFound}

-- the element whose tag is at n, alone; none for the place 0, where no tag is
unfoldable pub seat : List ℕ → ℕ → Forest
seat s n = cond (eqb n 0) none (node (head_at s n) (children_at s n) none)

-- the same by its tag
unfoldable pub tag_seat : List ℕ → ℕ → Tags
tag_seat s n = cond (eqb n 0) none (node (drop n s) (tags_in (drop n s)) none)

-- the row f is lawful, and the place of each rule's element, or 0
pub record Seated (s : List ℕ) (rs : List Rule) (must : ℕ) (f : Forest) (seats : List ℕ) : Type 0 where
  pub lawful : lawful_children rs must f ≡ true
  pub found : (k : ℕ) → pick rs k f ≡ seat s (get_or seats k 0)

-- where the row has the tags t: that place is the one of the first tag that the rule is for
pub record PlacedSeats (s : List ℕ) (rs : List Rule) (t : Tags) (seats : List ℕ) : Type 0 where
  pub tags : (k : ℕ) → tags_for rs k t ≡ tag_seat s (get_or seats k 0)
  pub place : (k : ℕ) → get_or seats k 0 ≡ first_place s (tags_for rs k t)

pub record RowAt (s : List ℕ) (i : ℕ) (rs : List Rule) (must : ℕ) (seats : List ℕ) : Type 0 where
  pub row : Seated s rs must (forest_at s i) seats
  pub places : PlacedSeats s rs (tags_at s i) seats

-- the row at i, by the rules rs; nothing where it is not lawful
abbrev pub ReadsRow : List ℕ → ℕ → List Rule → ℕ → Option (List ℕ) → Type 0
ReadsRow s i rs must None = lawful_children rs must (forest_at s i) ≡ false
ReadsRow s i rs must (Some seats) = RowAt s i rs must seats

unfoldable pub is_rule_mark : ℕ → Bool
is_rule_mark b = eqb b 61 || eqb b 47 || eqb b 42

abbrev pub not_rule_mark : ℕ → Bool
not_rule_mark b = not (is_rule_mark b)

-- the first rule's name with one byte more in front
unfoldable pub longer : ℕ → List Rule → List Rule
longer b [] = []
longer b (r ∷ rs) = record { name = b ∷ r.name; mark = r.mark } ∷ rs

-- the rules of a table
unfoldable pub rules : List ℕ → List Rule
rules [] = []
rules (b ∷ s) = cond (is_rule_mark b) (record { name = []; mark = b } ∷ rules s) (longer b (rules s))

-- of a table that a row is read by, the first 16 rules count
abbrev pub table_of : List ℕ → List Rule
table_of t = take 16 (rules t)

-- where the first mark of a table stands
abbrev pub FirstMark : List ℕ → Option ℕ → Type 0
FirstMark t None = length t ≤ front not_rule_mark t
FirstMark t (Some e) = (e ≡ front not_rule_mark t) × (e < length t)

-- the number and the mark of the rule for a name, if there is one
abbrev pub FindsRule : List Rule → List ℕ → Option RuleFound → Type 0
FindsRule rs name None = (rule_number rs name ≡ length rs) × (mark_of rs name ≡ 0)
FindsRule rs name (Some r) = (r.number ≡ rule_number rs name) × (r.mark ≡ mark_of rs name)
