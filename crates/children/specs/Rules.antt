-- The rules for the children of an element: the name of each, and a mark that says what the child may hold, `=` (61) a value, `/` (47) children, `*` (42)
-- anything. A table of them is written as bytes, each name with its mark behind it.
use Rattle.std.specs.Prelude.{cond, List, [], ◌∷◌, ℕ, suc}
use Prim.Native.String.{String}
use Rattle.slices.specs.Slices.{same}
use Rattle.slices.specs.Words.{bytes}

pub record Rule : Type 0 where
  pub name : List ℕ
  pub mark : ℕ

-- a child with a value, and one with children
abbrev pub with_value : String → Rule
with_value name = record { name = bytes name; mark = 61 }

abbrev pub with_children : String → Rule
with_children name = record { name = bytes name; mark = 47 }

-- the number of the first rule for a name, past the last one where there is none; and its mark, 0 where there is none
unfoldable pub rule_number : List Rule → List ℕ → ℕ
rule_number [] name = 0
rule_number (r ∷ rs) name = cond (same r.name name) 0 (suc (rule_number rs name))

unfoldable pub mark_of : List Rule → List ℕ → ℕ
mark_of [] name = 0
mark_of (r ∷ rs) name = cond (same r.name name) r.mark (mark_of rs name)
