-- Where the elements of a row stand in a text: by their tags (elements' specs/Tags).
use Rattle.std.specs.Prelude.{List, ℕ, eqb}
use Rattle.slices.specs.Slices.{same}
use Rattle.xml.specs.Tree.{none, node, tag_head}
use Rattle.elements.specs.Tags.{Tags, tag_place, text_place}
use Rattle.elements.specs.declared.heads.Span.{Span}
use Rattle.children.specs.Rules.{Rule, rule_number}
use Rattle.children.specs.Children.{matching}

-- the tags of a row that the rule of this number is for
abbrev pub tags_for : List Rule → ℕ → Tags → Tags
tags_for rs k = matching (λ r. eqb (rule_number rs (tag_head r).name) k)

-- those of a name
abbrev pub tags_named : List ℕ → Tags → Tags
tags_named name = matching (λ r. same name (tag_head r).name)

-- the place of a row's first tag in the text s; 0 where the row has none
abbrev pub first_place : List ℕ → Tags → ℕ
first_place s none = 0
first_place s (node r k f) = tag_place s r

-- where the text of its first element stands; nothing at 0 where it has none
abbrev pub first_text : List ℕ → Tags → Span
first_text s none = record { from = 0; len = 0 }
first_text s (node r k f) = text_place s r
