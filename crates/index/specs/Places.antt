-- Where an index's update time stands (01, Index): behind the tag of the root's child of that name.
use Rattle.std.specs.Prelude.{List, ℕ}
use Rattle.slices.specs.Words.{bytes}
use Rattle.elements.specs.Tags.{Tags, tags_at}
use Rattle.elements.specs.declared.heads.Span.{Span}
use Rattle.children.specs.Children.{children_of_first}
use Rattle.children.specs.Places.{tags_named, first_text}

-- in the text s, where t are the root's children
abbrev pub update_time_in : List ℕ → Tags → Span
update_time_in s t = first_text s (tags_named (bytes "updatetime") t)

-- in an index's text
abbrev pub update_time_place : List ℕ → Span
update_time_place s = update_time_in s (children_of_first (tags_at s 38))
