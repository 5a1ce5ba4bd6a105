-- Where a label's texts stand (01, LTFS label): behind the tag of the root's child of that name.
use Rattle.std.specs.Prelude.{List, ℕ}
use Prim.Native.String.{String}
use Rattle.slices.specs.Words.{bytes}
use Rattle.elements.specs.Tags.{Tags, tags_at}
use Rattle.elements.specs.declared.heads.Span.{Span}
use Rattle.children.specs.Children.{children_of_first}
use Rattle.children.specs.Places.{tags_named, first_text}

-- of its creator, its time and its UUID
pub record TextPlaces : Type 0 where
  pub creator : Span
  pub time : Span
  pub uuid : Span

-- in the text s the text of the element of a name among the elements t
abbrev pub text_place_of : String → List ℕ → Tags → Span
text_place_of name s t = first_text s (tags_named (bytes name) t)

-- where t are the root's children
abbrev pub places_in : List ℕ → Tags → TextPlaces
places_in s t = record { creator = text_place_of "creator" s t; time = text_place_of "formattime" s t; uuid = text_place_of "volumeuuid" s t }

-- in a label's text
abbrev pub text_places : List ℕ → TextPlaces
text_places s = places_in s (children_of_first (tags_at s 38))
