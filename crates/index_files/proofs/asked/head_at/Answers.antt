-- `head_at` meets its contract: part by part.
use mathlib.Core.Path.{ap, ◌∙◌}
use lib.ListN.{length}
use Rattle.slices.specs.Words.{bytes}
use Rattle.xml.specs.Tree.{Forest}
use Rattle.elements.specs.Tags.{Tags}
use Rattle.children.specs.Places.{tags_named, first_text}
use Rattle.index_values.specs.Elements.{text_in}
use Rattle.index_values.specs.Entries.{number_or_zero}
use Rattle.index_files.proofs.asked.head_at.Goals as goal

pub returns : goal.returns
unfolding bytes
returns c =
    record {
      length = c.number_named.ensures ∙ ap (λ (f : Forest). number_or_zero (text_in (bytes "length") f)) c.first_child-at.ensures.row;
      name = record { part = c.span_in.ensures.spans.part ∙ ap (text_in (bytes "name")) c.first_child-at.ensures.row; inside = c.span_in.ensures.spans.inside };
      place = c.span_in.ensures.place ∙ ap (λ (t : Tags). first_text c.args.text.now (tags_named (bytes "name") t)) c.first_child-at.ensures.tags;
      rows = c.len.ensures ∙ ap length c.new.ensures;
    }
