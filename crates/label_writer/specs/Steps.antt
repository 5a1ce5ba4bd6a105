-- What writing a label owes.
use Rattle.refusals.specs.declared.Refusal.{Refusal}
use Rattle.std.specs.Prelude.{List, ℕ, Result}
use Rattle.writing.specs.Writing.{Writes}
use Rattle.label.specs.Label.{Label}
use Rattle.label_writer.specs.Text.{is_given, label_text, label_of_given}
use Rattle.label_writer.specs.declared.Content.{Content}

-- the label that is to be written
abbrev pub label_of_content : Content → Label
label_of_content c = label_of_given c.creator.now c.time.now c.uuid.now c.given

-- a label's text, written to the front of a buffer where the label may be
abbrev pub WritesText : Label → List ℕ → List ℕ → Result ℕ Refusal → Type 0
WritesText f = Writes (is_given f) (label_text f)
