-- `write` meets its contract: 14 for a field, else the text is composed and delivered.
use mathlib.Core.Path.{◌≡◌, sym, subst, ◌∙◌}
use mathlib.Core.Bool.{Bool, true}
use mathlib.Core.List.{List}
use Prim.Native.Nat.{ℕ}
use Rattle.xml.specs.CheckSteps.{in_form}
use Rattle.writing.specs.Writing.{Writes}
use Rattle.label_writer.specs.Text.{label_text, label_of_given, is_lawful_label, is_given}
use Rattle.writing.proofs.Given.{writes_not}
use Rattle.label_writer.proofs.Lengths.{text_length}
use Rattle.label_writer.proofs.Fields.{unlawful}
use Rattle.label_writer.proofs.Creators.{given_formed}
use Rattle.writing.proofs.Pieces.{text_is}
use Rattle.label_writer.proofs.write.Goals as goal

pub returns-then-not-is_lawful : goal.returns-then-not-is_lawful
returns-then-not-is_lawful c =
    let f = label_of_given c.args.creator.now c.args.time.now c.args.uuid.now c.args.g in
    writes_not (is_given f) (label_text f) c.args.out.now (unlawful f (sym c.is_lawful.ensures ∙ c.if-not-is_lawful.true))

pub returns : goal.returns
returns c =
    let f = label_of_given c.args.creator.now c.args.time.now c.args.uuid.now c.args.g in
    let ok : is_lawful_label f ≡ true = sym c.is_lawful.ensures ∙ c.if-not-is_lawful.false in
    let made : c.bytes.result.now ≡ label_text f = c.bytes.ensures ∙ text_is c.new-text.ensures.buffer c.new-text.ensures.at (text_length f ok) c.compose.ensures in
    subst (λ (t : Bool). Writes t (label_text f) c.args.out.now c.deliver.new.out c.deliver.result) (sym (given_formed f ok))
    (subst (λ (w : List ℕ). Writes (in_form w) w c.args.out.now c.deliver.new.out c.deliver.result) made c.deliver.ensures)
