-- The round trip of the writer and the reader, by what the functions promise: what `write` stored, in whatever buffer, `read` reads as the fields that
-- were given.
use Rattle.std.specs.Prelude.{Ok, Some}
use mathlib.Core.Path.{◌≡◌, refl, ap, ◌∙◌, sym}
use mathlib.Core.Bool.{Bool, true, false}
use mathlib.Core.List.{List, [], ◌∷◌}
use Prim.Native.Nat.{ℕ, ◌≤◌}
use native.Mathlib.Omega.{arith}
use borrow.Author.Tests.{leb-true}
use lib.Dec.{leb}
use Rattle.slices.specs.Words.{bytes}
use Rattle.slices.proofs.Booleans.{and_left, and_right}
use Rattle.quantities.specs.Letters.{is_letter}
use Rattle.digits.specs.Runs as runs
use Rattle.digits.specs.Decimal as decimal
use Rattle.xml.specs.Tree.{none}
use Rattle.elements.specs.Reading.{has_element}
use Rattle.children.specs.Rules.{rule_number, mark_of}
use Rattle.children.specs.Children.{may_hold, matching, all_known, at_most_one, below, lawful_children, text_of_first as text_of_first, children_of_first}
use Rattle.values.specs.Values.{boolean, letter, version}
use Rattle.values.proofs.SchemaForm.{number_short}
use Rattle.label_writer.specs.declared.Given.{Given}
use Rattle.label.specs.Label.{Label, Texts, is_shaped, texts_in, label_from, label_of}
use Rattle.label.specs.Steps.{means}
use Rattle.label_writer.specs.Characters.{is_characters}
use Rattle.label_writer.specs.Text.{escaped, boolean_word, label_text, label_of_given, is_lawful_label, is_given}
use Rattle.writing.specs.Writing.{Writes}
use Rattle.writing.proofs.Given.{Rereads, rereads}
use Rattle.label_writer.proofs.Escaping.{decoded_escaped}
use Rattle.label_writer.proofs.Lengths.{text_length}
use Rattle.label_writer.proofs.Fields.{Rules, in_rules}
use Rattle.label_writer.proofs.Creators.{given_formed}
use Rattle.label.proofs.Values.{the_root, the_first}
use Rattle.label_writer.proofs.Elements.{root_head, children, text_row}

-- ---- the definitions: the label that a label's text is

letter_alone : (b : ℕ) → is_letter b ≡ true → letter (b ∷ []) ≡ Some b
unfolding letter
letter_alone b e = rw e

word_says : (c : Bool) → boolean (boolean_word c) ≡ Some c
unfolding boolean_word boolean bytes
word_says true = refl
word_says false = refl

version_says : version (bytes "2.0.1") ≡ Some 1
unfolding version bytes decimal.plain_number decimal.plain decimal.run decimal.is_run runs.value
version_says = refl

children_shaped : (f : Label) → is_shaped (children f) ≡ true
unfolding is_shaped lawful_children bytes all_known may_hold mark_of rule_number matching at_most_one below has_element children_of_first
children_shaped f = refl

-- the texts that were written
abbrev shown : Label → Texts
shown f =
    record {
      creator = escaped f.creator;
      time = f.time;
      uuid = f.uuid;
      location = f.location ∷ [];
      index_letter = f.index_letter ∷ [];
      data_letter = f.data_letter ∷ [];
      block_size = decimal.short f.block_size;
      compression = boolean_word f.compression;
    }

children_texts : (f : Label) → texts_in (children f) ≡ shown f
unfolding texts_in bytes matching text_of_first children_of_first
children_texts f = refl

-- the same values in another release
abbrev released : ℕ → Label → Label
released n f =
    record {
      release = n;
      creator = f.creator;
      time = f.time;
      uuid = f.uuid;
      location = f.location;
      index_letter = f.index_letter;
      data_letter = f.data_letter;
      block_size = f.block_size;
      compression = f.compression;
    }

values_read : (f : Label) → Rules f → label_from 1 (shown f) ≡ Ok (released 1 f)
unfolding label_from
values_read f ok =
    let h : f.block_size ≤ 1048576 = leb-true f.block_size 1048576 (and_right (leb 4096 f.block_size) (leb f.block_size 1048576) ok.block_size) in
    rw (
      decoded_escaped f.creator,
      ok.creator,
      ok.time,
      ok.uuid,
      letter_alone f.location ok.location,
      letter_alone f.index_letter ok.index_letter,
      letter_alone f.data_letter ok.data_letter,
      ok.fit,
      number_short f.block_size (omega arith),
      ok.block_size,
      word_says f.compression,
    )

-- the text of a label of version 2.0.1 that may be written is that label
pub text_reads : (f : Label) → is_given f ≡ true → f.release ≡ 1 → label_of (label_text f) ≡ Ok f
unfolding is_given bytes
text_reads f given e =
    let l : is_lawful_label f ≡ true = and_left (is_lawful_label f) (is_characters f.creator) given in
    let ok = in_rules f l in
    sym (the_first (label_text f) (text_length f l) (sym (given_formed f l) ∙ given) root_head (children f) none (text_row f ok))
    ∙ sym (the_root root_head (children f) refl version_says (children_shaped f))
    ∙ ap (label_from 1) (children_texts f)
    ∙ values_read f ok
    ∙ ap (λ (n : ℕ). Ok (released n f)) (sym e)

-- ---- the functions

-- what `write` stored, `read` reads as the fields that were given, version 2.0.1
pub label_rereads : (creator time uuid : List ℕ) (g : Given) (before after : List ℕ) (n : ℕ)
    → Writes (is_given (label_of_given creator time uuid g)) (label_text (label_of_given creator time uuid g)) before after (Ok n)
    → Rereads means label_of (label_text (label_of_given creator time uuid g)) (label_of_given creator time uuid g) after n
label_rereads creator time uuid g before after n =
    rereads means label_of (is_given (label_of_given creator time uuid g)) (label_text (label_of_given creator time uuid g)) (label_of_given creator time uuid g)
    (λ ok. text_reads (label_of_given creator time uuid g) ok refl) before after n
