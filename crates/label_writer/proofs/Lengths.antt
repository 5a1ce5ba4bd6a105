-- How long the text of a label is, and that the text of a lawful one fits the label text's bound.
use mathlib.Core.Path.{◌≡◌, sym}
use mathlib.Core.Bool.{Bool, true, false, cond}
use mathlib.Core.List.{List, [], ◌∷◌}
use Prim.Native.Nat.{ℕ, ◌+◌, ◌*◌, ◌≤◌}
use native.Mathlib.Omega.{arith}
use borrow.Author.Tests.{leb-true}
use lib.Dec.{eqb, leb}
use lib.ListN.{length, length-append}
use Rattle.slices.specs.Slices.{every}
use Rattle.slices.specs.Words.{bytes}
use Rattle.slices.proofs.Booleans.{and_left, and_right}
use Rattle.digits.specs.Decimal.{short}
use Rattle.digits.proofs.Short.{length_short}
use Rattle.xml.specs.Bytes.{declaration}
use Rattle.values.specs.Values.{is_creator, is_time, is_uuid, in_ranges, is_plain}
use Rattle.values.proofs.Patterns.{pattern_length}
use Rattle.label.specs.Label.{Label}
use Rattle.label_writer.specs.Text.{escape, escaped, boolean_word, texts, letters, size_and_compression, text_front, text_end, label_text, is_lawful_label}
use Rattle.label_writer.proofs.Fields.{in_rules}

escape_short : (b : ℕ) → length (escape b) ≤ 5
unfolding escape bytes
escape_short b = go (eqb b 38) (eqb b 60) (eqb b 62)
  where
    go : (t u v : Bool) → length (cond t (bytes "&amp;") (cond u (bytes "&lt;") (cond v (bytes "&gt;") (b ∷ [])))) ≤ 5
    go true u v = omega arith
    go false true v = omega arith
    go false false true = omega arith
    go false false false = omega arith

escaped_short : (s : List ℕ) → length (escaped s) ≤ 5 * length s
unfolding escaped
escaped_short [] = omega arith
escaped_short (b ∷ s) = omega (arith, length-append (escape b) (escaped s), escape_short b, escaped_short s)

word_short : (c : Bool) → length (boolean_word c) ≤ 5
unfolding boolean_word bytes
word_short true = omega arith
word_short false = omega arith

pub time_length : (s : List ℕ) → is_time s ≡ true → length s ≡ 30
unfolding is_time bytes
time_length s e = sym (pattern_length _ s (and_left _ (in_ranges s) e))

pub uuid_length : (s : List ℕ) → is_uuid s ≡ true → length s ≡ 36
unfolding is_uuid bytes
uuid_length s e = sym (pattern_length _ s e)

creator_length : (s : List ℕ) → is_creator s ≡ true → length s ≤ 255
unfolding is_creator
creator_length s e = leb-true (length s) 255 (and_right (leb 1 (length s)) _ (and_left _ (every (is_plain true) s) e))

-- the bytes of a text beside its values are 298
pub length_text : (f : Label) → length (label_text f)
    ≡ 298 + length (escaped f.creator) + length f.time + length f.uuid + length (short f.block_size) + length (boolean_word f.compression)
unfolding label_text text_front text_end texts letters size_and_compression declaration bytes
length_text f = simp length-append (omega arith)

pub text_length : (f : Label) → is_lawful_label f ≡ true → length (label_text f) ≤ 4096
text_length f e =
    let ok = in_rules f e in
    let b : f.block_size ≤ 1048576 = leb-true f.block_size 1048576 (and_right (leb 4096 f.block_size) _ ok.block_size) in
    omega (
      arith,
      length_text f,
      escaped_short f.creator,
      creator_length f.creator ok.creator,
      time_length f.time ok.time,
      uuid_length f.uuid ok.uuid,
      length_short 7 f.block_size (omega arith) (omega arith),
      word_short f.compression,
    )
