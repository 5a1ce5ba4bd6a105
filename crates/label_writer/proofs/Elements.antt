-- The elements of a label's text, read off its bytes: the root with its seven children in order, each with the text that was written.
use mathlib.Core.Path.{◌≡◌, refl, ap, ◌∙◌}
use mathlib.Core.Bool.{true}
use mathlib.Core.List.{List, [], ◌∷◌, ◌++◌, append_assoc}
use Prim.Native.Nat.{ℕ}
use lib.ListN.{drop}
use Rattle.slices.specs.Slices.{every}
use Rattle.slices.specs.Words.{bytes}
use Rattle.digits.specs.Decimal.{short}
use Rattle.xml.specs.Bytes.{declaration, is_name_byte, is_ascii_letter, is_space}
use Rattle.xml.specs.Tree.{Head, Forest, none, node, front, behind, is_not, not_open, quote_after, past, quoted, head_of, top, pop, closed, opened, alone, put, trees, behind_tag, forests}
use Rattle.xml.specs.Grammar.{head}
use Rattle.elements.specs.Reading.{forest_at}
use Rattle.label.specs.Label.{Label}
use Rattle.label_writer.specs.Text.{escaped, boolean_word, texts, letters, size_and_compression, text_front, text_end, label_text}
use Rattle.label_writer.proofs.Escaping.{escaped_closed}
use Rattle.label_writer.proofs.Fields.{Rules}
use Rattle.label_writer.proofs.Plain.{plain_closed, letter_plain, word_plain, short_plain, time_plain, uuid_plain}
use Rattle.xml.proofs.Spelled.{leaf, branch, end_tag}

-- an element without an attribute
abbrev pub named : List ℕ → List ℕ → Head
named n w = head n [] [] w

module _ (r : List ℕ) where
  texts_read : (c t u : List ℕ) → every not_open c ≡ true → every not_open t ≡ true → every not_open u ≡ true
      → forests (bytes "<creator>" ++ c ++ bytes "</creator><formattime>" ++ t ++ bytes "</formattime><volumeuuid>" ++ u ++ bytes "</volumeuuid>" ++ r)
      ≡ alone (named (bytes "creator") c) (alone (named (bytes "formattime") t) (alone (named (bytes "volumeuuid") u) (forests r)))
  unfolding bytes is_name_byte is_ascii_letter
  texts_read c t u e f g =
      simp append_assoc
      (leaf (bytes "creator") refl c _ e
      ∙ ap (alone (named (bytes "creator") c)) (leaf (bytes "formattime") refl t _ f
      ∙ ap (alone (named (bytes "formattime") t)) (leaf (bytes "volumeuuid") refl u r g)))

  letters_read : (l i d : ℕ) → every not_open (l ∷ []) ≡ true → every not_open (i ∷ []) ≡ true → every not_open (d ∷ []) ≡ true
      → forests (letters l i d ++ r)
      ≡ opened (named (bytes "location") []) (alone (named (bytes "partition") (l ∷ [])) (closed
      (opened (named (bytes "partitions") []) (alone (named (bytes "index") (i ∷ [])) (alone (named (bytes "data") (d ∷ [])) (closed (forests r)))))))
  unfolding letters bytes is_name_byte is_ascii_letter
  letters_read l i d e f g =
      branch (bytes "location") refl _
      ∙ ap (opened (named (bytes "location") [])) (leaf (bytes "partition") refl (l ∷ []) _ e
      ∙ ap (alone (named (bytes "partition") (l ∷ []))) (end_tag (bytes "location") refl _
      ∙ ap closed (branch (bytes "partitions") refl _
      ∙ ap (opened (named (bytes "partitions") [])) (leaf (bytes "index") refl (i ∷ []) _ f
      ∙ ap (alone (named (bytes "index") (i ∷ []))) (leaf (bytes "data") refl (d ∷ []) _ g
      ∙ ap (alone (named (bytes "data") (d ∷ []))) (end_tag (bytes "partitions") refl r))))))

  numbers_read : (b c : List ℕ) → every not_open b ≡ true → every not_open c ≡ true
      → forests (bytes "<blocksize>" ++ b ++ bytes "</blocksize><compression>" ++ c ++ bytes "</compression>" ++ r)
      ≡ alone (named (bytes "blocksize") b) (alone (named (bytes "compression") c) (forests r))
  unfolding bytes is_name_byte is_ascii_letter
  numbers_read b c e f =
      simp append_assoc
      (leaf (bytes "blocksize") refl b _ e ∙ ap (alone (named (bytes "blocksize") b)) (leaf (bytes "compression") refl c r f))

abbrev pub root_head : Head
root_head = head (bytes "ltfslabel") (bytes "version") (bytes "2.0.1") []

-- the root's tag is read alike before any other
opening_read : (s : List ℕ) → forests (drop 38 (text_front ++ 60 ∷ s)) ≡ opened root_head (forests (60 ∷ s))
unfolding text_front declaration bytes trees is_not put past quote_after head_of behind_tag front behind quoted is_name_byte is_ascii_letter is_space
opening_read s = refl

closing_read : forests text_end ≡ closed []
unfolding text_end bytes trees is_not put
closing_read = refl

-- the root's children
abbrev pub children : Label → Forest
children f =
    node (named (bytes "creator") (escaped f.creator)) none
    (node (named (bytes "formattime") f.time) none
    (node (named (bytes "volumeuuid") f.uuid) none
    (node (named (bytes "location") []) (node (named (bytes "partition") (f.location ∷ [])) none none)
    (node (named (bytes "partitions") []) (node (named (bytes "index") (f.index_letter ∷ [])) none (node (named (bytes "data") (f.data_letter ∷ [])) none none))
    (node (named (bytes "blocksize") (short f.block_size)) none
    (node (named (bytes "compression") (boolean_word f.compression)) none none))))))

pub append_five : (a b c d e : List ℕ) → a ++ b ++ c ++ d ++ e ≡ a ++ (b ++ (c ++ (d ++ e)))
append_five a b c d e = simp append_assoc

module _ (f : Label) (ok : Rules f) where
  rest_read : forests (texts f.creator f.time f.uuid ++ (letters f.location f.index_letter f.data_letter ++ (size_and_compression f.block_size f.compression ++ text_end)))
      ≡ children f ∷ []
  unfolding texts size_and_compression alone opened closed top pop
  rest_read =
      texts_read _ (escaped f.creator) f.time f.uuid (escaped_closed f.creator) (plain_closed _ (time_plain f.time ok.time)) (plain_closed _ (uuid_plain f.uuid ok.uuid))
      ∙ ap (λ (fs : List Forest). alone (named (bytes "creator") (escaped f.creator)) (alone (named (bytes "formattime") f.time) (alone (named (bytes "volumeuuid") f.uuid) fs)))
      (letters_read _ f.location f.index_letter f.data_letter
      (plain_closed (f.location ∷ []) (letter_plain f.location ok.location)) (plain_closed (f.index_letter ∷ []) (letter_plain f.index_letter ok.index_letter))
      (plain_closed (f.data_letter ∷ []) (letter_plain f.data_letter ok.data_letter))
      ∙ ap (λ (fs : List Forest). opened (named (bytes "location") []) (alone (named (bytes "partition") (f.location ∷ [])) (closed
      (opened (named (bytes "partitions") []) (alone (named (bytes "index") (f.index_letter ∷ [])) (alone (named (bytes "data") (f.data_letter ∷ [])) (closed fs)))))))
      (numbers_read text_end (short f.block_size) (boolean_word f.compression) (plain_closed _ (short_plain f.block_size)) (plain_closed _ (word_plain f.compression))
      ∙ ap (λ (fs : List Forest). alone (named (bytes "blocksize") (short f.block_size)) (alone (named (bytes "compression") (boolean_word f.compression)) fs)) closing_read))

  -- behind the declaration the root stands, and nothing after it
  pub text_row : forest_at (label_text f) 38 ≡ node root_head (children f) none
  unfolding label_text texts bytes opened top pop
  text_row =
      let e = append_five text_front (texts f.creator f.time f.uuid) (letters f.location f.index_letter f.data_letter) (size_and_compression f.block_size f.compression) text_end in
      ap (λ (s : List ℕ). forest_at s 38) e ∙ ap top (opening_read _ ∙ ap (opened root_head) rest_read)
