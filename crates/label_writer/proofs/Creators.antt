-- A lawful label's text is in the XML form exactly where its creator is UTF-8 in XML 1.0's characters: the writer checks the form of what it composed.
use mathlib.Core.Path.{◌≡◌, refl, ap, ◌∙◌, sym, subst}
use mathlib.Core.Bool.{Bool, true, false, cond, ◌||◌, false≢true}
use mathlib.Core.List.{List, [], ◌∷◌, ◌++◌, append_assoc}
use mathlib.Core.Logic.{◌⊎◌, inl, inr}
use Prim.Native.Nat.{ℕ, ◌+◌, ◌/◌, ◌%◌, ◌<◌}
use native.Mathlib.Omega.{arith}
use borrow.Author.Tests.{ne_eqb, eqb-true, eqb-false, not-true}
use lib.Dec.{eqb, ltb, leb}
use Rattle.slices.specs.Slices.{every}
use Rattle.slices.specs.Words.{bytes}
use Rattle.slices.proofs.Booleans.{same_tests, and_left, and_right, and_both}
use Rattle.slices.proofs.Every.{every_append}
use Rattle.digits.specs.Decimal.{short}
use Rattle.xml.specs.Bytes.{declaration, is_space, is_ascii_letter, is_name_byte}
use Rattle.xml.specs.Tree.{Forest, none, node, is_not}
use Rattle.xml.specs.Grammar.{Spaces, NameBytes, Name, Char, Text, Entity, amp, lt, gt, quot, apos, is_char, utf8, Value, Quoted, Equals, Attribute, Start, End, Elements, Document}
use Rattle.xml.specs.FormSteps.{Formed}
use Rattle.xml.specs.CheckSteps.{good, form, is_good, in_form}
use Rattle.xml.proofs.Form.{form_reads, same_form, in_form_lem}
use Rattle.xml.proofs.Utf8.{ascii}
use Rattle.xml.proofs.Written.{leaf, branch}
use Rattle.texts.specs.Decoded.{decoded_behind, decoded}
use Rattle.elements.proofs.Roots.{root_row}
use Rattle.texts.proofs.Entities.{entity_byte, decoded_entity, decoded_plain}
use Rattle.label.specs.Label.{Label}
use Rattle.label_writer.specs.Text.{escape, escaped, boolean_word, texts, letters, size_and_compression, text_front, text_end, label_text, is_lawful_label, is_given}
use Rattle.label_writer.specs.Characters.{is_characters, Characters}
use Rattle.label_writer.proofs.Characters.{are_characters}
use Rattle.label_writer.proofs.Escaping.{escaped_append, decoded_escaped}
use Rattle.label_writer.proofs.Fields.{Rules, in_rules}
use Rattle.label_writer.proofs.Plain.{plain_text, spaces_plain, letter_plain, word_plain, short_plain, time_plain, uuid_plain}
use Rattle.label_writer.proofs.Elements.{named, root_head, children, text_row, append_five}

-- ---- bytes that a run lacks

abbrev lacks : ℕ → List ℕ → Bool
lacks x s = every (is_not x) s

is_not_lem : (b x : ℕ) → (b ≡ x → ⊥) → is_not x b ≡ true
unfolding is_not
is_not_lem b x h = rw (ne_eqb b x h)

not_is : (b x : ℕ) → is_not x b ≡ true → b ≡ x → ⊥
unfolding is_not
not_is b x h e = eqb-false b x (not-true (eqb b x) h) e

-- the bytes of a character other than x, where x is ASCII
utf8_lacks : (x c : ℕ) → x < 128 → (c ≡ x → ⊥) → lacks x (utf8 c) ≡ true
unfolding utf8
utf8_lacks x c h g = go (ltb c 128) (ltb c 2048) (ltb c 65536) refl refl refl
  where
    go : (p q r : Bool) → ltb c 128 ≡ p → ltb c 2048 ≡ q → ltb c 65536 ≡ r → lacks x (utf8 c) ≡ true
    go true q r e f k = simp (e, is_not_lem c x g)
    go false true r e f k = simp (e, f, is_not_lem (192 + c / 64) x (omega arith), is_not_lem (128 + c % 64) x (omega arith))
    go false false true e f k =
        simp (e, f, k, is_not_lem (224 + c / 4096) x (omega arith), is_not_lem (128 + c / 64 % 64) x (omega arith), is_not_lem (128 + c % 64) x (omega arith))
    go false false false e f k =
        simp (e, f, k, is_not_lem (240 + c / 262144) x (omega arith), is_not_lem (128 + c / 4096 % 64) x (omega arith), is_not_lem (128 + c / 64 % 64) x (omega arith), is_not_lem (128 + c % 64) x (omega arith))

-- ---- what a text means is characters

decoded_over : (v t : List ℕ) → lacks 38 v ≡ true → decoded (v ++ t) ≡ v ++ decoded t
decoded_over [] t e = refl
decoded_over (b ∷ v) t e =
    decoded_plain b (v ++ t) (not_is b 38 (and_left (is_not 38 b) (lacks 38 v) e))
    ∙ ap (λ (l : List ℕ). b ∷ l) (decoded_over v t (and_right (is_not 38 b) (lacks 38 v) e))

entity_character : {e : List ℕ} (y : Entity e) (t : List ℕ) → (is_char (entity_byte y) ≡ true) × (entity_byte y ∷ t ≡ utf8 (entity_byte y) ++ t)
unfolding is_char utf8
entity_character amp t = (refl, refl)
entity_character lt t = (refl, refl)
entity_character gt t = (refl, refl)
entity_character quot t = (refl, refl)
entity_character apos t = (refl, refl)

decoded_characters : {s : List ℕ} → Text s [] → Characters (decoded s)
unfolding decoded_behind
decoded_characters Text.end = Characters.end
decoded_characters (Text.more _ (Char.char c {t = t} ok g h z) x) =
    Characters.more c ok (ap decoded z ∙ decoded_over (utf8 c) t (utf8_lacks 38 c (omega arith) h)) (decoded_characters x)
decoded_characters (Text.more _ (Char.reference {t = t} y) x) =
    let (ok, e) = entity_character y (decoded t) in
    Characters.more (entity_byte y) ok (decoded_entity y t ∙ e) (decoded_characters x)

-- ---- characters escaped are text

escape_lacks : (b : ℕ) → lacks 62 (escape b) ≡ true
unfolding escape bytes is_not
escape_lacks b = go (eqb b 38) (eqb b 60) (eqb b 62) refl
  where
    go : (t u v : Bool) → eqb b 62 ≡ v → lacks 62 (cond t (bytes "&amp;") (cond u (bytes "&lt;") (cond v (bytes "&gt;") (b ∷ [])))) ≡ true
    go true u v e = refl
    go false true v e = refl
    go false false true e = refl
    go false false false e = rw e

escaped_lacks : (s : List ℕ) → lacks 62 (escaped s) ≡ true
unfolding escaped
escaped_lacks [] = refl
escaped_lacks (b ∷ s) = every_append (is_not 62) (escape b) (escaped s) ∙ and_both (lacks 62 (escape b)) (lacks 62 (escaped s)) (escape_lacks b) (escaped_lacks s)

no_section : (s q : List ℕ) → lacks 62 s ≡ true → s ≡ 93 ∷ 93 ∷ 62 ∷ q → ⊥
unfolding is_not
no_section s q e z = false≢true (sym (ap (lacks 62) z) ∙ e)

escaped_plain : (v : List ℕ) → lacks 38 v ≡ true → lacks 60 v ≡ true → lacks 62 v ≡ true → escaped v ≡ v
unfolding escaped escape
escaped_plain [] e f g = refl
escaped_plain (b ∷ v) e f g =
    rw (ne_eqb b 38 (not_is b 38 (and_left (is_not 38 b) (lacks 38 v) e)), ne_eqb b 60 (not_is b 60 (and_left (is_not 60 b) (lacks 60 v) f)), ne_eqb b 62 (not_is b 62 (and_left (is_not 62 b) (lacks 62 v) g)))
    (ap (λ (l : List ℕ). b ∷ l) (escaped_plain v (and_right (is_not 38 b) (lacks 38 v) e) (and_right (is_not 60 b) (lacks 60 v) f) (and_right (is_not 62 b) (lacks 62 v) g)))

escaped_char : (c : ℕ) (t : List ℕ) → is_char c ≡ true → Char (escaped (utf8 c) ++ t) t
unfolding escaped escape utf8 bytes
escaped_char c t ok = go (eqb c 38) (eqb c 60) (eqb c 62) refl refl refl
  where
    go : (p q r : Bool) → eqb c 38 ≡ p → eqb c 60 ≡ q → eqb c 62 ≡ r → Char (escaped (utf8 c) ++ t) t
    go true q r e f g = rw (eqb-true c 38 e) (Char.reference amp)
    go false true r e f g = rw (eqb-true c 60 f) (Char.reference lt)
    go false false true e f g = rw (eqb-true c 62 g) (Char.reference gt)
    go false false false e f g =
        let x = eqb-false c 38 e in
        let y = eqb-false c 60 f in
        let z = eqb-false c 62 g in
        Char.char c ok y x
        (ap (λ (l : List ℕ). l ++ t) (escaped_plain (utf8 c) (utf8_lacks 38 c (omega arith) x) (utf8_lacks 60 c (omega arith) y) (utf8_lacks 62 c (omega arith) z)))

escaped_text : {s : List ℕ} → Characters s → Text (escaped s) []
unfolding escaped
escaped_text Characters.end = Text.end
escaped_text {s} (Characters.more c {t = t} ok z x) =
    let e : escaped s ≡ escaped (utf8 c) ++ escaped t = ap escaped z ∙ escaped_append (utf8 c) t in
    Text.more (λ q. no_section (escaped s) q (escaped_lacks s)) (subst (λ (l : List ℕ). Char l (escaped t)) (sym e) (escaped_char c (escaped t) ok)) (escaped_text x)

-- ---- a label's text, derived

a_name : (b : ℕ) (w : List ℕ) → is_ascii_letter b ≡ true → every is_name_byte w ≡ true → Name (b ∷ w)
a_name b w h e = Name.name h (name_bytes w e)
  where
    name_bytes : (w : List ℕ) → every is_name_byte w ≡ true → NameBytes w
    name_bytes [] e = NameBytes.end
    name_bytes (b ∷ w) e = NameBytes.more (and_left (is_name_byte b) (every is_name_byte w) e) (name_bytes w (and_right (is_name_byte b) (every is_name_byte w) e))

-- `2.0.1` and the quote behind it
version : (t : List ℕ) → Value 34 (50 ∷ 46 ∷ 48 ∷ 46 ∷ 49 ∷ 34 ∷ t) t
unfolding is_space
version t =
    next 50 _ (omega arith) (omega arith) refl (next 46 _ (omega arith) (omega arith) refl (next 48 _ (omega arith) (omega arith) refl
    (next 46 _ (omega arith) (omega arith) refl (next 49 _ (omega arith) (omega arith) refl Value.end))))
  where
    next : (b : ℕ) (s : List ℕ) → 38 < b → b < 60 → (leb 32 b || is_space b) ≡ true → Value 34 s t → Value 34 (b ∷ s) t
    next b s h g e x =
        let quote : b ≡ 34 → ⊥ = λ z. omega arith in
        let less : b ≡ 60 → ⊥ = λ z. omega arith in
        let ampersand : b ≡ 38 → ⊥ = λ z. omega arith in
        Value.more quote (ascii b s (omega arith) e less ampersand) x

-- the root's end tag, and LF
abbrev last : List ℕ
last = 60 ∷ 47 ∷ bytes "ltfslabel" ++ 62 ∷ 10 ∷ []

module _ (f : Label) (ok : Rules f) (chars : Characters f.creator) where
  numbers_derived : Elements 63
      (node (named (bytes "blocksize") (short f.block_size)) none (node (named (bytes "compression") (boolean_word f.compression)) none none))
      (size_and_compression f.block_size f.compression ++ text_end) last
  unfolding size_and_compression text_end bytes is_ascii_letter is_name_byte
  numbers_derived =
      simp append_assoc
      (leaf (a_name _ _ refl refl) (leaf (a_name _ _ refl refl) Elements.end (boolean_word f.compression) (plain_text _ (word_plain f.compression)))
      (short f.block_size) (plain_text _ (short_plain f.block_size)))

  letters_derived : {r : List ℕ} {g : Forest} → Elements 63 g r last → Elements 63
      (node (named (bytes "location") []) (node (named (bytes "partition") (f.location ∷ [])) none none)
      (node (named (bytes "partitions") []) (node (named (bytes "index") (f.index_letter ∷ [])) none (node (named (bytes "data") (f.data_letter ∷ [])) none none)) g))
      (letters f.location f.index_letter f.data_letter ++ r) last
  unfolding letters bytes is_ascii_letter is_name_byte
  letters_derived x =
      branch (a_name _ _ refl refl)
      (branch (a_name _ _ refl refl) x
      (leaf (a_name _ _ refl refl) (leaf (a_name _ _ refl refl) Elements.end (f.data_letter ∷ []) (plain_text _ (letter_plain _ ok.data_letter)))
      (f.index_letter ∷ []) (plain_text _ (letter_plain _ ok.index_letter))))
      (leaf (a_name _ _ refl refl) Elements.end (f.location ∷ []) (plain_text _ (letter_plain _ ok.location)))

  texts_derived : {r : List ℕ} {g : Forest} → Elements 63 g r last → Elements 63
      (node (named (bytes "creator") (escaped f.creator)) none (node (named (bytes "formattime") f.time) none (node (named (bytes "volumeuuid") f.uuid) none g)))
      (texts f.creator f.time f.uuid ++ r) last
  unfolding texts bytes is_ascii_letter is_name_byte
  texts_derived x =
      simp append_assoc
      (leaf (a_name _ _ refl refl)
      (leaf (a_name _ _ refl refl)
      (leaf (a_name _ _ refl refl) x
      f.uuid (plain_text _ (uuid_plain _ ok.uuid)))
      f.time (plain_text _ (time_plain _ ok.time)))
      (escaped f.creator) (escaped_text chars))

  -- the root's tag, and the elements x in it
  root_derived : {r : List ℕ} → Elements 63 (children f) r last → Document (node root_head (children f) none) (text_front ++ r)
  unfolding text_front declaration bytes is_ascii_letter is_name_byte is_space
  root_derived x =
      Document.document (Spaces.more refl Spaces.end)
      (Elements.nest {w = []}
      (Start.start (a_name _ _ refl refl)
      (Attribute.with refl Spaces.end (a_name _ _ refl refl) (Equals.equals Spaces.end Spaces.end) (Quoted.double (version _) refl))
      Spaces.end)
      refl Spaces.end x (End.end Spaces.end) (Spaces.more refl Spaces.end) Elements.end)

  text_derived : Document (node root_head (children f) none) (label_text f)
  unfolding label_text
  text_derived =
      subst (Document (node root_head (children f) none))
      (sym (append_five text_front (texts f.creator f.time f.uuid) (letters f.location f.index_letter f.data_letter) (size_and_compression f.block_size f.compression) text_end))
      (root_derived (texts_derived (letters_derived numbers_derived)))

-- ---- the theorem

creator_read : (f : Label) → Rules f → form (label_text f) ≡ good → Characters f.creator
creator_read f ok e =
    let (h, k, r) = form_reads (label_text f) e in
    let z : node h k none ≡ node root_head (children f) none = sym (root_row r) ∙ text_row f ok in
    let y : k ≡ children f = cc in
    let (_, _, inside, _) = r.lawful in
    let (_, x, _, _) = subst Formed y inside in
    subst Characters (decoded_escaped f.creator) (go x)
  where
    go : (◌≡◌ {A = Forest} none none × Text (escaped f.creator) []) ⊎ Spaces (escaped f.creator) [] → Characters (decoded (escaped f.creator))
    go (inl (z, x)) = decoded_characters x
    go (inr x) = decoded_characters (plain_text _ (spaces_plain x))

creator_derived : (f : Label) → Rules f → Characters f.creator → in_form (label_text f) ≡ true
unfolding in_form
creator_derived f ok x = ap is_good ((same_form (label_text f)).1 (node root_head (children f) none, text_derived f ok x))

pub formed_characters : (f : Label) → is_lawful_label f ≡ true → in_form (label_text f) ≡ is_characters f.creator
formed_characters f l =
    same_tests (in_form (label_text f)) (is_characters f.creator)
    (λ e. (are_characters f.creator).1 (creator_read f (in_rules f l) (in_form_lem (label_text f) e)))
    (λ e. creator_derived f (in_rules f l) ((are_characters f.creator).0 e))

-- lawful fields may be written exactly where their text is in the form
pub given_formed : (f : Label) → is_lawful_label f ≡ true → is_given f ≡ in_form (label_text f)
unfolding is_given
given_formed f l = rw l (sym (formed_characters f l))
