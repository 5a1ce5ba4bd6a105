-- Plain bytes, which text has under no further rule: runs of them are text and hold no `<`; the values of a label but its creator are such runs.
use mathlib.Core.Path.{◌≡◌, refl}
use mathlib.Core.Bool.{Bool, true, false, not, ◌&&◌, ◌||◌, false≢true, or-true}
use mathlib.Core.List.{List, [], ◌∷◌}
use Prim.Native.Nat.{ℕ, ◌<◌, ◌≤◌}
use native.Mathlib.Omega.{arith}
use borrow.Author.Tests.{ne_eqb, eqb-false, leb-true, le-leb}
use lib.Dec.{eqb, leb}
use Rattle.slices.specs.Slices.{every, within}
use Rattle.slices.specs.Words.{bytes}
use Rattle.slices.proofs.Booleans.{and_left, and_right, and_both}
use Rattle.slices.proofs.Ranges.{range}
use Rattle.slices.proofs.Every.{every_weaker}
use Rattle.quantities.specs.Letters.{is_letter as is_partition}
use Rattle.digits.specs.Decimal.{is_digit, short}
use Rattle.digits.specs.Hex.{is_hex}
use Rattle.digits.proofs.HexDigits.{hex_each}
use Rattle.digits.proofs.Short.{digits_short}
use Rattle.xml.specs.Bytes.{is_space, is_ascii_letter, is_name_byte}
use Rattle.xml.specs.Tree.{is_not, not_open}
use Rattle.xml.specs.ScanSteps.{is_text}
use Rattle.xml.specs.Grammar.{Spaces, Text}
use Rattle.xml.proofs.Logic.{cons_head}
use Rattle.xml.proofs.Classes.{space_low, space_text, name_text, letter_name}
use Rattle.xml.proofs.Utf8.{ascii}
use Rattle.values.specs.Values.{is_time, is_uuid, in_ranges}
use Rattle.values.proofs.Patterns.{pattern_every}
use Rattle.label_writer.specs.Text.{boolean_word}

none_of : (a b c d : Bool) → not (a || b || c || d) ≡ true → (a ≡ false) × (b ≡ false) × (d ≡ false)
none_of true b c d e = absurd (false≢true e)
none_of false true c d e = absurd (false≢true e)
none_of false false true d e = absurd (false≢true e)
none_of false false false true e = absurd (false≢true e)
none_of false false false false e = (refl, refl, refl)

record Plain (b : ℕ) : Type 0 where
  low : b < 128
  shown : (leb 32 b || is_space b) ≡ true
  no_open : b ≡ 60 → ⊥
  no_and : b ≡ 38 → ⊥
  no_bracket : b ≡ 93 → ⊥

plain : (b : ℕ) → is_text b ≡ true → Plain b
unfolding is_text
plain b = go (is_space b) refl
  where
    go : (t : Bool) → is_space b ≡ t → (t || (within 32 127 b && not (eqb b 60 || eqb b 38 || eqb b 62 || eqb b 93))) ≡ true → Plain b
    go true e h =
        let l : b ≤ 32 = space_low b e in
        record { low = omega arith; shown = rw (e, or-true); no_open = λ z. omega arith; no_and = λ z. omega arith; no_bracket = λ z. omega arith }
    go false e h =
        let w : within 32 127 b ≡ true = and_left (within 32 127 b) _ h in
        let k : b ≤ 127 = leb-true b 127 (and_right (leb 32 b) (leb b 127) w) in
        let (x, y, z) = none_of (eqb b 60) (eqb b 38) (eqb b 62) (eqb b 93) (and_right (within 32 127 b) _ h) in
        record { low = omega arith; shown = rw (and_left (leb 32 b) (leb b 127) w); no_open = eqb-false b 60 x; no_and = eqb-false b 38 y; no_bracket = eqb-false b 93 z }

pub plain_text : (s : List ℕ) → every is_text s ≡ true → Text s []
plain_text [] e = Text.end
plain_text (b ∷ s) e =
    let p = plain b (and_left (is_text b) (every is_text s) e) in
    Text.more (λ r z. p.no_bracket (cons_head z)) (ascii b s p.low p.shown p.no_open p.no_and) (plain_text s (and_right (is_text b) (every is_text s) e))

pub spaces_plain : {s : List ℕ} → Spaces s [] → every is_text s ≡ true
spaces_plain Spaces.end = refl
spaces_plain (Spaces.more {b} {s} h x) = and_both (is_text b) (every is_text s) (space_text b h) (spaces_plain x)

pub plain_closed : (s : List ℕ) → every is_text s ≡ true → every not_open s ≡ true
unfolding is_not
plain_closed s = every_weaker is_text not_open (λ b e. rw (ne_eqb b 60 (plain b e).no_open)) s

-- ---- the values

digit_plain : (b : ℕ) → is_digit b ≡ true → is_text b ≡ true
unfolding is_name_byte
digit_plain b e = name_text b (simp (e, or-true))

small_plain : (b : ℕ) → 97 ≤ b → b ≤ 122 → is_text b ≡ true
unfolding is_ascii_letter
small_plain b h g = name_text b (letter_name b (simp (le-leb 97 b h, le-leb b 122 g)))

large_plain : (b : ℕ) → 65 ≤ b → b ≤ 90 → is_text b ≡ true
unfolding is_ascii_letter
large_plain b h g = name_text b (letter_name b (simp (le-leb 65 b h, le-leb b 90 g, or-true)))

hex_plain : (b : ℕ) → is_hex b ≡ true → is_text b ≡ true
hex_plain =
    hex_each (λ b. is_text b ≡ true) digit_plain (λ b e. let (x, y) = range 97 102 b e in small_plain b x (omega arith))
    (λ b e. let (x, y) = range 65 70 b e in large_plain b x (omega arith))

pub letter_plain : (b : ℕ) → is_partition b ≡ true → every is_text (b ∷ []) ≡ true
letter_plain b e = let (x, y) = range 97 122 b e in rw (small_plain b x y)

pub word_plain : (c : Bool) → every is_text (boolean_word c) ≡ true
unfolding boolean_word bytes is_text is_space
word_plain true = refl
word_plain false = refl

pub short_plain : (n : ℕ) → every is_text (short n) ≡ true
short_plain n = every_weaker is_digit is_text digit_plain (short n) (digits_short n)

pub time_plain : (s : List ℕ) → is_time s ≡ true → every is_text s ≡ true
unfolding is_time bytes is_text is_space
time_plain s e = pattern_every is_text digit_plain hex_plain (bytes "####-##-##T##:##:##.#########Z") s refl (and_left _ (in_ranges s) e)

pub uuid_plain : (s : List ℕ) → is_uuid s ≡ true → every is_text s ≡ true
unfolding is_uuid bytes is_text is_space
uuid_plain s e = pattern_every is_text digit_plain hex_plain (bytes "********-****-****-****-************") s refl e
