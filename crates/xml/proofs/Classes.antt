-- The classes of bytes: which of them a byte cannot be in at once.
use mathlib.Core.Path.{◌≡◌, refl, ap, ◌∙◌, sym}
use mathlib.Core.Bool.{Bool, true, false, ◌||◌, false≢true, or-true, and-false}
use Prim.Native.Nat.{ℕ, ◌<◌, ◌≤◌}
use native.Mathlib.Omega.{arith}
use borrow.Author.Tests.{le-leb, leb-true, leb-false, ne_eqb, lt-leb, eqb-true}
use lib.Dec.{eqb, leb}
use Rattle.xml.specs.Bytes.{is_space, is_ascii_letter, is_name_byte}
use Rattle.xml.specs.ScanSteps.{is_text}
use Rattle.xml.proofs.Logic.{not_so}

pub space_low : (b : ℕ) → is_space b ≡ true → b ≤ 32
unfolding is_space
space_low b = go (eqb b 32) (eqb b 9) (eqb b 13) (eqb b 10) refl refl refl refl
  where
    go : (p q r u : Bool) → eqb b 32 ≡ p → eqb b 9 ≡ q → eqb b 13 ≡ r → eqb b 10 ≡ u → (p || q || r || u) ≡ true → b ≤ 32
    go true q r u e f g h z = omega (arith, eqb-true b 32 e)
    go false true r u e f g h z = omega (arith, eqb-true b 9 f)
    go false false true u e f g h z = omega (arith, eqb-true b 13 g)
    go false false false true e f g h z = omega (arith, eqb-true b 10 h)
    go false false false false e f g h z = absurd (false≢true z)

low_no_letter : (b : ℕ) → b ≤ 32 → is_ascii_letter b ≡ false
unfolding is_ascii_letter
low_no_letter b h = simp (lt-leb 97 b (omega arith), lt-leb 65 b (omega arith))

low_no_name : (b : ℕ) → b ≤ 32 → is_name_byte b ≡ false
unfolding is_name_byte
low_no_name b h =
    simp (low_no_letter b h, lt-leb 48 b (omega arith), ne_eqb b 95 (omega arith), ne_eqb b 45 (omega arith), ne_eqb b 46 (omega arith))

pub space_no_name : (b : ℕ) → is_space b ≡ true → is_name_byte b ≡ false
space_no_name b e = low_no_name b (space_low b e)

pub letter_no_space : (b : ℕ) → is_ascii_letter b ≡ true → is_space b ≡ false
letter_no_space b e = not_so (is_space b) (λ h. false≢true (sym (low_no_letter b (space_low b h)) ∙ e))

pub letter_not : (b k : ℕ) → is_ascii_letter b ≡ true → is_ascii_letter k ≡ false → eqb b k ≡ false
letter_not b k e f = ne_eqb b k (λ z. false≢true (sym f ∙ sym (ap is_ascii_letter z) ∙ e))

pub space_not : (b k : ℕ) → is_space b ≡ true → 32 < k → eqb b k ≡ false
space_not b k e f = let l : b ≤ 32 = space_low b e in ne_eqb b k (omega arith)

pub name_not : (b k : ℕ) → is_name_byte b ≡ true → is_name_byte k ≡ false → eqb b k ≡ false
name_not b k e f = ne_eqb b k (λ z. false≢true (sym f ∙ sym (ap is_name_byte z) ∙ e))

pub letter_name : (b : ℕ) → is_ascii_letter b ≡ true → is_name_byte b ≡ true
unfolding is_name_byte
letter_name b e = simp e

high_no_name : (b : ℕ) → 122 < b → is_name_byte b ≡ false
unfolding is_name_byte is_ascii_letter
high_no_name b h =
    simp (lt-leb b 122 h, lt-leb b 90 (omega arith), lt-leb b 57 (omega arith), and-false, ne_eqb b 95 (omega arith), ne_eqb b 45 (omega arith), ne_eqb b 46 (omega arith))

above : (b : ℕ) (t : Bool) → leb b 32 ≡ t → is_name_byte b ≡ true → 32 < b
above b true e n = absurd (false≢true (sym (low_no_name b (leb-true b 32 e)) ∙ n))
above b false e n = leb-false b 32 e

below : (b : ℕ) (t : Bool) → leb b 122 ≡ t → is_name_byte b ≡ true → b ≤ 122
below b true e n = leb-true b 122 e
below b false e n = absurd (false≢true (sym (high_no_name b (leb-false b 122 e)) ∙ n))

pub name_text : (b : ℕ) → is_name_byte b ≡ true → is_text b ≡ true
unfolding is_text is_name_byte is_ascii_letter
name_text b e =
    let h : 32 < b = above b (leb b 32) refl e in
    let g : b ≤ 122 = below b (leb b 122) refl e in
    simp (le-leb 32 b (omega arith), le-leb b 127 (omega arith), name_not b 60 e refl, name_not b 38 e refl, name_not b 62 e refl, name_not b 93 e refl, or-true)

pub space_text : (b : ℕ) → is_space b ≡ true → is_text b ≡ true
unfolding is_text
space_text b e = simp e

pub letter_high : (b : ℕ) → is_ascii_letter b ≡ true → 32 < b
letter_high b e = above b (leb b 32) refl (letter_name b e)
