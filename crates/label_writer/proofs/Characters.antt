-- The test of characters passes exactly on the bytes that some characters have: what it takes is UTF-8 by the test itself, and the bytes of a character
-- say how many they are and which it is.
use mathlib.Core.Path.{◌≡◌, refl, ap, ◌∙◌, sym}
use mathlib.Core.Bool.{Bool, true, false}
use mathlib.Core.List.{List, [], ◌∷◌, ◌++◌}
use mathlib.Core.Logic.{◌↔◌}
use Prim.Native.Nat.{ℕ, zero, suc, ◌+◌, ◌/◌, ◌%◌, ◌<◌, ◌≤◌}
use native.Mathlib.Omega.{arith}
use borrow.Author.Tests.{lt-ltb, le-ltb, ltb-true}
use lib.Dec.{ltb}
use lib.ListN.{length, take, drop, take-append-drop}
use lib.Seq.{take-append_seam}
use Rattle.slices.specs.Slices.{same}
use Rattle.slices.proofs.Booleans.{and_left, and_right, and_both}
use Rattle.slices.proofs.Equal.{same_eq, eq_same}
use Rattle.xml.specs.Grammar.{is_char, utf8}
use Rattle.label_writer.specs.Characters.{following, code_point, is_character, characters_behind, is_characters, Characters}

-- ---- what the test takes

taken : (n : ℕ) (s : List ℕ) → characters_behind n s ≡ true → Characters (drop n s)
unfolding characters_behind is_character
taken zero [] e = Characters.end
taken (suc n) [] e = Characters.end
taken zero (b ∷ s) e =
    let k = following b in
    let c = code_point (b ∷ take k s) in
    let here : is_character (b ∷ take k s) ≡ true = and_left (is_character (b ∷ take k s)) (characters_behind k s) e in
    let z : b ∷ take k s ≡ utf8 c = same_eq _ _ (and_right (is_char c) (same (b ∷ take k s) (utf8 c)) here) in
    Characters.more c (and_left (is_char c) (same (b ∷ take k s) (utf8 c)) here)
    (ap (λ (l : List ℕ). b ∷ l) (sym (take-append-drop k s)) ∙ ap (λ (l : List ℕ). l ++ drop k s) z)
    (taken k s (and_right (is_character (b ∷ take k s)) (characters_behind k s) e))
taken (suc n) (b ∷ s) e = taken n s e

-- ---- what characters have

behind_over : (w t : List ℕ) → characters_behind (length w) (w ++ t) ≡ characters_behind 0 t
unfolding characters_behind
behind_over [] t = refl
behind_over (b ∷ w) t = behind_over w t

-- the character c, of which b is the first byte and w the others
one_more : (c b : ℕ) (w t : List ℕ) → is_char c ≡ true → utf8 c ≡ b ∷ w → following b ≡ length w → code_point (b ∷ w) ≡ c → characters_behind 0 t ≡ true
    → characters_behind 0 (utf8 c ++ t) ≡ true
unfolding characters_behind is_character
one_more c b w t ok z n e h =
    let front : take (length w) (w ++ t) ≡ w = take-append_seam w t in
    let here : is_character (b ∷ w) ≡ true = rw (e, ok) (eq_same (b ∷ w) (utf8 c) (sym z)) in
    rw (z, n, front) (and_both (is_character (b ∷ w)) (characters_behind (length w) (w ++ t)) here (behind_over w t ∙ h))

one : (b : ℕ) → b < 128 → following b ≡ 0
unfolding following
one b h = rw (lt-ltb b 128 h)

two : (b : ℕ) → 128 ≤ b → b < 224 → following b ≡ 1
unfolding following
two b h g = rw (le-ltb b 128 h, lt-ltb b 224 g)

three : (b : ℕ) → 224 ≤ b → b < 240 → following b ≡ 2
unfolding following
three b h g = rw (le-ltb b 128 (omega arith), le-ltb b 224 h, lt-ltb b 240 g)

four : (b : ℕ) → 240 ≤ b → following b ≡ 3
unfolding following
four b h = rw (le-ltb b 128 (omega arith), le-ltb b 224 (omega arith), le-ltb b 240 h)

-- a code point's digits by 64
sixty_fourths : (c : ℕ) → (c / 64 / 64 ≡ c / 4096) × (c / 4096 / 64 ≡ c / 262144)
sixty_fourths c = (omega arith, omega arith)

over : (c : ℕ) (t : List ℕ) → is_char c ≡ true → characters_behind 0 t ≡ true → characters_behind 0 (utf8 c ++ t) ≡ true
unfolding utf8 code_point
over c t ok h = go (ltb c 128) (ltb c 2048) (ltb c 65536) refl refl refl
  where
    go : (p q r : Bool) → ltb c 128 ≡ p → ltb c 2048 ≡ q → ltb c 65536 ≡ r → characters_behind 0 (utf8 c ++ t) ≡ true
    go true q r e f g = one_more c c [] t ok (simp e) (one c (ltb-true c 128 e)) refl h
    go false true r e f g = one_more c (192 + c / 64) ((128 + c % 64) ∷ []) t ok (simp (e, f)) (two _ (omega arith) (omega (arith, ltb-true c 2048 f))) (omega arith) h
    go false false true e f g =
        one_more c (224 + c / 4096) ((128 + c / 64 % 64) ∷ (128 + c % 64) ∷ []) t ok (simp (e, f, g)) (three _ (omega arith) (omega (arith, ltb-true c 65536 g))) (omega (arith, (sixty_fourths c).0)) h
    go false false false e f g =
        one_more c (240 + c / 262144) ((128 + c / 4096 % 64) ∷ (128 + c / 64 % 64) ∷ (128 + c % 64) ∷ []) t ok (simp (e, f, g)) (four _ (omega arith)) (omega (arith, (sixty_fourths c).0, (sixty_fourths c).1)) h

passed : {s : List ℕ} → Characters s → is_characters s ≡ true
unfolding characters_behind
passed Characters.end = refl
passed (Characters.more c {t = t} ok z x) = ap (characters_behind 0) z ∙ over c t ok (passed x)

-- ---- the theorem

pub are_characters : (s : List ℕ) → (is_characters s ≡ true) ↔ Characters s
are_characters s = (taken 0 s, passed)
