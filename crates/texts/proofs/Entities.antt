-- What is meant by a text put together from bytes and references; it is never longer than the text.
use mathlib.Core.Path.{◌≡◌, refl}
use mathlib.Core.List.{List, [], ◌∷◌, ◌++◌}
use Prim.Native.Nat.{ℕ, zero, suc, ◌≤◌}
use native.Mathlib.Omega.{arith}
use borrow.Author.Tests.{ne_eqb}
use lib.ListN.{length}
use Rattle.xml.specs.Grammar.{Entity, amp, lt, gt, quot, apos}
use Rattle.texts.specs.Decoded.{reference_meant, meaning, decoded_behind, decoded}
use Rattle.slices.specs.Words.{bytes}

-- the byte that a reference stands for
abbrev pub entity_byte : {e : List ℕ} → Entity e → ℕ
entity_byte amp = 38
entity_byte lt = 60
entity_byte gt = 62
entity_byte quot = 34
entity_byte apos = 39

pub decoded_entity : {e : List ℕ} (x : Entity e) (s : List ℕ) → decoded (38 ∷ e ++ s) ≡ entity_byte x ∷ decoded s
unfolding reference_meant meaning decoded_behind bytes
decoded_entity amp s = refl
decoded_entity lt s = refl
decoded_entity gt s = refl
decoded_entity quot s = refl
decoded_entity apos s = refl

pub decoded_plain : (b : ℕ) (s : List ℕ) → (b ≡ 38 → ⊥) → decoded (b ∷ s) ≡ b ∷ decoded s
unfolding meaning decoded_behind
decoded_plain b s e = rw (ne_eqb b 38 e)

behind_shorter : (n : ℕ) (s : List ℕ) → length (decoded_behind n s) ≤ length s
unfolding decoded_behind
behind_shorter n [] = omega arith
behind_shorter zero (b ∷ s) = omega (arith, behind_shorter (meaning b s).more s)
behind_shorter (suc n) (b ∷ s) = omega (arith, behind_shorter n s)

pub decoded_shorter : (s : List ℕ) → length (decoded s) ≤ length s
decoded_shorter s = behind_shorter 0 s
