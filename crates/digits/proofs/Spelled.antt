-- The bytes that pairs of hex digits spell: half as many, each below 256; and two runs spell the same bytes exactly where they are the same
-- but for the case of their digits.
use mathlib.Core.Path.{◌≡◌, refl, ap, ap₂, sym, ◌∙◌}
use mathlib.Core.Bool.{true, ◌&&◌}
use mathlib.Core.List.{List, [], ◌∷◌, ◌++◌, map}
use Prim.Native.Nat.{ℕ, zero, suc, ◌+◌, ◌*◌, ◌<◌}
use native.Mathlib.Omega.{arith}
use borrow.Author.Tests.{lt-ltb}
use lib.Dec.{ltb}
use lib.ListN.{length}
use Rattle.slices.specs.Slices.{every, same}
use Rattle.slices.proofs.Booleans.{and_parts, and_both}
use Rattle.slices.proofs.Equal.{same_both}
use Rattle.digits.specs.Runs.{value, digits}
use Rattle.digits.specs.Hex.{is_hex, hex_value, spelled}
use Rattle.digits.specs.Steps.{folded}
use Rattle.digits.proofs.Values.{digits_value, value_below}
use Rattle.digits.proofs.HexDigits.{hex_below, counts_alike, folded_alike}

-- the digits of each byte, two a byte
unfoldable pairs : List ℕ → List ℕ
pairs [] = []
pairs (n ∷ s) = digits 16 2 n ++ pairs s

module _ (high low : ℕ) (h : is_hex high ≡ true) (l : is_hex low ≡ true) where
  pair_hex : every is_hex (high ∷ low ∷ []) ≡ true
  pair_hex = rw (h, l)

  pair_told : digits 16 2 (value 16 hex_value 0 (high ∷ low ∷ [])) ≡ hex_value high ∷ hex_value low ∷ []
  unfolding digits
  pair_told = digits_value 16 hex_value is_hex hex_below (high ∷ low ∷ []) 0 0 pair_hex

  pair_below : value 16 hex_value 0 (high ∷ low ∷ []) < 256
  pair_below = value_below 16 hex_value is_hex hex_below (high ∷ low ∷ []) 0 pair_hex

-- what is spelled tells what each digit counts
told : (k : ℕ) (s : List ℕ) → length s ≡ 2 * k → every is_hex s ≡ true → pairs (spelled s) ≡ map hex_value s
unfolding spelled pairs
told k [] n e = refl
told k (high ∷ []) n e = absurd (omega arith)
told zero (high ∷ low ∷ s) n e = absurd (omega arith)
told (suc k) (high ∷ low ∷ s) n e =
    let (h, f) = and_parts (is_hex high) (is_hex low && every is_hex s) e in
    let (l, g) = and_parts (is_hex low) (every is_hex s) f in
    ap₂ ◌++◌ (pair_told high low h l) (told k s (omega arith) g)

-- digits that count the same spell the same
spelled_alike : (s t : List ℕ) → map hex_value s ≡ map hex_value t → spelled s ≡ spelled t
unfolding spelled value
spelled_alike [] [] z = refl
spelled_alike [] (b ∷ t) z = let y : ◌≡◌ {A = ℕ} 0 1 = cc in absurd (omega arith)
spelled_alike (a ∷ s) [] z = let y : ◌≡◌ {A = ℕ} 0 1 = cc in absurd (omega arith)
spelled_alike (a ∷ []) (b ∷ []) z = refl
spelled_alike (a ∷ []) (b ∷ d ∷ t) z = let y : ◌≡◌ {A = ℕ} 0 1 = cc in absurd (omega arith)
spelled_alike (a ∷ c ∷ s) (b ∷ []) z = let y : ◌≡◌ {A = ℕ} 0 1 = cc in absurd (omega arith)
spelled_alike (a ∷ c ∷ s) (b ∷ d ∷ t) z =
    let h : hex_value a ≡ hex_value b = cc in
    let l : hex_value c ≡ hex_value d = cc in
    let r : map hex_value s ≡ map hex_value t = cc in
    ap₂ ◌∷◌ (ap₂ (λ (x y : ℕ). (0 * 16 + x) * 16 + y) h l) (spelled_alike s t r)

module _ (k : ℕ) (s t : List ℕ) (m : length s ≡ 2 * k) (n : length t ≡ 2 * k) (e : every is_hex s ≡ true) (f : every is_hex t ≡ true) where
  -- the same bytes exactly where the digits are the same but for their case
  pub spelled_folded : same (spelled s) (spelled t) ≡ same (map folded s) (map folded t)
  spelled_folded =
      same_both (spelled s) (spelled t) (map folded s) (map folded t)
      (λ z. folded_alike s t e f (sym (told k s m e) ∙ ap pairs z ∙ told k t n f))
      (λ z. spelled_alike s t (counts_alike s t e f z))

-- half as many bytes as digits
pub spelled_length : (k : ℕ) (s : List ℕ) → length s ≡ 2 * k → length (spelled s) ≡ k
unfolding spelled
spelled_length zero [] n = refl
spelled_length (suc k) [] n = absurd (omega arith)
spelled_length k (high ∷ []) n = absurd (omega arith)
spelled_length zero (high ∷ low ∷ s) n = absurd (omega arith)
spelled_length (suc k) (high ∷ low ∷ s) n = ap suc (spelled_length k s (omega arith))

-- each of them a byte
pub spelled_bytes : (s : List ℕ) → every is_hex s ≡ true → every (λ n. ltb n 256) (spelled s) ≡ true
unfolding spelled
spelled_bytes [] e = refl
spelled_bytes (high ∷ []) e = refl
spelled_bytes (high ∷ low ∷ s) e =
    let (h, f) = and_parts (is_hex high) (is_hex low && every is_hex s) e in
    let (l, g) = and_parts (is_hex low) (every is_hex s) f in
    and_both _ (every (λ n. ltb n 256) (spelled s)) (lt-ltb _ 256 (pair_below high low h l)) (spelled_bytes s g)
