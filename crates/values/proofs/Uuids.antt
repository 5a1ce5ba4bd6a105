-- UUIDs in two spellings (02, Item 3): a UUID spells 16 bytes; two are the same exactly where they differ in nothing but the case of their
-- digits; sameness is an equivalence of UUIDs, and looks at the bytes alone.
use mathlib.Core.Path.{◌≡◌, refl, ap, sym, ◌∙◌}
use mathlib.Core.Bool.{true, ◌&&◌}
use mathlib.Core.List.{List, [], ◌∷◌, map}
use Prim.Native.Nat.{ℕ, zero, suc, ◌+◌, ◌≤◌}
use native.Mathlib.Omega.{arith}
use lib.Dec.{ltb}
use lib.ListN.{length, drop, get_or, drop_of_length-le}
use lib.Seq.{drop-cons}
use Rattle.slices.specs.Slices.{every, same}
use Rattle.slices.specs.Words.{bytes}
use Rattle.slices.proofs.Booleans.{same_tests, and_parts}
use Rattle.slices.proofs.Equal.{same_eq, eq_same, same_both}
use Rattle.digits.specs.Hex.{is_hex, uuid_digits, uuid_bytes}
use Rattle.digits.specs.Steps.{folded}
use Rattle.digits.proofs.Spelled.{spelled_folded, spelled_length, spelled_bytes}
use Rattle.values.specs.Values.{is_uuid, same_uuid}
use Rattle.values.proofs.Patterns.{pattern_length, starred, starred_hex, starred_apart}

abbrev pattern : List ℕ
pattern = bytes "********-****-****-****-************"

-- ---- a UUID byte by byte

-- n bytes from i on
unfoldable listed : ℕ → ℕ → List ℕ → List ℕ
listed i zero s = []
listed i (suc n) s = get_or s i 0 ∷ listed (suc i) n s

rest_listed : (s : List ℕ) (n i : ℕ) → length s ≡ i + n → drop i s ≡ listed i n s
unfolding listed
rest_listed s zero i e = let h : length s ≤ i = omega arith in drop_of_length-le s h
rest_listed s (suc n) i e = drop-cons s i 0 (omega arith) ∙ ap (λ (t : List ℕ). get_or s i 0 ∷ t) (rest_listed s n (suc i) (omega arith))

listed_starred : (s : List ℕ) → uuid_digits (listed 0 36 s) ≡ starred pattern (listed 0 36 s)
unfolding listed uuid_digits starred bytes
listed_starred s = refl

listed_map : (f : ℕ → ℕ) (s : List ℕ) → map f (uuid_digits (listed 0 36 s)) ≡ uuid_digits (map f (listed 0 36 s))
unfolding listed uuid_digits
listed_map f s = refl

listed_length : (s : List ℕ) → length (uuid_digits (listed 0 36 s)) ≡ 32
unfolding listed uuid_digits
listed_length s = refl

module _ (s : List ℕ) (u : is_uuid s ≡ true) where
  is_listed : s ≡ listed 0 36 s
  unfolding is_uuid bytes
  is_listed = rest_listed s 36 0 (sym (pattern_length _ s u))

  digits_starred : uuid_digits s ≡ starred pattern s
  digits_starred = ap uuid_digits is_listed ∙ listed_starred s ∙ ap (starred pattern) (sym is_listed)

  digits_map : (f : ℕ → ℕ) → map f (uuid_digits s) ≡ uuid_digits (map f s)
  digits_map f = ap (λ (t : List ℕ). map f (uuid_digits t)) is_listed ∙ listed_map f s ∙ ap (λ (t : List ℕ). uuid_digits (map f t)) (sym is_listed)

  digits_length : length (uuid_digits s) ≡ 32
  digits_length = ap (λ (t : List ℕ). length (uuid_digits t)) is_listed ∙ listed_length s

  digits_hex : every is_hex (uuid_digits s) ≡ true
  unfolding is_uuid
  digits_hex = ap (every is_hex) digits_starred ∙ starred_hex pattern s u

  -- 16 bytes
  pub sixteen : length (uuid_bytes s) ≡ 16
  unfolding uuid_bytes
  sixteen = spelled_length 16 (uuid_digits s) digits_length

  pub sixteen_bytes : every (λ n. ltb n 256) (uuid_bytes s) ≡ true
  unfolding uuid_bytes
  sixteen_bytes = spelled_bytes (uuid_digits s) digits_hex

-- ---- two UUIDs

module _ (a b : List ℕ) (u : is_uuid a ≡ true) (v : is_uuid b ≡ true) where
  digits_apart : (f : ℕ → ℕ) → map f (uuid_digits a) ≡ map f (uuid_digits b) → map f a ≡ map f b
  unfolding is_uuid bytes
  digits_apart f z =
      starred_apart f pattern a b refl u v
      (ap (map f) (sym (digits_starred a u)) ∙ z ∙ ap (map f) (digits_starred b v))

  digits_alike : (f : ℕ → ℕ) → map f a ≡ map f b → map f (uuid_digits a) ≡ map f (uuid_digits b)
  digits_alike f z = digits_map a u f ∙ ap uuid_digits z ∙ sym (digits_map b v f)

  -- two UUIDs are the same exactly where they are spelled alike but for the case of their digits (002, 5.8)
  pub same_but_case : same_uuid a b ≡ same (map folded a) (map folded b)
  unfolding same_uuid uuid_bytes
  same_but_case =
      rw (u, v)
      (spelled_folded 16 (uuid_digits a) (uuid_digits b) (digits_length a u) (digits_length b v) (digits_hex a u) (digits_hex b v)
      ∙ same_both (map folded (uuid_digits a)) (map folded (uuid_digits b)) (map folded a) (map folded b) (digits_apart folded) (digits_alike folded))

-- ---- an equivalence of UUIDs, by their bytes alone

pub same_parts : (a b : List ℕ) → same_uuid a b ≡ true → (is_uuid a ≡ true) × (is_uuid b ≡ true) × (uuid_bytes a ≡ uuid_bytes b)
unfolding same_uuid
same_parts a b e =
    let (f, z) = and_parts (is_uuid a && is_uuid b) (same (uuid_bytes a) (uuid_bytes b)) e in
    let (u, v) = and_parts (is_uuid a) (is_uuid b) f in
    (u, v, same_eq (uuid_bytes a) (uuid_bytes b) z)

pub by_bytes : (a b : List ℕ) → is_uuid a ≡ true → is_uuid b ≡ true → uuid_bytes a ≡ uuid_bytes b → same_uuid a b ≡ true
unfolding same_uuid
by_bytes a b u v z = rw (u, v, eq_same (uuid_bytes a) (uuid_bytes b) z)

pub same_itself : (a : List ℕ) → is_uuid a ≡ true → same_uuid a a ≡ true
same_itself a u = by_bytes a a u u refl

pub same_turned : (a b : List ℕ) → same_uuid a b ≡ same_uuid b a
same_turned a b = same_tests (same_uuid a b) (same_uuid b a) (turned a b) (turned b a)
  where
    turned : (x y : List ℕ) → same_uuid x y ≡ true → same_uuid y x ≡ true
    turned x y e = let (u, v, z) = same_parts x y e in by_bytes y x v u (sym z)

pub same_through : (a b c : List ℕ) → same_uuid a b ≡ true → same_uuid b c ≡ true → same_uuid a c ≡ true
same_through a b c e f =
    let (u, v, z) = same_parts a b e in
    let (v', w, y) = same_parts b c f in
    by_bytes a c u w (z ∙ y)

-- whichever way a UUID is spelled, the same texts are the same as it
pub same_respelled : (a b t : List ℕ) → same_uuid a b ≡ true → same_uuid t a ≡ same_uuid t b
same_respelled a b t e =
    same_tests (same_uuid t a) (same_uuid t b) (λ h. same_through t a b h e) (λ h. same_through t b a h (same_turned b a ∙ e))
