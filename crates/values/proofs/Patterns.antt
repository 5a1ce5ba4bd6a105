-- A text by its pattern, along both: at each byte that is passed, at one that does not fit, at the end; a text in a pattern has its length, and
-- passes each test that the pattern and all digits pass; its hex digits tell it.
use mathlib.Core.Path.{◌≡◌, refl, ap, ap₂, ◌∙◌, sym}
use mathlib.Core.Bool.{Bool, true, false, not, cond, false≢true, ◌&&◌, and-true, and_assoc}
use mathlib.Core.List.{List, [], ◌∷◌, map}
use Prim.Native.Nat.{ℕ, suc}
use native.Mathlib.Omega.{arith}
use borrow.Author.Tests.{eqb-true, eq-eqb, leb-true, le-leb, not-true}
use lib.Dec.{leb, eqb}
use lib.ListN.{length}
use Rattle.std.specs.List.{list_all, fold, zip}
use Rattle.slices.specs.Slices.{within, every}
use Rattle.slices.specs.Words.{bytes}
use Rattle.slices.proofs.Booleans.{split, and_left, and_right, and_both, and_parts, same_tests}
use Rattle.digits.specs.Decimal.{is_digit}
use Rattle.digits.specs.Hex.{is_hex}
use Rattle.values.specs.Values.{by_pattern, in_pattern}
use Rattle.values.specs.Steps.{between}

-- byte by byte
pub zip_pattern : (p s : List ℕ) → length p ≡ length s → list_all (λ (x : ℕ × ℕ). by_pattern x.0 x.1) (zip p s) ≡ in_pattern p s
unfolding in_pattern
zip_pattern [] [] h = refl
zip_pattern [] (b ∷ s) h = absurd (omega arith)
zip_pattern (q ∷ p) [] h = absurd (omega arith)
zip_pattern (q ∷ p) (b ∷ s) h = ap (λ (t : Bool). by_pattern q b && t) (zip_pattern p s (omega arith))

pub pattern_length : (p s : List ℕ) → in_pattern p s ≡ true → length p ≡ length s
unfolding in_pattern
pattern_length [] [] e = refl
pattern_length [] (b ∷ s) e = absurd (false≢true e)
pattern_length (q ∷ p) [] e = absurd (false≢true e)
pattern_length (q ∷ p) (b ∷ s) e = ap suc (pattern_length p s (and_right (by_pattern q b) (in_pattern p s) e))

pub pattern_differs : (p s : List ℕ) → (length p ≡ length s → ⊥) → in_pattern p s ≡ false
pattern_differs p s h = go (in_pattern p s) (pattern_length p s)
  where
    go : (t : Bool) → (t ≡ true → length p ≡ length s) → t ≡ false
    go true f = absurd (h (f refl))
    go false f = refl

-- a test that every digit passes, and every byte of the pattern, is passed by each byte of a text in the pattern
module _ (test : ℕ → Bool) (digit : (b : ℕ) → is_digit b ≡ true → test b ≡ true) (hex : (b : ℕ) → is_hex b ≡ true → test b ≡ true) where
  fits_test : (q b : ℕ) → test q ≡ true → by_pattern q b ≡ true → test b ≡ true
  unfolding by_pattern
  fits_test q b h = go (eqb q 35) (eqb q 42)
    where
      go : (t u : Bool) → cond t (is_digit b) (cond u (is_hex b) (eqb q b)) ≡ true → test b ≡ true
      go true u e = digit b e
      go false true e = hex b e
      go false false e = ap test (sym (eqb-true q b e)) ∙ h

  pub pattern_every : (p s : List ℕ) → every test p ≡ true → in_pattern p s ≡ true → every test s ≡ true
  unfolding in_pattern
  pattern_every [] [] h e = refl
  pattern_every [] (b ∷ s) h e = absurd (false≢true e)
  pattern_every (q ∷ p) [] h e = absurd (false≢true e)
  pattern_every (q ∷ p) (b ∷ s) h e =
      and_both (test b) (every test s)
      (fits_test q b (and_left (test q) (every test p) h) (and_left (by_pattern q b) (in_pattern p s) e))
      (pattern_every p s (and_right (test q) (every test p) h) (and_right (by_pattern q b) (in_pattern p s) e))

-- ---- a text by the least and the greatest in a pattern

-- byte by byte
abbrev pub lies : Bool → (ℕ × ℕ) × ℕ → Bool
lies so x = so && within x.0.0 x.0.1 x.1

pub fold_between : (so : Bool) (low high s : List ℕ) → length low ≡ length s → length high ≡ length s
    → fold lies so (zip (zip low high) s) ≡ (so && between low high s)
unfolding between
fold_between so [] [] [] p q = sym (and-true so)
fold_between so (l ∷ low) (h ∷ high) (b ∷ s) p q =
    fold_between (so && within l h b) low high s (omega arith) (omega arith) ∙ and_assoc so (within l h b) (between low high s)
fold_between so [] [] (b ∷ s) p q = absurd (omega arith)
fold_between so [] (h ∷ high) [] p q = absurd (omega arith)
fold_between so [] (h ∷ high) (b ∷ s) p q = absurd (omega arith)
fold_between so (l ∷ low) [] [] p q = absurd (omega arith)
fold_between so (l ∷ low) [] (b ∷ s) p q = absurd (omega arith)
fold_between so (l ∷ low) (h ∷ high) [] p q = absurd (omega arith)

-- the least and the greatest byte that fit a pattern's byte, which is no star
abbrev pub least : ℕ → ℕ
least q = cond (eqb q 35) 48 q

abbrev pub greatest : ℕ → ℕ
greatest q = cond (eqb q 35) 57 q

itself_only : (q b : ℕ) → within q q b ≡ eqb q b
itself_only q b =
    same_tests (within q q b) (eqb q b)
    (λ e. eq-eqb q b (omega (arith, leb-true q b (and_left (leb q b) (leb b q) e), leb-true b q (and_right (leb q b) (leb b q) e))))
    (λ e. let z : q ≡ b = eqb-true q b e in and_both (leb q b) (leb b q) (le-leb q b (omega arith)) (le-leb b q (omega arith)))

fits_between : (q b : ℕ) → eqb q 42 ≡ false → within (least q) (greatest q) b ≡ by_pattern q b
unfolding by_pattern
fits_between q b n = go (eqb q 35)
  where
    go : (t : Bool) → within (cond t 48 q) (cond t 57 q) b ≡ cond t (is_digit b) (cond (eqb q 42) (is_hex b) (eqb q b))
    go true = refl
    go false = rw n (itself_only q b)

pub between_pattern : (p s : List ℕ) → every (λ q. not (eqb q 42)) p ≡ true → length p ≡ length s
    → between (map least p) (map greatest p) s ≡ in_pattern p s
unfolding between in_pattern
between_pattern [] [] n h = refl
between_pattern [] (b ∷ s) n h = absurd (omega arith)
between_pattern (q ∷ p) [] n h = absurd (omega arith)
between_pattern (q ∷ p) (b ∷ s) n h =
    let (f, g) = and_parts (not (eqb q 42)) (every (λ q. not (eqb q 42)) p) n in
    ap₂ ◌&&◌ (fits_between q b (not-true (eqb q 42) f)) (between_pattern p s g (omega arith))

pub time_between : (s : List ℕ) → length s ≡ 30
    → between (bytes "0000-00-00T00:00:00.000000000Z") (bytes "9999-99-99T99:99:99.999999999Z") s ≡ in_pattern (bytes "####-##-##T##:##:##.#########Z") s
unfolding bytes
time_between s h = between_pattern (bytes "####-##-##T##:##:##.#########Z") s refl (sym h)

-- ---- the hex digits of a text in a pattern

-- the bytes in the places where the pattern has a star
unfoldable pub starred : List ℕ → List ℕ → List ℕ
starred [] s = []
starred (q ∷ p) [] = []
starred (q ∷ p) (b ∷ s) = cond (eqb q 42) (b ∷ starred p s) (starred p s)

module _ (q b : ℕ) (e : by_pattern q b ≡ true) where
  star_hex : eqb q 42 ≡ true → is_hex b ≡ true
  unfolding by_pattern
  star_hex h = sym (ap (λ (p : ℕ). by_pattern p b) (eqb-true q 42 h)) ∙ e

  -- neither a star nor the sign for a decimal digit
  itself : eqb q 35 ≡ false → eqb q 42 ≡ false → q ≡ b
  unfolding by_pattern
  itself h g = eqb-true q b (rw (h, g) at e)

pub starred_hex : (p s : List ℕ) → in_pattern p s ≡ true → every is_hex (starred p s) ≡ true
unfolding in_pattern starred
starred_hex [] s e = refl
starred_hex (q ∷ p) [] e = refl
starred_hex (q ∷ p) (b ∷ s) e =
    let (f, g) = and_parts (by_pattern q b) (in_pattern p s) e in
    split (λ (t : Bool). every is_hex (cond t (b ∷ starred p s) (starred p s)) ≡ true) (eqb q 42)
    (λ h. and_both (is_hex b) (every is_hex (starred p s)) (star_hex q b f h) (starred_hex p s g))
    (λ h. starred_hex p s g)

-- two texts in a pattern without decimal digits are told alike by f where their hex digits are
module _ (f : ℕ → ℕ) where
  pub starred_apart : (p a b : List ℕ) → every (λ q. not (eqb q 35)) p ≡ true → in_pattern p a ≡ true → in_pattern p b ≡ true
      → map f (starred p a) ≡ map f (starred p b) → map f a ≡ map f b
  unfolding in_pattern starred
  starred_apart [] [] [] h u v z = refl
  starred_apart [] [] (y ∷ b) h u v z = absurd (false≢true v)
  starred_apart [] (x ∷ a) b h u v z = absurd (false≢true u)
  starred_apart (q ∷ p) [] b h u v z = absurd (false≢true u)
  starred_apart (q ∷ p) (x ∷ a) [] h u v z = absurd (false≢true v)
  starred_apart (q ∷ p) (x ∷ a) (y ∷ b) h u v z =
      let (n, m) = and_parts (not (eqb q 35)) (every (λ q. not (eqb q 35)) p) h in
      let (i, j) = and_parts (by_pattern q x) (in_pattern p a) u in
      let (k, l) = and_parts (by_pattern q y) (in_pattern p b) v in
      go (eqb q 42) (λ e. sym (itself q x i (not-true (eqb q 35) n) e) ∙ itself q y k (not-true (eqb q 35) n) e) (starred_apart p a b m j l) z
    where
      go : (t : Bool) → (t ≡ false → x ≡ y) → (map f (starred p a) ≡ map f (starred p b) → map f a ≡ map f b)
          → map f (cond t (x ∷ starred p a) (starred p a)) ≡ map f (cond t (y ∷ starred p b) (starred p b)) → f x ∷ map f a ≡ f y ∷ map f b
      go true e rest w =
          let c : f x ≡ f y = cc in
          let d : map f (starred p a) ≡ map f (starred p b) = cc in
          ap₂ ◌∷◌ c (rest d)
      go false e rest w = ap₂ ◌∷◌ (ap f (e refl)) (rest w)
