-- UTF-8 by code point, and by its bytes.
use mathlib.Core.Path.{◌≡◌, refl, ◌∙◌, sym}
use mathlib.Core.Bool.{Bool, true, false, ◌||◌, false≢true, or-true}
use mathlib.Core.List.{List, ◌∷◌}
use Prim.Native.Nat.{ℕ, suc, ◌+◌, ◌-◌, ◌*◌, ◌/◌, ◌%◌, ◌<◌, ◌≤◌}
use native.Mathlib.Omega.{arith}
use borrow.Author.Tests.{lt-ltb, le-ltb, le-leb, eqb-true, eqb-false, leb-true}
use lib.Dec.{eqb, leb}
use Rattle.xml.specs.Bytes.{is_space}
use Rattle.xml.specs.Grammar.{is_char, utf8, Char}

pub low : (c : ℕ) → 32 ≤ c → c ≤ 55295 → is_char c ≡ true
unfolding is_char
low c h g = simp (le-leb 32 c h, le-leb c 55295 g, or-true)

pub mid : (c : ℕ) → 57344 ≤ c → c ≤ 65533 → is_char c ≡ true
unfolding is_char
mid c h g = simp (le-leb 57344 c h, le-leb c 65533 g, or-true)

pub high : (c : ℕ) → 65536 ≤ c → c ≤ 1114111 → is_char c ≡ true
unfolding is_char
high c h g = simp (le-leb 65536 c h, le-leb c 1114111 g, or-true)

pub ascii : (b : ℕ) (t : List ℕ) → b < 128 → (leb 32 b || is_space b) ≡ true → (b ≡ 60 → ⊥) → (b ≡ 38 → ⊥) → Char (b ∷ t) t
unfolding utf8 is_char is_space
ascii b t h e g k = Char.char b {s = b ∷ t} {t = t} ok g k (simp (lt-ltb b 128 h))
  where
    ok : is_char b ≡ true
    ok = go (leb 32 b) (eqb b 9) (eqb b 10) (eqb b 13) (eqb b 32) refl refl refl refl refl
      where
        go : (p q r u v : Bool) → leb 32 b ≡ p → eqb b 9 ≡ q → eqb b 10 ≡ r → eqb b 13 ≡ u → eqb b 32 ≡ v → is_char b ≡ true
        go true q r u v z y x w a = low b (leb-true 32 b z) (omega arith)
        go false true r u v z y x w a = simp y
        go false false true u v z y x w a = simp (y, x)
        go false false false true v z y x w a = simp (y, x, w)
        go false false false false true z y x w a = low b (omega (arith, eqb-true b 32 a)) (omega arith)
        go false false false false false z y x w a = absurd (false≢true (sym (simp (z, y, x, w, a)) ∙ e))

module _ (x y z u : ℕ) (t : List ℕ) where
  pub two : y < 64 → 2 ≤ x → x < 32 → Char ((192 + x) ∷ (128 + y) ∷ t) t
  unfolding utf8
  two h g k =
      let c : ℕ = x * 64 + y in
      let p : (x * 64 + y) / 64 ≡ x = omega arith in
      let q : (x * 64 + y) % 64 ≡ y = omega arith in
      Char.char (x * 64 + y) {s = (192 + x) ∷ (128 + y) ∷ t} {t = t} (low (x * 64 + y) (omega arith) (omega arith)) (omega arith) (omega arith)
      (simp (le-ltb (x * 64 + y) 128 (omega arith), lt-ltb (x * 64 + y) 2048 (omega arith), p, q))

  pub three : y < 64 → z < 64 → 2048 ≤ x * 4096 + y * 64 + z → x < 16 → is_char (x * 4096 + y * 64 + z) ≡ true
      → Char ((224 + x) ∷ (128 + y) ∷ (128 + z) ∷ t) t
  unfolding utf8
  three h g k l ok =
      let p : (x * 4096 + y * 64 + z) / 4096 ≡ x = omega arith in
      let q : (x * 4096 + y * 64 + z) / 64 % 64 ≡ y = omega arith in
      let r : (x * 4096 + y * 64 + z) % 64 ≡ z = omega arith in
      Char.char (x * 4096 + y * 64 + z) {s = (224 + x) ∷ (128 + y) ∷ (128 + z) ∷ t} {t = t} ok (omega arith) (omega arith)
      (simp (le-ltb (x * 4096 + y * 64 + z) 128 (omega arith), le-ltb (x * 4096 + y * 64 + z) 2048 (omega arith), lt-ltb (x * 4096 + y * 64 + z) 65536 (omega arith), p, q, r))

  pub four : y < 64 → z < 64 → u < 64 → 65536 ≤ x * 262144 + y * 4096 + z * 64 + u → x * 262144 + y * 4096 + z * 64 + u ≤ 1114111
      → Char ((240 + x) ∷ (128 + y) ∷ (128 + z) ∷ (128 + u) ∷ t) t
  unfolding utf8
  four h g j k l =
      let p : (x * 262144 + y * 4096 + z * 64 + u) / 262144 ≡ x = omega arith in
      let q : (x * 262144 + y * 4096 + z * 64 + u) / 4096 % 64 ≡ y = omega arith in
      let r : (x * 262144 + y * 4096 + z * 64 + u) / 64 % 64 ≡ z = omega arith in
      let v : (x * 262144 + y * 4096 + z * 64 + u) % 64 ≡ u = omega arith in
      Char.char (x * 262144 + y * 4096 + z * 64 + u) {s = (240 + x) ∷ (128 + y) ∷ (128 + z) ∷ (128 + u) ∷ t} {t = t} (high (x * 262144 + y * 4096 + z * 64 + u) k l) (omega arith) (omega arith)
      (simp (le-ltb (x * 262144 + y * 4096 + z * 64 + u) 128 (omega arith), le-ltb (x * 262144 + y * 4096 + z * 64 + u) 2048 (omega arith), le-ltb (x * 262144 + y * 4096 + z * 64 + u) 65536 (omega arith), p, q, r, v))

-- the bytes of a character that are left: one from lo to hi, then n from 128 to 191
pub data Tail : ℕ → ℕ → ℕ → List ℕ → List ℕ → Type 0 where
  last : {lo hi b : ℕ} {t : List ℕ} → lo ≤ b → b ≤ hi → Tail lo hi 0 (b ∷ t) t
  next : {lo hi b n : ℕ} {s t : List ℕ} → lo ≤ b → b ≤ hi → Tail 128 191 n s t → Tail lo hi (suc n) (b ∷ s) t

pub wide2 : (b : ℕ) {s t : List ℕ} → 194 ≤ b → b < 224 → Tail 128 191 0 s t → Char (b ∷ s) t
wide2 b h g (Tail.last {b = c} {t} k l) =
    let p : 192 + (b - 192) ≡ b = omega arith in
    let q : 128 + (c - 128) ≡ c = omega arith in
    rw (p, q) at (two (b - 192) (c - 128) 0 0 t (omega arith) (omega arith) (omega arith))

code3 : ℕ → ℕ → ℕ → ℕ
code3 b c d = (b - 224) * 4096 + (c - 128) * 64 + (d - 128)

three_bytes : (b c d : ℕ) (t : List ℕ) → 224 ≤ b → b < 240 → 128 ≤ c → c < 192 → 128 ≤ d → d < 192 → 2048 ≤ code3 b c d → is_char (code3 b c d) ≡ true → Char (b ∷ c ∷ d ∷ t) t
unfolding code3
three_bytes b c d t h₀ h₁ h₂ h₃ h₄ h₅ h₆ ok =
    let p : 224 + (b - 224) ≡ b = omega arith in
    let q : 128 + (c - 128) ≡ c = omega arith in
    let r : 128 + (d - 128) ≡ d = omega arith in
    rw (p, q, r) at (three (b - 224) (c - 128) (d - 128) 0 t (omega arith) (omega arith) h₆ (omega arith) ok)

-- a byte from 224 to 236 or 238 before one from lo on, or 237 before one up to 159
pub wide3_low : (b lo : ℕ) {hi : ℕ} {s t : List ℕ} → 224 ≤ b → b < 238 → 128 ≤ lo → hi ≤ 191 → (b ≡ 224 → 160 ≤ lo) → (b ≡ 237 → hi ≤ 159) → Tail lo hi 1 s t → Char (b ∷ s) t
unfolding code3
wide3_low b lo {hi} h₀ h₁ h₂ h₃ h₄ h₅ (Tail.next {b = c} k l (Tail.last {b = d} {t} m n)) =
    three_bytes b c d t h₀ (omega arith) (omega arith) (omega arith) (omega arith) (omega arith) (go₀ (eqb b 224) refl) (low _ (go₁ (eqb b 224) refl) (go₂ (eqb b 237) refl))
  where
    go₀ : (v : Bool) → eqb b 224 ≡ v → 2048 ≤ code3 b c d
    go₀ true e = omega (arith, h₄ (eqb-true b 224 e))
    go₀ false e = omega (arith, eqb-false b 224 e)

    go₁ : (v : Bool) → eqb b 224 ≡ v → 32 ≤ code3 b c d
    go₁ v e = omega (arith, go₀ v e)

    go₂ : (v : Bool) → eqb b 237 ≡ v → code3 b c d ≤ 55295
    go₂ true e = omega (arith, h₅ (eqb-true b 237 e), eqb-true b 237 e)
    go₂ false e = omega (arith, eqb-false b 237 e)

pub wide3_238 : (b : ℕ) {s t : List ℕ} → b ≡ 238 → Tail 128 191 1 s t → Char (b ∷ s) t
unfolding code3
wide3_238 b e (Tail.next {b = c} k l (Tail.last {b = d} {t} m n)) =
    three_bytes b c d t (omega arith) (omega arith) (omega arith) (omega arith) (omega arith) (omega arith) (omega arith) (mid _ (omega arith) (omega arith))

pub wide3_239 : (c : ℕ) {hi : ℕ} {s t : List ℕ} → 128 ≤ c → c < 192 → hi ≤ 191 → (c ≡ 191 → hi ≤ 189) → Tail 128 hi 0 s t → Char (239 ∷ c ∷ s) t
unfolding code3
wide3_239 c {hi} h₀ h₁ h₂ h₃ (Tail.last {b = d} {t} m n) =
    three_bytes 239 c d t (omega arith) (omega arith) (omega arith) (omega arith) (omega arith) (omega arith) (omega arith) (mid _ (omega arith) (go (eqb c 191) refl))
  where
    go : (v : Bool) → eqb c 191 ≡ v → code3 239 c d ≤ 65533
    go true e = omega (arith, h₃ (eqb-true c 191 e))
    go false e = omega (arith, eqb-false c 191 e)

pub wide4 : (b lo : ℕ) {hi : ℕ} {s t : List ℕ} → 240 ≤ b → b < 245 → 128 ≤ lo → hi ≤ 191 → (b ≡ 240 → 144 ≤ lo) → (b ≡ 244 → hi ≤ 143) → Tail lo hi 2 s t → Char (b ∷ s) t
wide4 b lo {hi} h₀ h₁ h₂ h₃ h₄ h₅ (Tail.next {b = c} k l (Tail.next {b = d} m n (Tail.last {b = e} {t} o q))) =
    let p : 240 + (b - 240) ≡ b = omega arith in
    let x : 128 + (c - 128) ≡ c = omega arith in
    let y : 128 + (d - 128) ≡ d = omega arith in
    let z : 128 + (e - 128) ≡ e = omega arith in
    rw (p, x, y, z) at (four (b - 240) (c - 128) (d - 128) (e - 128) t (omega arith) (omega arith) (omega arith) (go₀ (eqb b 240) refl) (go₁ (eqb b 244) refl))
  where
    go₀ : (v : Bool) → eqb b 240 ≡ v → 65536 ≤ (b - 240) * 262144 + (c - 128) * 4096 + (d - 128) * 64 + (e - 128)
    go₀ true w = omega (arith, h₄ (eqb-true b 240 w))
    go₀ false w = omega (arith, eqb-false b 240 w)

    go₁ : (v : Bool) → eqb b 244 ≡ v → (b - 240) * 262144 + (c - 128) * 4096 + (d - 128) * 64 + (e - 128) ≤ 1114111
    go₁ true w = omega (arith, h₅ (eqb-true b 244 w), eqb-true b 244 w)
    go₁ false w = omega (arith, eqb-false b 244 w)
