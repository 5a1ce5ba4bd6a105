-- The first byte of a character, or of a reference: where it leads.
use mathlib.Core.Path.{◌≡◌, refl}
use mathlib.Core.Bool.{Bool, true, false, or-true}
use mathlib.Core.List.{List}
use Prim.Native.Nat.{ℕ, ◌<◌, ◌≤◌}
use native.Mathlib.Omega.{arith}
use borrow.Author.Tests.{lt-ltb, le-ltb, ltb-false, le-leb, lt-leb, ne_eqb, eqb-false}
use lib.Dec.{ltb, eqb}
use Rattle.xml.specs.Bytes.{is_space}
use Rattle.xml.specs.CheckSteps.{Mode, more, lead239, stop, at, char}

low_blank : (b : ℕ) → 9 ≤ b → b ≤ 13 → (b ≡ 11 → ⊥) → (b ≡ 12 → ⊥) → is_space b ≡ true
unfolding is_space
low_blank b h g m n = go (eqb b 9) (eqb b 10) refl refl
  where
    go : (u v : Bool) → eqb b 9 ≡ u → eqb b 10 ≡ v → is_space b ≡ true
    go true v e f = simp (e, or-true)
    go false true e f = simp (e, f, or-true)
    go false false e f =
        let k : b ≡ 9 → ⊥ = eqb-false b 9 e in
        let l : b ≡ 10 → ⊥ = eqb-false b 10 f in
        let z : b ≡ 13 = omega arith in
        rw z

module _ (p : Mode) (ns : List (List ℕ)) where
  -- of one byte
  pub lead_ascii : (b : ℕ) → 32 ≤ b → b < 128 → (b ≡ 38 → ⊥) → char p ns b ≡ at p ns
  unfolding char
  lead_ascii b h g n = simp (lt-ltb b 128 g, ne_eqb b 38 n, le-leb 32 b h)

  pub lead_blank : (b : ℕ) → 9 ≤ b → b ≤ 13 → (b ≡ 11 → ⊥) → (b ≡ 12 → ⊥) → char p ns b ≡ at p ns
  unfolding char
  lead_blank b h g m n =
      let s : is_space b ≡ true = low_blank b h g m n in
      simp (lt-ltb b 128 (omega arith), ne_eqb b 38 (omega arith), s, or-true)

  pub lead_control : (b : ℕ) → b < 32 → (b ≡ 9 → ⊥) → (b ≡ 10 → ⊥) → (b ≡ 13 → ⊥) → char p ns b ≡ stop
  unfolding char is_space
  lead_control b h l m n =
      simp (lt-ltb b 128 (omega arith), ne_eqb b 38 (omega arith), lt-leb 32 b h, ne_eqb b 32 (omega arith), ne_eqb b 9 l, ne_eqb b 10 m, ne_eqb b 13 n)

  -- of two bytes
  pub lead_two : (b : ℕ) → 194 ≤ b → b < 224 → char p ns b ≡ at (more p 128 191 0) ns
  unfolding char
  lead_two b h g = simp (le-ltb b 128 (omega arith), le-ltb b 194 h, lt-ltb b 224 g)

  -- of three, the second of which may be any or is in a range of its own
  pub lead_224 : (b : ℕ) → b ≡ 224 → char p ns b ≡ at (more p 160 191 1) ns
  unfolding char
  lead_224 b e = rw e

  pub lead_three : (b : ℕ) → 225 ≤ b → b < 239 → (b ≡ 237 → ⊥) → char p ns b ≡ at (more p 128 191 1) ns
  unfolding char
  lead_three b h g n = go (ltb b 237) refl
    where
      go : (v : Bool) → ltb b 237 ≡ v → char p ns b ≡ at (more p 128 191 1) ns
      go true e = simp (le-ltb b 128 (omega arith), le-ltb b 194 (omega arith), le-ltb b 224 (omega arith), le-ltb b 225 h, e)
      go false e =
          let l : 237 ≤ b = ltb-false b 237 e in
          let m : b ≡ 238 = omega arith in
          rw m

  pub lead_237 : (b : ℕ) → b ≡ 237 → char p ns b ≡ at (more p 128 159 1) ns
  unfolding char
  lead_237 b e = rw e

  pub lead_239 : (b : ℕ) → b ≡ 239 → char p ns b ≡ at (lead239 p) ns
  unfolding char
  lead_239 b e = rw e

  -- of four
  pub lead_240 : (b : ℕ) → b ≡ 240 → char p ns b ≡ at (more p 144 191 2) ns
  unfolding char
  lead_240 b e = rw e

  pub lead_four : (b : ℕ) → 241 ≤ b → b < 244 → char p ns b ≡ at (more p 128 191 2) ns
  unfolding char
  lead_four b h g =
      simp (le-ltb b 128 (omega arith), le-ltb b 194 (omega arith), le-ltb b 224 (omega arith), le-ltb b 225 (omega arith), le-ltb b 237 (omega arith), le-ltb b 238 (omega arith), le-ltb b 239 (omega arith), le-ltb b 240 (omega arith), le-ltb b 241 h, lt-ltb b 244 g)

  pub lead_244 : (b : ℕ) → b ≡ 244 → char p ns b ≡ at (more p 128 143 2) ns
  unfolding char
  lead_244 b e = rw e

  -- of none
  pub lead_low : (b : ℕ) → 128 ≤ b → b < 194 → char p ns b ≡ stop
  unfolding char
  lead_low b h g = simp (le-ltb b 128 h, lt-ltb b 194 g)

  pub lead_high : (b : ℕ) → 245 ≤ b → char p ns b ≡ stop
  unfolding char
  lead_high b h =
      simp (le-ltb b 128 (omega arith), le-ltb b 194 (omega arith), le-ltb b 224 (omega arith), le-ltb b 225 (omega arith), le-ltb b 237 (omega arith), le-ltb b 238 (omega arith), le-ltb b 239 (omega arith), le-ltb b 240 (omega arith), le-ltb b 241 (omega arith), le-ltb b 244 (omega arith), le-ltb b 245 h)
