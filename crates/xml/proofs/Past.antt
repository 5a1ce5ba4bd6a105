-- The end of a run of bytes that pass a test, along a slice.
use mathlib.Core.Path.{◌≡◌, refl, ap, ◌∙◌, sym}
use mathlib.Core.Bool.{Bool, true, false}
use mathlib.Core.List.{List, [], ◌∷◌}
use Prim.Native.Nat.{ℕ, zero, suc, ◌+◌, ◌<◌, ◌≤◌}
use native.Mathlib.Nat.{add-zero, add-suc, suc-add, not-suc-le-zero, le_of_suc-le-suc}
use native.Mathlib.Numerals.{add-one}
use borrow.Author.Tests.{ltb-true, ltb-false}
use lib.Dec.{ltb}
use native.Mathlib.Omega.{arith}
use lib.ListN.{length, drop, get_or, drop_of_length-le, length-drop}
use lib.Seq.{drop-cons, get_or-drop}
use Rattle.xml.specs.Bytes.{is_space}
use Rattle.xml.specs.Tree.{front}
use Rattle.xml.specs.ScanSteps.{Past, Along}

-- past the end there is 0
pub beyond : (t : List ℕ) (i : ℕ) → length t ≤ i → get_or t i 0 ≡ 0
beyond [] i h = refl
beyond (b ∷ t) zero h = absurd (not-suc-le-zero h)
beyond (b ∷ t) (suc i) h = beyond t i (le_of_suc-le-suc h)

module _ (f : ℕ → Bool) (t : List ℕ) (i : ℕ) where
  -- the byte at i passes
  pub front_more : i < length t → f (get_or t i 0) ≡ true → i + front f (drop i t) ≡ (i + 1) + front f (drop (i + 1) t)
  unfolding front
  front_more h e = rw (drop-cons t i 0, add-one) (simp (e, add-suc, suc-add))

  pub front_none : i < length t → f (get_or t i 0) ≡ false → i + front f (drop i t) ≡ i
  unfolding front
  front_none h e = rw (drop-cons t i 0) (simp (e, add-zero))

  pub front_end : length t ≤ i → i + front f (drop i t) ≡ i
  unfolding front
  front_end h = rw (drop_of_length-le t h) (simp add-zero)

-- a run of bytes along which they pass, from place to place
module _ {f : ℕ → Bool} {t : List ℕ} {a : ℕ} where
  pub along_none : a ≤ length t → Along f t a a
  along_none h = record { same = refl; ahead = omega arith; inside = h }

  pub along_then : {i j : ℕ} → Along f t a i → Along f t i j → Along f t a j
  along_then x y = record { same = x.same ∙ y.same; ahead = omega (arith, x.ahead, y.ahead); inside = y.inside }

  pub along_past : {i j : ℕ} → Along f t a i → Past f t i j → Past f t a j
  along_past x y = record { found = y.found ∙ sym x.same; inside = y.inside }

  -- the byte at i passes, and the next place is j
  pub along_on : {i : ℕ} → Along f t a i → i < length t → f (get_or t i 0) ≡ true → (j : ℕ) → j ≡ i + 1 → Along f t a j
  along_on {i} x h e j z =
      record {
        same = x.same ∙ front_more f t i h e ∙ ap (λ (k : ℕ). k + front f (drop k t)) (sym z);
        ahead = omega (arith, x.ahead);
        inside = omega arith;
      }

  pub along_stop : {i : ℕ} → Along f t a i → i < length t → f (get_or t i 0) ≡ false → Past f t a i
  along_stop {i} x h e = record { found = sym (x.same ∙ front_none f t i h e); inside = x.inside }

  pub along_end : {i : ℕ} → Along f t a i → length t ≤ i → Past f t a i
  along_end {i} x h = record { found = sym (x.same ∙ front_end f t i h); inside = x.inside }

-- a space at i
pub along_blank : {t : List ℕ} {a i : ℕ} → Along is_space t a i → i < length t → get_or t i 0 ≡ 32 → (j : ℕ) → j ≡ i + 1 → Along is_space t a j
unfolding is_space
along_blank x h e j z = along_on x h (ap is_space e) j z

front_same : (f g : ℕ → Bool) → ((b : ℕ) → f b ≡ g b) → (s : List ℕ) → front f s ≡ front g s
unfolding front
front_same f g h [] = refl
front_same f g h (b ∷ s) = rw (h b, front_same f g h s)

pub past_same : {f g : ℕ → Bool} {t : List ℕ} {i j : ℕ} → ((b : ℕ) → f b ≡ g b) → Past f t i j → Past g t i j
past_same {f} {g} {t} {i} h p = record { found = p.found ∙ ap (λ (k : ℕ). i + k) (front_same f g h (drop i t)); inside = p.inside }

front_stop : (f : ℕ → Bool) (s : List ℕ) → front f s < length s → f (get_or s (front f s) 0) ≡ false
unfolding front
front_stop f [] h = absurd (not-suc-le-zero h)
front_stop f (b ∷ s) h = go (f b) refl (front_stop f s) h
  where
    go : (t : Bool) → f b ≡ t → (front f s < length s → f (get_or s (front f s) 0) ≡ false)
        → front f (b ∷ s) < length (b ∷ s) → f (get_or (b ∷ s) (front f (b ∷ s)) 0) ≡ false
    go true e r g = simp e (r (le_of_suc-le-suc (simp e at g)))
    go false e r g = simp e

-- the byte behind the run does not pass
pub past_stop : {f : ℕ → Bool} {t : List ℕ} {i j : ℕ} → Past f t i j → j < length t → f (get_or t j 0) ≡ false
past_stop {f} {t} {i} p h =
    ap (λ (k : ℕ). f (get_or t k 0)) p.found ∙ ap f (sym (get_or-drop i t (front f (drop i t)) 0))
    ∙ front_stop f (drop i t) (omega (arith, p.found, length-drop i t))

pub past_ahead : {f : ℕ → Bool} {t : List ℕ} {i j : ℕ} → Past f t i j → i ≤ j
past_ahead p = omega (arith, p.found)

-- the same where 0, which stands for what is past the end, does not pass either
pub past_not : {f : ℕ → Bool} {t : List ℕ} {i j : ℕ} → Past f t i j → f 0 ≡ false → f (get_or t j 0) ≡ false
past_not {f} {t} {j = j} p e = go (ltb j (length t)) refl
  where
    go : (v : Bool) → ltb j (length t) ≡ v → f (get_or t j 0) ≡ false
    go true g = past_stop p (ltb-true j (length t) g)
    go false g = ap f (beyond t j (ltb-false j (length t) g)) ∙ e
