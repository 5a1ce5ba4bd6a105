-- Numbers that are all different, from the last one back.
use mathlib.Core.Path.{◌≡◌, refl, ap, ◌∙◌, sym}
use mathlib.Core.Bool.{Bool, true, false, not, ◌&&◌, and-false}
use mathlib.Core.List.{List, [], ◌∷◌, ◌++◌}
use Prim.Native.Nat.{ℕ, zero, suc, ◌+◌, ◌-◌, ◌≤◌, ◌<◌}
use native.Mathlib.Nat.{zero-add}
use native.Mathlib.Omega.{arith}
use native.Mathlib.Numerals.{add-one}
use lib.ListN.{length, take, drop, get_or, set, length-drop}
use Rattle.std.proofs.lemmas.List.{drop_more}
use lib.Seq.{take_all, paste-suc}
use borrow.Author.Tests.{ne_eqb}
use Rattle.index_values.specs.Different.{member, different}

-- every one is at least b
unfoldable pub Above : ℕ → List ℕ → Type 0
Above b [] = Unit {0}
Above b (x ∷ l) = (b ≤ x) × Above b l

pub above_less : (b x : ℕ) (l : List ℕ) → x ≤ b → Above b l → Above x l
unfolding Above
above_less b x [] h a = tt
above_less b x (y ∷ l) h a = (omega (arith, a.0), above_less b x l h a.1)

pub not_member : (b x : ℕ) (l : List ℕ) → x < b → Above b l → member x l ≡ false
unfolding Above member
not_member b x [] h a = refl
not_member b x (y ∷ l) h a = simp (ne_eqb x y (λ e. omega (arith, a.0, e)), not_member b x l h a.1)

pub different_drop : (i : ℕ) (l : List ℕ) → different (drop i l) ≡ false → different l ≡ false
unfolding different
different_drop zero l h = h
different_drop (suc i) [] h = h
different_drop (suc i) (x ∷ l) h = ap (λ (b : Bool). not (member x l) && b) (different_drop i l h) ∙ and-false (not (member x l))

-- the i-th with those behind it
pub step_back : (t : List ℕ) (i : ℕ) → 0 < i → i ≤ length t → drop (i - 1) t ≡ get_or t (i - 1) 0 ∷ drop i t
step_back t i p h =
    let one : i - 1 + 1 ≡ i = omega arith in
    drop_more t (i - 1) 0 (omega arith) ∙ ap (λ (k : ℕ). get_or t (i - 1) 0 ∷ drop k t) one

-- all that is behind it
pub rest : (t : List ℕ) (k : ℕ) → drop k t ≡ take (length t - k) (drop k t)
rest t k = sym (take_all (length t - k) (drop k t) (omega (arith, length-drop k t)))

module _ (x : ℕ) (l : List ℕ) where
  pub new_first : member x l ≡ false → different l ≡ true → different (x ∷ l) ≡ true
  unfolding different
  new_first m d = simp (m, d)

  pub old_first : member x l ≡ true → different (x ∷ l) ≡ false
  unfolding different
  old_first m = simp m

  pub above_cons : {b : ℕ} → b ≤ x → Above b l → Above b (x ∷ l)
  unfolding Above
  above_cons h a = (h, a)

pub above_none : (b : ℕ) → Above b []
unfolding Above
above_none b = tt

pub copy_suc : (d s : List ℕ) (j : ℕ) → j < length d → j < length s → set (take j s ++ drop j d) j (get_or s j 0) ≡ take (j + 1) s ++ drop (j + 1) d
copy_suc d s j hd hs = rw add-one (simp zero-add at (paste-suc d 0 s j 0 (rw zero-add hd) hs))
