-- The steps of the reading in numbers against its steps in labels.
use Rattle.std.specs.Prelude.{None, Some}
use mathlib.Core.Path.{◌≡◌, refl, sym, ap, ◌∙◌}
use mathlib.Core.Bool.{Bool, true, false, cond, ◌&&◌}
use mathlib.Core.List.{List}
use Prim.Native.Nat.{ℕ, suc, ◌≤◌}
use native.Mathlib.Omega.{arith}
use lib.Dec.{leb, eqb}
use lib.ListN.{length, take, drop, length-take}
use lib.Seq.{take_all}
use borrow.Author.Tests.{leb-true, leb-false, eq-eqb}
use Rattle.slices.specs.Words.{bytes}
use Rattle.slices.proofs.Booleans.{and_left}
use Rattle.ansi_labels.specs.Labels.{byte, is_label, is_numbered, label_number, is_format, is_header2, is_trailer, block_count}
use Rattle.ansi.specs.ReadingSteps.{Stage, header, headers, Step, go, wrong, passing, opening}
use Rattle.ansi.specs.PhaseSteps.{label_at, passed_to}
use Rattle.ansi_labels.proofs.Tests.{label_length}
use Rattle.ansi.proofs.Refused.{trailer_parts}

-- 80 bytes from a place on are the label there
pub label_there : (s : List ℕ) (at len : ℕ) → length (take len (drop at s)) ≡ 80 → label_at s at ≡ take len (drop at s)
label_there s at len e = by (leb (length (drop at s)) 80) refl
  where
    by : (b : Bool) → leb (length (drop at s)) 80 ≡ b → label_at s at ≡ take len (drop at s)
    by true q =
        let l : length (drop at s) ≤ 80 = leb-true (length (drop at s)) 80 q in
        let k : length (drop at s) ≤ len = omega (arith, length-take len (drop at s)) in
        take_all 80 (drop at s) l ∙ sym (take_all len (drop at s) k)
    by false q = let k : 80 ≡ len = omega (arith, length-take len (drop at s), leb-false (length (drop at s)) 80 q) in ap (λ (n : ℕ). take n (drop at s)) k

pub header2_length : (x : List ℕ) → is_header2 x ≡ true → length x ≡ 80
unfolding is_header2
header2_length x e = label_length (bytes "HDR2") x (and_left (is_label (bytes "HDR2") x) _ (and_left (is_label (bytes "HDR2") x && is_format (byte 5 x)) _ e))

module _ (s : List ℕ) (at len : ℕ) where
  pub opens_at : is_label (bytes "HDR1") (take len (drop at s)) ≡ true → go (header (label_at s at)) ≡ opening (take len (drop at s))
  unfolding opening
  opens_at e = rw e (ap (λ (x : List ℕ). go (header x)) (label_there s at len (label_length (bytes "HDR1") (take len (drop at s)) e)))

  pub header_at : (h : List ℕ) → is_header2 (take len (drop at s)) ≡ true
      → go (headers h (label_at s at) 3) ≡ cond (is_header2 (take len (drop at s))) (go (headers h (take len (drop at s)) 3)) wrong
  header_at h e = rw e (ap (λ (x : List ℕ). go (headers h x 3)) (label_there s at len (header2_length (take len (drop at s)) e)))

module _ (w u : List ℕ) (k : ℕ) (x : List ℕ) (next : ℕ → Stage) (other : Step) where
  pub passing_none : passed_to w u k x ≡ None → other ≡ passing w u k x next other
  unfolding passed_to passing
  passing_none e = by (is_numbered w k x) (is_label u x) e
    where
      by : (a b : Bool) → cond a (Some (suc (label_number x))) (cond b (Some 10) None) ≡ None → other ≡ cond a (go (next (suc (label_number x)))) (cond b (go (next 10)) other)
      by true b z = cc
      by false true z = cc
      by false false z = refl

  pub passing_some : (n : ℕ) → passed_to w u k x ≡ Some n → go (next n) ≡ passing w u k x next other
  unfolding passed_to passing
  passing_some n e = by (is_numbered w k x) (is_label u x) e
    where
      by : (a b : Bool) → cond a (Some (suc (label_number x))) (cond b (Some 10) None) ≡ Some n → go (next n) ≡ cond a (go (next (suc (label_number x)))) (cond b (go (next 10)) other)
      by true b z = cc
      by false true z = cc
      by false false z = cc

trailer_length : (h x : List ℕ) → is_trailer h x ≡ true → length x ≡ 80
trailer_length h x e = label_length (bytes "EOF1") x (trailer_parts h x e).0

-- a label EOF1 has 80 bytes, so that its count is all that is compared
pub trailer_count : (h x : List ℕ) (m : ℕ) (b : Bool) → is_trailer h x ≡ true → b ≡ (eqb (length x) 80 && eqb (block_count x) m) → eqb (block_count x) m ≡ b
trailer_count h x m b e q = sym (q ∙ ap (λ (t : Bool). t && eqb (block_count x) m) (eq-eqb (length x) 80 (trailer_length h x e)))
