-- Characters of more than one byte: the bytes after the first, and such a character in text.
use mathlib.Core.Path.{◌≡◌, refl, ap, ◌∙◌, sym}
use mathlib.Core.Bool.{Bool, true, false, false≢true}
use mathlib.Core.List.{List, [], ◌∷◌, ◌++◌}
use Prim.Native.Nat.{ℕ, ◌+◌, ◌-◌, ◌<◌, ◌≤◌}
use native.Mathlib.Omega.{arith}
use native.Mathlib.Numerals.{add-one}
use borrow.Author.Tests.{le-ltb, leb-true, ne_eqb}
use lib.Dec.{leb, eqb}
use lib.ListN.{length, drop, get_or}
use lib.Seq.{drop-cons}
use Rattle.slices.specs.Slices.{within}
use Rattle.xml.specs.CheckSteps.{Mode, more, content, words, State, at, in_text, inside_element, form_step, form_run}
use Rattle.xml.specs.ScanSteps.{is_text, Completes, TextTo, first}
use Rattle.xml.proofs.Logic.{and_both}
use Rattle.xml.proofs.Stays.{text_stay}
use Rattle.xml.proofs.Runs.{run_to}
use Rattle.xml.proofs.Scanned.{scan_step, scan_done}

between : (lo hi b : ℕ) → within lo hi b ≡ true → (lo ≤ b) × (b ≤ hi)
between lo hi b e = let (x, y) = and_both (leb lo b) (leb b hi) e in (leb-true lo b x, leb-true b hi y)

-- what the test of a byte said
pub continued : {r : Bool} (b : ℕ) → r ≡ within 128 191 b → r ≡ true → (128 ≤ b) × (b ≤ 191)
continued {r} b e h = between 128 191 b (sym e ∙ h)

-- the last byte of a character
last : (p : Mode) (ns : List (List ℕ)) (lo hi c : ℕ) → lo ≤ c → c ≤ hi → form_step (more p lo hi 0) ns c ≡ at p ns
unfolding form_step
last p ns lo hi c g h = simp (le-ltb c lo g, le-ltb hi c h)

-- a byte of it before n more
pub next : (p : Mode) (ns : List (List ℕ)) (lo hi n c : ℕ) → eqb n 0 ≡ false → lo ≤ c → c ≤ hi → form_step (more p lo hi n) ns c ≡ at (more p 128 191 (n - 1)) ns
unfolding form_step
next p ns lo hi n c e g h = simp (le-ltb c lo g, le-ltb hi c h, e)

run_last : (p : Mode) (ns : List (List ℕ)) (c : ℕ) (s : List ℕ) → (128 ≤ c) × (c ≤ 191) → form_run (at (more p 128 191 0) ns) (c ∷ s) ≡ form_run (at p ns) s
run_last p ns c s e = run_to (more p 128 191 0) ns c s (at p ns) (last p ns 128 191 c e.0 e.1)

module _ {b : ℕ} where
  pub completes_not : {w : List ℕ} → Completes b w false
  completes_not = record { runs = λ e. absurd (false≢true e) }

  -- b is the first of two bytes
  pub completes_two : {c : ℕ} {r : Bool} → ((p : Mode) (ns : List (List ℕ)) → first p b ns ≡ at (more p 128 191 0) ns) → r ≡ within 128 191 c → Completes b (c ∷ []) r
  completes_two {c} f h =
      record { runs = λ e p ns s. ap (λ (σ : State). form_run σ (c ∷ s)) (f p ns) ∙ run_last p ns c s (between 128 191 c (sym h ∙ e)) }

  -- the first of three, after which the machine is at q
  pub completes_three : {c d : ℕ} {r : Bool} (q : Mode → Mode) → ((p : Mode) (ns : List (List ℕ)) → first p b ns ≡ at (q p) ns)
      → (r ≡ true → (p : Mode) (ns : List (List ℕ)) → form_step (q p) ns c ≡ at (more p 128 191 0) ns) → (128 ≤ d) × (d ≤ 191) → Completes b (c ∷ d ∷ []) r
  completes_three {c} {d} q f g h =
      record { runs = λ e p ns s. ap (λ (σ : State). form_run σ (c ∷ d ∷ s)) (f p ns) ∙ run_to (q p) ns c (d ∷ s) (at (more p 128 191 0) ns) (g e p ns) ∙ run_last p ns d s h }

  -- the first of four, the second of which is from lo to hi
  pub completes_four : {c d e : ℕ} {r : Bool} (lo hi : ℕ) → (r ≡ true → (p : Mode) (ns : List (List ℕ)) → first p b ns ≡ at (more p lo hi 2) ns)
      → (r ≡ true → (lo ≤ c) × (c ≤ hi)) → (128 ≤ d) × (d ≤ 191) → (128 ≤ e) × (e ≤ 191) → Completes b (c ∷ d ∷ e ∷ []) r
  completes_four {c} {d} {e} lo hi f g h k =
      record {
        runs = λ z p ns s.
            ap (λ (σ : State). form_run σ (c ∷ d ∷ e ∷ s)) (f z p ns)
            ∙ run_to (more p lo hi 2) ns c (d ∷ e ∷ s) (at (more p 128 191 1) ns) (next p ns lo hi 2 c refl (g z).0 (g z).1)
            ∙ run_to (more p 128 191 1) ns d (e ∷ s) (at (more p 128 191 0) ns) (next p ns 128 191 1 d refl h.0 h.1) ∙ run_last p ns e s k;
      }

-- text takes the first byte of such a character as `char` does
text_char : (ns : List (List ℕ)) (b : ℕ) → 128 ≤ b → form_step (content (words 0)) ns b ≡ first (content (words 0)) b ns
unfolding form_step inside_element in_text
text_char ns b h = simp (ne_eqb b 60 (omega arith), ne_eqb b 93 (omega arith), ne_eqb b 62 (omega arith))

module _ (t : List ℕ) (i : ℕ) where
  -- a byte of text
  pub text_one : i < length t → is_text (get_or t i 0) ≡ true → TextTo t i (i + 1)
  text_one h e = scan_step h (λ ns. text_stay ns (get_or t i 0) e) (scan_done (omega arith))

  -- a character of text, of b and w
  text_wide : (b : ℕ) (w : List ℕ) (j : ℕ) {r : Bool} → Completes b w r → r ≡ true → 128 ≤ b → drop i t ≡ b ∷ w ++ drop j t → i ≤ j → j ≤ length t → TextTo t i j
  unfolding form_run
  text_wide b w j {r} x e h d g l =
      record {
        runs = λ ns.
            ap (form_run (at (content (words 0)) ns)) d ∙ ap (λ (σ : State). form_run σ (w ++ drop j t)) (text_char ns b h)
            ∙ x.runs e (content (words 0)) ns (drop j t);
        ends = (g, l);
      }

  byte_here : (j : ℕ) → j ≡ i + 1 → i < length t → drop i t ≡ get_or t i 0 ∷ drop j t
  byte_here j e h = rw (e, drop-cons t i 0, add-one)

module _ (t : List ℕ) (i : ℕ) {r : Bool} (h : 128 ≤ get_or t i 0) (e : r ≡ true) where
  -- a character of text, of two, three or four bytes
  pub text_two : Completes (get_or t i 0) (get_or t (i + 1) 0 ∷ []) r → i + 2 ≤ length t → TextTo t i (i + 2)
  text_two x l =
      text_wide t i _ _ (i + 2) x e h (rw (byte_here t i (i + 1) refl (omega arith), byte_here t (i + 1) (i + 2) (omega arith) (omega arith))) (omega arith) l

  pub text_three : Completes (get_or t i 0) (get_or t (i + 1) 0 ∷ get_or t (i + 2) 0 ∷ []) r → i + 3 ≤ length t → TextTo t i (i + 3)
  text_three x l =
      text_wide t i _ _ (i + 3) x e h
      (rw (byte_here t i (i + 1) refl (omega arith), byte_here t (i + 1) (i + 2) (omega arith) (omega arith), byte_here t (i + 2) (i + 3) (omega arith) (omega arith)))
      (omega arith) l

  pub text_four : Completes (get_or t i 0) (get_or t (i + 1) 0 ∷ get_or t (i + 2) 0 ∷ get_or t (i + 3) 0 ∷ []) r → i + 4 ≤ length t → TextTo t i (i + 4)
  text_four x l =
      text_wide t i _ _ (i + 4) x e h
      (rw (byte_here t i (i + 1) refl (omega arith), byte_here t (i + 1) (i + 2) (omega arith) (omega arith), byte_here t (i + 2) (i + 3) (omega arith) (omega arith), byte_here t (i + 3) (i + 4) (omega arith) (omega arith)))
      (omega arith) l
