-- The stages that a reading comes to, and for each of them a tape that ends a layout from there.
use Rattle.std.specs.Prelude.{Ok}
use mathlib.Core.Path.{◌≡◌, refl}
use mathlib.Core.Bool.{Bool, true, false, cond}
use mathlib.Core.List.{List, [], ◌∷◌, ◌++◌}
use Prim.Native.Nat.{ℕ, suc, ◌≤◌, ◌<◌}
use native.Mathlib.Omega.{arith}
use lib.Dec.{eqb, leb}
use lib.ListN.{length, replicate}
use borrow.Author.Tests.{eq-eqb, leb-true}
use Rattle.refusals.specs.declared.Refusal.{Refusal}
use Rattle.refusals.specs.declared.Refusal.TheVariants.{Labels, EndOfVolume, BlockCount}
use Rattle.slices.specs.Slices.{within}
use Rattle.slices.specs.Words.{bytes}
use Rattle.slices.proofs.Booleans.{and_left, and_right}
use Rattle.tape.specs.Tape.{Tape, Element, mark, block, unreadable}
use Rattle.ansi_labels.specs.Labels.{is_label, is_numbered, label_number, is_volume, is_header2, is_trailer, block_count, is_data}
use Rattle.ansi.specs.Layout.{TapeFile}
use Rattle.ansi.specs.ReadingSteps.{Stage, start, volume, header, headers, blocks, trailer, second, trailers, between, done, Step, go, found, stop, passing, opening, closing, at_mark, at_block, read_step, ending, follow, read_run}
use Rattle.ansi_labels.proofs.Tests.{label_length}
use Rattle.ansi.proofs.Counts.{counted, counted_trailer, counted_count, trailer_of, trailer_label, trailer_5_54, trailer_61_80}

-- what holds of a stage before element n
abbrev pub Live : ℕ → Stage → Type 0
Live n start = Unit {0}
Live n (volume k) = Unit {0}
Live n (header h) = is_label (bytes "HDR1") h ≡ true
Live n (headers h g k) = (is_label (bytes "HDR1") h ≡ true) × (is_header2 g ≡ true)
Live n (blocks h m) = (is_label (bytes "HDR1") h ≡ true) × (m ≤ n)
Live n (trailer h m) = (is_label (bytes "HDR1") h ≡ true) × (m ≤ n)
Live n second = Unit {0}
Live n (trailers k) = 3 ≤ k
Live n between = Unit {0}
Live n done = Unit {0}

pub data LiveAt (n : ℕ) : Step → Type 0 where
  goes : (σ : Stage) → Live n σ → LiveAt n (go σ)
  finds : (f : TapeFile) (σ : Stage) → Live n σ → LiveAt n (found f σ)
  halts : (r : Refusal) → LiveAt n (stop r)

module _ (n : ℕ) where
  either : (b : Bool) {s t : Step} → (b ≡ true → LiveAt n s) → LiveAt n t → LiveAt n (cond b s t)
  either true x y = x refl
  either false x y = y

  passing_live : (w u : List ℕ) (k : ℕ) (x : List ℕ) (next : ℕ → Stage) {other : Step} → ((i : ℕ) → k ≤ i → Live n (next i)) → Live n (next 10) → LiveAt n other
      → LiveAt n (passing w u k x next other)
  unfolding passing is_numbered
  passing_live w u k x next f g y =
      either (is_numbered w k x)
      (λ e. LiveAt.goes (next (suc (label_number x))) (f (suc (label_number x)) (omega (arith, leb-true k (label_number x) (and_left (leb k (label_number x)) (leb (label_number x) 9) (and_right (is_label w x) (within k 9 (label_number x)) e))))))
      (either (is_label u x) (λ e. LiveAt.goes (next 10) g) y)

  opening_live : (x : List ℕ) → LiveAt n (opening x)
  unfolding opening
  opening_live x = either (is_label (bytes "HDR1") x) (λ e. LiveAt.goes (header x) e) (LiveAt.halts Labels)

  closing_live : (h : List ℕ) (m : ℕ) (x : List ℕ) → LiveAt n (closing h m x)
  unfolding closing
  closing_live h m x =
      either (is_trailer h x)
      (λ e. either (eqb (block_count x) m) (λ f. LiveAt.goes second tt) (LiveAt.halts BlockCount))
      (either (is_label (bytes "EOV1") x) (λ f. LiveAt.halts EndOfVolume) (LiveAt.halts Labels))

mark_live : (n : ℕ) (σ : Stage) → Live n σ → LiveAt (suc n) (at_mark n σ)
unfolding at_mark
mark_live n start l = LiveAt.halts Labels
mark_live n (volume k) l = LiveAt.halts Labels
mark_live n (header h) l = LiveAt.halts Labels
mark_live n (headers h g k) l = LiveAt.finds _ (blocks h 0) (l.0, omega arith)
mark_live n (blocks h m) l = LiveAt.goes (trailer h m) (l.0, omega arith)
mark_live n (trailer h m) l = LiveAt.halts Labels
mark_live n second l = LiveAt.halts Labels
mark_live n (trailers k) l = LiveAt.goes between tt
mark_live n between l = LiveAt.goes done tt
mark_live n done l = LiveAt.halts Labels

block_live : (n : ℕ) (σ : Stage) (x : List ℕ) → Live n σ → LiveAt (suc n) (at_block σ x)
unfolding at_block
block_live n start x l = either (suc n) (is_volume x) (λ e. LiveAt.goes (volume 2) tt) (LiveAt.halts Labels)
block_live n (volume k) x l = passing_live (suc n) (bytes "VOL") (bytes "UVL") k x volume (λ i h. tt) tt (opening_live (suc n) x)
block_live n (header h) x l = either (suc n) (is_header2 x) (λ e. LiveAt.goes (headers h x 3) (l, e)) (LiveAt.halts Labels)
block_live n (headers h g k) x l = passing_live (suc n) (bytes "HDR") (bytes "UHL") k x (headers h g) (λ i b. l) l (LiveAt.halts Labels)
block_live n (blocks h m) x l = either (suc n) (is_data x) (λ e. LiveAt.goes (blocks h (suc m)) (l.0, omega arith)) (LiveAt.halts Labels)
block_live n (trailer h m) x l = closing_live (suc n) h m x
block_live n second x l = either (suc n) (is_label (bytes "EOF2") x) (λ e. LiveAt.goes (trailers 3) (omega arith)) (LiveAt.halts Labels)
block_live n (trailers k) x l = passing_live (suc n) (bytes "EOF") (bytes "UTL") k x trailers (λ i b. omega arith) (omega arith) (LiveAt.halts Labels)
block_live n between x l = opening_live (suc n) x
block_live n done x l = LiveAt.halts Labels

pub step_live : (n : ℕ) (σ : Stage) (e : Element) → Live n σ → LiveAt (suc n) (read_step n σ e)
unfolding read_step
step_live n σ mark l = mark_live n σ l
step_live n σ (block x) l = block_live n σ x l
step_live n σ unreadable l = LiveAt.halts Labels

-- some tape ends a layout from here
abbrev pub Ends : ℕ → Stage → Type 0
Ends n σ = (t : Tape) × (fs : List TapeFile) × (read_run t n σ ≡ Ok fs)

-- a step, and then the rest
pub ends_go : (n : ℕ) (σ τ : Stage) (e : Element) → read_step n σ e ≡ go τ → Ends (suc n) τ → Ends n σ
unfolding read_run follow
ends_go n σ τ e q (t, fs, r) = (e ∷ t, fs, rw q r)

ends_found : (n : ℕ) (σ τ : Stage) (f : TapeFile) (e : Element) → read_step n σ e ≡ found f τ → Ends (suc n) τ → Ends n σ
unfolding read_run follow
ends_found n σ τ f e q (t, fs, r) = (e ∷ t, f ∷ fs, rw (q, r))

-- labels of no more than their words
blank : List ℕ → List ℕ
blank w = w ++ replicate 65 32

vol1 : List ℕ
vol1 = bytes "VOL1" ++ (replicate 75 32 ++ (51 ∷ []))

vol1_is : is_volume vol1 ≡ true
unfolding vol1 is_volume is_label bytes
vol1_is = refl

hdr1 : List ℕ
hdr1 = blank (bytes "HDR1           ")

hdr1_is : is_label (bytes "HDR1") hdr1 ≡ true
unfolding hdr1 blank is_label bytes
hdr1_is = refl

hdr2 : List ℕ
hdr2 = blank (bytes "HDR2F0000000000")

hdr2_is : is_header2 hdr2 ≡ true
unfolding hdr2 blank is_header2 is_label bytes
hdr2_is = refl

eof2 : List ℕ
eof2 = blank (bytes "EOF2           ")

eof2_is : is_label (bytes "EOF2") eof2 ≡ true
unfolding eof2 blank is_label bytes
eof2_is = refl

ends_done : (n : ℕ) → Ends n done
unfolding read_run ending
ends_done n = ([], [], refl)

ends_between : (n : ℕ) → Ends n between
unfolding read_step at_mark at_block
ends_between n = ends_go n between done mark refl (ends_done (suc n))

ends_trailers : (n k : ℕ) → Ends n (trailers k)
unfolding read_step at_mark at_block
ends_trailers n k = ends_go n (trailers k) between mark refl (ends_between (suc n))

pub ends_second : (n : ℕ) → Ends n second
unfolding read_step at_mark at_block
ends_second n = ends_go n second (trailers 3) (block eof2) (rw eof2_is) (ends_trailers (suc n) 3)

-- an EOF1 with the right count ends the data
pub closes : (h : List ℕ) (m : ℕ) (x : List ℕ) → is_trailer h x ≡ true → block_count x ≡ m → closing h m x ≡ go second
unfolding closing
closes h m x e f = rw (e, eq-eqb (block_count x) m f)

pub eof1 : List ℕ → ℕ → List ℕ
eof1 h m = counted m (trailer_of h)

module _ (h : List ℕ) (m : ℕ) (e : is_label (bytes "HDR1") h ≡ true) (small : m < 1000000) where
  pub eof1_trailer : is_trailer h (eof1 h m) ≡ true
  unfolding eof1
  eof1_trailer =
      let l : length h ≡ 80 = label_length (bytes "HDR1") h e in
      counted_trailer h m (trailer_of h) small (trailer_label h l) (trailer_5_54 h l) (trailer_61_80 h l)

  eof1_count : block_count (eof1 h m) ≡ m
  unfolding eof1
  eof1_count =
      counted_count h m (trailer_of h) small (label_length (bytes "EOF1") (trailer_of h) (trailer_label h (label_length (bytes "HDR1") h e)))

  pub eof1_closes : closing h m (eof1 h m) ≡ go second
  eof1_closes = closes h m (eof1 h m) eof1_trailer eof1_count

module _ (h : List ℕ) (e : is_label (bytes "HDR1") h ≡ true) where
  ends_trailer : (n m : ℕ) → m < 1000000 → Ends n (trailer h m)
  unfolding read_step at_mark at_block
  ends_trailer n m s = ends_go n (trailer h m) second (block (eof1 h m)) (eof1_closes h m e s) (ends_second (suc n))

  ends_blocks : (n m : ℕ) → m < 1000000 → Ends n (blocks h m)
  unfolding read_step at_mark at_block
  ends_blocks n m s = ends_go n (blocks h m) (trailer h m) mark refl (ends_trailer (suc n) m s)

  ends_headers : (n : ℕ) (g : List ℕ) (k : ℕ) → Ends n (headers h g k)
  unfolding read_step at_mark at_block
  ends_headers n g k = ends_found n (headers h g k) (blocks h 0) _ mark refl (ends_blocks (suc n) 0 (omega arith))

  ends_header : (n : ℕ) → Ends n (header h)
  unfolding read_step at_mark at_block
  ends_header n = ends_go n (header h) (headers h hdr2 3) (block hdr2) (rw hdr2_is) (ends_headers (suc n) hdr2 3)

ends_volume : (n k : ℕ) → Ends n (volume k)
unfolding read_step at_mark at_block passing opening is_numbered is_label hdr1 blank bytes
ends_volume n k = ends_go n (volume k) (header hdr1) (block hdr1) refl (ends_header hdr1 hdr1_is (suc n))

pub ends : (n : ℕ) (σ : Stage) → n < 1000000 → Live n σ → Ends n σ
unfolding read_step at_mark at_block
ends n start s l = ends_go n start (volume 2) (block vol1) (rw vol1_is) (ends_volume (suc n) 2)
ends n (volume k) s l = ends_volume n k
ends n (header h) s l = ends_header h l n
ends n (headers h g k) s l = ends_headers h l.0 n g k
ends n (blocks h m) s l = ends_blocks h l.0 n m (omega arith)
ends n (trailer h m) s l = ends_trailer h l.0 n m (omega arith)
ends n second s l = ends_second n
ends n (trailers k) s l = ends_trailers n k
ends n between s l = ends_between n
ends n done s l = ends_done n
