-- `copy` meets its contract: nothing is copied where there are too few or no room is.
use mathlib.Core.Path.{◌≡◌, ap, sym, ◌∙◌}
use mathlib.Core.Bool.{and-false}
use mathlib.Core.List.{List, ◌++◌}
use Prim.Native.Nat.{ℕ, ◌+◌, ◌≤◌, ◌<◌}
use native.Mathlib.Omega.{arith}
use native.Mathlib.Numerals.{add-one}
use borrow.Author.Tests.{le-leb, lt-leb}
use lib.Dec.{leb}
use lib.ListN.{length, take, drop, get_or, set}
use lib.Seq.{paste, paste-suc, take_all, length-take-le}
use Rattle.std.proofs.lemmas.List.Edits.{sets, sets-eq}
use Rattle.tables.specs.Copying.{copied}
use Rattle.tables.proofs.copy.Goals as goal
use Rattle.tables.proofs.copy.Goals.{then-src-n-via-then-src-n, then-src-n-via-else-src-n+then-out-at, then-src-n-via-else-src-n+else-out-at+then-out-at-2}

-- all of w, pasted
whole_pasted : (t w : List ℕ) (at k : ℕ) → k ≡ length w → at + k ≤ length t → paste t at w k ≡ sets t at w
whole_pasted t w at k e h =
    ap (paste t at w) e
    ∙ ap (λ (l : List ℕ). take at t ++ l ++ drop (at + length w) t) (take_all (length w) w (omega arith))
    ∙ sym (sets-eq w t at (omega arith))

module _ (s t : List ℕ) (n at : ℕ) where
  too_few : length s < n → t ≡ copied s n t at
  unfolding copied
  too_few h = rw (lt-leb n (length s) h)

  no_room : length t < at + n → t ≡ copied s n t at
  unfolding copied
  no_room h = rw (lt-leb (at + n) (length t) h, and-false (leb n (length s)))

  room : n ≤ length s → at + n ≤ length t → sets t at (take n s) ≡ copied s n t at
  unfolding copied
  room h g = rw (le-leb n (length s) h, le-leb (at + n) (length t) g)

pub returns-then-src-n : goal.returns-then-src-n
returns-then-src-n c =
    let a = c.args in
    elim c.then-src-n.branch [
      | then-src-n-via-then-src-n w ↦ too_few a.src.now a.out.now a.n a.at (omega arith)
      | then-src-n-via-else-src-n+then-out-at w ↦ no_room a.src.now a.out.now a.n a.at (omega arith)
      | then-src-n-via-else-src-n+else-out-at+then-out-at-2 w ↦ no_room a.src.now a.out.now a.n a.at (omega arith)
    ]

pub loop-k-preserved : goal.loop-k-preserved
loop-k-preserved c =
    let l = c.loop-k in
    let a = c.args in
    let w = take a.n a.src.now in
    let n : length w ≡ a.n = length-take-le a.n a.src.now c.if-src-n.false in
    ap (λ (o : List ℕ). set o (a.at + l.k) (get_or w l.k 0)) l.invariant
    ∙ rw add-one (paste-suc a.out.now a.at w l.k 0 (omega arith) (omega arith))

pub returns : goal.returns
returns c =
    let l = c.loop-k in
    let a = c.args in
    let w = take a.n a.src.now in
    let n : length w ≡ a.n = length-take-le a.n a.src.now c.if-src-n.false in
    l.invariant
    ∙ whole_pasted a.out.now w a.at l.k (omega arith) (omega arith)
    ∙ room a.src.now a.out.now a.n a.at (omega arith) (omega arith)
