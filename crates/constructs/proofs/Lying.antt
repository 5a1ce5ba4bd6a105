-- One number tells whether an extent lies on the tape: how far data blocks reach from its first block.
use mathlib.Core.Path.{◌≡◌, refl, sym, ◌∙◌, ap}
use mathlib.Core.Bool.{cond, ◌&&◌, and-false}
use mathlib.Core.List.{List, [], ◌∷◌, ◌++◌}
use Prim.Native.Nat.{ℕ, zero, suc, ◌+◌, ◌-◌, ◌*◌, ◌/◌, ◌%◌, ◌≤◌, ◌<◌, min}
use native.Mathlib.Nat.{add-zero, div-add-mod', mod-lt, suc-mul, zero-mul}
use native.Mathlib.Omega.{arith}
use lib.Dec.{leb, ltb, eqb}
use lib.ListN.{length, get_or, take, drop, length-take, get_or-eq_default, get_or-append}
use lib.Seq.{get_or-drop, get_or-take, take-nil, take-take}
use borrow.Author.Tests.{eqb-true, eqb-false, le-leb, lt-leb, eq-eqb, ne_eqb, ltb-true, ltb-false}
use Rattle.slices.specs.Slices.{every}
use Rattle.slices.proofs.Booleans.{split, same_leb}
use Rattle.slices.proofs.Parts.{drop_front}
use Rattle.extents.specs.declared.Row.{Row}
use Rattle.extents.specs.Tape.{lies_on_tape}
use Rattle.constructs.specs.ReachSteps.{reaches, lies_by}
use Rattle.constructs.proofs.Reaching.{length_reaches}

drop_reaches : (B n : ℕ) (xs : List ℕ) → drop n (reaches B xs) ≡ reaches B (drop n xs)
unfolding reaches
drop_reaches B zero xs = refl
drop_reaches B (suc n) [] = refl
drop_reaches B (suc n) (x ∷ xs) = drop_reaches B n xs

pub reach_at : (B n : ℕ) (xs : List ℕ) → get_or (reaches B xs) n 0 ≡ get_or (reaches B (drop n xs)) 0 0
reach_at B n xs =
    let e : get_or (drop n (reaches B xs)) 0 0 ≡ get_or (reaches B xs) (n + 0) 0 = get_or-drop n (reaches B xs) 0 0 in
    sym (rw (add-zero n) at e) ∙ ap (λ (l : List ℕ). get_or l 0 0) (drop_reaches B n xs)

-- q full blocks and then a block of at least rem bytes
covered : (B : ℕ) (xs : List ℕ) (q rem : ℕ) → 1 ≤ rem → rem ≤ B
    → (every (eqb B) (take q xs) && leb rem (get_or xs q 0)) ≡ leb (q * B + rem) (get_or (reaches B xs) 0 0)
unfolding reaches
covered B [] q rem lo hi = rw (take-nil {A = ℕ} q, lt-leb rem 0 (omega arith), lt-leb (q * B + rem) 0 (omega arith))
covered B (x ∷ xs) zero rem lo hi =
    let z : 0 * B + rem ≡ rem = rw (zero-mul B) (omega arith) in
    split (λ b. eqb x B ≡ b → leb rem x ≡ leb (0 * B + rem) (cond b (B + get_or (reaches B xs) 0 0) (min x B))) (eqb x B)
    (λ e q. let w = eqb-true x B q in rw (le-leb rem x (omega arith), le-leb (0 * B + rem) (B + get_or (reaches B xs) 0 0) (omega arith)))
    (λ e q. same_leb rem x (0 * B + rem) (min x B) (λ h. omega arith) (λ h. omega arith)) refl
covered B (x ∷ xs) (suc q) rem lo hi =
    let z : suc q * B + rem ≡ B + (q * B + rem) = rw (suc-mul q B) (omega arith) in
    split
    (λ b. eqb x B ≡ b → (eqb B x && every (eqb B) (take q xs) && leb rem (get_or xs q 0)) ≡ leb (suc q * B + rem) (cond b (B + get_or (reaches B xs) 0 0) (min x B)))
    (eqb x B)
    (λ e u. let w = eqb-true x B u in
    rw (eq-eqb B x (sym w), z)
    (covered B xs q rem lo hi ∙ same_leb (q * B + rem) (get_or (reaches B xs) 0 0) (B + (q * B + rem)) (B + get_or (reaches B xs) 0 0) (λ h. omega arith) (λ h. omega arith)))
    (λ e u. let w = eqb-false x B u in
    rw (ne_eqb B x (λ v. w (sym v)), lt-leb (suc q * B + rem) (min x B) (omega arith)))
    refl

-- an extent lies on the tape where the data blocks from its first block on reach far enough
pub lies_reach : (lengths : List ℕ) (B : ℕ) (r : Row) → 1 ≤ B → 1 ≤ r.byteoffset + r.bytecount
    → lies_on_tape lengths B r ≡ leb (r.byteoffset + r.bytecount) (get_or (reaches B lengths) r.startblock 0)
unfolding lies_on_tape
lies_reach lengths B r hB hE =
    let E : ℕ = r.byteoffset + r.bytecount in
    let d : (r.byteoffset + r.bytecount - 1) / B * B + (r.byteoffset + r.bytecount - 1) % B ≡ r.byteoffset + r.bytecount - 1
    = div-add-mod' (r.byteoffset + r.bytecount - 1) B in
    let m : (r.byteoffset + r.bytecount - 1) % B < B = mod-lt (r.byteoffset + r.bytecount - 1) hB in
    let w : (r.byteoffset + r.bytecount - 1) / B * B + ((r.byteoffset + r.bytecount - 1) % B + 1) ≡ r.byteoffset + r.bytecount = omega arith in
    let g : get_or lengths (r.startblock + (r.byteoffset + r.bytecount - 1) / B) 0 ≡ get_or (drop r.startblock lengths) ((r.byteoffset + r.bytecount - 1) / B) 0
    = sym (get_or-drop r.startblock lengths ((r.byteoffset + r.bytecount - 1) / B) 0) in
    rw (g, reach_at B r.startblock lengths)
    (covered B (drop r.startblock lengths) ((r.byteoffset + r.bytecount - 1) / B) ((r.byteoffset + r.bytecount - 1) % B + 1) (omega arith) (omega arith)
    ∙ ap (λ (k : ℕ). leb k (get_or (reaches B (drop r.startblock lengths)) 0 0)) w)

-- on a front of n elements an extent lies where it lies on the whole tape and its last block is one of them
pub lies_front : (lengths : List ℕ) (B n : ℕ) (r : Row)
    → lies_on_tape (take n lengths) B r ≡ (ltb (r.startblock + (r.byteoffset + r.bytecount - 1) / B) n && lies_on_tape lengths B r)
unfolding lies_on_tape
lies_front l B n r =
    let q : ℕ = (r.byteoffset + r.bytecount - 1) / B in
    let s : ℕ = r.startblock in
    let rem : ℕ = (r.byteoffset + r.bytecount - 1) % B + 1 in
    split
    (λ b. ltb (s + q) n ≡ b
    → (every (eqb B) (take q (drop s (take n l))) && leb rem (get_or (take n l) (s + q) 0)) ≡ (b && (every (eqb B) (take q (drop s l)) && leb rem (get_or l (s + q) 0))))
    (ltb (s + q) n)
    (λ e h. let w : s + q < n = ltb-true (s + q) n h in
    let t : take q (drop s (take n l)) ≡ take q (drop s l) = ap (take q) (drop_front s n l) ∙ take-take q (n - s) (drop s l) (omega arith) in
    rw (t, get_or-take n l (s + q) 0 w))
    (λ e h. let w : n ≤ s + q = ltb-false (s + q) n h in
    let g : get_or (take n l) (s + q) 0 ≡ 0 = get_or-eq_default (take n l) 0 {n = s + q} (omega (arith, length-take n l)) in
    rw (g, lt-leb rem 0 (omega arith)) (and-false (every (eqb B) (take q (drop s (take n l))))))
    refl

-- the table's answer is the definition's, on a front of n elements
pub lies_by_lem : (T lengths rest : List ℕ) (B n : ℕ) (r : Row) → T ≡ reaches B lengths ++ rest → n ≤ length lengths → 1 ≤ B → 1 ≤ r.byteoffset + r.bytecount
    → lies_by T B n r.startblock r.byteoffset r.bytecount ≡ lies_on_tape (take n lengths) B r
lies_by_lem T lengths rest B n r e w hB hE =
    let q : ℕ = (r.byteoffset + r.bytecount - 1) / B in
    sym (lies_front lengths B n r
    ∙ split (λ b. ltb (r.startblock + (r.byteoffset + r.bytecount - 1) / B) n ≡ b → (b && lies_on_tape lengths B r) ≡ (b && leb (r.byteoffset + r.bytecount) (get_or T r.startblock 0)))
    (ltb (r.startblock + (r.byteoffset + r.bytecount - 1) / B) n)
    (λ y h. let k : r.startblock + (r.byteoffset + r.bytecount - 1) / B < n = ltb-true _ _ h in
    let g : get_or T r.startblock 0 ≡ get_or (reaches B lengths) r.startblock 0
    = ap (λ (l : List ℕ). get_or l r.startblock 0) e ∙ get_or-append (reaches B lengths) rest 0 r.startblock (omega (arith, length_reaches B lengths)) in
    lies_reach lengths B r hB hE ∙ ap (leb (r.byteoffset + r.bytecount)) (sym g))
    (λ y h. refl) refl)
