-- The totals of a list, element by element.
use Rattle.std.specs.Prelude.{None, Option, Some, Err, Ok}
use mathlib.Core.Path.{◌≡◌, refl, sym, ◌∙◌, ap}
use mathlib.Core.Bool.{Bool, true, false, cond, ◌&&◌}
use mathlib.Core.List.{List, [], ◌∷◌}
use Prim.Native.Nat.{ℕ, suc, ◌+◌, ◌-◌, ◌≤◌, ◌<◌}
use native.Mathlib.Nat.{add-zero, zero-add}
use native.Mathlib.Omega.{arith}
use lib.Dec.{leb, eqb}
use lib.ListN.{length, drop}
use borrow.Author.Tests.{le-leb, lt-leb, le-ltb}
use Rattle.slices.proofs.Booleans.{split}
use Rattle.refusals.specs.declared.Refusal.TheVariants as refusal
use Rattle.refusals.specs.Refusals.{Answer, and_then}
use Rattle.tape.specs.declared.Entry.{Entry}
use Rattle.tape.specs.declared.Entry.TheVariants as entry
use Rattle.tape.specs.declared.Totals.{Totals}
use Rattle.tape.specs.declared.Cell.{Cell}
use Rattle.tape.specs.declared.Cell.TheVariants.{Mark as mark_cell, Block as block_cell, Unreadable as unreadable_cell}
use Rattle.tape.specs.Tape.{Tape, max_store}
use Rattle.tape.specs.ReadingSteps.{and_behind, cells_from, cells, added, size, total, entry_at, filled, filled_with, tape_of}
use Rattle.tape.specs.WalkSteps.{passed, totals_from}
use Rattle.tape.specs.Answers.{or_refused, element_count}
use Rattle.tape.proofs.Entries.{Lies, entry_lies, lies_as}

-- one element counted
pub totals_more : (n v : ℕ) (c : Cell) (o : Option (List Cell)) → totals_from n v (added c o) ≡ totals_from (n + 1) (v + size c) o
unfolding totals_from added total
totals_more n v c None = refl
totals_more n v c (Some cs) =
    let e : n + suc (length cs) ≡ (n + 1) + length cs = omega arith in
    let f : v + (size c + total cs) ≡ (v + size c) + total cs = omega arith in
    rw (e, f)

pub totals_end : (n v : ℕ) → n ≤ 65536 → totals_from n v (Some []) ≡ Some (record { elements = n; bytes = v })
unfolding totals_from total
totals_end n v h = simp (add-zero, le-leb n 65536 h)

-- no element fits any more
over : (v : ℕ) (c : Cell) (o : Option (List Cell)) → totals_from 65536 v (added c o) ≡ None
unfolding totals_from added
over v c None = refl
over v c (Some cs) = simp (lt-leb (65536 + suc (length cs)) 65536 (omega arith))

full_at : (l : List ℕ) (at v : ℕ) (behind : ℕ → Option (List Cell)) (e : Entry) → at < length l → Lies l at e → totals_from 65536 v (and_behind behind e) ≡ None
unfolding totals_from
full_at l at v behind (entry.Mark next) h i = over v _ (behind next)
full_at l at v behind (entry.Block n next) h i = over v _ (behind next)
full_at l at v behind (entry.Unreadable next) h i = over v _ (behind next)
full_at l at v behind entry.End h i = absurd (omega arith)
full_at l at v behind entry.Bad h i = refl

-- the reading of a list from a place on, of which n elements were counted: each has at least a byte
abbrev pub left : List ℕ → ℕ → ℕ → Option (List Cell)
left l n at = cells_from (suc (length l - n)) l at

pub left_all : (l : List ℕ) → cells l ≡ left l 0 0
left_all l = let e : length l ≡ length l - 0 = omega arith in ap (λ (n : ℕ). cells_from (suc n) l 0) e

pub totals_full : (l : List ℕ) (n at v : ℕ) → at < length l → totals_from 65536 v (left l n at) ≡ None
unfolding cells_from
totals_full l n at v h = full_at l at v (cells_from (length l - n) l) (entry_at l at) h (entry_lies l at)

-- the entry at the place, and those behind it
pub left_on : (l : List ℕ) (n at : ℕ) {e : Entry} → n < length l → entry_at l at ≡ e → left l n at ≡ and_behind (left l (n + 1)) e
unfolding cells_from
left_on l n at h q = let k : length l - n ≡ suc (length l - (n + 1)) = omega arith in rw (q, k)

-- an element counted, or the place of none before the list's end
pub left_passed : (l : List ℕ) (n at v : ℕ) {x : Cell × ℕ} → n < length l → passed (entry_at l at) ≡ Some x
    → totals_from n v (left l n at) ≡ totals_from (n + 1) (v + size x.0) (left l (n + 1) x.1)
left_passed l n at v {x} h q = go (entry_at l at) refl q
  where
    go : (e : Entry) → entry_at l at ≡ e → passed e ≡ Some x → totals_from n v (left l n at) ≡ totals_from (n + 1) (v + size x.0) (left l (n + 1) x.1)
    go (entry.Mark to) e p = let z : (mark_cell, to) ≡ x = cc in rw (← z, left_on l n at h e) (totals_more n v mark_cell _)
    go (entry.Block k to) e p = let z : (block_cell k, to) ≡ x = cc in rw (← z, left_on l n at h e) (totals_more n v (block_cell k) _)
    go (entry.Unreadable to) e p = let z : (unreadable_cell, to) ≡ x = cc in rw (← z, left_on l n at h e) (totals_more n v unreadable_cell _)
    go entry.End e p = cc
    go entry.Bad e p = cc

-- so it is for each number that is one more
pub left_counted : (l : List ℕ) (n at v : ℕ) {x : Cell × ℕ} (m : ℕ) → n < length l → passed (entry_at l at) ≡ Some x → m ≡ n + 1
    → totals_from n v (left l n at) ≡ totals_from m (v + size x.0) (left l m x.1)
left_counted l n at v m h q e = rw e (left_passed l n at v h q)

pub left_stopped : (l : List ℕ) (n at v : ℕ) → n < length l → at < length l → passed (entry_at l at) ≡ None → totals_from n v (left l n at) ≡ None
unfolding totals_from
left_stopped l n at v h k q = go (entry_at l at) refl q
  where
    go : (e : Entry) → entry_at l at ≡ e → passed e ≡ None → totals_from n v (left l n at) ≡ None
    go (entry.Mark to) e p = cc
    go (entry.Block k to) e p = cc
    go (entry.Unreadable to) e p = cc
    go entry.End e p = let i : length l ≤ at = lies_as l at e in absurd (omega arith)
    go entry.Bad e p = rw (left_on l n at h e)

pub left_none : (l : List ℕ) (n at : ℕ) → length l ≤ at → left l n at ≡ Some []
unfolding cells_from entry_at
left_none l n at h = simp (le-ltb at (length l) h)

pub length_filled : (cs : List Cell) (s : List ℕ) → length (filled cs s) ≡ length cs
unfolding filled
length_filled [] s = refl
length_filled (c ∷ cs) s = ap suc (length_filled cs (drop (size c) s))

-- what the check answers, from the totals
abbrev pub count_by : List ℕ → Option Totals → Answer ℕ
count_by s (Some t) = cond (eqb t.bytes (length s) && leb (length s) max_store) (Ok t.elements) (Err refusal.List)
count_by s None = Err refusal.List

by_tests : (n : ℕ) (t : Tape) (a b d : Bool) → length t ≡ n
    → and_then (or_refused (cond (a && b && d) (Some t) None)) (λ u. Ok (length u))
    ≡ cond (a && b && d) (Ok n) (Err refusal.List)
by_tests n t a b d e = split (λ x. and_then (or_refused (cond x (Some t) None)) (λ u. Ok (length u)) ≡ cond x (Ok n) (Err refusal.List)) (a && b && d) (λ x. ap Ok e) (λ x. refl)

either : (a b d : Bool) (n v : ℕ) (s : List ℕ) → b ≡ eqb v (length s) → d ≡ leb (length s) max_store
    → cond (a && b && d) (Ok n) (Err refusal.List) ≡ count_by s (cond a (Some (record { elements = n; bytes = v })) None)
either true b d n v s e f = rw (e, f)
either false b d n v s e f = refl

pub count_of : (s : List ℕ) (o : Option (List Cell)) → and_then (or_refused (filled_with s o)) (λ t. Ok (length t)) ≡ count_by s (totals_from 0 0 o)
unfolding filled_with totals_from
count_of s None = refl
count_of s (Some cs) =
    rw (zero-add (length cs), zero-add (total cs))
    (by_tests (length cs) (filled cs s) (leb (length cs) 65536) (eqb (total cs) (length s)) (leb (length s) max_store) (length_filled cs s)
    ∙ either (leb (length cs) 65536) _ _ (length cs) (total cs) s refl refl)

pub counted_by : (l s : List ℕ) {r q : Option Totals} → r ≡ totals_from 0 0 (cells l) → r ≡ q → element_count l s ≡ count_by s q
unfolding tape_of
counted_by l s e f = count_of s (cells l) ∙ ap (count_by s) (sym e ∙ f)
