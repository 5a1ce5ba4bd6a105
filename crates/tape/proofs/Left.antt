-- The elements of a list from a place on: one and those behind it; those of a list that holds a tape.
use Rattle.std.specs.Prelude.{Option, None, Some}
use mathlib.Core.Path.{◌≡◌, refl, ◌∙◌, ap}
use mathlib.Core.Bool.{true}
use mathlib.Core.List.{List, [], ◌∷◌, map}
use Prim.Native.Nat.{ℕ, zero, suc, ◌+◌, ◌≤◌, ◌<◌}
use native.Mathlib.Omega.{arith}
use lib.ListN.{length, drop, length-map}
use Rattle.slices.proofs.Booleans.{and_parts}
use Rattle.tape.specs.declared.Cell.{Cell}
use Rattle.tape.specs.declared.Cell.TheVariants.{Mark as mark_cell, Block as block_cell, Unreadable as unreadable_cell}
use Rattle.tape.specs.Tape.{Element, mark, block, unreadable, Tape, cell_of, list, is_lawful_cell, lawful_tape, Encodes}
use Rattle.tape.specs.ReadingSteps.{entry_at}
use Rattle.tape.specs.WalkSteps.{passed, and_on, cells_within, cells_left}
use Rattle.tape.proofs.Entries.{passed_lies}
use Rattle.tape.proofs.Walking.{width, entry_here, entry_none, next_here, passed_cell}

-- no element stands at the end
none_past : (l : List ℕ) (at : ℕ) → length l ≤ at → passed (entry_at l at) ≡ None
none_past l at h = go (passed (entry_at l at)) refl
  where
    go : (o : Option (Cell × ℕ)) → passed (entry_at l at) ≡ o → o ≡ None
    go None q = refl
    go (Some x) q = let b = passed_lies l at q in absurd (omega arith)

-- more are never asked for than bytes are left
enough : (l : List ℕ) (n m at : ℕ) → length l ≤ at + n → length l ≤ at + m → cells_within n l at ≡ cells_within m l at
unfolding cells_within
enough l zero zero at h k = refl
enough l zero (suc m) at h k = rw (none_past l at (omega arith))
enough l (suc n) zero at h k = rw (none_past l at (omega arith))
enough l (suc n) (suc m) at h k =
    go (passed (entry_at l at)) refl (λ next a. enough l n m next (omega arith) (omega arith))
  where
    go : (o : Option (Cell × ℕ)) → passed (entry_at l at) ≡ o → ((next : ℕ) → at < next → cells_within n l next ≡ cells_within m l next)
        → and_on (cells_within n l) o ≡ and_on (cells_within m l) o
    go None q same = refl
    go (Some x) q same = let b = passed_lies l at q in ap (λ (cs : List Cell). x.0 ∷ cs) (same x.1 b.1)

pub left_first : (l : List ℕ) (at : ℕ) {x : Cell × ℕ} → passed (entry_at l at) ≡ Some x → cells_left l at ≡ x.0 ∷ cells_left l x.1
unfolding cells_within
left_first l at {x} q =
    let b = passed_lies l at q in
    enough l (length l) (suc (length l)) at (omega arith) (omega arith) ∙ rw q

pub left_nothing : (l : List ℕ) (at : ℕ) → passed (entry_at l at) ≡ None → cells_left l at ≡ []
unfolding cells_within
left_nothing l at q = enough l (length l) (suc (length l)) at (omega arith) (omega arith) ∙ rw q

left_tape : (l : List ℕ) (at : ℕ) (t : Tape) → lawful_tape t ≡ true → drop at l ≡ list t → cells_left l at ≡ map cell_of t
unfolding list lawful_tape
left_tape l at [] h d = left_nothing l at (ap passed (entry_none l at d))
left_tape l at (e ∷ t) h d =
    let (ok, rest) = and_parts (is_lawful_cell (cell_of e)) (lawful_tape t) h in
    left_first l at (ap passed (entry_here l at (cell_of e) (list t) ok d) ∙ passed_cell (cell_of e) at)
    ∙ ap (λ (cs : List Cell). cell_of e ∷ cs) (left_tape l (at + width (cell_of e)) t rest (next_here l at (cell_of e) (list t) d))

-- a list says of each element of its tape what it is
pub left_encoded : {l s : List ℕ} {t : Tape} → Encodes l s t → cells_left l 0 ≡ map cell_of t
left_encoded {l} {s} {t} e = left_tape l 0 t e.blocks e.lists

pub left_few : {l s : List ℕ} {t : Tape} → Encodes l s t → length (cells_left l 0) ≤ 65536
left_few {t} e = let few = e.elements in omega (arith, ap length (left_encoded e) ∙ length-map t cell_of)

-- an element is element n, and those behind it are what the list goes on to say
pub record CellAt (e : Element) (cs : List Cell) (t : Tape) (n : ℕ) : Type 0 where
  pub rest : Tape
  pub is : drop n t ≡ e ∷ rest
  pub cells : cs ≡ map cell_of rest
  pub inside : n < length t

inside_of : (t : Tape) (n : ℕ) {e : Element} {rest : Tape} → drop n t ≡ e ∷ rest → n < length t
inside_of [] zero d = cc
inside_of [] (suc n) d = cc
inside_of (f ∷ t) zero d = omega arith
inside_of (f ∷ t) (suc n) d = omega (arith, inside_of t n d)

cell_at : (t : Tape) (n : ℕ) {c : Cell} {cs : List Cell} → map cell_of (drop n t) ≡ c ∷ cs → (e : Element) × (c ≡ cell_of e) × CellAt e cs t n
cell_at t n {c} {cs} h = go (drop n t) refl h
  where
    go : (d : Tape) → drop n t ≡ d → map cell_of d ≡ c ∷ cs → (e : Element) × (c ≡ cell_of e) × CellAt e cs t n
    go [] q h = cc
    go (e ∷ u) q h = (e, cc, record { rest = u; is = q; cells = cc; inside = inside_of t n q })

module _ (t : Tape) (n : ℕ) {cs : List Cell} where
  pub mark_at : map cell_of (drop n t) ≡ mark_cell ∷ cs → CellAt mark cs t n
  mark_at h = let (e, c, k) = cell_at t n h in go e c k
    where
      go : (e : Element) → mark_cell ≡ cell_of e → CellAt e cs t n → CellAt mark cs t n
      go mark c k = k
      go (block x) c k = cc
      go unreadable c k = cc

  pub block_at : {size : ℕ} → map cell_of (drop n t) ≡ block_cell size ∷ cs → (x : List ℕ) × (size ≡ length x) × CellAt (block x) cs t n
  block_at {size} h = let (e, c, k) = cell_at t n h in go e c k
    where
      go : (e : Element) → block_cell size ≡ cell_of e → CellAt e cs t n → (x : List ℕ) × (size ≡ length x) × CellAt (block x) cs t n
      go mark c k = cc
      go (block x) c k = (x, cc, k)
      go unreadable c k = cc

  pub unreadable_at : map cell_of (drop n t) ≡ unreadable_cell ∷ cs → CellAt unreadable cs t n
  unreadable_at h = let (e, c, k) = cell_at t n h in go e c k
    where
      go : (e : Element) → unreadable_cell ≡ cell_of e → CellAt e cs t n → CellAt unreadable cs t n
      go mark c k = cc
      go (block x) c k = cc
      go unreadable c k = k

pub last_cell : (t : Tape) (n : ℕ) → map cell_of (drop n t) ≡ [] → length t ≤ n
last_cell [] n h = omega arith
last_cell (e ∷ t) zero h = cc
last_cell (e ∷ t) (suc n) h = omega (arith, last_cell t n h)
