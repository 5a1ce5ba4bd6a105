-- The walk back that turns lengths into how far data blocks reach.
use Rattle.std.specs.Prelude.{Ok, Err}
use mathlib.Core.Path.{◌≡◌, refl, sym, ◌∙◌, ap}
use mathlib.Core.Bool.{Bool, true, false, not, cond}
use mathlib.Core.List.{List, [], ◌∷◌, ◌++◌}
use Prim.Native.Nat.{ℕ, zero, suc, ◌+◌, ◌-◌, ◌≤◌, ◌<◌, min}
use native.Mathlib.Omega.{arith}
use lib.Dec.{eqb, leb}
use lib.ListN.{length, get_or, take, drop, set, take-append-drop, length-append, get_or-append}
use lib.Seq.{sets, sets-eq, take_at, drop_at, length-take-le, take-suc, drop-cons, get_or-take, set_at, drop-length, append_snoc}
use borrow.Author.Tests.{eqb-true, le-leb, lt-leb}
use Rattle.slices.proofs.Booleans.{split}
use Rattle.refusals.specs.declared.Refusal.{Refusal}
use Rattle.refusals.specs.declared.Refusal.TheVariants as refusal
use Rattle.tape.specs.Tape.{Tape, mark, block, unreadable, store, content}
use Rattle.tape.specs.Answers.{element_count}
use Rattle.tape.proofs.Keeping.{Present, absent}
use Rattle.constructs.specs.Constructs.{data_lengths, data_lengths_from}
use Rattle.constructs.specs.ReachSteps.{reach_one, reaches, sum_of, Reaches}
use Rattle.constructs.proofs.Lengths.{length_lengths}

pub length_reaches : (B : ℕ) (xs : List ℕ) → length (reaches B xs) ≡ length xs
unfolding reaches
length_reaches B [] = refl
length_reaches B (x ∷ xs) = ap suc (length_reaches B xs)

-- no reach passes the sum of the lengths
pub reach_one_sum : (B x next : ℕ) → reach_one B x next ≤ x + next
reach_one_sum B x next = split (λ b. eqb x B ≡ b → cond b (B + next) (min x B) ≤ x + next) (eqb x B) (λ e q. let z = eqb-true x B q in omega arith) (λ e q. omega arith) refl

pub reach_sum : (B : ℕ) (xs : List ℕ) → get_or (reaches B xs) 0 0 ≤ sum_of xs
unfolding reaches sum_of
reach_sum B [] = omega arith
reach_sum B (x ∷ xs) = omega (arith, reach_one_sum B x (get_or (reaches B xs) 0 0), reach_sum B xs)

sum_drop : (n : ℕ) (xs : List ℕ) → sum_of (drop n xs) ≤ sum_of xs
unfolding sum_of
sum_drop zero xs = omega arith
sum_drop (suc n) [] = omega arith
sum_drop (suc n) (x ∷ xs) = omega (arith, sum_drop n xs)

-- the walk has come back to element i
pub record ReachAt (B count : ℕ) (T table : List ℕ) (i next : ℕ) : Type 0 where
  pub inside : i ≤ count
  pub room : count ≤ length T
  pub small : sum_of (take count T) ≤ 16777216
  pub holds : table ≡ take i T ++ (reaches B (drop i (take count T)) ++ drop count T)
  pub ahead : next ≡ get_or (reaches B (drop i (take count T))) 0 0

pub reach_start : (B count : ℕ) (T : List ℕ) → count ≤ length T → sum_of (take count T) ≤ 16777216 → ReachAt B count T T count 0
unfolding reaches
reach_start B count T room small =
    let n : length (take count T) ≡ count = length-take-le count T room in
    let e : drop count (take count T) ≡ [] = ap (λ (k : ℕ). drop k (take count T)) (sym n) ∙ drop-length (take count T) in
    record { inside = omega arith; room = room; small = small; holds = rw e (sym (take-append-drop count T)); ahead = rw e }

module _ {B count : ℕ} {T table : List ℕ} {i next : ℕ} (m : ReachAt B count T table i next) (more : 0 < i) where
  pub reach_value : get_or table (i - 1) 0 ≡ get_or T (i - 1) 0
  reach_value =
      let inside = m.inside in
      let room = m.room in
      let n : length (take i T) ≡ i = length-take-le i T (omega arith) in
      ap (λ (l : List ℕ). get_or l (i - 1) 0) m.holds
      ∙ get_or-append (take i T) (reaches B (drop i (take count T)) ++ drop count T) 0 (i - 1) (omega arith)
      ∙ get_or-take i T (i - 1) 0 (omega arith)

  -- the lengths from the element before on
  next_back : drop (i - 1) (take count T) ≡ get_or T (i - 1) 0 ∷ drop i (take count T)
  next_back =
      let inside = m.inside in
      let room = m.room in
      let n : length (take count T) ≡ count = length-take-le count T room in
      let e : suc (i - 1) ≡ i = omega arith in
      drop-cons (take count T) (i - 1) 0 (omega arith) ∙ rw (e, get_or-take count T (i - 1) 0 (omega arith))

  pub reach_bound : get_or T (i - 1) 0 + next ≤ 16777216
  unfolding sum_of
  reach_bound =
      let small = m.small in
      let q : sum_of (drop (i - 1) (take count T)) ≡ get_or T (i - 1) 0 + sum_of (drop i (take count T)) = ap sum_of next_back in
      let a = m.ahead in
      omega (arith, reach_sum B (drop i (take count T)), sum_drop (i - 1) (take count T))

  pub reach_back : ReachAt B count T (set table (i - 1) (reach_one B (get_or T (i - 1) 0) next)) (i - 1) (reach_one B (get_or T (i - 1) 0) next)
  unfolding reaches
  reach_back =
      let inside = m.inside in
      let room = m.room in
      let v : ℕ = reach_one B (get_or T (i - 1) 0) next in
      let R : List ℕ = reaches B (drop i (take count T)) ++ drop count T in
      let e : suc (i - 1) ≡ i = omega arith in
      let t : take i T ≡ take (i - 1) T ++ get_or T (i - 1) 0 ∷ [] = rw e at (take-suc T (i - 1) 0 (omega arith)) in
      let q : reaches B (drop (i - 1) (take count T)) ≡ reach_one B (get_or T (i - 1) 0) next ∷ reaches B (drop i (take count T))
      = ap (reaches B) next_back ∙ rw m.ahead in
      record {
        inside = omega arith;
        room = room;
        small = m.small;
        holds =
            rw (m.holds, t, append_snoc (take (i - 1) T) (get_or T (i - 1) 0) (reaches B (drop i (take count T)) ++ drop count T), q)
            (set_at (take (i - 1) T) (get_or T (i - 1) 0) (reaches B (drop i (take count T)) ++ drop count T) (reach_one B (get_or T (i - 1) 0) next) (i - 1)
            (length-take-le (i - 1) T (omega arith)));
        ahead = rw q;
      }

pub reach_end : {B count : ℕ} {T table : List ℕ} {i next : ℕ} → ReachAt B count T table i next → i ≤ 0 → table ≡ reaches B (take count T) ++ drop count T
reach_end {B} {count} {T} {i} m h = let z : i ≡ 0 = omega arith in m.holds ∙ rw z

sum_lengths : (k : ℕ) (even : Bool) (t : Tape) → sum_of (data_lengths_from k even t) ≤ length (store t)
unfolding data_lengths_from sum_of store content
sum_lengths k even [] = omega arith
sum_lengths (suc k) even (e ∷ t) = omega (arith, sum_lengths k even t, length-append (content e) (store t))
sum_lengths zero even (mark ∷ t) = omega (arith, sum_lengths zero (not even) t)
sum_lengths zero true (block x ∷ t) = omega (arith, sum_lengths zero true t, length-append x (store t))
sum_lengths zero false (block x ∷ t) = omega (arith, sum_lengths zero false t, length-append x (store t))
sum_lengths zero even (unreadable ∷ t) = omega (arith, sum_lengths zero even t)

-- a table with lengths at its front: its front is the lengths, and behind them it is as it was
module _ (T : List ℕ) (l s : List ℕ) (count : ℕ) (p : Present l s count) (room : count ≤ length T) where
  stored : sets T 0 (data_lengths p.tape) ≡ data_lengths p.tape ++ drop count T
  stored =
      let n : length (data_lengths p.tape) ≡ count = length_lengths 4 true p.tape ∙ p.count in
      let z : 0 + length (data_lengths p.tape) ≡ count = omega arith in
      sets-eq (data_lengths p.tape) T 0 (omega arith) ∙ rw z

  pub front_lengths : take count (sets T 0 (data_lengths p.tape)) ≡ data_lengths p.tape
  front_lengths = ap (take count) stored ∙ take_at (data_lengths p.tape) (drop count T) count (length_lengths 4 true p.tape ∙ p.count)

  pub back_lengths : drop count (sets T 0 (data_lengths p.tape)) ≡ drop count T
  back_lengths = ap (drop count) stored ∙ drop_at (data_lengths p.tape) (drop count T) count (length_lengths 4 true p.tape ∙ p.count)

  pub small_lengths : sum_of (take count (sets T 0 (data_lengths p.tape))) ≤ 16777216
  small_lengths =
      let b = p.encodes.bytes in
      rw front_lengths (omega (arith, sum_lengths 4 true p.tape, ap length p.encodes.stores))

  pub reaches_found : (B : ℕ) → Reaches B l s T (reaches B (take count (sets T 0 (data_lengths p.tape))) ++ drop count (sets T 0 (data_lengths p.tape))) (Ok count)
  reaches_found B =
      let w : leb (length p.tape) (length T) ≡ true = le-leb (length p.tape) (length T) (rw p.count room) in
      record { answers = rw (p.read, w, p.count); holds = rw (p.read, w, p.count, front_lengths, back_lengths) }

pub reaches_short : (B : ℕ) (T l s : List ℕ) (count : ℕ) → Present l s count → length T < count → Reaches B l s T T (Err refusal.Short)
reaches_short B T l s count p h =
    let w : leb (length p.tape) (length T) ≡ false = lt-leb (length p.tape) (length T) (rw p.count h) in
    record { answers = rw (p.read, w); holds = rw (p.read, w) }

pub reaches_refused : (B : ℕ) (T l s : List ℕ) (r : Refusal) → Err r ≡ element_count l s → Reaches B l s T T (Err r)
reaches_refused B T l s r e = let a = absent l s r e in record { answers = rw a; holds = rw a }
