-- The scan of a tape element by element, against the walk over its list: the phase is the model's run in numbers, and the table holds
-- the constructs closed so far.
use Rattle.std.specs.Prelude.{None, Option, Some}
use mathlib.Core.Path.{◌≡◌, refl, sym, ◌∙◌, ap, subst}
use mathlib.Core.Bool.{Bool, true, false, cond}
use mathlib.Core.List.{List, [], ◌∷◌, ◌++◌}
use Prim.Native.Nat.{ℕ, zero, suc, ◌+◌, ◌-◌, ◌*◌, ◌≤◌, ◌<◌}
use native.Mathlib.Nat.{add-zero, zero-add}
use native.Mathlib.Numerals.{add-one}
use native.Mathlib.Omega.{arith}
use lib.Dec.{ltb, eqb}
use lib.ListN.{length, take, drop, length-append}
use lib.Seq.{sets}
use borrow.Author.Tests.{eqb-false, ne_eqb}
use Rattle.slices.proofs.Booleans.{split}
use Rattle.tape.proofs.Passing.{take_next, length_taken, bytes_within}
use Rattle.tape.specs.Tape.{Element, mark, block, unreadable, Tape, store}
use Rattle.tape.specs.Answers.{bytes_before}
use Rattle.constructs.proofs.Sequences.{sets_append}
use Rattle.constructs.specs.declared.Phase.{Phase}
use Rattle.constructs.specs.declared.Phase.TheVariants.{Labels, Data, Index, Defect}
use Rattle.constructs.specs.Constructs.{Construct, Run, labels, data_run, index_run, defect, past_label, with_bytes, run_after, closed_by, Scan, scan_step, scan, scan_start, standing}
use Rattle.constructs.specs.PhaseSteps.{past_labels, after_mark, after_block, after_unreadable, closed_count, closed_table, Roomy}
use Rattle.constructs.specs.Tables.{is_holed, text_end, construct_entry, construct_entries}

-- the scan of the first n elements
abbrev pub scanned : ℕ → Tape → ℕ → Scan
scanned B t n = scan B scan_start (take n t)

scan_snoc : (B : ℕ) (s : Scan) (t : Tape) (e : Element) → scan B s (t ++ e ∷ []) ≡ scan_step B (scan B s t) e
unfolding scan
scan_snoc B s [] e = refl
scan_snoc B s (f ∷ t) e = scan_snoc B (scan_step B s f) t e

pub scan_at : (B : ℕ) (s : Scan) (t : Tape) → (scan B s t).at ≡ s.at + length t
unfolding scan scan_step
scan_at B s [] = sym (add-zero s.at)
scan_at B s (e ∷ t) = scan_at B (scan_step B s e) t ∙ omega arith

module _ (B : ℕ) (t : Tape) (n : ℕ) (e : Element) (rest : Tape) (d : drop n t ≡ e ∷ rest) where
  pub scanned_next : scanned B t (suc n) ≡ scan_step B (scanned B t n) e
  scanned_next = ap (scan B scan_start) (take_next t n e rest d) ∙ scan_snoc B scan_start (take n t) e

  pub scanned_at : (scanned B t n).at ≡ n
  scanned_at = scan_at B scan_start (take n t) ∙ omega (arith, length_taken t n e rest d)

-- the run in numbers
abbrev pub phase_of : Tape → Run → Phase
phase_of t (labels k) = Labels k
phase_of t data_run = Data
phase_of t (index_run f x short) = Index f (bytes_before t f) short (is_holed x)
phase_of t defect = Defect

past_phase : (t : Tape) (k : ℕ) → past_labels k ≡ phase_of t (past_label k)
unfolding past_label
past_phase t zero = refl
past_phase t (suc k) = let e : suc k - 1 ≡ k = omega arith in simp (ne_eqb (suc k) 0 (λ q. omega arith), e)

phase_if : (t : Tape) (b : Bool) (r q : Run) → cond b (phase_of t r) (phase_of t q) ≡ phase_of t (cond b r q)
phase_if t true r q = refl
phase_if t false r q = refl

pub phase_mark : (B : ℕ) (t : Tape) (n off : ℕ) (r : Run) → off ≡ bytes_before t (suc n) → after_mark (phase_of t r) n off ≡ phase_of t (run_after B n r mark)
unfolding run_after
phase_mark B t n off (labels k) h = past_phase t k
phase_mark B t n off data_run h = rw (add-one n, h)
phase_mark B t n off (index_run f x short) h = phase_if t (eqb f n) defect data_run
phase_mark B t n off defect h = refl

holed_still : (y : Option (List ℕ)) (x : List ℕ) → is_holed (with_bytes y x) ≡ is_holed y
holed_still None x = refl
holed_still (Some y) x = refl

pub phase_block : (B : ℕ) (t : Tape) (n : ℕ) (r : Run) (x : List ℕ) → after_block (phase_of t r) B (length x) ≡ phase_of t (run_after B n r (block x))
unfolding run_after
phase_block B t n (labels k) x = past_phase t k
phase_block B t n data_run x = phase_if t (ltb B (length x)) defect data_run
phase_block B t n (index_run f y short) x =
    rw (← holed_still y x)
    (ap (cond short Defect) (phase_if t (ltb B (length x)) defect (index_run f (with_bytes y x) (ltb (length x) B)))
    ∙ phase_if t short defect (cond (ltb B (length x)) defect (index_run f (with_bytes y x) (ltb (length x) B))))
phase_block B t n defect x = refl

pub phase_unreadable : (B : ℕ) (t : Tape) (n : ℕ) (r : Run) → after_unreadable (phase_of t r) ≡ phase_of t (run_after B n r unreadable)
unfolding run_after
phase_unreadable B t n (labels k) = past_phase t k
phase_unreadable B t n data_run = refl
phase_unreadable B t n (index_run f y short) = phase_if t short defect (index_run f None false)
phase_unreadable B t n defect = refl

pub count_mark : (t : Tape) (n : ℕ) (r : Run) (cs : List Construct) → closed_count (length cs) (phase_of t r) n ≡ length (closed_by n r cs mark)
unfolding closed_by
count_mark t n (labels k) cs = refl
count_mark t n data_run cs = refl
count_mark t n (index_run f x short) cs =
    split (λ b. cond b (length cs) (length cs + 1) ≡ length (cond b cs (record { first = f; end = suc n; text = x } ∷ cs))) (eqb f n)
    (λ e. refl) (λ e. add-one (length cs))
count_mark t n defect cs = refl

-- a mark alone closes a run
pub done_still : (n : ℕ) (r : Run) (cs : List Construct) (e : Element) → (e ≡ mark → ⊥) → closed_by n r cs e ≡ cs
unfolding closed_by
done_still n (labels k) cs e h = refl
done_still n data_run cs e h = refl
done_still n (index_run f y short) cs mark h = absurd (h refl)
done_still n (index_run f y short) cs (block x) h = refl
done_still n (index_run f y short) cs unreadable h = refl
done_still n defect cs e h = refl

pub length_entries : (t : Tape) (cs : List Construct) → length (construct_entries t cs) ≡ length cs * 4
unfolding construct_entries
length_entries t [] = refl
length_entries t (c ∷ cs) =
    let h : length (construct_entries t cs) ≡ length cs * 4 = length_entries t cs in
    let k : length (construct_entries t cs ++ construct_entry t c) ≡ length (construct_entries t cs) + 4 = length-append (construct_entries t cs) (construct_entry t c) in
    omega arith

entered : (T : List ℕ) (t : Tape) (cs : List Construct) (c : Construct) → sets (sets T 0 (construct_entries t cs)) (length cs * 4) (construct_entry t c) ≡ sets T 0 (construct_entries t (c ∷ cs))
unfolding construct_entries
entered T t cs c =
    ap (λ (i : ℕ). sets (sets T 0 (construct_entries t cs)) i (construct_entry t c)) (sym (length_entries t cs) ∙ sym (zero-add (length (construct_entries t cs))))
    ∙ sets_append T 0 (construct_entries t cs) (construct_entry t c)

pub table_mark : (T : List ℕ) (t : Tape) (n off : ℕ) (r : Run) (cs : List Construct) → off ≡ bytes_before t n
    → closed_table (sets T 0 (construct_entries t cs)) (length cs) (phase_of t r) n off ≡ sets T 0 (construct_entries t (closed_by n r cs mark))
unfolding closed_by
table_mark T t n off (labels k) cs h = refl
table_mark T t n off data_run cs h = refl
table_mark T t n off (index_run f x short) cs h =
    split
    (λ b. cond b (sets T 0 (construct_entries t cs)) (sets (sets T 0 (construct_entries t cs)) (length cs * 4) (f ∷ (n + 1) ∷ bytes_before t f ∷ text_end (is_holed x) (bytes_before t f) off ∷ []))
    ≡ sets T 0 (construct_entries t (cond b cs (record { first = f; end = suc n; text = x } ∷ cs))))
    (eqb f n) (λ e. refl)
    (λ e. let w : suc n - 1 ≡ n = omega arith in
    let q : off ≡ bytes_before t (suc n - 1) = h ∙ ap (bytes_before t) (sym w) in
    rw (add-one n, q) (entered T t cs (record { first = f; end = suc n; text = x })))
table_mark T t n off defect cs h = refl

-- constructs take three elements each
abbrev RoomIn : ℕ → Run → List Construct → Type 0
RoomIn n (labels k) cs = (length cs ≡ 0) × (n + k ≡ 3)
RoomIn n data_run cs = length cs * 3 + 4 ≤ n
RoomIn n (index_run f x short) cs = (length cs * 3 + 5 ≤ f) × (f ≤ n)
RoomIn n defect cs = length cs * 3 + 4 ≤ n

room_past : (n k : ℕ) (cs : List Construct) → length cs ≡ 0 → n + k ≡ 3 → RoomIn (suc n) (past_label k) cs
unfolding past_label
room_past n zero cs h e = omega arith
room_past n (suc k) cs h e = (h, omega arith)

room_step : (B n : ℕ) (r : Run) (cs : List Construct) (e : Element) → RoomIn n r cs → RoomIn (suc n) (run_after B n r e) (closed_by n r cs e)
unfolding run_after closed_by
room_step B n (labels k) cs e w = room_past n k cs w.0 w.1
room_step B n data_run cs mark w = (omega arith, omega arith)
room_step B n data_run cs (block x) w = split (λ b. RoomIn (suc n) (cond b defect data_run) cs) (ltb B (length x)) (λ e. omega arith) (λ e. omega arith)
room_step B n data_run cs unreadable w = omega arith
room_step B n (index_run f x short) cs mark w =
    split (λ b. eqb f n ≡ b → RoomIn (suc n) (cond b defect data_run) (cond b cs (record { first = f; end = suc n; text = x } ∷ cs))) (eqb f n)
    (λ e q. omega arith) (λ e q. let u : f ≡ n → ⊥ = eqb-false f n q in omega arith) refl
room_step B n (index_run f y short) cs (block x) w =
    split (λ b. RoomIn (suc n) (cond b defect (cond (ltb B (length x)) defect (index_run f (with_bytes y x) (ltb (length x) B)))) cs) short (λ e. omega arith)
    (λ e. split (λ b. RoomIn (suc n) (cond b defect (index_run f (with_bytes y x) (ltb (length x) B))) cs) (ltb B (length x)) (λ u. omega arith) (λ u. (w.0, omega arith)))
room_step B n (index_run f y short) cs unreadable w =
    split (λ b. RoomIn (suc n) (cond b defect (index_run f None false)) cs) short (λ e. omega arith) (λ e. (w.0, omega arith))
room_step B n defect cs e w = omega arith

room_scan : (B : ℕ) (s : Scan) (t : Tape) → RoomIn s.at s.run s.done → RoomIn (scan B s t).at (scan B s t).run (scan B s t).done
unfolding scan scan_step
room_scan B s [] w = w
room_scan B s (e ∷ t) w = room_scan B (scan_step B s e) t (room_step B s.at s.run s.done e w)

pub standing_few : (B : ℕ) (t : Tape) → length (standing B t) * 3 ≤ length t
unfolding standing
standing_few B t = go (scan B scan_start t).run (room_scan B scan_start t (refl, refl))
  where
    go : (r : Run) → RoomIn (scan B scan_start t).at r (standing B t) → length (standing B t) * 3 ≤ length t
    go (labels k) w = omega (arith, w.0)
    go data_run w = omega (arith, scan_at B scan_start t)
    go (index_run f x short) w = omega (arith, scan_at B scan_start t)
    go defect w = omega (arith, scan_at B scan_start t)

-- there is room for a construct that closes
roomy : (t : Tape) (n off : ℕ) (r : Run) (cs : List Construct) → n < 65536 → length (store t) ≤ 16777216 → off ≤ length (store t)
    → RoomIn n r cs → Roomy (length cs) (phase_of t r) n off
roomy t n off (labels k) cs h b o w = tt
roomy t n off data_run cs h b o w = tt
roomy t n off (index_run f x short) cs h b o w =
    record {
      few = omega arith;
      in_first = omega arith;
      in_end = omega arith;
      in_from = omega (arith, bytes_within t f);
      in_to = split (λ a. cond a (bytes_before t f) off ≤ 16777216) (is_holed x) (λ e. omega (arith, bytes_within t f)) (λ e. omega arith);
    }
roomy t n off defect cs h b o w = tt

module _ (B : ℕ) (t : Tape) (n : ℕ) (e : Element) (rest : Tape) (d : drop n t ≡ e ∷ rest) where
  pub room_here : (off : ℕ) → n < 65536 → length (store t) ≤ 16777216 → off ≡ bytes_before t n
      → Roomy (length (scanned B t n).done) (phase_of t (scanned B t n).run) n off
  room_here off h b o =
      roomy t n off (scanned B t n).run (scanned B t n).done h b (omega (arith, bytes_within t n))
      (subst (λ (k : ℕ). RoomIn k (scanned B t n).run (scanned B t n).done) (scanned_at B t n e rest d)
      (room_scan B scan_start (take n t) (refl, refl)))
