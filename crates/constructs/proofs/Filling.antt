-- The walk that fills the table: at each place it matches the scan of the elements passed.
use Rattle.std.specs.Prelude.{Err, Ok}
use mathlib.Core.Path.{◌≡◌, refl, sym, ◌∙◌, ap}
use mathlib.Core.List.{List, [], ◌∷◌, map}
use Prim.Native.Nat.{ℕ, suc, ◌+◌, ◌≤◌, ◌<◌}
use native.Mathlib.Nat.{add-zero}
use native.Mathlib.Numerals.{add-one}
use native.Mathlib.Omega.{arith}
use lib.ListN.{length, take, drop}
use lib.Seq.{sets, take_all}
use Rattle.tape.specs.Tape.{Element, mark, block, unreadable, Tape, cell_of, store, content, Encodes}
use Rattle.tape.specs.declared.Cell.{Cell}
use Rattle.tape.specs.declared.Cell.TheVariants.{Mark as mark_cell, Block as block_cell, Unreadable as unreadable_cell}
use Rattle.tape.specs.WalkSteps.{cells_left}
use Rattle.tape.proofs.Left.{CellAt, mark_at, block_at, unreadable_at, last_cell, left_encoded}
use Rattle.tape.proofs.Encoding.{one_tape}
use Rattle.tape.proofs.Keeping.{Present, absent}
use Rattle.tape.proofs.Passing.{drop_next, bytes_next, bytes_within}
use Rattle.tape.specs.Answers.{element_count, bytes_before}
use Rattle.tape.specs.Steps.{Encoded}
use Rattle.refusals.specs.declared.Refusal.{Refusal}
use Rattle.constructs.specs.declared.Phase.{Phase}
use Rattle.constructs.specs.declared.Phase.TheVariants.{Labels}
use Rattle.constructs.specs.Constructs.{Construct, Scan, run_after, scan_step, scan, scan_start, standing}
use Rattle.constructs.specs.PhaseSteps.{after_mark, after_block, after_unreadable, closed_count, closed_table, Roomy}
use Rattle.constructs.specs.Tables.{construct_entries}
use Rattle.constructs.specs.TableSteps.{FindsConstructs, ScansPartition}
use Rattle.constructs.proofs.Scanning.{scanned, scanned_next, scanned_at, phase_of, phase_mark, phase_block, phase_unreadable, count_mark, done_still, table_mark, room_here}

-- the walk is at element at, and the list goes on to say rest
pub record Matched (B : ℕ) (l s : List ℕ) (T table : List ℕ) (rest : List Cell) (at off n : ℕ) (phase : Phase) : Type 0 where
  pub tape : Tape
  pub encodes : Encodes l s tape
  pub left : map cell_of (drop at tape) ≡ rest
  pub bytes : off ≡ bytes_before tape at
  pub phase_is : phase ≡ phase_of tape (scanned B tape at).run
  pub number : n ≡ length (scanned B tape at).done
  pub holds : table ≡ sets T 0 (construct_entries tape (scanned B tape at).done)

pub matched_start : (B : ℕ) (l s : List ℕ) (T : List ℕ) (w : (count : ℕ) × Encoded l s count) {rest : List Cell} {at : ℕ} → rest ≡ cells_left l 0 → at ≡ 0
    → Matched B l s T T rest at 0 0 (Labels 3)
unfolding scan store construct_entries
matched_start B l s T w q z =
    rw z
    record {
      tape = w.1.tape;
      encodes = w.1.encodes;
      left = sym (q ∙ left_encoded w.1.encodes);
      bytes = refl;
      phase_is = refl;
      number = refl;
      holds = refl;
    }

module _ {B : ℕ} {l s : List ℕ} {T table : List ℕ} {rest cs : List Cell} {at off n : ℕ} {phase : Phase} (m : Matched B l s T table rest at off n phase) where
  pub roomy_mark : rest ≡ mark_cell ∷ cs → Roomy n phase at off
  roomy_mark h =
      let k = mark_at m.tape at (m.left ∙ h) in
      rw (m.number, m.phase_is)
      (room_here B m.tape at mark k.rest k.is off (let few = m.encodes.elements in let inside = k.inside in omega arith)
      (let small = m.encodes.bytes in omega (arith, ap length m.encodes.stores)) m.bytes)

  pub few_marks : rest ≡ mark_cell ∷ cs → at < 65536
  few_marks h = let k = mark_at m.tape at (m.left ∙ h) in let few = m.encodes.elements in let inside = k.inside in omega arith

  pub matched_mark : rest ≡ mark_cell ∷ cs → Matched B l s T (closed_table table n phase at off) cs (at + 1) off (closed_count n phase at) (after_mark phase at off)
  unfolding scan_step content
  matched_mark h =
      let t = m.tape in
      let u = scanned B t at in
      let k = mark_at t at (m.left ∙ h) in
      let a : u.at ≡ at = scanned_at B t at mark k.rest k.is in
      let e : scanned B t (suc at) ≡ scan_step B u mark = scanned_next B t at mark k.rest k.is in
      let b : off ≡ bytes_before t (suc at) = m.bytes ∙ sym (bytes_next t at mark k.rest k.is ∙ add-zero (bytes_before t at)) in
      record {
        tape = t;
        encodes = m.encodes;
        left = rw (add-one at, drop_next t at mark k.rest k.is) (sym k.cells);
        bytes = rw (add-one at) b;
        phase_is =
            ap (λ (p : Phase). after_mark p at off) m.phase_is ∙ phase_mark B t at off u.run b
            ∙ rw (add-one at, e, a);
        number = ap (λ (x : ℕ). closed_count x phase at) m.number ∙ ap (λ (p : Phase). closed_count (length u.done) p at) m.phase_is
            ∙ count_mark t at u.run u.done ∙ rw (add-one at, e, a);
        holds = rw (m.holds, m.number, m.phase_is, add-one at, e, a) (table_mark T t at off u.run u.done m.bytes);
      }

  -- an element that is no mark: with its bytes and its phase, and no construct closed
  matched_other : (e : Element) (k : CellAt e cs m.tape at) (p : Phase) → (e ≡ mark → ⊥)
      → p ≡ phase_of m.tape (run_after B at (scanned B m.tape at).run e)
      → Matched B l s T table cs (at + 1) (off + length (content e)) n p
  unfolding scan_step
  matched_other e k p other q =
      let t = m.tape in
      let u = scanned B t at in
      let a : u.at ≡ at = scanned_at B t at e k.rest k.is in
      let x : scanned B t (suc at) ≡ scan_step B u e = scanned_next B t at e k.rest k.is in
      let c : (scanned B t (suc at)).done ≡ u.done = ap (λ (y : Scan). y.done) x ∙ done_still u.at u.run u.done e other in
      record {
        tape = t;
        encodes = m.encodes;
        left = rw (add-one at, drop_next t at e k.rest k.is) (sym k.cells);
        bytes = rw (add-one at, m.bytes) (sym (bytes_next t at e k.rest k.is));
        phase_is = q ∙ rw (add-one at, x, a);
        number = m.number ∙ ap length (sym c) ∙ rw (add-one at);
        holds = m.holds ∙ ap (λ (d : List Construct). sets T 0 (construct_entries t d)) (sym c) ∙ rw (add-one at);
      }

  pub matched_block : {k : ℕ} → rest ≡ block_cell k ∷ cs → Matched B l s T table cs (at + 1) (off + k) n (after_block phase B k)
  unfolding content
  matched_block {k} h =
      let (x, size, w) = block_at m.tape at (m.left ∙ h) in
      rw size
      (matched_other (block x) w (after_block phase B (length x)) (λ q. let z : ◌≡◌ {A = ℕ} 0 1 = cc in omega arith)
      (rw m.phase_is (phase_block B m.tape at (scanned B m.tape at).run x)))

  pub matched_unreadable : rest ≡ unreadable_cell ∷ cs → Matched B l s T table cs (at + 1) off n (after_unreadable phase)
  unfolding content
  matched_unreadable h =
      rw (← add-zero off)
      (matched_other unreadable (unreadable_at m.tape at (m.left ∙ h)) (after_unreadable phase) (λ q. let z : ◌≡◌ {A = ℕ} 0 1 = cc in omega arith)
      (rw m.phase_is (phase_unreadable B m.tape at (scanned B m.tape at).run)))

-- all elements passed: the constructs that stand
pub matched_end : {B : ℕ} {l s : List ℕ} {T table : List ℕ} {rest : List Cell} {at off n : ℕ} {phase : Phase}
    → Matched B l s T table rest at off n phase → rest ≡ [] → FindsConstructs B l s T table n
unfolding standing
matched_end {B} {l} {s} {T} {table} {rest} {at} {off} {n} m done t e =
    let same : m.tape ≡ t = one_tape m.encodes e in
    let whole : take at m.tape ≡ t = take_all at m.tape (last_cell m.tape at (m.left ∙ done)) ∙ same in
    record {
      number = m.number ∙ ap (λ (u : Tape). length (scan B scan_start u).done) whole;
      table = m.holds ∙ rw (whole, same);
    }

-- the bytes passed are within the store
pub bytes_bound : {B : ℕ} {l s : List ℕ} {T table : List ℕ} {rest : List Cell} {at off n : ℕ} {phase : Phase}
    → Matched B l s T table rest at off n phase → off ≤ 16777216
bytes_bound {at} m =
    let small = m.encodes.bytes in
    let b = m.bytes in
    omega (arith, ap length m.encodes.stores, bytes_within m.tape at)

-- what a scan answers of a tape that is there, or is not
pub scans_found : (B n : ℕ) (l s before after : List ℕ) (count : ℕ) (p : Present l s count) → FindsConstructs B l s before after n → ScansPartition B l s before after (Ok n)
scans_found B n l s before after count p f =
    let r = f p.tape p.encodes in
    record { answers = rw p.read (ap Ok r.number); holds = rw p.read r.table }

pub scans_refused : (B : ℕ) (l s table : List ℕ) (r : Refusal) → Err r ≡ element_count l s → ScansPartition B l s table table (Err r)
scans_refused B l s table r e = let a = absent l s r e in record { answers = rw a; holds = rw a }
