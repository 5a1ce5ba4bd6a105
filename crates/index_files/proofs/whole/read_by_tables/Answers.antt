-- `read_by_tables` meets its contract: a refusal, no room in the buffers, a second walk, or a copy of the tables.
use Rattle.std.specs.Prelude.{Ok}
use Rattle.std.proofs.lemmas.Result.{err_from_is_err_and}
use mathlib.Core.Path.{◌≡◌, ap, sym, ◌∙◌, subst}
use mathlib.Core.Bool.{true, false}
use Prim.Native.Nat.{◌+◌}
use lib.ListN.{length}
use Rattle.refusals.specs.Refusals.{Answer}
use Rattle.index.specs.Index.{Index, summary, summary_of, index_of}
use Rattle.index.specs.Entries.{index_entries}
use Rattle.index.specs.Steps.{means, IsListed, ReadsIndex}
use Rattle.index_values.specs.Steps.{given}
use Rattle.index_files.specs.Whole.{has_room}
use Rattle.index_files.proofs.Mapped.{mapped}
use Rattle.index_files.proofs.Handing.{rows_of, counted, rows_counted, room_as, whole_as, whole_refused, whole_short, whole_held, held_there, held_copied, found_again, enough_parts}
use Rattle.index_files.proofs.whole.read_by_tables.Goals as goal

pub returns-then-not-is_enough : goal.returns-then-not-is_enough
returns-then-not-is_enough c =
    let a = c.args in
    let s = a.text.now in
    let g = given a.uuid.now a.volume in
    let i = index_of g a.letter a.block.0 s in
    let e = a.entries.now in
    let o = a.rows.now in
    let h = c.in_ok-h.h in
    let (x, w, z) = mapped summary i _ (ap (means s) (sym c.in_ok-h.was) ∙ c.read_into.ensures.reads.answers) in
    let room : has_room s (length e) (length o) x ≡ false = sym (room_as g a.letter a.block.0 s x (sym w) h z (length e) (length o)) ∙ sym c.is_enough.ensures ∙ c.if-not-is_enough.true in
    whole_as w (whole_short s e e o o x room)

pub returns-then-not-is_enough-2 : goal.returns-then-not-is_enough-2
returns-then-not-is_enough-2 c =
    let a = c.args in
    let s = a.text.now in
    let g = given a.uuid.now a.volume in
    let i = index_of g a.letter a.block.0 s in
    let e = a.entries.now in
    let o = a.rows.now in
    let h = c.in_ok-h.h in
    let (x, w, z) = mapped summary i _ (ap (means s) (sym c.in_ok-h.was) ∙ c.read_into.ensures.reads.answers) in
    let room : has_room s (length e) (length o) x ≡ true = sym (room_as g a.letter a.block.0 s x (sym w) h z (length e) (length o)) ∙ sym c.is_enough.ensures ∙ c.if-not-is_enough.false in
    let q = c.read_into-then-not-is_enough-2.ensures in
    let r = c.read_into-then-not-is_enough-2.result in
    let l = found_again s x (rows_of g a.letter a.block.0 s x (sym w)) r (q.reads.answers ∙ ap summary_of (sym w)) q.tables in
    whole_as w
    (whole_held s e _ o _ x room (subst (λ (y : Answer Index). ReadsIndex s y r) (sym w) q.reads) (held_there s x (rows_of g a.letter a.block.0 s x (sym w)) l room))

pub hand_over-requires : goal.hand_over-requires
hand_over-requires c =
    let p = enough_parts c.in_ok-h.h _ _ (sym c.is_enough-2.ensures ∙ c.if-not-is_enough-2.false) in
    (p.0, p.1)

pub returns-in_err-h : goal.returns-in_err-h
returns-in_err-h c =
    let a = c.args in
    let p = err_from_is_err_and c.from_residual.result c.from_residual.ensures.1 in
    rw (p.1, p.2) (whole_refused a.text.now a.entries.now a.entries.now a.rows.now a.rows.now c.in_err-h.field-0.0 (ap (means a.text.now) (sym c.in_err-h.was) ∙ c.read_into.ensures.reads.answers))

pub returns : goal.returns
returns c =
    let a = c.args in
    let s = a.text.now in
    let g = given a.uuid.now a.volume in
    let i = index_of g a.letter a.block.0 s in
    let e = a.entries.now in
    let o = a.rows.now in
    let h = c.in_ok-h.h in
    let (x, w, z) = mapped summary i _ (ap (means s) (sym c.in_ok-h.was) ∙ c.read_into.ensures.reads.answers) in
    let m : length c.read_into.new.entry_table ≡ length a.entry_table.now = c.read_into.auto.entry_table in
    let n : length c.read_into.new.row_table ≡ length a.row_table.now = c.read_into.auto.row_table in
    let room : has_room s (length e) (length o) x ≡ true = sym (room_as g a.letter a.block.0 s x (sym w) h z (length e) (length o)) ∙ sym c.is_enough.ensures ∙ c.if-not-is_enough.false in
    let inside : has_room s (length a.entry_table.now) (length a.row_table.now) x ≡ true =
    sym (room_as g a.letter a.block.0 s x (sym w) h z (length a.entry_table.now) (length a.row_table.now)) ∙ sym (rw (m, n) at c.is_enough-2.ensures) ∙ c.if-not-is_enough-2.false in
    let l = subst (IsListed (index_entries s) a.entry_table.now _ a.row_table.now _) c.in_ok-h.was c.read_into.ensures.tables in
    whole_as w
    (whole_held s e _ o _ x room (subst (λ (y : Answer Index). ReadsIndex s y (Ok h)) (sym w) (subst (ReadsIndex s i) c.in_ok-h.was c.read_into.ensures.reads))
    (held_copied s x (rows_of g a.letter a.block.0 s x (sym w)) l inside e _ o _ (h.directories + h.files) h.rows room
    (counted g a.letter a.block.0 s x (sym w) h z 0 0) (rows_counted g a.letter a.block.0 s x (sym w) h z 0 0) c.hand_over.ensures.entries c.hand_over.ensures.rows))
