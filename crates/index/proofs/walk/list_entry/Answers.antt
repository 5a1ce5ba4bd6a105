-- `list_entry` meets its contract: no entry, no room, or both tables.
use mathlib.Core.Path.{sym, ◌∙◌}
use native.Mathlib.Omega.{arith}
use Rattle.elements.specs.Tags.{heads}
use Rattle.index_values.proofs.Seated.{fileuid_placed}
use Rattle.index.proofs.Numbered.{puts_none, puts_full, puts_room}
use Rattle.index.proofs.walk.list_entry.Goals as goal

pub returns-then-not-is_entry : goal.returns-then-not-is_entry
returns-then-not-is_entry c k l placed tags count = puts_none c.args.text.now c.args.sort c.args.parent c.args.prior k l c.args.uids.now c.args.entry_table.now (sym c.is_entry.ensures ∙ c.if-not-is_entry.true)

pub returns-else-n-entry_table : goal.returns-else-n-entry_table
returns-else-n-entry_table c k l placed tags count =
    let a = c.args in
    let is = sym c.is_entry.ensures ∙ c.if-not-is_entry.false in
    let uid = c.number_placed-uid.ensures ∙ sym (fileuid_placed a.sort is a.text.now (heads k) a.places.now (placed is)) in
    puts_full a.text.now a.sort a.parent a.prior k l a.uids.now a.entry_table.now is _ _ c.put.ensures uid (omega (arith, c.if-n-entry_table.false))

pub returns-then-n-entry_table : goal.returns-then-n-entry_table
returns-then-n-entry_table c k l placed tags count =
    let a = c.args in
    let is = sym c.is_entry.ensures ∙ c.if-not-is_entry.false in
    let uid = c.number_placed-uid.ensures ∙ sym (fileuid_placed a.sort is a.text.now (heads k) a.places.now (placed is)) in
    puts_room a.text.now a.sort a.parent a.prior k l a.uids.now a.entry_table.now is _ _ c.put.ensures uid (omega (arith, c.if-n-entry_table.true)) _ _ (c.entry_numbers-numbers.ensures k l is (placed is) (tags is) uid count) c.copy.ensures
