-- `close` meets its contract: by the places, which are those of the names.
use mathlib.Core.Path.{refl, ap, sym, ◌∙◌, subst}
use Prim.Native.Nat.{ℕ, ◌*◌}
use lib.ListN.{take}
use Rattle.elements.specs.Tags.{heads}
use Rattle.index_names.specs.declared.Sort.{Sort}
use Rattle.index_rows.specs.Steps.{Placed}
use Rattle.index_values.specs.Entries.{is_entry}
use Rattle.index_values.specs.Steps.{rows_taken}
use Rattle.index.specs.Steps.{asked, rows_copied}
use Rattle.index.proofs.Gathering.{closed_parts}
use Rattle.index.proofs.Numbered.{rows_kept, taken_few}
use Rattle.index.proofs.walk.Walk.close.Goals as goal

pub returns : goal.returns
returns c =
    let a = c.args in
    let w = a.self.now in
    let s = a.source.text.now in
    let t = a.places.now in
    record {
      same = record { entry_table = refl; row_table = refl; entry_room = c.list_entry.auto.entry_table; row_room = c.keep_rows.auto.row_table };
      gathers = λ k placed tags.
          let f = heads k in
          let v = c.judge-v.ensures f (λ q. subst (λ (j : Sort). Placed s j f t) q (placed (ap is_entry q))) in
          let l = rows_taken a.sort f in
          let o = w.row_table.now in
          closed_parts s (asked a.source) a.sort k a.parent a.prior w.sums _ _ _ _ w.uids.now _ w.entry_table.now _ o _
          v.few (v.lawful a.source.uuid.now) v.count c.settle-self.ensures
          (c.list_entry.ensures k l placed tags v.count)
          (c.keep_rows.ensures ∙ ap (λ (n : ℕ). rows_copied c.judge-v.new.out n w.sums.rows o) v.count
          ∙ rows_kept c.judge-v.new.out l w.sums.rows o (taken_few a.sort f) (ap (λ (n : ℕ). take (n * 5) c.judge-v.new.out) (sym v.count) ∙ v.rows));
    }
