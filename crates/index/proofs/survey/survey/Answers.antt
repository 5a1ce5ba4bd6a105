-- `survey` meets its contract: what the walk gathered, summed up.
use mathlib.Core.Path.{◌≡◌, sym, subst}
use mathlib.Core.List.{List}
use Prim.Native.Nat.{ℕ}
use Rattle.std.proofs.Common.{rules}
use Rattle.std.proofs.lemmas.Result.{err_from_is_err_and}
use Rattle.xml.specs.Tree.{Forest}
use Rattle.elements.specs.Tags.{tags_at}
use Rattle.elements.proofs.ByTag.{row_told}
use Rattle.index.specs.Entries.{Entry}
use Rattle.index.specs.Steps.{asked, Counted, Refuses, Listed}
use Rattle.index.proofs.survey.survey.Goals as goal

-- tables that hold the same
listed_as : {es : List Entry} {e f x o p y : List ℕ} → Listed es e f o p → x ≡ f → y ≡ p → Listed es e x o y
listed_as {es} {e} {f} {x} {o} {p} {y} w q r =
    subst (λ (t : List ℕ). Listed es e x o t) (sym r) (subst (λ (t : List ℕ). Listed es e t o p) (sym q) w)

pub returns-in_err-sum_up : goal.returns-in_err-sum_up
returns-in_err-sum_up c =
    let a = c.args in
    let s = a.source.text.now in
    let p = err_from_is_err_and c.from_residual.result c.from_residual.ensures.1 in
    let e = c.in_err-sum_up.ensures {u = tt} s (asked a.source) (tags_at s a.at) _ a.entry_table.now _ a.row_table.now _ c.row-left.ensures.gathers in
    rw (p.1, p.2) (subst (λ (f : Forest). Refuses (asked a.source) f c.in_err-sum_up.field-0.0) (sym (row_told s a.at)) e)

pub returns : goal.returns
returns c =
    let a = c.args in
    let s = a.source.text.now in
    let w = c.row-left.ensures in
    let r = c.row-left.new.self.sums in
    let e = c.in_ok-sum_up.ensures {u = tt} s (asked a.source) (tags_at s a.at) _ a.entry_table.now _ a.row_table.now _ w.gathers in
    let n = w.same.entry_table in
    let m = w.same.row_table in
    record {
      counted = subst (λ (f : Forest). Counted (asked a.source) f r.entries r.files r.rows) (sym (row_told s a.at)) e.0;
      places = w.places;
      tags = w.tags;
      tables = listed_as e.1 (search rules) (search rules);
    }
