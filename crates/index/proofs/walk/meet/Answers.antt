-- `meet` meets its contract: each part by the element's number.
use mathlib.Core.Path.{ap, ◌∙◌}
use Prim.Native.Nat.{ℕ}
use Rattle.index_names.specs.Tables.{sort}
use Rattle.index_rows.specs.Steps.{noted}
use Rattle.index.specs.SweepSteps.{marked}
use Rattle.index.proofs.walk.meet.Goals as goal

pub returns : goal.returns
returns c =
    let a = c.args in
    let e = c.number_at-j.ensures in
    record {
      seen = c.mark.ensures ∙ ap (λ (j : ℕ). marked j a.seen.now) e;
      places = c.note.ensures ∙ ap (λ (j : ℕ). noted j a.h.at a.places.now) e;
      known = c.sort_in.ensures ∙ ap (sort a.kind) e;
    }
