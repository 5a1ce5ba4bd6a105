-- `link` meets its contract: the link of the construct at its place, the first one apart.
use mathlib.Core.Bool.{not}
use mathlib.Core.Path.{refl, sym, ap, ◌∙◌}
use Rattle.volume.proofs.Chaining.{link_placed, at_unsound, at_first, at_behind}
use Rattle.volume.specs.Volume.{volume_with}
use Rattle.volume.specs.Readers.{given_to}
use Rattle.volume.specs.Steps.{bounds_text, brief_link, link_of}
use Rattle.volume.proofs.chains.link.Goals as goal
use Rattle.volume.proofs.chains.link.Goals.{then-k-eq0, else-k-eq0}

pub returns-in_err-brief : goal.returns-in_err-brief
returns-in_err-brief c =
    let r = c.args.reader.now in
    let p = c.args.partition.now in
    rw c.from_residual.ensures
    (at_unsound (volume_with (given_to r)) p.store.now p.constructs.now c.args.k c.args.before.0 c.brief_at.result
    (link_placed (given_to r) p.store.now p.constructs.now r.volume.data_letter c.args.k c.construct.result (bounds_text p.store.now c.construct.result) c.brief_at.result c.construct.ensures refl c.brief_at.ensures)
    c.in_err-brief.was)

pub returns : goal.returns
returns c =
    let r = c.args.reader.now in
    let p = c.args.partition.now in
    rw c.then_some.ensures
    (elim c.if-k-eq0.branch [
      | then-k-eq0 w ↦
          at_first (volume_with (given_to r)) p.store.now p.constructs.now c.args.k c.args.before.0 c.brief_at.result
          (link_placed (given_to r) p.store.now p.constructs.now r.volume.data_letter c.args.k c.construct.result (bounds_text p.store.now c.construct.result) c.brief_at.result c.construct.ensures refl c.brief_at.ensures)
          c.in_ok-brief.brief c.in_ok-brief.was w.if-k-eq0.true c.if-k-eq0.linked (w.is_none-linked.ensures ∙ ap not (sym w.linked-is))
      | else-k-eq0 w ↦
          at_behind (volume_with (given_to r)) p.store.now p.constructs.now c.args.k c.args.before.0 c.brief_at.result
          (link_placed (given_to r) p.store.now p.constructs.now r.volume.data_letter c.args.k c.construct.result (bounds_text p.store.now c.construct.result) c.brief_at.result c.construct.ensures refl c.brief_at.ensures)
          c.in_ok-brief.brief c.in_ok-brief.was w.if-k-eq0.false w.construct-else-k-eq0.result c.if-k-eq0.linked w.construct-else-k-eq0.ensures (w.linked-is ∙ w.joins-linked.ensures)
    ])
