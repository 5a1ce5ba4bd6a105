-- `span_at` meets its contract.
use mathlib.Core.Path.{ap, sym, ◌∙◌}
use native.Mathlib.Omega.{arith}
use Rattle.children.specs.Children.{text_of_first}
use Rattle.children.specs.Places.{first_text}
use Rattle.children.proofs.Seats.{seat_none, seat_some, tag_none, tag_some}
use Rattle.index_rows.proofs.span_at.Goals as goal

pub returns-then-n-eq0 : goal.returns-then-n-eq0
unfolding text_of_first
returns-then-n-eq0 c =
    let s = c.args.text.now in
    record { place = sym (ap (first_text s) (tag_none s c.args.n c.if-n-eq0.true)); spans = record { part = sym (ap text_of_first (seat_none c.args.text.now c.args.n c.if-n-eq0.true)); inside = omega arith } }

pub returns-else-n-eq0 : goal.returns-else-n-eq0
unfolding text_of_first
returns-else-n-eq0 c =
    let t = c.text_at.ensures.spans in
    let s = c.args.text.now in
    record { place = c.text_at.ensures.place ∙ sym (ap (first_text s) (tag_some s c.args.n c.if-n-eq0.false)); spans = record { part = t.part ∙ sym (ap text_of_first (seat_some c.args.text.now c.args.n c.if-n-eq0.false)); inside = t.inside } }
