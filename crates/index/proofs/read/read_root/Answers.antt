-- `read_root` meets its contract: the root by its tag; its children are nested less deep than a text may be.
use Prim.Native.Nat.{◌≤◌, ◌<◌}
use native.Mathlib.Omega.{arith}
use Rattle.xml.specs.FormSteps.{height}
use Rattle.xml.proofs.Form.{form_reads}
use Rattle.elements.specs.Reading.{forest_at, head_at, children_at}
use Rattle.elements.proofs.Roots.{root_height, height_children}
use Rattle.index.specs.Steps.{asked}
use Rattle.index.proofs.Answers.{into_refused, same_into, same_tags, root_none, root_tag, root_at, no_root}
use Rattle.index.proofs.read.read_root.Goals as goal

pub read_tag-requires : goal.read_tag-requires
read_tag-requires c =
    let s = c.args.source.text.now in
    let n = c.in-Open.n in
    let r = root_at c.next_tag.ensures n c.in-Open.is in
    let h : height (forest_at s 38) ≤ 64 = root_height (form_reads s c.requires).2 in
    let w : height (children_at s n) < height (forest_at s 38) = rw r.row (height_children _ _ _) in
    omega arith

pub returns-in-End : goal.returns-in-End
returns-in-End c =
    let a = c.args in
    into_refused (root_none (asked a.source) a.place.letter a.place.block.0 (forest_at a.source.text.now 38) (no_root c.next_tag.ensures c.in-End.is))

pub returns-in-Open : goal.returns-in-Open
returns-in-Open c =
    let a = c.args in
    let s = a.source.text.now in
    let n = c.in-Open.n in
    let r = root_at c.next_tag.ensures n c.in-Open.is in
    same_tags r.tags (same_into c.read_tag.ensures (root_tag (asked a.source) a.place.letter a.place.block.0 (forest_at s 38) (head_at s n) (children_at s n) _ r.row))
