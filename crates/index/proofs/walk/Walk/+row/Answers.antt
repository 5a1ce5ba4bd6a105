-- `row` meets its contract. Invariant: sweeping the whole row comes to the same as sweeping its rest with what is gathered so far. It
-- calls itself with one level of nesting less, for the elements inside one.
use mathlib.Core.Path.{refl, ap, sym, ◌∙◌, subst}
use Prim.Native.Nat.{ℕ, ◌-◌, ◌<◌}
use native.Mathlib.Omega.{arith}
use lib.ListN.{drop}
use Rattle.xml.specs.Tree.{Forest, none}
use Rattle.elements.specs.declared.tags.Tag.TheVariants.{Open, Empty}
use Rattle.elements.specs.Tags.{Tags, heads, tags_at, tags_in}
use Rattle.elements.proofs.ByTag.{no_tags}
use Rattle.elements.specs.Reading.{head_at}
use Rattle.elements.specs.TagSteps.{NextTag, FirstOf}
use Rattle.elements.proofs.Rows.{row_end, row_close, behind_end, behind_close, behind_along, first_open, first_empty}
use Rattle.elements.proofs.Roots.{height_open, height_rest}
use Rattle.index_values.specs.Elements.{name_number}
use Rattle.index.specs.Steps.{asked, all_of}
use Rattle.index.specs.SweepSteps.{gathered, none_seen, after_row, after_element, sweep}
use Rattle.index.specs.declared.walk.Sums.{Sums}
use Rattle.index_rows.specs.Steps.{Placed, TagsPlaced}
use Rattle.index_rows.proofs.Placing.{noting_more, noting_all, noting_tags}
use Rattle.index.specs.Entries.{holder}
use Rattle.index.proofs.Steps.{row_over, step_holds, step_other, inner_empty, inner_open, inner_heads}
use Rattle.index.proofs.walk.Walk.+row.Goals as goal

pub returns-in-End : goal.returns-in-End
unfolding after_row
returns-in-End t c =
    let a = c.args in
    let s = a.source.text.now in
    let l = c.loop-seen in
    let v = l.invariant in
    let w = l.self in
    let tag = c.in-End.ensures in
    record {
      same = record { entry_table = v.same.entry_table; row_table = v.same.row_table; entry_room = v.same.entry_room; row_room = v.same.row_room };
      gathers = ap (λ (x : Sums). gathered x w.uids.now w.entry_table.now w.row_table.now) c.finish-self.ensures ∙ sym (v.sweeps ∙ row_over s (asked a.source) a.kind a.parent l.seen (all_of w) (tags_at s l.i) (no_tags s l.i (row_end tag)));
      behind = behind_along (omega (arith, v.ahead)) v.around (behind_end tag);
      places = noting_all s a.kind a.at l.i l.places (row_end tag) v.places;
      tags = noting_tags s a.kind a.at l.i l.places (row_end tag) v.places;
    }

pub returns-in-Close : goal.returns-in-Close
unfolding after_row
returns-in-Close t c =
    let a = c.args in
    let s = a.source.text.now in
    let l = c.loop-seen in
    let v = l.invariant in
    let w = l.self in
    let tag = c.in-Close.ensures in
    record {
      same = record { entry_table = v.same.entry_table; row_table = v.same.row_table; entry_room = v.same.entry_room; row_room = v.same.row_room };
      gathers = ap (λ (x : Sums). gathered x w.uids.now w.entry_table.now w.row_table.now) c.finish-self-in-Close.ensures ∙ sym (v.sweeps ∙ row_over s (asked a.source) a.kind a.parent l.seen (all_of w) (tags_at s l.i) (no_tags s l.i (row_close tag)));
      behind = behind_along (omega (arith, v.ahead)) v.around (behind_close tag);
      places = noting_all s a.kind a.at l.i l.places (row_close tag) v.places;
      tags = noting_tags s a.kind a.at l.i l.places (row_close tag) v.places;
    }

pub loop-seen-preserved-then-not-is_open : goal.loop-seen-preserved-then-not-is_open
loop-seen-preserved-then-not-is_open t c =
    let a = c.args in
    let s = a.source.text.now in
    let l = c.loop-seen in
    let v = l.invariant in
    let x = c.in-Opens.h in
    let met = c.meet-sort.ensures in
    let first : FirstOf s l.i x.at c.behind-i.result = c.behind-i.ensures l.i c.in-Opens.ensures in
    record {
      ahead = omega (arith, first.place, first.after, v.ahead);
      inside = first.after.1;
      deep = omega (arith, height_rest first, v.deep);
      around = v.around ∙ first.tags_kept;
      sweeps = v.sweeps ∙ step_other s (asked a.source) a.kind a.parent l.seen (all_of l.self) first c.meet-sort.result _ c.enter-self.result met.known met.seen c.enter-self.ensures (sym c.is_open.ensures ∙ c.if-not-is_open.true);
      places = noting_more s a.kind (name_number a.kind (head_at s x.at)) l.places _ first refl met.places a.at v.places;
      same = record { entry_table = v.same.entry_table; row_table = v.same.row_table; entry_room = v.same.entry_room; row_room = v.same.row_room };
    }

pub loop-seen-preserved-then-h : goal.loop-seen-preserved-then-h
loop-seen-preserved-then-h t c =
    let a = c.args in
    let s = a.source.text.now in
    let g = asked a.source in
    let l = c.loop-seen in
    let v = l.invariant in
    let w = l.self in
    let x = c.in-Opens.h in
    let met = c.meet-sort.ensures in
    let srt = c.meet-sort.result in
    let b = gathered c.enter-self.result w.uids.now w.entry_table.now w.row_table.now in
    let q = holder srt a.parent w.sums.entries in
    let tag : NextTag s l.i (Empty x.at) = rw c.if-h.true at c.in-Opens.ensures.tag in
    let first : FirstOf s l.i x.at x.at = first_empty tag in
    let closed = c.close_empty.ensures in
    let closes =
    closed.gathers ∙ ap (after_element s g srt none a.parent w.sums) (sym (row_over s g srt q none_seen b none refl))
    ∙ ap (λ (f : Tags). after_element s g srt f a.parent w.sums (sweep s g srt q none_seen f b)) (sym (inner_empty tag)) in
    record {
      ahead = omega (arith, first.place, first.after, v.ahead);
      inside = first.after.1;
      deep = omega (arith, height_rest first, v.deep);
      around = v.around ∙ first.tags_kept;
      sweeps = v.sweeps ∙ step_holds s g a.kind a.parent l.seen (all_of w) first srt _ c.enter-self.result met.known met.seen c.enter-self.ensures _ (sym c.is_open.ensures ∙ c.if-not-is_open.false) closes;
      places = noting_more s a.kind (name_number a.kind (head_at s x.at)) l.places _ first refl met.places a.at v.places;
      same =
          record {
            entry_table = closed.same.entry_table ∙ v.same.entry_table;
            row_table = closed.same.row_table ∙ v.same.row_table;
            entry_room = closed.same.entry_room ∙ v.same.entry_room;
            row_room = closed.same.row_room ∙ v.same.row_room;
          };
    }

pub overflow_sub-depth : goal.overflow_sub-depth
overflow_sub-depth t c =
    let s = c.args.source.text.now in
    let l = c.loop-seen in
    let x = c.in-Opens.h in
    let tag : NextTag s l.i (Open x.at) = rw c.if-h.false at c.in-Opens.ensures.tag in
    omega (arith, l.invariant.deep, height_open tag)

pub row-left-requires : goal.row-left-requires
row-left-requires t c =
    let s = c.args.source.text.now in
    let l = c.loop-seen in
    let x = c.in-Opens.h in
    let tag : NextTag s l.i (Open x.at) = rw c.if-h.false at c.in-Opens.ensures.tag in
    let deep = l.invariant.deep in
    let low = height_open tag in
    let y : c.args.depth - 1 < t = omega arith in
    (y, (tag.place.1, omega arith))

pub loop-seen-preserved : goal.loop-seen-preserved
loop-seen-preserved t c =
    let a = c.args in
    let s = a.source.text.now in
    let g = asked a.source in
    let l = c.loop-seen in
    let v = l.invariant in
    let w = l.self in
    let x = c.in-Opens.h in
    let met = c.meet-sort.ensures in
    let srt = c.meet-sort.result in
    let b = gathered c.enter-self.result w.uids.now w.entry_table.now w.row_table.now in
    let q = holder srt a.parent w.sums.entries in
    let tag : NextTag s l.i (Open x.at) = rw c.if-h.false at c.in-Opens.ensures.tag in
    let r = c.row-left.ensures in
    let first : FirstOf s l.i x.at c.row-left.result.at = first_open tag r.behind in
    let k = tags_in (drop x.at s) in
    let held : Placed s srt (heads k) c.row-left.result.places = subst (λ (f : Forest). Placed s srt f c.row-left.result.places) (inner_heads tag) r.places in
    let kept : TagsPlaced s srt k c.row-left.result.places = subst (λ (f : Tags). TagsPlaced s srt f c.row-left.result.places) (sym (inner_open tag)) r.tags in
    let closed = c.close.ensures in
    let closes =
    closed.gathers k (λ o. held) (λ o. kept)
    ∙ ap (after_element s g srt k a.parent w.sums)
    (r.gathers ∙ ap (λ (n : ℕ). sweep s g srt n none_seen (tags_at s x.at) b) c.directory_in-inside.ensures ∙ ap (λ (f : Tags). sweep s g srt q none_seen f b) (sym (inner_open tag))) in
    record {
      ahead = omega (arith, first.place, first.after, v.ahead);
      inside = first.after.1;
      deep = omega (arith, height_rest first, v.deep);
      around = v.around ∙ first.tags_kept;
      sweeps = v.sweeps ∙ step_holds s g a.kind a.parent l.seen (all_of w) first srt _ c.enter-self.result met.known met.seen c.enter-self.ensures _ (sym c.is_open.ensures ∙ c.if-not-is_open.false) closes;
      places = noting_more s a.kind (name_number a.kind (head_at s x.at)) l.places _ first refl met.places a.at v.places;
      same =
          record {
            entry_table = closed.same.entry_table ∙ r.same.entry_table ∙ v.same.entry_table;
            row_table = closed.same.row_table ∙ r.same.row_table ∙ v.same.row_table;
            entry_room = closed.same.entry_room ∙ r.same.entry_room ∙ v.same.entry_room;
            row_room = closed.same.row_room ∙ r.same.row_room ∙ v.same.row_room;
          };
    }
