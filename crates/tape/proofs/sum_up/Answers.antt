-- `tape::sum_up` meets its contract. Invariant: the totals so far and those of the rest are the whole list's.
use Rattle.std.proofs.Common.{◌≡◌, ◌+◌, sym, ◌∙◌, ap, arith, rules, Some, None, ℕ, List, refl, inl, inr}
use lib.ListN.{length}
use Prim.Native.Nat.{◌<◌}
use Rattle.tape.specs.declared.Cell.{Cell}
use Rattle.tape.specs.declared.Cell.TheVariants.{Mark, Unreadable}
use Rattle.tape.specs.ReadingSteps.{entry_at, size}
use Rattle.tape.specs.WalkSteps.{passed, totals_from}
use Rattle.tape.proofs.Entries.{passed_lies}
use Rattle.tape.proofs.Counting.{totals_end, totals_full, left, left_all, left_counted, left_stopped, left_none}
use Rattle.tape.proofs.sum_up.Goals as goal

-- an element without bytes adds none
counted : (l : List ℕ) (n at v : ℕ) (x : Cell) (next m : ℕ) → n < length l → passed (entry_at l at) ≡ Some (x, next) → size x ≡ 0 → m ≡ n + 1
    → totals_from n v (left l n at) ≡ totals_from m v (left l m next)
counted l n at v x next m h q z e = left_counted l n at v m h q e ∙ ap (λ k. totals_from m k (left l m next)) (omega (arith, z))

pub loop-at-init : goal.loop-at-init
loop-at-init c = (search rules, search rules, search rules, search rules, ap (totals_from 0 0) (left_all c.args.list.now))

pub returns-then-elements-eq65536 : goal.returns-then-elements-eq65536
returns-then-elements-eq65536 c =
    let l = c.loop-at in
    let list = c.args.list.now in
    sym (l.invariant.4 ∙ ap (λ n. totals_from n l.bytes (left list l.elements l.at)) c.if-elements-eq65536.true ∙ totals_full list l.elements l.at l.bytes (search rules))

pub loop-at-smaller-in-Mark : goal.loop-at-smaller-in-Mark
loop-at-smaller-in-Mark c =
    let b = passed_lies c.args.list.now c.loop-at.at (ap passed (sym c.entry_at.ensures ∙ c.in-Mark.is)) in
    search rules

pub loop-at-preserved-in-Mark : goal.loop-at-preserved-in-Mark
loop-at-preserved-in-Mark c =
    let l = c.loop-at in
    let list = c.args.list.now in
    let q = ap passed (sym c.entry_at.ensures ∙ c.in-Mark.is) in
    let b = passed_lies list l.at q in (
      search rules,
      search rules,
      search rules,
      search rules,
      l.invariant.4 ∙ counted list l.elements l.at l.bytes Mark c.in-Mark.next _ (search rules) q refl (search rules),
    )

pub overflow_add-bytes : goal.overflow_add-bytes
overflow_add-bytes c =
    let b = passed_lies c.args.list.now c.loop-at.at (ap passed (sym c.entry_at.ensures ∙ c.in-Block.is)) in
    search rules

pub loop-at-smaller-in-Block : goal.loop-at-smaller-in-Block
loop-at-smaller-in-Block c =
    let b = passed_lies c.args.list.now c.loop-at.at (ap passed (sym c.entry_at.ensures ∙ c.in-Block.is)) in
    search rules

pub loop-at-preserved-in-Block : goal.loop-at-preserved-in-Block
loop-at-preserved-in-Block c =
    let l = c.loop-at in
    let list = c.args.list.now in
    let q = ap passed (sym c.entry_at.ensures ∙ c.in-Block.is) in
    let b = passed_lies list l.at q in (
      search rules,
      search rules,
      search rules,
      search rules,
      l.invariant.4 ∙ left_counted list l.elements l.at l.bytes _ (search rules) q (search rules),
    )

pub loop-at-smaller : goal.loop-at-smaller
loop-at-smaller c =
    let b = passed_lies c.args.list.now c.loop-at.at (ap passed (sym c.entry_at.ensures ∙ c.in-Unreadable.is)) in
    search rules

pub loop-at-preserved : goal.loop-at-preserved
loop-at-preserved c =
    let l = c.loop-at in
    let list = c.args.list.now in
    let q = ap passed (sym c.entry_at.ensures ∙ c.in-Unreadable.is) in
    let b = passed_lies list l.at q in (
      search rules,
      search rules,
      search rules,
      search rules,
      l.invariant.4 ∙ counted list l.elements l.at l.bytes Unreadable c.in-Unreadable.next _ (search rules) q refl (search rules),
    )

pub returns-in-End : goal.returns-in-End
returns-in-End c =
    let l = c.loop-at in
    let list = c.args.list.now in
    let stop : passed (entry_at list l.at) ≡ None =
    ap passed (sym c.entry_at.ensures)
    ∙ elim c.in-End.is [ inl e ↦ ap passed e | inr e ↦ ap passed e ]
    in
    sym (l.invariant.4 ∙ left_stopped list l.elements l.at l.bytes (search rules) (search rules) stop)

pub returns : goal.returns
returns c =
    let l = c.loop-at in
    sym (l.invariant.4 ∙ ap (totals_from l.elements l.bytes) (left_none c.args.list.now l.elements l.at (search rules)) ∙ totals_end l.elements l.bytes (search rules))
