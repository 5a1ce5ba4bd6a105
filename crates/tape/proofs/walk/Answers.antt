-- `tape::walk` meets its contract. Invariant: the walk over what is left, from here, reaches as far as the whole walk.
use Rattle.std.proofs.Common.{◌≡◌, ◌+◌, ◌-◌, ◌*◌, ◌<◌, ◌≤◌, sym, ◌∙◌, ap, arith, rules, Some, None, ℕ, List, inl, inr}
use mathlib.Core.Logic.{◌⊎◌}
use Rattle.tape.specs.declared.Entry.{Entry}
use Rattle.tape.specs.declared.Cell.{Cell}
use Rattle.tape.specs.declared.Cell.TheVariants.{Mark, Block, Unreadable}
use Rattle.tape.specs.Tape.{max_block}
use Rattle.tape.specs.ReadingSteps.{entry_at, size}
use Rattle.tape.specs.WalkSteps.{passed, reach}
use Rattle.tape.proofs.Entries.{passed_lies}
use Rattle.tape.proofs.Walking.{reach_done, reach_passed, reach_stopped}
use Rattle.tape.proofs.walk.Goals as goal
use Rattle.tape.proofs.walk.Goals.{in-Block, in-Mark, in-Mark-2}

-- one element more
step : (l : List ℕ) (n k at v : ℕ) (x : Cell) (next to w : ℕ) → k < n → (v ≤ k * max_block) × (reach n l 0 0 ≡ reach (n - k) l at v) → passed (entry_at l at) ≡ Some (x, next) → to ≡ next → w ≡ v + size x
    → (w ≤ (k + 1) * max_block) × (reach n l 0 0 ≡ reach (n - (k + 1)) l to w)
step l n k at v x next to w h i q e f =
    let b = passed_lies l at q in
    let r = reach_passed l at v (n - k) (omega arith) q in
    let m : n - k - 1 ≡ n - (k + 1) = omega arith in
    rw (e, f) (search rules, i.1 ∙ r ∙ ap (λ j. reach j l next (v + size x)) m)

-- an element more without bytes
step_bare : (l : List ℕ) (n k at v : ℕ) (r : Entry) → k < n → (v ≤ k * max_block) × (reach n l 0 0 ≡ reach (n - k) l at v) → r ≡ entry_at l at
    → (next to w : ℕ) → (r ≡ Entry.Mark next) ⊎ (r ≡ Entry.Unreadable next) → to ≡ next → w ≡ v
    → (w ≤ (k + 1) * max_block) × (reach n l 0 0 ≡ reach (n - (k + 1)) l to w)
step_bare l n k at v r h i t next to w e f g = elim e [
  | inl m ↦ step l n k at v Mark next to w h i (ap passed (sym t ∙ m)) f (omega (arith, g))
  | inr m ↦ step l n k at v Unreadable next to w h i (ap passed (sym t ∙ m)) f (omega (arith, g))
]

pub overflow_add-store : goal.overflow_add-store
overflow_add-store c =
    let b = passed_lies c.args.list.now c.loop.at (ap passed (sym c.entry_at.ensures ∙ c.in-Block.is)) in
    search rules

pub returns-in-End : goal.returns-in-End
returns-in-End c =
    let l = c.loop in
    let stop : passed (entry_at c.args.list.now l.at) ≡ None =
    ap passed (sym c.entry_at.ensures)
    ∙ elim c.in-End.is [ inl e ↦ ap passed e | inr e ↦ ap passed e ]
    in
    sym (l.invariant.1 ∙ reach_stopped c.args.list.now l.at l.store _ (omega arith) stop)

pub loop-preserved : goal.loop-preserved
loop-preserved c =
    let l = c.loop in
    let on = step c.args.list.now c.args.n l.counter l.at l.store in
    let told = ap passed (sym c.entry_at.ensures) in
    let bare = step_bare c.args.list.now c.args.n l.counter l.at l.store c.entry_at.result (omega arith) l.invariant c.entry_at.ensures in
    elim c.match-entry_at.branch [
      | in-Block w ↦ on (Block w.in-Block.size) w.in-Block.next _ _ (omega arith) l.invariant (told ∙ ap passed w.in-Block.is) w.at-is w.store-is
      | in-Mark w ↦ bare w.in-Mark.next _ _ w.in-Mark.is w.at-is w.store-is
      | in-Mark-2 w ↦ bare w.in-Mark.next _ _ w.in-Mark.is w.at-is w.store-is
    ]

pub returns : goal.returns
returns c =
    let l = c.loop in
    sym (l.invariant.1 ∙ reach_done c.args.list.now l.at l.store _ (omega arith))
