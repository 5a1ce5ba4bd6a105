-- `note` meets its contract: behind the header labels a mark makes their file known, elsewhere none.
use mathlib.Core.Path.{sym, ap, ap₂, ◌∙◌}
use mathlib.Core.List.{List}
use Prim.Native.Nat.{ℕ, suc, ◌+◌}
use native.Mathlib.Numerals.{add-one}
use borrow.Author.Rules.{rules}
use Rattle.writing.specs.Steps.{GrowsByAtMost}
use Rattle.writing.proofs.Pieces.{the_same, added_behind}
use Rattle.ansi.specs.Layout.{tape_file_of}
use Rattle.ansi.specs.ReadingSteps.{at_mark}
use Rattle.ansi.specs.PhaseSteps.{label_at, known_at}
use Rattle.ansi.specs.Answers.{file_bytes, all_bytes}
use Rattle.ansi.proofs.FileBytes.{one_file, none_known}
use Rattle.ansi.proofs.note.Goals as goal

pub returns-in-Headers : goal.returns-in-Headers
unfolding at_mark
returns-in-Headers c =
    let a = c.args in
    let h = c.in-Headers.h in
    let g = c.in-Headers.g in
    let rows = c.behind-rows.ensures in
    let grows : GrowsByAtMost 36 c.behind-rows.result (all_bytes (known_at a.store.now a.at a.phase)) c.add_file.new.rows =
    rw c.in-Headers.is
    (the_same
    (ap₂ (λ (x y : List ℕ). file_bytes (tape_file_of x y (a.at + 1))) c.part.ensures c.part-in-Headers.ensures
    ∙ ap (λ (n : ℕ). file_bytes (tape_file_of (label_at a.store.now h) (label_at a.store.now g) n)) (add-one a.at)
    ∙ sym (one_file (tape_file_of (label_at a.store.now h) (label_at a.store.now g) (suc a.at))))
    c.add_file.ensures) in
    let same = grows.grows.same ∙ rows.same_reference in
    added_behind rows.buffer rows.at grows (search rules) c.len.ensures

pub returns-in_default : goal.returns-in_default
returns-in_default c = none_known c.args.store.now c.args.at c.args.phase c.args.out.now c.args.end c.in_default.not-Headers
