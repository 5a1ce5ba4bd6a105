-- `path` meets its contract: the tests in the order of the refusals, then the size, then the path.
use mathlib.Core.Path.{sym, ◌∙◌}
use native.Mathlib.Omega.{arith}
use lib.ListN.{length}
use Rattle.refusals.specs.declared.Refusal.TheVariants.{Missing, Caller}
use Rattle.paths.specs.Steps.{path_bytes}
use Rattle.paths.proofs.Delivering.{had_room, not_nines, no_entry, no_path, its_path, delivers_not, delivers_short, delivers}
use Rattle.paths.proofs.path.Goals as goal

pub returns-then-entries-ne0 : goal.returns-then-entries-ne0
returns-then-entries-ne0 c =
    let a = c.args in
    delivers_not a.out.now Caller (not_nines a.text.now a.entries.now a.entry c.if-entries-ne0.true)

pub returns-then-entries-n : goal.returns-then-entries-n
returns-then-entries-n c =
    let a = c.args in
    delivers_not a.out.now Missing (no_entry a.text.now a.entries.now a.entry c.if-entries-ne0.false (omega arith))

pub returns-then-not-is_path : goal.returns-then-not-is_path
returns-then-not-is_path c =
    let a = c.args in
    delivers_not a.out.now Caller (no_path a.text.now a.entries.now a.entry c.if-entries-ne0.false (omega arith) (sym c.is_path.ensures ∙ c.if-not-is_path.true))

pub path_len-requires : goal.path_len-requires
path_len-requires c =
    let e = sym c.is_path.ensures ∙ c.if-not-is_path.false in
    record { in_table = omega arith; answered = e }

pub returns-in_default : goal.returns-in_default
returns-in_default c =
    let a = c.args in
    let e = sym c.is_path.ensures ∙ c.if-not-is_path.false in
    delivers_short a.out.now (its_path a.text.now a.entries.now a.entry c.if-entries-ne0.false (omega arith) e) (sym c.in_default.is ∙ c.path_len.ensures)

pub put_path-requires : goal.put_path-requires
put_path-requires c =
    let a = c.args in
    let e = sym c.is_path.ensures ∙ c.if-not-is_path.false in
    let (n, h) = had_room (length a.out.now) (path_bytes a.text.now a.entries.now a.entry) c.in-Some.len (sym c.in-Some.is ∙ c.path_len.ensures) in
    record { path = record { in_table = omega arith; answered = e }; ends = n; room = omega arith }

pub returns : goal.returns
returns c =
    let a = c.args in
    let e = sym c.is_path.ensures ∙ c.if-not-is_path.false in
    delivers a.out.now (its_path a.text.now a.entries.now a.entry c.if-entries-ne0.false (omega arith) e) (sym c.in-Some.is ∙ c.path_len.ensures) c.put_path.ensures
