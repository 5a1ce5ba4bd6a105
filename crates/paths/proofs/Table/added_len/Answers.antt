-- `added_len` meets its contract: by whether the parent is the root.
use mathlib.Core.Path.{ap}
use native.Mathlib.Omega.{arith}
use lib.ListN.{length}
use Rattle.paths.proofs.Walks.{up}
use Rattle.paths.proofs.Names.{name_short, top_length, under_length}
use Rattle.paths.proofs.Table.added_len.Goals as goal

pub returns-then-parent_of-eq0 : goal.returns-then-parent_of-eq0
returns-then-parent_of-eq0 c =
    let a = c.args in
    let u = up a.self.now.text.now a.self.now.entries.now a.n c.requires.0 c.requires.1.answered in
    omega (arith, ap length c.name_of.ensures, top_length a.self.now.text.now a.self.now.entries.now a.n u (omega arith))

pub overflow_add-result : goal.overflow_add-result
overflow_add-result c =
    let a = c.args in
    omega (arith, ap length c.name_of.ensures, name_short a.self.now.text.now a.self.now.entries.now a.n)

pub returns-else-parent_of-eq0 : goal.returns-else-parent_of-eq0
returns-else-parent_of-eq0 c =
    let a = c.args in
    let u = up a.self.now.text.now a.self.now.entries.now a.n c.requires.0 c.requires.1.answered in
    omega (arith, ap length c.name_of.ensures, under_length a.self.now.text.now a.self.now.entries.now a.n u (λ z. omega arith))
