-- `put_last` meets its contract: by whether the parent is the root.
use mathlib.Core.Path.{ap}
use native.Mathlib.Omega.{arith}
use lib.ListN.{length}
use Rattle.paths.proofs.Walks.{up}
use Rattle.paths.proofs.Names.{parts_fit, top_put, under_length, under_put}
use Rattle.paths.proofs.Table.put_last.Goals as goal

pub overflow_sub-from : goal.overflow_sub-from
overflow_sub-from c =
    let a = c.args in
    let u = up a.self.now.text.now a.self.now.entries.now a.n c.requires.0 c.requires.1.path.answered in
    let e = ap length c.name_of-name.ensures in
    omega (arith, parts_fit a.self.now.text.now a.self.now.entries.now a.n u)

pub returns-then-parent_of-eq0 : goal.returns-then-parent_of-eq0
returns-then-parent_of-eq0 c =
    let a = c.args in
    let u = up a.self.now.text.now a.self.now.entries.now a.n c.requires.0 c.requires.1.path.answered in
    let e = ap length c.name_of-name.ensures in
    let k = parts_fit a.self.now.text.now a.self.now.entries.now a.n u in
    top_put a.self.now.text.now a.self.now.entries.now a.n u (omega arith) c.name_of-name.ensures (omega arith) (omega arith) c.decode.ensures

pub overflow_sub-out : goal.overflow_sub-out
overflow_sub-out c =
    let a = c.args in
    let u = up a.self.now.text.now a.self.now.entries.now a.n c.requires.0 c.requires.1.path.answered in
    let e = ap length c.name_of-name.ensures in
    omega (arith, under_length a.self.now.text.now a.self.now.entries.now a.n u (λ z. omega arith))

pub bounds-out-from : goal.bounds-out-from
bounds-out-from c =
    let a = c.args in
    let u = up a.self.now.text.now a.self.now.entries.now a.n c.requires.0 c.requires.1.path.answered in
    let e = ap length c.name_of-name.ensures in
    omega (arith, under_length a.self.now.text.now a.self.now.entries.now a.n u (λ z. omega arith))

pub overflow_sub-result : goal.overflow_sub-result
overflow_sub-result c =
    let a = c.args in
    let u = up a.self.now.text.now a.self.now.entries.now a.n c.requires.0 c.requires.1.path.answered in
    let e = ap length c.name_of-name.ensures in
    omega (arith, under_length a.self.now.text.now a.self.now.entries.now a.n u (λ z. omega arith))

pub returns : goal.returns
returns c =
    let a = c.args in
    let u = up a.self.now.text.now a.self.now.entries.now a.n c.requires.0 c.requires.1.path.answered in
    let e = ap length c.name_of-name.ensures in
    let k = parts_fit a.self.now.text.now a.self.now.entries.now a.n u in
    under_put a.self.now.text.now a.self.now.entries.now a.n u (λ z. omega arith) c.name_of-name.ensures (omega arith) (omega arith) c.decode.ensures
