-- An iterator over an entry and the directories that hold it: where it is, and where it goes.
use Rattle.std.specs.Prelude.{Some}
use mathlib.Core.Path.{◌≡◌, sym, ◌∙◌, subst}
use Prim.Native.Nat.{ℕ, ◌<◌}
use native.Mathlib.Omega.{arith}
use Rattle.paths.specs.declared.Table.{Table}
use Rattle.paths.specs.declared.EachUp.{EachUp}
use Rattle.paths.specs.Paths.{entry_count, parent_of}
use Rattle.paths.specs.EachUp.{GoesFrom, GoesUp}

-- it is at an entry of the table
pub record InTable (t : Table) (u : EachUp) : Type 0 where
  pub table : u.table ≡ t
  pub inside : u.n < entry_count t.entries.now

module _ {t : Table} where
  pub at_first : {u : EachUp} {n : ℕ} → GoesFrom t n u → n < entry_count t.entries.now → InTable t u
  at_first g h = record { table = g.0; inside = subst (λ (k : ℕ). k < entry_count t.entries.now) (sym g.1) h }

  module _ {u after : EachUp} {n : ℕ} (w : InTable t u) (g : GoesUp u (Some n) after) where
    pub given_inside : n < entry_count t.entries.now
    given_inside = omega (arith, w.inside, g.0)

    pub at_next : InTable t after
    at_next = record { table = g.2 ∙ w.table; inside = omega (arith, given_inside, g.3) }

    pub to_parent : parent_of t.entries.now n < n → after.n ≡ parent_of t.entries.now n
    to_parent = subst (λ (s : Table). parent_of s.entries.now n < n → after.n ≡ parent_of s.entries.now n) w.table g.4
