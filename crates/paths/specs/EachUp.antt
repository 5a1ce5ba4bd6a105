-- What an iterator over an entry and the directories that hold it gives.
use Rattle.std.specs.Prelude.{◌≡◌, ℕ, ◌<◌, None, Option, Some}
use Rattle.paths.specs.declared.Table.{Table}
use Rattle.paths.specs.declared.EachUp.{EachUp}
use Rattle.paths.specs.Paths.{entry_count, parent_of}

-- it begins at entry n
abbrev pub GoesFrom : Table → ℕ → EachUp → Type 0
GoesFrom t n u = (u.table ≡ t) × (u.n ≡ n)

-- the next one is in the table
abbrev pub CanGoUp : EachUp → Type 0
CanGoUp u = u.n < entry_count u.table.entries.now

-- it gives the entry that it is at, and goes on at its parent if that is before it; or it is at the root
abbrev pub GoesUp : EachUp → Option ℕ → EachUp → Type 0
GoesUp u None after = (u.n ≡ 0) × (after ≡ u)
GoesUp u (Some n) after =
    (u.n ≡ n) × (0 < n) × (after.table ≡ u.table) × (after.n < n) × (parent_of u.table.entries.now n < n → after.n ≡ parent_of u.table.entries.now n)
