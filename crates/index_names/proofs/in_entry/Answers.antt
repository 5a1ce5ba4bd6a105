-- `in_entry` meets its contract: fileuid, name, the times, readonly.
use mathlib.Core.Path.{◌≡◌, sym, ◌∙◌}
use mathlib.Core.List.{[], ◌∷◌}
use Prim.Native.Nat.{ℕ, suc, ◌+◌}
use native.Mathlib.Omega.{arith}
use Rattle.slices.specs.Words.{bytes}
use Rattle.index_names.specs.Rows.{names_of}
use Rattle.index_names.specs.Tables.{times, entry_table}
use Rattle.index_names.proofs.Numbered.{number_first, number_later, number_none, number_front, number_behind}
use Rattle.index_names.proofs.in_entry.Goals as goal

two_add : (j : ℕ) → 2 + j ≡ suc (suc j)
two_add j = omega arith

pub returns-then-same : goal.returns-then-same
unfolding entry_table times bytes
returns-then-same c = number_first _ _ _ (sym c.same.ensures ∙ c.if-same.true)

pub returns-then-same-2 : goal.returns-then-same-2
unfolding entry_table times bytes
returns-then-same-2 c = number_later _ _ _ 0 (sym c.same.ensures ∙ c.if-same.false) (number_first _ _ _ (sym c.same-else-same.ensures ∙ c.if-same-2.true))

pub returns-then-j-lt5 : goal.returns-then-j-lt5
unfolding entry_table times bytes
returns-then-j-lt5 c = two_add _ ∙ number_later _ _ _ (suc _) (sym c.same.ensures ∙ c.if-same.false) (number_later _ _ _ _ (sym c.same-else-same.ensures ∙ c.if-same-2.false) (number_front (names_of times) (bytes "readonly" ∷ []) _ _ c.in_times-j.ensures c.if-j-lt5.true))

pub returns-then-same-3 : goal.returns-then-same-3
unfolding entry_table times bytes
returns-then-same-3 c = number_later _ _ _ 6 (sym c.same.ensures ∙ c.if-same.false) (number_later _ _ _ 5 (sym c.same-else-same.ensures ∙ c.if-same-2.false) (number_behind (names_of times) (bytes "readonly" ∷ []) _ _ c.in_times-j.ensures c.if-j-lt5.false 0 (number_first _ _ _ (sym c.same-else-j-lt5.ensures ∙ c.if-same-3.true))))

pub returns-else-same-3 : goal.returns-else-same-3
unfolding entry_table times bytes
returns-else-same-3 c = number_later _ _ _ 7 (sym c.same.ensures ∙ c.if-same.false) (number_later _ _ _ 6 (sym c.same-else-same.ensures ∙ c.if-same-2.false) (number_behind (names_of times) (bytes "readonly" ∷ []) _ _ c.in_times-j.ensures c.if-j-lt5.false 1 (number_later _ _ _ 0 (sym c.same-else-j-lt5.ensures ∙ c.if-same-3.false) (number_none _))))
