-- `in_file` meets its contract: what directory and file have, then its own.
use mathlib.Core.Path.{sym, ◌∙◌}
use Rattle.slices.specs.Words.{bytes}
use Rattle.index_names.specs.declared.Sort.TheVariants.{Uid, Name}
use Rattle.index_names.specs.Rows.{names_of}
use Rattle.index_names.specs.Tables.{times, entry_table, of_file, table}
use Rattle.index_names.specs.Names.{names}
use Rattle.index_names.proofs.Numbered.{number_first, number_later, number_none, number_front, number_behind}
use Rattle.index_names.proofs.in_file.Goals as goal

pub returns-then-j-lt8 : goal.returns-then-j-lt8
unfolding names table entry_table times of_file bytes
returns-then-j-lt8 c = number_front (names_of (entry_table Uid Name)) (names_of of_file) _ _ c.in_entry-j.ensures c.if-j-lt8.true

pub returns-then-same : goal.returns-then-same
unfolding names table entry_table times of_file bytes
returns-then-same c = number_behind (names_of (entry_table Uid Name)) (names_of of_file) _ _ c.in_entry-j.ensures c.if-j-lt8.false 0 (number_first _ _ _ (sym c.same.ensures ∙ c.if-same.true))

pub returns-then-same-2 : goal.returns-then-same-2
unfolding names table entry_table times of_file bytes
returns-then-same-2 c = number_behind (names_of (entry_table Uid Name)) (names_of of_file) _ _ c.in_entry-j.ensures c.if-j-lt8.false 1 (number_later _ _ _ 0 (sym c.same.ensures ∙ c.if-same.false) (number_first _ _ _ (sym c.same-else-same.ensures ∙ c.if-same-2.true)))

pub returns-then-same-3 : goal.returns-then-same-3
unfolding names table entry_table times of_file bytes
returns-then-same-3 c = number_behind (names_of (entry_table Uid Name)) (names_of of_file) _ _ c.in_entry-j.ensures c.if-j-lt8.false 2 (number_later _ _ _ 1 (sym c.same.ensures ∙ c.if-same.false) (number_later _ _ _ 0 (sym c.same-else-same.ensures ∙ c.if-same-2.false) (number_first _ _ _ (sym c.same-else-same-2.ensures ∙ c.if-same-3.true))))

pub returns-else-same-3 : goal.returns-else-same-3
unfolding names table entry_table times of_file bytes
returns-else-same-3 c = number_behind (names_of (entry_table Uid Name)) (names_of of_file) _ _ c.in_entry-j.ensures c.if-j-lt8.false 3 (number_later _ _ _ 2 (sym c.same.ensures ∙ c.if-same.false) (number_later _ _ _ 1 (sym c.same-else-same.ensures ∙ c.if-same-2.false) (number_later _ _ _ 0 (sym c.same-else-same-2.ensures ∙ c.if-same-3.false) (number_none _))))
