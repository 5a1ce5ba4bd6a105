-- `extents::find` meets its contract: the first row that has the position tells where the byte is.
use Rattle.std.proofs.Common.{sym, ◌∙◌, ap, refl, arith, rules, tests}
use Rattle.std.specs.Option.{option_map}
use Rattle.std.proofs.lemmas.Iterator.Consumers.{YieldsList-from_first}
use Rattle.std.proofs.lemmas.Iterator.Search.{find_from_yields_List}
use Rattle.quantities.specs.Letters.{is_letter}
use Rattle.extents.specs.declared.Row.{Row}
use Rattle.extents.specs.Rows.{rows_of}
use Rattle.extents.specs.Lawful.{in_row, row_lawful}
use Rattle.extents.specs.Map.{byte_in_row}
use Rattle.extents.proofs.OneRow.{in_row_lem, inside_block, block_of_position, letter_fits}
use Rattle.extents.proofs.Mapping.{place_found, found_passes}
use Rattle.extents.proofs.find.Goals as goal

pub returns-in_err-row : goal.returns-in_err-row
returns-in_err-row c =
    let a = c.args in
    let found = sym (find_from_yields_List (in_row a.position.0) c.find.new.self _ c.find.result c.find.ensures.ran (YieldsList-from_first (λ x. x) (λ s. rows_of s.0.now) (rows_of a.rows.now) refl) (λ x b q k. search (rules, tests))) ∙ ap (option_map (λ x. x)) c.in_err-row.was in
    rw c.from_residual.ensures (sym (place_found a.block_size a.position.0 (rows_of a.rows.now) ∙ ap (option_map (byte_in_row a.block_size a.position.0)) found))

pub stored-requires : goal.stored-requires
stored-requires c =
    let a = c.args in
    let row = c.in_ok-row.row in
    let found = sym (find_from_yields_List (in_row a.position.0) c.find.new.self _ c.find.result c.find.ensures.ran (YieldsList-from_first (λ x. x) (λ s. rows_of s.0.now) (rows_of a.rows.now) refl) (λ x b q k. search (rules, tests))) ∙ ap (option_map (λ x. x)) c.in_ok-row.was in
    let (held, letter) = found_passes (in_row a.position.0) (λ (r : Row). is_letter r.letter) (rows_of a.rows.now) found c.requires.0 in
    let lawful = (found_passes (in_row a.position.0) (row_lawful a.file_length.0 a.block_size) (rows_of a.rows.now) found c.requires.1).1 in
    let last = block_of_position a.file_length.0 a.block_size row lawful a.position.0 held in
    (letter_fits row.letter letter, inside_block a.file_length.0 a.block_size row lawful, (in_row_lem a.position.0 row held).0, omega arith)

pub returns : goal.returns
returns c =
    let a = c.args in
    let found = sym (find_from_yields_List (in_row a.position.0) c.find.new.self _ c.find.result c.find.ensures.ran (YieldsList-from_first (λ x. x) (λ s. rows_of s.0.now) (rows_of a.rows.now) refl) (λ x b q k. search (rules, tests))) ∙ ap (option_map (λ x. x)) c.in_ok-row.was in
    rw c.stored.ensures (sym (place_found a.block_size a.position.0 (rows_of a.rows.now) ∙ ap (option_map (byte_in_row a.block_size a.position.0)) found))
