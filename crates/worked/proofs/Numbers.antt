-- Numbers, as an index's reader tells them: by computation.
use mathlib.Core.Path.{◌≡◌, refl}
use mathlib.Core.Bool.{true}
use Rattle.slices.specs.Words.{bytes}
use Rattle.digits.specs.Runs.{value}
use Rattle.digits.specs.Decimal.{is_run, run, plain, plain_number}
use Rattle.digits.specs.Hex.{uuid_digits, spelled, uuid_bytes}
use Rattle.xml.specs.Bytes.{declaration, is_space, is_ascii_letter, is_name_byte}
use Rattle.xml.specs.CheckSteps.{reads, char, in_text, inside_element, tag_end, outside, leave, innermost, without_text, form_step, ended, form_run, form, in_form}
use Rattle.xml.specs.Tree.{front, behind, is_not, quote_after, past, quoted, head_of, behind_tag, top, pop, closed, opened, alone, put, trees}
use Rattle.elements.specs.Reading.{has_element}
use Rattle.texts.specs.Decoded.{reference_meant, meaning, decoded_behind, code_points}
use Rattle.children.specs.Children.{below}
use Rattle.values.specs.Values.{end_trimmed, signed, number, boolean, by_pattern, in_pattern, in_ranges, is_time, is_uuid, same_uuid, letter, is_creator, is_name, is_root_name, version}
use Rattle.extents.specs.Lawful.{lawful, row_lawful, apart}
use Rattle.index_names.specs.Rows.{count_once, some_any_number}
use Rattle.index_names.specs.Tables.{index_table, place_table, times, entry_table, of_directory, contents_table, of_file, extentinfo_table, extent_table, table, sort, must, repeats}
use Rattle.index_names.specs.Names.{names, number_in}
use Rattle.index_values.specs.Elements.{elements, text_in, children_in}
use Rattle.index_values.specs.Entries.{uid_of, many, uids_of}
use Rattle.index_values.specs.Tests as tests
use Rattle.index_values.specs.Tests.{valued, own, row_of, rows_in, few}
use Rattle.index_values.specs.Different.{member, different}
use Rattle.index.specs.Structure as structure
use Rattle.index.specs.Structure.{count, complete, rightly}
use Rattle.index.specs.Index.{files_of, structured, bounded, all_valued, children_read, tag_read, root_read, caller_right, index_of}
use Rattle.worked.specs.Cases.{sample_times, sample_index, says, is_refused}
use Rattle.worked.specs.Cases as cases

-- the largest reads, one more is 6, and leading zeros count for nothing
pub numbers :
    (says 18446744073709551615 (cases.read_number "18446744073709551615") ≡ true)
    × (is_refused 6 (cases.read_number "18446744073709551616") ≡ true)
    × (says 7 (cases.read_number "007") ≡ true)
unfolding sample_times sample_index bytes value is_run run plain plain_number end_trimmed signed is_space is_ascii_letter is_name_byte reads char in_text inside_element tag_end outside leave innermost without_text form_step ended form_run form in_form front behind is_not quote_after past quoted head_of top pop closed opened alone put trees behind_tag has_element reference_meant meaning decoded_behind code_points below number boolean by_pattern in_pattern in_ranges is_time is_uuid uuid_digits spelled uuid_bytes same_uuid letter is_creator is_name is_root_name version lawful row_lawful apart count_once some_any_number index_table place_table times entry_table of_directory contents_table of_file extentinfo_table extent_table table sort must repeats names number_in elements text_in children_in uid_of many uids_of valued own row_of rows_in few tests.lawful_file member different structure.may_stand count complete rightly files_of structured bounded all_valued children_read tag_read root_read caller_right index_of declaration
numbers = (refl, refl, refl)
