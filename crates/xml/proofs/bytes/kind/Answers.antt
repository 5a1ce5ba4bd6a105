-- `kind` meets its contract: the table has the kind of each byte.
use mathlib.Core.Path.{refl, ap, ◌∙◌}
use borrow.Author.Rules.{rules}
use Rattle.xml.specs.Bytes.{is_space, is_ascii_letter, is_name_byte}
use Rattle.xml.specs.declared.bytes.TheConstants.{KINDS}
use Rattle.xml.specs.ScanSteps.{is_text, kind_of}
use Rattle.xml.proofs.KindTable.{right, table_kinds}
use Rattle.xml.proofs.bytes.kind.Goals as goal

pub returns : goal.returns
unfolding right kind_of is_text is_space is_ascii_letter is_name_byte
returns c = table_kinds KINDS refl tt c.from.result (search rules) ∙ ap kind_of c.from.ensures
