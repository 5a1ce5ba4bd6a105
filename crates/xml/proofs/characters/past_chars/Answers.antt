-- `past_chars` meets its contract: text of one byte each, and then what a wide character begins.
use Rattle.xml.proofs.Stays.{text_stay}
use Rattle.xml.proofs.Scanned.{scan_past, scan_done}
use Rattle.xml.proofs.characters.past_chars.Goals as goal

pub returns-then-byte-lt128 : goal.returns-then-byte-lt128
returns-then-byte-lt128 c = scan_past text_stay c.past_text-i.ensures (scan_done c.past_text-i.ensures.inside)

pub returns-else-byte-lt128 : goal.returns-else-byte-lt128
returns-else-byte-lt128 c = scan_past text_stay c.past_text-i.ensures c.past_wide.ensures
