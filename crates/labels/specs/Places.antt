-- A side's label text, and where its texts stand in the side's store (01, LTFS label).
use Rattle.std.specs.Prelude.{List, [], ℕ, ◌+◌, length, Err, Ok}
use Rattle.refusals.specs.Refusals.{Answer}
use Rattle.tape.specs.Tape.{Tape}
use Rattle.elements.specs.declared.heads.Span.{Span}
use Rattle.label.specs.TextPlaces.{TextPlaces, text_places}
use Rattle.labels.specs.Labels.{bytes_at}

-- the label text of a side: its block 2
abbrev pub text_on : Answer Tape → List ℕ
text_on (Err r) = []
text_on (Ok t) = bytes_at t 2

-- a span of a text that begins `by` bytes into a store, as a span of the store
abbrev pub span_moved : ℕ → Span → Span
span_moved by w = record { from = by + w.from; len = w.len }

-- the three of a label
abbrev pub places_moved : ℕ → TextPlaces → TextPlaces
places_moved by w = record { creator = span_moved by w.creator; time = span_moved by w.time; uuid = span_moved by w.uuid }

-- where the texts of a side's label stand in its store: in block 2, which follows block 0
abbrev pub places_on : Answer Tape → TextPlaces
places_on (Err r) = text_places []
places_on (Ok t) = places_moved (length (bytes_at t 0)) (text_places (bytes_at t 2))
