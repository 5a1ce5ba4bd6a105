-- What the steps of the check answer.
use Rattle.label.specs.declared.reader.LabelFields.{LabelFields}
use Rattle.refusals.specs.declared.Refusal.{Refusal}
use Rattle.std.specs.Prelude.{◌≡◌, cond, List, ℕ, length, None, Option, Result, Some}
use Rattle.tape.specs.Tape.{Tape, Encodes}
use Rattle.tape.specs.Answers.{tape_in}
use Rattle.tape.specs.declared.Entry.{Entry}
use Rattle.tape.specs.declared.Entry.TheVariants as entry
use Rattle.label.specs.Steps.{ReadsLabel}
use Rattle.labels.specs.declared.Layout.{Layout}
use Rattle.labels.specs.Labels.{is_laid, bytes_at, labels_in}
use Rattle.labels.specs.Places.{span_moved, places_on}

-- past a block, with its length
abbrev pub past_block : Entry → Option (ℕ × ℕ)
past_block (entry.Mark next) = None
past_block (entry.Block n next) = Some (n, next)
past_block (entry.Unreadable next) = None
past_block entry.End = None
past_block entry.Bad = None

-- past a mark
abbrev pub past_mark : Entry → Option ℕ
past_mark (entry.Mark next) = Some next
past_mark (entry.Block n next) = None
past_mark (entry.Unreadable next) = None
past_mark entry.End = None
past_mark entry.Bad = None

-- the lengths of a tape's blocks 0 and 2, where it is laid out
abbrev pub layout_of : Tape → Option Layout
layout_of t = cond (is_laid t) (Some (record { vol1 = length (bytes_at t 0); text = length (bytes_at t 2) })) None

abbrev pub LaysOut : List ℕ → Option Layout → Type 0
LaysOut l r = (s : List ℕ) (t : Tape) → Encodes l s t → r ≡ layout_of t

-- what a label says, with its spans moved
abbrev pub fields_moved : ℕ → LabelFields → LabelFields
fields_moved by f =
    record {
      release = f.release;
      creator = span_moved by f.creator;
      time = span_moved by f.time;
      uuid = span_moved by f.uuid;
      location = f.location;
      index_letter = f.index_letter;
      data_letter = f.data_letter;
      block_size = f.block_size;
      compression = f.compression;
    }

-- what the labels of two sides say, the places being in the index store
abbrev pub ChecksLabels : List ℕ → List ℕ → List ℕ → List ℕ → Result LabelFields Refusal → Type 0
ChecksLabels il is dl ds = ReadsLabel is (labels_in il is dl ds) (places_on (tape_in il is))
