-- What reading an index by its construct's number owes.
use Rattle.std.specs.Prelude.{◌≡◌, List, ℕ, ◌-◌, ◌<◌, None, Option, Some, Err, Ok}
use Rattle.refusals.specs.Refusals.{Answer}
use Rattle.tape.specs.Tape.{Tape}
use Rattle.elements.specs.Reading.{Inside, Spans}
use Rattle.constructs.specs.Constructs.{Construct}
use Rattle.index.specs.Places.{update_time_place}
use Rattle.index.specs.Steps.{summary_in, Definite}
use Rattle.index_values.specs.Tests.{Given}
use Rattle.index.specs.declared.read.Header.{Header}
use Rattle.constructs.specs.declared.Bounds.{Bounds}
use Rattle.volume.specs.Steps.{bounds_text, bounds_of}
use Rattle.volume.specs.declared.chosen.FoundIndex.{FoundIndex}
use Rattle.volume.specs.Chosen.{Indexed, read_at}

-- a construct that was found at a spot of a store, and its header
abbrev pub indexed_in : List ℕ → Bounds → Header → Indexed
indexed_in s p h =
    record { first = p.first.0; end = p.end; from = p.from; text = bounds_text s p; summary = summary_in (bounds_text s p) h }

abbrev pub chosen_by : List ℕ → Answer FoundIndex → Answer Indexed
chosen_by s (Ok x) = Ok (indexed_in s x.place x.header)
chosen_by s (Err r) = Err r

-- its text lies in the store, and its header leaves nothing open
pub record LiesInStore (s : List ℕ) (p : Bounds) (h : Header) : Type 0 where
  pub text : Inside s p.from (p.to - p.from)
  pub header : Definite (bounds_text s p) (update_time_place (bounds_text s p)) h

abbrev pub ChosenLies : List ℕ → Answer FoundIndex → Type 0
ChosenLies s (Ok x) = LiesInStore s x.place x.header
ChosenLies s (Err r) = Unit {0}

pub record Chooses (s : List ℕ) (a : Answer Indexed) (r : Answer FoundIndex) : Type 0 where
  pub answers : chosen_by s r ≡ a
  pub inside : ChosenLies s r

-- a construct's text at its spot of a store, where it has one, and it is not empty; else the spot is
abbrev pub TextAt : List ℕ → Bounds → Option (List ℕ) → Type 0
TextAt s p None = p.from ≡ p.to
TextAt s p (Some x) = Spans s p.from (p.to - p.from) x × (p.from < p.to)

-- the index at the spot of a construct
abbrev pub ReadsPlace : Given → ℕ → List ℕ → Bounds → Answer FoundIndex → Type 0
ReadsPlace g letter s p r =
    (t : Tape) (c : Construct) → p ≡ bounds_of t c → TextAt s p c.text → Chooses s (read_at g letter t c) r
