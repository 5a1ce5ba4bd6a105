-- An ANSI labelled tape read element by element, from left to right: its files, or the refusal at the first element that can't stand.
use Rattle.std.specs.Prelude.{cond, List, [], ◌∷◌, ℕ, suc, eqb, Err, Ok}
use Rattle.refusals.specs.declared.Refusal.{Refusal}
use Rattle.refusals.specs.declared.Refusal.TheVariants.{Labels, EndOfVolume, BlockCount}
use Rattle.refusals.specs.Refusals.{Answer, and_then}
use Rattle.slices.specs.Words.{bytes}
use Rattle.tape.specs.Tape.{Element, Tape, mark, block, unreadable}
use Rattle.ansi_labels.specs.Labels.{is_label, label_number, is_numbered, is_volume, is_header2, is_trailer, block_count, is_data}
use Rattle.ansi.specs.Layout.{TapeFile, tape_file_of}

-- what was read last: nothing; the volume's labels, VOL numbers from n on may follow; HDR1 h; the header labels, HDR1 h and HDR2 g among them,
-- HDR numbers from n on may follow; n data blocks behind the labels; the mark behind n data blocks; EOF1; the trailer labels, EOF numbers from
-- n on may follow; the mark behind a trailer; the further mark
pub data Stage : Type 0 where
  start : Stage
  volume : ℕ → Stage
  header : List ℕ → Stage
  headers : List ℕ → List ℕ → ℕ → Stage
  blocks : List ℕ → ℕ → Stage
  trailer : List ℕ → ℕ → Stage
  second : Stage
  trailers : ℕ → Stage
  between : Stage
  done : Stage

-- what an element does: it is passed over, it makes a file known, or it can't stand
pub data Step : Type 0 where
  go : Stage → Step
  found : TapeFile → Stage → Step
  stop : Refusal → Step

-- an optional label of the words w and u is passed over; behind a user label no number may follow
unfoldable pub passing : List ℕ → List ℕ → ℕ → List ℕ → (ℕ → Stage) → Step → Step
passing w u n x next other = cond (is_numbered w n x) (go (next (suc (label_number x)))) (cond (is_label u x) (go (next 10)) other)

abbrev pub wrong : Step
wrong = stop Labels

-- a label HDR1, or what can't stand
unfoldable pub opening : List ℕ → Step
opening x = cond (is_label (bytes "HDR1") x) (go (header x)) wrong

-- the label behind n data blocks
unfoldable pub closing : List ℕ → ℕ → List ℕ → Step
closing h n x =
    cond (is_trailer h x) (cond (eqb (block_count x) n) (go second) (stop BlockCount)) (cond (is_label (bytes "EOV1") x) (stop EndOfVolume) wrong)

-- what a mark does, element n
unfoldable pub at_mark : ℕ → Stage → Step
at_mark n start = wrong
at_mark n (volume k) = wrong
at_mark n (header h) = wrong
at_mark n (headers h g k) = found (tape_file_of h g (suc n)) (blocks h 0)
at_mark n (blocks h m) = go (trailer h m)
at_mark n (trailer h m) = wrong
at_mark n second = wrong
at_mark n (trailers k) = go between
at_mark n between = go done
at_mark n done = wrong

-- what a block does
unfoldable pub at_block : Stage → List ℕ → Step
at_block start x = cond (is_volume x) (go (volume 2)) wrong
at_block (volume k) x = passing (bytes "VOL") (bytes "UVL") k x volume (opening x)
at_block (header h) x = cond (is_header2 x) (go (headers h x 3)) wrong
at_block (headers h g k) x = passing (bytes "HDR") (bytes "UHL") k x (headers h g) wrong
at_block (blocks h m) x = cond (is_data x) (go (blocks h (suc m))) wrong
at_block (trailer h m) x = closing h m x
at_block second x = cond (is_label (bytes "EOF2") x) (go (trailers 3)) wrong
at_block (trailers k) x = passing (bytes "EOF") (bytes "UTL") k x trailers wrong
at_block between x = opening x
at_block done x = wrong

-- what element n does; an unreadable block can stand nowhere (02, Item 7)
unfoldable pub read_step : ℕ → Stage → Element → Step
read_step n σ mark = at_mark n σ
read_step n σ (block x) = at_block σ x
read_step n σ unreadable = wrong

-- where the tape ends
unfoldable pub ending : Stage → Answer (List TapeFile)
ending start = Err Labels
ending (volume k) = Err Labels
ending (header h) = Err Labels
ending (headers h g k) = Err Labels
ending (blocks h m) = Err Labels
ending (trailer h m) = Err Labels
ending second = Err Labels
ending (trailers k) = Err Labels
ending between = Err Labels
ending done = Ok []

unfoldable pub follow : (Stage → Answer (List TapeFile)) → Step → Answer (List TapeFile)
follow next (go σ) = next σ
follow next (found f σ) = and_then (next σ) (λ fs. Ok (f ∷ fs))
follow next (stop r) = Err r

-- the files from element n on
unfoldable pub read_run : Tape → ℕ → Stage → Answer (List TapeFile)
read_run [] n σ = ending σ
read_run (e ∷ t) n σ = follow (read_run t (suc n)) (read_step n σ e)

-- the files of a tape
unfoldable pub ansi_of : Tape → Answer (List TapeFile)
ansi_of t = read_run t 0 start

-- how many elements are passed before one can't stand
unfoldable pub passed_on : ℕ → (Stage → ℕ) → Step → ℕ
passed_on n next (go σ) = next σ
passed_on n next (found f σ) = next σ
passed_on n next (stop r) = n

unfoldable pub passed_from : Tape → ℕ → Stage → ℕ
passed_from [] n σ = n
passed_from (e ∷ t) n σ = passed_on n (passed_from t (suc n)) (read_step n σ e)

unfoldable pub front_of : Tape → ℕ
front_of t = passed_from t 0 start
