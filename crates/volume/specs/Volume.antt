-- A volume by what its labels give (01, Constructs, verdict and cut): how its indexes are read, which of them are sound; and the verdict and
-- the rescue on the lists and stores handed in, in the volume order (01, Refusal numbers).
use Rattle.std.specs.Prelude.{List, [], ◌∷◌, ℕ, None, Option, Some, Err, Ok}
use Rattle.refusals.specs.Refusals.{Answer, and_then}
use Rattle.refusals.specs.declared.Refusal.TheVariants.{NoCut}
use Rattle.tape.specs.Tape.{Tape}
use Rattle.tape.specs.Answers.{tape_in}
use Rattle.extents.specs.declared.Row.{Row}
use Rattle.index.specs.Index as text
use Rattle.index.specs.Index.{File, index_of}
use Rattle.index_values.specs.Tests.{Given}
use Rattle.label.specs.Label.{Label}
use Rattle.labels.specs.Labels.{labels_of}
use Rattle.verdict.specs.Verdict.{IndexLinks, Volume, Break, verdict, Cut}
use Rattle.verdict.specs.Rescue.{rescue}

unfoldable pub rows_of_each : List File → List (List Row)
rows_of_each [] = []
rows_of_each (f ∷ fs) = f.rows ∷ rows_of_each fs

-- what the verdict asks of an index
abbrev pub asked : text.Index → IndexLinks
asked x = record { generation = x.heading.generation; back = x.heading.back; files = rows_of_each x.files }

-- sound: it reads without refusal
abbrev pub soundly : Answer text.Index → Option IndexLinks
soundly (Err r) = None
soundly (Ok x) = Some (asked x)

-- the volume whose indexes are read with what the labels give: its index partition's letter is the first, its data partition's the other
abbrev pub volume_with : Given → Volume
volume_with g =
    record { size = g.block_size; index_letter = g.index_letter; data_letter = g.data_letter; read = λ letter block text. soundly (index_of g letter block text) }

-- what labels give
abbrev pub given_by : Label → Given
given_by f = record { uuid = f.uuid; index_letter = f.index_letter; data_letter = f.data_letter; block_size = f.block_size }

abbrev pub agreed : Answer Label → Option Volume
agreed (Err r) = None
agreed (Ok f) = Some (volume_with (given_by f))

-- the volume of two partitions whose labels are sound and agree
abbrev pub volume_of : Tape → Tape → Option Volume
volume_of i d = agreed (labels_of i d)

module _ {A : Type 0} where
  -- what is asked of the volume: 1, index side first; what its labels are refused for; then the question
  abbrev pub on_volume : (Volume → Tape → Tape → Answer A) → List ℕ → List ℕ → List ℕ → List ℕ → Answer A
  on_volume ask indexList indexStore dataList dataStore =
      and_then (tape_in indexList indexStore) (λ i. and_then (tape_in dataList dataStore) (λ d. and_then (labels_of i d) (λ f. ask (volume_with (given_by f)) i d)))

-- none: consistent; else the first break
abbrev pub verdict_in : List ℕ → List ℕ → List ℕ → List ℕ → Answer (Option Break)
verdict_in = on_volume (λ v i d. Ok (verdict v i d))

-- 13 where there is no consistent cut
abbrev pub or_no_cut : Option Cut → Answer Cut
or_no_cut None = Err NoCut
or_no_cut (Some a) = Ok a

abbrev pub rescue_in : List ℕ → List ℕ → List ℕ → List ℕ → Answer Cut
rescue_in = on_volume (λ v i d. or_no_cut (rescue v i d))
