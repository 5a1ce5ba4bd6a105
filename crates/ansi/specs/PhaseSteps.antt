-- The reading in numbers, as the walk over a list does it: a label is told by where it begins in the store.
use Rattle.std.specs.Prelude.{Ok, Err}
use Rattle.refusals.specs.declared.Refusal.{Refusal}
use Rattle.std.specs.Prelude.{◌≡◌, cond, List, [], ◌∷◌, ℕ, suc, ◌<◌, take, drop, None, Option, Some, Result}
use Rattle.ansi.specs.declared.phases.Block.{Block}
use Rattle.ansi.specs.declared.phases.Phase.{Phase}
use Rattle.ansi.specs.declared.phases.Phase.TheVariants as phase
use Rattle.ansi_labels.specs.Labels.{is_label, is_numbered, label_number}
use Rattle.ansi.specs.Layout.{TapeFile}
use Rattle.ansi.specs.ReadingSteps.{Stage, start, volume, header, headers, blocks, trailer, second, trailers, between, done, Step, go, found, stop, at_mark, at_block}

-- the label that begins at a place of the store
abbrev pub label_at : List ℕ → ℕ → List ℕ
label_at s at = take 80 (drop at s)

-- what a phase means
abbrev pub stage_of : List ℕ → Phase → Stage
stage_of s phase.Start = start
stage_of s (phase.Volume k) = volume k
stage_of s (phase.Header h) = header (label_at s h)
stage_of s (phase.Headers h g k) = headers (label_at s h) (label_at s g) k
stage_of s (phase.Blocks h m) = blocks (label_at s h) m
stage_of s (phase.Trailer h m) = trailer (label_at s h) m
stage_of s phase.Second = second
stage_of s (phase.Trailers k) = trailers k
stage_of s phase.Between = between
stage_of s phase.Done = done

abbrev pub step_of : List ℕ → Result Phase Refusal → Step
step_of s (Ok p) = go (stage_of s p)
step_of s (Err r) = stop r

-- the step without its file
abbrev pub unfiled : Step → Step
unfiled (go σ) = go σ
unfiled (found f σ) = go σ
unfiled (stop r) = stop r

-- what the block of so many bytes that begins at a place of the store does in a phase
abbrev pub block_step : List ℕ → Phase → ℕ → ℕ → Step
block_step s p from len = at_block (stage_of s p) (take len (drop from s))

-- the bytes of a block
abbrev pub block_bytes : Block → List ℕ
block_bytes b = take b.len (drop b.from b.store.now)

-- a block leads from one phase to another, or to a refusal
abbrev pub StepsTo : Block → Phase → Result Phase Refusal → Type 0
StepsTo b p r = step_of b.store.now r ≡ block_step b.store.now p b.from b.len

-- what a mark does, without the file that it may make known
abbrev pub mark_step : List ℕ → Phase → Step
mark_step s p = unfiled (at_mark 0 (stage_of s p))

-- the number from which on optional labels may follow behind the block x, if it is one of them
unfoldable pub passed_to : List ℕ → List ℕ → ℕ → List ℕ → Option ℕ
passed_to w u k x = cond (is_numbered w k x) (Some (suc (label_number x))) (cond (is_label u x) (Some 10) None)

-- the file that a step makes known, if it does
abbrev pub known : Step → List TapeFile
known (go σ) = []
known (found f σ) = f ∷ []
known (stop r) = []

-- the file that a mark, element n, makes known
abbrev pub known_at : List ℕ → ℕ → Phase → List TapeFile
known_at s n p = known (at_mark n (stage_of s p))

-- the data blocks counted so far leave room for one more
abbrev pub Small : Phase → Type 0
Small (phase.Blocks h m) = m < 65536
Small _ = Unit {0}
