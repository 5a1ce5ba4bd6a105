-- What stands on a partition from element 4 on: data runs and index runs, the standing constructs, the data blocks (01, Constructs,
-- verdict and cut; 02, Item 7, for unreadable blocks). B is the block size.
use Rattle.std.specs.Prelude.{Bool, true, false, not, cond, List, [], ◌∷◌, ◌++◌, ℕ, zero, suc, ◌/◌, length, ltb, eqb, None, Option, Some}
use Rattle.tape.specs.Tape.{Element, mark, block, unreadable, Tape, max_elements}

-- an index construct that stands: the number of its first block, the number of elements through its closing mark, and its text, none with
-- an unreadable block in its run
pub record Construct : Type 0 where
  pub first : ℕ
  pub end : ℕ
  pub text : Option (List ℕ)

-- the most constructs of a partition: each has a mark, a block and a mark
abbrev pub max_constructs : ℕ
max_constructs = max_elements / 3

-- where the next element stands: among the four of the labels, so many of them after it; in a data run; in an index run, with the number
-- of its first element, its bytes so far, none once an unreadable block was met, and whether the element before is a block shorter than B;
-- or behind the first defect
pub data Run : Type 0 where
  labels : ℕ → Run
  data_run : Run
  index_run : ℕ → Option (List ℕ) → Bool → Run
  defect : Run

unfoldable pub past_label : ℕ → Run
past_label zero = data_run
past_label (suc k) = labels k

-- a run's bytes and a block's
abbrev pub with_bytes : Option (List ℕ) → List ℕ → Option (List ℕ)
with_bytes None x = None
with_bytes (Some t) x = Some (t ++ x)

-- where the element after element n stands. Defects: a block longer than B, an empty index run, a block before the last of an index run
-- that is not B long; an unreadable block is none itself
unfoldable pub run_after : ℕ → ℕ → Run → Element → Run
run_after B n (labels k) e = past_label k
run_after B n data_run mark = index_run (suc n) (Some []) false
run_after B n data_run (block x) = cond (ltb B (length x)) defect data_run
run_after B n data_run unreadable = data_run
run_after B n (index_run f t short) mark = cond (eqb f n) defect data_run
run_after B n (index_run f t short) (block x) = cond short defect (cond (ltb B (length x)) defect (index_run f (with_bytes t x) (ltb (length x) B)))
run_after B n (index_run f t short) unreadable = cond short defect (index_run f None false)
run_after B n defect e = defect

-- the constructs closed through element n, the last one first: a mark closes an index run that is not empty
unfoldable pub closed_by : ℕ → Run → List Construct → Element → List Construct
closed_by n (labels k) cs e = cs
closed_by n data_run cs e = cs
closed_by n (index_run f t short) cs mark = cond (eqb f n) cs (record { first = f; end = suc n; text = t } ∷ cs)
closed_by n (index_run f t short) cs (block x) = cs
closed_by n (index_run f t short) cs unreadable = cs
closed_by n defect cs e = cs

-- how far a tape is read: the next element's number, where it stands, and the constructs closed so far, the last one first
pub record Scan : Type 0 where
  pub at : ℕ
  pub run : Run
  pub done : List Construct

unfoldable pub scan_step : ℕ → Scan → Element → Scan
scan_step B s e = record { at = suc s.at; run = run_after B s.at s.run e; done = closed_by s.at s.run s.done e }

unfoldable pub scan : ℕ → Scan → Tape → Scan
scan B s [] = s
scan B s (e ∷ t) = scan B (scan_step B s e) t

abbrev pub scan_start : Scan
scan_start = record { at = 0; run = labels 3; done = [] }

-- the constructs that stand on a tape, the last one first; the first of all has number 0
unfoldable pub standing : ℕ → Tape → List Construct
standing B t = (scan B scan_start t).done

-- for each element the length of the data block that it is, or 0, as for an unreadable block. So many elements of the labels are still to
-- come; behind them a run is a data run where the number of marks passed is even
unfoldable pub data_lengths_from : ℕ → Bool → Tape → List ℕ
data_lengths_from k even [] = []
data_lengths_from (suc k) even (e ∷ t) = 0 ∷ data_lengths_from k even t
data_lengths_from zero even (mark ∷ t) = 0 ∷ data_lengths_from zero (not even) t
data_lengths_from zero true (block x ∷ t) = length x ∷ data_lengths_from zero true t
data_lengths_from zero false (block x ∷ t) = 0 ∷ data_lengths_from zero false t
data_lengths_from zero even (unreadable ∷ t) = 0 ∷ data_lengths_from zero even t

abbrev pub data_lengths : Tape → List ℕ
data_lengths t = data_lengths_from 4 true t
