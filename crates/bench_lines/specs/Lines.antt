-- What the program writes for the four files of a volume (01, Bench examples). Each line ends with LF.
use Rattle.std.specs.Prelude.{Bool, cond, ◌&&◌, List, [], ◌∷◌, ◌++◌, ℕ, leb, length, None, Option, Some, Err, Ok}
use Rattle.refusals.specs.Refusals.{Answer, number_of}
use Rattle.refusals.specs.declared.Refusal.{Refusal}
use Rattle.refusals.specs.declared.Refusal.TheVariants.{TooMany}
use Rattle.slices.specs.Words.{bytes}
use Rattle.digits.specs.Decimal.{short}
use Rattle.verdict.specs.Verdict.{Break, Cut}
use Rattle.volume.specs.Volume.{verdict_in, rescue_in}

unfoldable pub refused_line : Refusal → List ℕ
refused_line r = bytes "refused " ++ short (number_of r) ++ (10 ∷ [])

-- a word and two numbers
unfoldable pub pair : List ℕ → ℕ → ℕ → List ℕ
pair word a b = word ++ short a ++ bytes " " ++ short b

unfoldable pub consistent_line : List ℕ
consistent_line = bytes "verdict consistent" ++ (10 ∷ [])

unfoldable pub break_line : ℕ → ℕ → List ℕ
break_line which number = pair (bytes "verdict break ") which number ++ (10 ∷ [])

abbrev pub verdict_line : Option Break → List ℕ
verdict_line None = consistent_line
verdict_line (Some b) = break_line b.which b.number

unfoldable pub none_line : List ℕ
none_line = bytes "cut none" ++ (10 ∷ [])

unfoldable pub cut_line : Cut → List ℕ
cut_line k =
    pair (bytes "cut ") k.index_construct k.data_construct ++ pair (bytes " keep ") k.index_kept k.data_kept
    ++ bytes " generation " ++ short k.generation ++ (10 ∷ [])

-- where there is a verdict, 13 is the only refusal of the rescue
abbrev pub rescue_line : Answer Cut → List ℕ
rescue_line (Err r) = none_line
rescue_line (Ok k) = cut_line k

abbrev pub lines_of : Answer (Option Break) → Answer Cut → List ℕ
lines_of (Err r) k = refused_line r
lines_of (Ok b) k = verdict_line b ++ rescue_line k

-- the bounds of the files: lists, then stores
abbrev pub files_bounded : List ℕ → List ℕ → List ℕ → List ℕ → Bool
files_bounded indexList indexStore dataList dataStore =
    leb (length indexList) 4096 && leb (length indexStore) 24576 && leb (length dataList) 4096 && leb (length dataStore) 24576

-- a file past its bound is 15 before all else
abbrev pub lines_in : List ℕ → List ℕ → List ℕ → List ℕ → List ℕ
lines_in indexList indexStore dataList dataStore =
    cond (files_bounded indexList indexStore dataList dataStore)
    (lines_of (verdict_in indexList indexStore dataList dataStore) (rescue_in indexList indexStore dataList dataStore))
    (refused_line TooMany)
