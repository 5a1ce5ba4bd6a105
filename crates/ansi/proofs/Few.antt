-- A file takes seven elements of the tape or more, so that a tape within the bounds has few of them.
use Prim.Native.Nat.{ℕ, ◌+◌, ◌*◌, ◌≤◌}
use mathlib.Core.List.{List}
use native.Mathlib.Omega.{arith}
use lib.ListN.{length}
use Rattle.tape.specs.Tape.{Tape, max_elements}
use Rattle.ansi.specs.Layout.{TapeFile, Numbered, Users, Optional, Data, Trailer, FileOn, Files, Layout, max_files}

numbered_left : {w : List ℕ} {n : ℕ} {s t : Tape} → Numbered w n s t → length t ≤ length s
numbered_left Numbered.end = omega arith
numbered_left (Numbered.more e r) = omega (arith, numbered_left r)

users_left : {u : List ℕ} {s t : Tape} → Users u s t → length t ≤ length s
users_left Users.end = omega arith
users_left (Users.more e r) = omega (arith, users_left r)

optional_left : {w u : List ℕ} {n : ℕ} {s t : Tape} → Optional w u n s t → length t ≤ length s
optional_left (Optional.optional a b) = omega (arith, numbered_left a, users_left b)

data_left : {m : ℕ} {s t : Tape} → Data m s t → length t ≤ length s
data_left Data.end = omega arith
data_left (Data.more e r) = omega (arith, data_left r)

trailer_takes : {h : List ℕ} {n : ℕ} {s t : Tape} → Trailer h n s t → 3 + length t ≤ length s
trailer_takes (Trailer.trailer e c f o) = omega (arith, optional_left o)

file_takes : {tape : Tape} {f : TapeFile} {s t : Tape} → FileOn tape f s t → 7 + length t ≤ length s
file_takes (FileOn.file e g o n d r) = omega (arith, optional_left o, data_left d, trailer_takes r)

files_take : {tape s : Tape} {fs : List TapeFile} → Files tape s fs → 7 * length fs + 1 ≤ length s
files_take Files.end = omega arith
files_take (Files.more f r) = omega (arith, file_takes f, files_take r)

-- seven elements a file, VOL1 and the further mark
pub layout_takes : {t : Tape} {fs : List TapeFile} → Layout t fs → 7 * length fs + 2 ≤ length t
layout_takes (Layout.layout e o f r) = omega (arith, optional_left o, file_takes f, files_take r)

pub few_files : {t : Tape} {fs : List TapeFile} → length t ≤ max_elements → Layout t fs → length fs ≤ max_files
few_files b l = omega (arith, layout_takes l)
