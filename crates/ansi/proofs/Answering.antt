-- From the walk's answer to what is promised of a list and a store.
use Rattle.std.specs.Prelude.{Result, Err, Ok}
use mathlib.Core.Path.{◌≡◌, refl, sym, ap, ◌∙◌, subst}
use mathlib.Core.Bool.{Bool, true, false, cond}
use mathlib.Core.List.{List}
use Prim.Native.Nat.{ℕ, ◌*◌, ◌/◌, ◌≤◌}
use native.Mathlib.Nat.{zero-add}
use native.Mathlib.Omega.{arith}
use lib.Dec.{leb}
use lib.ListN.{length, take}
use Rattle.refusals.specs.declared.Refusal.{Refusal}
use Rattle.refusals.specs.declared.Refusal.TheVariants.{Short}
use Rattle.refusals.specs.Refusals.{Answer, require, and_then}
use Rattle.slices.specs.Slices.{written}
use Rattle.slices.specs.Writers.{held_after, room}
use Rattle.slices.proofs.Writing.{front_written}
use Rattle.tape.specs.Tape.{Tape, max_elements}
use Rattle.tape.specs.Answers.{tape_in}
use Rattle.tape.proofs.Encoding.{Bytes, encodes_read, tape_read}
use Rattle.tape.proofs.Keeping.{Present}
use Rattle.ansi.specs.Layout.{TapeFile, Layout, max_files}
use Rattle.ansi.specs.Places.{LongestFront}
use Rattle.ansi.specs.ReadingSteps.{ansi_of, front_of}
use Rattle.ansi.specs.Answers.{all_bytes, room_for, files_on, files_after, front_in, ByLayout}
use Rattle.ansi.specs.Steps.{ReadsFiles, AllRead, Stopped, HandsOut}
use Rattle.ansi.proofs.Form.{same_layout}
use Rattle.ansi.proofs.Refused.{means, one_meaning, longest_front}
use Rattle.ansi.proofs.Few.{few_files}

counted_room : (b : Bool) (k : ℕ) (fs : List TapeFile) → k ≡ length fs
    → require b Short (Ok k) ≡ and_then (require b Short (Ok fs)) (λ gs. Ok (length gs))
counted_room true k fs e = ap (λ (n : ℕ). Ok n) e
counted_room false k fs e = refl

stored_room : (b : Bool) (fs : List TapeFile) (before : List ℕ)
    → cond b (written 0 (all_bytes fs) before) before ≡ files_after (require b Short (Ok fs)) before
stored_room true fs before = refl
stored_room false fs before = refl

-- the rows are the files' bytes
rows_are : (fs : List TapeFile) (b : List ℕ) → take (length (all_bytes fs)) (written 0 (all_bytes fs) b) ≡ all_bytes fs
rows_are fs b = ap (λ (n : ℕ). take n (written 0 (all_bytes fs) b)) (sym (zero-add (length (all_bytes fs)))) ∙ front_written 0 (all_bytes fs) b (omega arith)

module _ (l s : List ℕ) (count : ℕ) (p : Present l s count) where
  module _ (before : List ℕ) (fs : List TapeFile) (read : ansi_of p.tape ≡ Ok fs) where
    files_are : files_on (length before) l s ≡ room_for (length before) fs
    files_are = rw (p.read, read)

  pub reads_found : {b text : List ℕ} {end : ℕ} (before after : List ℕ) (r : Result ℕ Refusal) → AllRead p.tape b text end → HandsOut (take end text) before after r → ReadsFiles l s before after r
  unfolding held_after
  reads_found {b} {text} {end} before after r f h =
      let fs = f.files in
      let w : take end text ≡ all_bytes fs = ap (λ (n : ℕ). take n text) f.ends ∙ ap (take (length (all_bytes fs))) f.holds ∙ rows_are fs b in
      let n : length (take end text) ≡ 36 * length fs = ap length w ∙ f.sized in
      let k : length (take end text) / 36 ≡ length fs = omega arith in
      let i : files_on (length before) l s ≡ room_for (length before) fs = files_are before fs f.read in
      record {
        answers = h.answers ∙ ap (λ (x : ℕ). require (leb x (length before)) Short (Ok (length (take end text) / 36))) n
            ∙ counted_room (leb (36 * length fs) (length before)) (length (take end text) / 36) fs k
            ∙ ap (λ (a : Answer (List TapeFile)). and_then a (λ gs. Ok (length gs))) (sym i);
        holds = h.holds ∙ ap (λ (x : List ℕ). held_after 0 x before) w
            ∙ ap (λ (x : ℕ). cond (leb x (length before)) (written 0 (all_bytes fs) before) before) (zero-add (length (all_bytes fs)) ∙ f.sized)
            ∙ stored_room (leb (36 * length fs) (length before)) fs before ∙ ap (λ (a : Answer (List TapeFile)). files_after a before) (sym i);
      }

  pub reads_stopped : {place : ℕ} (before : List ℕ) (r : Refusal) → Stopped p.tape r place → ReadsFiles l s before before (Err r)
  reads_stopped before r f = record { answers = rw (p.read, f.read); holds = rw (p.read, f.read) }

  pub place_found : {b text : List ℕ} {end : ℕ} → AllRead p.tape b text end → Ok count ≡ front_in l s
  place_found f = rw p.read (ap (λ (n : ℕ). Ok n) (sym (f.passed ∙ p.count)))

  pub place_stopped : {place : ℕ} (r : Refusal) → Stopped p.tape r place → Ok place ≡ front_in l s
  place_stopped r f = rw p.read (ap (λ (n : ℕ). Ok n) (sym f.passed))

-- a tape that was read from a list is within the bounds
tape_small : (l s : List ℕ) (t : Tape) → Bytes l → tape_in l s ≡ Ok t → length t ≤ max_elements
tape_small l s t w e = (encodes_read l s t w (tape_read l s t e)).elements

pub by_layout : (room : ℕ) (l s : List ℕ) → Bytes l → ByLayout room l s
by_layout room l s w t e =
    let b = tape_small l s t w e in
    record { meaning = ansi_of t; means = means t b; one = λ a m. sym (one_meaning t a b m); holds = rw e }

same_answer : {A : Type 0} {x y : A} → ◌≡◌ {A = Answer A} (Ok x) (Ok y) → x ≡ y
same_answer e = cc

-- the place that is answered is behind the longest front that begins a layout
pub place_longest : (l s : List ℕ) (n : ℕ) → Bytes l → Ok n ≡ front_in l s → (t : Tape) → tape_in l s ≡ Ok t → LongestFront t n
place_longest l s n w q t e =
    let z : Ok n ≡ Ok (front_of t) = q ∙ ap (λ (a : Answer Tape). and_then a (λ u. Ok (front_of u))) e in
    subst (LongestFront t) (sym (same_answer z)) (longest_front t (tape_small l s t w e))

pub place_none : (l s : List ℕ) (r : Refusal) → Err r ≡ front_in l s → (t : Tape) → tape_in l s ≡ Ok t → (n : ℕ) → LongestFront t n
place_none l s r q t e n =
    let z : Err r ≡ Ok (front_of t) = q ∙ ap (λ (a : Answer Tape). and_then a (λ u. Ok (front_of u))) e in
    let y : ◌≡◌ {A = ℕ} 0 1 = cc in
    absurd (omega arith)

-- the number that is told is one that a tape can have
pub few_told : (room : ℕ) (l s : List ℕ) (n : ℕ) → Bytes l → Ok n ≡ and_then (files_on room l s) (λ fs. Ok (length fs)) → n ≤ max_files
few_told room l s n w e = on (tape_in l s) refl e
  where
    fit : (b : Bool) (t : Tape) (fs : List TapeFile) → length t ≤ max_elements → Layout t fs → Ok n ≡ and_then (require b Short (Ok fs)) (λ gs. Ok (length gs)) → n ≤ max_files
    fit true t fs small y q = let z : n ≡ length fs = same_answer q in omega (arith, few_files small y)
    fit false t fs small y q = let z : ◌≡◌ {A = ℕ} 0 1 = cc in absurd (omega arith)

    read : (t : Tape) (a : Answer (List TapeFile)) → length t ≤ max_elements → ansi_of t ≡ a → Ok n ≡ and_then (and_then a (room_for room)) (λ fs. Ok (length fs)) → n ≤ max_files
    read t (Err r) small h q = let z : ◌≡◌ {A = ℕ} 0 1 = cc in absurd (omega arith)
    read t (Ok fs) small h q = fit (leb (36 * length fs) room) t fs small ((same_layout t fs).0 h) q

    on : (a : Answer Tape) → tape_in l s ≡ a → Ok n ≡ and_then (and_then a (λ t. and_then (ansi_of t) (room_for room))) (λ fs. Ok (length fs)) → n ≤ max_files
    on (Err r) h q = let z : ◌≡◌ {A = ℕ} 0 1 = cc in absurd (omega arith)
    on (Ok t) h q = read t (ansi_of t) (tape_small l s t w h) refl q
