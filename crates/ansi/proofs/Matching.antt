-- The walk over a list: at each place what was read so far is what a reading comes to there, and the rows hold the files made known.
use Rattle.std.specs.Prelude.{Err, Ok, Result}
use mathlib.Core.Path.{◌≡◌, refl, sym, ap, ◌∙◌}
use mathlib.Core.Bool.{Bool, true, false, cond}
use mathlib.Core.List.{List, [], ◌∷◌, ◌++◌, append-nil}
use Prim.Native.Nat.{ℕ, suc, ◌+◌, ◌*◌, ◌<◌, ◌≤◌}
use native.Mathlib.Nat.{add-zero}
use native.Mathlib.Numerals.{add-one}
use native.Mathlib.Omega.{arith}
use lib.Dec.{eqb}
use lib.ListN.{length, take, drop, length-append, take-append-drop}
use lib.Seq.{take_all, take-append_seam}
use Rattle.refusals.specs.declared.Refusal.{Refusal}
use Rattle.refusals.specs.declared.Refusal.TheVariants.{Labels}
use Rattle.slices.specs.Slices.{written}
use Rattle.slices.specs.Words.{bytes}
use Rattle.slices.proofs.Writing.{length_written, written_nil}
use Rattle.writing.specs.Steps.{AddsAtMost}
use Rattle.tape.specs.Tape.{Tape, Element, mark, block, unreadable, list, store, content, Encodes}
use Rattle.tape.specs.Answers.{bytes_before}
use Rattle.tape.specs.Steps.{Encoded}
use Rattle.tape.specs.declared.Entry.{Entry}
use Rattle.tape.specs.ReadingSteps.{entry_at}
use Rattle.tape.proofs.Elements.{ElementAt, BlockAt, Says, says_at}
use Rattle.tape.proofs.Encoding.{one_tape}
use Rattle.tape.proofs.Passing.{take_next, drop_next, bytes_next, bytes_within, drop_store}
use Rattle.ansi.specs.declared.Stop.{Stop}
use Rattle.ansi.specs.declared.phases.Phase.{Phase}
use Rattle.ansi.specs.declared.phases.Phase.TheVariants as phase
use Rattle.ansi_labels.specs.Labels.{is_label, is_numbered, label_number, is_volume, is_header2, is_trailer, block_count, is_data}
use Rattle.ansi.specs.Layout.{TapeFile}
use Rattle.ansi.specs.ReadingSteps.{Stage, start, volume, header, headers, blocks, trailer, second, trailers, between, done, Step, go, found, stop, passing, opening, closing, at_mark, at_block, read_step, ending, read_run, ansi_of, passed_on, passed_from, front_of}
use Rattle.ansi.specs.PhaseSteps.{stage_of, block_step, mark_step, unfiled, known, known_at, Small}
use Rattle.ansi.specs.Answers.{file_bytes, all_bytes}
use Rattle.ansi.specs.Steps.{AllRead, Stopped, WalkedAs, Walks, rows_length, at_end}
use Rattle.ansi_labels.proofs.Tests.{label_length}
use Rattle.ansi.proofs.Walks.{header2_length}
use Rattle.ansi.proofs.Live.{Live, LiveAt, step_live}
use Rattle.ansi.proofs.Fronts.{Reach, reach_next, behind, reach_run, reach_passed, follow_stop}
use Rattle.ansi.proofs.FileBytes.{all_append, file_length}

-- how many of a file's seven elements, from its header mark on, a stage has behind it
abbrev spent : Stage → ℕ
spent start = 3
spent (volume k) = 4
spent (header h) = 5
spent (headers h g k) = 6
spent (blocks h m) = 0
spent (trailer h m) = 1
spent second = 2
spent (trailers k) = 3
spent between = 4
spent done = 5

-- what a step may spend, and the size of the file that it makes known
abbrev Spends : ℕ → Step → Type 0
Spends k (go σ) = spent σ ≤ k
Spends k (found f σ) = (7 + spent σ ≤ k) × (length (file_bytes f) ≡ 36)
Spends k (stop r) = Unit {0}

either : (k : ℕ) (b : Bool) (s t : Step) → Spends k s → Spends k t → Spends k (cond b s t)
either k true s t x y = x
either k false s t x y = y

passing_spends : (k : ℕ) (w u : List ℕ) (n : ℕ) (x : List ℕ) (next : ℕ → Stage) (s : Step) → ((i : ℕ) → spent (next i) ≤ k) → Spends k s → Spends k (passing w u n x next s)
unfolding passing
passing_spends k w u n x next s f y =
    either k (is_numbered w n x) (go (next (suc (label_number x)))) (cond (is_label u x) (go (next 10)) s) (f (suc (label_number x)))
    (either k (is_label u x) (go (next 10)) s (f 10) y)

opening_spends : (k : ℕ) (x : List ℕ) → 5 ≤ k → Spends k (opening x)
unfolding opening
opening_spends k x h = either k (is_label (bytes "HDR1") x) (go (header x)) (stop Labels) h tt

mark_spends : (n : ℕ) (σ : Stage) → Live n σ → Spends (suc (spent σ)) (at_mark n σ)
unfolding at_mark
mark_spends n start l = tt
mark_spends n (volume k) l = tt
mark_spends n (header h) l = tt
mark_spends n (headers h g k) l = (omega arith, file_length h g (suc n) (label_length (bytes "HDR1") h l.0) (header2_length g l.1))
mark_spends n (blocks h m) l = omega arith
mark_spends n (trailer h m) l = tt
mark_spends n second l = tt
mark_spends n (trailers k) l = omega arith
mark_spends n between l = omega arith
mark_spends n done l = tt

block_spends : (n : ℕ) (σ : Stage) (x : List ℕ) → Live n σ → Spends (suc (spent σ)) (at_block σ x)
unfolding at_block closing
block_spends n start x l = either 4 (is_volume x) (go (volume 2)) (stop Labels) (omega arith) tt
block_spends n (volume k) x l = passing_spends 5 (bytes "VOL") (bytes "UVL") k x volume (opening x) (λ i. omega arith) (opening_spends 5 x (omega arith))
block_spends n (header h) x l = either 6 (is_header2 x) (go (headers h x 3)) (stop Labels) (omega arith) tt
block_spends n (headers h g k) x l = passing_spends 7 (bytes "HDR") (bytes "UHL") k x (headers h g) (stop Labels) (λ i. omega arith) tt
block_spends n (blocks h m) x l = either 1 (is_data x) (go (blocks h (suc m))) (stop Labels) (omega arith) tt
block_spends n (trailer h m) x l =
    either 2 (is_trailer h x) _ _ (either 2 (eqb (block_count x) m) (go second) _ (omega arith) tt) (either 2 (is_label (bytes "EOV1") x) _ _ tt tt)
block_spends n second x l = either 3 (is_label (bytes "EOF2") x) (go (trailers 3)) (stop Labels) (omega arith) tt
block_spends n (trailers k) x l = passing_spends 4 (bytes "EOF") (bytes "UTL") k x trailers (stop Labels) (λ i. omega arith) tt
block_spends n between x l = opening_spends 5 x (omega arith)
block_spends n done x l = tt

step_spends : (n : ℕ) (σ : Stage) (e : Element) → Live n σ → Spends (suc (spent σ)) (read_step n σ e)
unfolding read_step
step_spends n σ mark l = mark_spends n σ l
step_spends n σ (block x) l = block_spends n σ x l
step_spends n σ unreadable l = tt

-- an element's number matters to the file that a mark makes known, and to nothing else
pub mark_step_lem : (n : ℕ) (σ : Stage) → unfiled (at_mark n σ) ≡ unfiled (at_mark 0 σ)
unfolding at_mark
mark_step_lem n start = refl
mark_step_lem n (volume k) = refl
mark_step_lem n (header h) = refl
mark_step_lem n (headers h g k) = refl
mark_step_lem n (blocks h m) = refl
mark_step_lem n (trailer h m) = refl
mark_step_lem n second = refl
mark_step_lem n (trailers k) = refl
mark_step_lem n between = refl
mark_step_lem n done = refl

-- a step that goes on: what it spends, the size of its file, and what holds behind it
record Goes (n : ℕ) (s : Step) (υ : Stage) (k : ℕ) : Type 0 where
  spends : 7 * length (known s) + spent υ ≤ k
  sized : length (all_bytes (known s)) ≡ 36 * length (known s)
  live : Live n υ

goes : (n k : ℕ) (s : Step) (υ : Stage) → LiveAt n s → Spends k s → unfiled s ≡ go υ → Goes n s υ k
unfolding all_bytes
goes n k (go σ) υ (LiveAt.goes τ l) h e = let z : σ ≡ υ = cc in rw (sym z) record { spends = omega arith; sized = refl; live = l }
goes n k (found f σ) υ (LiveAt.finds g τ l) h e =
    let z : σ ≡ υ = cc in
    rw (sym z) record { spends = omega (arith, h.0); sized = ap length (append-nil (file_bytes f)) ∙ h.1 ∙ omega arith; live = l }
goes n k (stop r) υ l h e = let z : ◌≡◌ {A = ℕ} 0 1 = cc in absurd (omega arith)

-- the walk is at element at, which stands at a place of the list
pub record Matched (l s : List ℕ) (count : ℕ) (b rows : List ℕ) (place at off end : ℕ) (p : Phase) : Type 0 where
  pub tape : Tape
  pub encodes : Encodes l s tape
  pub counted : length tape ≡ count
  pub inside : at ≤ count
  pub left : drop place l ≡ list (drop at tape)
  pub bytes : off ≡ bytes_before tape at
  pub files : List TapeFile
  pub reach : Reach (take at tape) 0 start at (stage_of s p) files
  pub live : Live at (stage_of s p)
  pub few : 7 * length files + spent (stage_of s p) ≤ at + 3
  pub sized : length (all_bytes files) ≡ 36 * length files
  pub big : length b ≡ rows_length
  pub holds : rows ≡ written 0 (all_bytes files) b
  pub ends : end ≡ length (all_bytes files)

pub matched_start : (l s : List ℕ) (count : ℕ) (b : List ℕ) → Encoded l s count → length b ≡ rows_length → Matched l s count b b 0 0 0 0 phase.Start
unfolding store all_bytes
matched_start l s count b w h =
    record {
      tape = w.tape;
      encodes = w.encodes;
      counted = w.counted;
      inside = omega arith;
      left = w.encodes.lists;
      bytes = refl;
      files = [];
      reach = Reach.here;
      live = tt;
      few = omega arith;
      sized = refl;
      big = h;
      holds = sym (written_nil 0 b);
      ends = refl;
    }

module _ {l s : List ℕ} {count : ℕ} {b rows : List ℕ} {place at off end : ℕ} {p : Phase} (m : Matched l s count b rows place at off end p) (more : at < count) where
  -- the entry here tells the element
  pub says_here : {e : Entry} → entry_at l place ≡ e → Says l m.tape at e
  says_here q = says_at l place m.tape at m.encodes.blocks m.left (omega (arith, m.counted)) q

  -- elements are few enough to be counted
  pub at_small : at < 65536
  at_small = omega (arith, m.counted, m.encodes.elements)

  -- one element more
  matched_next : (next : ℕ) (e : Element) (rest : Tape) (q : Phase) (rows' : List ℕ) (end' : ℕ) → drop at m.tape ≡ e ∷ rest → drop next l ≡ list rest
      → unfiled (read_step at (stage_of s p) e) ≡ go (stage_of s q)
      → rows' ≡ written 0 (all_bytes m.files ++ all_bytes (known (read_step at (stage_of s p) e))) b
      → end' ≡ length (all_bytes m.files ++ all_bytes (known (read_step at (stage_of s p) e)))
      → Matched l s count b rows' next (at + 1) (off + length (content e)) end' q
  matched_next next e rest q rows' end' d left z h k =
      let t = m.tape in
      let σ = stage_of s p in
      let fs = m.files in
      let gs = known (read_step at σ e) in
      let g = goes (suc at) (suc (spent σ)) (read_step at σ e) (stage_of s q) (step_live at σ e m.live) (step_spends at σ e m.live) z in
      let a : all_bytes (fs ++ gs) ≡ all_bytes fs ++ all_bytes gs = all_append fs gs in
      let n : length (fs ++ gs) ≡ length fs + length gs = length-append fs gs in
      rw (add-one at)
      record {
        tape = t;
        encodes = m.encodes;
        counted = m.counted;
        inside = omega arith;
        left = left ∙ ap list (sym (drop_next t at e rest d));
        bytes = ap (λ (i : ℕ). i + length (content e)) m.bytes ∙ sym (bytes_next t at e rest d);
        files = fs ++ gs;
        reach = rw (take_next t at e rest d) (reach_next e (stage_of s q) m.reach z);
        live = g.live;
        few = omega (arith, m.few, g.spends);
        sized = ap length a ∙ length-append (all_bytes fs) (all_bytes gs) ∙ omega (arith, m.sized, g.sized);
        big = m.big;
        holds = h ∙ ap (λ (x : List ℕ). written 0 x b) (sym a);
        ends = k ∙ ap length (sym a);
      }

  -- there is room for a file more
  room : length (all_bytes m.files) + 36 ≤ length b
  room = omega (arith, m.few, m.sized, m.big, m.counted, m.encodes.elements)

  pub matched_mark : {next : ℕ} (q : Phase) {rows' : List ℕ} {end' : ℕ} → ElementAt mark l next m.tape at → go (stage_of s q) ≡ mark_step s p
      → AddsAtMost 36 rows end (all_bytes (known_at s at p)) rows' end' → Matched l s count b rows' next (at + 1) off end' q
  unfolding content read_step
  matched_mark {next} q {rows'} {end'} k z a =
      let v = all_bytes m.files in
      let w = all_bytes (known_at s at p) in
      let n : length (v ++ w) ≡ length v + length w = length-append v w in
      let few : length w ≤ 36 = a.few in
      let r = a.added.run b v (omega (arith, room)) m.holds m.ends in
      rw add-zero at (matched_next next mark k.rest q rows' end' k.is k.left (mark_step_lem at (stage_of s p) ∙ sym z) r.0 r.1)

  -- the bytes of the block that stands here
  block_here : {next k : ℕ} (w : BlockAt l next k m.tape at) → take k (drop off s) ≡ w.bytes
  unfolding store content
  block_here {next} {k} w =
      let x = w.bytes in
      ap (λ (y : List ℕ). take k (drop off y)) m.encodes.stores
      ∙ ap (λ (i : ℕ). take k (drop i (store m.tape))) m.bytes
      ∙ ap (take k) (drop_store m.tape at ∙ ap store w.is)
      ∙ ap (λ (i : ℕ). take i (x ++ store w.rest)) w.size
      ∙ take-append_seam x (store w.rest)

  step_here : {next k : ℕ} (w : BlockAt l next k m.tape at) → block_step s p off k ≡ read_step at (stage_of s p) (block w.bytes)
  unfolding read_step
  step_here w = ap (at_block (stage_of s p)) (block_here w)

  pub matched_block : {next k : ℕ} (q : Phase) → BlockAt l next k m.tape at → go (stage_of s q) ≡ block_step s p off k
      → Matched l s count b rows next (at + 1) (off + k) end q
  unfolding content all_bytes
  matched_block {next} {k} q w z =
      let x = w.bytes in
      let c : read_step at (stage_of s p) (block x) ≡ go (stage_of s q) = sym (z ∙ step_here w) in
      let v = all_bytes m.files in
      let e : v ++ all_bytes (known (read_step at (stage_of s p) (block x))) ≡ v = ap (λ (y : Step). v ++ all_bytes (known y)) c ∙ append-nil v in
      rw w.size
      (matched_next next (block x) w.rest q rows end w.is w.left (ap unfiled c) (m.holds ∙ ap (λ (y : List ℕ). written 0 y b) (sym e)) (m.ends ∙ ap length (sym e)))

  -- an element that can't stand
  stopped_here : (e : Element) (rest : Tape) (r : Refusal) → drop at m.tape ≡ e ∷ rest → read_step at (stage_of s p) e ≡ stop r → (t : Tape) → Encodes l s t → Stopped t r at
  unfolding ansi_of front_of passed_from passed_on
  stopped_here e rest r d z t w =
      let same : m.tape ≡ t = one_tape m.encodes w in
      let u : m.tape ≡ take at m.tape ++ (e ∷ rest) = sym (take-append-drop at m.tape) ∙ ap (λ (x : Tape). take at m.tape ++ x) d in
      rw (sym same)
      record {
        read = ap (λ (x : Tape). read_run x 0 start) u ∙ reach_run (e ∷ rest) m.reach ∙ ap (behind m.files) (follow_stop rest at (stage_of s p) r e z);
        passed = ap (λ (x : Tape). passed_from x 0 start) u ∙ reach_passed (e ∷ rest) m.reach ∙ rw z;
      }

  pub stopped_mark : {next : ℕ} (r : Refusal) → ElementAt mark l next m.tape at → stop r ≡ mark_step s p → (t : Tape) → Encodes l s t → Stopped t r at
  unfolding read_step
  stopped_mark r k z = stopped_here mark k.rest r k.is (by (read_step at (stage_of s p) mark) (mark_step_lem at (stage_of s p) ∙ sym z))
    where
      by : (y : Step) → unfiled y ≡ stop r → y ≡ stop r
      by (go σ) e = e
      by (found f σ) e = let x : ◌≡◌ {A = ℕ} 0 1 = cc in absurd (omega arith)
      by (stop q) e = e

  pub stopped_unreadable : {next : ℕ} → ElementAt unreadable l next m.tape at → (t : Tape) → Encodes l s t → Stopped t Labels at
  unfolding read_step
  stopped_unreadable k = stopped_here unreadable k.rest Labels k.is refl

  pub stopped_block : {next k : ℕ} (r : Refusal) → BlockAt l next k m.tape at → stop r ≡ block_step s p off k
      → (t : Tape) → Encodes l s t → Stopped t r at
  stopped_block r w z = stopped_here (block w.bytes) w.rest r w.is (sym (z ∙ step_here w))

  pub small : Small p
  small = by p m.live
    where
      by : (q : Phase) → Live at (stage_of s q) → Small q
      by (phase.Blocks h k) v = omega (arith, v.1, m.counted, m.encodes.elements)
      by _ v = tt

-- the bytes passed are within the store
pub bytes_bound : {l s : List ℕ} {count : ℕ} {b rows : List ℕ} {place at off end : ℕ} {p : Phase} → Matched l s count b rows place at off end p → off ≤ 16777216
bytes_bound {at} m =
    let small = m.encodes.bytes in
    let b = m.bytes in
    omega (arith, ap length m.encodes.stores, bytes_within m.tape at)

-- the rows keep their length
pub rows_kept : {l s : List ℕ} {count : ℕ} {b rows : List ℕ} {place at off end : ℕ} {p : Phase} → Matched l s count b rows place at off end p → length rows ≡ length b
rows_kept {b} m =
    ap length m.holds ∙ length_written 0 (all_bytes m.files) b (omega (arith, m.few, m.sized, m.big, m.counted, m.encodes.elements, m.inside))

-- all elements passed
module _ {l s : List ℕ} {count : ℕ} {b rows : List ℕ} {place at off end : ℕ} {p : Phase} (m : Matched l s count b rows place at off end p) (over : count ≤ at) where
  all_passed : take at m.tape ≡ m.tape
  all_passed = take_all at m.tape (omega (arith, m.counted))

  read_all : ansi_of m.tape ≡ behind m.files (ending (stage_of s p))
  unfolding ansi_of read_run
  read_all =
      ap (λ (x : Tape). read_run x 0 start) (sym all_passed ∙ sym (append-nil (take at m.tape))) ∙ reach_run [] m.reach

  place_all : front_of m.tape ≡ count
  unfolding front_of passed_from
  place_all =
      let i = m.inside in
      ap (λ (x : Tape). passed_from x 0 start) (sym all_passed ∙ sym (append-nil (take at m.tape))) ∙ reach_passed [] m.reach ∙ omega arith

  unfinished : ending (stage_of s p) ≡ Err Labels → Stopped m.tape Labels count
  unfinished e = record { read = read_all ∙ ap (behind m.files) e; passed = place_all }

  finished : ending (stage_of s p) ≡ Ok [] → AllRead m.tape b rows end
  finished e =
      record {
        files = m.files;
        read = read_all ∙ ap (behind m.files) e ∙ ap (λ (fs : List TapeFile). Ok fs) (append-nil m.files);
        passed = place_all ∙ sym m.counted;
        sized = m.sized;
        room = omega (arith, m.few, m.sized, m.big, m.counted, m.encodes.elements, m.inside);
        ends = m.ends;
        holds = m.holds;
      }

walked_end : {l s : List ℕ} {count : ℕ} {b rows : List ℕ} {place at off end : ℕ} (p : Phase) (m : Matched l s count b rows place at off end p) → count ≤ at
    → WalkedAs m.tape b rows (at_end p end count)
unfolding ending
walked_end phase.Done m o = finished m o refl
walked_end _ m o = unfinished m o refl

pub matched_end : {l s : List ℕ} {count : ℕ} {b rows : List ℕ} {place at off end : ℕ} {p : Phase} (r : Result ℕ Stop) → Matched l s count b rows place at off end p → count ≤ at
    → r ≡ at_end p end count → Walks l s b rows r
matched_end {p} r m o e t w = rw (e, sym (one_tape m.encodes w)) (walked_end p m o)
