-- What a reading comes to behind a front of the tape, and what the front then begins.
use Rattle.std.specs.Prelude.{Err, Ok}
use mathlib.Core.Path.{◌≡◌, refl, sym, ap, ◌∙◌}
use mathlib.Core.List.{List, [], ◌∷◌, ◌++◌, append_assoc}
use Prim.Native.Nat.{ℕ, suc, ◌+◌}
use native.Mathlib.Omega.{arith}
use lib.ListN.{length}
use Rattle.refusals.specs.declared.Refusal.{Refusal}
use Rattle.refusals.specs.declared.Refusal.TheVariants.{Labels}
use Rattle.refusals.specs.Refusals.{Answer, and_then}
use Rattle.tape.specs.Tape.{Tape, Element}
use Rattle.ansi.specs.Layout.{TapeFile}
use Rattle.ansi.specs.Places.{Begins}
use Rattle.ansi.specs.ReadingSteps.{Stage, start, volume, header, headers, blocks, trailer, second, trailers, between, done, Step, go, found, stop, read_step, ending, follow, read_run, ansi_of, passed_on, passed_from}
use Rattle.ansi.specs.PhaseSteps.{unfiled, known}
use Rattle.ansi.proofs.Form.{same_layout}
use Rattle.ansi.proofs.Live.{Live, LiveAt, step_live, Ends}

-- reading the front t from element n and stage σ on comes to element m and stage τ, with the files fs made known
pub data Reach : Tape → ℕ → Stage → ℕ → Stage → List TapeFile → Type 0 where
  here : {n : ℕ} {σ : Stage} → Reach [] n σ n σ []
  next : {e : Element} {t : Tape} {n m : ℕ} {σ τ υ : Stage} {fs : List TapeFile} → read_step n σ e ≡ go υ → Reach t (suc n) υ m τ fs → Reach (e ∷ t) n σ m τ fs
  file : {e : Element} {t : Tape} {n m : ℕ} {σ τ υ : Stage} {f : TapeFile} {fs : List TapeFile} → read_step n σ e ≡ found f υ → Reach t (suc n) υ m τ fs
      → Reach (e ∷ t) n σ m τ (f ∷ fs)

pub reach_length : {t : Tape} {n m : ℕ} {σ τ : Stage} {fs : List TapeFile} → Reach t n σ m τ fs → m ≡ n + length t
reach_length {n} Reach.here = omega arith
reach_length (Reach.next q r) = omega (arith, reach_length r)
reach_length (Reach.file q r) = omega (arith, reach_length r)

-- one element more
pub reach_next : {t : Tape} {n m : ℕ} {σ τ : Stage} {fs : List TapeFile} (e : Element) (υ : Stage) → Reach t n σ m τ fs → unfiled (read_step m τ e) ≡ go υ
    → Reach (t ++ (e ∷ [])) n σ (suc m) υ (fs ++ known (read_step m τ e))
reach_next {n} {σ} e υ Reach.here q = by (read_step n σ e) refl q
  where
    same_state : {σ τ : Stage} → go σ ≡ go τ → σ ≡ τ
    same_state e = cc

    by : (s : Step) → read_step n σ e ≡ s → unfiled s ≡ go υ → Reach (e ∷ []) n σ (suc n) υ (known s)
    by (go ρ) h z = Reach.next (h ∙ z) Reach.here
    by (found f ρ) h z = Reach.file (h ∙ ap (λ (x : Stage). found f x) (same_state z)) Reach.here
    by (stop r) h z = let w : ◌≡◌ {A = ℕ} 0 1 = cc in absurd (omega arith)
reach_next e υ (Reach.next q r) z = Reach.next q (reach_next e υ r z)
reach_next e υ (Reach.file q r) z = Reach.file q (reach_next e υ r z)

-- what is read behind files that are known
abbrev pub behind : List TapeFile → Answer (List TapeFile) → Answer (List TapeFile)
behind fs a = and_then a (λ gs. Ok (fs ++ gs))

behind_none : (a : Answer (List TapeFile)) → a ≡ behind [] a
behind_none (Err r) = refl
behind_none (Ok fs) = refl

behind_more : (f : TapeFile) (fs : List TapeFile) (a : Answer (List TapeFile)) → and_then (behind fs a) (λ gs. Ok (f ∷ gs)) ≡ behind (f ∷ fs) a
behind_more f fs (Err r) = refl
behind_more f fs (Ok gs) = refl

-- the reading goes on from there
pub reach_run : {t : Tape} {n m : ℕ} {σ τ : Stage} {fs : List TapeFile} (s : Tape) → Reach t n σ m τ fs → read_run (t ++ s) n σ ≡ behind fs (read_run s m τ)
unfolding read_run follow
reach_run {n} {σ} s Reach.here = behind_none (read_run s n σ)
reach_run s (Reach.next q r) = rw q (reach_run s r)
reach_run {m} {τ} s (Reach.file {f} {fs} q r) = rw q (ap (λ (a : Answer (List TapeFile)). and_then a (λ gs. Ok (f ∷ gs))) (reach_run s r) ∙ behind_more f fs (read_run s m τ))

-- and passes as many elements
pub reach_passed : {t : Tape} {n m : ℕ} {σ τ : Stage} {fs : List TapeFile} (s : Tape) → Reach t n σ m τ fs → passed_from (t ++ s) n σ ≡ passed_from s m τ
unfolding passed_from passed_on
reach_passed s Reach.here = refl
reach_passed s (Reach.next q r) = rw q (reach_passed s r)
reach_passed s (Reach.file q r) = rw q (reach_passed s r)

pub reach_on : {t : Tape} {n m : ℕ} {σ τ : Stage} {fs : List TapeFile} (s : Tape) (gs : List TapeFile) → Reach t n σ m τ fs → read_run s m τ ≡ Ok gs → read_run (t ++ s) n σ ≡ Ok (fs ++ gs)
reach_on {fs} s gs r e = reach_run s r ∙ ap (behind fs) e

pub answered : (fs : List TapeFile) (a : Answer (List TapeFile)) (gs : List TapeFile) → behind fs a ≡ Ok gs → (hs : List TapeFile) × (a ≡ Ok hs)
answered fs (Err r) gs e = let z : ◌≡◌ {A = ℕ} 0 1 = cc in absurd (omega arith)
answered fs (Ok hs) gs e = (hs, refl)

pub reach_back : {t : Tape} {n m : ℕ} {σ τ : Stage} {fs : List TapeFile} (s : Tape) (gs : List TapeFile) → Reach t n σ m τ fs → read_run (t ++ s) n σ ≡ Ok gs
    → (hs : List TapeFile) × (read_run s m τ ≡ Ok hs)
reach_back {m} {τ} {fs} s gs r e = answered fs (read_run s m τ) gs (sym (reach_run s r) ∙ e)

follow_go : (t : Tape) (n : ℕ) (σ υ : Stage) (e : Element) → read_step n σ e ≡ go υ → read_run (e ∷ t) n σ ≡ read_run t (suc n) υ
unfolding read_run follow
follow_go t n σ υ e q = rw q

pub follow_stop : (t : Tape) (n : ℕ) (σ : Stage) (r : Refusal) (e : Element) → read_step n σ e ≡ stop r → read_run (e ∷ t) n σ ≡ Err r
unfolding read_run follow
follow_stop t n σ r e q = rw q

module _ (front : Tape) (m : ℕ) (τ : Stage) (fs : List TapeFile) (reach : Reach front 0 start m τ fs) where
  -- the front begins a layout where its stage can be brought to an end
  pub front_begins : Ends m τ → Begins front
  unfolding ansi_of
  front_begins (t, gs, e) = (t, fs ++ gs, (same_layout (front ++ t) (fs ++ gs)).0 (reach_on t gs reach e))

  -- so it does with one element more
  pub next_begins : (e : Element) (υ : Stage) → read_step m τ e ≡ go υ → Ends (suc m) υ → Begins (front ++ (e ∷ []))
  unfolding ansi_of
  next_begins e υ q (t, gs, r) =
      let g : ansi_of (front ++ (e ∷ t)) ≡ Ok (fs ++ gs) = reach_on (e ∷ t) gs reach (follow_go t m τ υ e q ∙ r) in
      (t, fs ++ gs, rw (append_assoc front (e ∷ []) t) ((same_layout (front ++ (e ∷ t)) (fs ++ gs)).0 g))

  -- and not where the element can't stand
  pub next_stops : (e : Element) (r : Refusal) → read_step m τ e ≡ stop r → Begins (front ++ (e ∷ [])) → ⊥
  unfolding ansi_of
  next_stops e r q (t, gs, l) =
      let g : ansi_of (front ++ (e ∷ t)) ≡ Ok gs = (same_layout (front ++ (e ∷ t)) gs).1 (rw (append_assoc front (e ∷ []) t) at l) in
      let y = reach_back (e ∷ t) gs reach g in
      let z : Err r ≡ Ok y.0 = sym (follow_stop t m τ r e q) ∙ y.1 in
      let w : ◌≡◌ {A = ℕ} 0 1 = cc in
      omega arith

-- why a reading is refused: the tape ends, or an element can't stand
pub data Reason (m : ℕ) (τ : Stage) (r : Refusal) : Tape → Type 0 where
  ends : r ≡ Labels → Reason m τ r []
  stops : {e : Element} {t : Tape} → read_step m τ e ≡ stop r → Reason m τ r (e ∷ t)

-- where a reading is refused
pub record Halt (t : Tape) (n : ℕ) (σ : Stage) (r : Refusal) : Type 0 where
  pub front : Tape
  pub back : Tape
  pub is : t ≡ front ++ back
  pub number : ℕ
  pub state : Stage
  pub files : List TapeFile
  pub reach : Reach front n σ number state files
  pub live : Live number state
  pub reason : Reason number state r back

ending_labels : (σ : Stage) (r : Refusal) → ending σ ≡ Err r → r ≡ Labels
unfolding ending
ending_labels start r e = cc
ending_labels (volume k) r e = cc
ending_labels (header h) r e = cc
ending_labels (headers h g k) r e = cc
ending_labels (blocks h m) r e = cc
ending_labels (trailer h m) r e = cc
ending_labels second r e = cc
ending_labels (trailers k) r e = cc
ending_labels between r e = cc
ending_labels done r e = let z : ◌≡◌ {A = ℕ} 0 1 = cc in absurd (omega arith)

refused_behind : (a : Answer (List TapeFile)) (f : TapeFile) (r : Refusal) → and_then a (λ gs. Ok (f ∷ gs)) ≡ Err r → a ≡ Err r
refused_behind (Err q) f r e = cc
refused_behind (Ok gs) f r e = let z : ◌≡◌ {A = ℕ} 0 1 = cc in absurd (omega arith)

pub halts : (t : Tape) (n : ℕ) (σ : Stage) (r : Refusal) → Live n σ → read_run t n σ ≡ Err r → Halt t n σ r
unfolding read_run follow
halts [] n σ r l e =
    record { front = []; back = []; is = refl; number = n; state = σ; files = []; reach = Reach.here; live = l; reason = Reason.ends (ending_labels σ r e) }
halts (x ∷ t) n σ r l e = by (read_step n σ x) refl (step_live n σ x l) e (halts t (suc n))
  where
    go_on : (υ : Stage) (more : List TapeFile) → ((m : ℕ) (τ : Stage) (s : Tape) (gs : List TapeFile) → Reach s (suc n) υ m τ gs → Reach (x ∷ s) n σ m τ (more ++ gs))
        → Halt t (suc n) υ r → Halt (x ∷ t) n σ r
    go_on υ more f h =
        record {
          front = x ∷ h.front;
          back = h.back;
          is = ap (λ (s : Tape). x ∷ s) h.is;
          number = h.number;
          state = h.state;
          files = more ++ h.files;
          reach = f h.number h.state h.front h.files h.reach;
          live = h.live;
          reason = h.reason;
        }

    by : (s : Step) → read_step n σ x ≡ s → LiveAt (suc n) s → follow (read_run t (suc n)) s ≡ Err r
        → ((υ : Stage) (q : Refusal) → Live (suc n) υ → read_run t (suc n) υ ≡ Err q → Halt t (suc n) υ q) → Halt (x ∷ t) n σ r
    by (go υ) h (LiveAt.goes τ v) f k = go_on υ [] (λ m ρ s gs y. Reach.next h y) (k υ r v f)
    by (found g υ) h (LiveAt.finds f' τ v) f k = go_on υ (g ∷ []) (λ m ρ s gs y. Reach.file h y) (k υ r v (refused_behind (read_run t (suc n) υ) g r f))
    by (stop q) h (LiveAt.halts p) f k =
        let z : q ≡ r = cc in
        record { front = []; back = x ∷ t; is = refl; number = n; state = σ; files = []; reach = Reach.here; live = l; reason = Reason.stops (h ∙ ap stop z) }
