-- Scans put together: from one byte, from a run of bytes, from one scan and the next.
use Rattle.std.specs.Prelude.{Option, Some, None, Ok, Err, unwrap_or}
use Rattle.std.specs.Option.{is_some, option_map}
use Rattle.std.specs.Borrow.{Bor}
use borrow.Author.Tests.{ltb-false}
use lib.Dec.{ltb}
use mathlib.Core.Path.{◌≡◌, refl, ap, ◌∙◌, sym, subst}
use mathlib.Core.Bool.{Bool, true}
use mathlib.Core.List.{List, ◌++◌}
use Prim.Native.Nat.{ℕ, ◌+◌, ◌-◌, ◌<◌, ◌≤◌}
use native.Mathlib.Omega.{arith}
use lib.ListN.{length, take, drop, get_or, take-append-drop}
use lib.Seq.{drop-drop}
use Rattle.xml.specs.Bytes.{is_ascii_letter}
use Rattle.xml.specs.CheckSteps.{Mode, State, stop, at, reads, form_step, broken, ended, form_run}
use Rattle.xml.specs.ScanSteps.{Past, Scan, Scans, Between, goes_on}
use Rattle.xml.specs.declared.FormError.{FormError}
use Rattle.xml.proofs.Classes.{letter_high}
use Rattle.xml.proofs.Past.{past_ahead}
use Rattle.xml.proofs.Runs.{run_word}
use Rattle.xml.proofs.Scanning.{inside, run_on, run_out, run_refused, run_stopped, run_as, run_past}

-- the byte b, which is not 0, stands inside
pub stands : (t : List ℕ) (i b : ℕ) → b ≡ get_or t i 0 → 0 < b → i < length t
stands t i b e h = inside t i (λ z. omega (arith, e, z))

pub inside_letter : (t : List ℕ) (i : ℕ) → is_ascii_letter (get_or t i 0) ≡ true → i < length t
inside_letter t i e = inside t i (λ z. omega (arith, letter_high (get_or t i 0) e, z))

-- what `get` found, and that it found none
pub found : {r : Option (Bor ℕ)} {v : ℕ} (b : Bor ℕ) → r ≡ Some b → unwrap_or (option_map (λ x. x.now) r) 0 ≡ v → b.now ≡ v
found b e h = sym (ap (λ (o : Option (Bor ℕ)). unwrap_or (option_map (λ x. x.now) o) 0) e) ∙ h

pub found_none : {r : Option (Bor ℕ)} (i n : ℕ) → r ≡ None → is_some r ≡ ltb i n → n ≤ i
found_none i n e h = ltb-false i n (sym h ∙ ap is_some e)

later : (i j n : ℕ) → i ≤ j → (r : Scan) → Between j n r → Between i n r
later i j n h (Ok k) b = (omega arith, b.1)
later i j n h (Err u) b = b

module _ {t : List ℕ} {i : ℕ} where
  -- the scan ends where it is
  pub scan_done : {σ : List (List ℕ) → State} → i ≤ length t → Scans t i σ σ (Ok i)
  scan_done h = record { runs = λ ns. refl; ends = (omega arith, h) }

  -- it begins as another
  pub scan_from : {σ τ to : List (List ℕ) → State} {r : Scan} → ((ns : List (List ℕ)) → σ ns ≡ τ ns) → Scans t i τ to r → Scans t i σ to r
  scan_from e s = record { runs = λ ns. ap (λ (σ : State). form_run σ (drop i t)) (e ns) ∙ s.runs ns; ends = s.ends }

  -- the byte at i leads to σ, from where it goes on
  pub scan_step : {p : Mode} {σ to : List (List ℕ) → State} {r : Scan} → i < length t → ((ns : List (List ℕ)) → form_step p ns (get_or t i 0) ≡ σ ns)
      → Scans t (i + 1) σ to r → Scans t i (at p) to r
  scan_step {p} {r = r} h f s =
      record { runs = λ ns. run_on t i p ns h (f ns) ∙ s.runs ns; ends = later i (i + 1) (length t) (omega arith) r s.ends }

  -- the same where the byte is b
  pub scan_at : {p : Mode} {σ to : List (List ℕ) → State} {r : Scan} (b : ℕ) → i < length t → b ≡ get_or t i 0
      → ((ns : List (List ℕ)) → form_step p ns b ≡ σ ns) → Scans t (i + 1) σ to r → Scans t i (at p) to r
  scan_at {p} b h e f s = scan_step h (λ ns. ap (form_step p ns) (sym e) ∙ f ns) s

  -- and is not 0
  pub scan_on : {p : Mode} {σ to : List (List ℕ) → State} {r : Scan} (b : ℕ) → b ≡ get_or t i 0 → 0 < b
      → ((ns : List (List ℕ)) → form_step p ns b ≡ σ ns) → Scans t (i + 1) σ to r → Scans t i (at p) to r
  scan_on b e h f s = scan_at b (stands t i b e h) e f s

  -- the byte b does not fit, or there is none
  pub scan_refused : {p : Mode} {to : List (List ℕ) → State} (b : ℕ) → b ≡ get_or t i 0 → i ≤ length t → ended p ≡ broken 0
      → ((ns : List (List ℕ)) → form_step p ns b ≡ stop) → Scans t i (at p) to (Err (record { front = i }))
  scan_refused {p} b e h n f = record { runs = λ ns. run_refused t i p ns h n (ap (form_step p ns) (sym e) ∙ f ns); ends = h }

  pub scan_out : {p : Mode} {to : List (List ℕ) → State} → i ≤ length t → length t ≤ i → ended p ≡ broken 0 → Scans t i (at p) to (Err (record { front = i }))
  scan_out {p} h g n = record { runs = λ ns. run_out t i p ns g ∙ n ∙ ap broken (omega arith); ends = h }

  -- the byte before stopped the machine
  pub scan_stopped : {σ to : List (List ℕ) → State} → i < length t → ((ns : List (List ℕ)) → σ ns ≡ stop) → Scans t (i + 1) σ to (Err (record { front = i }))
  scan_stopped h e = record { runs = λ ns. run_stopped t i h (e ns); ends = omega arith }

  -- bytes at which the machine stays
  pub scan_past : {f : ℕ → Bool} {p : Mode} {to : List (List ℕ) → State} {j : ℕ} {r : Scan}
      → ((ns : List (List ℕ)) (b : ℕ) → f b ≡ true → form_step p ns b ≡ at p ns) → Past f t i j → Scans t j (at p) to r → Scans t i (at p) to r
  scan_past {f} {p} {j = j} {r} stays e s =
      record { runs = λ ns. run_past f p ns (stays ns) t i j e ∙ s.runs ns; ends = later i j (length t) (past_ahead e) r s.ends }

  -- another place takes the next byte as p does
  pub scan_as : {p : Mode} {to : List (List ℕ) → State} {r : Scan} (q : Mode) → ended p ≡ ended q
      → ((ns : List (List ℕ)) → i < length t → form_step p ns (get_or t i 0) ≡ form_step q ns (get_or t i 0)) → Scans t i (at q) to r → Scans t i (at p) to r
  scan_as {p} q e f s = record { runs = λ ns. run_as t i p ns q ns e (f ns) ∙ s.runs ns; ends = s.ends }

  pub scan_is : {a b : List (List ℕ) → State} {r s : Scan} → Scans t i a b r → r ≡ s → Scans t i a b s
  scan_is {a} {b} x e = subst (Scans t i a b) e x

  -- a word that stands there
  pub scan_word : {p : Mode} (w : List ℕ) (j : ℕ) → take (j - i) (drop i t) ≡ w → i ≤ j → j ≤ length t → Scans t i (at (reads p w)) (at p) (Ok j)
  scan_word {p} w j e h l =
      let n : i + (j - i) ≡ j = omega arith in
      let d : drop i t ≡ w ++ drop j t = sym (take-append-drop (j - i) (drop i t)) ∙ ap (λ (v : List ℕ). v ++ drop (j - i) (drop i t)) e ∙ ap (λ (v : List ℕ). w ++ v) (drop-drop (j - i) i t ∙ ap (λ (k : ℕ). drop k t) n) in
      record { runs = λ ns. ap (form_run (at (reads p w) ns)) d ∙ run_word p ns w (drop j t); ends = (h, l) }

  -- one scan and the next
  pub scan_then : {a b c : List (List ℕ) → State} {r s : Scan} (j : ℕ) → Scans t i a b r → r ≡ Ok j → Scans t j b c s → Scans t i a c s
  scan_then {b = b} {s = s} j x e y =
      let z : (i ≤ j) × (j ≤ length t) = subst (Between i (length t)) e x.ends in
      record { runs = λ ns. x.runs ns ∙ ap (goes_on t (b ns)) e ∙ y.runs ns; ends = later i j (length t) z.0 s y.ends }

  pub scan_broken : {a b c : List (List ℕ) → State} {r : Scan} (u : FormError) → Scans t i a b r → r ≡ Err u → Scans t i a c (Err u)
  scan_broken {b = b} u x e = record { runs = λ ns. x.runs ns ∙ ap (goes_on t (b ns)) e; ends = subst (Between i (length t)) e x.ends }

  pub scan_bounds : {a b : List (List ℕ) → State} {r : Scan} (j : ℕ) → Scans t i a b r → r ≡ Ok j → (i ≤ j) × (j ≤ length t)
  scan_bounds j x e = subst (Between i (length t)) e x.ends
