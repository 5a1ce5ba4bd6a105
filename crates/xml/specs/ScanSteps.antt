-- What the scanners of the form check promise each other: the machine comes to the same from where a scanner began as from where it ended.
use Rattle.std.specs.Prelude.{◌≡◌, ◌≢◌, Bool, true, false, cond, not, ◌&&◌, ◌||◌, List, [], ◌∷◌, ◌++◌, ℕ, suc, ◌+◌, ◌-◌, ◌≤◌, ◌<◌, length, take, drop, get_or, leb, ltb, eqb, Option, Some, None, Result, Ok, Err}
use Rattle.std.specs.Borrow.{Bor}
use Rattle.slices.specs.Slices.{within}
use Rattle.xml.specs.Bytes.{is_space, is_ascii_letter, is_name_byte}
use Rattle.xml.specs.Tree.{front}
use Rattle.xml.specs.CheckSteps.{Held, blank, children, words, Mode, name, content, opens, more, State, stop, at, char, tag_end, outside, leave, form_step, Outcome, good, broken, ended, form_run}
use Rattle.xml.specs.declared.FormError.{FormError}
use Rattle.xml.specs.declared.tags.TagEnd.{TagEnd}
use Rattle.xml.specs.declared.tags.TagEnd.TheVariants.{Open, Empty}
use Rattle.xml.specs.declared.Turn.{Turn}
use Rattle.xml.specs.declared.Turn.TheVariants.{Opened, Inside, Outside}

-- bytes that text has under no further rule: white space, and ASCII characters other than `<`, `&`, `>` and `]`
unfoldable pub is_text : ℕ → Bool
is_text b = is_space b || (within 32 127 b && not (eqb b 60 || eqb b 38 || eqb b 62 || eqb b 93))

-- `a` a letter, `b` another byte of a name, `c` another byte of text, `d` white space, `e` any other byte
unfoldable pub kind_of : ℕ → ℕ
kind_of b = cond (is_ascii_letter b) 97 (cond (is_name_byte b) 98 (cond (is_space b) 100 (cond (is_text b) 99 101)))

abbrev pub up_to : ℕ → ℕ → Bool
up_to hi b = leb (kind_of b) hi

-- j is the end of the bytes from i on that pass the test
pub record Past (f : ℕ → Bool) (t : List ℕ) (i j : ℕ) : Type 0 where
  pub found : j ≡ i + front f (drop i t)
  pub inside : j ≤ length t

-- the bytes from i to j pass the test: those from i on that do end where those from j on do
pub record Along (f : ℕ → Bool) (t : List ℕ) (i j : ℕ) : Type 0 where
  pub same : i + front f (drop i t) ≡ j + front f (drop j t)
  pub ahead : i ≤ j
  pub inside : j ≤ length t

-- after the first byte of a character, b, before which the machine was at p
abbrev pub first : Mode → ℕ → List (List ℕ) → State
first p b ns = char p ns b

-- in a character, where n bytes from 128 to 191 are left of it
abbrev pub rest : Mode → ℕ → List (List ℕ) → State
rest p n ns = cond (eqb n 0) (at p ns) (at (more p 128 191 (n - 1)) ns)

-- the position that a scan came to, or the one where the text leaves the form
abbrev pub Scan : Type 0
Scan = Result ℕ FormError

-- the outcome where a scan that leads to the state σ ended so
abbrev pub goes_on : List ℕ → State → Scan → Outcome
goes_on t σ (Ok i) = form_run σ (drop i t)
goes_on t σ (Err e) = broken (length t - e.front)

-- from i on, and not past n
abbrev pub Between : ℕ → ℕ → Scan → Type 0
Between i n (Ok j) = (i ≤ j) × (j ≤ n)
Between i n (Err e) = e.front ≤ n

-- a scan of t from i on, where the machine is at `from`, to where it is at `to`, whatever elements are open
pub record Scans (t : List ℕ) (i : ℕ) (from to : List (List ℕ) → State) (r : Scan) : Type 0 where
  pub runs : (ns : List (List ℕ)) → form_run (from ns) (drop i t) ≡ goes_on t (to ns) r
  pub ends : Between i (length t) r

-- white space and then the byte b, from i on: wherever the machine stays at white space, goes from b to σ, and stops at each other byte
abbrev pub ScansByte : List ℕ → ℕ → ℕ → Scan → Type 0
ScansByte t i b r =
    (p : Mode) (σ : List (List ℕ) → State) → ended p ≡ broken 0 → is_space b ≡ false
    → ((ns : List (List ℕ)) (c : ℕ) → is_space c ≡ true → form_step p ns c ≡ at p ns) → ((ns : List (List ℕ)) → form_step p ns b ≡ σ ns)
    → ((ns : List (List ℕ)) (c : ℕ) → is_space c ≡ false → c ≢ b → form_step p ns c ≡ stop) → Scans t i (at p) σ r

-- r is true only where the bytes w complete the character that begins with b
pub record Completes (b : ℕ) (w : List ℕ) (r : Bool) : Type 0 where
  pub runs : r ≡ true → (p : Mode) (ns : List (List ℕ)) (s : List ℕ) → form_run (first p b ns) (w ++ s) ≡ form_run (at p ns) s

-- text from i to j, where the machine is as it was at i: in text that ends in no `]`
abbrev pub TextTo : List ℕ → ℕ → ℕ → Type 0
TextTo t i j = Scans t i (at (content (words 0))) (at (content (words 0))) (Ok j)

-- the bytes of t from i to j
abbrev pub part : List ℕ → ℕ → ℕ → List ℕ
part t i j = take (j - i) (drop i t)

-- A scan that tells something, beside the position that it came to.
module _ {A : Type 0} where
  -- the outcome where one that leads to the states `to` ended so
  abbrev pub told : List ℕ → (A → State) → Result (A × ℕ) FormError → Outcome
  told t to (Ok p) = form_run (to p.0) (drop p.1 t)
  told t to (Err e) = broken (length t - e.front)

  -- from i on, and not past n
  abbrev pub ToldFrom : ℕ → ℕ → Result (A × ℕ) FormError → Type 0
  ToldFrom i n (Ok p) = (i ≤ p.1) × (p.1 ≤ n)
  ToldFrom i n (Err e) = e.front ≤ n

  -- ahead of i, and not past n
  abbrev pub ToldAhead : ℕ → ℕ → Result (A × ℕ) FormError → Type 0
  ToldAhead i n (Ok p) = (i < p.1) × (p.1 ≤ n)
  ToldAhead i n (Err e) = e.front ≤ n

-- behind a start tag in the elements ns, its own first
abbrev pub tag_state : List (List ℕ) → TagEnd → State
tag_state ns Open = at (content blank) ns
tag_state ns Empty = leave ns

-- the rest of a start tag, from i on, where the machine is at `from`
pub record ScansTag (t : List ℕ) (i : ℕ) (from : List (List ℕ) → State) (r : Result (TagEnd × ℕ) FormError) : Type 0 where
  pub runs : (ns : List (List ℕ)) → form_run (from ns) (drop i t) ≡ told t (tag_state ns) r
  pub ends : ToldFrom i (length t) r

-- the `>` or `/>` of a start tag at i, wherever only one of them may be
abbrev pub ShutsTag : List ℕ → ℕ → Result (TagEnd × ℕ) FormError → Type 0
ShutsTag t i r =
    (p : Mode) → ended p ≡ broken 0 → ((ns : List (List ℕ)) → form_step p ns (get_or t i 0) ≡ tag_end ns (get_or t i 0)) → ScansTag t i (at p) r

-- behind a start tag inside the elements ns: in the element with this name, or none that it opens
abbrev pub start_state : List (List ℕ) → Option (Bor (List ℕ)) → State
start_state ns (Some n) = at (content blank) (n.now ∷ ns)
start_state ns None = outside ns

-- a start tag from i on, at a place where only one may be
pub record Starts (t : List ℕ) (i : ℕ) (r : Result (Option (Bor (List ℕ)) × ℕ) FormError) : Type 0 where
  pub runs : (p : Mode) (ns : List (List ℕ)) → ended p ≡ broken 0
      → form_step p ns (get_or t i 0) ≡ cond (is_ascii_letter (get_or t i 0)) (at (name (get_or t i 0 ∷ [])) ns) stop → form_run (at p ns) (drop i t) ≡ told t (start_state ns) r
  pub ends : ToldAhead i (length t) r

-- behind the next tag of the element n, inside the elements ns
abbrev pub turn_state : List ℕ → List (List ℕ) → Turn → State
turn_state n ns (Opened m) = at (content blank) (m.now ∷ n ∷ ns)
turn_state n ns Inside = at (content children) (n ∷ ns)
turn_state n ns Outside = outside ns

-- an element opens only where one may
abbrev pub OpensIf : Bool → Result (Turn × ℕ) FormError → Type 0
OpensIf begins (Ok p) = elim p.0 [ Opened m ↦ begins ≡ true | Inside ↦ Unit {0} | Outside ↦ Unit {0} ]
OpensIf begins (Err e) = Unit {0}

-- the next tag of the element n, from i on, where the machine is at `from`, in all elements around n that are as `around` says
pub record Turns (t : List ℕ) (i : ℕ) (n : List ℕ) (begins : Bool) (from : List (List ℕ) → State) (around : List (List ℕ) → Type 0) (r : Result (Turn × ℕ) FormError) : Type 0 where
  pub runs : (ns : List (List ℕ)) → around ns → form_run (from (n ∷ ns)) (drop i t) ≡ told t (turn_state n ns) r
  pub ends : ToldAhead i (length t) r
  pub opens_if : OpensIf begins r

-- a tag of the element n from behind its `<` on, where an element may begin or not
abbrev pub OpensTurn : List ℕ → ℕ → List ℕ → Bool → Result (Turn × ℕ) FormError → Type 0
OpensTurn t i n begins r = (o : Bool) → Turns t i n begins (at (opens o)) (λ ns. (o && ltb (suc (length ns)) 64) ≡ begins) r

-- an element with children so far, or with white space alone
abbrev pub held : Bool → Held
held true = children
held false = blank

-- the content of an element from i on, up to its next `<`, behind which an element may begin or not
pub record Reaches (t : List ℕ) (i : ℕ) (some : Bool) (r : Result (Bool × ℕ) FormError) : Type 0 where
  pub runs : (ns : List (List ℕ)) → form_run (at (content (held some)) ns) (drop i t) ≡ told t (λ o. at (opens o) ns) r
  pub ends : ToldFrom i (length t) r

-- what follows in the element n at that depth, up to the end of its next tag
abbrev pub NextTurn : List ℕ → ℕ → List ℕ → Bool → ℕ → Result (Turn × ℕ) FormError → Type 0
NextTurn t i n some depth r = Turns t i n (ltb depth 64) (at (content (held some))) (λ ns. suc (length ns) ≡ depth) r

-- the outcome that an end of t shows
abbrev pub outcome_of : List ℕ → Result (Unit {0}) FormError → Outcome
outcome_of t (Ok u) = good
outcome_of t (Err e) = broken (length t - e.front)

-- not past n
abbrev pub FrontIn : ℕ → Result (Unit {0}) FormError → Type 0
FrontIn n (Ok u) = Unit {0}
FrontIn n (Err e) = e.front ≤ n

-- what is read of t from i on, where the machine is at σ, up to the end
pub record Ends (t : List ℕ) (i : ℕ) (σ : State) (r : Result (Unit {0}) FormError) : Type 0 where
  pub runs : form_run σ (drop i t) ≡ outcome_of t r
  pub ends : FrontIn (length t) r
