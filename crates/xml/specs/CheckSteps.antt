-- The XML form as a machine that reads a text from left to right, byte by byte. A text is in the form (specs/Grammar) where the machine,
-- started before the declaration, reads all of it and ends after the root element. Where it stops, no text in the form begins so.
use Rattle.std.specs.Prelude.{Bool, true, false, cond, ◌&&◌, ◌||◌, List, [], ◌∷◌, ◌++◌, ℕ, suc, ◌+◌, ◌-◌, min, length, leb, ltb, eqb, Result, Ok, Err}
use Rattle.refusals.specs.Refusals.{Answer, require, left_at}
use Rattle.slices.specs.Words.{bytes}
use Rattle.refusals.specs.declared.Refusal.TheVariants.{Form}
use Rattle.xml.specs.Bytes.{is_space, is_ascii_letter, is_name_byte, declaration}
use Rattle.xml.specs.declared.FormError.{FormError}

-- what an element holds so far: white space alone; text that ends in 0, 1, or 2 or more `]`; elements
pub data Held : Type 0 where
  blank : Held
  words : ℕ → Held
  children : Held

pub data Mode : Type 0 where
  word : Mode → List ℕ → Mode  -- in a fixed word, of which the list, not empty, is left; the place to go on at
  before : Mode  -- between the declaration and the root
  root : Mode  -- after the root's `<`
  name : List ℕ → Mode  -- in the name of a start tag, of which the list is read
  tag : Mode  -- in a start tag, after the name and white space
  key : Mode  -- in an attribute's name
  keyed : Mode  -- after an attribute's name and white space
  equals : Mode  -- after `=`
  value : ℕ → Mode  -- in an attribute's value that ends with this quote
  valued : Mode  -- after an attribute's value
  slash : Mode  -- after the `/` of an empty-element tag
  content : Held → Mode  -- in an element
  opens : Bool → Mode  -- after a `<` in an element; an element may begin here, or not, beside text
  closed : Mode  -- after the name of an end tag
  after : Mode  -- after the root
  amp : Mode → Mode  -- after `&`
  amp_a : Mode → Mode  -- after `&a`
  more : Mode → ℕ → ℕ → ℕ → Mode  -- in a character: a byte from lo to hi, then n bytes from 128 to 191
  lead239 : Mode → Mode  -- in a character, after the byte 239: U+FFFE and U+FFFF are no characters

-- a place with the names of the open elements, the innermost first; or stopped
pub data State : Type 0 where
  stop : State
  at : Mode → List (List ℕ) → State

-- at the word w, and then at p
unfoldable pub reads : Mode → List ℕ → Mode
reads p [] = p
reads p (c ∷ w) = word p (c ∷ w)

-- the first byte of a character, before which the machine was at p
unfoldable pub char : Mode → List (List ℕ) → ℕ → State
char p ns b =
    cond (ltb b 128) (cond (eqb b 38) (at (amp p) ns) (cond (leb 32 b || is_space b) (at p ns) stop))
    (cond (ltb b 194) stop
    (cond (ltb b 224) (at (more p 128 191 0) ns)
    (cond (ltb b 225) (at (more p 160 191 1) ns)
    (cond (ltb b 237) (at (more p 128 191 1) ns)
    (cond (ltb b 238) (at (more p 128 159 1) ns)
    (cond (ltb b 239) (at (more p 128 191 1) ns)
    (cond (ltb b 240) (at (lead239 p) ns)
    (cond (ltb b 241) (at (more p 144 191 2) ns)
    (cond (ltb b 244) (at (more p 128 191 2) ns)
    (cond (ltb b 245) (at (more p 128 143 2) ns) stop))))))))))

-- in text that ends with n `]`
unfoldable pub in_text : ℕ → List (List ℕ) → ℕ → State
in_text n ns b =
    cond (eqb b 93) (at (content (words (min 2 (n + 1)))) ns)
    (cond (eqb b 62 && eqb n 2) stop (char (content (words 0)) ns b))

-- a byte of an element, other than `<`
unfoldable pub inside_element : Held → List (List ℕ) → ℕ → State
inside_element blank ns b = cond (is_space b) (at (content blank) ns) (in_text 0 ns b)
inside_element (words n) ns b = in_text n ns b
inside_element children ns b = cond (is_space b) (at (content children) ns) stop

-- the `>` or `/` of a start tag
unfoldable pub tag_end : List (List ℕ) → ℕ → State
tag_end ns b = cond (eqb b 62) (at (content blank) ns) (cond (eqb b 47) (at slash ns) stop)

-- after an element inside the elements ns
unfoldable pub outside : List (List ℕ) → State
outside [] = at after []
outside (n ∷ ns) = at (content children) (n ∷ ns)

-- the innermost element ends
unfoldable pub leave : List (List ℕ) → State
leave [] = stop
leave (n ∷ ns) = outside ns

unfoldable pub innermost : List (List ℕ) → List ℕ
innermost [] = []
innermost (n ∷ ns) = n

unfoldable pub without_text : Held → Bool
without_text blank = true
without_text (words n) = false
without_text children = true

unfoldable pub form_step : Mode → List (List ℕ) → ℕ → State
form_step (word p []) ns b = stop
form_step (word p (c ∷ w)) ns b = cond (eqb b c) (at (reads p w) ns) stop
form_step before ns b = cond (is_space b) (at before ns) (cond (eqb b 60) (at root ns) stop)
form_step root ns b = cond (is_ascii_letter b) (at (name (b ∷ [])) ns) stop
form_step (name w) ns b =
    cond (is_name_byte b) (at (name (w ++ b ∷ [])) ns) (cond (is_space b) (at tag (w ∷ ns)) (tag_end (w ∷ ns) b))
form_step tag ns b = cond (is_space b) (at tag ns) (cond (is_ascii_letter b) (at key ns) (tag_end ns b))
form_step key ns b = cond (is_name_byte b) (at key ns) (cond (is_space b) (at keyed ns) (cond (eqb b 61) (at equals ns) stop))
form_step keyed ns b = cond (is_space b) (at keyed ns) (cond (eqb b 61) (at equals ns) stop)
form_step equals ns b = cond (is_space b) (at equals ns) (cond (eqb b 34 || eqb b 39) (at (value b) ns) stop)
form_step (value q) ns b = cond (eqb b q) (at valued ns) (cond (eqb b 60) stop (char (value q) ns b))
form_step valued ns b = cond (is_space b) (at valued ns) (tag_end ns b)
form_step slash ns b = cond (eqb b 62) (leave ns) stop
form_step (content h) ns b = cond (eqb b 60) (at (opens (without_text h)) ns) (inside_element h ns b)
form_step (opens o) ns b =
    cond (eqb b 47) (at (reads closed (innermost ns)) ns)
    (cond (is_ascii_letter b && (o && ltb (length ns) 64)) (at (name (b ∷ [])) ns) stop)
form_step closed ns b = cond (is_space b) (at closed ns) (cond (eqb b 62) (leave ns) stop)
form_step after ns b = cond (is_space b) (at after ns) stop
form_step (amp p) ns b =
    cond (eqb b 97) (at (amp_a p) ns)
    (cond (eqb b 108 || eqb b 103) (at (word p (bytes "t;")) ns)
    (cond (eqb b 113) (at (word p (bytes "uot;")) ns) stop))
form_step (amp_a p) ns b =
    cond (eqb b 109) (at (word p (bytes "p;")) ns)
    (cond (eqb b 112) (at (word p (bytes "os;")) ns) stop)
form_step (more p lo hi n) ns b =
    cond (ltb b lo) stop (cond (ltb hi b) stop (cond (eqb n 0) (at p ns) (at (more p 128 191 (n - 1)) ns)))
form_step (lead239 p) ns b =
    cond (ltb b 128) stop
    (cond (ltb b 191) (at (more p 128 191 0) ns) (cond (ltb b 192) (at (more p 128 189 0) ns) stop))

-- what becomes of a text: in the form, or refused with so many bytes unread
pub data Outcome : Type 0 where
  good : Outcome
  broken : ℕ → Outcome

-- the text ends at this place
unfoldable pub ended : Mode → Outcome
ended (word p w) = broken 0
ended before = broken 0
ended root = broken 0
ended (name w) = broken 0
ended tag = broken 0
ended key = broken 0
ended keyed = broken 0
ended equals = broken 0
ended (value q) = broken 0
ended valued = broken 0
ended slash = broken 0
ended (content h) = broken 0
ended (opens o) = broken 0
ended closed = broken 0
ended after = good
ended (amp p) = broken 0
ended (amp_a p) = broken 0
ended (more p lo hi n) = broken 0
ended (lead239 p) = broken 0

-- from a state on: where the machine has stopped, the byte that stopped it and the rest are unread
unfoldable pub form_run : State → List ℕ → Outcome
form_run σ [] = elim σ [ stop ↦ broken 1 | at p ns ↦ ended p ]
form_run σ (b ∷ s) = elim σ [ stop ↦ broken (suc (suc (length s))) | at p ns ↦ form_run (form_step p ns b) s ]

-- before a text
abbrev pub form_start : State
form_start = at (word before declaration) []

-- what becomes of a whole text
unfoldable pub form : List ℕ → Outcome
form s = form_run form_start s

abbrev pub is_good : Outcome → Bool
is_good good = true
is_good (broken u) = false

unfoldable pub in_form : List ℕ → Bool
in_form s = is_good (form s)

-- how many of n bytes are read
abbrev pub read_of : ℕ → Outcome → ℕ
read_of n good = n
read_of n (broken u) = n - u

-- the part of a text that is read, all of it where it is in the form: its longest front that some text in the form begins with (specs/Form)
unfoldable pub front : List ℕ → ℕ
front s = read_of (length s) (form s)

module _ {A : Type 0} where
  -- refused 4, with the front, where the text is not in the form; else what follows
  abbrev pub require_form : List ℕ → Answer A → Answer A
  require_form s next = require (in_form s) (Form (left_at (front s))) next

-- what `check` answers
abbrev pub form_checked : List ℕ → Result (Unit {0}) FormError
form_checked s = cond (in_form s) (Ok tt) (Err (record { front = front s }))
