-- What the scanners of runs of bytes promise each other.
use Rattle.std.specs.Prelude.{◌≡◌, Bool, true, false, Option, IfSome, List, ℕ, ◌+◌, ◌<◌, ◌≤◌, length, drop}
use Rattle.xml.specs.Tree.{front}

-- the bytes from i on that pass the test end before the text does
abbrev pub EndsInside : (ℕ → Bool) → List ℕ → ℕ → Type 0
EndsInside f s i = i + front f (drop i s) < length s

-- the bytes from at on that pass the test end where those from i on do
pub record Onward (f : ℕ → Bool) (s : List ℕ) (at i : ℕ) : Type 0 where
  pub same : at + front f (drop at s) ≡ i + front f (drop i s)
  pub inside : i ≤ length s

-- whether one of the n bytes from i on does not pass the test
pub record Looked (f : ℕ → Bool) (s : List ℕ) (i n : ℕ) (r : Bool) : Type 0 where
  pub none : r ≡ false → Onward f s i (i + n)
  pub some : r ≡ true → EndsInside f s i

-- i is fewer than eight bytes before the end of the text, or the bytes that pass the test end before it
pub record Nearby (f : ℕ → Bool) (s : List ℕ) (at i : ℕ) : Type 0 where
  pub onward : Onward f s at i
  pub ends : i + 8 ≤ length s → EndsInside f s i

-- an open quote is no 0, which stands for none
abbrev pub IsQuote : Option ℕ → Type 0
IsQuote quote = IfSome quote (λ q. 0 < q)
