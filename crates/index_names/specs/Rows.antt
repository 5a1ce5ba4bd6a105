-- A row of a table: the name of an element that may stand in another one, what it is, and how often it comes there.
use Rattle.std.specs.Prelude.{Bool, true, false, cond, ◌||◌, List, [], ◌∷◌, map, ℕ, suc}
use Prim.Native.String.{String}
use Rattle.slices.specs.Words.{bytes}
use Rattle.index_names.specs.declared.Sort.{Sort}

pub data Often : Type 0 where
  Once : Often
  AtMostOnce : Often
  AnyNumber : Often

pub record TableRow : Type 0 where
  pub name : List ℕ
  pub sort : Sort
  pub often : Often

abbrev pub once : String → Sort → TableRow
once word what = record { name = bytes word; sort = what; often = Once }

abbrev pub at_most_once : String → Sort → TableRow
at_most_once word what = record { name = bytes word; sort = what; often = AtMostOnce }

abbrev pub any_number : String → Sort → TableRow
any_number word what = record { name = bytes word; sort = what; often = AnyNumber }

-- the columns
abbrev pub names_of : List TableRow → List (List ℕ)
names_of = map (λ r. r.name)

abbrev pub sorts_of : List TableRow → List Sort
sorts_of = map (λ r. r.sort)

abbrev pub is_once : Often → Bool
is_once Once = true
is_once AtMostOnce = false
is_once AnyNumber = false

abbrev pub is_any_number : Often → Bool
is_any_number Once = false
is_any_number AtMostOnce = false
is_any_number AnyNumber = true

-- how many rows are `once`
unfoldable pub count_once : List TableRow → ℕ
count_once [] = 0
count_once (r ∷ rs) = cond (is_once r.often) (suc (count_once rs)) (count_once rs)

-- whether a row is `any_number`
unfoldable pub some_any_number : List TableRow → Bool
some_any_number [] = false
some_any_number (r ∷ rs) = is_any_number r.often || some_any_number rs
