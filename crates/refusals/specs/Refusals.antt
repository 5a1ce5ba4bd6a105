-- Refusals and answers (01, Refusal numbers): the number of each refusal, what a function answers, and the order of checks.
use Rattle.std.specs.Prelude.{Bool, true, false, cond, List, [], ℕ, eqb, None, Option, Some, Result, Ok, Err}
use Rattle.refusals.specs.declared.Place.{Place}
use Rattle.refusals.specs.declared.Refusal.{Refusal}
use Rattle.refusals.specs.declared.Refusal.TheVariants as refusal

-- the number in document 01's table; from 16 on in 02: Item 1 has 16 to 18, Item 7 has 19
abbrev pub number_of : Refusal → ℕ
number_of refusal.List = 1
number_of refusal.Missing = 2
number_of refusal.Vol1 = 3
number_of (refusal.Form p) = 4
number_of refusal.Structure = 5
number_of refusal.Value = 6
number_of refusal.Version = 7
number_of refusal.Foreign = 8
number_of refusal.Layout = 9
number_of refusal.Short = 10
number_of refusal.Extents = 11
number_of refusal.Location = 12
number_of refusal.NoCut = 13
number_of refusal.Caller = 14
number_of refusal.TooMany = 15
number_of refusal.Labels = 16
number_of refusal.EndOfVolume = 17
number_of refusal.BlockCount = 18
number_of refusal.Unreadable = 19

-- 02, Item 6: a text left the form behind n bytes; none did
abbrev pub left_at : ℕ → Place
left_at n = record { front = n; on_data = false }

abbrev pub nowhere : Place
nowhere = left_at 0

-- where a text left the form: with 4 alone
abbrev pub place_of : Refusal → Place
place_of refusal.List = nowhere
place_of refusal.Missing = nowhere
place_of refusal.Vol1 = nowhere
place_of (refusal.Form p) = p
place_of refusal.Structure = nowhere
place_of refusal.Value = nowhere
place_of refusal.Version = nowhere
place_of refusal.Foreign = nowhere
place_of refusal.Layout = nowhere
place_of refusal.Short = nowhere
place_of refusal.Extents = nowhere
place_of refusal.Location = nowhere
place_of refusal.NoCut = nowhere
place_of refusal.Caller = nowhere
place_of refusal.TooMany = nowhere
place_of refusal.Labels = nowhere
place_of refusal.EndOfVolume = nowhere
place_of refusal.BlockCount = nowhere
place_of refusal.Unreadable = nowhere

-- the refusal of the data side's label, among the labels of a volume
abbrev pub on_data_side : Refusal → Refusal
on_data_side r = cond (eqb (number_of r) 4) (refusal.Form (record { front = (place_of r).front; on_data = true })) r

-- a refusal, or what was asked for
abbrev pub Answer : Type 0 → Type 0
Answer A = Result A Refusal

module _ {A : Type 0} where
  -- refused with r unless the test passes; else what follows
  abbrev pub require : Bool → Refusal → Answer A → Answer A
  require true r next = next
  require false r next = Err r

module _ {A B : Type 0} where
  -- the refusal of the first, or what follows from its value
  abbrev pub and_then : Answer A → (A → Answer B) → Answer B
  and_then (Err r) next = Err r
  and_then (Ok a) next = next a

  -- refused with r where there is no value; else what follows from it
  abbrev pub or_refuse : Option A → Refusal → (A → Answer B) → Answer B
  or_refuse (Some a) r next = next a
  or_refuse None r next = Err r

-- the number that an answer shows: a refusal's, or 0
abbrev pub shown_number : {A : Type 0} → Answer A → ℕ
shown_number (Err r) = number_of r
shown_number (Ok a) = 0

-- and where a text left the form, zeros but with 4
abbrev pub shown_place : {A : Type 0} → Answer A → Place
shown_place (Err r) = place_of r
shown_place (Ok a) = nowhere

-- the bytes that it hands out: none where it is refused
abbrev pub shown_bytes : Answer (List ℕ) → List ℕ
shown_bytes (Err r) = []
shown_bytes (Ok x) = x
