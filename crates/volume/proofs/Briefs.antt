-- The link of an index, and when it joins a construct of the data partition.
use Rattle.std.specs.Prelude.{Err, None, Ok, Option, Some}
use mathlib.Core.Path.{◌≡◌, refl, ap}
use mathlib.Core.Bool.{true, false}
use mathlib.Core.List.{List, []}
use Prim.Native.Nat.{ℕ}
use native.Mathlib.Omega.{arith}
use lib.Dec.{leb, eqb}
use Rattle.refusals.specs.declared.Refusal.TheVariants.{Caller, TooMany}
use Rattle.refusals.specs.Refusals.{Answer, require}
use Rattle.quantities.specs.Addresses.{Address}
use Rattle.constructs.specs.Constructs.{Construct}
use Rattle.index.specs.Index as text
use Rattle.std.specs.Result.{result_ok}
use Rattle.index.specs.Steps.{means}
use Rattle.index.specs.declared.read.Header.{Header}
use Rattle.index_values.specs.Tests.{Given}
use Rattle.slices.proofs.Booleans.{split}
use Rattle.xml.specs.CheckSteps.{require_form, in_form, form, form_run, ended}
use Rattle.elements.specs.Reading.{forest_at}
use Rattle.verdict.specs.Verdict.{IndexLinks, Volume, read_text, follows}
use Rattle.volume.specs.Volume.{soundly, volume_with}
use Rattle.volume.specs.Chosen.{text_bytes}
use Rattle.volume.specs.Steps.{link_of, brief_link, joined}

-- an empty text is no index
no_text : (g : Given) (letter block : ℕ) → soundly (text.index_of g letter block []) ≡ None
unfolding text.index_of in_form form form_run ended
no_text g letter block =
    split
    (λ b. soundly (require b Caller (require (leb 0 text.max_text) TooMany (require_form [] (text.root_read g letter block (forest_at [] 38))))) ≡ None)
    (text.caller_right g letter) (λ e. refl) (λ e. refl)

-- so a construct without a text is read as its empty one is
pub read_bytes : (g : Given) (letter first : ℕ) (o : Option (List ℕ)) → soundly (text.index_of g letter first (text_bytes o)) ≡ read_text (volume_with g) letter first o
read_bytes g letter first None = no_text g letter first
read_bytes g letter first (Some x) = refl

abbrev summary_generation : Answer text.Summary → ℕ
summary_generation (Err r) = 0
summary_generation (Ok t) = t.heading.generation

abbrev summary_back : Answer text.Summary → Option Address
summary_back (Err r) = None
summary_back (Ok t) = t.heading.back

-- what is read of an index that is sound: its generation and its back pointer
pub link_found : (a : Answer text.Index) (s : List ℕ) (r : Answer Header) (h : Header) → means s r ≡ text.summary_of a → Some h ≡ result_ok r
    → brief_link (Some (record { generation = h.generation; back = h.back })) ≡ link_of (soundly a)
link_found a s (Err q) h m e = let z : ◌≡◌ {A = ℕ} 0 1 = cc in absurd (omega arith)
link_found (Err q) s (Ok k) h m e = let z : ◌≡◌ {A = ℕ} 0 1 = cc in absurd (omega arith)
link_found (Ok x) s (Ok k) h m e = let z : h ≡ k = cc in rw (z, ap summary_generation m, ap summary_back m)

pub link_refused : (a : Answer text.Index) (s : List ℕ) (r : Answer Header) → means s r ≡ text.summary_of a → None ≡ result_ok r → None ≡ link_of (soundly a)
link_refused (Err q) s r m e = refl
link_refused (Ok x) s (Ok k) m e = let z : ◌≡◌ {A = ℕ} 0 1 = cc in absurd (omega arith)
link_refused (Ok x) s (Err q) m e = let z : ◌≡◌ {A = ℕ} 0 1 = cc in absurd (omega arith)

-- an index that joins a construct whose index is sound follows it
pub joined_follows : (v : Volume) (o : Option IndexLinks) (d : Construct) (p : Option IndexLinks) (y : IndexLinks) → p ≡ Some y
    → joined (link_of o) v.data_letter d.first y.generation ≡ follows v o d p
unfolding follows
joined_follows v None d p y e = refl
joined_follows v (Some x) d p y e = rw e
