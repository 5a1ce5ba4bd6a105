-- A text written to the front of a buffer, as C is told of it.
use Rattle.refusals.specs.declared.Refusal.{Refusal}
use Rattle.std.specs.Prelude.{Result, Err, Ok}
use mathlib.Core.Path.{◌≡◌, refl, subst, ◌∙◌}
use mathlib.Core.Bool.{Bool, true, false}
use mathlib.Core.List.{List}
use Prim.Native.Nat.{ℕ}
use native.Mathlib.Nat.{zero-add}
use lib.Dec.{leb}
use lib.ListN.{length}
use Rattle.refusals.specs.Refusals.{Answer}
use Rattle.slices.specs.Writers.{Puts, put_answer, held_after}
use Rattle.paths.specs.Paths.{fitting}
use Rattle.paths.specs.Steps.{Delivers, written_of, held_with}
use Rattle.api.specs.Outputs.{Shown, one}
use Rattle.api.specs.Indexes.{FillsOut}
use Rattle.api.specs.Names.{HoldsText}

pub delivered : {a : Answer (List ℕ)} {before after : List ℕ} {r : (Result ℕ Refusal)} {returned told : ℕ}
    → Delivers a before after r → Shown 1 one r returned (one told) → FillsOut HoldsText a before after returned told
delivered {a} {before} {after} {r} {returned} {told} p s =
    go a (subst (λ (x : Result ℕ Refusal). Shown 1 one x returned (one told)) p.answers s) p.holds
  where
    go : (a : Answer (List ℕ)) → Shown 1 one ((written_of a)) returned (one told) → after ≡ held_with a before
        → FillsOut HoldsText a before after returned told
    go (Err x) s h = record { answers = record { refusal = s.refusal; holds = s.holds }; stored = h }
    go (Ok w) s h = record { answers = record { refusal = s.refusal; holds = s.holds }; stored = h }

-- a writer that writes whole or not at all delivers what there is room for
puts_delivers : {w before after : List ℕ} {r : (Result ℕ Refusal)} → Puts 0 w before after r → Delivers (fitting (length before) w) before after r
unfolding put_answer held_after
puts_delivers {w} {before} {after} {r} p = go (leb (length w) (length before)) refl
  where
    go : (t : Bool) → leb (length w) (length before) ≡ t → Delivers (fitting (length before) w) before after r
    go true e = record { answers = p.answers ∙ rw (zero-add, e); holds = p.holds ∙ rw (zero-add, e) }
    go false e = record { answers = p.answers ∙ rw (zero-add, e); holds = p.holds ∙ rw (zero-add, e) }

pub put_out : {w before after : List ℕ} {r : (Result ℕ Refusal)} {returned told : ℕ}
    → Puts 0 w before after r → Shown 1 one r returned (one told) → FillsOut HoldsText (fitting (length before) w) before after returned told
put_out p s = delivered (puts_delivers p) s
