-- A row that `klapouzen_constructs` puts into the table: its text ends where it begins exactly where the construct has an unreadable block,
-- and so no text.
use Rattle.std.specs.Prelude.{None, Ok}
use mathlib.Core.Path.{◌≡◌, refl, sym, ◌∙◌, ap}
use mathlib.Core.Logic.{◌↔◌}
use mathlib.Core.Bool.{Bool, true, false}
use mathlib.Core.List.{List, ◌∷◌}
use Prim.Native.Nat.{ℕ, ◌+◌, ◌*◌, ◌≤◌}
use native.Mathlib.Omega.{arith}
use lib.ListN.{length, get_or}
use lib.Seq.{sets}
use Rattle.refusals.specs.declared.Refusal.TheVariants.{Caller}
use Rattle.refusals.specs.Refusals.{require, and_then, shown_number}
use Rattle.quantities.specs.Sizes.{is_block_size}
use Rattle.tape.specs.Tape.{Tape, Encodes}
use Rattle.tape.specs.Answers.{or_refused, bytes_before}
use Rattle.tape.proofs.Encoding.{read_encoded}
use Rattle.constructs.specs.Constructs.{Construct, standing}
use Rattle.constructs.specs.Steps.{Suffix}
use Rattle.constructs.specs.Tables.{construct_entries, table_after}
use Rattle.constructs.proofs.Scanning.{standing_few}
use Rattle.constructs.proofs.Texts.{table_at, row_tells}
use Rattle.api.specs.Partitions.{sized_in, ListsConstructs}

module _ {B : ℕ} {l s before after : List ℕ} {told : ℕ} (w : ListsConstructs B l s before after 0 told) (t : Tape) (e : Encodes l s t) where
  -- what is not refused has a lawful block size
  sized : sized_in B l s ≡ Ok t
  sized = rw (ap or_refused (read_encoded e)) (go (is_block_size B) (rw (ap or_refused (read_encoded e)) at w.answers.refusal))
    where
      go : (b : Bool) → 0 ≡ shown_number (and_then (require b Caller (Ok t)) (λ u. Ok (length (standing B u)))) → require b Caller (Ok t) ≡ Ok t
      go true h = refl
      go false h = absurd (omega arith)

  pub row_shown : length before ≡ 87380 → {c : Construct} {cs : List Construct} → Suffix (c ∷ cs) (standing B t)
      → (get_or after (length cs * 4 + 3) 0 ≡ get_or after (length cs * 4 + 2) 0) ↔ (c.text ≡ None)
  row_shown room {c} {cs} suf =
      let held : after ≡ sets before 0 (construct_entries t (standing B t)) = w.table ∙ ap (table_after B before) sized in
      let fits : length (standing B t) * 4 ≤ length before = omega (arith, standing_few B t, e.elements) in
      let at = table_at t before fits suf in
      let x = ap (λ (T : List ℕ). get_or T (length cs * 4 + 3) 0) held ∙ at 3 (omega arith) in
      let y : get_or after (length cs * 4 + 2) 0 ≡ bytes_before t c.first = ap (λ (T : List ℕ). get_or T (length cs * 4 + 2) 0) held ∙ at 2 (omega arith) in
      let r = row_tells B t e.blocks suf in
      (λ q. r.0 (sym x ∙ q ∙ y), λ q. x ∙ r.1 q ∙ sym y)
