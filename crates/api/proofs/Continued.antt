-- Reading on never hurts (02, Item 14), of two calls of `klapouzen_rescue`, the first of which was answered with a cut: the second read has
-- what that cut keeps, as it has where it continues the first.
use Rattle.std.specs.Prelude.{Some, Err, Ok}
use mathlib.Core.Path.{◌≡◌, refl, sym, ap, ◌∙◌}
use mathlib.Core.Logic.{◌⊎◌, inl, inr}
use mathlib.Core.List.{List}
use Prim.Native.Nat.{ℕ, ◌<◌}
use native.Mathlib.Omega.{arith}
use lib.ListN.{take}
use Rattle.refusals.specs.Refusals.{Answer}
use Rattle.refusals.proofs.Numbers.{not_zero}
use Rattle.tape.specs.Continued.{Continued}
use Rattle.verdict.specs.Verdict.{Cut}
use Rattle.verdict.proofs.Continued.{at_least}
use Rattle.volume.specs.Answers.{cut_of, rescued}
use Rattle.volume.proofs.Continued.{rescues_on, cut_continued}
use Rattle.api.specs.Outputs.{Shown}
use Rattle.api.specs.Volumes.{cut_numbers, ShowsCut, RescuesOut}
use Rattle.api.specs.Continued.{KeptAlikeOut, RescuesOnOut}

-- what is shown of a cut: 0, and its numbers
cut_shown : (x : Answer Cut) {n : ℕ} {out : List ℕ} → Shown 5 cut_numbers x n out → n ≡ 0 → (a : Cut) × (x ≡ Ok a) × (out ≡ cut_numbers a)
cut_shown (Err r) s h = absurd (not_zero r (sym s.refusal ∙ h))
cut_shown (Ok a) s h = (a, refl, s.holds)

cut_told : (x : Answer Cut) (b : Cut) {n : ℕ} {out : List ℕ} → Shown 5 cut_numbers x n out → cut_of x ≡ Some b → (n ≡ 0) × (out ≡ cut_numbers b)
cut_told (Err r) b s h = let z : ◌≡◌ {A = ℕ} 0 1 = cc in absurd (omega arith)
cut_told (Ok c) b s h = let e : c ≡ b = cc in (s.refusal, s.holds ∙ ap cut_numbers e)

as_told : (a b : Cut) → (b ≡ a) ⊎ (a.index_construct < b.index_construct) → (cut_numbers b ≡ cut_numbers a) ⊎ (a.index_construct < b.index_construct)
as_told a b (inl e) = inl (ap cut_numbers e)
as_told a b (inr m) = inr m

-- of the five numbers
module _ {il is dl ds il' is' dl' ds' told : List ℕ} (first : ShowsCut il is dl ds 0 told) where
  again : {told' : List ℕ} {returned : ℕ} → ShowsCut il' is' dl' ds' returned told' → KeptAlikeOut il is dl ds il' is' dl' ds' told → RescuesOnOut told returned told'
  again second k =
      let (a, h, p) = cut_shown (rescued first.rescue) first.shows refl in
      let on = rescues_on first.rescues a h second.rescues (rw p at k.in_index) (rw p at k.in_data) in
      let b = on.never_hurts.cut in
      let (zero, q) = cut_told (rescued second.rescue) b second.shows on.never_hurts.answers in
      record {
        cut = zero;
        as_many = rw (p, q) (at_least a b on.never_hurts.same_or_more);
        same_or_more = rw (p, q) (as_told a b on.never_hurts.same_or_more);
      }

  alike : Continued il is il' is' → Continued dl ds dl' ds' → KeptAlikeOut il is dl ds il' is' dl' ds' told
  alike on_index on_data =
      let (a, h, p) = cut_shown (rescued first.rescue) first.shows refl in
      let (x, y) = cut_continued first.rescues a h on_index on_data in
      record { in_index = rw p x; in_data = rw p y }

module _ {il is dl ds il' is' dl' ds' out : List ℕ} (first : RescuesOut il is dl ds 0 out) where
  pub read_again : {out' : List ℕ} {returned : ℕ} → RescuesOut il' is' dl' ds' returned out' → KeptAlikeOut il is dl ds il' is' dl' ds' (take 5 out)
      → RescuesOnOut (take 5 out) returned (take 5 out')
  read_again second = again first.numbers second.numbers

  module _ (on_index : Continued il is il' is') (on_data : Continued dl ds dl' ds') where
    -- what continues a read has all that its cut keeps
    pub cut_stays : KeptAlikeOut il is dl ds il' is' dl' ds' (take 5 out)
    cut_stays = alike first.numbers on_index on_data

    -- the request's own sentence
    pub read_on : {out' : List ℕ} {returned : ℕ} → RescuesOut il' is' dl' ds' returned out' → RescuesOnOut (take 5 out) returned (take 5 out')
    read_on second = read_again second cut_stays
