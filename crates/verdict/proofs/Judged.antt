-- The verdict finds no break exactly where the volume is consistent; each break that it finds is one of the five, so its number is not 0.
use Rattle.std.specs.Prelude.{None, Option, Some}
use mathlib.Core.Path.{◌≡◌, ap, subst}
use mathlib.Core.Logic.{◌↔◌}
use mathlib.Core.Bool.{Bool, true, false}
use Prim.Native.Nat.{ℕ, ◌≤◌}
use native.Mathlib.Omega.{arith}
use lib.ListN.{take}
use Rattle.tape.specs.Tape.{Tape}
use Rattle.constructs.specs.Constructs.{standing, data_lengths}
use Rattle.verdict.specs.Verdict.{Volume, Break, or_else, unless, numbered, ends_with, chain_break, tied, bad_file, verdict, Consistent}

module _ (labels : Tape → Tape → Option Volume) (v : Volume) (i d : Tape) (agree : labels (take 4 i) (take 4 d) ≡ Some v) where
  pub judged : (verdict v i d ≡ None) ↔ Consistent labels i d
  judged = ((λ h. (v, agree, h)), (λ w. let q : w.0 ≡ v = cc (agree, w.1) in subst (λ (x : Volume). verdict x i d ≡ None) q w.2))

abbrev Named : Option Break → Type 0
Named o = (b : Break) → o ≡ Some b → 1 ≤ b.which

named_unless : (t : Bool) (w n : ℕ) → 1 ≤ w → Named (unless t (record { which = w; number = n }))
named_unless true w n h b e = let z : ◌≡◌ {A = ℕ} 0 1 = cc in absurd (omega arith)
named_unless false w n h b e = let q : record { which = w; number = n } ≡ b = cc in omega (arith, h, ap (λ (x : Break). x.which) q)

named_numbered : (w : ℕ) (o : Option ℕ) → 1 ≤ w → Named (numbered w o)
named_numbered w None h b e = let z : ◌≡◌ {A = ℕ} 0 1 = cc in absurd (omega arith)
named_numbered w (Some n) h b e = let q : record { which = w; number = n } ≡ b = cc in omega (arith, h, ap (λ (x : Break). x.which) q)

named_or : (x y : Option Break) → Named x → Named y → Named (or_else x y)
named_or None y p q b e = q b e
named_or (Some a) y p q b e = p b e

pub named : (v : Volume) (i d : Tape) → Named (verdict v i d)
unfolding verdict
named v i d =
    let cs = standing v.size i in
    let ds = standing v.size d in
    named_or _ _ (named_unless (ends_with i cs) 1 0 (omega arith))
    (named_or _ _ (named_unless (ends_with d ds) 2 0 (omega arith))
    (named_or _ _ (named_numbered 3 (chain_break v ds) (omega arith))
    (named_or _ _ (named_unless (tied v cs ds) 4 _ (omega arith))
    (named_numbered 5 (bad_file v cs (data_lengths i) (data_lengths d)) (omega arith)))))
