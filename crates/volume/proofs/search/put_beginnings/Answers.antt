-- `put_beginnings` meets its contract: construct after construct.
use Rattle.std.proofs.Common.{rules}
use lib.ListN.{length, length-set}
use native.Mathlib.Omega.{arith}
use Prim.Native.Nat.{ℕ, ◌+◌, ◌<◌}
use mathlib.Core.List.{List}
use mathlib.Core.Path.{◌≡◌, refl, sym, ap, subst, ◌∙◌}
use Rattle.volume.proofs.Searching.{BeginsAt, begins_start, begins_more, begins_end}
use Rattle.volume.proofs.search.put_beginnings.Goals as goal

pub loop-k-init : goal.loop-k-init
loop-k-init c = record { room = refl; begun = begins_start c.args.partition.now.constructs.now c.args.n c.args.beginnings.now }

pub loop-k-preserved : goal.loop-k-preserved
loop-k-preserved c =
    let t = c.args.partition.now.constructs.now in
    let p = c.put.ensures in
    let narrow : c.loop-k.k + 1 < 4294967296 → c.unwrap_or.result ≡ c.loop-k.k + 1 = λ h. search rules in
    record {
      room = ap length p ∙ length-set c.loop-k.beginnings c.construct-here.result.first.0 c.unwrap_or.result ∙ c.loop-k.invariant.room;
      begun =
          subst (λ (l : List ℕ). BeginsAt t c.args.n c.args.beginnings.now l (c.loop-k.k + 1)) (sym p)
          (begins_more t c.args.n c.args.beginnings.now c.loop-k.beginnings c.loop-k.k c.construct-here.result c.unwrap_or.result c.loop-k.invariant.begun c.loop-k-test.true c.construct-here.ensures narrow);
    }

pub returns : goal.returns
returns c =
    begins_end c.args.partition.now.constructs.now c.args.n c.args.beginnings.now c.loop-k.beginnings c.loop-k.k c.loop-k.invariant.begun (omega arith) c.loop-k-test.false
