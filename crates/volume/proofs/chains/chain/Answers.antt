-- `chain` meets its contract: construct by construct, up to the first that breaks it.
use lib.ListN.{length, length-set}
use native.Mathlib.Omega.{arith}
use Prim.Native.Nat.{ℕ, ◌+◌}
use mathlib.Core.List.{List}
use mathlib.Core.Path.{refl, sym, ap, subst, ◌∙◌}
use Rattle.volume.proofs.Chaining.{ChainsAt, chains_start, chains_more, chains_over, chains_all}
use Rattle.volume.specs.Volume.{volume_with}
use Rattle.volume.specs.Readers.{given_to}
use Rattle.volume.proofs.chains.chain.Goals as goal

pub loop-k-init : goal.loop-k-init
loop-k-init c =
    let x = c.args.partition.now in
    record {
      room = refl;
      chain = chains_start (volume_with (given_to c.args.reader.now)) x.store.now x.constructs.now x.count (length c.args.generations.now) c.args.generations.now;
    }

pub returns-in_default : goal.returns-in_default
returns-in_default c =
    let x = c.args.partition.now in
    chains_over (volume_with (given_to c.args.reader.now)) x.store.now x.constructs.now x.count (length c.args.generations.now) c.loop-k.generations c.loop-k.k
    c.loop-k.last.0 c.loop-k.invariant.chain c.loop-k-test.true c.link.result c.link.ensures c.in_default.is

pub loop-k-preserved : goal.loop-k-preserved
loop-k-preserved c =
    let x = c.args.partition.now in
    let v = volume_with (given_to c.args.reader.now) in
    let p = c.put.ensures in
    let g = c.in-Some.generation in
    record {
      room = ap length p ∙ length-set c.loop-k.generations c.loop-k.k g.0 ∙ c.loop-k.invariant.room;
      chain =
          subst (λ (l : List ℕ). ChainsAt v x.store.now x.constructs.now x.count (length c.args.generations.now) l (c.loop-k.k + 1) g.0) (sym p)
          (chains_more v x.store.now x.constructs.now x.count (length c.args.generations.now) c.loop-k.generations c.loop-k.k c.loop-k.last.0
          c.loop-k.invariant.chain c.loop-k-test.true c.link.result c.link.ensures g c.loop-k.invariant.room c.in-Some.is);
    }

pub returns : goal.returns
returns c =
    let x = c.args.partition.now in
    chains_all (volume_with (given_to c.args.reader.now)) x.store.now x.constructs.now x.count (length c.args.generations.now) c.loop-k.generations c.loop-k.k
    c.loop-k.last.0 c.loop-k.invariant.chain (omega arith) c.loop-k-test.false
