-- `misfit` meets its contract: where it follows, what is lost says why it does not fit.
use Rattle.std.proofs.Common.{rules}
use Rattle.std.specs.Prelude.{option_map}
use mathlib.Core.Path.{◌≡◌, sym, ap, subst, ◌∙◌}
use mathlib.Core.List.{List}
use Prim.Native.Nat.{ℕ}
use Rattle.volume.specs.Steps.{Loses, behind}
use Rattle.volume.specs.declared.filled.Misfit.TheVariants as misfit
use Rattle.volume.proofs.filled.Filled.misfit.Goals as goal

pub returns : goal.returns
returns c =
    let x = c.args.self.now in
    let e : c.map.result ≡ option_map misfit.Lost c.first_lost.result = search rules in
    behind _ e (sym c.joins.ensures ∙ c.if-not-joins.false)
    (subst (λ (t : List ℕ). Loses t x.reader.volume x.index.reach.now c.args.here.end x.data.reach.now c.args.there.end c.first_lost.result) c.text_at.ensures c.first_lost.ensures)
