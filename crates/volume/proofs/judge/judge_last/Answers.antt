-- `judge_last` meets its contract: break 4, then break 5.
use Prim.Native.Nat.{◌-◌}
use mathlib.Core.Path.{refl, sym, ap, ◌∙◌}
use Rattle.std.specs.Prelude.{option_map, Some}
use Rattle.constructs.specs.TableSteps.{bounds_in}
use Rattle.volume.specs.Steps.{bounds_text}
use Rattle.volume.proofs.Verdicts.{misfit_break, judges_unsound, judges_by}
use Rattle.volume.proofs.judge.judge_last.Goals as goal

pub returns-in_default : goal.returns-in_default
returns-in_default c =
    let r = c.args.filled.now.reader in
    let x = c.args.filled.now.index in
    let y = c.args.filled.now.«data» in
    rw c.last-k.ensures
    (judges_unsound r.uuid.now r.volume x.store.now x.constructs.now (x.count - 1) y.constructs.now (y.count - 1) c.args.generation.0 x.reach.now y.reach.now
    c.construct-here.result c.construct-there.result (bounds_text x.store.now c.construct-here.result) c.brief_at.result
    (c.construct-here.ensures ∙ ap (bounds_in x.constructs.now) c.last-k.ensures) refl c.brief_at.ensures
    (c.construct-there.ensures ∙ ap (bounds_in y.constructs.now) c.last.ensures)
    c.in_default.is)

pub returns-in_err-misfit : goal.returns-in_err-misfit
returns-in_err-misfit c =
    let r = c.args.filled.now.reader in
    let x = c.args.filled.now.index in
    let y = c.args.filled.now.«data» in
    rw c.from_residual.ensures (judges_by r.uuid.now r.volume x.store.now x.constructs.now (x.count - 1) y.constructs.now (y.count - 1) c.args.generation.0 x.reach.now y.reach.now
    c.construct-here.result c.construct-there.result (bounds_text x.store.now c.construct-here.result) c.brief_at.result
    (c.construct-here.ensures ∙ ap (bounds_in x.constructs.now) c.last-k.ensures) refl c.brief_at.ensures
    (c.construct-there.ensures ∙ ap (bounds_in y.constructs.now) c.last.ensures)
    c.in-Some.brief c.in-Some.is c.misfit.result c.misfit.ensures _ (sym (ap (option_map (misfit_break (x.count - 1))) c.in_err-misfit.was)))

pub returns-in-Apart : goal.returns-in-Apart
returns-in-Apart c =
    let r = c.args.filled.now.reader in
    let x = c.args.filled.now.index in
    let y = c.args.filled.now.«data» in
    rw c.last-k.ensures (judges_by r.uuid.now r.volume x.store.now x.constructs.now (x.count - 1) y.constructs.now (y.count - 1) c.args.generation.0 x.reach.now y.reach.now
    c.construct-here.result c.construct-there.result (bounds_text x.store.now c.construct-here.result) c.brief_at.result
    (c.construct-here.ensures ∙ ap (bounds_in x.constructs.now) c.last-k.ensures) refl c.brief_at.ensures
    (c.construct-there.ensures ∙ ap (bounds_in y.constructs.now) c.last.ensures)
    c.in-Some.brief c.in-Some.is c.misfit.result c.misfit.ensures _ (sym (ap (option_map (misfit_break (x.count - 1))) (c.in_ok-misfit.was ∙ ap Some c.in-Apart.is))))

pub returns-in-Lost : goal.returns-in-Lost
returns-in-Lost c =
    let r = c.args.filled.now.reader in
    let x = c.args.filled.now.index in
    let y = c.args.filled.now.«data» in
    (judges_by r.uuid.now r.volume x.store.now x.constructs.now (x.count - 1) y.constructs.now (y.count - 1) c.args.generation.0 x.reach.now y.reach.now
    c.construct-here.result c.construct-there.result (bounds_text x.store.now c.construct-here.result) c.brief_at.result
    (c.construct-here.ensures ∙ ap (bounds_in x.constructs.now) c.last-k.ensures) refl c.brief_at.ensures
    (c.construct-there.ensures ∙ ap (bounds_in y.constructs.now) c.last.ensures)
    c.in-Some.brief c.in-Some.is c.misfit.result c.misfit.ensures _ (sym (ap (option_map (misfit_break (x.count - 1))) (c.in_ok-misfit.was ∙ ap Some c.in-Lost.is))))
