-- `cut_after` meets its contract: each answer is one case of the law.
use mathlib.Core.Path.{refl, sym, ◌∙◌}
use Rattle.volume.specs.Steps.{bounds_text}
use Rattle.volume.specs.Readers.{TriesIn}
use Rattle.volume.proofs.Trying.{tries_unsound, tries_alone, tries_nowhere, tries_not, tries_so, none_less, one_less}
use Rattle.volume.proofs.search.Search.cut_after.Goals as goal

pub returns-in_err-brief : goal.returns-in_err-brief
unfolding TriesIn
returns-in_err-brief c =
    let s = c.args.self.now in
    let r = s.filled.reader in
    let x = s.filled.index in
    let y = s.filled.«data» in
    rw c.from_residual.ensures
    (tries_unsound r.uuid.now r.volume x.store.now x.constructs.now c.args.k y.constructs.now s.generations.now s.beginnings.now x.reach.now y.reach.now
    c.construct-here.result (bounds_text x.store.now c.construct-here.result) c.brief_at.result c.construct-here.ensures refl c.brief_at.ensures
    c.in_err-brief.was)

pub returns-in_err-place : goal.returns-in_err-place
unfolding TriesIn
returns-in_err-place c =
    let s = c.args.self.now in
    let r = s.filled.reader in
    let x = s.filled.index in
    let y = s.filled.«data» in
    rw c.from_residual-in_err-place.ensures
    (tries_alone r.uuid.now r.volume x.store.now x.constructs.now c.args.k y.constructs.now s.generations.now s.beginnings.now x.reach.now y.reach.now
    c.construct-here.result (bounds_text x.store.now c.construct-here.result) c.brief_at.result c.construct-here.ensures refl c.brief_at.ensures
    c.in_ok-brief.brief c.in_ok-brief.was c.in_err-place.was)

pub returns-in_err-j : goal.returns-in_err-j
unfolding TriesIn
returns-in_err-j c =
    let s = c.args.self.now in
    let r = s.filled.reader in
    let x = s.filled.index in
    let y = s.filled.«data» in
    rw c.from_residual-in_err-j.ensures
    (tries_nowhere r.uuid.now r.volume x.store.now x.constructs.now c.args.k y.constructs.now s.generations.now s.beginnings.now x.reach.now y.reach.now
    c.construct-here.result (bounds_text x.store.now c.construct-here.result) c.brief_at.result c.construct-here.ensures refl c.brief_at.ensures
    c.in_ok-brief.brief c.in_ok-brief.was c.in_ok-place.place c.in_ok-place.was
    (sym c.item-number.ensures ∙ none_less c.checked_sub.result c.item-number.result c.checked_sub.ensures c.in_err-j.was))

pub returns-then-is_some : goal.returns-then-is_some
unfolding TriesIn
returns-then-is_some c =
    let s = c.args.self.now in
    let r = s.filled.reader in
    let x = s.filled.index in
    let y = s.filled.«data» in
    tries_not r.uuid.now r.volume x.store.now x.constructs.now c.args.k y.constructs.now s.generations.now s.beginnings.now x.reach.now y.reach.now
    c.construct-here.result (bounds_text x.store.now c.construct-here.result) c.brief_at.result c.construct-here.ensures refl c.brief_at.ensures
    c.in_ok-brief.brief c.in_ok-brief.was c.in_ok-place.place c.in_ok-place.was c.in_ok-j.j
    (sym c.item-number.ensures ∙ one_less c.checked_sub.result c.item-number.result c.in_ok-j.j c.checked_sub.ensures c.in_ok-j.was)
    c.construct-there.result c.construct-there.ensures c.item.result c.item.ensures c.misfit.result c.misfit.ensures (sym c.is_some.ensures ∙ c.if-is_some.true)

pub returns : goal.returns
unfolding TriesIn
returns c =
    let s = c.args.self.now in
    let r = s.filled.reader in
    let x = s.filled.index in
    let y = s.filled.«data» in
    tries_so r.uuid.now r.volume x.store.now x.constructs.now c.args.k y.constructs.now s.generations.now s.beginnings.now x.reach.now y.reach.now
    c.construct-here.result (bounds_text x.store.now c.construct-here.result) c.brief_at.result c.construct-here.ensures refl c.brief_at.ensures
    c.in_ok-brief.brief c.in_ok-brief.was c.in_ok-place.place c.in_ok-place.was c.in_ok-j.j
    (sym c.item-number.ensures ∙ one_less c.checked_sub.result c.item-number.result c.in_ok-j.j c.checked_sub.ensures c.in_ok-j.was)
    c.construct-there.result c.construct-there.ensures c.item.result c.item.ensures c.misfit.result c.misfit.ensures (sym c.is_some.ensures ∙ c.if-is_some.false)
    _ refl refl refl refl refl
