-- `read_tag` meets its contract: the root's name and attribute, its version, then its children.
use mathlib.Core.Path.{ap, sym, ◌∙◌, subst}
use Prim.Native.Nat.{◌≤◌}
use Rattle.std.proofs.Common.{arith}
use Rattle.std.specs.Prelude.{◌≡◌, Err, ℕ, Result, Some}
use Rattle.refusals.specs.declared.Refusal.{Refusal}
use Rattle.refusals.specs.declared.Refusal.TheVariants.{Version}
use Rattle.std.proofs.lemmas.Result.{err_from_is_err_and}
use Rattle.slices.specs.Words.{bytes}
use Rattle.xml.specs.FormSteps.{height}
use Rattle.xml.specs.Tree.{Forest}
use Rattle.elements.specs.Reading.{head_at, children_at}
use Rattle.values.specs.Values as values
use Rattle.index.specs.Index.{children_read}
use Rattle.index.specs.Steps.{asked}
use Rattle.index.proofs.Answers.{into_refused, same_into, same_tags, root_refused, root_version, root_read_lem}
use Rattle.index.proofs.read.read_tag.Goals as goal

pub returns-then-not-is_root : goal.returns-then-not-is_root
unfolding bytes
returns-then-not-is_root c =
    let a = c.args in
    let s = a.source.text.now in
    into_refused (root_refused (asked a.source) a.place.letter a.place.block.0 (head_at s a.n) (children_at s a.n) (sym c.is_root.ensures ∙ c.if-not-is_root.true))

pub returns-in_err-release : goal.returns-in_err-release
unfolding bytes
returns-in_err-release c =
    let a = c.args in
    let s = a.source.text.now in
    let p = err_from_is_err_and c.from_residual.result c.from_residual.ensures.1 in
    let h = c.in_err-release.ensures {u = tt} in
    let q : ◌≡◌ {A = Result ℕ Refusal} (Err c.in_err-release.field-0.0) (Err Version) = rw h.ok_part at h.value in
    let e : c.in_err-release.field-0.0 ≡ Version = cc in
    rw (p.1, p.2, e)
    (into_refused (root_version (asked a.source) a.place.letter a.place.block.0 (head_at s a.n) (children_at s a.n) (sym c.is_root.ensures ∙ c.if-not-is_root.false) (ap values.version (sym c.value_of.ensures) ∙ sym c.read_version.ensures ∙ h.ok_part)))

pub read_children-requires : goal.read_children-requires
read_children-requires c = (c.first_child-at.ensures.inside, subst (λ (k : Forest). height k ≤ 64) (sym c.first_child-at.ensures.row) c.requires)

pub returns : goal.returns
unfolding bytes
returns c =
    let a = c.args in
    let s = a.source.text.now in
    let g = asked a.source in
    let release = c.in_ok-release.release in
    let said : c.read_version.result ≡ Some release = grind arith in
    same_tags c.first_child-at.ensures.tags (same_into c.read_children.ensures
    (ap (λ (k : Forest). children_read g a.place.letter a.place.block.0 release k) c.first_child-at.ensures.row
    ∙ root_read_lem g a.place.letter a.place.block.0 (head_at s a.n) (children_at s a.n) (sym c.is_root.ensures ∙ c.if-not-is_root.false) release (ap values.version (sym c.value_of.ensures) ∙ sym c.read_version.ensures ∙ said)))
