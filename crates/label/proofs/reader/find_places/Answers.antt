-- `find_places` meets its contract: three rows, two of them of children of the first.
use Rattle.std.proofs.Common.{◌≡◌, ℕ, List, false, subst, drop, arith}
use Rattle.std.specs.Prelude.{None}
use Rattle.slices.specs.Words.{bytes}
use Rattle.elements.specs.Tags.{Tags, tags_in}
use Rattle.elements.specs.TagSteps.{ChildrenFrom}
use Rattle.elements.specs.Reading.{children_at}
use Rattle.xml.specs.Tree.{Forest}
use Rattle.children.specs.RowSteps.{is_rule_mark, rules, longer, Seated, PlacedSeats, RowAt}
use Rattle.children.specs.Children.{lawful_children}
use Rattle.label.specs.Label.{of_root}
use Rattle.label.proofs.Shape.{no_root_row, no_location_row, no_partitions_row, shaped, found, standing}
use Rattle.label.proofs.reader.find_places.Goals as goal

-- the root's row, by its children
root_row : {s : List ℕ} {n j : ℕ} {a : List ℕ} → ChildrenFrom s n j → RowAt s j of_root 7 a → Seated s of_root 7 (children_at s n) a
root_row {s = s} {a = a} first r = subst (λ (f : Forest). Seated s of_root 7 f a) first.row r.row

pub returns-in_err-creator : goal.returns-in_err-creator
unfolding bytes rules longer is_rule_mark
returns-in_err-creator c =
    let r : c.from_residual.result ≡ None = grind arith in
    rw r (no_root_row _ (subst (λ (f : Forest). lawful_children of_root 7 f ≡ false) c.first_child.ensures.row c.in_err-creator.ensures))

pub returns-in_err-location : goal.returns-in_err-location
unfolding bytes rules longer is_rule_mark
returns-in_err-location c =
    let r : c.from_residual-in_err-location.result ≡ None = grind arith in
    rw r (no_location_row (root_row c.first_child.ensures c.in_ok-creator.ensures) c.first_child-2.ensures.row c.in_err-location.ensures)

pub returns-in_err-index_letter : goal.returns-in_err-index_letter
unfolding bytes rules longer is_rule_mark
returns-in_err-index_letter c =
    let r : c.from_residual-in_err-index_letter.result ≡ None = grind arith in
    rw r (no_partitions_row (root_row c.first_child.ensures c.in_ok-creator.ensures) c.first_child-2.ensures.row c.in_ok-location.ensures.row c.first_child-3.ensures.row c.in_err-index_letter.ensures)

pub returns : goal.returns
unfolding bytes rules longer is_rule_mark
returns c =
    let s = c.args.text.now in
    let a = c.in_ok-creator.field-0 in
    let A = root_row c.first_child.ensures c.in_ok-creator.ensures in
    let G : PlacedSeats s of_root (tags_in (drop c.args.n s)) a
    = subst (λ (g : Tags). PlacedSeats s of_root g a) c.first_child.ensures.tags c.in_ok-creator.ensures.places in
    let X = c.first_child-2.ensures.row in
    let P = c.in_ok-location.ensures.row in
    let Y = c.first_child-3.ensures.row in
    let Q = c.in_ok-index_letter.ensures.row in
    record { shaped = shaped A X P Y Q; texts = found A X P Y Q; places = standing A X P Y Q G }
