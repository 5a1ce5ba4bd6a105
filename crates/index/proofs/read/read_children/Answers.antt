-- `read_children` meets its contract: what the survey refuses, then the place.
use mathlib.Core.Path.{ap, sym, ◌∙◌}
use native.Mathlib.Omega.{arith}
use Rattle.std.proofs.lemmas.Result.{err_from_is_err_and}
use Rattle.xml.specs.Tree.{Forest}
use Rattle.elements.specs.Tags.{tags_at}
use Rattle.elements.specs.Reading.{forest_at}
use Rattle.index_names.specs.declared.Sort.TheVariants.{Index as index}
use Rattle.index_values.specs.Elements.{elements}
use Rattle.index.specs.Index.{stands_at, location_of}
use Rattle.index.proofs.Surveying.{files_few}
use Rattle.index.proofs.Answers.{into_refused, reads_children}
use Rattle.index_values.proofs.Seated.{location_placed}
use Rattle.index.proofs.read.read_children.Goals as goal

pub returns-in_err-found : goal.returns-in_err-found
returns-in_err-found c =
    let p = err_from_is_err_and c.from_residual.result c.from_residual.ensures.1 in
    rw (p.1, p.2) (into_refused (c.in_err-found.ensures {u = tt} c.args.place.letter c.args.place.block.0 c.args.release))

pub returns-then-not-is_place : goal.returns-then-not-is_place
returns-then-not-is_place c =
    let a = c.args in
    let s = a.source.text.now in
    let k = forest_at s a.at in
    let found = c.in_ok-found.ensures {u = tt} in
    let here = c.row_at.ensures.0 ∙ sym (location_placed s k c.in_ok-found.found.places found.places) in
    let stands = ap (λ (f : Forest). stands_at a.place.letter a.place.block.0 (location_of f)) (sym here) ∙ sym c.is_place.ensures ∙ c.if-not-is_place.true in
    into_refused (found.counted.sound a.place.letter a.place.block.0 a.release ∙ rw stands)

pub head_from-requires : goal.head_from-requires
head_from-requires c =
    let found = c.in_ok-found.ensures {u = tt} in
    omega (arith, files_few (elements index (forest_at c.args.source.text.now c.args.at)), found.counted.entries, found.counted.files)

pub returns : goal.returns
returns c =
    let a = c.args in
    let s = a.source.text.now in
    let k = forest_at s a.at in
    let found = c.in_ok-found.ensures {u = tt} in
    let here = c.row_at.ensures.0 ∙ sym (location_placed s k c.in_ok-found.found.places found.places) in
    let stands = ap (λ (f : Forest). stands_at a.place.letter a.place.block.0 (location_of f)) (sym here) ∙ sym c.is_place.ensures ∙ c.if-not-is_place.false in
    record {
      reads =
          reads_children a.release k (tags_at s a.at) c.in_ok-found.found c.head_from.ensures found.places found.tags found.counted.entries found.counted.files found.counted.rows
          (found.counted.sound a.place.letter a.place.block.0 a.release ∙ rw stands);
      tables = found.tables;
    }
