-- `head_from` meets its contract: part by part, each by the place of its element.
use mathlib.Core.Path.{refl, ap, sym, ◌∙◌}
use mathlib.Core.List.{List}
use Prim.Native.Nat.{ℕ}
use native.Mathlib.Omega.{arith}
use Rattle.values.specs.Values as values
use Rattle.index_values.specs.Entries.{number_or_zero}
use Rattle.index.specs.Index.{is_true, location_of, back_at}
use Rattle.index.proofs.Answers.{same_heading}
use Rattle.index_values.proofs.Seated.{generation_placed, updatetime_placed, updatetime_stands, location_placed, allow_placed, highest_placed, back_placed}
use Rattle.index.proofs.read.head_from.Goals as goal

pub overflow_sub-result : goal.overflow_sub-result
overflow_sub-result c = omega (arith, c.requires)

pub returns : goal.returns
returns c =
    record {
      heading = λ k p e f o.
          let s = c.args.text.now in
          let t = c.args.found.now.places in
          let here = c.row_at.ensures.0 ∙ sym (location_placed s k t p) in
          let back = c.row_at-2.ensures.0 ∙ sym (back_placed s k t p) in
          same_heading c.args.release k c.args.found.now.entries c.args.found.now.files c.args.found.now.rows c.number_placed.result c.number_placed-2.result _ _ _ _ c.is_true.result
          e f o
          (c.number_placed.ensures ∙ ap number_or_zero (sym (generation_placed s k t p)))
          (c.span_at.ensures.spans.part ∙ sym (updatetime_placed s k t p))
          (c.location_at.ensures ∙ ap location_of here)
          (c.back_at.ensures ∙ ap back_at back)
          (c.is_true.ensures ∙ ap (λ (x : List ℕ). is_true (values.boolean x)) (c.text_at.ensures ∙ sym (allow_placed s k t p)))
          (c.number_placed-2.ensures ∙ ap number_or_zero (sym (highest_placed s k t p))) refl;
      definite = λ f q.
          record {
            time = c.span_at.ensures.place ∙ sym (updatetime_stands c.args.text.now f c.args.found.now.places q);
            inside = c.span_at.ensures.spans.inside;
          };
    }
