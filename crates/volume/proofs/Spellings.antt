-- A volume whichever way its UUID is spelled (02, Item 3): an index by its construct's number reads the same, and so does every index of
-- the volume, whichever of the two agreeing labels gives the UUID.
use Rattle.std.specs.Prelude.{Option, Ok}
use mathlib.Core.Path.{◌≡◌, ap, ◌∙◌, fun_ext}
use mathlib.Core.Bool.{Bool, true}
use mathlib.Core.List.{List}
use Prim.Native.Nat.{ℕ}
use Rattle.refusals.specs.Refusals.{Answer, require, and_then, or_refuse}
use Rattle.refusals.specs.declared.Refusal.TheVariants.{Caller, Unreadable}
use Rattle.tape.specs.Tape.{Tape}
use Rattle.tape.specs.Answers.{tape_in, bytes_before}
use Rattle.constructs.specs.Constructs.{Construct, standing}
use Rattle.values.specs.Values.{same_uuid}
use Rattle.index_values.specs.Tests.{Given}
use Rattle.index.specs.Index.{Summary, summary_of, caller_right}
use Rattle.index.proofs.Spellings.{caller_respelled, index_respelled}
use Rattle.label.specs.Label.{Label}
use Rattle.label.specs.Agreement.{agree}
use Rattle.label.proofs.Agreed.{agreed_common}
use Rattle.verdict.specs.Verdict.{IndexLinks}
use Rattle.volume.specs.Volume.{soundly, volume_with, given_by}
use Rattle.volume.specs.Chosen.{Indexed, construct_at, read_at, chosen_in}

module _ (u w : List ℕ) (e : same_uuid u w ≡ true) (index_letter data_letter block_size : ℕ) where
  abbrev with_uuid : List ℕ → Given
  with_uuid x = record { uuid = x; index_letter = index_letter; data_letter = data_letter; block_size = block_size }

  volume_respelled : volume_with (with_uuid u) ≡ volume_with (with_uuid w)
  volume_respelled =
      ap (λ (r : ℕ → ℕ → List ℕ → Option IndexLinks). record { size = block_size; index_letter = index_letter; data_letter = data_letter; read = r })
      (fun_ext (λ (letter : ℕ). fun_ext (λ (block : ℕ). fun_ext (λ (text : List ℕ). ap soundly (index_respelled u w e index_letter data_letter block_size letter block text)))))

  read_respelled : (letter : ℕ) (t : Tape) → read_at (with_uuid u) letter t ≡ read_at (with_uuid w) letter t
  read_respelled letter t =
      fun_ext (λ (c : Construct).
      ap
      (λ (read : List ℕ → Answer Summary).
      or_refuse c.text Unreadable (λ x.
      and_then (read x) (λ y. Ok (record { first = c.first; end = c.end; from = bytes_before t c.first; text = x; summary = y }))))
      (fun_ext (λ (x : List ℕ). ap summary_of (index_respelled u w e index_letter data_letter block_size letter c.first x))))

  pub chosen_respelled : (letter k : ℕ) (l s : List ℕ) → chosen_in (with_uuid u) letter k l s ≡ chosen_in (with_uuid w) letter k l s
  unfolding chosen_in
  chosen_respelled letter k l s =
      ap (λ (c : Bool). require c Caller (and_then (tape_in l s) (λ t. and_then (construct_at k (standing block_size t)) (read_at (with_uuid u) letter t))))
      (caller_respelled u w e index_letter data_letter block_size letter)
      ∙ ap (λ (read : Tape → Construct → Answer Indexed). require (caller_right (with_uuid w) letter) Caller (and_then (tape_in l s) (λ t. and_then (construct_at k (standing block_size t)) (read t))))
      (fun_ext (λ (t : Tape). read_respelled letter t))

-- the volume that agreeing labels give is the same, whichever of them gives it: so are its verdict and its rescue
pub either_label : (v w : List ℕ) (f g : Label) → agree v f w g ≡ true → volume_with (given_by f) ≡ volume_with (given_by g)
either_label v w f g e =
    let c = agreed_common v w f g e in
    volume_respelled f.uuid g.uuid c.uuid f.index_letter f.data_letter f.block_size
    ∙ ap (λ (l : ℕ). volume_with (record { uuid = g.uuid; index_letter = l; data_letter = f.data_letter; block_size = f.block_size })) c.index_letter
    ∙ ap (λ (l : ℕ). volume_with (record { uuid = g.uuid; index_letter = g.index_letter; data_letter = l; block_size = f.block_size })) c.data_letter
    ∙ ap (λ (b : ℕ). volume_with (record { uuid = g.uuid; index_letter = g.index_letter; data_letter = g.data_letter; block_size = b })) c.block_size
