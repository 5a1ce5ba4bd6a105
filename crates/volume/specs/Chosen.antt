-- The index of a partition by its construct's number (01, Refusal numbers; 02, Item 7: 14, 1, 2, 19, then its text).
use Rattle.std.specs.Prelude.{cond, List, [], ◌∷◌, ℕ, eqb, length, None, Option, Some, Err, Ok}
use Rattle.refusals.specs.declared.Refusal.TheVariants.{Caller, Missing, Unreadable}
use Rattle.refusals.specs.Refusals.{Answer, require, and_then, or_refuse}
use Rattle.tape.specs.Tape.{Tape}
use Rattle.tape.specs.Answers.{tape_in, bytes_before}
use Rattle.constructs.specs.Constructs.{Construct, standing}
use Rattle.index.specs.Index.{Summary, summary_of, caller_right, index_of}
use Rattle.index_values.specs.Tests.{Given}

-- the construct with a number: they are listed the last one first, the first of all has number 0
unfoldable pub construct_at : ℕ → List Construct → Answer Construct
construct_at k [] = Err Missing
construct_at k (c ∷ cs) = cond (eqb (length cs) k) (Ok c) (construct_at k cs)

-- the bytes that are read as a construct's text
abbrev pub text_bytes : Option (List ℕ) → List ℕ
text_bytes None = []
text_bytes (Some x) = x

abbrev pub text_found : Answer Construct → List ℕ
text_found (Err r) = []
text_found (Ok c) = text_bytes c.text

-- where the one with number k of a partition is asked for
unfoldable pub text_asked : ℕ → ℕ → List ℕ → List ℕ → List ℕ
text_asked B k l s = text_found (and_then (tape_in l s) (λ t. construct_at k (standing B t)))

-- a construct that has a text, where that begins in the store, and the summary of its index
pub record Indexed : Type 0 where
  pub first : ℕ
  pub end : ℕ
  pub from : ℕ
  pub text : List ℕ
  pub summary : Summary

-- 19 without a text
abbrev pub read_at : Given → ℕ → Tape → Construct → Answer Indexed
read_at g letter t c =
    or_refuse c.text Unreadable (λ x.
    and_then (summary_of (index_of g letter c.first x)) (λ y.
    Ok (record { first = c.first; end = c.end; from = bytes_before t c.first; text = x; summary = y })))

unfoldable pub chosen_in : Given → ℕ → ℕ → List ℕ → List ℕ → Answer Indexed
chosen_in g letter k l s =
    require (caller_right g letter) Caller
    (and_then (tape_in l s) (λ t. and_then (construct_at k (standing g.block_size t)) (read_at g letter t)))
