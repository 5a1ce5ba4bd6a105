-- The index of a construct by its number.
use Rattle.std.specs.Prelude.{None, Option, Result, Some, Err, Ok}
use mathlib.Core.Path.{◌≡◌, refl, sym, ap, subst, ◌∙◌}
use mathlib.Core.Bool.{true, false}
use mathlib.Core.List.{List, [], ◌∷◌}
use Prim.Native.Nat.{ℕ, ◌≤◌, ◌<◌}
use native.Mathlib.Omega.{arith}
use borrow.Author.Tests.{eq-eqb, ne_eqb}
use lib.ListN.{length}
use Rattle.refusals.specs.declared.Refusal.{Refusal}
use Rattle.refusals.specs.declared.Refusal.TheVariants.{Caller, Missing, Unreadable}
use Rattle.refusals.specs.Refusals.{Answer, require, and_then, or_refuse}
use Rattle.tape.specs.Tape.{Tape}
use Rattle.tape.specs.Answers.{tape_in, bytes_before}
use Rattle.tape.proofs.Encoding.{Bytes}
use Rattle.constructs.specs.Constructs.{Construct, standing}
use Rattle.constructs.specs.Tables.{table_after}
use Rattle.constructs.specs.TableSteps.{bounds_in, ScansPartition}
use Rattle.constructs.specs.declared.Bounds.{Bounds}
use Rattle.constructs.specs.Steps.{Suffix, here, there}
use Rattle.constructs.proofs.Suffixes.{suffix_length, nil_suffix}
use Rattle.index.specs.Index.{Summary, summary_of, caller_right, index_of}
use Rattle.index.specs.Places.{update_time_place}
use Rattle.index.specs.Steps.{summary_in, Definite, ReadsIndex}
use Rattle.index_values.specs.Tests.{Given}
use Rattle.index.specs.declared.read.Header.{Header}
use Rattle.verdict.specs.Steps.{firsts}
use Rattle.volume.specs.Steps.{bounds_text, bounds_of}
use Rattle.volume.specs.Chosen.{Indexed, construct_at, read_at, chosen_in}
use Rattle.volume.specs.ChosenSteps.{Chooses, TextAt, ReadsPlace}
use Rattle.volume.specs.declared.chosen.FoundIndex.{FoundIndex}
use Rattle.volume.proofs.Chaining.{next_first, firsts_length}
use Rattle.volume.proofs.Partitions.{lists_of, spot_of_lem, spot_text}
use Rattle.volume.proofs.Answering.{read_tape}

at_missing : (k : ℕ) (ds : List Construct) → length ds ≤ k → construct_at k ds ≡ Err Missing
unfolding construct_at
at_missing k [] h = refl
at_missing k (c ∷ cs) h = rw (ne_eqb (length cs) k (λ e. omega arith)) (at_missing k cs (omega arith))

at_suffix : (k : ℕ) {c : Construct} {cs ds : List Construct} → Suffix (c ∷ cs) ds → length cs ≡ k → construct_at k ds ≡ Ok c
unfolding construct_at
at_suffix k {c} {cs} {ds = []} s n = absurd (nil_suffix s)
at_suffix k {c} {cs} {ds = d ∷ ds} (here q) n =
    let z : c ≡ d = cc in
    let y : cs ≡ ds = cc in
    rw (eq-eqb (length ds) k (ap length (sym y) ∙ n), ← z)
at_suffix k {c} {cs} {ds = d ∷ ds} (there s) n = rw (ne_eqb (length ds) k (λ e. omega (arith, suffix_length s))) (at_suffix k s n)

-- what is read of a construct by its text
abbrev read_from : Given → ℕ → Tape → Construct → Option (List ℕ) → Answer Indexed
read_from g letter t c o =
    or_refuse o Unreadable (λ x.
    and_then (summary_of (index_of g letter c.first x)) (λ y. Ok (record { first = c.first; end = c.end; from = bytes_before t c.first; text = x; summary = y })))

-- a construct whose spot is empty has an unreadable block
pub place_unreadable : (g : Given) (letter : ℕ) (s : List ℕ) (p : Bounds) → p.from ≡ p.to → ReadsPlace g letter s p (Err Unreadable)
place_unreadable g letter s p same t c at lies = go c.text lies
  where
    go : (o : Option (List ℕ)) → TextAt s p o → Chooses s (read_from g letter t c o) (Err Unreadable)
    go None w = record { answers = refl; inside = tt }
    go (Some x) w = let apart = w.1 in absurd (omega arith)

module _ (g : Given) (letter : ℕ) (s : List ℕ) (p : Bounds) (x : List ℕ) (is_text : x ≡ bounds_text s p) (apart : p.from ≡ p.to → ⊥) where
  index_at : (t : Tape) (c : Construct) (z : List ℕ) → p ≡ bounds_of t c → bounds_text s p ≡ z → index_of g letter p.first.0 x ≡ index_of g letter c.first z
  index_at t c z at e = ap (λ (n : ℕ). index_of g letter n x) (ap (λ (q : Bounds). q.first.0) at) ∙ ap (index_of g letter c.first) (is_text ∙ e)

  pub place_found : (h : Header) → ReadsIndex x (index_of g letter p.first.0 x) (Ok h) → ReadsPlace g letter s p (Ok (record { place = p; header = h }))
  place_found h w t c at lies = go c.text lies
    where
      same : {first end from : ℕ} {text z : List ℕ} → first ≡ c.first → end ≡ c.end → text ≡ z → from ≡ bytes_before t c.first
          → and_then (summary_of (index_of g letter c.first z)) (λ y. Ok (record { first = first; end = end; from = from; text = text; summary = y })) ≡ read_from g letter t c (Some z)
      same a b d e = rw (a, b, d, e)

      go : (o : Option (List ℕ)) → TextAt s p o → Chooses s (read_from g letter t c o) (Ok (record { place = p; header = h }))
      go None lies = absurd (apart lies)
      go (Some z) lies =
          let q : Ok (summary_in (bounds_text s p) h) ≡ summary_of (index_of g letter c.first z)
          = ap (λ (y : List ℕ). Ok (summary_in y h)) (sym is_text) ∙ w.answers ∙ ap summary_of (index_at t c z at lies.0.part) in
          let at_first : p.first.0 ≡ c.first = ap (λ (q : Bounds). q.first.0) at in
          let at_end : p.end ≡ c.end = ap (λ (q : Bounds). q.end) at in
          let at_from : p.from ≡ bytes_before t c.first = ap (λ (q : Bounds). q.from) at in
          record {
            answers =
                ap
                (λ (a : Answer Summary).
                and_then a (λ y. Ok (record { first = p.first.0; end = p.end; from = p.from; text = bounds_text s p; summary = y })))
                q
                ∙ same at_first at_end lies.0.part at_from;
            inside = record { text = lies.0.inside; header = subst (λ (y : List ℕ). Definite y (update_time_place y) h) is_text w.header };
          }

  pub place_refused : (r : Refusal) → ReadsIndex x (index_of g letter p.first.0 x) (Err r) → ReadsPlace g letter s p (Err r)
  place_refused r w t c at lies = go c.text lies
    where
      go : (o : Option (List ℕ)) → TextAt s p o → Chooses s (read_from g letter t c o) (Err r)
      go None lies = absurd (apart lies)
      go (Some z) lies =
          record {
            answers =
                ap
                (λ (a : Answer Summary). and_then a (λ y. Ok (record { first = c.first; end = c.end; from = bytes_before t c.first; text = z; summary = y })))
                (w.answers ∙ ap summary_of (index_at t c z at lies.0.part));
            inside = tt;
          }

module _ (g : Given) (letter k : ℕ) (l s : List ℕ) where
  pub chosen_caller : caller_right g letter ≡ false → Chooses s (chosen_in g letter k l s) (Err Caller)
  unfolding chosen_in
  chosen_caller e = record { answers = rw e; inside = tt }

  module _ (right : caller_right g letter ≡ true) (before after : List ℕ) (sc : Result ℕ Refusal) (w : ScansPartition g.block_size l s before after sc) where
    pub chosen_list : (r : Refusal) → sc ≡ Err r → Chooses s (chosen_in g letter k l s) (Err r)
    unfolding chosen_in
    chosen_list r e = record { answers = go (tape_in l s) (sym e ∙ w.answers); inside = tt }
      where
        go : (a : Answer Tape) → Err r ≡ and_then a (λ t. Ok (length (standing g.block_size t)))
            → Err r ≡ require (caller_right g letter) Caller (and_then a (λ t. and_then (construct_at k (standing g.block_size t)) (read_at g letter t)))
        go (Err q) x = let z : r ≡ q = cc in rw (right, z)
        go (Ok t) x = let z : ◌≡◌ {A = ℕ} 0 1 = cc in absurd (omega arith)

    tape_of : (n : ℕ) → sc ≡ Ok n → (t : Tape) × (tape_in l s ≡ Ok t)
    tape_of n e = go (tape_in l s) refl (sym e ∙ w.answers)
      where
        go : (a : Answer Tape) → tape_in l s ≡ a → Ok n ≡ and_then a (λ t. Ok (length (standing g.block_size t))) → (t : Tape) × (tape_in l s ≡ Ok t)
        go (Err q) y x = let z : ◌≡◌ {A = ℕ} 0 1 = cc in absurd (omega arith)
        go (Ok t) y x = (t, y)

    module _ (bytes : Bytes l) (room : length before ≡ 87380) (n : ℕ) (e : sc ≡ Ok n) where
      pub chosen_missing : n ≤ k → Chooses s (chosen_in g letter k l s) (Err Missing)
      unfolding chosen_in
      chosen_missing h =
          let t = tape_of n e in
          let a = lists_of g.block_size l s before after sc n w e t.0 (read_tape l s t.0 bytes t.1) room in
          record { answers = rw (right, t.1, at_missing k (standing g.block_size t.0) (omega (arith, a.0))); inside = tt }

      pub chosen_found : k < n → (p : Bounds) → p ≡ bounds_in after k → (r : Answer FoundIndex) → ReadsPlace g letter s p r → Chooses s (chosen_in g letter k l s) r
      unfolding chosen_in
      chosen_found h p at r d =
          let t = tape_of n e in
          let en = read_tape l s t.0 bytes t.1 in
          let a = lists_of g.block_size l s before after sc n w e t.0 en room in
          let x = next_first (standing g.block_size t.0) k (omega (arith, a.0)) in
          let m = firsts_length (standing g.block_size t.0) k (omega (arith, a.0)) in
          let table : after ≡ table_after g.block_size before (Ok t.0) = w.holds ∙ ap (table_after g.block_size before) t.1 in
          let q : p ≡ bounds_of t.0 x.0
          = at ∙ ap (bounds_in after) (sym m) ∙ ap (λ (y : List ℕ). bounds_in y (length (firsts k (standing g.block_size t.0)))) table
          ∙ spot_of_lem g.block_size l s t.0 en before room x.0 (firsts k (standing g.block_size t.0)) x.2 in
          let lies : TextAt s p x.0.text
          = subst (λ (y : Bounds). TextAt s y x.0.text) (sym q) (spot_text g.block_size l s t.0 en x.0 (firsts k (standing g.block_size t.0)) x.2) in
          subst (λ (y : Answer Indexed). Chooses s y r) (sym (rw (right, t.1, at_suffix k x.2 m))) (d t.0 x.0 q lies)
