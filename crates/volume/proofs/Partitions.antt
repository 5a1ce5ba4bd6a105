-- What the tables of a partition hold.
use Rattle.std.specs.Prelude.{None, Option, Result, Some, Err, Ok}
use mathlib.Core.Path.{◌≡◌, refl, sym, ap, subst, ◌∙◌}
use mathlib.Core.Bool.{Bool, true, false}
use mathlib.Core.List.{List, [], ◌∷◌, ◌++◌}
use Prim.Native.Nat.{ℕ, ◌+◌, ◌-◌, ◌*◌, ◌≤◌, ◌<◌}
use native.Mathlib.Omega.{arith}
use borrow.Author.Tests.{lt-leb, le-leb, ne_eqb}
use lib.Dec.{leb, eqb}
use lib.ListN.{length, get_or, take, drop}
use Rattle.refusals.specs.declared.Refusal.{Refusal}
use Rattle.refusals.specs.declared.Refusal.TheVariants.{Short}
use Rattle.refusals.specs.Refusals.{Answer, require, and_then}
use Rattle.std.specs.Result.{result_unwrap_or}
use Rattle.tape.specs.Tape.{Tape, Encodes, max_elements}
use Rattle.tape.specs.Answers.{tape_in, bytes_before, or_refused}
use Rattle.tape.proofs.Encoding.{read_encoded}
use Rattle.tape.proofs.Passing.{bytes_within}
use Rattle.constructs.specs.Constructs.{Construct, standing, data_lengths}
use Rattle.constructs.specs.Tables.{is_holed, text_end, table_after}
use Rattle.constructs.specs.TableSteps.{table_length, bounds_in, ScansPartition}
use Rattle.constructs.specs.ReachSteps.{reaches, Reaches, reach_after}
use Rattle.constructs.specs.declared.Bounds.{Bounds}
use Rattle.constructs.specs.Steps.{Suffix, here}
use Rattle.constructs.proofs.Suffixes.{suffix_length, suffix_trans}
use Rattle.constructs.proofs.Scanning.{standing_few}
use Rattle.constructs.proofs.Texts.{table_at, TextIs, text_at, texts_standing, text_apart}
use Rattle.constructs.proofs.Fronts.{Below, below_first}
use Rattle.verdict.specs.Verdict.{ends_with}
use Rattle.verdict.specs.Rescue.{through}
use Rattle.volume.specs.Chosen.{text_bytes}
use Rattle.volume.specs.Steps.{bounds_text, bounds_of, Located, Listed, ListsOf, ReachesOf, EndsAt}
use Rattle.volume.specs.Readers.{TablesOf, FillsOf}
use Rattle.volume.specs.declared.filling.Tables.{Tables}
use Rattle.volume.specs.ChosenSteps.{TextAt}

same_answer : {A : Type 0} (a b : A) → ◌≡◌ {A = Answer A} (Ok a) (Ok b) → a ≡ b
same_answer a b e = cc

-- a list and a store that encode a tape are read as it
pub tape_read : {l s : List ℕ} {t : Tape} → Encodes l s t → tape_in l s ≡ Ok t
tape_read e = ap or_refused (read_encoded e)

text_bytes_lem : (s : List ℕ) (p : Bounds) (o : Option (List ℕ)) → TextAt s p o → bounds_text s p ≡ text_bytes o
text_bytes_lem s p None w = let z : p.to - p.from ≡ 0 = omega (arith, w) in rw z
text_bytes_lem s p (Some x) w = w.0.part

module _ (B : ℕ) (l s : List ℕ) (t : Tape) (e : Encodes l s t) where
  few : length (standing B t) ≤ 21845
  few = omega (arith, standing_few B t, e.elements)

  -- a construct's four numbers
  pub spot_of_lem : (T : List ℕ) → length T ≡ 87380 → (c : Construct) (cs : List Construct) → Suffix (c ∷ cs) (standing B t)
      → bounds_in (table_after B T (Ok t)) (length cs)
      ≡ bounds_of t c
  spot_of_lem T n c cs suf =
      let k : length cs < 21845 = omega (arith, suffix_length suf, few) in
      let at = table_at t T (omega (arith, few)) suf in
      let z : length cs * 4 ≡ length cs * 4 + 0 = omega arith in
      let a : get_or (table_after B T (Ok t)) (length cs * 4) 0 ≡ c.first = ap (λ (x : ℕ). get_or (table_after B T (Ok t)) x 0) z ∙ at 0 (omega arith) in
      rw (lt-leb 21845 (length cs) k, a, at 1 (omega arith), at 2 (omega arith), at 3 (omega arith))

  text_from : (first end : ℕ) (o : Option (List ℕ)) → TextIs t first (end - 1) o → first < end - 1
      → TextAt s
      (record { first = record { 0 = first }; end = end; from = bytes_before t first; to = text_end (is_holed o) (bytes_before t first) (bytes_before t (end - 1)) })
      o
  text_from first end None w h = refl
  text_from first end (Some x) w h = (
    record {
      part = ap (λ (y : List ℕ). take (bytes_before t (end - 1) - bytes_before t first) (drop (bytes_before t first) y)) e.stores ∙ sym w.0;
      inside = omega (arith, bytes_within t first, bytes_within t (end - 1), ap length e.stores);
    },
    text_apart t first (end - 1) x w h,
  )

  -- its text lies there in the store
  pub spot_text : (c : Construct) (cs : List Construct) → Suffix (c ∷ cs) (standing B t) → TextAt s (bounds_of t c) c.text
  spot_text c cs suf = let w = text_at t suf (texts_standing B t e.blocks) in text_from c.first c.end c.text w.is w.blocks

  listed : (T : List ℕ) → length T ≡ 87380 → Listed s (table_after B T (Ok t)) (standing B t)
  listed T n c cs suf =
      subst (λ (q : Bounds). Located s q c) (sym (spot_of_lem T n c cs suf))
      (record { first = refl; end = refl; text = text_bytes_lem s (bounds_of t c) c.text (spot_text c cs suf) })

-- a scan for constructs that answers n
pub lists_of : (B : ℕ) (l s before after : List ℕ) (r : Result ℕ Refusal) (n : ℕ) → ScansPartition B l s before after r → r ≡ Ok n → ListsOf B l s before after n
lists_of B l s before after r n w q t e room =
    let a = tape_read e in
    let b : Ok n ≡ and_then (tape_in l s) (λ u. Ok (length (standing B u))) = sym q ∙ w.answers in
    let f : after ≡ table_after B before (Ok t) = w.holds ∙ ap (table_after B before) a in (
      same_answer n (length (standing B t)) (b ∙ ap (λ (x : Answer Tape). and_then x (λ u. Ok (length (standing B u)))) a),
      subst (λ (x : List ℕ). Listed s x (standing B t)) (sym f) (listed B l s t e before room),
    )

-- a scan that is refused, of lists that are well formed, is none
pub lists_refused : (B : ℕ) (l s before after : List ℕ) (r : Result ℕ Refusal) (n : ℕ) (q : Refusal) → ScansPartition B l s before after r → r ≡ Err q → ListsOf B l s before after n
lists_refused B l s before after r n q w h t e room =
    let a = tape_read e in
    let b : Err q ≡ Ok (length (standing B t)) = sym h ∙ w.answers ∙ ap (λ (x : Answer Tape). and_then x (λ u. Ok (length (standing B u)))) a in
    let z : ◌≡◌ {A = ℕ} 0 1 = cc in
    absurd (omega arith)

-- so a count of them, 0 where the scan is refused
pub lists_filled : (B : ℕ) (l s before after : List ℕ) (r : Answer ℕ) (n : ℕ) → ScansPartition B l s before after r → n ≡ result_unwrap_or r 0 → ListsOf B l s before after n
lists_filled B l s before after (Ok k) n w h = lists_of B l s before after (Ok k) n w (ap Ok (sym h))
lists_filled B l s before after (Err q) n w h = lists_refused B l s before after (Err q) n q w refl

abbrev reach_count : List ℕ → Answer Tape → Answer ℕ
reach_count before x = and_then x (λ u. require (leb (length u) (length before)) Short (Ok (length u)))

module _ (B : ℕ) (l s before after : List ℕ) (r : Result ℕ Refusal) (w : Reaches B l s before after r) where
  reach_fits : (t : Tape) → Encodes l s t → length before ≡ 65536 → r ≡ Ok (length t)
  reach_fits t e room =
      let h : leb (length t) (length before) ≡ true = le-leb (length t) (length before) (omega (arith, e.elements)) in
      w.answers ∙ ap (reach_count before) (tape_read e) ∙ rw h

  pub reaches_of : (n : ℕ) → r ≡ Ok n → ReachesOf B l s before after n
  reaches_of n q t e room =
      let h : leb (length t) (length before) ≡ true = le-leb (length t) (length before) (omega (arith, e.elements)) in
      let f : after ≡ reaches B (data_lengths t) ++ drop (length t) before = w.holds ∙ ap (reach_after B before) (tape_read e) ∙ rw h in
      (same_answer n (length t) (sym q ∙ reach_fits t e room), record { rest = drop (length t) before; holds = f })

  pub reaches_refused : (n : ℕ) (x : Refusal) → r ≡ Err x → ReachesOf B l s before after n
  reaches_refused n x q t e room =
      let b : Err x ≡ Ok (length t) = sym q ∙ reach_fits t e room in
      let z : ◌≡◌ {A = ℕ} 0 1 = cc in
      absurd (omega arith)

  pub reaches_filled : (n : ℕ) → n ≡ result_unwrap_or r 0 → ReachesOf B l s before after n
  reaches_filled n h = go r refl
    where
      go : (a : Answer ℕ) → r ≡ a → ReachesOf B l s before after n
      go (Ok k) e = reaches_of n (e ∙ ap Ok (sym (h ∙ ap (λ (x : Answer ℕ). result_unwrap_or x 0) e)))
      go (Err q) e = reaches_refused n q e

-- whether the last construct of a table ends with the last element
pub ends_none : (table : List ℕ) (n count : ℕ) → n ≡ 0 → EndsAt table n count false
ends_none table n count z = record { ends = go }
  where
    go : (s : List ℕ) (t : Tape) (ds : List Construct) → Listed s table ds → n ≡ length ds → count ≡ length t → false ≡ ends_with t ds
    go s t [] l e f = refl
    go s t (c ∷ cs) l e f = absurd (omega arith)

pub ends_last : (table : List ℕ) (n count : ℕ) (p : Bounds) (b : Bool) → (n ≡ 0 → ⊥) → p ≡ bounds_in table (n - 1) → b ≡ eqb p.end count → EndsAt table n count b
ends_last table n count p b z at q = record { ends = go }
  where
    go : (s : List ℕ) (t : Tape) (ds : List Construct) → Listed s table ds → n ≡ length ds → count ≡ length t → b ≡ ends_with t ds
    go s t [] l e f = absurd (z e)
    go s t (c ∷ cs) l e f =
        let m : n - 1 ≡ length cs = omega arith in
        let w = l c cs (here refl) in
        let h : p.end ≡ c.end = ap (λ (x : Bounds). x.end) (at ∙ ap (bounds_in table) m) ∙ w.end in
        q ∙ ap (λ (x : ℕ). eqb x count) h ∙ ap (eqb c.end) f

-- both tables filled
pub fills_of : (B : ℕ) (l s before empty : List ℕ) (x : Tables) → x.store.now ≡ s → ListsOf B l s before x.constructs.now x.count
    → ReachesOf B l s empty x.reach.now x.elements → FillsOf B l s before empty x
fills_of B l s before empty x same y z = record { store = same; filled = go }
  where
    go : (t : Tape) → Encodes l s t → length before ≡ table_length → length empty ≡ max_elements → TablesOf B t x
    go t e h k =
        let p = y t e h in
        let q = z t e k in
        record {
          tables = record { number = p.0; listed = subst (λ (w : List ℕ). Listed w x.constructs.now (standing B t)) (sym same) p.1; reaches = q.1 };
          elements = q.0;
        }

-- no construct of a partition begins past its end
pub through_past : (n k : ℕ) (ds : List Construct) → Below n ds → n ≤ k → through k ds ≡ []
unfolding through
through_past n k [] w h = refl
through_past n k (d ∷ ds) w h =
    let f : d.first < n = below_first {ds = d ∷ ds} w (here refl) in
    rw (ne_eqb d.first k (λ q. omega arith)) (through_past d.first k ds w.2 (omega arith))

-- a table of some constructs is one of the first of them
pub listed_suffix : (s table : List ℕ) (cs ds : List Construct) → Suffix cs ds → Listed s table ds → Listed s table cs
listed_suffix s table cs ds h l c bs suf = l c bs (suffix_trans suf h)
