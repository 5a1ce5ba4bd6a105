-- A construct's text, where it has one, is the part of the store from its first block to its last, and not empty.
use Rattle.std.specs.Prelude.{None, Option, Some}
use mathlib.Core.Path.{◌≡◌, refl, sym, ◌∙◌, ap}
use mathlib.Core.Logic.{◌↔◌}
use mathlib.Core.Bool.{true, false, cond}
use mathlib.Core.List.{List, [], ◌∷◌, ◌++◌}
use Prim.Native.Nat.{ℕ, zero, suc, ◌+◌, ◌-◌, ◌*◌, ◌≤◌, ◌<◌}
use native.Mathlib.Omega.{arith}
use lib.Dec.{ltb, eqb}
use lib.ListN.{length, get_or, take, drop, length-append, length-take, get_or-append}
use lib.Seq.{take-add, drop-drop, take-append_seam, take-length, get_or-append-add, sets, sets-eq}
use borrow.Author.Tests.{eqb-false}
use Rattle.slices.proofs.Booleans.{split}
use Rattle.tape.specs.Tape.{Element, mark, block, unreadable, Tape, store, content, lawful_tape}
use Rattle.tape.specs.Answers.{bytes_before}
use Rattle.tape.proofs.Entries.{length_between}
use Rattle.tape.proofs.Elements.{next_of, lawful_at}
use Rattle.tape.proofs.Passing.{bytes_next, drop_store}
use Rattle.constructs.specs.Constructs.{Construct, Run, labels, data_run, index_run, defect, past_label, with_bytes, run_after, closed_by, scan_step, scan, standing}
use Rattle.constructs.specs.Tables.{is_holed, text_end, construct_entry, construct_entries}
use Rattle.constructs.specs.Steps.{Suffix, here, there}
use Rattle.constructs.proofs.Suffixes.{nil_suffix, suffix_length}
use Rattle.constructs.proofs.Scanning.{scanned, scanned_next, scanned_at, length_entries}

-- the bytes of the blocks from element a to element b, b not included
abbrev pub part : Tape → ℕ → ℕ → List ℕ
part t a b = take (bytes_before t b - bytes_before t a) (drop (bytes_before t a) (store t))

part_none : (t : Tape) (a : ℕ) → part t a a ≡ []
part_none t a = let e : bytes_before t a - bytes_before t a ≡ 0 = omega arith in rw e

grows : (t : Tape) (a b : ℕ) → a ≤ b → bytes_before t a ≤ bytes_before t b
unfolding store
grows t zero b h = omega arith
grows [] (suc a) b h = omega arith
grows (e ∷ t) (suc a) zero h = absurd (omega arith)
grows (e ∷ t) (suc a) (suc b) h =
    omega (arith, grows t a b (omega arith), length-append (content e) (store (take a t)), length-append (content e) (store (take b t)))

-- one element more
part_next : (t : Tape) (a n : ℕ) (e : Element) (rest : Tape) → a ≤ n → drop n t ≡ e ∷ rest → part t a (suc n) ≡ part t a n ++ content e
unfolding store
part_next t a n e rest h d =
    let A : ℕ = bytes_before t a in
    let N : ℕ = bytes_before t n in
    let g : bytes_before t a ≤ bytes_before t n = grows t a n h in
    let b : bytes_before t (suc n) ≡ bytes_before t n + length (content e) = bytes_next t n e rest d in
    let m : bytes_before t (suc n) - bytes_before t a ≡ (bytes_before t n - bytes_before t a) + length (content e) = omega arith in
    let s : bytes_before t a + (bytes_before t n - bytes_before t a) ≡ bytes_before t n = omega arith in
    rw (m, take-add (bytes_before t n - bytes_before t a) (length (content e)) (drop (bytes_before t a) (store t)))
    (ap (λ (x : List ℕ). part t a n ++ x)
    (ap (take (length (content e))) (drop-drop (bytes_before t n - bytes_before t a) (bytes_before t a) (store t) ∙ rw (s, drop_store t n, d))
    ∙ take-append_seam (content e) (store rest)))

-- the text of a run from element a to element b, b not included, if it has one: these bytes, and some if the run has elements
abbrev pub TextIs : Tape → ℕ → ℕ → Option (List ℕ) → Type 0
TextIs t a b None = Unit {0}
TextIs t a b (Some x) = (x ≡ part t a b) × (a < b → 0 < length x)

-- what holds of a scan of the first n elements
abbrev TextIn : Tape → ℕ → Run → Type 0
TextIn t n (labels k) = Unit {0}
TextIn t n data_run = Unit {0}
TextIn t n (index_run f x short) = (f ≤ n) × TextIs t f n x
TextIn t n defect = Unit {0}

-- of a construct, and of some
pub record TextOf (t : Tape) (c : Construct) : Type 0 where
  pub is : TextIs t c.first (c.end - 1) c.text
  pub blocks : c.first < c.end - 1

abbrev pub Texts : Tape → List Construct → Type 0
Texts t [] = Unit {0}
Texts t (c ∷ cs) = TextOf t c × Texts t cs

text_past : (t : Tape) (n k : ℕ) → TextIn t n (past_label k)
unfolding past_label
text_past t n zero = tt
text_past t n (suc k) = tt

module _ (B : ℕ) (t : Tape) (legal : lawful_tape t ≡ true) (n : ℕ) where
  text_more : (f : ℕ) (x : Option (List ℕ)) (y : List ℕ) (rest : Tape) → drop n t ≡ block y ∷ rest → f ≤ n → TextIs t f n x → TextIs t f (suc n) (with_bytes x y)
  unfolding content
  text_more f None y rest d h w = tt
  text_more f (Some x) y rest d h w =
      let (some_bytes, few) = length_between (length y) (lawful_at t n (block y) rest legal d) in
      (ap (λ (p : List ℕ). p ++ y) w.0 ∙ sym (part_next t f n (block y) rest h d), λ m. omega (arith, length-append x y))

  text_step : (r : Run) (e : Element) (rest : Tape) → drop n t ≡ e ∷ rest → TextIn t n r → TextIn t (suc n) (run_after B n r e)
  unfolding run_after
  text_step (labels k) e rest d w = text_past t (suc n) k
  text_step data_run mark rest d w = (omega arith, (sym (part_none t (suc n)), λ m. absurd (omega arith)))
  text_step data_run (block y) rest d w = split (λ b. TextIn t (suc n) (cond b defect data_run)) (ltb B (length y)) (λ u. tt) (λ u. tt)
  text_step data_run unreadable rest d w = tt
  text_step (index_run f x short) mark rest d w = split (λ b. TextIn t (suc n) (cond b defect data_run)) (eqb f n) (λ u. tt) (λ u. tt)
  text_step (index_run f x short) (block y) rest d w =
      split (λ b. TextIn t (suc n) (cond b defect (cond (ltb B (length y)) defect (index_run f (with_bytes x y) (ltb (length y) B))))) short (λ u. tt)
      (λ u. split (λ b. TextIn t (suc n) (cond b defect (index_run f (with_bytes x y) (ltb (length y) B)))) (ltb B (length y)) (λ z. tt)
      (λ z. (omega arith, text_more f x y rest d w.0 w.1)))
  text_step (index_run f x short) unreadable rest d w =
      split (λ b. TextIn t (suc n) (cond b defect (index_run f None false))) short (λ u. tt) (λ u. (omega arith, tt))
  text_step defect e rest d w = tt

  texts_step : (r : Run) (cs : List Construct) (e : Element) → TextIn t n r → Texts t cs → Texts t (closed_by n r cs e)
  unfolding closed_by
  texts_step (labels k) cs e w h = h
  texts_step data_run cs e w h = h
  texts_step (index_run f x short) cs mark w h =
      let z : suc n - 1 ≡ n = omega arith in
      split (λ b. eqb f n ≡ b → Texts t (cond b cs (record { first = f; end = suc n; text = x } ∷ cs))) (eqb f n) (λ u q. h)
      (λ u q. let other : f ≡ n → ⊥ = eqb-false f n q in (record { is = rw z w.1; blocks = omega arith }, h)) refl
  texts_step (index_run f x short) cs (block y) w h = h
  texts_step (index_run f x short) cs unreadable w h = h
  texts_step defect cs e w h = h

texts_scanned : (B : ℕ) (t : Tape) → lawful_tape t ≡ true → (n : ℕ) → n ≤ length t → TextIn t n (scanned B t n).run × Texts t (scanned B t n).done
unfolding scan scan_step
texts_scanned B t legal zero h = (tt, tt)
texts_scanned B t legal (suc n) h =
    let ih = texts_scanned B t legal n (omega arith) in
    let x = next_of t n (omega arith) in
    let s = scanned_next B t n x.0 x.1 x.2 in
    let a = scanned_at B t n x.0 x.1 x.2 in
    rw (s, a) (
      text_step B t legal n (scanned B t n).run x.0 x.1 x.2 ih.0,
      texts_step B t legal n (scanned B t n).run (scanned B t n).done x.0 ih.0 ih.1,
    )

-- each standing construct's text is a part of the store
pub texts_standing : (B : ℕ) (t : Tape) → lawful_tape t ≡ true → Texts t (standing B t)
unfolding standing
texts_standing B t legal = rw (take-length t) at (texts_scanned B t legal (length t) (omega arith)).1

pub text_at : {c : Construct} {cs ds : List Construct} (t : Tape) → Suffix (c ∷ cs) ds → Texts t ds → TextOf t c
text_at {c} {ds = []} t s w = absurd (nil_suffix s)
text_at {c} {ds = d ∷ ds} t (here q) w = let z : c ≡ d = cc in rw z w.0
text_at {c} {ds = d ∷ ds} t (there s) w = text_at t s w.1

-- a construct with a text begins and ends at different places
pub text_apart : (t : Tape) (a b : ℕ) (x : List ℕ) → TextIs t a b (Some x) → a < b → bytes_before t a < bytes_before t b
text_apart t a b x w h =
    let n = w.1 h in
    omega (arith, ap length w.0, length-take (bytes_before t b - bytes_before t a) (drop (bytes_before t a) (store t)))

-- the places in its row say whether a construct has a text
pub row_tells : (B : ℕ) (t : Tape) → lawful_tape t ≡ true → {c : Construct} {cs : List Construct} → Suffix (c ∷ cs) (standing B t)
    → (text_end (is_holed c.text) (bytes_before t c.first) (bytes_before t (c.end - 1)) ≡ bytes_before t c.first) ↔ (c.text ≡ None)
row_tells B t legal {c} suf = let w = text_at t suf (texts_standing B t legal) in go c.text w.is w.blocks
  where
    go : (o : Option (List ℕ)) → TextIs t c.first (c.end - 1) o → c.first < c.end - 1
        → (text_end (is_holed o) (bytes_before t c.first) (bytes_before t (c.end - 1)) ≡ bytes_before t c.first) ↔ (o ≡ None)
    go None w h = (λ e. refl, λ e. refl)
    go (Some x) w h = (
      λ e. absurd (omega (arith, text_apart t c.first (c.end - 1) x w h)),
      λ e. let z : ◌≡◌ {A = ℕ} 0 1 = cc in absurd (omega arith),
    )

-- a construct's numbers in the table
entries_at : {c : Construct} {cs ds : List Construct} (t : Tape) → Suffix (c ∷ cs) ds → (j : ℕ) → j < 4 → get_or (construct_entries t ds) (length cs * 4 + j) 0 ≡ get_or (construct_entry t c) j 0
unfolding construct_entries
entries_at {c} {cs} {ds = []} t s j h = absurd (nil_suffix s)
entries_at {c} {cs} {ds = d ∷ ds} t (here q) j h =
    let z : c ≡ d = cc in
    let y : cs ≡ ds = cc in
    let n : length (construct_entries t ds) ≡ length cs * 4 = length_entries t ds ∙ ap (λ (x : List Construct). length x * 4) (sym y) in
    ap (λ (k : ℕ). get_or (construct_entries t ds ++ construct_entry t d) (k + j) 0) (sym n) ∙ get_or-append-add (construct_entries t ds) (construct_entry t d) j 0
    ∙ ap (λ (x : Construct). get_or (construct_entry t x) j 0) (sym z)
entries_at {c} {cs} {ds = d ∷ ds} t (there s) j h =
    get_or-append (construct_entries t ds) (construct_entry t d) 0 (length cs * 4 + j) (omega (arith, length_entries t ds, suffix_length s)) ∙ entries_at t s j h

pub table_at : {c : Construct} {cs ds : List Construct} (t : Tape) (T : List ℕ) → length ds * 4 ≤ length T → Suffix (c ∷ cs) ds → (j : ℕ) → j < 4
    → get_or (sets T 0 (construct_entries t ds)) (length cs * 4 + j) 0 ≡ get_or (construct_entry t c) j 0
table_at {c} {cs} {ds} t T room s j h =
    let n : 0 + length (construct_entries t ds) ≤ length T = omega (arith, length_entries t ds) in
    ap (λ (l : List ℕ). get_or l (length cs * 4 + j) 0) (sets-eq (construct_entries t ds) T 0 n)
    ∙ get_or-append (construct_entries t ds) (drop (0 + length (construct_entries t ds)) T) 0 (length cs * 4 + j) (omega (arith, length_entries t ds, suffix_length s))
    ∙ entries_at t s j h
