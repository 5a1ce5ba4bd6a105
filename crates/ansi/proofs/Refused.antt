-- The reading refuses a tape at its first wrong place, with the number that the layout gives there, and a tape has one refusal at most.
use Rattle.std.specs.Prelude.{None, Option, Some, Err, Ok, slice_get}
use mathlib.Core.Path.{◌≡◌, refl, sym, ap, ◌∙◌}
use mathlib.Core.Bool.{Bool, true, false, cond, ◌&&◌, false≢true}
use mathlib.Core.List.{List, [], ◌∷◌, ◌++◌, append_assoc, append-nil}
use mathlib.Core.Logic.{◌⊎◌, inl, inr, ◌↔◌}
use Prim.Native.Nat.{ℕ, suc, ◌+◌, ◌-◌, ◌≤◌, ◌<◌}
use native.Mathlib.Omega.{arith}
use lib.Dec.{eqb, leb}
use lib.ListN.{length, take, drop, length-append}
use lib.Seq.{take-append_seam, take-add, take-length}
use borrow.Author.Tests.{le-leb}
use Rattle.refusals.specs.declared.Refusal.{Refusal}
use Rattle.refusals.specs.declared.Refusal.TheVariants.{Labels, EndOfVolume, BlockCount}
use Rattle.refusals.specs.Refusals.{Answer}
use Rattle.slices.specs.Slices.{every, same}
use Rattle.slices.specs.Words.{bytes}
use Rattle.slices.proofs.Booleans.{and_left, and_right, and_both}
use Rattle.slices.proofs.Equal.{same_eq, eq_same}
use Rattle.tape.specs.Tape.{Tape, Element, block, max_elements}
use Rattle.digits.specs.Decimal.{is_digit}
use Rattle.ansi_labels.specs.Labels.{label_part, is_label, is_trailer, block_count, is_data}
use Rattle.ansi.specs.Layout.{TapeFile, Layout}
use Rattle.ansi.specs.Places.{Begins, CouldStand, LongestFront, IsEndOfVolume, IsOtherCount, RefusalAt, Refuses, TapeMeans}
use Rattle.ansi.specs.ReadingSteps.{Stage, start, blocks, trailer, second, Step, go, found, stop, wrong, closing, at_mark, at_block, read_step, follow, read_run, ansi_of, passed_on, passed_from, front_of}
use Rattle.ansi_labels.proofs.Tests.{label_length, label_word, other_word}
use Rattle.ansi.proofs.Counts.{same_5_54, same_word, counted, counted_front, counted_back, counted_trailer, counted_count}
use Rattle.ansi.proofs.Live.{Live, ends, ends_second, closes, eof1, eof1_trailer, eof1_closes}
use Rattle.ansi.proofs.Form.{same_layout}
use Rattle.ansi.proofs.Stops.{AtTrailer, stops, EofAt, eof_at}
use Rattle.ansi.proofs.Fronts.{Reach, reach_length, reach_passed, answered, front_begins, next_begins, next_stops, Reason, Halt, halts}

-- the element behind a front
element_behind : (s : Tape) (e : Element) (t : Tape) → slice_get (s ++ (e ∷ t)) (length s) ≡ Some e
element_behind [] e t = refl
element_behind (x ∷ s) e t = element_behind s e t

nothing_behind : (s : Tape) → slice_get (s ++ []) (length s) ≡ None
nothing_behind [] = refl
nothing_behind (x ∷ s) = nothing_behind s

one_more : (s : Tape) (e : Element) (t : Tape) → take (suc (length s)) (s ++ (e ∷ t)) ≡ s ++ (e ∷ [])
one_more [] e t = refl
one_more (x ∷ s) e t = ap (λ (u : Tape). x ∷ u) (one_more s e t)

same_block : {x y : List ℕ} → ◌≡◌ {A = Option Element} (Some (block x)) (Some (block y)) → x ≡ y
same_block e = cc

-- a label can be data
label_data : (w x : List ℕ) → is_label w x ≡ true → is_data x ≡ true
unfolding is_data
label_data w x e =
    let l : length x ≡ 80 = label_length w x e in
    and_both (leb 18 (length x)) (leb (length x) 20480) (le-leb 18 (length x) (omega arith)) (le-leb (length x) 20480 (omega arith))

pub trailer_parts : (h x : List ℕ) → is_trailer h x ≡ true → (is_label (bytes "EOF1") x ≡ true) × (label_part 5 54 x ≡ label_part 5 54 h) × (label_part 61 80 x ≡ label_part 61 80 h) × (every is_digit (label_part 55 60 x) ≡ true)
unfolding is_trailer
trailer_parts h x e =
    let a = is_label (bytes "EOF1") x in
    let b = same (label_part 5 54 x) (label_part 5 54 h) in
    let c = same (label_part 61 80 x) (label_part 61 80 h) in
    let d = every is_digit (label_part 55 60 x) in
    let abc : (a && b && c) ≡ true = and_left (a && b && c) d e in
    let ab : (a && b) ≡ true = and_left (a && b) c abc in
    (and_left a b ab, same_eq (label_part 5 54 x) (label_part 5 54 h) (and_right a b ab), same_eq (label_part 61 80 x) (label_part 61 80 h) (and_right (a && b) c abc), and_right (a && b && c) d e)

parts_trailer : (h x : List ℕ) → is_label (bytes "EOF1") x ≡ true → label_part 5 54 x ≡ label_part 5 54 h → label_part 61 80 x ≡ label_part 61 80 h → every is_digit (label_part 55 60 x) ≡ true → is_trailer h x ≡ true
unfolding is_trailer
parts_trailer h x a b c d = rw (a, eq_same (label_part 5 54 x) (label_part 5 54 h) b, eq_same (label_part 61 80 x) (label_part 61 80 h) c, d)

go_not_wrong : (σ : Stage) → go σ ≡ wrong → ⊥
go_not_wrong σ e = let z : ◌≡◌ {A = ℕ} 0 1 = cc in omega arith

17_not_wrong : stop EndOfVolume ≡ wrong → ⊥
17_not_wrong e = let z : ◌≡◌ {A = ℕ} 0 1 = cc in omega arith

18_not_wrong : stop BlockCount ≡ wrong → ⊥
18_not_wrong e = let z : ◌≡◌ {A = ℕ} 0 1 = cc in omega arith

not_trailer : (h x : List ℕ) → is_label (bytes "EOV1") x ≡ true → is_trailer h x ≡ false
unfolding is_trailer bytes
not_trailer h x e = rw (other_word (bytes "EOV1") (bytes "EOF1") x e refl refl)

closing_eov : (h : List ℕ) (m : ℕ) (x : List ℕ) → is_label (bytes "EOV1") x ≡ true → closing h m x ≡ stop EndOfVolume
unfolding closing
closing_eov h m x e = rw (not_trailer h x e, e)

closing_eof : (h : List ℕ) (m : ℕ) (x : List ℕ) → is_trailer h x ≡ true → closing h m x ≡ wrong → ⊥
unfolding closing
closing_eof h m x e q = by (eqb (block_count x) m) (rw e at q)
  where
    by : (b : Bool) → cond b (go second) (stop BlockCount) ≡ wrong → ⊥
    by true z = go_not_wrong second z
    by false z = 18_not_wrong z

-- where a block y with the word EOF1 can stand, a label EOV1 is data or 17
not_16_eov : (n : ℕ) (x y : List ℕ) {τ : Stage} → is_label (bytes "EOV1") x ≡ true → EofAt y τ → read_step n τ (block x) ≡ wrong → ⊥
unfolding read_step at_mark at_block
not_16_eov n x y e (EofAt.in_data h m) q = go_not_wrong (blocks h (suc m)) (rw (label_data (bytes "EOV1") x e) at q)
not_16_eov n x y e (EofAt.in_place h m f) q = 17_not_wrong (sym (closing_eov h m x e) ∙ q)

-- and a label EOF1 that differs in its digits alone is data or 18
not_16_eof : (n : ℕ) (x y : List ℕ) {τ : Stage} → is_label (bytes "EOF1") x ≡ true → every is_digit (label_part 55 60 x) ≡ true
    → label_part 1 54 y ≡ label_part 1 54 x → label_part 61 80 y ≡ label_part 61 80 x → EofAt y τ → read_step n τ (block x) ≡ wrong → ⊥
unfolding read_step at_mark at_block
not_16_eof n x y e d f b (EofAt.in_data h m) q = go_not_wrong (blocks h (suc m)) (rw (label_data (bytes "EOF1") x e) at q)
not_16_eof n x y e d f b (EofAt.in_place h m g) q =
    let p = trailer_parts h y g in
    let l : label_part 5 54 x ≡ label_part 5 54 y = same_5_54 x y (label_length (bytes "EOF1") x e) (label_length (bytes "EOF1") y p.0) (sym f) in
    closing_eof h m x (parts_trailer h x e (l ∙ p.1) (sym b ∙ p.2) d) q

module _ (front : Tape) (m : ℕ) (τ : Stage) (fs : List TapeFile) (reach : Reach front 0 start m τ fs) (live : Live m τ) (small : m < 1000000) where
  -- a block that could stand here doesn't stop the reading
  could_go : (t : Tape) (x : List ℕ) → CouldStand (front ++ t) (length front) x → (r : Refusal) → read_step m τ (block x) ≡ stop r → ⊥
  could_go t x c r q = next_stops front m τ fs reach (block x) r q (rw (take-append_seam front t) at c)

  go_could : (t : Tape) (x : List ℕ) → read_step m τ (block x) ≡ go second → CouldStand (front ++ t) (length front) x
  go_could t x q = rw (take-append_seam front t) (next_begins front m τ fs reach (block x) second q (ends_second (suc m)))

  -- 16 is given where neither 17 nor 18 is
  no_17 : (e : Element) (t : Tape) → read_step m τ e ≡ wrong → IsEndOfVolume (front ++ (e ∷ t)) (length front) → ⊥
  unfolding bytes
  no_17 e t q c =
      let z : e ≡ block c.label = cc (element_behind front e t) in
      not_16_eov m c.label c.other c.eov1
      (eof_at c.other (label_word (bytes "EOF1") c.other c.eof1) m τ live (could_go (e ∷ t) c.other c.could))
      (rw z at q)

  no_18 : (e : Element) (t : Tape) → read_step m τ e ≡ wrong → IsOtherCount (front ++ (e ∷ t)) (length front) → ⊥
  unfolding bytes
  no_18 e t q c =
      let z : e ≡ block c.label = cc (element_behind front e t) in
      let w : take 4 c.other ≡ bytes "EOF1" = same_word c.other c.label c.front ∙ label_word (bytes "EOF1") c.label c.eof1 in
      not_16_eof m c.label c.other c.eof1 c.digits c.front c.back
      (eof_at c.other w m τ live (could_go (e ∷ t) c.other c.could))
      (rw z at q)

  labels_here : (e : Element) (t : Tape) → read_step m τ e ≡ wrong → RefusalAt (front ++ (e ∷ t)) (length front) Labels
  labels_here e t q = RefusalAt.labels (no_17 e t q) (no_18 e t q)

  labels_at_end : RefusalAt (front ++ []) (length front) Labels
  labels_at_end =
      RefusalAt.labels (λ c. no c.label (sym (nothing_behind front) ∙ c.is)) (λ c. no c.label (sym (nothing_behind front) ∙ c.is))
    where
      no : (x : List ℕ) → ◌≡◌ {A = Option Element} None (Some (block x)) → ⊥
      no x e = let z : ◌≡◌ {A = ℕ} 0 1 = cc in omega arith

-- 17 and 18 are given behind the data blocks
module _ (front : Tape) (m : ℕ) (fs : List TapeFile) (small : m < 1000000) where
  trailer_here : {τ : Stage} (e : Element) (t : Tape) (r : Refusal) → Reach front 0 start m τ fs → Live m τ → AtTrailer τ e r → RefusalAt (front ++ (e ∷ t)) (length front) r
  unfolding read_step at_mark at_block
  trailer_here e t r reach live (AtTrailer.volume_ends h k x f) =
      let s : k < 1000000 = omega arith in
      RefusalAt.end_of_volume record {
        label = x;
        is = element_behind front (block x) t;
        eov1 = f;
        other = eof1 h k;
        eof1 = (trailer_parts h (eof1 h k) (eof1_trailer h k live.0 s)).0;
        could = go_could front m (trailer h k) fs reach live small (block x ∷ t) (eof1 h k) (eof1_closes h k live.0 s);
      }
  trailer_here e t r reach live (AtTrailer.counts_differ h k x f) =
      let p = trailer_parts h x f in
      let l : length x ≡ 80 = label_length (bytes "EOF1") x p.0 in
      let s : k < 1000000 = omega arith in
      RefusalAt.block_count record {
        label = x;
        is = element_behind front (block x) t;
        eof1 = p.0;
        digits = p.3;
        other = counted k x;
        front = counted_front k x l;
        back = counted_back k x l;
        could = go_could front m (trailer h k) fs reach live small (block x ∷ t) (counted k x)
            (closes h k (counted k x) (counted_trailer h k x s p.0 p.1 p.2) (counted_count h k x s l));
      }

  reason_here : (τ : Stage) (back : Tape) (r : Refusal) → Reach front 0 start m τ fs → Live m τ → Reason m τ r back → RefusalAt (front ++ back) (length front) r
  reason_here τ [] r reach live (Reason.ends q) = rw q (labels_at_end front m τ fs reach live small)
  reason_here τ (e ∷ t) r reach live (Reason.stops q) = by (stops m τ e r q)
    where
      by : (r ≡ Labels) ⊎ AtTrailer τ e r → RefusalAt (front ++ (e ∷ t)) (length front) r
      by (inl z) = rw z (labels_here front m τ fs reach live small e t (q ∙ ap stop z))
      by (inr y) = trailer_here e t r reach live y

  -- nothing goes on from there
  last_place : (τ : Stage) (back : Tape) (r : Refusal) → Reach front 0 start m τ fs → Reason m τ r back
      → length front < length (front ++ back) → Begins (take (suc (length front)) (front ++ back)) → ⊥
  last_place τ [] r reach (Reason.ends q) g b = omega (arith, length-append front [])
  last_place τ (e ∷ t) r reach (Reason.stops q) g b = next_stops front m τ fs reach e r q (rw (one_more front e t) at b)

not_laid_out : (t : Tape) (r : Refusal) → ansi_of t ≡ Err r → (fs : List TapeFile) → Layout t fs → ⊥
not_laid_out t r e fs l =
    let z : ansi_of t ≡ Ok fs = (same_layout t fs).1 l in
    let w : ◌≡◌ {A = ℕ} 0 1 = cc in
    omega arith

module _ (t : Tape) (r : Refusal) (small : length t ≤ max_elements) (h : Halt t 0 start r) where
  halt_number : h.number ≡ length h.front
  halt_number = reach_length h.reach ∙ omega arith

  halt_length : length t ≡ length h.front + length h.back
  halt_length = ap length h.is ∙ length-append h.front h.back

  halt_small : h.number < 1000000
  halt_small = omega (arith, halt_number, halt_length)

  halt_front : LongestFront t (length h.front)
  halt_front =
      record {
        inside = omega (arith, halt_length);
        begins = rw (h.is, take-append_seam h.front h.back) (front_begins h.front h.number h.state h.files h.reach (ends h.number h.state halt_small h.live));
        longest = rw h.is (last_place h.front h.number h.files halt_small h.state h.back r h.reach h.reason);
      }

  refused_at : ansi_of t ≡ Err r → Refuses t r
  refused_at e =
      record {
        not_laid_out = not_laid_out t r e;
        place = length h.front;
        front = halt_front;
        reason = rw h.is (reason_here h.front h.number h.files halt_small h.state h.back r h.reach h.live h.reason);
      }

  -- the reading passes the elements before it
  halt_place : front_of t ≡ length h.front
  unfolding front_of passed_from passed_on
  halt_place =
      ap (λ (u : Tape). passed_from u 0 start) h.is ∙ reach_passed h.back h.reach ∙ by h.reason ∙ halt_number
    where
      by : {m : ℕ} {τ : Stage} {u : Tape} → Reason m τ r u → passed_from u m τ ≡ m
      by (Reason.ends q) = refl
      by (Reason.stops q) = rw q

-- a front of what begins a layout begins one
begins_front : (t : Tape) (n m : ℕ) → n ≤ m → Begins (take m t) → Begins (take n t)
begins_front t n m h (rest, fs, l) =
    let z : n + (m - n) ≡ m = omega arith in
    let e : take m t ≡ take n t ++ take (m - n) (drop n t) = ap (λ (k : ℕ). take k t) (sym z) ∙ take-add n (m - n) t in
    (take (m - n) (drop n t) ++ rest, fs, rw append_assoc at (rw e at l))

not_before : (t : Tape) (n m : ℕ) → LongestFront t n → LongestFront t m → n < m → ⊥
not_before t n m f g h = f.longest (omega (arith, g.inside)) (begins_front t (suc n) m h g.begins)

-- a tape has one longest front
pub one_place : (t : Tape) (n m : ℕ) → LongestFront t n → LongestFront t m → n ≡ m
one_place t n m f g =
    let a : n < m → ⊥ = not_before t n m f g in
    let b : m < n → ⊥ = not_before t m n g f in
    omega arith

not_both : (t : Tape) (n : ℕ) → IsEndOfVolume t n → IsOtherCount t n → ⊥
unfolding bytes
not_both t n a b =
    let z : b.label ≡ a.label = same_block (sym b.is ∙ a.is) in
    let e : is_label (bytes "EOF1") a.label ≡ true = rw z at b.eof1 in
    false≢true (sym (other_word (bytes "EOF1") (bytes "EOV1") a.label e refl refl) ∙ a.eov1)

one_reason : (t : Tape) (n : ℕ) {r q : Refusal} → RefusalAt t n r → RefusalAt t n q → r ≡ q
one_reason t n (RefusalAt.end_of_volume a) (RefusalAt.end_of_volume b) = refl
one_reason t n (RefusalAt.end_of_volume a) (RefusalAt.block_count b) = absurd (not_both t n a b)
one_reason t n (RefusalAt.end_of_volume a) (RefusalAt.labels b c) = absurd (b a)
one_reason t n (RefusalAt.block_count a) (RefusalAt.end_of_volume b) = absurd (not_both t n b a)
one_reason t n (RefusalAt.block_count a) (RefusalAt.block_count b) = refl
one_reason t n (RefusalAt.block_count a) (RefusalAt.labels b c) = absurd (c a)
one_reason t n (RefusalAt.labels a b) (RefusalAt.end_of_volume c) = absurd (a c)
one_reason t n (RefusalAt.labels a b) (RefusalAt.block_count c) = absurd (b c)
one_reason t n (RefusalAt.labels a b) (RefusalAt.labels c d) = refl

-- a tape has one refusal at most
pub one_refusal : (t : Tape) (r q : Refusal) → Refuses t r → Refuses t q → r ≡ q
one_refusal t r q f g = one_reason t f.place f.reason (rw (one_place t g.place f.place g.front f.front) at g.reason)

halted : (t : Tape) (r : Refusal) → ansi_of t ≡ Err r → Halt t 0 start r
unfolding ansi_of
halted t r e = halts t 0 start r tt e

refuses : (t : Tape) (r : Refusal) → length t ≤ max_elements → ansi_of t ≡ Err r → Refuses t r
refuses t r b e = refused_at t r b (halted t r e) e

-- the reading refuses a tape exactly where the layout does, with the same number
pub same_refusal : (t : Tape) (r : Refusal) → length t ≤ max_elements → (ansi_of t ≡ Err r) ↔ Refuses t r
same_refusal t r b = (refuses t r b, λ f. by f (ansi_of t) refl)
  where
    by : Refuses t r → (a : Answer (List TapeFile)) → ansi_of t ≡ a → a ≡ Err r
    by f (Err q) e = ap (λ (p : Refusal). Err p) (one_refusal t q r (refuses t q b e) f)
    by f (Ok fs) e = absurd (f.not_laid_out fs ((same_layout t fs).0 e))

-- what is read is what the tape means, and a tape has one meaning
pub means : (t : Tape) → length t ≤ max_elements → TapeMeans t (ansi_of t)
means t b = by (ansi_of t) refl
  where
    by : (a : Answer (List TapeFile)) → ansi_of t ≡ a → TapeMeans t a
    by (Err r) e = TapeMeans.refuses (refuses t r b e)
    by (Ok fs) e = TapeMeans.laid_out ((same_layout t fs).0 e)

pub one_meaning : (t : Tape) (a : Answer (List TapeFile)) → length t ≤ max_elements → TapeMeans t a → ansi_of t ≡ a
one_meaning t a b (TapeMeans.laid_out {fs} l) = (same_layout t fs).1 l
one_meaning t a b (TapeMeans.refuses {r} f) = (same_refusal t r b).1 f

-- a tape that is read to its end is its own longest front
run_passed : (t : Tape) (n : ℕ) (σ : Stage) (fs : List TapeFile) → read_run t n σ ≡ Ok fs → passed_from t n σ ≡ n + length t
unfolding read_run follow passed_from passed_on
run_passed [] n σ fs e = omega arith
run_passed (x ∷ t) n σ fs e = by (read_step n σ x) (run_passed t (suc n)) e
  where
    by : (s : Step) → ((τ : Stage) (gs : List TapeFile) → read_run t (suc n) τ ≡ Ok gs → passed_from t (suc n) τ ≡ suc n + length t) → follow (read_run t (suc n)) s ≡ Ok fs
        → passed_on n (passed_from t (suc n)) s ≡ n + suc (length t)
    by (go τ) k f = k τ fs f ∙ omega arith
    by (found g τ) k f = let (gs, q) = answered (g ∷ []) (read_run t (suc n) τ) fs f in k τ gs q ∙ omega arith
    by (stop r) k f = let z : ◌≡◌ {A = ℕ} 0 1 = cc in absurd (omega arith)

whole_front : (t : Tape) (fs : List TapeFile) → Layout t fs → LongestFront t (length t)
whole_front t fs l =
    record {
      inside = omega arith;
      begins = ([], fs, rw (take-length t, append-nil t) l);
      longest = λ h. absurd (omega arith);
    }

-- the place is behind the longest front that begins a layout
pub longest_front : (t : Tape) → length t ≤ max_elements → LongestFront t (front_of t)
unfolding ansi_of front_of
longest_front t b = by (ansi_of t) refl
  where
    all : (fs : List TapeFile) → ansi_of t ≡ Ok fs → front_of t ≡ length t
    all fs e = run_passed t 0 start fs e ∙ omega arith

    by : (a : Answer (List TapeFile)) → ansi_of t ≡ a → LongestFront t (front_of t)
    by (Err r) e = let h = halted t r e in rw (halt_place t r b h) (halt_front t r b h)
    by (Ok fs) e = rw (all fs e) (whole_front t fs ((same_layout t fs).0 e))
