-- The scan of a front of a tape against the scan of the whole tape: its constructs are the first of the tape, in order and apart.
use Rattle.std.specs.Prelude.{None, Option}
use mathlib.Core.Path.{◌≡◌, refl, sym, ap, subst, ◌∙◌}
use mathlib.Core.Logic.{◌⊎◌, inl, inr}
use mathlib.Core.Bool.{Bool, true, false, not, cond}
use mathlib.Core.List.{List, [], ◌∷◌}
use Prim.Native.Nat.{ℕ, zero, suc, ◌+◌, ◌≤◌, ◌<◌}
use native.Mathlib.Omega.{arith}
use lib.ListN.{length, take}
use lib.Dec.{ltb, eqb}
use Rattle.tape.specs.Tape.{Element, mark, block, unreadable}
use Rattle.constructs.specs.Constructs.{Construct, Run, labels, data_run, index_run, defect, past_label, with_bytes, run_after, closed_by, Scan, scan_step, scan, scan_start, standing, data_lengths_from}
use Rattle.constructs.specs.Steps.{Suffix, here, there}
use Rattle.constructs.proofs.Suffixes.{suffix_trans, nil_suffix}

-- an element closes nothing, or one construct that ends with it
abbrev pub Closes : ℕ → List Construct → List Construct → Type 0
Closes n cs cs' = (cs' ≡ cs) ⊎ ((c : Construct) × (cs' ≡ c ∷ cs) × (c.end ≡ suc n))

closes_if : (n : ℕ) (b : Bool) (c : Construct) (cs : List Construct) → c.end ≡ suc n → Closes n cs (cond b cs (c ∷ cs))
closes_if n true c cs h = inl refl
closes_if n false c cs h = inr (c, refl, h)

closes : (n : ℕ) (m : Run) (cs : List Construct) (e : Element) → Closes n cs (closed_by n m cs e)
unfolding closed_by
closes n (labels k) cs e = inl refl
closes n data_run cs e = inl refl
closes n (index_run f t s) cs mark = closes_if n (eqb f n) _ cs refl
closes n (index_run f t s) cs (block x) = inl refl
closes n (index_run f t s) cs unreadable = inl refl
closes n defect cs e = inl refl

closes_suffix : (n : ℕ) (cs cs' : List Construct) → Closes n cs cs' → Suffix cs cs'
closes_suffix n cs cs' (inl e) = here (sym e)
closes_suffix n cs cs' (inr r) = rw r.1 (there (here refl))

module _ (b : ℕ) where
  -- what a scan has closed it keeps
  pub grows : (s : Scan) (t : List Element) → Suffix s.done (scan b s t).done
  unfolding scan scan_step
  grows s [] = here refl
  grows s (e ∷ es) = suffix_trans (closes_suffix _ _ _ (closes s.at s.run s.done e)) (grows (scan_step b s e) es)

  pub front : (s : Scan) (n : ℕ) (t : List Element) → Suffix (scan b s (take n t)).done (scan b s t).done
  unfolding scan
  front s zero t = grows s t
  front s (suc n) [] = here refl
  front s (suc n) (e ∷ es) = front (scan_step b s e) n es

  -- each construct that a scan has closed is the last one of the front through it
  abbrev Reached : Scan → List Element → Construct → List Construct → Type 0
  Reached s t c cs = (k : ℕ) × (k ≤ length t) × (c.end ≡ s.at + k) × ((scan b s (take k t)).done ≡ c ∷ cs)

  reached : (s : Scan) (t : List Element) (c : Construct) (cs : List Construct)
      → Suffix (c ∷ cs) (scan b s t).done
      → Suffix (c ∷ cs) s.done ⊎ Reached s t c cs
  unfolding scan scan_step
  reached s [] c cs h = inl h
  reached s (e ∷ es) c cs h = from (reached (scan_step b s e) es c cs h)
    where
      new : (d : Construct) → (scan_step b s e).done ≡ d ∷ s.done → d.end ≡ suc s.at → Suffix (c ∷ cs) (d ∷ s.done)
          → Suffix (c ∷ cs) s.done ⊎ Reached s (e ∷ es) c cs
      new d q u (here p) = let z : c ≡ d = cc in inr (1, omega arith, omega (arith, ap (λ (x : Construct). x.end) z), q ∙ sym p)
      new d q u (there p) = inl p

      split : Closes s.at s.done (scan_step b s e).done → Suffix (c ∷ cs) (scan_step b s e).done
          → Suffix (c ∷ cs) s.done ⊎ Reached s (e ∷ es) c cs
      split (inl q) p = inl (rw q at p)
      split (inr r) p = new r.0 r.1 r.2 (rw r.1 at p)

      from : Suffix (c ∷ cs) (scan_step b s e).done ⊎ Reached (scan_step b s e) es c cs
          → Suffix (c ∷ cs) s.done ⊎ Reached s (e ∷ es) c cs
      from (inl p) = split (closes s.at s.run s.done e) p
      from (inr (k, l, u, q)) = inr (suc k, omega arith, omega arith, q)

  -- the constructs of a front are the first constructs of the tape
  pub standing_front : (n : ℕ) (t : List Element) → Suffix (standing b (take n t)) (standing b t)
  unfolding standing
  standing_front n t = front scan_start n t

  -- the front through a standing construct has that construct and those before it
  pub standing_at : (t : List Element) (c : Construct) (cs : List Construct) → Suffix (c ∷ cs) (standing b t)
      → (c.end ≤ length t) × (standing b (take c.end t) ≡ c ∷ cs)
  unfolding standing
  standing_at t c cs h = from (reached scan_start t c cs h)
    where
      from : Suffix (c ∷ cs) [] ⊎ Reached scan_start t c cs → (c.end ≤ length t) × ((scan b scan_start (take c.end t)).done ≡ c ∷ cs)
      from (inl p) = absurd (nil_suffix p)
      from (inr (k, l, u, q)) = let z : c.end ≡ k = omega arith in (omega arith, ap (λ (n : ℕ). (scan b scan_start (take n t)).done) z ∙ q)

  -- under four elements nothing stands
  pub standing_short : (t : List Element) → length t < 4 → standing b t ≡ []
  unfolding standing scan scan_step run_after closed_by past_label
  standing_short [] h = refl
  standing_short (e₀ ∷ []) h = refl
  standing_short (e₀ ∷ e₁ ∷ []) h = refl
  standing_short (e₀ ∷ e₁ ∷ e₂ ∷ []) h = refl
  standing_short (e₀ ∷ e₁ ∷ e₂ ∷ e₃ ∷ t) h = absurd (omega arith)

-- the data blocks of a front are those of the tape below its end
pub data_lengths_from_front : (n k : ℕ) (p : Bool) (t : List Element) → data_lengths_from k p (take n t) ≡ take n (data_lengths_from k p t)
unfolding data_lengths_from
data_lengths_from_front zero k p t = refl
data_lengths_from_front (suc n) k p [] = refl
data_lengths_from_front (suc n) (suc k) p (e ∷ es) = ap {B = List ℕ} (λ r. 0 ∷ r) (data_lengths_from_front n k p es)
data_lengths_from_front (suc n) zero p (mark ∷ es) = ap {B = List ℕ} (λ r. 0 ∷ r) (data_lengths_from_front n zero (not p) es)
data_lengths_from_front (suc n) zero true (block x ∷ es) = ap {B = List ℕ} (λ r. length x ∷ r) (data_lengths_from_front n zero true es)
data_lengths_from_front (suc n) zero false (block x ∷ es) = ap {B = List ℕ} (λ r. 0 ∷ r) (data_lengths_from_front n zero false es)
data_lengths_from_front (suc n) zero p (unreadable ∷ es) = ap {B = List ℕ} (λ r. 0 ∷ r) (data_lengths_from_front n zero p es)

-- constructs, the last one first, that stand apart from each other and below n
abbrev pub Below : ℕ → List Construct → Type 0
Below n [] = Unit {0}
Below n (c ∷ cs) = (c.end ≤ n) × (c.first < c.end) × Below c.first cs

below_le : (m n : ℕ) (cs : List Construct) → m ≤ n → Below m cs → Below n cs
below_le m n [] h w = tt
below_le m n (c ∷ cs) h w = (omega arith, w.1, w.2)

-- what holds of a scan
abbrev Sane : ℕ → Run → List Construct → Type 0
Sane n (labels k) cs = Below n cs
Sane n data_run cs = Below n cs
Sane n (index_run f t s) cs = (f ≤ n) × Below f cs
Sane n defect cs = Below n cs

sane_past_label : (n k : ℕ) (cs : List Construct) → Below n cs → Sane n (past_label k) cs
unfolding past_label
sane_past_label n zero cs w = w
sane_past_label n (suc k) cs w = w

sane_data : (n : ℕ) (b : Bool) (cs : List Construct) → Below n cs → Sane n (cond b defect data_run) cs
sane_data n true cs w = w
sane_data n false cs w = w

sane_mark : (n f : ℕ) (b : Bool) (t : Option (List ℕ)) (cs : List Construct) → eqb f n ≡ b → f ≤ n → Below f cs
    → Sane (suc n) (cond b defect data_run) (cond b cs (record { first = f; end = suc n; text = t } ∷ cs))
sane_mark n f true t cs e h w = below_le f (suc n) cs (omega arith) w
sane_mark n f false t cs e h w = (omega arith, omega arith, w)

sane_block : (n f : ℕ) (b₁ b₂ s : Bool) (t : Option (List ℕ)) (cs : List Construct) → f ≤ n → Below f cs
    → Sane (suc n) (cond b₁ defect (cond b₂ defect (index_run f t s))) cs
sane_block n f true b₂ s t cs h w = below_le f (suc n) cs (omega arith) w
sane_block n f false true s t cs h w = below_le f (suc n) cs (omega arith) w
sane_block n f false false s t cs h w = (omega arith, w)

sane_step : (b n : ℕ) (m : Run) (cs : List Construct) (e : Element) → Sane n m cs → Sane (suc n) (run_after b n m e) (closed_by n m cs e)
unfolding run_after closed_by
sane_step b n (labels k) cs e w = sane_past_label (suc n) k cs (below_le n (suc n) cs (omega arith) w)
sane_step b n data_run cs mark w = (omega arith, below_le n (suc n) cs (omega arith) w)
sane_step b n data_run cs (block x) w = sane_data (suc n) (ltb b (length x)) cs (below_le n (suc n) cs (omega arith) w)
sane_step b n data_run cs unreadable w = below_le n (suc n) cs (omega arith) w
sane_step b n (index_run f t s) cs mark w = sane_mark n f (eqb f n) t cs refl w.0 w.1
sane_step b n (index_run f t s) cs (block x) w = sane_block n f s (ltb b (length x)) (ltb (length x) b) (with_bytes t x) cs w.0 w.1
sane_step b n (index_run f t s) cs unreadable w = sane_block n f s false false None cs w.0 w.1
sane_step b n defect cs e w = below_le n (suc n) cs (omega arith) w

below_of : (n : ℕ) (m : Run) (cs : List Construct) → Sane n m cs → Below n cs
below_of n (labels k) cs w = w
below_of n data_run cs w = w
below_of n (index_run f t s) cs w = below_le f n cs w.0 w.1
below_of n defect cs w = w

sane_run : (b : ℕ) (s : Scan) (t : List Element) → Sane s.at s.run s.done
    → Below (scan b s t).at (scan b s t).done
unfolding scan scan_step
sane_run b s [] w = below_of s.at s.run s.done w
sane_run b s (e ∷ es) w = sane_run b (scan_step b s e) es (sane_step b s.at s.run s.done e w)

-- standing constructs are in order and apart
pub standing_below : (b : ℕ) (t : List Element) → Below (scan b scan_start t).at (standing b t)
unfolding standing
standing_below b t = sane_run b scan_start t tt

pub below_first : {n : ℕ} {c : Construct} {cs ds : List Construct} → Below n ds → Suffix (c ∷ cs) ds → c.first < n
below_first {ds = []} w h = absurd (nil_suffix h)
below_first {c} {ds = d ∷ ds} w (here e) = let z : c ≡ d = cc in omega (arith, ap (λ (x : Construct). x.first) z)
below_first {ds = d ∷ ds} w (there h) = omega (arith, below_first w.2 h)

pub below_suffix : {cs : List Construct} (n : ℕ) {ds : List Construct} → Suffix cs ds → Below n ds → Below n cs
below_suffix n (here e) w = subst (λ (l : List Construct). Below n l) (sym e) w
below_suffix {cs} n (there {y} {ys} h) w = below_le y.first n cs (omega arith) (below_suffix y.first h w.2)
