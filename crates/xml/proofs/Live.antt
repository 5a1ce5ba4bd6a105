-- The places that a reading comes to: the stack is not empty where an element is open. From each of them a text can be ended.
use mathlib.Core.Path.{◌≡◌, refl, ◌∙◌}
use mathlib.Core.Bool.{Bool, true, false, cond, ◌||◌, ◌&&◌}
use mathlib.Core.List.{List, [], ◌∷◌, ◌++◌}
use Prim.Native.Nat.{ℕ, zero, suc, ◌-◌, ◌≤◌}
use native.Mathlib.Omega.{arith}
use native.Mathlib.Bridge.{le_by_compare, IsLe}
use borrow.Author.Tests.{eq-eqb, le-ltb}
use lib.Dec.{eqb, ltb, leb, eqb-suc-zero}
use lib.ListN.{length}
use Rattle.xml.specs.Bytes.{is_space, is_ascii_letter, is_name_byte}
use Rattle.xml.proofs.Runs.{run_to, run_word}
use Rattle.xml.specs.CheckSteps.{Mode, word, before, root, name, tag, key, keyed, equals, value, valued, slash, content, opens, closed, after, amp, amp_a, more, lead239, Held, blank, words, children, State, stop, at, reads, char, in_text, inside_element, tag_end, outside, leave, innermost, without_text, form_step, good, ended, form_run}
use Rattle.slices.specs.Words.{bytes}

abbrev pub Some : List (List ℕ) → Type 0
Some [] = ⊥
Some (n ∷ ns) = Unit {0}

abbrev pub Left : List ℕ → Type 0
Left [] = ⊥
Left (c ∷ w) = Unit {0}

-- the counter of `]`
abbrev pub Counts : Held → Type 0
Counts blank = Unit {0}
Counts (words n) = n ≤ 2
Counts children = Unit {0}

abbrev pub Live : Mode → List (List ℕ) → Type 0
Live (word p w) ns = Left w × Live p ns
Live before ns = Unit {0}
Live root ns = Unit {0}
Live (name w) ns = Unit {0}
Live tag ns = Some ns
Live key ns = Some ns
Live keyed ns = Some ns
Live equals ns = Some ns
Live (value q) ns = Some ns
Live valued ns = Some ns
Live slash ns = Some ns
Live (content h) ns = Some ns × Counts h
Live (opens o) ns = Some ns
Live closed ns = Some ns
Live after ns = Unit {0}
Live (amp p) ns = Live p ns
Live (amp_a p) ns = Live p ns
Live (more p lo hi n) ns = (lo ≤ hi) × Live p ns
Live (lead239 p) ns = Live p ns

pub data LiveAt : State → Type 0 where
  halt : LiveAt stop
  live : {p : Mode} {ns : List (List ℕ)} → Live p ns → LiveAt (at p ns)

wlive : {p : Mode} {c : ℕ} {w : List ℕ} {ns : List (List ℕ)} → Live p ns → LiveAt (at (word p (c ∷ w)) ns)
wlive {p} {c} {w} l = live {p = word p (c ∷ w)} (tt, l)

clive : {h : Held} {ns : List (List ℕ)} → Some ns → Counts h → LiveAt (at (content h) ns)
clive {h} l k = live {p = content h} (l, k)

mlive : {p : Mode} {lo hi n : ℕ} {ns : List (List ℕ)} → lo ≤ hi → Live p ns → LiveAt (at (more p lo hi n) ns)
mlive {p} {lo} {hi} {n} h l = live {p = more p lo hi n} (h, l)

both : (t : Bool) {x y : State} → LiveAt x → LiveAt y → LiveAt (cond t x y)
both true a b = a
both false a b = b

reads_live : (p : Mode) (w : List ℕ) (ns : List (List ℕ)) → Live p ns → LiveAt (at (reads p w) ns)
unfolding reads
reads_live p [] ns l = live l
reads_live p (c ∷ w) ns l = wlive l

char_live : (p : Mode) (ns : List (List ℕ)) (b : ℕ) → Live p ns → LiveAt (char p ns b)
unfolding char IsLe
char_live p ns b l =
    both (ltb b 128) (both (eqb b 38) (live l) (both (leb 32 b || is_space b) (live l) halt)) (both (ltb b 194) halt (both (ltb b 224) (mlive (le_by_compare 128 191 tt) (l)) (both (ltb b 225) (mlive (le_by_compare 160 191 tt) (l))
    (both (ltb b 237) (mlive (le_by_compare 128 191 tt) (l)) (both (ltb b 238) (mlive (le_by_compare 128 159 tt) (l)) (both (ltb b 239) (mlive (le_by_compare 128 191 tt) (l)) (both (ltb b 240) (live l)
    (both (ltb b 241) (mlive (le_by_compare 144 191 tt) (l)) (both (ltb b 244) (mlive (le_by_compare 128 191 tt) (l)) (both (ltb b 245) (mlive (le_by_compare 128 143 tt) (l)) halt))))))))))

text_live : (n : ℕ) (ns : List (List ℕ)) (b : ℕ) → Some ns → LiveAt (in_text n ns b)
unfolding in_text
text_live n ns b l = both (eqb b 93) (clive l (omega arith)) (both (eqb b 62 && eqb n 2) halt (char_live (content (words 0)) ns b (l, omega arith)))

inside_live : (h : Held) (ns : List (List ℕ)) (b : ℕ) → Some ns → LiveAt (inside_element h ns b)
unfolding inside_element
inside_live blank ns b l = both (is_space b) (clive l tt) (text_live 0 ns b l)
inside_live (words n) ns b l = text_live n ns b l
inside_live children ns b l = both (is_space b) (clive l tt) halt

end_live : (ns : List (List ℕ)) (b : ℕ) → Some ns → LiveAt (tag_end ns b)
unfolding tag_end
end_live ns b l = both (eqb b 62) (clive l tt) (both (eqb b 47) (live l) halt)

leave_live : (ns : List (List ℕ)) → LiveAt (leave ns)
unfolding leave outside
leave_live [] = halt
leave_live (n ∷ []) = live tt
leave_live (n ∷ m ∷ ns) = clive tt tt

pub step_live : (p : Mode) (ns : List (List ℕ)) (b : ℕ) → Live p ns → LiveAt (form_step p ns b)
unfolding form_step IsLe bytes
step_live (word p []) ns b l = halt
step_live (word p (c ∷ w)) ns b l = both (eqb b c) (reads_live p w ns l.1) halt
step_live before ns b l = both (is_space b) (live tt) (both (eqb b 60) (live tt) halt)
step_live root ns b l = both (is_ascii_letter b) (live tt) halt
step_live (name w) ns b l = both (is_name_byte b) (live tt) (both (is_space b) (live tt) (end_live (w ∷ ns) b tt))
step_live tag ns b l = both (is_space b) (live l) (both (is_ascii_letter b) (live l) (end_live ns b l))
step_live key ns b l = both (is_name_byte b) (live l) (both (is_space b) (live l) (both (eqb b 61) (live l) halt))
step_live keyed ns b l = both (is_space b) (live l) (both (eqb b 61) (live l) halt)
step_live equals ns b l = both (is_space b) (live l) (both (eqb b 34 || eqb b 39) (live l) halt)
step_live (value q) ns b l = both (eqb b q) (live l) (both (eqb b 60) halt (char_live (value q) ns b l))
step_live valued ns b l = both (is_space b) (live l) (end_live ns b l)
step_live slash ns b l = both (eqb b 62) (leave_live ns) halt
step_live (content h) ns b l = both (eqb b 60) (live l.0) (inside_live h ns b l.0)
step_live (opens o) ns b l = both (eqb b 47) (reads_live closed (innermost ns) ns l) (both (is_ascii_letter b && (o && ltb (length ns) 64)) (live tt) halt)
step_live closed ns b l = both (is_space b) (live l) (both (eqb b 62) (leave_live ns) halt)
step_live after ns b l = both (is_space b) (live tt) halt
step_live (amp p) ns b l = both (eqb b 97) (live l) (both (eqb b 108 || eqb b 103) (wlive l) (both (eqb b 113) (wlive l) halt))
step_live (amp_a p) ns b l = both (eqb b 109) (wlive l) (both (eqb b 112) (wlive l) halt)
step_live (more p lo hi n) ns b l = both (ltb b lo) halt (both (ltb hi b) halt (both (eqb n 0) (live l.1) (mlive (le_by_compare 128 191 tt) l.1)))
step_live (lead239 p) ns b l = both (ltb b 128) halt (both (ltb b 191) (mlive (le_by_compare 128 191 tt) (l)) (both (ltb b 192) (mlive (le_by_compare 128 189 tt) (l)) halt))

-- a text that ends the open elements
closing : List (List ℕ) → List ℕ
closing [] = []
closing (n ∷ ns) = 60 ∷ 47 ∷ n ++ 62 ∷ closing ns

shut_good : (n : List ℕ) (ns : List (List ℕ)) → form_run (at closed (n ∷ ns)) (62 ∷ closing ns) ≡ good
unfolding closing form_run form_step leave outside ended is_space innermost without_text
shut_good n [] = refl
shut_good n (m ∷ ns) = run_word closed (m ∷ ns) m (62 ∷ closing ns) ∙ shut_good m ns

close_good : (n : List ℕ) (ns : List (List ℕ)) → form_run (at (reads closed n) (n ∷ ns)) (n ++ 62 ∷ closing ns) ≡ good
close_good n ns = run_word closed (n ∷ ns) n (62 ∷ closing ns) ∙ shut_good n ns

-- some text ends it from here
abbrev pub Ends : Mode → List (List ℕ) → Type 0
Ends p ns = (t : List ℕ) × (form_run (at p ns) t ≡ good)

content_ends : (h : Held) (ns : List (List ℕ)) → Some ns → Ends (content h) ns
unfolding form_run form_step innermost
content_ends h [] l = absurd l
content_ends h (n ∷ ns) l = (60 ∷ 47 ∷ n ++ 62 ∷ closing ns, close_good n ns)

closed_ends : (ns : List (List ℕ)) → Some ns → Ends closed ns
closed_ends [] l = absurd l
closed_ends (n ∷ ns) l = (62 ∷ closing ns, shut_good n ns)

slash_ends : (ns : List (List ℕ)) → Some ns → Ends slash ns
unfolding form_run form_step is_space
slash_ends [] l = absurd l
slash_ends (n ∷ ns) l = (62 ∷ closing ns, shut_good n ns)

opens_ends : (o : Bool) (ns : List (List ℕ)) → Some ns → Ends (opens o) ns
unfolding form_run form_step innermost
opens_ends o [] l = absurd l
opens_ends o (n ∷ ns) l = (47 ∷ n ++ 62 ∷ closing ns, close_good n ns)

more_ends : (n : ℕ) (p : Mode) (ns : List (List ℕ)) (lo hi : ℕ) → lo ≤ hi → Ends p ns → Ends (more p lo hi n) ns
unfolding form_step IsLe
more_ends zero p ns lo hi h e =
    (lo ∷ e.0, run_to (more p lo hi 0) ns lo e.0 (at p ns) (simp (le-ltb lo lo (omega arith), le-ltb hi lo h)) ∙ e.1)
more_ends (suc n) p ns lo hi h e =
    let r : Ends (more p 128 191 n) ns = more_ends n p ns 128 191 (le_by_compare 128 191 tt) e in
    let y : suc n - 1 ≡ n = omega arith in
    (lo ∷ r.0, run_to (more p lo hi (suc n)) ns lo r.0 (at (more p 128 191 n) ns) (simp (le-ltb lo lo (omega arith), le-ltb hi lo h, eqb-suc-zero n, y)) ∙ r.1)

pub ends : (p : Mode) (ns : List (List ℕ)) → Live p ns → Ends p ns
unfolding form_run form_step reads tag_end is_space is_ascii_letter is_name_byte leave outside ended IsLe bytes
ends (word p []) ns l = absurd l.0
ends (word p (c ∷ w)) ns l = let e : Ends p ns = ends p ns l.1 in (c ∷ w ++ e.0, run_to (word p (c ∷ w)) ns c (w ++ e.0) (at (reads p w) ns) (simp (eq-eqb c c refl)) ∙ run_word p ns w e.0 ∙ e.1)
ends before ns l = let e : Ends (content blank) ((97 ∷ []) ∷ ns) = content_ends blank ((97 ∷ []) ∷ ns) tt in (60 ∷ 97 ∷ 62 ∷ e.0, e.1)
ends root ns l = let e : Ends (content blank) ((97 ∷ []) ∷ ns) = content_ends blank ((97 ∷ []) ∷ ns) tt in (97 ∷ 62 ∷ e.0, e.1)
ends (name w) ns l = let e : Ends (content blank) (w ∷ ns) = content_ends blank (w ∷ ns) tt in (62 ∷ e.0, e.1)
ends tag ns l = let e : Ends (content blank) ns = content_ends blank ns l in (62 ∷ e.0, e.1)
ends key ns l = let e : Ends (content blank) ns = content_ends blank ns l in (61 ∷ 34 ∷ 34 ∷ 62 ∷ e.0, e.1)
ends keyed ns l = let e : Ends (content blank) ns = content_ends blank ns l in (61 ∷ 34 ∷ 34 ∷ 62 ∷ e.0, e.1)
ends equals ns l = let e : Ends (content blank) ns = content_ends blank ns l in (34 ∷ 34 ∷ 62 ∷ e.0, e.1)
ends (value q) ns l = let e : Ends (content blank) ns = content_ends blank ns l in (q ∷ 62 ∷ e.0, run_to (value q) ns q (62 ∷ e.0) (at valued ns) (simp (eq-eqb q q refl)) ∙ e.1)
ends valued ns l = let e : Ends (content blank) ns = content_ends blank ns l in (62 ∷ e.0, e.1)
ends slash ns l = slash_ends ns l
ends (content h) ns l = content_ends h ns l.0
ends (opens o) ns l = opens_ends o ns l
ends closed ns l = closed_ends ns l
ends after ns l = ([], refl)
ends (amp p) ns l = let e : Ends p ns = ends p ns l in (108 ∷ 116 ∷ 59 ∷ e.0, e.1)
ends (amp_a p) ns l = let e : Ends p ns = ends p ns l in (109 ∷ 112 ∷ 59 ∷ e.0, e.1)
ends (more p lo hi n) ns l = more_ends n p ns lo hi l.0 (ends p ns l.1)
ends (lead239 p) ns l = let e : Ends p ns = ends p ns l in (128 ∷ 128 ∷ e.0, e.1)
