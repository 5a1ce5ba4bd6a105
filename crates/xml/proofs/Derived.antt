-- A text that the machine accepts has a derivation: by induction on the rest of the text, what remains at each place is what the grammar says.
use mathlib.Core.Path.{◌≡◌, refl, ap, ◌∙◌, sym, subst}
use mathlib.Core.Bool.{Bool, true, false, cond, ◌||◌, ◌&&◌, false≢true, or-true}
use mathlib.Core.List.{List, [], ◌∷◌, ◌++◌, append_assoc, append-nil}
use mathlib.Core.Logic.{◌⊎◌, inl, inr}
use Prim.Native.Nat.{ℕ, suc, ◌+◌, ◌-◌, ◌<◌, ◌≤◌, min}
use native.Mathlib.Omega.{arith}
use borrow.Author.Tests.{eq-eqb, eqb-true, eqb-false, ltb-true, ltb-false}
use lib.Dec.{eqb, ltb, leb}
use lib.ListN.{length}
use Rattle.xml.specs.Bytes.{is_space, is_ascii_letter, is_name_byte, declaration}
use Rattle.xml.specs.CheckSteps.{Mode, word, before, root, name, tag, key, keyed, equals, value, valued, slash, content, opens, closed, after, amp, amp_a, more, lead239, Held, blank, words, children, State, stop, at, reads, char, in_text, inside_element, tag_end, outside, leave, innermost, without_text, form_step, good, broken, ended, form_run, form}
use Rattle.xml.specs.Tree.{Head, Forest, none, node}
use Rattle.xml.specs.Grammar.{Spaces, NameBytes, Name, Char, Entity, Value, Quoted, Equals, Attribute, Start, End, Text, Elements, Document, head, utf8}
use Rattle.xml.proofs.Classes.{space_low}
use Rattle.xml.proofs.Runs.{run_stop, run_to}
use Rattle.xml.proofs.Live.{Live, LiveAt, live, step_live}
use Rattle.xml.proofs.Utf8.{Tail, ascii, wide2, wide3_low, wide3_238, wide3_239, wide4}
use Rattle.xml.proofs.Logic.{cons_head, cons_tail, or_cases, and_both}
use Rattle.slices.specs.Words.{bytes}

-- the elements of the innermost open element, from here on, with its end tag
data Inner (d : ℕ) (n : List ℕ) : List ℕ → List ℕ → Type 0 where
  inner : {k : Forest} {s s₁ s₂ t : List ℕ} → Spaces s s₁ → Elements d k s₁ s₂ → End n s₂ t → Inner d n s t

data Body (d : ℕ) (n : List ℕ) : List ℕ → List ℕ → Type 0 where
  text : {s s₁ t : List ℕ} → Text s s₁ → End n s₁ t → Body d n s t
  nest : {s t : List ℕ} → Inner d n s t → Body d n s t

data Tagged (d : ℕ) (n : List ℕ) : List ℕ → List ℕ → Type 0 where
  opened : {s t : List ℕ} → Body d n s t → Tagged d n (62 ∷ s) t
  shut : {t : List ℕ} → Tagged d n (47 ∷ 62 ∷ t) t

-- how many levels are left in an element that stands in the elements ns
abbrev deep : List (List ℕ) → ℕ
deep ns = 64 - suc (length ns)

-- the rest of the open elements ns, and the white space after the root
abbrev Outer : List (List ℕ) → List ℕ → Type 0
Outer [] s = Spaces s []
Outer (n ∷ ns) s = (t : List ℕ) × Inner (deep ns) n s t × Outer ns t

data Rest (n : List ℕ) (ns : List (List ℕ)) : List ℕ → Type 0 where
  rest : {s s₁ t : List ℕ} → Spaces s s₁ → Tagged (deep ns) n s₁ t → Outer ns t → Rest n ns s

data Whole (ns : List (List ℕ)) : List ℕ → Type 0 where
  whole : {n k v s s₁ t : List ℕ} → Start n k v s s₁ → Tagged (deep ns) n s₁ t → Outer ns t → Whole ns s

data AtTag (n : List ℕ) (ns : List (List ℕ)) : List ℕ → Type 0 where
  bare : {s : List ℕ} → Rest n ns s → AtTag n ns s
  pair : {k v s s₁ s₂ s₃ : List ℕ} → Spaces s (k ++ s₁) → Name k → Equals s₁ s₂ → Quoted v s₂ s₃ → Rest n ns s₃ → AtTag n ns s

data AtKey (n : List ℕ) (ns : List (List ℕ)) : List ℕ → Type 0 where
  at_key : {v u s s₁ s₂ : List ℕ} → NameBytes v → Equals s s₁ → Quoted u s₁ s₂ → Rest n ns s₂ → AtKey n ns (v ++ s)

data AtName (w : List ℕ) (ns : List (List ℕ)) : List ℕ → Type 0 where
  at_name : {v k u s s₁ : List ℕ} → NameBytes v → Attribute k u s s₁ → Rest (w ++ v) ns s₁ → AtName w ns (v ++ s)

data AtOpen (o : Bool) (n : List ℕ) (ns : List (List ℕ)) (s : List ℕ) : Type 0 where
  ends : {t : List ℕ} → End n (60 ∷ s) t → Outer ns t → AtOpen o n ns s
  begins : {f : Forest} {s₁ t : List ℕ} → o ≡ true → Elements (deep ns) f (60 ∷ s) s₁ → End n s₁ t → Outer ns t → AtOpen o n ns s

-- behind k `]`
data AtText (k : ℕ) (n : List ℕ) (ns : List (List ℕ)) (s : List ℕ) : Type 0 where
  at_text : {s₁ t : List ℕ} → ((r : List ℕ) → 1 ≤ k → s ≡ 93 ∷ 62 ∷ r → ⊥) → ((r : List ℕ) → 2 ≤ k → s ≡ 62 ∷ r → ⊥) → Text s s₁ → End n s₁ t → Outer ns t → AtText k n ns s

abbrev In : Held → List ℕ → List (List ℕ) → List ℕ → Type 0
In blank n ns s = (t : List ℕ) × Body (deep ns) n s t × Outer ns t
In (words k) n ns s = AtText k n ns s
In children n ns s = Outer (n ∷ ns) s

-- what remains of a text in the form at a place
abbrev Remains : Mode → List (List ℕ) → List ℕ → Type 0
Remains (word p w) ns s = (t : List ℕ) × (s ≡ w ++ t) × Remains p ns t
Remains before ns s = (t : List ℕ) × Spaces s t × Whole ns t
Remains root ns s = Whole ns (60 ∷ s)
Remains (name w) ns s = AtName w ns s
Remains tag [] s = ⊥
Remains tag (n ∷ ns) s = AtTag n ns s
Remains key [] s = ⊥
Remains key (n ∷ ns) s = AtKey n ns s
Remains keyed [] s = ⊥
Remains keyed (n ∷ ns) s = (s₁ s₂ v : List ℕ) × Equals s s₁ × Quoted v s₁ s₂ × Rest n ns s₂
Remains equals [] s = ⊥
Remains equals (n ∷ ns) s = (s₁ s₂ v : List ℕ) × Spaces s s₁ × Quoted v s₁ s₂ × Rest n ns s₂
Remains (value q) [] s = ⊥
Remains (value q) (n ∷ ns) s = (s₁ : List ℕ) × Value q s s₁ × Rest n ns s₁
Remains valued [] s = ⊥
Remains valued (n ∷ ns) s = Rest n ns s
Remains slash [] s = ⊥
Remains slash (n ∷ ns) s = (t : List ℕ) × (s ≡ 62 ∷ t) × Outer ns t
Remains (content h) [] s = ⊥
Remains (content h) (n ∷ ns) s = In h n ns s
Remains (opens o) [] s = ⊥
Remains (opens o) (n ∷ ns) s = AtOpen o n ns s
Remains closed [] s = ⊥
Remains closed (n ∷ ns) s = (t : List ℕ) × Spaces s (62 ∷ t) × Outer ns t
Remains after ns s = Spaces s []
Remains (amp p) ns s = (t : List ℕ) × Char (38 ∷ s) t × Remains p ns t
Remains (amp_a p) ns s = (t : List ℕ) × Char (38 ∷ 97 ∷ s) t × Remains p ns t
Remains (more p lo hi n) ns s = (t : List ℕ) × Tail lo hi n s t × Remains p ns t
Remains (lead239 p) ns s = (t : List ℕ) × Char (239 ∷ s) t × Remains p ns t

data RemainsAt : State → List ℕ → Type 0 where
  remains : (p : Mode) (ns : List (List ℕ)) {s : List ℕ} → Remains p ns s → RemainsAt (at p ns) s

un : {p : Mode} {ns : List (List ℕ)} {s : List ℕ} → RemainsAt (at p ns) s → Remains p ns s
un (remains p ns o) = o

abbrev Going : State → Type 0
Going stop = ⊥
Going (at p ns) = Unit {0}

going : {σ : State} {s : List ℕ} → RemainsAt σ s → Going σ
going (remains p ns o) = tt

no : {G : Type 0} {s : List ℕ} → RemainsAt stop s → G
no o = absurd (going o)

pick : (t : Bool) {x y : State} {s : List ℕ} {G : Type 0} → RemainsAt (cond t x y) s → (t ≡ true → RemainsAt x s → G) → (t ≡ false → RemainsAt y s → G) → G
pick true o f g = f refl o
pick false o f g = g refl o

reads_back : (p : Mode) (ns : List (List ℕ)) (w : List ℕ) {s : List ℕ} → RemainsAt (at (reads p w) ns) s → (t : List ℕ) × (s ≡ w ++ t) × Remains p ns t
unfolding reads
reads_back p ns [] {s} o = (s, refl, un o)
reads_back p ns (c ∷ w) o = un o

leave_back : (n : List ℕ) (ns : List (List ℕ)) {s : List ℕ} → RemainsAt (leave (n ∷ ns)) s → Outer ns s
unfolding leave outside
leave_back n [] o = un o
leave_back n (m ∷ ns) o = un o

end_back : (n : List ℕ) (ns : List (List ℕ)) (b : ℕ) {s : List ℕ} → RemainsAt (tag_end (n ∷ ns) b) s → Rest n ns (b ∷ s)
unfolding tag_end
end_back n ns b {s} o =
    pick (eqb b 62) o (λ e r. let (t, y, u) = un r in rw (eqb-true b 62 e) (rest Spaces.end (opened y) u))
    (λ _ o. pick (eqb b 47) o (λ e r. let (t, y, u) = un r in rw (eqb-true b 47 e, y) (rest Spaces.end shut u)) (λ _ o. no o))

rest_space : {n : List ℕ} {ns : List (List ℕ)} {b : ℕ} {s : List ℕ} → is_space b ≡ true → Rest n ns s → Rest n ns (b ∷ s)
rest_space e (rest x y z) = rest (Spaces.more e x) y z

equals_space : {b : ℕ} {s t : List ℕ} → is_space b ≡ true → Equals s t → Equals (b ∷ s) t
equals_space e (Equals.equals x y) = Equals.equals (Spaces.more e x) y

name_whole : (b : ℕ) (ns : List (List ℕ)) {s : List ℕ} → is_ascii_letter b ≡ true → AtName (b ∷ []) ns s → Whole ns (60 ∷ b ∷ s)
name_whole b ns e (at_name v a (rest x y z)) = whole (Start.start (Name.name e v) a x) y z

-- a character read, and what remains at p after it
abbrev Read : Mode → List (List ℕ) → List ℕ → Type 0
Read p ns s = (t : List ℕ) × Char s t × Remains p ns t

char_back : (p : Mode) (ns : List (List ℕ)) (b : ℕ) {s : List ℕ} → (b ≡ 60 → ⊥) → RemainsAt (char p ns b) s → Read p ns (b ∷ s)
unfolding char
char_back p ns b {s} g o =
    pick (ltb b 128) o
    (λ a o. pick (eqb b 38) o (λ e r. rw (eqb-true b 38 e) (un r))
    (λ e o. pick (leb 32 b || is_space b) o (λ h r. (s, ascii b s (ltb-true b 128 a) h g (eqb-false b 38 e), un r)) (λ _ o. no o)))
    (λ a o. pick (ltb b 194) o (λ _ o. no o)
    (λ c o. pick (ltb b 224) o (λ e r. let (t, x, y) = un r in (t, wide2 b (ltb-false b 194 c) (ltb-true b 224 e) x, y))
    (λ c o. pick (ltb b 225) o (λ e r. let (t, x, y) = un r in
    (t, wide3_low b 160 (ltb-false b 224 c) (omega (arith, ltb-true b 225 e)) (omega arith) (omega arith) (λ _. omega arith) (λ z. absurd (omega (arith, ltb-true b 225 e))) x, y))
    (λ c o. pick (ltb b 237) o (λ e r. let (t, x, y) = un r in
    (t, wide3_low b 128 (omega (arith, ltb-false b 225 c)) (omega (arith, ltb-true b 237 e)) (omega arith) (omega arith) (λ z. absurd (omega (arith, ltb-false b 225 c))) (λ z. absurd (omega (arith, ltb-true b 237 e))) x, y))
    (λ c o. pick (ltb b 238) o (λ e r. let (t, x, y) = un r in
    (t, wide3_low b 128 (omega (arith, ltb-false b 237 c)) (ltb-true b 238 e) (omega arith) (omega arith) (λ z. absurd (omega (arith, ltb-false b 237 c))) (λ _. omega arith) x, y))
    (λ c o. pick (ltb b 239) o (λ e r. let (t, x, y) = un r in
    (t, wide3_238 b (omega (arith, ltb-false b 238 c, ltb-true b 239 e)) x, y))
    (λ c o. pick (ltb b 240) o (λ e r. let z : b ≡ 239 = omega (arith, ltb-false b 239 c, ltb-true b 240 e) in rw z (un r))
    (λ c o. pick (ltb b 241) o (λ e r. let (t, x, y) = un r in
    (t, wide4 b 144 (ltb-false b 240 c) (omega (arith, ltb-true b 241 e)) (omega arith) (omega arith) (λ _. omega arith) (λ z. absurd (omega (arith, ltb-true b 241 e))) x, y))
    (λ c o. pick (ltb b 244) o (λ e r. let (t, x, y) = un r in
    (t, wide4 b 128 (omega (arith, ltb-false b 241 c)) (omega (arith, ltb-true b 244 e)) (omega arith) (omega arith) (λ z. absurd (omega (arith, ltb-false b 241 c))) (λ z. absurd (omega (arith, ltb-true b 244 e))) x, y))
    (λ c o. pick (ltb b 245) o (λ e r. let (t, x, y) = un r in
    (t, wide4 b 128 (omega (arith, ltb-false b 244 c)) (ltb-true b 245 e) (omega arith) (omega arith) (λ z. absurd (omega (arith, ltb-false b 244 c))) (λ _. omega arith) x, y))
    (λ _ o. no o)))))))))))

text_back : (k : ℕ) (n : List ℕ) (ns : List (List ℕ)) (b : ℕ) {s : List ℕ} → (b ≡ 60 → ⊥) → k ≤ 2 → RemainsAt (in_text k (n ∷ ns) b) s → AtText k n ns (b ∷ s)
unfolding in_text is_space
text_back k n ns b {s} g l o =
    pick (eqb b 93) o (λ e r. rw (eqb-true b 93 e) (bracket (un r)))
    (λ e o. pick (eqb b 62 && eqb k 2) o (λ _ o. no o) (λ h o. plain e h (char_back (content (words 0)) (n ∷ ns) b g o)))
  where
    bracket : AtText (min 2 (k + 1)) n ns s → AtText k n ns (93 ∷ s)
    bracket (at_text x y u v w) =
        at_text (λ r h z. y r (omega arith) (cons_tail z)) (λ r h z. absurd (omega (arith, cons_head z)))
        (Text.more (λ r z. x r (omega arith) (cons_tail z)) (ascii 93 s (omega arith) refl (omega arith) (omega arith)) u) v w

    two : (eqb b 62 && eqb k 2) ≡ false → 2 ≤ k → b ≡ 62 → ⊥
    two h i z =
        let y : k ≡ 2 = omega arith in
        let x : (eqb b 62 && eqb k 2) ≡ true = simp (eq-eqb b 62 z, eq-eqb k 2 y) in
        false≢true (sym h ∙ x)

    plain : eqb b 93 ≡ false → (eqb b 62 && eqb k 2) ≡ false → Read (content (words 0)) (n ∷ ns) (b ∷ s) → AtText k n ns (b ∷ s)
    plain e h (t, c, at_text x y u v w) =
        at_text (λ r _ z. eqb-false b 93 e (cons_head z)) (λ r i z. two h i (cons_head z))
        (Text.more (λ r z. eqb-false b 93 e (cons_head z)) c u) v w

spaces_front : {s t : List ℕ} → Spaces s t → (w : List ℕ) × (s ≡ w ++ t)
spaces_front Spaces.end = ([], refl)
spaces_front (Spaces.more {b} e x) = let (w, y) = spaces_front x in (b ∷ w, ap (λ (l : List ℕ). b ∷ l) y)

char_front : {s t : List ℕ} → Char s t → (w : List ℕ) × (s ≡ w ++ t)
char_front (Char.char c e g h z) = (utf8 c, z)
char_front (Char.reference {e} x) = (38 ∷ e, refl)

text_front : {s t : List ℕ} → Text s t → (w : List ℕ) × (s ≡ w ++ t)
text_front Text.end = ([], refl)
text_front (Text.more {t} _ c x) =
    let (v, z) = char_front c in
    let (w, y) = text_front x in
    (v ++ w, z ∙ ap (λ (l : List ℕ). v ++ l) y ∙ sym (append_assoc v w t))

-- an element, and those after it
element : {d : ℕ} {n k v s s₁ t t₁ u : List ℕ} {f : Forest} → Start n k v s s₁ → Tagged d n s₁ t → Spaces t t₁ → Elements (suc d) f t₁ u
    → (h : Head) × (k : Forest) × Elements (suc d) (node h k f) s u
element {n = n} {k} {v} a (opened (text x y)) z e = let (w, q) = text_front x in (head n k v w, none, Elements.text a q x y z e)
element {n = n} {k} {v} a (opened (nest (inner {k = g} x y w))) z e = let (r, u) = spaces_front x in (head n k v r, g, Elements.nest a u x y w z e)
element {n = n} {k} {v} a shut z e = (head n k v [], none, Elements.empty a z e)

-- white space in a text
text_space : {b : ℕ} {s t : List ℕ} → is_space b ≡ true → Text s t → Text (b ∷ s) t
text_space {b} {s} e x =
    let l : b ≤ 32 = space_low b e in
    let y : (leb 32 b || is_space b) ≡ true = simp (e, or-true) in
    Text.more (λ r z. let x : b ≡ 93 = cons_head z in omega arith) (ascii b s (omega arith) y (omega arith) (omega arith)) x

inside_back : (h : Held) (n : List ℕ) (ns : List (List ℕ)) (b : ℕ) {s : List ℕ} → Live (content h) (n ∷ ns) → (b ≡ 60 → ⊥) → RemainsAt (inside_element h (n ∷ ns) b) s → In h n ns (b ∷ s)
unfolding inside_element
inside_back blank n ns b l g o =
    pick (is_space b) o (λ e r. let (t, x, y) = un r in (t, body_space e x, y)) (λ _ o. as_text (text_back 0 n ns b g (omega arith) o))
  where
    body_space : {s t : List ℕ} → is_space b ≡ true → Body (deep ns) n s t → Body (deep ns) n (b ∷ s) t
    body_space e (text x y) = text (text_space e x) y
    body_space e (nest (inner x y z)) = nest (inner (Spaces.more e x) y z)

    as_text : {s : List ℕ} → AtText 0 n ns s → In blank n ns s
    as_text (at_text {t} x y u v w) = (t, text u v, w)
inside_back (words k) n ns b l g o = text_back k n ns b g l.1 o
inside_back children n ns b l g o = pick (is_space b) o (λ e r. let (t, x, y) = un r in (t, inner_space e x, y)) (λ _ o. no o)
  where
    inner_space : {s t : List ℕ} → is_space b ≡ true → Inner (deep ns) n s t → Inner (deep ns) n (b ∷ s) t
    inner_space e (inner x y z) = inner (Spaces.more e x) y z

opens_back : (h : Held) (n : List ℕ) (ns : List (List ℕ)) {s : List ℕ} → AtOpen (without_text h) n ns s → In h n ns (60 ∷ s)
unfolding without_text
opens_back blank n ns (ends {t} x y) = (t, text Text.end x, y)
opens_back blank n ns (begins {t} e x y z) = (t, nest (inner Spaces.end x y), z)
opens_back (words k) n ns (ends x y) = at_text (λ r _ z. omega (arith, cons_head z)) (λ r _ z. omega (arith, cons_head z)) Text.end x y
opens_back (words k) n ns (begins e x y z) = absurd (false≢true e)
opens_back children n ns (ends {t} x y) = (t, inner Spaces.end Elements.end x, y)
opens_back children n ns (begins {t} e x y z) = (t, inner Spaces.end x y, z)

element_at : {d c : ℕ} {n k v s s₁ t t₁ u : List ℕ} {f : Forest} → c ≡ suc d → Start n k v s s₁ → Tagged d n s₁ t → Spaces t t₁ → Elements c f t₁ u
    → (h : Head) × (k : Forest) × Elements c (node h k f) s u
element_at {s = s} {t₁ = t₁} {u = u} {f = f} q x y z e =
    subst (λ (j : ℕ). (h : Head) × (k : Forest) × Elements j (node h k f) s u) (sym q)
    (element x y z (subst (λ (j : ℕ). Elements j f t₁ u) q e))

-- an element that begins inside the element n
child : (o : Bool) (n : List ℕ) (ns : List (List ℕ)) {s : List ℕ} → o ≡ true → suc (length ns) < 64 → Whole (n ∷ ns) (60 ∷ s) → AtOpen o n ns s
child o n ns e l (whole {n = m} x y (t, inner {k} u v w, z)) =
    let q : deep ns ≡ suc (deep (n ∷ ns)) = omega arith in
    let (h, f, a) = element_at q x y u v in
    begins e a w z

value_front : {q : ℕ} {s t : List ℕ} → Value q s t → (w : List ℕ) × (s ≡ w ++ q ∷ t)
value_front Value.end = ([], refl)
value_front {q} {t = t} (Value.more h c x) =
    let (v, z) = char_front c in
    let (w, y) = value_front x in
    (v ++ w, z ∙ ap (λ (l : List ℕ). v ++ l) y ∙ sym (append_assoc v w (q ∷ t)))

quote_back : (n : List ℕ) (ns : List (List ℕ)) (b : ℕ) {s : List ℕ} → (eqb b 34 || eqb b 39) ≡ true → Remains (value b) (n ∷ ns) s → Remains equals (n ∷ ns) (b ∷ s)
quote_back n ns b {s} e (s₁, v, r) = go (or_cases (eqb b 34) (eqb b 39) e) (value_front v)
  where
    go : (eqb b 34 ≡ true) ⊎ (eqb b 39 ≡ true) → (w : List ℕ) × (s ≡ w ++ b ∷ s₁) → Remains equals (n ∷ ns) (b ∷ s)
    go (inl z) (w, y) = (b ∷ s, s₁, w, Spaces.end, subst (λ (q : ℕ). Quoted w (q ∷ s) s₁) (sym (eqb-true b 34 z)) (Quoted.double (subst (λ (q : ℕ). Value q s s₁) (eqb-true b 34 z) v) (subst (λ (q : ℕ). s ≡ w ++ q ∷ s₁) (eqb-true b 34 z) y)), r)
    go (inr z) (w, y) = (b ∷ s, s₁, w, Spaces.end, subst (λ (q : ℕ). Quoted w (q ∷ s) s₁) (sym (eqb-true b 39 z)) (Quoted.single (subst (λ (q : ℕ). Value q s s₁) (eqb-true b 39 z) v) (subst (λ (q : ℕ). s ≡ w ++ q ∷ s₁) (eqb-true b 39 z) y)), r)

tag_space : (n : List ℕ) (ns : List (List ℕ)) {b : ℕ} {s : List ℕ} → is_space b ≡ true → AtTag n ns s → AtTag n ns (b ∷ s)
tag_space n ns e (bare r) = bare (rest_space e r)
tag_space n ns e (pair x y u v w) = pair (Spaces.more e x) y u v w

tag_key : (n : List ℕ) (ns : List (List ℕ)) {b : ℕ} {s : List ℕ} → is_ascii_letter b ≡ true → AtKey n ns s → AtTag n ns (b ∷ s)
tag_key n ns {b} e (at_key {v} x y u w) = pair {k = b ∷ v} Spaces.end (Name.name e x) y u w

name_byte : (w : List ℕ) (ns : List (List ℕ)) {b : ℕ} {s : List ℕ} → is_name_byte b ≡ true → AtName (w ++ b ∷ []) ns s → AtName w ns (b ∷ s)
name_byte w ns {b} e (at_name {v} {s₁ = s₁} x y z) = at_name (NameBytes.more e x) y (subst (λ (m : List ℕ). Rest m ns s₁) (append_assoc w (b ∷ []) v) z)

name_rest : (w : List ℕ) (ns : List (List ℕ)) {s : List ℕ} → Rest w ns s → AtName w ns s
name_rest w ns {s} r = at_name {v = []} NameBytes.end Attribute.without (subst (λ (m : List ℕ). Rest m ns s) (sym (append-nil w)) r)

name_space : (w : List ℕ) (ns : List (List ℕ)) {b : ℕ} {s : List ℕ} → is_space b ≡ true → AtTag w ns s → AtName w ns (b ∷ s)
name_space w ns e (bare r) = name_rest w ns (rest_space e r)
name_space w ns e (pair {s₃ = s₃} x y u v z) =
    at_name {v = []} NameBytes.end (Attribute.with e x y u v) (subst (λ (m : List ℕ). Rest m ns s₃) (sym (append-nil w)) z)

key_byte : (n : List ℕ) (ns : List (List ℕ)) {b : ℕ} {s : List ℕ} → is_name_byte b ≡ true → AtKey n ns s → AtKey n ns (b ∷ s)
key_byte n ns e (at_key x y u w) = at_key (NameBytes.more e x) y u w

refer : (p : Mode) (ns : List (List ℕ)) (b k : ℕ) (w : List ℕ) {s : List ℕ} → eqb b k ≡ true → ((t : List ℕ) → Char (38 ∷ k ∷ w ++ t) t) → Remains (word p w) ns s → Remains (amp p) ns (b ∷ s)
refer p ns b k w e c (t, x, y) = (t, rw (eqb-true b k e, x) (c t), y)

refer_a : (p : Mode) (ns : List (List ℕ)) (b k : ℕ) (w : List ℕ) {s : List ℕ} → eqb b k ≡ true → ((t : List ℕ) → Char (38 ∷ 97 ∷ k ∷ w ++ t) t) → Remains (word p w) ns s → Remains (amp_a p) ns (b ∷ s)
refer_a p ns b k w e c (t, x, y) = (t, rw (eqb-true b k e, x) (c t), y)

lt_gt : (p : Mode) (ns : List (List ℕ)) (b : ℕ) {s : List ℕ} → (eqb b 108 ≡ true) ⊎ (eqb b 103 ≡ true) → Remains (word p (116 ∷ 59 ∷ [])) ns s → Remains (amp p) ns (b ∷ s)
unfolding bytes
lt_gt p ns b (inl e) o = refer p ns b 108 (116 ∷ 59 ∷ []) e (λ t. Char.reference Entity.lt) o
lt_gt p ns b (inr e) o = refer p ns b 103 (116 ∷ 59 ∷ []) e (λ t. Char.reference Entity.gt) o

tag_ends : (o : Bool) (n : List ℕ) (ns : List (List ℕ)) (b : ℕ) {s : List ℕ} → eqb b 47 ≡ true → Remains (word closed n) (n ∷ ns) s → AtOpen o n ns (b ∷ s)
tag_ends o n ns b e (t, x, (u, y, z)) = rw (eqb-true b 47 e, x) (ends (End.end y) z)

back : (p : Mode) (ns : List (List ℕ)) (b : ℕ) {s : List ℕ} → Live p ns → RemainsAt (form_step p ns b) s → Remains p ns (b ∷ s)
unfolding form_step innermost bytes
back (word p []) ns b l o = no o
back (word p (c ∷ w)) ns b l o =
    pick (eqb b c) o (λ e r. let (t, x, y) = reads_back p ns w r in (t, rw (eqb-true b c e) (ap (λ (z : List ℕ). c ∷ z) x), y)) (λ _ o. no o)
back before ns b {s} l o =
    pick (is_space b) o (λ e r. let (t, x, y) = un r in (t, Spaces.more e x, y))
    (λ _ o. pick (eqb b 60) o (λ e r. (b ∷ s, Spaces.end, rw (eqb-true b 60 e) (un r))) (λ _ o. no o))
back root ns b l o = pick (is_ascii_letter b) o (λ e r. name_whole b ns e (un r)) (λ _ o. no o)
back (name w) ns b l o =
    pick (is_name_byte b) o (λ e r. name_byte w ns e (un r))
    (λ _ o. pick (is_space b) o (λ e r. name_space w ns e (un r)) (λ _ o. name_rest w ns (end_back w ns b o)))
back tag [] b l o = absurd l
back tag (n ∷ ns) b l o =
    pick (is_space b) o (λ e r. tag_space n ns e (un r))
    (λ _ o. pick (is_ascii_letter b) o (λ e r. tag_key n ns e (un r)) (λ _ o. bare (end_back n ns b o)))
back key [] b l o = absurd l
back key (n ∷ ns) b l o =
    pick (is_name_byte b) o (λ e r. key_byte n ns e (un r))
    (λ _ o. pick (is_space b) o (λ e r. let (s₁, s₂, v, x, y, z) = un r in at_key {v = []} NameBytes.end (equals_space e x) y z)
    (λ _ o. pick (eqb b 61) o (λ e r. let (s₁, s₂, v, x, y, z) = un r in rw (eqb-true b 61 e) (at_key {v = []} NameBytes.end (Equals.equals Spaces.end x) y z)) (λ _ o. no o)))
back keyed [] b l o = absurd l
back keyed (n ∷ ns) b l o =
    pick (is_space b) o (λ e r. let (s₁, s₂, v, x, y, z) = un r in (s₁, s₂, v, equals_space e x, y, z))
    (λ _ o. pick (eqb b 61) o (λ e r. let (s₁, s₂, v, x, y, z) = un r in (s₁, s₂, v, rw (eqb-true b 61 e) (Equals.equals Spaces.end x), y, z)) (λ _ o. no o))
back equals [] b l o = absurd l
back equals (n ∷ ns) b l o =
    pick (is_space b) o (λ e r. let (s₁, s₂, v, x, y, z) = un r in (s₁, s₂, v, Spaces.more e x, y, z))
    (λ _ o. pick (eqb b 34 || eqb b 39) o (λ e r. quote_back n ns b e (un r)) (λ _ o. no o))
back (value q) [] b l o = absurd l
back (value q) (n ∷ ns) b {s} l o =
    pick (eqb b q) o (λ e r. (s, rw (eqb-true b q e) Value.end, un r))
    (λ e o. pick (eqb b 60) o (λ _ o. no o) (λ g o.
    let (t, c, z) = char_back (value q) (n ∷ ns) b (eqb-false b 60 g) o in
    let (s₁, v, r) = z in
    (s₁, Value.more (eqb-false b q e) c v, r)))
back valued [] b l o = absurd l
back valued (n ∷ ns) b l o = pick (is_space b) o (λ e r. rest_space e (un r)) (λ _ o. end_back n ns b o)
back slash [] b l o = absurd l
back slash (n ∷ ns) b {s} l o = pick (eqb b 62) o (λ e r. (s, rw (eqb-true b 62 e), leave_back n ns r)) (λ _ o. no o)
back (content h) [] b l o = absurd l.0
back (content h) (n ∷ ns) b l o =
    pick (eqb b 60) o (λ e r. rw (eqb-true b 60 e) (opens_back h n ns (un r))) (λ e o. inside_back h n ns b l (eqb-false b 60 e) o)
back (opens o₁) [] b l o = absurd l
back (opens o₁) (n ∷ ns) b l o =
    pick (eqb b 47) o (λ e r. tag_ends o₁ n ns b e (reads_back closed (n ∷ ns) n r))
    (λ _ o. pick (is_ascii_letter b && (o₁ && ltb (length (n ∷ ns)) 64)) o
    (λ e r. let (x, y) = and_both _ _ e in let (z, w) = and_both _ _ y in child o₁ n ns z (ltb-true _ 64 w) (name_whole b (n ∷ ns) x (un r)))
    (λ _ o. no o))
back closed [] b l o = absurd l
back closed (n ∷ ns) b {s} l o =
    pick (is_space b) o (λ e r. let (t, x, y) = un r in (t, Spaces.more e x, y))
    (λ _ o. pick (eqb b 62) o (λ e r. (s, rw (eqb-true b 62 e) Spaces.end, leave_back n ns r)) (λ _ o. no o))
back after ns b l o = pick (is_space b) o (λ e r. Spaces.more e (un r)) (λ _ o. no o)
back (amp p) ns b l o =
    pick (eqb b 97) o (λ e r. rw (eqb-true b 97 e) (un r))
    (λ _ o. pick (eqb b 108 || eqb b 103) o (λ e r. lt_gt p ns b (or_cases _ _ e) (un r))
    (λ _ o. pick (eqb b 113) o (λ e r. refer p ns b 113 (117 ∷ 111 ∷ 116 ∷ 59 ∷ []) e (λ t. Char.reference Entity.quot) (un r)) (λ _ o. no o)))
back (amp_a p) ns b l o =
    pick (eqb b 109) o (λ e r. refer_a p ns b 109 (112 ∷ 59 ∷ []) e (λ t. Char.reference Entity.amp) (un r))
    (λ _ o. pick (eqb b 112) o (λ e r. refer_a p ns b 112 (111 ∷ 115 ∷ 59 ∷ []) e (λ t. Char.reference Entity.apos) (un r)) (λ _ o. no o))
back (more p lo hi n) ns b {s} l o =
    pick (ltb b lo) o (λ _ o. no o) (λ e o. pick (ltb hi b) o (λ _ o. no o)
    (λ g o. pick (eqb n 0) o
    (λ h r. (s, rw (eqb-true n 0 h) (Tail.last (ltb-false b lo e) (ltb-false hi b g)), un r))
    (λ h r. let (t, x, y) = un r in
    let z : n ≡ suc (n - 1) = omega (arith, eqb-false n 0 h) in
    (t, subst (λ (k : ℕ). Tail lo hi k (b ∷ s) t) (sym z) (Tail.next (ltb-false b lo e) (ltb-false hi b g) x), y))))
back (lead239 p) ns b l o =
    pick (ltb b 128) o (λ _ o. no o)
    (λ e o. pick (ltb b 191) o
    (λ g r. let (t, x, y) = un r in (t, wide3_239 b (ltb-false b 128 e) (omega (arith, ltb-true b 191 g)) (omega arith) (λ z. absurd (omega (arith, ltb-true b 191 g))) x, y))
    (λ g o. pick (ltb b 192) o
    (λ h r. let (t, x, y) = un r in (t, wide3_239 b (ltb-false b 128 e) (ltb-true b 192 h) (omega arith) (λ _. omega arith) x, y))
    (λ _ o. no o)))

ended_good : (p : Mode) → ended p ≡ good → p ≡ after
unfolding ended
ended_good (word p w) e = cc
ended_good before e = cc
ended_good root e = cc
ended_good (name w) e = cc
ended_good tag e = cc
ended_good key e = cc
ended_good keyed e = cc
ended_good equals e = cc
ended_good (value q) e = cc
ended_good valued e = cc
ended_good slash e = cc
ended_good (content h) e = cc
ended_good (opens o) e = cc
ended_good closed e = cc
ended_good after e = refl
ended_good (amp p) e = cc
ended_good (amp_a p) e = cc
ended_good (more p lo hi n) e = cc
ended_good (lead239 p) e = cc

derive : (s : List ℕ) (p : Mode) (ns : List (List ℕ)) → Live p ns → form_run (at p ns) s ≡ good → Remains p ns s
unfolding form_run
derive [] p ns l e = subst (λ (q : Mode). Remains q ns []) (sym (ended_good p e)) Spaces.end
derive (b ∷ s) p ns l e = back p ns b l (go (form_step p ns b) refl (step_live p ns b l) (derive s))
  where
    go : (σ : State) → form_step p ns b ≡ σ → LiveAt σ → ((q : Mode) (ms : List (List ℕ)) → Live q ms → form_run (at q ms) s ≡ good → Remains q ms s) → RemainsAt (form_step p ns b) s
    go stop h g k =
        let y : form_run stop s ≡ broken (suc (length s)) = run_stop s in
        let x : form_run stop s ≡ good = sym (run_to p ns b s stop h) ∙ e in
        let z : ◌≡◌ {A = ℕ} 0 1 = cc in absurd (omega arith)
    go (at q ms) h (live g) k = rw h (remains q ms (k q ms g (sym (run_to p ns b s (at q ms) h) ∙ e)))

-- every text in the form has a derivation
pub form_derives : (s : List ℕ) → form s ≡ good → (f : Forest) × Document f s
unfolding form declaration bytes
form_derives s e =
    let (t, x, y) = derive s (word before declaration) [] (tt, tt) e in
    let (u, z, w) = y in
    rw x (whole_document z w)
  where
    whole_document : {t u : List ℕ} → Spaces t u → Whole [] u → (f : Forest) × Document f (declaration ++ t)
    whole_document x (whole a b c) = let (h, k, e) = element a b c Elements.end in (node h k none, Document.document x e)
