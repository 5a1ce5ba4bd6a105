-- The tree of a derivation is the one that is read off its text: between tags there is no `<`, and inside a tag only the attribute has quotes.
use mathlib.Core.Path.{◌≡◌, refl, ap, ap₂, ◌∙◌, sym, subst}
use mathlib.Core.Bool.{Bool, true, false, cond, false≢true}
use mathlib.Core.List.{List, [], ◌∷◌, ◌++◌}
use Prim.Native.Nat.{ℕ, ◌+◌, ◌/◌, ◌%◌, ◌<◌, ◌≤◌}
use native.Mathlib.Omega.{arith}
use borrow.Author.Tests.{eq-eqb, ne_eqb, lt-ltb, eqb-false, ltb-true}
use lib.Dec.{eqb, ltb}
use lib.ListN.{length, take, drop, get_or, length-append}
use Rattle.xml.specs.Bytes.{is_space, is_ascii_letter, is_name_byte, declaration}
use Rattle.xml.specs.Tree.{Head, Forest, none, node, past, quote_after, front, is_not, not_open, behind, quoted, head_of, top, pop, closed, opened, alone, put, trees, behind_tag, tag_head, forests}
use Rattle.xml.specs.Grammar.{Spaces, NameBytes, Name, Char, Entity, Value, Quoted, Equals, Attribute, Start, End, Text, Elements, Document, head, utf8}
use Rattle.xml.proofs.Classes.{space_low, space_no_name, letter_no_space, letter_not, space_not, name_not, letter_name}
use Rattle.slices.specs.Words.{bytes}

-- from s to t there is no byte x
data Free (x : ℕ) : List ℕ → List ℕ → Type 0 where
  end : {s : List ℕ} → Free x s s
  more : (b : ℕ) {s t : List ℕ} → (b ≡ x → ⊥) → Free x s t → Free x (b ∷ s) t

join : {x : ℕ} {s t u : List ℕ} → Free x s t → Free x t u → Free x s u
join Free.end g = g
join (Free.more b h f) g = Free.more b h (join f g)

-- `<` and the quotes
data Mark : ℕ → Type 0 where
  angle : Mark 60
  double : Mark 34
  single : Mark 39

mark_low : {x : ℕ} → Mark x → (32 < x) × (x < 128)
mark_low angle = (omega arith, omega arith)
mark_low double = (omega arith, omega arith)
mark_low single = (omega arith, omega arith)

mark_no_name : {x : ℕ} → Mark x → is_name_byte x ≡ false
unfolding is_name_byte is_ascii_letter
mark_no_name angle = refl
mark_no_name double = refl
mark_no_name single = refl

lacks : ℕ → List ℕ → Bool
lacks x [] = true
lacks x (b ∷ w) = cond (eqb b x) false (lacks x w)

lacks_free : (x : ℕ) (w t : List ℕ) → lacks x w ≡ true → Free x (w ++ t) t
unfolding lacks
lacks_free x [] t e = Free.end
lacks_free x (b ∷ w) t e = go (eqb b x) refl (lacks_free x w t)
  where
    go : (v : Bool) → eqb b x ≡ v → (lacks x w ≡ true → Free x (w ++ t) t) → Free x (b ∷ w ++ t) t
    go true h ih = absurd (false≢true (sym (simp h) ∙ e))
    go false h ih = Free.more b (eqb-false b x h) (ih (sym (simp h) ∙ e))

entity_lacks : {x : ℕ} {e : List ℕ} → Mark x → Entity e → lacks x e ≡ true
unfolding lacks bytes
entity_lacks angle Entity.amp = refl
entity_lacks angle Entity.lt = refl
entity_lacks angle Entity.gt = refl
entity_lacks angle Entity.quot = refl
entity_lacks angle Entity.apos = refl
entity_lacks double Entity.amp = refl
entity_lacks double Entity.lt = refl
entity_lacks double Entity.gt = refl
entity_lacks double Entity.quot = refl
entity_lacks double Entity.apos = refl
entity_lacks single Entity.amp = refl
entity_lacks single Entity.lt = refl
entity_lacks single Entity.gt = refl
entity_lacks single Entity.quot = refl
entity_lacks single Entity.apos = refl

entity_free : {x : ℕ} {e : List ℕ} (t : List ℕ) → Mark x → Entity e → Free x (e ++ t) t
entity_free {x} {e} t m y = lacks_free x e t (entity_lacks m y)

utf8_free : (x c : ℕ) (t : List ℕ) → x < 128 → (c < 128 → c ≡ x → ⊥) → Free x (utf8 c ++ t) t
unfolding utf8
utf8_free x c t h g = go (ltb c 128) (ltb c 2048) (ltb c 65536) refl refl refl
  where
    go : (p q r : Bool) → ltb c 128 ≡ p → ltb c 2048 ≡ q → ltb c 65536 ≡ r → Free x (utf8 c ++ t) t
    go true q r e f k = simp e (Free.more c (g (ltb-true c 128 e)) Free.end)
    go false true r e f k = simp (e, f) (Free.more (192 + c / 64) (omega arith) (Free.more (128 + c % 64) (omega arith) Free.end))
    go false false true e f k = simp (e, f, k) (Free.more (224 + c / 4096) (omega arith) (Free.more (128 + c / 64 % 64) (omega arith) (Free.more (128 + c % 64) (omega arith) Free.end)))
    go false false false e f k = simp (e, f, k) (Free.more (240 + c / 262144) (omega arith) (Free.more (128 + c / 4096 % 64) (omega arith) (Free.more (128 + c / 64 % 64) (omega arith) (Free.more (128 + c % 64) (omega arith) Free.end))))

char_free : {s t : List ℕ} → Char s t → Free 60 s t
char_free (Char.char c {t = t} e g h z) = subst (λ (l : List ℕ). Free 60 l t) (sym z) (utf8_free 60 c t (omega arith) (λ _. g))
char_free (Char.reference {t = t} x) = Free.more 38 (omega arith) (entity_free t angle x)

-- a character that does not begin with x
utf8_first : (c : ℕ) (t : List ℕ) {b : ℕ} {s : List ℕ} → c < 128 → b ∷ s ≡ utf8 c ++ t → b ≡ c
unfolding utf8
utf8_first c t {b} {s} h z =
    let y : ◌≡◌ {A = List ℕ} (b ∷ s) (c ∷ t) = z ∙ simp (lt-ltb c 128 h) in cc

byte_free : {x b : ℕ} {s t : List ℕ} → Mark x → (b ≡ x → ⊥) → Char (b ∷ s) t → Free x (b ∷ s) t
byte_free {x} {b} m g (Char.char c {t = t} e _ _ z) =
    subst (λ (l : List ℕ). Free x l t) (sym z) (utf8_free x c t (mark_low m).1 (λ h w. g (utf8_first c t h z ∙ w)))
byte_free m g (Char.reference {t = t} y) = Free.more 38 g (entity_free t m y)

spaces_free : {x : ℕ} {s t : List ℕ} → 32 < x → Spaces s t → Free x s t
spaces_free h Spaces.end = Free.end
spaces_free h (Spaces.more {b} e y) = let l : b ≤ 32 = space_low b e in Free.more b (omega arith) (spaces_free h y)

bytes_free : {v : List ℕ} (s : List ℕ) → NameBytes v → Free 60 (v ++ s) s
unfolding is_name_byte is_ascii_letter
bytes_free s NameBytes.end = Free.end
bytes_free s (NameBytes.more {b} e y) = Free.more b (eqb-false b 60 (name_not b 60 e refl)) (bytes_free s y)

name_bytes : {n : List ℕ} → Name n → NameBytes n
name_bytes (Name.name {b} e y) = NameBytes.more (letter_name b e) y

value_free : {q : ℕ} {s t : List ℕ} → (q ≡ 60 → ⊥) → Value q s t → Free 60 s t
value_free {q} h Value.end = Free.more q h Free.end
value_free h (Value.more g c y) = join (char_free c) (value_free h y)

quoted_free : {v s t : List ℕ} → Quoted v s t → Free 60 s t
quoted_free (Quoted.double y _) = Free.more 34 (omega arith) (value_free (omega arith) y)
quoted_free (Quoted.single y _) = Free.more 39 (omega arith) (value_free (omega arith) y)

equals_free : {s t : List ℕ} → Equals s t → Free 60 s t
equals_free (Equals.equals y z) = join (spaces_free (omega arith) y) (Free.more 61 (omega arith) (spaces_free (omega arith) z))

attribute_free : {k v s t : List ℕ} → Attribute k v s t → Free 60 s t
attribute_free Attribute.without = Free.end
attribute_free (Attribute.with {b} {s₁ = s₁} e y n z v) =
    let l : b ≤ 32 = space_low b e in
    Free.more b (omega arith) (join (spaces_free (omega arith) y) (join (bytes_free s₁ (name_bytes n)) (join (equals_free z) (quoted_free v))))

text_free : {s t : List ℕ} → Text s t → Free 60 s t
text_free Text.end = Free.end
text_free (Text.more _ c y) = join (char_free c) (text_free y)

forests_free : {s t : List ℕ} → Free 60 s t → forests s ≡ forests t
unfolding trees is_not
forests_free Free.end = refl
forests_free (Free.more b h y) = simp (ne_eqb b 60 h) (forests_free y)

-- the front up to the next x
text_of : {x : ℕ} {s t : List ℕ} (w v : List ℕ) → Free x s t → t ≡ x ∷ v → s ≡ w ++ t → take (front (is_not x) s) s ≡ w
unfolding front is_not
text_of {x} {s} [] v Free.end e z = rw e (simp (eq-eqb x x refl))
text_of {s} (c ∷ w) v Free.end e z = absurd (omega (arith, simp length-append at (ap length z)))
text_of {x} [] v (Free.more b {s} h y) e z = let q : ◌≡◌ {A = List ℕ} (b ∷ s) (x ∷ v) = z ∙ e in absurd (h (cc))
text_of {x} {t = t} (c ∷ w) v (Free.more b {s} h y) e z =
    let p : b ≡ c = cc in
    let q : s ≡ w ++ t = cc in
    simp (ne_eqb b x h) (ap₂ (λ (x : ℕ) (l : List ℕ). x ∷ l) p (text_of w v y e q))

-- from s to t a tag goes on outside quotes, and its last byte is no `/`
record Pass (s t : List ℕ) : Type 0 where
  goes : (l : ℕ) → eqb l 47 ≡ false → (m : ℕ) × (eqb m 47 ≡ false) × (past 0 l s ≡ past 0 m t)

pass_join : {s t u : List ℕ} → Pass s t → Pass t u → Pass s u
pass_join f g = record { goes = λ l e. let (m, h, x) = f.goes l e in let (k, i, y) = g.goes m h in (k, i, x ∙ y) }

stay : {s : List ℕ} → Pass s s
stay = record { goes = λ l e. (l, e, refl) }

plain : (b l : ℕ) (s : List ℕ) → eqb b 62 ≡ false → eqb b 34 ≡ false → eqb b 39 ≡ false → past 0 l (b ∷ s) ≡ past 0 b s
unfolding past quote_after
plain b l s e f g = simp (e, f, g)

plain_pass : (b : ℕ) (s : List ℕ) → eqb b 62 ≡ false → eqb b 34 ≡ false → eqb b 39 ≡ false → eqb b 47 ≡ false → Pass (b ∷ s) s
plain_pass b s e f g h = record { goes = λ l _. (b, h, plain b l s e f g) }

spaces_pass : {s t : List ℕ} → Spaces s t → Pass s t
spaces_pass Spaces.end = stay
spaces_pass (Spaces.more {b} {s} e y) =
    pass_join (plain_pass b s (space_not b 62 e (omega arith)) (space_not b 34 e (omega arith)) (space_not b 39 e (omega arith)) (space_not b 47 e (omega arith))) (spaces_pass y)

bytes_pass : {v : List ℕ} (s : List ℕ) → NameBytes v → Pass (v ++ s) s
unfolding is_name_byte is_ascii_letter
bytes_pass s NameBytes.end = stay
bytes_pass s (NameBytes.more {b} {w} e y) =
    pass_join (plain_pass b (w ++ s) (name_not b 62 e refl) (name_not b 34 e refl) (name_not b 39 e refl) (name_not b 47 e refl)) (bytes_pass s y)

equals_pass : {s t : List ℕ} → Equals s t → Pass s t
equals_pass (Equals.equals {s₁ = s₁} y z) = pass_join (spaces_pass y) (pass_join (plain_pass 61 s₁ refl refl refl refl) (spaces_pass z))

-- inside quotes
free_past : {q : ℕ} {s t : List ℕ} → (q ≡ 0 → ⊥) → Free q s t → (l : ℕ) → (m : ℕ) × (past q l s ≡ past q m t)
unfolding past quote_after
free_past h Free.end l = (l, refl)
free_past {q} h (Free.more b {s} g y) l =
    let (m, e) = free_past h y b in
    (m, simp (ne_eqb q 0 h, ne_eqb b q g) e)

value_past : {q : ℕ} {s t : List ℕ} → Mark q → Value q s t → (l : ℕ) → past q l s ≡ past 0 q t
unfolding past quote_after
value_past {q} m Value.end l = let h : 32 < q = (mark_low m).0 in simp (ne_eqb q 0 (omega arith), eq-eqb q q refl)
value_past {q} m (Value.more g c y) l =
    let h : 32 < q = (mark_low m).0 in
    let (k, e) = free_past {q = q} (omega arith) (byte_free m g c) l in
    e ∙ value_past m y k

quoted_pass : {v s t : List ℕ} → Quoted v s t → Pass s t
unfolding past quote_after
quoted_pass (Quoted.double y _) = record { goes = λ l e. (34, refl, value_past double y 34) }
quoted_pass (Quoted.single y _) = record { goes = λ l e. (39, refl, value_past single y 39) }

attribute_pass : {k v s t : List ℕ} → Attribute k v s t → Pass s t
attribute_pass Attribute.without = stay
attribute_pass (Attribute.with {b} {s = s} {s₁ = s₁} e y n z v) =
    pass_join (plain_pass b s (space_not b 62 e (omega arith)) (space_not b 34 e (omega arith)) (space_not b 39 e (omega arith)) (space_not b 47 e (omega arith)))
    (pass_join (spaces_pass y) (pass_join (bytes_pass s₁ (name_bytes n)) (pass_join (equals_pass z) (quoted_pass v))))

-- the name at the front
front_name : {v : List ℕ} (s : List ℕ) → NameBytes v → front is_name_byte s ≡ 0 → take (front is_name_byte (v ++ s)) (v ++ s) ≡ v
unfolding front
front_name s NameBytes.end e = rw e
front_name s (NameBytes.more {b} {w} h y) e = simp h (ap (λ (l : List ℕ). b ∷ l) (front_name s y e))

spaces_stop : {s t : List ℕ} (c : ℕ) → is_name_byte c ≡ false → Spaces s (c ∷ t) → front is_name_byte s ≡ 0
unfolding front
spaces_stop c e Spaces.end = simp e
spaces_stop c e (Spaces.more {b} h y) = simp (space_no_name b h)

attribute_stop : {k v s s₁ t : List ℕ} (c : ℕ) → is_name_byte c ≡ false → Attribute k v s s₁ → Spaces s₁ (c ∷ t) → front is_name_byte s ≡ 0
unfolding front
attribute_stop c e Attribute.without y = spaces_stop c e y
attribute_stop c e (Attribute.with {b} h _ _ _ _) y = simp (space_no_name b h)

-- an attribute's name and value
behind_name : {v : List ℕ} (s : List ℕ) → NameBytes v → front is_name_byte s ≡ 0 → behind is_name_byte (v ++ s) ≡ s
unfolding front behind
behind_name s NameBytes.end e = rw e
behind_name s (NameBytes.more {b} {w} h y) e = simp h (behind_name s y e)

behind_spaces : {s t : List ℕ} (c : ℕ) → is_space c ≡ false → Spaces s (c ∷ t) → behind is_space s ≡ c ∷ t
unfolding front behind
behind_spaces c e Spaces.end = simp e
behind_spaces c e (Spaces.more {b} h y) = simp h (behind_spaces c e y)

plain_quoted : (b : ℕ) (s : List ℕ) → eqb b 62 ≡ false → eqb b 34 ≡ false → eqb b 39 ≡ false → quoted (b ∷ s) ≡ quoted s
unfolding quoted
plain_quoted b s e f g = simp (e, f, g)

space_quoted : (b : ℕ) (s : List ℕ) → is_space b ≡ true → quoted (b ∷ s) ≡ quoted s
space_quoted b s e = plain_quoted b s (space_not b 62 e (omega arith)) (space_not b 34 e (omega arith)) (space_not b 39 e (omega arith))

spaces_quoted : {s t : List ℕ} → Spaces s t → quoted s ≡ quoted t
spaces_quoted Spaces.end = refl
spaces_quoted (Spaces.more {b} {s} e y) = space_quoted b s e ∙ spaces_quoted y

bytes_quoted : {v : List ℕ} (s : List ℕ) → NameBytes v → quoted (v ++ s) ≡ quoted s
unfolding is_name_byte is_ascii_letter
bytes_quoted s NameBytes.end = refl
bytes_quoted s (NameBytes.more {b} {w} e y) = plain_quoted b (w ++ s) (name_not b 62 e refl) (name_not b 34 e refl) (name_not b 39 e refl) ∙ bytes_quoted s y

equals_quoted : {s t : List ℕ} → Equals s t → quoted s ≡ quoted t
equals_quoted (Equals.equals {s₁ = s₁} y z) = spaces_quoted y ∙ plain_quoted 61 s₁ refl refl refl ∙ spaces_quoted z

value_only : {q : ℕ} {s t : List ℕ} → Mark q → Value q s t → Free q s (q ∷ t)
value_only m Value.end = Free.end
value_only m (Value.more g c y) = join (byte_free m g c) (value_only m y)

quoted_quoted : {v s t : List ℕ} → Quoted v s t → quoted s ≡ v
unfolding quoted
quoted_quoted {v} (Quoted.double {t = t} y e) = text_of v t (value_only double y) refl e
quoted_quoted {v} (Quoted.single {t = t} y e) = text_of v t (value_only single y) refl e

equals_stop : {s t : List ℕ} → Equals s t → front is_name_byte s ≡ 0
unfolding is_name_byte is_ascii_letter
equals_stop (Equals.equals y z) = spaces_stop 61 refl y

attribute_key : {k v s s₁ t : List ℕ} (c : ℕ) → is_name_byte c ≡ false → is_space c ≡ false → Attribute k v s s₁ → Spaces s₁ (c ∷ t)
    → take (front is_name_byte (behind is_space s)) (behind is_space s) ≡ k
unfolding front
attribute_key c e f Attribute.without x = rw (behind_spaces c f x) (simp e)
attribute_key c e f (Attribute.with {b} {s = s} {s₁ = s₁} h y (Name.name {b = d} {w} i j) z v) x =
    rw (behind_spaces d (letter_no_space d i) (Spaces.more {b = b} {s = s} h y)) (front_name s₁ (name_bytes (Name.name i j)) (equals_stop z))

attribute_value : {k v s s₁ t : List ℕ} (c : ℕ) → quoted (c ∷ t) ≡ [] → Attribute k v s s₁ → Spaces s₁ (c ∷ t) → quoted s ≡ v
attribute_value c e Attribute.without x = spaces_quoted x ∙ e
attribute_value c e (Attribute.with {b} {s = s} {s₁ = s₁} h y n z v) x =
    space_quoted b s h ∙ spaces_quoted y ∙ bytes_quoted s₁ (name_bytes n) ∙ equals_quoted z ∙ quoted_quoted v

-- what a start tag s is read as, where behind its white space c ∷ t is left
record Tag (n k v s : List ℕ) (c : ℕ) (t : List ℕ) : Type 0 where
  rest : List ℕ
  split : s ≡ 60 ∷ rest
  first : eqb (get_or rest 0 0) 47 ≡ false
  named : take (front is_name_byte rest) rest ≡ n
  keyed : take (front is_name_byte (behind is_space (behind is_name_byte rest))) (behind is_space (behind is_name_byte rest)) ≡ k
  valued : quoted (behind is_name_byte rest) ≡ v
  free : Free 60 rest (c ∷ t)
  pass : Pass rest (c ∷ t)

start_tag : {n k v s t : List ℕ} (c : ℕ) → is_name_byte c ≡ false → is_space c ≡ false → quoted (c ∷ t) ≡ [] → Start n k v s (c ∷ t) → Tag n k v s c t
unfolding is_ascii_letter
start_tag c e f g (Start.start {s = s} (Name.name {b} {w} h y) a x) =
    let z : behind is_name_byte (b ∷ w ++ s) ≡ s = behind_name s (name_bytes (Name.name h y)) (attribute_stop c e a x) in
    record {
      rest = b ∷ w ++ s;
      split = refl;
      first = letter_not b 47 h refl;
      named = front_name s (name_bytes (Name.name h y)) (attribute_stop c e a x);
      keyed = rw z (attribute_key c e f a x);
      valued = rw z (attribute_value c g a x);
      free = join (bytes_free s (name_bytes (Name.name h y))) (join (attribute_free a) (spaces_free (omega arith) x));
      pass = pass_join (bytes_pass s (name_bytes (Name.name h y))) (pass_join (attribute_pass a) (spaces_pass x));
    }

open_tag : {n k v s t : List ℕ} → Start n k v s (62 ∷ t) → Tag n k v s 62 t
unfolding is_name_byte is_ascii_letter is_space quoted
open_tag x = start_tag 62 refl refl refl x

empty_tag : {n k v s t : List ℕ} → Start n k v s (47 ∷ 62 ∷ t) → Tag n k v s 47 (62 ∷ t)
unfolding is_name_byte is_ascii_letter is_space quoted
empty_tag x = start_tag 47 refl refl refl x

-- the tag ends
shut_open : {r t : List ℕ} → Pass r (62 ∷ t) → past 0 0 r ≡ record { empty = false; rest = t }
unfolding past
shut_open f = let (m, e, x) = f.goes 0 refl in x ∙ simp e

shut_empty : {r t : List ℕ} → Pass r (47 ∷ 62 ∷ t) → past 0 0 r ≡ record { empty = true; rest = t }
unfolding past quote_after
shut_empty f = let (m, e, x) = f.goes 0 refl in x

forests_60 : (r : List ℕ) → forests (60 ∷ r) ≡ put tag_head r (forests r)
unfolding trees is_not
forests_60 r = refl

-- a start tag
forests_opened : {n k v s t : List ℕ} (w : List ℕ) → Tag n k v s 62 t → take (front not_open t) t ≡ w → forests s ≡ opened (head n k v w) (forests t)
unfolding put head_of behind_tag
forests_opened {t = t} w g e =
    let p : past 0 0 g.rest ≡ record { empty = false; rest = t } = shut_open g.pass in
    let f : forests g.rest ≡ forests t = forests_free (join g.free (Free.more 62 (omega arith) Free.end)) in
    ap forests g.split ∙ forests_60 g.rest ∙ simp (g.first, p, g.named, g.keyed, g.valued, e, f)

-- an empty-element tag
forests_alone : {n k v s t : List ℕ} → Tag n k v s 47 (62 ∷ t) → forests s ≡ alone (head n k v []) (forests t)
unfolding put head_of behind_tag front
forests_alone {t = t} g =
    let p : past 0 0 g.rest ≡ record { empty = true; rest = t } = shut_empty g.pass in
    let f : forests g.rest ≡ forests t = forests_free (join g.free (Free.more 47 (omega arith) (Free.more 62 (omega arith) Free.end))) in
    ap forests g.split ∙ forests_60 g.rest ∙ simp (g.first, p, g.named, g.keyed, g.valued, f)

-- an end tag of a lawful name
forests_closed : {n s t : List ℕ} → Name n → End n s t → forests s ≡ none ∷ forests t
unfolding put closed
forests_closed {n} m (End.end {s} {t} y) =
    let f : forests (47 ∷ n ++ s) ≡ forests t = forests_free (Free.more 47 (omega arith) (join (bytes_free s (name_bytes m)) (join (spaces_free (omega arith) y) (Free.more 62 (omega arith) Free.end)))) in
    forests_60 (47 ∷ n ++ s) ∙ ap (λ (fs : List Forest). none ∷ fs) f

pub start_name : {n k v s t : List ℕ} → Start n k v s t → Name n
start_name (Start.start m a x) = m

end_60 : {n s t : List ℕ} → End n s t → (v : List ℕ) × (s ≡ 60 ∷ v)
end_60 {n} (End.end {s} y) = (47 ∷ n ++ s, refl)

start_60 : {n k v s t : List ℕ} → Start n k v s t → (v : List ℕ) × (s ≡ 60 ∷ v)
start_60 {n} (Start.start {s} m a x) = (n ++ s, refl)

elements_60 : {d : ℕ} {f : Forest} {s t : List ℕ} → Elements d f s t → (v : List ℕ) × (t ≡ 60 ∷ v) → (v : List ℕ) × (s ≡ 60 ∷ v)
elements_60 Elements.end e = e
elements_60 (Elements.empty x y z) e = start_60 x
elements_60 (Elements.text x _ y w v z) e = start_60 x
elements_60 (Elements.nest x _ y k w v z) e = start_60 x

-- the elements f, and then what t reads as
spells : {d : ℕ} {f : Forest} {s t : List ℕ} → Elements d f s t → top (forests t) ≡ none → (top (forests s) ≡ f) × (pop (forests s) ≡ pop (forests t))
unfolding top pop alone opened is_name_byte is_ascii_letter
spells Elements.end h = (h, refl)
spells (Elements.empty {n = n} {k} {v} x y z) h =
    let (a, b) = spells z h in
    let e : forests _ ≡ alone (head n k v []) (forests _) = forests_alone (empty_tag x) in
    let p : forests _ ≡ forests _ = forests_free (spaces_free (omega arith) y) in
    (ap top e ∙ ap (node (head n k v []) none) (ap top p ∙ a), ap pop e ∙ ap pop p ∙ b)
spells (Elements.text {n = n} {k} {v} {w} x g y u o z) h =
    let (a, b) = spells z h in
    let (r, i) = end_60 u in
    let e : forests _ ≡ opened (head n k v w) (forests _) = forests_opened w (open_tag x) (text_of w r (text_free y) i g) in
    let q : forests _ ≡ none ∷ forests _ = forests_free (text_free y) ∙ forests_closed (start_name x) u in
    let p : forests _ ≡ forests _ = forests_free (spaces_free (omega arith) o) in
    (ap top (e ∙ ap (opened (head n k v w)) q) ∙ ap (node (head n k v w) none) (ap top p ∙ a), ap pop (e ∙ ap (opened (head n k v w)) q) ∙ ap pop p ∙ b)
spells (Elements.nest {n = n} {k} {v} {w} x g y j u c₁ z) h =
    let (a, b) = spells z h in
    let c : forests _ ≡ none ∷ forests _ = forests_closed (start_name x) u in
    let (i, l) = spells j (ap top c) in
    let (r, o) = elements_60 j (end_60 u) in
    let e : forests _ ≡ opened (head n k v w) (forests _) = forests_opened w (open_tag x) (text_of w r (spaces_free (omega arith) y) o g) in
    let q : forests _ ≡ forests _ = forests_free (spaces_free {x = 60} (omega arith) y) in
    let p : forests _ ≡ forests _ = forests_free (spaces_free {x = 60} (omega arith) c₁) in
    let m : pop (forests _) ≡ forests _ = ap pop q ∙ l ∙ ap pop c ∙ p in (
      ap top e ∙ ap₂ (λ (i j : Forest). node (head n k v w) i j) (ap top q ∙ i) (ap top m ∙ a),
      ap pop e ∙ ap pop m ∙ b,
    )

top_node : (fs : List Forest) (h : Head) (k f : Forest) → top fs ≡ node h k f → fs ≡ node h k f ∷ pop fs
unfolding top pop
top_node [] h k f e = cc
top_node (g ∷ fs) h k f e = ap (λ (x : Forest). x ∷ fs) e

-- the tree of a derivation is read from the text behind the declaration
pub tree_read : {f : Forest} {s : List ℕ} → Document f s → forests (drop 38 s) ≡ f ∷ []
unfolding declaration top pop trees bytes
tree_read (Document.document {h} {k} {s} {s₁} x y) =
    let (a, b) = spells y refl in
    forests_free (spaces_free (omega arith) x) ∙ top_node (forests s₁) h k none a ∙ ap (λ (fs : List Forest). node h k none ∷ fs) b
