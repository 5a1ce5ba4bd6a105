-- What a writer for C stored, a reader for C reads as the fields given; and it is the same in any two buffers.
use Rattle.refusals.specs.declared.Refusal.{Refusal}
use Rattle.std.specs.Prelude.{Err, Ok, Result}
use mathlib.Core.Path.{◌≡◌, refl, ap, ap₂, ◌∙◌, sym, subst}
use mathlib.Core.Bool.{Bool, true, false}
use mathlib.Core.List.{List, [], ◌∷◌}
use Prim.Native.Nat.{ℕ, zero, suc, ◌≤◌}
use native.Mathlib.Omega.{arith}
use lib.Dec.{leb}
use lib.ListN.{length, take, drop, get_or, length-drop}
use Rattle.refusals.specs.Refusals.{Answer}
use Rattle.refusals.proofs.Numbers.{not_zero}
use Rattle.slices.specs.Slices.{written}
use Rattle.slices.proofs.Booleans.{and_right}
use Rattle.slices.proofs.Writers.{reached}
use Rattle.slices.proofs.Writing.{part_written}
use Rattle.elements.specs.Reading.{Spans}
use Rattle.writing.specs.Writing.{Writes}
use Rattle.vol1.specs.Vol1.{Vol1Fields, are_fields, vol1}
use Rattle.vol1.proofs.Blocks.{given_identifier, given_owner, identifier_vol1, owner_vol1, vol1_reads}
use Rattle.label.specs.Label.{Label}
use Rattle.label.specs.TextPlaces.{text_places}
use Rattle.label_writer.specs.Text.{label_text, is_given}
use Rattle.label_writer.proofs.RoundTrip.{text_reads}
use Rattle.api.specs.Outputs.{Shown, ShownAs, one, WritesOut, Stores}
use Rattle.api.specs.Labels.{vol1_places, SaysLabel, ReadAsVol1, ReadAsLabel, WritesVol1, WritesLabel, is_writable}

-- what is not refused was written whole
wrote_all : (w before after : List ℕ) (n : ℕ) (given : Bool) → WritesOut given w before after 0 n → (given ≡ true) × (take n after ≡ w)
wrote_all w before after n given p = go given p.written p.writes p.shows
  where
    go : (given : Bool) (a : Result ℕ Refusal) → Writes given w before after a → Shown 1 one a 0 (one n) → (given ≡ true) × (take n after ≡ w)
    go given (Err r) q s = absurd (not_zero r (sym s.refusal))
    go true (Ok m) q s =
        let (h, e, z) = reached 0 w before after m (record { answers = q.answers; holds = q.holds }) in
        let l : n ∷ [] ≡ m ∷ [] = s.holds in
        let k : n ≡ m = cc in
        let f : n ≡ length w = omega arith in
        let part : take (length w) (drop 0 (written 0 w before)) ≡ w = part_written 0 w before (omega arith) in
        (refl, ap₂ take f z ∙ part)
    go false (Ok m) q s = let e = q.answers in let z : ◌≡◌ {A = ℕ} 0 1 = cc in absurd (omega arith)

stores : (given : Bool) (w : List ℕ) (reads : List ℕ → Type 0) (before after : List ℕ) (r n : ℕ) → (given ≡ true → reads w) → WritesOut given w before after r n
    → Stores given w reads before after r n
stores given w reads before after r n back p =
    record {
      writes = p;
      read_back = λ z. subst reads (sym (all z).1) (back (all z).0);
      same = λ z b a m q. (wrote_all w b a m given q).1 ∙ sym (all z).1;
    }
  where
    all : r ≡ 0 → (given ≡ true) × (take n after ≡ w)
    all z = wrote_all w before after n given (subst (λ (k : ℕ). WritesOut given w before after k n) z p)

long_enough : (n : ℕ) (l : List ℕ) → length (take n l) ≡ n → n ≤ length l
long_enough zero l e = omega arith
long_enough (suc n) [] e = absurd (omega arith)
long_enough (suc n) (x ∷ l) e = let h = long_enough n l (omega arith) in omega arith

-- a part that has its whole length lies in the text
part_inside : (k n : ℕ) (s w : List ℕ) → 1 ≤ n → take n (drop k s) ≡ w → length w ≡ n → Spans s k n w
part_inside k n s w one e q =
    let h = long_enough n (drop k s) (ap length e ∙ q) in
    record { part = e; inside = omega (arith, h, length-drop k s) }

read_as_vol1 : (i o : List ℕ) → are_fields i o ≡ true → ReadAsVol1 i o (vol1 i o)
read_as_vol1 i o ok r out q =
    let a = given_identifier i o ok in
    let b = given_owner i o ok in
    let t : Shown 4 vol1_places (Ok (record { identifier = i; owner = o })) r out
    = subst (λ (x : Answer Vol1Fields). Shown 4 vol1_places x r out) (vol1_reads i o ok) q in (
      t.refusal,
      subst (λ (x : List ℕ). Spans (vol1 i o) (get_or x 0 0) (get_or x 1 0) i) (sym t.holds) (part_inside 4 6 (vol1 i o) i (omega arith) (identifier_vol1 i o a b) a),
      subst (λ (x : List ℕ). Spans (vol1 i o) (get_or x 2 0) (get_or x 3 0) o) (sym t.holds) (part_inside 37 14 (vol1 i o) o (omega arith) (owner_vol1 i o a b) b),
    )

pub vol1_stored : {i o before after : List ℕ} {r n : ℕ} → WritesOut (are_fields i o) (vol1 i o) before after r n → WritesVol1 i o before after r n
vol1_stored {i} {o} {before} {after} {r} {n} = stores (are_fields i o) (vol1 i o) (ReadAsVol1 i o) before after r n (read_as_vol1 i o)

read_as_label : (f : Label) → f.release ≡ 1 → is_given f ≡ true → ReadAsLabel f (label_text f)
read_as_label f e g r out q =
    let t : ShownAs 12 (SaysLabel (label_text f) (text_places (label_text f))) (Ok f) r (take 12 out)
    = subst (λ (a : Answer Label). ShownAs 12 (SaysLabel (label_text f) (text_places (label_text f))) a r (take 12 out)) (text_reads f g e) q.numbers in
    (t.refusal, t.tells)

pub label_stored : (compression : ℕ) {f : Label} {before after : List ℕ} {r n : ℕ} → f.release ≡ 1 → WritesOut (is_writable compression f) (label_text f) before after r n
    → WritesLabel compression f before after r n
label_stored compression {f} {before} {after} {r} {n} e =
    stores (is_writable compression f) (label_text f) (ReadAsLabel f) before after r n (λ ok. read_as_label f e (and_right (leb compression 1) (is_given f) ok))
