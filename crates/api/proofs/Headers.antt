-- An index's header and a file in numbers say what was read; so does a buffer that was filled.
use Rattle.std.specs.Prelude.{None, Ok, Option, Some, Err}
use mathlib.Core.Path.{◌≡◌, refl, subst, sym, ap, ◌∙◌}
use mathlib.Core.List.{List, [], ◌∷◌}
use Prim.Native.Nat.{ℕ, ◌-◌, min}
use native.Mathlib.Omega.{arith}
use lib.ListN.{length, take, drop, get_or, length-take, length-drop}
use Rattle.refusals.specs.Refusals.{Answer, shown_place}
use Rattle.constructs.specs.declared.Bounds.{Bounds}
use Rattle.index.specs.Index.{Index, File, Summary, summary}
use Rattle.index.specs.Places.{update_time_place}
use Rattle.index.specs.Steps.{back_of, summary_in, Definite, ReadsIndex}
use Rattle.index.specs.declared.read.Header.{Header}
use Rattle.index.specs.declared.read.Location.{Location}
use Rattle.index_files.specs.AskedSteps.{FileShown as Head, shown as head_of, ReadsFile}
use Rattle.index_files.specs.Filling.{SaysFile}
use Rattle.index_files.specs.FillingSteps.{count_of, FillsBuffer}
use Rattle.index_files.specs.declared.asked.FileHead.{FileHead}
use Rattle.index_files.proofs.Mapped.{mapped}
use Rattle.volume.specs.Steps.{bounds_text}
use Rattle.volume.specs.Chosen.{Indexed}
use Rattle.volume.specs.ChosenSteps.{indexed_in, LiesInStore, Chooses}
use Rattle.volume.specs.declared.chosen.FoundIndex.{FoundIndex}
use Rattle.refusals.proofs.Refusing.{Refuses}
use Rattle.xml.proofs.Checked.{OfText}
use Rattle.api.specs.Outputs.{ShownAs, Shown, bit, one}
use Rattle.api.specs.Fronts.{TellsFront}
use Rattle.api.specs.Indexes.{back_numbers, SaysHeader, SaysIndex, SaysConstruct, how_many, FillsOut}
use Rattle.api.specs.Steps.{header_numbers, construct_numbers, head_numbers}
use Rattle.api.proofs.Fronts.{no_front, refused_front}
use Rattle.api.proofs.Showing.{told as tells}

back_numbers_lem : (b : Option Location) → get_or (back_numbers (back_of b)) 0 0 ∷ get_or (back_numbers (back_of b)) 1 0 ∷ get_or (back_numbers (back_of b)) 2 0 ∷ [] ≡ back_numbers (back_of b)
back_numbers_lem None = refl
back_numbers_lem (Some l) = refl

says_header : (s : List ℕ) (h : Header) → Definite s (update_time_place s) h → SaysHeader s (summary_in s h) (take 14 (header_numbers h))
says_header s h d =
    record {
      release = refl;
      generation = refl;
      updatetime = record { part = refl; inside = d.inside };
      place = d.time;
      letter = refl;
      block = refl;
      back = back_numbers_lem h.back;
      allowpolicyupdate = refl;
      highestfileuid = refl;
      directories = refl;
      files = refl;
      rows = refl;
    }

pub says_index : (s : List ℕ) (a : Answer Index) (h : Header) {k : ℕ} {out : List ℕ} → ReadsIndex s a (Ok h) → k ≡ 0 → out ≡ header_numbers h
    → ShownAs 14 (SaysIndex s) a k (take 14 out)
says_index s a h w z q =
    let (x, g, p) = mapped summary a _ w.answers in
    tells x g z (subst (λ (o : List ℕ). SaysIndex s x (take 14 o)) (sym q) (subst (λ (t : Summary). SaysHeader s t (take 14 (header_numbers h))) p (says_header s h w.header)))

says_place : (s : List ℕ) (p : Bounds) (h : Header) → LiesInStore s p h → SaysConstruct s (indexed_in s p h) (take 18 (construct_numbers p h))
says_place s p h i =
    record {
      first = refl;
      end = refl;
      from = refl;
      length = sym (length-take (p.to - p.from) (drop p.from s) ∙ whole);
      text = record { part = refl; inside = i.text };
      header = says_header (bounds_text s p) h i.header;
    }
  where
    whole : min (p.to - p.from) (length (drop p.from s)) ≡ p.to - p.from
    whole = omega (arith, length-drop p.from s, i.text)

pub says_construct : (s : List ℕ) (a : Answer Indexed) (x : FoundIndex) {k : ℕ} {out : List ℕ} → Chooses s a (Ok x) → k ≡ 0
    → out ≡ construct_numbers x.place x.header → ShownAs 18 (SaysConstruct s) a k (take 18 out)
says_construct s a x w z q =
    tells (indexed_in s x.place x.header) w.answers z
    (subst (λ (o : List ℕ). SaysConstruct s (indexed_in s x.place x.header) (take 18 o)) (sym q) (says_place s x.place x.header w.inside))

pub says_file : (s t : List ℕ) (a : Answer File) (h : FileHead) {k : ℕ} {out : List ℕ} → ReadsFile s t a (Ok h) → k ≡ 0 → out ≡ head_numbers h
    → ShownAs 4 (SaysFile s t) a k (take 4 out)
says_file s t a h r z q =
    let (f, g, p) = mapped head_of a _ r.says in
    tells f g z
    (subst (λ (o : List ℕ). SaysFile s t f (take 4 o)) (sym q)
    record {
      length = ap (λ (t : Head). t.length) p;
      name = record { part = ap (λ (t : Head). t.name) p; inside = r.inside };
      place = r.stands;
      rows = ap (λ (t : Head). t.rows) p;
    })

-- a buffer filled, and the number of what was written
module _ {A : Type 0} where
  pub shown_counted : (a : Answer (List A)) {returned : ℕ} {out : List ℕ} → Shown 1 one (count_of a) returned out → Shown 1 how_many a returned out
  shown_counted (Err r) s = record { refusal = s.refusal; holds = s.holds }
  shown_counted (Ok l) s = record { refusal = s.refusal; holds = s.holds }

  pub fills_out : {holds : List A → List ℕ → List ℕ → Type 0} {a : Answer (List A)} {before after : List ℕ} {r : Answer ℕ} {returned told : ℕ}
      → FillsBuffer holds a before after r → Shown 1 one r returned (one told) → FillsOut holds a before after returned told
  fills_out {a = a} {returned = returned} {told = told} p s =
      record { answers = shown_counted a (subst (λ (n : Answer ℕ). Shown 1 one n returned (one told)) p.says s); stored = p.stored }

-- the front beside that number
pub counted_front : {A : Type 0} {s : List ℕ} {a : Answer (List A)} (r : Answer ℕ) {returned count place : ℕ} → Refuses (OfText s) a → r ≡ count_of a
    → Shown 1 one r returned (one count) → place ≡ (shown_place r).front → TellsFront s returned place
counted_front {A} {s} {a = a} r {returned = returned} {count = count} {place = place} q e w p =
    go a q (subst (λ (n : Answer ℕ). Shown 1 one n returned (one count)) e w) (p ∙ ap (λ (n : Answer ℕ). (shown_place n).front) e)
  where
    go : (x : Answer (List A)) → Refuses (OfText s) x → Shown 1 one (count_of x) returned (one count) → place ≡ (shown_place (count_of x)).front → TellsFront s returned place
    go (Err y) o k f = refused_front y o refl k.refusal f
    go (Ok l) o k f = rw (k.refusal, f) no_front
