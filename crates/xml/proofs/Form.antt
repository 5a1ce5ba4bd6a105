-- The XML form: the machine accepts exactly the texts of the grammar; a text has one tree, the one that is read; what holds of that tree; and
-- where a text leaves the form.
use mathlib.Core.Path.{◌≡◌, refl, ◌∙◌, sym}
use mathlib.Core.Bool.{true, false≢true}
use mathlib.Core.List.{List, [], ◌∷◌}
use mathlib.Core.Logic.{◌↔◌}
use Prim.Native.Nat.{ℕ, ◌-◌}
use lib.ListN.{length}
use Rattle.xml.specs.Tree.{Head, Forest}
use Rattle.xml.specs.Grammar.{Document}
use Rattle.xml.specs.Form.{LongestFront}
use Rattle.xml.specs.FormSteps.{Reads}
use Rattle.xml.specs.CheckSteps.{Outcome, good, broken, form, is_good, in_form}
use Rattle.xml.proofs.Fronts.{longest_run}
use Rattle.xml.proofs.Derived.{form_derives}
use Rattle.xml.proofs.Accepted.{derived_form}
use Rattle.xml.proofs.Trees.{tree_read}
use Rattle.xml.proofs.Lawful.{elements_height, elements_lawful}

-- the machine accepts exactly the texts that the grammar derives
pub same_form : (s : List ℕ) → (form s ≡ good) ↔ ((f : Forest) × Document f s)
same_form s = (form_derives s, λ d. derived_form d.1)

pub in_form_lem : (s : List ℕ) → in_form s ≡ true → form s ≡ good
unfolding in_form
in_form_lem s e = go (form s) refl e
  where
    go : (o : Outcome) → form s ≡ o → is_good o ≡ true → form s ≡ good
    go good h g = h
    go (broken u) h g = absurd (false≢true g)

-- a text has one tree
pub one_tree : {f g : Forest} {s : List ℕ} → Document f s → Document g s → f ≡ g
one_tree {f} {g} x y = let e : ◌≡◌ {A = List Forest} (f ∷ []) (g ∷ []) = sym (tree_read x) ∙ tree_read y in cc

document_reads : {f : Forest} {s : List ℕ} → Document f s → (h : Head) × (k : Forest) × Reads s h k
document_reads (Document.document {h} {k} x y) = (
  h,
  k,
  record {
    derived = Document.document x y;
    tree = tree_read (Document.document x y);
    bounded = elements_height y;
    lawful = elements_lawful y;
  },
)

-- what is read off a text in the form
pub form_reads : (s : List ℕ) → form s ≡ good → (h : Head) × (k : Forest) × Reads s h k
form_reads s e = let (f, d) = form_derives s e in document_reads d

-- a refused text, of which u bytes are unread: what was read is its longest front that some text in the form begins with
pub longest_front : (s : List ℕ) (u : ℕ) → form s ≡ broken u → LongestFront s (length s - u)
unfolding form
longest_front s u e =
    let r = longest_run s u e in
    let (f, d) = form_derives _ r.begins.1 in
    record { inside = r.inside; begins = (r.begins.0, f, d); last = λ m t g h i x. r.last m t h i (derived_form x) }
