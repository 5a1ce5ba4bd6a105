-- What holds of a text that is read as an index without refusal: it is in the XML form, its root, its structure and its values are right,
-- its extents are lawful, and what it says is what its children say.
use Rattle.std.specs.Prelude.{Ok}
use mathlib.Core.Path.{◌≡◌, ap, sym, ◌∙◌}
use mathlib.Core.Bool.{true, ◌&&◌}
use mathlib.Core.List.{List}
use Prim.Native.Nat.{ℕ}
use lib.Dec.{leb}
use lib.ListN.{length}
use Rattle.refusals.proofs.Refusing.{passed}
use Rattle.refusals.specs.Refusals.{Answer, require, left_at}
use Rattle.refusals.specs.declared.Refusal.TheVariants.{Caller, TooMany, Form, Structure, Version, Value, Foreign, Extents, Location}
use Rattle.slices.specs.Slices.{every, same}
use Rattle.slices.specs.Words.{bytes}
use Rattle.slices.proofs.Booleans.{and_left, and_right}
use Rattle.xml.specs.Tree.{Head, Forest, none, node}
use Rattle.xml.specs.FormSteps.{Reads}
use Rattle.xml.specs.CheckSteps.{in_form, front, require_form}
use Rattle.xml.proofs.Form.{form_reads, in_form_lem}
use Rattle.elements.specs.Reading.{forest_at}
use Rattle.elements.proofs.Roots.{root_row}
use Rattle.values.specs.Values as values
use Rattle.index_names.specs.declared.Sort.TheVariants.{Index as index}
use Rattle.index_values.specs.Elements.{elements}
use Rattle.index.specs.Structure.{complete, rightly}
use Rattle.index_values.specs.Entries.{or_zero}
use Rattle.index_values.specs.Tests.{Given, is_some}
use Rattle.index.specs.Index.{Index, index_with, structured, bounded, all_valued, all_own, all_lawful, stands_at, location_in, children_read, tag_read, root_read, caller_right, index_of}

pub record Accepted (g : Given) (letter : ℕ) (text : List ℕ) (x : Index) : Type 0 where
  pub caller : caller_right g letter ≡ true
  pub head : Head
  pub kids : Forest
  pub release : ℕ
  pub reads : Reads text head kids
  pub name : same head.name (bytes "ltfsindex") ≡ true
  pub right : every rightly (elements index kids) ≡ true
  pub valued : all_valued (elements index kids) ≡ true
  pub lawful : all_lawful g (elements index kids) ≡ true
  pub says : x ≡ index_with release kids

module _ (g : Given) (letter block : ℕ) (x : Index) where
  children_accepted : (release : ℕ) (k : Forest) → children_read g letter block release k ≡ Ok x → (structured k ≡ true) × (all_valued (elements index k) ≡ true) × (all_lawful g (elements index k) ≡ true) × (x ≡ index_with release k)
  unfolding children_read
  children_accepted release k e =
      let l = elements index k in
      let a6 : Answer Index = Ok (index_with release k) in
      let a5 = require (stands_at letter block (location_in k)) Location a6 in
      let a4 = require (all_lawful g l) Extents a5 in
      let a3 = require (all_own g l) Foreign a4 in
      let a2 = require (all_valued l) Value a3 in
      let a1 = require (bounded l) TooMany a2 in
      let p0 = passed Structure a1 x (structured k) e in
      let p1 = passed TooMany a2 x (bounded l) p0.1 in
      let p2 = passed Value a3 x (all_valued l) p1.1 in
      let p3 = passed Foreign a4 x (all_own g l) p2.1 in
      let p4 = passed Extents a5 x (all_lawful g l) p3.1 in
      let p5 = passed Location a6 x (stands_at letter block (location_in k)) p4.1 in
      let z : ◌≡◌ {A = Answer Index} (Ok (index_with release k)) (Ok x) = p5.1 in
      (p0.0, p2.0, p4.0, same_answer z)
    where
      same_answer : {y : Index} → ◌≡◌ {A = Answer Index} (Ok y) (Ok x) → x ≡ y
      same_answer e = cc

  root_accepted : (text : List ℕ) (h : Head) (k : Forest) → caller_right g letter ≡ true → Reads text h k → root_read g letter block (node h k none) ≡ Ok x → Accepted g letter text x
  unfolding root_read tag_read structured
  root_accepted text h k right form e =
      let n = or_zero (values.version h.value) in
      let p0 = passed Structure (require (is_some (values.version h.value)) Version (children_read g letter block n k)) x (same h.name (bytes "ltfsindex") && same h.key (bytes "version")) e in
      let p1 = passed Version (children_read g letter block n k) x (is_some (values.version h.value)) p0.1 in
      let p2 = children_accepted n k p1.1 in
      record {
        caller = right;
        head = h;
        kids = k;
        release = n;
        reads = form;
        name = and_left (same h.name (bytes "ltfsindex")) (same h.key (bytes "version")) p0.0;
        right = and_right (complete index k) (every rightly (elements index k)) p2.0;
        valued = p2.1;
        lawful = p2.2;
        says = p2.3;
      }

pub accepted : (g : Given) (letter block : ℕ) (text : List ℕ) (x : Index) → index_of g letter block text ≡ Ok x → Accepted g letter text x
unfolding index_of
accepted g letter block text x e =
    let a2 = root_read g letter block (forest_at text 38) in
    let a1 = require_form text a2 in
    let p0 = passed Caller (require (leb (length text) 1048576) TooMany a1) x (caller_right g letter) e in
    let p1 = passed TooMany a1 x (leb (length text) 1048576) p0.1 in
    let p2 = passed (Form (left_at (front text))) a2 x (in_form text) p1.1 in
    let (h, k, r) = form_reads text (in_form_lem text p2.0) in
    root_accepted g letter block x text h k p0.0 r (ap (root_read g letter block) (sym (root_row r)) ∙ p2.1)
