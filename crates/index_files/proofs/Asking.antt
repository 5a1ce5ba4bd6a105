-- Files by their numbers.
use Rattle.std.specs.Prelude.{Err, Ok}
use mathlib.Core.Path.{◌≡◌, refl, ap, sym, ◌∙◌}
use mathlib.Core.List.{List, [], ◌∷◌, map}
use Prim.Native.Nat.{ℕ, zero, suc, ◌-◌}
use native.Mathlib.Omega.{arith}
use lib.ListN.{length, take, drop, get_or}
use Rattle.refusals.specs.Refusals.{Answer, and_then}
use Rattle.refusals.specs.declared.Refusal.{Refusal}
use Rattle.refusals.specs.declared.Refusal.TheVariants.{Missing}
use Rattle.elements.specs.Reading.{left_at, forest_at, children_at}
use Rattle.elements.specs.TagSteps.{FirstOf}
use Rattle.index_values.specs.Tests.{Given, rows_in}
use Rattle.index.specs.Index.{Index, File, Summary, summary, summary_of, file_of, index_of}
use Rattle.index_files.specs.Names.{all_file_tags}
use Rattle.index_files.specs.FileSteps.{files_left, files_from, file_tags_from}
use Rattle.index_files.specs.Asked.{nth, file_in}
use Rattle.index_files.specs.AskedSteps.{FileShown, shown, HeadOf}
use Rattle.index_files.specs.declared.asked.FileHead.{FileHead}
use Rattle.index_files.proofs.Mapped.{mapped, mapped_refused}
use Rattle.index_files.proofs.Meeting.{rows_first}
use Rattle.index_files.proofs.AllFiles.{files_left_lem, tags_left_lem}

module _ {A : Type 0} where
  pub nth_none : (k : ℕ) (l : List A) → l ≡ [] → Err Missing ≡ nth k l
  unfolding nth
  nth_none k l e = sym (ap (nth k) e)

  pub nth_first : (k : ℕ) (x : A) (l r : List A) → l ≡ x ∷ r → k ≡ 0 → Ok x ≡ nth k l
  unfolding nth
  nth_first k x l r e z = sym (ap (nth k) e ∙ ap (λ (n : ℕ). nth n (x ∷ r)) z)

  pub nth_later : (k : ℕ) (x : A) (l r : List A) → l ≡ x ∷ r → (k ≡ 0 → ⊥) → nth k l ≡ nth (k - 1) r
  unfolding nth
  nth_later k x l r e z = let n : k ≡ suc (k - 1) = omega (arith, z) in ap (nth k) e ∙ ap (λ (n : ℕ). nth n (x ∷ r)) n

  -- the same with a value for none
  pub getd_first : (k : ℕ) (d x : A) (l r : List A) → l ≡ x ∷ r → k ≡ 0 → x ≡ get_or l k d
  getd_first k d x l r e z = sym (ap (λ (y : List A). get_or y k d) e ∙ ap (λ (n : ℕ). get_or (x ∷ r) n d) z)

  pub getd_later : (k : ℕ) (d x : A) (l r : List A) → l ≡ x ∷ r → (k ≡ 0 → ⊥) → get_or l k d ≡ get_or r (k - 1) d
  getd_later k d x l r e z =
      let n : k ≡ suc (k - 1) = omega (arith, z) in ap (λ (y : List A). get_or y k d) e ∙ ap (λ (n : ℕ). get_or (x ∷ r) n d) n

  nth_map : {B : Type 0} (f : A → B) (k : ℕ) (l : List A) → nth k (map f l) ≡ and_then (nth k l) (λ x. Ok (f x))
  unfolding nth
  nth_map f k [] = refl
  nth_map f zero (x ∷ l) = refl
  nth_map f (suc k) (x ∷ l) = nth_map f k l

-- what follows from the files of an index, by what is read of it
module _ (g : Given) (letter block : ℕ) (text : List ℕ) where
  module _ {B : Type 0} (next : List File → Answer B) where
    pub index_refused : (r : Refusal) → Err r ≡ summary_of (index_of g letter block text) → Err r ≡ and_then (index_of g letter block text) (λ x. next x.files)
    index_refused r e = ap (λ (a : Answer Index). and_then a (λ x. next x.files)) (mapped_refused summary (index_of g letter block text) r e)

    pub index_found : (t : Summary) → Ok t ≡ summary_of (index_of g letter block text) → next (files_from text 38) ≡ and_then (index_of g letter block text) (λ x. next x.files)
    index_found t e =
        let (x, w, z) = mapped summary (index_of g letter block text) t e in
        ap next (files_left_lem g letter block text x (sym w)) ∙ ap (λ (a : Answer Index). and_then a (λ x. next x.files)) w

  pub tags_found : (t : Summary) → Ok t ≡ summary_of (index_of g letter block text) → file_tags_from text 38 ≡ all_file_tags text
  tags_found t e = let (x, w, z) = mapped summary (index_of g letter block text) t e in tags_left_lem g letter block text x (sym w)

  pub file_found : (k : ℕ) (t : Summary) → Ok t ≡ summary_of (index_of g letter block text)
      → and_then (nth k (files_left (left_at text 38))) (λ c. Ok (file_of c)) ≡ file_in k (index_of g letter block text)
  file_found k t e = sym (nth_map file_of k (files_left (left_at text 38))) ∙ index_found (nth k) t e

-- rows counted along a row of elements
pub rows_counted : (s : List ℕ) (i : ℕ) {n j : ℕ} → FirstOf s i n j → length (rows_in (forest_at s i)) ≡ suc (length (rows_in (forest_at s j)))
rows_counted s i f = ap length (rows_first s i f)

-- what is handed out of a file
pub head_shown : (s : List ℕ) (n : ℕ) (h : FileHead) → HeadOf s n h
    → ◌≡◌ {A = Answer FileShown} (Ok (record { length = h.length.0; name = take h.name.len (drop h.name.from s); rows = h.rows })) (Ok (shown (file_of (children_at s n))))
head_shown s n h w = same_shown w.length w.name.part w.rows
  where
    same_shown : {n m i j : ℕ} {a b : List ℕ} → n ≡ m → a ≡ b → i ≡ j
        → ◌≡◌ {A = Answer FileShown} (Ok (record { length = n; name = a; rows = i })) (Ok (record { length = m; name = b; rows = j }))
    same_shown p q r = cc
