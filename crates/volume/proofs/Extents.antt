-- The extents of an index that reads lie on what is kept where the tables say so.
use Rattle.std.specs.Prelude.{None, Option, Some, Ok}
use Rattle.std.specs.List.{position_or_len}
use Rattle.std.specs.Option.{option_map}
use mathlib.Core.Path.{◌≡◌, refl, sym, ap, subst, ◌∙◌}
use mathlib.Core.Bool.{Bool, true, false, cond, not, ◌&&◌}
use mathlib.Core.List.{List, [], ◌∷◌, map}
use Prim.Native.Nat.{ℕ, suc, ◌+◌, ◌≤◌, ◌<◌}
use native.Mathlib.Omega.{arith}
use borrow.Author.Tests.{leb-true, ltb-true, ltb-false, lt-ltb, le-ltb, eq-eqb, ne_eqb}
use lib.Dec.{leb, ltb}
use lib.ListN.{length, take}
use Rattle.refusals.specs.Refusals.{Answer}
use Rattle.slices.specs.Slices.{every}
use Rattle.slices.proofs.Booleans.{and_left, and_right}
use Rattle.quantities.specs.Letters.{are_letters}
use Rattle.quantities.specs.Sizes.{is_block_size}
use Rattle.values.specs.Values.{is_uuid}
use Rattle.extents.specs.declared.Row.{Row}
use Rattle.extents.specs.Lawful.{row_lawful, lawful, each_lawful, apart, row_end, last_block}
use Rattle.constructs.specs.ReachSteps.{lies_by}
use Rattle.constructs.proofs.Lying.{lies_by_lem}
use Rattle.index_names.specs.declared.Sort.TheVariants.{Index as index}
use Rattle.index_values.specs.Elements.{elements}
use Rattle.index_values.specs.Tests.{Given, extent_rows}
use Rattle.index.specs.Index as text
use Rattle.index.specs.Index.{File, file_of, files_of, index_of, caller_right}
use Rattle.index_values.specs.declared.tests.Partitions.{Partitions}
use Rattle.elements.specs.Reading.{left_at}
use Rattle.xml.specs.Tree.{Forest}
use Rattle.index_files.specs.FileSteps.{files_left}
use Rattle.index_files.proofs.AllFiles.{files_left_lem}
use Rattle.index.proofs.EachFile.{files_lawful}
use Rattle.index_files.proofs.Accepted.{accepted}
use Rattle.verdict.specs.Verdict.{first_failing, lies, bad_file_in}
use Rattle.volume.specs.Volume.{rows_of_each, soundly, volume_with}
use Rattle.volume.specs.Steps.{ReachTable, lies_in, Loses}

-- a file's extents are few, and lawful for its length and blocks of size B
abbrev file_lawful : ℕ → File → Bool
file_lawful B f = leb (length f.rows) 1024 && lawful f.length B f.rows

-- a lawful row has a byte
row_byte : (L B : ℕ) (r : Row) → row_lawful L B r ≡ true → 1 ≤ r.byteoffset + r.bytecount
unfolding row_lawful
row_byte L B r e =
    let r₃ : Bool = leb 1 r.bytecount && ltb r.byteoffset B && leb (row_end r) L in
    let b = and_left r₃ (leb (last_block B r) 18446744073709551615) e in
    let c = and_left (leb 1 r.bytecount && ltb r.byteoffset B) (leb (row_end r) L) b in
    let a : 1 ≤ r.bytecount = leb-true 1 r.bytecount (and_left (leb 1 r.bytecount) (ltb r.byteoffset B) c) in
    omega arith

module _ (g : Given) (w : Partitions) (li ld ri rd : List ℕ) (ki kd : ℕ) (i : ReachTable g.block_size li ri) (d : ReachTable g.block_size ld rd)
    (hi : ki ≤ length li) (hd : kd ≤ length ld) (hB : 1 ≤ g.block_size)
    (first : w.index_letter ≡ g.index_letter) (other : w.data_letter ≡ g.data_letter) (size : w.block_size ≡ g.block_size) where
  lies_same : (r : Row) → 1 ≤ r.byteoffset + r.bytecount → lies_in w ri ki rd kd r ≡ lies (volume_with g) (take ki li) (take kd ld) r
  unfolding lies
  lies_same r h =
      rw (first, other, size, lies_by_lem ri li i.rest g.block_size ki r i.holds hi hB h, lies_by_lem rd ld d.rest g.block_size kd r d.holds hd hB h)

  every_same : (L B : ℕ) (rows : List Row) → every (row_lawful L B) rows ≡ true
      → every (lies_in w ri ki rd kd) rows ≡ every (lies (volume_with g) (take ki li) (take kd ld)) rows
  every_same L B [] e = refl
  every_same L B (r ∷ rows) e =
      let a = row_byte L B r (and_left (row_lawful L B r) (every (row_lawful L B) rows) e) in
      rw (lies_same r a, every_same L B rows (and_right (row_lawful L B r) (every (row_lawful L B) rows) e))

  failing_same : (k : ℕ) (fs : List File) → every (file_lawful g.block_size) fs ≡ true
      → first_failing (every (lies_in w ri ki rd kd)) k (rows_of_each fs) ≡ first_failing (every (lies (volume_with g) (take ki li) (take kd ld))) k (rows_of_each fs)
  unfolding first_failing rows_of_each lawful
  failing_same k [] h = refl
  failing_same k (f ∷ fs) h =
      let e = and_right (leb (length f.rows) 1024) (lawful f.length g.block_size f.rows) (and_left (file_lawful g.block_size f) (every (file_lawful g.block_size) fs) h) in
      let a = every_same f.length g.block_size f.rows (and_left (each_lawful f.length g.block_size f.rows) (apart f.rows) e) in
      rw (a, failing_same (suc k) fs (and_right (file_lawful g.block_size f) (every (file_lawful g.block_size) fs) h))

-- the caller's block size is at least 1
size_one : (g : Given) (letter : ℕ) → caller_right g letter ≡ true → 1 ≤ g.block_size
unfolding caller_right
size_one g letter e =
    let r : Bool = are_letters g.index_letter g.data_letter letter in
    let d = and_right r (is_block_size g.block_size) (and_left (r && is_block_size g.block_size) (is_uuid g.uuid) e) in
    let f : 4096 ≤ g.block_size = leb-true 4096 g.block_size (and_left (leb 4096 g.block_size) (leb g.block_size 1048576) d) in
    omega arith

-- of an index that reads: the lowest file by the tables is the lowest by the definition
pub lost_same : (g : Given) (w : Partitions) (li ld ri rd : List ℕ) (ki kd letter block : ℕ) (t : List ℕ) (x : text.Index)
    → ReachTable g.block_size li ri → ReachTable g.block_size ld rd → ki ≤ length li → kd ≤ length ld
    → w.index_letter ≡ g.index_letter → w.data_letter ≡ g.data_letter → w.block_size ≡ g.block_size
    → index_of g letter block t ≡ Ok x
    → first_failing (every (lies_in w ri ki rd kd)) 0 (rows_of_each x.files) ≡ bad_file_in (volume_with g) (soundly (index_of g letter block t)) (take ki li) (take kd ld)
lost_same g w li ld ri rd ki kd letter block t x i d hi hd a b c e =
    let r = accepted g letter block t x e in
    let y : x.files ≡ files_of (elements index r.kids) = ap (λ (z : text.Index). z.files) r.says in
    let l : every (file_lawful g.block_size) x.files ≡ true = subst (λ (fs : List File). every (file_lawful g.block_size) fs ≡ true) (sym y) (files_lawful g (elements index r.kids) r.lawful) in
    failing_same g w li ld ri rd ki kd i d hi hd (size_one g letter r.caller) a b c 0 x.files l
    ∙ ap (λ (z : Answer text.Index). bad_file_in (volume_with g) (soundly z) (take ki li) (take kd ld)) (sym e)

-- a row by its letter
module _ (w : Partitions) (ri : List ℕ) (ki : ℕ) (rd : List ℕ) (kd : ℕ) (r : Row) where
  pub row_first : (b : Bool) → r.letter ≡ w.index_letter → b ≡ lies_by ri w.block_size ki r.startblock r.byteoffset r.bytecount → b ≡ lies_in w ri ki rd kd r
  row_first b e h = rw (eq-eqb _ _ e) h

  pub row_other : (b : Bool) → (r.letter ≡ w.index_letter → ⊥) → r.letter ≡ w.data_letter → b ≡ lies_by rd w.block_size kd r.startblock r.byteoffset r.bytecount
      → b ≡ lies_in w ri ki rd kd r
  row_other b n e h = rw (ne_eqb _ _ n, eq-eqb _ _ e) h

  pub row_neither : (r.letter ≡ w.index_letter → ⊥) → (r.letter ≡ w.data_letter → ⊥) → false ≡ lies_in w ri ki rd kd r
  row_neither n m = rw (ne_eqb _ _ n, ne_eqb _ _ m)

-- a place one further on
place_on : (p m k : ℕ) → option_map (λ n. k + n) (cond (ltb (1 + p) (suc m)) (Some (1 + p)) None) ≡ option_map (λ n. suc k + n) (cond (ltb p m) (Some p) None)
place_on p m k = go (ltb p m) refl
  where
    go : (b : Bool) → ltb p m ≡ b → option_map (λ n. k + n) (cond (ltb (1 + p) (suc m)) (Some (1 + p)) None) ≡ option_map (λ n. suc k + n) (cond (ltb p m) (Some p) None)
    go true e =
        let h : 1 + p < suc m = omega (arith, ltb-true p m e) in
        let n : k + (1 + p) ≡ suc k + p = omega arith in
        rw (e, lt-ltb (1 + p) (suc m) h) (ap Some n)
    go false e =
        let h : suc m ≤ 1 + p = omega (arith, ltb-false p m e) in
        rw (e, le-ltb (1 + p) (suc m) h) refl

-- the first file that fails a test of its rows is the first that passes the opposite one
module _ (Q : List Row → Bool) where
  abbrev pub fails : Forest → Bool
  fails c = not (Q (extent_rows c))

  abbrev pub first_place : List Forest → Option ℕ
  first_place l = cond (ltb (position_or_len fails l) (length l)) (Some (position_or_len fails l)) None

  failing_from : (k : ℕ) (l : List Forest) → option_map (λ n. k + n) (first_place l) ≡ first_failing Q k (map extent_rows l)
  unfolding first_failing
  failing_from k [] = refl
  failing_from k (c ∷ l) = go (Q (extent_rows c)) refl (failing_from (suc k) l)
    where
      go : (b : Bool) → Q (extent_rows c) ≡ b → option_map (λ n. suc k + n) (first_place l) ≡ first_failing Q (suc k) (map extent_rows l)
          → option_map (λ n. k + n) (first_place (c ∷ l)) ≡ first_failing Q k (map extent_rows (c ∷ l))
      go false e i =
          let z : k + 0 ≡ k = omega arith in
          let h : ltb 0 (suc (length l)) ≡ true = lt-ltb 0 (suc (length l)) (omega arith) in
          rw e (ap (λ (b : Bool). option_map (λ n. k + n) (cond b (Some 0) None)) h ∙ ap Some z)
      go true e i = rw e (place_on (position_or_len fails l) (length l) k ∙ i)

  pub first_lost_lem : (l : List Forest) (r : Option ℕ) → r ≡ first_place l → r ≡ first_failing Q 0 (map extent_rows l)
  first_lost_lem l r e = e ∙ go (first_place l) ∙ failing_from 0 l
    where
      go : (o : Option ℕ) → o ≡ option_map (λ n. 0 + n) o
      go None = refl
      go (Some n) = let z : n ≡ 0 + n = omega arith in ap Some z

rows_of_files : (l : List Forest) → rows_of_each (map file_of l) ≡ map extent_rows l
unfolding rows_of_each
rows_of_files [] = refl
rows_of_files (c ∷ l) = ap (λ (x : List (List Row)). extent_rows c ∷ x) (rows_of_files l)

-- the files that are read along the text are those of the index
pub loses : (t : List ℕ) (w : Partitions) (ri : List ℕ) (ki : ℕ) (rd : List ℕ) (kd : ℕ) (r : Option ℕ)
    → r ≡ first_failing (every (lies_in w ri ki rd kd)) 0 (map extent_rows (files_left (left_at t 38))) → Loses t w ri ki rd kd r
loses t w ri ki rd kd r h g letter block x e =
    h ∙ ap (first_failing (every (lies_in w ri ki rd kd)) 0) (sym (rows_of_files (files_left (left_at t 38))) ∙ ap rows_of_each (files_left_lem g letter block t x e))
