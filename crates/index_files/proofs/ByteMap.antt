-- A file's rows, written to a lent buffer and read again by the byte map: what it asks for, an index that is read without refusal has passed. So
-- each byte of the file has a place, and only positions from its length on are refused, with 2.
use Rattle.std.specs.Prelude.{Ok, Err}
use mathlib.Core.Path.{◌≡◌, refl, ap, sym, ◌∙◌, subst}
use mathlib.Core.Bool.{Bool, true, false, ◌&&◌}
use mathlib.Core.List.{List, [], ◌∷◌}
use Prim.Native.Nat.{ℕ, zero, suc, ◌+◌, ◌*◌, ◌<◌, ◌≤◌}
use native.Mathlib.Omega.{arith}
use borrow.Author.Tests.{leb-true, lt-ltb, le-ltb}
use lib.Dec.{leb, ltb}
use lib.ListN.{length, take}
use Rattle.refusals.specs.Refusals.{Answer, require, and_then}
use Rattle.refusals.specs.declared.Refusal.TheVariants.{Short, Missing}
use Rattle.slices.specs.Slices.{every}
use Rattle.slices.proofs.Booleans.{and_left, and_right, and_parts}
use Rattle.slices.proofs.Writing.{front_written}
use Rattle.quantities.specs.Letters.{are_letters}
use Rattle.quantities.specs.Sizes.{is_block_size}
use Rattle.values.specs.Values as values
use Rattle.extents.specs.declared.Row.{Row}
use Rattle.extents.specs.Rows.{rows_of, numbers_of}
use Rattle.extents.specs.Lawful.{lawful}
use Rattle.extents.specs.Map.{byte_at, lettered, byte_map}
use Rattle.extents.proofs.Rows.{rows_numbers, length_numbers}
use Rattle.extents.proofs.Mapping.{numbers_mapped}
use Rattle.index_names.specs.declared.Sort.TheVariants.{Index as index}
use Rattle.index_values.specs.Elements.{IndexElement, elements}
use Rattle.index_values.specs.Entries.{uids_of}
use Rattle.index_values.specs.Tests.{Given, valued}
use Rattle.index_values.specs.Different.{different}
use Rattle.index.specs.Index.{Index, File, files_of, all_valued, caller_right, index_of}
use Rattle.index.proofs.EachFile.{files_lettered, files_lawful}
use Rattle.index_files.specs.Asked.{nth, file_in}
use Rattle.index_files.specs.Filling.{with_room, rows_for, HoldsRows, Stored}
use Rattle.index_files.specs.FillingSteps.{FillsBuffer}
use Rattle.index_files.proofs.Accepted.{accepted}

-- an answer that follows from another one's
answered : {A B : Type 0} (a : Answer A) (next : A → Answer B) (b : B) → and_then a next ≡ Ok b → (x : A) × (a ≡ Ok x) × (next x ≡ Ok b)
answered (Err r) next b e = let z : ◌≡◌ {A = ℕ} 0 1 = cc in absurd (omega arith)
answered (Ok x) next b e = (x, refl, e)

-- what each passes, that of number k passes
nth_passes : {A : Type 0} (test : A → Bool) (k : ℕ) (l : List A) (x : A) → every test l ≡ true → nth k l ≡ Ok x → test x ≡ true
unfolding nth
nth_passes test k [] x e n = let z : ◌≡◌ {A = ℕ} 0 1 = cc in absurd (omega arith)
nth_passes test zero (y ∷ l) x e n = let z : y ≡ x = cc in sym (ap test z) ∙ and_left (test y) (every test l) e
nth_passes test (suc k) (y ∷ l) x e n = nth_passes test k l x (and_right (test y) (every test l) e) n

size_right : (g : Given) (letter : ℕ) → caller_right g letter ≡ true → is_block_size g.block_size ≡ true
unfolding caller_right
size_right g letter e =
    and_right (are_letters g.index_letter g.data_letter letter) (is_block_size g.block_size) (and_left _ (values.is_uuid g.uuid) e)

each_valued : (k : List IndexElement) → all_valued k ≡ true → every (λ e. valued e.sort e.head.text) k ≡ true
unfolding all_valued
each_valued k e = and_left _ (different (uids_of k)) e

-- a file of an index
module _ (g : Given) (letter block : ℕ) (text : List ℕ) (k : ℕ) (f : File) (e : file_in k (index_of g letter block text) ≡ Ok f) where
  passed : (is_block_size g.block_size ≡ true) × (lettered f.rows ≡ true) × ((leb (length f.rows) 1024 && lawful f.length g.block_size f.rows) ≡ true)
  passed =
      let (x, i, n) = answered (index_of g letter block text) (λ x. nth k x.files) f e in
      let a = accepted g letter block text x i in
      let m : nth k (files_of (elements index a.kids)) ≡ Ok f = sym (ap (λ (y : Index). nth k y.files) a.says) ∙ n in (
        size_right g letter a.caller,
        nth_passes (λ h. lettered h.rows) k _ f (files_lettered index a.kids a.right (each_valued (elements index a.kids) a.valued)) m,
        nth_passes (λ h. leb (length h.rows) 1024 && lawful h.length g.block_size h.rows) k _ f (files_lawful g (elements index a.kids) a.lawful) m,
      )

  module _ (p : ℕ) where
    mapped : byte_map (numbers_of f.rows) f.length g.block_size p ≡ require (ltb p f.length) Missing (Ok (byte_at g.block_size p f.rows))
    mapped =
        let (size, letters, both) = passed in
        let (few, law) = and_parts (leb (length f.rows) 1024) (lawful f.length g.block_size f.rows) both in
        numbers_mapped f.rows f.length g.block_size p size letters (leb-true (length f.rows) 1024 few) law

    -- a byte of the file has its place
    pub byte_placed : p < f.length → byte_map (numbers_of f.rows) f.length g.block_size p ≡ Ok (byte_at g.block_size p f.rows)
    byte_placed h = mapped ∙ rw (lt-ltb p f.length h)

    -- from its length on there is none
    pub byte_missing : f.length ≤ p → byte_map (numbers_of f.rows) f.length g.block_size p ≡ Err Missing
    byte_missing h = mapped ∙ rw (le-ltb p f.length h)

-- numbers that are the rows of the file that was asked for, and from which the byte map places each of its bytes
pub record ReadAgain (g : Given) (asked : Answer File) (numbers : List ℕ) : Type 0 where
  pub file : File
  pub found : asked ≡ Ok file
  pub rows : rows_of numbers ≡ file.rows
  pub placed : (p : ℕ) → p < file.length → byte_map numbers file.length g.block_size p ≡ Ok (byte_at g.block_size p file.rows)
  pub missing : (p : ℕ) → file.length ≤ p → byte_map numbers file.length g.block_size p ≡ Err Missing

-- what is written is all there is
fits_all : (room : ℕ) (l m : List Row) → with_room 5 room l ≡ Ok m → l ≡ m
fits_all room l m = go (leb (length l * 5) room)
  where
    go : (b : Bool) → require b Short (Ok l) ≡ Ok m → l ≡ m
    go true e = cc
    go false e = let z : ◌≡◌ {A = ℕ} 0 1 = cc in absurd (omega arith)

-- the rows in the front of a buffer
front_rows : (l : List Row) (before after : List ℕ) → HoldsRows l before after → take (length l * 5) after ≡ numbers_of l
front_rows l before after e =
    let n : length l * 5 ≡ 0 + length (numbers_of l) = omega (arith, length_numbers l) in
    ap (λ (m : ℕ). take m after) n ∙ ap (take (0 + length (numbers_of l))) e ∙ front_written 0 (numbers_of l) before (omega arith)

module _ (g : Given) (letter block : ℕ) (text : List ℕ) (k room : ℕ) (before after : List ℕ) where
  abbrev asked : Answer File
  asked = file_in k (index_of g letter block text)

  -- where n rows were written, as `index_files::rows` promises it, the first n fives are read again
  pub read_again : (n : ℕ) → FillsBuffer HoldsRows (rows_for room asked) before after (Ok n) → ReadAgain g asked (take (n * 5) after)
  read_again n w =
      let (l, r, c) = answered (rows_for room asked) (λ l. Ok (length l)) n (sym w.says) in
      let (f, i, q) = answered asked (λ f. with_room 5 room f.rows) l r in
      let z : f.rows ≡ l = fits_all room f.rows l q in
      let h : HoldsRows l before after = stored r in
      let m : n ≡ length l = cc in
      let s : take (n * 5) after ≡ numbers_of f.rows = ap (λ (j : ℕ). take (j * 5) after) m ∙ front_rows l before after h ∙ sym (ap numbers_of z) in
      record {
        file = f;
        found = i;
        rows = ap rows_of s ∙ rows_numbers f.rows;
        placed = λ p a. ap (λ (o : List ℕ). byte_map o f.length g.block_size p) s ∙ byte_placed g letter block text k f i p a;
        missing = λ p a. ap (λ (o : List ℕ). byte_map o f.length g.block_size p) s ∙ byte_missing g letter block text k f i p a;
      }
    where
      stored : {l : List Row} → rows_for room asked ≡ Ok l → HoldsRows l before after
      stored r = subst (λ (a : Answer (List Row)). Stored HoldsRows a before after) r w.stored
