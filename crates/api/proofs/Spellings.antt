-- What is promised for C of an index is the same whichever way the volume's UUID is spelled when it is given (02, Item 3).
use mathlib.Core.Path.{◌≡◌, ap}
use mathlib.Core.Bool.{true}
use mathlib.Core.List.{List}
use Prim.Native.Nat.{ℕ}
use lib.ListN.{length}
use Rattle.refusals.specs.Refusals.{Answer}
use Rattle.values.specs.Values.{same_uuid}
use Rattle.index.specs.Index.{Index}
use Rattle.index.proofs.Spellings.{index_respelled}
use Rattle.index_files.specs.Names.{file_tag}
use Rattle.index_files.specs.Asked.{file_in}
use Rattle.index_files.specs.Filling.{SaysFile, rows_for}
use Rattle.volume.specs.Chosen.{Indexed, text_asked}
use Rattle.volume.proofs.Spellings.{chosen_respelled}
use Rattle.api.specs.Outputs.{ShownAs}
use Rattle.api.specs.Fronts.{WithFront}
use Rattle.api.specs.Indexes.{SaysIndex, SaysConstruct, ShowsRows, ShowsWhole, ReadsIndexOut, ReadsFileOut, FillsRows, ReadsWholeOut, ReadsConstructOut}

module _ (u w : List ℕ) (e : same_uuid u w ≡ true) (index other size : ℕ) where
  -- the promises of klapouzen_read_index, _read_file, _read_rows and _read_whole, and of klapouzen_index
  pub record SamePromises : Type 1 where
    pub read_index : (s : List ℕ) (letter block : ℕ) → ReadsIndexOut u index other size s letter block ≡ ReadsIndexOut w index other size s letter block
    pub read_file : (s : List ℕ) (letter block file : ℕ) → ReadsFileOut u index other size s letter block file ≡ ReadsFileOut w index other size s letter block file
    pub read_rows : (s : List ℕ) (letter block file : ℕ) (rows : List ℕ) → FillsRows u index other size s letter block file rows ≡ FillsRows w index other size s letter block file rows
    pub read_whole : (s : List ℕ) (letter block : ℕ) → ReadsWholeOut u index other size s letter block ≡ ReadsWholeOut w index other size s letter block
    pub index_of_construct : (l s : List ℕ) (letter number : ℕ) → ReadsConstructOut u index other size l s letter number ≡ ReadsConstructOut w index other size l s letter number

  pub either_spelling : SamePromises
  either_spelling =
      let read = index_respelled u w e index other size in
      record {
        read_index = λ s letter block. ap (λ (a : Answer Index). WithFront 14 s (ShownAs 14 (SaysIndex s) a)) (read letter block s);
        read_file = λ s letter block file. ap (λ (a : Answer Index). WithFront 4 s (ShownAs 4 (SaysFile s (file_tag s file)) (file_in file a))) (read letter block s);
        read_rows = λ s letter block file rows. ap (λ (a : Answer Index). ShowsRows s (rows_for (length rows) (file_in file a)) rows) (read letter block s);
        read_whole = λ s letter block. ap {B = List ℕ → List ℕ → List ℕ → List ℕ → ℕ → List ℕ → Type 0} (λ (a : Answer Index) e e' o o'. WithFront 14 s (ShowsWhole s a e e' o o')) (read letter block s);
        index_of_construct = λ l s letter number. ap (λ (a : Answer Indexed). WithFront 18 (text_asked size number l s) (ShownAs 18 (SaysConstruct s) a)) (chosen_respelled u w e index other size letter number l s);
      }
