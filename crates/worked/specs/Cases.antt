-- Document 01's starred cases (01, Bench examples), each a test of the definitions: one table.
use Rattle.refusals.specs.declared.Refusal.{Refusal}
use Rattle.std.specs.Prelude.{Bool, true, false, not, ◌&&◌, ◌||◌, List, [], ◌∷◌, ◌++◌, ℕ, eqb, ltb, length, Err, None, Ok, Result, Some}
use Prim.Native.String.{String}
use Rattle.refusals.specs.Refusals.{Answer, and_then, number_of, shown_number}
use Rattle.slices.specs.Slices.{same}
use Rattle.slices.specs.Words.{bytes}
use Rattle.extents.specs.Rows.{rows_of}
use Rattle.extents.specs.Lawful.{lawful}
use Rattle.extents.specs.Map.{BytePlace, byte_map}
use Rattle.tape.specs.Tape.{Tape, mark, block, list}
use Rattle.constructs.specs.Constructs.{Construct, standing}
use Rattle.label.specs.Label.{Label}
use Rattle.index.specs.Index.{index_of}
use Rattle.label_writer.specs.Text.{escaped, label_text, is_given}
use Rattle.writing.specs.Writing.{answered}

-- VOL1, mark, label, mark, mark, one index block, mark: of any three blocks
abbrev pub fresh : List ℕ → List ℕ → List ℕ → Tape
fresh vol1 label index = block vol1 ∷ mark ∷ block label ∷ mark ∷ mark ∷ block index ∷ mark ∷ []

-- one construct stands, with its first block at n
abbrev pub stands_alone : ℕ → List Construct → Bool
stands_alone n [] = false
stands_alone n (c ∷ []) = eqb c.first n
stands_alone n (c ∷ d ∷ cs) = false

-- the index of a fresh partition is at n, if its block is no longer than the block size
abbrev pub index_at : ℕ → ℕ → List ℕ → List ℕ → List ℕ → Bool
index_at n B vol1 label index = ltb B (length index) || stands_alone n (standing B (fresh vol1 label index))

-- an entry's times
unfoldable pub sample_times : List ℕ
sample_times =
    bytes "<creationtime>2010-02-01T18:35:47.866846222Z</creationtime><changetime>2010-02-01T18:35:47.866846222Z</changetime>"
    ++ bytes "<modifytime>2010-02-01T18:35:47.866846222Z</modifytime><accesstime>2010-02-01T18:35:47.866846222Z</accesstime>"
    ++ bytes "<backuptime>2010-02-01T18:35:47.866846222Z</backuptime>"

-- an index's text, with that text as its highest fileuid
unfoldable pub sample_index : String → List ℕ
sample_index number =
    bytes "<?xml version=\"1.0\" encoding=\"UTF-8\"?><ltfsindex version=\"2.0.1\"><creator>LTFS</creator>"
    ++ bytes "<volumeuuid>30a91a08-daae-48d1-ae75-69804e61d2ea</volumeuuid><generationnumber>1</generationnumber>"
    ++ bytes "<updatetime>2010-02-01T18:35:47.866846222Z</updatetime><location><partition>a</partition><startblock>5</startblock></location>"
    ++ bytes "<allowpolicyupdate>true</allowpolicyupdate><highestfileuid>" ++ bytes number ++ bytes "</highestfileuid>"
    ++ bytes "<directory><fileuid>1</fileuid><name/>" ++ sample_times ++ bytes "<readonly>false</readonly><contents/></directory></ltfsindex>"

-- the highest fileuid of that index, as its reader tells it
abbrev pub read_number : String → Answer ℕ
read_number number =
    and_then (index_of (record { uuid = bytes "30a91a08-daae-48d1-ae75-69804e61d2ea"; index_letter = 97; data_letter = 98; block_size = 524288 }) 97 5 (sample_index number))
    (λ x. Ok x.heading.highestfileuid)

abbrev pub says : ℕ → Answer ℕ → Bool
says n (Err r) = false
says n (Ok m) = eqb m n

-- the row (b, 10, 100, 8000, 0), for a file of 9000 bytes and blocks of 4096
abbrev pub maps_at : ℕ → Answer BytePlace
maps_at p = byte_map (98 ∷ 10 ∷ 100 ∷ 8000 ∷ 0 ∷ []) 9000 4096 p

abbrev pub is_stored : ℕ → ℕ → Answer BytePlace → Bool
is_stored k n (Err r) = false
is_stored k n (Ok None) = false
is_stored k n (Ok (Some x)) = eqb x.letter 98 && eqb x.block.0 k && eqb x.byte.0 n

abbrev pub is_unstored : Answer BytePlace → Bool
is_unstored (Err r) = false
is_unstored (Ok None) = true
is_unstored (Ok (Some x)) = false

module _ {A : Type 0} where
  abbrev pub is_refused : ℕ → Answer A → Bool
  is_refused n a = eqb (shown_number a) n

-- a row of n bytes from file position p on
abbrev pub row_numbers : ℕ → ℕ → List ℕ → List ℕ
row_numbers p n rest = 98 ∷ 10 ∷ 0 ∷ n ∷ p ∷ rest

-- a label that may be written, with a 4-byte creator that needs no escape, block size 524288, compression true
unfoldable pub is_bench : Label → Bool
is_bench f = is_given f && eqb (length f.creator) 4 && same (escaped f.creator) f.creator && eqb f.block_size 524288 && f.compression

-- one of them
unfoldable pub sample : Label
sample =
    record {
      release = 1;
      creator = bytes "LTFS";
      time = bytes "2010-02-01T18:35:47.866846222Z";
      uuid = bytes "30a91a08-daae-48d1-ae75-69804e61d2ea";
      location = 97;
      index_letter = 97;
      data_letter = 98;
      block_size = 524288;
      compression = true;
    }

-- a writer's answer is the refusal of this number
abbrev pub refuses : ℕ → Result ℕ Refusal → Bool
refuses n (Ok end) = false
refuses n (Err r) = eqb (number_of r) n

abbrev pub bench_length : Label → Bool
bench_length f = not (is_bench f) || eqb (length (label_text f)) 378

abbrev pub bench_short : Label → List ℕ → Bool
bench_short f b = not (is_bench f && eqb (length b) 377) || refuses 10 (answered (is_given f) (label_text f) b)

-- f is any label, b any buffer, B any block size; x, y and z are any blocks
unfoldable pub cases : Label → List ℕ → ℕ → List ℕ → List ℕ → List ℕ → List Bool
cases f b B x y z =
    -- a fresh partition has 7 elements
    eqb (length (fresh x y z)) 7
    -- its list has 19 bytes
    ∷ eqb (length (list (fresh x y z))) 19
    -- its index is at 5
    ∷ index_at 5 B x y z
    -- 18446744073709551615 reads
    ∷ says 18446744073709551615 (read_number "18446744073709551615")
    -- 18446744073709551616 is 6
    ∷ is_refused 6 (read_number "18446744073709551616")
    -- 007 is 7 (02, Item 2)
    ∷ says 7 (read_number "007")
    -- a label such as the bench's, of which there is one, has 378 bytes
    ∷ is_bench sample
    ∷ bench_length f
    -- a buffer of 377 gives 10
    ∷ bench_short f b
    -- position 3995 is block 10 byte 4095, 3996 is block 11 byte 0, 8000 is an unstored zero, 9000 is refused 2
    ∷ is_stored 10 4095 (maps_at 3995)
    ∷ is_stored 11 0 (maps_at 3996)
    ∷ is_unstored (maps_at 8000)
    ∷ is_refused 2 (maps_at 9000)
    -- rows of positions 0 to 9 and 10 to 19 are lawful, 0 to 9 and 9 to 18 are 11
    ∷ lawful 20 4096 (rows_of (row_numbers 0 10 (row_numbers 10 10 [])))
    ∷ is_refused 11 (byte_map (row_numbers 0 10 (row_numbers 9 10 [])) 20 4096 0)
    ∷ []
