-- A partition's tape, and the list and the store that encode it (01, The block list and Bounds; 02, Item 7, for unreadable blocks).
use Rattle.std.specs.Prelude.{◌≡◌, Bool, true, ◌&&◌, List, [], ◌∷◌, ◌++◌, ℕ, ◌≤◌, length}
use Rattle.slices.specs.Slices.{within}
use Rattle.tape.specs.declared.Cell.{Cell}
use Rattle.tape.specs.declared.Cell.TheVariants.{Mark as mark_cell, Block as block_cell, Unreadable as unreadable_cell}
pub use Rattle.quantities.specs.Sizes.{max_block}
use Rattle.big_endian.specs.BigEndian.{big_endian}

-- an element: a file mark, a block with its bytes, or a block that the drive could not read
pub data Element : Type 0 where
  mark : Element
  block : List ℕ → Element
  unreadable : Element

-- the elements of a partition, numbered from 0
abbrev pub Tape : Type 0
Tape = List Element

-- what the list says of an element: that it is a mark, a block of so many bytes, or an unreadable block
abbrev pub cell_of : Element → Cell
cell_of mark = mark_cell
cell_of (block x) = block_cell (length x)
cell_of unreadable = unreadable_cell

-- the kind bytes
abbrev pub mark_kind : ℕ
mark_kind = 1

abbrev pub block_kind : ℕ
block_kind = 2

abbrev pub unreadable_kind : ℕ
unreadable_kind = 3

-- a number in four bytes, high byte first
abbrev pub four_bytes : ℕ → List ℕ
four_bytes n = big_endian 4 n

-- an element in the list: its kind byte and its body, none or a block's length
unfoldable pub entry : Cell → List ℕ
entry mark_cell = mark_kind ∷ []
entry (block_cell n) = block_kind ∷ four_bytes n
entry unreadable_cell = unreadable_kind ∷ []

-- an element's bytes in the store
unfoldable pub content : Element → List ℕ
content mark = []
content (block x) = x
content unreadable = []

unfoldable pub list : Tape → List ℕ
list [] = []
list (e ∷ t) = entry (cell_of e) ++ list t

unfoldable pub store : Tape → List ℕ
store [] = []
store (e ∷ t) = content e ++ store t

-- the bounds, with that of a block
abbrev pub max_elements : ℕ
max_elements = 65536

abbrev pub max_store : ℕ
max_store = 16777216

abbrev pub is_block_length : ℕ → Bool
is_block_length n = within 1 max_block n

abbrev pub is_lawful_cell : Cell → Bool
is_lawful_cell mark_cell = true
is_lawful_cell (block_cell n) = is_block_length n
is_lawful_cell unreadable_cell = true

unfoldable pub lawful_tape : Tape → Bool
lawful_tape [] = true
lawful_tape (e ∷ t) = is_lawful_cell (cell_of e) && lawful_tape t

-- l and s are the list and the store of the tape t, within the bounds
pub record Encodes (l s : List ℕ) (t : Tape) : Type 0 where
  pub lists : l ≡ list t
  pub stores : s ≡ store t
  pub blocks : lawful_tape t ≡ true
  pub elements : length t ≤ max_elements
  pub bytes : length s ≤ max_store
