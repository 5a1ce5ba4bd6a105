-- Which elements stand in which element of an index, and how often (01, Index; 002, Appendix B): a table for each kind of element that holds elements,
-- in the order of document 01's sentence.
use Rattle.std.specs.Prelude.{Bool, List, [], ◌∷◌, ◌++◌, ℕ, get_or}
use Rattle.index_names.specs.declared.Sort.{Sort}
use Rattle.index_names.specs.declared.Sort.TheVariants.{Unknown, Index, Place, Root, Directory, Contents, File, ExtentInfo, Extent, Skipped, Comment, Creator, Uuid, Generation, Time, Boolean, Number, Letter, Name, RootName, Uid, RootUid}
use Rattle.index_names.specs.Rows.{TableRow, once, at_most_once, any_number, sorts_of, count_once, some_any_number}

unfoldable pub index_table : List TableRow
index_table =
    once "creator" Creator
    ∷ once "volumeuuid" Uuid
    ∷ once "generationnumber" Generation
    ∷ once "updatetime" Time
    ∷ once "location" Place
    ∷ once "allowpolicyupdate" Boolean
    ∷ once "highestfileuid" Number
    ∷ once "directory" Root
    ∷ at_most_once "comment" Comment
    ∷ at_most_once "previousgenerationlocation" Place
    ∷ at_most_once "dataplacementpolicy" Skipped
    ∷ []

-- a location
unfoldable pub place_table : List TableRow
place_table =
    once "partition" Letter
    ∷ once "startblock" Number
    ∷ []

-- the five times
unfoldable pub times : List TableRow
times =
    once "creationtime" Time
    ∷ once "changetime" Time
    ∷ once "modifytime" Time
    ∷ once "accesstime" Time
    ∷ once "backuptime" Time
    ∷ []

-- what directory and file both have; the root directory's fileuid and name are of other sorts than the others'
unfoldable pub entry_table : Sort → Sort → List TableRow
entry_table itsUid itsName =
    once "fileuid" itsUid
    ∷ once "name" itsName
    ∷ times
    ++ (once "readonly" Boolean ∷ [])

-- what a directory also has
unfoldable pub of_directory : List TableRow
of_directory =
    once "contents" Contents
    ∷ at_most_once "extendedattributes" Skipped
    ∷ []

abbrev pub directory_table : List TableRow
directory_table = entry_table Uid Name ++ of_directory

abbrev pub root_table : List TableRow
root_table = entry_table RootUid RootName ++ of_directory

unfoldable pub contents_table : List TableRow
contents_table =
    any_number "directory" Directory
    ∷ any_number "file" File
    ∷ []

-- what a file also has
unfoldable pub of_file : List TableRow
of_file =
    once "length" Number
    ∷ at_most_once "extentinfo" ExtentInfo
    ∷ at_most_once "extendedattributes" Skipped
    ∷ []

abbrev pub file_table : List TableRow
file_table = entry_table Uid Name ++ of_file

unfoldable pub extentinfo_table : List TableRow
extentinfo_table = any_number "extent" Extent ∷ []

-- five values (01, Extents)
unfoldable pub extent_table : List TableRow
extent_table =
    once "fileoffset" Number
    ∷ once "partition" Letter
    ∷ once "startblock" Number
    ∷ once "byteoffset" Number
    ∷ once "bytecount" Number
    ∷ []

-- of an element of that kind
unfoldable pub table : Sort → List TableRow
table Index = index_table
table Place = place_table
table Root = root_table
table Directory = directory_table
table Contents = contents_table
table File = file_table
table ExtentInfo = extentinfo_table
table Extent = extent_table
table _ = []

-- the sort of the row of number j
unfoldable pub sort : Sort → ℕ → Sort
sort kind j = get_or (sorts_of (table kind)) j Unknown

-- how many elements must be there: those of the first rows (proofs/Ordered)
unfoldable pub must : Sort → ℕ
must kind = count_once (table kind)

-- whether elements of one name may come again
unfoldable pub repeats : Sort → Bool
repeats kind = some_any_number (table kind)
