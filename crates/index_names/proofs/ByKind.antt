-- What holds of each table, and of no row, holds of the table of any kind; and what a test of a sort says.
use Rattle.std.proofs.Common.{◌≡◌, true, false, List, [], refl}
use Rattle.index_names.specs.declared.Sort.{Sort}
use Rattle.index_names.specs.declared.Sort.TheVariants.{Unknown, Index, Place, Root, Directory, Contents, File, ExtentInfo, Extent, Skipped}
use Rattle.index_names.specs.Sorts.{is_unknown, is_file, is_skipped}
use Rattle.index_names.specs.Rows.{TableRow}
use Rattle.index_names.specs.Tables.{index_table, place_table, root_table, directory_table, contents_table, file_table, extentinfo_table, extent_table, table}

pub each_table : (P : List TableRow → Type 0) → P index_table → P place_table → P root_table → P directory_table → P contents_table → P file_table → P extentinfo_table
    → P extent_table → P [] → (k : Sort) → P (table k)
unfolding table
each_table P p1 p2 p3 p4 p5 p6 p7 p8 p Index = p1
each_table P p1 p2 p3 p4 p5 p6 p7 p8 p Place = p2
each_table P p1 p2 p3 p4 p5 p6 p7 p8 p Root = p3
each_table P p1 p2 p3 p4 p5 p6 p7 p8 p Directory = p4
each_table P p1 p2 p3 p4 p5 p6 p7 p8 p Contents = p5
each_table P p1 p2 p3 p4 p5 p6 p7 p8 p File = p6
each_table P p1 p2 p3 p4 p5 p6 p7 p8 p ExtentInfo = p7
each_table P p1 p2 p3 p4 p5 p6 p7 p8 p Extent = p8
each_table P p1 p2 p3 p4 p5 p6 p7 p8 p _ = p

pub is_unknown-true : (s : Sort) → is_unknown s ≡ true → s ≡ Unknown
is_unknown-true Unknown e = refl
is_unknown-true _ e = cc

pub is_unknown-false : (s : Sort) → (s ≡ Unknown → ⊥) → is_unknown s ≡ false
is_unknown-false Unknown n = absurd (n refl)
is_unknown-false _ n = refl

pub is_file-true : (s : Sort) → is_file s ≡ true → s ≡ File
is_file-true File e = refl
is_file-true _ e = cc

pub is_file-false : (s : Sort) → (s ≡ File → ⊥) → is_file s ≡ false
is_file-false File n = absurd (n refl)
is_file-false _ n = refl

pub is_skipped-true : (s : Sort) → is_skipped s ≡ true → s ≡ Skipped
is_skipped-true Skipped e = refl
is_skipped-true _ e = cc

pub is_skipped-false : (s : Sort) → (s ≡ Skipped → ⊥) → is_skipped s ≡ false
is_skipped-false Skipped n = absurd (n refl)
is_skipped-false _ n = refl
