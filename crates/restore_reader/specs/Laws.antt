-- What holds of a range that is read page by page.
use Rattle.std.specs.Prelude.{◌≡◌, ◌+◌, ◌-◌, ◌≤◌, ℕ, IsTrue, List, [], ◌++◌, length, take, drop, if◌then◌else◌, Some, Ok}
use Rattle.std.specs.FinMap.{get}
use Rattle.disk_trait.specs.Files.{Files}
use Rattle.store_types.specs.FileNames.{is_fixed_name}
use Rattle.paged_indexes.specs.declared.index.IndexPages.{IndexPages}
use Rattle.paged_indexes.specs.declared.kinds.IndexKind.TheVariants.{Fixed, Dynamic}
use Rattle.paged_indexes.specs.Index.{opened}
use Rattle.restore_reader.specs.Shown.{pages_of}
use Rattle.std.specs.List.{concat}
use Rattle.store_files.specs.Archive.{ends_from}
use Rattle.store_files.specs.DynamicIndex.{Ended, steps_fit}
use Rattle.dynamic_index.specs.Pieces.{last_end}
use Rattle.restore_reader.specs.Cutting.{Reads, total_of}
use Rattle.restore_reader.specs.Plan.{bytes_in, parts_in}

-- ---- an index is kept as the text of the file is that it was opened from

abbrev pub OpenedIsKept : Type 0
OpenedIsKept =
    (m : Files) (name path text : List ℕ) (p : IndexPages) → get m path ≡ Some text → opened m path (if is_fixed_name name then Fixed else Dynamic) ≡ Ok p
    → p ≡ pages_of name path text

-- ---- pages that follow one another

abbrev pub PartsFollow : Type 0
PartsFollow =
    (from to start : ℕ) (xs ys : List Ended) → parts_in from to start (xs ++ ys) ≡ parts_in from to start xs ++ parts_in from to (last_end start xs) ys

abbrev pub BytesFollow : Type 0
BytesFollow =
    (from to start : ℕ) (xs ys : List ℕ) → bytes_in from to start (xs ++ ys) ≡ bytes_in from to start xs ++ bytes_in from to (start + length xs) ys

-- of pieces that end where the range begins or before
abbrev pub NothingBefore : Type 0
NothingBefore = (from to start : ℕ) (es : List Ended) → IsTrue (steps_fit start es) → last_end start es ≤ from → parts_in from to start es ≡ []

-- of pieces that begin where it ends or behind
abbrev pub NothingBehind : Type 0
NothingBehind = (from to start : ℕ) (es : List Ended) → IsTrue (steps_fit start es) → to ≤ start → parts_in from to start es ≡ []

-- ---- what parts give

-- Whatever pieces have the digests and lengths of these entries, of which the first one's piece begins at start.
abbrev pub PartsReadTheirBytes : Type 0
PartsReadTheirBytes =
    (from to start : ℕ) (es : List Ended) (pieces : List (List ℕ)) → IsTrue (steps_fit start es) → ends_from start pieces ≡ es
    → Reads (parts_in from to start es) pieces (bytes_in from to start (concat pieces))

-- those of the whole content are the range
abbrev pub BytesAreTheRange : Type 0
BytesAreTheRange = (from to : ℕ) (content : List ℕ) → bytes_in from to 0 content ≡ take (to - from) (drop from content)

abbrev pub PartsFitTheRange : Type 0
PartsFitTheRange = (from to start : ℕ) (es : List Ended) → IsTrue (steps_fit start es) → total_of (parts_in from to start es) ≤ to - from
