-- What a reader shows of a plain one, and what that one may ask for, with all the bytes of the snapshot's files.
use Rattle.std.specs.Prelude.{◌≡◌, ℕ, Bool, List, [], length, map, None, Some, is_some, if◌then◌else◌}
use Rattle.std.specs.List.{concat}
use Rattle.sha2.specs.Sha256.{sha256}
use Rattle.store_types.specs.declared.names.Digest32.{Digest32}
use Rattle.store_types.specs.declared.names.SnapshotKey.{SnapshotKey}
use Rattle.store_types.specs.FileNames.{is_fixed_name}
use Rattle.store_files.specs.Archive.{Archive, archive, ends_from, file_text, piece_with, File}
use Rattle.store_files.specs.Folder.{file_path}
use Rattle.store_model.specs.Store.{Reader}
use Rattle.store_model.specs.ReaderSteps.{note, content_at, pieces_at, noted_pieces}
use Rattle.paged_indexes.specs.declared.index.IndexPages.{IndexPages}
use Rattle.paged_indexes.specs.declared.index.IndexPages.TheVariants as pages
use Rattle.paged_indexes.specs.Dynamic.{dynamic_paged}
use Rattle.paged_indexes.specs.Fixed.{fixed_paged}
use Rattle.restore_reader.specs.declared.index.Table.{Table}
use Rattle.restore_reader.specs.Digests.{distinct}
use Rattle.restore_reader.specs.Kept.{IsTable}
use Rattle.restore_reader.specs.Session.{Noted, Reading}

-- a noted archive has a piece with the digest
abbrev pub is_allowed : List File → Reader → Digest32 → Bool
is_allowed files r digest = is_some (piece_with digest (noted_pieces files r))

-- ---- what is noted of an archive

-- what is kept of the index with this text that stands at the path: a fixed one where the file's name is one's
abbrev pub pages_of : List ℕ → List ℕ → List ℕ → IndexPages
pages_of name path text = if is_fixed_name name then pages.Fixed (fixed_paged path text) else pages.Dynamic (dynamic_paged path text)

abbrev pub text_at : List File → List ℕ → List ℕ
text_at files name = elim (content_at files name) [ None ↦ [] | Some content ↦ file_text content ]

abbrev pub shown_noted : SnapshotKey → List File → List ℕ → Noted
shown_noted key files name = record {
  name = name;
  digests = distinct (map sha256 (pieces_at files name));
  size = length (concat (pieces_at files name));
  pages = pages_of name (file_path key name) (text_at files name);
}

-- ---- readers

abbrev pub shown : List File → Reader → Reading
shown files r = record { key = r.key; noted = map (shown_noted r.key files) r.noted }

-- the reading stands for the reader of a snapshot with these files
abbrev pub Shows : Reading → List File → Reader → Type 0
Shows s files r = s ≡ shown files r

-- it is so of each plain reader, with the files of its snapshot, that the reading stands for
abbrev pub ForShown : Reading → (List File → Reader → Type 0) → Type 0
ForShown s P = (files : List File) → (r : Reader) → Shows s files r → P files r

-- the table and the pages are of the index of an archive of the reader's snapshot
pub record IsOf (key : SnapshotKey) (name : List ℕ) (a : Archive) (table : Table) (kept : IndexPages) : Type 0 where
  pub entries : IsTable table 0 (ends_from 0 a.pieces)
  pub pages : kept ≡ pages_of name (file_path key name) (file_text (archive a))

-- where they are of an archive among the files, what is left stands for the reader that noted it too
abbrev pub ShowsNoted : Reading → Reading → List ℕ → Table → IndexPages → Type 0
ShowsNoted old new name table kept =
    (files : List File) → (a : Archive) → (r : Reader) → Shows old files r → content_at files name ≡ Some (archive a) → IsOf r.key name a table kept
    → Shows new files (note name (archive a) r)
