-- What a session shows of a plain writer: digests and lengths in place of pieces.
use Rattle.std.specs.Prelude.{◌≡◌, ℕ, ◌+◌, ◌<◌, ◌^◌, Bool, true, ◌&&◌, List, [], ◌∷◌, map, length, Option, IsTrue}
use Rattle.std.specs.Option.{option_map}
use Rattle.std.specs.List.{AllByRecursion}
use Rattle.std.specs.FinMap.{FinMap, from_entries, entries}
use Rattle.sha2.specs.Sha256.{sha256}
use Rattle.store_types.specs.FileNames.{manifest_name}
use Rattle.store_types.specs.declared.piece.Piece.{Piece}
use Rattle.store_types.specs.Names.{text_cmp}
use Rattle.store_files.specs.Archive.{Layout, dynamic, fixed, archive, digest_of, File, file_text, file_named, size_of, csum_of}
use Rattle.manifest.specs.declared.facts.FileFact.{FileFact}
use Rattle.store_model.specs.Archives.{fits_layout}
use Rattle.store_model.specs.Stands.{names_content}
use Rattle.store_model.specs.Store.{Begun, Writer}
use Rattle.fixed_index.specs.Writing.{FitsSizes}
use Rattle.backup_session.specs.Indexes.{index_by}
use Rattle.backup_session.specs.Session.{Pool, Open, Writing}

-- of a piece the digest and the length
abbrev pub piece_of : List ℕ → Piece
piece_of bytes = record { digest = digest_of bytes; length = length bytes }

-- so in a pool
abbrev pub known_of : List ℕ → List ℕ × ℕ
known_of piece = (sha256 piece, length piece)

abbrev pub lengths_of : List (List ℕ) → FinMap text_cmp ℕ
lengths_of pieces = from_entries (map known_of pieces)

-- of two pieces with one digest the first counts
abbrev pub pool_of : List (List ℕ) → Pool
pool_of pieces = entries (lengths_of pieces)

abbrev pub shown_begun : Begun → Open
shown_begun b = record { number = b.number; name = b.name; index = index_by (b.archive).layout b.archive }

abbrev pub shown_file : File → FileFact
shown_file f = record { name = f.name; size = size_of f.content; csum = csum_of f.content }

abbrev pub manifest_text : List File → Option (List ℕ)
manifest_text files = option_map (λ f. file_text f.content) (file_named manifest_name files)

unfoldable pub shown : Writer → Writing
shown w = record {
  key = w.key;
  start = w.start;
  base = w.base;
  pool = pool_of w.pool;
  begun = map shown_begun w.begun;
  files = map shown_file w.files;
  manifest = manifest_text w.files;
}

-- ---- an open archive

-- a fixed archive may have these sizes
abbrev pub HasSizes : Layout → Type 0
HasSizes dynamic = Unit {0}
HasSizes (fixed size chunk_size) = FitsSizes size chunk_size × (size < 2 ^ 64)

-- from an end on, each piece has a length that the layout takes where it begins
abbrev pub fits_from : Layout → ℕ → List (List ℕ) → Bool
fits_from layout end [] = true
fits_from layout end (p ∷ ps) = fits_layout layout end (length p) && fits_from layout (end + length p) ps

-- open in a session: under a name of its kind, of sizes that it may have, and each piece so far as long as its layout asks
pub record IsOpen (b : Begun) : Type 0 where
  pub name : IsTrue (names_content (archive b.archive) b.name)
  pub sizes : HasSizes (b.archive).layout
  pub pieces : IsTrue (fits_from (b.archive).layout 0 (b.archive).pieces)

-- the session stands for the writer
pub record Shows (s : Writing) (w : Writer) : Type 0 where
  pub same : s ≡ shown w
  pub begun : AllByRecursion IsOpen w.begun

-- it is so of each writer that the session stands for
abbrev pub ForShown : Writing → (Writer → Type 0) → Type 0
ForShown s P = (w : Writer) → Shows s w → P w
