-- The pieces of a finished snapshot stand on the disk.
use Rattle.std.proofs.Common.{◌≡◌, ℕ, List, [], ◌∷◌, Option, Some, None, refl, sym, ap}
use Rattle.std.proofs.lemmas.List.Elements.{All-nil, All-cons, All-head, All-tail, All-append}
use Rattle.std.proofs.lemmas.Slice.Eq.{bytes_eq-Decides}
use Rattle.std.specs.FinMap.{get}
use Rattle.std.specs.List.{All, flat_map}
use Rattle.std.specs.Str.{bytes_eq}
use Rattle.sha2.specs.Sha256.{sha256}
use Rattle.disk_trait.specs.Files.{Files}
use Rattle.store_types.specs.declared.names.Digest32.{Digest32}
use Rattle.blob_codec.specs.Blob.{blob as blob_of}
use Rattle.store_files.specs.Archive.{Content, archive, blob, File, Snapshot, digest_of, file_named, pieces_of, piece_with}
use Rattle.store_model.specs.Store.{Reader, Store, snapshot_named}
use Rattle.store_model.specs.ReaderSteps.{pieces_at, noted_pieces, reader_files}
use Rattle.store_model.specs.Stands.{IsSnapshot, FitsContent, HoldsPieces}
use Rattle.store_files.specs.Folder.{IsPiece, chunk_name}
use Rattle.snapshot_files.proofs.Contents.{all_inside}
use Rattle.chunk_store.specs.Pieces.{IsHeld}
use Rattle.core_state.specs.Holds.{IsOnDisk}
use Rattle.core_state.proofs.Finding.{found_in, found_passes}

-- ---- lists

all_outside : {A B : Type 0} (P : B → Type 0) (f : A → List B) (xs : List A) → ((x : A) → All P (f x)) → All P (flat_map f xs)
all_outside P f [] each = All-nil P
all_outside P f (x ∷ xs) each = All-append P (f x) (flat_map f xs) (each x) (all_outside P f xs each)

all_both : {A : Type 0} (P Q : A → Type 0) (xs : List A) → All P xs → All Q xs → All (λ x. P x × Q x) xs
all_both P Q [] all also = All-nil (λ x. P x × Q x)
all_both P Q (x ∷ xs) all also =
    All-cons (λ y. P y × Q y) x xs (All-head P x xs all, All-head Q x xs also) (all_both P Q xs (All-tail P x xs all) (All-tail Q x xs also))

-- ---- pieces

are_pieces : (c : Content) → FitsContent c → All IsPiece (pieces_of c)
are_pieces (archive a) fits = fits.1
are_pieces (blob bytes) fits = All-nil IsPiece

-- its blob is there
abbrev IsThere : Files → List ℕ → Type 0
IsThere m p = get m (chunk_name (sha256 p)) ≡ Some (blob_of p)

-- those of an archive of the snapshot
pub pieces_held : (m : Files) (x : Snapshot) (name : List ℕ) → HoldsPieces m x → IsSnapshot x → All (IsHeld m) (pieces_at x.files name)
pieces_held m x name holds is = by_file (file_named name x.files) refl
  where
    by_file : (o : Option File) → file_named name x.files ≡ o
        → All (IsHeld m) (elim (Rattle.std.specs.Option.option_map (λ f. f.content) o) [ None ↦ [] | Some content ↦ pieces_of content ])
    by_file None e = All-nil (IsHeld m)
    by_file (Some f) e =
        all_both (IsThere m) IsPiece (pieces_of f.content)
        (found_in (λ g. All (IsThere m) (pieces_of g.content)) (λ g. bytes_eq g.name name) x.files f (all_inside (IsThere m) (λ g. pieces_of g.content) x.files holds) e)
        (are_pieces f.content (found_in (λ g. FitsContent g.content) (λ g. bytes_eq g.name name) x.files f is.contents e))

-- of one of the reader's snapshot
pub reader_held : (m : Files) (s : Store) (r : Reader) (name : List ℕ) → IsOnDisk m s → All (IsHeld m) (pieces_at (reader_files s r) name)
reader_held m s r name on = by_snapshot (snapshot_named r.key s.snapshots) refl
  where
    by_snapshot : (o : Option Snapshot) → snapshot_named r.key s.snapshots ≡ o → All (IsHeld m) (pieces_at (elim o [ None ↦ [] | Some x ↦ x.files ]) name)
    by_snapshot None e = All-nil (IsHeld m)
    by_snapshot (Some x) e =
        pieces_held m x name
        (found_in (HoldsPieces m) _ s.snapshots x (on.snapshots).pieces e)
        (found_in IsSnapshot _ s.snapshots x (on.snapshots).each e)

-- what is found by a digest among those that the reader noted
pub found_held : (m : Files) (s : Store) (r : Reader) (digest : Digest32) (p : List ℕ) → IsOnDisk m s → piece_with digest (noted_pieces (reader_files s r) r) ≡ Some p
    → IsHeld m p × (digest ≡ digest_of p)
found_held m s r digest p on found =
    let pieces = noted_pieces (reader_files s r) r in
    let all : All (IsHeld m) pieces = all_outside (IsHeld m) (pieces_at (reader_files s r)) r.noted (λ name. reader_held m s r name on) in (
      found_in (IsHeld m) (λ q. bytes_eq (sha256 q) digest.0) pieces p all found,
      ap (λ d. record { 0 = d }) (sym ((bytes_eq-Decides (sha256 p) digest.0).0 (found_passes (λ q. bytes_eq (sha256 q) digest.0) pieces p found))),
    )
