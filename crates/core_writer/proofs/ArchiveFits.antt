-- An open archive whose size is reached has a text.
use Rattle.std.proofs.Common.{◌≡◌, ℕ, ◌+◌, ◌≤◌, Bool, true, false, ◌&&◌, List, [], ◌∷◌, length, map, nat_le, nat_lt, Ok, refl, ◌∙◌, arith}
use Rattle.std.proofs.lemmas.Bool.{and_from, lt-ltb, le-leb, leb-true}
use Rattle.std.proofs.lemmas.List.{length-map}
use Rattle.std.proofs.lemmas.List.Elements.{All-nil, All-cons, All-contains, recursion_from_All}
use Rattle.std.specs.Int.{w64}
use Rattle.std.specs.List.{All, AllByRecursion, concat}
use Rattle.std.specs.Prelude.{FitsSigned}
use Rattle.sha2.specs.Sha256.{sha256}
use Rattle.sha2.proofs.Facts256.{length-sha256}
use Rattle.store_types.specs.declared.refusal.Refusal.{Refusal}
use Rattle.store_types.specs.Chain.Refusing.{unless}
use Rattle.store_files.specs.Cells.{entry_limit}
use Rattle.store_files.specs.Archive.{Layout, dynamic, fixed, Archive, content_of, ends_from}
use Rattle.store_files.specs.DynamicIndex.{steps_fit}
use Rattle.store_model.specs.Archives.{want_size}
use Rattle.store_model.specs.Stands.{FitsLayout}
use Rattle.store_files.specs.Folder.{IsPiece}
use Rattle.store_model.specs.Store.{Begun}
use Rattle.backup_session.specs.Shown.{HasSizes, fits_from}
use Rattle.core_state.specs.Holds.{IsBegun, reserved_len}
use Rattle.core_writer.proofs.FixedPieces.{counts, fills}

length-ends : (start : ℕ) (ps : List (List ℕ)) → length (ends_from start ps) ≡ length ps
length-ends start [] = refl
length-ends start (p ∷ ps) = omega (arith, length-ends (start + length p) ps)

steps_are : (start : ℕ) (ps : List (List ℕ)) → AllByRecursion IsPiece ps → steps_fit start (ends_from start ps) ≡ true
steps_are start [] all = refl
steps_are start (p ∷ ps) all =
    let some = (all.0).0 in
    let most = (all.0).1 in
    let end = start + length p in
    and_from (nat_lt start end && nat_le end (start + 16_777_216)) (steps_fit end (ends_from end ps))
    (and_from (nat_lt start end) (nat_le end (start + 16_777_216)) (lt-ltb start end (omega (arith, some))) (le-leb end (start + 16_777_216) (omega (arith, most)))) (steps_are end ps all.1)

digests_are : (start : ℕ) (ps : List (List ℕ)) → All (λ e. length e.digest ≡ 32) (ends_from start ps)
digests_are start [] = All-nil _
digests_are start (p ∷ ps) = All-cons (λ e. length e.digest ≡ 32) _ (ends_from (start + length p) ps) (length-sha256 p) (digests_are (start + length p) ps)

hashes_are : (ps : List (List ℕ)) → All (λ d. length d ≡ 32) (map sha256 ps)
hashes_are [] = All-nil _
hashes_are (p ∷ ps) = All-cons (λ (d : List ℕ). length d ≡ 32) (sha256 p) (map sha256 ps) (length-sha256 p) (hashes_are ps)

passes : (r : Refusal) (b : Bool) → unless r b ≡ Ok tt → b ≡ true
passes r true e = refl
passes r false e = cc

fits_by : (layout : Layout) (a : Archive) → length a.uuid ≡ 16 → FitsSigned w64 a.ctime → length a.reserved ≡ reserved_len layout → length a.pieces ≤ entry_limit → AllByRecursion IsPiece a.pieces
    → HasSizes layout → fits_from layout 0 a.pieces ≡ true → want_size layout (length (content_of a)) ≡ Ok tt → FitsLayout layout a
fits_by dynamic a uuid ctime reserved limit pieces sizes fits full = record {
  uuid = uuid;
  ctime = ctime;
  reserved = reserved;
  steps = steps_are 0 a.pieces pieces;
  limit = omega (arith, limit, length-ends 0 a.pieces);
  digests = digests_are 0 a.pieces;
}
fits_by (fixed size cut) a uuid ctime reserved limit pieces sizes fits full =
    let reached : size ≤ length (concat a.pieces) = leb-true size (length (content_of a)) (passes _ (nat_le size (length (content_of a))) full) in
    let count = counts size cut a.pieces (sizes.0).chunk_size pieces fits reached in (
      record {
        uuid = uuid;
        ctime = ctime;
        reserved = reserved;
        chunk_size = (sizes.0).chunk_size;
        count = length-map a.pieces sha256 ∙ count;
        limit = omega (arith, limit, length-map a.pieces sha256);
        size = sizes.1;
        digests = hashes_are a.pieces;
      },
      fills size cut 0 a.pieces (omega arith) fits (omega (arith, reached)),
    )

pub fits_closed : (pool : List (List ℕ)) (b : Begun) → All IsPiece pool → IsBegun pool b → want_size (b.archive).layout (length (content_of b.archive)) ≡ Ok tt → FitsLayout (b.archive).layout b.archive
fits_closed pool b are h full =
    let a = b.archive in
    let pieces : All IsPiece a.pieces = λ i d lt. All-contains IsPiece pool _ are (h.pieces i d lt) in
    fits_by a.layout a h.uuid h.ctime h.reserved h.limit (recursion_from_All IsPiece a.pieces pieces) (h.is_open).sizes (h.is_open).pieces full
