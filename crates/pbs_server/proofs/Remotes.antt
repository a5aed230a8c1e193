-- What an honest remote stands for is a list, and how its failed reads are counted.
use Rattle.disk_trait.specs.declared.disk.Disk.{Ghosts}
use Rattle.std.proofs.Common.{◌≡◌, ◌<◌, ◌≤◌, ◌+◌, ◌-◌, ◌^◌, ◌==◌, ◌⊎◌, inl, inr, ℕ, Bool, true, false, List, [], ◌∷◌, length, filter, Option, Some, None, Ok, Result, is_some, if◌then◌else◌, nat_lt, refl, sym, ap, subst, ◌∙◌, arith}
use Rattle.std.proofs.lemmas.Bool.{ltb-true, ltb-false}
use Rattle.std.specs.List.{All, flat_map}
use Rattle.std.specs.FinMap.{get}
use Rattle.std.proofs.lemmas.List.Elements.{All-append, All-contains, All-head, All-nil, All-tail, All-weaker}
use Rattle.disk_trait.specs.Files.{Files}
use Rattle.port_traits.specs.Faults.{Rose}
use Rattle.store_types.specs.declared.order.Entry.{Entry}
use Rattle.store_types.specs.Names.{IsKey}
use Rattle.blob_codec.specs.Blob.{blob, data_of}
use Rattle.store_types.specs.declared.refusal.BadBlob.{BadBlob}
use Rattle.store_types.specs.declared.order.TheConstants.{REMOTE_FAULT_KIND}
use Rattle.blob_codec.proofs.RoundTrips.{data_of-blob}
use Rattle.store_files.specs.Archive.{Content, archive, blob as blob_content, File, Snapshot, pieces_of}
use Rattle.store_files.specs.Folder.{IsPiece, chunk_name}
use Rattle.sha2.specs.Sha256.{sha256}
use Rattle.store_model.specs.Clash.{NoClash}
use Rattle.store_model.specs.Stands.{FitsContent, HoldsPieces, IsSnapshot, StandsFor as Stands, pieces_in}
use Rattle.store_history.specs.Remote.{IsList, IsRemote}
use Rattle.store_history.specs.RemoteDisk.{ReadNoRemote, ShowsRead, ShowsRemote, failed_reads}
use Rattle.store_history.specs.declared.act.Event.{Event}
use Rattle.lane.specs.Entries.{has_kind}
use Rattle.pbs_server.specs.Headline.{IsBeside}
use Rattle.pbs_server.proofs.Tests.{either}

-- ---- the pieces of a list

content_pieces : (c : Content) → FitsContent c → All IsPiece (pieces_of c)
content_pieces (archive a) fits = fits.1
content_pieces (blob_content bytes) fits = All-nil IsPiece

file_pieces : (fs : List File) → All (λ f. FitsContent f.content) fs → All IsPiece (flat_map (λ f. pieces_of f.content) fs)
file_pieces [] fits = All-nil IsPiece
file_pieces (f ∷ fs) fits =
    All-append IsPiece (pieces_of f.content) (flat_map (λ g. pieces_of g.content) fs) (content_pieces f.content (All-head (λ g. FitsContent g.content) f fs fits))
    (file_pieces fs (All-tail (λ g. FitsContent g.content) f fs fits))

list_pieces : (xs : List Snapshot) → All IsSnapshot xs → All IsPiece (flat_map pieces_in xs)
list_pieces [] each = All-nil IsPiece
list_pieces (x ∷ xs) each =
    All-append IsPiece (pieces_in x) (flat_map pieces_in xs) (file_pieces x.files (All-head IsSnapshot x xs each).contents) (list_pieces xs (All-tail IsSnapshot x xs each))

list_held : (m : Files) (xs : List Snapshot) → All (HoldsPieces m) xs → All (λ p. get m (chunk_name (sha256 p)) ≡ Some (blob p)) (flat_map pieces_in xs)
list_held m [] held = All-nil (λ p. get m (chunk_name (sha256 p)) ≡ Some (blob p))
list_held m (x ∷ xs) held =
    All-append (λ p. get m (chunk_name (sha256 p)) ≡ Some (blob p)) (pieces_in x) (flat_map pieces_in xs) (All-head (HoldsPieces m) x xs held) (list_held m xs (All-tail (HoldsPieces m) x xs held))

same_some : (a b : List ℕ) → Some a ≡ Some b → a ≡ b
same_some a b e = cc

same_ok : (a b : List ℕ) → (let r : Result (List ℕ) BadBlob = Ok a in r) ≡ Ok b → a ≡ b
same_ok a b e = cc

-- a blob is of one piece
blob_once : (p q : List ℕ) → IsPiece p → IsPiece q → blob p ≡ blob q → p ≡ q
blob_once p q first second same = same_ok p q (sym (data_of-blob p first.2 first.1) ∙ ap data_of same ∙ data_of-blob q second.2 second.1)

clear_list : (m : Files) (xs : List Snapshot) → Stands m xs → NoClash (flat_map pieces_in xs)
clear_list m xs s p q first second same =
    let held = list_held m xs s.pieces in
    let pieces = list_pieces xs s.each in
    blob_once p q (All-contains IsPiece (flat_map pieces_in xs) p pieces first) (All-contains IsPiece (flat_map pieces_in xs) q pieces second)
    (same_some (blob p) (blob q)
    (sym (All-contains (λ x. get m (chunk_name (sha256 x)) ≡ Some (blob x)) (flat_map pieces_in xs) p held first)
    ∙ ap (λ d. get m (chunk_name d)) same
    ∙ All-contains (λ x. get m (chunk_name (sha256 x)) ≡ Some (blob x)) (flat_map pieces_in xs) q held second))

pub as_list : (m : Files) (xs : List Snapshot) → Stands m xs → IsList xs
as_list m xs s = record { order = s.order; each = s.each; groups = s.groups; clear = clear_list m xs s }

pub list_keys : (m : Files) (xs : List Snapshot) → Stands m xs → All (λ x. IsKey x.key) xs
list_keys m xs s = All-weaker IsSnapshot (λ x. IsKey x.key) (λ x is. is.key) xs s.each

-- ---- of a remote

module _ {E : Type 0} (e : Ghosts E) where
  shown_list : (o : Option E) (R : Option (List Snapshot)) → ShowsRemote e o R → IsRemote R
  shown_list None None shows = tt
  shown_list (Some r) (Some xs) shows = as_list (e.content r) xs shows.1
  shown_list None (Some xs) shows = absurd shows
  shown_list (Some r) None shows = absurd shows

  shown_there : (o : Option E) (R : Option (List Snapshot)) → ShowsRemote e o R → is_some o ≡ is_some R
  shown_there None None shows = refl
  shown_there (Some r) (Some xs) shows = refl
  shown_there None (Some xs) shows = absurd shows
  shown_there (Some r) None shows = absurd shows

  pub beside_list : (o : Option E) (R : Option (List Snapshot)) (events : List Event) → IsBeside e o R events → IsRemote R
  beside_list o R events (inl shows) = shown_list o R shows
  beside_list o R events (inr unread) = unread.2

  pub beside_there : (o : Option E) (R : Option (List Snapshot)) (events : List Event) → IsBeside e o R events → is_some o ≡ is_some R
  beside_there o R events (inl shows) = shown_there o R shows
  beside_there o R events (inr unread) = unread.1

  -- so it was to the core that was opened with it
  pub beside_first : (o first : Option E) (R : Option (List Snapshot)) (events since : List Event) → first ≡ o → events ≡ since → IsBeside e o R events → ShowsRead e first R since
  beside_first o first R events since handed same (inl shows) = inl (subst (λ x. ShowsRemote e x R) (sym handed) shows)
  beside_first o first R events since handed same (inr unread) = inr (subst ReadNoRemote same unread.0)

-- ---- its failed reads

-- one was entered
pub one_failed : (order : List Entry) → has_kind 7 order ≡ true → 1 ≤ failed_reads order
one_failed [] is = cc
one_failed (x ∷ xs) is = by_first (either (x.kind == REMOTE_FAULT_KIND) (has_kind 7 xs) is) (λ later. one_failed xs later)
  where
    more : (b : Bool) → 1 ≤ failed_reads xs → 1 ≤ length (if b then x ∷ filter (λ y. y.kind == REMOTE_FAULT_KIND) xs else filter (λ y. y.kind == REMOTE_FAULT_KIND) xs)
    more true h = omega (arith, h)
    more false h = h

    by_first : (x.kind == REMOTE_FAULT_KIND ≡ true) ⊎ (has_kind 7 xs ≡ true) → (has_kind 7 xs ≡ true → 1 ≤ failed_reads xs) → 1 ≤ failed_reads (x ∷ xs)
    by_first (inl first) rest = subst (λ b. 1 ≤ length (if b then x ∷ filter (λ y. y.kind == REMOTE_FAULT_KIND) xs else filter (λ y. y.kind == REMOTE_FAULT_KIND) xs)) (sym first) (omega arith)
    by_first (inr later) rest = more (x.kind == REMOTE_FAULT_KIND) (rest later)

-- then the count rose
pub rose_by : (order : List Entry) (remote remote' : ℕ) → (remote' < 2 ^ 64 - 1 → failed_reads order + remote ≤ remote') → has_kind 7 order ≡ true → Rose remote remote'
rose_by order remote remote' reads seven = by_count (nat_lt remote' (2 ^ 64 - 1)) refl
  where
    by_count : (b : Bool) → nat_lt remote' (2 ^ 64 - 1) ≡ b → Rose remote remote'
    by_count true is =
        let lt = ltb-true remote' (2 ^ 64 - 1) is in
        let some = one_failed order seven in
        let up = reads lt in
        omega (arith, some, up)
    by_count false is = let most = ltb-false remote' (2 ^ 64 - 1) is in omega (arith, most)
