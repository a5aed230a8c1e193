-- Chunks and parts of them as they are read.
use Rattle.std.proofs.Common.{◌≡◌, Bool, if◌then◌else◌, Option, IsErrAnd, IsErrOf, IsTrue, subst, true, false, ◌<◌, ◌≤◌, ◌+◌, ℕ, zero, suc, List, [], ◌∷◌, ◌++◌, length, drop, get_or, None, Some, Result, Ok, Err, refl, sym, ap, ◌∙◌, append_assoc, append-nil, arith}
use Rattle.std.specs.List.{All}
use Rattle.std.specs.FinMap.{get}
use Rattle.std.specs.Prelude.{◌==◌, nat_lt}
use Rattle.std.proofs.lemmas.List.Elements.{All-head, All-tail}
use Rattle.std.proofs.lemmas.List.{length-take}
use Rattle.disk_trait.specs.Files.{Files}
use Rattle.store_types.specs.declared.names.Digest32.{Digest32}
use Rattle.store_types.specs.declared.refusal.BadBlob.{BadBlob}
use Rattle.store_types.specs.declared.refusal.ChunkFault.{ChunkFault}
use Rattle.store_types.specs.declared.refusal.ChunkFault.TheVariants.{Nothing, NotABlob, Other}
use Rattle.store_types.specs.declared.refusal.Refusal.{Refusal}
use Rattle.store_types.specs.declared.refusal.Refusal.TheVariants.{Damaged}
use Rattle.store_types.specs.Chain.Refusing.{◌>>=◌}
use Rattle.blob_codec.specs.Blob.{blob, data_of, blob_limit}
use Rattle.store_files.specs.Archive.{digest_of}
use Rattle.store_files.specs.Folder.{chunk_name}
use Rattle.restore_reader.specs.declared.ranges.Part.{Part}
use Rattle.restore_reader.specs.Cutting.{ArePartsOf, IsPartOf, cut, joined, total_of}
use Rattle.chunk_store.specs.Pieces.{IsHeld, by_data, piece_in, found_in, found_at}
use Rattle.chunk_store.specs.Faults as store
use Rattle.chunk_store.specs.Faults.{IsDamageAsked, IsNotDamaged}
use Rattle.chunk_store.specs.declared.chunk.LoadFault.{LoadFault}
use Rattle.chunk_store.specs.declared.chunk.LoadFault.TheVariants as loads
use Rattle.chunk_store.proofs.Blobs.{data_behind_header, data_is, checked_piece}
use Rattle.store_history.specs.Replies.{refuses_get}
use Rattle.core_state.specs.Unchanged.{is_uncalled}
use Rattle.snapshot_files.specs.Reads.{StopHasText}
use Rattle.store_stops.specs.Stops.{Gives, IfRefused}
use Rattle.store_stops.specs.declared.stop.Stop.{Stop}
use Rattle.store_stops.specs.declared.stop.Stop.TheVariants.{Refused, NoMemory, DiskFailed}
use Rattle.core_reader.specs.Chunks.{behind, or_damaged, of_length, bytes_at, bytes_in, chunk_at, part_chunk_at, parts_at, stop_by_load, IsDamageOf, IsUnrefused, StopsAmong, StopsAt}

-- ---- pieces that stand there

-- a piece's blob holds nothing else
blob_holds : (digest p q : List ℕ) → piece_in digest (blob p) ≡ Ok q → q ≡ p
blob_holds digest p q is = by_data_of (data_of (blob p)) refl is
  where
    by_data_of : (r : Result (List ℕ) BadBlob) → data_of (blob p) ≡ r → by_data digest r ≡ Ok q → q ≡ p
    by_data_of (Ok y) e is = sym ((checked_piece digest y q is).0) ∙ sym (data_is (blob p) y e) ∙ data_behind_header p
    by_data_of (Err cause) e is = cc

oks : (digest : Digest32) (r : Result (List ℕ) ChunkFault) (q : List ℕ) → or_damaged digest r ≡ Ok q → r ≡ Ok q
oks digest (Ok y) q e = ap Ok (same y q e)
  where
    same : (a b : List ℕ) → ◌≡◌ {A = Result (List ℕ) Refusal} (Ok a) (Ok b) → a ≡ b
    same a b e = cc
oks digest (Err fault) q e = cc

pub held_chunk : (m : Files) (digest : Digest32) (p q : List ℕ) → IsHeld m p → digest ≡ digest_of p → chunk_at m digest ≡ Ok q → q ≡ p
held_chunk m digest p q held named at =
    let there : get m (chunk_name digest.0) ≡ Some (blob p) = ap (λ (d : Digest32). get m (chunk_name d.0)) named ∙ held.0 in
    blob_holds digest.0 p q (sym (ap (found_in digest.0) there) ∙ oks digest (found_at m digest.0) q at)

same_bytes : (a b : List ℕ) → ◌≡◌ {A = Result (List ℕ) Refusal} (Ok a) (Ok b) → a ≡ b
same_bytes a b e = cc

-- the same of a part's chunk
held_part_chunk : (m : Files) (x : Part) (p q : List ℕ) → IsHeld m p → IsPartOf x p → part_chunk_at m x ≡ Ok q → q ≡ p
held_part_chunk m x p q held is at =
    held_chunk m x.digest p q held is.digest (by_length (found_at m x.digest.0) at)
  where
    by_length : (r : Result (List ℕ) ChunkFault) → or_damaged x.digest (of_length x.digest x.chunk_length r) ≡ Ok q → or_damaged x.digest r ≡ Ok q
    by_length (Ok piece) e = by_case (length piece == x.chunk_length) e
      where
        by_case : (t : Bool) → or_damaged x.digest (if t then Ok piece else Err (Other x.digest)) ≡ Ok q → ◌≡◌ {A = Result (List ℕ) Refusal} (Ok piece) (Ok q)
        by_case true e = e
        by_case false e = cc
    by_length (Err found) e = e

pub held_joined : (m : Files) (parts : List Part) (pieces : List (List ℕ)) (bytes : List ℕ) → ArePartsOf parts pieces → All (IsHeld m) pieces → parts_at m parts ≡ Ok bytes → bytes ≡ joined parts pieces
held_joined m [] pieces bytes are held is = sym (same_bytes [] bytes is)
held_joined m (x ∷ xs) [] bytes are held is = absurd are
held_joined m (x ∷ xs) (p ∷ ps) bytes are held is =
    by_chunk (part_chunk_at m x) refl (λ rest e. held_joined m xs ps rest are.1 (All-tail (IsHeld m) p ps held) e) is
  where
    Later : Type 0
    Later = (rest : List ℕ) → parts_at m xs ≡ Ok rest → rest ≡ joined xs ps

    by_rest : (r : Result (List ℕ) Refusal) (q : List ℕ) → parts_at m xs ≡ r → q ≡ p → Later → (r >>= λ rest. Ok (cut x q ++ rest)) ≡ Ok bytes → bytes ≡ cut x p ++ joined xs ps
    by_rest (Ok rest) q e same later is =
        sym (same_bytes (cut x q ++ rest) bytes is) ∙ ap (λ y. cut x y ++ rest) same
        ∙ ap (λ y. cut x p ++ y) (later rest e)
    by_rest (Err refusal) q e same later is = cc

    by_chunk : (r : Result (List ℕ) Refusal) → part_chunk_at m x ≡ r → Later → (r >>= λ q. parts_at m xs >>= λ rest. Ok (cut x q ++ rest)) ≡ Ok bytes → bytes ≡ cut x p ++ joined xs ps
    by_chunk (Ok q) e later is = by_rest (parts_at m xs) q refl (held_part_chunk m x p q (All-head (IsHeld m) p ps held) are.0 e) later is
    by_chunk (Err refusal) e later is = cc

-- the piece of which one is a part
pub held_part : (m : Files) (parts : List Part) (pieces : List (List ℕ)) (i : ℕ) (d : Part) → ArePartsOf parts pieces → All (IsHeld m) pieces → i < length parts
    → (p : List ℕ) × IsHeld m p × IsPartOf (get_or parts i d) p
held_part m [] pieces i d are held lt = absurd (omega (arith, lt))
held_part m (x ∷ xs) [] i d are held lt = absurd are
held_part m (x ∷ xs) (p ∷ ps) zero d are held lt = (p, All-head (IsHeld m) p ps held, are.0)
held_part m (x ∷ xs) (p ∷ ps) (suc i) d are held lt = held_part m xs ps i d are.1 (All-tail (IsHeld m) p ps held) (omega (arith, lt))

-- ---- parts one after another

-- one part more
pub part_more : (m : Files) (front : List ℕ) (xs rest : List Part) (x : Part) (piece : List ℕ) → xs ≡ x ∷ rest → part_chunk_at m x ≡ Ok piece
    → behind front (parts_at m xs) ≡ behind (front ++ cut x piece) (parts_at m rest)
part_more m front xs rest x piece next at =
    ap (λ l. behind front (parts_at m l)) next
    ∙ ap (λ r. behind front (r >>= λ p. parts_at m rest >>= λ b. Ok (cut x p ++ b))) at
    ∙ by_rest (parts_at m rest)
  where
    by_rest : (r : Result (List ℕ) Refusal) → behind front (r >>= λ b. Ok (cut x piece ++ b)) ≡ behind (front ++ cut x piece) r
    by_rest (Ok b) = ap Ok (sym (append_assoc front (cut x piece) b))
    by_rest (Err refusal) = refl

-- a chunk is damaged
pub part_damaged : (m : Files) (front : List ℕ) (xs rest : List Part) (x : Part) (refusal : Refusal) → xs ≡ x ∷ rest → part_chunk_at m x ≡ Err refusal → behind front (parts_at m xs) ≡ Err refusal
part_damaged m front xs rest x refusal next at =
    ap (λ l. behind front (parts_at m l)) next
    ∙ ap (λ r. behind front (r >>= λ p. parts_at m rest >>= λ b. Ok (cut x p ++ b))) at

-- what a chunk stops by stops all
pub part_stopped : {A B : Type 0} (f : A → List ℕ) (g : B → List ℕ) (m : Files) (front : List ℕ) (all : Result (List ℕ) Refusal) (xs rest : List Part) (x : Part) (stop : Stop) → all ≡ behind front (parts_at m xs) → xs ≡ x ∷ rest
    → Gives f (Err stop) (part_chunk_at m x) → Gives g (Err stop) all
part_stopped f g m front all xs rest x (Refused refusal) is next gives = is ∙ part_damaged m front xs rest x refusal next gives
part_stopped f g m front all xs rest x NoMemory is next gives = tt
part_stopped f g m front all xs rest x DiskFailed is next gives = tt

pub chunk_then : (m n : Files) (x : Part) (stop : Stop) → m ≡ n → Gives {A = List ℕ} (λ chunk. chunk) (Err stop) (part_chunk_at m x) → Gives {A = List ℕ} (λ chunk. chunk) (Err stop) (part_chunk_at n x)
chunk_then m n x stop same gives = subst (λ f. Gives {A = List ℕ} (λ chunk. chunk) (Err stop) (part_chunk_at f x)) same gives

pub short_only : {A : Type 0} (result : Result A Stop) → IsErrAnd result (λ x. x ≡ NoMemory) → IsErrOf result DiskFailed → ⊥
short_only (Ok x) is failed = is
short_only {A} (Err stop) is failed = apart (sym is ∙ same stop failed)
  where
    same : (stop : Stop) → ◌≡◌ {A = Result A Stop} (Err stop) (Err DiskFailed) → stop ≡ DiskFailed
    same stop e = cc

    apart : NoMemory ≡ DiskFailed → ⊥
    apart e = cc

-- where a chunk is to be had it stops by no refusal
pub unrefused_by : {A B : Type 0} (result : Result B Stop) (stop : Stop) (f : A → List ℕ) (p : List ℕ) → IsErrAnd result (λ x. x ≡ stop) → Gives f (Err stop) (Ok p) → IsUnrefused result
unrefused_by (Ok x) stop f p is gives = absurd is
unrefused_by {A} (Err x) stop f p is gives = subst (λ s. IfRefused (λ refusal. ⊥) s) (sym is) (by_stop stop gives)
  where
    refused_apart : (refusal : Refusal) → ◌≡◌ {A = Result (List ℕ) Refusal} (Ok p) (Err refusal) → ⊥
    refused_apart refusal e = cc

    by_stop : (stop : Stop) → Gives f (Err stop) (Ok p) → IfRefused (λ refusal. ⊥) stop
    by_stop (Refused refusal) gives = refused_apart refusal gives
    by_stop NoMemory gives = tt
    by_stop DiskFailed gives = tt

pub short_unrefused : {A : Type 0} (result : Result A Stop) → IsErrAnd result (λ x. x ≡ NoMemory) → IsUnrefused result
short_unrefused (Ok x) is = absurd is
short_unrefused (Err x) is = subst (λ s. IfRefused (λ refusal. ⊥) s) (sym is) tt

pub handed_unrefused : {A : Type 0} (result : Result A Stop) (stop : Stop) → IsErrAnd result (λ x. x ≡ stop) → IfRefused (λ refusal. ⊥) stop → IsUnrefused result
handed_unrefused (Ok x) stop is h = absurd is
handed_unrefused (Err x) stop is h = subst (λ s. IfRefused (λ refusal. ⊥) s) (sym is) h

true_false : true ≡ false → ⊥
true_false e = cc

damage_called : (digest : Digest32) (refusal : Refusal) (P : Type 0) → IsDamageOf digest refusal → is_uncalled refusal ≡ true → P
damage_called digest refusal P is uncalled = absurd (true_false (sym uncalled ∙ ap is_uncalled is.1))

-- ---- what a read of a chunk stops by

pub at_text : (digest : Digest32) (stop : Stop) → StopsAt digest stop → StopHasText stop
at_text digest (Refused refusal) h = h.1
at_text digest NoMemory h = tt
at_text digest DiskFailed h = tt

pub at_got : (digest : Digest32) (stop : Stop) → StopsAt digest stop → IfRefused (λ refusal. IsTrue (refuses_get refusal)) stop
at_got digest (Refused refusal) h = ap refuses_get (h.0).1
at_got digest NoMemory h = tt
at_got digest DiskFailed h = tt

-- it comes by a call of the disk
pub at_called : (digest : Digest32) (stop : Stop) (P : Type 0) → StopsAt digest stop → IfRefused (λ refusal. is_uncalled refusal ≡ true → P) stop
at_called digest (Refused refusal) P h = damage_called digest refusal P h.0
at_called digest NoMemory P h = tt
at_called digest DiskFailed P h = tt

pub among_text : (digests : List Digest32) (stop : Stop) → StopsAmong digests stop → StopHasText stop
among_text digests (Refused refusal) h = h.1
among_text digests NoMemory h = tt
among_text digests DiskFailed h = tt

-- nothing more
pub parts_done : (m : Files) (front : List ℕ) (xs : List Part) → xs ≡ [] → behind front (parts_at m xs) ≡ Ok front
parts_done m front xs none = ap (λ l. behind front (parts_at m l)) none ∙ ap Ok (append-nil front)

pub total_more : (front : List ℕ) (xs rest : List Part) (x : Part) (piece : List ℕ) (all : ℕ) → xs ≡ x ∷ rest → length front + total_of xs ≤ all → length (front ++ cut x piece) + total_of rest ≤ all
total_more front xs rest x piece all next le =
    omega (arith, le, ap total_of next, Rattle.std.proofs.lemmas.List.length-append front (cut x piece), length-take x.length (drop x.from piece))

-- ---- what a fault of the store of chunks stops by

stop_failed : {B : Type 0} (stop : Stop) → IsErrOf {T = B} (Err stop) DiskFailed → stop ≡ DiskFailed
stop_failed stop e = cc

pub load_failed : {A B : Type 0} (result : Result A LoadFault) (fault : LoadFault) (stop : Stop) → result ≡ Err fault → stop ≡ stop_by_load fault → IsErrOf {T = B} (Err stop) DiskFailed → IsErrOf result loads.Failed
load_failed result (loads.Damaged digest found) stop was is failed = absurd (apart (sym is ∙ stop_failed stop failed))
  where
    apart : Refused (Damaged digest found) ≡ DiskFailed → ⊥
    apart e = cc
load_failed result loads.Failed stop was is failed = was
load_failed result loads.NoMemory stop was is failed = absurd (apart (sym is ∙ stop_failed stop failed))
  where
    apart : NoMemory ≡ DiskFailed → ⊥
    apart e = cc

pub load_at : (digest : Digest32) (fault : LoadFault) (stop : Stop) → stop ≡ stop_by_load fault → StopHasText stop → IsDamageAsked digest fault → StopsAt digest stop
load_at digest fault stop is text asked = subst (StopsAt digest) (sym is) (by_fault fault (subst StopHasText is text) asked)
  where
    by_fault : (fault : LoadFault) → StopHasText (stop_by_load fault) → IsDamageAsked digest fault → StopsAt digest (stop_by_load fault)
    by_fault (loads.Damaged other found) text asked = ((found, ap (λ x. Damaged x found) (asked other found refl)), text)
    by_fault loads.Failed text asked = tt
    by_fault loads.NoMemory text asked = tt

-- the file is not read: nothing stands there, or more than a blob may have
unread : (digest : Digest32) (o : Option (List ℕ)) (found : ChunkFault) → store.bytes_in o ≡ Err found → bytes_in digest o ≡ Err (Damaged digest found)
unfolding store.bytes_in
unread digest None found is = ap (λ f. Err (Damaged digest f)) (faults Nothing found is)
  where
    faults : (a b : ChunkFault) → ◌≡◌ {A = Result (List ℕ) ChunkFault} (Err a) (Err b) → a ≡ b
    faults a b e = cc
unread digest (Some text) found is = by_case (nat_lt blob_limit (length text)) is
  where
    by_case : (t : Bool) → ◌≡◌ {A = Result (List ℕ) ChunkFault} (if t then Err NotABlob else Ok text) (Err found)
        → ◌≡◌ {A = Result (List ℕ) Refusal} (if t then Err (Damaged digest NotABlob) else Ok text) (Err (Damaged digest found))
    by_case true e = cc
    by_case false e = cc

pub bytes_stopped : (m : Files) (digest : Digest32) (fault : LoadFault) (stop : Stop) → stop ≡ stop_by_load fault → IsDamageAsked digest fault
    → ((other : Digest32) (found : ChunkFault) → fault ≡ loads.Damaged other found → store.bytes_in (get m (chunk_name digest.0)) ≡ Err found)
    → Gives {A = List ℕ} (λ bytes. bytes) (Err stop) (bytes_at m digest)
bytes_stopped m digest fault stop is asked tells = subst (λ x. Gives {A = List ℕ} (λ bytes. bytes) (Err x) (bytes_at m digest)) (sym is) (by_fault fault asked tells)
  where
    by_fault : (fault : LoadFault) → IsDamageAsked digest fault
        → ((other : Digest32) (found : ChunkFault) → fault ≡ loads.Damaged other found → store.bytes_in (get m (chunk_name digest.0)) ≡ Err found)
        → Gives {A = List ℕ} (λ bytes. bytes) (Err (stop_by_load fault)) (bytes_at m digest)
    by_fault (loads.Damaged other found) asked tells =
        unread digest (get m (chunk_name digest.0)) found (tells other found refl) ∙ ap (λ x. Err (Damaged x found)) (sym (asked other found refl))
    by_fault loads.Failed asked tells = tt
    by_fault loads.NoMemory asked tells = tt

-- what stands there is no piece's blob
pub chunk_stopped : (m : Files) (digest : Digest32) (fault : LoadFault) (stop : Stop) → stop ≡ stop_by_load fault
    → ((other : Digest32) (found : ChunkFault) → fault ≡ loads.Damaged other found → (other ≡ digest) × (found_at m digest.0 ≡ Err found))
    → Gives {A = List ℕ} (λ chunk. chunk) (Err stop) (chunk_at m digest)
chunk_stopped m digest fault stop is tells = subst (λ x. Gives {A = List ℕ} (λ chunk. chunk) (Err x) (chunk_at m digest)) (sym is) (by_fault fault tells)
  where
    by_fault : (fault : LoadFault) → ((other : Digest32) (found : ChunkFault) → fault ≡ loads.Damaged other found → (other ≡ digest) × (found_at m digest.0 ≡ Err found))
        → Gives {A = List ℕ} (λ chunk. chunk) (Err (stop_by_load fault)) (chunk_at m digest)
    by_fault (loads.Damaged other found) tells =
        let (same, there) = tells other found refl in
        ap (or_damaged digest) there ∙ ap (λ x. Err (Damaged x found)) (sym same)
    by_fault loads.Failed tells = tt
    by_fault loads.NoMemory tells = tt

-- of a piece that stands there that is by memory or disk alone
pub held_stopped : (fault : LoadFault) (stop : Stop) (p : List ℕ) → stop ≡ stop_by_load fault → IsNotDamaged fault → Gives {A = List ℕ} {B = List ℕ} (λ chunk. chunk) (Err stop) (Ok p)
held_stopped fault stop p is whole = subst (λ x. Gives {A = List ℕ} {B = List ℕ} (λ chunk. chunk) (Err x) (Ok p)) (sym is) (by_fault fault whole)
  where
    by_fault : (fault : LoadFault) → IsNotDamaged fault → Gives {A = List ℕ} {B = List ℕ} (λ chunk. chunk) (Err (stop_by_load fault)) (Ok p)
    by_fault (loads.Damaged digest found) whole = absurd whole
    by_fault loads.Failed whole = tt
    by_fault loads.NoMemory whole = tt

-- the bytes that were read
pub bytes_given : (m : Files) (digest : Digest32) (text bytes : List ℕ) → bytes ≡ text → store.bytes_in (get m (chunk_name digest.0)) ≡ Ok text → bytes_at m digest ≡ Ok bytes
unfolding store.bytes_in
bytes_given m digest text bytes same is = by_file (get m (chunk_name digest.0)) is ∙ ap Ok (sym same)
  where
    by_file : (o : Option (List ℕ)) → store.bytes_in o ≡ Ok text → bytes_in digest o ≡ Ok text
    by_file None e = cc
    by_file (Some x) e = by_case (nat_lt blob_limit (length x)) e
      where
        by_case : (t : Bool) → ◌≡◌ {A = Result (List ℕ) ChunkFault} (if t then Err NotABlob else Ok x) (Ok text)
            → ◌≡◌ {A = Result (List ℕ) Refusal} (if t then Err (Damaged digest NotABlob) else Ok x) (Ok text)
        by_case true e = cc
        by_case false e = cc

-- ---- a part's chunk

module _ (digest : Digest32) (len : ℕ) where
  part_err : (r : Result (List ℕ) ChunkFault) (refusal : Refusal) → or_damaged digest r ≡ Err refusal → or_damaged digest (of_length digest len r) ≡ Err refusal
  part_err (Ok piece) refusal is = cc
  part_err (Err found) refusal is = is

-- what its chunk stops by
pub part_chunk_stopped : (m : Files) (x : Part) (stop : Stop) → Gives {A = List ℕ} (λ chunk. chunk) (Err stop) (chunk_at m x.digest) → Gives {A = List ℕ} (λ chunk. chunk) (Err stop) (part_chunk_at m x)
part_chunk_stopped m x (Refused refusal) gives = part_err x.digest x.chunk_length (found_at m x.digest.0) refusal gives
part_chunk_stopped m x NoMemory gives = tt
part_chunk_stopped m x DiskFailed gives = tt

-- a stop that is handed on
pub stop_handed : (result : Result (List ℕ) Stop) (stop : Stop) (wanted : Result (List ℕ) Refusal) → IsErrAnd result (λ x. x ≡ stop) → Gives {A = List ℕ} (λ chunk. chunk) (Err stop) wanted
    → Gives {A = List ℕ} (λ chunk. chunk) result wanted
stop_handed (Ok chunk) stop wanted is gives = absurd is
stop_handed (Err x) stop wanted is gives = subst (λ y. Gives {A = List ℕ} (λ chunk. chunk) (Err y) wanted) (sym is) gives
