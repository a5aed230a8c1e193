-- CHUNK is refused, and done, as the store does it.
use Rattle.disk_trait.specs.declared.disk.Disk.{Ghosts}
use Rattle.std.proofs.Common.{◌≡◌, ◌↔◌, ◌⊎◌, inl, inr, ℕ, ◌<◌, ◌≤◌, Bool, true, false, cond, List, [], ◌∷◌, length, get_or, set, map, Option, Some, None, Result, Ok, Err, IsOk, IsSome, is_some, refl, sym, ap, subst, ◌∙◌, arith, nat_lt}
use Rattle.std.specs.Option.{option_map}
use Rattle.std.specs.List.{Contains}
use Rattle.std.specs.FinMap.{get}
use Rattle.std.specs.Str.{bytes_eq}
use Rattle.std.proofs.lemmas.Bool.{ltb-true}
use Rattle.std.proofs.lemmas.List.Elements.{All-nil, All-cons, All-append, All-contains, Contains-append_left, Contains-append_right}
use Rattle.std.proofs.lemmas.Slice.Eq.{bytes_eq-Decides}
use Rattle.sha2.specs.Sha256.{sha256}
use Rattle.disk_trait.specs.Files.{Files}
use Rattle.disk_trait.specs.Laws.{by_name}
use Rattle.store_types.specs.declared.names.Digest32.{Digest32}
use Rattle.store_types.specs.declared.piece.Piece.{Piece}
use Rattle.store_types.specs.declared.refusal.Refusal.{Refusal}
use Rattle.store_types.specs.declared.refusal.Refusal.TheVariants.{BadBlob as BadBlobOf, WrongSize, WrongDigest}
use Rattle.store_types.specs.declared.refusal.BadBlob.{BadBlob}
use Rattle.store_types.specs.Chain.Refusing.{◌>>=◌, unless}
use Rattle.store_types.specs.FileNames.{manifest_name}
use Rattle.blob_codec.specs.Blob.{blob, data_of}
use Rattle.blob_codec.specs.Laws.{AreBytes}
use Rattle.blob_codec.proofs.RoundTrips.{blob-from_data_of}
use Rattle.store_files.specs.Archive.{Snapshot, digest_of, piece_with}
use Rattle.wire_commands.specs.declared.reply.Reply.TheVariants.{Done}
use Rattle.store_model.specs.Store as model
use Rattle.store_model.specs.Store.{Store, Writer, writer, session, with_session}
use Rattle.store_model.specs.Stands.{StandsFor}
use Rattle.store_files.specs.Folder.{IsPiece, IsDigest, chunk_name}
use Rattle.store_model.specs.WriterSteps.{goes_on, want_data}
use Rattle.store_model.specs.WriterCalls as calls
use Rattle.store_model.specs.ArchiveSteps.{check_chunk, checked_chunk}
use Rattle.store_history.specs.declared.act.Act.TheVariants.{Chunk}
use Rattle.store_history.specs.Acts.{IsCheckedChunk}
use Rattle.store_history.specs.History.{sent_by}
use Rattle.store_history.proofs.Checking.{checked_digest}
use Rattle.chunk_store.specs.Pieces.{IsChunk, with_chunk}
use Rattle.chunk_store.proofs.Blobs.{data_are_bytes, same_data}
use Rattle.file_install.proofs.InstallLaws.{installed_name}
use Rattle.chunk_store.proofs.Maps.{with_absent, with_present, with_other_chunk, with_kept, with_file, whole_with}
use Rattle.backup_session.specs.Session.{length_at}
use Rattle.backup_session.specs.Shown.{piece_of, pool_of}
use Rattle.backup_session.proofs.Pools.{known_in-pool}
use Rattle.core_state.specs.declared.kept.Session.TheVariants as kept
use Rattle.core_state.specs.declared.parts.Parts.{Parts}
use Rattle.core_state.specs.Chunks.{MayStand, AddsChunks}
use Rattle.store_history.specs.ChunkFiles.{HasChunk}
use Rattle.core_state.specs.Holds.{Holds, IsSound, IsWriter, IsOnDisk, HasUploads}
use Rattle.core_state.specs.Shown.{shown_writer}
use Rattle.core_state.proofs.Chunks.{is_digest}
use Rattle.core_state.proofs.Sessions.{changed, writers_same}
use Rattle.core_state.proofs.LockLemmas.{locked_writes_on}
use Rattle.core_state.specs.Indexed.{FitsRows}
use Rattle.core_state.proofs.Rows.{rows_writing}
use Rattle.core_state.proofs.Soundness.{IsAlone, sound_writer, shows_changed}
use Rattle.core_writer.proofs.Pooled.{is_writer_pooled}

false_true : false ≡ true → ⊥
false_true e = cc

-- ---- what passed the check

-- the bytes' data are this piece, which has the digest
pub record IsRead (digest : Digest32) (bytes p : List ℕ) : Type 0 where
  pub digest_is : sha256 p ≡ digest.0
  pub data_is : want_data bytes ≡ Ok p

-- it is a piece, and the bytes are its blob
pub record IsSent (digest : Digest32) (bytes p : List ℕ) : Type 0 where
  pub piece : IsPiece p
  pub text : bytes ≡ blob p
  pub digest_is : sha256 p ≡ digest.0
  pub data_is : want_data bytes ≡ Ok p

tests : Digest32 → List ℕ → Bool → Result (List ℕ) Refusal
tests digest piece some = unless (WrongSize 0 (length piece)) some >>= (λ _. unless (WrongDigest (digest_of piece)) (bytes_eq (digest_of piece).0 digest.0) >>= (λ _. Ok piece))

abbrev by_data : Digest32 → Result (List ℕ) BadBlob → Result (List ℕ) Refusal
by_data digest d = elim d [ Ok piece ↦ Ok piece | Err fault ↦ Err (BadBlobOf fault) ] >>= (λ piece. unless (WrongSize 0 (length piece)) (nat_lt 0 (length piece))
    >>= (λ _. unless (WrongDigest (digest_of piece)) (bytes_eq (digest_of piece).0 digest.0) >>= (λ _. Ok piece)))

some_by : (digest : Digest32) (piece : List ℕ) (some : Bool) → nat_lt 0 (length piece) ≡ some → IsOk (tests digest piece some) → 1 ≤ length piece
unfolding tests
some_by digest piece true is ok = let some = ltb-true 0 (length piece) is in omega (arith, some)
some_by digest piece false is ok = absurd (false_true ok)

sent_by_data : (digest : Digest32) (d : Result (List ℕ) BadBlob) → IsOk (by_data digest d) → (p : List ℕ) × (d ≡ Ok p) × (1 ≤ length p)
unfolding tests
sent_by_data digest (Ok piece) ok = (piece, refl, some_by digest piece (nat_lt 0 (length piece)) refl ok)
sent_by_data digest (Err fault) ok = absurd (false_true ok)

data_sent : (digest : Digest32) (bytes : List ℕ) → IsOk (check_chunk digest bytes) → (p : List ℕ) × (data_of bytes ≡ Ok p) × (1 ≤ length p)
unfolding check_chunk
data_sent digest bytes ok = sent_by_data digest (data_of bytes) ok

pub read : (digest : Digest32) (bytes : List ℕ) → IsOk (check_chunk digest bytes) → (p : List ℕ) × IsRead digest bytes p
read digest bytes ok =
    let (p, is, some) = data_sent digest bytes ok in
    let told : want_data bytes ≡ Ok p = ap (λ (d : Result (List ℕ) BadBlob). elim d [ Ok piece ↦ Ok piece | Err fault ↦ Err (BadBlobOf fault) ]) is in
    (p, record { digest_is = checked_digest digest bytes p ok told; data_is = told })

same_piece : (p q : List ℕ) → ◌≡◌ {A = Result (List ℕ) Refusal} (Ok p) (Ok q) → p ≡ q
same_piece p q e = cc

pub sent : (digest : Digest32) (bytes p : List ℕ) → AreBytes bytes → IsOk (check_chunk digest bytes) → IsRead digest bytes p → IsSent digest bytes p
sent digest bytes p are ok h =
    let (q, is, some) = data_sent digest bytes ok in
    let told : want_data bytes ≡ Ok q = ap (λ (d : Result (List ℕ) BadBlob). elim d [ Ok piece ↦ Ok piece | Err fault ↦ Err (BadBlobOf fault) ]) is in
    let spelled = blob-from_data_of bytes q are is in
    let same : q ≡ p = same_piece q p (sym told ∙ h.data_is) in
    record {
      piece = subst IsPiece same (some, spelled.1, data_are_bytes q (subst AreBytes spelled.0 are));
      text = spelled.0 ∙ ap blob same;
      digest_is = h.digest_is;
      data_is = h.data_is;
    }

pub chunk_of : (digest : Digest32) (bytes p : List ℕ) → IsSent digest bytes p → IsChunk digest.0 bytes
chunk_of digest bytes p h = (p, h.piece, h.text, h.digest_is)

-- ---- the step

module _ (s : Store) (lane : ℕ) (checked : Result (List ℕ) Refusal) where
  pub not_writing : (r : Refusal) → model.want_writer (session s lane) ≡ Err r → checked_chunk s lane checked ≡ Err r
  unfolding checked_chunk
  not_writing r none = rw none refl

  pub unchecked : (w : Writer) (r : Refusal) → session s lane ≡ writer w → checked ≡ Err r → checked_chunk s lane checked ≡ Err r
  unfolding checked_chunk
  unchecked w r at bad = rw (at, bad) refl

  pub done : (w : Writer) (p : List ℕ) → session s lane ≡ writer w → checked ≡ Ok p → checked_chunk s lane checked ≡ Ok (with_session s lane (writer (calls.chunk w p)), Done)
  unfolding checked_chunk goes_on
  done w p at good = rw (at, good) refl

-- ---- a piece more

pub is_writer_more : (s : Store) (w : Writer) (p : List ℕ) → IsPiece p → IsWriter s.snapshots w → IsWriter s.snapshots (calls.chunk w p)
is_writer_more s w p is h = is_writer_pooled s w (p ∷ []) (All-cons IsPiece p [] is (All-nil IsPiece)) h

-- ---- the disk

no_some : (x : List ℕ) → None ≡ Some x → ⊥
no_some x e = cc

some_same : (a b : List ℕ) → Some a ≡ Some b → a ≡ b
some_same a b e = cc

module _ (m : Files) (digest : Digest32) (bytes p : List ℕ) (is : IsSent digest bytes p) where
  n : Files
  n = with_chunk digest.0 bytes m

  named : IsDigest digest.0
  named = subst IsDigest is.digest_is (is_digest p)

  there : MayStand m digest (Ok p) → HasChunk (with_chunk digest.0 bytes m) p
  there may = ap (λ d. get (with_chunk digest.0 bytes m) (chunk_name d)) is.digest_is ∙ by_case (get m (chunk_name digest.0)) refl
    where
      by_case : (o : Option (List ℕ)) → get m (chunk_name digest.0) ≡ o → get (with_chunk digest.0 bytes m) (chunk_name digest.0) ≡ Some (blob p)
      by_case None e =
          ap (λ f. get f (chunk_name digest.0)) (with_absent m digest.0 bytes e) ∙ installed_name m (chunk_name digest.0) bytes ∙ ap (λ b. Some b) is.text
      by_case (Some found) e =
          ap (λ f. get f (chunk_name digest.0)) (with_present m digest.0 bytes found e) ∙ e ∙ ap (λ b. Some b) (may found e)

  stands : (snapshots : List Snapshot) → StandsFor m snapshots → StandsFor (with_chunk digest.0 bytes m) snapshots
  stands snapshots s = record {
    order = s.order;
    each = s.each;
    groups = s.groups;
    manifests = λ key is_key. subst (λ o. IsSome o ↔ Contains (map (λ x. x.key) snapshots) key) (sym (with_file m digest.0 bytes key manifest_name)) (s.manifests key is_key);
    files = λ i d lt. λ j f lt2.
        let x = get_or snapshots i d in with_file m digest.0 bytes x.key (get_or x.files j f).name ∙ s.files i d lt j f lt2;
    pieces = λ i d lt. λ j q lt2. with_kept m digest.0 bytes _ _ (s.pieces i d lt j q lt2);
    chunks = whole_with m digest.0 named bytes (chunk_of digest bytes p is) s.chunks;
  }

  uploads : (v : Writer) → HasUploads m v → HasUploads (with_chunk digest.0 bytes m) v
  uploads v h = record {
    files = λ i d lt other. with_file m digest.0 bytes v.key (get_or v.files i d).name ∙ h.files i d lt other;
    pool = λ i d lt. with_kept m digest.0 bytes _ _ (h.pool i d lt);
  }

  uploads_more : (w : Writer) → MayStand m digest (Ok p) → HasUploads m w → HasUploads (with_chunk digest.0 bytes m) (calls.chunk w p)
  uploads_more w may h = record {
    files = (uploads w h).files;
    pool = All-append (HasChunk (with_chunk digest.0 bytes m)) w.pool (p ∷ []) (uploads w h).pool
        (All-cons (HasChunk (with_chunk digest.0 bytes m)) p [] (there may) (All-nil (HasChunk (with_chunk digest.0 bytes m))));
  }

  on_disk : (s : Store) (lane : ℕ) (w : Writer) → lane < 64 → IsSound s → session s lane ≡ writer w → MayStand m digest (Ok p) → IsOnDisk m s
      → IsOnDisk (with_chunk digest.0 bytes m) (with_session s lane (writer (calls.chunk w p)))
  on_disk s lane w lt h at may disk = let l : lane < length s.sessions = omega (arith, h.lanes, lt) in record {
    snapshots = stands s.snapshots disk.snapshots;
    writers = λ i v now. changed s lane (writer (calls.chunk w p)) i (writer v) (HasUploads (with_chunk digest.0 bytes m) v) l now
        (λ e found. subst (HasUploads (with_chunk digest.0 bytes m)) (writers_same (calls.chunk w p) v found) (uploads_more w may (disk.writers lane w at)))
        (λ ne old. uploads v (disk.writers i v old));
  }

  -- no other chunk is put
  pub adds : AddsChunks m (with_chunk digest.0 bytes m) (Chunk digest (Ok bytes))
  adds q at = by_name (chunk_name (sha256 q)) (chunk_name digest.0) (HasChunk m q ⊎ Contains (sent_by (Chunk digest (Ok bytes))) q)
      (λ e. by_case e (get m (chunk_name digest.0)) refl) (λ ne. inl (sym (with_other_chunk m digest.0 bytes (sha256 q) ne) ∙ at))
    where
      sent_is : p ∷ [] ≡ sent_by (Chunk digest (Ok bytes))
      sent_is = ap (λ (r : Result (List ℕ) Refusal). elim r [ Ok piece ↦ piece ∷ [] | Err refusal ↦ [] ]) (sym is.data_is)

      by_case : chunk_name (sha256 q) ≡ chunk_name digest.0 → (o : Option (List ℕ)) → get m (chunk_name digest.0) ≡ o → HasChunk m q ⊎ Contains (sent_by (Chunk digest (Ok bytes))) q
      by_case e None none =
          let put : Some bytes ≡ Some (blob q) = sym (installed_name m (chunk_name digest.0) bytes) ∙ ap (λ f. get f (chunk_name digest.0)) (sym (with_absent m digest.0 bytes none))
          ∙ ap (get (with_chunk digest.0 bytes m)) (sym e) ∙ at in
          let same : p ≡ q = same_data p q (sym is.text ∙ some_same bytes (blob q) put) in
          inr (subst (λ ps. Contains ps q) sent_is (0, omega arith, same))
      by_case e (Some found) was = inl (sym (ap (λ f. get f (chunk_name (sha256 q))) (with_present m digest.0 bytes found was)) ∙ at)

-- ---- a piece that is known

mapped : (digest : Digest32) (o : Option ℕ) → is_some o ≡ true → is_some {T = Piece} (option_map (λ len. record { digest = digest; length = len }) o) ≡ true
mapped digest (Some n) e = refl
mapped digest None e = absurd (false_true e)

piece_known : (digest : Digest32) (ps : List (List ℕ)) → is_some (option_map piece_of (piece_with digest ps)) ≡ true → (q : List ℕ) × Contains ps q × (sha256 q ≡ digest.0)
piece_known digest [] e = absurd (false_true e)
piece_known digest (x ∷ ps) e = by_test (bytes_eq (sha256 x) digest.0) refl e (λ later. piece_known digest ps later)
  where
    by_test : (b : Bool) → bytes_eq (sha256 x) digest.0 ≡ b → is_some (option_map piece_of (cond b (Some x) (piece_with digest ps))) ≡ true
        → (is_some (option_map piece_of (piece_with digest ps)) ≡ true → (q : List ℕ) × Contains ps q × (sha256 q ≡ digest.0)) → (q : List ℕ) × Contains (x ∷ ps) q × (sha256 q ≡ digest.0)
    by_test true t e go = (x, (0, omega arith, refl), (bytes_eq-Decides (sha256 x) digest.0).0 t)
    by_test false t e go = let (q, c, same) = go e in (q, Contains-append_right (x ∷ []) ps q c, same)

-- it is one of the pool, and its chunk is there
pub known_there : (m : Files) (w : Writer) (digest : Digest32) → is_some (length_at (pool_of w.pool) digest.0) ≡ true → HasUploads m w → (q : List ℕ) × Contains w.pool q × (get m (chunk_name digest.0) ≡ Some (blob q))
known_there m w digest known h =
    let (q, c, same) = piece_known digest w.pool (ap is_some (sym (known_in-pool w.pool digest)) ∙ mapped digest (length_at (pool_of w.pool) digest.0) known) in
    (q, c, ap (λ d. get m (chunk_name d)) (sym same) ∙ All-contains (HasChunk m) w.pool q h.pool c)

-- ---- the act

module _ {D : Type 0} (d : Ghosts D) where
  pub holds_chunk : (old new : Parts D) (s : Store) (lane : ℕ) (w : Writer) (digest : Digest32) (bytes p : List ℕ) → lane < 64 → session s lane ≡ writer w → IsSent digest bytes p
      → (d.honest old.disk ↔ d.honest new.disk) → (d.honest old.disk → d.content new.disk ≡ with_chunk digest.0 bytes (d.content old.disk)) → new.catalogue.listed ≡ old.catalogue.listed
      → new.sessions.items ≡ set old.sessions.items lane (kept.Writer (shown_writer (calls.chunk w p))) → new.locks ≡ old.locks → new.indexes.items ≡ old.indexes.items → MayStand (d.content old.disk) digest (Ok p)
      → Holds d old s → Holds d new (with_session s lane (writer (calls.chunk w p)))
  holds_chunk old new s lane w digest bytes p lt at is serves now c l k r may h =
      let within : lane < length s.sessions = omega (arith, (h.shows).sound.lanes, lt) in
      let alone : IsAlone s lane (calls.chunk w p) = λ i v ne was same. ne ((h.shows).sound.apart i lane v w was at same) in
      let sound = sound_writer s lane (calls.chunk w p) lt (is_writer_more s w p is.piece ((h.shows).sound.writers lane w at)) alone (h.shows).sound in
      record {
        honest = serves.0 h.honest;
        shows = shows_changed old new s lane (writer (calls.chunk w p)) (kept.Writer (shown_writer (calls.chunk w p))) c l refl
            (locked_writes_on old.locks new.locks s lane w (calls.chunk w p) within k at refl refl (h.shows).locks)
            (subst (FitsRows (with_session s lane (writer (calls.chunk w p)))) (sym r) (rows_writing s lane old.indexes.items within (h.shows).indexes w (calls.chunk w p) at refl (λ q has. Contains-append_left w.pool (p ∷ []) q has)))
            sound h.shows;
        files = subst (λ f. IsOnDisk f (with_session s lane (writer (calls.chunk w p)))) (sym (now h.honest))
            (on_disk (d.content old.disk) digest bytes p is s lane w lt (h.shows).sound at may h.files);
      }

-- ---- a refused upload

-- an empty piece
pub empty_refused : (digest : Digest32) (r : Refusal) → IsCheckedChunk digest (Err r) → ((cause : BadBlob) → r ≡ BadBlobOf cause → ⊥) → ((found : Digest32) → r ≡ WrongDigest found → ⊥) → r ≡ WrongSize 0 0
empty_refused digest (BadBlobOf cause) h not_blob not_digest = absurd (not_blob cause refl)
empty_refused digest (WrongDigest found) h not_blob not_digest = absurd (not_digest found refl)
empty_refused digest (WrongSize place size) h not_blob not_digest = ap (λ k. WrongSize k size) h.0 ∙ ap (λ k. WrongSize 0 k) h.1
empty_refused digest _ h not_blob not_digest = absurd h
