-- CHUNK is the store's, by what the core keeps: a chunk is noted and put, or known already, or nothing changes.
use Rattle.disk_trait.specs.declared.disk.Disk.{Ghosts}
use Rattle.std.proofs.Common.{◌≡◌, ◌↔◌, ℕ, ◌+◌, ◌-◌, ◌<◌, ◌≤◌, Bool, true, false, if◌then◌else◌, List, [], ◌∷◌, length, get_or, set, Option, Some, None, Result, Ok, Err, OnOk, OnErr, is_some, refl, sym, ap, subst, ◌∙◌, arith, Fits, w8, inr, IsErrOf}
use Rattle.std.specs.FinMap.{get, put}
use Rattle.std.proofs.lemmas.Bool.{and_parts, and_from}
use Rattle.std.proofs.lemmas.List.{get_or_default}
use Rattle.std.specs.List.{All, list_all}
use Rattle.std.proofs.lemmas.List.Elements.{All-nil, All-cons, All-append, All-contains, All-from_get_or, Contains-append_left}
use Rattle.sha2.specs.Sha256.{sha256}
use Rattle.disk_trait.specs.Files.{Files}
use Rattle.disk_trait.specs.declared.disk.DiskError.{DiskError}
use Rattle.disk_trait.specs.declared.disk.DiskError.TheVariants.{NoMemory, Failed}
use Rattle.disk_trait.specs.Disk.{Serves}
use Rattle.disk_trait.specs.Effects.{KeepsFiles}
use Rattle.file_install.specs.Install.{installed}
use Rattle.store_types.specs.declared.names.Digest32.{Digest32}
use Rattle.store_types.specs.Names.{text_cmp}
use Rattle.store_types.specs.declared.refusal.Refusal.{Refusal}
use Rattle.blob_codec.specs.Blob.{blob}
use Rattle.blob_codec.specs.Laws.{AreBytes}
use Rattle.wire_commands.specs.declared.reply.Reply.TheVariants.{Done}
use Rattle.store_model.specs.Store.{Store, Writer, writer, session, with_session}
use Rattle.store_files.specs.Folder.{IsPiece, chunk_name}
use Rattle.store_model.specs.WriterCalls as calls
use Rattle.store_model.specs.ArchiveSteps.{checked_chunk}
use Rattle.store_history.specs.declared.act.Act.TheVariants.{Chunk}
use Rattle.store_history.specs.Acts.{IsCheckedChunk}
use Rattle.store_history.specs.History.{data_in}
use Rattle.chunk_store.specs.Pieces.{IsChunk, OkStores, StepsStore, with_chunk}
use Rattle.chunk_store.proofs.Blobs.{same_data}
use Rattle.backup_session.specs.Session.{Pool, IsPool, length_at, with_length, settled}
use Rattle.backup_session.specs.Shown.{shown, pool_of}
use Rattle.backup_session.proofs.Pools.{pool_of-more}
use Rattle.core_state.specs.Kept.{KeptAt}
use Rattle.core_state.specs.declared.kept.Session.{Session}
use Rattle.core_state.specs.declared.kept.Session.TheVariants as kept
use Rattle.core_state.specs.declared.kept.Writing.{Writing}
use Rattle.core_state.specs.declared.parts.Parts.{Parts}
use Rattle.core_state.specs.Chunks.{MayStand, AddsChunks}
use Rattle.store_history.specs.ChunkFiles.{HasChunk}
use Rattle.core_state.specs.Holds.{HasUploads, Holds, IsOnDisk, Shows}
use Rattle.core_state.specs.Changes.{by_writer, change_of, chunk_put, stores}
use Rattle.core_state.specs.PassedTests.{PassesItsTests}
use Rattle.core_state.specs.Wanted.{session_at, want_writer}
use Rattle.core_state.specs.declared.kept.Session.TheVariants.{Idle}
use Rattle.core_state.proofs.Commanding.{is_writing}
use Rattle.core_state.proofs.LockLemmas.{locked_writes_on}
use Rattle.core_state.specs.Indexed.{FitsRows}
use Rattle.core_state.proofs.Rows.{rows_writing}
use Rattle.core_state.proofs.Soundness.{IsAlone, disk_writer, shows_changed, sound_writer}
use Rattle.core_state.specs.Named.{has_text, is_named}
use Rattle.core_state.specs.Shown.{shown_writer, shown_files}
use Rattle.core_writer.specs.NotedChunks.{MayNote, PutsChunk, noted, with_noted}
use Rattle.core_writer.proofs.ArchiveLemmas.{settled_at}
use Rattle.core_writer.proofs.KeepLemmas.{found_stays, found_writer}
use Rattle.core_writer.proofs.ChunkLemmas.{IsRead, IsSent, read, sent, chunk_of, is_writer_more, done, adds, known_there, holds_chunk}

-- ---- how long a piece is

length_blob : (p : List ℕ) → length (blob p) ≡ 12 + length p
unfolding blob
length_blob p = omega arith

-- behind the header
pub record HasPiece (bytes : List ℕ) : Type 0 where
  pub header : 12 ≤ length bytes
  pub least : 1 ≤ length bytes - 12
  pub most : length bytes - 12 ≤ 16_777_216

pub has_piece : (digest bytes : List ℕ) → IsChunk digest bytes → HasPiece bytes
has_piece digest bytes h =
    let size : length bytes ≡ 12 + length h.0 = ap length h.2 ∙ length_blob h.0 in
    let least = (h.1).0 in
    let most = (h.1).1 in
    record { header = omega arith; least = omega arith; most = omega arith }

piece_size : (digest : Digest32) (bytes p : List ℕ) → IsSent digest bytes p → length bytes - 12 ≡ length p
piece_size digest bytes p h =
    let size : length bytes ≡ 12 + length p = ap length h.text ∙ length_blob p in omega arith

-- what passed the check is a piece's blob
pub is_sent : (digest : Digest32) (bytes : List ℕ) → ((i : ℕ) → Fits w8 (get_or bytes i 0)) → IsCheckedChunk digest (Ok bytes) → IsChunk digest.0 bytes
is_sent digest bytes fits h =
    let are : AreBytes bytes = All-from_get_or (λ b. b < 256) bytes 0 (λ i within. omega (arith, fits i)) in
    let (p, is) = read digest bytes h in
    chunk_of digest bytes p (sent digest bytes p are h is)

pub sent_bytes : (bytes : List ℕ) → ((i : ℕ) → Fits w8 (get_or bytes i 0)) → AreBytes bytes
sent_bytes bytes fits = All-from_get_or (λ b. b < 256) bytes 0 (λ i within. omega (arith, fits i))

-- ---- the session

named_noted : (digest : List ℕ) (len : ℕ) (x : Session) → is_named x ≡ true → is_named (with_noted digest len x) ≡ true
named_noted digest len kept.Idle h = h
named_noted digest len (kept.Writer w) h = and_from (has_text ((w.session).writer).key) true (and_parts (has_text ((w.session).writer).key) _ h).0 refl
named_noted digest len (kept.Reader r) h = h

-- whether the chunk was taken or not
pub named_taken : (result : Result (Unit {0}) DiskError) (digest : List ℕ) (len : ℕ) (x y : Session) → OnOk result (y ≡ with_noted digest len x) → OnErr result (y ≡ x) → is_named x ≡ true → is_named y ≡ true
named_taken (Ok u) digest len x y ok err h = ap is_named ok ∙ named_noted digest len x h
named_taken (Err e) digest len x y ok err h = ap is_named err ∙ h

-- ---- what is kept of the writer

abbrev with_pool : Writer → Pool → Writing
with_pool v pool = record { session = settled (record (shown v) { pool = pool }); files = shown_files v.key v.files }

shown_chunk : (v : Writer) (p : List ℕ) (pool : Pool) → pool_of (calls.chunk v p).pool ≡ pool → shown_writer (calls.chunk v p) ≡ with_pool v pool
unfolding shown
shown_chunk v p pool is = ap (with_pool v) is

shown_noted : (v : Writer) (p : List ℕ) → noted (shown_writer v) (sha256 p) (length p) ≡ shown_writer (calls.chunk v p)
unfolding shown
shown_noted v p = sym (shown_chunk v p _ (pool_of-more v.pool p))

length_known : (pool : Pool) (digest : List ℕ) (len : ℕ) → is_some (length_at pool digest) ≡ true → with_length pool digest len ≡ pool
length_known pool digest len known = ap (λ b. if b then pool else put text_cmp digest len pool) known

-- a piece whose digest is known changes nothing
shown_known : (v : Writer) (p : List ℕ) → is_some (length_at (pool_of v.pool) (sha256 p)) ≡ true → shown_writer (calls.chunk v p) ≡ shown_writer v
unfolding shown
shown_known v p known = shown_chunk v p (pool_of v.pool) (pool_of-more v.pool p ∙ length_known (pool_of v.pool) (sha256 p) (length p) known)

pool_shown : (v : Writer) → (shown v).pool ≡ pool_of v.pool
unfolding shown
pool_shown v = refl

-- ---- the act

step_done : (s : Store) (lane : ℕ) (v : Writer) (digest : Digest32) (checked : Result (List ℕ) Refusal) (bytes p : List ℕ) → session s lane ≡ writer v → IsRead digest bytes p → checked ≡ Ok bytes
    → checked_chunk s lane (data_in checked) ≡ Ok (with_session s lane (writer (calls.chunk v p)), Done)
step_done s lane v digest checked bytes p at is was = done s lane (data_in checked) v p at (ap data_in was ∙ is.data_is)

may_put : (m : Files) (digest : Digest32) (checked : Result (List ℕ) Refusal) (bytes p : List ℕ) → IsRead digest bytes p → checked ≡ Ok bytes → MayStand m digest (data_in checked) → MayStand m digest (Ok p)
may_put m digest checked bytes p is was may = subst (MayStand m digest) (ap data_in was ∙ is.data_is) may

-- where it is known, its chunk is there
uploads_known : (m : Files) (v : Writer) (digest : Digest32) (p : List ℕ) → sha256 p ≡ digest.0 → is_some (length_at (pool_of v.pool) digest.0) ≡ true → MayStand m digest (Ok p) → HasUploads m v → HasUploads m (calls.chunk v p)
uploads_known m v digest p is known may h =
    let (q, in_pool, at) = known_there m v digest known h in
    let there : HasChunk m p = ap (λ d. get m (chunk_name d)) is ∙ at ∙ ap (λ t. Some t) (may (blob q) at) in
    record { files = h.files; pool = All-append (HasChunk m) v.pool (p ∷ []) h.pool (All-cons (HasChunk m) p [] there (All-nil (HasChunk m))) }

-- and it is a piece, as that of the pool is
known_piece : (m : Files) (v : Writer) (digest : Digest32) (p : List ℕ) → is_some (length_at (pool_of v.pool) digest.0) ≡ true → MayStand m digest (Ok p) → HasUploads m v → All IsPiece v.pool → IsPiece p
known_piece m v digest p known may h pool =
    let (q, in_pool, at) = known_there m v digest known h in
    subst IsPiece (same_data q p (may (blob q) at)) (All-contains IsPiece v.pool q pool in_pool)

-- and nothing is put
known_stays : (m : Files) (v : Writer) (digest : Digest32) (bytes : List ℕ) → is_some (length_at (pool_of v.pool) digest.0) ≡ true → HasUploads m v → with_chunk digest.0 bytes m ≡ m
known_stays m v digest bytes known h =
    let (q, in_pool, at) = known_there m v digest known h in
    ap (λ o. if is_some o then m else installed m (chunk_name digest.0) bytes) at

-- what the session has to have for its writer to note it
pub may_note : (digest : List ℕ) (items : List Session) (lane : ℕ) (found : Session) (w : Writing) (known : Bool) → list_all is_named items ≡ true → lane < length items → found ≡ get_or items lane found → want_writer (get_or items lane Idle) ≡ Ok w
    → known ≡ is_some (length_at ((w.session).writer).pool digest) → known ≡ false → IsPool ((w.session).writer).pool → MayNote digest found
may_note digest items lane found w known named lt at wants value unknown pool =
    let is = found_writer items lane found w lt at wants in
    subst (MayNote digest) (sym is) (record {
      settled = settled_at items lane found w named lt at is;
      pool = pool;
      unknown = none_is (length_at ((w.session).writer).pool digest) (sym value ∙ unknown);
    })
  where
    none_is : (o : Option ℕ) → is_some o ≡ false → o ≡ None
    none_is None e = refl
    none_is (Some n) e = cc

-- the change of an act that puts a chunk
pub chunk_change : (k : KeptAt) (w : Writing) (digest : Digest32) (checked : Result (List ℕ) Refusal) (bytes : List ℕ) → k.session ≡ kept.Writer w → checked ≡ Ok bytes
    → change_of (Chunk digest checked) k ≡ stores (chunk_name digest.0) bytes
chunk_change k w digest checked bytes is was =
    ap (λ y. by_writer y (λ _. chunk_put digest checked)) is ∙ ap (chunk_put digest) was

-- it is installed where its file isn't there
pub puts_blob : {D : Type 0} (d : Ghosts D) (old new : D) (digest bytes : List ℕ) (result : Result (Unit {0}) DiskError) → Serves d.honest d.faults old new (IsErrOf result Failed)
    → StepsStore d old new digest bytes → OkStores d old new digest bytes result → (IsErrOf result NoMemory → KeepsFiles d old new) → PutsChunk d old new digest bytes result
puts_blob d old new digest bytes result serves crash stored none = record {
  serves = serves;
  crash = inr crash;
  put = stored;
  same = λ want. (none want).0;
  unmoved = λ want. inr (none want).1;
}

-- what is put is a piece's blob
pub chunk_passes : (digest : Digest32) (checked : Result (List ℕ) Refusal) (bytes : List ℕ) → AreBytes bytes → checked ≡ Ok bytes → IsCheckedChunk digest checked
    → (s : Store) (lane : ℕ) → PassesItsTests (Chunk digest checked) s lane
chunk_passes digest checked bytes are was h s lane =
    let ok : IsCheckedChunk digest (Ok bytes) = subst (IsCheckedChunk digest) was h in
    let (p, is) = read digest bytes ok in
    subst (λ k. PassesItsTests (Chunk digest k) s lane) (sym was) (chunk_of digest bytes p (sent digest bytes p are ok is))

module _ {D : Type 0} (g : Ghosts D) where
  -- what the plain store has afterwards
  abbrev Reaches : Parts D → Store → ℕ → Result (List ℕ) Refusal → Type 0
  Reaches new s lane checked = (after : Store) × (checked_chunk s lane (data_in checked) ≡ Ok (after, Done)) × Shows new after × IsOnDisk (g.content new.disk) after

  -- a chunk that was noted and put
  pub takes : (old new : Parts D) (s : Store) (lane : ℕ) (v : Writer) (w : Writing) (x y : Session) (digest : Digest32) (checked : Result (List ℕ) Refusal) (bytes : List ℕ)
      → lane < 64 → session s lane ≡ writer v → shown_writer v ≡ w → x ≡ kept.Writer w → y ≡ with_noted digest.0 (length bytes - 12) x → AreBytes bytes → checked ≡ Ok bytes → IsCheckedChunk digest checked
      → (g.honest old.disk ↔ g.honest new.disk) → (g.honest old.disk → g.content new.disk ≡ with_chunk digest.0 bytes (g.content old.disk)) → new.catalogue.listed ≡ old.catalogue.listed
      → new.sessions.items ≡ set old.sessions.items lane y → new.locks ≡ old.locks → new.indexes.items ≡ old.indexes.items → MayStand (g.content old.disk) digest (data_in checked)
      → Holds g old s → Reaches new s lane checked
  takes old new s lane v w x y digest checked bytes lt at shows x_is y_is are was h serves now c l k r may holds =
      let ok : IsCheckedChunk digest (Ok bytes) = subst (IsCheckedChunk digest) was h in
      let (p, read_is) = read digest bytes ok in
      let is = sent digest bytes p are ok read_is in
      let kept_is : y ≡ kept.Writer (shown_writer (calls.chunk v p)) =
      y_is ∙ ap (with_noted digest.0 (length bytes - 12)) (x_is ∙ ap (λ u. kept.Writer u) (sym shows))
      ∙ ap (λ n. kept.Writer (noted (shown_writer v) digest.0 n)) (piece_size digest bytes p is)
      ∙ ap (λ d. kept.Writer (noted (shown_writer v) d (length p))) (sym is.digest_is) ∙ ap (λ u. kept.Writer u) (shown_noted v p) in
      let after = holds_chunk g old new s lane v digest bytes p lt at is serves now c (l ∙ ap (set old.sessions.items lane) kept_is) k r (may_put (g.content old.disk) digest checked bytes p read_is was may) holds in
      (with_session s lane (writer (calls.chunk v p)), step_done s lane v digest checked bytes p at read_is was, after.shows, after.files)

  -- a chunk that is known, and put
  pub knows : (old new : Parts D) (s : Store) (lane : ℕ) (v : Writer) (w : Writing) (digest : Digest32) (checked : Result (List ℕ) Refusal) (bytes : List ℕ) (known : Bool)
      → lane < 64 → session s lane ≡ writer v → shown_writer v ≡ w → want_writer (session_at old lane) ≡ Ok w → checked ≡ Ok bytes → IsCheckedChunk digest checked
      → known ≡ is_some (length_at ((w.session).writer).pool digest.0) → known ≡ true → g.content new.disk ≡ with_chunk digest.0 bytes (g.content old.disk)
      → new.catalogue.listed ≡ old.catalogue.listed → new.sessions.items ≡ old.sessions.items → new.locks ≡ old.locks → new.indexes.items ≡ old.indexes.items → MayStand (g.content old.disk) digest (data_in checked)
      → Holds g old s → Reaches new s lane checked
  knows old new s lane v w digest checked bytes known lt at shows wants was h value there now c ss k r may holds =
      let (p, is) = read digest bytes (subst (IsCheckedChunk digest) was h) in
      let within : lane < length old.sessions.items = omega (arith, old.lanes, old.sessions.ok.0, lt) in
      let x = session_at old lane in
      let x_is = is_writing x w wants in
      let pool : ((w.session).writer).pool ≡ pool_of v.pool = ap (λ u. ((u.session).writer).pool) (sym shows) ∙ pool_shown v in
      let known_is : is_some (length_at (pool_of v.pool) digest.0) ≡ true = ap (λ ps. is_some (length_at ps digest.0)) (sym pool) ∙ sym value ∙ there in
      let same : x ≡ kept.Writer (shown_writer (calls.chunk v p)) =
      x_is ∙ ap (λ u. kept.Writer u) (sym shows ∙ sym (shown_known v p (ap (λ d. is_some (length_at (pool_of v.pool) d)) is.digest_is ∙ known_is))) in
      let stands = may_put (g.content old.disk) digest checked bytes p is was may in
      let writer_is = (holds.shows).sound.writers lane v at in
      let uploads = uploads_known (g.content old.disk) v digest p is.digest_is known_is stands (holds.files.writers lane v at) in
      let piece = known_piece (g.content old.disk) v digest p known_is stands (holds.files.writers lane v at) writer_is.pool in
      let more = is_writer_more s v p piece writer_is in
      let set_back : set old.sessions.items lane x ≡ old.sessions.items = found_stays old.sessions.items lane x (sym (get_or_default old.sessions.items lane x Idle within)) in
      let sound = (holds.shows).sound in
      let l : lane < length s.sessions = omega (arith, sound.lanes, lt) in
      let alone : IsAlone s lane (calls.chunk v p) = λ i u ne was same. ne (sound.apart i lane u v was at same) in
      let stayed : g.content new.disk ≡ g.content old.disk = now ∙ known_stays (g.content old.disk) v digest bytes known_is (holds.files.writers lane v at) in (
        with_session s lane (writer (calls.chunk v p)),
        step_done s lane v digest checked bytes p at is was,
        shows_changed old new s lane (writer (calls.chunk v p)) x c (ss ∙ sym set_back) same (locked_writes_on old.locks new.locks s lane v (calls.chunk v p) l k at refl refl (holds.shows).locks)
            (subst (FitsRows (with_session s lane (writer (calls.chunk v p)))) (sym r) (rows_writing s lane old.indexes.items l (holds.shows).indexes v (calls.chunk v p) at refl (λ q has. Contains-append_left v.pool (p ∷ []) q has)))
            (sound_writer s lane (calls.chunk v p) lt more alone sound) holds.shows,
        subst (λ m. IsOnDisk m (with_session s lane (writer (calls.chunk v p)))) (sym stayed) (disk_writer (g.content old.disk) s lane (calls.chunk v p) l uploads holds.files),
      )

  -- no other chunk was put
  pub adds_taken : (old : Parts D) (disk : D) (digest : Digest32) (checked : Result (List ℕ) Refusal) (bytes : List ℕ) → AreBytes bytes → checked ≡ Ok bytes → IsCheckedChunk digest checked
      → (g.honest old.disk → g.content disk ≡ with_chunk digest.0 bytes (g.content old.disk)) → (s : Store) → Holds g old s → AddsChunks (g.content old.disk) (g.content disk) (Chunk digest checked)
  adds_taken old disk digest checked bytes are was h now s holds =
      let ok : IsCheckedChunk digest (Ok bytes) = subst (IsCheckedChunk digest) was h in
      let (p, is) = read digest bytes ok in
      subst (λ k. AddsChunks (g.content old.disk) (g.content disk) (Chunk digest k)) (sym was)
      (subst (λ m. AddsChunks (g.content old.disk) m (Chunk digest (Ok bytes))) (sym (now holds.honest)) (adds (g.content old.disk) digest bytes p (sent digest bytes p are ok is)))
