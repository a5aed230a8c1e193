-- A reader's commands, by how their tests came out.
use Rattle.std.proofs.Common.{◌≡◌, ℕ, true, false, List, [], length, Result, None, Some, Ok, Err, refl, sym, ap, ◌∙◌}
use Rattle.std.specs.Prelude.{slice_get}
use Rattle.std.proofs.lemmas.Bool.{or_parts}
use Rattle.store_types.specs.declared.names.Digest32.{Digest32}
use Rattle.store_types.specs.declared.names.SnapshotKey.{SnapshotKey}
use Rattle.store_types.specs.declared.refusal.Refusal.{Refusal}
use Rattle.store_types.specs.declared.refusal.Refusal.TheVariants.{BadName, NoSnapshot, NoFile, NotAllowed, BadRange}
use Rattle.store_types.specs.Chain.Refusing.{◌>>=◌, or_else}
use Rattle.store_types.specs.FileNames.{is_file_name, is_index_name, is_blob_name}
use Rattle.blob_codec.specs.Blob as blobs
use Rattle.store_files.specs.Archive.{File, Snapshot, file_named, pieces_of, piece_with}
use Rattle.wire_commands.specs.declared.reply.Reply.{Reply}
use Rattle.wire_commands.specs.declared.reply.Reply.TheVariants.{Done, Data}
use Rattle.store_model.specs.Store.{Store, Reader, reader, session, with_session, want_reader, snapshot_named, ended}
use Rattle.store_model.specs.Heads.{idle_key}
use Rattle.store_model.specs.ReaderSteps.{open_reader, reader_files, note, download, noted_pieces, get_chunk, range_of, range, read_file, read_chunk, close_reader}
use Rattle.plain_sessions.specs.Reading.{chunk_of, entry_blob}
use Rattle.plain_store.specs.Parts.{file_part}
use Rattle.plain_store.proofs.PartLemmas.{part_in_row}

-- the files of the reader's snapshot
pub files_none : (s : Store) (x : Reader) → snapshot_named x.key s.snapshots ≡ None → reader_files s x ≡ []
files_none s x h = rw (reader_files, h) refl

pub files_some : (s : Store) (x : Reader) (found : Snapshot) → snapshot_named x.key s.snapshots ≡ Some found → reader_files s x ≡ found.files
files_some s x found h = rw (reader_files, h) refl

module _ (s : Store) (lane : ℕ) (text : List ℕ) where
  pub open_refused : (r : Refusal) → idle_key s lane text ≡ Err r → open_reader s lane text ≡ Err r
  unfolding open_reader
  open_refused r e = rw e refl

  pub open_no_snapshot : (key : SnapshotKey) → idle_key s lane text ≡ Ok key → snapshot_named key s.snapshots ≡ None → open_reader s lane text ≡ Err NoSnapshot
  unfolding open_reader
  open_no_snapshot key begins none = rw (begins, none) refl

  pub open_goes : (key : SnapshotKey) (x : Snapshot) (r : Reader) (after : Store)
      → idle_key s lane text ≡ Ok key → snapshot_named key s.snapshots ≡ Some x
      → r ≡ record { key = key; noted = [] } → after ≡ with_session s lane (reader r) → open_reader s lane text ≡ Ok (after, Done)
  unfolding open_reader
  open_goes key x r after begins there new is = rw (begins, there, is, new) refl

-- ---- DOWNLOAD

module _ (s : Store) (lane : ℕ) (name : List ℕ) (offset : ℕ) where
  pub not_reader : (r : Refusal) → want_reader (session s lane) ≡ Err r → download s lane name offset ≡ Err r
  unfolding download
  not_reader r e = rw e refl

  pub no_name : (x : Reader) → want_reader (session s lane) ≡ Ok x → is_file_name name ≡ false → download s lane name offset ≡ Err BadName
  unfolding download
  no_name x e bad = rw (e, bad) refl

  module _ (x : Reader) (e : want_reader (session s lane) ≡ Ok x) (good : is_file_name name ≡ true) where
    abbrev tells : File × Reply → Result (Store × Reply) Refusal
    tells y = Ok (with_session s lane (reader (note name (y.0).content x)), y.1)

    tests_are : download s lane name offset ≡ (file_part (reader_files s x) name offset >>= tells)
    unfolding download
    tests_are = rw (e, good) (part_in_row (or_else NoFile (file_named name (reader_files s x))) offset tells)

    pub no_part : (r : Refusal) → file_part (reader_files s x) name offset ≡ Err r → download s lane name offset ≡ Err r
    no_part r h = tests_are ∙ ap (λ p. p >>= tells) h

    pub downloads : (f : File) (reply : Reply) (after : Store) → file_part (reader_files s x) name offset ≡ Ok (f, reply)
        → after ≡ with_session s lane (reader (note name f.content x)) → download s lane name offset ≡ Ok (after, reply)
    downloads f reply after h is = tests_are ∙ ap (λ p. p >>= tells) h ∙ ap (λ a. Ok (a, reply)) (sym is)

-- ---- a VERIFY's read of a file

module _ (s : Store) (lane : ℕ) (name : List ℕ) (offset : ℕ) where
  abbrev same_store : Store × Reply → Result (Store × Reply) Refusal
  same_store given = Ok (s, given.1)

  pub file_not_reader : (r : Refusal) → want_reader (session s lane) ≡ Err r → read_file s lane name offset ≡ Err r
  unfolding read_file
  file_not_reader r e = ap (λ d. d >>= same_store) (not_reader s lane name offset r e)

  module _ (x : Reader) (e : want_reader (session s lane) ≡ Ok x) (good : is_file_name name ≡ true) where
    pub file_refused : (r : Refusal) → file_part (reader_files s x) name offset ≡ Err r → read_file s lane name offset ≡ Err r
    unfolding read_file
    file_refused r h = ap (λ d. d >>= same_store) (no_part s lane name offset x e good r h)

    pub file_given : (f : File) (reply : Reply) → file_part (reader_files s x) name offset ≡ Ok (f, reply) → read_file s lane name offset ≡ Ok (s, reply)
    unfolding read_file
    file_given f reply h = ap (λ d. d >>= same_store) (downloads s lane name offset x e good f reply _ h refl)

-- ---- and of a chunk

module _ (s : Store) (lane : ℕ) (name : List ℕ) (entry : ℕ) where
  pub entry_not_reader : (r : Refusal) → want_reader (session s lane) ≡ Err r → read_chunk s lane name entry ≡ Err r
  unfolding read_chunk
  entry_not_reader r e = rw e refl

  module _ (x : Reader) (e : want_reader (session s lane) ≡ Ok x) where
    pub entry_no_index : is_index_name name ≡ false → read_chunk s lane name entry ≡ Err NoFile
    unfolding read_chunk
    entry_no_index bad = rw (e, bad) refl

    pub entry_no_file : is_index_name name ≡ true → file_named name (reader_files s x) ≡ None → read_chunk s lane name entry ≡ Err NoFile
    unfolding read_chunk
    entry_no_file good none = rw (e, good, none) refl

    module _ (f : File) (good : is_index_name name ≡ true) (there : file_named name (reader_files s x) ≡ Some f) where
      entry_tests : read_chunk s lane name entry ≡ (entry_blob (pieces_of f.content) entry >>= λ bytes. Ok (s, Data bytes))
      unfolding read_chunk
      entry_tests = rw (e, good, there) (by_piece (or_else (BadRange (length (pieces_of f.content))) (slice_get (pieces_of f.content) entry)))
        where
          by_piece : (o : Result (List ℕ) Refusal)
              → (o >>= λ piece. (let y : Result (Store × Reply) Refusal = Ok (s, Data (blobs.blob piece)) in y))
              ≡ ((o >>= λ piece. (let y : Result (List ℕ) Refusal = Ok (blobs.blob piece) in y)) >>= λ bytes. (let z : Result (Store × Reply) Refusal = Ok (s, Data bytes) in z))
          by_piece (Err r) = refl
          by_piece (Ok piece) = refl

      pub entry_refused : (r : Refusal) → entry_blob (pieces_of f.content) entry ≡ Err r → read_chunk s lane name entry ≡ Err r
      entry_refused r h = entry_tests ∙ ap (λ p. p >>= λ bytes. Ok (s, Data bytes)) h

      pub entry_given : (bytes : List ℕ) → entry_blob (pieces_of f.content) entry ≡ Ok bytes → read_chunk s lane name entry ≡ Ok (s, Data bytes)
      entry_given bytes h = entry_tests ∙ ap (λ p. p >>= λ bytes. Ok (s, Data bytes)) h

-- ---- GET_CHUNK

module _ (s : Store) (lane : ℕ) (digest : Digest32) where
  pub chunk_not_reader : (r : Refusal) → want_reader (session s lane) ≡ Err r → get_chunk s lane digest ≡ Err r
  unfolding get_chunk
  chunk_not_reader r e = rw e refl

  module _ (x : Reader) (e : want_reader (session s lane) ≡ Ok x) where
    chunk_tests : get_chunk s lane digest ≡ (chunk_of (reader_files s x) x digest >>= λ bytes. Ok (s, Data bytes))
    unfolding get_chunk
    chunk_tests = rw e (by_piece (or_else NotAllowed (piece_with digest (noted_pieces (reader_files s x) x))))
      where
        by_piece : (o : Result (List ℕ) Refusal)
            → (o >>= λ piece. (let y : Result (Store × Reply) Refusal = Ok (s, Data (blobs.blob piece)) in y))
            ≡ ((o >>= λ piece. (let y : Result (List ℕ) Refusal = Ok (blobs.blob piece) in y)) >>= λ bytes. (let z : Result (Store × Reply) Refusal = Ok (s, Data bytes) in z))
        by_piece (Err r) = refl
        by_piece (Ok piece) = refl

    pub chunk_refused : (r : Refusal) → chunk_of (reader_files s x) x digest ≡ Err r → get_chunk s lane digest ≡ Err r
    chunk_refused r h = chunk_tests ∙ ap (λ p. p >>= λ bytes. Ok (s, Data bytes)) h

    pub chunk_given : (bytes : List ℕ) → chunk_of (reader_files s x) x digest ≡ Ok bytes → get_chunk s lane digest ≡ Ok (s, Data bytes)
    chunk_given bytes h = chunk_tests ∙ ap (λ p. p >>= λ bytes. Ok (s, Data bytes)) h

-- ---- RANGE

-- what no file may be called, no index may be
pub no_index_name : (name : List ℕ) → is_file_name name ≡ false → is_index_name name ≡ false
no_index_name name bad = (or_parts (is_index_name name) (is_blob_name name) bad).0

module _ (s : Store) (lane : ℕ) (name : List ℕ) (offset len : ℕ) where
  pub range_not_reader : (r : Refusal) → want_reader (session s lane) ≡ Err r → range s lane name offset len ≡ Err r
  unfolding range
  range_not_reader r e = rw e refl

  module _ (x : Reader) (e : want_reader (session s lane) ≡ Ok x) where
    pub range_no_name : is_index_name name ≡ false → range s lane name offset len ≡ Err BadName
    unfolding range
    range_no_name bad = rw (e, bad) refl

    pub range_no_file : is_index_name name ≡ true → file_named name (reader_files s x) ≡ None → range s lane name offset len ≡ Err NoFile
    unfolding range
    range_no_file good none = rw (e, good, none) refl

    module _ (f : File) (good : is_index_name name ≡ true) (there : file_named name (reader_files s x) ≡ Some f) where
      pub range_refused : (r : Refusal) → range_of (reader_files s x) x name offset len ≡ Err r → range s lane name offset len ≡ Err r
      unfolding range
      range_refused r h = rw (e, good, there, h) refl

      pub range_given : (bytes : List ℕ) → range_of (reader_files s x) x name offset len ≡ Ok bytes → range s lane name offset len ≡ Ok (s, Data bytes)
      unfolding range
      range_given bytes h = rw (e, good, there, h) refl

-- ---- CLOSE_READER

module _ (s : Store) (lane : ℕ) where
  pub close_not_reader : (r : Refusal) → want_reader (session s lane) ≡ Err r → close_reader s lane ≡ Err r
  unfolding close_reader
  close_not_reader r e = rw e refl

  pub close_goes : (x : Reader) (after : Store) → want_reader (session s lane) ≡ Ok x → after ≡ ended s lane → close_reader s lane ≡ Ok (after, Done)
  unfolding close_reader
  close_goes x after e is = rw (e, is) refl
