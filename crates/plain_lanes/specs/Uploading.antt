-- The commands by which a SYNC uploads a snapshot, by the digests that were sent.
use Rattle.std.specs.Prelude.{◌≡◌, ℕ, Bool, is_some, List, [], ◌∷◌, ◌++◌, length, Result, OnOk, Vec, if◌then◌else◌}
use Rattle.std.specs.declared.alloc.Global.{Global}
use Rattle.std.specs.FinMap.{get, insert}
use Rattle.std.specs.List.{filter_map, cons_option}
use Rattle.sha2.specs.Sha256.{sha256}
use Rattle.store_types.specs.FileNames.{manifest_name}
use Rattle.known_chunks.specs.Lengths.{Lengths}
use Rattle.blob_codec.specs.Blob as blobs
use Rattle.store_files.specs.Archive.{Archive, Content, archive, blob, File, digest_of, pieces_of, size_of, csum_of, file_named}
use Rattle.wire_commands.specs.declared.command.Command.{Command}
use Rattle.wire_commands.specs.declared.command.Command.TheVariants.{Chunk, CloseIndex, Blob}
use Rattle.store_model.specs.AdminSteps.{facts_in}
use Rattle.store_model.specs.SyncJob.{entries_from, appends, new_index, text_of}

-- where memory is not wanting, these commands come behind those before
abbrev pub Pushes : {A E : Type 0} → Vec Command Global → Vec Command Global → List Command → Result A E → Type 0
Pushes old new more result = OnOk result (new.items ≡ old.items ++ more)

abbrev pub is_sent : List ℕ → Lengths → Bool
is_sent p sent = is_some (get sent (sha256 p))

-- with the digest of a piece, and those of several
abbrev pub sent_with : List ℕ → Lengths → Lengths
sent_with p sent = if is_sent p sent then sent else insert sent (sha256 p) 0

abbrev pub sent_after : List (List ℕ) → Lengths → Lengths
sent_after [] sent = sent
sent_after (p ∷ ps) sent = sent_after ps (sent_with p sent)

abbrev pub chunk_of : List ℕ → Command
chunk_of p = Chunk (digest_of p) (blobs.blob p)

-- the upload of a piece, unless its digest is sent
abbrev pub one_chunk : Lengths → List ℕ → List Command
one_chunk sent p = if is_sent p sent then [] else chunk_of p ∷ []

-- the uploads of the pieces, each at the first use of its digest
abbrev pub chunks_of : Lengths → List (List ℕ) → List Command
chunks_of sent [] = []
chunks_of sent (p ∷ ps) = one_chunk sent p ++ chunks_of (sent_with p sent) ps

abbrev pub close_of : Archive → Command
close_of a = CloseIndex 0 (length a.pieces) (size_of (archive a)) (csum_of (archive a))

abbrev pub archive_by : Lengths → List ℕ → Archive → List Command
archive_by sent name a =
    new_index a.layout name ∷ chunks_of sent a.pieces ++ appends (length a.pieces) (entries_from 0 a.pieces) ++ close_of a ∷ []

abbrev pub file_commands_by : Lengths → List ℕ → Content → List Command
file_commands_by sent name (archive a) = archive_by sent name a
file_commands_by sent name (blob bytes) = Blob name (blobs.blob bytes) ∷ []

abbrev pub file_by : Lengths → File → List Command
file_by sent f = file_commands_by sent f.name f.content

abbrev pub uploads_by : Lengths → List File → List Command
uploads_by sent [] = []
uploads_by sent (f ∷ fs) = file_by sent f ++ uploads_by (sent_after (pieces_of f.content) sent) fs

-- the file of this name, where there is one
abbrev pub named_in : List ℕ → List File → List File
named_in name files = cons_option (file_named name files) []

-- the files that the manifest among them lists, in its order
abbrev pub listed_in : List File → List File
listed_in files = filter_map (λ fact. file_named fact.name files) (facts_in files)

-- the text of the manifest among the files, or nothing
abbrev pub manifest_text_in : List File → List ℕ
manifest_text_in files = text_of (file_named manifest_name files)
