-- VERIFY, woven: a snapshot of one archive and its manifest, and files that differ from what is listed.
use Rattle.std.specs.Prelude.{◌≡◌, ℕ, List, [], ◌∷◌, ◌++◌, codes, pos, refl, replicate, None, Option, Some, Result, Ok, Err}
use Rattle.sha2.specs.Sha256.{sha256}
use Rattle.store_types.specs.declared.names.Digest32.{Digest32}
use Rattle.store_types.specs.declared.names.Kind.TheVariants.{Host}
use Rattle.store_types.specs.declared.order.Entry.{Entry}
use Rattle.store_types.specs.declared.refusal.Refusal.TheVariants as refusals
use Rattle.blob_codec.specs.Blob as blobs
use Rattle.store_files.specs.Archive.{Archive, archive, blob, dynamic, Snapshot}
use Rattle.wire_commands.specs.declared.rows.FileRow.{FileRow}
use Rattle.wire_commands.specs.declared.rows.FileFault.{FileFault}
use Rattle.wire_commands.specs.declared.rows.FileFault.TheVariants as faults
use Rattle.wire_commands.specs.declared.reply.Reply.TheVariants.{Data, Part, Verified, Refused}
use Rattle.wire_commands.proofs.Hexadecimal.{hex}
use Rattle.store_model.specs.declared.ending.Ending.{Ending}
use Rattle.store_model.specs.declared.ending.Ending.TheVariants as endings
use Rattle.store_types.specs.declared.piece.Piece.{Piece}
use Rattle.store_model.specs.Job.{reading, checking, closing, over, asking, Job}
use Rattle.store_model.specs.Jobs.{take}
use Rattle.store_model.specs.VerifyJob.{begun, judged}
use Rattle.store_model.specs.Weave.{Misfit, weave}
use Rattle.store_model.proofs.OnLiterals.{store_model_on_literals, digests_on_literals, manifests_on_literals}
use Rattle.store_model.proofs.ExampleBytes.{k, manifest, entry}
use Rattle.store_model.proofs.ArchiveExamples.{listing}

-- `abc` and `de`
abbrev pub two_pieces : Archive
two_pieces = record { layout = dynamic; uuid = replicate 16 0; ctime = pos 7; reserved = replicate 4032 0; pieces = codes "abc" ∷ codes "de" ∷ [] }

abbrev pub snapshot : Snapshot
snapshot = record {
  key = record { kind = Host; id = codes "a"; time = 1579069803 };
  files = record { name = codes "index.json.blob"; content = blob (listing (codes "5")) } ∷ record { name = codes "root.didx"; content = archive two_pieces } ∷ [];
}

abbrev verify : List ℕ
verify = hex (codes "1d000000 22 1b") ++ k

abbrev given : List Snapshot → List Entry → Ending → Result (List (List ℕ)) Misfit
given snapshots order ending = elim (weave snapshots None order (verify ∷ []) (ending ∷ [])) [ Ok w ↦ Ok w.replies | Err e ↦ Err e ]

-- OPEN_READER, FILES, a part of each file, two chunks, CLOSE_READER
verified : given (snapshot ∷ []) (replicate 7 (entry 0 0) ++ entry 0 6 ∷ []) endings.Clean ≡ Ok (hex (codes "13000000 00 02 0200000000000000 0500000000000000 00") ∷ [])
unfolding store_model_on_literals digests_on_literals manifests_on_literals
verified = refl

-- its first step is refused
no_snapshot : given [] (entry 0 0 ∷ entry 0 6 ∷ []) endings.Clean ≡ Ok (hex (codes "01000000 08") ∷ [])
unfolding store_model_on_literals
no_snapshot = refl

-- memory is wanting for FILES: the reader is closed, and this is the answer
short : given (snapshot ∷ []) (entry 0 0 ∷ entry 0 2 ∷ entry 0 0 ∷ entry 0 6 ∷ []) endings.Clean ≡ Ok (hex (codes "01000000 1c") ∷ [])
unfolding store_model_on_literals
short = refl

-- after a fault of the disk no step follows
faulted : given (snapshot ∷ []) (entry 0 0 ∷ entry 0 5 ∷ entry 0 6 ∷ []) endings.Clean ≡ Ok (hex (codes "01000000 1a") ∷ [])
unfolding store_model_on_literals
faulted = refl

-- an end that leaves the job open
left_open : given (snapshot ∷ []) (entry 0 0 ∷ entry 0 6 ∷ []) endings.SourceFault ≡ Ok ([] ∷ [])
unfolding store_model_on_literals
left_open = refl

no_act : given (snapshot ∷ []) (entry 0 1 ∷ entry 0 6 ∷ []) endings.Clean ≡ Err (record { entry = 0; lane = 0; replayed = 0 })
unfolding store_model_on_literals
no_act = refl

-- ---- faults

abbrev row : List ℕ → ℕ → List ℕ → FileRow
row file size csum = record { file = file; size = size; csum = record { 0 = csum } }

abbrev fault_of : List ℕ → FileRow → List ℕ → Option FileFault
fault_of text x bytes = (judged text x bytes).fault

abbrev digits : List ℕ
digits = blobs.blob (codes "123456789")

as_listed : fault_of k (row (codes "a.blob") 21 (sha256 digits)) digits ≡ None
unfolding store_model_on_literals digests_on_literals
as_listed = refl

another_size : fault_of k (row (codes "a.blob") 20 (sha256 digits)) digits ≡ Some faults.Differs
unfolding store_model_on_literals digests_on_literals
another_size = refl

no_blob : fault_of k (row (codes "a.blob") 3 (sha256 (codes "abc"))) (codes "abc") ≡ Some faults.Unreadable
unfolding store_model_on_literals digests_on_literals
no_blob = refl

-- it is no blob, and not what is listed
no_blob_differs : fault_of k (row (codes "a.blob") 4 (sha256 (codes "abc"))) (codes "abc") ≡ Some faults.Differs
unfolding store_model_on_literals digests_on_literals
no_blob_differs = refl

no_index : fault_of k (row (codes "a.didx") 3 (sha256 (codes "abc"))) (codes "abc") ≡ Some faults.Unreadable
unfolding store_model_on_literals
no_index = refl

-- the manifest of another snapshot
other_manifest : fault_of (codes "host/a/2020-01-15T06:30:04Z") (row (codes "index.json.blob") 86 (sha256 (blobs.blob manifest))) (blobs.blob manifest) ≡ Some faults.Differs
unfolding store_model_on_literals digests_on_literals manifests_on_literals
other_manifest = refl

abbrev abc : Digest32
abc = record { 0 = sha256 (codes "abc") }

abbrev piece : Digest32 → ℕ → Piece
piece d len = record { digest = d; length = len }

abbrev index : FileRow
index = row (codes "root.didx") 3 []

-- the last chunk of the last file, by the file's fault before
abbrev last_chunk : Option FileFault → Job
last_chunk fault = take (checking (begun k) index fault 0 (piece abc 3) []) (Data (blobs.blob (codes "abd")))

abbrev told : FileFault → Job
told fault = asking (closing (Verified 1 0 0 (record { file = codes "root.didx"; fault = fault } ∷ [])))

another_piece : last_chunk None ≡ told (faults.Damaged abc)
unfolding store_model_on_literals digests_on_literals
another_piece = refl

whole_piece : take (checking (begun k) index None 0 (piece abc 3) []) (Data (blobs.blob (codes "abc"))) ≡ asking (closing (Verified 1 0 0 []))
unfolding store_model_on_literals digests_on_literals
whole_piece = refl

-- it is the piece with this digest, and the index says that it has 2,000 bytes
another_length : take (checking (begun k) index None 0 (piece abc 2000) []) (Data (blobs.blob (codes "abc"))) ≡ told (faults.Damaged abc)
unfolding store_model_on_literals digests_on_literals
another_length = refl

-- the blob of nothing is no piece's
no_piece : take (checking (begun k) index None 0 (piece (record { 0 = sha256 [] }) 0) []) (Data (blobs.blob [])) ≡ told (faults.Damaged (record { 0 = sha256 [] }))
unfolding store_model_on_literals digests_on_literals
no_piece = refl

first_fault : last_chunk (Some faults.Differs) ≡ told faults.Differs
unfolding store_model_on_literals digests_on_literals
first_fault = refl

-- the last step is refused, and where memory is wanting for it it comes again
not_closed : take (closing (Verified 0 0 0 [])) (Refused refusals.DiskFault) ≡ over (Refused refusals.DiskFault)
unfolding store_model_on_literals
not_closed = refl

-- so it does behind a refusal, which stays the answer
refused_again : take (closing (Refused refusals.BadName)) (Refused refusals.NoMemory) ≡ asking (closing (Refused refusals.BadName))
unfolding store_model_on_literals
refused_again = refl

closed_again : take (closing (Verified 0 0 0 [])) (Refused refusals.NoMemory) ≡ asking (closing (Refused refusals.NoMemory))
unfolding store_model_on_literals
closed_again = refl

-- a file that is longer than one of its kind may be is done with its first part
long_fixed : take (reading (begun k) (row (codes "a.fidx") 0 []) []) (Part 33558529 (codes "abc")) ≡ asking (closing (Verified 1 0 0 (record { file = codes "a.fidx"; fault = faults.Unreadable } ∷ [])))
unfolding store_model_on_literals
long_fixed = refl

long_fixed_part : take (reading (begun k) (row (codes "a.fidx") 0 []) []) (Part 33558528 (codes "abc")) ≡ asking (reading (begun k) (row (codes "a.fidx") 0 []) (codes "abc"))
unfolding store_model_on_literals
long_fixed_part = refl

long_dynamic : take (reading (begun k) index []) (Part 41947137 (codes "abc")) ≡ told faults.Unreadable
unfolding store_model_on_literals
long_dynamic = refl

long_blob : take (reading (begun k) (row (codes "a.blob") 16777229 []) []) (Part 16777229 (codes "abc")) ≡ asking (closing (Verified 1 0 0 (record { file = codes "a.blob"; fault = faults.Unreadable } ∷ [])))
unfolding store_model_on_literals
long_blob = refl

long_blob_differs : take (reading (begun k) (row (codes "a.blob") 15 []) []) (Part 16777229 (codes "abc")) ≡ asking (closing (Verified 1 0 0 (record { file = codes "a.blob"; fault = faults.Differs } ∷ [])))
unfolding store_model_on_literals
long_blob_differs = refl
