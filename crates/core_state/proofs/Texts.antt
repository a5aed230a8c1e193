-- Which replies have a spelling.
use Rattle.disk_trait.specs.declared.disk.Disk.{Ghosts}
use Rattle.std.proofs.Common.{◌≡◌, ◌<◌, ◌≤◌, ◌*◌, ◌^◌, ℕ, suc, List, [], ◌∷◌, ◌++◌, length, Some, refl, ap, subst, arith, length-append}
use Rattle.std.proofs.lemmas.List.Elements.{All-head, All-tail}
use Rattle.std.specs.List.{All, flat_map}
use Rattle.store_types.specs.declared.refusal.Refusal.TheVariants.{WrongState, BadName, GroupBusy, NotNewer, NoSnapshot, NoFile, Exists, BadBlob, WrongDigest, WrongSize, UnknownChunk, BadOffset, BadClose, OpenIndexes, BadManifest, ManifestMismatch, NotAllowed, TooMany, BadRange, Damaged, Unreadable, NoRemote, RemoteFault, DiskFault, Halted, NoMemory}
use Rattle.store_types.specs.declared.names.Digest32.{Digest32}
use Rattle.store_types.specs.declared.refusal.CloseFault.{CloseFault}
use Rattle.store_types.specs.declared.refusal.CloseFault.TheVariants.{Count, Size, Csum, Rest}
use Rattle.store_types.specs.declared.refusal.ChunkFault.{ChunkFault}
use Rattle.store_types.specs.declared.refusal.ChunkFault.TheVariants.{Nothing, NotABlob, Other}
use Rattle.store_types.specs.declared.refusal.SessionState.{SessionState}
use Rattle.store_types.specs.declared.refusal.BadBlob.{BadBlob as BlobCause}
use Rattle.store_types.specs.declared.refusal.BadBlob.TheVariants as blobs
use Rattle.wire_frames.specs.Frames.{body_limit}
use Rattle.wire_commands.specs.declared.reply.Reply.{Reply}
use Rattle.wire_commands.specs.declared.reply.Reply.TheVariants.{Done, Base, Part, Data, Keys, Number, Refused}
use Rattle.wire_commands.specs.Fields.{text}
use Rattle.wire_commands.specs.HasText.{FitsBadBlob, FitsCloseFault, FitsChunkFault, FitsMismatch, ReplyHasText}
use Rattle.wire_commands.specs.RefusalText.{chunk_fault_text, refusal_text}
use Rattle.wire_commands.specs.ReplyText.{reply_text}
use Rattle.store_history.specs.declared.act.Answer.{Answer}
use Rattle.core_state.specs.declared.state.Core.{Core}
use Rattle.core_state.specs.Settles.{IsEntered}

-- rows of at most so many bytes
pub rows_short : {A : Type 0} (spelled : A → List ℕ) (most : ℕ) (xs : List A) → All (λ x. length (spelled x) ≤ most) xs → length (flat_map spelled xs) ≤ most * length xs
rows_short spelled most [] all = omega arith
rows_short spelled most (x ∷ xs) all =
    let first = All-head (λ x. length (spelled x) ≤ most) x xs all in
    let rest = rows_short spelled most xs (All-tail (λ x. length (spelled x) ≤ most) x xs all) in
    omega (arith, first, rest, length-append (spelled x) (flat_map spelled xs))

pub done_has_text : ReplyHasText Done
unfolding reply_text
done_has_text = (tt, omega arith)

pub base_has_text : (snapshot : List ℕ) → length snapshot < 256 → ReplyHasText (Base snapshot)
unfolding reply_text
base_has_text snapshot lt = (lt, omega (arith, lt))

-- a part has at most 4,194,304 bytes
pub part_has_text : (total : ℕ) (bytes : List ℕ) → total < 2 ^ 64 → length bytes ≤ 4_194_304 → ReplyHasText (Part total bytes)
unfolding reply_text
part_has_text total bytes lt short = (lt, omega (arith, short))

-- bytes that a body holds behind its first
pub data_has_text : (bytes : List ℕ) → length bytes < body_limit → ReplyHasText (Data bytes)
unfolding reply_text
data_has_text bytes short = (tt, omega (arith, short))

pub keys_has_text : (texts : List (List ℕ)) → length texts ≤ 4096 → All (λ t. length t ≤ 90) texts → ReplyHasText (Keys texts)
unfolding reply_text
keys_has_text texts few all =
    let short = rows_short text 91 texts (λ i d lt. let h = all i d lt in omega (arith, h)) in
    ((omega (arith, few), λ i d lt. let h = all i d lt in omega (arith, h)), omega (arith, few, short))

pub number_has_text : (number : ℕ) → number < 256 → ReplyHasText (Number number)
unfolding reply_text
number_has_text number lt = (lt, omega arith)

pub wrong_state_has_text : (state : SessionState) → ReplyHasText (Refused (WrongState state))
unfolding reply_text refusal_text
wrong_state_has_text state = (tt, omega arith)

pub bad_name_has_text : ReplyHasText (Refused BadName)
unfolding reply_text refusal_text
bad_name_has_text = (tt, omega arith)

pub group_busy_has_text : (lane : ℕ) → lane < 2 ^ 32 → ReplyHasText (Refused (GroupBusy lane))
unfolding reply_text refusal_text
group_busy_has_text lane lt = (lt, omega arith)

pub not_newer_has_text : (latest : ℕ) → latest < 2 ^ 64 → ReplyHasText (Refused (NotNewer latest))
unfolding reply_text refusal_text
not_newer_has_text latest lt = (lt, omega arith)

pub no_snapshot_has_text : ReplyHasText (Refused NoSnapshot)
unfolding reply_text refusal_text
no_snapshot_has_text = (tt, omega arith)

pub no_file_has_text : ReplyHasText (Refused NoFile)
unfolding reply_text refusal_text
no_file_has_text = (tt, omega arith)

pub exists_has_text : ReplyHasText (Refused Exists)
unfolding reply_text refusal_text
exists_has_text = (tt, omega arith)

pub bad_blob_has_text : (fault : BlobCause) → FitsBadBlob fault → ReplyHasText (Refused (BadBlob fault))
unfolding reply_text refusal_text
bad_blob_has_text blobs.Short fits = (fits, omega arith)
bad_blob_has_text blobs.Compressed fits = (fits, omega arith)
bad_blob_has_text blobs.Encrypted fits = (fits, omega arith)
bad_blob_has_text blobs.EncryptedCompressed fits = (fits, omega arith)
bad_blob_has_text blobs.UnknownMagic fits = (fits, omega arith)
bad_blob_has_text blobs.TooLong fits = (fits, omega arith)
bad_blob_has_text (blobs.WrongCrc kept found) fits = (fits, omega arith)

-- a cause without fields
pub plain_cause_has_text : (fault : BlobCause) → ((kept found : ℕ) → fault ≡ blobs.WrongCrc kept found → ⊥) → ReplyHasText (Refused (BadBlob fault))
plain_cause_has_text blobs.Short other = bad_blob_has_text blobs.Short tt
plain_cause_has_text blobs.Compressed other = bad_blob_has_text blobs.Compressed tt
plain_cause_has_text blobs.Encrypted other = bad_blob_has_text blobs.Encrypted tt
plain_cause_has_text blobs.EncryptedCompressed other = bad_blob_has_text blobs.EncryptedCompressed tt
plain_cause_has_text blobs.UnknownMagic other = bad_blob_has_text blobs.UnknownMagic tt
plain_cause_has_text blobs.TooLong other = bad_blob_has_text blobs.TooLong tt
plain_cause_has_text (blobs.WrongCrc kept found) other = absurd (other kept found refl)

pub wrong_digest_has_text : (found : Digest32) → length found.0 ≡ 32 → ReplyHasText (Refused (WrongDigest found))
unfolding reply_text refusal_text
wrong_digest_has_text found is = (is, omega (arith, is))

pub wrong_size_has_text : (place size : ℕ) → place < 2 ^ 32 → size < 2 ^ 64 → ReplyHasText (Refused (WrongSize place size))
unfolding reply_text refusal_text
wrong_size_has_text place size lt small = ((lt, small), omega arith)

pub unknown_chunk_has_text : (place : ℕ) → place < 2 ^ 32 → ReplyHasText (Refused (UnknownChunk place))
unfolding reply_text refusal_text
unknown_chunk_has_text place lt = (lt, omega arith)

pub bad_offset_has_text : (place expected : ℕ) → place < 2 ^ 32 → expected < 2 ^ 64 → ReplyHasText (Refused (BadOffset place expected))
unfolding reply_text refusal_text
bad_offset_has_text place expected lt small = ((lt, small), omega arith)

pub bad_close_has_text : (fault : CloseFault) → FitsCloseFault fault → ReplyHasText (Refused (BadClose fault))
unfolding reply_text refusal_text
bad_close_has_text (Count n) fits = (fits, omega arith)
bad_close_has_text (Size n) fits = (fits, omega arith)
bad_close_has_text (Csum d) fits = (fits, omega (arith, fits))
bad_close_has_text (Rest n) fits = (fits, omega arith)

pub open_indexes_has_text : (count : ℕ) → count < 256 → ReplyHasText (Refused (OpenIndexes count))
unfolding reply_text refusal_text
open_indexes_has_text count lt = (lt, omega arith)

pub bad_manifest_has_text : (cause : ℕ) → 1 ≤ cause → cause ≤ 5 → ReplyHasText (Refused (BadManifest cause))
unfolding reply_text refusal_text
bad_manifest_has_text cause least most = ((least, most), omega arith)

-- the file's name is empty just in the fields 1 to 3
pub mismatch_has_text : (file : List ℕ) (field : ℕ) → FitsMismatch file field → ReplyHasText (Refused (ManifestMismatch file field))
unfolding reply_text refusal_text
mismatch_has_text file field fits = let short = fits.0 in (fits, omega (arith, short, length-append file (field ∷ [])))

pub not_allowed_has_text : ReplyHasText (Refused NotAllowed)
unfolding reply_text refusal_text
not_allowed_has_text = (tt, omega arith)

pub too_many_has_text : (limit : ℕ) → limit < 2 ^ 32 → ReplyHasText (Refused (TooMany limit))
unfolding reply_text refusal_text
too_many_has_text limit lt = (lt, omega arith)

pub bad_range_has_text : (size : ℕ) → size < 2 ^ 64 → ReplyHasText (Refused (BadRange size))
unfolding reply_text refusal_text
bad_range_has_text size lt = (lt, omega arith)

short_behind : (digest fault : List ℕ) → length digest ≡ 32 → length fault ≡ 33 → length (23 ∷ digest ++ fault) ≤ body_limit
short_behind digest fault is long = omega (arith, is, long, length-append digest fault)

pub damaged_has_text : (digest : Digest32) (fault : ChunkFault) → length digest.0 ≡ 32 → FitsChunkFault fault → ReplyHasText (Refused (Damaged digest fault))
unfolding reply_text refusal_text
damaged_has_text digest Nothing is fits = ((is, fits), short_behind digest.0 (chunk_fault_text Nothing) is refl)
damaged_has_text digest NotABlob is fits = ((is, fits), short_behind digest.0 (chunk_fault_text NotABlob) is refl)
damaged_has_text digest (Other found) is fits = ((is, fits), short_behind digest.0 (2 ∷ found.0) is (ap suc fits))

pub unreadable_has_text : (name : List ℕ) → length name < 256 → ReplyHasText (Refused (Unreadable name))
unfolding reply_text refusal_text
unreadable_has_text name lt = (lt, omega (arith, lt))

pub no_remote_has_text : ReplyHasText (Refused NoRemote)
unfolding reply_text refusal_text
no_remote_has_text = (tt, omega arith)

pub remote_fault_has_text : ReplyHasText (Refused RemoteFault)
unfolding reply_text refusal_text
remote_fault_has_text = (tt, omega arith)

pub disk_fault_has_text : ReplyHasText (Refused DiskFault)
unfolding reply_text refusal_text
disk_fault_has_text = (tt, omega arith)

pub halted_has_text : (place : ℕ) → place < 2 ^ 64 → ReplyHasText (Refused (Halted place))
unfolding reply_text refusal_text
halted_has_text place lt = (lt, omega arith)

pub no_memory_has_text : ReplyHasText (Refused NoMemory)
unfolding reply_text refusal_text
no_memory_has_text = (tt, omega arith)

-- an entry's reply is another text for the same reply
pub entered_as : {D E C : Type 0} (d : Ghosts D) (old new : Core D E C) (lane moment kind : ℕ) (r s : Reply) (answer : Answer)
    → r ≡ s → IsEntered d old new lane moment kind (Some r) answer → IsEntered d old new lane moment kind (Some s) answer
entered_as d old new lane moment kind r s answer is e = subst (λ x. IsEntered d old new lane moment kind (Some x) answer) is e
