-- A SYNC ends its writer for a file exactly where it has just read this file, and it is none.
use Rattle.std.proofs.Common.{◌≡◌, ◌<◌, ◌≤◌, ◌⊎◌, inl, inr, nat_lt, ℕ, Bool, true, false, List, [], ◌∷◌, ◌++◌, length, Option, Some, None, IfSome, Result, Ok, Err, IsErr, refl, sym, ap, subst, ◌∙◌, if◌then◌else◌}
use Rattle.std.specs.Prelude.{⊤}
use Rattle.std.proofs.lemmas.Bool.{le-ltb, lt-leb, lt-ltb}
use Rattle.std.proofs.lemmas.List.{append-nil, append_assoc}
use Rattle.std.proofs.lemmas.List.Sums.{fold-append}
use Rattle.store_types.specs.declared.refusal.BadBlob.{BadBlob}
use Rattle.store_types.specs.declared.refusal.Refusal.{Refusal}
use Rattle.store_types.specs.declared.refusal.Refusal.TheVariants.{NoMemory, RemoteFault}
use Rattle.store_types.specs.FileNames.{manifest_name}
use Rattle.blob_codec.specs.Blob.{data_of, blob_limit}
use Rattle.store_files.specs.Manifest.{Manifest}
use Rattle.wire_commands.specs.declared.reply.Reply.{Reply}
use Rattle.wire_commands.specs.declared.reply.Reply.TheVariants.{Part, Refused}
use Rattle.store_model.specs.Load.{read_manifest}
use Rattle.store_model.specs.SizeLimits.{size_limit}
use Rattle.store_history.specs.Pulling.{Course, Stock, Pulling, seeking, reading_manifest, reading_file, sending_blob, rejecting, aborting, SyncJob, reports, asks, blob_read, file_part, file_read, file_told, index_in, index_read, is_index, manifest_part, manifest_read, manifest_told, next_file, rejected, rejects, stock_of, take, take_more}
use Rattle.job_laws.specs.Pulls.{BadFilesEndIt, DoesNotDecode, DoesNotDecodeBy, EndsBad, HasReadBad, IsNoManifest, pull_after}
use Rattle.job_laws.proofs.FirstRefusals.{IsFineBehind, IsOpen, Tells, ends_tell, fine_on, refused_tells}

-- ---- behind the last part of such a file

manifest_rejects : (c : Course) (bytes : List ℕ) (o : Option Manifest) → IfSome o (λ m. 63 < length m.files) → manifest_read c bytes o ≡ rejects c manifest_name
unfolding manifest_read
manifest_rejects c bytes None bad = refl
manifest_rejects c bytes (Some m) bad = ap (λ b. if b then next_file c (stock_of bytes m) else rejects c manifest_name) (lt-leb (length m.files) 63 bad)

file_rejects : (c : Course) (s : Stock) (name bytes : List ℕ) → DoesNotDecode name bytes → file_read c s name bytes ≡ rejects c name
unfolding file_read index_read blob_read
file_rejects c s name bytes bad = by_name (is_index name) bad
  where
    by_data : (o : Result (List ℕ) BadBlob) → IsErr o → elim o [ Ok contents ↦ asks (sending_blob c s name bytes) | Err cause ↦ rejects c name ] ≡ rejects c name
    by_data (Ok contents) h = cc
    by_data (Err cause) h = refl

    by_name : (b : Bool) → DoesNotDecodeBy b name bytes → (if b then index_read c s name (index_in name bytes) else blob_read c s name bytes) ≡ rejects c name
    by_name true h = ap (index_read c s name) h
    by_name false h = by_data (data_of bytes) h

either_rejects : (b : Bool) (first next : SyncJob) → next ≡ first → (if b then first else next) ≡ first
either_rejects true first next is = refl
either_rejects false first next is = is

bad_rejects : (x : Pulling) (r : Reply) (path : List ℕ) → EndsBad x r path → take x r ≡ asks (rejecting path)
unfolding take manifest_told manifest_part file_told file_part
bad_rejects (reading_manifest c bytes) (Part total more) path bad =
    by_cause bad.1 ∙ ap (λ p. asks (rejecting p)) (sym bad.0)
  where
    next : SyncJob
    next = if nat_lt (length (bytes ++ more)) total then asks (reading_manifest c (bytes ++ more)) else manifest_read c (bytes ++ more) (read_manifest (bytes ++ more))

    by_cause : (blob_limit < total) ⊎ ((total ≤ length (bytes ++ more)) × IsNoManifest (bytes ++ more)) → (if nat_lt blob_limit total then rejects c manifest_name else next) ≡ rejects c manifest_name
    by_cause (inl long) = ap (λ b. if b then rejects c manifest_name else next) (lt-ltb blob_limit total long)
    by_cause (inr none) =
        either_rejects (nat_lt blob_limit total) (rejects c manifest_name) next
        (ap (λ b. if b then asks (reading_manifest c (bytes ++ more)) else manifest_read c (bytes ++ more) (read_manifest (bytes ++ more))) (le-ltb (length (bytes ++ more)) total none.0)
        ∙ manifest_rejects c (bytes ++ more) (read_manifest (bytes ++ more)) none.1)
bad_rejects (reading_file c s name bytes) (Part total more) path bad =
    by_cause bad.1 ∙ ap (λ p. asks (rejecting p)) (sym bad.0)
  where
    next : SyncJob
    next = if nat_lt (length (bytes ++ more)) total then asks (reading_file c s name (bytes ++ more)) else file_read c s name (bytes ++ more)

    by_cause : (size_limit name < total) ⊎ ((total ≤ length (bytes ++ more)) × DoesNotDecode name (bytes ++ more)) → (if nat_lt (size_limit name) total then rejects c name else next) ≡ rejects c name
    by_cause (inl long) = ap (λ b. if b then rejects c name else next) (lt-ltb (size_limit name) total long)
    by_cause (inr none) =
        either_rejects (nat_lt (size_limit name) total) (rejects c name) next
        (ap (λ b. if b then asks (reading_file c s name (bytes ++ more)) else file_read c s name (bytes ++ more)) (le-ltb (length (bytes ++ more)) total none.0)
        ∙ file_rejects c s name (bytes ++ more) none.1)
bad_rejects x r path bad = absurd bad

-- ---- and behind nothing else

module _ (group : List ℕ) where
  abbrev IsReached : List Reply → SyncJob → Type 0
  IsReached before (asks (rejecting path)) = HasReadBad group before path
  IsReached before pull = ⊤

  told : (z : Refusal) (before : List Reply) (pull : SyncJob) → Tells z pull → IsReached before pull
  told z before (asks (rejecting path)) h = absurd h
  told z before pull h = tt

  fine : (before : List Reply) (x : Pulling) (r : Reply) → pull_after group before ≡ asks x → (pull : SyncJob) → IsFineBehind x r pull → IsReached (before ++ r ∷ []) pull
  fine before x r asked (asks (rejecting path)) h = record { before = before; last = r; state = x; are = refl; asked = asked; bad = h }
  fine before x r asked pull h = tt

  opened : (before : List Reply) (x : Pulling) (r : Reply) → IsOpen x → pull_after group before ≡ asks x → IsReached (before ++ r ∷ []) (take x r)
  opened before x (Refused z) h asked = told z (before ++ Refused z ∷ []) (take x (Refused z)) (refused_tells x z h)
  opened before x r h asked = fine before x r asked (take x r) (fine_on x r h refl)

  ended : (path : List ℕ) (r : Reply) (before : List Reply) → IsReached before (rejected path r)
  ended path (Refused NoMemory) before = tt
  ended path (Refused RemoteFault) before = tt
  ended path r before = tt

  one_more : (before : List Reply) (pull : SyncJob) (r : Reply) → pull_after group before ≡ pull → IsReached (before ++ r ∷ []) (take_more pull r)
  unfolding take
  one_more before (reports report) r asked = tt
  one_more before (asks (rejecting path)) r asked = ended path r (before ++ r ∷ [])
  one_more before (asks (aborting first)) r asked = told first (before ++ r ∷ []) (take (aborting first) r) (ends_tell first r)
  one_more before (asks x) r asked = opened before x r tt asked

  abbrev IsReachedBehind : List Reply → Type 0
  IsReachedBehind rs = IsReached rs (pull_after group rs)

  reached : (rs before : List Reply) → IsReachedBehind before → IsReachedBehind (before ++ rs)
  reached [] before h = subst IsReachedBehind (sym (append-nil before)) h
  reached (r ∷ rs) before h =
      subst IsReachedBehind (append_assoc before (r ∷ []) rs)
      (reached rs (before ++ r ∷ [])
      (subst (IsReached (before ++ r ∷ [])) (sym (fold-append take_more (asks (seeking group)) before (r ∷ []))) (one_more before (pull_after group before) r refl)))

pub bad_files_end : BadFilesEndIt
bad_files_end group replies path = (
  λ is. subst (IsReached group replies) is (reached group replies [] tt),
  λ read.
      ap (pull_after group) read.are
      ∙ fold-append take_more (asks (seeking group)) read.before (read.last ∷ [])
      ∙ ap (λ pull. take_more pull read.last) read.asked
      ∙ bad_rejects read.state read.last path read.bad,
)
