-- What a SYNC reports is the first refusal that it was given, or the name of a file that it found to be none before.
use Rattle.std.proofs.Common.{◌≡◌, ◌⊎◌, inl, inr, ◌==◌, ◌≤◌, ◌<◌, ℕ, Bool, true, false, List, [], ◌∷◌, ◌++◌, length, Option, Some, None, IfSome, Result, Ok, Err, IsErr, refl, sym, ap, subst, ◌∙◌, nat_le, nat_lt, if◌then◌else◌}
use Rattle.std.specs.Prelude.{⊤}
use Rattle.std.specs.List.{All, fold}
use Rattle.std.proofs.lemmas.Bool.{eq-eqb, eqb-true, leb-false, ltb-false, ltb-true}
use Rattle.std.proofs.lemmas.List.{append_assoc}
use Rattle.std.proofs.lemmas.List.Elements.{All-append, All-cons, All-nil}
use Rattle.std.proofs.lemmas.List.Sums.{fold-append}
use Rattle.store_types.specs.declared.append.AppendEntry.{AppendEntry}
use Rattle.store_types.specs.declared.refusal.BadBlob.{BadBlob}
use Rattle.store_types.specs.declared.refusal.Refusal.{Refusal}
use Rattle.store_types.specs.declared.names.Digest32.{Digest32}
use Rattle.store_types.specs.declared.refusal.ChunkFault.TheVariants.{Other}
use Rattle.store_types.specs.declared.refusal.Refusal.TheVariants.{Damaged, DiskFault, Halted, NoMemory, RemoteFault, Unreadable}
use Rattle.store_types.specs.FileNames.{manifest_name}
use Rattle.blob_codec.specs.Blob.{data_of, blob_limit}
use Rattle.store_files.specs.Manifest.{Manifest}
use Rattle.wire_commands.specs.declared.reply.Reply.{Reply}
use Rattle.wire_commands.specs.declared.reply.Reply.TheVariants.{Base, Data, Keys, Part, Refused}
use Rattle.store_model.specs.Load.{read_manifest}
use Rattle.store_model.specs.SizeLimits.{size_limit}
use Rattle.store_history.specs.Pulling.{Course, Stock, Index, Pulling, seeking, comparing, starting, reading_manifest, reading_file, opening, reading_chunk, sending_chunk, appending, closing_index, sending_blob, sending_manifest, finishing, rejecting, aborting, SyncJob, reports, asks, blob_read, chunk_told, compared, ends, file_part, file_read, file_told, finished, goes_on, index_in, index_read, is_index, manifest_part, manifest_read, manifest_told, next_append, next_chunk, next_file, next_snapshot, rejected, rejects, sought, started, stock_of, stops, take, take_more, size_sent, blob_size, mismatched, with_chunk}
use Rattle.job_laws.specs.Pulls.{AreSent, FindsOther, HasOther, IsMismatch, EndsBad, FirstRefusalIsTold, HasReadBad, IsCause, IsFirstRefusal, DoesNotDecode, DoesNotDecodeBy, is_refusal, pull_after}

true_false : true ≡ false → ⊥
true_false h = cc

-- no refusal
abbrev pub Fine : Reply → Type 0
Fine r = is_refusal r ≡ false

-- ---- behind the first refusal

-- it is the report, or will be once the writer is ended
abbrev pub Tells : Refusal → SyncJob → Type 0
Tells z (reports report) = report ≡ Refused z
Tells z (asks (aborting first)) = first ≡ z
Tells z pull = ⊥

stops_tell : (z : Refusal) → Tells z (stops z)
stops_tell DiskFault = refl
stops_tell (Halted place) = refl
stops_tell z = refl

pub ends_tell : (z : Refusal) (r : Reply) → Tells z (ends z r)
ends_tell z (Refused NoMemory) = refl
ends_tell z (Refused RemoteFault) = refl
ends_tell z r = refl

tells_on : (z : Refusal) (pull : SyncJob) (r : Reply) → Tells z pull → Tells z (take_more pull r)
unfolding take
tells_on z (reports report) r h = h
tells_on z (asks (aborting first)) r h = subst (λ y. Tells y (ends first r)) h (ends_tell first r)
tells_on z (asks x) r h = absurd h

pub tells_behind : (z : Refusal) (rs : List Reply) (pull : SyncJob) → Tells z pull → Tells z (fold take_more pull rs)
tells_behind z [] pull h = h
tells_behind z (r ∷ rs) pull h = tells_behind z rs (take_more pull r) (tells_on z pull r h)

-- it ends no writer, neither for a file nor for a refusal
abbrev pub IsOpen : Pulling → Type 0
IsOpen (rejecting path) = ⊥
IsOpen (aborting first) = ⊥
IsOpen x = ⊤

pub refused_tells : (x : Pulling) (z : Refusal) → IsOpen x → Tells z (take x (Refused z))
unfolding take sought compared started manifest_told file_told chunk_told
refused_tells (seeking group) z h = refl
refused_tells (comparing group remote) z h = refl
refused_tells (starting c) z h = refl
refused_tells (rejecting path) z h = absurd h
refused_tells (aborting first) z h = absurd h
refused_tells x z h = stops_tell z

-- ---- behind a reply that is none

-- It goes on, or reports no refusal; a writer is ended for a file, which ended with the reply, or for a chunk's length alone.
abbrev pub IsFineBehind : Pulling → Reply → SyncJob → Type 0
IsFineBehind x r (reports report) = Fine report
IsFineBehind x r (asks (aborting first)) = IsMismatch x r first
IsFineBehind x r (asks (rejecting path)) = EndsBad x r path
IsFineBehind x r (asks y) = ⊤

module _ (x : Pulling) (r : Reply) where
  snapshots_fine : (pulled xs : List (List ℕ)) → IsFineBehind x r (next_snapshot pulled xs)
  unfolding next_snapshot
  snapshots_fine pulled [] = refl
  snapshots_fine pulled (y ∷ ys) = tt

  appends_fine : (c : Course) (s : Stock) (i : Index) (es : List AppendEntry) → IsFineBehind x r (next_append c s i es)
  unfolding next_append
  appends_fine c s i [] = tt
  appends_fine c s i (e ∷ es) = tt

  -- where an entry with another size is such a cause
  chunks_fine : (c : Course) (s : Stock) (i : Index) (es : List AppendEntry) → ((d : Digest32) → HasOther s i es d → IsMismatch x r (Damaged d (Other d)))
      → IsFineBehind x r (next_chunk c s i es)
  unfolding next_chunk
  chunks_fine c s i [] finds = appends_fine c s i i.entries
  chunks_fine c s i (e ∷ es) finds = from_state (size_sent s e) refl (chunks_fine c s i es)
    where
      by_size : (n : ℕ) → size_sent s e ≡ Some n → (b : Bool) → (n == blob_size i e es) ≡ b
          → (((d : Digest32) → HasOther s i es d → IsMismatch x r (Damaged d (Other d))) → IsFineBehind x r (next_chunk c s i es))
          → IsFineBehind x r (if b then next_chunk c s i es else mismatched e)
      by_size n kept true same go =
          go (λ d other. finds d (record {
            before = e ∷ other.before;
            entry = other.entry;
            later = other.later;
            size = other.size;
            are = ap (λ l. e ∷ l) other.are;
            names = other.names;
            sent = (kept ∙ ap Some (eqb-true n (blob_size i e es) same) ∙ ap (λ l. Some (blob_size i e l)) other.are, other.sent);
            kept = other.kept;
            other = other.other;
          }))
      by_size n kept false off go =
          finds e.digest (record {
            before = [];
            entry = e;
            later = es;
            size = n;
            are = refl;
            names = refl;
            sent = tt;
            kept = kept;
            other = λ same. true_false (sym (eq-eqb n (blob_size i e es) same) ∙ off);
          })

      from_state : (k : Option ℕ) → size_sent s e ≡ k
          → (((d : Digest32) → HasOther s i es d → IsMismatch x r (Damaged d (Other d))) → IsFineBehind x r (next_chunk c s i es))
          → IsFineBehind x r (elim k [ None ↦ asks (reading_chunk c s i e es) | Some size ↦ if size == blob_size i e es then next_chunk c s i es else mismatched e ])
      from_state None kept go = tt
      from_state (Some n) kept go = by_size n kept (n == blob_size i e es) refl go

  files_fine : (c : Course) (s : Stock) → IsFineBehind x r (next_file c s)
  unfolding next_file
  files_fine c s = by_names s.names
    where
      by_names : (names : List (List ℕ)) → IsFineBehind x r (elim names [ [] ↦ asks (sending_manifest c s) | name ∷ later ↦ asks (reading_file c (record s { names = later }) name []) ])
      by_names [] = tt
      by_names (name ∷ later) = tt

replied_fine : (x : Pulling) (r : Reply) (next : SyncJob) → Fine r → IsFineBehind x r next → IsFineBehind x r (goes_on r next)
replied_fine x (Refused z) next fine h = cc
replied_fine x r next fine h = h

-- ---- behind the last part of a file

module _ (c : Course) (bytes more : List ℕ) (total : ℕ) (whole : total ≤ length (bytes ++ more)) where
  abbrev manifest_behind : SyncJob → Type 0
  manifest_behind next = IsFineBehind (reading_manifest c bytes) (Part total more) next

  manifest_fine : manifest_behind (manifest_read c (bytes ++ more) (read_manifest (bytes ++ more)))
  unfolding manifest_read
  manifest_fine = by_manifest (read_manifest (bytes ++ more)) refl
    where
      by_count : (m : Manifest) → read_manifest (bytes ++ more) ≡ Some m → (b : Bool) → nat_le (length m.files) 63 ≡ b
          → manifest_behind (if b then next_file c (stock_of (bytes ++ more) m) else rejects c manifest_name)
      by_count m is true few = files_fine (reading_manifest c bytes) (Part total more) c (stock_of (bytes ++ more) m)
      by_count m is false few =
          (refl, inr (whole, subst (λ (o : Option Manifest). IfSome o (λ y. 63 < length y.files)) (sym is) (leb-false (length m.files) 63 few)))

      by_manifest : (o : Option Manifest) → read_manifest (bytes ++ more) ≡ o → manifest_behind (manifest_read c (bytes ++ more) o)
      by_manifest None is = (refl, inr (whole, subst (λ (o : Option Manifest). IfSome o (λ y. 63 < length y.files)) (sym is) tt))
      by_manifest (Some m) is = by_count m is (nat_le (length m.files) 63) refl

  module _ (s : Stock) (name : List ℕ) where
    abbrev file_behind : SyncJob → Type 0
    file_behind next = IsFineBehind (reading_file c s name bytes) (Part total more) next

    bad_is : (b : Bool) → is_index name ≡ b → DoesNotDecodeBy b name (bytes ++ more) → DoesNotDecode name (bytes ++ more)
    bad_is b is h = subst (λ t. DoesNotDecodeBy t name (bytes ++ more)) (sym is) h

    file_fine : file_behind (file_read c s name (bytes ++ more))
    unfolding file_read index_read blob_read
    file_fine = by_name (is_index name) refl
      where
        by_index : is_index name ≡ true → (o : Option Index) → index_in name (bytes ++ more) ≡ o → file_behind (index_read c s name o)
        by_index named None is = (refl, inr (whole, bad_is true named is))
        by_index named (Some i) is = tt

        by_blob : is_index name ≡ false → (o : Result (List ℕ) BadBlob) → data_of (bytes ++ more) ≡ o
            → file_behind (elim o [ Ok contents ↦ asks (sending_blob c s name (bytes ++ more)) | Err cause ↦ rejects c name ])
        by_blob named (Ok contents) is = tt
        by_blob named (Err cause) is = (refl, inr (whole, bad_is false named (subst (λ (o : Result (List ℕ) BadBlob). IsErr o) (sym is) refl)))

        by_name : (b : Bool) → is_index name ≡ b → file_behind (if b then index_read c s name (index_in name (bytes ++ more)) else blob_read c s name (bytes ++ more))
        by_name true named = by_index named (index_in name (bytes ++ more)) refl
        by_name false named = by_blob named (data_of (bytes ++ more)) refl

-- where it is not the last more is read
manifest_told_fine : (c : Course) (bytes : List ℕ) (r : Reply) → Fine r → IsFineBehind (reading_manifest c bytes) r (manifest_told c bytes r)
unfolding manifest_told manifest_part
manifest_told_fine c bytes (Part total more) fine = by_tests (nat_lt blob_limit total) refl (nat_lt (length (bytes ++ more)) total) refl
  where
    by_tests : (long : Bool) → nat_lt blob_limit total ≡ long → (b : Bool) → nat_lt (length (bytes ++ more)) total ≡ b
        → IsFineBehind (reading_manifest c bytes) (Part total more) (
        if long then rejects c manifest_name else
        if b then asks (reading_manifest c (bytes ++ more)) else
        manifest_read c (bytes ++ more) (read_manifest (bytes ++ more)))
    by_tests true long b is = (refl, inl (ltb-true blob_limit total long))
    by_tests false short true is = tt
    by_tests false short false is = manifest_fine c bytes more total (ltb-false (length (bytes ++ more)) total is)
manifest_told_fine c bytes (Refused z) fine = cc
manifest_told_fine c bytes r fine = fine

file_told_fine : (c : Course) (s : Stock) (name bytes : List ℕ) (r : Reply) → Fine r → IsFineBehind (reading_file c s name bytes) r (file_told c s name bytes r)
unfolding file_told file_part
file_told_fine c s name bytes (Part total more) fine = by_tests (nat_lt (size_limit name) total) refl (nat_lt (length (bytes ++ more)) total) refl
  where
    by_tests : (long : Bool) → nat_lt (size_limit name) total ≡ long → (b : Bool) → nat_lt (length (bytes ++ more)) total ≡ b
        → IsFineBehind (reading_file c s name bytes) (Part total more) (
        if long then rejects c name else
        if b then asks (reading_file c s name (bytes ++ more)) else
        file_read c s name (bytes ++ more))
    by_tests true long b is = (refl, inl (ltb-true (size_limit name) total long))
    by_tests false short true is = tt
    by_tests false short false is = file_fine c bytes more total (ltb-false (length (bytes ++ more)) total is) s name
file_told_fine c s name bytes (Refused z) fine = cc
file_told_fine c s name bytes r fine = fine

chunk_told_fine : (c : Course) (s : Stock) (i : Index) (e : AppendEntry) (later : List AppendEntry) (r : Reply) → Fine r
    → IsFineBehind (reading_chunk c s i e later) r (chunk_told c s i e later r)
unfolding chunk_told
chunk_told_fine c s i e later (Data blob) fine = by_size (length blob == blob_size i e later) refl
  where
    by_size : (b : Bool) → (length blob == blob_size i e later) ≡ b
        → IsFineBehind (reading_chunk c s i e later) (Data blob) (if b then asks (sending_chunk c (with_chunk e blob s) i e later blob) else mismatched e)
    by_size true is = tt
    by_size false is = record {
      digest = e.digest;
      fine = refl;
      finds = (refl, λ same. true_false (sym (eq-eqb (length blob) (blob_size i e later) same) ∙ is));
      is = refl;
    }
chunk_told_fine c s i e later (Refused z) fine = cc
chunk_told_fine c s i e later r fine = fine

sought_fine : (group : List ℕ) (r : Reply) → Fine r → IsFineBehind (seeking group) r (sought group r)
unfolding sought
sought_fine group (Keys remote) fine = tt
sought_fine group r fine = fine

compared_fine : (group : List ℕ) (remote : List (List ℕ)) (r : Reply) → Fine r → IsFineBehind (comparing group remote) r (compared remote r)
unfolding compared
compared_fine group remote (Keys here) fine = snapshots_fine (comparing group remote) (Keys here) [] _
compared_fine group remote r fine = fine

started_fine : (c : Course) (r : Reply) → Fine r → IsFineBehind (starting c) r (started c r)
unfolding started
started_fine c (Base snapshot) fine = tt
started_fine c r fine = fine

pub fine_on : (x : Pulling) (r : Reply) → IsOpen x → Fine r → IsFineBehind x r (take x r)
unfolding take finished
fine_on (seeking group) r h fine = sought_fine group r fine
fine_on (comparing group remote) r h fine = compared_fine group remote r fine
fine_on (starting c) r h fine = started_fine c r fine
fine_on (reading_manifest c bytes) r h fine = manifest_told_fine c bytes r fine
fine_on (reading_file c s name bytes) r h fine = file_told_fine c s name bytes r fine
fine_on (opening c s i) r h fine = replied_fine (opening c s i) r (next_chunk c s i i.entries) fine
    (chunks_fine (opening c s i) r c s i i.entries (λ d other. record { digest = d; fine = fine; finds = other; is = refl }))
fine_on (reading_chunk c s i e later) r h fine = chunk_told_fine c s i e later r fine
fine_on (sending_chunk c s i e later blob) r h fine =
    replied_fine (sending_chunk c s i e later blob) r (next_chunk c s i later) fine
    (chunks_fine (sending_chunk c s i e later blob) r c s i later (λ d other. record { digest = d; fine = fine; finds = other; is = refl }))
fine_on (appending c s i e later) r h fine = replied_fine (appending c s i e later) r _ fine (appends_fine (appending c s i e later) r c s i _)
fine_on (closing_index c s i) r h fine = replied_fine (closing_index c s i) r (next_file c s) fine (files_fine (closing_index c s i) r c s)
fine_on (sending_blob c s name bytes) r h fine = replied_fine (sending_blob c s name bytes) r (next_file c s) fine (files_fine (sending_blob c s name bytes) r c s)
fine_on (sending_manifest c s) r h fine = replied_fine (sending_manifest c s) r (asks (finishing c)) fine tt
fine_on (finishing c) r h fine = replied_fine (finishing c) r (finished c) fine (snapshots_fine (finishing c) r _ c.later)
fine_on (rejecting path) r h fine = absurd h
fine_on (aborting first) r h fine = absurd h

-- ---- where the writer is ended for a file

rejected_tells : (path : List ℕ) (r : Reply) (z : Refusal) → IsCause (rejecting path) r z → Tells z (rejected path r)
rejected_tells path (Refused NoMemory) z h = sym h
rejected_tells path (Refused RemoteFault) z h = sym h
rejected_tells path r z h = ap Refused (sym h)

-- it has one cause
rejected_cause : (path : List ℕ) (r : Reply) (z : Refusal) → ((w : Refusal) → IsCause (rejecting path) r w → w ≡ z) → IsCause (rejecting path) r z
rejected_cause path (Refused NoMemory) z h = sym (h NoMemory refl)
rejected_cause path r z h = sym (h (Unreadable path) refl)

-- ---- what is reported is the first

same_refusal : (z w : Refusal) → Refused z ≡ Refused w → w ≡ z
same_refusal z w e = cc

module _ (group : List ℕ) (z : Refusal) (all : List Reply) where
  -- what is known behind replies of which none is refused
  abbrev IsReached : List Reply → SyncJob → Type 0
  IsReached before (reports report) = Fine report
  IsReached before (asks (aborting first)) = ⊥
  IsReached before (asks (rejecting path)) = HasReadBad group before path
  IsReached before (asks x) = ⊤

  -- one reply more

  pull_more : (before : List Reply) (x : Pulling) (r : Reply) → pull_after group before ≡ asks x → pull_after group (before ++ r ∷ []) ≡ take x r
  pull_more before x r asked = fold-append take_more (asks (seeking group)) before (r ∷ []) ∙ ap (λ pull. take_more pull r) asked

  one_more : (before : List Reply) (r : Reply) (rs : List Reply) → all ≡ before ++ r ∷ rs → all ≡ (before ++ r ∷ []) ++ rs
  one_more before r rs are = are ∙ sym (append_assoc before (r ∷ []) rs)

  open_cause : (x : Pulling) (r : Reply) → IsOpen x → r ≡ Refused z → IsCause x r z
  open_cause (rejecting path) r h is = absurd h
  open_cause (aborting first) r h is = absurd h
  open_cause x r h is = inl is

  length_cause : (x : Pulling) (r : Reply) → IsOpen x → IsMismatch x r z → IsCause x r z
  length_cause (rejecting path) r h is = absurd h
  length_cause (aborting first) r h is = absurd h
  length_cause x r h is = inr is

  open_only : (x : Pulling) → IsOpen x → (path : List ℕ) → x ≡ rejecting path → ⊥
  open_only x h path is = subst IsOpen is h

  -- a refusal comes
  first_refused : (before : List Reply) (x : Pulling) (y : Refusal) (rs : List Reply) → IsOpen x → all ≡ before ++ Refused y ∷ rs → pull_after group before ≡ asks x → All Fine before
      → fold take_more (take x (Refused y)) rs ≡ reports (Refused z) → IsFirstRefusal group all z
  first_refused before x y rs h are asked fine told = record {
    before = before;
    reply = Refused y;
    later = rs;
    state = x;
    are = are;
    asked = asked;
    fine = fine;
    cause = open_cause x (Refused y) h (sym (subst (Tells y) told (tells_behind y rs (take x (Refused y)) (refused_tells x y h))));
    bad = λ path is. absurd (open_only x h path is);
  }

  -- or a file was none
  first_bad : (before : List Reply) (path : List ℕ) (r : Reply) (rs : List Reply) → all ≡ before ++ r ∷ rs → pull_after group before ≡ asks (rejecting path) → All Fine before → HasReadBad group before path
      → fold take_more (take (rejecting path) r) rs ≡ reports (Refused z) → IsFirstRefusal group all z
  unfolding take
  first_bad before path r rs are asked fine bad told = record {
    before = before;
    reply = r;
    later = rs;
    state = rejecting path;
    are = are;
    asked = asked;
    fine = fine;
    cause = rejected_cause path r z (λ w h. same_refusal z w (subst (Tells w) told (tells_behind w rs (rejected path r) (rejected_tells path r w h))));
    bad = λ p is. subst (HasReadBad group before) (same_path p is) bad;
  }
    where
      same_path : (p : List ℕ) → rejecting path ≡ rejecting p → path ≡ p
      same_path p e = cc

  -- or a chunk has another length: this is told from there on
  first_other : (before : List Reply) (x : Pulling) (r : Reply) (first : Refusal) (rs : List Reply) → IsOpen x → all ≡ before ++ r ∷ rs → pull_after group before ≡ asks x → All Fine before
      → IsMismatch x r first → fold take_more (asks (aborting first)) rs ≡ reports (Refused z) → IsFirstRefusal group all z
  first_other before x r first rs h are asked fine other told = record {
    before = before;
    reply = r;
    later = rs;
    state = x;
    are = are;
    asked = asked;
    fine = fine;
    cause = length_cause x r h (subst (IsMismatch x r) (same_refusal z first (subst (Tells first) told (tells_behind first rs (asks (aborting first)) refl))) other);
    bad = λ path is. absurd (open_only x h path is);
  }

  over_stays : (report : Reply) (rs : List Reply) → fold take_more (reports report) rs ≡ reports report
  over_stays report [] = refl
  over_stays report (r ∷ rs) = over_stays report rs

  never_refused : (report : Reply) → Fine report → reports report ≡ reports (Refused z) → ⊥
  never_refused (Refused y) fine e = cc
  never_refused r fine e = cc

  by_reply : (before : List Reply) (x : Pulling) (r : Reply) (rs : List Reply) → IsOpen x → all ≡ before ++ r ∷ rs → pull_after group before ≡ asks x → All Fine before
      → fold take_more (take x r) rs ≡ reports (Refused z) → (Fine r → IsFirstRefusal group all z) → IsFirstRefusal group all z
  by_reply before x (Refused y) rs h are asked fine told go = first_refused before x y rs h are asked fine told
  by_reply before x r rs h are asked fine told go = go refl

  by_state : (before : List Reply) (x : Pulling) (r : Reply) (rs : List Reply) → all ≡ before ++ r ∷ rs → pull_after group before ≡ asks x → All Fine before → IsReached before (asks x)
      → fold take_more (take x r) rs ≡ reports (Refused z) → (IsOpen x → Fine r → IsFirstRefusal group all z) → IsFirstRefusal group all z
  by_state before (rejecting path) r rs are asked fine h told go = first_bad before path r rs are asked fine h told
  by_state before (aborting first) r rs are asked fine h told go = absurd h
  by_state before x r rs are asked fine h told go = by_reply before x r rs tt are asked fine told (go tt)

  -- one reply more
  goes_further : (before : List Reply) (x : Pulling) (r : Reply) (rs : List Reply) → IsOpen x → all ≡ before ++ r ∷ rs → pull_after group before ≡ asks x → All Fine before
      → (pull : SyncJob) → IsFineBehind x r pull → fold take_more pull rs ≡ reports (Refused z)
      → (IsReached (before ++ r ∷ []) pull → fold take_more pull rs ≡ reports (Refused z) → IsFirstRefusal group all z) → IsFirstRefusal group all z
  goes_further before x r rs opened are asked fine (reports report) h told go = go h told
  goes_further before x r rs opened are asked fine (asks (aborting first)) h told go = first_other before x r first rs opened are asked fine h told
  goes_further before x r rs opened are asked fine (asks (rejecting path)) h told go =
      go (record { before = before; last = r; state = x; are = refl; asked = asked; bad = h }) told
  goes_further before x r rs opened are asked fine (asks y) h told go = go tt told

  first_among : (rs before : List Reply) (pull : SyncJob) → all ≡ before ++ rs → pull_after group before ≡ pull → All Fine before → IsReached before pull
      → fold take_more pull rs ≡ reports (Refused z) → IsFirstRefusal group all z
  first_among rs before (reports report) are asked fine h told = absurd (never_refused report h (sym (over_stays report rs) ∙ told))
  first_among [] before (asks x) are asked fine h told = cc
  first_among (r ∷ rs) before (asks x) are asked fine h told =
      by_state before x r rs are asked fine h told
      (λ opened ok. goes_further before x r rs opened are asked fine (take x r) (fine_on x r opened ok) told
      (first_among rs (before ++ r ∷ []) (take x r) (one_more before r rs are) (pull_more before x r asked) (All-append Fine before (r ∷ []) fine (All-cons Fine r [] ok (All-nil Fine)))))

-- ---- and the first is reported

-- an entry that was sent with another size ends the walk over the chunks
other_ends : (c : Course) (s : Stock) (i : Index) (before later : List AppendEntry) (e : AppendEntry) (n : ℕ) → AreSent s i before (e ∷ later) → size_sent s e ≡ Some n
    → (n ≡ blob_size i e later → ⊥) → next_chunk c s i (before ++ e ∷ later) ≡ mismatched e
unfolding next_chunk
other_ends c s i [] later e n sent kept other =
    ap (λ (k : Option ℕ). elim k [ None ↦ asks (reading_chunk c s i e later) | Some size ↦ if size == blob_size i e later then next_chunk c s i later else mismatched e ]) kept
    ∙ by_size (n == blob_size i e later) refl
  where
    by_size : (b : Bool) → (n == blob_size i e later) ≡ b → (if b then next_chunk c s i later else mismatched e) ≡ mismatched e
    by_size true same = absurd (other (eqb-true n (blob_size i e later) same))
    by_size false off = refl
other_ends c s i (f ∷ before) later e n sent kept other =
    let rest = before ++ e ∷ later in
    ap (λ (k : Option ℕ). elim k [ None ↦ asks (reading_chunk c s i f rest) | Some size ↦ if size == blob_size i f rest then next_chunk c s i rest else mismatched f ]) sent.0
    ∙ ap (λ b. if b then next_chunk c s i rest else mismatched f) (eq-eqb (blob_size i f rest) (blob_size i f rest) refl)
    ∙ other_ends c s i before later e n sent.1 kept other

walk_is : (c : Course) (s : Stock) (i : Index) (es : List AppendEntry) (r : Reply) (d : Digest32) → Fine r → HasOther s i es d → goes_on r (next_chunk c s i es) ≡ asks (aborting (Damaged d (Other d)))
walk_is c s i es (Refused y) d fine has = cc
walk_is c s i es r d fine has =
    ap (next_chunk c s i) has.are ∙ other_ends c s i has.before has.later has.entry has.size has.sent has.kept has.other
    ∙ ap (λ (x : Digest32). asks (aborting (Damaged x (Other x)))) (sym has.names)

-- the writer is to be ended
pub finds_is : (x : Pulling) (r : Reply) (d : Digest32) → Fine r → FindsOther x r d → take x r ≡ asks (aborting (Damaged d (Other d)))
unfolding take chunk_told
finds_is (reading_chunk c s i e later) (Data blob) d fine finds = by_size (length blob == blob_size i e later) refl
  where
    by_size : (b : Bool) → (length blob == blob_size i e later) ≡ b
        → (if b then asks (sending_chunk c (with_chunk e blob s) i e later blob) else mismatched e) ≡ asks (aborting (Damaged d (Other d)))
    by_size true same = absurd (finds.1 (eqb-true (length blob) (blob_size i e later) same))
    by_size false off = ap (λ (x : Digest32). asks (aborting (Damaged x (Other x)))) (sym finds.0)
finds_is (opening c s i) r d fine finds = walk_is c s i i.entries r d fine finds
finds_is (sending_chunk c s i e later blob) r d fine finds = walk_is c s i later r d fine finds
finds_is x r d fine finds = absurd finds

finds_tells : (x : Pulling) (r : Reply) (d : Digest32) → Fine r → FindsOther x r d → Tells (Damaged d (Other d)) (take x r)
finds_tells x r d fine finds = subst (Tells (Damaged d (Other d))) (sym (finds_is x r d fine finds)) refl

either_tells : (x : Pulling) (r : Reply) (z : Refusal) → IsOpen x → (r ≡ Refused z) ⊎ IsMismatch x r z → Tells z (take x r)
either_tells x r z h (inl is) = subst (λ y. Tells z (take x y)) (sym is) (refused_tells x z h)
either_tells x r z h (inr other) = subst (λ y. Tells y (take x r)) (sym other.is) (finds_tells x r other.digest other.fine other.finds)

cause_tells : (x : Pulling) (r : Reply) (z : Refusal) → IsCause x r z → Tells z (take x r)
unfolding take
cause_tells (rejecting path) r z cause = rejected_tells path r z cause
cause_tells (aborting first) r z cause = absurd cause
cause_tells x r z cause = either_tells x r z tt cause

first_tells : (group : List ℕ) (replies : List Reply) (z : Refusal) → IsFirstRefusal group replies z → Tells z (pull_after group replies)
first_tells group replies z f =
    let behind = tells_behind z f.later (take f.state f.reply) (cause_tells f.state f.reply z f.cause) in
    let is = ap (pull_after group) f.are ∙ fold-append take_more (asks (seeking group)) f.before (f.reply ∷ f.later) ∙ ap (λ pull. fold take_more pull (f.reply ∷ f.later)) f.asked in
    subst (Tells z) (sym is) behind

pub first_refusal_told : FirstRefusalIsTold
first_refusal_told group replies report z over = (
  λ told. first_among group z replies replies [] (asks (seeking group)) refl refl (All-nil Fine) tt (over ∙ ap reports told),
  λ f. subst (Tells z) over (first_tells group replies z f),
)
