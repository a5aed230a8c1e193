-- What a lane tells at one of its events: nothing, or one reply.
use Rattle.std.proofs.Common.{◌≡◌, ℕ, Bool, true, false, List, [], ◌∷◌, ◌++◌, length, Option, Some, None, IfSome, ◌⊎◌, inl, inr, refl, if◌then◌else◌, nat_le, nat_lt, ◌==◌, is_none, Ok, Err, Result}
use Rattle.store_types.specs.declared.append.AppendEntry.{AppendEntry}
use Rattle.store_types.specs.declared.refusal.Refusal.{Refusal}
use Rattle.store_types.specs.declared.refusal.Refusal.TheVariants.{DiskFault, Halted, NoMemory, RemoteFault, Unreadable}
use Rattle.store_types.specs.FileNames.{manifest_name}
use Rattle.blob_codec.specs.Blob.{data_of, blob_limit}
use Rattle.store_types.specs.declared.refusal.BadBlob.{BadBlob}
use Rattle.store_files.specs.Manifest.{Manifest}
use Rattle.wire_commands.specs.declared.reply.Reply.{Reply}
use Rattle.wire_commands.specs.declared.reply.Reply.TheVariants.{Base, Part, Data, Keys, Done, Refused}
use Rattle.store_model.specs.declared.ending.Ending.{Ending}
use Rattle.store_model.specs.declared.ending.Ending.TheVariants as endings
use Rattle.store_model.specs.Job.{Asking, Job, over, asking}
use Rattle.store_model.specs.Jobs.{take as job_take}
use Rattle.store_model.specs.Lanes.{job_step, plain, sync, collect, collecting, bye, broken, end}
use Rattle.store_model.specs.Load.{read_manifest}
use Rattle.store_model.specs.SizeLimits.{size_limit}
use Rattle.store_model.specs.Weave.{is_replied}
use Rattle.store_history.specs.declared.act.Answer.{Answer}
use Rattle.store_history.specs.declared.act.Event.{Event}
use Rattle.store_history.specs.Acts.{Class, stepping, reaching, starting, sweeping, wanting, ending, class_of}
use Rattle.store_history.specs.History.{reply}
use Rattle.store_history.specs.LaneRun.{Ahead, ahead, pull, sweeps, job_in, Position, next_at, tells, used_up, goes_on as job_on, pulls_on, heard_at, heard, last_words, end_faulted, end_heard, heard_as, position_after}
use Rattle.store_history.specs.Pulling.{Pulling, seeking, comparing, starting as pull_starting, reading_manifest, reading_file, opening, reading_chunk, sending_chunk, appending, closing_index, sending_blob, sending_manifest, finishing, rejecting, aborting, Course, Stock, Index, SyncJob, reports, asks, stops, ends, rejects, rejected, goes_on, next_snapshot, finished, next_append, size_sent, blob_size, mismatched, next_chunk, is_index, index_in, index_read, blob_read, file_read, next_file, stock_of, manifest_read, sought, compared, started, manifest_part, file_part, manifest_told, file_told, chunk_read, chunk_told, take}

-- it told no more, or one reply more, of which P holds
abbrev pub SaysMore : (Reply → Type 0) → List Reply → List Reply → Type 0
SaysMore P old new = (new ≡ old) ⊎ ((r : Reply) × (new ≡ old ++ r ∷ []) × P r)

-- where a job is over, P holds of its report
abbrev pub OverIs : (Reply → Type 0) → Job → Type 0
OverIs P (over r) = P r
OverIs P (asking j) = Unit {0}

abbrev pub ReportIs : (Reply → Type 0) → SyncJob → Type 0
ReportIs P (reports r) = P r
ReportIs P (asks x) = Unit {0}

abbrev pub StepIs : (Asking → Type 0) → Ahead → Type 0
StepIs Q (ahead (job_step j left)) = Q j
StepIs Q n = Unit {0}

module _ (P : Reply → Type 0) (refused : (z : Refusal) → P (Refused z)) (keys : (xs : List (List ℕ)) → P (Keys xs)) (done : P Done)
    (Q : Asking → Type 0) (taken : (j : Asking) (r : Reply) → Q j → P r → OverIs P (job_take j r)) where
  -- ---- a SYNC's job

  by_stop : (z : Refusal) → ReportIs P (stops z)
  by_stop DiskFault = refused DiskFault
  by_stop (Halted place) = refused (Halted place)
  by_stop z = tt

  by_end : (first : Refusal) (r : Reply) → ReportIs P (ends first r)
  by_end first (Refused NoMemory) = tt
  by_end first (Refused RemoteFault) = tt
  by_end first (Refused z) = refused first
  by_end first r = refused first

  by_reject : (path : List ℕ) (r : Reply) → ReportIs P (rejected path r)
  by_reject path (Refused NoMemory) = tt
  by_reject path (Refused RemoteFault) = tt
  by_reject path (Refused z) = refused (Unreadable path)
  by_reject path r = refused (Unreadable path)

  by_go : (r : Reply) (next : SyncJob) → ReportIs P next → ReportIs P (goes_on r next)
  by_go (Refused z) next h = by_stop z
  by_go r next h = h

  by_snapshot : (pulled xs : List (List ℕ)) → ReportIs P (next_snapshot pulled xs)
  unfolding next_snapshot
  by_snapshot pulled [] = keys pulled
  by_snapshot pulled (x ∷ xs) = tt

  by_finish : (c : Course) → ReportIs P (finished c)
  unfolding finished
  by_finish c = by_snapshot (c.pulled ++ c.snapshot ∷ []) c.later

  by_append : (c : Course) (s : Stock) (x : Index) (es : List AppendEntry) → ReportIs P (next_append c s x es)
  unfolding next_append
  by_append c s x [] = tt
  by_append c s x (e ∷ es) = tt

  by_mismatch : (e : AppendEntry) → ReportIs P (mismatched e)
  by_mismatch e = tt

  by_chunk : (c : Course) (s : Stock) (x : Index) (es : List AppendEntry) → ReportIs P (next_chunk c s x es)
  unfolding next_chunk
  by_chunk c s x [] = by_append c s x x.entries
  by_chunk c s x (e ∷ es) = by_size (size_sent s e) (by_chunk c s x es)
    where
      by_test : (b : Bool) → ReportIs P (next_chunk c s x es) → ReportIs P (if b then next_chunk c s x es else mismatched e)
      by_test true h = h
      by_test false h = by_mismatch e

      by_size : (o : Option ℕ) → ReportIs P (next_chunk c s x es)
          → ReportIs P (elim o [ None ↦ asks (reading_chunk c s x e es) | Some size ↦ if size == blob_size x e es then next_chunk c s x es else mismatched e ])
      by_size None h = tt
      by_size (Some size) h = by_test (size == blob_size x e es) h

  by_index : (c : Course) (s : Stock) (name : List ℕ) (o : Option Index) → ReportIs P (index_read c s name o)
  unfolding index_read
  by_index c s name None = tt
  by_index c s name (Some x) = tt

  by_blob : (c : Course) (s : Stock) (name bytes : List ℕ) → ReportIs P (blob_read c s name bytes)
  unfolding blob_read
  by_blob c s name bytes = by_data (data_of bytes)
    where
      by_data : (o : Result (List ℕ) BadBlob) → ReportIs P (elim o [ Ok contents ↦ asks (sending_blob c s name bytes) | Err cause ↦ rejects c name ])
      by_data (Ok contents) = tt
      by_data (Err cause) = tt

  by_file : (c : Course) (s : Stock) (name bytes : List ℕ) → ReportIs P (file_read c s name bytes)
  unfolding file_read
  by_file c s name bytes = by_test (is_index name)
    where
      by_test : (b : Bool) → ReportIs P (if b then index_read c s name (index_in name bytes) else blob_read c s name bytes)
      by_test true = by_index c s name (index_in name bytes)
      by_test false = by_blob c s name bytes

  by_next_file : (c : Course) (s : Stock) → ReportIs P (next_file c s)
  unfolding next_file
  by_next_file c s = by_names s.names
    where
      by_names : (xs : List (List ℕ)) → ReportIs P (elim xs [ [] ↦ asks (sending_manifest c s) | name ∷ names ↦ asks (reading_file c (record s { names = names }) name []) ])
      by_names [] = tt
      by_names (x ∷ xs) = tt

  by_manifest : (c : Course) (bytes : List ℕ) (o : Option Manifest) → ReportIs P (manifest_read c bytes o)
  unfolding manifest_read
  by_manifest c bytes None = tt
  by_manifest c bytes (Some m) = by_test (nat_le (length m.files) 63)
    where
      by_test : (b : Bool) → ReportIs P (if b then next_file c (stock_of bytes m) else rejects c manifest_name)
      by_test true = by_next_file c (stock_of bytes m)
      by_test false = tt

  by_manifest_part : (c : Course) (bytes : List ℕ) (total : ℕ) → ReportIs P (manifest_part c bytes total)
  unfolding manifest_part
  by_manifest_part c bytes total = by_tests (nat_lt blob_limit total) (nat_lt (length bytes) total)
    where
      by_tests : (long more : Bool) → ReportIs P (
          if long then rejects c manifest_name else
          if more then asks (reading_manifest c bytes) else
          manifest_read c bytes (read_manifest bytes))
      by_tests true more = tt
      by_tests false true = tt
      by_tests false false = by_manifest c bytes (read_manifest bytes)

  by_file_part : (c : Course) (s : Stock) (name bytes : List ℕ) (total : ℕ) → ReportIs P (file_part c s name bytes total)
  unfolding file_part
  by_file_part c s name bytes total = by_tests (nat_lt (size_limit name) total) (nat_lt (length bytes) total)
    where
      by_tests : (long more : Bool) → ReportIs P (
          if long then rejects c name else
          if more then asks (reading_file c s name bytes) else
          file_read c s name bytes)
      by_tests true more = tt
      by_tests false true = tt
      by_tests false false = by_file c s name bytes

  by_chunk_read : (c : Course) (s : Stock) (x : Index) (e : AppendEntry) (later : List AppendEntry) (blob : List ℕ) → ReportIs P (chunk_read c s x e later blob)
  by_chunk_read c s x e later blob = by_test (length blob == blob_size x e later) _
    where
      by_test : (b : Bool) (y : Pulling) → ReportIs P (if b then asks y else mismatched e)
      by_test true y = tt
      by_test false y = by_mismatch e

  by_sought : (group : List ℕ) (r : Reply) → P r → ReportIs P (sought group r)
  unfolding sought
  by_sought group (Keys remote) h = tt
  by_sought group r h = h

  by_compared : (remote : List (List ℕ)) (r : Reply) → P r → ReportIs P (compared remote r)
  unfolding compared
  by_compared remote (Keys here) h = by_snapshot [] _
  by_compared remote r h = h

  by_started : (c : Course) (r : Reply) → P r → ReportIs P (started c r)
  unfolding started
  by_started c (Base snapshot) h = tt
  by_started c r h = h

  by_manifest_told : (c : Course) (bytes : List ℕ) (r : Reply) → P r → ReportIs P (manifest_told c bytes r)
  unfolding manifest_told
  by_manifest_told c bytes (Part total more) h = by_manifest_part c (bytes ++ more) total
  by_manifest_told c bytes (Refused z) h = by_stop z
  by_manifest_told c bytes r h = h

  by_file_told : (c : Course) (s : Stock) (name bytes : List ℕ) (r : Reply) → P r → ReportIs P (file_told c s name bytes r)
  unfolding file_told
  by_file_told c s name bytes (Part total more) h = by_file_part c s name (bytes ++ more) total
  by_file_told c s name bytes (Refused z) h = by_stop z
  by_file_told c s name bytes r h = h

  by_chunk_told : (c : Course) (s : Stock) (x : Index) (e : AppendEntry) (later : List AppendEntry) (r : Reply) → P r → ReportIs P (chunk_told c s x e later r)
  unfolding chunk_told
  by_chunk_told c s x e later (Data blob) h = by_chunk_read c s x e later blob
  by_chunk_told c s x e later (Refused z) h = by_stop z
  by_chunk_told c s x e later r h = h

  pulled : (x : Pulling) (r : Reply) → P r → ReportIs P (take x r)
  unfolding take
  pulled (seeking group) r h = by_sought group r h
  pulled (comparing group remote) r h = by_compared remote r h
  pulled (pull_starting c) r h = by_started c r h
  pulled (reading_manifest c bytes) r h = by_manifest_told c bytes r h
  pulled (reading_file c s name bytes) r h = by_file_told c s name bytes r h
  pulled (opening c s x) r h = by_go r (next_chunk c s x x.entries) (by_chunk c s x x.entries)
  pulled (reading_chunk c s x e later) r h = by_chunk_told c s x e later r h
  pulled (sending_chunk c s x e later blob) r h = by_go r (next_chunk c s x later) (by_chunk c s x later)
  pulled (appending c s x e later) r h = by_go r (next_append c s x _) (by_append c s x _)
  pulled (closing_index c s x) r h = by_go r (next_file c s) (by_next_file c s)
  pulled (sending_blob c s name bytes) r h = by_go r (next_file c s) (by_next_file c s)
  pulled (sending_manifest c s) r h = by_go r (asks (finishing c)) tt
  pulled (finishing c) r h = by_go r (finished c) (by_finish c)
  pulled (rejecting path) r h = by_reject path r
  pulled (aborting first) r h = by_end first r

  -- ---- a lane

  on_job : (p : Position) (left : List ℕ) (j : Job) → OverIs P j → SaysMore P p.told (job_on p left j).told
  unfolding job_on
  on_job p left (over r) h = inr (r, refl, h)
  on_job p left (asking j) h = inl refl

  on_pull : (p : Position) (left : List ℕ) (j : SyncJob) → ReportIs P j → SaysMore P p.told (pulls_on p left j).told
  unfolding pulls_on
  on_pull p left (reports r) h = inr (r, refl, h)
  on_pull p left (asks x) h = inl refl

  at_next : (p : Position) (n : ℕ) (r : Option Reply) (x : Ahead) → IfSome r P → StepIs Q x → SaysMore P p.told (heard_at p n r x).told
  unfolding heard_at
  at_next p n (Some r) (ahead (job_step j left)) h q = on_job p left (job_take j r) (taken j r q h)
  at_next p n None (ahead (job_step j left)) h q = inl refl
  at_next p n (Some r) (ahead (plain c left)) h q = inr (r, refl, h)
  at_next p n None (ahead (plain c left)) h q = inl refl
  at_next p n (Some r) (ahead (sync group left)) h q = by_kind (n == 1)
    where
      by_kind : (b : Bool) → SaysMore P p.told (if b then pulls_on p p.left (sought group r) else tells p left r).told
      by_kind true = on_pull p p.left (sought group r) (by_sought group r h)
      by_kind false = inr (r, refl, h)
  at_next p n None (ahead (sync group left)) h q = inl refl
  at_next p n (Some r) (ahead (collect left)) h q = inr (r, refl, h)
  at_next p n None (ahead (collect left)) h q = by_kind (n == 3)
    where
      by_kind : (b : Bool) → SaysMore P p.told (if b then record p { left = left; task = Some (sweeps false) } else p).told
      by_kind true = inl refl
      by_kind false = inl refl
  at_next p n (Some r) (ahead (collecting is_out_of_memory)) h q = by_kind (n == 2)
    where
      by_kind : (b : Bool) → SaysMore P p.told (if b then record p { task = Some (sweeps true) } else tells p p.left r).told
      by_kind true = inl refl
      by_kind false = inr (r, refl, h)
  at_next p n None (ahead (collecting is_out_of_memory)) h q = inl refl
  at_next p n (Some r) (ahead (broken refusal)) h q = by_kind (n == 2)
    where
      by_kind : (b : Bool) → SaysMore P p.told (if b then used_up p r else p).told
      by_kind true = inr (r, refl, h)
      by_kind false = inl refl
  at_next p n None (ahead (broken refusal)) h q = inl refl
  at_next p n (Some r) (ahead bye) h q = inl refl
  at_next p n None (ahead bye) h q = inl refl
  at_next p n (Some r) (ahead end) h q = inl refl
  at_next p n None (ahead end) h q = inl refl
  at_next p n (Some r) (pull x left) h q = on_pull p left (take x r) (pulled x r h)
  at_next p n None (pull x left) h q = inl refl

  at_answer : (p : Position) (a : Answer) → IfSome a.reply P → StepIs Q (next_at p) → SaysMore P p.told (heard p a).told
  unfolding heard
  at_answer p a h q = at_next p (a.entry).kind a.reply (next_at p) h q

  at_last : (e : Ending) (p : Position) (x : Ahead) → SaysMore P p.told (last_words e p x).told
  unfolding last_words
  at_last e p (ahead bye) = by_test (is_replied e)
    where
      by_test : (b : Bool) → SaysMore P p.told (if b then tells p [] Done else p).told
      by_test true = inr (Done, refl, done)
      by_test false = inl refl
  at_last e p (ahead (broken z)) = by_test (is_replied e)
    where
      by_test : (b : Bool) → SaysMore P p.told (if b then tells p [] (Refused z) else p).told
      by_test true = inr (Refused z, refl, refused z)
      by_test false = inl refl
  at_last e p (ahead (job_step j left)) = inl refl
  at_last e p (ahead (plain c left)) = inl refl
  at_last e p (ahead (sync group left)) = inl refl
  at_last e p (ahead (collect left)) = inl refl
  at_last e p (ahead (collecting is_out_of_memory)) = inl refl
  at_last e p (ahead end) = inl refl
  at_last e p (pull x left) = inl refl

  at_fault : (e : Ending) (p : Position) (r : Option Reply) → IfSome r P → StepIs Q (next_at p) → SaysMore P p.told (end_faulted e p r).told
  at_fault endings.NoMemory p r h q = by_test (is_none (job_in p.task))
    where
      by_test : (b : Bool) → SaysMore P p.told (if b then p else heard_at p 5 r (next_at p)).told
      by_test true = inl refl
      by_test false = at_next p 5 r (next_at p) h q
  at_fault endings.Clean p r h q = at_next p 5 r (next_at p) h q
  at_fault (endings.Broken place) p r h q = at_next p 5 r (next_at p) h q
  at_fault endings.SourceFault p r h q = at_next p 5 r (next_at p) h q
  at_fault endings.SourceTooLong p r h q = at_next p 5 r (next_at p) h q
  at_fault endings.SinkFault p r h q = at_next p 5 r (next_at p) h q

  at_end : (e : Ending) (p : Position) (n : ℕ) (r : Option Reply) → IfSome r P → StepIs Q (next_at p) → SaysMore P p.told (end_heard e p n r).told
  at_end e p n r h q = by_test (n == 5)
    where
      by_test : (b : Bool) → SaysMore P p.told (if b then end_faulted e p r else record (last_words e p (next_at p)) { is_over = true }).told
      by_test true = at_fault e p r h q
      by_test false = at_last e p (next_at p)

  by_class : (c : Class) (e : Ending) (p : Position) (a : Answer) → IfSome a.reply P → StepIs Q (next_at p) → SaysMore P p.told (heard_as c e p a).told
  by_class ending e p a h q = at_end e p (a.entry).kind a.reply h q
  by_class stepping e p a h q = at_answer p a h q
  by_class reaching e p a h q = at_answer p a h q
  by_class starting e p a h q = at_answer p a h q
  by_class sweeping e p a h q = at_answer p a h q
  by_class wanting e p a h q = at_answer p a h q

  -- at an event
  pub says_more : (e : Ending) (p : Position) (v : Event) → IfSome (reply v) P → StepIs Q (next_at p) → SaysMore P p.told (position_after e p v).told
  unfolding position_after
  says_more e p v h q = by_class (class_of v.act) e p v.answer h q
