-- What a command's exits need to prove its two records.
use Rattle.std.proofs.Common.{◌≡◌, ◌<◌, ◌↔◌, ℕ, Bool, ◌&&◌, not, List, true, false, length, get_or, get_or-set_same, set, Option, Some, Result, Ok, Err, IfOk, IsErrOf, IsErrAnd, IsTrue, inl, inr, ⊎_elim, refl, sym, ap, subst, ◌∙◌, arith}
use Rattle.std.proofs.lemmas.List.{get_or-set_other, get_or_default}
use Rattle.std.proofs.lemmas.Bool.{and_parts}
use Rattle.std.specs.FinMap.{get}
use Rattle.disk_trait.specs.Files.{Files}
use Rattle.disk_trait.specs.Disk.{Serves, Steps, Same}
use Rattle.disk_trait.specs.Effects.{LeavesBy, LeavesSame, OnlyReads, SameContent}
use Rattle.disk_trait.specs.declared.disk.Disk.{Ghosts}
use Rattle.disk_trait.specs.declared.disk.DiskError.{DiskError}
use Rattle.disk_trait.specs.declared.disk.DiskError.TheVariants as disks
use Rattle.store_types.specs.declared.refusal.Refusal.{Refusal}
use Rattle.store_types.specs.declared.refusal.Refusal.TheVariants.{WrongState}
use Rattle.store_types.specs.declared.refusal.Refusal.TheVariants as refusals
use Rattle.store_types.specs.declared.refusal.SessionState.{SessionState}
use Rattle.store_files.specs.Archive.{Snapshot}
use Rattle.wire_commands.specs.declared.reply.Reply.{Reply}
use Rattle.wire_commands.specs.declared.reply.Reply.TheVariants as replies
use Rattle.wire_commands.specs.HasText.{ReplyHasText}
use Rattle.store_model.specs.Store as model
use Rattle.store_model.specs.Store.{Store, Outcome, session, want_reader, ended}
use Rattle.store_model.specs.WriterSteps.{checked_blob}
use Rattle.store_model.specs.ArchiveSteps.{checked_chunk}
use Rattle.store_model.specs.ReaderSteps.{read_file, read_chunk}
use Rattle.store_model.specs.Steps.{outcome, answered}
use Rattle.store_history.specs.declared.act.Act.{Act}
use Rattle.store_history.specs.declared.act.Act.TheVariants as acts
use Rattle.store_history.specs.History.{World, act_outcome, data_in}
use Rattle.store_history.specs.Profile.{OnDisk, no_call, only_reads, disk_change, OnList, same_list, lists, takes_out, OnSessions, ends_reader, ends_writer, are_ended, is_called, is_changed, profile}
use Rattle.restore_reader.specs.Session.{Reading}
use Rattle.store_stops.specs.declared.stop.Stop.{Stop}
use Rattle.core_state.specs.declared.entering.Place.{Place}
use Rattle.core_state.specs.declared.kept.Session.{Session}
use Rattle.core_state.specs.declared.kept.Session.TheVariants.{Idle, Writer, Reader}
use Rattle.core_state.specs.declared.kept.Writing.{Writing}
use Rattle.core_state.specs.declared.parts.Parts.{Parts}
use Rattle.store_stops.specs.declared.stop.Stop.TheVariants.{Refused, NoMemory, DiskFailed}
use Rattle.core_state.specs.Catalogue.{listed_by, listed_on}
use Rattle.core_state.specs.Changes.{Change, IsFirm, LeavesChange, MayLeave, after, by_stop, change_of, change_on, stays, undone, installs, stores, drops, finishes, forgets}
use Rattle.core_state.specs.Chunks.{Adds, IsSafe}
use Rattle.core_state.specs.Closing.{HasClosed, HasEnded, closes, is_ended, is_reader, is_writer}
use Rattle.core_state.specs.Commands.{ActDoes, ActLeaves, IsNoRefusal, LeavesRows, OthersStay, RowsStay, change_at, ends_session, calls_no_disk, is_still, leaves_writer, reads_only, row_stays}
use Rattle.core_state.specs.Kept.{KeptAt, kept_at}
use Rattle.core_state.specs.PassedTests.{PassesFor, PassesItsTests}
use Rattle.core_state.specs.Indexed.{FitsRows, row_in}
use Rattle.core_state.specs.Holds.{Holds, IsOnDisk, Shows, Does, Acts}
use Rattle.store_history.specs.Replies.{may_answer}
use Rattle.core_state.specs.Settles.{reply_by}
use Rattle.core_state.specs.Shown.{shown_session, shown_reader, shown_writer}
use Rattle.core_state.specs.States.{state_of}
use Rattle.core_state.specs.Stops.{told}
use Rattle.snapshot_files.specs.Reads.{StopHasText}
use Rattle.store_stops.specs.Stops.{stop_of, Gives, IfRefused}
use Rattle.core_state.specs.Unchanged.{SameKept, SamePlain, Unchanged, is_uncalled}
use Rattle.core_state.specs.Wanted.{session_at, reader_in, want_writer, want_idle}
use Rattle.core_state.proofs.Chunks.{adds_same}
use Rattle.core_state.proofs.Acting.{holds_kept, holds_same, plain_of, shows_kept, shows_same}
use Rattle.core_state.proofs.Rows.{rows_same}
use Rattle.core_state.proofs.Sessions.{at_lane, reader_found, writer_found}

-- ---- the lane's session

pub session_shown : {D : Type 0} (parts : Parts D) (s : Store) (lane : ℕ) → Shows parts s → lane < 64 → session_at parts lane ≡ shown_session s.snapshots (session s lane)
session_shown parts s lane shows lt =
    let items = parts.sessions.items in
    let within : lane < length items = omega (arith, parts.lanes, parts.sessions.ok.0, lt) in
    at_lane items s lane (get_or items lane Idle) shows.sessions (shows.sound).lanes lt (sym (get_or_default items lane (get_or items lane Idle) Idle within))

-- a writer that was put there is the lane's
pub writes_set : {D : Type 0} (old new : Parts D) (lane : ℕ) (left : Session) → lane < 64 → new.sessions.items ≡ set old.sessions.items lane left → is_writer left ≡ true → is_writer (session_at new lane) ≡ true
writes_set old new lane left lt sets writes =
    let within : lane < length old.sessions.items = omega (arith, old.lanes, old.sessions.ok.0, lt) in
    ap (λ (xs : List Session). is_writer (get_or xs lane Idle)) sets ∙ ap is_writer (get_or-set_same old.sessions.items lane left Idle within) ∙ writes

-- no other lane's session has changed
pub others_same : {D : Type 0} (old new : Parts D) (lane : ℕ) → new.sessions.items ≡ old.sessions.items → OthersStay old new lane
others_same old new lane same i other = ap (λ (xs : List Session). get_or xs i Idle) same

pub others_set : {D : Type 0} (old new : Parts D) (lane : ℕ) (left : Session) → new.sessions.items ≡ set old.sessions.items lane left → OthersStay old new lane
others_set old new lane left sets i other = ap (λ (xs : List Session). get_or xs i Idle) sets ∙ get_or-set_other old.sessions.items lane i left Idle other

refusals_same : {A : Type 0} (a b : Refusal) → ◌≡◌ {A = Result A Refusal} (Err a) (Err b) → a ≡ b
refusals_same a b e = cc

reading_apart : {A : Type 0} (r : A) (refusal : Refusal) → ◌≡◌ {A = Result A Refusal} (Ok r) (Err refusal) → ⊥
reading_apart r refusal e = cc

lacks : (x : model.Session) (f : Session) (refusal : Refusal) (snapshots : List Snapshot) → f ≡ shown_session snapshots x → reader_in f ≡ Err refusal → want_reader x ≡ Err refusal
lacks model.none f refusal snapshots is e = ap (λ x. Err x) (refusals_same _ refusal (ap reader_in (sym is) ∙ e))
lacks (model.writer w) f refusal snapshots is e = ap (λ x. Err x) (refusals_same _ refusal (ap reader_in (sym is) ∙ e))
lacks (model.reader r) f refusal snapshots is e = absurd (reading_apart (shown_reader snapshots r) refusal (ap reader_in (sym is) ∙ e))

-- where the lane has no reader the plain store has none
pub reader_wanted : {D : Type 0} (parts : Parts D) (s : Store) (lane : ℕ) (refusal : Refusal) → Shows parts s → lane < 64 → reader_in (session_at parts lane) ≡ Err refusal → want_reader (session s lane) ≡ Err refusal
reader_wanted parts s lane refusal shows lt e = lacks (session s lane) (session_at parts lane) refusal s.snapshots (session_shown parts s lane shows lt) e

is_reading : (f : Session) (r : Reading) → reader_in f ≡ Ok r → f ≡ Reader r
is_reading Idle r e = cc
is_reading (Writer w) r e = cc
is_reading (Reader q) r e = ap Reader (same q r e)
  where
    same : (q r : Reading) → ◌≡◌ {A = Result Reading Refusal} (Ok q) (Ok r) → q ≡ r
    same q r e = cc

-- and where it has one, the store's is shown by it
pub reader_shown : {D : Type 0} (parts : Parts D) (s : Store) (lane : ℕ) (r : Reading) → Shows parts s → lane < 64 → reader_in (session_at parts lane) ≡ Ok r
    → (v : model.Reader) × (session s lane ≡ model.reader v) × (shown_reader s.snapshots v ≡ r)
reader_shown parts s lane r shows lt e =
    reader_found s lane (session_at parts lane) r (session_shown parts s lane shows lt) (is_reading (session_at parts lane) r e)

-- the refusal is by the state
pub refused_by_state : (f : Session) (refusal : Refusal) (P : Refusal → Type 0) → ((state : SessionState) → P (WrongState state)) → reader_in f ≡ Err refusal → P refusal
refused_by_state Idle refusal P p e = subst P (refusals_same _ refusal e) (p _)
refused_by_state (Writer w) refusal P p e = subst P (refusals_same _ refusal e) (p _)
refused_by_state (Reader r) refusal P p e = absurd (reading_apart r refusal e)

-- what is found at a lane that has no reader
pub no_reading : (f : Session) → ((r : Reading) → f ≡ Reader r → ⊥) → reader_in f ≡ Err (WrongState (state_of f))
no_reading Idle other = refl
no_reading (Writer w) other = refl
no_reading (Reader r) other = absurd (other r refl)

no_reader : (f : Session) (refusal : Refusal) → reader_in f ≡ Err refusal → is_reader f ≡ true → ⊥
no_reader Idle refusal e is = cc
no_reader (Writer w) refusal e is = cc
no_reader (Reader r) refusal e is = reading_apart r refusal e

-- ---- the lane's writer

lacks_writer : (x : model.Session) (f : Session) (refusal : Refusal) (snapshots : List Snapshot) → f ≡ shown_session snapshots x → want_writer f ≡ Err refusal → model.want_writer x ≡ Err refusal
lacks_writer model.none f refusal snapshots is e = ap (λ x. Err x) (refusals_same _ refusal (ap want_writer (sym is) ∙ e))
lacks_writer (model.writer w) f refusal snapshots is e = absurd (reading_apart (shown_writer w) refusal (ap want_writer (sym is) ∙ e))
lacks_writer (model.reader r) f refusal snapshots is e = ap (λ x. Err x) (refusals_same _ refusal (ap want_writer (sym is) ∙ e))

-- where the lane has no writer the plain store has none
pub writer_wanted : {D : Type 0} (parts : Parts D) (s : Store) (lane : ℕ) (refusal : Refusal) → Shows parts s → lane < 64 → want_writer (session_at parts lane) ≡ Err refusal → model.want_writer (session s lane) ≡ Err refusal
writer_wanted parts s lane refusal shows lt e = lacks_writer (session s lane) (session_at parts lane) refusal s.snapshots (session_shown parts s lane shows lt) e

pub is_writing : (f : Session) (w : Writing) → want_writer f ≡ Ok w → f ≡ Writer w
is_writing Idle w e = cc
is_writing (Writer v) w e = ap Writer (same v w e)
  where
    same : (v w : Writing) → ◌≡◌ {A = Result Writing Refusal} (Ok v) (Ok w) → v ≡ w
    same v w e = cc
is_writing (Reader r) w e = cc

-- and where it has one, the store's is shown by it
pub writer_shown : {D : Type 0} (parts : Parts D) (s : Store) (lane : ℕ) (w : Writing) → Shows parts s → lane < 64 → want_writer (session_at parts lane) ≡ Ok w
    → (v : model.Writer) × (session s lane ≡ model.writer v) × (shown_writer v ≡ w)
writer_shown parts s lane w shows lt e =
    writer_found s lane (session_at parts lane) w (session_shown parts s lane shows lt) (is_writing (session_at parts lane) w e)

-- the refusal is by the state
pub unwritten_by_state : (f : Session) (refusal : Refusal) (P : Refusal → Type 0) → ((state : SessionState) → P (WrongState state)) → want_writer f ≡ Err refusal → P refusal
unwritten_by_state Idle refusal P p e = subst P (refusals_same _ refusal e) (p _)
unwritten_by_state (Writer w) refusal P p e = absurd (reading_apart w refusal e)
unwritten_by_state (Reader r) refusal P p e = subst P (refusals_same _ refusal e) (p _)

-- what is found at a lane that has no writer
pub no_writing : (f : Session) → ((w : Writing) → f ≡ Writer w → ⊥) → want_writer f ≡ Err (WrongState (state_of f))
no_writing Idle other = refl
no_writing (Writer w) other = absurd (other w refl)
no_writing (Reader r) other = refl

no_writer : (f : Session) (refusal : Refusal) → want_writer f ≡ Err refusal → is_writer f ≡ true → ⊥
no_writer Idle refusal e is = cc
no_writer (Writer w) refusal e is = reading_apart w refusal e
no_writer (Reader r) refusal e is = cc

-- ---- the lane has no session

is_busy : (x : model.Session) (f : Session) (refusal : Refusal) (snapshots : List Snapshot) → f ≡ shown_session snapshots x → want_idle f ≡ Err refusal → model.want_idle x ≡ Err refusal
is_busy model.none f refusal snapshots is e = absurd (reading_apart {A = Unit {0}} tt refusal (ap want_idle (sym is) ∙ e))
is_busy (model.writer w) f refusal snapshots is e = ap (λ x. Err x) (refusals_same _ refusal (ap want_idle (sym is) ∙ e))
is_busy (model.reader r) f refusal snapshots is e = ap (λ x. Err x) (refusals_same _ refusal (ap want_idle (sym is) ∙ e))

-- where the lane has a session the plain store has one
pub idle_wanted : {D : Type 0} (parts : Parts D) (s : Store) (lane : ℕ) (refusal : Refusal) → Shows parts s → lane < 64 → want_idle (session_at parts lane) ≡ Err refusal → model.want_idle (session s lane) ≡ Err refusal
idle_wanted parts s lane refusal shows lt e = is_busy (session s lane) (session_at parts lane) refusal s.snapshots (session_shown parts s lane shows lt) e

pub is_idle : (f : Session) → want_idle f ≡ Ok tt → f ≡ Idle
is_idle Idle e = refl
is_idle (Writer w) e = cc
is_idle (Reader r) e = cc

idle_shown_by : (x : model.Session) (snapshots : List Snapshot) → Idle ≡ shown_session snapshots x → x ≡ model.none
idle_shown_by model.none snapshots e = refl
idle_shown_by (model.writer w) snapshots e = cc
idle_shown_by (model.reader r) snapshots e = cc

-- and where it has none the store has none
pub idle_shown : {D : Type 0} (parts : Parts D) (s : Store) (lane : ℕ) → Shows parts s → lane < 64 → want_idle (session_at parts lane) ≡ Ok tt → session s lane ≡ model.none
idle_shown parts s lane shows lt e = idle_shown_by (session s lane) s.snapshots (sym (is_idle (session_at parts lane) e) ∙ session_shown parts s lane shows lt)

-- the refusal is by the state
pub busy_by_state : (f : Session) (refusal : Refusal) (P : Refusal → Type 0) → ((state : SessionState) → P (WrongState state)) → want_idle f ≡ Err refusal → P refusal
busy_by_state Idle refusal P p e = absurd (reading_apart {A = Unit {0}} tt refusal e)
busy_by_state (Writer w) refusal P p e = subst P (refusals_same _ refusal e) (p _)
busy_by_state (Reader r) refusal P p e = subst P (refusals_same _ refusal e) (p _)

-- what is found at a lane that has a session
pub no_idle : (f : Session) → (f ≡ Idle → ⊥) → want_idle f ≡ Err (WrongState (state_of f))
no_idle Idle other = absurd (other refl)
no_idle (Writer w) other = refl
no_idle (Reader r) other = refl

pub same_kept : {D : Type 0} (parts : Parts D) → SameKept parts parts
same_kept parts = record { catalogue = refl; sessions = refl; locks = refl; indexes = refl }

-- ---- stops

ok_apart : {A : Type 0} (x : A) (refusal : Refusal) → ◌≡◌ {A = Result A Refusal} (Ok x) (Err refusal) → ⊥
ok_apart x refusal e = cc

-- where a value is to be had there is no refusal
pub none_refused : {A B : Type 0} (f : A → B) (x : B) (P : Refusal → Type 0) (stop : Stop) → Gives f (Err stop) (Ok x) → IfRefused P stop
none_refused f x P (Refused refusal) gives = absurd (ok_apart x refusal gives)
none_refused f x P NoMemory gives = tt
none_refused f x P DiskFailed gives = tt

pub refused_as : (P Q : Refusal → Type 0) (stop : Stop) → ((refusal : Refusal) → P refusal → Q refusal) → IfRefused P stop → IfRefused Q stop
refused_as P Q (Refused refusal) so p = so refusal p
refused_as P Q NoMemory so p = tt
refused_as P Q DiskFailed so p = tt

-- what is given by a stop
pub gives_by : {A B : Type 0} (f : A → B) (wanted : Result B Refusal) (result : Result A Stop) (stop : Stop) → IsErrAnd result (λ x. x ≡ stop) → Gives f (Err stop) wanted → Gives f result wanted
gives_by f wanted (Ok x) stop is g = absurd is
gives_by f wanted (Err x) stop is g = subst (λ y. Gives f (Err y) wanted) (sym is) g

-- ---- what an act does and leaves, by which act it is

-- what the plain store answers to an act, where neither disk nor memory fails
abbrev pub act_does : Store → ℕ → ℕ → Act → Outcome
act_does s lane moment (acts.Plain command) = outcome s lane moment command
act_does s lane moment (acts.JobGroup command) = outcome s lane moment command
act_does s lane moment (acts.Blob name checked) = checked_blob s lane name (data_in checked)
act_does s lane moment (acts.Chunk digest checked) = checked_chunk s lane (data_in checked)
act_does s lane moment (acts.ReadFile name offset) = read_file s lane name offset
act_does s lane moment (acts.ReadChunk name entry) = read_chunk s lane name entry
act_does s lane moment (acts.RemoteList command) = Err refusals.NoMemory
act_does s lane moment (acts.RemoteFile snapshot name offset) = Err refusals.NoMemory
act_does s lane moment (acts.RemoteChunk digest) = Err refusals.NoMemory
act_does s lane moment acts.Start = Err refusals.NoMemory
act_does s lane moment acts.Step = Err refusals.NoMemory
act_does s lane moment acts.Short = Err refusals.NoMemory
act_does s lane moment acts.End = Ok (ended s lane, replies.Done)

does_is : (remote : Option (List Snapshot)) (w : World) (s : Store) (lane moment : ℕ) (act : Act) → act_outcome remote (record w { store = s }) lane moment act ≡ act_does s lane moment act
unfolding act_outcome
does_is remote w s lane moment (acts.Plain command) = refl
does_is remote w s lane moment (acts.JobGroup command) = refl
does_is remote w s lane moment (acts.Blob name checked) = refl
does_is remote w s lane moment (acts.Chunk digest checked) = refl
does_is remote w s lane moment (acts.ReadFile name offset) = refl
does_is remote w s lane moment (acts.ReadChunk name entry) = refl
does_is remote w s lane moment (acts.RemoteList command) = refl
does_is remote w s lane moment (acts.RemoteFile snapshot name offset) = refl
does_is remote w s lane moment (acts.RemoteChunk digest) = refl
does_is remote w s lane moment acts.Start = refl
does_is remote w s lane moment acts.Step = refl
does_is remote w s lane moment acts.Short = refl
does_is remote w s lane moment acts.End = refl

-- a refused act leaves the catalogue
pub unlisted : (act : Act) (refusal : Refusal) (number : ℕ) (k : KeptAt) → listed_by act (Some (replies.Refused refusal)) number k ≡ k.catalogue
unlisted act refusal number k = by_list (profile act).list
  where
    by_list : (list : OnList) → listed_on list (Some (replies.Refused refusal)) number k ≡ k.catalogue
    by_list same_list = refl
    by_list lists = refl
    by_list (takes_out snapshot) = refl

unlisted_by : (act : Act) (stop : Stop) (number : ℕ) (k : KeptAt) → listed_by act (Some (reply_by (told (Err stop)))) number k ≡ k.catalogue
unlisted_by act (Refused refusal) number k = unlisted act refusal number k
unlisted_by act NoMemory number k = unlisted act _ number k
unlisted_by act DiskFailed number k = unlisted act _ number k

-- an act that closes a session is done with none
closes_ends : (act : Act) (x : Session) → closes act x ≡ true → ends_session act ≡ true
closes_ends act x e = by_sessions (profile act).sessions e
  where
    by_sessions : (sessions : OnSessions) → is_ended sessions x ≡ true → are_ended sessions ≡ true
    by_sessions ends_writer e = refl
    by_sessions ends_reader e = refl
    by_sessions sessions e = cc

false_true : false ≡ true → ⊥
false_true e = cc

-- an act that only reads changes nothing
reads_stay : (act : Act) (k : KeptAt) → reads_only act ≡ true → change_of act k ≡ stays
reads_stay act k only = by_disk (profile act).disk only
  where
    by_disk : (disk : OnDisk) → not (is_changed disk) ≡ true → change_on disk k ≡ stays
    by_disk no_call only = refl
    by_disk only_reads only = refl
    by_disk (disk_change change) only = cc

-- of an act that only reads it says nothing
reads_pass : (act : Act) (s : Store) (lane : ℕ) → reads_only act ≡ true → PassesItsTests act s lane
reads_pass act s lane only = by_disk (profile act).disk only
  where
    by_disk : (disk : OnDisk) → not (is_changed disk) ≡ true → PassesFor disk s lane
    by_disk no_call only = tt
    by_disk only_reads only = tt
    by_disk (disk_change change) only = cc

-- the acts that read the disk, and change nothing there
abbrev pub reads_disk : Act → Bool
reads_disk act = reads_only act && not (calls_no_disk act)

disk_called : (act : Act) → reads_disk act ≡ true → calls_no_disk act ≡ true → ⊥
disk_called act reads no_disk_call = apart (calls_no_disk act) (and_parts (reads_only act) (not (calls_no_disk act)) reads).1 no_disk_call
  where
    apart : (b : Bool) → not b ≡ true → b ≡ true → ⊥
    apart true e is = cc
    apart false e is = cc

-- an act that makes no call of the disk changes nothing there
no_disk_reads : (act : Act) → calls_no_disk act ≡ true → reads_only act ≡ true
no_disk_reads act no_disk_call = by_disk (profile act).disk no_disk_call
  where
    by_disk : (disk : OnDisk) → not (is_called disk) ≡ true → not (is_changed disk) ≡ true
    by_disk no_call no_disk_call = refl
    by_disk only_reads no_disk_call = refl
    by_disk (disk_change change) no_disk_call = cc

pub not_still : {P : Type 0} (act : Act) → is_still act ≡ false → is_still act ≡ true → P
not_still act other is = absurd (false_true (sym other ∙ is))

not_failed : (refusal : Refusal) → IsErrOf {T = Reply} (Err (Refused refusal)) DiskFailed → ⊥
not_failed refusal e = cc

not_memory : IsErrOf {T = Reply} (Err NoMemory) DiskFailed → ⊥
not_memory e = cc

not_done : (reply : Reply) → IsErrOf (Ok reply) DiskFailed → ⊥
not_done reply e = cc

-- whatever an act changes may not have happened yet
may_stay : (change : Change) (read old new : Files) → new ≡ old → MayLeave change read old new
may_stay stays read old new same = same
may_stay undone read old new same = same
may_stay (installs path bytes) read old new same = inl (λ q ne. ap (λ m. get m q) same)
may_stay (stores name bytes) read old new same = inl same
may_stay (drops paths) read old new same = λ q. inl (ap (λ m. get m q) same)
may_stay (finishes path bytes) read old new same = inl (λ q ne. ap (λ m. get m q) same)
may_stay (forgets manifest paths) read old new same = inl same

-- ---- the records

module _ {D : Type 0} (d : Ghosts D) where
  -- no disk call was made
  pub reads_none : (old new : D) (failed : Type 0) → new ≡ old → (failed → ⊥) → OnlyReads d old new failed
  reads_none old new failed same never = record {
    serves = record { kept = (λ h. subst d.honest (sym same) h, λ h. subst d.honest same h); count = let e = ap d.faults same in omega (arith, e); cause = λ f. absurd (never f) };
    crash = inl same;
    same = λ h. ap d.content same;
  }

  -- what the plain store answers to an act that changes nothing
  abbrev pub AnswersAs : Parts D → Place → Act → Result Reply Stop → Type 0
  AnswersAs old at act result = (s : Store) → Holds d old s → Gives (λ reply. (s, reply)) result (act_does s at.lane at.moment act)

  -- what an act does that was done, or refused by itself
  told_step : (new : Parts D) (at : Place) (act : Act) (s after_it : Store) (reply : Reply) (result : Outcome) → act_does s at.lane at.moment act ≡ result → answered s result ≡ (after_it, reply) → Holds d new after_it
      → (remote : Option (List Snapshot)) (w : World) → Does d new s (answered s (act_outcome remote (record w { store = s }) at.lane at.moment act)) (Ok reply)
  told_step new at act s after_it reply result is says holds remote w =
      let done : Does d new s (after_it, reply) (Ok reply) = (refl, holds) in
      subst (λ x. Does d new s x (Ok reply)) (sym (ap (answered s) (does_is remote w s at.lane at.moment act ∙ is) ∙ says)) done

  -- what the lanes keep of indexes is of their sessions then too
  abbrev pub KeepsFit : Parts D → Parts D → Type 0
  KeepsFit old new = (s : Store) → Holds d old s → FitsRows s new.indexes.items

  pub fits_same : (old new : Parts D) → SameKept old new → KeepsFit old new
  fits_same old new k s h = subst (FitsRows s) (sym k.indexes) (h.shows).indexes

  reads_step : (old new : Parts D) (at : Place) (act : Act) (result : Result Reply Stop) → (d.honest old.disk ↔ d.honest new.disk) → SameContent d old.disk new.disk → SamePlain old new → KeepsFit old new
      → AnswersAs old at act result
      → (remote : Option (List Snapshot)) (w : World) → Acts d old new (λ s. act_outcome remote (record w { store = s }) at.lane at.moment act) (told result)
  reads_step old new at act (Ok reply) kept same k fits says remote w s h =
      told_step new at act s s reply (Ok (s, reply)) (says s h) refl (holds_kept d old new s kept same k (fits s h) h) remote w
  reads_step old new at act (Err (Refused refusal)) kept same k fits says remote w s h =
      told_step new at act s s (replies.Refused refusal) (Err refusal) (says s h) refl (holds_kept d old new s kept same k (fits s h) h) remote w
  reads_step old new at act (Err NoMemory) kept same k fits says remote w s h =
      holds_kept d old new s kept same k (fits s h) h
  reads_step old new at act (Err DiskFailed) kept same k fits says remote w s h =
      (kept.0 h.honest, shows_kept old new s k (fits s h) h.shows)

  -- A command that changes no more than what is kept of indexes, and reads the disk at most.
  pub reads_on : (old new : Parts D) (at : Place) (act : Act) (result : Result Reply Stop) → OnlyReads d old.disk new.disk (IsErrOf result DiskFailed) → SamePlain old new → KeepsFit old new
      → IfOk (told result) ReplyHasText → IfOk (told result) (λ reply. IsTrue (may_answer act reply)) → IfOk result IsNoRefusal → AnswersAs old at act result
      → ActDoes d old new at act result
  reads_on old new at act result reads kept fits text answers plain says = record {
    serves = reads.serves;
    text = text;
    answers = answers;
    plain = plain;
    step = λ _. reads_step old new at act result (reads.serves).kept reads.same kept fits says;
  }

  -- A command that changes no part, and reads the disk at most.
  pub reads_does : (old new : Parts D) (at : Place) (act : Act) (result : Result Reply Stop) → OnlyReads d old.disk new.disk (IsErrOf result DiskFailed) → SameKept old new
      → IfOk (told result) ReplyHasText → IfOk (told result) (λ reply. IsTrue (may_answer act reply)) → IfOk result IsNoRefusal → AnswersAs old at act result
      → ActDoes d old new at act result
  reads_does old new at act result reads kept = reads_on old new at act result reads (plain_of old new kept) (fits_same old new kept)

  pub done_unchanged : (old new : Parts D) (reply : Reply) → IsNoRefusal reply → Unchanged d old new reply
  done_unchanged old new (replies.Refused refusal) plain = absurd plain
  done_unchanged old new reply plain = tt

  leaves_all : (old new : Parts D) (result : Result Reply Stop) → IfOk result IsNoRefusal → SamePlain old new
      → ((refusal : Refusal) → result ≡ Err (Refused refusal) → is_uncalled refusal ≡ true → new.disk ≡ old.disk)
      → ((IsErrOf result DiskFailed → ⊥) → SameContent d old.disk new.disk)
      → Unchanged d old new (reply_by (told result))
  leaves_all old new (Err NoMemory) plain kept uncalled same = record { kept = kept; uncalled = λ t. cc; disk = λ _. same (λ e. cc) }
  leaves_all old new (Err DiskFailed) plain kept uncalled same = record { kept = kept; uncalled = λ t. cc; disk = λ other. absurd (other refl) }
  leaves_all old new (Err (Refused refusal)) plain kept uncalled same = record { kept = kept; uncalled = uncalled refusal refl; disk = λ _. same (λ e. cc) }
  leaves_all old new (Ok reply) plain kept uncalled same = done_unchanged old new reply plain

  -- its change is done, or nothing has changed
  same_after : (old new : D) (change : Change) (result : Result Reply Stop) → (IfOk result (λ _. change ≡ stays)) → SameContent d old new → (IsErrOf result DiskFailed → ⊥) → d.honest old
      → d.content new ≡ after (by_stop change result) (d.content old)
  same_after old new change (Ok reply) is same fine h = same h ∙ ap (λ c. after c (d.content old)) (sym is)
  same_after old new change (Err (Refused refusal)) is same fine h = same h
  same_after old new change (Err NoMemory) is same fine h = same h
  same_after old new change (Err DiskFailed) is same fine h = absurd (fine refl)

  -- by a step that does no more
  pub leaves_by : (old new : D) (P Q : Files → Files → Type 0) → ((a b : Files) → P a b → Q a b) → LeavesBy d old new P → LeavesBy d old new Q
  leaves_by old new P Q so leaves = ⊎_elim (λ same. inl same) (λ steps. inr (by_step steps)) leaves
    where
      by_step : Steps d.calls d.images old new P → Steps d.calls d.images old new Q
      by_step x = record {
        later = x.later;
        past = x.past;
        stays = x.stays;
        each = λ t c le is. let (b, at, step) = x.each t c le is in (b, at, so b c step);
      }

  -- what a crash leaves as it was is left by any change
  pub same_leaves : (old new : D) (change : Change) → LeavesSame d old new → LeavesChange d old new change
  same_leaves old new change leaves = leaves_by old new Same (MayLeave change (d.content old)) (λ a b same. may_stay change (d.content old) a b same) leaves

  stays_firm : (old new : D) (change : Change) → change ≡ stays → IsFirm d old new change
  stays_firm old new change is = subst (IsFirm d old new) (sym is) tt

  ok_firm : (old new : D) (change : Change) (result : Result Reply Stop) → IfOk result (λ _. change ≡ stays) → IfOk result (λ _. IsFirm d old new change)
  ok_firm old new change (Ok reply) is = stays_firm old new change is
  ok_firm old new change (Err stop) is = tt

  listed_so : (old new : Parts D) (at : Place) (act : Act) (result : Result Reply Stop) → new.catalogue.listed ≡ old.catalogue.listed
      → IfOk result (λ reply. listed_by act (Some reply) at.number (kept_at old at.lane) ≡ old.catalogue.listed)
      → new.catalogue.listed ≡ listed_by act (Some (reply_by (told result))) at.number (kept_at old at.lane)
  listed_so old new at act (Ok reply) same is = same ∙ sym is
  listed_so old new at act (Err stop) same is = same ∙ sym (unlisted_by act stop at.number (kept_at old at.lane))

  -- What an act that changed nothing must show beside that, where it was done: it is one that changes nothing.
  pub record DoneIdly (old : Parts D) (at : Place) (act : Act) (reply : Reply) : Type 0 where
    pub plain : IsNoRefusal reply
    pub change : change_at old at.lane act ≡ stays
    pub listed : listed_by act (Some reply) at.number (kept_at old at.lane) ≡ old.catalogue.listed
    pub goes_on : ends_session act ≡ false
    pub writes : leaves_writer act ≡ true → is_writer (session_at old at.lane) ≡ true

  plainly : (old : Parts D) (at : Place) (act : Act) (result : Result Reply Stop) → IfOk result (DoneIdly old at act) → IfOk result IsNoRefusal
  plainly old at act (Ok reply) idly = idly.plain
  plainly old at act (Err stop) idly = tt

  changes_none : (old : Parts D) (at : Place) (act : Act) (result : Result Reply Stop) → IfOk result (DoneIdly old at act) → IfOk result (λ _. change_at old at.lane act ≡ stays)
  changes_none old at act (Ok reply) idly = idly.change
  changes_none old at act (Err stop) idly = tt

  lists_none : (old : Parts D) (at : Place) (act : Act) (result : Result Reply Stop) → IfOk result (DoneIdly old at act)
      → IfOk result (λ reply. listed_by act (Some reply) at.number (kept_at old at.lane) ≡ old.catalogue.listed)
  lists_none old at act (Ok reply) idly = idly.listed
  lists_none old at act (Err stop) idly = tt

  ends_none : (old new : Parts D) (at : Place) (act : Act) (result : Result Reply Stop) → IfOk result (DoneIdly old at act) → ends_session act ≡ true → IfOk result (λ _. HasEnded new at.lane)
  ends_none old new at act (Ok reply) idly ends = absurd (false_true (sym idly.goes_on ∙ ends))
  ends_none old new at act (Err stop) idly ends = tt

  still_writes : (old new : Parts D) (at : Place) (act : Act) (result : Result Reply Stop) → IfOk result (DoneIdly old at act) → SamePlain old new → leaves_writer act ≡ true → IfOk result (λ _. is_writer (session_at new at.lane) ≡ true)
  still_writes old new at act (Ok reply) idly kept writes = ap (λ (xs : List Session). is_writer (get_or xs at.lane Idle)) kept.sessions ∙ idly.writes writes
  still_writes old new at act (Err stop) idly kept writes = tt

  closed_so : (old new : Parts D) (at : Place) (act : Act) (result : Result Reply Stop) → IfOk result (DoneIdly old at act) → (closes act (session_at old at.lane) ≡ true → IsErrOf result DiskFailed)
      → closes act (session_at old at.lane) ≡ true → HasClosed new at.lane (told result)
  closed_so old new at act (Ok reply) idly by closing = absurd (false_true (sym idly.goes_on ∙ closes_ends act (session_at old at.lane) closing))
  closed_so old new at act (Err (Refused refusal)) idly by closing = absurd (not_failed refusal (by closing))
  closed_so old new at act (Err NoMemory) idly by closing = absurd (not_memory (by closing))
  closed_so old new at act (Err DiskFailed) idly by closing = tt

  -- what is kept of indexes has not changed
  rows_kept : (old new : Parts D) (lane : ℕ) (stays_here : Bool) → new.indexes.items ≡ old.indexes.items → RowsStay old new lane stays_here
  rows_kept old new lane stays_here same i keeps = ap (λ xs. row_in xs i) same

  -- Unless the disk was called, it is the same: so a refusal that comes without a call leaves the disk itself.
  pub leaves_on : (old new : Parts D) (at : Place) (act : Act) (result : Result Reply Stop) (failed : Type 0) → OnlyReads d old.disk new.disk failed → SamePlain old new → RowsStay old new at.lane (row_stays result act)
      → IfOk result (DoneIdly old at act) → (calls_no_disk act ≡ true → new.disk ≡ old.disk)
      → ((refusal : Refusal) → result ≡ Err (Refused refusal) → is_uncalled refusal ≡ true → new.disk ≡ old.disk)
      → (closes act (session_at old at.lane) ≡ true → IsErrOf result DiskFailed) → (IsErrOf result DiskFailed → (s : Store) → PassesItsTests act s at.lane)
      → ActLeaves d old new at act result
  leaves_on old new at act result failed reads kept rows idly no_disk_call uncalled closed passed_its_tests = record {
    unchanged = leaves_all old new result (plainly old at act result idly) kept uncalled (λ _. reads.same);
    no_disk_call = no_disk_call;
    reads = λ _. reads.same;
    content = same_after old.disk new.disk (change_at old at.lane act) result (changes_none old at act result idly) reads.same;
    crash = same_leaves old.disk new.disk _ reads.crash;
    firm = ok_firm old.disk new.disk (change_at old at.lane act) result (changes_none old at act result idly);
    listed = listed_so old new at act result kept.catalogue (lists_none old at act result idly);
    admin = λ _. (kept.sessions, kept.locks);
    adds = adds_same d old new act (told result) reads.same;
    passed_its_tests = λ f s _. passed_its_tests f s;
    closed = closed_so old new at act result idly closed;
    ended = ends_none old new at act result idly;
    writes = still_writes old new at act result idly kept;
    others = others_same old new at.lane kept.sessions;
    rows = rows;
  }

  pub reads_leaves : (old new : Parts D) (at : Place) (act : Act) (result : Result Reply Stop) (failed : Type 0) → OnlyReads d old.disk new.disk failed → SameKept old new
      → IfOk result (DoneIdly old at act) → (calls_no_disk act ≡ true → new.disk ≡ old.disk)
      → ((refusal : Refusal) → result ≡ Err (Refused refusal) → is_uncalled refusal ≡ true → new.disk ≡ old.disk)
      → (closes act (session_at old at.lane) ≡ true → IsErrOf result DiskFailed) → (IsErrOf result DiskFailed → (s : Store) → PassesItsTests act s at.lane)
      → ActLeaves d old new at act result
  reads_leaves old new at act result failed reads kept = leaves_on old new at act result failed reads (plain_of old new kept) (rows_kept old new at.lane (row_stays result act) kept.indexes)

  -- ---- exits: by `?` or by a return, the result is an error with this stop

  abbrev Stops : Result Reply Stop → Stop → Type 0
  Stops result stop = IsErrAnd result (λ x. x ≡ stop)

  stopped : (P : Result Reply Stop → Type 0) (result : Result Reply Stop) (stop : Stop) → Stops result stop → P (Err stop) → P result
  stopped P (Ok reply) stop is p = absurd is
  stopped P (Err x) stop is p = subst (λ y. P (Err y)) (sym is) p

  -- refused before the disk is called
  pub refused_does : (old new : Parts D) (at : Place) (act : Act) (refusal : Refusal) (result : Result Reply Stop) → Stops result (Refused refusal) → new.disk ≡ old.disk → SameKept old new
      → ReplyHasText (replies.Refused refusal) → IsTrue (may_answer act (replies.Refused refusal))
      → ((s : Store) → Shows old s → act_does s at.lane at.moment act ≡ Err refusal)
      → ActDoes d old new at act result
  refused_does old new at act refusal result stops same kept text answers is =
      stopped (ActDoes d old new at act) result (Refused refusal) stops
      (reads_does old new at act (Err (Refused refusal)) (reads_none old.disk new.disk _ same (not_failed refusal)) kept text answers tt (λ s h. is s h.shows))

  pub refused_leaves : (old new : Parts D) (at : Place) (act : Act) (refusal : Refusal) (result : Result Reply Stop) → Stops result (Refused refusal) → new.disk ≡ old.disk → SameKept old new
      → (closes act (session_at old at.lane) ≡ true → ⊥) → ActLeaves d old new at act result
  refused_leaves old new at act refusal result stops same kept going =
      stopped (ActLeaves d old new at act) result (Refused refusal) stops
      (reads_leaves old new at act (Err (Refused refusal)) ⊥ (reads_none old.disk new.disk ⊥ same (λ f. f)) kept tt (λ _. same) (λ r e t. same) (λ closing. absurd (going closing)) (λ f. absurd (not_failed refusal f)))

  -- the lane has no reader
  pub unread_does : (parts : Parts D) (at : Place) (act : Act) (refusal : Refusal) (result : Result Reply Stop) → Stops result (Refused refusal) → at.lane < 64
      → reader_in (session_at parts at.lane) ≡ Err refusal → ReplyHasText (replies.Refused refusal) → ((state : SessionState) → IsTrue (may_answer act (replies.Refused (WrongState state))))
      → ((s : Store) → want_reader (session s at.lane) ≡ Err refusal → act_does s at.lane at.moment act ≡ Err refusal)
      → ActDoes d parts parts at act result
  unread_does parts at act refusal result stops lt e text answers is =
      refused_does parts parts at act refusal result stops refl (same_kept parts) text
      (refused_by_state (session_at parts at.lane) refusal (λ r. IsTrue (may_answer act (replies.Refused r))) answers e)
      (λ s shows. is s (reader_wanted parts s at.lane refusal shows lt e))

  pub unread_leaves : (parts : Parts D) (at : Place) (act : Act) (refusal : Refusal) (result : Result Reply Stop) → Stops result (Refused refusal)
      → reader_in (session_at parts at.lane) ≡ Err refusal → (closes act (session_at parts at.lane) ≡ true → is_reader (session_at parts at.lane) ≡ true)
      → ActLeaves d parts parts at act result
  unread_leaves parts at act refusal result stops e closing =
      refused_leaves parts parts at act refusal result stops refl (same_kept parts) (λ closes_it. no_reader (session_at parts at.lane) refusal e (closing closes_it))

  -- the lane has no writer
  pub unwritten_does : (parts : Parts D) (at : Place) (act : Act) (refusal : Refusal) (result : Result Reply Stop) → Stops result (Refused refusal) → at.lane < 64
      → want_writer (session_at parts at.lane) ≡ Err refusal → ReplyHasText (replies.Refused refusal) → ((state : SessionState) → IsTrue (may_answer act (replies.Refused (WrongState state))))
      → ((s : Store) → model.want_writer (session s at.lane) ≡ Err refusal → act_does s at.lane at.moment act ≡ Err refusal)
      → ActDoes d parts parts at act result
  unwritten_does parts at act refusal result stops lt e text answers is =
      refused_does parts parts at act refusal result stops refl (same_kept parts) text
      (unwritten_by_state (session_at parts at.lane) refusal (λ r. IsTrue (may_answer act (replies.Refused r))) answers e)
      (λ s shows. is s (writer_wanted parts s at.lane refusal shows lt e))

  pub unwritten_leaves : (parts : Parts D) (at : Place) (act : Act) (refusal : Refusal) (result : Result Reply Stop) → Stops result (Refused refusal)
      → want_writer (session_at parts at.lane) ≡ Err refusal → (closes act (session_at parts at.lane) ≡ true → is_writer (session_at parts at.lane) ≡ true)
      → ActLeaves d parts parts at act result
  unwritten_leaves parts at act refusal result stops e closing =
      refused_leaves parts parts at act refusal result stops refl (same_kept parts) (λ closes_it. no_writer (session_at parts at.lane) refusal e (closing closes_it))

  -- the lane has a session
  pub busy_does : (parts : Parts D) (at : Place) (act : Act) (refusal : Refusal) (result : Result Reply Stop) → Stops result (Refused refusal) → at.lane < 64
      → want_idle (session_at parts at.lane) ≡ Err refusal → ReplyHasText (replies.Refused refusal) → ((state : SessionState) → IsTrue (may_answer act (replies.Refused (WrongState state))))
      → ((s : Store) → model.want_idle (session s at.lane) ≡ Err refusal → act_does s at.lane at.moment act ≡ Err refusal)
      → ActDoes d parts parts at act result
  busy_does parts at act refusal result stops lt e text answers is =
      refused_does parts parts at act refusal result stops refl (same_kept parts) text
      (busy_by_state (session_at parts at.lane) refusal (λ r. IsTrue (may_answer act (replies.Refused r))) answers e)
      (λ s shows. is s (idle_wanted parts s at.lane refusal shows lt e))

  -- short of memory before the disk is called
  pub short_does : (old new : Parts D) (at : Place) (act : Act) (result : Result Reply Stop) → Stops result NoMemory → new.disk ≡ old.disk → SameKept old new → ActDoes d old new at act result
  short_does old new at act result stops same kept =
      stopped (ActDoes d old new at act) result NoMemory stops
      (reads_does old new at act (Err NoMemory) (reads_none old.disk new.disk _ same not_memory) kept tt tt tt (λ s h. tt))

  pub short_leaves : (old new : Parts D) (at : Place) (act : Act) (result : Result Reply Stop) → Stops result NoMemory → new.disk ≡ old.disk → SameKept old new
      → (closes act (session_at old at.lane) ≡ true → ⊥) → ActLeaves d old new at act result
  short_leaves old new at act result stops same kept going =
      stopped (ActLeaves d old new at act) result NoMemory stops
      (reads_leaves old new at act (Err NoMemory) ⊥ (reads_none old.disk new.disk ⊥ same (λ f. f)) kept tt (λ _. same) (λ r e t. same) (λ closing. absurd (going closing)) (λ f. absurd (not_memory f)))

  -- ---- commands that read the disk

  -- stopped by what a read of the disk gave
  if_told : (P : Reply → Type 0) (stop : Stop) → IfRefused (λ refusal. P (replies.Refused refusal)) stop → IfOk (told (Err stop)) P
  if_told P (Refused refusal) p = p
  if_told P NoMemory p = tt
  if_told P DiskFailed p = tt

  failed_by : (stop : Stop) → IsErrOf {T = Reply} (Err stop) DiskFailed → stop ≡ DiskFailed
  failed_by (Refused refusal) e = cc
  failed_by NoMemory e = cc
  failed_by DiskFailed e = refl

  given : (outcome_is : Outcome) (stop : Stop) (s : Store) → IfRefused (λ refusal. outcome_is ≡ Err refusal) stop → Gives (λ reply. (s, reply)) (Err stop) outcome_is
  given outcome_is (Refused refusal) s is = is
  given outcome_is NoMemory s is = tt
  given outcome_is DiskFailed s is = tt

  reads_by : (old new : D) (failed by : Type 0) → (by → failed) → OnlyReads d old new failed → OnlyReads d old new by
  reads_by old new failed by why reads = record {
    serves = record { kept = (reads.serves).kept; count = (reads.serves).count; cause = λ f. (reads.serves).cause (why f) };
    crash = reads.crash;
    same = reads.same;
  }

  pub stopped_on : {A : Type 0} (old new : Parts D) (at : Place) (act : Act) (read : Result A Stop) (stop : Stop) (result : Result Reply Stop) → Stops result stop → read ≡ Err stop
      → OnlyReads d old.disk new.disk (IsErrOf read DiskFailed) → SamePlain old new → KeepsFit old new
      → StopHasText stop → IfRefused (λ refusal. IsTrue (may_answer act (replies.Refused refusal))) stop
      → ((s : Store) → Holds d old s → IfRefused (λ refusal. act_does s at.lane at.moment act ≡ Err refusal) stop)
      → ActDoes d old new at act result
  stopped_on old new at act read stop result stops was reads kept fits text answers is =
      stopped (ActDoes d old new at act) result stop stops
      (reads_on old new at act (Err stop) (reads_by _ _ _ _ (λ f. was ∙ ap (λ x. Err x) (failed_by stop f)) reads) kept fits
      (if_told ReplyHasText stop text) (if_told (λ reply. IsTrue (may_answer act reply)) stop answers) tt
      (λ s h. given (act_does s at.lane at.moment act) stop s (is s h)))

  pub stopped_does : {A : Type 0} (old new : Parts D) (at : Place) (act : Act) (read : Result A Stop) (stop : Stop) (result : Result Reply Stop) → Stops result stop → read ≡ Err stop
      → OnlyReads d old.disk new.disk (IsErrOf read DiskFailed) → SameKept old new
      → StopHasText stop → IfRefused (λ refusal. IsTrue (may_answer act (replies.Refused refusal))) stop
      → ((s : Store) → Holds d old s → IfRefused (λ refusal. act_does s at.lane at.moment act ≡ Err refusal) stop)
      → ActDoes d old new at act result
  stopped_does old new at act read stop result stops was reads kept = stopped_on old new at act read stop result stops was reads (plain_of old new kept) (fits_same old new kept)

  uncalled_by : (old new : Parts D) (stop : Stop) → IfRefused (λ refusal. is_uncalled refusal ≡ true → new.disk ≡ old.disk) stop
      → (refusal : Refusal) → ◌≡◌ {A = Result Reply Stop} (Err stop) (Err (Refused refusal)) → is_uncalled refusal ≡ true → new.disk ≡ old.disk
  uncalled_by old new (Refused r) so refusal e t = so (ap is_uncalled (same r refusal e) ∙ t)
    where
      same : (r refusal : Refusal) → ◌≡◌ {A = Result Reply Stop} (Err (Refused r)) (Err (Refused refusal)) → r ≡ refusal
      same r refusal e = cc
  uncalled_by old new NoMemory so refusal e t = cc
  uncalled_by old new DiskFailed so refusal e t = cc

  -- its refusal is one that comes by a call, or the disk wasn't called
  pub stopped_leave_on : (old new : Parts D) (at : Place) (act : Act) (stop : Stop) (result : Result Reply Stop) (failed : Type 0) → Stops result stop
      → OnlyReads d old.disk new.disk failed → SamePlain old new → RowsStay old new at.lane (row_stays (Err stop) act) → reads_disk act ≡ true
      → IfRefused (λ refusal. is_uncalled refusal ≡ true → new.disk ≡ old.disk) stop
      → (closes act (session_at old at.lane) ≡ true → ⊥) → ActLeaves d old new at act result
  stopped_leave_on old new at act stop result failed stops reads kept rows called uncalled going =
      stopped (ActLeaves d old new at act) result stop stops
      (leaves_on old new at act (Err stop) failed reads kept rows tt (λ no_disk_call. absurd (disk_called act called no_disk_call)) (uncalled_by old new stop uncalled) (λ closing. absurd (going closing))
      (λ _ s. reads_pass act s at.lane (and_parts (reads_only act) (not (calls_no_disk act)) called).0))

  pub stopped_leaves : (old new : Parts D) (at : Place) (act : Act) (stop : Stop) (result : Result Reply Stop) (failed : Type 0) → Stops result stop
      → OnlyReads d old.disk new.disk failed → SameKept old new → reads_disk act ≡ true
      → IfRefused (λ refusal. is_uncalled refusal ≡ true → new.disk ≡ old.disk) stop
      → (closes act (session_at old at.lane) ≡ true → ⊥) → ActLeaves d old new at act result
  stopped_leaves old new at act stop result failed stops reads kept = stopped_leave_on old new at act stop result failed stops reads (plain_of old new kept) (rows_kept old new at.lane (row_stays (Err stop) act) kept.indexes)

  -- done, where no more has changed than what is kept of indexes
  pub read_on : (old new : Parts D) (at : Place) (act : Act) (reply : Reply) (failed : Type 0) → OnlyReads d old.disk new.disk failed → SamePlain old new → KeepsFit old new
      → ReplyHasText reply → IsTrue (may_answer act reply) → IsNoRefusal reply → ((s : Store) → Holds d old s → act_does s at.lane at.moment act ≡ Ok (s, reply))
      → ActDoes d old new at act (Ok reply)
  read_on old new at act reply failed reads kept fits text answers plain is =
      reads_on old new at act (Ok reply) (reads_by _ _ _ _ (λ e. absurd (not_done reply e)) reads) kept fits text answers plain is

  pub read_leave_on : (old new : Parts D) (at : Place) (act : Act) (reply : Reply) (failed : Type 0) → OnlyReads d old.disk new.disk failed → SamePlain old new → LeavesRows old new at.lane act
      → DoneIdly old at act reply → (calls_no_disk act ≡ true → new.disk ≡ old.disk) → ActLeaves d old new at act (Ok reply)
  read_leave_on old new at act reply failed reads kept rows idly no_disk_call =
      leaves_on old new at act (Ok reply) failed reads kept rows idly no_disk_call (λ r e t. cc)
      (λ closing. absurd (false_true (sym idly.goes_on ∙ closes_ends act (session_at old at.lane) closing))) (λ f. absurd (not_done reply f))

  -- done, where nothing has changed
  pub read_does : (old new : Parts D) (at : Place) (act : Act) (reply : Reply) (failed : Type 0) → OnlyReads d old.disk new.disk failed → SameKept old new
      → ReplyHasText reply → IsTrue (may_answer act reply) → IsNoRefusal reply → ((s : Store) → Holds d old s → act_does s at.lane at.moment act ≡ Ok (s, reply))
      → ActDoes d old new at act (Ok reply)
  read_does old new at act reply failed reads kept = read_on old new at act reply failed reads (plain_of old new kept) (fits_same old new kept)

  pub read_leaves : (old new : Parts D) (at : Place) (act : Act) (reply : Reply) (failed : Type 0) → OnlyReads d old.disk new.disk failed → SameKept old new
      → DoneIdly old at act reply → (calls_no_disk act ≡ true → new.disk ≡ old.disk) → ActLeaves d old new at act (Ok reply)
  read_leaves old new at act reply failed reads kept = read_leave_on old new at act reply failed reads (plain_of old new kept) (rows_same old new.indexes.items at.lane act kept.indexes)

  -- ---- done without a call of the disk, where parts have changed

  none_serves : (old new : D) (failed : Type 0) → new ≡ old → (failed → ⊥) → Serves d.honest d.faults old new failed
  none_serves old new failed same never = (reads_none old new failed same never).serves

  pub changed_does : (old new : Parts D) (at : Place) (act : Act) (reply : Reply) → new.disk ≡ old.disk → ReplyHasText reply → IsTrue (may_answer act reply) → IsNoRefusal reply
      → ((s : Store) → Holds d old s → (after_it : Store) × (act_does s at.lane at.moment act ≡ Ok (after_it, reply)) × Shows new after_it × IsOnDisk (d.content old.disk) after_it)
      → ActDoes d old new at act (Ok reply)
  changed_does old new at act reply same text answers plain is = record {
    serves = none_serves old.disk new.disk _ same (not_done reply);
    text = text;
    answers = answers;
    plain = plain;
    step = λ _ remote w s h.
        let (after_it, e, shows, files) = is s h in
        told_step new at act s after_it reply (Ok (after_it, reply)) e refl
        (record { honest = subst d.honest (sym same) h.honest; shows = shows; files = subst (λ x. IsOnDisk (d.content x) after_it) (sym same) files }) remote w;
  }

  pub changed_leaves : (old new : Parts D) (at : Place) (act : Act) (reply : Reply) → new.disk ≡ old.disk → IsNoRefusal reply → change_at old at.lane act ≡ stays
      → new.catalogue.listed ≡ listed_by act (Some reply) at.number (kept_at old at.lane)
      → is_still act ≡ false → (ends_session act ≡ true → HasEnded new at.lane) → (leaves_writer act ≡ true → is_writer (session_at new at.lane) ≡ true) → LeavesRows old new at.lane act
      → OthersStay old new at.lane → ActLeaves d old new at act (Ok reply)
  changed_leaves old new at act reply same plain change listed other ended writes rows others =
      let none = reads_none old.disk new.disk ⊥ same (λ f. f) in record {
        unchanged = done_unchanged old new reply plain;
        no_disk_call = λ _. same;
        reads = λ _. none.same;
        content = same_after old.disk new.disk (change_at old at.lane act) (Ok reply) change none.same;
        crash = same_leaves old.disk new.disk _ none.crash;
        firm = stays_firm old.disk new.disk (change_at old at.lane act) change;
        listed = listed;
        admin = not_still act other;
        adds = adds_same d old new act (told (Ok reply)) none.same;
        passed_its_tests = λ f. absurd (not_done reply f);
        closed = λ closing. (ended (closes_ends act (session_at old at.lane) closing)).session;
        ended = ended;
        writes = writes;
        others = others;
        rows = rows;
      }

  -- ---- commands that write the disk

  -- Done. The act is the plain store's where no other piece's chunk stands where it puts one.
  pub writes_does : (old new : Parts D) (at : Place) (act : Act) (reply : Reply) (failed : Type 0) → Serves d.honest d.faults old.disk new.disk failed
      → ReplyHasText reply → IsTrue (may_answer act reply) → IsNoRefusal reply
      → (IsSafe (d.content old.disk) act → (s : Store) → Holds d old s → (after_it : Store) × (act_does s at.lane at.moment act ≡ Ok (after_it, reply)) × Shows new after_it × IsOnDisk (d.content new.disk) after_it)
      → ActDoes d old new at act (Ok reply)
  writes_does old new at act reply failed serves text answers plain is = record {
    serves = record { kept = serves.kept; count = serves.count; cause = λ e. absurd (not_done reply e) };
    text = text;
    answers = answers;
    plain = plain;
    step = λ safe remote w s h.
        let (after_it, e, shows, files) = is safe s h in
        told_step new at act s after_it reply (Ok (after_it, reply)) e refl (record { honest = serves.kept.0 h.honest; shows = shows; files = files }) remote w;
  }

  pub writes_leaves : (old new : Parts D) (at : Place) (act : Act) (reply : Reply) → IsNoRefusal reply → calls_no_disk act ≡ false
      → (d.honest old.disk → d.content new.disk ≡ after (change_at old at.lane act) (d.content old.disk))
      → LeavesChange d old.disk new.disk (change_at old at.lane act) → IsFirm d old.disk new.disk (change_at old at.lane act)
      → new.catalogue.listed ≡ listed_by act (Some reply) at.number (kept_at old at.lane)
      → (is_still act ≡ true → (new.sessions.items ≡ old.sessions.items) × (new.locks ≡ old.locks))
      → Adds d old new act (Ok reply) → (ends_session act ≡ true → HasEnded new at.lane) → (leaves_writer act ≡ true → is_writer (session_at new at.lane) ≡ true) → LeavesRows old new at.lane act
      → OthersStay old new at.lane → ActLeaves d old new at act (Ok reply)
  writes_leaves old new at act reply plain called content crash firm listed admin adds ended writes rows others = record {
    unchanged = done_unchanged old new reply plain;
    no_disk_call = λ no_disk_call. absurd (false_true (sym called ∙ no_disk_call));
    reads = λ only h. content h ∙ ap (λ change. after change (d.content old.disk)) (reads_stay act (kept_at old at.lane) only);
    content = λ _. content;
    crash = crash;
    firm = firm;
    listed = listed;
    admin = admin;
    adds = adds;
    passed_its_tests = λ f. absurd (not_done reply f);
    closed = λ closing. (ended (closes_ends act (session_at old at.lane) closing)).session;
    ended = ended;
    writes = writes;
    others = others;
    rows = rows;
  }

  -- The write of the disk failed, or was short of memory.
  failed_serves : {A : Type 0} (old new : D) (done : Result A DiskError) (e : DiskError) → done ≡ Err e → Serves d.honest d.faults old new (IsErrOf done disks.Failed)
      → Serves d.honest d.faults old new (IsErrOf {T = Reply} (Err (stop_of e)) DiskFailed)
  failed_serves old new done disks.NoMemory was serves = record { kept = serves.kept; count = serves.count; cause = λ f. absurd (not_memory f) }
  failed_serves old new done disks.Failed was serves = record { kept = serves.kept; count = serves.count; cause = λ _. serves.cause was }

  failed_step : {A : Type 0} (old new : Parts D) (at : Place) (act : Act) (done : Result A DiskError) (e : DiskError) → done ≡ Err e
      → (d.honest old.disk ↔ d.honest new.disk) → (IsErrOf done disks.NoMemory → SameContent d old.disk new.disk) → SameKept old new
      → (remote : Option (List Snapshot)) (w : World) → Acts d old new (λ s. act_outcome remote (record w { store = s }) at.lane at.moment act) (told (Err (stop_of e)))
  failed_step old new at act done disks.NoMemory was kept same k remote w s h = holds_same d old new s kept (same was) k h
  failed_step old new at act done disks.Failed was kept same k remote w s h = (kept.0 h.honest, shows_same old new s k h.shows)

  none_told : (P : Reply → Type 0) (e : DiskError) → IfOk (told (Err (stop_of e))) P
  none_told P disks.NoMemory = tt
  none_told P disks.Failed = tt

  pub failed_does : {A : Type 0} (old new : Parts D) (at : Place) (act : Act) (done : Result A DiskError) (e : DiskError) (result : Result Reply Stop) → Stops result (stop_of e) → done ≡ Err e
      → Serves d.honest d.faults old.disk new.disk (IsErrOf done disks.Failed) → (IsErrOf done disks.NoMemory → SameContent d old.disk new.disk) → SameKept old new
      → ActDoes d old new at act result
  failed_does old new at act done e result stops was serves same kept =
      stopped (ActDoes d old new at act) result (stop_of e) stops (record {
        serves = failed_serves old.disk new.disk done e was serves;
        text = none_told ReplyHasText e;
        answers = none_told (λ reply. IsTrue (may_answer act reply)) e;
        plain = tt;
        step = λ _. failed_step old new at act done e was serves.kept same kept;
      })

  pub failed_leaves : {A : Type 0} (old new : Parts D) (at : Place) (act : Act) (done : Result A DiskError) (e : DiskError) (result : Result Reply Stop) → Stops result (stop_of e) → done ≡ Err e
      → (IsErrOf done disks.NoMemory → SameContent d old.disk new.disk) → (IsErrOf done disks.NoMemory → LeavesSame d old.disk new.disk)
      → LeavesChange d old.disk new.disk (change_at old at.lane act) → SameKept old new → reads_only act ≡ false
      → (IsErrOf done disks.NoMemory → closes act (session_at old at.lane) ≡ true → ⊥) → ((s : Store) → Holds d old s → PassesItsTests act s at.lane)
      → ActLeaves d old new at act result
  failed_leaves old new at act done e result stops was same unmoved crash kept called going passed_its_tests =
      stopped (ActLeaves d old new at act) result (stop_of e) stops (by_error e was)
    where
      no_disk_call : calls_no_disk act ≡ true → new.disk ≡ old.disk
      no_disk_call q = absurd (false_true (sym called ∙ no_disk_reads act q))

      reads : reads_only act ≡ true → SameContent d old.disk new.disk
      reads only = absurd (false_true (sym called ∙ only))

      by_error : (e : DiskError) → done ≡ Err e → ActLeaves d old new at act (Err (stop_of e))
      by_error disks.NoMemory was = record {
        unchanged = leaves_all old new (Err NoMemory) tt (plain_of old new kept) (λ r e t. cc) (λ _. same was);
        no_disk_call = no_disk_call;
        reads = reads;
        content = λ _. same was;
        crash = unmoved was;
        firm = tt;
        listed = kept.catalogue ∙ sym (unlisted_by act NoMemory at.number (kept_at old at.lane));
        admin = λ _. (kept.sessions, kept.locks);
        adds = adds_same d old new act (told (Err NoMemory)) (same was);
        passed_its_tests = λ f. absurd (not_memory f);
        closed = λ closing. absurd (going was closing);
        ended = λ _. tt;
        writes = λ _. tt;
        others = others_same old new at.lane kept.sessions;
        rows = rows_kept old new at.lane true kept.indexes;
      }
      by_error disks.Failed was = record {
        unchanged = leaves_all old new (Err DiskFailed) tt (plain_of old new kept) (λ r e t. cc) (λ fine. absurd (fine refl));
        no_disk_call = no_disk_call;
        reads = reads;
        content = λ fine. absurd (fine refl);
        crash = crash;
        firm = tt;
        listed = kept.catalogue ∙ sym (unlisted_by act DiskFailed at.number (kept_at old at.lane));
        admin = λ _. (kept.sessions, kept.locks);
        adds = λ s h. tt;
        passed_its_tests = λ _. passed_its_tests;
        closed = λ closing. tt;
        ended = λ _. tt;
        writes = λ _. tt;
        others = others_same old new at.lane kept.sessions;
        rows = rows_kept old new at.lane true kept.indexes;
      }
