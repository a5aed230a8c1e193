-- An act changes what stands at files of snapshots and at a chunk's name, and at no name that is none of the store's.
use Rattle.std.proofs.Common.{◌≡◌, ◌≢◌, ◌<◌, ℕ, suc, Bool, true, false, if◌then◌else◌, cond, List, [], ◌∷◌, ◌++◌, get_or, Option, Some, None, IfSome, Result, Ok, Err, IsTrue, is_some, ⊎_elim, refl, sym, ap, subst, ◌∙◌, arith}
use Rattle.std.specs.Prelude.{◌==◌, codes}
use Rattle.std.specs.List.{All, Contains, cons_option, find}
use Rattle.std.specs.Str.{bytes_eq}
use Rattle.std.specs.FinMap.{get}
use Rattle.std.proofs.lemmas.List.Elements.{All-cons, All-map}
use Rattle.disk_trait.specs.Files.{Files}
use Rattle.disk_trait.specs.declared.disk.Disk.{Ghosts}
use Rattle.file_install.specs.Install.{installed, temporary}
use Rattle.file_install.proofs.InstallLaws.{installed_other}
use Rattle.store_types.specs.FileNames.{manifest_name}
use Rattle.store_types.specs.declared.names.SnapshotKey.{SnapshotKey}
use Rattle.store_types.specs.declared.refusal.Refusal.{Refusal}
use Rattle.store_types.specs.declared.refusal.Refusal.TheVariants as refusals
use Rattle.store_types.specs.declared.order.TheConstants.{FAULT_KIND}
use Rattle.store_files.specs.Archive.{File}
use Rattle.store_files.specs.Folder.{chunk_name, file_path}
use Rattle.snapshot_files.proofs.Losing.{without_others}
use Rattle.wire_commands.specs.declared.command.Command.{Command}
use Rattle.wire_commands.specs.declared.command.Command.TheVariants as commands
use Rattle.wire_commands.specs.declared.reply.Reply.{Reply}
use Rattle.wire_commands.specs.declared.reply.Reply.TheVariants as replies
use Rattle.store_model.specs.Store as model
use Rattle.store_model.specs.Store.{Store, session}
use Rattle.store_model.specs.Weave.{first_fault}
use Rattle.store_history.specs.declared.act.Act.{Act}
use Rattle.store_history.specs.declared.act.Act.TheVariants as acts
use Rattle.store_history.specs.declared.act.Answer.{Answer}
use Rattle.store_history.specs.Acts.{sent_chunk}
use Rattle.store_history.specs.Saved.{book_name}
use Rattle.backup_session.specs.Session.{Open}
use Rattle.backup_session.specs.Steps.{begun_at}
use Rattle.core_state.specs.declared.kept.Kept.{Kept}
use Rattle.core_state.specs.declared.kept.Session.{Session}
use Rattle.core_state.specs.declared.kept.Session.TheVariants.{Idle, Writer, Reader}
use Rattle.core_state.specs.declared.kept.StoredFile.{StoredFile}
use Rattle.core_state.specs.declared.kept.Writing.{Writing}
use Rattle.core_state.specs.declared.state.Core.{Core}
use Rattle.core_state.specs.Answers.{HasCause, EndHasCause, ReachHasCause, StartHasCause, StepHasCause, IsCaused, done, short, failed, halted, ended, end_failed, reach_reads, reach_failed, reach_as_any, start_opens, start_as_any, step_passes, step_ends, step_as_any}
use Rattle.store_history.specs.Answered.{fault_after}
use Rattle.core_state.specs.Applies.{ActKeeps}
use Rattle.core_state.specs.Changes.{Change, stays, undone, installs, stores, drops, finishes, forgets, after, by_reply, by_writer, change_of, chunk_put, blob_put, index_put, finish_by, finish_put, manifest_by, put_paths, names_beside, forgotten}
use Rattle.core_state.specs.Commands.{change_at, is_step}
use Rattle.store_history.specs.Foreign.{IsForeign, KeepsForeign}
use Rattle.core_state.specs.Holds.{Shows}
use Rattle.core_state.specs.Kept.{KeptAt, kept_at}
use Rattle.core_state.specs.Passes.{MayChange, StepLeaves}
use Rattle.store_history.specs.Replies.{command_answers, may_answer, may_end, may_give}
use Rattle.core_state.specs.Shown.{shown_file, shown_files, shown_session}
use Rattle.core_state.specs.Wanted.{session_at}
use Rattle.core_state.proofs.AnyPaths.{temporary_in}
use Rattle.core_state.proofs.Commanding.{session_shown}

-- ---- names apart from an act's

-- neither the path nor its temporary name
abbrev pub Misses : List ℕ → List ℕ → Type 0
Misses q p = (q ≢ p) × (q ≢ temporary p)

-- no path below a snapshot's folder
abbrev pub IsNoFile : List ℕ → Type 0
IsNoFile q = (key : SnapshotKey) (name : List ℕ) → q ≢ file_path key name

-- a temporary name of such a path is one too
misses_file : (q : List ℕ) → IsNoFile q → (key : SnapshotKey) (name : List ℕ) → Misses q (file_path key name)
misses_file q none key name = (none key name, λ e. none key (name ++ codes ".tmp") (e ∙ temporary_in key name))

-- nor the name under which the act puts a chunk
abbrev pub MissesChunk : List ℕ → Act → Type 0
MissesChunk q act = IfSome (sent_chunk act) (λ c. Misses q (chunk_name (c.0).0))

-- each path of a change is another
abbrev MissesAll : List ℕ → Change → Type 0
MissesAll q stays = Unit {0}
MissesAll q undone = Unit {0}
MissesAll q (installs path bytes) = Misses q path
MissesAll q (stores name bytes) = Misses q name
MissesAll q (drops paths) = All (Misses q) paths
MissesAll q (finishes path bytes) = Misses q path
MissesAll q (forgets manifest paths) = Misses q manifest × All (Misses q) paths

in_all : {A : Type 0} (P : A → Type 0) (xs : List A) (x : A) → All P xs → Contains xs x → P x
in_all P xs x all has = subst P has.2 (all has.0 x has.1)

other_store : (b : Bool) (m : Files) (name bytes q : List ℕ) → q ≢ name → q ≢ temporary name → get (if b then m else installed m name bytes) q ≡ get m q
other_store true m name bytes q ne nt = refl
other_store false m name bytes q ne nt = installed_other m name bytes q ne nt

in_cons : {A : Type 0} (P : A → Type 0) (x : A) (xs : List A) (y : A) → P x → All P xs → Contains (x ∷ xs) y → P y
in_cons P x xs y px all has = in_all P (x ∷ xs) y (All-cons P x xs px all) has

-- what stands at a name stays over such a change
missed_after : (change : Change) (m : Files) (q : List ℕ) → MissesAll q change → get (after change m) q ≡ get m q
missed_after stays m q miss = refl
missed_after undone m q miss = refl
missed_after (installs path bytes) m q miss = installed_other m path bytes q miss.0 miss.1
missed_after (stores name bytes) m q miss = other_store (is_some (get m name)) m name bytes q miss.0 miss.1
missed_after (drops paths) m q miss = without_others paths m q (λ has. (in_all (Misses q) paths q miss has).0 refl)
missed_after (finishes path bytes) m q miss = installed_other m path bytes q miss.0 miss.1
missed_after (forgets manifest paths) m q miss = without_others (manifest ∷ paths) m q (λ has. (in_cons (Misses q) manifest paths q miss.0 miss.1 has).0 refl)

-- ---- the paths of an act's change

missed_paths : (q : List ℕ) (files : List StoredFile) → All (λ (f : StoredFile). Misses q f.path) files → All (Misses q) (put_paths files)
missed_paths q [] all = λ k d lt. absurd (none k lt)
  where
    none : (k : ℕ) → k < 0 → ⊥
    none k lt = omega (arith, lt)
missed_paths q (f ∷ fs) all = missed_more (bytes_eq f.name manifest_name) (put_paths fs) (all 0 f (omega arith)) (missed_paths q fs (λ k x lt. all (suc k) x (omega (arith, lt))))
  where
    missed_more : (b : Bool) (rest : List (List ℕ)) → Misses q f.path → All (Misses q) rest → All (Misses q) (cons_option (if b then None else Some f.path) rest)
    missed_more true rest miss all = all
    missed_more false rest miss all = All-cons (Misses q) f.path rest miss all

missed_first : (q : List ℕ) (b : Bool) (f : StoredFile) (rest : Option StoredFile) → Misses q f.path → IfSome rest (λ x. Misses q x.path) → IfSome (cond b (Some f) rest) (λ x. Misses q x.path)
missed_first q true f rest here later = here
missed_first q false f rest here later = later

missed_found : (q : List ℕ) (p : StoredFile → Bool) (files : List StoredFile) → All (λ (f : StoredFile). Misses q f.path) files → IfSome (find p files) (λ f. Misses q f.path)
missed_found q p [] all = tt
missed_found q p (f ∷ fs) all = missed_first q (p f) f (find p fs) (all 0 f (omega arith)) (missed_found q p fs (λ k x lt. all (suc k) x (omega (arith, lt))))

missed_finish : (q : List ℕ) (text : Option (List ℕ)) (f : Option StoredFile) → IfSome f (λ x. Misses q x.path) → MissesAll q (finish_put (manifest_by text f))
missed_finish q (Some t) (Some f) miss = miss
missed_finish q (Some t) None miss = tt
missed_finish q None (Some f) miss = tt
missed_finish q None None miss = tt

-- the session's writer has its files elsewhere
abbrev MissesFiles : List ℕ → Session → Type 0
MissesFiles q Idle = Unit {0}
MissesFiles q (Writer w) = All (λ (f : StoredFile). Misses q f.path) w.files
MissesFiles q (Reader r) = Unit {0}

missed_finished : (q : List ℕ) (session : Session) → MissesFiles q session → MissesAll q (finish_by session)
missed_finished q Idle has = tt
missed_finished q (Writer w) has = missed_finish q ((w.session).writer).manifest _ (missed_found q (λ f. bytes_eq f.name manifest_name) w.files has)
missed_finished q (Reader r) has = tt

missed_writer : (q : List ℕ) (session : Session) (change : Writing → Change) → MissesFiles q session → ((w : Writing) → All (λ (f : StoredFile). Misses q f.path) w.files → MissesAll q (change w))
    → MissesAll q (by_writer session change)
missed_writer q Idle change has miss = tt
missed_writer q (Writer w) change has miss = miss w has
missed_writer q (Reader r) change has miss = tt

missed_stored : (q : List ℕ) (digest : Rattle.store_types.specs.declared.names.Digest32.Digest32) (checked : Result (List ℕ) Refusal) → Misses q (chunk_name digest.0) → MissesAll q (chunk_put digest checked)
missed_stored q digest (Ok bytes) miss = miss
missed_stored q digest (Err refusal) miss = tt

missed_reply : (q : List ℕ) (change : Change) (reply : Option Reply) → MissesAll q change → MissesAll q (by_reply change reply)
missed_reply q change None miss = miss
missed_reply q change (Some (replies.Refused refusal)) miss = missed_refused refusal
  where
    missed_refused : (refusal : Refusal) → MissesAll q (by_reply change (Some (replies.Refused refusal)))
    missed_refused refusals.DiskFault = miss
    missed_refused r = tt
missed_reply q change (Some reply) miss = miss

module _ (q : List ℕ) (none : IsNoFile q) where
  missed_put : (b : Bool) (key : SnapshotKey) (name bytes : List ℕ) → MissesAll q (if b then stays else installs (file_path key name) bytes)
  missed_put true key name bytes = tt
  missed_put false key name bytes = misses_file q none key name

  missed_files : (key : SnapshotKey) (fs : List File) → All (λ (f : StoredFile). Misses q f.path) (shown_files key fs)
  missed_files key fs = All-map (λ (f : StoredFile). Misses q f.path) (shown_file key) fs (λ k f lt. misses_file q none key (get_or fs k f).name)

  missed_index : (b : Option Open) (w : Writing) → MissesAll q (index_put b w)
  missed_index (Some b) w = missed_put (bytes_eq b.name manifest_name) ((w.session).writer).key b.name _
  missed_index None w = tt

  missed_blob : (name : List ℕ) (checked : Result (List ℕ) Refusal) (w : Writing) → MissesAll q (blob_put name checked w)
  missed_blob name (Ok bytes) w = missed_put (bytes_eq name manifest_name) ((w.session).writer).key name bytes
  missed_blob name (Err refusal) w = tt

  missed_forgotten : (k : Option Kept) → MissesAll q (forgotten k)
  missed_forgotten None = tt
  missed_forgotten (Some k) =
      (misses_file q none k.key manifest_name, All-map (Misses q) (file_path k.key) (names_beside k.files) (λ n name lt. misses_file q none k.key (get_or (names_beside k.files) n name)))

  missed_change : (act : Act) (k : KeptAt) → MissesChunk q act → MissesFiles q k.session → MissesAll q (change_of act k)
  missed_change (acts.Blob name checked) k chunk has = missed_writer q k.session _ has (λ w all. missed_blob name checked w)
  missed_change (acts.Chunk digest checked) k chunk has = missed_writer q k.session _ has (λ w all. missed_stored q digest checked chunk)
  missed_change acts.End k chunk has = missed_writer q k.session _ has (λ w all. missed_paths q w.files all)
  missed_change (acts.Plain c) k chunk has = missed_command c
    where
      missed_command : (c : Command) → MissesAll q (change_of (acts.Plain c) k)
      missed_command (commands.CloseIndex number count size csum) = missed_writer q k.session _ has (λ w all. missed_index (begun_at number (w.session).writer) w)
      missed_command commands.Finish = missed_finished q k.session has
      missed_command commands.Abort = missed_writer q k.session _ has (λ w all. missed_paths q w.files all)
      missed_command (commands.Forget snapshot) = missed_forgotten _
      missed_command c = tt
  missed_change act k chunk has = tt

  missed_shown : (x : model.Session) (snapshots : List Rattle.store_files.specs.Archive.Snapshot) → MissesFiles q (shown_session snapshots x)
  missed_shown model.none snapshots = tt
  missed_shown (model.writer w) snapshots = missed_files w.key w.files
  missed_shown (model.reader r) snapshots = tt

-- ---- an act that left no fault

-- a fault is told by no command's tests
not_command : (c : Command) → command_answers c (replies.Refused refusals.DiskFault) ≡ false
not_command commands.Bye = refl
not_command c = refl

not_job : (c : Command) → may_answer (acts.JobGroup c) (replies.Refused refusals.DiskFault) ≡ false
not_job (commands.Prune group keep dry) = refl
not_job c = refl

not_told : (act : Act) → may_answer act (replies.Refused refusals.DiskFault) ≡ false
not_told (acts.Plain c) = not_command c
not_told (acts.JobGroup c) = not_job c
not_told act = refl

true_false : (b : Bool) → IsTrue b → b ≡ false → ⊥
true_false true t e = cc
true_false false t e = cc

-- no command's tests tell a fault
pub never_told : (act : Act) → IsTrue (may_answer act (replies.Refused refusals.DiskFault)) → ⊥
never_told act may = true_false _ may (not_told act)

same_some : (a b : Reply) → Some a ≡ Some b → a ≡ b
same_some a b e = cc

short_fault : Some (replies.Refused refusals.NoMemory) ≡ Some (replies.Refused refusals.DiskFault) → ⊥
short_fault e = cc

halted_fault : (place : ℕ) → Some (replies.Refused (refusals.Halted place)) ≡ Some (replies.Refused refusals.DiskFault) → ⊥
halted_fault place e = cc

none_fault : None ≡ Some (replies.Refused refusals.DiskFault) → ⊥
none_fault e = cc

some_none : (n : ℕ) → Some n ≡ None → ⊥
some_none n e = cc

not_caused : {D E C : Type 0} (d : Ghosts D) (old new : Core D E C) (act : Act) (answer : Answer) → HasCause d old new act answer → new.fault ≡ None → answer.reply ≡ Some (replies.Refused refusals.DiskFault) → ⊥
not_caused d old new act answer (done before zero reply told may) none is =
    never_told act (subst (λ r. IsTrue (may_answer act r)) (same_some reply (replies.Refused refusals.DiskFault) (sym told ∙ is)) may)
not_caused d old new act answer (short kind told) none is = short_fault (sym told ∙ is)
not_caused d old new act answer (failed before kind told fault rose) none is = some_none answer.place (sym fault ∙ none)
not_caused d old new act answer (halted place before kind told) none is = halted_fault place (sym told ∙ is)

not_ended : {D E C : Type 0} (d : Ghosts D) (old new : Core D E C) (answer : Answer) → EndHasCause d old new answer → new.fault ≡ None → answer.reply ≡ Some (replies.Refused refusals.DiskFault) → ⊥
not_ended d old new answer (ended kind told) none is = none_fault (sym told ∙ is)
not_ended d old new answer (end_failed before kind told fault rose) none is = some_none answer.place (sym fault ∙ none)

no_fault_ends : (reply : Reply) → IsTrue (may_end reply) → reply ≡ replies.Refused refusals.DiskFault → ⊥
no_fault_ends reply may is = true_false (may_end reply) may (ap may_end is)

not_started : {D E C : Type 0} (d : Ghosts D) (old new : Core D E C) (act : Act) (answer : Answer) → StartHasCause d old new act answer → new.fault ≡ None → answer.reply ≡ Some (replies.Refused refusals.DiskFault) → ⊥
not_started d old new act answer (start_opens before kind told) none is = none_fault (sym told ∙ is)
not_started d old new act answer (start_as_any cause) none is = not_caused d old new act answer cause none is

remote_fault : Some (replies.Refused refusals.RemoteFault) ≡ Some (replies.Refused refusals.DiskFault) → ⊥
remote_fault e = cc

never_given : (act : Act) → IsTrue (may_give act (replies.Refused refusals.DiskFault)) → ⊥
never_given (acts.RemoteList command) may = cc
never_given (acts.RemoteFile snapshot name offset) may = cc
never_given (acts.RemoteChunk digest) may = cc
never_given act may = cc

not_reached : {D E C : Type 0} (d : Ghosts D) (old new : Core D E C) (act : Act) (answer : Answer) → ReachHasCause d old new act answer → new.fault ≡ None → answer.reply ≡ Some (replies.Refused refusals.DiskFault) → ⊥
not_reached d old new act answer (reach_reads before one reply told may) none is =
    never_given act (subst (λ r. IsTrue (may_give act r)) (same_some reply (replies.Refused refusals.DiskFault) (sym told ∙ is)) may)
not_reached d old new act answer (reach_failed before seven told) none is = remote_fault (sym told ∙ is)
not_reached d old new act answer (reach_as_any cause) none is = not_caused d old new act answer cause none is

not_stepped : {D E C : Type 0} (d : Ghosts D) (old new : Core D E C) (act : Act) (answer : Answer) → StepHasCause d old new act answer → new.fault ≡ None → answer.reply ≡ Some (replies.Refused refusals.DiskFault) → ⊥
not_stepped d old new act answer (step_passes before kind told) none is = none_fault (sym told ∙ is)
not_stepped d old new act answer (step_ends before kind reply told may) none is = no_fault_ends reply may (same_some reply (replies.Refused refusals.DiskFault) (sym told ∙ is))
not_stepped d old new act answer (step_as_any cause) none is = not_caused d old new act answer cause none is

pub not_faulted : {D E C : Type 0} (d : Ghosts D) (old new : Core D E C) (act : Act) (answer : Answer) → IsCaused d old new act answer → new.fault ≡ None → answer.reply ≡ Some (replies.Refused refusals.DiskFault) → ⊥
not_faulted d old new (acts.RemoteList command) answer cause = not_reached d old new (acts.RemoteList command) answer cause
not_faulted d old new (acts.RemoteFile snapshot name offset) answer cause = not_reached d old new (acts.RemoteFile snapshot name offset) answer cause
not_faulted d old new (acts.RemoteChunk digest) answer cause = not_reached d old new (acts.RemoteChunk digest) answer cause
not_faulted d old new acts.Start answer cause = not_started d old new acts.Start answer cause
not_faulted d old new acts.Step answer cause = not_stepped d old new acts.Step answer cause
not_faulted d old new acts.Short answer cause = λ none is. short_fault (sym cause.1 ∙ is)
not_faulted d old new acts.End answer cause = not_ended d old new answer cause
not_faulted d old new act answer cause = not_caused d old new act answer cause

-- a fault stays
pub no_fault_before : (place kind : ℕ) (before : Option ℕ) → fault_after place kind before ≡ None → before ≡ None
no_fault_before place kind None e = refl
no_fault_before place kind (Some first) e = absurd (by_test (kind == FAULT_KIND) e)
  where
    by_test : (b : Bool) → (if b then first_fault place (Some first) else Some first) ≡ None → ⊥
    by_test true e = cc
    by_test false e = cc

-- ---- one act

-- what stands at a name that is no file's stays, but for the chunk that the act puts
pub others_kept : {D E C : Type 0} (d : Ghosts D) (old new : Core D E C) (s : Store) (lane place : ℕ) (act : Act) (answer : Answer) → lane < 64 → Shows old.parts s → d.honest (old.parts).disk
    → new.fault ≡ fault_after place (answer.entry).kind old.fault → IsCaused d old new act answer → ActKeeps d old new lane act answer → is_step act ≡ false → new.fault ≡ None
    → (q : List ℕ) → IsNoFile q → MissesChunk q act → get (d.content (new.parts).disk) q ≡ get (d.content (old.parts).disk) q
others_kept d old new s lane place act answer lt shows honest fault cause keeps no_step none q no_file chunk =
    let before = no_fault_before place (answer.entry).kind old.fault (sym fault ∙ none) in
    let has : MissesFiles q (session_at old.parts lane) = subst (MissesFiles q) (sym (session_shown old.parts s lane shows lt)) (missed_shown q no_file (session s lane) s.snapshots) in
    let miss = missed_reply q (change_at old.parts lane act) answer.reply (missed_change q no_file act (kept_at old.parts lane) chunk has) in
    ap (λ m. get m q) (keeps.content no_step before (not_faulted d old new act answer cause none) honest)
    ∙ missed_after (by_reply (change_at old.parts lane act) answer.reply) (d.content (old.parts).disk) q miss

foreign_chunk : (q : List ℕ) (act : Act) → IsForeign q → MissesChunk q act
foreign_chunk q (acts.Chunk digest checked) foreign = (foreign.chunk digest.0, foreign.lasting (chunk_name digest.0))
foreign_chunk q act foreign = tt

-- a mark or a visit changes a chunk's name at most, and the end of a collector the book's
one_missed : (q p : List ℕ) → Misses q p → All (Misses q) (p ∷ [])
one_missed q p miss = All-cons (Misses q) p [] miss (λ k d lt. absurd (none k lt))
  where
    none : (k : ℕ) → k < 0 → ⊥
    none k lt = omega (arith, lt)

stepped_missed : {D E C : Type 0} (old : Core D E C) (lane moment kind : ℕ) (change : Change) (q : List ℕ) → MayChange old lane moment kind change
    → ((digest : List ℕ) → Misses q (chunk_name digest)) → Misses q book_name → MissesAll q change
stepped_missed old lane moment kind change q may chunk book = ⊎_elim {C = MissesAll q change}
    (λ (none : change ≡ stays). subst (MissesAll q) (sym none) tt)
    (λ some. ⊎_elim {C = MissesAll q change}
    (λ one. subst (MissesAll q) (sym (one.1).change_is) (one_missed q (chunk_name ((one.1).digest).0) (chunk ((one.1).digest).0)))
    (λ saved. subst (MissesAll q) (sym saved.1) book)
    some)
    may

pub stepped_kept : {D E C : Type 0} (d : Ghosts D) (old new : Core D E C) (lane : ℕ) (act : Act) (answer : Answer) → d.honest (old.parts).disk
    → IsCaused d old new act answer → StepLeaves d old new lane answer → new.fault ≡ None
    → (q : List ℕ) → ((digest : List ℕ) → Misses q (chunk_name digest)) → Misses q book_name → get (d.content (new.parts).disk) q ≡ get (d.content (old.parts).disk) q
stepped_kept d old new lane act answer honest cause leaves none q chunk book =
    ap (λ m. get m q) (leaves.content (not_faulted d old new act answer cause none) honest)
    ∙ missed_after leaves.change (d.content (old.parts).disk) q (stepped_missed old lane (answer.entry).moment (answer.entry).kind leaves.change q leaves.may_change chunk book)

pub foreign_kept : {D E C : Type 0} (d : Ghosts D) (old new : Core D E C) (s : Store) (lane place : ℕ) (act : Act) (answer : Answer) → lane < 64 → Shows old.parts s → d.honest (old.parts).disk
    → new.fault ≡ fault_after place (answer.entry).kind old.fault → IsCaused d old new act answer → ActKeeps d old new lane act answer → new.fault ≡ None
    → KeepsForeign d (old.parts).disk (new.parts).disk
foreign_kept d old new s lane place act answer lt shows honest fault cause keeps none q foreign = by_test (is_step act) refl
  where
    by_test : (b : Bool) → is_step act ≡ b → get (d.content (new.parts).disk) q ≡ get (d.content (old.parts).disk) q
    by_test true is =
        stepped_kept d old new lane act answer honest cause (keeps.stepped is) none q
        (λ digest. (foreign.chunk digest, foreign.lasting (chunk_name digest))) (foreign.book, foreign.lasting book_name)
    by_test false is =
        others_kept d old new s lane place act answer lt shows honest fault cause keeps is none q foreign.file (foreign_chunk q act foreign)
