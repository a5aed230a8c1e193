-- An event of a lane moves the run as the definitions say, and leaves the other lanes as they are.
use Rattle.std.proofs.Common.{◌≡◌, ℕ, zero, suc, ◌-◌, Bool, true, false, List, [], length, Option, Some, None, Result, Ok, Err, refl, sym, ap, subst, ◌∙◌, slice_index_or, slice_set, if◌then◌else◌, is_none, filter, take, IfSome}
use Rattle.store_types.specs.declared.order.Entry.{Entry}
use Rattle.store_types.specs.declared.refusal.Refusal.{Refusal}
use Rattle.store_types.specs.declared.refusal.Refusal.TheVariants.{NoMemory}
use Rattle.store_files.specs.Archive.{Snapshot}
use Rattle.wire_commands.specs.declared.command.Command.{Command}
use Rattle.wire_commands.specs.declared.command.Command.TheVariants as commands
use Rattle.wire_commands.specs.declared.reply.Reply.{Reply}
use Rattle.wire_commands.specs.declared.reply.Reply.TheVariants.{Done, Keys, Collected, Refused}
use Rattle.wire_commands.specs.Inputs.{InputFront, nothing, next, over_limit, no_command, front}
use Rattle.store_model.specs.declared.ending.Ending.{Ending}
use Rattle.store_model.specs.declared.ending.Ending.TheVariants as endings
use Rattle.store_model.specs.WriterSteps.{put_blob, checked_blob, want_data}
use Rattle.store_model.specs.ArchiveSteps.{put_chunk, checked_chunk}
use Rattle.std.specs.List.{last_or}
use Rattle.store_model.specs.Stands.{group_limit}
use Rattle.store_model.specs.Store.{Store, ended, in_group, keys_in}
use Rattle.store_model.specs.Heads.{idle_group}
use Rattle.store_model.proofs.HeadLemmas.{idle_group_found}
use Rattle.store_model.specs.Steps.{outcome, answered, step}
use Rattle.store_types.specs.declared.names.GroupKey.{GroupKey}
use Rattle.store_types.specs.Names.{group_of}
use Rattle.store_model.specs.AdminSteps.{group_texts}
use Rattle.store_model.specs.SyncJob.{is_later, to_pull, next_snapshot}
use Rattle.store_types.specs.Chain.Refusing.{◌>>=◌, or_else}
use Rattle.store_model.specs.declared.step.Step.{Step}
use Rattle.store_model.specs.declared.step.Step.TheVariants as made
use Rattle.store_model.specs.Job.{Asking, step_of, Job}
use Rattle.store_model.specs.Jobs.{job_of, take as job_take}
use Rattle.store_model.specs.JobSteps.{step_outcome}
use Rattle.store_model.specs.Lanes.{Collecting, Lane, Run, Next, job_step, plain, sync, collect, collecting, bye, broken, end, with_lane, lane_next, front_next, command_next, next_of}
use Rattle.store_model.specs.Weave.{with_store, tell, go_on, answer_job, answer, begin_sync, want_collector, open_collector, close_collector, collected, stepped, passed, short, opens, closes, remote_failed, told_fault, fault_refusal, first_fault, faulted, is_cut_off, ends, ended_with, end_session, unread, is_replied, may_leave_unread, entered, known}
use Rattle.store_history.specs.declared.act.Act.{Act}
use Rattle.store_history.specs.declared.act.Act.TheVariants as acts
use Rattle.store_history.specs.declared.act.Answer.{Answer}
use Rattle.store_history.specs.declared.act.Event.{Event}
use Rattle.blob_codec.specs.Blob.{data_of}
use Rattle.store_types.specs.declared.refusal.Refusal.TheVariants.{BadBlob, NoRemote, RemoteFault}
use Rattle.store_types.specs.declared.order.TheConstants.{FAULT_KIND}
use Rattle.store_history.specs.Acts.{act_of_command, act_of_step, check_blob, Class, stepping, reaching, starting, sweeping, wanting, ending, class_of}
use Rattle.store_history.specs.History.{World, open_on, new_collecting, cut_on, halted_on, data_in, act_outcome, moved, EntryKind, kind_of, step_kind, pass_kind, short_kind, start_kind, close_kind, fault_kind, end_kind, remote_kind, no_kind, lane, moment, kind, reply}
use Rattle.store_history.specs.Legal.{Right, Says, Refuses, Reports, may_open, collecting_on}
use Rattle.store_history.specs.LaneRun.{blank, Task, steps, pulls, sweeps, ahead, job_in, Position, lane_of, next_at, tells, goes_on, used_up, heard_at, heard, heard_as, last_words, end_faulted, end_heard, position_after, pulls_on, Asks, may_want_at, EndsSo, Does, IsIdle, IsShut}
use Rattle.store_history.specs.Pulling.{sought}
use Rattle.store_history.specs.Remote.{may_read, ReadsIn}
use Rattle.store_history.proofs.Checking.{chunk_checked}
use Rattle.store_history.proofs.Collectors.{some_none, cut_none, cut_some, closed_none, closed_some}
use Rattle.store_history.proofs.Placed.{run_of, at, lane_is, put_is, keep_is, same_lane, blank_is, tell_is, go_is, sweep_in, model_next, model_is, next_is, IsNoStep, no_job, open_at, open_model}
use Rattle.store_history.proofs.Plainly.{IsPlainReply, IsPlainJob, KeepsPlain, ArePlain, says_plainly, begun_plainly, take_plainly}
use Rattle.store_history.proofs.Wanting.{Goes, want_goes}

-- ---- the act of a command

pub command_class : (c : Command) → class_of (act_of_command c) ≡ stepping
command_class (commands.Chunk digest blob) = refl
command_class (commands.Blob file blob) = refl
command_class c = refl

data_checked : (bytes : List ℕ) → data_in (check_blob bytes) ≡ want_data bytes
data_checked bytes =
    elim (data_of bytes) as (λ d. data_of bytes ≡ d → data_in (elim d [ Ok piece ↦ Ok bytes | Err fault ↦ Err (BadBlob fault) ]) ≡ want_data bytes) [
      | Ok piece ↦ λ e. refl
      | Err fault ↦ λ e. ap (λ d. elim d [ Ok piece ↦ Ok piece | Err cause ↦ Err (BadBlob cause) ]) (sym e)
    ] refl

command_outcome : (R : Option (List Snapshot)) (w : World) (k m : ℕ) (c : Command) → act_outcome R w k m (act_of_command c) ≡ outcome w.store k m c
unfolding act_outcome outcome put_blob put_chunk
command_outcome R w k m (commands.Chunk digest blob) = ap (checked_chunk w.store k) (chunk_checked digest blob)
command_outcome R w k m (commands.Blob file blob) = ap (checked_blob w.store k file) (data_checked blob)
command_outcome R w k m c = refl

-- and of a step
abbrev pub IsStepping : Class → Type 0
IsStepping stepping = Unit {0}
IsStepping _ = ⊥

pub step_class : (s : Step) → class_of (act_of_step s) ≡ stepping
step_class (made.Command c) = command_class c
step_class (made.ReadFile name offset) = refl
step_class (made.ReadChunk name entry) = refl

abbrev pub IsStarting : Class → Type 0
IsStarting starting = Unit {0}
IsStarting _ = ⊥

abbrev pub IsReaching : Class → Type 0
IsReaching reaching = Unit {0}
IsReaching _ = ⊥

abbrev pub IsSweeping : Class → Type 0
IsSweeping sweeping = Unit {0}
IsSweeping _ = ⊥

abbrev pub IsEnding : Class → Type 0
IsEnding ending = Unit {0}
IsEnding _ = ⊥

pub ending_is : (c : Class) → IsEnding c → c ≡ ending
ending_is ending h = refl
ending_is c h = absurd h

-- the acts that are asked where this is next
abbrev pub FitsNext : Next → Class → Type 0
FitsNext (job_step j left) c = IsStepping c
FitsNext (plain d left) c = IsStepping c
FitsNext (sync group left) c = IsReaching c
FitsNext (collect left) c = IsStarting c
FitsNext (collecting is_out_of_memory) c = IsSweeping c
FitsNext _ c = ⊥

pub asks_class : (n : Next) (a : Act) → Asks (ahead n) a → FitsNext n (class_of a)
asks_class (job_step j left) a asks = subst (λ x. IsStepping (class_of x)) (sym asks) (subst IsStepping (sym (step_class (step_of j))) tt)
asks_class (plain c left) a asks = subst (λ x. IsStepping (class_of x)) (sym asks) (subst IsStepping (sym (command_class c)) tt)
asks_class (sync group left) a asks = subst (λ x. IsReaching (class_of x)) (sym asks) tt
asks_class (collect left) a asks = subst (λ x. IsStarting (class_of x)) (sym asks) tt
asks_class (collecting is_out_of_memory) a asks = subst (λ x. IsSweeping (class_of x)) (sym asks) tt
asks_class bye a asks = absurd asks
asks_class (broken refusal) a asks = absurd asks
asks_class end a asks = absurd asks

fits_end : (n : Next) → FitsNext n ending → ⊥
fits_end (job_step j left) h = h
fits_end (plain c left) h = h
fits_end (collect left) h = h
fits_end (collecting is_out_of_memory) h = h
fits_end (sync group left) h = h
fits_end bye h = h
fits_end (broken refusal) h = h
fits_end end h = h

pub asks_ends : (n : Next) (a : Act) → Asks (ahead n) a → IsEnding (class_of a) → ⊥
asks_ends n a asks h = fits_end n (subst (FitsNext n) (ending_is (class_of a) h) (asks_class n a asks))

pub asks_goes : (n : Next) (a : Act) → Asks (ahead n) a → Goes (ahead n)
asks_goes (job_step j left) a asks = tt
asks_goes (plain c left) a asks = tt
asks_goes (collect left) a asks = tt
asks_goes (collecting is_out_of_memory) a asks = tt
asks_goes (sync group left) a asks = tt
asks_goes bye a asks = asks
asks_goes (broken refusal) a asks = tt
asks_goes end a asks = asks

pub none_swept : (t : Option Task) → IsShut t → sweep_in t ≡ None
none_swept None shut = refl
none_swept (Some (steps j)) shut = refl
none_swept (Some (pulls x)) shut = absurd shut
none_swept (Some (sweeps b)) shut = absurd shut

pub shut_idle : (t : Option Task) → IsShut t → IsIdle t
shut_idle None shut = tt
shut_idle (Some (steps j)) shut = tt
shut_idle (Some (pulls x)) shut = absurd shut
shut_idle (Some (sweeps b)) shut = absurd shut

-- an end by want of memory, with no job open, is the one that a fault leaves untold
abbrev pub cuts : Class → Ending → Position → Bool
cuts ending endings.NoMemory p = is_none (job_in p.task)
cuts _ _ p = false

-- ---- the job whose step is next

abbrev pub IsPlainNext : Next → Type 0
IsPlainNext (job_step j left) = KeepsPlain j
IsPlainNext _ = Unit {0}

job_plain : (c : Command) (left : List ℕ) (o : Option Asking) → ArePlain o → IsPlainNext (elim o [ None ↦ plain c left | Some j ↦ job_step j left ])
job_plain c left None h = tt
job_plain c left (Some j) h = h

command_plain : (c : Command) (left : List ℕ) → IsPlainNext (command_next c left)
unfolding command_next
command_plain (commands.Sync group) left = tt
command_plain commands.Gc left = tt
command_plain commands.Bye left = tt
command_plain c left = job_plain c left (job_of c) (begun_plainly c)

front_plain : (offset : ℕ) (f : InputFront) → IsPlainNext (front_next offset f)
unfolding front_next
front_plain offset nothing = tt
front_plain offset (next c left) = command_plain c left
front_plain offset (over_limit n) = tt
front_plain offset no_command = tt

lane_plain : (l : Lane) → ArePlain l.job → IsPlainNext (lane_next l)
unfolding lane_next
lane_plain l h = by_job l.job h
  where
    by_job : (o : Option Asking) → ArePlain o → IsPlainNext (elim o [ None ↦ front_next (l.size - length l.left) (front l.left) | Some j ↦ job_step j l.left ])
    by_job None h = front_plain (l.size - length l.left) (front l.left)
    by_job (Some j) h = h

pub next_plain : (p : Position) → ArePlain (job_in p.task) → IsPlainNext (model_next p)
next_plain p h = by_sweep (sweep_in p.task)
  where
    by_sweep : (o : Option Bool) → IsPlainNext (elim o [ None ↦ lane_next (lane_of p) | Some is_out_of_memory ↦ collecting is_out_of_memory ])
    by_sweep None = lane_plain (lane_of p) h
    by_sweep (Some is_out_of_memory) = tt

-- ---- the group of a SYNC

-- what it tells of a group's name
abbrev ReadsOf : Option (List Snapshot) → Option GroupKey → Option Reply → Type 0
ReadsOf None n r = Unit {0}
ReadsOf (Some L) n r = IfSome n (λ g. r ≡ Some (Keys (group_texts g L)))

abbrev fine : Result (Unit {0}) Refusal
fine = Ok tt

reads_of : (o : Option (List Snapshot)) (group : List ℕ) (r : Option Reply) → ReadsIn o (acts.RemoteList (commands.Sync group)) r → ReadsOf o (group_of group) r
reads_of None group r h = h
reads_of (Some L) group r h = h

module _ (from : GroupKey → List Snapshot → List Snapshot) where
  -- where all its tests pass, the group is named and there is a remote
  pub tests_pass : (group : Result GroupKey Refusal) (R : Option (List Snapshot))
      → (group >>= λ g. or_else NoRemote R >>= λ snapshots. Ok (from g snapshots)) >>= (λ x. fine) ≡ fine
      → ((g : GroupKey) × (group ≡ Ok g)) × ((L : List Snapshot) × (R ≡ Some L))
  tests_pass (Err refusal) R h = cc
  tests_pass (Ok g) None h = cc
  tests_pass (Ok g) (Some L) h = ((g, refl), (L, refl))

-- what the remote has of it
pub keys_told : (R : Option (List Snapshot)) (s : Store) (k : ℕ) (group : List ℕ) (r : Option Reply) → may_read R s k (acts.RemoteList (commands.Sync group)) ≡ Ok tt
    → ReadsIn R (acts.RemoteList (commands.Sync group)) r → (texts : List (List ℕ)) × (r ≡ Some (Keys texts))
unfolding to_pull
keys_told R s k group r may reads =
    let h = tests_pass (λ g snapshots. filter (is_later (last_or None (take group_limit (keys_in g s.snapshots)))) (in_group g snapshots)) (idle_group s k group) R may in
    by_list R (group_of group) h.0.0 h.1.0 (idle_group_found s k group h.0.0 h.0.1).1 h.1.1 (reads_of R group r reads)
  where
    by_list : (o : Option (List Snapshot)) (n : Option GroupKey) (g : GroupKey) (L : List Snapshot) → n ≡ Some g → o ≡ Some L
        → ReadsOf o n r → (texts : List (List ℕ)) × (r ≡ Some (Keys texts))
    by_list o n g L named there reads = (group_texts g L, subst (λ (x : Option GroupKey). ReadsOf (Some L) x r) named (subst (λ (x : Option (List Snapshot)). ReadsOf x n r) there reads))

-- ---- by the kind of the entry

module _ (R : Option (List Snapshot)) (w : World) (ps : List Position) (k m : ℕ) where
  abbrev pub run : Run
  run = run_of R w ps

  abbrev pub p : Position
  p = at ps k

  -- the answers of a kind
  pub right_short : (a : Act) (r : Option Reply) (c : Class) → Right R w k m a r c short_kind → r ≡ Some (Refused NoMemory)
  right_short a r stepping h = h.0
  right_short a r reaching h = h
  right_short a r starting h = h
  right_short a r sweeping h = h.0
  right_short a r wanting h = h
  right_short a r ending h = absurd h

  pub right_fault : (a : Act) (r : Option Reply) (c : Class) → Right R w k m a r c fault_kind → r ≡ Some (Refused (fault_refusal w.fault))
  right_fault a r stepping h = h
  right_fault a r reaching h = h
  right_fault a r starting h = h
  right_fault a r sweeping h = h
  right_fault a r wanting h = absurd h
  right_fault a r ending h = h.1

  -- a command and a GC have no pass, and none of these but a read of the remote fails there
  no_step_pass : (a : Act) (r : Option Reply) (c : Class) → IsStepping c → Right R w k m a r c pass_kind → ⊥
  no_step_pass a r stepping is h = h
  no_step_pass a r c is h = absurd is

  no_start_pass : (a : Act) (r : Option Reply) (c : Class) → IsStarting c → Right R w k m a r c pass_kind → ⊥
  no_start_pass a r starting is h = h
  no_start_pass a r c is h = absurd is

  no_step_fails : (a : Act) (r : Option Reply) (c : Class) → IsStepping c → Right R w k m a r c remote_kind → ⊥
  no_step_fails a r stepping is h = h
  no_step_fails a r c is h = absurd is

  no_start_fails : (a : Act) (r : Option Reply) (c : Class) → IsStarting c → Right R w k m a r c remote_kind → ⊥
  no_start_fails a r starting is h = h
  no_start_fails a r c is h = absurd is

  no_sweep_fails : (a : Act) (r : Option Reply) (c : Class) → IsSweeping c → Right R w k m a r c remote_kind → ⊥
  no_sweep_fails a r sweeping is h = h
  no_sweep_fails a r c is h = absurd is

  pub right_start : (a : Act) (r : Option Reply) (c : Class) → Right R w k m a r c start_kind → (c ≡ starting) × (may_open w k ≡ Ok tt) × (r ≡ None)
  right_start a r stepping h = absurd h
  right_start a r reaching h = absurd h
  right_start a r starting h = (refl, h.1, h.2)
  right_start a r sweeping h = absurd h
  right_start a r wanting h = absurd h
  right_start a r ending h = absurd h

  pub right_close : (a : Act) (r : Option Reply) (c : Class) → Right R w k m a r c close_kind → (c ≡ sweeping) × Reports (collecting_on w k) r
  right_close a r stepping h = absurd h
  right_close a r reaching h = absurd h
  right_close a r starting h = absurd h
  right_close a r sweeping h = (refl, h.1)
  right_close a r wanting h = absurd h
  right_close a r ending h = absurd h

  pub right_end : (a : Act) (r : Option Reply) (c : Class) → Right R w k m a r c end_kind → IsEnding c
  right_end a r stepping h = absurd h
  right_end a r reaching h = absurd h
  right_end a r starting h = absurd h
  right_end a r sweeping h = absurd h
  right_end a r wanting h = absurd h
  right_end a r ending h = tt

  pub right_none : (a : Act) (r : Option Reply) (c : Class) → Right R w k m a r c no_kind → ⊥
  right_none a r stepping h = h
  right_none a r reaching h = h
  right_none a r starting h = h
  right_none a r sweeping h = h
  right_none a r wanting h = h
  right_none a r ending h = h

  -- what the run is to be after an act
  abbrev pub Becomes : Act → EntryKind → ℕ → Option Reply → Next → Option Run → Type 0
  Becomes a kind n r x o = o ≡ Some (run_of R (moved R w k m a kind) (slice_set ps k (heard_at p n r (ahead x))))

  -- a reply, where this position is the one after it
  told_as : (w' : World) (left : List ℕ) (r : Reply) (q : Position) → IsPlainReply r → q ≡ tells p left r → tell (run_of R w' ps) k left r ≡ run_of R w' (slice_set ps k q)
  told_as w' left r q plainly h = tell_is R w' ps k left r plainly ∙ ap (λ x. run_of R w' (slice_set ps k x)) (sym h)

  -- a job that goes on, where this position is the one after it
  went_as : (w' : World) (left : List ℕ) (j : Job) (q : Position) → IsPlainJob j → q ≡ goes_on p left j → go_on (run_of R w' ps) k left j ≡ run_of R w' (slice_set ps k q)
  went_as w' left j q plainly h = go_is R w' ps k left j plainly ∙ ap (λ x. run_of R w' (slice_set ps k x)) (sym h)

  -- the collector is as before
  same_open : (c : Option Collecting) (qs : List Position) → c ≡ w.collecting → run_of R w qs ≡ run_of R (record w { collecting = c }) qs
  same_open c qs h = ap (λ x. run_of R (record w { collecting = x }) qs) (sym h)

  -- ---- kind 0

  step_says : (s : Step) (r : Option Reply) → Right R w k m (act_of_step s) r (class_of (act_of_step s)) step_kind
      → Says R w k m (act_of_step s) r × (act_outcome R w k m (act_of_step s) ≡ step_outcome w.store k m s)
  unfolding act_outcome
  step_says (made.Command c) r right =
      ((subst (λ x. Right R w k m (act_of_command c) r x step_kind) (command_class c) right).1, command_outcome R w k m c)
  step_says (made.ReadFile name offset) r right = (right.1, refl)
  step_says (made.ReadChunk name entry) r right = (right.1, refl)

  step_stepped : (j : Asking) (left : List ℕ) (r : Option Reply) → KeepsPlain j → Says R w k m (act_of_step (step_of j)) r
      → act_outcome R w k m (act_of_step (step_of j)) ≡ step_outcome w.store k m (step_of j)
      → Becomes (act_of_step (step_of j)) step_kind 0 r (job_step j left) (stepped run k m (job_step j left))
  unfolding stepped moved answer_job with_store heard_at
  step_stepped j left r kept says does =
      let o = act_outcome R w k m (act_of_step (step_of j)) in
      let w' : World = record w { store = (answered w.store o).0 } in
      ap (λ x. Some (answer_job run k j left (answered w.store x))) (sym does)
      ∙ ap Some (went_as w' left (job_take j (answered w.store o).1) (heard_at p 0 r (ahead (job_step j left)))
      (take_plainly j (answered w.store o).1 kept (says_plainly R w k m (act_of_step (step_of j)))) (ap (λ x. heard_at p 0 x (ahead (job_step j left))) says))

  command_stepped : (c : Command) (left : List ℕ) (r : Option Reply) → Says R w k m (act_of_command c) r
      → Becomes (act_of_command c) step_kind 0 r (plain c left) (stepped run k m (plain c left))
  unfolding stepped moved step answer with_store heard_at
  command_stepped c left r says =
      let o = act_outcome R w k m (act_of_command c) in
      let w' : World = record w { store = (answered w.store o).0 } in
      ap (λ x. Some (answer run k left (answered w.store x))) (sym (command_outcome R w k m c))
      ∙ ap Some (told_as w' left (answered w.store o).1 (heard_at p 0 r (ahead (plain c left))) (says_plainly R w k m (act_of_command c)) (ap (λ x. heard_at p 0 x (ahead (plain c left))) says))

  start_refused : (left : List ℕ) (r : Option Reply) (o : Result (Unit {0}) Refusal) → may_open w k ≡ o → Refuses o r
      → Becomes acts.Start step_kind 0 r (collect left) (stepped run k m (collect left))
  unfolding stepped moved act_outcome want_collector heard_at
  start_refused left r (Ok may) is h = absurd h
  start_refused left r (Err refusal) is h =
      ap (λ (o : Result (Unit {0}) Refusal). elim o [ Ok may ↦ None | Err x ↦ Some (tell run k left (Refused x)) ]) is
      ∙ ap Some (told_as w left (Refused refusal) (heard_at p 0 r (ahead (collect left))) refl (ap (λ x. heard_at p 0 x (ahead (collect left))) h))

  sync_refused : (group left : List ℕ) (r : Option Reply) (o : Result (List Snapshot) Refusal) → to_pull R w.store k group ≡ o → Refuses (o >>= λ snapshots. Ok tt) r
      → Becomes (acts.RemoteList (commands.Sync group)) step_kind 0 r (sync group left) (stepped run k m (sync group left))
  unfolding stepped begin_sync moved act_outcome heard_at
  sync_refused group left r (Ok snapshots) is h = absurd h
  sync_refused group left r (Err refusal) is h =
      ap (λ (o : Result (List Snapshot) Refusal). Some (elim o [ Err x ↦ tell run k left (Refused x) | Ok snapshots ↦ go_on run k left (next_snapshot [] snapshots) ])) is
      ∙ ap Some (told_as w left (Refused refusal) (heard_at p 0 r (ahead (sync group left))) refl (ap (λ x. heard_at p 0 x (ahead (sync group left))) h))

  all_stepped : (a : Act) (n : Next) (r : Option Reply) → Asks (ahead n) a → open_at (ahead n) ≡ collecting_on w k → IsPlainNext n
      → Right R w k m a r (class_of a) step_kind → Becomes a step_kind 0 r n (stepped run k m n)
  all_stepped a (job_step j left) r asks knows kept =
      subst (λ x. Right R w k m x r (class_of x) step_kind → Becomes x step_kind 0 r (job_step j left) (stepped run k m (job_step j left))) (sym asks)
      (λ right. step_stepped j left r kept (step_says (step_of j) r right).0 (step_says (step_of j) r right).1)
  all_stepped a (plain c left) r asks knows kept =
      subst (λ x. Right R w k m x r (class_of x) step_kind → Becomes x step_kind 0 r (plain c left) (stepped run k m (plain c left))) (sym asks)
      (λ right. command_stepped c left r (subst (λ x. Right R w k m (act_of_command c) r x step_kind) (command_class c) right).1)
  all_stepped a (collect left) r asks knows kept =
      subst (λ x. Right R w k m x r (class_of x) step_kind → Becomes x step_kind 0 r (collect left) (stepped run k m (collect left))) (sym asks)
      (λ right. start_refused left r (may_open w k) refl right.1)
  all_stepped a (collecting is_out_of_memory) r asks knows kept =
      subst (λ x. Right R w k m x r (class_of x) step_kind → Becomes x step_kind 0 r (collecting is_out_of_memory) (stepped run k m (collecting is_out_of_memory))) (sym asks)
      (λ right. absurd (some_none is_out_of_memory (knows ∙ right.1)))
  all_stepped a (sync group left) r asks knows kept =
      subst (λ x. Right R w k m x r (class_of x) step_kind → Becomes x step_kind 0 r (sync group left) (stepped run k m (sync group left))) (sym asks)
      (λ right. sync_refused group left r (to_pull R w.store k group) refl right.1)
  all_stepped a bye r asks knows kept = absurd asks
  all_stepped a (broken refusal) r asks knows kept = absurd asks
  all_stepped a end r asks knows kept = absurd asks

  -- ---- kind 1

  sweep_passes : (a : Act) (b : Bool) (r : Option Reply) → r ≡ None → Becomes a pass_kind 1 r (collecting b) (passed run (collecting b))
  unfolding passed moved heard_at
  sweep_passes a b r h =
      ap Some (sym (keep_is R w ps k (heard_at p 1 r (ahead (collecting b))) (ap (λ (y : Option Reply). lane_of (heard_at p 1 y (ahead (collecting b)))) h)))

  -- what the remote has of the group was told
  reach_passes : (a : Act) (group left : List ℕ) (r : Option Reply) → may_read R w.store k (acts.RemoteList (commands.Sync group)) ≡ Ok tt
      → ReadsIn R (acts.RemoteList (commands.Sync group)) r → job_in p.task ≡ None → Becomes a pass_kind 1 r (sync group left) (passed run (sync group left))
  unfolding passed moved heard_at sought pulls_on
  reach_passes a group left r may reads none =
      let told = keys_told R w.store k group r may reads in
      ap Some (sym (keep_is R w ps k (heard_at p 1 r (ahead (sync group left))) (ap (λ (y : Option Reply). lane_of (heard_at p 1 y (ahead (sync group left)))) told.1 ∙ ap (λ (j : Option Asking). record (lane_of p) { job = j }) (sym none))))

  all_passed : (a : Act) (n : Next) (r : Option Reply) → (IsNoStep n → job_in p.task ≡ None) → Asks (ahead n) a → Right R w k m a r (class_of a) pass_kind → Becomes a pass_kind 1 r n (passed run n)
  all_passed a (collecting is_out_of_memory) r none asks right =
      sweep_passes a is_out_of_memory r (subst (λ x. Right R w k m x r (class_of x) pass_kind) asks right).2
  all_passed a (sync group left) r none asks right =
      let h = subst (λ x. Right R w k m x r (class_of x) pass_kind) asks right in reach_passes a group left r h.1 h.2 (none tt)
  all_passed a (job_step j left) r none asks right = absurd (no_step_pass a r (class_of a) (asks_class (job_step j left) a asks) right)
  all_passed a (plain c left) r none asks right = absurd (no_step_pass a r (class_of a) (asks_class (plain c left) a asks) right)
  all_passed a (collect left) r none asks right = absurd (no_start_pass a r (class_of a) (asks_class (collect left) a asks) right)
  all_passed a bye r none asks right = absurd asks
  all_passed a (broken refusal) r none asks right = absurd asks
  all_passed a end r none asks right = absurd asks

  -- ---- kind 7

  reach_fails : (a : Act) (group left : List ℕ) (r : Option Reply) → r ≡ Some (Refused RemoteFault)
      → Becomes a remote_kind 7 r (sync group left) (remote_failed run k (sync group left))
  unfolding remote_failed moved heard_at
  reach_fails a group left r h =
      ap Some (told_as w left (Refused RemoteFault) (heard_at p 7 r (ahead (sync group left))) refl (ap (λ x. heard_at p 7 x (ahead (sync group left))) h))

  all_failed : (a : Act) (n : Next) (r : Option Reply) → Asks (ahead n) a → Right R w k m a r (class_of a) remote_kind → Becomes a remote_kind 7 r n (remote_failed run k n)
  all_failed a (sync group left) r asks right =
      reach_fails a group left r (subst (λ x. Right R w k m x r (class_of x) remote_kind) asks right).2
  all_failed a (job_step j left) r asks right = absurd (no_step_fails a r (class_of a) (asks_class (job_step j left) a asks) right)
  all_failed a (plain c left) r asks right = absurd (no_step_fails a r (class_of a) (asks_class (plain c left) a asks) right)
  all_failed a (collect left) r asks right = absurd (no_start_fails a r (class_of a) (asks_class (collect left) a asks) right)
  all_failed a (collecting is_out_of_memory) r asks right = absurd (no_sweep_fails a r (class_of a) (asks_class (collecting is_out_of_memory) a asks) right)
  all_failed a bye r asks right = absurd asks
  all_failed a (broken refusal) r asks right = absurd asks
  all_failed a end r asks right = absurd asks

  -- ---- kind 2

  not_cut : (n : Next) → open_at (ahead n) ≡ collecting_on w k → open_at (ahead n) ≡ None → cut_on k w.collecting ≡ w.collecting
  not_cut n knows shut = cut_none k w.collecting (sym knows ∙ shut)

  pub all_short : (a : Act) (n : Next) (r : Option Reply) → (IsNoStep n → job_in p.task ≡ None) → Goes (ahead n) → open_at (ahead n) ≡ collecting_on w k → IsPlainNext n → r ≡ Some (Refused NoMemory)
      → Becomes a short_kind 2 r n (short run k n)
  unfolding short moved heard_at
  all_short a (job_step j left) r none goes knows kept h =
      ap Some (went_as w left (job_take j (Refused NoMemory)) (heard_at p 2 r (ahead (job_step j left))) (take_plainly j (Refused NoMemory) kept refl)
      (ap (λ x. heard_at p 2 x (ahead (job_step j left))) h)
      ∙ same_open (cut_on k w.collecting) (slice_set ps k (heard_at p 2 r (ahead (job_step j left)))) (not_cut (job_step j left) knows refl))
  all_short a (plain c left) r none goes knows kept h =
      ap Some (told_as w left (Refused NoMemory) (heard_at p 2 r (ahead (plain c left))) refl (ap (λ x. heard_at p 2 x (ahead (plain c left))) h)
      ∙ same_open (cut_on k w.collecting) (slice_set ps k (heard_at p 2 r (ahead (plain c left)))) (not_cut (plain c left) knows refl))
  all_short a (sync group left) r none goes knows kept h =
      ap Some (told_as w left (Refused NoMemory) (heard_at p 2 r (ahead (sync group left))) refl (ap (λ x. heard_at p 2 x (ahead (sync group left))) h)
      ∙ same_open (cut_on k w.collecting) (slice_set ps k (heard_at p 2 r (ahead (sync group left)))) (not_cut (sync group left) knows refl))
  all_short a (collect left) r none goes knows kept h =
      ap Some (told_as w left (Refused NoMemory) (heard_at p 2 r (ahead (collect left))) refl (ap (λ x. heard_at p 2 x (ahead (collect left))) h)
      ∙ same_open (cut_on k w.collecting) (slice_set ps k (heard_at p 2 r (ahead (collect left)))) (not_cut (collect left) knows refl))
  all_short a (collecting is_out_of_memory) r none goes knows kept h =
      ap Some (
      ap (λ x. record run { collecting = x }) (sym (cut_some k w.collecting is_out_of_memory (sym knows)))
      ∙ sym (keep_is R (record w { collecting = cut_on k w.collecting }) ps k (heard_at p 2 r (ahead (collecting is_out_of_memory)))
      (ap (λ (y : Option Reply). lane_of (heard_at p 2 y (ahead (collecting is_out_of_memory)))) h ∙ ap (λ (j : Option Asking). record (lane_of p) { job = j }) (sym (none tt))))
      )
  all_short a (broken refusal) r none goes knows kept h =
      ap Some (
      told_as w [] (Refused NoMemory) (tells p [] (Refused NoMemory)) refl refl
      ∙ same_lane R w ps k (tells p [] (Refused NoMemory)) (used_up p (Refused NoMemory)) refl
      ∙ ap (λ x. run_of R w (slice_set ps k (heard_at p 2 x (ahead (broken refusal))))) (sym h)
      ∙ same_open (cut_on k w.collecting) (slice_set ps k (heard_at p 2 r (ahead (broken refusal)))) (not_cut (broken refusal) knows refl)
      )
  all_short a bye r none goes knows kept h = absurd goes
  all_short a end r none goes knows kept h = absurd goes

  -- ---- kind 3

  start_opens : (a : Act) (left : List ℕ) (r : Option Reply) → job_in p.task ≡ None → may_open w k ≡ Ok tt → r ≡ None → Becomes a start_kind 3 r (collect left) (opens run k (collect left))
  unfolding opens open_collector moved want_collector heard_at
  start_opens a left r none can h =
      let w' : World = record w { collecting = new_collecting k false } in
      let q : Position = record p { left = left; task = Some (sweeps false) } in
      ap (λ (o : Result (Unit {0}) Refusal). elim o [ Ok may ↦ Some (open_collector run k left) | Err x ↦ None ]) can
      ∙ ap (λ l. Some (with_lane (run_of R w' ps) k (record l { left = left }))) (lane_is R w ps k)
      ∙ ap (λ (j : Option Asking). Some (with_lane (run_of R w' ps) k (record (lane_of p) { left = left; job = j }))) none
      ∙ ap Some (put_is R w' ps k q)
      ∙ ap (λ (x : Option Reply). Some (run_of R w' (slice_set ps k (heard_at p 3 x (ahead (collect left)))))) (sym h)

  all_started : (a : Act) (n : Next) (r : Option Reply) → (IsNoStep n → job_in p.task ≡ None) → FitsNext n starting → may_open w k ≡ Ok tt → r ≡ None → Becomes a start_kind 3 r n (opens run k n)
  all_started a (collect left) r none fits can h = start_opens a left r (none tt) can h
  all_started a (job_step j left) r none fits can h = absurd fits
  all_started a (plain c left) r none fits can h = absurd fits
  all_started a (collecting is_out_of_memory) r none fits can h = absurd fits
  all_started a (sync group left) r none fits can h = absurd fits
  all_started a bye r none fits can h = absurd fits
  all_started a (broken refusal) r none fits can h = absurd fits
  all_started a end r none fits can h = absurd fits

  -- ---- kind 4

  -- what the collector replies, but for its numbers
  pub report_is : (b : Bool) (r : Option Reply) → Reports (Some b) r → (x : Reply) × (r ≡ Some x) × (blank x ≡ collected b)
  report_is true r h = (Refused NoMemory, h, refl)
  report_is false (Some (Collected start cutoff used pending removed)) h = (Collected start cutoff used pending removed, refl, refl)
  report_is false (Some x) h = absurd h
  report_is false None h = absurd h

  step_closes : (a : Act) (b : Bool) (r : Option Reply) → Reports (Some b) r → Becomes a close_kind 4 r (collecting b) (closes run k (collecting b))
  unfolding closes close_collector moved heard_at
  step_closes a b r h =
      let rep = report_is b r h in
      let w' : World = record w { collecting = None } in
      ap (λ l. Some (tell (run_of R w' ps) k l.left (collected b))) (lane_is R w ps k)
      ∙ ap (λ x. Some (tell (run_of R w' ps) k p.left x)) (sym rep.2)
      ∙ ap Some (blank_is R w' ps k p.left rep.0)
      ∙ ap (λ (x : Option Reply). Some (run_of R w' (slice_set ps k (heard_at p 4 x (ahead (collecting b)))))) (sym rep.1)

  all_closed : (a : Act) (n : Next) (r : Option Reply) → FitsNext n sweeping → open_at (ahead n) ≡ collecting_on w k → Reports (collecting_on w k) r
      → Becomes a close_kind 4 r n (closes run k n)
  all_closed a (collecting is_out_of_memory) r fits knows h = step_closes a is_out_of_memory r (subst (λ o. Reports o r) (sym knows) h)
  all_closed a (job_step j left) r fits knows h = absurd fits
  all_closed a (plain c left) r fits knows h = absurd fits
  all_closed a (collect left) r fits knows h = absurd fits
  all_closed a (sync group left) r fits knows h = absurd fits
  all_closed a bye r fits knows h = absurd fits
  all_closed a (broken refusal) r fits knows h = absurd fits
  all_closed a end r fits knows h = absurd fits

  -- ---- kind 5

  -- the collector that met the fault is no longer open
  abbrev halted_at : Next → Option Collecting
  halted_at n = elim (open_at (ahead n)) [ None ↦ w.collecting | Some is_out_of_memory ↦ None ]

  asks_halted : (n : Next) (c : Class) → FitsNext n c → open_at (ahead n) ≡ collecting_on w k → halted_on k c w.collecting ≡ halted_at n
  asks_halted (job_step j left) stepping fits knows = refl
  asks_halted (job_step j left) wanting fits knows = refl
  asks_halted (job_step j left) c fits knows = absurd fits
  asks_halted (plain d left) stepping fits knows = refl
  asks_halted (plain d left) wanting fits knows = refl
  asks_halted (plain d left) c fits knows = absurd fits
  asks_halted (collect left) starting fits knows = refl
  asks_halted (collect left) c fits knows = absurd fits
  asks_halted (collecting is_out_of_memory) sweeping fits knows = closed_some k w.collecting is_out_of_memory (sym knows)
  asks_halted (collecting is_out_of_memory) c fits knows = absurd fits
  asks_halted (sync group left) reaching fits knows = refl
  asks_halted (sync group left) c fits knows = absurd fits
  asks_halted bye c fits knows = absurd fits
  asks_halted (broken refusal) c fits knows = absurd fits
  asks_halted end c fits knows = absurd fits

  pub end_halted : (n : Next) → open_at (ahead n) ≡ None → w.collecting ≡ halted_at n
  end_halted n shut = ap (λ (o : Option Bool). elim o [ None ↦ w.collecting | Some is_out_of_memory ↦ None ]) (sym shut)

  -- where it is told this
  abbrev hurt : Option ℕ → Option Collecting → Position → Run
  hurt f c q = run_of R (record w { collecting = c; fault = f }) (slice_set ps k q)

  fault_told : (n : Next) (r : Option Reply) (x : Refusal) (f : Option ℕ) (c : Option Collecting) → r ≡ Some (Refused x) → IsPlainNext n → c ≡ halted_at n
      → record (told_fault run k x n) { fault = f } ≡ hurt f c (heard_at p 5 r (ahead n))
  unfolding told_fault close_collector heard_at
  fault_told (job_step j left) r x f c h kept is =
      ap (λ (y : Run). record y { fault = f })
      (went_as w left (job_take j (Refused x)) (heard_at p 5 r (ahead (job_step j left))) (take_plainly j (Refused x) kept refl) (ap (λ y. heard_at p 5 y (ahead (job_step j left))) h))
      ∙ ap (λ y. hurt f y (heard_at p 5 r (ahead (job_step j left)))) (sym is)
  fault_told (plain d left) r x f c h kept is =
      ap (λ (y : Run). record y { fault = f }) (told_as w left (Refused x) (heard_at p 5 r (ahead (plain d left))) refl (ap (λ y. heard_at p 5 y (ahead (plain d left))) h))
      ∙ ap (λ y. hurt f y (heard_at p 5 r (ahead (plain d left)))) (sym is)
  fault_told (sync group left) r x f c h kept is =
      ap (λ (y : Run). record y { fault = f }) (told_as w left (Refused x) (heard_at p 5 r (ahead (sync group left))) refl (ap (λ y. heard_at p 5 y (ahead (sync group left))) h))
      ∙ ap (λ y. hurt f y (heard_at p 5 r (ahead (sync group left)))) (sym is)
  fault_told (collect left) r x f c h kept is =
      ap (λ (y : Run). record y { fault = f }) (told_as w left (Refused x) (heard_at p 5 r (ahead (collect left))) refl (ap (λ y. heard_at p 5 y (ahead (collect left))) h))
      ∙ ap (λ y. hurt f y (heard_at p 5 r (ahead (collect left)))) (sym is)
  fault_told (collecting is_out_of_memory) r x f c h kept is =
      let w' : World = record w { collecting = None } in
      ap (λ l. record (tell (run_of R w' ps) k l.left (Refused x)) { fault = f }) (lane_is R w ps k)
      ∙ ap (λ (y : Run). record y { fault = f }) (tell_is R w' ps k p.left (Refused x) refl)
      ∙ ap (λ (y : Option Reply). hurt f None (heard_at p 5 y (ahead (collecting is_out_of_memory)))) (sym h)
      ∙ ap (λ y. hurt f y (heard_at p 5 r (ahead (collecting is_out_of_memory)))) (sym is)
  fault_told bye r x f c h kept is =
      sym (keep_is R (record w { fault = f }) ps k (heard_at p 5 r (ahead bye)) (ap (λ y. lane_of (heard_at p 5 y (ahead bye))) h))
      ∙ ap (λ y. hurt f y (heard_at p 5 r (ahead bye))) (sym is)
  fault_told (broken refusal) r x f c h kept is =
      sym (keep_is R (record w { fault = f }) ps k (heard_at p 5 r (ahead (broken refusal))) (ap (λ y. lane_of (heard_at p 5 y (ahead (broken refusal)))) h))
      ∙ ap (λ y. hurt f y (heard_at p 5 r (ahead (broken refusal)))) (sym is)
  fault_told end r x f c h kept is =
      sym (keep_is R (record w { fault = f }) ps k (heard_at p 5 r (ahead end)) (ap (λ y. lane_of (heard_at p 5 y (ahead end))) h))
      ∙ ap (λ y. hurt f y (heard_at p 5 r (ahead end))) (sym is)

  pub all_faulted : (e : Ending) (later : List Entry) (a : Act) (n : Next) (r : Option Reply) → halted_on k (class_of a) w.collecting ≡ halted_at n → IsPlainNext n
      → is_cut_off run k e later ≡ false → r ≡ Some (Refused (fault_refusal w.fault)) → Becomes a fault_kind 5 r n (Some (faulted run k w.events e later n))
  unfolding faulted moved
  all_faulted e later a n r halts kept cut h =
      ap (λ b. Some (record (if b then run else told_fault run k (fault_refusal w.fault) n) { fault = first_fault w.events w.fault })) cut
      ∙ ap Some (fault_told n r (fault_refusal w.fault) (first_fault w.events w.fault) (halted_on k (class_of a) w.collecting) h kept halts)

  -- an end that met a fault, where want of memory ended the lane
  cut_off : (later : List Entry) (n : Next) → is_cut_off run k endings.NoMemory later ≡ true
      → Some (faulted run k w.events endings.NoMemory later n) ≡ Some (run_of R (moved R w k m acts.End fault_kind) (slice_set ps k p))
  unfolding faulted moved
  cut_off later n cut =
      ap (λ b. Some (record (if b then run else told_fault run k (fault_refusal w.fault) n) { fault = first_fault w.events w.fault })) cut
      ∙ ap Some (sym (keep_is R (record w { fault = first_fault w.events w.fault }) ps k p refl))

  -- ---- kind 6

  abbrev closed : World
  closed = record w { store = ended w.store k }

  words_by : (b : Bool) (t : Reply) → IsPlainReply t → (if b then tell (run_of R closed ps) k [] t else run_of R closed ps)
      ≡ run_of R closed (slice_set ps k (if b then tells p [] t else p))
  words_by true t plainly = tell_is R closed ps k [] t plainly
  words_by false t plainly = sym (keep_is R closed ps k p refl)

  job_unread : (e : Ending) (j : Asking) (left : List ℕ) → EndsSo e p (ahead (job_step j left)) → may_leave_unread e ≡ true
  job_unread endings.Clean j left h = absurd h
  job_unread (endings.Broken place) j left h = absurd h
  job_unread e j left h = refl

  plain_unread : (e : Ending) (c : Command) (left : List ℕ) → EndsSo e p (ahead (plain c left)) → may_leave_unread e ≡ true
  plain_unread endings.Clean c left h = absurd h
  plain_unread (endings.Broken place) c left h = absurd h
  plain_unread e c left h = refl

  sync_unread : (e : Ending) (group left : List ℕ) → EndsSo e p (ahead (sync group left)) → may_leave_unread e ≡ true
  sync_unread endings.Clean group left h = absurd h
  sync_unread (endings.Broken place) group left h = absurd h
  sync_unread e group left h = refl

  gc_unread : (e : Ending) (left : List ℕ) → EndsSo e p (ahead (collect left)) → may_leave_unread e ≡ true
  gc_unread endings.Clean left h = absurd h
  gc_unread (endings.Broken place) left h = absurd h
  gc_unread e left h = refl

  left_unread : (e : Ending) → may_leave_unread e ≡ true → unread run k e ≡ Some (run_of R closed (slice_set ps k p))
  unfolding unread end_session with_store
  left_unread e may = ap (λ b. if b then Some (run_of R closed ps) else None) may ∙ ap Some (sym (keep_is R closed ps k p refl))

  ended_is : (e : Ending) (n : Next) → EndsSo e p (ahead n) → open_at (ahead n) ≡ None → ends run k e n ≡ Some (run_of R closed (slice_set ps k (last_words e p (ahead n))))
  unfolding ends last_words ended_with end_session with_store
  ended_is e (job_step j left) so shut = left_unread e (job_unread e j left so)
  ended_is e (plain c left) so shut = left_unread e (plain_unread e c left so)
  ended_is e (sync group left) so shut = left_unread e (sync_unread e group left so)
  ended_is e (collect left) so shut = left_unread e (gc_unread e left so)
  ended_is e (collecting is_out_of_memory) so shut = absurd (some_none is_out_of_memory shut)
  ended_is e bye so shut = ap Some (words_by (is_replied e) Done refl)
  ended_is e (broken refusal) so shut = ap Some (words_by (is_replied e) (Refused refusal) refl)
  ended_is e end so shut = ap Some (sym (keep_is R closed ps k p refl))

  all_ended : (e : Ending) (n : Next) → EndsSo e p (ahead n) → open_at (ahead n) ≡ None → collecting_on w k ≡ None
      → ends run k e n ≡ Some (run_of R (moved R w k m acts.End end_kind) (slice_set ps k (last_words e p (ahead n))))
  unfolding moved
  all_ended e n so shut none =
      ended_is e n so shut ∙ ap (λ c. Some (run_of R (record closed { collecting = c }) (slice_set ps k (last_words e p (ahead n))))) (sym (closed_none k w.collecting none))

  -- ---- by the act

  -- the entry of an event of the lane
  abbrev pub noted : ℕ → Entry
  noted n = record { lane = k; moment = m; kind = n }

  module _ (es : List Ending) (later : List Entry) (knows : sweep_in (at ps k).task ≡ open_on k w.collecting) (kept : ArePlain (job_in (at ps k).task)) where
    abbrev pub enter : ℕ → Option Run
    enter n = entered (known es) run w.events (noted n) later

    abbrev pub e : Ending
    e = slice_index_or es k endings.Clean

    pub nx : next_of run k ≡ model_next p
    nx = next_is R w ps k knows

    -- of what is next
    pub at_next : open_at (ahead (model_next p)) ≡ collecting_on w k
    at_next = open_model p ∙ knows

    pub plainly : IsPlainNext (model_next p)
    plainly = next_plain p kept

    -- the position of the program stands for the one that `weave` has
    heard_is : (w' : World) (x : Answer) → IsIdle p.task → run_of R w' (slice_set ps k (heard_at p (x.entry).kind x.reply (ahead (model_next p)))) ≡ run_of R w' (slice_set ps k (heard p x))
    unfolding heard
    heard_is w' x idle =
        same_lane R w' ps k (heard_at p (x.entry).kind x.reply (ahead (model_next p))) (heard p x)
        (ap (λ y. lane_of (heard_at p (x.entry).kind x.reply y)) (sym (model_is p idle)))

    pub asked : (n : ℕ) (a : Act) (r : Option Reply) → Asks (ahead (model_next p)) a → (n ≡ 5 → is_cut_off run k e later ≡ false)
        → Right R w k m a r (class_of a) (kind_of n) → Becomes a (kind_of n) n r (model_next p) (enter n)
    unfolding entered
    asked zero a r asks cut right = ap (λ x. stepped run k m x) nx ∙ all_stepped a (model_next p) r asks at_next plainly right
    asked (suc zero) a r asks cut right =
        ap (λ x. passed run x) nx ∙ all_passed a (model_next p) r (no_job p) asks right
    asked (suc (suc zero)) a r asks cut right =
        ap (λ x. short run k x) nx ∙ all_short a (model_next p) r (no_job p) (asks_goes (model_next p) a asks) at_next plainly (right_short a r (class_of a) right)
    asked (suc (suc (suc zero))) a r asks cut right =
        let h = right_start a r (class_of a) right in
        ap (λ x. opens run k x) nx ∙ all_started a (model_next p) r (no_job p) (subst (FitsNext (model_next p)) h.0 (asks_class (model_next p) a asks)) h.1 h.2
    asked (suc (suc (suc (suc zero)))) a r asks cut right =
        let h = right_close a r (class_of a) right in
        ap (λ x. closes run k x) nx ∙ all_closed a (model_next p) r (subst (FitsNext (model_next p)) h.0 (asks_class (model_next p) a asks)) at_next h.1
    asked (suc (suc (suc (suc (suc zero))))) a r asks cut right =
        ap (λ x. Some (faulted run k w.events e later x)) nx
        ∙ all_faulted e later a (model_next p) r (asks_halted (model_next p) (class_of a) (asks_class (model_next p) a asks) at_next) plainly (cut refl) (right_fault a r (class_of a) right)
    asked (suc (suc (suc (suc (suc (suc zero)))))) a r asks cut right = absurd (asks_ends (model_next p) a asks (right_end a r (class_of a) right))
    asked (suc (suc (suc (suc (suc (suc (suc zero))))))) a r asks cut right =
        ap (λ x. remote_failed run k x) nx ∙ all_failed a (model_next p) r asks right
    asked (suc (suc (suc (suc (suc (suc (suc (suc n)))))))) a r asks cut right = absurd (right_none a r (class_of a) right)

    wanted : (n : ℕ) (r : Option Reply) → IsIdle p.task → may_want_at p ≡ true → Right R w k m acts.Short r wanting (kind_of n) → Becomes acts.Short (kind_of n) n r (model_next p) (enter n)
    unfolding entered
    wanted (suc (suc zero)) r idle may right =
        ap (λ x. short run k x) nx ∙ all_short acts.Short (model_next p) r (no_job p) (subst Goes (model_is p idle) (want_goes p idle may)) at_next plainly (right_short acts.Short r wanting right)
    wanted zero r idle may right = absurd right
    wanted (suc zero) r idle may right = absurd right
    wanted (suc (suc (suc zero))) r idle may right = absurd right
    wanted (suc (suc (suc (suc zero)))) r idle may right = absurd right
    wanted (suc (suc (suc (suc (suc zero))))) r idle may right = absurd right
    wanted (suc (suc (suc (suc (suc (suc zero)))))) r idle may right = absurd right
    wanted (suc (suc (suc (suc (suc (suc (suc zero))))))) r idle may right = absurd right
    wanted (suc (suc (suc (suc (suc (suc (suc (suc n)))))))) r idle may right = absurd right

    -- a lane's end that met a fault, where no collector of the lane is open
    end_faulted_at : (x : Ending) (r : Option Reply) → IsShut p.task → is_cut_off run k x later ≡ false → r ≡ Some (Refused (fault_refusal w.fault))
        → Some (faulted run k w.events x later (model_next p)) ≡ Some (run_of R (moved R w k m acts.End fault_kind) (slice_set ps k (heard_at p 5 r (next_at p))))
    end_faulted_at x r shut cut h =
        all_faulted x later acts.End (model_next p) r (end_halted (model_next p) (open_model p ∙ none_swept p.task shut)) plainly cut h
        ∙ ap (λ y. Some (run_of R (moved R w k m acts.End fault_kind) (slice_set ps k (heard_at p 5 r y)))) (sym (model_is p (shut_idle p.task shut)))

    -- where want of memory ended the lane
    hurt_by : (b : Bool) (r : Option Reply) → IsShut p.task → is_cut_off run k endings.NoMemory later ≡ b → r ≡ Some (Refused (fault_refusal w.fault))
        → Some (faulted run k w.events endings.NoMemory later (model_next p)) ≡ Some (run_of R (moved R w k m acts.End fault_kind) (slice_set ps k (if b then p else heard_at p 5 r (next_at p))))
    hurt_by true r shut cut h = cut_off later (model_next p) cut
    hurt_by false r shut cut h = end_faulted_at endings.NoMemory r shut cut h

    end_hurt : (x : Ending) (r : Option Reply) → IsShut p.task → is_cut_off run k x later ≡ cuts ending x p → r ≡ Some (Refused (fault_refusal w.fault))
        → Some (faulted run k w.events x later (model_next p)) ≡ Some (run_of R (moved R w k m acts.End fault_kind) (slice_set ps k (end_faulted x p r)))
    end_hurt endings.NoMemory r shut cut h = hurt_by (is_none (job_in p.task)) r shut cut h
    end_hurt endings.Clean r shut cut h = end_faulted_at endings.Clean r shut cut h
    end_hurt (endings.Broken place) r shut cut h = end_faulted_at (endings.Broken place) r shut cut h
    end_hurt endings.SourceFault r shut cut h = end_faulted_at endings.SourceFault r shut cut h
    end_hurt endings.SinkFault r shut cut h = end_faulted_at endings.SinkFault r shut cut h
    end_hurt endings.SourceTooLong r shut cut h = end_faulted_at endings.SourceTooLong r shut cut h

    over : (n : ℕ) (r : Option Reply) → IsShut p.task → EndsSo e p (next_at p) → (n ≡ 5 → is_cut_off run k e later ≡ cuts ending e p) → Right R w k m acts.End r ending (kind_of n)
        → enter n ≡ Some (run_of R (moved R w k m acts.End (kind_of n)) (slice_set ps k (end_heard e p n r)))
    unfolding entered
    over zero r shut so cut right = absurd right
    over (suc zero) r shut so cut right = absurd right
    over (suc (suc zero)) r shut so cut right = absurd right
    over (suc (suc (suc zero))) r shut so cut right = absurd right
    over (suc (suc (suc (suc zero)))) r shut so cut right = absurd right
    over (suc (suc (suc (suc (suc zero))))) r shut so cut right =
        ap (λ x. Some (faulted run k w.events e later x)) nx ∙ end_hurt e r shut (cut refl) right.1
    over (suc (suc (suc (suc (suc (suc zero)))))) r shut so cut right =
        let is = model_is p (shut_idle p.task shut) in
        ap (λ x. ends run k e x) nx ∙ all_ended e (model_next p) (subst (λ y. EndsSo e p y) is so) (open_model p ∙ none_swept p.task shut) (sym knows ∙ none_swept p.task shut)
        ∙ ap (λ y. Some (run_of R (moved R w k m acts.End end_kind) (slice_set ps k (last_words e p y)))) (sym is)
        ∙ ap Some (same_lane R (moved R w k m acts.End end_kind) ps k (last_words e p (next_at p)) (end_heard e p 6 r) refl)
    over (suc (suc (suc (suc (suc (suc (suc zero))))))) r shut so cut right = absurd right
    over (suc (suc (suc (suc (suc (suc (suc (suc n)))))))) r shut so cut right = absurd right

    asks_here : (v : Event) (a : Act) → IsIdle p.task → v.act ≡ a → Asks (next_at p) v.act → Asks (ahead (model_next p)) a
    asks_here v a idle is asks = subst (λ y. Asks (ahead (model_next p)) y) is (subst (λ x. Asks x v.act) (model_is p idle) asks)

    -- an event of the lane moves the run as the definitions say, where no SYNC is open
    acted : (a : Act) (x : Answer) (v : Event) (vs : List Event) → IsIdle p.task → v.act ≡ a → Does (class_of a) e p v vs
        → ((x.entry).kind ≡ FAULT_KIND → is_cut_off run k e later ≡ cuts (class_of a) e p)
        → Right R w k m a x.reply (class_of a) (kind_of (x.entry).kind)
        → enter (x.entry).kind ≡ Some (run_of R (moved R w k m a (kind_of (x.entry).kind)) (slice_set ps k (heard_as (class_of a) e p x)))
    acted acts.End x v vs idle is does cut right = over (x.entry).kind x.reply does.2 does.0 cut right
    acted acts.Short x v vs idle is does cut right =
        wanted (x.entry).kind x.reply idle does.1 right
        ∙ ap Some (heard_is (moved R w k m acts.Short (kind_of (x.entry).kind)) x idle
        ∙ same_lane R (moved R w k m acts.Short (kind_of (x.entry).kind)) ps k (heard p x) (heard_as wanting e p x) refl)
    acted acts.Start x v vs idle is does cut right =
        asked (x.entry).kind acts.Start x.reply (asks_here v acts.Start idle is does.1) cut right
        ∙ ap Some (heard_is (moved R w k m acts.Start (kind_of (x.entry).kind)) x idle)
    acted (acts.RemoteList c) x v vs idle is does cut right =
        asked (x.entry).kind (acts.RemoteList c) x.reply (asks_here v (acts.RemoteList c) idle is does.1) cut right
        ∙ ap Some (heard_is (moved R w k m (acts.RemoteList c) (kind_of (x.entry).kind)) x idle)
    acted (acts.RemoteFile snapshot name offset) x v vs idle is does cut right =
        asked (x.entry).kind (acts.RemoteFile snapshot name offset) x.reply (asks_here v (acts.RemoteFile snapshot name offset) idle is does.1) cut right
        ∙ ap Some (heard_is (moved R w k m (acts.RemoteFile snapshot name offset) (kind_of (x.entry).kind)) x idle)
    acted (acts.RemoteChunk digest) x v vs idle is does cut right =
        asked (x.entry).kind (acts.RemoteChunk digest) x.reply (asks_here v (acts.RemoteChunk digest) idle is does.1) cut right
        ∙ ap Some (heard_is (moved R w k m (acts.RemoteChunk digest) (kind_of (x.entry).kind)) x idle)
    acted acts.Step x v vs idle is does cut right =
        asked (x.entry).kind acts.Step x.reply (asks_here v acts.Step idle is does) cut right
        ∙ ap Some (heard_is (moved R w k m acts.Step (kind_of (x.entry).kind)) x idle)
    acted (acts.Plain c) x v vs idle is does cut right =
        asked (x.entry).kind (acts.Plain c) x.reply (asks_here v (acts.Plain c) idle is does.1) cut right
        ∙ ap Some (heard_is (moved R w k m (acts.Plain c) (kind_of (x.entry).kind)) x idle)
    acted (acts.JobGroup c) x v vs idle is does cut right =
        asked (x.entry).kind (acts.JobGroup c) x.reply (asks_here v (acts.JobGroup c) idle is does.1) cut right
        ∙ ap Some (heard_is (moved R w k m (acts.JobGroup c) (kind_of (x.entry).kind)) x idle)
    acted (acts.Blob name checked) x v vs idle is does cut right =
        asked (x.entry).kind (acts.Blob name checked) x.reply (asks_here v (acts.Blob name checked) idle is does.1) cut right
        ∙ ap Some (heard_is (moved R w k m (acts.Blob name checked) (kind_of (x.entry).kind)) x idle)
    acted (acts.ReadFile name offset) x v vs idle is does cut right =
        asked (x.entry).kind (acts.ReadFile name offset) x.reply (asks_here v (acts.ReadFile name offset) idle is does.1) cut right
        ∙ ap Some (heard_is (moved R w k m (acts.ReadFile name offset) (kind_of (x.entry).kind)) x idle)
    acted (acts.ReadChunk name entry) x v vs idle is does cut right =
        asked (x.entry).kind (acts.ReadChunk name entry) x.reply (asks_here v (acts.ReadChunk name entry) idle is does.1) cut right
        ∙ ap Some (heard_is (moved R w k m (acts.ReadChunk name entry) (kind_of (x.entry).kind)) x idle)
    acted (acts.Chunk digest checked) x v vs idle is does cut right =
        asked (x.entry).kind (acts.Chunk digest checked) x.reply (asks_here v (acts.Chunk digest checked) idle is does.1) cut right
        ∙ ap Some (heard_is (moved R w k m (acts.Chunk digest checked) (kind_of (x.entry).kind)) x idle)

    pub turned : (v : Event) (vs : List Event) → IsIdle p.task → lane v ≡ k → moment v ≡ m → Does (class_of v.act) e p v vs
        → (kind v ≡ FAULT_KIND → is_cut_off run k e later ≡ cuts (class_of v.act) e p)
        → Right R w k m v.act (reply v) (class_of v.act) (kind_of (kind v))
        → enter (kind v) ≡ Some (run_of R (moved R w k m v.act (kind_of (kind v))) (slice_set ps k (position_after e p v)))
    unfolding position_after
    turned v vs idle l t does cut right = acted v.act v.answer v vs idle refl does cut right
