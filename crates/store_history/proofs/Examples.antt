-- Lanes that run, and histories that are legal.
use Rattle.std.specs.Prelude.{◌≡◌, ℕ, Bool, List, [], ◌∷◌, ◌++◌, codes, refl, Option, Some, None, Result, Ok, Err, true, false, ⊤}
use Rattle.std.specs.List.{flat_map}
use Rattle.std.proofs.Common.{arith, ap}
use Rattle.store_types.specs.declared.refusal.Refusal.{Refusal}
use Rattle.store_types.specs.declared.refusal.Refusal.TheVariants.{BadFrame, CollectorBusy, DiskFault, Halted, NoMemory, NoSnapshot, RemoteFault, SnapshotBusy, WrongState}
use Rattle.store_types.specs.declared.refusal.SessionState.TheVariants.{Idle}
use Rattle.wire_frames.specs.Frames.{frame}
use Rattle.wire_commands.specs.declared.command.Command.{Command}
use Rattle.wire_commands.specs.declared.command.Command.TheVariants.{OpenWriter, Abort, OpenReader, CloseReader, Files as FilesOf, Finish, Forget, Group, Prune, Verify, Sync, Gc, Bye}
use Rattle.wire_commands.specs.declared.reply.Reply.{Reply}
use Rattle.wire_commands.specs.declared.reply.Reply.TheVariants.{Done, Base, Keys, Marks, Collected, Refused}
use Rattle.wire_commands.specs.declared.rows.PruneMark.TheVariants.{Kept, Held}
use Rattle.wire_commands.specs.CommandText.{command_text}
use Rattle.store_model.specs.declared.ending.Ending.TheVariants as endings
use Rattle.store_model.specs.Store.{Reader, Writer, reader, session, writer}
use Rattle.store_model.specs.PruneJob.{row}
use Rattle.store_model.proofs.OnLiterals.{store_model_on_literals}
use Rattle.store_history.specs.declared.act.Act.{Act}
use Rattle.store_history.specs.declared.act.Act.TheVariants as acts
use Rattle.store_history.specs.declared.act.Event.{Event}
use Rattle.store_history.specs.History.{Opening, World, act_outcome, moved, after, after_all, opened}
use Rattle.store_history.specs.Legal.{IsLegal, IsRight, closes}
use Rattle.store_types.specs.FileNames.{manifest_name}
use Rattle.store_history.specs.Pulling.{Pulling, next_snapshot as next_pulled, sought, compared, started, manifest_told, take}
use Rattle.store_history.specs.LaneRun.{Task, LaneRan, text, next_at, goes_on, pulls_on, heard_at, heard, last_words, position_after, may_want, may_want_at}

abbrev event : Act → ℕ → Option Reply → ℕ → Bool → Event
event a kind r place last = record { act = a; answer = record { reply = r; entry = record { lane = 0; moment = 5; kind = kind }; place = place; last = last }; calls = 3 }

abbrev end : ℕ → Event
end place = event acts.End 6 None place false

abbrev sent : List Command → List ℕ
sent = flat_map (λ c. frame (command_text c))

unfoldable on_histories : ⊤
unfolding act_outcome moved after after_all text next_at goes_on pulls_on heard_at heard last_words position_after may_want may_want_at next_pulled sought compared started manifest_told take store_model_on_literals
on_histories = tt

abbrev no_session : Reply
no_session = Refused (WrongState Idle)

abbrev short : Option Reply
short = Some (Refused NoMemory)

-- FINISH, want of memory, a fault, what comes after it, and BYE
abbrev h : List Event
h =
    event (acts.Plain Finish) 0 (Some no_session) 0 false ∷ event (acts.Plain Finish) 2 short 1 false
    ∷ event (acts.Plain Finish) 5 (Some (Refused DiskFault)) 2 false ∷ event (acts.Plain Finish) 5 (Some (Refused (Halted 2))) 3 false ∷ end 4 ∷ []

abbrev told : List Reply
told = no_session ∷ Refused NoMemory ∷ Refused DiskFault ∷ Refused (Halted 2) ∷ Done ∷ []

ran : LaneRan (sent (Finish ∷ Finish ∷ Finish ∷ Finish ∷ Bye ∷ [])) endings.Clean h told
unfolding on_histories
ran = (refl, (refl, refl), (refl, (refl, refl), (refl, (refl, refl), (refl, (refl, refl), (refl, (refl, (λ five. cc), tt), (refl, refl))))))

abbrev start : Opening
start = record { snapshots = []; moment = 4; touches = []; calls = 3; chunks = [] }

legal : IsLegal None (opened start) h
unfolding on_histories
legal = (
  record { says = (refl, refl); formed = tt; inside = omega arith; place = refl; last = λ is. cc; risen = omega arith; in_time = omega arith; counted = omega arith },
  (
    record { says = (refl, λ is. (let e = is.1 in cc)); formed = tt; inside = omega arith; place = refl; last = λ is. cc; risen = omega arith; in_time = omega arith; counted = omega arith },
    (
      record { says = refl; formed = tt; inside = omega arith; place = refl; last = λ is. cc; risen = omega arith; in_time = omega arith; counted = omega arith },
      (
        record { says = refl; formed = tt; inside = omega arith; place = refl; last = λ is. cc; risen = omega arith; in_time = omega arith; counted = omega arith },
        (record { says = refl; formed = tt; inside = omega arith; place = refl; last = λ is. cc; risen = omega arith; in_time = omega arith; counted = omega arith }, tt),
      ),
    ),
  ),
)

-- an ABORT that ends a writer is not answered by want of memory, nor is a CLOSE_READER that ends a reader
abort_is_held : (w : World) (x : Writer) → w.fault ≡ None → session w.store 0 ≡ writer x → IsRight None w (event (acts.Plain Abort) 2 short 0 false) → ⊥
abort_is_held w x none at right = (right.says).1 (none, ap (closes (acts.Plain Abort)) at)

close_is_held : (w : World) (x : Reader) → w.fault ≡ None → session w.store 0 ≡ reader x → IsRight None w (event (acts.Plain CloseReader) 2 short 0 false) → ⊥
close_is_held w x none at right = (right.says).1 (none, ap (closes (acts.Plain CloseReader)) at)

-- a cut frame behind a FINISH: what the lane's end is replied, and that it is not where the source failed
abbrev cut_input : List ℕ
cut_input = sent (Finish ∷ []) ++ 2 ∷ 0 ∷ []

abbrev one : Event
one = event (acts.Plain Finish) 0 (Some no_session) 0 false

cut_frame : LaneRan cut_input (endings.Broken 5) (one ∷ end 1 ∷ []) (no_session ∷ Refused (BadFrame 5) ∷ [])
unfolding on_histories
cut_frame = (refl, (refl, refl), (refl, ((refl, refl), (λ five. cc), tt), (refl, refl)))

source_failed : LaneRan cut_input endings.SourceFault (one ∷ end 1 ∷ []) (no_session ∷ [])
unfolding on_histories
source_failed = (refl, (refl, refl), (refl, ((refl, refl, refl), (λ five. cc), tt), (refl, refl)))

-- no lane leaves a whole frame without a reply because its source failed
no_command_left : LaneRan (1 ∷ 0 ∷ 0 ∷ 0 ∷ 99 ∷ []) endings.SourceFault (end 0 ∷ []) [] → ⊥
unfolding on_histories
no_command_left ran = let is : Rattle.wire_frames.specs.Frames.whole (99 ∷ []) [] ≡ Rattle.wire_frames.specs.Frames.short = ((ran.1).0).2 in cc

-- a frame that could not be held: the 28 uses it up and ends the lane, whose end meets a fault and comes again
not_held : LaneRan (2 ∷ 0 ∷ 0 ∷ 0 ∷ []) endings.NoMemory
    (event acts.Short 2 short 0 true ∷ event acts.End 5 (Some (Refused DiskFault)) 1 false ∷ end 2 ∷ []) (Refused NoMemory ∷ [])
unfolding on_histories
not_held = (refl, (refl, refl), (refl, ((refl, refl), (λ five. (refl, refl)), tt), (refl, ((refl, refl), (λ five. cc), tt), (refl, refl))))

-- and no lane ends as if its input had ended, where it was used up
not_clean : LaneRan (2 ∷ 0 ∷ 0 ∷ 0 ∷ []) endings.Clean (event acts.Short 2 short 0 false ∷ end 1 ∷ []) (Refused NoMemory ∷ []) → ⊥
unfolding on_histories
not_clean ran = let is : true ≡ false = ((ran.2).1).0 in cc

-- memory is never wanting for a frame of one byte
no_short_bye : LaneRan (sent (Bye ∷ [])) endings.NoMemory (event acts.Short 2 short 0 true ∷ end 1 ∷ []) (Refused NoMemory ∷ []) → ⊥
unfolding on_histories
no_short_bye ran = let is : false ≡ true = (ran.1).1 in cc

-- the sink failed with a FINISH left, and the end met a fault: it counts as the FINISH's
sink_failed : LaneRan (sent (Finish ∷ Finish ∷ [])) endings.SinkFault
    (one ∷ event acts.End 5 (Some (Refused DiskFault)) 1 false ∷ end 2 ∷ []) (no_session ∷ Refused DiskFault ∷ [])
unfolding on_histories
sink_failed = (refl, (refl, refl), (refl, (tt, (λ five. (refl, refl)), tt), (refl, (tt, (λ five. cc), tt), (refl, refl))))

-- ---- a job

abbrev prune : Command
prune = Prune (codes "host/a") (record { last = 1; hourly = 0; daily = 0; weekly = 0; monthly = 0; yearly = 0 }) false

abbrev older : List ℕ
older = codes "host/a/2020-01-14T00:00:00Z"

abbrev newer : List ℕ
newer = codes "host/a/2020-01-15T12:00:00Z"

abbrev grouped : Event
grouped = event (acts.JobGroup prune) 0 (Some (Keys (older ∷ newer ∷ []))) 0 false

abbrev forget : ℕ → Option Reply → Event
forget kind r = event (acts.Plain (Forget older)) kind r 1 false

-- a lane holds the one that is to go
held : LaneRan (sent (prune ∷ Bye ∷ [])) endings.Clean (grouped ∷ forget 0 (Some (Refused (SnapshotBusy 3))) ∷ end 2 ∷ [])
    (Marks (row Kept newer ∷ row Held older ∷ []) ∷ Done ∷ [])
unfolding on_histories
held = (refl, (refl, refl), (refl, (refl, refl), (refl, (refl, (λ five. cc), tt), (refl, refl))))

-- a fault of the disk is the job's answer
faulted : LaneRan (sent (prune ∷ Bye ∷ [])) endings.Clean (grouped ∷ forget 5 (Some (Refused DiskFault)) ∷ end 2 ∷ []) (Refused DiskFault ∷ Done ∷ [])
unfolding on_histories
faulted = (refl, (refl, refl), (refl, (refl, refl), (refl, (refl, (λ five. cc), tt), (refl, refl))))

-- and so is want of memory within the job, which ends the lane where its entry was the reserve's
wanted : LaneRan (sent (prune ∷ Bye ∷ [])) endings.NoMemory (grouped ∷ event acts.Short 2 short 1 true ∷ end 2 ∷ []) (Refused NoMemory ∷ [])
unfolding on_histories
wanted = (refl, (refl, refl), (refl, (refl, refl), (refl, ((refl, refl), (λ five. cc), tt), (refl, refl))))

-- no lane's input has ended while its job is open
not_open : LaneRan (sent (prune ∷ [])) endings.Clean (grouped ∷ end 1 ∷ []) [] → ⊥
unfolding on_histories
not_open ran = ((ran.2).1).0

-- a store without snapshots
legal_job : IsLegal None (opened start) (event (acts.JobGroup prune) 0 (Some (Keys [])) 0 false ∷ end 1 ∷ [])
unfolding on_histories
legal_job = (
  record { says = (refl, refl); formed = tt; inside = omega arith; place = refl; last = λ is. cc; risen = omega arith; in_time = omega arith; counted = omega arith },
  (record { says = refl; formed = tt; inside = omega arith; place = refl; last = λ is. cc; risen = omega arith; in_time = omega arith; counted = omega arith }, tt),
)

-- ---- a collector

abbrev opens : Event
opens = event acts.Start 3 None 0 false

abbrev acted : ℕ → Option Reply → ℕ → Bool → Event
acted kind r place last = event acts.Step kind r place last

-- its five numbers may be any
abbrev report : Reply
report = Collected 1_000_000 913_300 2 0 0

-- it opens, does two acts and reports
collected : LaneRan (sent (Gc ∷ Bye ∷ [])) endings.Clean (opens ∷ acted 1 None 1 false ∷ acted 1 None 2 false ∷ acted 4 (Some report) 3 false ∷ end 4 ∷ []) (report ∷ Done ∷ [])
unfolding on_histories
collected = (refl, (refl, refl), (refl, refl, (refl, refl, (refl, refl, (refl, (refl, (λ five. cc), tt), (refl, refl))))))

legal_collected : IsLegal None (opened start) (opens ∷ acted 1 None 1 false ∷ acted 4 (Some report) 2 false ∷ end 3 ∷ [])
unfolding on_histories
legal_collected = (
  record { says = (refl, refl, refl); formed = tt; inside = omega arith; place = refl; last = λ is. cc; risen = omega arith; in_time = omega arith; counted = omega arith },
  (
    record { says = (refl, refl, refl); formed = tt; inside = omega arith; place = refl; last = λ is. cc; risen = omega arith; in_time = omega arith; counted = omega arith },
    (
      record { says = (refl, tt); formed = tt; inside = omega arith; place = refl; last = λ is. cc; risen = omega arith; in_time = omega arith; counted = omega arith },
      (record { says = refl; formed = tt; inside = omega arith; place = refl; last = λ is. cc; risen = omega arith; in_time = omega arith; counted = omega arith }, tt),
    ),
  ),
)

-- Memory was wanting for an act of it, whose entry was the reserve's: it is closed by one act more, which tells this, and then the lane ends.
cut_short : LaneRan (sent (Gc ∷ Finish ∷ [])) endings.NoMemory (opens ∷ acted 2 short 1 true ∷ acted 4 short 2 false ∷ end 3 ∷ []) (Refused NoMemory ∷ [])
unfolding on_histories
cut_short = (refl, (refl, refl), (refl, refl, (refl, refl, (refl, ((refl, refl), (λ five. cc), tt), (refl, refl)))))

legal_cut : IsLegal None (opened start) (opens ∷ acted 2 short 1 true ∷ acted 4 short 2 false ∷ end 3 ∷ [])
unfolding on_histories
legal_cut = (
  record { says = (refl, refl, refl); formed = tt; inside = omega arith; place = refl; last = λ is. cc; risen = omega arith; in_time = omega arith; counted = omega arith },
  (
    record { says = (refl, λ is. (let e : Some false ≡ Some true = is in cc)); formed = tt; inside = omega arith; place = refl; last = λ is. refl; risen = omega arith; in_time = omega arith; counted = omega arith },
    (
      record { says = (refl, refl); formed = tt; inside = omega arith; place = refl; last = λ is. cc; risen = omega arith; in_time = omega arith; counted = omega arith },
      (record { says = refl; formed = tt; inside = omega arith; place = refl; last = λ is. cc; risen = omega arith; in_time = omega arith; counted = omega arith }, tt),
    ),
  ),
)

-- no lane ends while its collector is open
not_left_open : LaneRan (sent (Gc ∷ [])) endings.SinkFault (opens ∷ end 1 ∷ []) [] → ⊥
unfolding on_histories
not_left_open ran = ((ran.2).1).2

-- nor does it want memory outside the collector's acts
not_short_open : LaneRan (sent (Gc ∷ Finish ∷ [])) endings.NoMemory (opens ∷ event acts.Short 2 short 1 true ∷ end 2 ∷ []) [] → ⊥
unfolding on_histories
not_short_open ran = let is : false ≡ true = ((ran.2).1).1 in cc

-- once memory was wanting, its next act is its last
not_marked : IsRight None (record (opened start) { collecting = Some (record { lane = 0; is_out_of_memory = true }) }) (acted 1 None 0 false) → ⊥
unfolding on_histories
not_marked right = let is : Some true ≡ Some false = (right.says).1 in cc

-- and a second one does not open
not_opened : IsRight None (record (opened start) { collecting = Some (record { lane = 1; is_out_of_memory = false }) }) opens → ⊥
unfolding on_histories
not_opened right = no_two (right.says).1
  where
    no_two : ◌≡◌ {A = Result (Unit {0}) Refusal} (Err (CollectorBusy 1)) (Ok tt) → ⊥
    no_two is = cc

-- ---- a VERIFY that is refused

abbrev opens_reader : Event
opens_reader = event (acts.Plain (OpenReader [])) 0 (Some Done) 0 false

abbrev closes_reader : ℕ → Event
closes_reader place = event (acts.Plain CloseReader) 0 (Some Done) place false

-- Memory was wanting for its files, and the entry was the reserve's: its reader is closed by one act more, then this is told, and the lane ends.
verify_cut : LaneRan (sent (Verify [] ∷ Finish ∷ [])) endings.NoMemory
    (opens_reader ∷ event (acts.Plain (FilesOf [])) 2 short 1 true ∷ closes_reader 2 ∷ end 3 ∷ []) (Refused NoMemory ∷ [])
unfolding on_histories
verify_cut = (refl, (refl, refl), (refl, (refl, refl), (refl, (refl, refl), (refl, ((refl, refl), (λ five. cc), tt), (refl, refl)))))

none_open : (t : Task) → Some t ≡ None → ⊥
none_open t e = cc

-- it does not end with its reader open
not_left_reading : LaneRan (sent (Verify [] ∷ Finish ∷ [])) endings.NoMemory
    (opens_reader ∷ event (acts.Plain (FilesOf [])) 2 short 1 true ∷ end 2 ∷ []) [] → ⊥
unfolding on_histories
not_left_reading ran = none_open _ ((((ran.2).2).1).0).1

-- no memory is wanting for the step that closes its reader
not_short_closing : LaneRan (sent (Verify [] ∷ Finish ∷ [])) endings.NoMemory
    (opens_reader ∷ event (acts.Plain (FilesOf [])) 0 (Some (Refused NoSnapshot)) 1 false ∷ event acts.Short 2 short 2 true ∷ end 3 ∷ []) (Refused NoMemory ∷ []) → ⊥
unfolding on_histories
not_short_closing ran = let is : false ≡ true = (((ran.2).2).1).1 in cc

-- nor does another command come behind want of memory that ended the lane
not_stepped_on : LaneRan (sent (Finish ∷ Finish ∷ [])) endings.NoMemory (event (acts.Plain Finish) 2 short 0 true ∷ event (acts.Plain Finish) 0 (Some no_session) 1 false ∷ end 2 ∷ []) [] → ⊥
unfolding on_histories
not_stepped_on ran = let is : false ≡ true = ((ran.2).1).0 in cc

-- ---- a SYNC

abbrev host : List ℕ
host = codes "host/a"

abbrev asks_remote : ℕ → Option Reply → Event
asks_remote kind r = event (acts.RemoteList (Sync host)) kind r 0 false

abbrev asks_here : Option Reply → Event
asks_here r = event (acts.Plain (Group host)) 0 r 1 false

-- the remote has nothing of the group
nothing_there : LaneRan (sent (Sync host ∷ Bye ∷ [])) endings.Clean (asks_remote 1 (Some (Keys [])) ∷ asks_here (Some (Keys [])) ∷ end 2 ∷ []) (Keys [] ∷ Done ∷ [])
unfolding on_histories
nothing_there = (refl, (refl, refl), (refl, (refl, refl), (refl, (refl, (λ five. cc), tt), (refl, refl))))

-- its list could not be read
list_failed : LaneRan (sent (Sync host ∷ Bye ∷ [])) endings.Clean (asks_remote 7 (Some (Refused RemoteFault)) ∷ end 1 ∷ []) (Refused RemoteFault ∷ Done ∷ [])
unfolding on_histories
list_failed = (refl, (refl, refl), (refl, (refl, (λ five. cc), tt), (refl, refl)))

-- it has one more, whose manifest could not be read: the writer is ended, and then this is told
abbrev opens_writer : Event
opens_writer = event (acts.Plain (OpenWriter older)) 0 (Some (Base [])) 2 false

abbrev reads_manifest : Event
reads_manifest = event (acts.RemoteFile older manifest_name 0) 7 (Some (Refused RemoteFault)) 3 false

abbrev ends_writer : Event
ends_writer = event (acts.Plain Abort) 0 (Some Done) 4 false

read_failed : LaneRan (sent (Sync host ∷ Bye ∷ [])) endings.Clean
    (asks_remote 1 (Some (Keys (older ∷ []))) ∷ asks_here (Some (Keys [])) ∷ opens_writer ∷ reads_manifest ∷ ends_writer ∷ end 5 ∷ []) (Refused RemoteFault ∷ Done ∷ [])
unfolding on_histories
read_failed = (refl, (refl, refl), (refl, (refl, refl), (refl, (refl, refl), (refl, (refl, refl), (refl, (refl, refl), (refl, (refl, (λ five. cc), tt), (refl, refl)))))))

-- no lane ends with its writer open
not_left_writing : LaneRan (sent (Sync host ∷ Bye ∷ [])) endings.SinkFault
    (asks_remote 1 (Some (Keys (older ∷ []))) ∷ asks_here (Some (Keys [])) ∷ opens_writer ∷ reads_manifest ∷ end 4 ∷ []) [] → ⊥
unfolding on_histories
not_left_writing ran = (((((ran.2).2).2).2).1).2
