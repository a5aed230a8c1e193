-- No command and no job tells a collector's report.
use Rattle.std.proofs.Common.{◌≡◌, ℕ, ◌+◌, Bool, true, false, List, [], ◌∷◌, ◌++◌, length, Option, Some, None, Ok, Err, refl, if◌then◌else◌, nat_lt}
use Rattle.std.specs.Option.{option_or}
use Rattle.store_types.specs.declared.names.Keep.{Keep}
use Rattle.store_types.specs.declared.refusal.Refusal.{Refusal}
use Rattle.store_types.specs.declared.refusal.Refusal.TheVariants.{SnapshotBusy, NoSnapshot, Damaged, Unreadable, NoMemory, RemoteFault, DiskFault, Halted}
use Rattle.store_types.specs.Names.{key_text}
use Rattle.store_files.specs.Archive.{Snapshot}
use Rattle.wire_commands.specs.declared.command.Command.{Command}
use Rattle.wire_commands.specs.declared.command.Command.TheVariants as commands
use Rattle.wire_commands.specs.declared.reply.Reply.{Reply}
use Rattle.wire_commands.specs.declared.reply.Reply.TheVariants as replies
use Rattle.wire_commands.specs.declared.rows.FileRow.{FileRow}
use Rattle.wire_commands.specs.declared.rows.FileFault.{FileFault}
use Rattle.wire_commands.specs.declared.rows.FileFault.TheVariants as faults
use Rattle.wire_commands.specs.declared.rows.PruneMark.TheVariants.{Removed, Held, Gone}
use Rattle.wire_commands.specs.declared.rows.PruneRow.{PruneRow}
use Rattle.store_types.specs.declared.piece.Piece.{Piece}
use Rattle.store_model.specs.SizeLimits.{size_limit}
use Rattle.store_model.specs.Store.{Store, Outcome}
use Rattle.store_model.specs.Steps.{answered}
use Rattle.store_model.specs.Done.{IsAnswer, Leaves}
use Rattle.store_model.specs.Job.{Visit, Pull, Asking, grouping, forgetting, opening, listing, reading, checking, closing, beginning, sending, aborting, Job, over, asking, stopped, closed}
use Rattle.store_model.specs.Jobs.{job_of, take as job_take}
use Rattle.store_model.specs.PruneJob as prune
use Rattle.store_model.specs.VerifyJob as verify
use Rattle.store_model.specs.SyncJob as sync
use Rattle.store_history.specs.declared.act.Act.{Act}
use Rattle.store_history.specs.History.{World, act_outcome}
use Rattle.store_history.specs.LaneRun.{blank}
use Rattle.store_history.proofs.ActShapes.{act_effect, act_left}

-- the reply has no numbers of a collector
abbrev pub IsPlainReply : Reply → Type 0
IsPlainReply r = blank r ≡ r

-- ---- acts

answers_plainly : (r : Reply) → IsAnswer r → IsPlainReply r
answers_plainly (replies.Collected start cutoff used pending removed) h = absurd h
answers_plainly r h = refl

pub says_plainly : (R : Option (List Snapshot)) (w : World) (k m : ℕ) (a : Act) → IsPlainReply (answered w.store (act_outcome R w k m a)).1
says_plainly R w k m a = by_outcome (act_outcome R w k m a) (act_left R w k m a)
  where
    by_outcome : (o : Outcome) → ((after : Store × Reply) → o ≡ Ok after → Leaves w.store k m (act_effect a) after) → IsPlainReply (answered w.store o).1
    by_outcome (Ok after) left = answers_plainly after.1 (left after refl).reply
    by_outcome (Err refusal) left = refl

-- ---- jobs

-- what a job that closes its session is to report has none
abbrev pub KeepsPlain : Asking → Type 0
KeepsPlain (closing report) = IsPlainReply report
KeepsPlain (aborting report) = IsPlainReply report
KeepsPlain _ = Unit {0}

abbrev pub IsPlainJob : Job → Type 0
IsPlainJob (over report) = IsPlainReply report
IsPlainJob (asking j) = KeepsPlain j

abbrev pub ArePlain : Option Asking → Type 0
ArePlain None = Unit {0}
ArePlain (Some j) = KeepsPlain j

pub begun_plainly : (c : Command) → ArePlain (job_of c)
begun_plainly (commands.Prune group keep dry) = tt
begun_plainly (commands.Verify snapshot) = tt
begun_plainly c = tt

abbrev IsClose : (Reply → Asking) → Type 0
IsClose close = (r : Reply) → IsPlainReply r → KeepsPlain (close r)

stopped_plainly : (close : Reply → Asking) (refusal : Refusal) → IsClose close → IsPlainJob (stopped close refusal)
stopped_plainly close DiskFault h = refl
stopped_plainly close (Halted place) h = refl
stopped_plainly close refusal h = h (replies.Refused refusal) refl

closed_plainly : (close : Reply → Asking) (report r : Reply) → IsClose close → IsPlainReply report → IsPlainJob (closed close report r)
closed_plainly close (replies.Refused first) (replies.Refused NoMemory) h plainly = h (replies.Refused first) refl
closed_plainly close (replies.Refused first) (replies.Refused RemoteFault) h plainly = h (replies.Refused first) refl
closed_plainly close (replies.Refused first) (replies.Refused refusal) h plainly = refl
closed_plainly close (replies.Refused first) r h plainly = refl
closed_plainly close report (replies.Refused NoMemory) h plainly = h (replies.Refused NoMemory) refl
closed_plainly close report (replies.Refused RemoteFault) h plainly = h (replies.Refused RemoteFault) refl
closed_plainly close report (replies.Refused refusal) h plainly = refl
closed_plainly close report r h plainly = plainly

-- PRUNE

on_plainly : (before later : List PruneRow) → IsPlainJob (prune.go_on before later)
unfolding prune.go_on
on_plainly before [] = refl
on_plainly before (r ∷ later) = by_test (prune.is_to_go r) (on_plainly (before ++ r ∷ []) later)
  where
    by_test : (b : Bool) → IsPlainJob (prune.go_on (before ++ r ∷ []) later)
        → IsPlainJob (if b then asking (forgetting before r.snapshot later) else prune.go_on (before ++ r ∷ []) later)
    by_test true h = tt
    by_test false h = h

grouped_plainly : (keep : Keep) (dry : Bool) (r : Reply) → IsPlainReply r → IsPlainJob (prune.grouped keep dry r)
unfolding prune.grouped
grouped_plainly keep true (replies.Keys snapshots) h = refl
grouped_plainly keep false (replies.Keys snapshots) h = on_plainly [] (prune.rows_meant keep snapshots)
grouped_plainly keep dry r h = h

forgot_plainly : (before : List PruneRow) (snapshot : List ℕ) (later : List PruneRow) (r : Reply) → IsPlainReply r → IsPlainJob (prune.forgot before snapshot later r)
unfolding prune.forgot
forgot_plainly before snapshot later replies.Done h = on_plainly (before ++ prune.row Removed snapshot ∷ []) later
forgot_plainly before snapshot later (replies.Refused (SnapshotBusy lane)) h = on_plainly (before ++ prune.row Held snapshot ∷ []) later
forgot_plainly before snapshot later (replies.Refused NoSnapshot) h = on_plainly (before ++ prune.row Gone snapshot ∷ []) later
forgot_plainly before snapshot later (replies.Refused refusal) h = refl
forgot_plainly before snapshot later r h = h

-- VERIFY

file_plainly : (v : Visit) (rows : List FileRow) → IsPlainJob (verify.next_file v rows)
unfolding verify.next_file
file_plainly v [] = refl
file_plainly v (row ∷ later) = tt

done_plainly : (v : Visit) (row : FileRow) (fault : Option FileFault) → IsPlainJob (verify.file_done v row fault)
unfolding verify.file_done
done_plainly v row fault = file_plainly (verify.with_fault row fault (record v { files = v.files + 1 })) v.later

next_plainly : (v : Visit) (row : FileRow) (fault : Option FileFault) (place : ℕ) (ps : List Piece) → IsPlainJob (verify.next_chunk v row fault place ps)
unfolding verify.next_chunk
next_plainly v row fault place [] = done_plainly v row fault
next_plainly v row fault place (p ∷ ps) = tt

read_plainly : (v : Visit) (row : FileRow) (j : verify.Judged) → IsPlainJob (verify.file_read v row j)
unfolding verify.file_read
read_plainly v row j = next_plainly (record v { entries = v.entries + length j.entries; bytes = v.bytes + j.bytes }) row j.fault 0 j.entries

part_plainly : (v : Visit) (row : FileRow) (bytes : List ℕ) (total : ℕ) → IsPlainJob (verify.part_read v row bytes total)
unfolding verify.part_read
part_plainly v row bytes total = by_tests (nat_lt (size_limit row.file) total) (nat_lt (length bytes) total)
  where
    by_tests : (long more : Bool) → IsPlainJob (
        if long then verify.file_done v row (Some (verify.too_long row total)) else
        if more then asking (reading v row bytes) else
        verify.file_read v row (verify.judged v.snapshot row bytes))
    by_tests true more = done_plainly v row (Some (verify.too_long row total))
    by_tests false true = tt
    by_tests false false = read_plainly v row (verify.judged v.snapshot row bytes)

opened_plainly : (snapshot : List ℕ) (r : Reply) → IsPlainReply r → IsPlainJob (verify.opened snapshot r)
unfolding verify.opened
opened_plainly snapshot replies.Done h = tt
opened_plainly snapshot r h = h

listed_plainly : (snapshot : List ℕ) (r : Reply) → IsPlainReply r → IsPlainJob (verify.listed snapshot r)
unfolding verify.listed
listed_plainly snapshot (replies.Files rows) h = file_plainly (verify.begun snapshot) rows
listed_plainly snapshot (replies.Refused refusal) h = stopped_plainly closing refusal (λ r p. p)
listed_plainly snapshot r h = h

told_part : (v : Visit) (row : FileRow) (bytes : List ℕ) (r : Reply) → IsPlainReply r → IsPlainJob (verify.read_part v row bytes r)
unfolding verify.read_part
told_part v row bytes (replies.Part total more) h = part_plainly v row (bytes ++ more) total
told_part v row bytes (replies.Refused (Damaged asked found)) h = done_plainly v row (Some (faults.Damaged asked))
told_part v row bytes (replies.Refused (Unreadable name)) h = done_plainly v row (Some faults.Unreadable)
told_part v row bytes (replies.Refused refusal) h = stopped_plainly closing refusal (λ r p. p)
told_part v row bytes r h = h

told_chunk : (v : Visit) (row : FileRow) (fault : Option FileFault) (place : ℕ) (p : Piece) (later : List Piece) (r : Reply)
    → IsPlainReply r → IsPlainJob (verify.checked v row fault place p later r)
unfolding verify.checked
told_chunk v row fault place p later (replies.Data bytes) h = next_plainly v row (option_or fault (verify.chunk_fault p bytes)) (place + 1) later
told_chunk v row fault place p later (replies.Refused (Damaged asked found)) h = next_plainly v row (option_or fault (Some (faults.Damaged p.digest))) (place + 1) later
told_chunk v row fault place p later (replies.Refused (Unreadable name)) h = done_plainly v row (option_or fault (Some faults.Unreadable))
told_chunk v row fault place p later (replies.Refused refusal) h = stopped_plainly closing refusal (λ r h. h)
told_chunk v row fault place p later r h = h

-- SYNC

snapshot_plainly : (pulled : List (List ℕ)) (snapshots : List Snapshot) → IsPlainJob (sync.next_snapshot pulled snapshots)
unfolding sync.next_snapshot
snapshot_plainly pulled [] = refl
snapshot_plainly pulled (x ∷ xs) = tt

sent_plainly : (p : Pull) (cs : List Command) → IsPlainJob (sync.next_command p cs)
unfolding sync.next_command
sent_plainly p [] = snapshot_plainly (p.pulled ++ key_text (p.snapshot).key ∷ []) p.later
sent_plainly p (c ∷ cs) = tt

begins_plainly : (p : Pull) (r : Reply) → IsPlainReply r → IsPlainJob (sync.begun p r)
unfolding sync.begun
begins_plainly p (replies.Base snapshot) h = sent_plainly p (sync.commands_of p.snapshot)
begins_plainly p r h = h

replied_plainly : (p : Pull) (later : List Command) (r : Reply) → IsPlainReply r → IsPlainJob (sync.replied p later r)
unfolding sync.replied
replied_plainly p later (replies.Refused refusal) h = stopped_plainly aborting refusal (λ r p. p)
replied_plainly p later r h = sent_plainly p later

-- the job after a reply
pub take_plainly : (j : Asking) (r : Reply) → KeepsPlain j → IsPlainReply r → IsPlainJob (job_take j r)
unfolding job_take
take_plainly (grouping c keep dry) r kept h = grouped_plainly keep dry r h
take_plainly (forgetting before snapshot later) r kept h = forgot_plainly before snapshot later r h
take_plainly (opening snapshot) r kept h = opened_plainly snapshot r h
take_plainly (listing snapshot) r kept h = listed_plainly snapshot r h
take_plainly (reading v row bytes) r kept h = told_part v row bytes r h
take_plainly (checking v row fault place piece later) r kept h = told_chunk v row fault place piece later r h
take_plainly (closing report) r kept h = closed_plainly closing report r (λ x p. p) kept
take_plainly (beginning p) r kept h = begins_plainly p r h
take_plainly (sending p c later) r kept h = replied_plainly p later r h
take_plainly (aborting report) r kept h = closed_plainly aborting report r (λ x p. p) kept
