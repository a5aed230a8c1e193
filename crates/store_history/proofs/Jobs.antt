-- What a lane's loop needs of a job: the acts that it makes, and where each step of it leads.
-- `leads_step` and `leads_step_short` wait for several lanes: nothing names them yet.
use Rattle.std.proofs.Common.{◌≡◌, ℕ, ◌+◌, ◌-◌, Bool, true, false, ◌||◌, List, [], ◌∷◌, ◌++◌, length, nat_lt, Option, Some, None, refl, sym, ap, subst, ◌∙◌, ◌==◌, if◌then◌else◌}
use Rattle.std.specs.Option.{option_or}
use Rattle.wire_commands.specs.declared.command.Command.{Command}
use Rattle.wire_commands.specs.declared.command.Command.TheVariants as commands
use Rattle.wire_commands.specs.declared.reply.Reply.{Reply}
use Rattle.wire_commands.specs.declared.reply.Reply.TheVariants as replies
use Rattle.wire_commands.specs.declared.rows.PruneMark.TheVariants.{Removed, Held, Gone}
use Rattle.wire_commands.specs.declared.rows.PruneRow.{PruneRow}
use Rattle.store_types.specs.declared.names.Keep.{Keep}
use Rattle.store_types.specs.declared.refusal.Refusal.{Refusal}
use Rattle.store_types.specs.declared.refusal.Refusal.TheVariants.{SnapshotBusy, NoSnapshot, Damaged, Unreadable, NoMemory, RemoteFault, DiskFault, Halted}
use Rattle.wire_commands.specs.declared.rows.FileRow.{FileRow}
use Rattle.wire_commands.specs.declared.rows.FileFault.{FileFault}
use Rattle.wire_commands.specs.declared.rows.FileFault.TheVariants as faults
use Rattle.store_types.specs.declared.piece.Piece.{Piece}
use Rattle.store_model.specs.SizeLimits.{size_limit}
use Rattle.store_model.specs.Job.{Visit, Asking, grouping, forgetting, opening, listing, reading, checking, closing, step_of, Job, over, asking, stopped, closed}
use Rattle.store_model.specs.Jobs.{job_of, IsJob, take as job_take}
use Rattle.store_model.specs.PruneJob as prune
use Rattle.store_model.specs.VerifyJob as verify
use Rattle.store_model.specs.Lanes.{job_step}
use Rattle.store_history.specs.declared.act.Act.TheVariants as acts
use Rattle.store_history.specs.declared.act.Answer.{Answer}
use Rattle.store_history.specs.declared.act.Event.{Event}
use Rattle.store_history.specs.Acts.{IsWellFormed, act_of_step, class_of}
use Rattle.store_history.specs.Begun.{IsBegun}
use Rattle.store_history.specs.History.{kind, reply}
use Rattle.store_history.specs.LaneRun.{steps, ahead, Position, next_at, goes_on, heard_at, heard, Asks, is_stopping, may_want_at, may_step}
use Rattle.store_history.specs.SoFar.{goes_further, Follows, Leads}
use Rattle.store_history.proofs.Events.{step_class}
use Rattle.store_history.proofs.Growing.{goes_on_spent, leads_more}
use Rattle.store_history.proofs.Unheld.{flagged}
use Rattle.store_history.proofs.Wanting.{wants_open}

-- ---- the acts of its steps

AreBegun : Option Asking → Type 0
AreBegun None = Unit {0}
AreBegun (Some j) = IsBegun (asking j)

pub job_begun : (c : Command) (j : Asking) → IsJob c → job_of c ≡ Some j → IsBegun (asking j)
unfolding AreBegun
job_begun (commands.Prune group keep dry) j h is = subst AreBegun is tt
job_begun (commands.Verify snapshot) j h is = subst AreBegun is tt
job_begun c j h is = absurd h

on_begun : (before later : List PruneRow) → IsBegun (prune.go_on before later)
unfolding prune.go_on
on_begun before [] = tt
on_begun before (r ∷ later) = by_test (prune.is_to_go r) (on_begun (before ++ r ∷ []) later)
  where
    by_test : (b : Bool) → IsBegun (prune.go_on (before ++ r ∷ []) later)
        → IsBegun (if b then asking (forgetting before r.snapshot later) else prune.go_on (before ++ r ∷ []) later)
    by_test true h = tt
    by_test false h = h

grouped_begun : (keep : Keep) (dry : Bool) (r : Reply) → IsBegun (prune.grouped keep dry r)
unfolding prune.grouped
grouped_begun keep true (replies.Keys snapshots) = tt
grouped_begun keep false (replies.Keys snapshots) = on_begun [] (prune.rows_meant keep snapshots)
grouped_begun keep dry r = tt

forgot_begun : (before : List PruneRow) (snapshot : List ℕ) (later : List PruneRow) (r : Reply) → IsBegun (prune.forgot before snapshot later r)
unfolding prune.forgot
forgot_begun before snapshot later replies.Done = on_begun (before ++ prune.row Removed snapshot ∷ []) later
forgot_begun before snapshot later (replies.Refused (SnapshotBusy lane)) = on_begun (before ++ prune.row Held snapshot ∷ []) later
forgot_begun before snapshot later (replies.Refused NoSnapshot) = on_begun (before ++ prune.row Gone snapshot ∷ []) later
forgot_begun before snapshot later (replies.Refused refusal) = tt
forgot_begun before snapshot later r = tt

-- a VERIFY's

stopped_begun : (refusal : Refusal) → IsBegun (stopped closing refusal)
stopped_begun DiskFault = tt
stopped_begun (Halted place) = tt
stopped_begun refusal = tt

closed_begun : (report r : Reply) → IsBegun (closed closing report r)
closed_begun (replies.Refused first) (replies.Refused NoMemory) = tt
closed_begun (replies.Refused first) (replies.Refused RemoteFault) = tt
closed_begun (replies.Refused first) (replies.Refused refusal) = tt
closed_begun (replies.Refused first) r = tt
closed_begun report (replies.Refused NoMemory) = tt
closed_begun report (replies.Refused RemoteFault) = tt
closed_begun report (replies.Refused refusal) = tt
closed_begun report r = tt

file_begun : (v : Visit) (rows : List FileRow) → IsBegun (verify.next_file v rows)
unfolding verify.next_file
file_begun v [] = tt
file_begun v (row ∷ later) = tt

done_begun : (v : Visit) (row : FileRow) (fault : Option FileFault) → IsBegun (verify.file_done v row fault)
unfolding verify.file_done
done_begun v row fault = file_begun (verify.with_fault row fault (record v { files = v.files + 1 })) v.later

chunk_begun : (v : Visit) (row : FileRow) (fault : Option FileFault) (place : ℕ) (ps : List Piece) → IsBegun (verify.next_chunk v row fault place ps)
unfolding verify.next_chunk
chunk_begun v row fault place [] = done_begun v row fault
chunk_begun v row fault place (p ∷ ps) = tt

judged_begun : (v : Visit) (row : FileRow) (j : verify.Judged) → IsBegun (verify.file_read v row j)
unfolding verify.file_read
judged_begun v row j =
    chunk_begun (record v { entries = v.entries + length j.entries; bytes = v.bytes + j.bytes }) row j.fault 0 j.entries

part_begun : (v : Visit) (row : FileRow) (bytes : List ℕ) (total : ℕ) → IsBegun (verify.part_read v row bytes total)
unfolding verify.part_read
part_begun v row bytes total = by_tests (nat_lt (size_limit row.file) total) (nat_lt (length bytes) total)
  where
    by_tests : (long more : Bool) → IsBegun (
        if long then verify.file_done v row (Some (verify.too_long row total)) else
        if more then asking (reading v row bytes) else
        verify.file_read v row (verify.judged v.snapshot row bytes))
    by_tests true more = done_begun v row (Some (verify.too_long row total))
    by_tests false true = tt
    by_tests false false = judged_begun v row (verify.judged v.snapshot row bytes)

opened_begun : (snapshot : List ℕ) (r : Reply) → IsBegun (verify.opened snapshot r)
unfolding verify.opened
opened_begun snapshot replies.Done = tt
opened_begun snapshot r = tt

listed_begun : (snapshot : List ℕ) (r : Reply) → IsBegun (verify.listed snapshot r)
unfolding verify.listed
listed_begun snapshot (replies.Files rows) = file_begun (verify.begun snapshot) rows
listed_begun snapshot (replies.Refused refusal) = stopped_begun refusal
listed_begun snapshot r = tt

read_begun : (v : Visit) (row : FileRow) (bytes : List ℕ) (r : Reply) → IsBegun (verify.read_part v row bytes r)
unfolding verify.read_part
read_begun v row bytes (replies.Part total more) = part_begun v row (bytes ++ more) total
read_begun v row bytes (replies.Refused (Damaged asked found)) = done_begun v row (Some (faults.Damaged asked))
read_begun v row bytes (replies.Refused (Unreadable name)) = done_begun v row (Some faults.Unreadable)
read_begun v row bytes (replies.Refused refusal) = stopped_begun refusal
read_begun v row bytes r = tt

checked_begun : (v : Visit) (row : FileRow) (fault : Option FileFault) (place : ℕ) (p : Piece) (later : List Piece) (r : Reply) → IsBegun (verify.checked v row fault place p later r)
unfolding verify.checked
checked_begun v row fault place p later (replies.Data bytes) = chunk_begun v row (option_or fault (verify.chunk_fault p bytes)) (place + 1) later
checked_begun v row fault place p later (replies.Refused (Damaged asked found)) = chunk_begun v row (option_or fault (Some (faults.Damaged p.digest))) (place + 1) later
checked_begun v row fault place p later (replies.Refused (Unreadable name)) = done_begun v row (option_or fault (Some faults.Unreadable))
checked_begun v row fault place p later (replies.Refused refusal) = stopped_begun refusal
checked_begun v row fault place p later r = tt

pub take_begun : (j : Asking) (r : Reply) → IsBegun (asking j) → IsBegun (job_take j r)
unfolding job_take
take_begun (grouping c keep dry) r h = grouped_begun keep dry r
take_begun (forgetting before snapshot later) r h = forgot_begun before snapshot later r
take_begun (opening snapshot) r h = opened_begun snapshot r
take_begun (listing snapshot) r h = listed_begun snapshot r
take_begun (reading v row bytes) r h = read_begun v row bytes r
take_begun (checking v row fault place p later) r h = checked_begun v row fault place p later r
take_begun (closing report) r h = closed_begun report r
take_begun j r h = absurd h

pub step_formed : (j : Asking) → IsBegun (asking j) → IsWellFormed (act_of_step (step_of j))
step_formed (grouping (commands.Prune group keep dry) k d) h = tt
step_formed (grouping c keep dry) h = absurd h
step_formed (forgetting before snapshot later) h = tt
step_formed (opening snapshot) h = tt
step_formed (listing snapshot) h = tt
step_formed (reading v row bytes) h = tt
step_formed (checking v row fault place p later) h = tt
step_formed (closing report) h = tt
step_formed j h = absurd h

-- ---- one more step of a job

-- the lane where its job has come to this, and so much of its input is left
abbrev pub at_job : Position → List ℕ → Job → Bool → Position
at_job p left j is_spent = record (goes_on p left j) { is_unheld = false; is_spent = is_spent }

pub heard_job : (p : Position) (j : Asking) (left : List ℕ) (a : Answer) (r : Reply) → next_at p ≡ ahead (job_step j left) → a.reply ≡ Some r
    → heard p a ≡ at_job p left (job_take j r) (a.last || p.is_spent)
unfolding heard heard_at
heard_job p j left a r is says =
    ap (λ x. flagged a (heard_at p (a.entry).kind a.reply x)) is
    ∙ ap (λ (x : Option Reply). flagged a (heard_at p (a.entry).kind x (ahead (job_step j left)))) says
    ∙ ap (λ b. at_job p left (job_take j r) (a.last || b)) (goes_on_spent p left (job_take j r))

-- where it goes on, its next step is next, and memory may be wanting, unless it is stopping
pub at_job_next : (p : Position) (left : List ℕ) (j : Asking) (b : Bool) → next_at (at_job p left (asking j) b) ≡ ahead (job_step j left)
unfolding goes_on next_at
at_job_next p left j b = refl

pub at_job_wants : (p : Position) (left : List ℕ) (j : Asking) (b : Bool) → is_stopping j ≡ false → may_want_at (at_job p left (asking j) b) ≡ true
unfolding goes_on
at_job_wants p left j b on = wants_open (at_job p left (asking j) b) j refl on

-- its next step may come where no answer was the last, or where it is stopping
pub at_job_steps : (p : Position) (left : List ℕ) (j : Asking) (b : Bool) → (b ≡ true → is_stopping j ≡ true) → may_step (at_job p left (asking j) b) ≡ true
unfolding goes_on
at_job_steps p left j true stopping = stopping refl
at_job_steps p left j false stopping = refl

-- and where it comes from there is as from the lane before
pub at_job_again : (p : Position) (left : List ℕ) (j : Asking) (b : Bool) (k : Job) (c : Bool) → at_job (at_job p left (asking j) b) left k c ≡ at_job p left k c
unfolding goes_on
at_job_again p left j b (over report) c = refl
at_job_again p left j b (asking k) c = refl

-- where it is over, the lane was told its report
pub at_job_over : (p : Position) (left : List ℕ) (r : Reply) (b : Bool)
    → at_job p left (over r) b ≡ record p { left = left; task = None; is_unheld = false; is_spent = b; told = p.told ++ r ∷ [] }
unfolding goes_on
at_job_over p left r b = refl

pub follows_job : (p : Position) (j : Asking) (left : List ℕ) (v : Event) → may_step p ≡ true → next_at p ≡ ahead (job_step j left)
    → v.act ≡ act_of_step (step_of j) → Follows (class_of v.act) p v
follows_job p j left v on is asks =
    subst (λ x. Follows x p v) (sym (ap class_of asks ∙ step_class (step_of j))) (on, subst (λ x. Asks x v.act) (sym is) asks)

pub follows_job_short : (p : Position) (j : Asking) (left : List ℕ) (v : Event) → p.is_spent ≡ false → next_at p ≡ ahead (job_step j left) → may_want_at p ≡ true → v.act ≡ acts.Short
    → Follows (class_of v.act) p v
follows_job_short p j left v on is may asks = subst (λ x. Follows x p v) (sym (ap class_of asks)) (on, may, ap goes_further is)

-- the lane went on by a step of its job, which was answered
pub leads_job : (vs : List Event) (p q : Position) (j : Asking) (left : List ℕ) (v : Event) (r : Reply) → Leads p vs q → may_step q ≡ true
    → next_at q ≡ ahead (job_step j left) → v.act ≡ act_of_step (step_of j) → reply v ≡ Some r
    → Leads p (vs ++ v ∷ []) (at_job q left (job_take j r) ((v.answer).last || q.is_spent))
leads_job vs p q j left v r led on is asks says =
    subst (λ x. Leads p (vs ++ v ∷ []) x) (heard_job q j left v.answer r is says) (leads_more vs p q v led (follows_job q j left v on is asks))

-- or memory was wanting for it
pub leads_job_short : (vs : List Event) (p q : Position) (j : Asking) (left : List ℕ) (v : Event) (r : Reply) → Leads p vs q → q.is_spent ≡ false
    → next_at q ≡ ahead (job_step j left) → may_want_at q ≡ true → v.act ≡ acts.Short → reply v ≡ Some r
    → Leads p (vs ++ v ∷ []) (at_job q left (job_take j r) ((v.answer).last || q.is_spent))
leads_job_short vs p q j left v r led on is may asks says =
    subst (λ x. Leads p (vs ++ v ∷ []) x) (heard_job q j left v.answer r is says) (leads_more vs p q v led (follows_job_short q j left v on is may asks))
