-- What one entry of an order does.
use Rattle.std.proofs.Common.{◌≡◌, ◌≢◌, ℕ, ◌<◌, Bool, true, false, not, ◌&&◌, cond, List, [], length, get_or, inl, inr, None, Some, unwrap_or, refl, sym, ap, subst, ◌∙◌}
use Rattle.std.specs.Prelude.{◌==◌, Option, is_none, is_some, Result, Ok, Err, IfOk}
use Rattle.std.specs.List.{find}
use Rattle.std.proofs.lemmas.Bool.{false≢true}
use Rattle.std.proofs.lemmas.Bool.Decides.{eqb_tells}
use Rattle.std.proofs.lemmas.List.{get_or_default, get_or-set_same, set-get_or, set-set}
use Rattle.store_types.specs.declared.order.Entry.{Entry}
use Rattle.store_types.specs.declared.refusal.Refusal.{Refusal}
use Rattle.store_types.specs.declared.refusal.Refusal.TheVariants.{CollectorBusy, NoMemory, RemoteFault}
use Rattle.store_types.specs.declared.order.TheConstants.{COMMAND_KIND, PART_KIND, MEMORY_KIND, START_KIND, STOP_KIND, FAULT_KIND, END_KIND, REMOTE_FAULT_KIND}
use Rattle.store_files.specs.Archive.{Snapshot}
use Rattle.wire_commands.specs.declared.command.Command.{Command}
use Rattle.wire_commands.specs.declared.reply.Reply.{Reply}
use Rattle.wire_commands.specs.declared.reply.Reply.TheVariants.{Refused}
use Rattle.store_model.specs.declared.ending.Ending.{Ending}
use Rattle.store_model.specs.declared.ending.Ending.TheVariants as endings
use Rattle.store_model.specs.Lanes as model
use Rattle.store_model.proofs.LaneLemmas.{is_act, lane_no_act, closes_act}
use Rattle.store_model.specs.Job.{Asking, step_of, is_sync, Job, over, asking}
use Rattle.store_model.specs.Jobs.{take}
use Rattle.store_model.specs.SyncJob.{to_pull, next_snapshot}
use Rattle.store_model.specs.JobSteps.{step_outcome}
use Rattle.store_model.specs.Steps.{answered, step}
use Rattle.store_model.specs.Store.{Store}
use Rattle.store_model.specs.Heads.{idle_in}
use Rattle.store_model.specs.Lanes.{Lane, Collecting, Run, new_lane, lane_at, with_lane, say, collects, lane_next, next_beside, next_of}
use Rattle.store_model.specs.Weave.{Endings, tell, go_on, stepped, short, told_fault, fault_refusal, first_fault, is_end, is_cut_off, faulted, is_replied, may_leave_unread, end_session, ended_with, unread, ends, entered, with_store, answer, answer_job, want_collector, close_collector, collected, opens, closes, passed, begin_sync, remote_failed}
use Rattle.plain_lanes.specs.declared.next.Ahead.{Ahead}
use Rattle.plain_lanes.specs.declared.next.Ahead.TheVariants as ahead
use Rattle.plain_lanes.specs.declared.next.Next.{Next}
use Rattle.plain_lanes.specs.declared.next.Next.TheVariants as nexts
use Rattle.plain_lanes.specs.declared.next.Next.TheVariants.{Bye, Broken, End}
use Rattle.plain_lanes.specs.Nexts.{shown_ahead, shown_next, left_by, is_sync_next, left_of_collect}
use Rattle.plain_store.specs.Runs.{run_left, Enters, own_of, IsApart, opened_at, short_open, fault_open_at, end_open_at}

-- what the code finds at a lane
pub at_lane : (r : Run) (k : ℕ) (found : Lane) → k < length r.lanes → found ≡ get_or r.lanes k found → found ≡ lane_at r k
at_lane r k found within is = is ∙ get_or_default r.lanes k found (new_lane []) within

-- ---- the open collector

beside_apart : (o : Option Collecting) (k : ℕ) (lane : Lane) → own_of o k ≡ None → next_beside o k lane ≡ lane_next lane
unfolding next_beside
beside_apart None k lane h = refl
beside_apart (Some c) k lane h = by_lane (c.lane == k) h
  where
    by_lane : (b : Bool) → cond b (Some c.is_out_of_memory) None ≡ None → cond b (model.collecting c.is_out_of_memory) (lane_next lane) ≡ lane_next lane
    by_lane true h = cc
    by_lane false h = refl

-- no collector of the lane is open
pub next_apart : (r : Run) (k : ℕ) → IsApart r k → next_of r k ≡ lane_next (lane_at r k)
unfolding next_of
next_apart r k h = beside_apart r.collecting k (lane_at r k) h

beside_own : (o : Option Collecting) (k : ℕ) (lane : Lane) (is_out_of_memory : Bool) → own_of o k ≡ Some is_out_of_memory → next_beside o k lane ≡ model.collecting is_out_of_memory
unfolding next_beside
beside_own None k lane is_out_of_memory h = cc
beside_own (Some c) k lane is_out_of_memory h = by_lane (c.lane == k) h
  where
    by_lane : (b : Bool) → cond b (Some c.is_out_of_memory) None ≡ Some is_out_of_memory → cond b (model.collecting c.is_out_of_memory) (lane_next lane) ≡ model.collecting is_out_of_memory
    by_lane true h = cc
    by_lane false h = cc

-- the lane's own is
pub next_own : (r : Run) (k : ℕ) (is_out_of_memory : Bool) → own_of r.collecting k ≡ Some is_out_of_memory → next_of r k ≡ model.collecting is_out_of_memory
unfolding next_of
next_own r k is_out_of_memory h = beside_own r.collecting k (lane_at r k) is_out_of_memory h

pub collects_apart : (o : Option Collecting) (k : ℕ) → own_of o k ≡ None → collects k o ≡ false
collects_apart None k h = refl
collects_apart (Some c) k h = by_lane (c.lane == k) h
  where
    by_lane : (b : Bool) → cond b (Some c.is_out_of_memory) None ≡ None → b ≡ false
    by_lane true h = cc
    by_lane false h = refl

collects_own : (o : Option Collecting) (k : ℕ) (is_out_of_memory : Bool) → own_of o k ≡ Some is_out_of_memory → collects k o ≡ true
collects_own None k is_out_of_memory h = cc
collects_own (Some c) k is_out_of_memory h = by_lane (c.lane == k) h
  where
    by_lane : (b : Bool) → cond b (Some c.is_out_of_memory) None ≡ Some is_out_of_memory → b ≡ true
    by_lane true h = refl
    by_lane false h = cc

none_cut : (b c : Bool) → (b && not true && c) ≡ false
none_cut true true = refl
none_cut true false = refl
none_cut false true = refl
none_cut false false = refl

-- neither a job nor the input has an act of a collector
no_act : (r : Run) (k : ℕ) → IsApart r k → is_act (next_of r k) ≡ false
no_act r k apart = ap is_act (next_apart r k apart) ∙ lane_no_act (lane_at r k)

-- what an entry does there
module _ (r : Run) (k : ℕ) (is_out_of_memory : Bool) (own : own_of r.collecting k ≡ Some is_out_of_memory) where
  pub own_steps : (moment : ℕ) → stepped r k moment (next_of r k) ≡ None
  unfolding stepped
  own_steps moment = ap (stepped r k moment) (next_own r k is_out_of_memory own)

  pub own_opens : opens r k (next_of r k) ≡ None
  unfolding opens
  own_opens = ap (opens r k) (next_own r k is_out_of_memory own)

  pub own_fails : remote_failed r k (next_of r k) ≡ None
  unfolding remote_failed
  own_fails = ap (remote_failed r k) (next_own r k is_out_of_memory own)

  pub own_passes : passed r (next_of r k) ≡ Some r
  unfolding passed
  own_passes = ap (passed r) (next_own r k is_out_of_memory own)

  pub own_short : short r k (next_of r k) ≡ Some (short_open r k)
  unfolding short
  own_short = ap (short r k) (next_own r k is_out_of_memory own)

  pub own_closes : closes r k (next_of r k) ≡ Some (close_collector r k (collected is_out_of_memory))
  unfolding closes
  own_closes = ap (closes r k) (next_own r k is_out_of_memory own)

  pub own_fault : (refusal : Refusal) → told_fault r k refusal (next_of r k) ≡ close_collector r k (Refused refusal)
  unfolding told_fault
  own_fault refusal = ap (told_fault r k refusal) (next_own r k is_out_of_memory own)

  -- no fault is left untold
  pub own_told : (ending : Ending) (later : List Entry) → is_cut_off r k ending later ≡ false
  own_told endings.NoMemory later =
      ap (λ b. is_none (lane_at r k).job && not b && is_end (find (λ e. e.lane == k) later)) (collects_own r.collecting k is_out_of_memory own)
      ∙ none_cut (is_none (lane_at r k).job) (is_end (find (λ e. e.lane == k) later))
  own_told ending later = refl

  pub own_faulted : (place : ℕ) (ending : Ending) (later : List Entry) → faulted r k place ending later (next_of r k) ≡ fault_open_at r k place
  unfolding faulted
  own_faulted place ending later =
      rw (own_told ending later) (ap (λ (x : Run). (let y : Run = record x { fault = first_fault place r.fault } in y)) (own_fault (fault_refusal r.fault)))

  pub own_ends : (ending : Ending) → ends r k ending (next_of r k) ≡ end_open_at r k ending
  unfolding ends
  own_ends ending = ap (ends r k ending) (next_own r k is_out_of_memory own)

-- ---- what stands next

abbrev with_job : Lane → List ℕ → Option Asking → Lane
with_job lane left j = record lane { left = left; job = j }

job_given : (n : Next) (lane : Lane) (left : List ℕ) (j : Option Asking) → with_job (left_by n lane) left j ≡ with_job lane left j
job_given (nexts.Job a rest) lane left j = refl
job_given (nexts.Command a rest) lane left j = refl
job_given Bye lane left j = refl
job_given (Broken refusal) lane left j = refl
job_given End lane left j = refl

-- a job is taken out of its lane
abbrev pub takes_job : Next → Bool
takes_job (nexts.Job a left) = true
takes_job _ = false

module _ (r : Run) (k : ℕ) where
  as_it_was : with_lane r k (lane_at r k) ≡ r
  as_it_was = ap (λ l. (let x : Run = record r { lanes = l } in x)) (set-get_or r.lanes k (new_lane []))

  -- anything else is only looked at
  pub not_taken : (n : Next) → takes_job n ≡ false → run_left n r k ≡ r
  not_taken n other = ap (with_lane r k) (by_next n (lane_at r k) other) ∙ as_it_was
    where
      by_next : (n : Next) (lane : Lane) → takes_job n ≡ false → left_by n lane ≡ lane
      by_next (nexts.Job a left) lane h = cc
      by_next (nexts.Command a left) lane h = refl
      by_next Bye lane h = refl
      by_next (Broken refusal) lane h = refl
      by_next End lane h = refl

  -- what is next leaves the run where no job is open
  pub none_open : (n : Next) → is_some (lane_at r k).job ≡ false → run_left n r k ≡ r
  none_open n idle = ap (with_lane r k) (by_job n (lane_at r k) idle) ∙ as_it_was
    where
      no_job : (lane : Lane) (o : Option Asking) → lane.job ≡ o → is_some o ≡ false → (let x : Lane = record lane { job = None } in x) ≡ lane
      no_job lane None is h = rw (← is) refl
      no_job lane (Some a) is h = cc

      by_job : (n : Next) (lane : Lane) → is_some lane.job ≡ false → left_by n lane ≡ lane
      by_job (nexts.Job a left) lane h = no_job lane lane.job refl h
      by_job (nexts.Command a left) lane h = refl
      by_job Bye lane h = refl
      by_job (Broken refusal) lane h = refl
      by_job End lane h = refl

  -- a lane's end, where a job is open
  pub ends_open : (ending : Ending) → IsApart r k → is_some (lane_at r k).job ≡ true → ends r k ending (next_of r k) ≡ unread r k ending
  unfolding ends lane_next
  ends_open ending apart there = ap (ends r k ending) (next_apart r k apart) ∙ by_job (lane_at r k) (lane_at r k).job refl there
    where
      by_job : (lane : Lane) (o : Option Asking) → lane.job ≡ o → is_some o ≡ true → ends r k ending (lane_next lane) ≡ unread r k ending
      by_job lane None is h = cc
      by_job lane (Some a) is h = rw is refl

  -- a collector does not open there
  pub opens_open : IsApart r k → is_some (lane_at r k).job ≡ true → opens r k (next_of r k) ≡ None
  unfolding opens lane_next
  opens_open apart there = ap (opens r k) (next_apart r k apart) ∙ by_job (lane_at r k) (lane_at r k).job refl there
    where
      by_job : (lane : Lane) (o : Option Asking) → lane.job ≡ o → is_some o ≡ true → opens r k (lane_next lane) ≡ None
      by_job lane None is h = cc
      by_job lane (Some a) is h = rw is refl

  module _ (within : k < length r.lanes) where
    -- a lane that is written again
    written_again : (once again : Lane) → with_lane (with_lane r k once) k again ≡ with_lane r k again
    written_again once again = ap (λ l. (let x : Run = record r { lanes = l } in x)) (set-set r.lanes k once again)

    lane_written : (once : Lane) → lane_at (with_lane r k once) k ≡ once
    lane_written once = get_or-set_same r.lanes k once (new_lane []) within

    pub told_anyway : (n : Next) (left : List ℕ) (reply : Reply) → tell (run_left n r k) k left reply ≡ tell r k left reply
    unfolding tell
    told_anyway n left reply =
        let own = left_by n (lane_at r k) in
        ap (λ l. with_lane (run_left n r k) k (say reply (with_job l left None))) (lane_written own)
        ∙ written_again own (say reply (with_job own left None))
        ∙ ap (λ l. with_lane r k (say reply l)) (job_given n (lane_at r k) left None)

    pub goes_anyway : (n : Next) (left : List ℕ) (j : Job) → go_on (run_left n r k) k left j ≡ go_on r k left j
    unfolding go_on
    goes_anyway n left (over report) = told_anyway n left report
    goes_anyway n left (asking a) =
        let own = left_by n (lane_at r k) in
        ap (λ l. with_lane (run_left n r k) k (with_job l left (Some a))) (lane_written own)
        ∙ written_again own (with_job own left (Some a))
        ∙ ap (λ l. with_lane r k l) (job_given n (lane_at r k) left (Some a))

  pub told_at_end : (ending : Ending) (reply : Reply) → is_replied ending ≡ true → ended_with r k ending reply ≡ tell (end_session r k) k [] reply
  unfolding ended_with
  told_at_end ending reply h = rw h refl

  pub untold_at_end : (ending : Ending) (reply : Reply) → is_replied ending ≡ false → ended_with r k ending reply ≡ end_session r k
  unfolding ended_with
  untold_at_end ending reply h = rw h refl

-- ---- an end with commands left unread

module _ (r : Run) (k : ℕ) (ending : Ending) where
  pub unread_may : may_leave_unread ending ≡ true → unread r k ending ≡ Some (end_session r k)
  unfolding unread
  unread_may h = rw h refl

  pub unread_not : may_leave_unread ending ≡ false → unread r k ending ≡ None
  unfolding unread
  unread_not h = rw h refl

-- ---- commands that ask for no step

module _ (r : Run) (k : ℕ) (left : List ℕ) where
  short_ahead : (a : Ahead) → short r k (shown_ahead a left) ≡ Some (tell r k left (Refused NoMemory))
  unfolding short
  short_ahead (ahead.Plain c) = refl
  short_ahead (ahead.Sync group) = refl
  short_ahead ahead.Collect = refl

  fault_ahead : (refusal : Refusal) (a : Ahead) → told_fault r k refusal (shown_ahead a left) ≡ tell r k left (Refused refusal)
  unfolding told_fault
  fault_ahead refusal (ahead.Plain c) = refl
  fault_ahead refusal (ahead.Sync group) = refl
  fault_ahead refusal ahead.Collect = refl

ends_ahead : (r : Run) (k : ℕ) (ending : Ending) (a : Ahead) (left : List ℕ) → ends r k ending (shown_ahead a left) ≡ unread r k ending
unfolding ends
ends_ahead r k ending (ahead.Plain c) left = refl
ends_ahead r k ending (ahead.Sync group) left = refl
ends_ahead r k ending ahead.Collect left = refl

-- a command is done
module _ (r : Run) (k moment : ℕ) (left : List ℕ) where
  pub command_begun : (c : Command) (s : Store) (reply : Reply) (told after : Run) → (s, reply) ≡ step r.store k moment c → told ≡ with_store r s → after ≡ tell told k left reply
      → stepped r k moment (model.plain c left) ≡ Some after
  unfolding stepped answer
  command_begun c s reply told after done stored tells =
      ap (λ x. Some (answer r k left x)) (sym done) ∙ ap (λ (x : Run). Some x) (sym (tells ∙ ap (λ (x : Run). tell x k left reply) stored))

-- a SYNC's first step
module _ (r : Run) (k : ℕ) (group left : List ℕ) where
  pub pulls_begun : (xs : List Snapshot) → to_pull r.remote r.store k group ≡ Ok xs → go_on r k left (next_snapshot [] xs) ≡ begin_sync r k group left
  unfolding begin_sync
  pulls_begun xs h = rw (begin_sync, h) refl

  pub pulls_refused : (refusal : Refusal) → to_pull r.remote r.store k group ≡ Err refusal → tell r k left (Refused refusal) ≡ begin_sync r k group left
  unfolding begin_sync
  pulls_refused refusal h = rw (begin_sync, h) refl

-- ---- GC

-- whether a collector may open
module _ (r : Run) (k : ℕ) where
  pub collector_not_idle : (refusal : Refusal) → idle_in r.store k ≡ Err refusal → Err refusal ≡ want_collector r k
  unfolding want_collector
  collector_not_idle refusal h = rw h refl

  module _ (idle : idle_in r.store k ≡ Ok tt) where
    pub collector_free : r.collecting ≡ None → Ok tt ≡ want_collector r k
    unfolding want_collector
    collector_free h = rw (idle, h) refl

    pub collector_busy : (c : Collecting) → r.collecting ≡ Some c → Err (CollectorBusy c.lane) ≡ want_collector r k
    unfolding want_collector
    collector_busy c h = rw (idle, h) refl

-- what stands there is a GC
collect_is : (n : model.Next) (left : List ℕ) → left_of_collect n ≡ Some left → n ≡ model.collect left
collect_is (model.collect l) left h = let is : l ≡ left = cc in ap model.collect is
collect_is n left h = cc

module _ (r : Run) (k : ℕ) where
  opens_none : (n : model.Next) → left_of_collect n ≡ None → opens r k n ≡ None
  unfolding opens
  opens_none (model.collect left) h = cc
  opens_none n h = refl

  opens_gc : (left : List ℕ) → opened_at r k left ≡ opens r k (model.collect left)
  unfolding opens
  opens_gc left = refl

-- ---- a SYNC, begun or not

passes : (r : Run) (n : model.Next) → is_act n ≡ false → Enters r r (is_sync_next n) (passed r n)
unfolding passed
passes r (model.collecting is_out_of_memory) h = absurd (false≢true (sym h))
passes r (model.job_step j left) h = by_sync (is_sync j)
  where
    by_sync : (b : Bool) → Enters r r b (cond b (Some r) None)
    by_sync true = refl
    by_sync false = (refl, refl)
passes r (model.sync group left) h = refl
passes r n h = (refl, refl)

fails : (r : Run) (k : ℕ) (n : model.Next) → is_sync_next n ≡ true → remote_failed r k n ≡ Some (told_fault r k RemoteFault n)
unfolding remote_failed told_fault
fails r k (model.job_step j left) h = rw (remote_failed, h) refl
fails r k (model.sync group left) h = refl
fails r k n h = cc

fails_none : (r : Run) (k : ℕ) (n : model.Next) → is_sync_next n ≡ false → remote_failed r k n ≡ None
unfolding remote_failed
fails_none r k (model.job_step j left) h = rw (remote_failed, h) refl
fails_none r k (model.sync group left) h = cc
fails_none r k n h = refl

module _ (r : Run) (k : ℕ) where
  pub passes_by : {E : Type 0} (result : Result Bool E) → IsApart r k → IfOk result (λ is_one. is_one ≡ is_sync_next (next_of r k))
      → IfOk result (λ fits. Enters r r fits (passed r (next_of r k)))
  passes_by (Ok is_one) apart is = subst (λ (b : Bool). Enters r r b (passed r (next_of r k))) (sym is) (passes r (next_of r k) (no_act r k apart))
  passes_by (Err e) apart is = tt

  pub remote_told : (is_one : Bool) (after : Run) → is_one ≡ is_sync_next (next_of r k) → is_one ≡ true → after ≡ told_fault r k RemoteFault (next_of r k)
      → remote_failed r k (next_of r k) ≡ Some after
  remote_told is_one after is h told = fails r k (next_of r k) (sym is ∙ h) ∙ ap (λ (x : Run). Some x) (sym told)

  pub remote_untold : (is_one : Bool) → is_one ≡ is_sync_next (next_of r k) → is_one ≡ false → Enters r r false (remote_failed r k (next_of r k))
  remote_untold is_one is h = (fails_none r k (next_of r k) (sym is ∙ h), refl)

-- ---- what is done with what stands next

-- what is only looked at
module _ (r : Run) (k : ℕ) (n : Next) (is : shown_next n ≡ next_of r k) (m : model.Next) (shown : shown_next n ≡ m) (other : takes_job n ≡ false) (taken : Run)
    (kept : taken ≡ run_left n r k) where
  same_as_before : taken ≡ r
  same_as_before = kept ∙ not_taken r k n other

  pub entered_by : {E : Type 0} (f : Run → model.Next → Option Run) (new : Run) (result : Result Bool E) → IfOk result (λ fits. Enters taken new fits (f taken m))
      → IfOk result (λ fits. Enters r new fits (f r (next_of r k)))
  entered_by f new result h =
      subst (λ (x : model.Next). IfOk result (λ fits. Enters r new fits (f r x))) (sym shown ∙ is)
      (subst (λ (y : Run). IfOk result (λ fits. Enters y new fits (f y m))) same_as_before h)

-- a command that asks for no step
module _ (r : Run) (k : ℕ) (n : Next) (is : shown_next n ≡ next_of r k) (a : Ahead) (left : List ℕ) (shown : shown_next n ≡ shown_ahead a left) (other : takes_job n ≡ false)
    (taken : Run) (kept : taken ≡ run_left n r k) where
  pub short_command : (after : Run) → after ≡ tell taken k left (Refused NoMemory) → short r k (next_of r k) ≡ Some after
  short_command after tells =
      ap (short r k) (sym is ∙ shown) ∙ short_ahead r k left a
      ∙ ap (λ (x : Run). Some x) (sym (tells ∙ ap (λ (x : Run). tell x k left (Refused NoMemory)) (kept ∙ not_taken r k n other)))

  pub fault_of_command : (refusal : Refusal) → tell taken k left (Refused refusal) ≡ told_fault r k refusal (next_of r k)
  fault_of_command refusal =
      ap (λ (x : Run). tell x k left (Refused refusal)) (kept ∙ not_taken r k n other) ∙ sym (fault_ahead r k left refusal a) ∙ ap (told_fault r k refusal) (sym shown ∙ is)

-- a GC
module _ (r : Run) (k : ℕ) (taken : Run) (same : taken ≡ r) where
  pub opens_nothing : left_of_collect (next_of r k) ≡ None → Enters r taken false (opens r k (next_of r k))
  opens_nothing h = (opens_none r k (next_of r k) h, same)

  pub opens_by : (left : List ℕ) (new : Run) (fits : Bool) → left_of_collect (next_of r k) ≡ Some left → Enters taken new fits (opened_at taken k left)
      → Enters r new fits (opens r k (next_of r k))
  opens_by left new fits found h =
      subst (λ (o : Option Run). Enters r new fits o) (opens_gc r k left ∙ ap (opens r k) (sym (collect_is (next_of r k) left found)))
      (subst (λ (x : Run). Enters x new fits (opened_at x k left)) same h)

module _ (r : Run) (k : ℕ) (within : k < length r.lanes) (n : Next) (is : shown_next n ≡ next_of r k) where
  -- an open job's step, as the code does it
  pub job_stepped : (moment : ℕ) (a : Asking) (left : List ℕ) → shown_next n ≡ model.job_step a left
      → (s : Store) (reply : Reply) (j : Job) (told after : Run)
      → (s, reply) ≡ answered r.store (step_outcome r.store k moment (step_of a)) → j ≡ take a reply → told ≡ with_store (run_left n r k) s → after ≡ go_on told k left j
      → stepped r k moment (next_of r k) ≡ Some after
  unfolding stepped answer_job with_store
  job_stepped moment a left shown s reply j told after done taken stored goes =
      ap (stepped r k moment) (sym is ∙ shown)
      ∙ ap (λ x. Some (answer_job r k a left x)) (sym done)
      ∙ ap (λ (x : Run). Some x)
      (sym (goes_anyway (with_store r s) k within n left (take a reply)) ∙ ap (go_on (run_left n (with_store r s) k) k left) (sym taken)
      ∙ sym (goes ∙ ap (λ (x : Run). go_on x k left j) stored))

  -- a refusal of a job's step
  job_refused : (refusal : Refusal) (a : Asking) (left : List ℕ) (j : Job) (after : Run) → j ≡ take a (Refused refusal) → after ≡ go_on (run_left n r k) k left j
      → go_on r k left (take a (Refused refusal)) ≡ after
  job_refused refusal a left j after taken goes =
      sym (goes_anyway r k within n left (take a (Refused refusal))) ∙ ap (go_on (run_left n r k) k left) (sym taken) ∙ sym goes

  -- the same, by what it is refused for
  module _ (a : Asking) (left : List ℕ) (shown : shown_next n ≡ model.job_step a left) (j : Job) (after : Run) where
    pub short_job : j ≡ take a (Refused NoMemory) → after ≡ go_on (run_left n r k) k left j → short r k (next_of r k) ≡ Some after
    unfolding short
    short_job taken goes = ap (short r k) (sym is ∙ shown) ∙ ap (λ (x : Run). Some x) (job_refused NoMemory a left j after taken goes)

    pub fault_of_job : (refusal : Refusal) → j ≡ take a (Refused refusal) → after ≡ go_on (run_left n r k) k left j → after ≡ told_fault r k refusal (next_of r k)
    unfolding told_fault
    fault_of_job refusal taken goes = sym (job_refused refusal a left j after taken goes) ∙ ap (told_fault r k refusal) (sym shown ∙ is)

  -- the lane's end, where no job is open
  module _ (ending : Ending) (idle : is_some (lane_at r k).job ≡ false) where
    same_run : run_left n r k ≡ r
    same_run = none_open r k n idle

    as_unread : (new : Run) (fits : Bool) → ends r k ending (next_of r k) ≡ unread r k ending → Enters (run_left n r k) new fits (unread (run_left n r k) k ending)
        → Enters r new fits (ends r k ending (next_of r k))
    as_unread new fits e entered =
        subst (λ (o : Option Run). Enters r new fits o) (sym e) (subst (λ (x : Run). Enters x new fits (unread x k ending)) same_run entered)

    pub unread_job : (new : Run) (fits : Bool) (a : Asking) (left : List ℕ) → shown_next n ≡ model.job_step a left
        → Enters (run_left n r k) new fits (unread (run_left n r k) k ending) → Enters r new fits (ends r k ending (next_of r k))
    unfolding ends
    unread_job new fits a left shown entered = as_unread new fits (ap (ends r k ending) (sym is ∙ shown)) entered

    pub unread_command : (new : Run) (fits : Bool) (a : Ahead) (left : List ℕ) → shown_next n ≡ shown_ahead a left
        → Enters (run_left n r k) new fits (unread (run_left n r k) k ending) → Enters r new fits (ends r k ending (next_of r k))
    unread_command new fits a left shown entered = as_unread new fits (ap (ends r k ending) (sym is ∙ shown) ∙ ends_ahead r k ending a left) entered

pub differs : (a b : ℕ) → a ≢ b → (a == b) ≡ false
differs a b ne = elim (eqb_tells a b) [ inl p ↦ absurd (ne p.1) | inr p ↦ p.0 ]

abbrev no_run : Option Run
no_run = None

module _ (E : Endings) (r : Run) (place : ℕ) (e : Entry) (later : List Entry) where
  pub entered_0 : e.kind ≡ COMMAND_KIND → entered E r place e later ≡ stepped r e.lane e.moment (next_of r e.lane)
  unfolding entered
  entered_0 h = rw h refl

  pub entered_1 : e.kind ≡ PART_KIND → entered E r place e later ≡ passed r (next_of r e.lane)
  unfolding entered
  entered_1 h = rw h refl

  pub entered_2 : e.kind ≡ MEMORY_KIND → entered E r place e later ≡ short r e.lane (next_of r e.lane)
  unfolding entered
  entered_2 h = rw h refl

  pub entered_3 : e.kind ≡ START_KIND → entered E r place e later ≡ opens r e.lane (next_of r e.lane)
  unfolding entered
  entered_3 h = rw h refl

  pub entered_4 : e.kind ≡ STOP_KIND → entered E r place e later ≡ closes r e.lane (next_of r e.lane)
  unfolding entered
  entered_4 h = rw h refl

  pub entered_5 : e.kind ≡ FAULT_KIND → entered E r place e later ≡ Some (faulted r e.lane place (E e.lane (next_of r e.lane)) later (next_of r e.lane))
  unfolding entered
  entered_5 h = rw h refl

  pub entered_6 : e.kind ≡ END_KIND → entered E r place e later ≡ ends r e.lane (E e.lane (next_of r e.lane)) (next_of r e.lane)
  unfolding entered
  entered_6 h = rw h refl

  pub entered_7 : e.kind ≡ REMOTE_FAULT_KIND → entered E r place e later ≡ remote_failed r e.lane (next_of r e.lane)
  unfolding entered
  entered_7 h = rw h refl

  none_either : (b : Bool) → cond b no_run no_run ≡ no_run
  none_either true = refl
  none_either false = refl

  none_of : (b c d : Bool) → cond b no_run (cond c no_run (cond d no_run no_run)) ≡ no_run
  none_of true c d = refl
  none_of false true d = refl
  none_of false false true = refl
  none_of false false false = refl

  pub not_entered : IsApart r e.lane → e.kind ≢ 0 → e.kind ≢ 1 → e.kind ≢ 2 → e.kind ≢ 3 → e.kind ≢ 5 → e.kind ≢ 6 → e.kind ≢ 7 → entered E r place e later ≡ None
  unfolding entered
  not_entered apart zero one two three five six seven =
      let no_0 = differs e.kind 0 zero in
      let no_1 = differs e.kind 1 one in
      let no_2 = differs e.kind 2 two in
      let no_3 = differs e.kind 3 three in
      let no_5 = differs e.kind 5 five in
      let no_6 = differs e.kind 6 six in
      let no_7 = differs e.kind 7 seven in
      let closes = closes_act r e.lane (next_of r e.lane) (no_act r e.lane apart) in
      rw (no_0, no_1, no_2, no_3, no_5, no_6, no_7, closes) (none_either (e.kind == STOP_KIND))

  -- the same, where the lane's collector is open
  pub not_entered_open : (is_out_of_memory : Bool) → own_of r.collecting e.lane ≡ Some is_out_of_memory
      → e.kind ≢ 1 → e.kind ≢ 2 → e.kind ≢ 4 → e.kind ≢ 5 → e.kind ≢ 6 → entered E r place e later ≡ None
  unfolding entered
  not_entered_open is_out_of_memory own one two four five six =
      let no_1 = differs e.kind 1 one in
      let no_2 = differs e.kind 2 two in
      let no_4 = differs e.kind 4 four in
      let no_5 = differs e.kind 5 five in
      let no_6 = differs e.kind 6 six in
      let steps = own_steps r e.lane is_out_of_memory own e.moment in
      let opens = own_opens r e.lane is_out_of_memory own in
      let fails = own_fails r e.lane is_out_of_memory own in
      rw (no_1, no_2, no_4, no_5, no_6, steps, opens, fails) (none_of (e.kind == COMMAND_KIND) (e.kind == START_KIND) (e.kind == REMOTE_FAULT_KIND))

-- the place of the first fault
first_kept : (place : ℕ) (first : Option ℕ) → Some (unwrap_or first place) ≡ first_fault place first
first_kept place None = refl
first_kept place (Some x) = refl

module _ (r : Run) (k place : ℕ) (ending : Ending) (later : List Entry) (n : model.Next) (kept : ℕ) (same : kept ≡ unwrap_or r.fault place) where
  pub faulted_cut : is_cut_off r k ending later ≡ true → (let after : Run = record r { fault = Some kept } in after ≡ faulted r k place ending later n)
  unfolding faulted
  faulted_cut h = rw h (ap (λ f. (let after : Run = record r { fault = f } in after)) (ap (λ x. Some x) same ∙ first_kept place r.fault))

  pub faulted_told : is_cut_off r k ending later ≡ false → (let after : Run = record (told_fault r k (fault_refusal r.fault) n) { fault = Some kept } in after ≡ faulted r k place ending later n)
  unfolding faulted
  faulted_told h = rw h (ap (λ f. (let after : Run = record (told_fault r k (fault_refusal r.fault) n) { fault = f } in after)) (ap (λ x. Some x) same ∙ first_kept place r.fault))

-- the fault that closes a collector
pub fault_kept : (r : Run) (k place kept : ℕ) → kept ≡ unwrap_or r.fault place
    → (let after : Run = record (close_collector r k (Refused (fault_refusal r.fault))) { fault = Some kept } in after ≡ fault_open_at r k place)
fault_kept r k place kept same =
    ap (λ f. (let after : Run = record (close_collector r k (Refused (fault_refusal r.fault))) { fault = f } in after)) (ap (λ x. Some x) same ∙ first_kept place r.fault)
