-- The lanes of a run, where each is at a position.
use Rattle.std.proofs.Common.{◌≡◌, ℕ, ◌-◌, Bool, true, false, List, [], ◌∷◌, ◌++◌, map, length, Option, Some, None, refl, sym, ap, ◌∙◌, append-nil, slice_index_or, slice_set, if◌then◌else◌, ◌==◌}
use Rattle.std.proofs.lemmas.List.{map-set, map-append}
use Rattle.std.proofs.Math.Seq.{map-set_same}
use Rattle.std.proofs.Math.ListN.{get_or-map}
use Rattle.std.proofs.lemmas.Grind.{flat_map-append}
use Rattle.store_files.specs.Archive.{Snapshot}
use Rattle.wire_frames.specs.Frames.{frame}
use Rattle.wire_commands.specs.declared.command.Command.{Command}
use Rattle.wire_commands.specs.declared.command.Command.TheVariants as commands
use Rattle.wire_commands.specs.declared.reply.Reply.{Reply}
use Rattle.wire_commands.specs.Inputs.{InputFront, nothing, next, over_limit, no_command, front}
use Rattle.wire_commands.specs.ReplyText.{reply_text}
use Rattle.store_model.specs.Lanes.{Lane, Collecting, Run, Next, job_step, plain, sync, collecting, lane_at, with_lane, next_beside, next_of, lane_next, front_next, command_next}
use Rattle.store_model.specs.Job.{Asking, Job, over, asking}
use Rattle.store_model.specs.Jobs.{job_of}
use Rattle.store_model.specs.Weave.{tell, go_on}
use Rattle.store_history.specs.History.{World, open_on}
use Rattle.store_history.specs.LaneRun.{text, blank, plain_text, Task, steps, pulls, sweeps, Ahead, ahead, ahead_by, pull_ahead, job_in, Position, begin, lane_of, next_at, tells, goes_on, wants_by, may_want_at, IsIdle}
use Rattle.store_history.specs.Pulling.{Pulling, comparing}
use Rattle.store_history.proofs.Plainly.{IsPlainJob}

abbrev pub run_of : Option (List Snapshot) → World → List Position → Run
run_of R w ps = record { store = w.store; remote = R; lanes = map lane_of ps; collecting = w.collecting; fault = w.fault }

abbrev pub at : List Position → ℕ → Position
at ps k = slice_index_or ps k (begin [])

pub lane_is : (R : Option (List Snapshot)) (w : World) (ps : List Position) (k : ℕ) → lane_at (run_of R w ps) k ≡ lane_of (at ps k)
unfolding text plain_text
lane_is R w ps k = get_or-map lane_of ps k (begin [])

pub put_is : (R : Option (List Snapshot)) (w : World) (ps : List Position) (k : ℕ) (p : Position)
    → with_lane (run_of R w ps) k (lane_of p) ≡ run_of R w (slice_set ps k p)
put_is R w ps k p = ap (λ ls. record (run_of R w ps) { lanes = ls }) (sym (map-set lane_of ps k p))

-- a position that gives the lane as it is changes no run
pub keep_is : (R : Option (List Snapshot)) (w : World) (ps : List Position) (k : ℕ) (p : Position)
    → lane_of p ≡ lane_of (at ps k) → run_of R w (slice_set ps k p) ≡ run_of R w ps
keep_is R w ps k p h = ap (λ ls. record (run_of R w ps) { lanes = ls }) (map-set_same lane_of ps k p (begin []) h)

-- and two that give the same lane make the same run
pub same_lane : (R : Option (List Snapshot)) (w : World) (ps : List Position) (k : ℕ) (p q : Position)
    → lane_of p ≡ lane_of q → run_of R w (slice_set ps k p) ≡ run_of R w (slice_set ps k q)
same_lane R w ps k p q h = sym (put_is R w ps k p) ∙ ap (λ l. with_lane (run_of R w ps) k l) h ∙ put_is R w ps k q

pub text_more : (told : List Reply) (r : Reply) → text (told ++ r ∷ []) ≡ text told ++ frame (reply_text r)
unfolding text
text_more told r = flat_map-append (λ x. frame (reply_text x)) told (r ∷ []) ∙ ap (λ y. text told ++ y) (append-nil (frame (reply_text r)))

pub plain_more : (told : List Reply) (r : Reply) → plain_text (told ++ r ∷ []) ≡ plain_text told ++ frame (reply_text (blank r))
unfolding plain_text
plain_more told r = ap text (map-append blank told (r ∷ [])) ∙ text_more (map blank told) (blank r)

-- a report is told with its numbers
pub blank_is : (R : Option (List Snapshot)) (w : World) (ps : List Position) (k : ℕ) (left : List ℕ) (r : Reply)
    → tell (run_of R w ps) k left (blank r) ≡ run_of R w (slice_set ps k (tells (at ps k) left r))
unfolding tell
blank_is R w ps k left r =
    rw (lane_is R w ps k, ← plain_more (at ps k).told r) (put_is R w ps k (tells (at ps k) left r))

pub tell_is : (R : Option (List Snapshot)) (w : World) (ps : List Position) (k : ℕ) (left : List ℕ) (r : Reply) → blank r ≡ r
    → tell (run_of R w ps) k left r ≡ run_of R w (slice_set ps k (tells (at ps k) left r))
tell_is R w ps k left r plainly = ap (λ x. tell (run_of R w ps) k left x) (sym plainly) ∙ blank_is R w ps k left r

pub go_is : (R : Option (List Snapshot)) (w : World) (ps : List Position) (k : ℕ) (left : List ℕ) (j : Job) → IsPlainJob j
    → go_on (run_of R w ps) k left j ≡ run_of R w (slice_set ps k (goes_on (at ps k) left j))
unfolding go_on goes_on
go_is R w ps k left (over report) plainly = tell_is R w ps k left report plainly
go_is R w ps k left (asking j) plainly = rw (lane_is R w ps k) (put_is R w ps k (record (at ps k) { left = left; task = Some (steps j) }))

-- ---- what is next

abbrev next_by : Option Bool → Lane → Next
next_by o l = elim o [ None ↦ lane_next l | Some is_out_of_memory ↦ collecting is_out_of_memory ]

beside_is : (o : Option Collecting) (k : ℕ) (l : Lane) → next_beside o k l ≡ next_by (open_on k o) l
unfolding next_beside
beside_is None k l = refl
beside_is (Some c) k l = by_test (c.lane == k)
  where
    by_test : (b : Bool) → (if b then collecting c.is_out_of_memory else lane_next l) ≡ next_by (if b then Some c.is_out_of_memory else None) l
    by_test true = refl
    by_test false = refl

abbrev pub sweep_in : Option Task → Option Bool
sweep_in (Some (sweeps is_out_of_memory)) = Some is_out_of_memory
sweep_in t = None

-- what is next where no SYNC is open
abbrev pub model_next : Position → Next
model_next p = next_by (sweep_in p.task) (lane_of p)

pub model_is : (p : Position) → IsIdle p.task → next_at p ≡ ahead (model_next p)
unfolding next_at lane_next
model_is p idle = by_task p.task idle
  where
    by_task : (t : Option Task) → IsIdle t → ahead_by t (p.size - length p.left) p.left
        ≡ ahead (next_by (sweep_in t) (record { size = p.size; left = p.left; job = job_in t; told = plain_text p.told }))
    by_task None idle = refl
    by_task (Some (steps j)) idle = refl
    by_task (Some (pulls x)) idle = absurd idle
    by_task (Some (sweeps b)) idle = refl

-- where the position knows of the lane's collector
pub next_is : (R : Option (List Snapshot)) (w : World) (ps : List Position) (k : ℕ) → sweep_in (at ps k).task ≡ open_on k w.collecting
    → next_of (run_of R w ps) k ≡ model_next (at ps k)
unfolding next_of
next_is R w ps k knows =
    beside_is w.collecting k (lane_at (run_of R w ps) k)
    ∙ ap (λ o. next_by o (lane_at (run_of R w ps) k)) (sym knows)
    ∙ ap (λ l. next_by (sweep_in (at ps k).task) l) (lane_is R w ps k)

-- where memory may be wanting outside its acts, the lane's collector is not open
pub want_shut : (p : Position) → may_want_at p ≡ true → sweep_in p.task ≡ None
want_shut p may = by_task p.task may
  where
    by_task : (t : Option Task) → wants_by t p.left ≡ true → sweep_in t ≡ None
    by_task None may = refl
    by_task (Some (steps j)) may = refl
    by_task (Some (pulls x)) may = refl
    by_task (Some (sweeps b)) may = cc

-- where no job's step is next, no job is open
abbrev pub IsNoStep : Next → Type 0
IsNoStep (job_step j left) = ⊥
IsNoStep n = Unit {0}

pub no_job : (p : Position) → IsNoStep (model_next p) → job_in p.task ≡ None
unfolding lane_next
no_job p free = by_task p.task free
  where
    by_task : (t : Option Task) → IsNoStep (next_by (sweep_in t) (record { size = p.size; left = p.left; job = job_in t; told = plain_text p.told })) → job_in t ≡ None
    by_task None free = refl
    by_task (Some (steps j)) free = absurd free
    by_task (Some (pulls x)) free = refl
    by_task (Some (sweeps b)) free = refl

-- what the next act says of the lane's collector
abbrev pub open_at : Ahead → Option Bool
open_at (ahead (collecting is_out_of_memory)) = Some is_out_of_memory
open_at _ = None

job_shut : (c : Command) (left : List ℕ) (o : Option Asking) → open_at (ahead (elim o [ None ↦ plain c left | Some j ↦ job_step j left ])) ≡ None
job_shut c left None = refl
job_shut c left (Some j) = refl

command_shut : (c : Command) (left : List ℕ) → open_at (ahead (command_next c left)) ≡ None
unfolding command_next
command_shut (commands.Sync group) left = refl
command_shut commands.Gc left = refl
command_shut commands.Bye left = refl
command_shut c left = job_shut c left (job_of c)

front_shut : (offset : ℕ) (f : InputFront) → open_at (ahead (front_next offset f)) ≡ None
unfolding front_next
front_shut offset nothing = refl
front_shut offset (next c left) = command_shut c left
front_shut offset (over_limit n) = refl
front_shut offset no_command = refl

lane_shut : (l : Lane) → open_at (ahead (lane_next l)) ≡ None
unfolding lane_next
lane_shut l = by_job l.job
  where
    by_job : (o : Option Asking) → open_at (ahead (elim o [ None ↦ front_next (l.size - length l.left) (front l.left) | Some j ↦ job_step j l.left ])) ≡ None
    by_job None = front_shut (l.size - length l.left) (front l.left)
    by_job (Some j) = refl

pub open_model : (p : Position) → open_at (ahead (model_next p)) ≡ sweep_in p.task
open_model p = by_sweep (sweep_in p.task)
  where
    by_sweep : (o : Option Bool) → open_at (ahead (next_by o (lane_of p))) ≡ o
    by_sweep None = lane_shut (lane_of p)
    by_sweep (Some is_out_of_memory) = refl

pull_shut : (x : Pulling) (left : List ℕ) (n : Next) → open_at (pull_ahead x left n) ≡ None
pull_shut (comparing group remote) left (sync name behind) = refl
pull_shut (comparing group remote) left n = refl
pull_shut x left n = refl

pub open_is : (p : Position) → open_at (next_at p) ≡ sweep_in p.task
unfolding next_at
open_is p = by_task p.task
  where
    by_task : (t : Option Task) → open_at (ahead_by t (p.size - length p.left) p.left) ≡ sweep_in t
    by_task None = front_shut (p.size - length p.left) (front p.left)
    by_task (Some (steps j)) = refl
    by_task (Some (pulls x)) = pull_shut x p.left (front_next (p.size - length p.left) (front p.left))
    by_task (Some (sweeps b)) = refl
