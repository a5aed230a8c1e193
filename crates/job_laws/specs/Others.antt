-- What the other lanes leave to a VERIFY that reads on, and what it reports beside them.
use Rattle.std.specs.Prelude.{◌≡◌, ◌⊎◌, ℕ, List, [], ◌∷◌, ◌++◌, Option, Some, None, IsTrue}
use Rattle.std.specs.List.{All, fold}
use Rattle.store_types.specs.Names.{key_of}
use Rattle.store_types.specs.declared.order.TheConstants.{COMMAND_KIND}
use Rattle.store_files.specs.Archive.{Snapshot}
use Rattle.wire_commands.specs.declared.reply.Reply.{Reply}
use Rattle.store_model.specs.declared.step.Step.{Step}
use Rattle.store_model.specs.declared.ending.Ending.{Ending}
use Rattle.store_model.specs.Job.{opening, Job, over, asking, step_of}
use Rattle.store_model.specs.Jobs.{take}
use Rattle.store_model.specs.JobSteps.{step_outcome}
use Rattle.store_model.specs.Lanes.{job_step}
use Rattle.store_model.specs.Stands.{IsSnapshot, keys_rise}
use Rattle.store_model.specs.Steps.{answered}
use Rattle.store_model.specs.Store.{none, Reader, reader, Store, session, snapshot_named}
use Rattle.store_history.specs.declared.act.Event.{Event}
use Rattle.store_history.specs.Acts.{act_of_step}
use Rattle.store_history.specs.History.{World, Opening, opened, after_all, own, lane, kind, reply}
use Rattle.store_history.specs.LaneRun.{ahead, Position, begin, next_at, position_after, LaneRan}
use Rattle.store_history.specs.Legal.{IsLegal}
use Rattle.job_laws.specs.Verifies.{undamaged, report_of, Meanwhile}

-- ---- in the plain store

-- a command, or a step of a job, that a lane asks at a moment
pub record Request : Type 0 where
  pub lane : ℕ
  pub moment : ℕ
  pub step : Step

abbrev pub stepped : Store → Request → Store
stepped s x = (answered s (step_outcome s x.lane x.moment x.step)).0

-- While a lane has a reader of a snapshot, the others may do whatever they do, one after another: they
-- leave it its session, and the snapshot under its key.
abbrev pub OthersLeaveReaders : Type 0
OthersLeaveReaders =
    (x : Snapshot) (k : ℕ) (r : Reader) (s : Store) (requests : List Request)
    → IsTrue (keys_rise s.snapshots) → session s k ≡ reader r → r.key ≡ x.key
    → snapshot_named x.key s.snapshots ≡ Some x
    → All (λ a. a.lane ≡ k → ⊥) requests → Meanwhile x k s (fold stepped s requests)

-- ---- in a history

-- the events are the job's steps, each done, and their replies bring it to this
abbrev pub StepsTo : Job → List Event → Job → Type 0
StepsTo job [] end = job ≡ end
StepsTo (over report) (e ∷ es) end = ⊥
StepsTo (asking a) (e ∷ es) end =
    (e.act ≡ act_of_step (step_of a)) × (kind e ≡ COMMAND_KIND)
    × (r : Reply) × (reply e ≡ Some r) × StepsTo (take a r) es end

abbrev pub world_behind : Option (List Snapshot) → Opening → List Event → World
world_behind remote o before = after_all remote (opened o) before

-- A legal history. Before this event its lane has no session, and the store this sound snapshot.
pub record MayBegin
    (remote : Option (List Snapshot)) (o : Opening) (before : List Event) (first : Event)
    (later : List Event) (text : List ℕ) (x : Snapshot) : Type 0 where
  pub legal : IsLegal remote (opened o) (before ++ first ∷ later)
  pub order : IsTrue (keys_rise o.snapshots)
  pub idle : session (world_behind remote o before).store (lane first) ≡ none
  pub named : key_of text ≡ Some x.key
  pub there : snapshot_named x.key ((world_behind remote o before).store).snapshots ≡ Some x
  pub fits : IsSnapshot x

-- Where from there on all events of the lane's own are the steps of this job, to its report, it reports
-- what the snapshot is, and its lane is without a session again. Between them there may be any events of
-- other lanes.
abbrev pub VerifiesBesideOthers : Type 0
VerifiesBesideOthers =
    (remote : Option (List Snapshot)) (o : Opening) (before : List Event) (first : Event)
    (later : List Event) (text : List ℕ) (x : Snapshot) (report : Reply)
    → MayBegin remote o before first later text x
    → StepsTo (asking (opening text)) (first ∷ own (lane first) later) (over report)
    → (report ≡ report_of undamaged x)
    × (session (world_behind remote o (before ++ first ∷ later)).store (lane first) ≡ none)

-- ---- on a lane that runs its program

-- where the lane is behind these events of its own
abbrev pub position_behind : List ℕ → Ending → List Event → Position
position_behind input ending events = fold (position_after ending) (begin input) events

-- From this position on its own events are done, and it tells nothing, and then this.
abbrev pub TellsFirst : Ending → Position → List Event → Reply → Type 0
TellsFirst ending p [] r = ⊥
TellsFirst ending p (e ∷ es) r =
    let q = position_after ending p e in
    (kind e ≡ COMMAND_KIND) × ((q.told ≡ p.told ++ r ∷ []) ⊎ ((q.told ≡ p.told) × TellsFirst ending q es r))

-- the VERIFY is next on the lane
pub record VerifyIsNext (p : Position) (text : List ℕ) : Type 0 where
  pub left : List ℕ
  pub next : next_at p ≡ ahead (job_step (opening text) left)

-- What a lane that ran its program tells first, where a VERIFY was next and its acts are done until then,
-- is what the snapshot is.
abbrev pub VerifiesAreTold : Type 0
VerifiesAreTold =
    (remote : Option (List Snapshot)) (o : Opening) (before : List Event) (first : Event)
    (later : List Event) (text : List ℕ) (x : Snapshot) (input : List ℕ) (ending : Ending)
    (told : List Reply) (r : Reply)
    → MayBegin remote o before first later text x
    → LaneRan input ending (own (lane first) (before ++ first ∷ later)) told
    → (let p = position_behind input ending (own (lane first) before) in
    VerifyIsNext p text → TellsFirst ending p (first ∷ own (lane first) later) r
    → r ≡ report_of undamaged x)
