-- The start of a collector: what refuses it, and the collector that opens.
use Rattle.std.specs.Prelude.{◌≡◌, ℕ, List, [], ◌∷◌, map, filter, Option, Some, None, Result, Ok, Err, IsSomeAnd}
use Rattle.std.specs.List.{flat_map}
use Rattle.store_types.specs.FileNames.{is_index_name}
use Rattle.store_types.specs.Chain.Refusing.{◌>>=◌, if_none}
use Rattle.store_types.specs.declared.refusal.Refusal.{Refusal}
use Rattle.store_types.specs.declared.refusal.Refusal.TheVariants.{CollectorBusy, Unreadable}
use Rattle.store_types.specs.declared.order.TheConstants.{COMMAND_KIND, START_KIND}
use Rattle.wire_commands.specs.declared.reply.Reply.TheVariants.{Refused}
use Rattle.gc_plan.specs.Plan.{begun}
use Rattle.gc_plan.specs.declared.IndexAt.{IndexAt}
use Rattle.store_history.specs.declared.act.Answer.{Answer}
use Rattle.store_history.specs.Sweeping.{earlier}
use Rattle.core_state.specs.declared.collector.Collector.{Collector}
use Rattle.core_state.specs.declared.entering.Place.{Place}
use Rattle.core_state.specs.declared.kept.Listed.{Listed}
use Rattle.core_state.specs.declared.kept.Session.{Session}
use Rattle.core_state.specs.declared.kept.Session.TheVariants.{Idle, Writer, Reader}
use Rattle.core_state.specs.declared.parts.Parts.{Parts}
use Rattle.core_state.specs.declared.state.Core.{Core}
use Rattle.store_stops.specs.declared.stop.Stop.{Stop}
use Rattle.store_stops.specs.declared.stop.Stop.TheVariants as stops
use Rattle.core_state.specs.Collectors.{collector_by}
use Rattle.core_state.specs.Found.{first_unreadable}
use Rattle.core_state.specs.Heads.{idle_in}
use Rattle.core_state.specs.Kept.{KeptAt, kept_at}

-- ---- what is to be marked

-- the indexes of a finished snapshot, in byte order of their names
abbrev pub indexes_of : Listed → List IndexAt
indexes_of x = map (λ f. record { snapshot = x.number; name = f.name }) (filter (λ f. is_index_name f.name) (x.kept).files)

abbrev pub indexes_in : List Listed → List IndexAt
indexes_in catalogue = flat_map indexes_of catalogue

-- ---- the oldest writer

abbrev pub earlier_of : Option ℕ → Session → Option ℕ
earlier_of oldest Idle = oldest
earlier_of oldest (Writer w) = earlier oldest ((w.session).writer).start
earlier_of oldest (Reader r) = oldest

-- when the oldest writer among these sessions began
abbrev pub oldest_kept : List Session → Option ℕ
oldest_kept [] = None
oldest_kept (x ∷ xs) = earlier_of (oldest_kept xs) x

-- ---- what refuses it

-- the lane has a session, a collector is open, or a snapshot is damaged, in this order
unfoldable pub start_told : Option Collector → KeptAt → Result (Unit {0}) Refusal
start_told collector k = do
  _ ← idle_in k
  _ ← if_none (λ c. CollectorBusy c.lane) collector
  if_none Unreadable (first_unreadable k.catalogue)

-- ---- the collector that opens

pub record IsNewCollector {D : Type 0} (parts : Parts D) (lane moment : ℕ) (c : Collector) : Type 0 where
  pub lane_is : c.lane ≡ lane
  pub plan_is : c.plan ≡ begun moment (oldest_kept parts.sessions.items) (indexes_in parts.catalogue.listed)
  pub none_open : c.pages ≡ None
  pub goes_on : c.ended ≡ None

-- it opens where nothing refuses it
abbrev pub GivesCollector : {D : Type 0} → Parts D → Option Collector → Place → Result Collector Stop → Type 0
GivesCollector parts before at (Ok c) = (start_told before (kept_at parts at.lane) ≡ Ok tt) × IsNewCollector parts at.lane at.moment c
GivesCollector parts before at (Err (stops.Refused refusal)) = start_told before (kept_at parts at.lane) ≡ Err refusal
GivesCollector parts before at (Err stops.NoMemory) = Unit {0}
GivesCollector parts before at (Err stops.DiskFailed) = ⊥

-- The core answers a start so, on any disk.
pub record StartTells {D E C : Type 0} (old new : Core D E C) (lane : ℕ) (answer : Answer) : Type 0 where
  pub refused : (answer.entry).kind ≡ COMMAND_KIND → (refusal : Refusal) × (answer.reply ≡ Some (Refused refusal))
      × (start_told old.collector (kept_at old.parts lane) ≡ Err refusal)
  pub opens : (answer.entry).kind ≡ START_KIND → (start_told old.collector (kept_at old.parts lane) ≡ Ok tt)
      × IsSomeAnd new.collector (IsNewCollector old.parts lane (answer.entry).moment)
  -- where none opens, another lane's stays as it is
  pub others : ((answer.entry).kind ≡ START_KIND → ⊥) → new.collector ≡ collector_by (answer.entry).kind lane old.collector
