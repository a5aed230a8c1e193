-- The collector that is open, and what the entries of the order make of it.
use Rattle.std.specs.Prelude.{ℕ, ◌+◌, Bool, true, false, ◌&&◌, ◌||◌, ◌==◌, if◌then◌else◌, Option, Some, None, option_map, is_some}
use Rattle.store_types.specs.declared.refusal.Refusal.{Refusal}
use Rattle.store_types.specs.declared.refusal.Refusal.TheVariants as refusals
use Rattle.store_types.specs.declared.order.TheConstants.{MEMORY_KIND, STOP_KIND, FAULT_KIND, END_KIND}
use Rattle.store_model.specs.Lanes.{Collecting}
use Rattle.gc_plan.specs.Plan.{left_of}
use Rattle.core_state.specs.declared.collector.Collector.{Collector}
use Rattle.core_state.specs.declared.collector.Early.{Early}
use Rattle.core_state.specs.declared.collector.Early.TheVariants.{NoMemory, Unreadable}

-- ---- what ended it early

-- as its end replies it
abbrev pub refusal_of : Early → Refusal
refusal_of NoMemory = refusals.NoMemory
refusal_of (Unreadable path) = refusals.Unreadable path

-- ---- which collector is open

-- the lane whose collector is open, and what ended it early
pub record OpenOn : Type 0 where
  pub lane : ℕ
  pub ended : Option Early

abbrev pub open_in : Option Collector → Option OpenOn
open_in None = None
open_in (Some c) = Some (record { lane = c.lane; ended = c.ended })

-- as the plain store has it: want of memory alone ends one early
abbrev pub ended_if : Bool → Option Early
ended_if false = None
ended_if true = Some NoMemory

abbrev pub shown_collecting : Option Collecting → Option OpenOn
shown_collecting None = None
shown_collecting (Some c) = Some (record { lane = c.lane; ended = ended_if c.is_out_of_memory })

-- the open collector is this lane's
abbrev pub is_on : ℕ → Option Collector → Bool
is_on lane None = false
is_on lane (Some c) = c.lane == lane

-- and was ended early
abbrev pub is_cut : ℕ → Option Collector → Bool
is_cut lane None = false
is_cut lane (Some c) = (c.lane == lane) && is_some c.ended

-- ---- what entries make of it

-- what came first stands
abbrev pub first_of : Option Early → Early → Option Early
first_of None later = Some later
first_of (Some early) later = Some early

abbrev pub with_cut : Collector → Collector
with_cut c = record c { ended = first_of c.ended NoMemory }

-- memory was wanting on the lane
abbrev pub cut_on : ℕ → Option Collector → Option Collector
cut_on lane c = if is_on lane c then option_map with_cut c else c

-- the lane's collector closes
abbrev pub closed_on : ℕ → Option Collector → Option Collector
closed_on lane c = if is_on lane c then None else c

-- a fault of the disk, entered on the lane, closes it
abbrev pub closed_at_fault : ℕ → ℕ → Option Collector → Option Collector
closed_at_fault kind lane c = if kind == FAULT_KIND then closed_on lane c else c

-- The collector after an entry of the lane of this kind: want of memory ends the lane's early, and its end and the lane's end close it.
abbrev pub collector_by : ℕ → ℕ → Option Collector → Option Collector
collector_by kind lane c =
    if kind == MEMORY_KIND then cut_on lane c else
    if (kind == STOP_KIND) || (kind == END_KIND) then closed_on lane c else
    c

-- ---- its acts to come

-- A number that each mark, each visit and each want of memory lowers. Of one that was ended early the end alone is to come.
abbrev pub steps_if : Bool → ℕ → ℕ
steps_if true left = 0
steps_if false left = left + 1

abbrev pub steps_left : Option Collector → ℕ
steps_left None = 0
steps_left (Some c) = steps_if (is_some c.ended) (left_of c.plan)
