-- What an entry leaves of a run.
use Rattle.std.specs.Prelude.{◌≡◌, ℕ, Bool, true, false, List, ◌==◌, if◌then◌else◌, Option, Some, None, option_map, Result, Ok, Err, IfOk}
use Rattle.std.specs.Borrow.{Bor}
use Rattle.store_types.specs.declared.order.Entry.{Entry}
use Rattle.store_types.specs.declared.refusal.Refusal.{Refusal}
use Rattle.wire_commands.specs.declared.reply.Reply.TheVariants.{Refused}
use Rattle.store_model.specs.declared.ending.Ending.{Ending}
use Rattle.store_model.specs.Lanes.{Collecting, Run, lane_at, with_lane, new_run, next_of}
use Rattle.store_model.specs.Store.{Store}
use Rattle.store_model.specs.Weave.{Misfit, Woven, close_collector, ends, entered, fault_refusal, faulted, first_fault, open_collector, opens, passed, remote_failed, short, stepped, tell, told_fault, unread, want_collector, weave}
use Rattle.plain_lanes.specs.declared.next.Ahead.{Ahead}
use Rattle.plain_lanes.specs.declared.next.Next.{Next}
use Rattle.plain_lanes.specs.Nexts.{shown_ahead, shown_left, left_by}

-- where memory is not wanting, this is left, or nothing is told
abbrev pub GivesLeft : {E : Type 0} → Result (Option (Bor (List ℕ))) E → Option (List ℕ) → Type 0
GivesLeft result left = IfOk result (λ found. shown_left found ≡ left)

-- a job that is next is taken out of its lane
abbrev pub run_left : Next → Run → ℕ → Run
run_left n r k = with_lane r k (left_by n (lane_at r k))

-- whether an entry fits, and the run after it
abbrev pub Enters : Run → Run → Bool → Option Run → Type 0
Enters old new true entered = entered ≡ Some new
Enters old new false entered = (entered ≡ None) × (new ≡ old)

-- whether memory was wanting since the lane's own collector opened, where it is open
abbrev pub own_of : Option Collecting → ℕ → Option Bool
own_of None k = None
own_of (Some c) k = if c.lane == k then Some c.is_out_of_memory else None

abbrev pub own_collector : Run → ℕ → Option Bool
own_collector r k = own_of r.collecting k

-- no collector of the lane is open
abbrev pub IsApart : Run → ℕ → Type 0
IsApart r k = own_collector r k ≡ None

-- ---- an entry of a lane, by what stands next there

-- where memory is not wanting, it tells whether the entry fits
abbrev pub EntersBy : {E : Type 0} → Run → Run → Option Run → Result Bool E → Type 0
EntersBy old new entered result = IfOk result (λ fits. Enters old new fits entered)

abbrev pub stepped_at : Run → ℕ → ℕ → Option Run
stepped_at r lane moment = stepped r lane moment (next_of r lane)

-- the same of a command that asks for no step, with this left behind it
abbrev pub begun_at : Run → ℕ → ℕ → Ahead → List ℕ → Option Run
begun_at r lane moment ahead left = stepped r lane moment (shown_ahead ahead left)

abbrev pub BeginsBy : {E : Type 0} → Run → Run → ℕ → ℕ → Ahead → List ℕ → Result Bool E → Type 0
BeginsBy old new lane moment ahead left result = EntersBy old new (begun_at old lane moment ahead left) result

-- a GC that is refused
abbrev pub refused_at : Run → ℕ → List ℕ → Option Run
refused_at r lane left = elim (want_collector r lane) [ Ok may ↦ None | Err refusal ↦ Some (tell r lane left (Refused refusal)) ]

abbrev pub passed_at : Run → ℕ → Option Run
passed_at r lane = passed r (next_of r lane)

-- a GC whose collector opens
abbrev pub opened_at : Run → ℕ → List ℕ → Option Run
opened_at r lane left = elim (want_collector r lane) [ Ok may ↦ Some (open_collector r lane left) | Err refusal ↦ None ]

abbrev pub opens_at : Run → ℕ → Option Run
opens_at r lane = opens r lane (next_of r lane)

abbrev pub short_at : Run → ℕ → Option Run
short_at r lane = short r lane (next_of r lane)

abbrev pub fault_at : Run → ℕ → Refusal → Run
fault_at r lane refusal = told_fault r lane refusal (next_of r lane)

abbrev pub faulted_at : Run → ℕ → ℕ → Ending → List Entry → Run
faulted_at r lane place ending later = faulted r lane place ending later (next_of r lane)

abbrev pub remote_failed_at : Run → ℕ → Option Run
remote_failed_at r lane = remote_failed r lane (next_of r lane)

abbrev pub ends_at : Run → ℕ → Ending → Option Run
ends_at r lane ending = ends r lane ending (next_of r lane)

-- ---- and of a lane whose collector is open

abbrev pub short_open : Run → ℕ → Run
short_open r lane = record r { collecting = Some (record { lane = lane; is_out_of_memory = true }) }

abbrev pub fault_open_at : Run → ℕ → ℕ → Run
fault_open_at r lane place = record (close_collector r lane (Refused (fault_refusal r.fault))) { fault = first_fault place r.fault }

abbrev pub end_open_at : Run → ℕ → Ending → Option Run
end_open_at r lane ending = unread (record r { collecting = None }) lane ending

-- the entry at a place, whose lane has this ending
abbrev pub EntersEntry : {E : Type 0} → Run → Run → Ending → ℕ → Entry → List Entry → Result Bool E → Type 0
EntersEntry old new ending place entry later result = EntersBy old new (entered (λ _ _. ending) old place entry later) result

-- the same, whatever comes behind it
abbrev pub EntersOpen : {E : Type 0} → Run → Run → Ending → ℕ → Entry → Result Bool E → Type 0
EntersOpen old new ending place entry result = (later : List Entry) → EntersEntry old new ending place entry later result

-- ---- a run as a whole

-- the run of the store's lanes, beside another store where there is one
abbrev pub BeginsRun : {R E : Type 0} → Store → Option R → (R → Store) → List (List ℕ) → Result Run E → Type 0
BeginsRun s remote shown inputs result = IfOk result (λ run. run ≡ new_run s.snapshots (option_map (λ p. (shown p).snapshots) remote) inputs)

-- what these inputs and endings make in this order, or the first entry that does not fit
abbrev pub Plays : {R E : Type 0} → Store → Option R → (R → Store) → List Entry → List (List ℕ) → List Ending → Result (Result Woven Misfit) E → Type 0
Plays s remote shown order inputs endings result =
    IfOk result (λ woven. woven ≡ weave s.snapshots (option_map (λ p. (shown p).snapshots) remote) order inputs endings)
