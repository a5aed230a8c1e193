-- What the words ask for.
use Rattle.std.specs.Prelude.{◌≡◌, ◌<◌, ◌≤◌, ◌⊎◌, ◌+◌, ◌*◌, ℕ, Bool, true, List, [], length, Option, Some, None, is_some, Result, Ok, Err, String}
use Rattle.std.specs.declared.alloc.Global.{Global}
use Rattle.command_line.specs.Reading.{IsCount, check, generate, reading, run, texts}
use Rattle.store_model.specs.Store.{lane_count}
use Rattle.pbs_server.specs.declared.asking.Asked.{Asked}
use Rattle.pbs_server.specs.declared.asking.Asked.TheVariants.{Check, Gen, Run}
use Rattle.pbs_server.specs.declared.served.Served.{Served}
use Rattle.pbs_server.specs.declared.status.Status.{Status}
use Rattle.pbs_server.specs.declared.status.Status.TheVariants as statuses

-- they are a run's, of as many sessions as there are ports, with a file for the order or without
pub record AsksRun (words : List (List ℕ)) (ports : ℕ) (with_order : Bool) : Type 0 where
  pub root : List ℕ
  pub remote : Option (List ℕ)
  pub order : Option (List ℕ)
  pub sessions : List (List ℕ)
  pub says : reading words ≡ Some (run root remote order sessions)
  pub fits : length sessions ≡ ports
  pub order_is : is_some order ≡ with_order

abbrev pub IsAsked : List (List ℕ) → ℕ → Type 0
IsAsked words ports = (with_order : Bool) × AsksRun words ports with_order

-- they are those that ask for made sessions, those of lanes 0 to n, and there are no ports
pub record AsksMade (words : List (List ℕ)) (ports n : ℕ) : Type 0 where
  pub root : List ℕ
  pub says : reading words ≡ Some (generate root n)
  pub fits : 0 ≡ ports

abbrev pub IsMade : List (List ℕ) → ℕ → Type 0
IsMade words ports = (n : ℕ) × AsksMade words ports n

-- they are a check's, of a port of the order and two of each session
pub record AsksCheck (words : List (List ℕ)) (ports : ℕ) : Type 0 where
  pub root : List ℕ
  pub order : List ℕ
  pub remote : Option (List ℕ)
  pub sessions : List (List ℕ)
  pub says : reading words ≡ Some (check root order remote sessions)
  pub fits : 1 + 2 * length sessions ≡ ports

-- the ports of a check of as many sessions as there are lanes
abbrev pub check_limit : ℕ
check_limit = 1 + 2 * lane_count

-- a run of more sessions than there are lanes, or a check of one
abbrev pub IsTooMany : List (List ℕ) → ℕ → Type 0
IsTooMany words ports = (IsAsked words ports × (lane_count < ports)) ⊎ (AsksCheck words ports × (check_limit < ports))

-- they have a reading, and there are as many ports as it asks for
abbrev pub IsAnything : List (List ℕ) → ℕ → Type 0
IsAnything words ports = IsAsked words ports ⊎ (IsMade words ports ⊎ AsksCheck words ports)

-- what is asked for: a run that there are lanes for, with its order or without, made sessions, or a check of a run; or why no session is served
abbrev pub Answers : List (List ℕ) → ℕ → Result Asked Status → Type 0
Answers words ports (Ok (Run with_order)) = AsksRun words ports with_order × (ports ≤ lane_count)
Answers words ports (Ok (Gen n)) = AsksMade words ports n × IsCount n
Answers words ports (Ok Check) = AsksCheck words ports × (ports ≤ check_limit)
Answers words ports (Err statuses.Usage) = IsAnything words ports → ⊥
Answers words ports (Err statuses.TooManyLanes) = IsTooMany words ports
Answers words ports (Err statuses.NoMemory) = Unit {0}
Answers words ports (Err other) = ⊥

-- ---- of a call

-- they have no reading, or ask for another number of ports than there are
abbrev pub IsMisused : List (String Global) → ℕ → Type 0
IsMisused words ports = IsAnything (texts words) ports → ⊥

-- they ask for more sessions than there are lanes
abbrev pub AsksTooMany : List (String Global) → ℕ → Type 0
AsksTooMany words ports = IsTooMany (texts words) ports

-- they ask for a run that there are lanes for, and for its order
abbrev pub AsksOrder : List (String Global) → ℕ → Type 0
AsksOrder words ports = AsksRun (texts words) ports true × (ports ≤ lane_count)

-- they ask for a check that there are lanes for
abbrev pub IsCheck : List (String Global) → ℕ → Type 0
IsCheck words ports = AsksCheck (texts words) ports × (ports ≤ check_limit)

-- memory was wanting before the datastore was opened, as for the words: no session was served, and nothing was done (`HasNotServed`)
pub record IsUnread {D E : Type 0} (result : Served D E) : Type 0 where
  pub status : result.status ≡ statuses.NoMemory
  pub lanes : ((result.report).lanes).items ≡ []
  pub not_opened : (result.report).not_opened ≡ None

-- the status is this one only where P holds, and where P holds it is this one, unless memory was wanting to find that out
abbrev pub TellsJust : {D E : Type 0} → Served D E → Status → Type 0 → Type 0
TellsJust result this P = (result.status ≡ this → P) × (P → (result.status ≡ this) ⊎ IsUnread result)
