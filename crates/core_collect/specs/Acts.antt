-- What is told of the acts of a collector by what the core keeps.
use Rattle.disk_trait.specs.declared.disk.Disk.{Ghosts}
use Rattle.std.specs.Prelude.{ℕ, if◌then◌else◌, List, Option, Some, None, option_map, Result, Ok, Err}
use Rattle.store_types.specs.declared.refusal.Refusal.{Refusal}
use Rattle.store_types.specs.declared.refusal.Refusal.TheVariants.{Unreadable}
use Rattle.store_history.specs.declared.act.Act.{Act}
use Rattle.store_history.specs.declared.act.Act.TheVariants.{Start, Step}
use Rattle.store_history.specs.declared.act.Answer.{Answer}
use Rattle.core_state.specs.declared.collector.Collector.{Collector}
use Rattle.core_state.specs.declared.state.Core.{Core}
use Rattle.core_state.specs.Collectors.{is_on, refusal_of as early_refusal}
use Rattle.core_state.specs.Kept.{KeptAt}
use Rattle.core_state.specs.Tells.{Words, plain_words, untold}
use Rattle.core_state.specs.Unreadables.{Asked, known}
use Rattle.core_collect.specs.Ending.{early_in}
use Rattle.core_collect.specs.Starting.{StartTells, start_told}
use Rattle.core_collect.specs.Stepping.{StepTells}

-- on any disk: what it answers by what the core keeps, and which collector opens
abbrev pub CoreAnswersBy : {D E C : Type 0} → Ghosts D → Core D E C → Core D E C → ℕ → Act → Answer → Type 0
CoreAnswersBy d old new lane Start answer = StartTells old new lane answer
CoreAnswersBy d old new lane Step answer = StepTells d old new lane answer
CoreAnswersBy d old new lane _ answer = Unit {0}

-- ---- the file that is told to be unreadable

-- the file that the refusal names, which was found to be so before
abbrev pub asked_by : Option Refusal → Option Asked
asked_by (Some (Unreadable path)) = Some (record { path = path; way = known })
asked_by _ = None

abbrev pub refusal_of : Result (Unit {0}) Refusal → Option Refusal
refusal_of (Ok may) = None
refusal_of (Err refusal) = Some refusal

-- A start asks for the first damaged snapshot's, where nothing else refuses it; the end of a collector for the one that ended it early.
abbrev pub asked_of_collector : Act → Option Collector → KeptAt → Option Asked
asked_of_collector Start collector k = asked_by (refusal_of (start_told collector k))
asked_of_collector Step collector k = if is_on k.lane collector then asked_by (option_map early_refusal (early_in collector)) else None
asked_of_collector _ collector k = None

-- what it tells by its words
abbrev pub collect_words : {D : Type 0} → Act → Option Collector → Words D
collect_words act collector = record (plain_words untold) { asked = asked_of_collector act collector }
