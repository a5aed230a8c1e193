-- What a disk in memory has recorded.
use Rattle.std.specs.Prelude.{◌≡◌, ℕ, List, [], ◌∷◌, ◌++◌, Result, Ok}
use Rattle.std.specs.declared.alloc.AllocError.{AllocError}
use Rattle.disk_trait.specs.Files.{Files}
use Rattle.disk_trait.specs.CrashImage.{crash_image}
use Rattle.disk_trait.specs.declared.step_log.Step.{Step}
use Rattle.disk_trait.specs.declared.step_log.LoggedStep.{LoggedStep}
use Rattle.disk_trait.specs.declared.memory.MemoryDisk.{MemoryDisk}

-- its steps so far
abbrev pub steps_of : MemoryDisk → List LoggedStep
steps_of d = d.log.items

-- what a crash leaves of it, by one of three choices
abbrev pub crashed_by : ℕ → MemoryDisk → Files
crashed_by choice d = crash_image choice (steps_of d)

-- the step was to be had, and is recorded at the moment of this call
abbrev pub RecordsStep : MemoryDisk → MemoryDisk → Result Step AllocError → Type 0
RecordsStep old new step = (s : Step) × (step ≡ Ok s) × (new.log.items ≡ old.log.items ++ record { at = new.calls; step = s } ∷ [])
