-- Where a file is found in a list of steps.
use Rattle.std.specs.Prelude.{◌≡◌, ℕ, List, Option, Some, None, MatchOption}
use Rattle.std.specs.Borrow.{Bor}
use Rattle.std.specs.FinMap.{get, empty}
use Rattle.disk_trait.specs.Files.{Files}
use Rattle.disk_trait.specs.Replay.{played}
use Rattle.disk_trait.specs.declared.step_log.LoggedStep.{LoggedStep}
use Rattle.disk_trait.specs.declared.step_log.Trace.{Trace}
use Rattle.disk_trait.specs.declared.step_log.Trace.TheVariants.{Bytes, Nothing, Name}

-- what stands there, where these files were there before the step
abbrev pub traced : Files → Trace → Option (List ℕ)
traced files (Bytes bytes) = Some bytes.now
traced files Nothing = None
traced files (Name before) = get files before.now

-- it is what stands at the name after the steps, on a disk that was empty
abbrev pub IsFound : List LoggedStep → List ℕ → Option (Bor (List ℕ)) → Type 0
IsFound log name found = MatchOption found (get (played empty log) name ≡ None) (λ bytes. get (played empty log) name ≡ Some bytes.now)
