-- Steps that are made from the steps of another disk.
use Rattle.std.specs.Prelude.{◌≡◌, ◌≢◌, ℕ, List, T, Option, Some, None}
use Rattle.disk_trait.specs.Files.{Files}
use Rattle.std.specs.FinMap.{empty}
use Rattle.disk_trait.specs.Replay.{done, played, all_by, all_short, gives_short, leaves}
use Rattle.disk_trait.specs.CrashImage.{torn_by, torn, left_since, crash_image}
use Rattle.disk_trait.specs.declared.step_log.Step.{Step}
use Rattle.disk_trait.specs.declared.step_log.LoggedStep.{LoggedStep}

-- it does the same
pub record IsCopy (step copy : Step) : Type 0 where
  pub does : (files : Files) → done files copy ≡ done files step
  pub short : T (gives_short step) → T (gives_short copy)

abbrev pub IsTorn : Step → Option Step → Type 0
IsTorn step None = (files : Files) → torn_by files step ≡ files
IsTorn step (Some copy) = ((files : Files) → done files copy ≡ torn_by files step) × (T (gives_short step) → T (gives_short copy))

-- The steps that were added make this of the files, as those of the log do; they are as early and as short.
pub record Remakes (old new log : List LoggedStep) (made : Files → Files) : Type 0 where
  pub plays : (files : Files) → played files new ≡ made (played files old)
  pub early : all_by 0 old → all_by 0 new
  pub short : all_short log → all_short old → all_short new

-- the steps of the log were added
abbrev pub ReplaysAll : List LoggedStep → List LoggedStep → List LoggedStep → Type 0
ReplaysAll old new log = Remakes old new log (λ files. played files log)

-- the steps of the log were added, torn
abbrev pub ReplaysTorn : List LoggedStep → List LoggedStep → List LoggedStep → Type 0
ReplaysTorn old new log = Remakes old new log (λ files. torn files log)

-- what a crash leaves of steps since the last sync was added
abbrev pub ReplaysSince : ℕ → List LoggedStep → List LoggedStep → List LoggedStep → Type 0
ReplaysSince choice old new since = Remakes old new since (λ files. left_since choice files since)

-- what steps leave of a disk that was empty
abbrev pub left_by : List LoggedStep → Files → Type 0
left_by log c = leaves log empty (λ b. b ≡ empty) c

-- The steps make what a crash leaves after those of the log, which is one of the log's images. They are synced.
pub record IsLeft (choice : ℕ) (log left : List LoggedStep) : Type 0 where
  pub reads : played empty left ≡ crash_image choice log
  pub plain : choice ≢ 0 → choice ≢ 2 → played empty left ≡ played empty log
  pub image : left_by log (played empty left)
  pub firm : (c : Files) → left_by left c → c ≡ played empty left
  pub early : all_by 0 left
  pub short : all_short log → all_short left
