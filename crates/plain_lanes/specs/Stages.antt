-- Where a job is.
use Rattle.std.specs.Prelude.{◌+◌, ◌<◌, length, All, IfSome}
use Rattle.wire_commands.specs.declared.command.Command.TheVariants.{Prune}
use Rattle.wire_commands.specs.HasText.{IsText, FitsPruneRow, FitsFileRow, FitsFileFault, ReplyHasText}
use Rattle.store_model.specs.Job as model
use Rattle.plain_lanes.specs.declared.job.Stage.{Stage}
use Rattle.plain_lanes.specs.declared.job.Stage.TheVariants.{Grouping, Forgetting, Opening, Listing, Reading, Checking, Closing, Beginning, Sending, Aborting}
use Rattle.plain_lanes.specs.Visits.{shown_visit}
use Rattle.plain_lanes.specs.Pulls.{shown_pull}

abbrev pub shown_stage : Stage → model.Asking
shown_stage (Grouping group keep dry) = model.grouping (Prune group keep dry) keep dry
shown_stage (Forgetting before snapshot later) = model.forgetting before.items snapshot later.items
shown_stage (Opening snapshot) = model.opening snapshot
shown_stage (Listing snapshot) = model.listing snapshot
shown_stage (Reading visit row bytes) = model.reading (shown_visit visit) row bytes.items
shown_stage (Checking visit row fault place piece later) = model.checking (shown_visit visit) row fault place piece later.items
shown_stage (Closing report) = model.closing report
shown_stage (Beginning pull) = model.beginning (shown_pull pull)
shown_stage (Sending pull command later) = model.sending (shown_pull pull) command later.items
shown_stage (Aborting report) = model.aborting report

-- what is told of has a text, and so has all of it together
abbrev pub FitsStage : Stage → Type 0
FitsStage (Forgetting before snapshot later) =
    (length before.items + length later.items < 4096) × All FitsPruneRow before.items × IsText snapshot × All FitsPruneRow later.items
FitsStage (Reading visit row bytes) = FitsFileRow row
FitsStage (Checking visit row fault place piece later) = FitsFileRow row × IfSome fault FitsFileFault
FitsStage (Closing report) = ReplyHasText report
FitsStage (Aborting report) = ReplyHasText report
FitsStage _ = Unit {0}
