-- A collection's states.
use Rattle.wire_commands.specs.HasText.{ReplyHasText}
use Rattle.lane.specs.declared.collecting.State.{State}
use Rattle.lane.specs.declared.collecting.State.TheVariants.{Starting, Sweeping, Over}
use Rattle.lane.specs.Tasks.{Stage, done, starts, sweeps}

abbrev pub stage_of : State → Stage
stage_of Starting = starts
stage_of Sweeping = sweeps
stage_of (Over report) = done report

-- its report has a spelling
abbrev pub EndsInText : Stage → Type 0
EndsInText (done report) = ReplyHasText report
EndsInText s = Unit {0}
