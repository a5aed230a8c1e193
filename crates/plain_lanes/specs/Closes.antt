-- How a job that has a session ends.
use Rattle.wire_commands.specs.declared.reply.Reply.{Reply}
use Rattle.store_model.specs.Job as model
use Rattle.plain_lanes.specs.declared.ending.Close.{Close}
use Rattle.plain_lanes.specs.declared.ending.Close.TheVariants as closes

-- the step that closes the session
abbrev pub asked_by : Close → Reply → model.Asking
asked_by closes.Reader = model.closing
asked_by closes.Writer = model.aborting
