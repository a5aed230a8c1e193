-- What a job's state means.
use Rattle.store_model.specs.Job.{Job, over, asking, grouping, opening, listing, reading, closing}
use Rattle.std.specs.Prelude.{Option}
use Rattle.wire_commands.specs.declared.rows.FileFault.{FileFault}
use Rattle.wire_commands.specs.declared.rows.FileRow.{FileRow}
use Rattle.wire_commands.specs.declared.command.Command.TheVariants.{Prune}
use Rattle.store_model.specs.VerifyJob as verify
use Rattle.job_steps.specs.declared.chunks.Chunks.{Chunks}
use Rattle.job_steps.specs.declared.job.State.{State}
use Rattle.job_steps.specs.declared.prune.Forgetting as prune
use Rattle.job_steps.specs.declared.job.State.TheVariants.{Over, Grouping, Forgetting, Opening, Listing, Reading, Checking, Closing}
use Rattle.job_steps.specs.declared.visit.Visit.{Visit}
use Rattle.job_steps.specs.Rows.{asked_at}
use Rattle.job_steps.specs.Visits.{fault_in, pieces_left, place_in, shown_visit}

-- a VERIFY that reads the chunks of an index, of which those that were read count as tested; behind the last the file is done
abbrev pub chunks_of : Visit → FileRow → Option FileFault → Chunks → Job
chunks_of v row fault c = verify.next_chunk (shown_visit v) row (fault_in fault c) (place_in c) (pieces_left c)

-- a PRUNE that is to forget the snapshot of a row
abbrev pub forgetting_of : prune.Forgetting → Job
forgetting_of f = asked_at f.rows.items f.place

abbrev pub job_in : State → Job
job_in (Over report) = over report
job_in (Grouping g) = asking (grouping (Prune g.group g.keep g.dry) g.keep g.dry)
job_in (Forgetting f) = forgetting_of f
job_in (Opening o) = asking (opening o.snapshot)
job_in (Listing o) = asking (listing o.snapshot)
job_in (Reading r) = asking (reading (shown_visit r.visit) r.row r.bytes.items)
job_in (Checking c) = chunks_of c.visit c.row c.fault c.chunks
job_in (Closing report) = asking (closing report)
