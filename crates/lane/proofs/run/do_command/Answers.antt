use Rattle.std.proofs.Common.{◌≡◌, ℕ, List, IfOk, ap, sym, subst, ◌∙◌}
use Rattle.store_history.specs.Acts.{IsWellFormed}
use Rattle.store_history.specs.Pulling.{asks, seeking}
use Rattle.store_history.proofs.Ending.{is_formed}
use Rattle.lane.specs.Acting.{HasReply}
use Rattle.lane.specs.Tasks.{IsTask, first_stage}
use Rattle.lane.proofs.Acting.{replied}
use Rattle.lane.proofs.Doing.{command_alone, does_plain, gc_by, job_by}
use Rattle.lane.proofs.Drops.{pull_first, pull_may}
use Rattle.lane.proofs.Stepping.{job_first, job_task, job_wants}
use Rattle.lane.proofs.run.do_command.Goals as goal

-- ---- a PRUNE or a VERIFY

pub start-job-requires : goal.start-job-requires
start-job-requires g c = job_by c.args.command (sym c.is_job.ensures ∙ c.if-is_job.true)

pub do_task-told-requires-clause-task : goal.do_task-told-requires-clause-task
do_task-told-requires-clause-task g c κs lives = job_task c.args.command (job_by c.args.command (sym c.is_job.ensures ∙ c.if-is_job.true))

pub do_task-told-requires-clause-first : goal.do_task-told-requires-clause-first
do_task-told-requires-clause-first g c κs lives = job_first c.args.command c.start-job.result (job_by c.args.command (sym c.is_job.ensures ∙ c.if-is_job.true)) c.start-job.ensures

pub do_task-told-requires-clause-wants : goal.do_task-told-requires-clause-wants
do_task-told-requires-clause-wants g c κs lives = job_wants c.args.command c.start-job.result (job_by c.args.command (sym c.is_job.ensures ∙ c.if-is_job.true))

-- ---- a GC

pub do_task-told-requires-then-is_gc-clause-task : goal.do_task-told-requires-then-is_gc-clause-task
do_task-told-requires-then-is_gc-clause-task g c κs lives = subst IsTask (sym (gc_by c.args.command (sym c.is_gc.ensures ∙ c.if-is_gc.true))) tt

pub do_task-told-requires-then-is_gc-clause-first : goal.do_task-told-requires-then-is_gc-clause-first
do_task-told-requires-then-is_gc-clause-first g c κs lives = c.new.ensures ∙ ap first_stage (sym (gc_by c.args.command (sym c.is_gc.ensures ∙ c.if-is_gc.true)))

-- ---- a SYNC

pub do_task-told-requires-in-Sync-clause-task : goal.do_task-told-requires-in-Sync-clause-task
do_task-told-requires-in-Sync-clause-task g c κs lives = subst IsTask (sym c.in-Sync.is) tt

pub do_task-told-requires-in-Sync-clause-first : goal.do_task-told-requires-in-Sync-clause-first
do_task-told-requires-in-Sync-clause-first g c κs lives = pull_first c.args.command c.in-Sync.group c.start-pull.result c.in-Sync.is
    (subst (λ (text : List ℕ). IfOk c.start-pull.result (λ job. job ≡ asks (seeking text))) c.as_slice.ensures c.start-pull.ensures)

pub do_task-told-requires-in-Sync-clause-wants : goal.do_task-told-requires-in-Sync-clause-wants
do_task-told-requires-in-Sync-clause-wants g c κs lives = pull_may c.args.command c.in-Sync.group c.start-pull.result c.in-Sync.is

-- ---- a command of one act

pub ask-requires-clause-formed : goal.ask-requires-clause-formed
ask-requires-clause-formed g c = subst IsWellFormed (sym c.act_of.ensures)
    (is_formed c.args.command (command_alone c.args.command c.requires.other (sym c.is_job.ensures ∙ c.if-is_job.false) (sym c.is_gc.ensures ∙ c.if-is_gc.false) c.in_default.not-Sync))

pub ask-requires-clause-replied : goal.ask-requires-clause-replied
ask-requires-clause-replied g c = subst HasReply (sym c.act_of.ensures) (replied c.args.command)

pub returns-clause-does : goal.returns-clause-does
returns-clause-does g c = λ start.
    does_plain _ _ c.args.lane c.args.command c.act_of.result c.ask.result (c.ask.ensures.did start) c.act_of.ensures
    (command_alone c.args.command c.requires.other (sym c.is_job.ensures ∙ c.if-is_job.false) (sym c.is_gc.ensures ∙ c.if-is_gc.false) c.in_default.not-Sync)
