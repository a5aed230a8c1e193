use Rattle.std.proofs.Common.{Option, sym, ap, subst, ◌∙◌}
use Rattle.store_model.specs.Lanes.{Run}
use Rattle.store_model.specs.Weave.{unread}
use Rattle.plain_lanes.specs.Nexts.{shown_next}
use Rattle.plain_store.specs.Runs.{Enters}
use Rattle.plain_store.proofs.Spelled.{done_spelled}
use Rattle.plain_store.proofs.RunLemmas.{ends_open, unread_job, unread_command}
use Rattle.plain_store.proofs.run.Run.ends.Goals as goal

pub end_with-requires-clause-spelled : goal.end_with-requires-clause-spelled
end_with-requires-clause-spelled c = done_spelled

pub returns-then-has_job-clause-enters : goal.returns-then-has_job-clause-enters
returns-then-has_job-clause-enters c =
    let r = c.args.self.now in
    let there = ends_open r c.args.lane c.args.ending c.requires.apart (sym c.has_job.ensures ∙ c.if-has_job.true) in
    subst (λ (o : Option Run). Enters r c.end_unread.new.self c.end_unread.result o) (sym there) c.end_unread.ensures.enters

pub returns-in-Job-clause-enters : goal.returns-in-Job-clause-enters
returns-in-Job-clause-enters c =
    let r = c.args.self.now in
    let k = c.args.lane in
    let ending = c.args.ending in
    let n = c.in_ok-take_next.field-0 in
    let new = c.end_unread-in-Job.new.self in
    let fits = c.end_unread-in-Job.result in
    let idle = sym c.has_job.ensures ∙ c.if-has_job.false in
    let entered = subst (λ (x : Run). Enters x new fits (unread x k ending)) c.in_ok-take_next.ensures.left c.end_unread-in-Job.ensures.enters in
    unread_job r k c.requires.lane n c.in_ok-take_next.ensures.next ending idle new fits c.in-Job.asking c.in-Job.field-1.now (ap shown_next c.in-Job.is) entered

pub returns-in-Command-clause-enters : goal.returns-in-Command-clause-enters
returns-in-Command-clause-enters c =
    let r = c.args.self.now in
    let k = c.args.lane in
    let ending = c.args.ending in
    let n = c.in_ok-take_next.field-0 in
    let new = c.end_unread-in-Command.new.self in
    let fits = c.end_unread-in-Command.result in
    let idle = sym c.has_job.ensures ∙ c.if-has_job.false in
    let entered = subst (λ (x : Run). Enters x new fits (unread x k ending)) c.in_ok-take_next.ensures.left c.end_unread-in-Command.ensures.enters in
    unread_command r k c.requires.lane n c.in_ok-take_next.ensures.next ending idle new fits c.in-Command.ahead c.in-Command.field-1.now (ap shown_next c.in-Command.is) entered
