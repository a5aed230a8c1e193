use Rattle.std.proofs.Common.{refl, sym, ap, ◌∙◌}
use Rattle.plain_lanes.specs.Nexts.{shown_left}
use Rattle.plain_store.proofs.RunLemmas.{opens_open, opens_nothing, opens_by}
use Rattle.plain_store.proofs.run.Run.opens.Goals as goal

pub returns-then-has_job-clause-enters : goal.returns-then-has_job-clause-enters
returns-then-has_job-clause-enters c = (opens_open c.args.self.now c.args.lane c.requires.apart (sym c.has_job.ensures ∙ c.if-has_job.true), refl)

pub next_collect-requires-clause-idle : goal.next_collect-requires-clause-idle
next_collect-requires-clause-idle c = sym c.has_job.ensures ∙ c.if-has_job.false

pub returns-in_default-clause-enters : goal.returns-in_default-clause-enters
returns-in_default-clause-enters c =
    opens_nothing c.args.self.now c.args.lane c.next_collect.new.self c.in_ok-left.ensures.same (sym c.in_ok-left.ensures.left ∙ ap shown_left c.in_default.is)

pub returns-clause-enters : goal.returns-clause-enters
returns-clause-enters c =
    let found = sym c.in_ok-left.ensures.left ∙ ap shown_left c.in-Some.is in
    opens_by c.args.self.now c.args.lane c.next_collect.new.self c.in_ok-left.ensures.same c.in-Some.left.now c.open_allowed.new.self c.open_allowed.result found
    c.open_allowed.ensures.enters
