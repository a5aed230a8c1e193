use Rattle.std.proofs.Common.{◌≢◌, ◌∙◌, ap, inl, inr, length, refl, sym, subst, Ok}
use Rattle.command_line.specs.Reading.{texts}
use Rattle.pbs_server.specs.declared.status.Status.TheVariants as statuses
use Rattle.pbs_server.specs.Headline.{Leaves}
use Rattle.pbs_server.specs.Words.{Answers, AsksRun}
use Rattle.pbs_server.proofs.Checked.{generated_never, leaves_checked, leaves_never, many_checked, told_never, told_unequal_is, unequal_checked, unequal_none, usage_checked}
use Rattle.pbs_server.proofs.Complete.{complete_by}
use Rattle.pbs_server.proofs.Generated.{leaves_made, leaves_ports, many_made, usage_made}
use Rattle.pbs_server.proofs.Handed.{many_run, told_asks, usage_run}
use Rattle.pbs_server.proofs.Journal.{leaves_told}
use Rattle.pbs_server.proofs.Leaving.{leaves_none}
use Rattle.pbs_server.proofs.Unserved.{check_unserved, journal_unserved, leaves_unserved, many_unserved, unequal_unserved, unserved_by, usage_unserved}
use Rattle.pbs_server.proofs.Words.{few_ports, odd_ports, run_check, run_made, some_asked, unordered}
use Rattle.pbs_server.proofs.serving.serve.Goals as goal

-- a run has a session at least
pub serve_ports-served-requires-clause-some : goal.serve_ports-served-requires-clause-some
serve_ports-served-requires-clause-some g c κs lives =
    let asks = subst (λ a. Answers (texts c.args.words.now) (length c.args.lanes.now) (Ok a)) c.in-Run.is c.in-Ok.ensures in
    some_asked (texts c.args.words.now) (length c.args.lanes.now) c.in-Run.with_order asks.0

-- ---- a check

pub serve_checked-requires-clause-odd : goal.serve_checked-requires-clause-odd
serve_checked-requires-clause-odd g c =
    let asks = subst (λ a. Answers (texts c.args.words.now) (length c.args.lanes.now) (Ok a)) c.in-Check.is c.in-Ok.ensures in
    odd_ports (texts c.args.words.now) (length c.args.lanes.now) asks

pub serve_checked-requires-clause-few : goal.serve_checked-requires-clause-few
serve_checked-requires-clause-few g c =
    let asks = subst (λ a. Answers (texts c.args.words.now) (length c.args.lanes.now) (Ok a)) c.in-Check.is c.in-Ok.ensures in
    few_ports (texts c.args.words.now) (length c.args.lanes.now) asks

pub returns-in-Check-clause-leaves : goal.returns-in-Check-clause-leaves
returns-in-Check-clause-leaves g c =
    let asks = subst (λ a. Answers (texts c.args.words.now) (length c.args.lanes.now) (Ok a)) c.in-Check.is c.in-Ok.ensures in
    leaves_checked g.D.Disk g.E.Disk g.S.Source g.J.Sink c.args.words.now c.args.disk c.args.remote c.args.lanes.now c.serve_checked.new.ports
    c.args.journal.now c.serve_checked.new.journal c.serve_checked.result asks c.serve_checked.ensures g.K.Sink (g.C.Clock.readings c.args.clock)

pub returns-in-Check-clause-usage : goal.returns-in-Check-clause-usage
returns-in-Check-clause-usage g c =
    let asks = subst (λ a. Answers (texts c.args.words.now) (length c.args.lanes.now) (Ok a)) c.in-Check.is c.in-Ok.ensures in
    usage_checked g.D.Disk g.E.Disk g.S.Source g.J.Sink c.args.words.now c.args.disk c.args.remote c.args.lanes.now c.serve_checked.new.ports
    c.args.journal.now c.serve_checked.new.journal c.serve_checked.result asks c.serve_checked.ensures

pub returns-in-Check-clause-many : goal.returns-in-Check-clause-many
returns-in-Check-clause-many g c =
    let asks = subst (λ a. Answers (texts c.args.words.now) (length c.args.lanes.now) (Ok a)) c.in-Check.is c.in-Ok.ensures in
    many_checked g.D.Disk g.E.Disk g.S.Source g.J.Sink c.args.words.now c.args.disk c.args.remote c.args.lanes.now c.serve_checked.new.ports
    c.args.journal.now c.serve_checked.new.journal c.serve_checked.result asks c.serve_checked.ensures

pub returns-in-Check-clause-unequal : goal.returns-in-Check-clause-unequal
returns-in-Check-clause-unequal g c =
    let asks = subst (λ a. Answers (texts c.args.words.now) (length c.args.lanes.now) (Ok a)) c.in-Check.is c.in-Ok.ensures in
    unequal_checked g.D.Disk g.E.Disk g.S.Source g.J.Sink c.args.words.now c.args.disk c.args.remote c.args.lanes.now c.serve_checked.new.ports
    c.args.journal.now c.serve_checked.new.journal c.serve_checked.result asks c.serve_checked.ensures

-- ---- made sessions

pub returns-in-Gen-clause-leaves : goal.returns-in-Gen-clause-leaves
returns-in-Gen-clause-leaves g c =
    let asks = subst (λ a. Answers (texts c.args.words.now) (length c.args.lanes.now) (Ok a)) c.in-Gen.is c.in-Ok.ensures in
    leaves_made g.D.Disk g.E.Disk g.S.Source g.K.Sink g.J.Sink (g.C.Clock.readings c.args.clock) c.args.words.now c.args.disk c.args.remote c.args.lanes.now c.in-Gen.n asks.0
    c.args.journal.now c.serve_generated.new.journal c.serve_generated.result c.serve_generated.ensures.leaves

pub returns-in-Gen-clause-usage : goal.returns-in-Gen-clause-usage
returns-in-Gen-clause-usage g c =
    let asks = subst (λ a. Answers (texts c.args.words.now) (length c.args.lanes.now) (Ok a)) c.in-Gen.is c.in-Ok.ensures in
    usage_made g.D.Disk g.E.Disk g.S.Source g.K.Sink g.J.Sink (g.C.Clock.readings c.args.clock) c.args.words.now c.args.disk c.args.remote c.args.lanes.now c.in-Gen.n asks.0
    c.args.journal.now c.serve_generated.new.journal c.serve_generated.result c.serve_generated.ensures.leaves

pub returns-in-Gen-clause-many : goal.returns-in-Gen-clause-many
returns-in-Gen-clause-many g c =
    let asks = subst (λ a. Answers (texts c.args.words.now) (length c.args.lanes.now) (Ok a)) c.in-Gen.is c.in-Ok.ensures in
    many_made g.D.Disk g.E.Disk g.S.Source g.K.Sink g.J.Sink (g.C.Clock.readings c.args.clock) c.args.words.now c.args.disk c.args.remote c.args.lanes.now c.in-Gen.n asks.0
    c.args.journal.now c.serve_generated.new.journal c.serve_generated.result c.serve_generated.ensures.leaves

pub returns-in-Gen-clause-unequal : goal.returns-in-Gen-clause-unequal
returns-in-Gen-clause-unequal g c =
    unequal_none (c.serve_generated.result.report).unequal c.serve_generated.result.status c.serve_generated.ensures.unequal
    (generated_never g.D.Disk g.E.Disk c.args.disk c.args.remote g.J.Sink c.in-Gen.n c.args.journal.now c.serve_generated.new.journal c.serve_generated.result c.serve_generated.ensures.leaves)

-- ---- no session is served: by the words

pub returns-in-Err-clause-usage : goal.returns-in-Err-clause-usage
returns-in-Err-clause-usage g c =
    let n = c.not_served.ensures in
    usage_unserved c.args.words.now (length c.args.lanes.now) c.in-Err.status c.in-Err.ensures c.args.disk c.args.remote c.not_served.result
    (unserved_by c.in-Err.status c.args.disk c.args.remote c.not_served.result n.status n.not_opened n.not_saved n.order n.lanes n.calls n.journal n.unequal n.disk n.remote)

pub returns-in-Err-clause-many : goal.returns-in-Err-clause-many
returns-in-Err-clause-many g c =
    let n = c.not_served.ensures in
    many_unserved c.args.words.now (length c.args.lanes.now) c.in-Err.status c.in-Err.ensures c.args.disk c.args.remote c.not_served.result
    (unserved_by c.in-Err.status c.args.disk c.args.remote c.not_served.result n.status n.not_opened n.not_saved n.order n.lanes n.calls n.journal n.unequal n.disk n.remote)

pub returns-in-Err-clause-unequal : goal.returns-in-Err-clause-unequal
returns-in-Err-clause-unequal g c =
    let n = c.not_served.ensures in
    unequal_unserved c.args.words.now (length c.args.lanes.now) c.in-Err.status c.in-Err.ensures c.args.disk c.args.remote c.not_served.result
    (unserved_by c.in-Err.status c.args.disk c.args.remote c.not_served.result n.status n.not_opened n.not_saved n.order n.lanes n.calls n.journal n.unequal n.disk n.remote)

pub returns-in-Err-clause-leaves : goal.returns-in-Err-clause-leaves
returns-in-Err-clause-leaves g c =
    let n = c.not_served.ensures in
    let left = c.not_served.result in
    let d = g.D.Disk in
    let words = c.args.words.now in
    let same = c.args.lanes.now in
    let s = c.in-Err.status in
    let u = unserved_by s c.args.disk c.args.remote left n.status n.not_opened n.not_saved n.order n.lanes n.calls n.journal n.unequal n.disk n.remote in
    leaves_ports d g.E.Disk g.S.Source g.K.Sink g.J.Sink (g.C.Clock.readings c.args.clock) words c.args.disk c.args.remote same same c.args.journal.now c.args.journal.now left
    (λ made. n.lanes)
    (check_unserved words (length same) s c.in-Err.ensures c.args.disk c.args.remote left u)
    (leaves_none d g.E.Disk g.S.Source g.K.Sink (g.C.Clock.readings c.args.clock) c.args.disk c.args.remote left same _ n.lanes
    (leaves_unserved words (length same) s c.in-Err.ensures c.args.disk c.args.remote left u d same))
    (journal_unserved words (length same) s c.in-Err.ensures c.args.disk c.args.remote left u g.J.Sink c.args.journal.now)

-- ---- the sessions of the ports are, and their order is told: where the journal fails, what was served is told with that

pub returns-then-with_order-clause-leaves : goal.returns-then-with_order-clause-leaves
returns-then-with_order-clause-leaves g c =
    let served = c.serve_ports-served in
    let words = texts c.args.words.now in
    let ports = length c.args.lanes.now in
    let asks = subst (λ a. Answers words ports (Ok a)) c.in-Run.is c.in-Ok.ensures in
    leaves_ports g.D.Disk g.E.Disk g.S.Source g.K.Sink g.J.Sink (g.C.Clock.readings c.args.clock) c.args.words.now c.args.disk c.args.remote c.args.lanes.now served.new.ports
    c.args.journal.now c.tell_order.new.journal c.tell_order.result
    (λ made. absurd (run_made words ports c.in-Run.with_order asks.0 made)) (λ check. absurd (run_check words ports c.in-Run.with_order asks.0 check.0))
    (subst (λ r. Leaves g.D.Disk g.E.Disk g.S.Source g.K.Sink (g.C.Clock.readings c.args.clock) c.args.disk c.args.remote r c.args.lanes.now served.new.ports ((r.report).lanes).items)
    (sym c.tell_order.ensures.told)
    (leaves_told g.D.Disk g.E.Disk c.args.disk c.args.remote served.result served.ensures.journal g.S.Source g.K.Sink (g.C.Clock.readings c.args.clock) c.args.lanes.now served.new.ports
    (c.tell_order.result.report).journal_failed served.ensures.status served.ensures.leaves))
    (inl ((subst (λ w. AsksRun words ports w) c.if-with_order.true asks.0, asks.1), c.tell_order.ensures.journal))

pub returns-then-with_order-clause-usage : goal.returns-then-with_order-clause-usage
returns-then-with_order-clause-usage g c =
    let asks = subst (λ a. Answers (texts c.args.words.now) (length c.args.lanes.now) (Ok a)) c.in-Run.is c.in-Ok.ensures in
    usage_run c.args.words.now (length c.args.lanes.now) c.in-Run.with_order asks c.tell_order.result
    (told_asks (c.tell_order.result.report).journal_failed c.serve_ports-served.result c.tell_order.result c.tell_order.ensures.told c.serve_ports-served.ensures.status)

pub returns-then-with_order-clause-many : goal.returns-then-with_order-clause-many
returns-then-with_order-clause-many g c =
    let asks = subst (λ a. Answers (texts c.args.words.now) (length c.args.lanes.now) (Ok a)) c.in-Run.is c.in-Ok.ensures in
    many_run c.args.words.now (length c.args.lanes.now) c.in-Run.with_order asks c.tell_order.result
    (told_asks (c.tell_order.result.report).journal_failed c.serve_ports-served.result c.tell_order.result c.tell_order.ensures.told c.serve_ports-served.ensures.status)

pub returns-then-with_order-clause-unequal : goal.returns-then-with_order-clause-unequal
returns-then-with_order-clause-unequal g c =
    let served = c.serve_ports-served in
    let failed = (c.tell_order.result.report).journal_failed in
    unequal_none (c.tell_order.result.report).unequal c.tell_order.result.status
    (ap (λ r. (r.report).unequal) c.tell_order.ensures.told ∙ told_unequal_is g.D.Disk g.E.Disk c.args.disk c.args.remote failed served.result ∙ served.ensures.unequal)
    (subst (λ s. s ≢ statuses.Unequal) (ap (λ r. r.status) (sym c.tell_order.ensures.told))
    (told_never g.D.Disk g.E.Disk c.args.disk c.args.remote failed served.result
    (leaves_never g.D.Disk g.E.Disk c.args.disk c.args.remote g.S.Source g.K.Sink (g.C.Clock.readings c.args.clock) served.result c.args.lanes.now served.new.ports
    (served.result.report).lanes.items served.ensures.leaves)))

-- ---- or is not

pub returns-else-with_order-clause-leaves : goal.returns-else-with_order-clause-leaves
returns-else-with_order-clause-leaves g c =
    let served = c.serve_ports-served in
    let words = texts c.args.words.now in
    let ports = length c.args.lanes.now in
    let asks = subst (λ a. Answers words ports (Ok a)) c.in-Run.is c.in-Ok.ensures in
    leaves_ports g.D.Disk g.E.Disk g.S.Source g.K.Sink g.J.Sink (g.C.Clock.readings c.args.clock) c.args.words.now c.args.disk c.args.remote c.args.lanes.now served.new.ports
    c.args.journal.now c.args.journal.now served.result
    (λ made. absurd (run_made words ports c.in-Run.with_order asks.0 made)) (λ check. absurd (run_check words ports c.in-Run.with_order asks.0 check.0)) served.ensures.leaves
    (inr (λ other. absurd (unordered words ports c.in-Run.with_order asks.0 c.if-with_order.false other.0), refl, served.ensures.journal))

pub returns-else-with_order-clause-usage : goal.returns-else-with_order-clause-usage
returns-else-with_order-clause-usage g c =
    let asks = subst (λ a. Answers (texts c.args.words.now) (length c.args.lanes.now) (Ok a)) c.in-Run.is c.in-Ok.ensures in
    usage_run c.args.words.now (length c.args.lanes.now) c.in-Run.with_order asks c.serve_ports-served.result c.serve_ports-served.ensures.status

pub returns-else-with_order-clause-many : goal.returns-else-with_order-clause-many
returns-else-with_order-clause-many g c =
    let asks = subst (λ a. Answers (texts c.args.words.now) (length c.args.lanes.now) (Ok a)) c.in-Run.is c.in-Ok.ensures in
    many_run c.args.words.now (length c.args.lanes.now) c.in-Run.with_order asks c.serve_ports-served.result c.serve_ports-served.ensures.status

pub returns-else-with_order-clause-unequal : goal.returns-else-with_order-clause-unequal
returns-else-with_order-clause-unequal g c =
    let served = c.serve_ports-served in
    unequal_none (served.result.report).unequal served.result.status served.ensures.unequal
    (leaves_never g.D.Disk g.E.Disk c.args.disk c.args.remote g.S.Source g.K.Sink (g.C.Clock.readings c.args.clock) served.result c.args.lanes.now served.new.ports
    (served.result.report).lanes.items served.ensures.leaves)

-- ---- where nothing failed

pub returns-in-Check-clause-complete : goal.returns-in-Check-clause-complete
returns-in-Check-clause-complete g c =
    complete_by g.D.Disk g.E.Disk g.S.Source g.K.Sink g.J.Sink (g.C.Clock.readings c.args.clock) c.args.words.now c.args.disk c.args.remote c.args.lanes.now c.serve_checked.new.ports
    c.args.journal.now c.serve_checked.new.journal c.serve_checked.result (returns-in-Check-clause-leaves g c) (returns-in-Check-clause-usage g c) (returns-in-Check-clause-many g c)

pub returns-in-Gen-clause-complete : goal.returns-in-Gen-clause-complete
returns-in-Gen-clause-complete g c =
    complete_by g.D.Disk g.E.Disk g.S.Source g.K.Sink g.J.Sink (g.C.Clock.readings c.args.clock) c.args.words.now c.args.disk c.args.remote c.args.lanes.now c.args.lanes.now
    c.args.journal.now c.serve_generated.new.journal c.serve_generated.result (returns-in-Gen-clause-leaves g c) (returns-in-Gen-clause-usage g c) (returns-in-Gen-clause-many g c)

pub returns-in-Err-clause-complete : goal.returns-in-Err-clause-complete
returns-in-Err-clause-complete g c =
    complete_by g.D.Disk g.E.Disk g.S.Source g.K.Sink g.J.Sink (g.C.Clock.readings c.args.clock) c.args.words.now c.args.disk c.args.remote c.args.lanes.now c.args.lanes.now
    c.args.journal.now c.args.journal.now c.not_served.result (returns-in-Err-clause-leaves g c) (returns-in-Err-clause-usage g c) (returns-in-Err-clause-many g c)

pub returns-then-with_order-clause-complete : goal.returns-then-with_order-clause-complete
returns-then-with_order-clause-complete g c =
    complete_by g.D.Disk g.E.Disk g.S.Source g.K.Sink g.J.Sink (g.C.Clock.readings c.args.clock) c.args.words.now c.args.disk c.args.remote c.args.lanes.now c.serve_ports-served.new.ports
    c.args.journal.now c.tell_order.new.journal c.tell_order.result (returns-then-with_order-clause-leaves g c) (returns-then-with_order-clause-usage g c) (returns-then-with_order-clause-many g c)

pub returns-else-with_order-clause-complete : goal.returns-else-with_order-clause-complete
returns-else-with_order-clause-complete g c =
    complete_by g.D.Disk g.E.Disk g.S.Source g.K.Sink g.J.Sink (g.C.Clock.readings c.args.clock) c.args.words.now c.args.disk c.args.remote c.args.lanes.now c.serve_ports-served.new.ports
    c.args.journal.now c.args.journal.now c.serve_ports-served.result (returns-else-with_order-clause-leaves g c) (returns-else-with_order-clause-usage g c) (returns-else-with_order-clause-many g c)
