use Rattle.std.proofs.Common.{arith}
use Rattle.core_collect.proofs.StartLemmas.{oldest_end, oldest_next}
use Rattle.core_collect.proofs.starting.oldest_in.Goals as goal

pub loop-session-preserved : goal.loop-session-preserved
loop-session-preserved c =
    oldest_next c.args.sessions.now c.loop-session.session-index c.session-item.result c.loop-session.oldest c.earlier-oldest.result (omega arith) c.session-item.is c.earlier-oldest.ensures c.loop-session.invariant

pub returns : goal.returns
returns c = oldest_end c.args.sessions.now c.loop-session.session-index c.loop-session.oldest (omega arith) c.loop-session.invariant
