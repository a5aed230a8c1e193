use Rattle.std.proofs.Common.{arith}
use Rattle.plain_sessions.proofs.Listing.{facts_more}
use Rattle.plain_sessions.proofs.finishing.facts_of.Goals as goal

pub loop-file-preserved : goal.loop-file-preserved
loop-file-preserved c =
    facts_more c.loop-file.facts.items c.args.files.now c.loop-file.file-index c.in_ok-fact.field-0 c.file-item.result c.push.new.self.items (omega arith) c.file-item.is
    c.loop-file.invariant c.in_ok-fact.ensures c.in_ok-push.ensures.items
