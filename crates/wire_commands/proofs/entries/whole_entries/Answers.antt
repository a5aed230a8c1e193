use Rattle.std.proofs.Common.{sym}
use Rattle.wire_commands.proofs.EntryLaws.{reads_more, reads_all}
use Rattle.wire_commands.proofs.entries.whole_entries.Goals as goal

pub loop-entry-smaller : goal.loop-entry-smaller
loop-entry-smaller c =
    (reads_more c.loop-entry.entries.items c.in-Some.entry c.loop-entry.rest.now c.in-Some.behind.now c.args.bytes.now (sym c.in-Some.ensures) c.loop-entry.invariant).1

pub loop-entry-preserved : goal.loop-entry-preserved
loop-entry-preserved c =
    let on = (reads_more c.loop-entry.entries.items c.in-Some.entry c.loop-entry.rest.now c.in-Some.behind.now c.args.bytes.now (sym c.in-Some.ensures) c.loop-entry.invariant).0 in
    rw c.in_ok-push.ensures.items on

pub returns-clause-spelled : goal.returns-clause-spelled
returns-clause-spelled c =
    reads_all c.loop-entry.entries.items c.loop-entry.rest.now c.args.bytes.now (sym c.in_default.ensures) c.loop-entry.invariant
