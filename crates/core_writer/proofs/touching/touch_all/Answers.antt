use Rattle.std.proofs.Common.{[]}
use Rattle.core_writer.proofs.TouchLemmas.{each_next}
use Rattle.core_writer.proofs.touching.touch_all.Goals as goal

pub loop-entry-preserved : goal.loop-entry-preserved
loop-entry-preserved c =
    each_next c.args.book.now c.loop-entry.book c.touch_known.new.self c.args.entries.now c.loop-entry.entry-index c.args.moment (record { digest = record { 0 = [] }; offset = 0 })
    c.loop-entry-test.true c.loop-entry.invariant c.touch_known.ensures
