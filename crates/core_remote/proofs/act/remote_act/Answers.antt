use Rattle.core_remote.proofs.Told.{done_alone, done_applies, done_gives, done_keeps, done_tells, refused_alone, refused_applies, refused_gives, refused_keeps, refused_tells}
use Rattle.core_remote.proofs.act.remote_act.Goals as goal

-- ---- refused before it is begun

pub returns-in-Answered-clause-applies : goal.returns-in-Answered-clause-applies
returns-in-Answered-clause-applies g c =
    refused_applies g.D.Disk g.E.Disk g.C.Clock c.args.core.now c.begin.new.core c.args.lane c.args.act c.in-Answered.answer c.requires.kind c.in-Answered.ensures.begun c.requires.lane c.requires.formed c.in-Answered.ensures.text

pub returns-in-Answered-clause-alone : goal.returns-in-Answered-clause-alone
returns-in-Answered-clause-alone g c = λ _.
    refused_alone g.D.Disk g.E.Disk g.C.Clock c.args.core.now c.begin.new.core c.args.lane c.args.act c.in-Answered.answer c.requires.kind c.in-Answered.ensures.begun c.requires.lane c.requires.formed c.in-Answered.ensures.text

pub returns-in-Answered-clause-keeps : goal.returns-in-Answered-clause-keeps
returns-in-Answered-clause-keeps g c =
    refused_keeps g.D.Disk g.E.Disk g.C.Clock c.args.core.now c.begin.new.core c.args.lane c.args.act c.in-Answered.answer c.requires.kind c.in-Answered.ensures.begun

pub returns-in-Answered-clause-from_state : goal.returns-in-Answered-clause-from_state
returns-in-Answered-clause-from_state g c =
    refused_tells g.D.Disk g.E.Disk g.C.Clock c.args.core.now c.begin.new.core c.args.lane c.args.act c.in-Answered.answer c.requires.kind c.in-Answered.ensures.begun

pub returns-in-Answered-clause-by_remote : goal.returns-in-Answered-clause-by_remote
returns-in-Answered-clause-by_remote g c =
    refused_gives g.D.Disk g.E.Disk g.C.Clock c.args.core.now c.begin.new.core c.args.lane c.args.act c.in-Answered.answer c.requires.kind c.in-Answered.ensures.begun

-- ---- it was begun

pub returns-in-At-clause-applies : goal.returns-in-At-clause-applies
returns-in-At-clause-applies g c =
    let e = c.settle_read.ensures in
    done_applies g.D.Disk g.E.Disk g.C.Clock c.args.core.now c.settle_read.new.core c.args.lane c.args.act c.settle_read.result c.requires.kind c.begin.new.core c.in-At.at c.requires.lane c.requires.formed
    c.in-At.ensures.begun c.in-At.ensures.filled c.reach-ended.new.remote c.reach-ended.result c.reach-ended.ensures.tells c.reach-ended.ensures.stays c.reach-ended.ensures.failed c.reach-ended.ensures.unread c.reach-ended.ensures.tested c.reach-ended.ensures.gives
    c.reach-ended.ensures.kind c.reach-ended.ensures.text
    (record { parts = e.parts; remote = e.remote; clock = e.clock; fault = e.fault; last = e.last; upkeep = e.upkeep; collector = e.collector; entries = e.entries; calls = e.calls; entry = e.entry; reply_is = e.reply_is; place = e.place; is_held = e.is_held; room = e.room; last_held = e.last_held })

pub returns-in-At-clause-alone : goal.returns-in-At-clause-alone
returns-in-At-clause-alone g c =
    let e = c.settle_read.ensures in
    done_alone g.D.Disk g.E.Disk g.C.Clock c.args.core.now c.settle_read.new.core c.args.lane c.args.act c.settle_read.result c.requires.kind c.begin.new.core c.in-At.at c.requires.lane c.requires.formed
    c.in-At.ensures.begun c.in-At.ensures.filled c.reach-ended.new.remote c.reach-ended.result c.reach-ended.ensures.tells c.reach-ended.ensures.stays c.reach-ended.ensures.failed c.reach-ended.ensures.unread c.reach-ended.ensures.tested c.reach-ended.ensures.gives
    c.reach-ended.ensures.kind c.reach-ended.ensures.text
    (record { parts = e.parts; remote = e.remote; clock = e.clock; fault = e.fault; last = e.last; upkeep = e.upkeep; collector = e.collector; entries = e.entries; calls = e.calls; entry = e.entry; reply_is = e.reply_is; place = e.place; is_held = e.is_held; room = e.room; last_held = e.last_held })

pub returns-in-At-clause-keeps : goal.returns-in-At-clause-keeps
returns-in-At-clause-keeps g c =
    let e = c.settle_read.ensures in
    done_keeps g.D.Disk g.E.Disk g.C.Clock c.args.core.now c.settle_read.new.core c.args.lane c.args.act c.settle_read.result c.requires.kind c.begin.new.core c.in-At.at c.requires.lane c.requires.formed
    c.in-At.ensures.begun c.in-At.ensures.filled c.reach-ended.new.remote c.reach-ended.result c.reach-ended.ensures.tells c.reach-ended.ensures.stays c.reach-ended.ensures.failed c.reach-ended.ensures.unread c.reach-ended.ensures.tested c.reach-ended.ensures.gives
    c.reach-ended.ensures.kind c.reach-ended.ensures.text
    (record { parts = e.parts; remote = e.remote; clock = e.clock; fault = e.fault; last = e.last; upkeep = e.upkeep; collector = e.collector; entries = e.entries; calls = e.calls; entry = e.entry; reply_is = e.reply_is; place = e.place; is_held = e.is_held; room = e.room; last_held = e.last_held })

pub returns-in-At-clause-from_state : goal.returns-in-At-clause-from_state
returns-in-At-clause-from_state g c =
    let e = c.settle_read.ensures in
    done_tells g.D.Disk g.E.Disk g.C.Clock c.args.core.now c.settle_read.new.core c.args.lane c.args.act c.settle_read.result c.requires.kind c.begin.new.core c.in-At.at c.requires.lane c.requires.formed
    c.in-At.ensures.begun c.in-At.ensures.filled c.reach-ended.new.remote c.reach-ended.result c.reach-ended.ensures.tells c.reach-ended.ensures.stays c.reach-ended.ensures.failed c.reach-ended.ensures.unread c.reach-ended.ensures.tested c.reach-ended.ensures.gives
    c.reach-ended.ensures.kind c.reach-ended.ensures.text
    (record { parts = e.parts; remote = e.remote; clock = e.clock; fault = e.fault; last = e.last; upkeep = e.upkeep; collector = e.collector; entries = e.entries; calls = e.calls; entry = e.entry; reply_is = e.reply_is; place = e.place; is_held = e.is_held; room = e.room; last_held = e.last_held })

pub returns-in-At-clause-by_remote : goal.returns-in-At-clause-by_remote
returns-in-At-clause-by_remote g c =
    let e = c.settle_read.ensures in
    done_gives g.D.Disk g.E.Disk g.C.Clock c.args.core.now c.settle_read.new.core c.args.lane c.args.act c.settle_read.result c.requires.kind c.begin.new.core c.in-At.at c.requires.lane c.requires.formed
    c.in-At.ensures.begun c.in-At.ensures.filled c.reach-ended.new.remote c.reach-ended.result c.reach-ended.ensures.tells c.reach-ended.ensures.stays c.reach-ended.ensures.failed c.reach-ended.ensures.unread c.reach-ended.ensures.tested c.reach-ended.ensures.gives
    c.reach-ended.ensures.kind c.reach-ended.ensures.text
    (record { parts = e.parts; remote = e.remote; clock = e.clock; fault = e.fault; last = e.last; upkeep = e.upkeep; collector = e.collector; entries = e.entries; calls = e.calls; entry = e.entry; reply_is = e.reply_is; place = e.place; is_held = e.is_held; room = e.room; last_held = e.last_held })
