use Rattle.store_history.specs.declared.act.Act.TheVariants.{Start}
use Rattle.core_state.proofs.Applying.{start_refused_applies, start_refused_keeps}
use Rattle.core_collect.proofs.StartActs.{refused_tells, start_applies, start_keeps, start_tells, stop_applies, stop_keeps, stop_tells}
use Rattle.core_collect.proofs.starting.start.Goals as goal

-- ---- refused before it is done

pub returns-in-Answered-clause-applies : goal.returns-in-Answered-clause-applies
returns-in-Answered-clause-applies g c =
    start_refused_applies g.D.Disk g.C.Clock c.args.core.now c.begin.new.core c.args.lane Start c.in-Answered.answer tt c.requires.lane c.in-Answered.ensures.begun c.in-Answered.ensures.text

pub returns-in-Answered-clause-keeps : goal.returns-in-Answered-clause-keeps
returns-in-Answered-clause-keeps g c =
    start_refused_keeps g.D.Disk g.C.Clock c.args.core.now c.begin.new.core c.args.lane Start c.in-Answered.answer tt c.in-Answered.ensures.begun

pub returns-in-Answered-clause-told : goal.returns-in-Answered-clause-told
returns-in-Answered-clause-told g c =
    refused_tells g.D.Disk g.C.Clock c.args.core.now c.begin.new.core c.args.lane c.in-Answered.answer c.in-Answered.ensures.begun

-- ---- it opens

pub returns-in-Ok-clause-applies : goal.returns-in-Ok-clause-applies
returns-in-Ok-clause-applies g c =
    let e = c.enter.ensures in
    start_applies g.D.Disk g.C.Clock c.args.core.now c.begin.new.core c.enter.new.core c.args.lane c.in-At.at c.enter.result c.requires.lane c.in-At.ensures.begun c.in-At.ensures.filled
    c.in-Ok.collector c.in-Ok.ensures.value
    (record { parts = e.parts; remote = e.remote; clock = e.clock; fault = e.fault; last = e.last; upkeep = e.upkeep; collector = e.collector; entries = e.entries; calls = e.calls; entry = e.entry; reply_is = e.reply_is; place = e.place; is_held = e.is_held; room = e.room; last_held = e.last_held })

pub returns-in-Ok-clause-keeps : goal.returns-in-Ok-clause-keeps
returns-in-Ok-clause-keeps g c =
    let e = c.enter.ensures in
    start_keeps g.D.Disk g.C.Clock c.args.core.now c.begin.new.core c.enter.new.core c.args.lane c.in-At.at c.enter.result c.requires.lane c.in-At.ensures.begun c.in-At.ensures.filled
    c.in-Ok.collector c.in-Ok.ensures.value
    (record { parts = e.parts; remote = e.remote; clock = e.clock; fault = e.fault; last = e.last; upkeep = e.upkeep; collector = e.collector; entries = e.entries; calls = e.calls; entry = e.entry; reply_is = e.reply_is; place = e.place; is_held = e.is_held; room = e.room; last_held = e.last_held })

pub returns-in-Ok-clause-told : goal.returns-in-Ok-clause-told
returns-in-Ok-clause-told g c =
    let e = c.enter.ensures in
    start_tells g.D.Disk g.C.Clock c.args.core.now c.begin.new.core c.enter.new.core c.args.lane c.in-At.at c.enter.result c.requires.lane c.in-At.ensures.begun c.in-At.ensures.filled
    c.in-Ok.collector c.in-Ok.ensures.value
    (record { parts = e.parts; remote = e.remote; clock = e.clock; fault = e.fault; last = e.last; upkeep = e.upkeep; collector = e.collector; entries = e.entries; calls = e.calls; entry = e.entry; reply_is = e.reply_is; place = e.place; is_held = e.is_held; room = e.room; last_held = e.last_held })

-- ---- it is refused, or memory was wanting

pub returns-in-Err-clause-applies : goal.returns-in-Err-clause-applies
returns-in-Err-clause-applies g c =
    let e = c.settle.ensures in
    stop_applies g.D.Disk g.C.Clock c.args.core.now c.begin.new.core c.settle.new.core c.args.lane c.in-At.at c.settle.result c.requires.lane c.in-At.ensures.begun c.in-At.ensures.filled
    c.in-Err.stop c.in-Err.ensures.value c.in-Err.ensures.text
    (record { parts = e.parts; remote = e.remote; clock = e.clock; fault = e.fault; last = e.last; upkeep = e.upkeep; collector = e.collector; entries = e.entries; calls = e.calls; entry = e.entry; reply_is = e.reply_is; place = e.place; is_held = e.is_held; room = e.room; last_held = e.last_held })

pub returns-in-Err-clause-keeps : goal.returns-in-Err-clause-keeps
returns-in-Err-clause-keeps g c =
    let e = c.settle.ensures in
    stop_keeps g.D.Disk g.C.Clock c.args.core.now c.begin.new.core c.settle.new.core c.args.lane c.in-At.at c.settle.result c.requires.lane c.in-At.ensures.begun c.in-At.ensures.filled
    c.in-Err.stop c.in-Err.ensures.value c.in-Err.ensures.text
    (record { parts = e.parts; remote = e.remote; clock = e.clock; fault = e.fault; last = e.last; upkeep = e.upkeep; collector = e.collector; entries = e.entries; calls = e.calls; entry = e.entry; reply_is = e.reply_is; place = e.place; is_held = e.is_held; room = e.room; last_held = e.last_held })

pub returns-in-Err-clause-told : goal.returns-in-Err-clause-told
returns-in-Err-clause-told g c =
    let e = c.settle.ensures in
    stop_tells g.D.Disk g.C.Clock c.args.core.now c.begin.new.core c.settle.new.core c.args.lane c.in-At.at c.settle.result c.requires.lane c.in-At.ensures.begun c.in-At.ensures.filled
    c.in-Err.stop c.in-Err.ensures.value c.in-Err.ensures.text
    (record { parts = e.parts; remote = e.remote; clock = e.clock; fault = e.fault; last = e.last; upkeep = e.upkeep; collector = e.collector; entries = e.entries; calls = e.calls; entry = e.entry; reply_is = e.reply_is; place = e.place; is_held = e.is_held; room = e.room; last_held = e.last_held })
