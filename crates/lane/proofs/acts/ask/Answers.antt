use Rattle.lane.proofs.Acting.{acted_by, did_of, tells_of}
use Rattle.lane.proofs.acts.ask.Goals as goal

pub returns-clause-did : goal.returns-clause-did
returns-clause-did g c = let x = c.act-reply.ensures in λ start.
    did_of _ _ c.args.lane c.args.act c.act-reply.result c.in-Some.reply c.requires.replied
    (acted_by c.args.seat.now c.act-reply.new.seat c.args.lane c.args.act c.act-reply.result x.entered x.answered x.rises x.lane x.told x.text start) c.in-Some.is

pub returns-clause-tells : goal.returns-clause-tells
returns-clause-tells g c = let x = c.act-reply.ensures in
    tells_of _ _ c.args.lane c.args.act c.act-reply.result c.in-Some.reply c.requires.replied
    (acted_by c.args.seat.now c.act-reply.new.seat c.args.lane c.args.act c.act-reply.result x.entered x.answered x.rises x.lane x.told x.text c.args.seat.now) c.in-Some.is
