use Rattle.std.proofs.Common.{◌<◌, ◌^◌, arith}
use Rattle.lane.proofs.Fronts.{long_ahead, too_long_has_text}
use Rattle.lane.proofs.commands.too_long.Goals as goal

pub returns : goal.returns
returns c = λ t is.
    let lt : c.args.length < 2 ^ 32 = omega arith in
    (long_ahead t c.args.length is, too_long_has_text c.args.length lt)
