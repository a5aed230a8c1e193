use Rattle.std.proofs.Common.{Ok, Some, subst}
use Rattle.wire_frames.specs.Cutting.{IsNext}
use Rattle.lane.proofs.Fronts.{whole_size}
use Rattle.lane.proofs.input.front_size.Goals as goal

pub returns-in-Ok-Some : goal.returns-in-Ok-Some
returns-in-Ok-Some c =
    let next : IsNext c.args.cutter.now (Ok (Some c.in-Ok-Some.frame)) = subst (λ o. IsNext c.args.cutter.now (Ok o)) c.in-Ok-Some.field-0-is c.in-Ok-Some.ensures in
    whole_size c.args.cutter.now c.in-Ok-Some.frame.body.now (next.1).0 (next.1).1
