use Rattle.std.proofs.Common.{◌<◌, ◌^◌, IfSome, sym, subst, arith}
use Rattle.wire_commands.specs.HasText.{ReplyHasText}
use Rattle.lane.specs.declared.ending.Last.{Last}
use Rattle.lane.proofs.Fronts.{bad_frame_has_text}
use Rattle.lane.proofs.run.ended.Goals as goal

pub returns-else-input-clause-text : goal.returns-else-input-clause-text
returns-else-input-clause-text c =
    let lt : c.args.input.now.front < 2 ^ 64 = omega arith in
    subst (λ (l : Last). IfSome l.words ReplyHasText) (sym c.broken.ensures) (bad_frame_has_text c.args.input.now.front lt)
