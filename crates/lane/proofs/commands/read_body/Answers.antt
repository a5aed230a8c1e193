use Rattle.std.proofs.Common.{◌≡◌, ◌<◌, ◌^◌, IfOk, sym, ap, subst, ◌∙◌, arith}
use Rattle.std.specs.Result.{result_ok}
use Rattle.wire_commands.specs.CommandText.{command_text}
use Rattle.wire_commands.specs.HasText.{HasText}
use Rattle.store_model.specs.Lanes.{broken}
use Rattle.store_types.specs.declared.refusal.Refusal.TheVariants.{BadFrame}
use Rattle.lane.specs.Fronts.{IsAhead, IsLastAhead}
use Rattle.lane.proofs.Fronts.{whole_wants, broken_ahead, command_ahead, bad_frame_has_text}
use Rattle.lane.proofs.commands.read_body.Goals as goal

pub returns-in-Err : goal.returns-in-Err
returns-in-Err c = λ t rest at is. whole_wants t.bytes c.args.body.now rest is (c.in-Err.ensures.memory).0

pub returns-in-Ok-Err : goal.returns-in-Ok-Err
returns-in-Ok-Err c = λ t rest at is.
    let none = sym (c.in-Ok-Err.ensures.command) ∙ ap result_ok c.in-Ok-Err.field-0-is in
    let lt : c.args.offset < 2 ^ 64 = omega arith in
    (subst (λ n. IsLastAhead t (broken (BadFrame n))) at (broken_ahead t c.args.body.now rest is none), bad_frame_has_text c.args.offset lt)

pub returns-in-Ok-Ok : goal.returns-in-Ok-Ok
returns-in-Ok-Ok c = λ t rest at is.
    let some = sym (c.in-Ok-Ok.ensures.command) ∙ ap result_ok c.in-Ok-Ok.field-0-is in
    let spelled = subst (λ read. IfOk read (λ d. HasText d × (c.args.body.now ≡ command_text d))) c.in-Ok-Ok.field-0-is c.in-Ok-Ok.ensures.spelled in
    subst (λ a. IsAhead t a) (sym c.apart.ensures) (command_ahead t c.args.body.now rest c.in-Ok-Ok.command is some spelled.1)
