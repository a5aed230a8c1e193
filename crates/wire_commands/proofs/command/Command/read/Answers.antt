use Rattle.std.proofs.Common.{arith}
use Rattle.wire_commands.proofs.CommandLaws.{read_spelled}
use Rattle.wire_commands.proofs.command.Command.read.Goals as goal

pub returns-clause-spelled : goal.returns-clause-spelled
returns-clause-spelled c =
    read_spelled c.args.body.now c.in_ok-command_in.field-0 c.ok_or.result (λ i. omega (arith, c.type_inv.body i))
    c.in_ok-command_in.ensures.command c.ok_or.ensures.ok_part
