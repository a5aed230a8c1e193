use Rattle.std.proofs.Common.{arith}
use Rattle.wire_commands.proofs.ReplyLaws.{read_spelled}
use Rattle.wire_commands.proofs.reply.Reply.read.Goals as goal

pub returns-clause-spelled : goal.returns-clause-spelled
returns-clause-spelled c =
    read_spelled c.args.code c.args.body.now c.reply_in.result (λ i. omega (arith, c.type_inv.body i)) c.reply_in.ensures.reply
