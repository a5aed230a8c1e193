use Rattle.wire_commands.proofs.ListFields.{keep_joined}
use Rattle.wire_commands.proofs.command.with_keep.Goals as goal

pub returns : goal.returns
returns c =
    keep_joined c.args.keep.now c.args.head c.u16.result c.u16-2.result c.u16-head.result c.u16-3.result c.u16-4.result c.u16-5.result
    c.u16.ensures c.u16-2.ensures c.u16-head.ensures c.u16-3.ensures c.u16-4.ensures c.u16-5.ensures
