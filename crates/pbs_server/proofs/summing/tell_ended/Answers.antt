use Rattle.pbs_server.proofs.Summed.{not_summed}
use Rattle.pbs_server.proofs.summing.tell_ended.Goals as goal

-- the run was not Ok
pub returns-in_default : goal.returns-in_default
returns-in_default g c =
    let told = c.told_in_memory-served in
    not_summed g.J.Sink c.args.ended c.args.ports.now c.args.journal.now c.handed_back.result told.result c.handed_back.ensures told.ensures.rest told.ensures.status told.ensures.journal c.in_default.not-Ok
