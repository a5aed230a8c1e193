use Rattle.core_collect.proofs.EndLemmas.{with_collector}
use Rattle.core_collect.proofs.StepLemmas.{taken_next}
use Rattle.core_collect.proofs.stepping.step.Goals as goal

pub returns-clause-applies : goal.returns-clause-applies
returns-clause-applies g c =
    (taken_next g.D.Disk g.C.Clock c.args.core.now c.take_next-answer.new.core _ c.args.lane c.take_next-answer.result c.requires.lane
    (with_collector c.take_next-answer.new.core _ _ _ c.close_at_fault.ensures) c.take_next-answer.ensures).applies

pub returns-clause-keeps : goal.returns-clause-keeps
returns-clause-keeps g c =
    (taken_next g.D.Disk g.C.Clock c.args.core.now c.take_next-answer.new.core _ c.args.lane c.take_next-answer.result c.requires.lane
    (with_collector c.take_next-answer.new.core _ _ _ c.close_at_fault.ensures) c.take_next-answer.ensures).keeps

pub returns-clause-told : goal.returns-clause-told
returns-clause-told g c =
    (taken_next g.D.Disk g.C.Clock c.args.core.now c.take_next-answer.new.core _ c.args.lane c.take_next-answer.result c.requires.lane
    (with_collector c.take_next-answer.new.core _ _ _ c.close_at_fault.ensures) c.take_next-answer.ensures).told
