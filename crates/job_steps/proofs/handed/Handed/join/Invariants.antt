use Rattle.std.proofs.Common.{◌≡◌}
use Rattle.std.specs.Option.{option_or}
use Rattle.job_steps.specs.FaultRows.{IsFitFault}
use Rattle.job_steps.specs.Parts.{parts_fault}
use Rattle.job_steps.proofs.handed.Handed.join.Given as goal

abbrev pub invariant-loop-part : goal.invariant-loop-part
invariant-loop-part g l = (option_or (parts_fault l.self.parts.items) l.fault ≡ parts_fault l.initial.self.parts.items) × IsFitFault l.fault

abbrev pub decreases-loop-part : goal.decreases-loop-part
decreases-loop-part g l = goal.left-loop-part g l
