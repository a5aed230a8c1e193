use Rattle.std.proofs.Common.{sym, ◌∙◌}
use Rattle.pull_steps.proofs.Ends.{no_memory_text, rejected_other, rejected_short}
use Rattle.pull_steps.proofs.Texts.{unreadable_text}
use Rattle.pull_steps.proofs.ending.rejecting.Goals as goal

pub returns-then-is_out_of_memory-clause-job : goal.returns-then-is_out_of_memory-clause-job
returns-then-is_out_of_memory-clause-job c = rejected_short c.args.path c.args.reply.now (sym c.is_out_of_memory.ensures ∙ c.if-is_out_of_memory.true)

pub returns-then-is_out_of_memory-clause-text : goal.returns-then-is_out_of_memory-clause-text
returns-then-is_out_of_memory-clause-text c = no_memory_text

pub aborted-requires : goal.aborted-requires
aborted-requires c = unreadable_text c.args.path c.requires

pub returns-clause-job : goal.returns-clause-job
returns-clause-job c = c.aborted.ensures.job ∙ rejected_other c.args.path c.args.reply.now (sym c.is_out_of_memory.ensures ∙ c.if-is_out_of_memory.false)
