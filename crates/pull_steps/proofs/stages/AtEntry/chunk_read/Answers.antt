use Rattle.std.proofs.Common.{◌≡◌, sym, subst, ◌∙◌}
use Rattle.std.specs.Prelude.{IfOk}
use Rattle.wire_commands.specs.declared.reply.Reply.{Reply}
use Rattle.wire_commands.specs.HasText.{ReplyHasText}
use Rattle.pull_steps.specs.Entries.{chunk_told_at}
use Rattle.pull_steps.specs.States.{pull_in}
use Rattle.pull_steps.proofs.Placed.{chunk_ended, kept_data}
use Rattle.pull_steps.proofs.Texts.{blob_small}
use Rattle.pull_steps.proofs.stages.AtEntry.chunk_read.Goals as goal

pub blob_read-requires-clause-small : goal.blob_read-requires-clause-small
blob_read-requires-clause-small c = blob_small c.in-Data.blob (subst ReplyHasText c.in-Data.is c.requires.text)

pub returns-in-Data-clause-ok : goal.returns-in-Data-clause-ok
returns-in-Data-clause-ok c = subst (λ (r : Reply). IfOk c.blob_read.result (λ state. pull_in state ≡ chunk_told_at c.args.self r)) (sym c.in-Data.is) c.blob_read.ensures.ok

pub returns-in-Data-clause-err : goal.returns-in-Data-clause-err
returns-in-Data-clause-err c = kept_data c.args.self c.in-Data.blob c.args.reply c.blob_read.result c.in-Data.is c.blob_read.ensures.err

pub returns-in_default-clause-ok : goal.returns-in_default-clause-ok
returns-in_default-clause-ok c = c.ended.ensures.job ∙ chunk_ended c.args.self c.args.reply c.in_default.not-Data
