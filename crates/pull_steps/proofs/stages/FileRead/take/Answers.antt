use Rattle.std.proofs.Common.{sym, ap, subst, ◌∙◌}
use Rattle.wire_commands.specs.declared.reply.Reply.TheVariants.{Part}
use Rattle.store_history.specs.Pulling as model
use Rattle.pull_steps.specs.Taken.{IsPart}
use Rattle.pull_steps.specs.States.{file_of}
use Rattle.pull_steps.proofs.Parts.{file_ended, file_same, file_taken}
use Rattle.pull_steps.proofs.stages.FileRead.take.Goals as goal

pub returns-in-Ok-clause-ok : goal.returns-in-Ok-clause-ok
returns-in-Ok-clause-ok c =
    let r = c.args.self in
    c.read.ensures.job
    ∙ file_taken r c.append.new.self c.append.ensures.course c.append.ensures.stock c.append.ensures.name c.as_slice.result.now c.in-Part.total c.in-Ok.whole c.in-Ok.ensures.part
    ∙ ap (λ more. model.take (file_of r) (Part c.in-Part.total more)) c.as_slice.ensures ∙ ap (model.take (file_of r)) (sym c.in-Part.is)

pub returns-in-Part-clause-err : goal.returns-in-Part-clause-err
returns-in-Part-clause-err c =
    let r = c.args.self in
    (file_same r c.append.new.self c.append.ensures.course c.append.ensures.stock c.append.ensures.name c.in-Err.ensures.err, subst IsPart (sym c.in-Part.is) tt)

pub returns-clause-ok : goal.returns-clause-ok
returns-clause-ok c = c.ended.ensures.job ∙ file_ended c.args.self c.args.reply c.in_default.not-Part
