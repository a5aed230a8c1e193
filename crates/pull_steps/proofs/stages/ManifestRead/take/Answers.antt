use Rattle.std.proofs.Common.{sym, ap, subst, ◌∙◌}
use Rattle.wire_commands.specs.declared.reply.Reply.TheVariants.{Part}
use Rattle.store_history.specs.Pulling as model
use Rattle.pull_steps.specs.Taken.{IsPart}
use Rattle.pull_steps.specs.States.{manifest_of}
use Rattle.pull_steps.proofs.Parts.{manifest_ended, manifest_same, manifest_taken}
use Rattle.pull_steps.proofs.stages.ManifestRead.take.Goals as goal

pub returns-in-Ok-clause-ok : goal.returns-in-Ok-clause-ok
returns-in-Ok-clause-ok c =
    let r = c.args.self in
    c.read.ensures.job
    ∙ manifest_taken r c.append.new.self c.as_slice.result.now c.in-Part.total c.in-Ok.listing c.append.ensures.course c.in-Ok.ensures.part
    ∙ ap (λ more. model.take (manifest_of r) (Part c.in-Part.total more)) c.as_slice.ensures ∙ ap (model.take (manifest_of r)) (sym c.in-Part.is)

pub returns-in-Part-clause-err : goal.returns-in-Part-clause-err
returns-in-Part-clause-err c =
    let r = c.args.self in
    (manifest_same r c.append.new.self c.append.ensures.course c.in-Err.ensures.err, subst IsPart (sym c.in-Part.is) tt)

pub returns-clause-ok : goal.returns-clause-ok
returns-clause-ok c = c.ended.ensures.job ∙ manifest_ended c.args.self c.args.reply c.in_default.not-Part
