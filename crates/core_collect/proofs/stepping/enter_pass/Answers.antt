use Rattle.std.proofs.Common.{◌≡◌, IfSome, Ok, Some, rules, sym, subst}
use Rattle.std.specs.Prelude.{IfErr}
use Rattle.snapshot_files.specs.Reads.{StopHasText}
use Rattle.core_collect.specs.Stepping.{EntersPass, Outcome}
use Rattle.wire_commands.specs.HasText.{ReplyHasText}
use Rattle.core_state.proofs.Texts.{entered_as}
use Rattle.core_collect.proofs.Passed.{settled_text}
use Rattle.core_collect.proofs.stepping.enter_pass.Goals as goal

pub returns-in-Ok-None-clause-text : goal.returns-in-Ok-None-clause-text
returns-in-Ok-None-clause-text g c = subst (λ r. IfSome r ReplyHasText) (sym c.enter.ensures.reply_is) tt

pub returns-in-Ok-Some-clause-enters : goal.returns-in-Ok-Some-clause-enters
returns-in-Ok-Some-clause-enters g c =
    let is : c.args.ended ≡ Ok (Some c.in-Ok-Some.report) = search rules in
    subst (λ (r : Outcome). EntersPass g.D.Disk c.args.core.now c.enter-in-Ok-Some.new.core c.args.at r c.enter-in-Ok-Some.result) (sym is) (entered_as g.D.Disk _ _ _ _ _ _ _ _ c.told.ensures.value c.enter-in-Ok-Some.ensures)

pub returns-in-Ok-Some-clause-text : goal.returns-in-Ok-Some-clause-text
returns-in-Ok-Some-clause-text g c = subst (λ r. IfSome r ReplyHasText) (sym c.enter-in-Ok-Some.ensures.reply_is) c.told.ensures.text

pub returns-in-Err-clause-text : goal.returns-in-Err-clause-text
returns-in-Err-clause-text g c = settled_text g.D.Disk _ _ c.args.at.lane c.args.at.moment c.in-Err.stop _ (subst (λ (r : Outcome). IfErr r StopHasText) c.in-Err.is c.requires.text) c.settle.ensures
