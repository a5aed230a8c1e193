use Rattle.std.proofs.Common.{◌∙◌, ap, refl, sym, subst, inr}
use Rattle.disk_trait.specs.Effects.{LeavesBy}
use Rattle.snapshot_files.specs.Forgotten.{MayLose, without}
use Rattle.core_state.specs.declared.kept.Session.TheVariants.{Idle}
use Rattle.core_state.proofs.Commanding.{others_set}
use Rattle.core_state.specs.Changes.{put_paths}
use Rattle.core_state.proofs.Acting.{shows_same}
use Rattle.core_writer.specs.Ended.{files_in}
use Rattle.core_writer.proofs.AbortLemmas.{end_does, end_leaves, end_fails, end_failed_leaves, never_failed}
use Rattle.core_writer.proofs.Stopping.{session_found}
use Rattle.core_writer.proofs.ending.end.Goals as goal

pub returns-in_err-remove_files-clause-does : goal.returns-in_err-remove_files-clause-does
returns-in_err-remove_files-clause-does g c =
    end_fails g.D.Disk c.args.parts.now _ c.args.at c.remove_files.result _ _ _ c.in_err-remove_files.was c.from_residual.ensures.1 c.remove_files.ensures.serves (record { catalogue = refl; sessions = refl; locks = refl; indexes = refl })

pub returns-in_err-remove_files-clause-leaves : goal.returns-in_err-remove_files-clause-leaves
returns-in_err-remove_files-clause-leaves g c = let d = g.D.Disk in
    let old = c.args.parts.now in
    let files = c.files_of.ensures ∙ ap files_in (sym (session_found old c.args.at.lane c.index.result.now c.requires c.index.ensures)) in
    end_failed_leaves d old _ c.args.at _ _ c.from_residual.ensures.1
    (subst (λ fs. LeavesBy d old.disk c.remove_files.new.disk (MayLose (put_paths fs))) files (inr c.remove_files.ensures.crash)) (record { catalogue = refl; sessions = refl; locks = refl; indexes = refl })

pub returns-in_err-remove_files-clause-idle : goal.returns-in_err-remove_files-clause-idle
returns-in_err-remove_files-clause-idle g c = λ idle.
    let old = c.args.parts.now in
    let files = c.files_of.ensures ∙ ap files_in (sym (session_found old c.args.at.lane c.index.result.now c.requires c.index.ensures)) in
    never_failed c.remove_files.result _ c.in_err-remove_files.was (c.remove_files.ensures.none (ap put_paths (files ∙ ap files_in idle))).0

pub returns-clause-does : goal.returns-clause-does
returns-clause-does g c = let d = g.D.Disk in
    let old = c.args.parts.now in
    let files = c.files_of.ensures ∙ ap files_in (sym (session_found old c.args.at.lane c.index.result.now c.requires c.index.ensures)) in
    end_does d old c.end_session.new.parts c.args.at c.remove_files.new.disk _ c.requires c.end_session.ensures.disk c.remove_files.ensures.serves
    (λ h. c.in_ok-remove_files.ensures.removed h ∙ ap (λ fs. without (put_paths fs) (d.content old.disk)) files)
    (λ s shows. c.end_session.ensures.shows s (shows_same old _ s (record { catalogue = refl; sessions = refl; locks = refl; indexes = refl }) shows))

pub returns-clause-leaves : goal.returns-clause-leaves
returns-clause-leaves g c = let d = g.D.Disk in
    let old = c.args.parts.now in
    let files = c.files_of.ensures ∙ ap files_in (sym (session_found old c.args.at.lane c.index.result.now c.requires c.index.ensures)) in
    end_leaves d old c.end_session.new.parts c.args.at c.remove_files.new.disk c.end_session.ensures.disk
    (subst (λ fs. LeavesBy d old.disk c.remove_files.new.disk (MayLose (put_paths fs))) files (inr c.remove_files.ensures.crash))
    (λ h. c.in_ok-remove_files.ensures.removed h ∙ ap (λ fs. without (put_paths fs) (d.content old.disk)) files)
    c.end_session.ensures.catalogue
    c.end_session.ensures.ended
    c.end_session.ensures.indexes (others_set old c.end_session.new.parts c.args.at.lane Idle c.end_session.ensures.sessions)
