use Rattle.std.proofs.Common.{◌<◌, ◌∙◌, ap, refl, sym, get_or-set_same, set, length, subst, arith, inr}
use Rattle.std.specs.List.{list_all}
use Rattle.store_types.specs.declared.refusal.Refusal.TheVariants.{NoFile}
use Rattle.wire_commands.specs.declared.command.Command.TheVariants.{Finish}
use Rattle.store_history.specs.declared.act.Act.TheVariants.{Plain}
use Rattle.std.proofs.lemmas.List.{get_or-set_other}
use Rattle.core_state.proofs.LockLemmas.{holds_no_group, shares_none}
use Rattle.core_state.specs.declared.kept.Session.TheVariants.{Idle}
use Rattle.core_state.specs.Catalogue.{closed}
use Rattle.core_state.specs.Changes.{IsFirm, LeavesChange, after}
use Rattle.core_state.specs.Wanted.{session_at}
use Rattle.core_state.specs.Named.{is_named}
use Rattle.store_history.specs.Replies.{refuses_finish}
use Rattle.core_state.specs.declared.indexes.Indexes.TheVariants.{Unread}
use Rattle.core_state.proofs.Rows.{rows_but}
use Rattle.core_state.proofs.Commanding.{failed_does, failed_leaves, not_still, refused_does, same_kept, unwritten_does, writes_does, writes_leaves}
use Rattle.core_state.proofs.NamedLemmas.{list_all-set, list_all-at}
use Rattle.core_state.proofs.Texts.{no_file_has_text, done_has_text}
use Rattle.core_writer.specs.Finished.{manifest_in}
use Rattle.core_writer.proofs.FinishLemmas.{not_writing, tests_refuse, tests_there, tests_done, finish_change, finish_done, finish_adds, settled_by}
use Rattle.core_writer.proofs.Stopping.{early_does, err_as, idle_set, session_found}
use Rattle.core_writer.proofs.TouchLemmas.{false_true}
use Rattle.core_writer.proofs.finishing.finish.Goals as goal

pub returns-in_err-writer-clause-does : goal.returns-in_err-writer-clause-does
returns-in_err-writer-clause-does g c =
    unwritten_does g.D.Disk c.args.parts.now c.args.at (Plain Finish) _ _ c.from_residual.ensures.1 c.requires c.in_err-writer.ensures.value c.in_err-writer.ensures.text
    (λ state. refl) (λ s. not_writing s c.args.at.lane c.args.at.moment _)

pub check-requires : goal.check-requires
check-requires g c = settled_by c.args.parts.now c.args.at.lane _ c.requires c.in_ok-writer.ensures.value

pub returns-in_err-check-clause-does : goal.returns-in_err-check-clause-does
returns-in_err-check-clause-does g c =
    let old = c.args.parts.now in
    early_does g.D.Disk refuses_finish old old c.args.at (Plain Finish) _ _ c.from_residual-in_err-check.ensures.1 refl (same_kept old) c.in_err-check.ensures.stop (λ refusal is. is)
    (λ s h. tests_refuse old s c.args.at _ h.shows c.requires c.in_ok-writer.ensures.value _ c.in_err-check.ensures.plain)

pub returns-in_err-path-clause-does : goal.returns-in_err-path-clause-does
returns-in_err-path-clause-does g c =
    let old = c.args.parts.now in
    let here = session_found old c.args.at.lane c.index.result.now c.requires c.index.ensures in
    refused_does g.D.Disk old _ c.args.at (Plain Finish) NoFile _ (err_as _ _ _ c.in_err-path.ensures.refusal c.from_residual-in_err-path.ensures.1) refl (record { catalogue = refl; sessions = refl; locks = refl; indexes = refl }) no_file_has_text refl
    (λ s shows. tests_there old s c.args.at _ shows c.requires c.in_ok-writer.ensures.value c.in_ok-check.ensures.plain (ap manifest_in here ∙ sym c.in_err-path.ensures.value))

pub returns-in_err-finish-clause-does : goal.returns-in_err-finish-clause-does
returns-in_err-finish-clause-does g c =
    failed_does g.D.Disk c.args.parts.now _ c.args.at (Plain Finish) c.finish.result _ _ c.from_residual-in_err-finish.ensures.1 c.in_err-finish.was
    c.finish.ensures.serves (λ none h. (c.finish.ensures.unchanged none).0 h) (record { catalogue = c.reserve.ensures.same; sessions = refl; locks = refl; indexes = refl })

pub returns-in_err-finish-clause-leaves : goal.returns-in_err-finish-clause-leaves
returns-in_err-finish-clause-leaves g c = let d = g.D.Disk in
    let old = c.args.parts.now in
    let here = session_found old c.args.at.lane c.index.result.now c.requires c.index.ensures in
    let told = sym c.in_ok-path.ensures.value in
    let change = finish_change (session_at old c.args.at.lane) _ _ (ap manifest_in here ∙ told) in
    failed_leaves d old _ c.args.at (Plain Finish) c.finish.result _ _ c.from_residual-in_err-finish.ensures.1 c.in_err-finish.was
    (λ none h. (c.finish.ensures.unchanged none).0 h) (λ none. inr (c.finish.ensures.unchanged none).1)
    (subst (LeavesChange d old.disk _) (sym change) (inr c.finish.ensures.crash)) (record { catalogue = c.reserve.ensures.same; sessions = refl; locks = refl; indexes = refl }) refl (λ none closing. cc)
    (λ s h. tests_done old s c.args.at _ h.shows c.requires c.in_ok-writer.ensures.value c.in_ok-check.ensures.plain)

pub returns-clause-does : goal.returns-clause-does
returns-clause-does g c =
    let old = c.args.parts.now in
    let here = session_found old c.args.at.lane c.index.result.now c.requires c.index.ensures in
    let told = sym c.in_ok-path.ensures.value in
    let session = session_found old c.args.at.lane c.index_mut-session.result.now c.requires c.index_mut-session.ensures.value in
    writes_does g.D.Disk old _ c.args.at (Plain Finish) _ _ c.finish.ensures.serves done_has_text refl tt
    (λ safe s h. finish_done g.D.Disk old _ s c.args.at _ _ _ h c.requires c.in_ok-writer.ensures.value c.in_ok-check.ensures.plain (ap manifest_in here ∙ told)
    c.in_ok-finish.ensures.installed
    (c.close.ensures.catalogue ∙ ap (closed c.args.at.number c.index_mut-session.result.now) c.reserve.ensures.same ∙ ap (λ x. closed c.args.at.number x old.catalogue.listed) (sym session))
    (ap (set old.sessions.items c.args.at.lane) c.close.ensures.session) c.release.ensures refl)

pub returns-clause-leaves : goal.returns-clause-leaves
returns-clause-leaves g c = let d = g.D.Disk in
    let old = c.args.parts.now in
    let here = session_found old c.args.at.lane c.index.result.now c.requires c.index.ensures in
    let told = sym c.in_ok-path.ensures.value in
    let session = session_found old c.args.at.lane c.index_mut-session.result.now c.requires c.index_mut-session.ensures.value in
    let change = finish_change (session_at old c.args.at.lane) _ _ (ap manifest_in here ∙ told) in
    let there : c.args.at.lane < length old.indexes.items = omega (arith, old.rows, old.indexes.ok.0, c.requires) in
    writes_leaves d old _ c.args.at (Plain Finish) _ tt refl
    (λ h. c.in_ok-finish.ensures.installed h ∙ ap (λ x. after x (d.content old.disk)) (sym change))
    (subst (LeavesChange d old.disk _) (sym change) (inr c.finish.ensures.crash)) (subst (IsFirm d old.disk _) (sym change) c.in_ok-finish.ensures.firm)
    (c.close.ensures.catalogue ∙ ap (closed c.args.at.number c.index_mut-session.result.now) c.reserve.ensures.same ∙ ap (λ x. closed c.args.at.number x old.catalogue.listed) (sym session))
    (not_still (Plain Finish) refl)
    (finish_adds d old _ c.args.at.lane _ _ c.requires (ap manifest_in here ∙ told) c.in_ok-finish.ensures.installed)
    (λ _. record {
      session = idle_set old c.args.at.lane _ c.requires c.close.ensures.session;
      row = get_or-set_same old.indexes.items c.args.at.lane Unread Unread there;
      group = holds_no_group _ _ c.args.at.lane c.release.ensures;
      shared = shares_none _ _ c.args.at.lane c.release.ensures;
    })
    (λ writes. absurd (false_true writes))
    (rows_but old _ c.args.at.lane (Plain Finish) Unread refl refl) (λ i other. get_or-set_other old.sessions.items c.args.at.lane i c.close.new.session Idle other)

pub close-requires-clause-named : goal.close-requires-clause-named
close-requires-clause-named g c =
    let old = c.args.parts.now in
    let within : c.args.at.lane < length old.sessions.items = omega (arith, old.lanes, old.sessions.ok.0, c.requires) in
    list_all-at is_named old.sessions.items c.args.at.lane c.index_mut-session.result.now old.named within c.index_mut-session.ensures.value

pub invariant_of-parts-2-clause-named : goal.invariant_of-parts-2-clause-named
invariant_of-parts-2-clause-named g c =
    let old = c.args.parts.now in
    ap (λ x. list_all is_named (set old.sessions.items c.args.at.lane x)) c.close.ensures.session ∙ (list_all-set is_named old.sessions.items c.args.at.lane Idle old.named refl)
