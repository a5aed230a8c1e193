use Rattle.std.proofs.Common.{◌<◌, ◌∙◌, ℕ, List, length, get_or-set_same, Option, Result, sym, ap, refl, subst, arith}
use Rattle.store_types.specs.declared.names.SnapshotKey.{SnapshotKey}
use Rattle.store_types.specs.declared.refusal.Refusal.{Refusal}
use Rattle.store_types.specs.Chain.Refusing.{◌>>=◌}
use Rattle.store_types.specs.Names.{group_of_key}
use Rattle.store_model.specs.WriterSteps.{new_writer}
use Rattle.backup_session.specs.Session as backups
use Rattle.backup_session.specs.Session.{settled}
use Rattle.backup_session.specs.Steps as rows
use Rattle.backup_session.specs.Shown.{Shows}
use Rattle.lock_book.specs.Locks.{TakesWriter}
use Rattle.wire_commands.specs.declared.command.Command.TheVariants.{OpenWriter}
use Rattle.wire_commands.specs.declared.reply.Reply.TheVariants.{Base}
use Rattle.store_history.specs.declared.act.Act.TheVariants.{Plain}
use Rattle.core_state.specs.declared.kept.Session.{Session}
use Rattle.core_state.specs.declared.kept.Session.TheVariants.{Idle, Writer}
use Rattle.core_state.specs.declared.kept.StoredFile.{StoredFile}
use Rattle.core_state.specs.Kept.{kept_at}
use Rattle.core_state.specs.Named.{is_named}
use Rattle.store_history.specs.Replies.{reply_told}
use Rattle.core_state.proofs.FromState.{stopped}
use Rattle.core_state.proofs.Commanding.{changed_does, same_kept}
use Rattle.core_state.proofs.Decided.{decided_does, decided_leaves, decided_tells}
use Rattle.core_state.proofs.NamedLemmas.{list_all-set}
use Rattle.core_state.proofs.Texts.{base_has_text}
use Rattle.core_state.specs.FromState.{ActTells}
use Rattle.core_writer.specs.AnsweredBy.{tells_base, writer_told}
use Rattle.core_writer.specs.Opened.{begins_with, other_holder, to_write}
use Rattle.core_writer.proofs.OpeningLemmas.{named_new, opens, write_answers, write_free, write_refused}
use Rattle.core_writer.proofs.opening.open_writer.Goals as goal

-- ---- a test refuses it

pub returns-in_err-begun-clause-does : goal.returns-in_err-begun-clause-does
returns-in_err-begun-clause-does g c =
    let old = c.args.parts.now in
    let at = c.args.at in
    let text = c.args.snapshot.now in
    decided_does g.D.Disk begins_with (to_write text) old old at (Plain (OpenWriter text)) _ _ c.from_residual.ensures.1 c.in_err-begun.ensures.value refl (same_kept old)
    (write_answers text (kept_at old at.lane)) (λ s h r e. write_refused old s at.lane at.moment text h.shows c.requires.lane r e)

pub returns-in_err-begun-clause-leaves : goal.returns-in_err-begun-clause-leaves
returns-in_err-begun-clause-leaves g c =
    let old = c.args.parts.now in
    let text = c.args.snapshot.now in
    decided_leaves g.D.Disk begins_with (to_write text) old old c.args.at (Plain (OpenWriter text)) _ _ c.from_residual.ensures.1 c.in_err-begun.ensures.value refl (same_kept old) (λ e. cc)

pub returns-in_err-begun-clause-from_state : goal.returns-in_err-begun-clause-from_state
returns-in_err-begun-clause-from_state g c =
    let old = c.args.parts.now in
    let text = c.args.snapshot.now in
    stopped (λ r. ActTells (writer_told text) old c.args.at r) _ _ c.from_residual.ensures.1
    (decided_tells begins_with (to_write text) old c.args.at.lane (λ b. tells_base b.1) _ c.in_err-begun.ensures.value)

-- ---- it begins

pub take_locks-requires : goal.take_locks-requires
take_locks-requires g c =
    let old = c.args.parts.now in
    let begun = c.in_ok-begun.begun in
    ap (other_holder old.locks c.args.at.lane) c.in_ok-begun.ensures.group ∙ write_free c.args.snapshot.now (kept_at old c.args.at.lane) begun.key begun.base c.in_ok-begun.ensures.value

pub invariant_of-parts-2-clause-named : goal.invariant_of-parts-2-clause-named
invariant_of-parts-2-clause-named g c =
    let begun = c.in_ok-begun.begun in
    list_all-set is_named c.args.parts.now.sessions.items c.args.at.lane _ c.args.parts.now.named
    (named_new c.open_writer.result c.new.result begun.key c.args.at.moment begun.base c.open_writer.ensures.opened c.in_ok-begun.ensures.grammar)

abbrev writing : SnapshotKey → ℕ → Option SnapshotKey → List StoredFile → Session
writing key moment base files = Writer (record { session = settled (rows.opened key moment base); files = files })

pub returns-clause-does : goal.returns-clause-does
returns-clause-does g c =
    let old = c.args.parts.now in
    let lane = c.args.at.lane in
    let begun = c.in_ok-begun.begun in
    let moment = c.args.at.moment in
    changed_does g.D.Disk old _ c.args.at (Plain (OpenWriter c.args.snapshot.now)) _ refl (base_has_text begun.text c.in_ok-begun.ensures.short) refl tt
    (λ s h. opens g.D.Disk old _ s lane moment c.args.snapshot.now begun.key begun.base _ _ c.requires.lane c.in_ok-begun.ensures.value c.in_ok-begun.ensures.grammar
    refl refl refl (subst (λ group. TakesWriter old.locks c.take_locks.new.locks lane group begun.base) c.in_ok-begun.ensures.group c.in_ok-take_locks.ensures.ok)
    (ap (λ v. Writer (record { session = v; files = c.new.result })) c.open_writer.ensures.opened ∙ ap (λ fs. writing begun.key moment begun.base fs) c.new.ensures)
    (subst (λ (x : backups.Session). Shows x.writer (new_writer begun.key moment begun.base)) c.open_writer.ensures.opened c.open_writer.ensures.plain)
    (ap (λ t. Base t) c.in_ok-begun.ensures.text) h)

pub returns-clause-from_state : goal.returns-clause-from_state
returns-clause-from_state g c =
    let begun = c.in_ok-begun.begun in
    ap (λ t. Base t) c.in_ok-begun.ensures.text
    ∙ sym (ap (λ (o : Result (SnapshotKey × Option SnapshotKey) Refusal). reply_told (o >>= λ b. tells_base b.1)) c.in_ok-begun.ensures.value)

-- the lane has its group and its base
pub returns-clause-locks : goal.returns-clause-locks
returns-clause-locks g c =
    let old = c.args.parts.now in
    let lane = c.args.at.lane in
    let begun = c.in_ok-begun.begun in
    let within : lane < length old.sessions.items = omega (arith, old.lanes, old.sessions.ok.0, c.requires.lane) in
    let takes = subst (λ group. TakesWriter old.locks c.take_locks.new.locks lane group begun.base) c.in_ok-begun.ensures.group c.in_ok-take_locks.ensures.ok in (
      record { session = c.open_writer.result; files = c.new.result },
      get_or-set_same old.sessions.items lane _ Idle within,
      subst (λ (v : backups.Session). TakesWriter old.locks c.take_locks.new.locks lane (group_of_key (v.writer).key) (v.writer).base) (sym c.open_writer.ensures.opened) takes,
    )
