use Rattle.std.proofs.Common.{◌<◌, refl, sym, ap, arith, length, get_or-set_same, [], Ok, Result}
use Rattle.store_types.specs.declared.names.SnapshotKey.{SnapshotKey}
use Rattle.store_types.specs.declared.refusal.Refusal.{Refusal}
use Rattle.store_types.specs.Chain.Refusing.{◌>>=◌}
use Rattle.wire_commands.specs.declared.command.Command.TheVariants.{OpenReader}
use Rattle.wire_commands.specs.declared.reply.Reply.{Reply}
use Rattle.wire_commands.specs.declared.reply.Reply.TheVariants.{Done}
use Rattle.store_history.specs.declared.act.Act.TheVariants.{Plain}
use Rattle.store_model.specs.Store as model
use Rattle.store_model.specs.Store.{reader, with_session}
use Rattle.core_state.specs.Closing.{is_reader}
use Rattle.core_state.specs.Kept.{kept_at}
use Rattle.core_state.specs.Named.{is_named}
use Rattle.store_history.specs.Replies.{reply_told}
use Rattle.core_state.specs.declared.kept.Session.TheVariants.{Idle, Reader}
use Rattle.core_state.proofs.Commanding.{changed_does, same_kept}
use Rattle.core_state.proofs.Decided.{decided_does, decided_leaves, decided_tells}
use Rattle.core_state.proofs.Finding.{is_some}
use Rattle.core_state.proofs.FromState.{stopped}
use Rattle.core_state.proofs.LockLemmas.{locked_reader}
use Rattle.core_state.proofs.NamedLemmas.{list_all-set}
use Rattle.core_state.proofs.Rows.{rows_begun}
use Rattle.core_state.proofs.Soundness.{shows_changed}
use Rattle.core_state.proofs.Texts.{done_has_text}
use Rattle.core_reader.specs.AnsweredBy.{ActOpens}
use Rattle.core_reader.specs.Asked.{to_open}
use Rattle.core_reader.proofs.OpenSteps.{disk_reader, open_answers, open_found, open_refused, sound_reader, tells_decided, tells_opened, tells_short}
use Rattle.core_reader.proofs.opening.open_reader.Goals as goal

pub invariant_of-parts-2-clause-named : goal.invariant_of-parts-2-clause-named
invariant_of-parts-2-clause-named g c = list_all-set is_named c.args.parts.now.sessions.items c.args.at.lane _ c.args.parts.now.named refl

-- ---- a test refuses it

pub returns-in_err-key-clause-does : goal.returns-in_err-key-clause-does
returns-in_err-key-clause-does g c =
    let old = c.args.parts.now in
    let at = c.args.at in
    let text = c.args.snapshot.now in
    decided_does g.D.Disk (λ (key : SnapshotKey). key) (to_open text) old old at (Plain (OpenReader text)) _ _ c.from_residual.ensures.1 c.in_err-key.ensures refl (same_kept old)
    (open_answers text (kept_at old at.lane)) (λ s h r e. open_refused old s at.lane at.moment text h.shows c.requires r e)

pub returns-in_err-key-clause-leaves : goal.returns-in_err-key-clause-leaves
returns-in_err-key-clause-leaves g c =
    let old = c.args.parts.now in
    let text = c.args.snapshot.now in
    decided_leaves g.D.Disk (λ (key : SnapshotKey). key) (to_open text) old old c.args.at (Plain (OpenReader text)) _ _ c.from_residual.ensures.1 c.in_err-key.ensures refl (same_kept old) (λ e. cc)

pub returns-in_err-key-clause-from_state : goal.returns-in_err-key-clause-from_state
returns-in_err-key-clause-from_state g c =
    let old = c.args.parts.now in
    let text = c.args.snapshot.now in
    stopped (λ r. ActOpens text old old c.args.at r) _ _ c.from_residual.ensures.1
    (record { answers = decided_tells (λ (key : SnapshotKey). key) (to_open text) old c.args.at.lane (λ key. Ok Done) _ c.in_err-key.ensures; opened = tt })

pub returns-in_err-key-clause-unreadable : goal.returns-in_err-key-clause-unreadable
returns-in_err-key-clause-unreadable g c = tells_decided g.D.Disk c.args.parts.now c.args.at.lane c.args.snapshot.now _ _ c.from_residual.ensures.1 c.in_err-key.ensures

-- ---- memory is wanting for the claim

pub returns-in_err-shared_take-clause-unreadable : goal.returns-in_err-shared_take-clause-unreadable
returns-in_err-shared_take-clause-unreadable g c =
    tells_short c.args.snapshot.now (kept_at c.args.parts.now c.args.at.lane) g.D.Disk c.args.parts.now.disk _ c.from_residual-in_err-shared_take.ensures.1

-- ---- it is opened

pub returns-clause-does : goal.returns-clause-does
returns-clause-does g c =
    let old = c.args.parts.now in
    let lane = c.args.at.lane in
    let key = c.in_ok-key.key in
    let new : model.Reader = record { key = key; noted = [] } in
    changed_does g.D.Disk old _ c.args.at (Plain (OpenReader c.args.snapshot.now)) Done refl done_has_text refl tt
    (λ s h.
    let is = open_found old s lane c.args.at.moment c.args.snapshot.now h.shows c.requires key c.in_ok-key.ensures in
    let l : lane < length s.sessions = omega (arith, ((h.shows).sound).lanes, c.requires) in
    let sound = sound_reader s lane new c.requires (record { finished = is_some _ is.snapshot is.there }) (h.shows).sound in (
      with_session s lane (reader new),
      is.step,
      shows_changed _ _ s lane (reader new) _ refl refl (ap (λ r. Reader r) c.open_reader.ensures.opened)
          (locked_reader _ _ s lane new l (h.shows).sound sound is.idle c.in_ok-shared_take.ensures.ok (h.shows).locks)
          (rows_begun s lane old.indexes.items l (h.shows).indexes (reader new) is.idle) sound h.shows,
      disk_reader _ s lane new l h.files,
    ))

pub returns-clause-unreadable : goal.returns-clause-unreadable
returns-clause-unreadable g c =
    let old = c.args.parts.now in
    tells_opened c.args.snapshot.now (kept_at old c.args.at.lane) g.D.Disk old.disk c.in_ok-key.key c.in_ok-key.ensures

pub returns-clause-from_state : goal.returns-clause-from_state
returns-clause-from_state g c =
    let old = c.args.parts.now in
    let lane = c.args.at.lane in
    let within : lane < length old.sessions.items = omega (arith, old.lanes, old.sessions.ok.0, c.requires) in
    record {
      answers = sym (ap (λ o. reply_told (o >>= λ key. let r : Result Reply Refusal = Ok Done in r)) c.in_ok-key.ensures);
      opened = ap is_reader (get_or-set_same old.sessions.items lane _ Idle within);
    }
