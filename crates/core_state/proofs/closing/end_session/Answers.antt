use Rattle.std.proofs.Common.{◌<◌, length, get_or-set_same, refl, arith}
use Rattle.store_model.specs.Store.{none}
use Rattle.core_state.specs.Named.{is_named}
use Rattle.core_state.specs.declared.indexes.Indexes.TheVariants.{Unread}
use Rattle.core_state.specs.declared.kept.Session.TheVariants.{Idle}
use Rattle.core_state.proofs.LockLemmas.{holds_no_group, locked_ended, shares_none}
use Rattle.core_state.proofs.Rows.{rows_set}
use Rattle.core_state.proofs.NamedLemmas.{list_all-set}
use Rattle.core_state.proofs.Soundness.{sound_idle, shows_changed}
use Rattle.core_state.proofs.closing.end_session.Goals as goal

pub invariant_of-parts-clause-named : goal.invariant_of-parts-clause-named
invariant_of-parts-clause-named g c = list_all-set is_named c.args.parts.now.sessions.items c.args.lane Idle c.args.parts.now.named refl

pub returns-clause-shows : goal.returns-clause-shows
returns-clause-shows g c = λ s h.
    let within : c.args.lane < length s.sessions = omega (arith, (h.sound).lanes, c.requires) in
    let sound = sound_idle s c.args.lane c.requires h.sound in
    let there : c.args.lane < length c.args.parts.now.indexes.items = omega (arith, c.args.parts.now.rows, c.args.parts.now.indexes.ok.0, c.requires) in
    shows_changed c.args.parts.now _ s c.args.lane none Idle refl refl refl (locked_ended _ _ s c.args.lane within h.sound sound c.release.ensures h.locks)
    (rows_set s c.args.lane none c.args.parts.now.indexes.items within h.indexes Unread there tt) sound h

pub returns-clause-ended : goal.returns-clause-ended
returns-clause-ended g c =
    let parts = c.args.parts.now in
    let sessions : c.args.lane < length parts.sessions.items = omega (arith, parts.lanes, parts.sessions.ok.0, c.requires) in
    let rows : c.args.lane < length parts.indexes.items = omega (arith, parts.rows, parts.indexes.ok.0, c.requires) in record {
      session = get_or-set_same parts.sessions.items c.args.lane Idle Idle sessions;
      row = get_or-set_same parts.indexes.items c.args.lane Unread Unread rows;
      group = holds_no_group _ _ c.args.lane c.release.ensures;
      shared = shares_none _ _ c.args.lane c.release.ensures;
    }
