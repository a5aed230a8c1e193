use Rattle.std.proofs.Common.{◌≡◌, ◌<◌, ◌∙◌, List, ℕ, refl, sym, ap, ap₂, subst, length, set, Ok, Err, rules, arith}
use Rattle.std.proofs.lemmas.List.{get_or_default, get_or-set_other}
use Rattle.wire_commands.specs.declared.command.Command.TheVariants as commands
use Rattle.store_history.specs.declared.act.Act.TheVariants.{Plain}
use Rattle.store_stops.specs.Stops.{Gives}
use Rattle.snapshot_files.specs.Calls.{CallsForPart}
use Rattle.core_state.specs.declared.kept.Session.TheVariants.{Idle}
use Rattle.core_state.specs.Kept.{kept_at}
use Rattle.core_state.specs.Indexed.{row_at}
use Rattle.core_state.specs.Named.{is_named}
use Rattle.core_state.specs.declared.indexes.Indexes.{Indexes}
use Rattle.core_state.specs.declared.indexes.Indexes.TheVariants.{Unread}
use Rattle.core_state.proofs.Asking.{uncalled}
use Rattle.core_state.proofs.Commanding.{unwritten_does, unwritten_leaves}
use Rattle.core_state.proofs.NamedLemmas.{list_all-set, list_all-at}
use Rattle.core_writer.specs.Previous.{MayKnow, base_file, kept_by_whole, known_by_whole, previous_by, shown_given, whole_for}
use Rattle.core_writer.proofs.ArchiveLemmas.{settled_at}
use Rattle.core_writer.proofs.KeepLemmas.{found_again, found_at, found_stays, found_wants}
use Rattle.core_writer.proofs.PreviousLemmas.{given_does, given_leaves, named_noted, no_base_does, no_base_leaves, not_writing, notes_done, notes_none, reads_asked, tells_given, tells_no_base, tells_short, tells_unnamed, tells_unread, tells_unwritten, unnamed_does, unnamed_leaves, unnoted_does, unnoted_leaves, unread_does, unread_leaves}
use Rattle.core_writer.proofs.SteppedLemmas.{false_true}
use Rattle.core_writer.proofs.previous_files.previous.Goals as goal

-- ---- no writer

pub returns-in_err-writer-clause-does : goal.returns-in_err-writer-clause-does
returns-in_err-writer-clause-does g c =
    unwritten_does g.D.Disk c.args.parts.now c.args.at (Plain (commands.Previous c.args.name.now c.args.offset)) _ _ c.from_residual.ensures.1 c.requires
    c.in_err-writer.ensures.value c.in_err-writer.ensures.text (λ state. refl) (λ s none. not_writing s c.args.at.lane c.args.name.now c.args.offset c.args.at.moment _ none)

pub returns-in_err-writer-clause-leaves : goal.returns-in_err-writer-clause-leaves
returns-in_err-writer-clause-leaves g c =
    unwritten_leaves g.D.Disk c.args.parts.now c.args.at (Plain (commands.Previous c.args.name.now c.args.offset)) _ _ c.from_residual.ensures.1 c.in_err-writer.ensures.value (λ closing. absurd (false_true closing))

pub returns-in_err-writer-clause-unreadable : goal.returns-in_err-writer-clause-unreadable
returns-in_err-writer-clause-unreadable g c =
    tells_unwritten g.D.Disk c.args.parts.now.disk (kept_at c.args.parts.now c.args.at.lane) c.args.name.now c.args.offset _ _ c.from_residual.ensures.1 c.in_err-writer.ensures.value

-- ---- a bad name

pub returns-in_err-name-clause-does : goal.returns-in_err-name-clause-does
returns-in_err-name-clause-does g c =
    unnamed_does g.D.Disk c.args.parts.now c.args.at c.args.name.now c.args.offset _ _ c.from_residual-in_err-name.ensures.1 c.requires _ c.in_ok-writer.ensures.value c.in_err-name.ensures.stops

pub returns-in_err-name-clause-leaves : goal.returns-in_err-name-clause-leaves
returns-in_err-name-clause-leaves g c =
    unnamed_leaves g.D.Disk c.args.parts.now c.args.at c.args.name.now c.args.offset _ _ c.from_residual-in_err-name.ensures.1 c.in_err-name.ensures.stops

pub returns-in_err-name-clause-unreadable : goal.returns-in_err-name-clause-unreadable
returns-in_err-name-clause-unreadable g c =
    tells_unnamed g.D.Disk c.args.parts.now.disk (kept_at c.args.parts.now c.args.at.lane) c.args.name.now c.args.offset _ _ c.from_residual-in_err-name.ensures.1 c.in_err-name.ensures.stops

-- ---- no such file

pub returns-in_err-path-clause-does : goal.returns-in_err-path-clause-does
returns-in_err-path-clause-does g c =
    let old = c.args.parts.now in
    let within : c.args.at.lane < length old.sessions.items = omega (arith, old.lanes, old.sessions.ok.0, c.requires) in
    let found : base_file ((c.in-Writer.w).session).writer.base c.args.name.now old.catalogue.listed ≡ Err c.in_err-path.field-0.0 = search rules in
    no_base_does g.D.Disk old c.args.at c.args.name.now c.args.offset _ refl (record { catalogue = refl; sessions = refl; locks = refl; indexes = refl }) c.in_err-path.field-0.0 _ c.from_residual-in_err-path.ensures.1 c.requires c.in-Writer.w
    (found_wants old.sessions.items c.args.at.lane c.index.result.now c.in-Writer.w within c.index.ensures c.in-Writer.is) c.in_ok-name.ensures.name.1 found c.in_err-path.ensures.text c.in_err-path.ensures.kind

pub returns-in_err-path-clause-leaves : goal.returns-in_err-path-clause-leaves
returns-in_err-path-clause-leaves g c = no_base_leaves g.D.Disk c.args.parts.now c.args.at c.args.name.now c.args.offset _ refl (record { catalogue = refl; sessions = refl; locks = refl; indexes = refl }) c.in_err-path.field-0.0 _ c.from_residual-in_err-path.ensures.1

pub returns-in_err-path-clause-unreadable : goal.returns-in_err-path-clause-unreadable
returns-in_err-path-clause-unreadable g c =
    let old = c.args.parts.now in
    let within : c.args.at.lane < length old.sessions.items = omega (arith, old.lanes, old.sessions.ok.0, c.requires) in
    let found : base_file ((c.in-Writer.w).session).writer.base c.args.name.now old.catalogue.listed ≡ Err c.in_err-path.field-0.0 = search rules in
    tells_no_base g.D.Disk old.disk (kept_at old c.args.at.lane) c.args.name.now c.args.offset c.in-Writer.w c.in_err-path.field-0.0 _ c.from_residual-in_err-path.ensures.1
    (found_at old.sessions.items c.args.at.lane c.index.result.now c.in-Writer.w within c.index.ensures c.in-Writer.is) c.in_ok-name.ensures.name.1 found

-- ---- it is not read

pub returns-in_err-given-clause-does : goal.returns-in_err-given-clause-does
returns-in_err-given-clause-does g c =
    let d = g.D.Disk in
    let old = c.args.parts.now in
    let at = c.args.at in
    let name = c.args.name.now in
    let within : at.lane < length old.sessions.items = omega (arith, old.lanes, old.sessions.ok.0, c.requires) in
    let named : c.in_ok-name.name ≡ name = c.in_ok-name.ensures.name.0 in
    let found : base_file ((c.in-Writer.w).session).writer.base name old.catalogue.listed ≡ Ok c.in_ok-path.path.now = search rules in
    let there : at.lane < length old.indexes.items = omega (arith, old.rows, old.indexes.ok.0, c.requires) in
    let row : c.index-2.result.now ≡ row_at old at.lane = c.index-2.ensures ∙ get_or_default old.indexes.items at.lane c.index-2.result.now Unread there in
    let whole : c.whole_index-whole.result ≡ whole_for (row_at old at.lane) name = c.whole_index-whole.ensures ∙ ap₂ whole_for row named in
    unread_does d old at name c.args.offset _ _ c.read_file.ensures.reads c.in-Writer.w c.in_ok-path.path.now c.requires
    (found_wants old.sessions.items at.lane c.index.result.now c.in-Writer.w within c.index.ensures c.in-Writer.is) c.in_ok-name.ensures.name.1 found
    c.in_err-given.field-0.0 _ c.from_residual-in_err-given.ensures.1 (λ f. c.in_err-given.was ∙ f) (record { catalogue = refl; sessions = refl; locks = refl; indexes = refl })
    c.in_err-given.ensures.text c.in_err-given.ensures.kind
    (λ honest. subst (λ o. Gives shown_given (Err c.in_err-given.field-0.0) (previous_by o (d.content old.disk) c.in_ok-path.path.now c.args.offset)) whole (c.in_err-given.ensures.exact honest))

pub returns-in_err-given-clause-leaves : goal.returns-in_err-given-clause-leaves
returns-in_err-given-clause-leaves g c =
    unread_leaves g.D.Disk c.args.parts.now c.args.at c.args.name.now c.args.offset _ _ c.read_file.ensures.reads c.in_ok-path.path.now
    c.in_err-given.field-0.0 _ c.from_residual-in_err-given.ensures.1 (record { catalogue = refl; sessions = refl; locks = refl; indexes = refl }) c.in_err-given.ensures.kind

pub returns-in_err-given-clause-unreadable : goal.returns-in_err-given-clause-unreadable
returns-in_err-given-clause-unreadable g c =
    let d = g.D.Disk in
    let old = c.args.parts.now in
    let at = c.args.at in
    let name = c.args.name.now in
    let within : at.lane < length old.sessions.items = omega (arith, old.lanes, old.sessions.ok.0, c.requires) in
    let named : c.in_ok-name.name ≡ name = c.in_ok-name.ensures.name.0 in
    let found : base_file ((c.in-Writer.w).session).writer.base name old.catalogue.listed ≡ Ok c.in_ok-path.path.now = search rules in
    let there : at.lane < length old.indexes.items = omega (arith, old.rows, old.indexes.ok.0, c.requires) in
    let row : c.index-2.result.now ≡ row_at old at.lane = c.index-2.ensures ∙ get_or_default old.indexes.items at.lane c.index-2.result.now Unread there in
    let whole : c.whole_index-whole.result ≡ whole_for (row_at old at.lane) name = c.whole_index-whole.ensures ∙ ap₂ whole_for row named in
    tells_unread d old.disk (kept_at old at.lane) name c.args.offset c.in-Writer.w c.in_ok-path.path.now
    (found_at old.sessions.items at.lane c.index.result.now c.in-Writer.w within c.index.ensures c.in-Writer.is) c.in_ok-name.ensures.name.1 found
    c.in_err-given.field-0.0 _ c.from_residual-in_err-given.ensures.1 c.in_err-given.ensures.kind
    (λ honest. subst (λ o. Gives shown_given (Err c.in_err-given.field-0.0) (previous_by o (d.content old.disk) c.in_ok-path.path.now c.args.offset)) whole (c.in_err-given.ensures.exact honest))

-- ---- the session notes it

pub note_whole-requires-clause-writes : goal.note_whole-requires-clause-writes
note_whole-requires-clause-writes g c =
    let old = c.args.parts.now in
    let within : c.args.at.lane < length old.sessions.items = omega (arith, old.lanes, old.sessions.ok.0, c.requires) in
    let again = found_again old.sessions.items c.args.at.lane c.index.result.now c.index_mut-session.result.now within c.index.ensures c.index_mut-session.ensures.value in
    subst MayKnow (sym (again ∙ c.in-Writer.is)) (settled_at old.sessions.items c.args.at.lane c.index.result.now c.in-Writer.w old.named within c.index.ensures c.in-Writer.is)

pub invariant_of-parts-2-clause-named : goal.invariant_of-parts-2-clause-named
invariant_of-parts-2-clause-named g c =
    let old = c.args.parts.now in
    let within : c.args.at.lane < length old.sessions.items = omega (arith, old.lanes, old.sessions.ok.0, c.requires) in
    list_all-set is_named old.sessions.items c.args.at.lane c.note_whole.new.session old.named
    (named_noted c.note_whole.result c.whole_index-whole.result c.in_ok-given.given.pieces c.index_mut-session.result.now c.note_whole.new.session c.note_whole.ensures.noted c.note_whole.ensures.unnoted (list_all-at is_named old.sessions.items c.args.at.lane c.index_mut-session.result.now old.named within c.index_mut-session.ensures.value))

-- ---- memory is wanting for it

pub returns-in_err-note_whole-clause-does : goal.returns-in_err-note_whole-clause-does
returns-in_err-note_whole-clause-does g c =
    let d = g.D.Disk in
    let old = c.args.parts.now in
    let at = c.args.at in
    let name = c.args.name.now in
    let within : at.lane < length old.sessions.items = omega (arith, old.lanes, old.sessions.ok.0, c.requires) in
    let found : base_file ((c.in-Writer.w).session).writer.base name old.catalogue.listed ≡ Ok c.in_ok-path.path.now = search rules in
    let sessions = ap (set old.sessions.items at.lane) c.in_err-note_whole.ensures.unnoted ∙ found_stays old.sessions.items at.lane c.index_mut-session.result.now c.index_mut-session.ensures.value in
    let rows = ap (set old.indexes.items at.lane) c.in_err-note_whole.ensures.unkept ∙ found_stays old.indexes.items at.lane c.index_mut-row.result.now c.index_mut-row.ensures.value in
    unnoted_does d old at name c.args.offset _ _ c.read_file.ensures.reads c.in-Writer.w c.in_ok-path.path.now c.requires
    (found_wants old.sessions.items at.lane c.index.result.now c.in-Writer.w within c.index.ensures c.in-Writer.is) c.in_ok-name.ensures.name.1 found
    _ c.from_residual-in_err-note_whole.ensures.1 (record { catalogue = refl; sessions = sessions; locks = refl; indexes = rows })

pub returns-in_err-note_whole-clause-leaves : goal.returns-in_err-note_whole-clause-leaves
returns-in_err-note_whole-clause-leaves g c =
    let d = g.D.Disk in
    let old = c.args.parts.now in
    let at = c.args.at in
    let name = c.args.name.now in
    let sessions = ap (set old.sessions.items at.lane) c.in_err-note_whole.ensures.unnoted ∙ found_stays old.sessions.items at.lane c.index_mut-session.result.now c.index_mut-session.ensures.value in
    let rows = ap (set old.indexes.items at.lane) c.in_err-note_whole.ensures.unkept ∙ found_stays old.indexes.items at.lane c.index_mut-row.result.now c.index_mut-row.ensures.value in
    unnoted_leaves d old at name c.args.offset _ _ c.read_file.ensures.reads _ c.from_residual-in_err-note_whole.ensures.1 (record { catalogue = refl; sessions = sessions; locks = refl; indexes = rows })

pub returns-in_err-note_whole-clause-unreadable : goal.returns-in_err-note_whole-clause-unreadable
returns-in_err-note_whole-clause-unreadable g c =
    tells_short g.D.Disk c.args.parts.now.disk _ _ c.from_residual-in_err-note_whole.ensures.1

pub returns-in_err-note_whole-clause-notes : goal.returns-in_err-note_whole-clause-notes
returns-in_err-note_whole-clause-notes g c =
    let old = c.args.parts.now in
    let at = c.args.at in
    let rows = ap (set old.indexes.items at.lane) c.in_err-note_whole.ensures.unkept ∙ found_stays old.indexes.items at.lane c.index_mut-row.result.now c.index_mut-row.ensures.value in
    notes_none g.D.Disk old _ at c.args.name.now c.args.offset _ _ c.from_residual-in_err-note_whole.ensures.1 rows

-- ---- it is given

pub returns-clause-does : goal.returns-clause-does
returns-clause-does g c =
    let d = g.D.Disk in
    let old = c.args.parts.now in
    let at = c.args.at in
    let name = c.args.name.now in
    let within : at.lane < length old.sessions.items = omega (arith, old.lanes, old.sessions.ok.0, c.requires) in
    let named : c.in_ok-name.name ≡ name = c.in_ok-name.ensures.name.0 in
    let found : base_file ((c.in-Writer.w).session).writer.base name old.catalogue.listed ≡ Ok c.in_ok-path.path.now = search rules in
    let there : at.lane < length old.indexes.items = omega (arith, old.rows, old.indexes.ok.0, c.requires) in
    let row : c.index-2.result.now ≡ row_at old at.lane = c.index-2.ensures ∙ get_or_default old.indexes.items at.lane c.index-2.result.now Unread there in
    let whole : c.whole_index-whole.result ≡ whole_for (row_at old at.lane) name = c.whole_index-whole.ensures ∙ ap₂ whole_for row named in
    let again_row : c.index_mut-row.result.now ≡ row_at old at.lane = c.index_mut-row.ensures.value ∙ get_or_default old.indexes.items at.lane c.index_mut-row.result.now Unread there in
    let kept : c.note_whole.new.row ≡ kept_by_whole (whole_for (row_at old at.lane) name) name (row_at old at.lane) =
    c.in_ok-note_whole.ensures.kept ∙ ap₂ (λ (n : List ℕ) (r : Indexes). kept_by_whole c.whole_index-whole.result n r) named again_row ∙ ap (λ o. kept_by_whole o name (row_at old at.lane)) whole in
    let rows = ap (set old.indexes.items at.lane) kept in
    let again = found_again old.sessions.items at.lane c.index.result.now c.index_mut-session.result.now within c.index.ensures c.index_mut-session.ensures.value in
    given_does d old at name c.args.offset _ _ c.read_file.ensures.reads c.in-Writer.w c.in_ok-path.path.now c.requires
    (found_wants old.sessions.items at.lane c.index.result.now c.in-Writer.w within c.index.ensures c.in-Writer.is) c.in_ok-name.ensures.name.1 found
    c.in_ok-given.given c.note_whole.new.session c.index_mut-session.result.now tt c.in_ok-given.ensures.text
    (λ honest. subst (λ o. previous_by o (d.content old.disk) c.in_ok-path.path.now c.args.offset ≡ Ok (shown_given c.in_ok-given.given)) whole (c.in_ok-given.ensures.exact honest))
    refl refl refl rows (again ∙ c.in-Writer.is)
    (c.in_ok-note_whole.ensures.noted ∙ ap (λ o. known_by_whole o c.in_ok-given.given.pieces c.index_mut-session.result.now) whole)

pub returns-clause-leaves : goal.returns-clause-leaves
returns-clause-leaves g c =
    let d = g.D.Disk in
    let old = c.args.parts.now in
    let at = c.args.at in
    let name = c.args.name.now in
    let named : c.in_ok-name.name ≡ name = c.in_ok-name.ensures.name.0 in
    let there : at.lane < length old.indexes.items = omega (arith, old.rows, old.indexes.ok.0, c.requires) in
    let row : c.index-2.result.now ≡ row_at old at.lane = c.index-2.ensures ∙ get_or_default old.indexes.items at.lane c.index-2.result.now Unread there in
    let whole : c.whole_index-whole.result ≡ whole_for (row_at old at.lane) name = c.whole_index-whole.ensures ∙ ap₂ whole_for row named in
    let again_row : c.index_mut-row.result.now ≡ row_at old at.lane = c.index_mut-row.ensures.value ∙ get_or_default old.indexes.items at.lane c.index_mut-row.result.now Unread there in
    let kept : c.note_whole.new.row ≡ kept_by_whole (whole_for (row_at old at.lane) name) name (row_at old at.lane) =
    c.in_ok-note_whole.ensures.kept ∙ ap₂ (λ (n : List ℕ) (r : Indexes). kept_by_whole c.whole_index-whole.result n r) named again_row ∙ ap (λ o. kept_by_whole o name (row_at old at.lane)) whole in
    let rows = ap (set old.indexes.items at.lane) kept in
    given_leaves d old at name c.args.offset _ _ c.read_file.ensures.reads c.in_ok-given.given tt refl _ rows (λ i other. get_or-set_other old.sessions.items at.lane i c.note_whole.new.session Idle other)

pub returns-clause-unreadable : goal.returns-clause-unreadable
returns-clause-unreadable g c =
    let d = g.D.Disk in
    let old = c.args.parts.now in
    let at = c.args.at in
    let name = c.args.name.now in
    let within : at.lane < length old.sessions.items = omega (arith, old.lanes, old.sessions.ok.0, c.requires) in
    let named : c.in_ok-name.name ≡ name = c.in_ok-name.ensures.name.0 in
    let found : base_file ((c.in-Writer.w).session).writer.base name old.catalogue.listed ≡ Ok c.in_ok-path.path.now = search rules in
    let there : at.lane < length old.indexes.items = omega (arith, old.rows, old.indexes.ok.0, c.requires) in
    let row : c.index-2.result.now ≡ row_at old at.lane = c.index-2.ensures ∙ get_or_default old.indexes.items at.lane c.index-2.result.now Unread there in
    let whole : c.whole_index-whole.result ≡ whole_for (row_at old at.lane) name = c.whole_index-whole.ensures ∙ ap₂ whole_for row named in
    tells_given d old.disk (kept_at old at.lane) name c.args.offset c.in-Writer.w c.in_ok-path.path.now
    (found_at old.sessions.items at.lane c.index.result.now c.in-Writer.w within c.index.ensures c.in-Writer.is) c.in_ok-name.ensures.name.1 found
    c.in_ok-given.given tt
    (λ honest. subst (λ o. previous_by o (d.content old.disk) c.in_ok-path.path.now c.args.offset ≡ Ok (shown_given c.in_ok-given.given)) whole (c.in_ok-given.ensures.exact honest))

pub returns-clause-notes : goal.returns-clause-notes
returns-clause-notes g c =
    let d = g.D.Disk in
    let old = c.args.parts.now in
    let at = c.args.at in
    let name = c.args.name.now in
    let named : c.in_ok-name.name ≡ name = c.in_ok-name.ensures.name.0 in
    let there : at.lane < length old.indexes.items = omega (arith, old.rows, old.indexes.ok.0, c.requires) in
    let row : c.index-2.result.now ≡ row_at old at.lane = c.index-2.ensures ∙ get_or_default old.indexes.items at.lane c.index-2.result.now Unread there in
    let whole : c.whole_index-whole.result ≡ whole_for (row_at old at.lane) name = c.whole_index-whole.ensures ∙ ap₂ whole_for row named in
    let again_row : c.index_mut-row.result.now ≡ row_at old at.lane = c.index_mut-row.ensures.value ∙ get_or_default old.indexes.items at.lane c.index_mut-row.result.now Unread there in
    let kept : c.note_whole.new.row ≡ kept_by_whole (whole_for (row_at old at.lane) name) name (row_at old at.lane) =
    c.in_ok-note_whole.ensures.kept ∙ ap₂ (λ (n : List ℕ) (r : Indexes). kept_by_whole c.whole_index-whole.result n r) named again_row ∙ ap (λ o. kept_by_whole o name (row_at old at.lane)) whole in
    let rows = ap (set old.indexes.items at.lane) kept in
    let within : at.lane < length old.sessions.items = omega (arith, old.lanes, old.sessions.ok.0, c.requires) in
    let found : base_file ((c.in-Writer.w).session).writer.base name old.catalogue.listed ≡ Ok c.in_ok-path.path.now = search rules in
    let writes = found_at old.sessions.items at.lane c.index.result.now c.in-Writer.w within c.index.ensures c.in-Writer.is in
    let again = found_again old.sessions.items at.lane c.index.result.now c.index_mut-session.result.now within c.index.ensures c.index_mut-session.ensures.value in
    notes_done d old _ at name c.args.offset c.requires c.in-Writer.w c.in_ok-path.path.now c.in_ok-given.given c.note_whole.new.session writes c.in_ok-name.ensures.name.1 found c.in_ok-given.ensures.pieces
    (λ honest. subst (λ o. previous_by o (d.content old.disk) c.in_ok-path.path.now c.args.offset ≡ Ok (shown_given c.in_ok-given.given)) whole (c.in_ok-given.ensures.exact honest)) refl
    (c.in_ok-note_whole.ensures.noted ∙ ap (λ o. known_by_whole o c.in_ok-given.given.pieces c.index_mut-session.result.now) whole
    ∙ ap (known_by_whole (whole_for (row_at old at.lane) name) c.in_ok-given.given.pieces) (again ∙ c.in-Writer.is ∙ sym writes)) rows

-- ---- what the lane keeps where it stopped before

pub returns-in_err-writer-clause-notes : goal.returns-in_err-writer-clause-notes
returns-in_err-writer-clause-notes g c = notes_none g.D.Disk c.args.parts.now _ c.args.at c.args.name.now c.args.offset _ _ c.from_residual.ensures.1 refl

pub returns-in_err-name-clause-notes : goal.returns-in_err-name-clause-notes
returns-in_err-name-clause-notes g c = notes_none g.D.Disk c.args.parts.now _ c.args.at c.args.name.now c.args.offset _ _ c.from_residual-in_err-name.ensures.1 refl

pub returns-in_err-path-clause-notes : goal.returns-in_err-path-clause-notes
returns-in_err-path-clause-notes g c = notes_none g.D.Disk c.args.parts.now _ c.args.at c.args.name.now c.args.offset _ _ c.from_residual-in_err-path.ensures.1 refl

pub returns-in_err-given-clause-notes : goal.returns-in_err-given-clause-notes
returns-in_err-given-clause-notes g c = notes_none g.D.Disk c.args.parts.now _ c.args.at c.args.name.now c.args.offset _ _ c.from_residual-in_err-given.ensures.1 refl

-- ---- how often the disk is called

pub returns-in_err-writer-clause-calls : goal.returns-in_err-writer-clause-calls
returns-in_err-writer-clause-calls g c = uncalled g.D.Disk _ _ _ refl

pub returns-in_err-name-clause-calls : goal.returns-in_err-name-clause-calls
returns-in_err-name-clause-calls g c = uncalled g.D.Disk _ _ _ refl

pub returns-in_err-path-clause-calls : goal.returns-in_err-path-clause-calls
returns-in_err-path-clause-calls g c = uncalled g.D.Disk _ _ _ refl

pub returns-in_err-given-clause-calls : goal.returns-in_err-given-clause-calls
returns-in_err-given-clause-calls g c =
    let d = g.D.Disk in
    let old = c.args.parts.now in
    let at = c.args.at in
    let name = c.args.name.now in
    let within : at.lane < length old.sessions.items = omega (arith, old.lanes, old.sessions.ok.0, c.requires) in
    let named : c.in_ok-name.name ≡ name = c.in_ok-name.ensures.name.0 in
    let found : base_file ((c.in-Writer.w).session).writer.base name old.catalogue.listed ≡ Ok c.in_ok-path.path.now = search rules in
    let there : at.lane < length old.indexes.items = omega (arith, old.rows, old.indexes.ok.0, c.requires) in
    let row : c.index-2.result.now ≡ row_at old at.lane = c.index-2.ensures ∙ get_or_default old.indexes.items at.lane c.index-2.result.now Unread there in
    let whole : c.whole_index-whole.result ≡ whole_for (row_at old at.lane) name = c.whole_index-whole.ensures ∙ ap₂ whole_for row named in
    reads_asked d old.disk (kept_at old at.lane) name c.args.offset c.in-Writer.w c.in_ok-path.path.now
    (found_at old.sessions.items at.lane c.index.result.now c.in-Writer.w within c.index.ensures c.in-Writer.is) c.in_ok-name.ensures.name.1 found
    c.read_file.new.disk (subst (λ o. CallsForPart d old.disk c.read_file.new.disk c.in_ok-path.path.now o) whole c.read_file.ensures.calls)

pub returns-in_err-note_whole-clause-calls : goal.returns-in_err-note_whole-clause-calls
returns-in_err-note_whole-clause-calls g c =
    let d = g.D.Disk in
    let old = c.args.parts.now in
    let at = c.args.at in
    let name = c.args.name.now in
    let within : at.lane < length old.sessions.items = omega (arith, old.lanes, old.sessions.ok.0, c.requires) in
    let named : c.in_ok-name.name ≡ name = c.in_ok-name.ensures.name.0 in
    let found : base_file ((c.in-Writer.w).session).writer.base name old.catalogue.listed ≡ Ok c.in_ok-path.path.now = search rules in
    let there : at.lane < length old.indexes.items = omega (arith, old.rows, old.indexes.ok.0, c.requires) in
    let row : c.index-2.result.now ≡ row_at old at.lane = c.index-2.ensures ∙ get_or_default old.indexes.items at.lane c.index-2.result.now Unread there in
    let whole : c.whole_index-whole.result ≡ whole_for (row_at old at.lane) name = c.whole_index-whole.ensures ∙ ap₂ whole_for row named in
    reads_asked d old.disk (kept_at old at.lane) name c.args.offset c.in-Writer.w c.in_ok-path.path.now
    (found_at old.sessions.items at.lane c.index.result.now c.in-Writer.w within c.index.ensures c.in-Writer.is) c.in_ok-name.ensures.name.1 found
    c.read_file.new.disk (subst (λ o. CallsForPart d old.disk c.read_file.new.disk c.in_ok-path.path.now o) whole c.read_file.ensures.calls)

pub returns-clause-calls : goal.returns-clause-calls
returns-clause-calls g c =
    let d = g.D.Disk in
    let old = c.args.parts.now in
    let at = c.args.at in
    let name = c.args.name.now in
    let within : at.lane < length old.sessions.items = omega (arith, old.lanes, old.sessions.ok.0, c.requires) in
    let named : c.in_ok-name.name ≡ name = c.in_ok-name.ensures.name.0 in
    let found : base_file ((c.in-Writer.w).session).writer.base name old.catalogue.listed ≡ Ok c.in_ok-path.path.now = search rules in
    let there : at.lane < length old.indexes.items = omega (arith, old.rows, old.indexes.ok.0, c.requires) in
    let row : c.index-2.result.now ≡ row_at old at.lane = c.index-2.ensures ∙ get_or_default old.indexes.items at.lane c.index-2.result.now Unread there in
    let whole : c.whole_index-whole.result ≡ whole_for (row_at old at.lane) name = c.whole_index-whole.ensures ∙ ap₂ whole_for row named in
    reads_asked d old.disk (kept_at old at.lane) name c.args.offset c.in-Writer.w c.in_ok-path.path.now
    (found_at old.sessions.items at.lane c.index.result.now c.in-Writer.w within c.index.ensures c.in-Writer.is) c.in_ok-name.ensures.name.1 found
    c.read_file.new.disk (subst (λ o. CallsForPart d old.disk c.read_file.new.disk c.in_ok-path.path.now o) whole c.read_file.ensures.calls)
