use Rattle.std.proofs.Common.{◌≡◌, true, false, refl, sym, subst}
use Rattle.store_types.specs.Names.{IsKey}
use Rattle.wire_commands.specs.declared.command.Command.TheVariants as commands
use Rattle.store_history.specs.declared.act.Act.TheVariants.{Plain}
use Rattle.core_state.specs.Kept.{kept_at}
use Rattle.core_state.proofs.Commanding.{read_does, read_leaves, same_kept, stopped_does, stopped_leaves}
use Rattle.core_admin.proofs.FilesTelling.{answers_rows, answers_stopped, called, files_rows, files_stop, found_refuses, head_refuses, refused_answers, refused_files, refused_tells, refuses_unread, tell_named, tells_rows, tells_stopped}
use Rattle.core_admin.proofs.RowTexts.{files_has_text}
use Rattle.core_admin.proofs.file_list.files.Goals as goal

-- ---- the text names no snapshot

pub returns-in_err-key-clause-does : goal.returns-in_err-key-clause-does
returns-in_err-key-clause-does g c =
    let old = c.args.parts.now in
    let text = c.args.snapshot.now in
    refused_files text g.D.Disk old _ c.args.at c.in_err-key.field-0.0 _ c.from_residual.ensures.1 (head_refuses text old c.args.at.lane c.in_err-key.field-0.0 c.in_err-key.ensures.decides) refl (same_kept old)

pub returns-in_err-key-clause-from_state : goal.returns-in_err-key-clause-from_state
returns-in_err-key-clause-from_state g c =
    let old = c.args.parts.now in
    let text = c.args.snapshot.now in
    refused_answers text g.D.Disk old old c.args.at c.in_err-key.field-0.0 _ c.from_residual.ensures.1 (head_refuses text old c.args.at.lane c.in_err-key.field-0.0 c.in_err-key.ensures.decides)

pub returns-in_err-key-clause-unreadable : goal.returns-in_err-key-clause-unreadable
returns-in_err-key-clause-unreadable g c =
    let old = c.args.parts.now in
    let text = c.args.snapshot.now in
    refused_tells text g.D.Disk old old c.args.at c.in_err-key.field-0.0 _ c.from_residual.ensures.1 (head_refuses text old c.args.at.lane c.in_err-key.field-0.0 c.in_err-key.ensures.decides)

-- ---- there is no such snapshot, or it is damaged

pub returns-in_err-kept-clause-does : goal.returns-in_err-kept-clause-does
returns-in_err-kept-clause-does g c =
    let old = c.args.parts.now in
    let text = c.args.snapshot.now in
    refused_files text g.D.Disk old _ c.args.at c.in_err-kept.field-0.0 _ c.from_residual-in_err-kept.ensures.1
    (found_refuses text (kept_at old c.args.at.lane) c.in_ok-key.key c.in_err-kept.field-0.0 c.in_ok-key.ensures.decides c.in_err-kept.ensures.finds) refl
    (record { catalogue = refl; sessions = refl; locks = refl; indexes = refl })

pub returns-in_err-kept-clause-from_state : goal.returns-in_err-kept-clause-from_state
returns-in_err-kept-clause-from_state g c =
    let old = c.args.parts.now in
    let text = c.args.snapshot.now in
    refused_answers text g.D.Disk old old c.args.at c.in_err-kept.field-0.0 _ c.from_residual-in_err-kept.ensures.1
    (found_refuses text (kept_at old c.args.at.lane) c.in_ok-key.key c.in_err-kept.field-0.0 c.in_ok-key.ensures.decides c.in_err-kept.ensures.finds)

pub returns-in_err-kept-clause-unreadable : goal.returns-in_err-kept-clause-unreadable
returns-in_err-kept-clause-unreadable g c =
    let old = c.args.parts.now in
    let text = c.args.snapshot.now in
    refused_tells text g.D.Disk old old c.args.at c.in_err-kept.field-0.0 _ c.from_residual-in_err-kept.ensures.1
    (found_refuses text (kept_at old c.args.at.lane) c.in_ok-key.key c.in_err-kept.field-0.0 c.in_ok-key.ensures.decides c.in_err-kept.ensures.finds)

-- ---- the snapshot that is named

pub rows_read-requires : goal.rows_read-requires
rows_read-requires g c = subst IsKey (sym c.in_ok-kept.ensures.key) c.in_ok-key.ensures.grammar

-- ---- its manifest isn't read

no_end : false ≡ true → ⊥
no_end e = cc

pub returns-in_err-rows-clause-does : goal.returns-in_err-rows-clause-does
returns-in_err-rows-clause-does g c =
    let old = c.args.parts.now in
    let text = c.args.snapshot.now in
    let k = c.in_ok-kept.kept.now in
    let stop = c.in_err-rows.field-0.0 in
    let is = tell_named text (kept_at old c.args.at.lane) c.in_ok-key.key _ c.in_ok-key.ensures.decides c.in_ok-kept.ensures.finds in
    stopped_does g.D.Disk old _ c.args.at (Plain (commands.Files text)) c.rows_read.result stop _ c.from_residual-in_err-rows.ensures.1 c.in_err-rows.was
    c.rows_read.ensures.reads (record { catalogue = refl; sessions = refl; locks = refl; indexes = refl }) c.in_err-rows.ensures.text (refuses_unread k stop c.in_err-rows.ensures.named)
    (λ s h. files_stop g.D.Disk old s c.args.at.lane c.args.at.moment text k h is stop (c.in_err-rows.ensures.bytes h.honest) (c.in_err-rows.ensures.value h.honest))

pub returns-in_err-rows-clause-leaves : goal.returns-in_err-rows-clause-leaves
returns-in_err-rows-clause-leaves g c =
    stopped_leaves g.D.Disk c.args.parts.now _ c.args.at (Plain (commands.Files c.args.snapshot.now)) c.in_err-rows.field-0.0 _ _ c.from_residual-in_err-rows.ensures.1
    c.rows_read.ensures.reads (record { catalogue = refl; sessions = refl; locks = refl; indexes = refl }) refl (called _ c.in_ok-kept.kept.now c.in_err-rows.field-0.0 c.in_err-rows.ensures.named) no_end

pub returns-in_err-rows-clause-from_state : goal.returns-in_err-rows-clause-from_state
returns-in_err-rows-clause-from_state g c =
    let x = kept_at c.args.parts.now c.args.at.lane in
    let is = tell_named c.args.snapshot.now x c.in_ok-key.key _ c.in_ok-key.ensures.decides c.in_ok-kept.ensures.finds in
    answers_stopped c.args.snapshot.now x g.D.Disk c.args.parts.now.disk c.in_ok-kept.kept.now is c.in_err-rows.field-0.0 _ c.from_residual-in_err-rows.ensures.1 c.in_err-rows.ensures.named c.in_err-rows.ensures.value

pub returns-in_err-rows-clause-unreadable : goal.returns-in_err-rows-clause-unreadable
returns-in_err-rows-clause-unreadable g c =
    let x = kept_at c.args.parts.now c.args.at.lane in
    let is = tell_named c.args.snapshot.now x c.in_ok-key.key _ c.in_ok-key.ensures.decides c.in_ok-kept.ensures.finds in
    tells_stopped g.D.Disk c.args.parts.now.disk c.args.snapshot.now x c.in_ok-kept.kept.now c.in_err-rows.field-0.0 _ c.from_residual-in_err-rows.ensures.1 is c.in_err-rows.ensures.named c.in_err-rows.ensures.value

-- ---- its rows

pub returns-clause-does : goal.returns-clause-does
returns-clause-does g c =
    let old = c.args.parts.now in
    let is = tell_named c.args.snapshot.now (kept_at old c.args.at.lane) c.in_ok-key.key _ c.in_ok-key.ensures.decides c.in_ok-kept.ensures.finds in
    read_does g.D.Disk old _ c.args.at (Plain (commands.Files c.args.snapshot.now)) _ _ c.rows_read.ensures.reads (record { catalogue = refl; sessions = refl; locks = refl; indexes = refl })
    (files_has_text c.in_ok-rows.rows c.in_ok-rows.ensures.few c.in_ok-rows.ensures.fit) refl tt
    (λ s h. files_rows g.D.Disk old s c.args.at.lane c.args.at.moment c.args.snapshot.now c.in_ok-kept.kept.now h is c.in_ok-rows.rows (c.in_ok-rows.ensures.bytes h.honest) (c.in_ok-rows.ensures.value h.honest))

pub returns-clause-leaves : goal.returns-clause-leaves
returns-clause-leaves g c =
    read_leaves g.D.Disk c.args.parts.now _ c.args.at (Plain (commands.Files c.args.snapshot.now)) _ _ c.rows_read.ensures.reads (record { catalogue = refl; sessions = refl; locks = refl; indexes = refl })
    (record { plain = tt; change = refl; listed = refl; goes_on = refl; writes = λ writes. cc }) (λ no_disk_call. absurd (no_end no_disk_call))

pub returns-clause-from_state : goal.returns-clause-from_state
returns-clause-from_state g c =
    let x = kept_at c.args.parts.now c.args.at.lane in
    let is = tell_named c.args.snapshot.now x c.in_ok-key.key _ c.in_ok-key.ensures.decides c.in_ok-kept.ensures.finds in
    answers_rows c.args.snapshot.now x g.D.Disk c.args.parts.now.disk c.in_ok-kept.kept.now is c.in_ok-rows.rows c.in_ok-rows.ensures.value

pub returns-clause-unreadable : goal.returns-clause-unreadable
returns-clause-unreadable g c =
    let x = kept_at c.args.parts.now c.args.at.lane in
    let is = tell_named c.args.snapshot.now x c.in_ok-key.key _ c.in_ok-key.ensures.decides c.in_ok-kept.ensures.finds in
    tells_rows g.D.Disk c.args.parts.now.disk c.args.snapshot.now x c.in_ok-kept.kept.now c.in_ok-rows.rows is c.in_ok-rows.ensures.value
