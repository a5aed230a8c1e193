use Rattle.std.proofs.Common.{◌∙◌, ◌+◌, Vec, ℕ, Ok, refl, sym, ap, length, arith}
use Rattle.std.specs.declared.alloc.Global.{Global}
use Rattle.wire_commands.specs.declared.command.Command.TheVariants.{Range}
use Rattle.store_history.specs.declared.act.Act.TheVariants.{Plain}
use Rattle.core_state.specs.Kept.{kept_at}
use Rattle.core_state.proofs.Commanding.{read_leave_on, read_on, stopped_does, stopped_leaves}
use Rattle.core_state.proofs.Texts.{data_has_text}
use Rattle.core_reader.specs.Ranges.{range_asked}
use Rattle.core_reader.proofs.RangeKept.{notes_stopped, range_fits}
use Rattle.core_reader.proofs.RangeTold.{range_answers, range_damaged, range_given_plainly, range_readable, range_refused_plainly, range_tells, range_undamaged, range_unreadable, range_untold, sound, data_short}
use Rattle.core_reader.proofs.ranges.range.Goals as goal

pub returns-in_err-bytes-clause-does : goal.returns-in_err-bytes-clause-does
returns-in_err-bytes-clause-does g c =
    let d = g.D.Disk in
    let old = c.args.parts.now in
    let asked = range_asked c.args.file.now c.args.offset c.args.length (kept_at old c.args.at.lane) in
    stopped_does d old _ c.args.at (Plain (Range c.args.file.now c.args.offset c.args.length)) c.range_bytes.result _ _ c.from_residual.ensures.1 c.in_err-bytes.was
    c.range_bytes.ensures.reads (record { catalogue = c.range_bytes.ensures.kept.catalogue; sessions = c.range_bytes.ensures.kept.sessions; locks = c.range_bytes.ensures.kept.locks; indexes = c.in_err-bytes.ensures.stays }) c.in_err-bytes.ensures.text
    (range_answers asked c.args.offset (c.args.offset + c.args.length) _ (sound c.args.file.now c.args.offset c.args.length (kept_at old c.args.at.lane)) c.in_err-bytes.ensures.refusal)
    (λ s h. range_refused_plainly d old s c.args.at.lane c.args.at.moment c.args.file.now c.args.offset c.args.length h c.requires (Vec ℕ Global) _ c.in_err-bytes.ensures.refusal c.in_err-bytes.ensures.whole)

pub returns-in_err-bytes-clause-leaves : goal.returns-in_err-bytes-clause-leaves
returns-in_err-bytes-clause-leaves g c =
    stopped_leaves g.D.Disk c.args.parts.now _ c.args.at (Plain (Range c.args.file.now c.args.offset c.args.length)) _ _ _ c.from_residual.ensures.1
    c.range_bytes.ensures.reads (record { catalogue = c.range_bytes.ensures.kept.catalogue; sessions = c.range_bytes.ensures.kept.sessions; locks = c.range_bytes.ensures.kept.locks; indexes = c.in_err-bytes.ensures.stays }) refl c.in_err-bytes.ensures.uncalled (λ e. cc)

pub returns-in_err-bytes-clause-by_disk : goal.returns-in_err-bytes-clause-by_disk
returns-in_err-bytes-clause-by_disk g c =
    range_untold g.D.Disk c.args.parts.now c.args.at c.args.file.now c.args.offset c.args.length {A = Vec ℕ Global} (λ bytes. bytes.items) _ _ c.from_residual.ensures.1 c.in_err-bytes.ensures.exact

pub returns-in_err-bytes-clause-notes : goal.returns-in_err-bytes-clause-notes
returns-in_err-bytes-clause-notes g c =
    notes_stopped g.D.Disk c.args.parts.now _ c.args.at.lane c.args.file.now c.args.offset c.args.length c.requires _ _ c.from_residual.ensures.1 c.in_err-bytes.ensures.stays

pub returns-in_err-bytes-clause-unreadable : goal.returns-in_err-bytes-clause-unreadable
returns-in_err-bytes-clause-unreadable g c =
    let old = c.args.parts.now in
    let asked = range_asked c.args.file.now c.args.offset c.args.length (kept_at old c.args.at.lane) in
    range_unreadable g.D.Disk old.disk {A = Vec ℕ Global} (λ bytes. bytes.items) asked c.args.offset (c.args.offset + c.args.length) _ _ c.from_residual.ensures.1
    (sound c.args.file.now c.args.offset c.args.length (kept_at old c.args.at.lane)) c.in_err-bytes.ensures.refusal c.in_err-bytes.ensures.exact

pub returns-in_err-bytes-clause-damaged : goal.returns-in_err-bytes-clause-damaged
returns-in_err-bytes-clause-damaged g c =
    let old = c.args.parts.now in
    let asked = range_asked c.args.file.now c.args.offset c.args.length (kept_at old c.args.at.lane) in
    range_damaged g.D.Disk old.disk {A = Vec ℕ Global} (λ bytes. bytes.items) asked c.args.offset (c.args.offset + c.args.length) _ _ c.from_residual.ensures.1
    (sound c.args.file.now c.args.offset c.args.length (kept_at old c.args.at.lane)) c.in_err-bytes.ensures.refusal c.in_err-bytes.ensures.exact

pub returns-clause-does : goal.returns-clause-does
returns-clause-does g c =
    let d = g.D.Disk in
    let old = c.args.parts.now in
    let fits = c.in_ok-bytes.ensures.fits in
    read_on d old _ c.args.at (Plain (Range c.args.file.now c.args.offset c.args.length)) _ _ c.range_bytes.ensures.reads c.range_bytes.ensures.kept
    (range_fits d old c.range_bytes.new.parts c.args.at.lane c.args.file.now c.args.offset c.args.length c.requires c.in_ok-bytes.ensures.notes.keeps c.in_ok-bytes.ensures.others)
    (data_has_text c.from_vec.result (data_short c.from_vec.result c.args.length (omega (arith, ap length c.from_vec.ensures, fits.size)) fits.limit)) refl tt
    (λ s h. range_given_plainly d old s c.args.at.lane c.args.at.moment c.args.file.now c.args.offset c.args.length h c.requires _ _ (c.in_ok-bytes.ensures.exact h.honest) c.from_vec.ensures)

pub returns-clause-leaves : goal.returns-clause-leaves
returns-clause-leaves g c =
    read_leave_on g.D.Disk c.args.parts.now _ c.args.at (Plain (Range c.args.file.now c.args.offset c.args.length)) _ _ c.range_bytes.ensures.reads c.range_bytes.ensures.kept c.in_ok-bytes.ensures.others
    (record { plain = tt; change = refl; listed = refl; goes_on = refl; writes = λ writes. cc }) (λ e. cc)

pub returns-clause-by_disk : goal.returns-clause-by_disk
returns-clause-by_disk g c =
    range_tells g.D.Disk c.args.parts.now c.args.at c.args.file.now c.args.offset c.args.length c.from_vec.result (λ h. c.in_ok-bytes.ensures.exact h ∙ ap Ok (sym c.from_vec.ensures))

pub returns-clause-notes : goal.returns-clause-notes
returns-clause-notes g c = record { stays = tt; keeps = c.in_ok-bytes.ensures.notes.keeps }

pub returns-clause-unreadable : goal.returns-clause-unreadable
returns-clause-unreadable g c =
    let old = c.args.parts.now in
    range_readable g.D.Disk old.disk (range_asked c.args.file.now c.args.offset c.args.length (kept_at old c.args.at.lane)) c.args.offset (c.args.offset + c.args.length) c.from_vec.result
    (λ h. c.in_ok-bytes.ensures.exact h ∙ ap Ok (sym c.from_vec.ensures))

pub returns-clause-damaged : goal.returns-clause-damaged
returns-clause-damaged g c =
    let old = c.args.parts.now in
    range_undamaged g.D.Disk old.disk (range_asked c.args.file.now c.args.offset c.args.length (kept_at old c.args.at.lane)) c.args.offset (c.args.offset + c.args.length) c.from_vec.result
    (λ h. c.in_ok-bytes.ensures.exact h ∙ ap Ok (sym c.from_vec.ensures))
