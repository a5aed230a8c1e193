use Rattle.std.proofs.Common.{None, refl, string_bytes}
use Rattle.wire_commands.specs.declared.reply.Reply.{Reply}
use Rattle.store_history.specs.declared.act.Act.TheVariants.{ReadFile}
use Rattle.snapshot_files.specs.Parts.{part_reply}
use Rattle.core_state.specs.Kept.{kept_at}
use Rattle.core_state.proofs.Asking.{uncalled}
use Rattle.core_state.proofs.Commanding.{read_does, read_leaves, reads_none, same_kept, stopped_does}
use Rattle.core_reader.specs.Asked.{as_part}
use Rattle.core_reader.proofs.Called.{called_for}
use Rattle.core_reader.proofs.ReadPart.{filled_answers, part_asked, part_refused, part_unplaced, place_is, place_stops, place_text, read_error_answers, read_given, read_refused, read_refuses}
use Rattle.core_reader.proofs.ReadTold.{part_answers, part_missing, part_unread}
use Rattle.core_reader.proofs.Telling.{part_got, part_plain, part_stop, read_at, read_stops, stops_does, stops_leaves, tells_given, tells_stopped, tells_unread}
use Rattle.core_reader.proofs.reading.read_file.Goals as goal

-- ---- there is no such file

pub returns-in_err-path-clause-does : goal.returns-in_err-path-clause-does
returns-in_err-path-clause-does g c =
    let d = g.D.Disk in
    let old = c.args.parts.now in
    let name = c.args.name.now in
    let k = kept_at old c.args.at.lane in
    let value = c.in_err-path.ensures.value in
    stopped_does d old old c.args.at (ReadFile name c.args.offset) c.path_of.result _ _ c.from_residual.ensures.1 c.in_err-path.was
    (reads_none d old.disk old.disk _ refl c.path_of.ensures.unfailed) (same_kept old)
    (place_stops name k _ _ (place_text name k) value)
    (place_stops name k _ _ (part_refused name c.args.offset k) value)
    (λ s h. place_stops name k _ _ (read_refuses old s c.args.at.lane name c.args.offset h.shows c.requires c.path_of.ensures.name) value)

pub returns-in_err-path-clause-by_disk : goal.returns-in_err-path-clause-by_disk
returns-in_err-path-clause-by_disk g c = part_missing g.D.Disk c.args.parts.now c.args.at c.args.name.now c.args.offset _ _ c.from_residual.ensures.1 c.in_err-path.ensures.value

pub returns-in_err-path-clause-unreadable : goal.returns-in_err-path-clause-unreadable
returns-in_err-path-clause-unreadable g c =
    let old = c.args.parts.now in
    let name = c.args.name.now in
    let k = kept_at old c.args.at.lane in
    tells_unread g.D.Disk old.disk _ _ _ c.from_residual.ensures.1 (place_stops name k _ _ (part_unplaced name c.args.offset k) c.in_err-path.ensures.value)

-- ---- it is refused by what stands there

pub returns-in_err-part-clause-does : goal.returns-in_err-part-clause-does
returns-in_err-part-clause-does g c =
    let d = g.D.Disk in
    let old = c.args.parts.now in
    let name = c.args.name.now in
    let path = string_bytes c.in_ok-path.path in
    let placed = place_is name (kept_at old c.args.at.lane) path c.in_ok-path.ensures.value in
    stops_does d old _ c.args.at (ReadFile name c.args.offset) c.read_part.result _ c.in_err-part.was _ c.from_residual-in_err-part.ensures.1
    c.read_part.ensures.reads (record { catalogue = refl; sessions = refl; locks = refl; indexes = refl }) c.in_err-part.ensures.text (read_error_answers c.as_str.result.now _ c.in_err-part.ensures.kind)
    (λ s h. read_stops part_reply _ _ _ (c.in_err-part.ensures.exact h.honest)
    (λ refusal gives. read_refused d old s c.args.at.lane name path c.as_str.result.now c.args.offset c.requires c.path_of.ensures.name placed c.as_str.ensures.value h refusal gives))

pub returns-in_err-part-clause-leaves : goal.returns-in_err-part-clause-leaves
returns-in_err-part-clause-leaves g c =
    stops_leaves g.D.Disk c.args.parts.now _ c.args.at (ReadFile c.args.name.now c.args.offset) c.read_part.result _ c.in_err-part.was _ c.as_str.result.now c.from_residual-in_err-part.ensures.1
    c.read_part.ensures.reads (record { catalogue = refl; sessions = refl; locks = refl; indexes = refl }) refl c.in_err-part.ensures.kind (λ e. cc)

pub returns-in_err-part-clause-by_disk : goal.returns-in_err-part-clause-by_disk
returns-in_err-part-clause-by_disk g c =
    part_unread g.D.Disk c.args.parts.now c.args.at c.args.name.now c.args.offset (string_bytes c.in_ok-path.path) c.as_str.result.now c.in_ok-path.ensures.value c.as_str.ensures.value _ _
    c.from_residual-in_err-part.ensures.1 c.in_err-part.ensures.exact

pub returns-in_err-part-clause-unreadable : goal.returns-in_err-part-clause-unreadable
returns-in_err-part-clause-unreadable g c =
    let d = g.D.Disk in
    let old = c.args.parts.now in
    let path = string_bytes c.in_ok-path.path in
    tells_stopped d old.disk {A = Reply} (λ part. part) _ (as_part c.args.offset path) c.read_part.result _ c.in_err-part.was _ c.from_residual-in_err-part.ensures.1
    (part_asked c.args.name.now c.args.offset (kept_at old c.args.at.lane) path c.in_ok-path.ensures.value)
    (read_at path c.as_str.result.now _ c.as_str.ensures.value c.in_err-part.ensures.kind)
    (λ h. part_stop (d.content old.disk) path c.as_str.result.now c.args.offset None _ c.as_str.ensures.value refl (c.in_err-part.ensures.exact h))

-- ---- it is given

pub returns-clause-does : goal.returns-clause-does
returns-clause-does g c =
    let d = g.D.Disk in
    let old = c.args.parts.now in
    let name = c.args.name.now in
    let path = string_bytes c.in_ok-path.path in
    let placed = place_is name (kept_at old c.args.at.lane) path c.in_ok-path.ensures.value in
    read_does d old _ c.args.at (ReadFile name c.args.offset) (part_reply c.in_ok-part.part) _ c.read_part.ensures.reads (record { catalogue = refl; sessions = refl; locks = refl; indexes = refl })
    c.in_ok-part.ensures.text (filled_answers c.args.offset c.in_ok-part.part c.in_ok-part.ensures.filled) (part_plain (part_reply c.in_ok-part.part) tt)
    (λ s h. read_given d old s c.args.at.lane name path c.as_str.result.now c.args.offset c.requires c.path_of.ensures.name placed c.as_str.ensures.value h (part_reply c.in_ok-part.part) (c.in_ok-part.ensures.exact h.honest))

pub returns-clause-leaves : goal.returns-clause-leaves
returns-clause-leaves g c =
    read_leaves g.D.Disk c.args.parts.now _ c.args.at (ReadFile c.args.name.now c.args.offset) (part_reply c.in_ok-part.part) _ c.read_part.ensures.reads (record { catalogue = refl; sessions = refl; locks = refl; indexes = refl })
    (record { plain = part_plain (part_reply c.in_ok-part.part) tt; change = refl; listed = refl; goes_on = refl; writes = λ writes. cc }) (λ e. cc)

pub returns-clause-by_disk : goal.returns-clause-by_disk
returns-clause-by_disk g c =
    part_answers g.D.Disk c.args.parts.now c.args.at c.args.name.now c.args.offset (string_bytes c.in_ok-path.path) c.as_str.result.now c.in_ok-path.ensures.value c.as_str.ensures.value
    (part_reply c.in_ok-part.part) c.in_ok-part.ensures.exact

pub returns-clause-unreadable : goal.returns-clause-unreadable
returns-clause-unreadable g c =
    let d = g.D.Disk in
    let old = c.args.parts.now in
    let path = string_bytes c.in_ok-path.path in
    tells_given d old.disk _ (as_part c.args.offset path) (part_reply c.in_ok-part.part)
    (part_asked c.args.name.now c.args.offset (kept_at old c.args.at.lane) path c.in_ok-path.ensures.value) tt
    (λ h. part_got (d.content old.disk) path c.as_str.result.now c.args.offset None (part_reply c.in_ok-part.part) c.as_str.ensures.value refl (c.in_ok-part.ensures.exact h))

-- ---- how often the disk is called

pub returns-in_err-path-clause-calls : goal.returns-in_err-path-clause-calls
returns-in_err-path-clause-calls g c = uncalled g.D.Disk (c.args.parts.now).disk _ _ refl

pub returns-in_err-part-clause-calls : goal.returns-in_err-part-clause-calls
returns-in_err-part-clause-calls g c =
    let old = c.args.parts.now in
    let path = string_bytes c.in_ok-path.path in
    called_for g.D.Disk old.disk _ _ path c.as_str.result.now None None c.args.offset
    (part_asked c.args.name.now c.args.offset (kept_at old c.args.at.lane) path c.in_ok-path.ensures.value) c.as_str.ensures.value refl c.read_part.ensures.calls

pub returns-clause-calls : goal.returns-clause-calls
returns-clause-calls g c =
    let old = c.args.parts.now in
    let path = string_bytes c.in_ok-path.path in
    called_for g.D.Disk old.disk _ _ path c.as_str.result.now None None c.args.offset
    (part_asked c.args.name.now c.args.offset (kept_at old c.args.at.lane) path c.in_ok-path.ensures.value) c.as_str.ensures.value refl c.read_part.ensures.calls
