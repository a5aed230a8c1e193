use Rattle.std.proofs.Common.{◌≡◌, ◌≤◌, ◌∙◌, ℕ, List, length, Some, None, Err, Ok, refl, sym, ap, subst, inr, true, false, string_bytes, rules}
use Rattle.store_types.specs.FileNames.{is_index_name}
use Rattle.store_types.specs.declared.names.Digest32.{Digest32}
use Rattle.store_types.specs.declared.refusal.Refusal.TheVariants.{NoFile}
use Rattle.store_stops.specs.declared.stop.Stop.TheVariants.{NoMemory, Refused}
use Rattle.wire_commands.specs.declared.reply.Reply.{Reply}
use Rattle.wire_commands.specs.declared.reply.Reply.TheVariants.{Data}
use Rattle.store_history.specs.declared.act.Act.TheVariants.{ReadChunk}
use Rattle.blob_codec.specs.Blob.{blob_limit}
use Rattle.disk_trait.proofs.OnlyReading.{reads_then}
use Rattle.core_state.specs.Kept.{kept_at}
use Rattle.core_state.specs.Indexed.{row_at}
use Rattle.core_state.proofs.Commanding.{read_leave_on, read_on, reads_none, refused_does, same_kept, stopped_does, stopped_leave_on, stopped_on}
use Rattle.core_state.proofs.Texts.{data_has_text, no_file_has_text}
use Rattle.core_state.proofs.Unreadables.{tells_other}
use Rattle.core_reader.specs.declared.entries.Found.{Found}
use Rattle.core_reader.specs.Asked.{as_entry, asked_entry}
use Rattle.core_reader.specs.Chunks.{GivesBytes, StopsAt}
use Rattle.core_reader.specs.Damages.{asked_damage}
use Rattle.core_reader.specs.NotesEntry.{is_found}
use Rattle.core_state.proofs.DamageLemmas.{damages_none, damages_unread}
use Rattle.core_reader.proofs.Damaging.{damages_found}
use Rattle.core_reader.proofs.Loads.{at_called, at_text}
use Rattle.core_reader.proofs.ReadEntry.{bytes_given, bytes_short, chunk_answers, chunk_refuses, chunk_unnamed, damage_none, damage_told, damage_unread, entry_asked, entry_error_answers, entry_given, entry_got, entry_refused, entry_refused_by, entry_stop, entry_undamaged, entry_unnamed, entry_unplaced, gives_so, none_stops, part_no_damage, place_no_damage, tells_readable, tells_unloaded, unread_undamaged}
use Rattle.core_reader.proofs.ReadPart.{place_is, place_stops, place_text}
use Rattle.core_reader.proofs.ReadTold.{chunk_given, chunk_missing, chunk_stops, chunk_unindexed, entry_unread}
use Rattle.core_reader.proofs.Rowed.{err_at, err_rowed, found_by, notes_kept, notes_none, ok_at, ok_rowed, row_fits, row_found, row_leaves, row_put_back, row_stopped}
use Rattle.core_reader.proofs.Telling.{read_at, read_stops, short_does, short_leaves, stops_does, stops_leaves, tells_stopped, tells_unread}
use Rattle.core_reader.proofs.reading.read_chunk.Goals as goal

-- ---- there is no such file

pub returns-in_err-path-clause-does : goal.returns-in_err-path-clause-does
returns-in_err-path-clause-does g c =
    let d = g.D.Disk in
    let old = c.args.parts.now in
    let name = c.args.name.now in
    let k = kept_at old c.args.at.lane in
    let value = c.in_err-path.ensures.value in
    stopped_does d old old c.args.at (ReadChunk name c.args.entry) c.path_of.result _ _ c.from_residual.ensures.1 c.in_err-path.was
    (reads_none d old.disk old.disk _ refl c.path_of.ensures.unfailed) (same_kept old)
    (place_stops name k _ _ (place_text name k) value)
    (place_stops name k _ _ (entry_refused_by name c.args.entry k) value)
    (λ s h. place_stops name k _ _ (chunk_refuses old s c.args.at.lane name c.args.entry h.shows c.requires) value)

pub returns-in_err-path-clause-by_disk : goal.returns-in_err-path-clause-by_disk
returns-in_err-path-clause-by_disk g c = chunk_missing g.D.Disk c.args.parts.now c.args.at c.args.name.now c.args.entry _ _ c.from_residual.ensures.1 c.in_err-path.ensures.value

pub returns-in_err-path-clause-unreadable : goal.returns-in_err-path-clause-unreadable
returns-in_err-path-clause-unreadable g c =
    let old = c.args.parts.now in
    let name = c.args.name.now in
    let k = kept_at old c.args.at.lane in
    tells_unread g.D.Disk old.disk _ _ _ c.from_residual.ensures.1 (place_stops name k _ _ (entry_unplaced name c.args.entry k) c.in_err-path.ensures.value)

pub returns-in_err-path-clause-damaged : goal.returns-in_err-path-clause-damaged
returns-in_err-path-clause-damaged g c =
    let d = g.D.Disk in
    let old = c.args.parts.now in
    let name = c.args.name.now in
    let k = kept_at old c.args.at.lane in
    damages_unread d old.disk _ _ _ _ c.from_residual.ensures.1
    (place_stops name k _ _ (entry_undamaged name c.args.entry k (d.honest old.disk) (d.content old.disk)) c.in_err-path.ensures.value)

-- ---- the name is no index's

pub returns-then-not-is_index-clause-does : goal.returns-then-not-is_index-clause-does
returns-then-not-is_index-clause-does g c =
    let old = c.args.parts.now in
    let name = c.args.name.now in
    let path = string_bytes c.in_ok-path.path in
    let bad : is_index_name name ≡ false = search rules in
    let placed = place_is name (kept_at old c.args.at.lane) path c.in_ok-path.ensures.value in
    refused_does g.D.Disk old _ c.args.at (ReadChunk name c.args.entry) NoFile _ refl refl (same_kept _) no_file_has_text refl
    (λ s shows. chunk_unnamed old s c.args.at.lane name c.args.entry shows c.requires path placed bad)

pub returns-then-not-is_index-clause-by_disk : goal.returns-then-not-is_index-clause-by_disk
returns-then-not-is_index-clause-by_disk g c =
    let old = c.args.parts.now in
    let path = string_bytes c.in_ok-path.path in
    let bad : is_index_name c.args.name.now ≡ false = search rules in
    chunk_unindexed g.D.Disk old c.args.at c.args.name.now c.args.entry path (place_is c.args.name.now (kept_at old c.args.at.lane) path c.in_ok-path.ensures.value) bad

pub returns-then-not-is_index-clause-unreadable : goal.returns-then-not-is_index-clause-unreadable
returns-then-not-is_index-clause-unreadable g c =
    let old = c.args.parts.now in
    let name = c.args.name.now in
    let path = string_bytes c.in_ok-path.path in
    let k = kept_at old c.args.at.lane in
    let bad : is_index_name name ≡ false = search rules in
    tells_other g.D.Disk old.disk _ _ _ (λ name e. cc)
    (entry_unnamed name c.args.entry k path (place_is name k path c.in_ok-path.ensures.value) bad)

pub returns-then-not-is_index-clause-damaged : goal.returns-then-not-is_index-clause-damaged
returns-then-not-is_index-clause-damaged g c =
    let d = g.D.Disk in
    let old = c.args.parts.now in
    let name = c.args.name.now in
    let path = string_bytes c.in_ok-path.path in
    let k = kept_at old c.args.at.lane in
    let bad : is_index_name name ≡ false = search rules in
    damages_none d old.disk _ _ _ _ (λ digest found e. cc)
    (λ honest. ap (asked_damage (d.content old.disk)) (entry_unnamed name c.args.entry k path (place_is name k path c.in_ok-path.ensures.value) bad))

-- ---- what the lane keeps of indexes where there is no such file

pub returns-in_err-path-clause-notes : goal.returns-in_err-path-clause-notes
returns-in_err-path-clause-notes g c =
    let old = c.args.parts.now in
    let name = c.args.name.now in
    let k = kept_at old c.args.at.lane in
    notes_none g.D.Disk old old c.args.at name c.args.entry c.requires _ _ c.from_residual.ensures.1 (place_stops name k _ _ (place_no_damage name c.args.entry k) c.in_err-path.ensures.value) refl

pub returns-then-not-is_index-clause-notes : goal.returns-then-not-is_index-clause-notes
returns-then-not-is_index-clause-notes g c = notes_none g.D.Disk c.args.parts.now _ c.args.at c.args.name.now c.args.entry c.requires (Refused NoFile) _ refl (λ digest found e. cc) refl

-- ---- the entry is refused by what stands there

pub returns-in_err-found-clause-does : goal.returns-in_err-found-clause-does
returns-in_err-found-clause-does g c =
    let d = g.D.Disk in
    let old = c.args.parts.now in
    let lane = c.args.at.lane in
    let name = c.args.name.now in
    let entry = c.args.entry in
    let path = string_bytes c.in_ok-path.path in
    let placed = place_is name (kept_at old lane) path c.in_ok-path.ensures.value in
    let good : is_index_name name ≡ true = search rules in
    let q = c.as_str.result.now in
    let here = c.as_str.ensures.value in
    let at = c.index-row.result.now in
    let row = row_found old lane c.requires at c.index-row.ensures in
    stops_does d old _ c.args.at (ReadChunk name entry) c.find_entry.result _ c.in_err-found.was _ c.from_residual-in_err-found.ensures.1
    c.find_entry.ensures.reads (record { catalogue = refl; sessions = refl; locks = refl; indexes = refl }) c.in_err-found.ensures.text (entry_error_answers q _ c.in_err-found.ensures.kind)
    (λ s h. read_stops {A = Digest32} (λ digest. digest) _ _ _ (err_rowed (λ (f : Found). f.digest) at (row_at old lane) name entry (d.content old.disk) q c.in_err-found.field-0.0 row (c.in_err-found.ensures.exact.gives h.honest)) (λ refusal gives. entry_refused d old s lane name path entry c.requires placed good h q here refusal gives))

pub returns-in_err-found-clause-leaves : goal.returns-in_err-found-clause-leaves
returns-in_err-found-clause-leaves g c =
    let d = g.D.Disk in
    let old = c.args.parts.now in
    let lane = c.args.at.lane in
    let name = c.args.name.now in
    let entry = c.args.entry in
    stops_leaves d old _ c.args.at (ReadChunk name entry) c.find_entry.result _ c.in_err-found.was _ c.as_str.result.now c.from_residual-in_err-found.ensures.1
    c.find_entry.ensures.reads (record { catalogue = refl; sessions = refl; locks = refl; indexes = refl }) refl c.in_err-found.ensures.kind (λ e. cc)

pub returns-in_err-found-clause-by_disk : goal.returns-in_err-found-clause-by_disk
returns-in_err-found-clause-by_disk g c =
    let d = g.D.Disk in
    let old = c.args.parts.now in
    let lane = c.args.at.lane in
    let name = c.args.name.now in
    let entry = c.args.entry in
    let path = string_bytes c.in_ok-path.path in
    let placed = place_is name (kept_at old lane) path c.in_ok-path.ensures.value in
    let good : is_index_name name ≡ true = search rules in
    let q = c.as_str.result.now in
    let here = c.as_str.ensures.value in
    let at = c.index-row.result.now in
    let row = row_found old lane c.requires at c.index-row.ensures in
    entry_unread d old c.args.at name entry path placed good q here _ _ c.from_residual-in_err-found.ensures.1 (λ honest. (err_rowed (λ (f : Found). f.digest) at (row_at old lane) name entry (d.content old.disk) q c.in_err-found.field-0.0 row (c.in_err-found.ensures.exact.gives honest)))

pub returns-in_err-found-clause-unreadable : goal.returns-in_err-found-clause-unreadable
returns-in_err-found-clause-unreadable g c =
    let d = g.D.Disk in
    let old = c.args.parts.now in
    let lane = c.args.at.lane in
    let name = c.args.name.now in
    let entry = c.args.entry in
    let path = string_bytes c.in_ok-path.path in
    let placed = place_is name (kept_at old lane) path c.in_ok-path.ensures.value in
    let good : is_index_name name ≡ true = search rules in
    let q = c.as_str.result.now in
    let here = c.as_str.ensures.value in
    let at = c.index-row.result.now in
    let row = row_found old lane c.requires at c.index-row.ensures in
    let asked = entry_asked name entry (kept_at old lane) path placed good in
    tells_stopped d old.disk {A = Reply} (λ part. part) _ (as_entry (row_at old lane) name entry path) c.find_entry.result _ c.in_err-found.was _ c.from_residual-in_err-found.ensures.1 asked
    (read_at path q _ here c.in_err-found.ensures.kind)
    (λ h. entry_stop (d.content old.disk) path q (row_at old lane) name entry here _ (err_rowed (λ (f : Found). f.digest) at (row_at old lane) name entry (d.content old.disk) q c.in_err-found.field-0.0 row (c.in_err-found.ensures.exact.gives h)))

pub returns-in_err-found-clause-damaged : goal.returns-in_err-found-clause-damaged
returns-in_err-found-clause-damaged g c =
    let d = g.D.Disk in
    let old = c.args.parts.now in
    let lane = c.args.at.lane in
    let name = c.args.name.now in
    let entry = c.args.entry in
    let path = string_bytes c.in_ok-path.path in
    let placed = place_is name (kept_at old lane) path c.in_ok-path.ensures.value in
    let good : is_index_name name ≡ true = search rules in
    let q = c.as_str.result.now in
    let here = c.as_str.ensures.value in
    let at = c.index-row.result.now in
    let row = row_found old lane c.requires at c.index-row.ensures in
    let asked = entry_asked name entry (kept_at old lane) path placed good in
    damages_unread d old.disk _ _ _ _ c.from_residual-in_err-found.ensures.1
    (unread_undamaged q _ (d.honest old.disk) (asked_damage (d.content old.disk) (asked_entry name entry (kept_at old lane)) ≡ None) _
    c.in_err-found.ensures.kind (λ honest. (err_rowed (λ (f : Found). f.digest) at (row_at old lane) name entry (d.content old.disk) q c.in_err-found.field-0.0 row (c.in_err-found.ensures.exact.gives honest)))
    (λ refusal honest gives. damage_unread (d.content old.disk) path q (row_at old lane) name entry here _ refusal asked gives))

pub returns-in_err-found-clause-notes : goal.returns-in_err-found-clause-notes
returns-in_err-found-clause-notes g c =
    let d = g.D.Disk in
    let old = c.args.parts.now in
    let lane = c.args.at.lane in
    let name = c.args.name.now in
    let entry = c.args.entry in
    notes_none d old _ c.args.at name entry c.requires _ _ c.from_residual-in_err-found.ensures.1 (part_no_damage c.as_str.result.now _ c.in_err-found.ensures.kind) refl

-- ---- memory was wanting for what the lane keeps

pub returns-in_err-keep_found-clause-does : goal.returns-in_err-keep_found-clause-does
returns-in_err-keep_found-clause-does g c =
    let d = g.D.Disk in
    let old = c.args.parts.now in
    let lane = c.args.at.lane in
    let name = c.args.name.now in
    let entry = c.args.entry in
    let mid = row_found old lane c.requires c.index_mut.result.now c.index_mut.ensures.value in
    let same = row_put_back old lane c.requires c.keep_found.new.row (c.in_err-keep_found.ensures.err ∙ mid) in
    short_does d old _ c.args.at (ReadChunk name entry) _ _ c.from_residual-in_err-keep_found.ensures.1 (reads_then d old.disk c.find_entry.new.disk c.read_bytes-read.new.disk _ _ _ c.find_entry.ensures.reads c.read_bytes-read.ensures.reads inr) (record { catalogue = refl; sessions = refl; locks = refl; indexes = same })

pub returns-in_err-keep_found-clause-leaves : goal.returns-in_err-keep_found-clause-leaves
returns-in_err-keep_found-clause-leaves g c =
    let d = g.D.Disk in
    let old = c.args.parts.now in
    let lane = c.args.at.lane in
    let name = c.args.name.now in
    let entry = c.args.entry in
    let mid = row_found old lane c.requires c.index_mut.result.now c.index_mut.ensures.value in
    let same = row_put_back old lane c.requires c.keep_found.new.row (c.in_err-keep_found.ensures.err ∙ mid) in
    short_leaves d old _ c.args.at (ReadChunk name entry) _ _ c.from_residual-in_err-keep_found.ensures.1 (reads_then d old.disk c.find_entry.new.disk c.read_bytes-read.new.disk _ _ _ c.find_entry.ensures.reads c.read_bytes-read.ensures.reads inr) (record { catalogue = refl; sessions = refl; locks = refl; indexes = same }) refl (λ e. cc)

pub returns-in_err-keep_found-clause-by_disk : goal.returns-in_err-keep_found-clause-by_disk
returns-in_err-keep_found-clause-by_disk g c =
    let d = g.D.Disk in
    let old = c.args.parts.now in
    let lane = c.args.at.lane in
    let name = c.args.name.now in
    let entry = c.args.entry in
    chunk_missing d old c.args.at name entry NoMemory _ c.from_residual-in_err-keep_found.ensures.1 tt

pub returns-in_err-keep_found-clause-unreadable : goal.returns-in_err-keep_found-clause-unreadable
returns-in_err-keep_found-clause-unreadable g c =
    let d = g.D.Disk in
    let old = c.args.parts.now in
    let lane = c.args.at.lane in
    let name = c.args.name.now in
    let entry = c.args.entry in
    tells_unread d old.disk _ NoMemory _ c.from_residual-in_err-keep_found.ensures.1 tt

pub returns-in_err-keep_found-clause-damaged : goal.returns-in_err-keep_found-clause-damaged
returns-in_err-keep_found-clause-damaged g c =
    let d = g.D.Disk in
    let old = c.args.parts.now in
    let lane = c.args.at.lane in
    let name = c.args.name.now in
    let entry = c.args.entry in
    damages_unread d old.disk _ _ NoMemory _ c.from_residual-in_err-keep_found.ensures.1 tt

pub returns-in_err-keep_found-clause-notes : goal.returns-in_err-keep_found-clause-notes
returns-in_err-keep_found-clause-notes g c =
    let d = g.D.Disk in
    let old = c.args.parts.now in
    let lane = c.args.at.lane in
    let name = c.args.name.now in
    let entry = c.args.entry in
    let mid = row_found old lane c.requires c.index_mut.result.now c.index_mut.ensures.value in
    let same = row_put_back old lane c.requires c.keep_found.new.row (c.in_err-keep_found.ensures.err ∙ mid) in
    notes_none d old _ c.args.at name entry c.requires NoMemory _ c.from_residual-in_err-keep_found.ensures.1 tt same

-- ---- the chunk is damaged, or was not read

pub returns-in_err-bytes-clause-does : goal.returns-in_err-bytes-clause-does
returns-in_err-bytes-clause-does g c =
    let d = g.D.Disk in
    let old = c.args.parts.now in
    let lane = c.args.at.lane in
    let name = c.args.name.now in
    let entry = c.args.entry in
    let path = string_bytes c.in_ok-path.path in
    let placed = place_is name (kept_at old lane) path c.in_ok-path.ensures.value in
    let good : is_index_name name ≡ true = search rules in
    let q = c.as_str.result.now in
    let here = c.as_str.ensures.value in
    let at = c.index-row.result.now in
    let row = row_found old lane c.requires at c.index-row.ensures in
    let digest = c.in_ok-found.found.digest in
    let mid = c.find_entry.new.disk in
    let stop = c.in_err-bytes.field-0.0 in
    let damage = err_at (StopsAt digest) c.read_bytes-read.result stop c.in_err-bytes.was c.read_bytes-read.ensures.damage in
    stopped_on d old _ c.args.at (ReadChunk name entry) c.read_bytes-read.result _ _ c.from_residual-in_err-bytes.ensures.1 c.in_err-bytes.was (reads_then d old.disk c.find_entry.new.disk c.read_bytes-read.new.disk _ _ _ c.find_entry.ensures.reads c.read_bytes-read.ensures.reads inr) (record { catalogue = refl; sessions = refl; locks = refl })
    (row_fits d old _ c.args.at name entry c.requires path placed good q here at c.index_mut.result.now c.keep_found.new.row c.in_ok-found.found.turn (is_found c.read_bytes-read.result) row (row_found old lane c.requires c.index_mut.result.now c.index_mut.ensures.value)
    c.in_ok-keep_found.ensures.ok refl c.in_ok-found.ensures.turn c.in_ok-found.ensures.exact.reads)
    (at_text digest _ damage) (chunk_answers digest _ damage)
    (λ s h.
    let (p, held, named, is) = entry_given d old s lane name path entry c.requires placed good h q here digest (ok_rowed at (row_at old lane) name entry (d.content old.disk) q digest row (c.in_ok-found.ensures.exact.gives h.honest)) in
    none_stops (d.content old.disk) (d.content mid) p digest _ _ (c.find_entry.ensures.reads.same h.honest) held named (subst (GivesBytes (d.content mid) digest) c.in_err-bytes.was (c.read_bytes-read.ensures.value (c.find_entry.ensures.reads.serves.kept.0 h.honest))))

pub returns-in_err-bytes-clause-leaves : goal.returns-in_err-bytes-clause-leaves
returns-in_err-bytes-clause-leaves g c =
    let d = g.D.Disk in
    let old = c.args.parts.now in
    let lane = c.args.at.lane in
    let name = c.args.name.now in
    let entry = c.args.entry in
    let path = string_bytes c.in_ok-path.path in
    let placed = place_is name (kept_at old lane) path c.in_ok-path.ensures.value in
    let good : is_index_name name ≡ true = search rules in
    let q = c.as_str.result.now in
    let here = c.as_str.ensures.value in
    let at = c.index-row.result.now in
    let row = row_found old lane c.requires at c.index-row.ensures in
    let digest = c.in_ok-found.found.digest in
    let stop = c.in_err-bytes.field-0.0 in
    let damage = err_at (StopsAt digest) c.read_bytes-read.result stop c.in_err-bytes.was c.read_bytes-read.ensures.damage in
    stopped_leave_on d old _ c.args.at (ReadChunk name entry) stop _ _ c.from_residual-in_err-bytes.ensures.1 (reads_then d old.disk c.find_entry.new.disk c.read_bytes-read.new.disk _ _ _ c.find_entry.ensures.reads c.read_bytes-read.ensures.reads inr) (record { catalogue = refl; sessions = refl; locks = refl })
    (row_stopped d old _ c.args.at name entry c.requires path placed good q here at c.index_mut.result.now c.keep_found.new.row c.in_ok-found.found.turn (is_found c.read_bytes-read.result) row (row_found old lane c.requires c.index_mut.result.now c.index_mut.ensures.value)
    c.in_ok-keep_found.ensures.ok refl c.in_ok-found.ensures.turn c.in_ok-found.ensures.exact.reads stop (found_by stop c.read_bytes-read.result (Err stop) c.in_err-bytes.was refl)) refl
    (at_called digest _ _ damage) (λ e. cc)

pub returns-in_err-bytes-clause-by_disk : goal.returns-in_err-bytes-clause-by_disk
returns-in_err-bytes-clause-by_disk g c = λ honest.
    let d = g.D.Disk in
    let old = c.args.parts.now in
    let lane = c.args.at.lane in
    let name = c.args.name.now in
    let entry = c.args.entry in
    let path = string_bytes c.in_ok-path.path in
    let placed = place_is name (kept_at old lane) path c.in_ok-path.ensures.value in
    let good : is_index_name name ≡ true = search rules in
    let q = c.as_str.result.now in
    let here = c.as_str.ensures.value in
    let at = c.index-row.result.now in
    let row = row_found old lane c.requires at c.index-row.ensures in
    let digest = c.in_ok-found.found.digest in
    let mid = c.find_entry.new.disk in
    chunk_stops d old c.args.at name entry path placed good q here digest (d.content mid) (ok_rowed at (row_at old lane) name entry (d.content old.disk) q digest row (c.in_ok-found.ensures.exact.gives honest)) (c.find_entry.ensures.reads.same honest) _ _
    c.from_residual-in_err-bytes.ensures.1 (subst (GivesBytes (d.content mid) digest) c.in_err-bytes.was (c.read_bytes-read.ensures.value (c.find_entry.ensures.reads.serves.kept.0 honest)))

pub returns-in_err-bytes-clause-unreadable : goal.returns-in_err-bytes-clause-unreadable
returns-in_err-bytes-clause-unreadable g c =
    let d = g.D.Disk in
    let old = c.args.parts.now in
    let lane = c.args.at.lane in
    let name = c.args.name.now in
    let entry = c.args.entry in
    let path = string_bytes c.in_ok-path.path in
    let placed = place_is name (kept_at old lane) path c.in_ok-path.ensures.value in
    let good : is_index_name name ≡ true = search rules in
    let q = c.as_str.result.now in
    let here = c.as_str.ensures.value in
    let at = c.index-row.result.now in
    let row = row_found old lane c.requires at c.index-row.ensures in
    let asked = entry_asked name entry (kept_at old lane) path placed good in
    let digest = c.in_ok-found.found.digest in
    let stop = c.in_err-bytes.field-0.0 in
    let damage = err_at (StopsAt digest) c.read_bytes-read.result stop c.in_err-bytes.was c.read_bytes-read.ensures.damage in
    tells_unloaded d old.disk _ (as_entry (row_at old lane) name entry path) asked digest _ _ c.from_residual-in_err-bytes.ensures.1 damage
    (λ h. entry_got (d.content old.disk) path q (row_at old lane) name entry here digest (ok_rowed at (row_at old lane) name entry (d.content old.disk) q digest row (c.in_ok-found.ensures.exact.gives h)))

pub returns-in_err-bytes-clause-damaged : goal.returns-in_err-bytes-clause-damaged
returns-in_err-bytes-clause-damaged g c =
    let d = g.D.Disk in
    let old = c.args.parts.now in
    let lane = c.args.at.lane in
    let name = c.args.name.now in
    let entry = c.args.entry in
    let path = string_bytes c.in_ok-path.path in
    let placed = place_is name (kept_at old lane) path c.in_ok-path.ensures.value in
    let good : is_index_name name ≡ true = search rules in
    let q = c.as_str.result.now in
    let here = c.as_str.ensures.value in
    let at = c.index-row.result.now in
    let row = row_found old lane c.requires at c.index-row.ensures in
    let asked = entry_asked name entry (kept_at old lane) path placed good in
    let digest = c.in_ok-found.found.digest in
    let mid = c.find_entry.new.disk in
    let stop = c.in_err-bytes.field-0.0 in
    let damage = err_at (StopsAt digest) c.read_bytes-read.result stop c.in_err-bytes.was c.read_bytes-read.ensures.damage in
    damages_found d old.disk _ _ digest _ _ c.from_residual-in_err-bytes.ensures.1 damage tt
    (λ honest fault is. damage_told (d.content old.disk) path q (row_at old lane) name entry here _ digest fault (d.content mid) asked (ok_rowed at (row_at old lane) name entry (d.content old.disk) q digest row (c.in_ok-found.ensures.exact.gives honest)) (c.find_entry.ensures.reads.same honest)
    (gives_so digest fault _ _ is (subst (GivesBytes (d.content mid) digest) c.in_err-bytes.was (c.read_bytes-read.ensures.value (c.find_entry.ensures.reads.serves.kept.0 honest)))))

pub returns-in_err-bytes-clause-notes : goal.returns-in_err-bytes-clause-notes
returns-in_err-bytes-clause-notes g c =
    let d = g.D.Disk in
    let old = c.args.parts.now in
    let lane = c.args.at.lane in
    let name = c.args.name.now in
    let entry = c.args.entry in
    let path = string_bytes c.in_ok-path.path in
    let placed = place_is name (kept_at old lane) path c.in_ok-path.ensures.value in
    let good : is_index_name name ≡ true = search rules in
    let q = c.as_str.result.now in
    let here = c.as_str.ensures.value in
    let at = c.index-row.result.now in
    let row = row_found old lane c.requires at c.index-row.ensures in
    notes_kept d old _ c.args.at name entry c.requires path placed good q here at c.index_mut.result.now c.keep_found.new.row c.in_ok-found.found.turn (is_found c.read_bytes-read.result) row (row_found old lane c.requires c.index_mut.result.now c.index_mut.ensures.value)
    c.in_ok-keep_found.ensures.ok refl c.in_ok-found.ensures.turn c.in_ok-found.ensures.exact.reads _ refl _
    (found_by _ c.read_bytes-read.result _ c.in_err-bytes.was c.from_residual-in_err-bytes.ensures.1)

-- ---- it is given

pub returns-clause-does : goal.returns-clause-does
returns-clause-does g c =
    let d = g.D.Disk in
    let old = c.args.parts.now in
    let lane = c.args.at.lane in
    let name = c.args.name.now in
    let entry = c.args.entry in
    let path = string_bytes c.in_ok-path.path in
    let placed = place_is name (kept_at old lane) path c.in_ok-path.ensures.value in
    let good : is_index_name name ≡ true = search rules in
    let q = c.as_str.result.now in
    let here = c.as_str.ensures.value in
    let at = c.index-row.result.now in
    let row = row_found old lane c.requires at c.index-row.ensures in
    let digest = c.in_ok-found.found.digest in
    let mid = c.find_entry.new.disk in
    let bytes = c.in_ok-bytes.bytes in
    read_on d old _ c.args.at (ReadChunk name entry) (Data bytes) _ (reads_then d old.disk c.find_entry.new.disk c.read_bytes-read.new.disk _ _ ⊥ c.find_entry.ensures.reads c.read_bytes-read.ensures.reads (λ never. absurd never)) (record { catalogue = refl; sessions = refl; locks = refl })
    (row_fits d old _ c.args.at name entry c.requires path placed good q here at c.index_mut.result.now c.keep_found.new.row c.in_ok-found.found.turn (is_found c.read_bytes-read.result) row (row_found old lane c.requires c.index_mut.result.now c.index_mut.ensures.value)
    c.in_ok-keep_found.ensures.ok refl c.in_ok-found.ensures.turn c.in_ok-found.ensures.exact.reads)
    (data_has_text bytes (bytes_short bytes (ok_at (λ (bs : List ℕ). length bs ≤ blob_limit) c.read_bytes-read.result bytes c.in_ok-bytes.was c.read_bytes-read.ensures.size))) refl tt
    (λ s h.
    let (p, held, named, is) = entry_given d old s lane name path entry c.requires placed good h q here digest (ok_rowed at (row_at old lane) name entry (d.content old.disk) q digest row (c.in_ok-found.ensures.exact.gives h.honest)) in
    bytes_given s lane name entry (d.content old.disk) (d.content mid) p bytes digest (c.find_entry.ensures.reads.same h.honest) held named (subst (GivesBytes (d.content mid) digest) c.in_ok-bytes.was (c.read_bytes-read.ensures.value (c.find_entry.ensures.reads.serves.kept.0 h.honest))) is)

pub returns-clause-leaves : goal.returns-clause-leaves
returns-clause-leaves g c =
    let d = g.D.Disk in
    let old = c.args.parts.now in
    let lane = c.args.at.lane in
    let name = c.args.name.now in
    let entry = c.args.entry in
    let path = string_bytes c.in_ok-path.path in
    let placed = place_is name (kept_at old lane) path c.in_ok-path.ensures.value in
    let good : is_index_name name ≡ true = search rules in
    let q = c.as_str.result.now in
    let here = c.as_str.ensures.value in
    let at = c.index-row.result.now in
    let row = row_found old lane c.requires at c.index-row.ensures in
    read_leave_on d old _ c.args.at (ReadChunk name entry) (Data c.in_ok-bytes.bytes) _ (reads_then d old.disk c.find_entry.new.disk c.read_bytes-read.new.disk _ _ ⊥ c.find_entry.ensures.reads c.read_bytes-read.ensures.reads (λ never. absurd never)) (record { catalogue = refl; sessions = refl; locks = refl })
    (row_leaves d old _ c.args.at name entry c.requires path placed good q here at c.index_mut.result.now c.keep_found.new.row c.in_ok-found.found.turn (is_found c.read_bytes-read.result) row (row_found old lane c.requires c.index_mut.result.now c.index_mut.ensures.value)
    c.in_ok-keep_found.ensures.ok refl c.in_ok-found.ensures.turn c.in_ok-found.ensures.exact.reads)
    (record { plain = tt; change = refl; listed = refl; goes_on = refl; writes = λ writes. cc }) (λ e. cc)

pub returns-clause-by_disk : goal.returns-clause-by_disk
returns-clause-by_disk g c = λ honest.
    let d = g.D.Disk in
    let old = c.args.parts.now in
    let lane = c.args.at.lane in
    let name = c.args.name.now in
    let entry = c.args.entry in
    let path = string_bytes c.in_ok-path.path in
    let placed = place_is name (kept_at old lane) path c.in_ok-path.ensures.value in
    let good : is_index_name name ≡ true = search rules in
    let q = c.as_str.result.now in
    let here = c.as_str.ensures.value in
    let at = c.index-row.result.now in
    let row = row_found old lane c.requires at c.index-row.ensures in
    let digest = c.in_ok-found.found.digest in
    let mid = c.find_entry.new.disk in
    chunk_given d old c.args.at name entry path placed good q here digest (d.content mid) (ok_rowed at (row_at old lane) name entry (d.content old.disk) q digest row (c.in_ok-found.ensures.exact.gives honest)) (c.find_entry.ensures.reads.same honest)
    c.in_ok-bytes.bytes (subst (GivesBytes (d.content mid) digest) c.in_ok-bytes.was (c.read_bytes-read.ensures.value (c.find_entry.ensures.reads.serves.kept.0 honest)))

pub returns-clause-unreadable : goal.returns-clause-unreadable
returns-clause-unreadable g c =
    let d = g.D.Disk in
    let old = c.args.parts.now in
    let lane = c.args.at.lane in
    let name = c.args.name.now in
    let entry = c.args.entry in
    let path = string_bytes c.in_ok-path.path in
    let placed = place_is name (kept_at old lane) path c.in_ok-path.ensures.value in
    let good : is_index_name name ≡ true = search rules in
    let q = c.as_str.result.now in
    let here = c.as_str.ensures.value in
    let at = c.index-row.result.now in
    let row = row_found old lane c.requires at c.index-row.ensures in
    let asked = entry_asked name entry (kept_at old lane) path placed good in
    let digest = c.in_ok-found.found.digest in
    tells_readable d old.disk _ (as_entry (row_at old lane) name entry path) asked 0 (Some (Data c.in_ok-bytes.bytes)) (λ n e. cc)
    (λ h. entry_got (d.content old.disk) path q (row_at old lane) name entry here digest (ok_rowed at (row_at old lane) name entry (d.content old.disk) q digest row (c.in_ok-found.ensures.exact.gives h)))

pub returns-clause-damaged : goal.returns-clause-damaged
returns-clause-damaged g c =
    let d = g.D.Disk in
    let old = c.args.parts.now in
    let lane = c.args.at.lane in
    let name = c.args.name.now in
    let entry = c.args.entry in
    let path = string_bytes c.in_ok-path.path in
    let placed = place_is name (kept_at old lane) path c.in_ok-path.ensures.value in
    let good : is_index_name name ≡ true = search rules in
    let q = c.as_str.result.now in
    let here = c.as_str.ensures.value in
    let at = c.index-row.result.now in
    let row = row_found old lane c.requires at c.index-row.ensures in
    let asked = entry_asked name entry (kept_at old lane) path placed good in
    let digest = c.in_ok-found.found.digest in
    let mid = c.find_entry.new.disk in
    damages_none d old.disk _ _ 0 (Some (Data c.in_ok-bytes.bytes)) (λ d f e. cc)
    (λ honest. damage_none (d.content old.disk) path q (row_at old lane) name entry here _ digest c.in_ok-bytes.bytes (d.content mid) asked (ok_rowed at (row_at old lane) name entry (d.content old.disk) q digest row (c.in_ok-found.ensures.exact.gives honest)) (c.find_entry.ensures.reads.same honest)
    (subst (GivesBytes (d.content mid) digest) c.in_ok-bytes.was (c.read_bytes-read.ensures.value (c.find_entry.ensures.reads.serves.kept.0 honest))))

pub returns-clause-notes : goal.returns-clause-notes
returns-clause-notes g c =
    let d = g.D.Disk in
    let old = c.args.parts.now in
    let lane = c.args.at.lane in
    let name = c.args.name.now in
    let entry = c.args.entry in
    let path = string_bytes c.in_ok-path.path in
    let placed = place_is name (kept_at old lane) path c.in_ok-path.ensures.value in
    let good : is_index_name name ≡ true = search rules in
    let q = c.as_str.result.now in
    let here = c.as_str.ensures.value in
    let at = c.index-row.result.now in
    let row = row_found old lane c.requires at c.index-row.ensures in
    notes_kept d old _ c.args.at name entry c.requires path placed good q here at c.index_mut.result.now c.keep_found.new.row c.in_ok-found.found.turn (is_found c.read_bytes-read.result) row (row_found old lane c.requires c.index_mut.result.now c.index_mut.ensures.value)
    c.in_ok-keep_found.ensures.ok refl c.in_ok-found.ensures.turn c.in_ok-found.ensures.exact.reads _ refl (Ok (Data c.in_ok-bytes.bytes)) (ap is_found (sym c.in_ok-bytes.was))
