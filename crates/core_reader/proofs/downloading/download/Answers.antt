use Rattle.std.proofs.Common.{◌≡◌, ◌∙◌, ap, ap₂, get_or-set_same, refl, subst, Some, None, Ok, List, Result, string_bytes, length, arith, ◌<◌, rules}
use Rattle.std.specs.Result.{result_ok}
use Rattle.store_types.specs.declared.refusal.Refusal.{Refusal}
use Rattle.wire_commands.specs.declared.command.Command.TheVariants.{Download}
use Rattle.wire_commands.specs.declared.reply.Reply.{Reply}
use Rattle.store_history.specs.declared.act.Act.TheVariants.{Plain}
use Rattle.store_files.specs.DynamicIndex.{Ended}
use Rattle.restore_reader.specs.Kept.{IsTable}
use Rattle.snapshot_files.specs.Indexes.{Indexed}
use Rattle.snapshot_files.specs.Parts.{part_reply}
use Rattle.core_reader.specs.declared.downloading.Given.{Given}
use Rattle.core_reader.specs.Asked.{IsGiven, noting}
use Rattle.core_reader.specs.NotesIndex.{part_of}
use Rattle.core_state.specs.Kept.{kept_at}
use Rattle.core_state.specs.Named.{is_named}
use Rattle.core_state.specs.declared.kept.Session.TheVariants.{Idle}
use Rattle.std.proofs.lemmas.List.{get_or_default}
use Rattle.core_state.specs.Unreadables.{Asked, from_offset}
use Rattle.core_state.proofs.Asking.{uncalled}
use Rattle.core_state.proofs.Commanding.{read_does, read_leaves, reads_none, same_kept, stopped_does, writes_does}
use Rattle.core_state.proofs.NamedLemmas.{list_all-set, list_all-at}
use Rattle.core_reader.proofs.Called.{called_for}
use Rattle.core_reader.proofs.Downloads.{asked_index_given, asked_index_refused, asked_part_given, asked_part_refused, file_answers, file_is, file_refuses, file_stops, file_text_of, file_untold, sessions_stay}
use Rattle.core_reader.proofs.Noted.{named_after}
use Rattle.core_reader.proofs.NotedIndex.{notes_none, notes_part, notes_whole}
use Rattle.core_reader.proofs.Telling.{index_got, index_stop, noted_leaves, part_answers, part_got, part_plain, part_stop, read_answers, read_at, read_stops, short_does, short_leaves, stops_does, stops_leaves, table_stops, tells_given, tells_stopped, tells_unread}
use Rattle.core_reader.proofs.downloading.download.Goals as goal

abbrev given_as : Given → List Ended → Indexed
given_as g entries = record { part = part_reply g.part; entries = entries }

-- ---- the act

pub returns-in_err-asked-clause-does : goal.returns-in_err-asked-clause-does
returns-in_err-asked-clause-does g c =
    let d = g.D.Disk in
    let old = c.args.parts.now in
    let file = c.args.file.now in
    let offset = c.args.offset in
    let k = kept_at old c.args.at.lane in
    let value = c.in_err-asked.ensures.value offset in
    stopped_does d old old c.args.at (Plain (Download file offset)) c.asked_file.result _ _ c.from_residual.ensures.1 c.in_err-asked.was
    (reads_none d old.disk old.disk _ refl c.asked_file.ensures.unfailed) (same_kept old)
    (file_stops file offset k _ _ (file_text_of file offset k) value)
    (file_stops file offset k _ _ (file_answers file offset k) value)
    (λ s h. file_stops file offset k _ _ (file_refuses old s c.args.at.lane c.args.at.moment file offset h.shows c.requires) value)

pub returns-in_err-asked-clause-unreadable : goal.returns-in_err-asked-clause-unreadable
returns-in_err-asked-clause-unreadable g c =
    let old = c.args.parts.now in
    let file = c.args.file.now in
    let offset = c.args.offset in
    let k = kept_at old c.args.at.lane in
    tells_unread g.D.Disk old.disk _ _ _ c.from_residual.ensures.1
    (file_stops file offset k _ _ (file_untold file offset k) (c.in_err-asked.ensures.value offset))

-- ---- a part

pub returns-in_err-part-clause-does : goal.returns-in_err-part-clause-does
returns-in_err-part-clause-does g c =
    let d = g.D.Disk in
    let old = c.args.parts.now in
    let a = c.in_ok-asked.asked in
    let path : c.as_str.result.now ≡ string_bytes a.path = c.as_str.ensures.value in
    let asked = file_is c.args.file.now c.args.offset (kept_at old c.args.at.lane) (string_bytes a.path) a.whole (c.in_ok-asked.ensures.value c.args.offset) in
    stops_does d old _ c.args.at (Plain (Download c.args.file.now c.args.offset)) c.read_part.result _ c.in_err-part.was _ c.from_residual-in_err-part.ensures.1
    c.read_part.ensures.reads (record { catalogue = refl; sessions = refl; locks = refl; indexes = refl }) c.in_err-part.ensures.text (read_answers c.as_str.result.now _ c.in_err-part.ensures.kind)
    (λ s h. read_stops part_reply _ _ _ (c.in_err-part.ensures.exact h.honest)
    (λ r gives. asked_part_refused d old s c.args.at.lane c.args.at.moment c.args.file.now (string_bytes a.path) c.args.offset a.whole c.requires asked h c.as_str.result.now r path gives))

pub returns-in_err-part-clause-leaves : goal.returns-in_err-part-clause-leaves
returns-in_err-part-clause-leaves g c =
    stops_leaves g.D.Disk c.args.parts.now _ c.args.at (Plain (Download c.args.file.now c.args.offset)) c.read_part.result _ c.in_err-part.was _ c.as_str.result.now c.from_residual-in_err-part.ensures.1
    c.read_part.ensures.reads (record { catalogue = refl; sessions = refl; locks = refl; indexes = refl }) refl c.in_err-part.ensures.kind (λ e. cc)

pub returns-in_err-part-clause-unreadable : goal.returns-in_err-part-clause-unreadable
returns-in_err-part-clause-unreadable g c =
    let old = c.args.parts.now in
    let a = c.in_ok-asked.asked in
    let path : c.as_str.result.now ≡ string_bytes a.path = c.as_str.ensures.value in
    let none : a.whole ≡ None = search rules in
    let it : Asked = record { path = string_bytes a.path; way = from_offset a.whole c.args.offset } in
    tells_stopped g.D.Disk old.disk {A = Reply} (λ part. part) _ it c.read_part.result _ c.in_err-part.was _ c.from_residual-in_err-part.ensures.1 (ap (λ (x : Result Asked Refusal). result_ok x) (c.in_ok-asked.ensures.value c.args.offset))
    (read_at (string_bytes a.path) c.as_str.result.now _ path c.in_err-part.ensures.kind)
    (λ h. part_stop (g.D.Disk.content old.disk) (string_bytes a.path) c.as_str.result.now c.args.offset a.whole _ path none (c.in_err-part.ensures.exact h))

pub returns-in_default-clause-does : goal.returns-in_default-clause-does
returns-in_default-clause-does g c =
    let d = g.D.Disk in
    let old = c.args.parts.now in
    let a = c.in_ok-asked.asked in
    let path : c.as_str.result.now ≡ string_bytes a.path = c.as_str.ensures.value in
    let none : a.whole ≡ None = search rules in
    let asked = file_is c.args.file.now c.args.offset (kept_at old c.args.at.lane) (string_bytes a.path) a.whole (c.in_ok-asked.ensures.value c.args.offset) in
    read_does d old _ c.args.at (Plain (Download c.args.file.now c.args.offset)) (part_reply c.in_ok-part.part) _ c.read_part.ensures.reads (record { catalogue = refl; sessions = refl; locks = refl; indexes = refl })
    c.in_ok-part.ensures.text (part_answers (part_reply c.in_ok-part.part) tt) (part_plain (part_reply c.in_ok-part.part) tt)
    (λ s h. asked_part_given d old s c.args.at.lane c.args.at.moment c.args.file.now (string_bytes a.path) c.args.offset a.whole c.requires asked h c.as_str.result.now (part_reply c.in_ok-part.part) path none (c.in_ok-part.ensures.exact h.honest))

pub returns-in_default-clause-leaves : goal.returns-in_default-clause-leaves
returns-in_default-clause-leaves g c =
    read_leaves g.D.Disk c.args.parts.now _ c.args.at (Plain (Download c.args.file.now c.args.offset)) (part_reply c.in_ok-part.part) _ c.read_part.ensures.reads (record { catalogue = refl; sessions = refl; locks = refl; indexes = refl })
    (record { plain = part_plain (part_reply c.in_ok-part.part) tt; change = refl; listed = refl; goes_on = refl; writes = λ writes. cc }) (λ e. cc)

pub returns-in_default-clause-unreadable : goal.returns-in_default-clause-unreadable
returns-in_default-clause-unreadable g c =
    let old = c.args.parts.now in
    let a = c.in_ok-asked.asked in
    let path : c.as_str.result.now ≡ string_bytes a.path = c.as_str.ensures.value in
    let none : a.whole ≡ None = search rules in
    let it : Asked = record { path = string_bytes a.path; way = from_offset a.whole c.args.offset } in
    tells_given g.D.Disk old.disk _ it (part_reply c.in_ok-part.part) (ap (λ (x : Result Asked Refusal). result_ok x) (c.in_ok-asked.ensures.value c.args.offset)) tt
    (λ h. part_got (g.D.Disk.content old.disk) (string_bytes a.path) c.as_str.result.now c.args.offset a.whole (part_reply c.in_ok-part.part) path none (c.in_ok-part.ensures.exact h))

-- ---- an index

pub returns-in_err-index-clause-does : goal.returns-in_err-index-clause-does
returns-in_err-index-clause-does g c =
    let d = g.D.Disk in
    let old = c.args.parts.now in
    let a = c.in_ok-asked.asked in
    let path : c.as_str-2.result.now ≡ string_bytes a.path = c.as_str-2.ensures.value in
    let some : a.whole ≡ Some c.in-Some.kind = search rules in
    let asked = file_is c.args.file.now c.args.offset (kept_at old c.args.at.lane) (string_bytes a.path) a.whole (c.in_ok-asked.ensures.value c.args.offset) in
    stops_does d old _ c.args.at (Plain (Download c.args.file.now c.args.offset)) c.read_table.result _ c.in_err-index.was _ c.from_residual-in_err-index.ensures.1
    c.read_table.ensures.reads (record { catalogue = refl; sessions = refl; locks = refl; indexes = refl }) c.in_err-index.ensures.text (read_answers c.as_str-2.result.now _ c.in_err-index.ensures.kind)
    (λ s h. table_stops (d.content old.disk) c.as_str-2.result.now c.in-Some.kind c.args.offset _ _ (c.in_err-index.ensures.exact h.honest)
    (λ r gives. asked_index_refused d old s c.args.at.lane c.args.at.moment c.args.file.now (string_bytes a.path) c.args.offset a.whole c.requires asked h c.as_str-2.result.now c.in-Some.kind r path some gives))

pub returns-in_err-index-clause-leaves : goal.returns-in_err-index-clause-leaves
returns-in_err-index-clause-leaves g c =
    stops_leaves g.D.Disk c.args.parts.now _ c.args.at (Plain (Download c.args.file.now c.args.offset)) c.read_table.result _ c.in_err-index.was _ c.as_str-2.result.now c.from_residual-in_err-index.ensures.1
    c.read_table.ensures.reads (record { catalogue = refl; sessions = refl; locks = refl; indexes = refl }) refl c.in_err-index.ensures.kind (λ e. cc)

pub returns-in_err-index-clause-unreadable : goal.returns-in_err-index-clause-unreadable
returns-in_err-index-clause-unreadable g c =
    let old = c.args.parts.now in
    let a = c.in_ok-asked.asked in
    let path : c.as_str-2.result.now ≡ string_bytes a.path = c.as_str-2.ensures.value in
    let some : a.whole ≡ Some c.in-Some.kind = search rules in
    let it : Asked = record { path = string_bytes a.path; way = from_offset a.whole c.args.offset } in
    tells_stopped g.D.Disk old.disk {A = Reply} (λ part. part) _ it c.read_table.result _ c.in_err-index.was _ c.from_residual-in_err-index.ensures.1 (ap (λ (x : Result Asked Refusal). result_ok x) (c.in_ok-asked.ensures.value c.args.offset))
    (read_at (string_bytes a.path) c.as_str-2.result.now _ path c.in_err-index.ensures.kind)
    (λ h. index_stop (g.D.Disk.content old.disk) (string_bytes a.path) c.as_str-2.result.now c.args.offset c.in-Some.kind a.whole _ path some (c.in_err-index.ensures.exact h))

-- ---- memory is wanting for the note

pub returns-in_err-note-clause-does : goal.returns-in_err-note-clause-does
returns-in_err-note-clause-does g c =
    short_does g.D.Disk c.args.parts.now _ c.args.at (Plain (Download c.args.file.now c.args.offset)) _ _ c.from_residual-in_err-note.ensures.1 c.read_table.ensures.reads
    (record { catalogue = refl; sessions = sessions_stay _ _ _ _ c.in_err-note.ensures.err c.index_mut.ensures.value; locks = refl; indexes = refl })

pub returns-in_err-note-clause-leaves : goal.returns-in_err-note-clause-leaves
returns-in_err-note-clause-leaves g c =
    short_leaves g.D.Disk c.args.parts.now _ c.args.at (Plain (Download c.args.file.now c.args.offset)) _ _ c.from_residual-in_err-note.ensures.1 c.read_table.ensures.reads
    (record { catalogue = refl; sessions = sessions_stay _ _ _ _ c.in_err-note.ensures.err c.index_mut.ensures.value; locks = refl; indexes = refl }) refl (λ e. cc)

pub returns-in_err-note-clause-unreadable : goal.returns-in_err-note-clause-unreadable
returns-in_err-note-clause-unreadable g c = tells_unread g.D.Disk (c.args.parts.now).disk _ _ _ c.from_residual-in_err-note.ensures.1 tt

-- ---- it is noted

pub returns-clause-does : goal.returns-clause-does
returns-clause-does g c =
    let d = g.D.Disk in
    let old = c.args.parts.now in
    let a = c.in_ok-asked.asked in
    let index = c.in_ok-index.index in
    let path : c.as_str-2.result.now ≡ string_bytes a.path = c.as_str-2.ensures.value in
    let some : a.whole ≡ Some c.in-Some.kind = search rules in
    let asked = file_is c.args.file.now c.args.offset (kept_at old c.args.at.lane) (string_bytes a.path) a.whole (c.in_ok-asked.ensures.value c.args.offset) in
    writes_does d old _ c.args.at (Plain (Download c.args.file.now c.args.offset)) (part_reply index.part) _ c.read_table.ensures.reads.serves
    c.in_ok-index.ensures.text (part_answers (part_reply index.part) tt) (part_plain (part_reply index.part) tt)
    (λ safe s h.
    let x = c.in_ok-index.ensures.exact h.honest in
    asked_index_given d old s c.args.at.lane c.args.at.moment c.args.file.now (string_bytes a.path) c.args.offset a.whole c.requires asked h _ (given_as index x.entries) c.in-Some.kind c.as_str-2.result.now a.name index.pages
    c.index_mut.result.now c.note.new.session path c.in_ok-asked.ensures.name some x.read x.opened c.index_mut.ensures.value
    (λ snapshots r b shows there ends pages. c.in_ok-note.ensures.plain snapshots r b shows there (record { entries = subst (IsTable index.table 0) ends x.table; pages = pages }))
    c.read_table.ensures.reads.same refl refl refl refl)

pub returns-clause-leaves : goal.returns-clause-leaves
returns-clause-leaves g c =
    noted_leaves g.D.Disk c.args.parts.now _ c.args.at c.args.file.now c.args.offset (part_reply c.in_ok-index.index.part) _ (part_plain (part_reply c.in_ok-index.index.part) tt) c.read_table.ensures.reads refl _ refl refl

pub returns-clause-unreadable : goal.returns-clause-unreadable
returns-clause-unreadable g c =
    let old = c.args.parts.now in
    let a = c.in_ok-asked.asked in
    let index = c.in_ok-index.index in
    let path : c.as_str-2.result.now ≡ string_bytes a.path = c.as_str-2.ensures.value in
    let some : a.whole ≡ Some c.in-Some.kind = search rules in
    let it : Asked = record { path = string_bytes a.path; way = from_offset a.whole c.args.offset } in
    tells_given g.D.Disk old.disk _ it (part_reply index.part) (ap (λ (x : Result Asked Refusal). result_ok x) (c.in_ok-asked.ensures.value c.args.offset)) tt
    (λ h.
    let x = c.in_ok-index.ensures.exact h in
    index_got (g.D.Disk.content old.disk) (string_bytes a.path) c.as_str-2.result.now c.args.offset c.in-Some.kind a.whole (given_as index x.entries) path some x.read)

-- ---- what is noted of the index

pub returns-in_err-asked-clause-notes : goal.returns-in_err-asked-clause-notes
returns-in_err-asked-clause-notes g c = notes_none g.D.Disk c.args.parts.now _ c.args.at c.args.file.now c.args.offset _ _ c.from_residual.ensures.1

pub returns-in_err-part-clause-notes : goal.returns-in_err-part-clause-notes
returns-in_err-part-clause-notes g c = notes_none g.D.Disk c.args.parts.now _ c.args.at c.args.file.now c.args.offset _ _ c.from_residual-in_err-part.ensures.1

pub returns-in_err-index-clause-notes : goal.returns-in_err-index-clause-notes
returns-in_err-index-clause-notes g c = notes_none g.D.Disk c.args.parts.now _ c.args.at c.args.file.now c.args.offset _ _ c.from_residual-in_err-index.ensures.1

pub returns-in_err-note-clause-notes : goal.returns-in_err-note-clause-notes
returns-in_err-note-clause-notes g c = notes_none g.D.Disk c.args.parts.now _ c.args.at c.args.file.now c.args.offset _ _ c.from_residual-in_err-note.ensures.1

pub returns-in_default-clause-notes : goal.returns-in_default-clause-notes
returns-in_default-clause-notes g c =
    let old = c.args.parts.now in
    let a = c.in_ok-asked.asked in
    let none : a.whole ≡ None = search rules in
    notes_part g.D.Disk old _ c.args.at c.args.file.now c.args.offset (string_bytes a.path) (part_reply c.in_ok-part.part)
    (c.in_ok-asked.ensures.value c.args.offset ∙ ap (λ w. Ok (part_of (string_bytes a.path) w c.args.offset)) none) refl

pub returns-clause-notes : goal.returns-clause-notes
returns-clause-notes g c =
    let old = c.args.parts.now in
    let lane = c.args.at.lane in
    let a = c.in_ok-asked.asked in
    let index = c.in_ok-index.index in
    let content = g.D.Disk.content old.disk in
    let some : a.whole ≡ Some c.in-Some.kind = search rules in
    let within : lane < length old.sessions.items = omega (arith, old.lanes, old.sessions.ok.0, c.requires) in
    let here = c.index_mut.ensures.value ∙ get_or_default old.sessions.items lane c.index_mut.result.now Idle within in
    let noted = get_or-set_same old.sessions.items lane c.note.new.session Idle within ∙ c.in_ok-note.ensures.ok ∙ ap₂ (λ n s. noting n index.table index.pages s) c.in_ok-asked.ensures.name here in
    notes_whole g.D.Disk old _ c.args.at c.args.file.now c.args.offset (string_bytes a.path) c.in-Some.kind (part_reply index.part)
    (c.in_ok-asked.ensures.value c.args.offset ∙ ap (λ w. Ok (part_of (string_bytes a.path) w c.args.offset)) some)
    (λ h. (
      index,
      subst (λ p. IsGiven content p c.in-Some.kind c.args.offset index) c.as_str-2.ensures.value (c.in_ok-index.ensures.exact h),
      noted,
    ))
    (index.table, index.pages, noted)

-- ---- how often the disk is called

pub returns-in_err-asked-clause-calls : goal.returns-in_err-asked-clause-calls
returns-in_err-asked-clause-calls g c = uncalled g.D.Disk (c.args.parts.now).disk _ _ refl

pub returns-in_err-part-clause-calls : goal.returns-in_err-part-clause-calls
returns-in_err-part-clause-calls g c =
    let a = c.in_ok-asked.asked in
    let none : None ≡ a.whole = search rules in
    called_for g.D.Disk (c.args.parts.now).disk _ _ (string_bytes a.path) c.as_str.result.now a.whole None c.args.offset (ap (λ (x : Result Asked Refusal). result_ok x) (c.in_ok-asked.ensures.value c.args.offset))
    c.as_str.ensures.value none c.read_part.ensures.calls

pub returns-in_default-clause-calls : goal.returns-in_default-clause-calls
returns-in_default-clause-calls g c =
    let a = c.in_ok-asked.asked in
    let none : None ≡ a.whole = search rules in
    called_for g.D.Disk (c.args.parts.now).disk _ _ (string_bytes a.path) c.as_str.result.now a.whole None c.args.offset (ap (λ (x : Result Asked Refusal). result_ok x) (c.in_ok-asked.ensures.value c.args.offset))
    c.as_str.ensures.value none c.read_part.ensures.calls

pub returns-in_err-index-clause-calls : goal.returns-in_err-index-clause-calls
returns-in_err-index-clause-calls g c =
    let a = c.in_ok-asked.asked in
    let some : Some c.in-Some.kind ≡ a.whole = search rules in
    called_for g.D.Disk (c.args.parts.now).disk _ _ (string_bytes a.path) c.as_str-2.result.now a.whole (Some c.in-Some.kind) c.args.offset
    (ap (λ (x : Result Asked Refusal). result_ok x) (c.in_ok-asked.ensures.value c.args.offset)) c.as_str-2.ensures.value some c.read_table.ensures.calls

pub returns-in_err-note-clause-calls : goal.returns-in_err-note-clause-calls
returns-in_err-note-clause-calls g c =
    let a = c.in_ok-asked.asked in
    let some : Some c.in-Some.kind ≡ a.whole = search rules in
    called_for g.D.Disk (c.args.parts.now).disk _ _ (string_bytes a.path) c.as_str-2.result.now a.whole (Some c.in-Some.kind) c.args.offset
    (ap (λ (x : Result Asked Refusal). result_ok x) (c.in_ok-asked.ensures.value c.args.offset)) c.as_str-2.ensures.value some c.read_table.ensures.calls

pub returns-clause-calls : goal.returns-clause-calls
returns-clause-calls g c =
    let a = c.in_ok-asked.asked in
    let some : Some c.in-Some.kind ≡ a.whole = search rules in
    called_for g.D.Disk (c.args.parts.now).disk _ _ (string_bytes a.path) c.as_str-2.result.now a.whole (Some c.in-Some.kind) c.args.offset
    (ap (λ (x : Result Asked Refusal). result_ok x) (c.in_ok-asked.ensures.value c.args.offset)) c.as_str-2.ensures.value some c.read_table.ensures.calls

-- ---- the session

pub invariant_of-parts-2-clause-named : goal.invariant_of-parts-2-clause-named
invariant_of-parts-2-clause-named g c =
    let old = c.args.parts.now in
    let within : c.args.at.lane < length old.sessions.items = omega (arith, old.lanes, old.sessions.ok.0, c.requires) in
    list_all-set is_named old.sessions.items c.args.at.lane c.note.new.session old.named
    (named_after c.note.result c.index_mut.result.now c.note.new.session c.in_ok-asked.asked.name c.in_ok-index.index.table c.in_ok-index.index.pages c.note.ensures.ok c.note.ensures.err
    (list_all-at is_named old.sessions.items c.args.at.lane c.index_mut.result.now old.named within c.index_mut.ensures.value))
