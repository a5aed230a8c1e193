-- DOWNLOAD is the store's.
use Rattle.disk_trait.specs.declared.disk.Disk.{Ghosts}
use Rattle.std.proofs.Common.{◌≡◌, ◌<◌, ℕ, Bool, true, false, List, length, nat_le, Option, Some, None, Result, Ok, Err, refl, sym, ap, subst, ◌∙◌, arith, get_or, map, set}
use Rattle.std.proofs.lemmas.List.{set-get_or}
use Rattle.std.specs.FinMap.{get}
use Rattle.std.specs.Option.{option_map}
use Rattle.std.specs.Result.{result_ok}
use Rattle.store_types.specs.declared.refusal.Refusal.{Refusal}
use Rattle.store_types.specs.declared.refusal.Refusal.TheVariants.{BadName, NoFile, BadRange, Unreadable}
use Rattle.store_types.specs.Chain.Refusing.{◌>>=◌, or_else, unless}
use Rattle.store_types.specs.FileNames.{is_file_name}
use Rattle.store_files.specs.Archive.{Archive, archive, File, Content, Snapshot, ends_from, file_named, file_text}
use Rattle.store_files.specs.DynamicIndex.{Ended}
use Rattle.wire_commands.specs.declared.reply.Reply.{Reply}
use Rattle.wire_commands.specs.declared.reply.Reply.TheVariants as replies
use Rattle.wire_commands.specs.HasText.{ReplyHasText}
use Rattle.wire_commands.specs.declared.command.Command.TheVariants.{Download}
use Rattle.store_model.specs.Store as model
use Rattle.store_model.specs.Store.{Store, Outcome, none, reader, session, with_session, want_reader, snapshot_named}
use Rattle.store_model.specs.WriterSteps.{part_of}
use Rattle.store_model.specs.ReaderSteps.{download, reader_files, note, content_at}
use Rattle.store_model.specs.Stands.{FitsContent, names_content}
use Rattle.store_model.specs.Steps.{outcome}
use Rattle.restore_reader.specs.Session.{Reading}
use Rattle.paged_indexes.specs.declared.kinds.IndexKind.{IndexKind}
use Rattle.snapshot_files.specs.Parts.{part_at, part_from}
use Rattle.snapshot_files.specs.Indexes.{Indexed, index_at, index_opened, kind_of_index, layout_kind}
use Rattle.snapshot_files.proofs.Archives.{archive_at, layout_index}
use Rattle.store_files.specs.Folder.{file_path}
use Rattle.paged_indexes.specs.declared.index.IndexPages.{IndexPages}
use Rattle.paged_indexes.specs.Index.{opened}
use Rattle.restore_reader.specs.Shown.{pages_of}
use Rattle.core_state.specs.Kept.{KeptAt, kept_at}
use Rattle.core_state.specs.declared.parts.Parts.{Parts}
use Rattle.core_state.specs.declared.kept.Listed.{Listed}
use Rattle.core_state.specs.declared.kept.Session.{Session}
use Rattle.core_state.specs.Found.{path_in}
use Rattle.core_state.specs.Holds.{IsReader, IsOnDisk, Holds, Shows}
use Rattle.core_state.specs.Shown.{files_named, shown_reader, shown_session, shown_snapshot}
use Rattle.store_history.specs.Replies.{refuses_download}
use Rattle.store_stops.specs.Stops.{Gives, IfRefused}
use Rattle.core_state.specs.Unreadables.{Asked, from_offset}
use Rattle.core_state.specs.Wanted.{reader_in}
use Rattle.store_stops.specs.declared.stop.Stop.{Stop}
use Rattle.store_stops.specs.declared.stop.Stop.TheVariants.{Refused, NoMemory, DiskFailed}
use Rattle.core_state.proofs.Commanding.{reader_shown, reader_wanted, refused_by_state}
use Rattle.core_state.proofs.Texts.{bad_name_has_text, no_file_has_text, wrong_state_has_text}
use Rattle.core_state.proofs.LockLemmas.{locked_reads_on}
use Rattle.core_state.proofs.Sessions.{at_lane}
use Rattle.core_state.specs.Indexed.{FitsRows}
use Rattle.core_state.proofs.Rows.{rows_reading}
use Rattle.core_state.proofs.Soundness.{shows_changed}
use Rattle.core_state.proofs.Finding.{is_some}
use Rattle.core_state.proofs.Found.{IsThere, is_there, not_there, there_named, there_text, there_kind, there_fits}
use Rattle.core_reader.specs.Asked.{asked_at, file_asked, whole_for}
use Rattle.core_state.proofs.KeptPages.{kept_is, opens_as}
use Rattle.core_reader.proofs.Noted.{note_key, note_none, whole_archive}
use Rattle.core_reader.proofs.OpenSteps.{sound_reader, disk_reader}

-- ---- the step

-- what comes of the part
abbrev pub with_part : Store → ℕ → model.Reader → Result Reply Refusal → Outcome
with_part s lane r part = part >>= λ reply. Ok (with_session s lane (reader r), reply)

range_then : (s : Store) (lane : ℕ) (r : model.Reader) (text : List ℕ) (offset : ℕ) (b : Bool)
    → (unless (BadRange (length text)) b >>= λ _. Ok (with_session s lane (reader r), part_of text offset)) ≡ with_part s lane r (unless (BadRange (length text)) b >>= λ _. Ok (part_of text offset))
range_then s lane r text offset true = refl
range_then s lane r text offset false = refl

module _ (s : Store) (lane m : ℕ) (name : List ℕ) (offset : ℕ) where
  pub down_unread : (refusal : Refusal) → want_reader (session s lane) ≡ Err refusal → outcome s lane m (Download name offset) ≡ Err refusal
  unfolding outcome download
  down_unread refusal no_reader = rw no_reader refl

  pub down_bad : (r : model.Reader) → session s lane ≡ reader r → is_file_name name ≡ false → outcome s lane m (Download name offset) ≡ Err BadName
  unfolding outcome download
  down_bad r at bad = rw (at, bad) refl

  down_missing : (r : model.Reader) → session s lane ≡ reader r → is_file_name name ≡ true → file_named name (reader_files s r) ≡ None → outcome s lane m (Download name offset) ≡ Err NoFile
  unfolding outcome download
  down_missing r at good missing = rw (at, good, missing) refl

  down_part : (r : model.Reader) (f : File) → session s lane ≡ reader r → is_file_name name ≡ true → file_named name (reader_files s r) ≡ Some f
      → outcome s lane m (Download name offset) ≡ with_part s lane (note name f.content r) (part_from (file_text f.content) offset)
  unfolding outcome download
  down_part r f at good found =
      rw (at, good, found) (range_then s lane (note name f.content r) (file_text f.content) offset (nat_le offset (length (file_text f.content))))

  pub down_absent : (catalogue : List Listed) (v : model.Reader) (r : Reading) → map (λ x. x.kept) catalogue ≡ map shown_snapshot s.snapshots → session s lane ≡ reader v → shown_reader s.snapshots v ≡ r
      → is_file_name name ≡ true → path_in r.key name catalogue ≡ None → outcome s lane m (Download name offset) ≡ Err NoFile
  down_absent catalogue v r shows at is good missing =
      down_missing v at good (not_there name catalogue s.snapshots v.key shows (ap (λ (x : Reading). path_in x.key name catalogue) is ∙ missing))

-- ---- what is kept

-- a file of the reader's snapshot, and how it is read
pub record IsAsked (file : List ℕ) (k : KeptAt) (path : List ℕ) (whole : Option IndexKind) : Type 0 where
  pub reading : Reading
  pub reads : reader_in k.session ≡ Ok reading
  pub named : is_file_name file ≡ true
  pub found : path_in reading.key file k.catalogue ≡ Some path
  pub whole_is : whole_for reading file ≡ whole

module _ (file : List ℕ) (offset : ℕ) (k : KeptAt) where
  pub file_unread : (refusal : Refusal) → reader_in k.session ≡ Err refusal → file_asked file offset k ≡ Err refusal
  unfolding file_asked
  file_unread refusal no_reader = rw no_reader refl

  pub file_bad : (r : Reading) → reader_in k.session ≡ Ok r → is_file_name file ≡ false → file_asked file offset k ≡ Err BadName
  unfolding file_asked
  file_bad r at bad = rw (at, bad) refl

  pub file_absent : (r : Reading) → reader_in k.session ≡ Ok r → is_file_name file ≡ true → path_in r.key file k.catalogue ≡ None → file_asked file offset k ≡ Err NoFile
  unfolding file_asked
  file_absent r at good missing = rw (at, good, missing) refl

  pub file_there : (r : Reading) (path : List ℕ) → reader_in k.session ≡ Ok r → is_file_name file ≡ true → path_in r.key file k.catalogue ≡ Some path
      → file_asked file offset k ≡ Ok (asked_at r file offset path)
  unfolding file_asked
  file_there r path at good found = rw (at, good, found) refl

  pub file_is : (path : List ℕ) (whole : Option IndexKind) → file_asked file offset k ≡ Ok (record { path = path; way = from_offset whole offset }) → IsAsked file k path whole
  file_is path whole e = by_reader (reader_in k.session) refl
    where
      same : (a b : Asked) → ◌≡◌ {A = Result Asked Refusal} (Ok a) (Ok b) → a ≡ b
      same a b e = cc

      ways : (v w : Option IndexKind) → from_offset v offset ≡ from_offset w offset → v ≡ w
      ways v w e = cc

      apart : (refusal : Refusal) (a : Asked) → ◌≡◌ {A = Result Asked Refusal} (Err refusal) (Ok a) → ⊥
      apart refusal a e = cc

      by_path : (r : Reading) (o : Option (List ℕ)) → reader_in k.session ≡ Ok r → is_file_name file ≡ true → path_in r.key file k.catalogue ≡ o → IsAsked file k path whole
      by_path r None at good found = absurd (apart NoFile _ (sym (file_absent r at good found) ∙ e))
      by_path r (Some p) at good found =
          let is = same (asked_at r file offset p) (record { path = path; way = from_offset whole offset }) (sym (file_there r p at good found) ∙ e) in record {
            reading = r;
            reads = at;
            named = good;
            found = found ∙ ap (λ (a : Asked). Some a.path) is;
            whole_is = ways (whole_for r file) whole (ap (λ (a : Asked). a.way) is);
          }

      by_name : (r : Reading) (b : Bool) → reader_in k.session ≡ Ok r → is_file_name file ≡ b → IsAsked file k path whole
      by_name r true at good = by_path r (path_in r.key file k.catalogue) at good refl
      by_name r false at bad = absurd (apart BadName _ (sym (file_bad r at bad) ∙ e))

      by_reader : (o : Result Reading Refusal) → reader_in k.session ≡ o → IsAsked file k path whole
      by_reader (Ok r) at = by_name r (is_file_name file) at refl
      by_reader (Err refusal) no_reader = absurd (apart refusal _ (sym (file_unread refusal no_reader) ∙ e))

  -- or why there is none
  pub file_refused : (P : Refusal → Type 0) → ((refusal : Refusal) → reader_in k.session ≡ Err refusal → P refusal)
      → ((r : Reading) → reader_in k.session ≡ Ok r → is_file_name file ≡ false → P BadName)
      → ((r : Reading) → reader_in k.session ≡ Ok r → is_file_name file ≡ true → path_in r.key file k.catalogue ≡ None → P NoFile)
      → (refusal : Refusal) → file_asked file offset k ≡ Err refusal → P refusal
  file_refused P unread bad absent refusal e = by_reader (reader_in k.session) refl
    where
      same : (a b : Refusal) → ◌≡◌ {A = Result Asked Refusal} (Err a) (Err b) → a ≡ b
      same a b e = cc

      apart : (a : Asked) → ◌≡◌ {A = Result Asked Refusal} (Ok a) (Err refusal) → ⊥
      apart a e = cc

      by_path : (r : Reading) (o : Option (List ℕ)) → reader_in k.session ≡ Ok r → is_file_name file ≡ true → path_in r.key file k.catalogue ≡ o → P refusal
      by_path r None at good found = subst P (same NoFile refusal (sym (file_absent r at good found) ∙ e)) (absent r at good found)
      by_path r (Some p) at good found = absurd (apart _ (sym (file_there r p at good found) ∙ e))

      by_name : (r : Reading) (b : Bool) → reader_in k.session ≡ Ok r → is_file_name file ≡ b → P refusal
      by_name r true at good = by_path r (path_in r.key file k.catalogue) at good refl
      by_name r false at is_bad = subst P (same BadName refusal (sym (file_bad r at is_bad) ∙ e)) (bad r at is_bad)

      by_reader : (o : Result Reading Refusal) → reader_in k.session ≡ o → P refusal
      by_reader (Ok r) at = by_name r (is_file_name file) at refl
      by_reader (Err q) no_reader = subst P (same q refusal (sym (file_unread q no_reader) ∙ e)) (unread q no_reader)

  -- a stop before the file is read
  pub file_stops : (P : Refusal → Type 0) (stop : Stop) → ((refusal : Refusal) → file_asked file offset k ≡ Err refusal → P refusal)
      → Gives {A = Asked} (λ a. a) (Err stop) (file_asked file offset k) → IfRefused P stop
  file_stops P (Refused refusal) so gives = so refusal gives
  file_stops P NoMemory so gives = tt
  file_stops P DiskFailed so gives = tt

  pub file_text_of : (refusal : Refusal) → file_asked file offset k ≡ Err refusal → ReplyHasText (replies.Refused refusal)
  file_text_of = file_refused (λ r. ReplyHasText (replies.Refused r)) (λ r e. refused_by_state k.session r (λ q. ReplyHasText (replies.Refused q)) (λ state. wrong_state_has_text state) e)
      (λ r at bad. bad_name_has_text) (λ r at good missing. no_file_has_text)

  pub file_answers : (refusal : Refusal) → file_asked file offset k ≡ Err refusal → refuses_download refusal ≡ true
  file_answers = file_refused (λ r. refuses_download r ≡ true) (λ r e. refused_by_state k.session r (λ q. refuses_download q ≡ true) (λ state. refl) e) (λ r at bad. refl) (λ r at good missing. refl)

  pub file_untold : (refusal : Refusal) → file_asked file offset k ≡ Err refusal → (result_ok (file_asked file offset k) ≡ None) × ((name : List ℕ) → refusal ≡ Unreadable name → ⊥)
  file_untold refusal e = (ap (λ (x : Result Asked Refusal). result_ok x) e, apart refusal e)
    where
      apart : (refusal : Refusal) → file_asked file offset k ≡ Err refusal → (name : List ℕ) → refusal ≡ Unreadable name → ⊥
      apart = file_refused (λ r. (name : List ℕ) → r ≡ Unreadable name → ⊥) (λ r e. refused_by_state k.session r (λ q. (name : List ℕ) → q ≡ Unreadable name → ⊥) (λ state name is. cc) e)
          (λ r at bad name is. cc) (λ r at good missing name is. cc)

-- the plain store refuses it too
pub file_refuses : {D : Type 0} (parts : Parts D) (s : Store) (lane m : ℕ) (file : List ℕ) (offset : ℕ) → Shows parts s → lane < 64
    → (refusal : Refusal) → file_asked file offset (kept_at parts lane) ≡ Err refusal → outcome s lane m (Download file offset) ≡ Err refusal
file_refuses parts s lane m file offset shows lt =
    file_refused file offset (kept_at parts lane) (λ r. outcome s lane m (Download file offset) ≡ Err r)
    (λ r e. down_unread s lane m file offset r (reader_wanted parts s lane r shows lt e))
    (λ r reads bad. let (v, at, is) = reader_shown parts s lane r shows lt reads in down_bad s lane m file offset v at bad)
    (λ r reads good missing. let (v, at, is) = reader_shown parts s lane r shows lt reads in down_absent s lane m file offset parts.catalogue.listed v r shows.catalogue at is good missing)

-- ---- an archive that is read

-- what is told of it
abbrev read_index : List ℕ → ℕ → List Ended → Result Indexed Refusal
read_index text offset entries = part_from text offset >>= λ part. Ok (record { part = part; entries = entries })

indexed : (part : Result Reply Refusal) (entries : List Ended) (x : Indexed) → (part >>= λ reply. Ok (record { part = reply; entries = entries })) ≡ Ok x → (part ≡ Ok x.part) × (x.entries ≡ entries)
indexed (Ok reply) entries x e = (ap (λ (y : Indexed). Ok y.part) (same x e), ap (λ (y : Indexed). y.entries) (sym (same x e)))
  where
    same : (x : Indexed) → ◌≡◌ {A = Result Indexed Refusal} (Ok (record { part = reply; entries = entries })) (Ok x) → record { part = reply; entries = entries } ≡ x
    same x e = cc
indexed (Err refusal) entries x e = cc

abbrev indexed_part : List Ended → Reply → Result Indexed Refusal
indexed_part entries reply = Ok (record { part = reply; entries = entries })

refused_part : (part : Result Reply Refusal) (entries : List Ended) (refusal : Refusal) → (part >>= indexed_part entries) ≡ Err refusal → part ≡ Err refusal
refused_part (Ok reply) entries refusal e = cc
refused_part (Err cause) entries refusal e = ap (λ x. Err x) (same cause e)
  where
    same : (cause : Refusal) → ◌≡◌ {A = Result Indexed Refusal} (Err cause) (Err refusal) → cause ≡ refusal
    same cause e = cc

-- ---- the act

module _ {D : Type 0} (d : Ghosts D) (old : Parts D) (s : Store) (lane m : ℕ) (name path : List ℕ) (offset : ℕ) (v : model.Reader) (r : Reading)
    (at : session s lane ≡ reader v) (is : shown_reader s.snapshots v ≡ r) (good : is_file_name name ≡ true) (h : Holds d old s) (found : path_in r.key name old.catalogue.listed ≡ Some path) where
  abbrev pub there : IsThere s.snapshots v.key name path
  there = is_there name old.catalogue.listed s.snapshots v.key path (h.shows).catalogue (ap (λ (x : Reading). path_in x.key name old.catalogue.listed) is ∙ found)

  abbrev pub stored : Content
  stored = (there.file).content

  pub text_there : get (d.content old.disk) path ≡ Some (file_text stored)
  text_there = there_text (d.content old.disk) s.snapshots v.key name path there ((h.files).snapshots).files

  pub kind_there : names_content stored name ≡ true
  kind_there = there_kind s.snapshots v.key name path there ((h.shows).sound).each

  pub step_there : outcome s lane m (Download name offset) ≡ with_part s lane (note name stored v) (part_from (file_text stored) offset)
  step_there = down_part s lane m name offset v there.file at good (there_named s.snapshots v.key name path there)

  pub part_there : part_at (d.content old.disk) path offset ≡ part_from (file_text stored) offset
  part_there = ap (λ (o : Option (List ℕ)). or_else (Unreadable path) o >>= λ text. part_from text offset) text_there

  -- the part is refused
  refused_there : (refusal : Refusal) → part_from (file_text stored) offset ≡ Err refusal → outcome s lane m (Download name offset) ≡ Err refusal
  refused_there refusal gives = step_there ∙ ap (with_part s lane (note name stored v)) gives

  pub part_refused : (refusal : Refusal) → part_at (d.content old.disk) path offset ≡ Err refusal → outcome s lane m (Download name offset) ≡ Err refusal
  part_refused refusal gives = refused_there refusal (sym part_there ∙ gives)

  -- it is given, and nothing is noted
  pub part_given : (part : Reply) → whole_for r name ≡ None → part_at (d.content old.disk) path offset ≡ Ok part → outcome s lane m (Download name offset) ≡ Ok (s, part)
  part_given part whole gives =
      let stays : with_session s lane (reader v) ≡ s = ap (λ items. record s { sessions = items }) (ap (set s.sessions lane) (sym at) ∙ set-get_or s.sessions lane none) in
      step_there ∙ ap (λ x. with_part s lane x (part_from (file_text stored) offset)) (note_none s.snapshots v name stored kind_there (ap (λ x. whole_for x name) is ∙ whole))
      ∙ ap (with_part s lane v) (sym part_there ∙ gives) ∙ ap (λ t. Ok (t, part)) stays

  -- an archive's index, read whole
  record IsIndex (of_kind : IndexKind) : Type 0 where
    pub one : Archive
    pub is_one_of : stored ≡ archive one
    pub kind_is : of_kind ≡ layout_kind one.layout
    pub read : index_at (d.content old.disk) path of_kind offset ≡ read_index (file_text stored) offset (ends_from 0 one.pieces)

  index_there : (of_kind : IndexKind) → whole_for r name ≡ Some of_kind → IsIndex of_kind
  unfolding file_text
  index_there of_kind whole =
      let w = whole_archive s.snapshots v name stored of_kind kind_there (ap (λ x. whole_for x name) is ∙ whole) in
      let a = w.0 in
      let fits : FitsContent (archive a) = subst FitsContent w.1 (there_fits s.snapshots v.key name path there ((h.shows).sound).each) in
      let text : get (d.content old.disk) path ≡ Some (file_text (archive a)) = text_there ∙ ap (λ x. Some (file_text x)) w.1 in
      record {
        one = a;
        is_one_of = w.1;
        kind_is = w.2;
        read =
            ap (λ b. index_at (d.content old.disk) path b offset) w.2
            ∙ archive_at (d.content old.disk) path offset a fits text
            ∙ ap (λ x. read_index (file_text x) offset (ends_from 0 a.pieces)) (sym w.1);
      }

  pub index_refused : (refusal : Refusal) (of_kind : IndexKind) → whole_for r name ≡ Some of_kind → index_at (d.content old.disk) path of_kind offset ≡ Err refusal → outcome s lane m (Download name offset) ≡ Err refusal
  index_refused refusal of_kind whole tells =
      let x = index_there of_kind whole in
      refused_there refusal (refused_part (part_from (file_text stored) offset) (ends_from 0 (x.one).pieces) refusal (sym x.read ∙ tells))

  -- it is given, and noted
  pub index_given : (new : Parts D) (x : Indexed) (of_kind : IndexKind) (kept : IndexPages) (noted : Session) → lane < 64 → whole_for r name ≡ Some of_kind → index_at (d.content old.disk) path of_kind offset ≡ Ok x
      → index_opened (d.content old.disk) path of_kind ≡ Ok kept
      → ((a : Archive) → content_at (files_named v.key s.snapshots) name ≡ Some (archive a) → x.entries ≡ ends_from 0 a.pieces → kept ≡ pages_of name (file_path v.key name) (file_text (archive a))
      → noted ≡ shown_session s.snapshots (reader (note name (archive a) v)))
      → (d.honest old.disk → d.content new.disk ≡ d.content old.disk) → new.catalogue.listed ≡ old.catalogue.listed → new.sessions.items ≡ set old.sessions.items lane noted → new.locks ≡ old.locks → new.indexes.items ≡ old.indexes.items
      → (after_it : Store) × (outcome s lane m (Download name offset) ≡ Ok (after_it, x.part)) × Shows new after_it × IsOnDisk (d.content new.disk) after_it
  index_given new x of_kind kept noted lt whole tells opens notes same c l k rows =
      let sound = (h.shows).sound in
      let i = index_there of_kind whole in
      let a = i.one in
      let text : get (d.content old.disk) path ≡ Some (file_text (archive a)) = text_there ∙ ap (λ y. Some (file_text y)) i.is_one_of in
      let kind : names_content (archive a) name ≡ true = ap (λ y. names_content y name) (sym i.is_one_of) ∙ kind_there in
      let opened_as : opened (d.content old.disk) path (kind_of_index name) ≡ Ok kept =
      ap (opened (d.content old.disk) path) (layout_index a name kind ∙ sym i.kind_is) ∙ opens_as (d.content old.disk) path of_kind kept opens in
      let pages = kept_is (d.content old.disk) s.snapshots v.key name path there a text kept opened_as in
      let told = indexed (part_from (file_text stored) offset) (ends_from 0 a.pieces) x (sym i.read ∙ tells) in
      let w = note name (archive a) v in
      let at_name : content_at (files_named v.key s.snapshots) name ≡ Some (archive a) =
      ap (option_map (λ f. f.content)) (there_named s.snapshots v.key name path there) ∙ ap (λ y. Some y) i.is_one_of in
      let reads : IsReader s.snapshots w = record { finished = is_some _ there.snapshot (ap (λ q. snapshot_named q s.snapshots) (note_key name (archive a) v) ∙ there.kept) } in
      let within : lane < length s.sessions = omega (arith, sound.lanes, lt) in (
        with_session s lane (reader w),
        step_there ∙ ap (λ y. with_part s lane (note name y v) (part_from (file_text stored) offset)) i.is_one_of ∙ ap (with_part s lane w) told.0,
        shows_changed old new s lane (reader w) noted c l (notes a at_name told.1 pages)
            (locked_reads_on old.locks new.locks s lane v w within k at (note_key name (archive a) v) (h.shows).locks)
            (subst (FitsRows (with_session s lane (reader w))) (sym rows) (rows_reading s lane old.indexes.items within (h.shows).indexes v w at (note_key name (archive a) v)))
            (sound_reader s lane w lt reads sound) h.shows,
        disk_reader (d.content new.disk) s lane w within (subst (λ f. IsOnDisk f s) (sym (same h.honest)) h.files),
      )

-- ---- by what was asked for

pub asked_as : (r : Reading) (file : List ℕ) (offset : ℕ) (path text name : List ℕ) (whole : Option IndexKind) → text ≡ path → whole ≡ whole_for r name → name ≡ file
    → ◌≡◌ {A = Result Asked Refusal} (Ok (asked_at r file offset path)) (Ok (record { path = text; way = from_offset whole offset }))
asked_as r file offset path text name whole is one two =
    ap (λ p. let a : Asked = record { path = p; way = from_offset (whole_for r file) offset } in Ok a) (sym is)
    ∙ ap (λ w. let a : Asked = record { path = text; way = from_offset w offset } in Ok a) (ap (whole_for r) (sym two) ∙ sym one)

module _ {D : Type 0} (d : Ghosts D) (old : Parts D) (s : Store) (lane m : ℕ) (file path : List ℕ) (offset : ℕ) (whole : Option IndexKind) (lt : lane < 64)
    (asked : IsAsked file (kept_at old lane) path whole) (h : Holds d old s) where
  pub asked_part_refused : (q : List ℕ) (refusal : Refusal) → q ≡ path → part_at (d.content old.disk) q offset ≡ Err refusal → outcome s lane m (Download file offset) ≡ Err refusal
  asked_part_refused q refusal same gives =
      let (v, at, is) = reader_shown old s lane asked.reading h.shows lt asked.reads in
      part_refused d old s lane m file path offset v asked.reading at is asked.named h asked.found refusal (ap (λ p. part_at (d.content old.disk) p offset) (sym same) ∙ gives)

  pub asked_part_given : (q : List ℕ) (part : Reply) → q ≡ path → whole ≡ None → part_at (d.content old.disk) q offset ≡ Ok part → outcome s lane m (Download file offset) ≡ Ok (s, part)
  asked_part_given q part same is_none gives =
      let (v, at, is) = reader_shown old s lane asked.reading h.shows lt asked.reads in
      part_given d old s lane m file path offset v asked.reading at is asked.named h asked.found part (asked.whole_is ∙ is_none) (ap (λ p. part_at (d.content old.disk) p offset) (sym same) ∙ gives)

  pub asked_index_refused : (q : List ℕ) (of_kind : IndexKind) (refusal : Refusal) → q ≡ path → whole ≡ Some of_kind → index_at (d.content old.disk) q of_kind offset ≡ Err refusal → outcome s lane m (Download file offset) ≡ Err refusal
  asked_index_refused q of_kind refusal same some gives =
      let (v, at, is) = reader_shown old s lane asked.reading h.shows lt asked.reads in
      index_refused d old s lane m file path offset v asked.reading at is asked.named h asked.found refusal of_kind (asked.whole_is ∙ some) (ap (λ p. index_at (d.content old.disk) p of_kind offset) (sym same) ∙ gives)

  pub asked_index_given : (new : Parts D) (x : Indexed) (of_kind : IndexKind) (q name : List ℕ) (kept : IndexPages) (before noted : Session) → q ≡ path → name ≡ file → whole ≡ Some of_kind
      → index_at (d.content old.disk) q of_kind offset ≡ Ok x → index_opened (d.content old.disk) q of_kind ≡ Ok kept
      → before ≡ get_or old.sessions.items lane before
      → ((snapshots : List Snapshot) (r : model.Reader) (a : Archive) → before ≡ shown_session snapshots (reader r) → content_at (files_named r.key snapshots) name ≡ Some (archive a) → x.entries ≡ ends_from 0 a.pieces
      → kept ≡ pages_of name (file_path r.key name) (file_text (archive a)) → noted ≡ shown_session snapshots (reader (note name (archive a) r)))
      → (d.honest old.disk → d.content new.disk ≡ d.content old.disk) → new.catalogue.listed ≡ old.catalogue.listed → new.sessions.items ≡ set old.sessions.items lane noted → new.locks ≡ old.locks → new.indexes.items ≡ old.indexes.items
      → (after_it : Store) × (outcome s lane m (Download file offset) ≡ Ok (after_it, x.part)) × Shows new after_it × IsOnDisk (d.content new.disk) after_it
  asked_index_given new x of_kind q name kept before noted same named some gives opens here notes content c l k rows =
      let (v, at, is) = reader_shown old s lane asked.reading h.shows lt asked.reads in
      let shown = at_lane old.sessions.items s lane before (h.shows).sessions ((h.shows).sound).lanes lt here in
      index_given d old s lane m file path offset v asked.reading at is asked.named h asked.found new x of_kind kept noted lt (asked.whole_is ∙ some)
      (ap (λ p. index_at (d.content old.disk) p of_kind offset) (sym same) ∙ gives) (ap (λ p. index_opened (d.content old.disk) p of_kind) (sym same) ∙ opens)
      (λ a there ends pages. subst (λ n. noted ≡ shown_session s.snapshots (reader (note n (archive a) v))) named
      (notes s.snapshots v a (shown ∙ ap (shown_session s.snapshots) at) (subst (λ n. content_at (files_named v.key s.snapshots) n ≡ Some (archive a)) (sym named) there) ends
      (subst (λ n. kept ≡ pages_of n (file_path v.key n) (file_text (archive a))) (sym named) pages)))
      content c l k rows

-- where nothing was noted the sessions are as before
pub sessions_stay : (items : List Session) (lane : ℕ) (before after : Session) → after ≡ before → before ≡ get_or items lane before → set items lane after ≡ items
sessions_stay items lane before after same here = ap (set items lane) (same ∙ here) ∙ set-get_or items lane before
