-- PREVIOUS is the store's: what is read of the base's file, and the pieces that the writer may name then.
use Rattle.disk_trait.specs.declared.disk.Disk.{Ghosts}
use Rattle.std.proofs.Common.{◌≡◌, ◌↔◌, ◌⊎◌, inl, inr, ⊎_elim, ◌<◌, ◌+◌, ◌-◌, ℕ, Bool, true, false, ◌&&◌, cond, List, [], ◌∷◌, length, get_or, nat_lt, nat_le, drop, find, map, set, Option, Some, None, Result, Ok, Err, OnOk, OnErr, IsErrOf, IsErrAnd, refl, sym, ap, subst, ◌∙◌, arith}
use Rattle.std.proofs.lemmas.Bool.{and_parts, and_from}
use Rattle.std.proofs.Math.ListN.{get_or-append}
use Rattle.std.proofs.lemmas.List.{get_or-set_same, length-append, get_or-append-add}
use Rattle.std.proofs.lemmas.List.Elements.{All-cons, All-head, All-nil, All-tail, Contains-append_left}
use Rattle.std.proofs.lemmas.Slice.Eq.{bytes_eq-Decides}
use Rattle.std.specs.FinMap.{empty, get}
use Rattle.std.specs.List.{All, Contains, flat_map, list_any}
use Rattle.std.specs.Prelude.{◌||◌, if◌then◌else◌, is_some}
use Rattle.std.specs.Option.{option_map}
use Rattle.std.specs.Str.{bytes_eq}
use Rattle.disk_trait.specs.Files.{Files}
use Rattle.store_types.specs.declared.names.SnapshotKey.{SnapshotKey}
use Rattle.store_types.specs.declared.refusal.Refusal.{Refusal}
use Rattle.store_types.specs.declared.refusal.Refusal.TheVariants.{WrongState, BadName, NoSnapshot, NoFile, BadRange, Unreadable}
use Rattle.store_types.specs.declared.refusal.SessionState.{SessionState}
use Rattle.store_types.specs.Chain.Refusing.{◌>>=◌, unless, or_else}
use Rattle.store_types.specs.FileNames.{is_file_name, is_id, is_fixed_name, is_dynamic_name, is_blob_name, fixed_ending, dynamic_ending, blob_ending}
use Rattle.store_files.specs.Archive.{Archive, Content, archive, blob, File, Snapshot, file_named, file_text, pieces_of, ends_from}
use Rattle.wire_commands.specs.declared.command.Command.TheVariants.{Previous as PreviousCommand}
use Rattle.wire_commands.specs.declared.reply.Reply.{Reply}
use Rattle.wire_commands.specs.declared.reply.Reply.TheVariants.{Part}
use Rattle.wire_commands.specs.declared.reply.Reply.TheVariants as replies
use Rattle.store_model.specs.Store.{Store, Writer, Outcome, writer, session, with_session, want_writer, snapshot_named}
use Rattle.store_model.specs.Stands.{FitsContent, HoldsPieces, names_content}
use Rattle.store_files.specs.Folder.{IsPiece}
use Rattle.store_model.specs.Steps.{outcome}
use Rattle.store_model.specs.ReaderSteps.{content_at}
use Rattle.store_model.specs.WriterSteps.{previous, base_of, goes_on, with_pool, part_of}
use Rattle.store_files.specs.DynamicIndex.{Ended}
use Rattle.known_chunks.specs.Lengths.{Lengths}
use Rattle.snapshot_files.specs.Calls.{CallsForPart}
use Rattle.snapshot_files.specs.Reads.{StopHasText}
use Rattle.snapshot_files.specs.Parts.{part_at, part_from, part_reply, IsPart, RefusesPart}
use Rattle.store_stops.specs.declared.stop.Stop.{Stop}
use Rattle.paged_indexes.specs.declared.kinds.IndexKind.{IndexKind}
use Rattle.paged_indexes.specs.declared.kinds.IndexKind.TheVariants.{Fixed, Dynamic}
use Rattle.snapshot_files.specs.Indexes.{index_at, kind_named, layout_kind, lengths_from, Indexed}
use Rattle.snapshot_files.proofs.Archives.{archive_at, layout_named, lengths_of_pieces}
use Rattle.backup_session.specs.Session as backups
use Rattle.backup_session.specs.Session.{Pool, settled}
use Rattle.backup_session.specs.Steps as rows
use Rattle.backup_session.specs.Shown.{known_of, lengths_of, shown}
use Rattle.backup_session.proofs.Pools.{entries_listed, pool_of-all}
use Rattle.core_state.specs.Kept.{KeptAt, kept_at}
use Rattle.core_state.specs.declared.kept.Kept.{Kept}
use Rattle.core_state.specs.declared.kept.Listed.{Listed}
use Rattle.core_state.specs.declared.kept.Session.{Session}
use Rattle.core_state.specs.declared.kept.Session.TheVariants as kept
use Rattle.core_state.specs.declared.kept.Writing.{Writing}
use Rattle.core_state.specs.declared.parts.Parts.{Parts}
use Rattle.store_history.specs.ChunkFiles.{HasChunk}
use Rattle.core_state.specs.Found.{kept_named, path_named, path_of_kept, path_in}
use Rattle.core_state.specs.Holds.{IsOnDisk, Holds, Shows}
use Rattle.core_state.specs.Commands.{IsNoRefusal, OthersStay}
use Rattle.core_state.specs.Settles.{kind_by, reply_by}
use Rattle.core_state.specs.Stops.{told}
use Rattle.store_stops.specs.Stops.{IfRefused, Gives}
use Rattle.core_state.specs.Wanted as wants
use Rattle.store_stops.specs.declared.stop.Stop.TheVariants.{Refused, NoMemory, DiskFailed}
use Rattle.disk_trait.specs.Effects.{OnlyReads}
use Rattle.disk_trait.proofs.OnlyReading.{reads_as}
use Rattle.disk_trait.specs.declared.disk.DiskError.TheVariants as disks
use Rattle.core_state.specs.Named.{has_text, is_named}
use Rattle.core_state.specs.Shown.{files_named, shown_snapshot, shown_writer, shown_files}
use Rattle.store_history.specs.Replies.{answers_previous, refuses_previous}
use Rattle.core_state.specs.Unchanged.{SameKept, is_uncalled}
use Rattle.core_state.specs.Calls.{CallsForAsked}
use Rattle.core_state.specs.Unreadables.{Asked, TellsUnreadable, from_offset, read_by}
use Rattle.wire_commands.specs.HasText.{ReplyHasText}
use Rattle.store_history.specs.declared.act.Act.{Act}
use Rattle.store_history.specs.declared.act.Act.TheVariants.{Plain}
use Rattle.core_state.specs.declared.entering.Place.{Place}
use Rattle.core_state.specs.Commands.{ActDoes, ActLeaves}
use Rattle.core_state.specs.Wanted.{session_at}
use Rattle.core_state.proofs.Texts.{bad_name_has_text}
use Rattle.core_writer.proofs.SteppedLemmas.{false_true}
use Rattle.core_state.proofs.Chunks.{adds_same}
use Rattle.core_state.proofs.Commanding.{refused_does, refused_leaves, same_kept, short_does, short_leaves, stopped_does, stopped_leaves, unwritten_by_state, writer_shown, writes_does, writes_leaves}
use Rattle.core_state.proofs.Asking.{called}
use Rattle.core_state.proofs.Unreadables.{refusal_called, tells_failed, tells_other, tells_read}
use Rattle.core_state.proofs.Finding.{mapped, found_in}
use Rattle.core_state.proofs.Found.{IsThere, kept_is, not_kept, is_there, not_there, there_named, there_text, there_kind, there_fits}
use Rattle.core_state.proofs.LockLemmas.{locked_writes_on}
use Rattle.core_state.specs.declared.indexes.Indexes.{Indexes}
use Rattle.core_state.specs.declared.indexes.Indexes.TheVariants.{LastPage, Opened, Pooled, Unread}
use Rattle.core_state.specs.Indexed.{FitsRow, FitsRows, IsPooled, files_of_base, is_pooled, pooling, row_at, row_in}
use Rattle.core_state.proofs.Rows.{rows_but, rows_set, writer_keeps}
use Rattle.core_writer.proofs.PooledPieces.{all_pooled, lengths_there}
use Rattle.core_state.proofs.Soundness.{IsAlone, sound_writer, disk_writer, shows_changed}
use Rattle.core_writer.specs.Previous.{ArePieces, NotesPooled, Previous, as_map, asked_at, asked_by, asked_of_base, base_file, kept_by, kept_by_whole, known_by_whole, previous_by, shown_given, whole_for, with_known}
use Rattle.core_writer.specs.declared.previous_files.Given.{Given}
use Rattle.core_writer.specs.Names.{IsNoName}
use Rattle.core_writer.proofs.Pooled.{is_writer_pooled, has_uploads_pooled}

-- ---- the step

module _ (s : Store) (lane : ℕ) (name : List ℕ) (offset : ℕ) where
  abbrev file_then : Writer → Option File → Outcome
  file_then w o =
      or_else NoFile o >>= λ file. unless (BadRange (length (file_text file.content))) (nat_le offset (length (file_text file.content)))
      >>= λ _. goes_on s lane (with_pool (pieces_of file.content) w) (part_of (file_text file.content) offset)

  abbrev base_then : Writer → Option Snapshot → Outcome
  base_then w o = or_else NoSnapshot o >>= λ base. file_then w (file_named name base.files)

  abbrev name_then : Writer → Bool → Outcome
  name_then w good = unless BadName good >>= λ _. base_then w (base_of s w)

  abbrev wanted_then : Result Writer Refusal → Outcome
  wanted_then r = r >>= λ w. name_then w (is_file_name name)

  step_is : (m : ℕ) → outcome s lane m (PreviousCommand name offset) ≡ wanted_then (want_writer (session s lane))
  unfolding outcome previous
  step_is m = refl

  pub not_writing : (m : ℕ) (r : Refusal) → want_writer (session s lane) ≡ Err r → outcome s lane m (PreviousCommand name offset) ≡ Err r
  not_writing m r none = step_is m ∙ ap wanted_then none

  writing_is : (m : ℕ) (w : Writer) → session s lane ≡ writer w → outcome s lane m (PreviousCommand name offset) ≡ name_then w (is_file_name name)
  writing_is m w at = step_is m ∙ ap (λ x. wanted_then (want_writer x)) at

  pub bad_name : (m : ℕ) (w : Writer) → session s lane ≡ writer w → is_file_name name ≡ false → outcome s lane m (PreviousCommand name offset) ≡ Err BadName
  bad_name m w at bad = writing_is m w at ∙ ap (name_then w) bad

  base_is : (m : ℕ) (w : Writer) → session s lane ≡ writer w → is_file_name name ≡ true → outcome s lane m (PreviousCommand name offset) ≡ base_then w (base_of s w)
  base_is m w at good = writing_is m w at ∙ ap (name_then w) good

  -- ---- the base, and its file

  -- the writer has this base
  pub record HasBase (w : Writer) (path : List ℕ) : Type 0 where
    pub key : SnapshotKey
    pub base : w.base ≡ Some key
    pub there : IsThere s.snapshots key name path

  ok_path : (p q : List ℕ) → ◌≡◌ {A = Result (List ℕ) Refusal} (Ok p) (Ok q) → p ≡ q
  ok_path p q e = cc

  pub has_base : (catalogue : List Listed) (w : Writer) (path : List ℕ) → map (λ x. x.kept) catalogue ≡ map shown_snapshot s.snapshots → base_file w.base name catalogue ≡ Ok path → HasBase w path
  unfolding base_file
  has_base catalogue w path is found = by_base w.base refl found
    where
      by_path : (key : SnapshotKey) (k : Kept) (o : Option (List ℕ)) → w.base ≡ Some key → kept_named key catalogue ≡ Some k → path_named name k.files ≡ o → or_else NoFile o ≡ Ok path → HasBase w path
      by_path key k None at kept_at path_at e = cc
      by_path key k (Some p) at kept_at path_at e =
          let here : path_in key name catalogue ≡ Some path = ap (path_of_kept name) kept_at ∙ path_at ∙ ap (λ q. Some q) (ok_path p path e) in
          record { key = key; base = at; there = is_there name catalogue s.snapshots key path is here }

      from_state : (key : SnapshotKey) (o : Option Kept) → w.base ≡ Some key → kept_named key catalogue ≡ o → (or_else NoSnapshot o >>= λ k. or_else NoFile (path_named name k.files)) ≡ Ok path → HasBase w path
      from_state key None at kept_at e = cc
      from_state key (Some k) at kept_at e = by_path key k (path_named name k.files) at kept_at refl e

      by_base : (o : Option SnapshotKey) → w.base ≡ o → (or_else NoSnapshot (kept_by o catalogue) >>= λ k. or_else NoFile (path_named name k.files)) ≡ Ok path → HasBase w path
      by_base None at e = cc
      by_base (Some key) at e = from_state key (kept_named key catalogue) at refl e

  err_same : {A B : Type 0} (p q : Refusal) → ◌≡◌ {A = Result A Refusal} (Err p) (Err q) → ◌≡◌ {A = Result B Refusal} (Err p) (Err q)
  err_same {B = B} p q e = let same : p ≡ q = cc in ap (λ x. let r : Result B Refusal = Err x in r) same

  pub no_base : (m : ℕ) (catalogue : List Listed) (w : Writer) (r : Refusal) → session s lane ≡ writer w → is_file_name name ≡ true → map (λ x. x.kept) catalogue ≡ map shown_snapshot s.snapshots
      → base_file w.base name catalogue ≡ Err r → outcome s lane m (PreviousCommand name offset) ≡ Err r
  unfolding base_file
  no_base m catalogue w r at good is refused = base_is m w at good ∙ by_base w.base refused
    where
      by_file : (key : SnapshotKey) (k : Kept) (x : Snapshot) (o : Option (List ℕ)) → kept_named key catalogue ≡ Some k → snapshot_named key s.snapshots ≡ Some x → path_named name k.files ≡ o → or_else NoFile o ≡ Err r
          → base_then w (Some x) ≡ Err r
      by_file key k x (Some p) kept_at plain_at path_at e = cc
      by_file key k x None kept_at plain_at path_at e =
          let none : path_in key name catalogue ≡ None = ap (path_of_kept name) kept_at ∙ path_at in
          let missing : file_named name x.files ≡ None =
          sym (ap (λ o. file_named name (elim o [ None ↦ [] | Some x ↦ x.files ])) plain_at) ∙ not_there name catalogue s.snapshots key is none in
          ap (file_then w) missing ∙ err_same {A = List ℕ} {B = Store × Reply} NoFile r e

      from_state : (key : SnapshotKey) (o : Option Kept) → kept_named key catalogue ≡ o → (or_else NoSnapshot o >>= λ k. or_else NoFile (path_named name k.files)) ≡ Err r → base_then w (snapshot_named key s.snapshots) ≡ Err r
      from_state key None kept_at e = ap (base_then w) (not_kept catalogue s.snapshots key is kept_at) ∙ err_same {A = List ℕ} {B = Store × Reply} NoSnapshot r e
      from_state key (Some k) kept_at e =
          let x = mapped shown_snapshot (snapshot_named key s.snapshots) k (sym (kept_is catalogue s.snapshots key is) ∙ kept_at) in
          ap (base_then w) x.1 ∙ by_file key k x.0 (path_named name k.files) kept_at x.1 refl e

      by_base : (o : Option SnapshotKey) → (or_else NoSnapshot (kept_by o catalogue) >>= λ k. or_else NoFile (path_named name k.files)) ≡ Err r → base_then w (elim o [ None ↦ None | Some key ↦ snapshot_named key s.snapshots ]) ≡ Err r
      by_base None e = err_same {A = List ℕ} {B = Store × Reply} NoSnapshot r e
      by_base (Some key) e = from_state key (kept_named key catalogue) refl e

  -- ---- what is read

  -- what comes of a part of a text
  abbrev with_part : Writer → Content → Result Reply Refusal → Outcome
  with_part w content part = part >>= λ reply. goes_on s lane (with_pool (pieces_of content) w) reply

  range_then : (w : Writer) (content : Content) (text : List ℕ) (b : Bool) → (unless (BadRange (length text)) b >>= λ _. goes_on s lane (with_pool (pieces_of content) w) (part_of text offset))
      ≡ with_part w content (unless (BadRange (length text)) b >>= λ _. Ok (part_of text offset))
  range_then w content text true = refl
  range_then w content text false = refl

  reads_it : (m : ℕ) (w : Writer) (path : List ℕ) (b : HasBase w path) → session s lane ≡ writer w → is_file_name name ≡ true
      → outcome s lane m (PreviousCommand name offset) ≡ with_part w ((b.there).file).content (part_from (file_text ((b.there).file).content) offset)
  reads_it m w path b at good =
      let t = b.there in
      let base : base_of s w ≡ Some t.snapshot = ap (λ o. elim o [ None ↦ None | Some key ↦ snapshot_named key s.snapshots ]) b.base ∙ t.kept in
      base_is m w at good ∙ ap (base_then w) base ∙ ap (file_then w) t.named
      ∙ range_then w (t.file).content (file_text (t.file).content) (nat_le offset (length (file_text (t.file).content)))

-- ---- kinds of files

not_both : (a b t : List ℕ) → bytes_eq b a ≡ false → bytes_eq a t ≡ true → bytes_eq b t ≡ false
not_both a b t other e = ap (bytes_eq b) (sym ((bytes_eq-Decides a t).0 e)) ∙ other

and_none : (a b c : Bool) → b ≡ false → (a && (b && c)) ≡ false
and_none true b c e = ap (λ x. x && c) e
and_none false b c e = refl

abbrev last_five : List ℕ → List ℕ
last_five name = drop (length name - 5) name

-- a name has one ending
other_ending : (ending other name : List ℕ) → bytes_eq other ending ≡ false → (is_id name && (bytes_eq ending (last_five name) && nat_lt 5 (length name))) ≡ true → (is_id name && (bytes_eq other (last_five name) && nat_lt 5 (length name))) ≡ false
other_ending ending other name apart h =
    let both = (and_parts (is_id name) _ h).1 in
    and_none (is_id name) (bytes_eq other (last_five name)) (nat_lt 5 (length name)) (not_both ending other (last_five name) apart (and_parts (bytes_eq ending (last_five name)) _ both).0)

whole_blob : (name : List ℕ) → is_blob_name name ≡ true → kind_named name ≡ None
whole_blob name h = by_tests (is_fixed_name name) (is_dynamic_name name) (other_ending blob_ending fixed_ending name refl h) (other_ending blob_ending dynamic_ending name refl h)
  where
    by_tests : (a b : Bool) → a ≡ false → b ≡ false → cond a (Some Fixed) (cond b (Some Dynamic) None) ≡ None
    by_tests false false e f = refl
    by_tests false true e f = cc
    by_tests true b e f = cc

-- ---- what a file of the store gives

abbrev known_pieces : Content → List (List ℕ × ℕ)
known_pieces content = map known_of (pieces_of content)

-- a part, with these pieces
abbrev gives_with : List (List ℕ × ℕ) → Result Reply Refusal → Result Previous Refusal
gives_with pieces part = part >>= λ reply. Ok (record { part = reply; pieces = as_map pieces })

abbrev gives : Content → Result Reply Refusal → Result Previous Refusal
gives content part = gives_with (known_pieces content) part

-- no pieces, where it is read in part
gives_part : (m : Files) (path text : List ℕ) (offset : ℕ) → get m path ≡ Some text → previous_by None m path offset ≡ gives_with [] (part_from text offset)
gives_part m path text offset at = ap (λ o. (or_else (Unreadable path) o >>= λ text. part_from text offset) >>= λ part. let r : Result Previous Refusal = Ok (record { part = part; pieces = empty }) in r) at

lengths_part : (a : Archive) (part : Result Reply Refusal)
    → ((part >>= λ reply. let r : Result Indexed Refusal = Ok (record { part = reply; entries = ends_from 0 a.pieces }) in r) >>= λ x. let r : Result Previous Refusal = Ok (record { part = x.part; pieces = as_map (lengths_from 0 x.entries) }) in r) ≡ gives (archive a) part
lengths_part a (Err e) = refl
lengths_part a (Ok reply) = ap (λ ks. let r : Result Previous Refusal = Ok (record { part = reply; pieces = as_map ks }) in r) (lengths_of_pieces 0 a.pieces)

gives_archive : (m : Files) (path : List ℕ) (offset : ℕ) (a : Archive) → FitsContent (archive a) → get m path ≡ Some (file_text (archive a)) → previous_by (Some (layout_kind a.layout)) m path offset ≡ gives (archive a) (part_from (file_text (archive a)) offset)
unfolding file_text
gives_archive m path offset a fits at =
    ap (λ q. q >>= λ x. let r : Result Previous Refusal = Ok (record { part = x.part; pieces = as_map (lengths_from 0 x.entries) }) in r) (archive_at m path offset a fits at)
    ∙ lengths_part a (part_from (file_text (archive a)) offset)

given : (m : Files) (path name : List ℕ) (offset : ℕ) (content : Content) → names_content content name ≡ true → FitsContent content → get m path ≡ Some (file_text content)
    → previous_by (kind_named name) m path offset ≡ gives content (part_from (file_text content) offset)
given m path name offset (blob bytes) kind fits at = ap (λ o. previous_by o m path offset) (whole_blob name kind) ∙ gives_part m path (file_text (blob bytes)) offset at
given m path name offset (archive a) kind fits at = ap (λ o. previous_by o m path offset) (layout_named a name kind) ∙ gives_archive m path offset a fits at

-- the part alone
part_alone : (whole : Option IndexKind) (m : Files) (path : List ℕ) (offset : ℕ) → (previous_by whole m path offset >>= λ p. Ok p.part) ≡ read_by whole m path offset
part_alone None m path offset = by_part (read_by None m path offset)
  where
    by_part : (r : Result Reply Refusal) → ((r >>= λ part. let q : Result Previous Refusal = Ok (record { part = part; pieces = empty }) in q) >>= λ p. Ok p.part) ≡ r
    by_part (Ok part) = refl
    by_part (Err e) = refl
part_alone (Some kind) m path offset = by_index (index_at m path kind offset)
  where
    by_index : (r : Result Indexed Refusal) → ((r >>= λ x. let q : Result Previous Refusal = Ok (record { part = x.part; pieces = as_map (lengths_from 0 x.entries) }) in q) >>= λ p. Ok p.part) ≡ (r >>= λ x. Ok x.part)
    by_index (Ok x) = refl
    by_index (Err e) = refl

pub part_is : (m : Files) (path : List ℕ) (whole : Option IndexKind) (offset : ℕ) (p : Previous) → previous_by whole m path offset ≡ Ok p → Ok p.part ≡ read_by whole m path offset
part_is m path whole offset p is = sym (ap (λ r. r >>= λ p. Ok p.part) is) ∙ part_alone whole m path offset

pub refusal_is : (m : Files) (path : List ℕ) (whole : Option IndexKind) (offset : ℕ) (r : Refusal) → previous_by whole m path offset ≡ Err r → Err r ≡ read_by whole m path offset
refusal_is m path whole offset r is = sym (ap (λ q. q >>= λ p. Ok p.part) is) ∙ part_alone whole m path offset

-- ---- what is kept

named_known : (pieces : Lengths) (x : Session) → is_named x ≡ true → is_named (with_known pieces x) ≡ true
named_known pieces kept.Idle h = h
named_known pieces (kept.Writer w) h = and_from (has_text ((w.session).writer).key) true (and_parts (has_text ((w.session).writer).key) _ h).0 refl
named_known pieces (kept.Reader r) h = h

named_by_whole : (whole : Option IndexKind) (pieces : Lengths) (x : Session) → is_named x ≡ true → is_named (known_by_whole whole pieces x) ≡ true
named_by_whole None pieces x h = h
named_by_whole (Some of_kind) pieces x h = named_known pieces x h

pub named_noted : {E : Type 0} (result : Result (Unit {0}) E) (whole : Option IndexKind) (pieces : Lengths) (x y : Session) → OnOk result (y ≡ known_by_whole whole pieces x) → OnErr result (y ≡ x) → is_named x ≡ true → is_named y ≡ true
named_noted (Ok u) whole pieces x y ok err h = ap is_named ok ∙ named_by_whole whole pieces x h
named_noted (Err e) whole pieces x y ok err h = ap is_named err ∙ h

-- ---- the pieces are there

in_part : {A : Type 0} (P : A → Type 0) (g : File → List A) (p : File → Bool) (fs : List File) (f : File) → find p fs ≡ Some f → All P (flat_map g fs) → All P (g f)
in_part P g p [] f e all = cc
in_part P g p (x ∷ xs) f e all = by_test (p x) e (λ later. in_part P g p xs f later rest_of)
  where
    first : All P (g x)
    first = λ i d lt. subst P (get_or-append (g x) (flat_map g xs) d i lt) (all i d (omega (arith, lt, length-append (g x) (flat_map g xs))))

    rest_of : All P (flat_map g xs)
    rest_of = λ i d lt. subst P (get_or-append-add (g x) (flat_map g xs) i d) (all (length (g x) + i) d (omega (arith, lt, length-append (g x) (flat_map g xs))))

    by_test : (b : Bool) → cond b (Some x) (find p xs) ≡ Some f → (find p xs ≡ Some f → All P (g f)) → All P (g f)
    by_test true e later = let same : x ≡ f = cc in subst (λ y. All P (g y)) same first
    by_test false e later = later e

pieces_held : (m : Files) (snapshots : List Snapshot) (key : SnapshotKey) (name : List ℕ) (x : Snapshot) (f : File) → snapshot_named key snapshots ≡ Some x → file_named name x.files ≡ Some f → All (HoldsPieces m) snapshots
    → All (HasChunk m) (pieces_of f.content)
pieces_held m snapshots key name x f kept_at named all =
    in_part (HasChunk m) (λ f. pieces_of f.content) _ x.files f named (found_in (HoldsPieces m) _ snapshots x all kept_at)

went : (s : Store) (lane : ℕ) (w : Writer) (reply : Reply) → goes_on s lane w reply ≡ Ok (with_session s lane (writer w), reply)
unfolding goes_on
went s lane w reply = refl

-- ---- the session that knows the pieces

pub shown_known : (v : Writer) (pieces : List (List ℕ)) → with_known (as_map (map known_of pieces)) (kept.Writer (shown_writer v)) ≡ kept.Writer (shown_writer (with_pool pieces v))
unfolding shown
shown_known v pieces =
    ap (λ (pool : Pool). kept.Writer (record { session = settled (record (shown v) { pool = pool }); files = shown_files v.key v.files }))
    (entries_listed (lengths_of v.pool) (map known_of pieces) ∙ sym (pool_of-all v.pool pieces))

-- pieces that are in the pool change nothing
pub shown_pooled : (v : Writer) (pieces : List (List ℕ)) → All (Contains v.pool) pieces → kept.Writer (shown_writer v) ≡ kept.Writer (shown_writer (with_pool pieces v))
unfolding shown
shown_pooled v pieces all =
    ap (λ (pool : Pool). kept.Writer (record { session = settled (record (shown v) { pool = pool }); files = shown_files v.key v.files }))
    (sym (lengths_there v.pool pieces all) ∙ sym (pool_of-all v.pool pieces))

-- ---- of an index of which the writer may name all pieces

named_of : (P : List ℕ → Type 0) (p : List ℕ → Bool) (names : List (List ℕ)) → All P names → list_any p names ≡ true → (n : List ℕ) × (p n ≡ true) × P n
named_of P p [] all e = cc
named_of P p (n ∷ ns) all e = by_test (p n) refl e (λ later. named_of P p ns (All-tail P n ns all) later)
  where
    by_test : (b : Bool) → p n ≡ b → (b || list_any p ns) ≡ true → (list_any p ns ≡ true → (m : List ℕ) × (p m ≡ true) × P m) → (m : List ℕ) × (p m ≡ true) × P m
    by_test true is e later = (n, is, All-head P n ns all)
    by_test false is e later = later e

pooled_in : (snapshots : List Snapshot) (key : SnapshotKey) (name path : List ℕ) (w : Writer) (row : Indexes) (t : IsThere snapshots key name path) → w.base ≡ Some key → FitsRow snapshots (writer w) row
    → is_pooled name row ≡ true → All (Contains w.pool) (pieces_of (t.file).content)
pooled_in snapshots key name path w Unread t base fit is = cc
pooled_in snapshots key name path w (Opened o) t base fit is = absurd fit
pooled_in snapshots key name path w (LastPage p) t base fit is = absurd fit
pooled_in snapshots key name path w (Pooled names) t base fit is =
    let (n, same, pooled) = named_of (IsPooled w.pool (files_of_base w.base snapshots)) (λ n. bytes_eq name n) names fit is in
    let here : content_at (files_named key snapshots) name ≡ Some (archive pooled.one) =
    ap (content_at (files_named key snapshots)) ((bytes_eq-Decides name n).0 same)
    ∙ subst (λ b. content_at (files_of_base b snapshots) n ≡ Some (archive pooled.one)) base pooled.named in
    let file : content_at (files_named key snapshots) name ≡ Some (t.file).content = ap (option_map (λ (f : File). f.content)) (there_named snapshots key name path t) in
    subst (λ c. All (Contains w.pool) (pieces_of c)) (contents (archive pooled.one) (t.file).content (sym here ∙ file)) pooled.pieces
  where
    contents : (x y : Content) → Some x ≡ Some y → x ≡ y
    contents x y e = cc

-- ---- the act

module _ {D : Type 0} (d : Ghosts D) where
  -- the lane's writer may name more pieces that are there
  holds_noted : (old new : Parts D) (s : Store) (lane : ℕ) (w : Writer) (pieces : List (List ℕ)) (y : Session) (left : Indexes) → lane < 64 → session s lane ≡ writer w → All IsPiece pieces → All (HasChunk (d.content old.disk)) pieces
      → (d.honest old.disk ↔ d.honest new.disk) → (d.honest old.disk → d.content new.disk ≡ d.content old.disk) → new.catalogue.listed ≡ old.catalogue.listed → new.sessions.items ≡ set old.sessions.items lane y → new.locks ≡ old.locks
      → new.indexes.items ≡ set old.indexes.items lane left → FitsRow s.snapshots (writer (with_pool pieces w)) left
      → y ≡ kept.Writer (shown_writer (with_pool pieces w)) → Holds d old s → Holds d new (with_session s lane (writer (with_pool pieces w)))
  holds_noted old new s lane w pieces y left lt at are there kept_on same c l k rows fit y_is h =
      let after = with_pool pieces w in
      let sound = (h.shows).sound in
      let within : lane < length s.sessions = omega (arith, sound.lanes, lt) in
      let row_there : lane < length old.indexes.items = omega (arith, old.rows, old.indexes.ok.0, lt) in
      let alone : IsAlone s lane after = λ i x ne x_at e. ne (sound.apart i lane x w x_at at e) in
      let is_writer = is_writer_pooled s w pieces are (sound.writers lane w at) in
      let uploads = has_uploads_pooled (d.content old.disk) w pieces there ((h.files).writers lane w at) in
      record {
        honest = kept_on.0 h.honest;
        shows = shows_changed old new s lane (writer after) y c l y_is (locked_writes_on old.locks new.locks s lane w after within k at refl refl (h.shows).locks)
            (subst (FitsRows (with_session s lane (writer after))) (sym rows) (rows_set s lane (writer after) old.indexes.items within (h.shows).indexes left row_there fit))
            (sound_writer s lane after lt is_writer alone sound) h.shows;
        files = subst (λ f. IsOnDisk f (with_session s lane (writer after))) (sym (same h.honest)) (disk_writer (d.content old.disk) s lane after within uploads h.files);
      }

-- a file that is no index has no pieces
no_index : (pool : List (List ℕ)) (name : List ℕ) (x : Content) → names_content x name ≡ true → kind_named name ≡ None → All (Contains pool) (pieces_of x)
no_index pool name (blob bytes) kind none = All-nil (Contains pool)
no_index pool name (archive a) kind none = absurd (some_none (layout_kind a.layout) (sym (layout_named a name kind) ∙ none))
  where
    some_none : (k : IndexKind) → ◌≡◌ {A = Option IndexKind} (Some k) None → ⊥
    some_none k e = cc

content_pieces : (x : Content) → FitsContent x → All IsPiece (pieces_of x)
content_pieces (archive a) fits = fits.1
content_pieces (blob bytes) fits = All-nil IsPiece

refused_by : (s : Store) (lane : ℕ) (name : List ℕ) (offset : ℕ) (w : Writer) (x : Content) (pieces : List (List ℕ × ℕ)) (r : Refusal) (part : Result Reply Refusal) → gives_with pieces part ≡ Err r → with_part s lane name offset w x part ≡ Err r
refused_by s lane name offset w x pieces r (Ok reply) e = cc
refused_by s lane name offset w x pieces r (Err q) e = let same : q ≡ r = cc in ap (λ x. let y : Outcome = Err x in y) same

-- what is given
pub record IsGiven (s : Store) (lane : ℕ) (name : List ℕ) (offset : ℕ) (w : Writer) (x : Content) (pieces : List (List ℕ × ℕ)) (part : Result Reply Refusal) (p : Previous) : Type 0 where
  pub step : with_part s lane name offset w x part ≡ Ok (with_session s lane (writer (with_pool (pieces_of x) w)), p.part)
  pub pieces_are : p.pieces ≡ as_map pieces

given_by : (s : Store) (lane : ℕ) (name : List ℕ) (offset : ℕ) (w : Writer) (x : Content) (pieces : List (List ℕ × ℕ)) (part : Result Reply Refusal) (p : Previous) → gives_with pieces part ≡ Ok p → IsGiven s lane name offset w x pieces part p
given_by s lane name offset w x pieces (Err q) p e = cc
given_by s lane name offset w x pieces (Ok reply) p e =
    let made : Previous = record { part = reply; pieces = as_map pieces } in
    let same : made ≡ p = cc in
    record {
      step = went s lane (with_pool (pieces_of x) w) reply ∙ ap (λ (q : Previous). let o : Outcome = Ok (with_session s lane (writer (with_pool (pieces_of x) w)), q.part) in o) same;
      pieces_are = ap (λ (q : Previous). q.pieces) (sym same);
    }

module _ {D : Type 0} (d : Ghosts D) (old new : Parts D) (s : Store) (lane m : ℕ) (name path : List ℕ) (offset : ℕ) (w : Writer)
    (at : session s lane ≡ writer w) (good : is_file_name name ≡ true) (h : Holds d old s) (b : HasBase s lane name offset w path) where
  abbrev file : Content
  file = ((b.there).file).content

  abbrev row : Indexes
  row = row_at old lane

  fits : FitsContent file
  fits = there_fits s.snapshots b.key name path b.there ((h.shows).sound).each

  fit : FitsRow s.snapshots (writer w) row
  fit = subst (λ x. FitsRow s.snapshots x row) at ((h.shows).indexes lane)

  pooled : is_pooled name row ≡ true → All (Contains w.pool) (pieces_of file)
  pooled = pooled_in s.snapshots b.key name path w row b.there b.base fit

  -- the pieces that are read of it
  abbrev read_pieces : Bool → List (List ℕ × ℕ)
  read_pieces is = if is then [] else known_pieces file

  read_by_row : (is : Bool) → previous_by (if is then None else kind_named name) (d.content old.disk) path offset ≡ gives_with (read_pieces is) (part_from (file_text file) offset)
  read_by_row true =
      gives_part (d.content old.disk) path (file_text file) offset (there_text (d.content old.disk) s.snapshots b.key name path b.there ((h.files).snapshots).files)
  read_by_row false =
      given (d.content old.disk) path name offset file (there_kind s.snapshots b.key name path b.there ((h.shows).sound).each) fits
      (there_text (d.content old.disk) s.snapshots b.key name path b.there ((h.files).snapshots).files)

  read_is : previous_by (whole_for row name) (d.content old.disk) path offset ≡ gives_with (read_pieces (is_pooled name row)) (part_from (file_text file) offset)
  read_is = read_by_row (is_pooled name row)

  outcome_is : outcome s lane m (PreviousCommand name offset) ≡ with_part s lane name offset w file (part_from (file_text file) offset)
  outcome_is = reads_it s lane name offset m w path b at good

  -- the part is refused
  pub part_refused : (r : Refusal) → previous_by (whole_for row name) (d.content old.disk) path offset ≡ Err r → outcome s lane m (PreviousCommand name offset) ≡ Err r
  part_refused r is = outcome_is ∙ refused_by s lane name offset w file (read_pieces (is_pooled name row)) r (part_from (file_text file) offset) (sym read_is ∙ is)

  -- the session then has the pool with its pieces, whether they were read now or before
  session_by : (whole : Option IndexKind) (pieces : List (List ℕ × ℕ)) → (whole ≡ None → All (Contains w.pool) (pieces_of file)) → (is_some whole ≡ true → pieces ≡ known_pieces file)
      → known_by_whole whole (as_map pieces) (kept.Writer (shown_writer w)) ≡ kept.Writer (shown_writer (with_pool (pieces_of file) w))
  session_by None pieces part are = shown_pooled w (pieces_of file) (part refl)
  session_by (Some of_kind) pieces part are = ap (λ ks. with_known (as_map ks) (kept.Writer (shown_writer w))) (are refl) ∙ shown_known w (pieces_of file)

  -- a file that is read in part has no other piece
  no_other : (is : Bool) → is_pooled name row ≡ is → (if is then None else kind_named name) ≡ None → All (Contains w.pool) (pieces_of file)
  no_other true e none = pooled e
  no_other false e none = no_index w.pool name file (there_kind s.snapshots b.key name path b.there ((h.shows).sound).each) none

  whole_pieces : (is : Bool) → is_some (if is then None else kind_named name) ≡ true → read_pieces is ≡ known_pieces file
  whole_pieces true some = cc
  whole_pieces false some = refl

  session_is : known_by_whole (whole_for row name) (as_map (read_pieces (is_pooled name row))) (kept.Writer (shown_writer w)) ≡ kept.Writer (shown_writer (with_pool (pieces_of file) w))
  session_is = session_by (whole_for row name) (read_pieces (is_pooled name row)) (no_other (is_pooled name row) refl) (whole_pieces (is_pooled name row))

  -- and the lane keeps the names of indexes whose pieces are in it
  fits_on : FitsRow s.snapshots (writer (with_pool (pieces_of file) w)) row
  fits_on = writer_keeps s.snapshots w (with_pool (pieces_of file) w) row refl (Contains-append_left w.pool (pieces_of file)) fit

  pooled_now : (a : Archive) → file ≡ archive a → IsPooled (with_pool (pieces_of file) w).pool (files_of_base w.base s.snapshots) name
  pooled_now a is = record {
    one = a;
    named = ap (λ o. content_at (files_of_base o s.snapshots) name) b.base ∙ ap (option_map (λ (f : File). f.content)) (there_named s.snapshots b.key name path b.there) ∙ ap Some is;
    pieces = subst (λ c. All (Contains (with_pool (pieces_of file) w).pool) (pieces_of c)) is (all_pooled w.pool (pieces_of file));
  }

  fits_names : (x : Indexes) → FitsRow s.snapshots (writer (with_pool (pieces_of file) w)) x → IsPooled (with_pool (pieces_of file) w).pool (files_of_base w.base s.snapshots) name
      → FitsRow s.snapshots (writer (with_pool (pieces_of file) w)) (Pooled (pooling name x))
  fits_names Unread is now = All-cons (IsPooled (with_pool (pieces_of file) w).pool (files_of_base w.base s.snapshots)) name [] now (All-nil (IsPooled (with_pool (pieces_of file) w).pool (files_of_base w.base s.snapshots)))
  fits_names (Pooled names) is now = All-cons (IsPooled (with_pool (pieces_of file) w).pool (files_of_base w.base s.snapshots)) name names now is
  fits_names (Opened o) is now = absurd is
  fits_names (LastPage p) is now = absurd is

  -- an index is an archive
  fits_whole : (whole : Option IndexKind) → (is_some whole ≡ true → is_some (kind_named name) ≡ true) → FitsRow s.snapshots (writer (with_pool (pieces_of file) w)) (kept_by_whole whole name row)
  fits_whole None some = fits_on
  fits_whole (Some of_kind) some = by_content file refl (there_kind s.snapshots b.key name path b.there ((h.shows).sound).each)
    where
      by_content : (x : Content) → file ≡ x → names_content x name ≡ true → FitsRow s.snapshots (writer (with_pool (pieces_of file) w)) (Pooled (pooling name row))
      by_content (blob bytes) is kind = absurd (false_true (subst (λ o. is_some o ≡ true) (whole_blob name kind) (some refl)))
      by_content (archive a) is kind = fits_names row fits_on (pooled_now a is)

  indexed : (is : Bool) → is_some (if is then None else kind_named name) ≡ true → is_some (kind_named name) ≡ true
  indexed true some = cc
  indexed false some = some

  -- it is given, and its pieces may be named
  pub part_done : (p : Previous) (y : Session) → lane < 64 → previous_by (whole_for row name) (d.content old.disk) path offset ≡ Ok p
      → (d.honest old.disk ↔ d.honest new.disk) → (d.honest old.disk → d.content new.disk ≡ d.content old.disk) → new.catalogue.listed ≡ old.catalogue.listed → new.sessions.items ≡ set old.sessions.items lane y → new.locks ≡ old.locks
      → new.indexes.items ≡ set old.indexes.items lane (kept_by_whole (whole_for row name) name row) → y ≡ known_by_whole (whole_for row name) p.pieces (kept.Writer (shown_writer w))
      → (after : Store) × (outcome s lane m (PreviousCommand name offset) ≡ Ok (after, p.part)) × Shows new after × IsOnDisk (d.content new.disk) after
  part_done p y lt is kept_on same c l k rows noted =
      let g = given_by s lane name offset w file (read_pieces (is_pooled name row)) (part_from (file_text file) offset) p (sym read_is ∙ is) in
      let there = pieces_held (d.content old.disk) s.snapshots b.key name (b.there).snapshot (b.there).file (b.there).kept (b.there).named ((h.files).snapshots).pieces in
      let y_is = noted ∙ ap (λ ks. known_by_whole (whole_for row name) ks (kept.Writer (shown_writer w))) g.pieces_are ∙ session_is in
      let holds = holds_noted d old new s lane w (pieces_of file) y (kept_by_whole (whole_for row name) name row) lt at (content_pieces file fits) there kept_on same c l k rows (fits_whole (whole_for row name) (indexed (is_pooled name row))) y_is h in
      (with_session s lane (writer (with_pool (pieces_of file) w)), outcome_is ∙ g.step, holds.shows, holds.files)

-- ---- what was asked for

module _ (k : KeptAt) (name : List ℕ) (offset : ℕ) where
  abbrev at_base : Result (List ℕ) Refusal → Option Asked
  at_base found = asked_at (whole_for k.row name) offset found

  abbrev asked_in : Session → Option Asked
  asked_in session = asked_by k.row k.catalogue name offset session

  asked_writer : (w : Writing) (found : Result (List ℕ) Refusal) → k.session ≡ kept.Writer w → is_file_name name ≡ true
      → base_file ((w.session).writer).base name k.catalogue ≡ found → asked_of_base name offset k ≡ at_base found
  asked_writer w found is good at =
      ap asked_in is ∙ ap (λ b. cond b (at_base (base_file ((w.session).writer).base name k.catalogue)) None) good ∙ ap at_base at

  asked_bad : is_file_name name ≡ false → asked_of_base name offset k ≡ None
  asked_bad bad = from_session k.session
    where
      from_session : (session : Session) → asked_in session ≡ None
      from_session kept.Idle = refl
      from_session (kept.Writer w) = ap (λ b. cond b (at_base (base_file ((w.session).writer).base name k.catalogue)) None) bad
      from_session (kept.Reader r) = refl

  asked_unwritten : (r : Refusal) → wants.want_writer k.session ≡ Err r → asked_of_base name offset k ≡ None
  asked_unwritten r none = from_session k.session none
    where
      from_session : (session : Session) → wants.want_writer session ≡ Err r → asked_in session ≡ None
      from_session kept.Idle none = refl
      from_session (kept.Writer w) none = cc
      from_session (kept.Reader q) none = refl

state_apart : (state : SessionState) (name : List ℕ) → Some (replies.Refused (WrongState state)) ≡ Some (replies.Refused (Unreadable name)) → ⊥
state_apart state name e = cc

name_apart : (name : List ℕ) → Some (replies.Refused BadName) ≡ Some (replies.Refused (Unreadable name)) → ⊥
name_apart name e = cc

-- the refusals of a base's file
module _ (base : Option SnapshotKey) (name : List ℕ) (catalogue : List Listed) (r : Refusal) where
  either_is : base_file base name catalogue ≡ Err r → (r ≡ NoSnapshot) ⊎ (r ≡ NoFile)
  unfolding base_file
  either_is is = from_state (kept_by base catalogue) is
    where
      by_path : (o : Option (List ℕ)) → or_else NoFile o ≡ Err r → (r ≡ NoSnapshot) ⊎ (r ≡ NoFile)
      by_path None e = inr cc
      by_path (Some p) e = cc

      from_state : (o : Option Kept) → (or_else NoSnapshot o >>= λ k. or_else NoFile (path_named name k.files)) ≡ Err r → (r ≡ NoSnapshot) ⊎ (r ≡ NoFile)
      from_state None e = inl cc
      from_state (Some k) e = by_path (path_named name k.files) e

  pub base_apart : base_file base name catalogue ≡ Err r → (told : List ℕ) → Some (replies.Refused r) ≡ Some (replies.Refused (Unreadable told)) → ⊥
  base_apart is told e = ⊎_elim (λ a. snapshot_no told (sym (ap (λ x. Some (replies.Refused x)) a) ∙ e)) (λ b. file_no told (sym (ap (λ x. Some (replies.Refused x)) b) ∙ e)) (either_is is)
    where
      snapshot_no : (told : List ℕ) → Some (replies.Refused NoSnapshot) ≡ Some (replies.Refused (Unreadable told)) → ⊥
      snapshot_no told e = cc

      file_no : (told : List ℕ) → Some (replies.Refused NoFile) ≡ Some (replies.Refused (Unreadable told)) → ⊥
      file_no told e = cc

-- ---- what is answered

pub part_answers : (reply : Reply) → IsPart reply → answers_previous reply ≡ true
part_answers (Part total bytes) h = refl
part_answers _ h = absurd h

pub part_plain : (reply : Reply) → IsPart reply → IsNoRefusal reply
part_plain (Part total bytes) h = tt
part_plain _ h = absurd h

pub refusal_answers : (path : List ℕ) (r : Refusal) → RefusesPart path r → refuses_previous r ≡ true
refusal_answers path (BadRange size) h = refl
refusal_answers path (Unreadable name) h = refl
refusal_answers path _ h = absurd h

-- ---- what stops it

-- of a stop by a read
pub stop_as : (P Q : Refusal → Type 0) (e : Stop) → ((r : Refusal) → P r → Q r) → IfRefused P e → IfRefused Q e
stop_as P Q (Refused r) so p = so r p
stop_as P Q NoMemory so p = tt
stop_as P Q DiskFailed so p = tt

pub stop_gives : {A B : Type 0} (f : A → B) (wanted : Result B Refusal) (Q : Refusal → Type 0) (e : Stop) → ((r : Refusal) → wanted ≡ Err r → Q r) → Gives f (Err e) wanted → IfRefused Q e
stop_gives f wanted Q (Refused r) so g = so r g
stop_gives f wanted Q NoMemory so g = tt
stop_gives f wanted Q DiskFailed so g = tt

-- ---- whether it is unreadable

module _ {D : Type 0} (d : Ghosts D) (disk : D) (asked : Option Asked) where
  abbrev TellsSo : Result Reply Stop → Type 0
  TellsSo result = TellsUnreadable d disk asked (kind_by (told result)) (Some (reply_by (told result)))

  by_stop : (result : Result Reply Stop) (stop : Stop) → IsErrAnd result (λ x. x ≡ stop) → TellsSo (Err stop) → TellsSo result
  by_stop (Ok reply) stop is p = absurd is
  by_stop (Err x) stop is p = subst (λ y. TellsSo (Err y)) (sym is) p

  pub tells_short : (result : Result Reply Stop) → IsErrAnd result (λ x. x ≡ NoMemory) → TellsSo result
  tells_short result is = by_stop result NoMemory is (tells_failed d disk asked disks.NoMemory)

module _ {D : Type 0} (d : Ghosts D) (disk : D) (k : KeptAt) (name : List ℕ) (offset : ℕ) where
  abbrev asks : Option Asked
  asks = asked_of_base name offset k

  pub tells_unwritten : (r : Refusal) (result : Result Reply Stop) → IsErrAnd result (λ x. x ≡ Refused r) → wants.want_writer k.session ≡ Err r → TellsSo d disk asks result
  tells_unwritten r result is none = by_stop d disk asks result (Refused r) is
      (unwritten_by_state k.session r (λ x. TellsUnreadable d disk asks 0 (Some (replies.Refused x))) (λ state. tells_other d disk asks 0 _ (λ told e. state_apart state told e) (asked_unwritten k name offset r none)) none)

  pub tells_unnamed : (stop : Stop) (result : Result Reply Stop) → IsErrAnd result (λ x. x ≡ stop) → IsNoName name stop → TellsSo d disk asks result
  tells_unnamed stop result is bad = by_stop d disk asks result stop is (by_name stop bad)
    where
      by_name : (stop : Stop) → IsNoName name stop → TellsSo d disk asks (Err stop)
      by_name (Refused r) bad = subst (λ x. TellsUnreadable d disk asks 0 (Some (replies.Refused x))) (sym bad.0) (tells_other d disk asks 0 _ (λ told e. name_apart told e) (asked_bad k name offset bad.1))
      by_name NoMemory bad = tells_failed d disk asks disks.NoMemory
      by_name DiskFailed bad = absurd bad

  pub tells_no_base : (w : Writing) (r : Refusal) (result : Result Reply Stop) → IsErrAnd result (λ x. x ≡ Refused r) → k.session ≡ kept.Writer w → is_file_name name ≡ true → base_file ((w.session).writer).base name k.catalogue ≡ Err r → TellsSo d disk asks result
  tells_no_base w r result is at good none = by_stop d disk asks result (Refused r) is
      (tells_other d disk asks 0 _ (λ told e. base_apart ((w.session).writer).base name k.catalogue r none told e) (asked_writer k name offset w (Err r) at good none))

  -- the file was read
  module _ (w : Writing) (path : List ℕ) (at : k.session ≡ kept.Writer w) (good : is_file_name name ≡ true) (there : base_file ((w.session).writer).base name k.catalogue ≡ Ok path) where
    abbrev a : Asked
    a = record { path = path; way = from_offset (whole_for k.row name) offset }

    asked_is : asks ≡ Some a
    asked_is = asked_writer k name offset w (Ok path) at good there

    pub tells_unread : (e : Stop) (result : Result Reply Stop) → IsErrAnd result (λ x. x ≡ e) → IfRefused (RefusesPart path) e
        → (d.honest disk → Gives shown_given (Err e) (previous_by (whole_for k.row name) (d.content disk) path offset)) → TellsSo d disk asks result
    tells_unread e result is kind exact = by_stop d disk asks result e is (by_error e kind exact)
      where
        by_error : (e : Stop) → IfRefused (RefusesPart path) e → (d.honest disk → Gives shown_given (Err e) (previous_by (whole_for k.row name) (d.content disk) path offset)) → TellsSo d disk asks (Err e)
        by_error (Refused r) kind exact = tells_read d disk asks a (Err r) asked_is kind (λ honest. refusal_is (d.content disk) path (whole_for k.row name) offset r (exact honest))
        by_error NoMemory kind exact = tells_failed d disk asks disks.NoMemory
        by_error DiskFailed kind exact = tells_failed d disk asks disks.Failed

    pub tells_given : (g : Given) → IsPart (part_reply g.part) → (d.honest disk → previous_by (whole_for k.row name) (d.content disk) path offset ≡ Ok (shown_given g)) → TellsSo d disk asks (Ok (part_reply g.part))
    tells_given g kind exact = tells_read d disk asks a (Ok (part_reply g.part)) asked_is kind (λ honest. part_is (d.content disk) path (whole_for k.row name) offset (shown_given g) (exact honest))

    -- and its part was asked for
    pub reads_asked : (new : D) → CallsForPart d disk new path (whole_for k.row name) → CallsForAsked d disk new asks
    reads_asked new calls = called d disk new asks path (whole_for k.row name) offset asked_is calls

pub base_of_shown : (v : Writer) (w : Writing) → shown_writer v ≡ w → v.base ≡ ((w.session).writer).base
unfolding shown
base_of_shown v w is = ap (λ (x : Writing). ((x.session).writer).base) is

-- ---- the session that notes the pieces

pub noted_ok : {E : Type 0} (r : Result (Unit {0}) E) (found : Session) (w : Writing) (new : backups.Session) (pieces : Lengths) → found ≡ kept.Writer w → OnOk r (new ≡ settled (rows.previous (w.session).writer pieces))
    → OnOk r (kept.Writer (record w { session = new }) ≡ with_known pieces found)
noted_ok (Ok u) found w new pieces is h = ap (λ x. kept.Writer (record w { session = x })) h ∙ ap (with_known pieces) (sym is)
noted_ok (Err e) found w new pieces is h = tt

pub noted_err : {E : Type 0} (r : Result (Unit {0}) E) (found : Session) (w : Writing) (new : backups.Session) → found ≡ kept.Writer w → OnErr r (new ≡ w.session) → OnErr r (kept.Writer (record w { session = new }) ≡ found)
noted_err (Ok u) found w new is h = tt
noted_err (Err e) found w new is h = ap (λ x. kept.Writer (record w { session = x })) h ∙ sym is

-- ---- what was read

-- a file that is no index
plain_is : (m : Files) (path : List ℕ) (whole : Option IndexKind) (offset : ℕ) → whole ≡ None → previous_by whole m path offset ≡ (part_at m path offset >>= λ part. Ok (record { part = part; pieces = empty }))
plain_is m path whole offset plain = ap (λ o. previous_by o m path offset) plain

pub plain_read : (m : Files) (path : List ℕ) (whole : Option IndexKind) (offset : ℕ) (g : Given) (part : Reply) → whole ≡ None → part_at m path offset ≡ Ok part → (part_reply g.part) ≡ part → g.pieces ≡ empty → Gives shown_given (Ok g) (previous_by whole m path offset)
plain_read m path whole offset g part plain is same none =
    plain_is m path whole offset plain ∙ ap (λ q. q >>= λ x. let p : Result Previous Refusal = Ok (record { part = x; pieces = empty }) in p) is
    ∙ ap (λ x. let p : Result Previous Refusal = Ok (record { part = x; pieces = empty }) in p) (sym same)
    ∙ ap (λ xs. let p : Result Previous Refusal = Ok (record { part = (part_reply g.part); pieces = xs }) in p) (sym none)

pub plain_unread : (m : Files) (path : List ℕ) (whole : Option IndexKind) (offset : ℕ) (e : Stop) (result : Result Given Stop) → IsErrAnd result (λ x. x ≡ e) → whole ≡ None → Gives part_reply (Err e) (part_at m path offset)
    → Gives shown_given result (previous_by whole m path offset)
plain_unread m path whole offset e (Ok g) is plain gives = absurd is
plain_unread m path whole offset e (Err x) is plain gives = subst (λ y. Gives shown_given (Err y) (previous_by whole m path offset)) (sym is) (by_error e gives)
  where
    by_error : (e : Stop) → Gives part_reply (Err e) (part_at m path offset) → Gives shown_given (Err e) (previous_by whole m path offset)
    by_error (Refused r) is = plain_is m path whole offset plain ∙ ap (λ q. q >>= λ x. let p : Result Previous Refusal = Ok (record { part = x; pieces = empty }) in p) is
    by_error NoMemory is = tt
    by_error DiskFailed is = tt

-- an index
pub whole_given : (m : Files) (path q : List ℕ) (kind : IndexKind) (offset : ℕ) (part : Reply) (entries : List Ended) (pieces : Lengths) → q ≡ path
    → index_at m q kind offset ≡ Ok (record { part = part; entries = entries }) → pieces ≡ as_map (lengths_from 0 entries)
    → previous_by (Some kind) m path offset ≡ Ok (record { part = part; pieces = pieces })
whole_given m path q kind offset part entries pieces same is are =
    ap (λ r. r >>= λ x. let p : Result Previous Refusal = Ok (record { part = x.part; pieces = as_map (lengths_from 0 x.entries) }) in p) (ap (λ p. index_at m p kind offset) (sym same) ∙ is)
    ∙ ap (λ ks. let p : Result Previous Refusal = Ok (record { part = part; pieces = ks }) in p) (sym are)

pub index_unread : (m : Files) (path q : List ℕ) (kind : IndexKind) (offset : ℕ) (e : Stop) (result : Result Given Stop) → IsErrAnd result (λ x. x ≡ e) → q ≡ path → IfRefused (λ r. index_at m q kind offset ≡ Err r) e
    → Gives shown_given result (previous_by (Some kind) m path offset)
index_unread m path q kind offset e (Ok g) is same gives = absurd is
index_unread m path q kind offset e (Err x) is same gives = subst (λ y. Gives shown_given (Err y) (previous_by (Some kind) m path offset)) (sym is) (by_error e gives)
  where
    by_error : (e : Stop) → IfRefused (λ r. index_at m q kind offset ≡ Err r) e → Gives shown_given (Err e) (previous_by (Some kind) m path offset)
    by_error (Refused r) is = ap (λ y. y >>= λ x. let p : Result Previous Refusal = Ok (record { part = x.part; pieces = as_map (lengths_from 0 x.entries) }) in p) (ap (λ p. index_at m p kind offset) (sym same) ∙ is)
    by_error NoMemory is = tt
    by_error DiskFailed is = tt

-- ---- the exits

no_fault : {P : Type 0} → IsErrOf {T = Given} (Err NoMemory) DiskFailed → P
no_fault f = cc

-- what the lane keeps once its row was put there
row_left : {D : Type 0} (old new : Parts D) (lane : ℕ) → lane < 64 → (left : Indexes) → new.indexes.items ≡ set old.indexes.items lane left → row_at new lane ≡ left
row_left old new lane lt left rows =
    let row_there : lane < length old.indexes.items = omega (arith, old.rows, old.indexes.ok.0, lt) in
    ap (λ xs. row_in xs lane) rows ∙ get_or-set_same old.indexes.items lane left Unread row_there

module _ {D : Type 0} (d : Ghosts D) (old new : Parts D) (at : Place) (name : List ℕ) (offset : ℕ) where
  -- it stopped
  pub notes_none : (stop : Stop) (result : Result Reply Stop) → IsErrAnd result (λ x. x ≡ stop) → new.indexes.items ≡ old.indexes.items → NotesPooled d old new at.lane name offset result
  notes_none stop (Ok reply) is same = absurd is
  notes_none stop (Err e) is same = record { noted = tt; known = tt; stopped = ap (λ xs. row_in xs at.lane) same }

  -- it is done
  pub notes_done : at.lane < 64 → (w : Writing) (path : List ℕ) (g : Given) (y : Session) → session_at old at.lane ≡ kept.Writer w → is_file_name name ≡ true
      → base_file ((w.session).writer).base name old.catalogue.listed ≡ Ok path → ArePieces g.pieces
      → (d.honest old.disk → previous_by (whole_for (row_at old at.lane) name) (d.content old.disk) path offset ≡ Ok (shown_given g))
      → new.sessions.items ≡ set old.sessions.items at.lane y → y ≡ known_by_whole (whole_for (row_at old at.lane) name) g.pieces (session_at old at.lane)
      → new.indexes.items ≡ set old.indexes.items at.lane (kept_by_whole (whole_for (row_at old at.lane) name) name (row_at old at.lane)) → NotesPooled d old new at.lane name offset (Ok (part_reply g.part))
  notes_done lt w path g y writes good there are exact sessions noted rows =
      let within : at.lane < length old.sessions.items = omega (arith, old.lanes, old.sessions.ok.0, lt) in
      let left = row_left old new at.lane lt (kept_by_whole (whole_for (row_at old at.lane) name) name (row_at old at.lane)) rows in record {
        noted = left;
        known = record {
          path = path;
          asked = asked_writer (kept_at old at.lane) name offset w (Ok path) writes good there;
          pieces = g.pieces;
          are = are;
          read = exact;
          known = ap (λ (xs : List Session). get_or xs at.lane kept.Idle) sessions ∙ get_or-set_same old.sessions.items at.lane y kept.Idle within ∙ noted;
        };
        stopped = tt;
      }

module _ {D : Type 0} (d : Ghosts D) (parts : Parts D) (at : Place) (name : List ℕ) (offset : ℕ) where
  abbrev act : Act
  act = Plain (PreviousCommand name offset)

  -- the text is no file's name, or memory is wanting
  pub unnamed_does : (stop : Stop) (result : Result Reply Stop) → IsErrAnd result (λ x. x ≡ stop) → at.lane < 64 → (w : Writing) → wants.want_writer (session_at parts at.lane) ≡ Ok w → IsNoName name stop → ActDoes d parts parts at act result
  unnamed_does (Refused r) result is lt w writes bad =
      refused_does d parts parts at act r result is refl (same_kept parts) (subst (λ x. ReplyHasText (replies.Refused x)) (sym bad.0) bad_name_has_text) (ap refuses_previous bad.0)
      (λ s shows.
      let (v, v_at, v_is) = writer_shown parts s at.lane w shows lt writes in
      bad_name s at.lane name offset at.moment v v_at bad.1 ∙ ap (λ x. let o : Outcome = Err x in o) (sym bad.0))
  unnamed_does NoMemory result is lt w writes bad = short_does d parts parts at act result is refl (same_kept parts)
  unnamed_does DiskFailed result is lt w writes bad = absurd bad

  pub unnamed_leaves : (stop : Stop) (result : Result Reply Stop) → IsErrAnd result (λ x. x ≡ stop) → IsNoName name stop → ActLeaves d parts parts at act result
  unnamed_leaves (Refused r) result is bad = refused_leaves d parts parts at act r result is refl (same_kept parts) (λ closing. false_true closing)
  unnamed_leaves NoMemory result is bad = short_leaves d parts parts at act result is refl (same_kept parts) (λ closing. false_true closing)
  unnamed_leaves DiskFailed result is bad = absurd bad

  -- the base has no such file
  pub no_base_does : (new : Parts D) → new.disk ≡ parts.disk → SameKept parts new → (r : Refusal) (result : Result Reply Stop) → IsErrAnd result (λ x. x ≡ Refused r) → at.lane < 64 → (w : Writing) → wants.want_writer (session_at parts at.lane) ≡ Ok w → is_file_name name ≡ true
      → base_file ((w.session).writer).base name parts.catalogue.listed ≡ Err r → ReplyHasText (replies.Refused r) → refuses_previous r ≡ true → ActDoes d parts new at act result
  no_base_does new same kept_so r result is lt w writes good none text kind =
      refused_does d parts new at act r result is same kept_so text kind
      (λ s shows.
      let (v, v_at, v_is) = writer_shown parts s at.lane w shows lt writes in
      no_base s at.lane name offset at.moment parts.catalogue.listed v r v_at good shows.catalogue (ap (λ b. base_file b name parts.catalogue.listed) (base_of_shown v w v_is) ∙ none))

  pub no_base_leaves : (new : Parts D) → new.disk ≡ parts.disk → SameKept parts new → (r : Refusal) (result : Result Reply Stop) → IsErrAnd result (λ x. x ≡ Refused r) → ActLeaves d parts new at act result
  no_base_leaves new same kept_so r result is = refused_leaves d parts new at act r result is same kept_so (λ closing. false_true closing)

  module _ (new : Parts D) (failed : Type 0) (read : OnlyReads d parts.disk new.disk failed) where
    pub unread_leaves : (path : List ℕ) (e : Stop) (result : Result Reply Stop) → IsErrAnd result (λ x. x ≡ e) → SameKept parts new → IfRefused (RefusesPart path) e → ActLeaves d parts new at act result
    unread_leaves path e result is kept kind =
        stopped_leaves d parts new at act e result failed is read kept refl
        (stop_as (RefusesPart path) (λ r. is_uncalled r ≡ true → new.disk ≡ parts.disk) e (λ r k t. absurd (false_true (sym (refusal_called path r k) ∙ t))) kind) (λ closing. false_true closing)

    pub given_leaves : (g : Given) → IsPart (part_reply g.part) → new.catalogue.listed ≡ parts.catalogue.listed → (left : Indexes) → new.indexes.items ≡ set parts.indexes.items at.lane left → OthersStay parts new at.lane → ActLeaves d parts new at act (Ok (part_reply g.part))
    given_leaves g kind c left rows others =
        writes_leaves d parts new at act (part_reply g.part) (part_plain (part_reply g.part) kind) refl (λ h. read.same h) read.crash tt c (λ admin. absurd (false_true admin)) (adds_same d parts new act (Ok (part_reply g.part)) read.same) (λ ends. absurd (false_true ends)) (λ writes. absurd (false_true writes)) (rows_but parts new.indexes.items at.lane act left refl rows) others

    -- memory is wanting for what was read
    pub unnoted_leaves : (result : Result Reply Stop) → IsErrAnd result (λ x. x ≡ NoMemory) → SameKept parts new → ActLeaves d parts new at act result
    unnoted_leaves result is kept = unread_leaves [] NoMemory result is kept tt

    module _ (w : Writing) (path : List ℕ) (lt : at.lane < 64) (writes : wants.want_writer (session_at parts at.lane) ≡ Ok w) (good : is_file_name name ≡ true) (there : base_file ((w.session).writer).base name parts.catalogue.listed ≡ Ok path) where
      based : (s : Store) (v : Writer) → Holds d parts s → shown_writer v ≡ w → HasBase s at.lane name offset v path
      based s v h v_is = has_base s at.lane name offset parts.catalogue.listed v path (h.shows).catalogue (ap (λ b. base_file b name parts.catalogue.listed) (base_of_shown v w v_is) ∙ there)

      -- it is not read
      pub unread_does : (e : Stop) (result : Result Reply Stop) → IsErrAnd result (λ x. x ≡ e) → (IsErrOf {T = Given} (Err e) DiskFailed → failed) → SameKept parts new → StopHasText e → IfRefused (RefusesPart path) e
          → (d.honest parts.disk → Gives shown_given (Err e) (previous_by (whole_for (row_at parts at.lane) name) (d.content parts.disk) path offset)) → ActDoes d parts new at act result
      unread_does e result is why kept text kind exact =
          stopped_does d {A = Given} parts new at act (Err e) e result is refl (reads_as d parts.disk new.disk failed _ why read) kept
          text (stop_as (RefusesPart path) (λ r. refuses_previous r ≡ true) e (λ r k. refusal_answers path r k) kind)
          (λ s h.
          let (v, v_at, v_is) = writer_shown parts s at.lane w h.shows lt writes in
          stop_gives shown_given (previous_by (whole_for (row_at parts at.lane) name) (d.content parts.disk) path offset) (λ r. outcome s at.lane at.moment (PreviousCommand name offset) ≡ Err r) e
          (λ r is. part_refused d parts new s at.lane at.moment name path offset v v_at good h (based s v h v_is) r is) (exact h.honest))

      pub unnoted_does : (result : Result Reply Stop) → IsErrAnd result (λ x. x ≡ NoMemory) → SameKept parts new → ActDoes d parts new at act result
      unnoted_does result is kept = unread_does NoMemory result is (λ f. no_fault f) kept tt tt (λ honest. tt)

      -- it is given
      pub given_does : (g : Given) (y found : Session) → IsPart (part_reply g.part) → ReplyHasText (part_reply g.part) → (d.honest parts.disk → previous_by (whole_for (row_at parts at.lane) name) (d.content parts.disk) path offset ≡ Ok (shown_given g))
          → new.catalogue.listed ≡ parts.catalogue.listed → new.sessions.items ≡ set parts.sessions.items at.lane y → new.locks ≡ parts.locks
          → new.indexes.items ≡ set parts.indexes.items at.lane (kept_by_whole (whole_for (row_at parts at.lane) name) name (row_at parts at.lane)) → found ≡ kept.Writer w → y ≡ known_by_whole (whole_for (row_at parts at.lane) name) g.pieces found
          → ActDoes d parts new at act (Ok (part_reply g.part))
      given_does g y found kind text exact c l k rows found_is y_is =
          writes_does d parts new at act (part_reply g.part) failed read.serves text (part_answers (part_reply g.part) kind) (part_plain (part_reply g.part) kind)
          (λ safe s h.
          let (v, v_at, v_is) = writer_shown parts s at.lane w h.shows lt writes in
          part_done d parts new s at.lane at.moment name path offset v v_at good h (based s v h v_is) (shown_given g) y lt (exact h.honest) (read.serves).kept read.same c l k rows
          (y_is ∙ ap (known_by_whole (whole_for (row_at parts at.lane) name) g.pieces) (found_is ∙ ap (λ x. kept.Writer x) (sym v_is))))
