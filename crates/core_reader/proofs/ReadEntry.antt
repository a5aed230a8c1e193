-- A VERIFY's read of a chunk is the store's.
use Rattle.disk_trait.specs.declared.disk.Disk.{Ghosts}
use Rattle.std.proofs.Common.{◌≡◌, ◌<◌, ◌≤◌, ℕ, zero, suc, ◌+◌, ◌*◌, take, drop, ap₂, Bool, true, false, nat_lt, if◌then◌else◌, List, [], ◌∷◌, length, slice_get, Option, Some, None, Result, Ok, Err, IsErrAnd, IsTrue, refl, sym, ap, subst, ◌∙◌, arith}
use Rattle.std.proofs.lemmas.Bool.{eqb-true, le-ltb, or_from}
use Rattle.std.proofs.lemmas.List.Elements.{All-cons, All-head, All-nil, All-tail}
use Rattle.std.specs.Prelude.{◌/◌, ◌==◌}
use Rattle.std.specs.FinMap.{get}
use Rattle.std.specs.List.{All}
use Rattle.std.specs.Option.{option_map}
use Rattle.std.specs.Result.{result_ok}
use Rattle.disk_trait.specs.Files.{Files}
use Rattle.disk_trait.specs.declared.disk.DiskError.TheVariants as disks
use Rattle.store_types.specs.declared.names.Digest32.{Digest32}
use Rattle.store_types.specs.declared.names.SnapshotKey.{SnapshotKey}
use Rattle.store_types.specs.declared.refusal.ChunkFault.{ChunkFault}
use Rattle.store_types.specs.declared.refusal.ChunkFault.TheVariants.{NotABlob, Nothing}
use Rattle.store_types.specs.declared.refusal.Refusal.{Refusal}
use Rattle.store_types.specs.declared.refusal.Refusal.TheVariants.{BadRange, Damaged, NoFile, Unreadable}
use Rattle.store_types.specs.Chain.Refusing.{◌>>=◌, or_else}
use Rattle.store_types.specs.FileNames.{is_dynamic_name, is_fixed_name, is_index_name}
use Rattle.blob_codec.specs.Blob.{blob as blob_of, blob_limit}
use Rattle.store_files.specs.Archive.{Archive, Content, File, Snapshot, archive, blob, digest_of, ends_from, file_named, file_text, pieces_of}
use Rattle.store_files.specs.Folder.{chunk_name, file_path}
use Rattle.wire_frames.specs.Frames.{body_limit}
use Rattle.wire_commands.specs.declared.reply.Reply.{Reply}
use Rattle.wire_commands.specs.declared.reply.Reply.TheVariants as replies
use Rattle.wire_commands.specs.declared.reply.Reply.TheVariants.{Data, Done}
use Rattle.store_model.specs.Store as model
use Rattle.store_model.specs.Store.{Store, Outcome, reader, session, want_reader}
use Rattle.store_model.specs.ReaderSteps.{content_at, read_chunk, reader_files}
use Rattle.store_model.specs.Stands.{FitsContent, HoldsPieces, IsSnapshot, names_content}
use Rattle.restore_reader.specs.Session.{Reading}
use Rattle.paged_indexes.specs.declared.index.IndexPages.{IndexPages}
use Rattle.paged_indexes.specs.Laws.{IsIndex}
use Rattle.restore_reader.specs.Shown.{pages_of}
use Rattle.index_pages.specs.Paged.{page_count}
use Rattle.snapshot_files.specs.Indexes.{index_opened, kind_of_index, layout_kind, page_entries}
use Rattle.restore_reader.specs.Plan.{ends_of}
use Rattle.snapshot_files.specs.Parts.{RefusesPart}
use Rattle.store_stops.specs.declared.stop.Stop.{Stop}
use Rattle.snapshot_files.proofs.Archives.{blob_no_dynamic, blob_no_fixed, layout_index}
use Rattle.chunk_store.specs.Pieces.{IsHeld}
use Rattle.core_state.specs.Kept.{KeptAt, kept_at}
use Rattle.core_state.specs.declared.indexes.Indexes.{Indexes}
use Rattle.core_state.specs.declared.indexes.Indexes.TheVariants.{Unread, Pooled, Opened, LastPage}
use Rattle.core_state.specs.declared.indexes.OpenIndex.{OpenIndex}
use Rattle.core_state.specs.declared.indexes.OpenPage.{OpenPage}
use Rattle.store_files.specs.DynamicIndex.{Ended}
use Rattle.core_state.specs.declared.parts.Parts.{Parts}
use Rattle.store_stops.specs.declared.stop.Stop.TheVariants.{Refused, NoMemory, DiskFailed}
use Rattle.core_state.specs.Found.{path_in}
use Rattle.core_state.specs.Holds.{Holds, Shows}
use Rattle.core_state.specs.Indexed.{AreOpened, FitsRow, IsOpened, IsPageOf, open_of, opened_of, page_of, row_at}
use Rattle.core_state.specs.Shown.{files_named}
use Rattle.store_history.specs.Replies.{refuses_entry}
use Rattle.store_stops.specs.Stops.{Gives, IfRefused}
use Rattle.core_state.specs.Unreadables.{Asked, TellsUnreadable, part_read}
use Rattle.core_state.specs.Wanted.{reader_in, session_at}
use Rattle.core_state.proofs.Commanding.{none_refused, reader_shown, reader_wanted, refused_by_state}
use Rattle.core_state.proofs.Finding.{found_in}
use Rattle.core_state.proofs.Found.{IsThere, is_there, not_there, there_fits, there_kind, there_named, there_text}
use Rattle.core_state.proofs.Rows.{open_is, page_is}
use Rattle.core_state.proofs.Unreadables.{tells_failed}
use Rattle.core_reader.specs.Asked.{as_entry, asked_entry, index_of, place_of}
use Rattle.core_reader.specs.Chunks.{StopsAt, bytes_at, bytes_in}
use Rattle.core_reader.specs.Damages.{asked_damage, bytes_damage, entry_damage}
use Rattle.core_reader.specs.declared.entries.Turn.{Turn}
use Rattle.core_reader.specs.declared.entries.Turn.TheVariants.{Stay, ToPage, ToIndex}
use Rattle.core_reader.specs.Entries.{IsPageFor, IsTurn, IsTurnOf, ReadsPage, ReadsTurn, ReadsTurnOf, at_hand, count_of, digest_among, entry_by, entry_of, page_for, turned, turned_to}
use Rattle.core_reader.proofs.EntryTold.{IsPageAt, entry_first, entry_later, page_there}
use Rattle.core_state.proofs.KeptPages.{index_is_kept, index_opens}
use Rattle.core_reader.proofs.Held.{pieces_held}
use Rattle.core_reader.proofs.ReadPart.{IsPlaced, place_refused, place_untold}
use Rattle.core_reader.proofs.Telling.{Tells, tells_by}

true_false : true ≡ false → ⊥
true_false e = cc

-- ---- the step

abbrev piece_then : Store → ℕ → Option (List ℕ) → Outcome
piece_then s count o = or_else (BadRange count) o >>= λ piece. Ok (s, Data (blob_of piece))

abbrev of_content : Store → ℕ → Content → Outcome
of_content s place c = piece_then s (length (pieces_of c)) (slice_get (pieces_of c) place)

module _ (s : Store) (lane : ℕ) (name : List ℕ) (place : ℕ) where
  chunk_unread : (refusal : Refusal) → want_reader (session s lane) ≡ Err refusal → read_chunk s lane name place ≡ Err refusal
  unfolding read_chunk
  chunk_unread refusal no_reader = rw no_reader refl

  unnamed : (r : model.Reader) → session s lane ≡ reader r → is_index_name name ≡ false → read_chunk s lane name place ≡ Err NoFile
  unfolding read_chunk
  unnamed r at bad = rw (at, bad) refl

  missed : (r : model.Reader) → session s lane ≡ reader r → is_index_name name ≡ true → file_named name (reader_files s r) ≡ None → read_chunk s lane name place ≡ Err NoFile
  unfolding read_chunk
  missed r at good missing = rw (at, good, missing) refl

  found_file : (r : model.Reader) (f : File) → session s lane ≡ reader r → is_index_name name ≡ true → file_named name (reader_files s r) ≡ Some f
      → read_chunk s lane name place ≡ of_content s place f.content
  unfolding read_chunk
  found_file r f at good found = rw (at, good, found) refl

module _ {D : Type 0} (parts : Parts D) (s : Store) (lane : ℕ) (name : List ℕ) (place : ℕ) (shows : Shows parts s) (lt : lane < 64) where
  pub chunk_unnamed : (path : List ℕ) → IsPlaced name (kept_at parts lane) path → is_index_name name ≡ false → read_chunk s lane name place ≡ Err NoFile
  chunk_unnamed path there bad = let (v, at, is) = reader_shown parts s lane there.reading shows lt there.reads in unnamed s lane name place v at bad

  absent : (r : Reading) → reader_in (session_at parts lane) ≡ Ok r → path_in r.key name parts.catalogue.listed ≡ None → read_chunk s lane name place ≡ Err NoFile
  absent r reads missing = by_name (is_index_name name) refl
    where
      by_name : (b : Bool) → is_index_name name ≡ b → read_chunk s lane name place ≡ Err NoFile
      by_name true good =
          let (v, at, is) = reader_shown parts s lane r shows lt reads in
          missed s lane name place v at good (not_there name parts.catalogue.listed s.snapshots v.key shows.catalogue (ap (λ (x : Reading). path_in x.key name parts.catalogue.listed) is ∙ missing))
      by_name false bad = let (v, at, is) = reader_shown parts s lane r shows lt reads in unnamed s lane name place v at bad

  -- where the file does not stand the store refuses it too
  pub chunk_refuses : (refusal : Refusal) → place_of name (kept_at parts lane) ≡ Err refusal → read_chunk s lane name place ≡ Err refusal
  chunk_refuses =
      place_refused name (kept_at parts lane) (λ r. read_chunk s lane name place ≡ Err r)
      (λ r e. chunk_unread s lane name place r (reader_wanted parts s lane r shows lt e)) absent

-- ---- what stands there

-- a file of an index's name is an archive of its layout
pub index_archive : (c : Content) (name : List ℕ) → names_content c name ≡ true → is_index_name name ≡ true → (a : Archive) × (c ≡ archive a) × (kind_of_index name ≡ layout_kind a.layout)
index_archive (blob bytes) name kind good =
    absurd (true_false (sym good ∙ or_from (is_fixed_name name) (is_dynamic_name name) (blob_no_fixed name kind) (blob_no_dynamic name kind)))
index_archive (archive a) name kind good = (a, refl, layout_index a name kind)

pieces_named : (start : ℕ) (ps : List (List ℕ)) (place : ℕ) → digest_among (ends_from start ps) place ≡ option_map digest_of (slice_get ps place)
pieces_named start [] place = refl
pieces_named start (p ∷ ps) zero = refl
pieces_named start (p ∷ ps) (suc place) = pieces_named (start + length p) ps place

length-pieces : (start : ℕ) (ps : List (List ℕ)) → length (ends_from start ps) ≡ length ps
length-pieces start [] = refl
length-pieces start (p ∷ ps) = ap suc (length-pieces (start + length p) ps)

-- what is told of an entry of an archive's index is the digest of its piece there, or there is none
piece_told : (a : Archive) (place : ℕ) → or_else (BadRange (length (ends_from 0 a.pieces))) (digest_among (ends_from 0 a.pieces) place) ≡ or_else (BadRange (length a.pieces)) (option_map digest_of (slice_get a.pieces place))
piece_told a place =
    ap (λ n. or_else (BadRange n) (digest_among (ends_from 0 a.pieces) place)) (length-pieces 0 a.pieces)
    ∙ ap (or_else (BadRange (length a.pieces))) (pieces_named 0 a.pieces place)

-- the index of the archive that stands there, opened now or before
module _ (m : Files) (snapshots : List Snapshot) (key : SnapshotKey) (name path : List ℕ) (t : IsThere snapshots key name path) (a : Archive) (one : (t.file).content ≡ archive a)
    (there : get m path ≡ Some (file_text (archive a))) (fits : FitsContent (archive a)) (kind : names_content (archive a) name ≡ true) where
  abbrev kept_pages : IndexPages
  kept_pages = pages_of name (file_path key name) (file_text (archive a))

  archive_index : IsIndex m kept_pages (ends_from 0 a.pieces)
  archive_index = index_is_kept m snapshots key name path t a there fits kind

  content_is : content_at (files_named key snapshots) name ≡ Some (archive a)
  content_is = ap (option_map (λ (f : File). f.content)) (there_named snapshots key name path t) ∙ ap Some one

  same_archive : (b : Archive) → content_at (files_named key snapshots) name ≡ Some (archive b) → b ≡ a
  same_archive b at = archives (sym at ∙ content_is)
    where
      archives : Some (archive b) ≡ Some (archive a) → b ≡ a
      archives e = cc

  oks : {A : Type 0} (x y : A) → ◌≡◌ {A = Result A Refusal} (Ok x) (Ok y) → x ≡ y
  oks x y e = cc

  module _ (row : Indexes) (r : model.Reader) (keyed : r.key ≡ key) (fit : FitsRow snapshots (reader r) row) where
    each_open : (x : Indexes) → FitsRow snapshots (reader r) x → All (IsOpened key (files_named key snapshots)) (opened_of x)
    each_open Unread fit = All-nil (IsOpened key (files_named key snapshots))
    each_open (Pooled names) fit = absurd fit
    each_open (LastPage p) fit = All-nil (IsOpened key (files_named key snapshots))
    each_open (Opened o) fit = subst (λ k. All (IsOpened k (files_named k snapshots)) o.opened) keyed fit.each

    -- one that is open has its pages
    kept_open : (o : OpenIndex) → open_of name row ≡ Some o → o.pages ≡ kept_pages
    kept_open o e =
        let (opened, named) = open_is name (IsOpened key (files_named key snapshots)) row o (each_open row fit) e in
        let same : opened.one ≡ a = same_archive opened.one (ap (content_at (files_named key snapshots)) (sym named) ∙ opened.named) in
        opened.pages ∙ ap₂ (λ n (b : Archive). pages_of n (file_path key n) (file_text (archive b))) named same

    -- and a page at hand its entries
    abbrev piece_ends : List Ended
    piece_ends = ends_from 0 a.pieces

    page_fits : (p : OpenPage) → page_of name row ≡ Some p → ends_of p.entries.items ≡ take 1024 (drop (p.number * 1024) piece_ends)
    page_fits p e =
        let (o, is, page, named) = page_is name row p e in
        let found : AreOpened r.key (files_named r.key snapshots) o = subst (FitsRow snapshots (reader r)) is fit in
        let opened : IsPageOf (files_named key snapshots) o.page = subst (λ k. IsPageOf (files_named k snapshots) o.page) keyed found.page in
        let here : IsPageOf (files_named key snapshots) p = subst (IsPageOf (files_named key snapshots)) page opened in
        let same : here.one ≡ a = same_archive here.one (ap (content_at (files_named key snapshots)) (sym named) ∙ here.named) in
        here.entries ∙ ap (λ (b : Archive). take 1024 (drop (p.number * 1024) (ends_from 0 b.pieces))) same

    hand_fits : (place : ℕ) (o : Option OpenPage) → page_of name row ≡ o → IsPageAt m path kept_pages piece_ends archive_index place (page_for place o)
    hand_fits place None e = tt
    hand_fits place (Some p) e = by_number (p.number == place / 1024) refl
      where
        by_number : (b : Bool) → (p.number == place / 1024) ≡ b → IsPageAt m path kept_pages piece_ends archive_index place (if b then Some p else None)
        by_number true at = (eqb-true p.number (place / 1024) at, page_fits p e)
        by_number false at = tt

    -- a page that was read for an entry is of the archive
    page_read : (pages : IndexPages) (place : ℕ) (p : OpenPage) → pages ≡ kept_pages → IsPageFor pages name place p → ReadsPage m path pages p → IsPageOf (files_named key snapshots) p
    page_read pages place p same for_it reads =
        let below : place < length piece_ends = subst (λ n. place < n) (ap count_of same ∙ archive_index.count) for_it.below in
        let number : p.number < page_count (length piece_ends) = subst (λ n. n < page_count (length piece_ends)) (sym for_it.number) (omega (arith, below)) in
        record {
          one = a;
          named = ap (content_at (files_named key snapshots)) for_it.named ∙ content_is;
          entries = oks _ _ (sym reads ∙ ap (λ q. page_entries m path q p.number) same ∙ page_there m path kept_pages piece_ends archive_index p.number number);
        }

    opens_kept : (o : OpenIndex) → index_opened m path (kind_of_index name) ≡ Ok o.pages → o.pages ≡ kept_pages
    opens_kept o opens = oks _ _ (sym opens ∙ index_opens m snapshots key name path t a there fits kind)

    paged : (p : OpenPage) (x : Indexes) → FitsRow snapshots (reader r) x → IsPageOf (files_named key snapshots) p → FitsRow snapshots (reader r) (turned_to p x)
    paged p Unread fit is = tt
    paged p (Pooled names) fit is = absurd fit
    paged p (LastPage x) fit is = fit
    paged p (Opened o) fit is = record { each = fit.each; page = subst (λ k. IsPageOf (files_named k snapshots) p) (sym keyed) is }

    opened_first : (o : OpenIndex) (p : OpenPage) → o.name ≡ name → o.pages ≡ kept_pages → IsPageOf (files_named key snapshots) p → FitsRow snapshots (reader r) (turned (ToIndex o p) row)
    opened_first o p named pages is =
        let now : IsOpened key (files_named key snapshots) o = record {
          one = a;
          named = ap (content_at (files_named key snapshots)) named ∙ content_is;
          pages = pages ∙ ap (λ n. pages_of n (file_path key n) (file_text (archive a))) (sym named);
        } in
        let all : AreOpened key (files_named key snapshots) (record { opened = o ∷ opened_of row; page = p }) = record {
          each = All-cons (IsOpened key (files_named key snapshots)) o (opened_of row) now (each_open row fit);
          page = is;
        } in
        subst (λ k. AreOpened k (files_named k snapshots) (record { opened = o ∷ opened_of row; page = p })) (sym keyed) all

    -- what the lane turned to is of its reader
    pub turned_row : (place : ℕ) (turn : Turn) → IsTurn row name place turn → ReadsTurn row m path name turn → FitsRow snapshots (reader r) (turned turn row)
    turned_row place turn only reads = by_open (open_of name row) refl turn only reads
      where
        by_open : (x : Option OpenIndex) → open_of name row ≡ x → (turn : Turn) → IsTurnOf x (at_hand row name place) name place turn → ReadsTurnOf x m path name turn → FitsRow snapshots (reader r) (turned turn row)
        by_open None e Stay only reads = absurd only
        by_open None e (ToPage p) only reads = absurd only
        by_open None e (ToIndex o p) only reads =
            let pages = opens_kept o reads.0 in
            opened_first o p only.0 pages (page_read o.pages place p pages only.1 reads.1)
        by_open (Some o) e Stay only reads = fit
        by_open (Some o) e (ToPage p) only reads = paged p row fit (page_read o.pages place p (kept_open o e) only.1 reads)
        by_open (Some o) e (ToIndex x p) only reads = absurd only

    -- of the lane's row
    pub archive_entry : (place : ℕ) → entry_by row name place m path ≡ or_else (BadRange (length a.pieces)) (option_map digest_of (slice_get a.pieces place))
    archive_entry place = by_open (open_of name row) refl ∙ piece_told a place
      where
        by_open : (o : Option OpenIndex) → open_of name row ≡ o → entry_of o (at_hand row name place) (kind_of_index name) place m path ≡ or_else (BadRange (length piece_ends)) (digest_among piece_ends place)
        by_open None e = entry_first m path kept_pages piece_ends archive_index (kind_of_index name) place (index_opens m snapshots key name path t a there fits kind)
        by_open (Some o) e = entry_later m path kept_pages piece_ends archive_index o.pages (at_hand row name place) place (kept_open o e) (hand_fits place (page_of name row) refl)

at_place : {A : Type 0} (P : A → Type 0) (xs : List A) (i : ℕ) (x : A) → All P xs → slice_get xs i ≡ Some x → P x
at_place P [] i x all e = absurd (none_some e)
  where
    none_some : None ≡ Some x → ⊥
    none_some e = cc
at_place P (y ∷ ys) zero x all e = subst P (same e) (All-head P y ys all)
  where
    same : Some y ≡ Some x → y ≡ x
    same e = cc
at_place P (y ∷ ys) (suc i) x all e = at_place P ys i x (All-tail P y ys all) e

-- an archive's piece, as an entry of its index tells it
told_refused : (s : Store) (count : ℕ) (o : Option (List ℕ)) (refusal : Refusal) → or_else (BadRange count) (option_map digest_of o) ≡ Err refusal → piece_then s count o ≡ Err refusal
told_refused s count None refusal e = ap (λ r. Err r) (same e)
  where
    same : ◌≡◌ {A = Result Digest32 Refusal} (Err (BadRange count)) (Err refusal) → BadRange count ≡ refusal
    same e = cc
told_refused s count (Some p) refusal e = absurd (ok_err e)
  where
    ok_err : ◌≡◌ {A = Result Digest32 Refusal} (Ok (digest_of p)) (Err refusal) → ⊥
    ok_err e = cc

told_piece : (count : ℕ) (o : Option (List ℕ)) (digest : Digest32) → or_else (BadRange count) (option_map digest_of o) ≡ Ok digest → (p : List ℕ) × (o ≡ Some p) × (digest ≡ digest_of p)
told_piece count None digest e = absurd (err_ok e)
  where
    err_ok : ◌≡◌ {A = Result Digest32 Refusal} (Err (BadRange count)) (Ok digest) → ⊥
    err_ok e = cc
told_piece count (Some p) digest e = (p, refl, sym (same e))
  where
    same : ◌≡◌ {A = Result Digest32 Refusal} (Ok (digest_of p)) (Ok digest) → digest_of p ≡ digest
    same e = cc

-- the file of the reader's snapshot is an archive, whose pieces stand on the disk
record HasIndex (m : Files) (s : Store) (lane : ℕ) (row : Indexes) (name path : List ℕ) (place : ℕ) : Type 0 where
  pub one : Archive
  pub entry_is : entry_by row name place m path ≡ or_else (BadRange (length one.pieces)) (option_map digest_of (slice_get one.pieces place))
  pub step_is : read_chunk s lane name place ≡ piece_then s (length one.pieces) (slice_get one.pieces place)
  pub held : All (IsHeld m) one.pieces

module _ {D : Type 0} (d : Ghosts D) (old : Parts D) (s : Store) (lane : ℕ) (name path : List ℕ) (place : ℕ) (lt : lane < 64) (placed : IsPlaced name (kept_at old lane) path)
    (good : is_index_name name ≡ true) (h : Holds d old s) where
  abbrev content : Files
  content = d.content old.disk

  has_index : HasIndex content s lane (row_at old lane) name path place
  has_index =
      let (v, at, is) = reader_shown old s lane placed.reading h.shows lt placed.reads in
      let t : IsThere s.snapshots v.key name path = is_there name old.catalogue.listed s.snapshots v.key path (h.shows).catalogue (ap (λ (x : Reading). path_in x.key name old.catalogue.listed) is ∙ placed.found) in
      let stored = (t.file).content in
      let (a, archived, kind) = index_archive stored name (there_kind s.snapshots v.key name path t ((h.shows).sound).each) good in
      let fits : FitsContent (archive a) = subst FitsContent archived (there_fits s.snapshots v.key name path t ((h.shows).sound).each) in
      let text : get content path ≡ Some (file_text (archive a)) = there_text content s.snapshots v.key name path t ((h.files).snapshots).files ∙ ap (λ c. Some (file_text c)) archived in
      let holds : HoldsPieces content t.snapshot = found_in (HoldsPieces content) _ s.snapshots t.snapshot ((h.files).snapshots).pieces t.kept in
      let one : IsSnapshot t.snapshot = found_in IsSnapshot _ s.snapshots t.snapshot ((h.files).snapshots).each t.kept in
      let pieces : All (IsHeld content) (pieces_of stored) =
      subst (λ (o : Option File). All (IsHeld content) (elim (option_map (λ (f : File). f.content) o) [ None ↦ [] | Some c ↦ pieces_of c ])) t.named (pieces_held content t.snapshot name holds one) in
      record {
        one = a;
        entry_is =
            archive_entry content s.snapshots v.key name path t a archived text fits (ap (λ c. names_content c name) (sym archived) ∙ there_kind s.snapshots v.key name path t ((h.shows).sound).each)
            (row_at old lane) v refl (subst (λ x. FitsRow s.snapshots x (row_at old lane)) at ((h.shows).indexes lane)) place;
        step_is = found_file s lane name place v t.file at good (there_named s.snapshots v.key name path t) ∙ ap (of_content s place) archived;
        held = subst (λ c. All (IsHeld content) (pieces_of c)) archived pieces;
      }

  -- what the lane keeps then is of its reader
  pub turned_fits : (turn : Turn) → IsTurn (row_at old lane) name place turn → ReadsTurn (row_at old lane) content path name turn → FitsRow s.snapshots (session s lane) (turned turn (row_at old lane))
  turned_fits turn only reads =
      let (v, at, is) = reader_shown old s lane placed.reading h.shows lt placed.reads in
      let t : IsThere s.snapshots v.key name path = is_there name old.catalogue.listed s.snapshots v.key path (h.shows).catalogue (ap (λ (x : Reading). path_in x.key name old.catalogue.listed) is ∙ placed.found) in
      let stored = (t.file).content in
      let kind = there_kind s.snapshots v.key name path t ((h.shows).sound).each in
      let (a, archived, layout) = index_archive stored name kind good in
      let fits : FitsContent (archive a) = subst FitsContent archived (there_fits s.snapshots v.key name path t ((h.shows).sound).each) in
      let text : get content path ≡ Some (file_text (archive a)) = there_text content s.snapshots v.key name path t ((h.files).snapshots).files ∙ ap (λ c. Some (file_text c)) archived in
      let row : FitsRow s.snapshots (reader v) (row_at old lane) = subst (λ x. FitsRow s.snapshots x (row_at old lane)) at ((h.shows).indexes lane) in
      let now = turned_row content s.snapshots v.key name path t a archived text fits (ap (λ c. names_content c name) (sym archived) ∙ kind) (row_at old lane) v refl row place turn only reads in
      subst (λ x. FitsRow s.snapshots x (turned turn (row_at old lane))) (sym at) now

  module _ (q : List ℕ) (here : q ≡ path) where
    entry_same : entry_by (row_at old lane) name place content path ≡ entry_by (row_at old lane) name place content q
    entry_same = ap (entry_by (row_at old lane) name place content) (sym here)

    -- there is no such entry
    pub entry_refused : (refusal : Refusal) → entry_by (row_at old lane) name place content q ≡ Err refusal → read_chunk s lane name place ≡ Err refusal
    entry_refused refusal tells =
        let i = has_index in
        i.step_is ∙ told_refused s (length (i.one).pieces) (slice_get (i.one).pieces place) refusal (sym i.entry_is ∙ entry_same ∙ tells)

    -- the blob of its piece is given, which stands there
    pub entry_given : (digest : Digest32) → entry_by (row_at old lane) name place content q ≡ Ok digest
        → (p : List ℕ) × IsHeld content p × (digest ≡ digest_of p) × (read_chunk s lane name place ≡ Ok (s, Data (blob_of p)))
    entry_given digest tells =
        let i = has_index in
        let (p, there, named) = told_piece (length (i.one).pieces) (slice_get (i.one).pieces place) digest (sym i.entry_is ∙ entry_same ∙ tells) in (
          p,
          at_place (IsHeld content) (i.one).pieces place p i.held there,
          named,
          i.step_is ∙ ap (piece_then s (length (i.one).pieces)) there,
        )

-- ---- the bytes of a chunk that stands there

blob_fits : (p : List ℕ) → length p ≤ 16_777_216 → length (blob_of p) ≤ blob_limit
unfolding blob_of
blob_fits p le = omega (arith, le)

pub bytes_held : (m : Files) (p : List ℕ) (digest : Digest32) → IsHeld m p → digest ≡ digest_of p → bytes_at m digest ≡ Ok (blob_of p)
bytes_held m p digest held named =
    ap (bytes_at m) named ∙ ap (bytes_in (digest_of p)) held.0
    ∙ ap (λ (b : Bool). let r : Result (List ℕ) Refusal = if b then Err (Damaged (digest_of p) NotABlob) else Ok (blob_of p) in r)
    (le-ltb blob_limit (length (blob_of p)) (blob_fits p (held.1).1))

-- so it is read, and the read stops by no refusal
pub none_stops : (m n : Files) (p : List ℕ) (digest : Digest32) (P : Refusal → Type 0) (stop : Stop) → n ≡ m → IsHeld m p → digest ≡ digest_of p
    → Gives {A = List ℕ} (λ bytes. bytes) (Err stop) (bytes_at n digest) → IfRefused P stop
none_stops m n p digest P stop same held named gives =
    none_refused {A = List ℕ} (λ bytes. bytes) (blob_of p) P stop
    (subst (λ w. Gives {A = List ℕ} (λ bytes. bytes) (Err stop) w) (ap (λ f. bytes_at f digest) same ∙ bytes_held m p digest held named) gives)

pub bytes_given : (s : Store) (lane : ℕ) (name : List ℕ) (place : ℕ) (m n : Files) (p bytes : List ℕ) (digest : Digest32) → n ≡ m → IsHeld m p → digest ≡ digest_of p
    → bytes_at n digest ≡ Ok bytes → read_chunk s lane name place ≡ Ok (s, Data (blob_of p)) → read_chunk s lane name place ≡ Ok (s, Data bytes)
bytes_given s lane name place m n p bytes digest same held named gives is =
    is ∙ ap (λ b. Ok (s, Data b)) (oks (blob_of p) bytes (sym (bytes_held m p digest held named) ∙ ap (λ f. bytes_at f digest) (sym same) ∙ gives))
  where
    oks : (x y : List ℕ) → ◌≡◌ {A = Result (List ℕ) Refusal} (Ok x) (Ok y) → x ≡ y
    oks x y e = cc

-- it fits a reply
pub bytes_short : (bytes : List ℕ) → length bytes ≤ blob_limit → length bytes < body_limit
bytes_short bytes le = omega (arith, le)

-- ---- what is asked for

module _ (name : List ℕ) (place : ℕ) (k : KeptAt) where
  abbrev asked_by : Result (List ℕ) Refusal → Option Asked
  asked_by o = option_map (as_entry k.row name place) (result_ok o)

  index_unread : (refusal : Refusal) → reader_in k.session ≡ Err refusal → index_of name k ≡ Err refusal
  unfolding index_of
  index_unread refusal no_reader = rw no_reader refl

  pub index_unnamed : (r : Reading) → reader_in k.session ≡ Ok r → is_index_name name ≡ false → index_of name k ≡ Err NoFile
  unfolding index_of
  index_unnamed r at bad = rw (at, bad) refl

  index_absent : (r : Reading) → reader_in k.session ≡ Ok r → is_index_name name ≡ true → path_in r.key name k.catalogue ≡ None → index_of name k ≡ Err NoFile
  unfolding index_of
  index_absent r at good missing = rw (at, good, missing) refl

  pub index_there : (r : Reading) (path : List ℕ) → reader_in k.session ≡ Ok r → is_index_name name ≡ true → path_in r.key name k.catalogue ≡ Some path → index_of name k ≡ Ok path
  unfolding index_of
  index_there r path at good found = rw (at, good, found) refl

  pub index_unplaced : (refusal : Refusal) → place_of name k ≡ Err refusal → index_of name k ≡ Err refusal
  index_unplaced = place_refused name k (λ r. index_of name k ≡ Err r) index_unread absent
    where
      absent : (r : Reading) → reader_in k.session ≡ Ok r → path_in r.key name k.catalogue ≡ None → index_of name k ≡ Err NoFile
      absent r at missing = by_name (is_index_name name) refl
        where
          by_name : (b : Bool) → is_index_name name ≡ b → index_of name k ≡ Err NoFile
          by_name true good = index_absent r at good missing
          by_name false bad = index_unnamed r at bad

  unplaced_none : (refusal : Refusal) → place_of name k ≡ Err refusal → asked_entry name place k ≡ None
  unplaced_none refusal e = ap asked_by (index_unplaced refusal e)

  pub entry_unplaced : (refusal : Refusal) → place_of name k ≡ Err refusal → (asked_entry name place k ≡ None) × ((n : List ℕ) → refusal ≡ Unreadable n → ⊥)
  entry_unplaced refusal e = (unplaced_none refusal e, place_untold name k refusal e)

  pub entry_unnamed : (path : List ℕ) → IsPlaced name k path → is_index_name name ≡ false → asked_entry name place k ≡ None
  entry_unnamed path there bad = ap asked_by (index_unnamed there.reading there.reads bad)

  pub entry_asked : (path : List ℕ) → IsPlaced name k path → is_index_name name ≡ true → asked_entry name place k ≡ Some (as_entry k.row name place path)
  entry_asked path there good = ap asked_by (index_there there.reading path there.reads good there.found)

  -- nor does its refusal tell of damage
  pub entry_undamaged : (H : Type 0) (m : Files) (refusal : Refusal) → place_of name k ≡ Err refusal
      → (H → asked_damage m (asked_entry name place k) ≡ None) × ((digest : Digest32) (found : ChunkFault) → refusal ≡ Damaged digest found → ⊥)
  entry_undamaged H m refusal e = (
    λ h. ap (asked_damage m) (unplaced_none refusal e),
    place_refused name k (λ r. (digest : Digest32) (found : ChunkFault) → r ≡ Damaged digest found → ⊥)
        (λ r u. refused_by_state k.session r (λ q. (digest : Digest32) (found : ChunkFault) → q ≡ Damaged digest found → ⊥) (λ state digest found is. cc) u)
        (λ r at missing digest found is. cc) refusal e,
  )

  pub place_no_damage : (refusal : Refusal) → place_of name k ≡ Err refusal → (digest : Digest32) (found : ChunkFault) → refusal ≡ Damaged digest found → ⊥
  place_no_damage refusal e = (entry_undamaged (Unit {0}) (Rattle.std.specs.FinMap.empty) refusal e).1

  pub entry_refused_by : (refusal : Refusal) → place_of name k ≡ Err refusal → refuses_entry refusal ≡ true
  entry_refused_by = place_refused name k (λ r. refuses_entry r ≡ true) (λ r e. refused_by_state k.session r (λ q. refuses_entry q ≡ true) (λ state. refl) e) (λ r at missing. refl)

-- ---- what is told of the index

module _ {D : Type 0} (d : Ghosts D) (disk : D) (asked : Option Asked) (a : Asked) (is : asked ≡ Some a) where
  -- it was read
  pub tells_readable : (kind : ℕ) (reply : Option Reply) → ((n : List ℕ) → reply ≡ Some (replies.Refused (Unreadable n)) → ⊥) → (d.honest disk → part_read (d.content disk) a ≡ Ok Done)
      → TellsUnreadable d disk asked kind reply
  tells_readable kind reply other read = record {
    named = λ name e. absurd (other name e);
    cause = λ name b e at h. absurd (other name e);
    missing = λ name b k at h g. absurd (ok_err name (sym (read h) ∙ ap (part_read (d.content disk)) (same b (sym is ∙ at)) ∙ g));
  }
    where
      same : (b : Asked) → Some a ≡ Some b → a ≡ b
      same b e = cc

      ok_err : (name : List ℕ) → ◌≡◌ {A = Result Reply Refusal} (Ok Done) (Err (Unreadable name)) → ⊥
      ok_err name e = cc

  -- and the chunk was not
  pub tells_unloaded : (digest : Digest32) (stop : Stop) (result : Result Reply Stop) → IsErrAnd result (λ x. x ≡ stop) → StopsAt digest stop → (d.honest disk → part_read (d.content disk) a ≡ Ok Done)
      → Tells d disk asked result
  tells_unloaded digest stop result stops at read = tells_by d disk asked stop result stops (by_stop stop at)
    where
      apart : (refusal : Refusal) (found : ChunkFault) (n : List ℕ) → refusal ≡ Damaged digest found → Some (replies.Refused refusal) ≡ Some (replies.Refused (Unreadable n)) → ⊥
      apart refusal found n is e = damaged_apart (sym is ∙ same e)
        where
          same : Some (replies.Refused refusal) ≡ Some (replies.Refused (Unreadable n)) → refusal ≡ Unreadable n
          same e = cc

          damaged_apart : Damaged digest found ≡ Unreadable n → ⊥
          damaged_apart e = cc

      by_stop : (stop : Stop) → StopsAt digest stop → Tells d disk asked (Err stop)
      by_stop (Refused refusal) h = tells_readable 0 (Some (replies.Refused refusal)) (λ n e. apart refusal (h.0).0 n (h.0).1 e) read
      by_stop NoMemory h = tells_failed d disk asked disks.NoMemory
      by_stop DiskFailed h = tells_failed d disk asked disks.Failed

module _ (m : Files) (path q : List ℕ) (row : Indexes) (name : List ℕ) (place : ℕ) (here : q ≡ path) where
  abbrev asked_of : Result Digest32 Refusal → Result Reply Refusal
  asked_of o = o >>= λ digest. Ok Done

  pub entry_here : entry_by row name place m q ≡ entry_by row name place m path
  entry_here = ap (entry_by row name place m) here

  pub entry_got : (digest : Digest32) → entry_by row name place m q ≡ Ok digest → part_read m (as_entry row name place path) ≡ Ok Done
  entry_got digest gives = ap asked_of (sym entry_here ∙ gives)

  pub entry_stop : (e : Stop) → Gives {A = Digest32} (λ digest. digest) (Err e) (entry_by row name place m q)
      → Gives {A = Reply} (λ part. part) (Err e) (part_read m (as_entry row name place path))
  entry_stop (Refused refusal) gives = ap asked_of (sym entry_here ∙ gives)
  entry_stop NoMemory gives = tt
  entry_stop DiskFailed gives = tt

  -- ---- what is damaged

  abbrev damage_in : Result Digest32 Refusal → Option (Digest32 × ChunkFault)
  damage_in o = entry_damage m o

  pub damage_unread : (asked : Option Asked) (refusal : Refusal) → asked ≡ Some (as_entry row name place path) → entry_by row name place m q ≡ Err refusal → asked_damage m asked ≡ None
  damage_unread asked refusal is gives = ap (asked_damage m) is ∙ ap damage_in (sym entry_here ∙ gives)

  damage_read : (asked : Option Asked) (digest : Digest32) → asked ≡ Some (as_entry row name place path) → entry_by row name place m q ≡ Ok digest
      → asked_damage m asked ≡ bytes_damage digest (get m (chunk_name digest.0))
  damage_read asked digest is gives = ap (asked_damage m) is ∙ ap damage_in (sym entry_here ∙ gives)

  -- what is told of the bytes is what they are
  pub damage_told : (asked : Option Asked) (digest : Digest32) (found : ChunkFault) (n : Files) → asked ≡ Some (as_entry row name place path) → entry_by row name place m q ≡ Ok digest → n ≡ m
      → bytes_at n digest ≡ Err (Damaged digest found) → asked_damage m asked ≡ Some (digest, found)
  damage_told asked digest found n is gives same tells =
      damage_read asked digest is gives ∙ by_bytes (get m (chunk_name digest.0)) (ap (λ f. bytes_at f digest) (sym same) ∙ tells)
    where
      faults : (a b : ChunkFault) → ◌≡◌ {A = Result (List ℕ) Refusal} (Err (Damaged digest a)) (Err (Damaged digest b)) → a ≡ b
      faults a b e = cc

      by_test : (bytes : List ℕ) (b : Bool) → (if b then Err (Damaged digest NotABlob) else Ok bytes) ≡ Err (Damaged digest found)
          → ◌≡◌ {A = Option (Digest32 × ChunkFault)} (if b then Some (digest, NotABlob) else None) (Some (digest, found))
      by_test bytes true e = ap (λ f. Some (digest, f)) (faults NotABlob found e)
      by_test bytes false e = absurd (ok_err e)
        where
          ok_err : ◌≡◌ {A = Result (List ℕ) Refusal} (Ok bytes) (Err (Damaged digest found)) → ⊥
          ok_err e = cc

      by_bytes : (o : Option (List ℕ)) → bytes_in digest o ≡ Err (Damaged digest found) → bytes_damage digest o ≡ Some (digest, found)
      by_bytes None e = ap (λ f. Some (digest, f)) (faults Nothing found e)
      by_bytes (Some bytes) e = by_test bytes (nat_lt blob_limit (length bytes)) e

  -- and bytes that are given are not damaged
  pub damage_none : (asked : Option Asked) (digest : Digest32) (given : List ℕ) (n : Files) → asked ≡ Some (as_entry row name place path) → entry_by row name place m q ≡ Ok digest → n ≡ m
      → bytes_at n digest ≡ Ok given → asked_damage m asked ≡ None
  damage_none asked digest given n is gives same tells =
      damage_read asked digest is gives ∙ by_bytes (get m (chunk_name digest.0)) (ap (λ f. bytes_at f digest) (sym same) ∙ tells)
    where
      err_ok : (refusal : Refusal) → ◌≡◌ {A = Result (List ℕ) Refusal} (Err refusal) (Ok given) → ⊥
      err_ok refusal e = cc

      by_test : (bytes : List ℕ) (b : Bool) → (if b then Err (Damaged digest NotABlob) else Ok bytes) ≡ Ok given
          → ◌≡◌ {A = Option (Digest32 × ChunkFault)} (if b then Some (digest, NotABlob) else None) None
      by_test bytes true e = absurd (err_ok (Damaged digest NotABlob) e)
      by_test bytes false e = refl

      by_bytes : (o : Option (List ℕ)) → bytes_in digest o ≡ Ok given → bytes_damage digest o ≡ None
      by_bytes None e = absurd (err_ok (Damaged digest Nothing) e)
      by_bytes (Some bytes) e = by_test bytes (nat_lt blob_limit (length bytes)) e

-- by what the read gave
pub gives_so : (digest : Digest32) (found : ChunkFault) (stop : Stop) (wanted : Result (List ℕ) Refusal) → stop ≡ Refused (Damaged digest found)
    → Gives {A = List ℕ} (λ bytes. bytes) (Err stop) wanted → wanted ≡ Err (Damaged digest found)
gives_so digest found stop wanted is gives = subst (λ x. Gives {A = List ℕ} (λ bytes. bytes) (Err x) wanted) is gives

-- an index that is not read tells of no chunk
no_chunk : (path : List ℕ) (r : Refusal) → RefusesPart path r → (digest : Digest32) (found : ChunkFault) → r ≡ Damaged digest found → ⊥
no_chunk path (BadRange size) h digest found e = cc
no_chunk path (Unreadable name) h digest found e = cc
no_chunk path _ h digest found e = absurd h

pub part_no_damage : (path : List ℕ) (e : Stop) → IfRefused (RefusesPart path) e → IfRefused (λ refusal. (digest : Digest32) (found : ChunkFault) → refusal ≡ Damaged digest found → ⊥) e
part_no_damage path (Refused refusal) kind = no_chunk path refusal kind
part_no_damage path NoMemory kind = tt
part_no_damage path DiskFailed kind = tt

pub unread_undamaged : (path : List ℕ) (e : Stop) (H P : Type 0) (wanted : Result Digest32 Refusal) → IfRefused (RefusesPart path) e → (H → Gives {A = Digest32} (λ digest. digest) (Err e) wanted)
    → ((refusal : Refusal) → H → wanted ≡ Err refusal → P) → IfRefused (λ refusal. (H → P) × ((digest : Digest32) (found : ChunkFault) → refusal ≡ Damaged digest found → ⊥)) e
unread_undamaged path (Refused refusal) H P wanted kind gives so = (λ h. so refusal h (gives h), no_chunk path refusal kind)
unread_undamaged path NoMemory H P wanted kind gives so = tt
unread_undamaged path DiskFailed H P wanted kind gives so = tt

-- ---- what is answered

refusal_answers : (path : List ℕ) (r : Refusal) → RefusesPart path r → refuses_entry r ≡ true
refusal_answers path (BadRange size) h = refl
refusal_answers path (Unreadable name) h = refl
refusal_answers path _ h = absurd h

pub entry_error_answers : (path : List ℕ) (e : Stop) → IfRefused (RefusesPart path) e → IfRefused (λ r. IsTrue (refuses_entry r)) e
entry_error_answers path (Refused refusal) h = refusal_answers path refusal h
entry_error_answers path NoMemory h = tt
entry_error_answers path DiskFailed h = tt

pub chunk_answers : (digest : Digest32) (stop : Stop) → StopsAt digest stop → IfRefused (λ refusal. IsTrue (refuses_entry refusal)) stop
chunk_answers digest (Refused refusal) h = ap refuses_entry (h.0).1
chunk_answers digest NoMemory h = tt
chunk_answers digest DiskFailed h = tt
