-- RANGE is the store's.
use Rattle.std.proofs.Common.{◌≡◌, ◌+◌, ◌-◌, ◌*◌, ◌<◌, ℕ, true, false, List, [], drop, take, length, get_or, Option, Some, None, is_some, ◌∷◌, option_map, Result, Ok, Err, Bool, IsTrue, refl, sym, ap, ap₂, subst, ◌∙◌, arith}
use Rattle.std.specs.List.{All, concat}
use Rattle.std.specs.Prelude.{◌&&◌, nat_le, nat_lt}
use Rattle.std.proofs.lemmas.Bool.{and_from, le-leb, lt-ltb}
use Rattle.std.proofs.lemmas.List.{get_or_default}
use Rattle.std.proofs.lemmas.List.Elements.{All-head, All-tail}
use Rattle.std.specs.FinMap.{get}
use Rattle.disk_trait.specs.Files.{Files}
use Rattle.store_types.specs.Chain.Refusing.{◌>>=◌, unless}
use Rattle.store_types.specs.FileNames.{is_index_name}
use Rattle.store_types.specs.declared.names.SnapshotKey.{SnapshotKey}
use Rattle.store_types.specs.declared.refusal.Refusal.{Refusal}
use Rattle.store_types.specs.declared.refusal.SessionState.{SessionState}
use Rattle.store_types.specs.declared.refusal.Refusal.TheVariants.{WrongState, BadName, NoFile, NotAllowed, TooMany, BadRange}
use Rattle.store_files.specs.Archive.{Archive, Content, File, archive, ends_from, file_named, file_text, pieces_of}
use Rattle.store_files.specs.DynamicIndex.{Ended, steps_fit}
use Rattle.store_files.specs.Folder.{IsPiece, file_path}
use Rattle.chunk_store.specs.Pieces.{IsHeld}
use Rattle.wire_commands.specs.declared.reply.Reply.TheVariants.{Data}
use Rattle.wire_commands.specs.declared.command.Command.TheVariants.{Range}
use Rattle.store_model.specs.Store as model
use Rattle.store_model.specs.Store.{Store, reader, session, want_reader}
use Rattle.store_model.specs.ReaderSteps.{content_at, pieces_at, range, range_of, reader_files, want_range}
use Rattle.store_model.specs.WriterSteps.{part_limit}
use Rattle.store_model.specs.Stands.{FitsContent, names_content}
use Rattle.store_model.specs.Steps.{outcome}
use Rattle.paged_indexes.specs.declared.index.IndexPages.{IndexPages}
use Rattle.index_pages.specs.Paged.{page_count}
use Rattle.paged_indexes.specs.Index.{pages_by, start_by}
use Rattle.paged_indexes.specs.Laws.{IsIndex}
use Rattle.restore_reader.specs.Answers.{PlansBytes}
use Rattle.restore_reader.specs.Plan.{ends_of}
use Rattle.snapshot_files.specs.Indexes.{page_entries}
use Rattle.restore_reader.specs.Session.{Noted, Reading}
use Rattle.restore_reader.specs.Shown.{pages_of}
use Rattle.restore_reader.specs.Steps.{noted_as, range_plan}
use Rattle.restore_reader.proofs.Plainly.{PlansPlainly, plan_none, plan_noted, planned_plainly}
use Rattle.core_state.specs.Kept.{KeptAt, kept_at}
use Rattle.core_state.specs.Found.{path_in}
use Rattle.core_state.specs.Holds.{IsOnDisk, Shows}
use Rattle.core_state.specs.Indexed.{FitsRanged, FitsRow, IsRangedOf, ranged_of, row_at}
use Rattle.core_state.specs.Shown.{files_named, shown_reader}
use Rattle.core_state.specs.Wanted.{reader_in, session_at}
use Rattle.core_state.specs.declared.indexes.Indexes.{Indexes}
use Rattle.core_state.specs.declared.indexes.RangedPage.{RangedPage}
use Rattle.core_state.specs.declared.pages.ReadPage.{ReadPage}
use Rattle.core_state.specs.declared.kept.Listed.{Listed}
use Rattle.core_state.specs.States.{state_of}
use Rattle.core_state.specs.declared.kept.Session.{Session}
use Rattle.core_state.specs.declared.kept.Session.TheVariants.{Idle, Writer, Reader}
use Rattle.core_state.specs.declared.parts.Parts.{Parts}
use Rattle.core_state.proofs.Commanding.{reader_shown, reader_wanted}
use Rattle.core_state.proofs.Rows.{ranged_is}
use Rattle.core_state.proofs.Found.{IsThere, is_there, not_there, there_fits, there_kind, there_named, there_text}
use Rattle.core_reader.specs.Ranges.{FitsHand, IsHandOf, RangeAsked, ReadsPage, StandsAsked, asking, range_asked, range_place, range_with, ranged}
use Rattle.core_reader.proofs.Held.{reader_held}
use Rattle.core_state.proofs.KeptPages.{index_is_kept}
use Rattle.core_reader.proofs.FrontRange.{asked_bytes_are}
use Rattle.core_reader.proofs.PageRanges.{page_read}
use Rattle.core_reader.proofs.ReadEntry.{index_archive}

-- ---- the plain store's

module _ (s : Store) (lane : ℕ) (name : List ℕ) (offset len : ℕ) where
  pub range_is : (m : ℕ) → outcome s lane m (Range name offset len) ≡ range s lane name offset len
  unfolding outcome
  range_is m = refl

  pub range_unread : (refusal : Refusal) → want_reader (session s lane) ≡ Err refusal → range s lane name offset len ≡ Err refusal
  unfolding range
  range_unread refusal no_reader = rw no_reader refl

  pub range_bad : (r : model.Reader) → session s lane ≡ reader r → is_index_name name ≡ false → range s lane name offset len ≡ Err BadName
  unfolding range
  range_bad r at bad = rw (at, bad) refl

  pub range_missing : (r : model.Reader) → session s lane ≡ reader r → is_index_name name ≡ true → file_named name (reader_files s r) ≡ None → range s lane name offset len ≡ Err NoFile
  unfolding range
  range_missing r at good missing = rw (at, good, missing) refl

  pub range_told : (r : model.Reader) (f : File) (told : Result (List ℕ) Refusal) → session s lane ≡ reader r → is_index_name name ≡ true → file_named name (reader_files s r) ≡ Some f
      → range_of (reader_files s r) r name offset len ≡ told → range s lane name offset len ≡ (told >>= λ bytes. Ok (s, Data bytes))
  unfolding range
  range_told r f told at good found is = rw (at, good, found, is) refl

-- ---- what is kept

module _ (file : List ℕ) (k : KeptAt) where
  pub place_unread : (refusal : Refusal) → reader_in k.session ≡ Err refusal → range_place file k ≡ Err refusal
  unfolding range_place
  place_unread refusal no_reader = rw no_reader refl

  pub place_bad : (r : Reading) → reader_in k.session ≡ Ok r → is_index_name file ≡ false → range_place file k ≡ Err BadName
  unfolding range_place
  place_bad r at bad = rw (at, bad) refl

  pub place_missing : (r : Reading) → reader_in k.session ≡ Ok r → is_index_name file ≡ true → path_in r.key file k.catalogue ≡ None → range_place file k ≡ Err NoFile
  unfolding range_place
  place_missing r at good missing = rw (at, good, missing) refl

  pub place_found : (r : Reading) (path : List ℕ) → reader_in k.session ≡ Ok r → is_index_name file ≡ true → path_in r.key file k.catalogue ≡ Some path → range_place file k ≡ Ok path
  unfolding range_place
  place_found r path at good found = rw (at, good, found) refl

module _ (file : List ℕ) (offset len : ℕ) (k : KeptAt) where
  pub asked_unplaced : (refusal : Refusal) → range_place file k ≡ Err refusal → range_asked file offset len k ≡ Err refusal
  unfolding range_asked
  asked_unplaced refusal is = rw is refl

  pub asked_unread : (path : List ℕ) (refusal : Refusal) → range_place file k ≡ Ok path → reader_in k.session ≡ Err refusal → range_asked file offset len k ≡ Err refusal
  unfolding range_asked
  asked_unread path refusal at no_reader = rw (at, no_reader) refl

  pub asked_unplanned : (path : List ℕ) (r : Reading) (refusal : Refusal) → range_place file k ≡ Ok path → reader_in k.session ≡ Ok r → range_plan r file offset len ≡ Err refusal
      → range_asked file offset len k ≡ Err refusal
  unfolding range_asked
  asked_unplanned path r refusal at reads is = rw (at, reads, is) refl

  pub asked_planned : (path : List ℕ) (r : Reading) (pages : IndexPages) → range_place file k ≡ Ok path → reader_in k.session ≡ Ok r → range_plan r file offset len ≡ Ok pages
      → range_asked file offset len k ≡ Ok (asking path pages (ranged_of file k.row))
  unfolding range_asked
  asked_planned path r pages at reads is = rw (at, reads, is) refl

-- what the lane's session has, by where it stands
pub reader_there : {D : Type 0} (parts : Parts D) (lane : ℕ) (found : Session) (told : Result Reading Refusal) → lane < 64 → found ≡ get_or parts.sessions.items lane found
    → reader_in found ≡ told → reader_in (session_at parts lane) ≡ told
reader_there parts lane found told lt is reads =
    let items = parts.sessions.items in
    let within : lane < length items = omega (arith, parts.lanes, parts.sessions.ok.0, lt) in
    ap reader_in (sym (is ∙ get_or_default items lane found Idle within)) ∙ reads

-- whether the snapshot has the file
module _ {B : Type 0} (f : B → List ℕ) (found : Option B) (key held : SnapshotKey) (file name : List ℕ) (catalogue : List Listed)
    (is : option_map f found ≡ path_in held name catalogue) (keyed : held ≡ key) (named : name ≡ file) where
  path_found : path_in key file catalogue ≡ option_map f found
  path_found = sym (is ∙ ap (λ (k : SnapshotKey). path_in k name catalogue) keyed ∙ ap (λ n. path_in key n catalogue) named)

  pub no_path : is_some found ≡ false → path_in key file catalogue ≡ None
  no_path lacks = path_found ∙ nothing found lacks
    where
      nothing : (o : Option B) → is_some o ≡ false → option_map f o ≡ None
      nothing None e = refl
      nothing (Some x) e = cc

  pub path_there : is_some found ≡ true → (path : List ℕ) × (path_in key file catalogue ≡ Some path)
  path_there has = by_found found path_found has
    where
      by_found : (o : Option B) → path_in key file catalogue ≡ option_map f o → is_some o ≡ true → (path : List ℕ) × (path_in key file catalogue ≡ Some path)
      by_found None at e = cc
      by_found (Some x) at e = (f x, at)

-- ---- beside the plain store

-- a range of an index of the reader's snapshot
pub record IsRanged (s : Store) (lane : ℕ) (file : List ℕ) (offset len : ℕ) (k : KeptAt) : Type 0 where
  pub reading : model.Reader
  pub path : List ℕ
  pub pages : IndexPages
  pub at : session s lane ≡ reader reading
  pub good : is_index_name file ≡ true
  pub there : IsThere s.snapshots reading.key file path
  pub asked : range_asked file offset len k ≡ Ok (asking path pages (ranged_of file k.row))
  pub plans : PlansBytes (reader_files s reading) reading file offset len pages
  pub told : range s lane file offset len ≡ Ok (s, Data (take len (drop offset (concat (pieces_at (reader_files s reading) file)))))

-- or it is refused before a page is read
pub data Asks (s : Store) (lane : ℕ) (file : List ℕ) (offset len : ℕ) (k : KeptAt) : Type 0 where
  asks_none : (refusal : Refusal) → range_asked file offset len k ≡ Err refusal → range s lane file offset len ≡ Err refusal → Asks s lane file offset len k
  asks_of : IsRanged s lane file offset len k → Asks s lane file offset len k

module _ {D : Type 0} (parts : Parts D) (s : Store) (lane : ℕ) (file : List ℕ) (offset len : ℕ) (shows : Shows parts s) (lt : lane < 64) where
  abbrev k : KeptAt
  k = kept_at parts lane

  abbrev x : Session
  x = session_at parts lane

  abbrev catalogue : List Listed
  catalogue = parts.catalogue.listed

  abbrev Answer : Type 0
  Answer = Asks s lane file offset len k

  module _ (r : Reading) (v : model.Reader) (reads : reader_in x ≡ Ok r) (at : session s lane ≡ reader v) (is : shown_reader s.snapshots v ≡ r) (good : is_index_name file ≡ true) where
    by_plan : (path : List ℕ) → path_in r.key file catalogue ≡ Some path → (plan : Result IndexPages Refusal) → range_plan r file offset len ≡ plan
        → PlansPlainly (reader_files s v) v file offset len plan → Answer
    by_plan path found (Ok pages) e plans =
        let t = is_there file catalogue s.snapshots v.key path shows.catalogue (ap (λ (y : Reading). path_in y.key file catalogue) is ∙ found) in
        asks_of (record {
          reading = v;
          path = path;
          pages = pages;
          at = at;
          good = good;
          there = t;
          asked = asked_planned file offset len k path r pages (place_found file k r path reads good found) reads e;
          plans = plans;
          told = range_told s lane file offset len v t.file (Ok (take len (drop offset (concat (pieces_at (reader_files s v) file))))) at good (there_named s.snapshots v.key file path t) plans.stepped;
        })
    by_plan path found (Err refusal) e plans =
        let t = is_there file catalogue s.snapshots v.key path shows.catalogue (ap (λ (y : Reading). path_in y.key file catalogue) is ∙ found) in
        asks_none refusal
        (asked_unplanned file offset len k path r refusal (place_found file k r path reads good found) reads e)
        (range_told s lane file offset len v t.file (Err refusal) at good (there_named s.snapshots v.key file path t) plans)

    by_path : (o : Option (List ℕ)) → path_in r.key file catalogue ≡ o → Answer
    by_path None missing =
        asks_none NoFile (asked_unplaced file offset len k NoFile (place_missing file k r reads good missing))
        (range_missing s lane file offset len v at good (not_there file catalogue s.snapshots v.key shows.catalogue (ap (λ (y : Reading). path_in y.key file catalogue) is ∙ missing)))
    by_path (Some path) found =
        by_plan path found (range_plan r file offset len) refl (planned_plainly (reader_files s v) v r file offset len (sym is))

  by_name : (r : Reading) → reader_in x ≡ Ok r → (b : Bool) → is_index_name file ≡ b → Answer
  by_name r reads true good = let (v, at, is) = reader_shown parts s lane r shows lt reads in by_path r v reads at is good (path_in r.key file catalogue) refl
  by_name r reads false bad =
      let (v, at, is) = reader_shown parts s lane r shows lt reads in
      asks_none BadName (asked_unplaced file offset len k BadName (place_bad file k r reads bad)) (range_bad s lane file offset len v at bad)

  pub asks : Answer
  asks = by_reader (reader_in x) refl
    where
      by_reader : (told : Result Reading Refusal) → reader_in x ≡ told → Answer
      by_reader (Ok r) reads = by_name r reads (is_index_name file) refl
      by_reader (Err refusal) reads =
          asks_none refusal (asked_unplaced file offset len k refusal (place_unread file k refusal reads))
          (range_unread s lane file offset len refusal (reader_wanted parts s lane refusal shows lt reads))

-- ---- the index stands there

pub steps_of_pieces : (start : ℕ) (ps : List (List ℕ)) → All IsPiece ps → IsTrue (steps_fit start (ends_from start ps))
steps_of_pieces start [] all = refl
steps_of_pieces start (p ∷ ps) all =
    let is = All-head IsPiece p ps all in
    let end = start + length p in
    and_from (nat_lt start end && nat_le end (start + 16_777_216)) (steps_fit end (ends_from end ps))
    (and_from (nat_lt start end) (nat_le end (start + 16_777_216)) (lt-ltb start end (omega (arith, is.0))) (le-leb end (start + 16_777_216) (omega (arith, is.1))))
    (steps_of_pieces end ps (All-tail IsPiece p ps all))

abbrev text_in : Option Content → List ℕ
text_in o = elim o [ None ↦ [] | Some content ↦ file_text content ]

abbrev pieces_in : Option Content → List (List ℕ)
pieces_in o = elim o [ None ↦ [] | Some content ↦ pieces_of content ]

ok_err : {A B : Type 0} (a : A) (e : B) → ◌≡◌ {A = Result A B} (Ok a) (Err e) → ⊥
ok_err a e is = cc

asked_same : (a b : RangeAsked) → ◌≡◌ {A = Result RangeAsked Refusal} (Ok a) (Ok b) → a ≡ b
asked_same a b e = cc

archives : (b a : Archive) → Some (archive b) ≡ Some (archive a) → b ≡ a
archives b a e = cc

module _ {D : Type 0} (m : Files) (parts : Parts D) (s : Store) (lane : ℕ) (file : List ℕ) (offset len : ℕ) (shows : Shows parts s) (on : IsOnDisk m s) (lt : lane < 64) where
  abbrev kept : Indexes
  kept = row_at parts lane

  -- a page at hand is of the archive
  module _ (v : model.Reader) (at : session s lane ≡ reader v) (a : Archive) (content : content_at (reader_files s v) file ≡ Some (archive a)) (pages : IndexPages)
      (are : pages ≡ pages_of file (file_path v.key file) (file_text (archive a))) where
    page_fits : (p : RangedPage) → p.name ≡ file → IsRangedOf v.key (files_named v.key s.snapshots) p → IsHandOf pages (ends_from 0 a.pieces) p.page
    page_fits p named fit =
        let same : fit.one ≡ a = archives fit.one a (sym fit.named ∙ ap (content_at (reader_files s v)) named ∙ content) in
        let opened : pages_of p.name (file_path v.key p.name) (file_text (archive fit.one)) ≡ pages = ap₂ (λ n (b : Archive). pages_of n (file_path v.key n) (file_text (archive b))) named same ∙ sym are in
        record {
          below = subst (λ (b : Archive). (p.page).number < page_count (length (ends_from 0 b.pieces))) same fit.below;
          start = fit.start ∙ ap (λ o. start_by o (p.page).number) opened;
          entries = fit.entries ∙ ap (λ (b : Archive). take 1024 (drop ((p.page).number * 1024) (ends_from 0 b.pieces))) same;
        }

    hand_fits : (o : Option ReadPage) → ranged_of file kept ≡ o → FitsHand pages (ends_from 0 a.pieces) o
    hand_fits None e = tt
    hand_fits (Some x) e =
        let (p, is, page, named) = ranged_is file kept x e in
        let fit : IsRangedOf v.key (files_named v.key s.snapshots) p = subst (FitsRow s.snapshots (reader v)) is (subst (λ y. FitsRow s.snapshots y kept) at (shows.indexes lane)) in
        subst (IsHandOf pages (ends_from 0 a.pieces)) page (page_fits p named fit)

  -- the pieces of the archive
  record Stands (q : IsRanged s lane file offset len (kept_at parts lane)) : Type 0 where
    one : Archive
    content : content_at (reader_files s q.reading) file ≡ Some (archive one)
    opened : q.pages ≡ pages_of file (file_path (q.reading).key file) (file_text (archive one))
    pieces : pieces_at (reader_files s q.reading) file ≡ one.pieces
    index : IsIndex m q.pages (ends_from 0 (pieces_at (reader_files s q.reading) file))
    steps : IsTrue (steps_fit 0 (ends_from 0 (pieces_at (reader_files s q.reading) file)))
    held : All (IsHeld m) (pieces_at (reader_files s q.reading) file)
    hand : FitsHand q.pages (ends_from 0 (pieces_at (reader_files s q.reading) file)) (ranged_of file kept)

  stands : (q : IsRanged s lane file offset len (kept_at parts lane)) → Stands q
  stands q =
      let v = q.reading in
      let t = q.there in
      let each = (shows.sound).each in
      let kind = there_kind s.snapshots v.key file q.path t each in
      let (a, one, of_kind) = index_archive (t.file).content file kind q.good in
      let fits : FitsContent (archive a) = subst FitsContent one (there_fits s.snapshots v.key file q.path t each) in
      let named : names_content (archive a) file ≡ true = ap (λ c. names_content c file) (sym one) ∙ kind in
      let text : get m q.path ≡ Some (file_text (archive a)) = there_text m s.snapshots v.key file q.path t ((on.snapshots).files) ∙ ap (λ c. Some (file_text c)) one in
      let content : content_at (reader_files s v) file ≡ Some (archive a) = ap (option_map (λ f. f.content)) (there_named s.snapshots v.key file q.path t) ∙ ap Some one in
      let pages : q.pages ≡ pages_of file (file_path v.key file) (file_text (archive a)) = (q.plans).pages ∙ ap (λ o. pages_of file (file_path v.key file) (text_in o)) content in
      let pieces : pieces_at (reader_files s v) file ≡ a.pieces = ap pieces_in content in
      record {
        one = a;
        content = content;
        opened = pages;
        pieces = pieces;
        index = subst (λ p. IsIndex m p (ends_from 0 (pieces_at (reader_files s v) file))) (sym pages)
            (subst (λ ps. IsIndex m (pages_of file (file_path v.key file) (file_text (archive a))) (ends_from 0 ps)) (sym pieces) (index_is_kept m s.snapshots v.key file q.path t a text fits named));
        steps = subst (λ ps. IsTrue (steps_fit 0 (ends_from 0 ps))) (sym pieces) (steps_of_pieces 0 a.pieces fits.1);
        held = reader_held m s v file on;
        hand = subst (λ ps. FitsHand q.pages (ends_from 0 ps) (ranged_of file kept)) (sym pieces) (hand_fits v q.at a content q.pages pages (ranged_of file kept) refl);
      }

  asked_stands : (q : IsRanged s lane file offset len (kept_at parts lane)) → StandsAsked m (asking q.path q.pages (ranged_of file kept))
  asked_stands q =
      let st = stands q in
      record { whole = record { pieces = pieces_at (reader_files s q.reading) file; index = st.index; steps = st.steps; held = st.held }; hand = st.hand }

  -- where it is read, its index stands there, and its pieces do
  pub range_stands : (a : RangeAsked) → range_asked file offset len (kept_at parts lane) ≡ Ok a → StandsAsked m a
  range_stands a is = by_case (asks parts s lane file offset len shows lt)
    where
      by_case : Asks s lane file offset len (kept_at parts lane) → StandsAsked m a
      by_case (asks_none refusal asked told) = absurd (ok_err a refusal (sym is ∙ asked))
      by_case (asks_of q) = subst (StandsAsked m) (asked_same (asking q.path q.pages (ranged_of file kept)) a (sym q.asked ∙ is)) (asked_stands q)

  -- a page of it that was read is one that the lane may keep
  page_kept : (q : IsRanged s lane file offset len (kept_at parts lane)) (x : ReadPage) → x.number < page_count (pages_by q.pages).count → x.start ≡ start_by q.pages x.number
      → page_entries m q.path q.pages x.number ≡ Ok (ends_of x.entries.items) → FitsRanged s.snapshots (record { name = file; page = x }) (session s lane)
  page_kept q x below start read =
      let st = stands q in
      let es = ends_from 0 (pieces_at (reader_files s q.reading) file) in
      let within : x.number < page_count (length es) = subst (λ n. x.number < page_count n) (st.index).count below in
      let fits : IsRangedOf (q.reading).key (files_named (q.reading).key s.snapshots) (record { name = file; page = x }) = record {
        one = st.one;
        named = st.content;
        below = subst (λ ps. x.number < page_count (length (ends_from 0 ps))) st.pieces within;
        start = start ∙ ap (λ o. start_by o x.number) st.opened;
        entries = entries_same _ _ (sym read ∙ page_read m (ranged q.path q.pages) es st.index st.steps 0 0 x.number within) ∙ ap (λ ps. take 1024 (drop (x.number * 1024) (ends_from 0 ps))) st.pieces;
      } in
      subst (FitsRanged s.snapshots (record { name = file; page = x })) (sym q.at) fits
    where
      entries_same : (a b : List Ended) → ◌≡◌ {A = Result (List Ended) Refusal} (Ok a) (Ok b) → a ≡ b
      entries_same a b e = cc

  pub range_keeps : (a : RangeAsked) (x : ReadPage) → range_asked file offset len (kept_at parts lane) ≡ Ok a → x.number < page_count (pages_by (a.index).pages).count
      → x.start ≡ start_by (a.index).pages x.number → ReadsPage m a.index x → FitsRanged s.snapshots (record { name = file; page = x }) (session s lane)
  range_keeps a x is below start read = by_case (asks parts s lane file offset len shows lt)
    where
      by_case : Asks s lane file offset len (kept_at parts lane) → FitsRanged s.snapshots (record { name = file; page = x }) (session s lane)
      by_case (asks_none refusal asked told) = absurd (ok_err a refusal (sym is ∙ asked))
      by_case (asks_of q) =
          let mine = asked_same a (asking q.path q.pages (ranged_of file kept)) (sym is ∙ q.asked) in
          page_kept q x (subst (λ (b : RangeAsked). x.number < page_count (pages_by (b.index).pages).count) mine below) (subst (λ (b : RangeAsked). x.start ≡ start_by (b.index).pages x.number) mine start)
          (subst (λ (b : RangeAsked). ReadsPage m b.index x) mine read)

  -- it is refused as the plain store refuses it
  pub range_refused : (refusal : Refusal) → range_asked file offset len (kept_at parts lane) ≡ Err refusal → range s lane file offset len ≡ Err refusal
  range_refused refusal is = by_case (asks parts s lane file offset len shows lt)
    where
      same : (r q : Refusal) → ◌≡◌ {A = Result RangeAsked Refusal} (Err r) (Err q) → r ≡ q
      same r q e = cc

      by_case : Asks s lane file offset len (kept_at parts lane) → range s lane file offset len ≡ Err refusal
      by_case (asks_none other asked told) = told ∙ ap Err (same other refusal (sym asked ∙ is))
      by_case (asks_of q) = absurd (ok_err (asking q.path q.pages (ranged_of file kept)) refusal (sym q.asked ∙ is))

  -- the bytes that are read are the plain store's
  pub range_given : (a : RangeAsked) (bytes : List ℕ) → range_asked file offset len (kept_at parts lane) ≡ Ok a → range_with m a offset (offset + len) ≡ Ok bytes
      → range s lane file offset len ≡ Ok (s, Data bytes)
  unfolding asked_stands
  range_given a bytes is read = by_case (asks parts s lane file offset len shows lt)
    where
      by_case : Asks s lane file offset len (kept_at parts lane) → range s lane file offset len ≡ Ok (s, Data bytes)
      by_case (asks_none refusal asked told) = absurd (ok_err a refusal (sym is ∙ asked))
      by_case (asks_of q) =
          let mine = asked_same a (asking q.path q.pages (ranged_of file kept)) (sym is ∙ q.asked) in
          let left : offset + len - offset ≡ len = omega arith in
          let pieces = pieces_at (reader_files s q.reading) file in
          let are = asked_bytes_are m (asking q.path q.pages (ranged_of file kept)) offset (offset + len) (asked_stands q) bytes
          (ap (λ b. range_with m b offset (offset + len)) (sym mine) ∙ read) in
          q.told ∙ ap (λ b. Ok (s, Data b)) (sym (are ∙ ap (λ n. take n (drop offset (concat pieces))) left))

-- ---- its refusals before it is read

-- none is of a damaged chunk or an unreadable page
abbrev pub refuses_asked : Refusal → Bool
refuses_asked (WrongState state) = true
refuses_asked BadName = true
refuses_asked NoFile = true
refuses_asked NotAllowed = true
refuses_asked (TooMany limit) = true
refuses_asked (BadRange size) = true
refuses_asked _ = false

refuses_same : (q r : Refusal) → q ≡ r → refuses_asked q ≡ true → refuses_asked r ≡ true
refuses_same q r e h = subst (λ x. refuses_asked x ≡ true) e h

asked_err : {A : Type 0} (q r : Refusal) → ◌≡◌ {A = Result A Refusal} (Err q) (Err r) → q ≡ r
asked_err q r e = cc

want_refuses : (size offset len : ℕ) (r : Refusal) → want_range size offset len ≡ Err r → refuses_asked r ≡ true
want_refuses size offset len r is = by_limit (nat_le len part_limit) is
  where
    by_size : (b : Bool) → unless (BadRange size) b ≡ Err r → refuses_asked r ≡ true
    by_size true e = cc
    by_size false e = refuses_same (BadRange size) r (asked_err (BadRange size) r e) refl

    by_limit : (b : Bool) → (unless (TooMany part_limit) b >>= λ _. unless (BadRange size) (nat_le (offset + len) size)) ≡ Err r → refuses_asked r ≡ true
    by_limit true e = by_size (nat_le (offset + len) size) e
    by_limit false e = refuses_same (TooMany part_limit) r (asked_err (TooMany part_limit) r e) refl

plan_refuses : (reading : Reading) (file : List ℕ) (offset len : ℕ) (r : Refusal) → range_plan reading file offset len ≡ Err r → refuses_asked r ≡ true
plan_refuses reading file offset len r is = by_noted (noted_as reading file) refl
  where
    by_want : (x : Noted) → noted_as reading file ≡ Some x → (w : Result (Unit {0}) Refusal) → want_range x.size offset len ≡ w → refuses_asked r ≡ true
    by_want x e (Ok u) f = absurd (ok_err x.pages r (sym (plan_noted reading file x offset len (Ok tt) e f) ∙ is))
    by_want x e (Err q) f = refuses_same q r (asked_err q r (sym (plan_noted reading file x offset len (Err q) e f) ∙ is)) (want_refuses x.size offset len q f)

    by_noted : (o : Option Noted) → noted_as reading file ≡ o → refuses_asked r ≡ true
    by_noted None e = refuses_same NotAllowed r (asked_err NotAllowed r (sym (plan_none reading file offset len e) ∙ is)) refl
    by_noted (Some x) e = by_want x e (want_range x.size offset len) refl

pub asked_refuses : (file : List ℕ) (offset len : ℕ) (k : KeptAt) (r : Refusal) → range_asked file offset len k ≡ Err r → refuses_asked r ≡ true
asked_refuses file offset len k r is = from_session k.session refl
  where
    refused_as : (q : Refusal) → range_asked file offset len k ≡ Err q → refuses_asked q ≡ true → refuses_asked r ≡ true
    refused_as q asked h = refuses_same q r (asked_err q r (sym asked ∙ is)) h

    unread : (state : SessionState) → reader_in k.session ≡ Err (WrongState state) → refuses_asked r ≡ true
    unread state e = refused_as (WrongState state) (asked_unplaced file offset len k (WrongState state) (place_unread file k (WrongState state) e)) refl

    by_plan : (reading : Reading) (path : List ℕ) → reader_in k.session ≡ Ok reading → range_place file k ≡ Ok path → (p : Result IndexPages Refusal) → range_plan reading file offset len ≡ p → refuses_asked r ≡ true
    by_plan reading path reads at (Ok pages) e = absurd (ok_err (asking path pages (ranged_of file k.row)) r (sym (asked_planned file offset len k path reading pages at reads e) ∙ is))
    by_plan reading path reads at (Err q) e = refused_as q (asked_unplanned file offset len k path reading q at reads e) (plan_refuses reading file offset len q e)

    by_path : (reading : Reading) → reader_in k.session ≡ Ok reading → is_index_name file ≡ true → (o : Option (List ℕ)) → path_in reading.key file k.catalogue ≡ o → refuses_asked r ≡ true
    by_path reading reads good None missing = refused_as NoFile (asked_unplaced file offset len k NoFile (place_missing file k reading reads good missing)) refl
    by_path reading reads good (Some path) found =
        by_plan reading path reads (place_found file k reading path reads good found) (range_plan reading file offset len) refl

    by_name : (reading : Reading) → reader_in k.session ≡ Ok reading → (b : Bool) → is_index_name file ≡ b → refuses_asked r ≡ true
    by_name reading reads true good = by_path reading reads good (path_in reading.key file k.catalogue) refl
    by_name reading reads false bad = refused_as BadName (asked_unplaced file offset len k BadName (place_bad file k reading reads bad)) refl

    from_session : (x : Session) → k.session ≡ x → refuses_asked r ≡ true
    from_session Idle e = unread (state_of Idle) (ap reader_in e)
    from_session (Writer w) e = unread (state_of (Writer w)) (ap reader_in e)
    from_session (Reader reading) e = by_name reading (ap reader_in e) (is_index_name file) refl
