-- The start of a collector: what refuses it, and that its plan is the new sweep of the plain store.
use Rattle.std.proofs.Common.{◌≡◌, ◌<◌, ◌≤◌, ◌+◌, ◌^◌, get_or, ◌++◌, ℕ, Bool, true, false, cond, min, List, [], ◌∷◌, append-nil, append_assoc, drop, filter, flat_map, length, map, take, Option, Some, None, Result, Ok, Err, IsErrAnd, refl, sym, ap, subst, ◌∙◌, arith}
use Rattle.std.specs.Prelude.{AllPairs, IfSome}
use Rattle.std.specs.List.{All}
use Rattle.std.proofs.lemmas.Bool.{or_parts}
use Rattle.std.proofs.lemmas.List.{drop_all, drop_more, map-append, take_more}
use Rattle.std.proofs.lemmas.List.Concat.{flat_map-append}
use Rattle.std.proofs.lemmas.List.Elements.{All-append, All-head, All-map, All-nil, All-tail, filter-append, filter_passes}
use Rattle.store_types.specs.Chain.Refusing.{◌>>=◌, if_none}
use Rattle.store_types.specs.FileNames.{is_dynamic_name, is_fixed_name, is_index_name}
use Rattle.store_types.specs.declared.refusal.Refusal.{Refusal}
use Rattle.store_types.specs.declared.refusal.Refusal.TheVariants.{CollectorBusy, Unreadable}
use Rattle.wire_commands.specs.declared.reply.Reply.TheVariants.{Refused}
use Rattle.wire_commands.specs.HasText.{ReplyHasText}
use Rattle.wire_commands.specs.RefusalText.{refusal_text}
use Rattle.wire_commands.specs.ReplyText.{reply_text}
use Rattle.store_files.specs.Archive.{Content, archive, blob, File, Layout, dynamic, fixed, Snapshot, file_named}
use Rattle.store_model.specs.Stands.{IsSnapshot, keys_rise, names_content}
use Rattle.store_model.specs.Store.{Store, session}
use Rattle.store_model.specs.Store as model
use Rattle.atime_book.specs.Touches.{cutoff_of}
use Rattle.gc_plan.specs.Plan.{Plan, begun, next_index}
use Rattle.gc_plan.specs.declared.IndexAt.{IndexAt}
use Rattle.backup_session.specs.Shown.{shown}
use Rattle.store_history.specs.Sweeping.{Unmarked, digests_of, earlier, new_sweep, oldest_in, unmarked_of}
use Rattle.store_history.specs.Sweeping as sweeps
use Rattle.store_history.proofs.Found.{each_file, each_named}
use Rattle.core_state.specs.Found.{first_unreadable}
use Rattle.core_state.specs.declared.collector.Collector.{Collector}
use Rattle.core_state.specs.declared.kept.Kept.{Kept}
use Rattle.core_state.specs.declared.kept.Listed.{Listed}
use Rattle.core_state.specs.declared.kept.Session.{Session}
use Rattle.core_state.specs.declared.kept.Session.TheVariants.{Idle, Reader, Writer}
use Rattle.core_state.specs.declared.kept.StoredFile.{StoredFile}
use Rattle.core_state.specs.declared.entering.Place.{Place}
use Rattle.core_state.specs.declared.parts.Parts.{Parts}
use Rattle.core_state.specs.declared.marked.MarkedPages.{MarkedPages}
use Rattle.store_stops.specs.declared.stop.Stop.{Stop}
use Rattle.store_stops.specs.declared.stop.Stop.TheVariants as stops
use Rattle.core_state.specs.Entries.{FitsPages}
use Rattle.core_state.specs.Holds.{Shows}
use Rattle.core_state.specs.Numbers.{AreNumbered, IsGiven}
use Rattle.core_state.specs.Shown.{files_named, shown_file, shown_files, shown_session, shown_snapshot}
use Rattle.core_state.specs.Sweeps.{FitsRemoved, HasNumber, HasPages, ShowsSweep, by_number, digests_in, left_at, left_in, left_of_kept, unmarked_by, visits_by}
use Rattle.core_state.specs.Decides.{Decides}
use Rattle.core_state.specs.Heads.{idle_in}
use Rattle.core_state.specs.Kept.{KeptAt}
use Rattle.core_collect.specs.Starting.{GivesCollector, IsNewCollector, earlier_of, indexes_in, indexes_of, oldest_kept, start_told}
use Rattle.core_collect.proofs.Lists.{each_numbered}

-- ---- the oldest writer

-- of this one and of those that are later in the list
abbrev pub earliest : Option ℕ → Option ℕ → Option ℕ
earliest None later = later
earliest (Some a) later = earlier later a

earliest_moved : (a o : Option ℕ) (s : ℕ) → earliest (earlier a s) o ≡ earliest a (earlier o s)
earliest_moved None None s = refl
earliest_moved None (Some b) s = refl
earliest_moved (Some a) None s = let e : min a s ≡ min s a = omega arith in ap Some e
earliest_moved (Some a) (Some b) s = let e : min b (min a s) ≡ min (min b s) a = omega arith in ap Some e

-- one session more
pub earliest_step : (a o : Option ℕ) (x : Session) → earliest (earlier_of a x) o ≡ earliest a (earlier_of o x)
earliest_step a o Idle = refl
earliest_step a o (Writer w) = earliest_moved a o ((w.session).writer).start
earliest_step a o (Reader r) = refl

-- none is later
pub earliest_all : (a : Option ℕ) → earliest a None ≡ a
earliest_all None = refl
earliest_all (Some a) = refl

oldest_is : (snapshots : List Snapshot) (xs : List model.Session) → oldest_kept (map (shown_session snapshots) xs) ≡ oldest_in xs
unfolding shown
oldest_is snapshots [] = refl
oldest_is snapshots (model.none ∷ xs) = oldest_is snapshots xs
oldest_is snapshots (model.writer w ∷ xs) = ap (λ o. earlier o w.start) (oldest_is snapshots xs)
oldest_is snapshots (model.reader r ∷ xs) = oldest_is snapshots xs

-- ---- the indexes

-- each has the name of an index
pub names_in : (catalogue : List Listed) → All (λ (i : IndexAt). is_index_name i.name ≡ true) (indexes_in catalogue)
names_in [] = All-nil (λ (i : IndexAt). is_index_name i.name ≡ true)
names_in (x ∷ xs) =
    let of_file : StoredFile → IndexAt = λ f. record { snapshot = x.number; name = f.name } in
    All-append (λ (i : IndexAt). is_index_name i.name ≡ true) (indexes_of x) (indexes_in xs)
    (All-map (λ (i : IndexAt). is_index_name i.name ≡ true) of_file (filter (λ f. is_index_name f.name) (x.kept).files) (filter_passes (λ f. is_index_name f.name) (x.kept).files))
    (names_in xs)

-- and the number of a snapshot of the catalogue
numbers_in : (acts : ℕ) (catalogue : List Listed) → All (IsGiven acts) catalogue → All (HasNumber acts) (indexes_in catalogue)
numbers_in acts [] given = All-nil (HasNumber acts)
numbers_in acts (x ∷ xs) given =
    let of_file : StoredFile → IndexAt = λ f. record { snapshot = x.number; name = f.name } in
    All-append (HasNumber acts) (indexes_of x) (indexes_in xs)
    (All-map (HasNumber acts) of_file (filter (λ f. is_index_name f.name) (x.kept).files) (λ k d within. All-head (IsGiven acts) x xs given))
    (numbers_in acts xs (All-tail (IsGiven acts) x xs given))

-- of the first as of the others
pub left_all : (catalogue : List Listed) (snapshots : List Snapshot) (is : List IndexAt) → left_in catalogue snapshots 0 is ≡ flat_map (left_at catalogue snapshots 0) is
left_all catalogue snapshots [] = refl
left_all catalogue snapshots (i ∷ is) = refl

no_archive : (layout : Layout) (name : List ℕ) → elim layout [ dynamic ↦ is_dynamic_name name | fixed size chunk_size ↦ is_fixed_name name ] ≡ true → is_index_name name ≡ false → ⊥
no_archive layout name kind none = by_layout layout kind (or_parts (is_fixed_name name) (is_dynamic_name name) none)
  where
    true_false : true ≡ false → ⊥
    true_false e = cc

    by_layout : (l : Layout) → elim l [ dynamic ↦ is_dynamic_name name | fixed size chunk_size ↦ is_fixed_name name ] ≡ true
        → (is_fixed_name name ≡ false) × (is_dynamic_name name ≡ false) → ⊥
    by_layout dynamic kind none = true_false (sym kind ∙ none.1)
    by_layout (fixed size chunk_size) kind none = true_false (sym kind ∙ none.0)

-- a file with another name has no entries
no_entries : (content : Content) (name : List ℕ) → names_content content name ≡ true → is_index_name name ≡ false → digests_of content ≡ []
no_entries (blob bytes) name kind none = refl
no_entries (archive a) name kind none = absurd (no_archive a.layout name kind none)

module _ (catalogue : List Listed) (snapshots : List Snapshot) where
  abbrev left : IndexAt → List Unmarked
  left i = left_at catalogue snapshots 0 i

  -- of a snapshot that is kept under this number
  module _ (number : ℕ) (y : Snapshot) (kept : by_number number catalogue ≡ Some (shown_snapshot y)) (files : files_named y.key snapshots ≡ y.files) where
    abbrev of_file : StoredFile → IndexAt
    of_file f = record { snapshot = number; name = f.name }

    abbrev of_model : File → List Unmarked
    of_model f = unmarked_of y.key f.name (digests_of f.content)

    file_left : (f : File) → file_named f.name y.files ≡ Some f → left (record { snapshot = number; name = f.name }) ≡ of_model f
    file_left f there =
        ap (left_of_kept snapshots f.name 0) kept
        ∙ ap (λ fs. unmarked_of y.key f.name (digests_in (file_named f.name fs))) files
        ∙ ap (λ o. unmarked_of y.key f.name (digests_in o)) there

    -- of these files
    abbrev kept_indexes : List File → List StoredFile
    kept_indexes fs = filter (λ f. is_index_name f.name) (shown_files y.key fs)

    files_left : (fs : List File) → All (λ f. file_named f.name y.files ≡ Some f) fs → All (λ f. names_content f.content f.name ≡ true) fs
        → flat_map left (map of_file (kept_indexes fs)) ≡ flat_map of_model fs
    files_left [] there kinds = refl
    files_left (f ∷ fs) there kinds =
        by_name (is_index_name f.name) refl (files_left fs (All-tail (λ g. file_named g.name y.files ≡ Some g) f fs there) (All-tail (λ g. names_content g.content g.name ≡ true) f fs kinds))
      where
        by_name : (b : Bool) → is_index_name f.name ≡ b → flat_map left (map of_file (kept_indexes fs)) ≡ flat_map of_model fs
            → flat_map left (map of_file (cond b (shown_file y.key f ∷ kept_indexes fs) (kept_indexes fs))) ≡ of_model f ++ flat_map of_model fs
        by_name true is later =
            ap (λ us. us ++ flat_map left (map of_file (kept_indexes fs))) (file_left f (All-head (λ g. file_named g.name y.files ≡ Some g) f fs there))
            ∙ ap (λ us. of_model f ++ us) later
        by_name false is later =
            later
            ∙ sym (ap (λ ds. unmarked_of y.key f.name ds ++ flat_map of_model fs) (no_entries f.content f.name (All-head (λ g. names_content g.content g.name ≡ true) f fs kinds) is))

  -- what holds of each snapshot
  abbrev IsWhole : Snapshot → Type 0
  IsWhole y = (files_named y.key snapshots ≡ y.files) × IsSnapshot y

  heads : (x y : Kept) (xs ys : List Kept) → x ∷ xs ≡ y ∷ ys → x ≡ y
  heads x y xs ys e = cc

  tails : (x y : Kept) (xs ys : List Kept) → x ∷ xs ≡ y ∷ ys → xs ≡ ys
  tails x y xs ys e = cc

  nil_cons : (y : Kept) (ys : List Kept) → [] ≡ y ∷ ys → ⊥
  nil_cons y ys e = cc

  cons_nil : (x : Kept) (xs : List Kept) → x ∷ xs ≡ [] → ⊥
  cons_nil x xs e = cc

  snapshot_left : (x : Listed) (y : Snapshot) → x.kept ≡ shown_snapshot y → by_number x.number catalogue ≡ Some (x.kept) → IsWhole y → flat_map left (indexes_of x) ≡ sweeps.indexes_of y
  snapshot_left x y same at whole =
      ap (λ (k : Kept). flat_map left (map (of_file x.number y (at ∙ ap Some same) whole.0) (filter (λ f. is_index_name f.name) k.files))) same
      ∙ files_left x.number y (at ∙ ap Some same) whole.0 y.files (each_file y.files (whole.1).names) (whole.1).kinds

  snapshots_left : (xs : List Listed) (ys : List Snapshot) → map (λ x. x.kept) xs ≡ map shown_snapshot ys → All (λ x. by_number x.number catalogue ≡ Some (x.kept)) xs → All IsWhole ys
      → flat_map left (indexes_in xs) ≡ sweeps.indexes_in ys
  snapshots_left [] [] same at whole = refl
  snapshots_left [] (y ∷ ys) same at whole = absurd (nil_cons (shown_snapshot y) (map shown_snapshot ys) same)
  snapshots_left (x ∷ xs) [] same at whole = absurd (cons_nil x.kept (map (λ z. z.kept) xs) same)
  snapshots_left (x ∷ xs) (y ∷ ys) same at whole =
      flat_map-append left (indexes_of x) (indexes_in xs)
      ∙ ap (λ us. us ++ flat_map left (indexes_in xs))
      (snapshot_left x y (heads x.kept (shown_snapshot y) (map (λ z. z.kept) xs) (map shown_snapshot ys) same) (All-head (λ z. by_number z.number catalogue ≡ Some (z.kept)) x xs at) (All-head IsWhole y ys whole))
      ∙ ap (λ us. sweeps.indexes_of y ++ us)
      (snapshots_left xs ys (tails x.kept (shown_snapshot y) (map (λ z. z.kept) xs) (map shown_snapshot ys) same) (All-tail (λ z. by_number z.number catalogue ≡ Some (z.kept)) x xs at) (All-tail IsWhole y ys whole))

  all_whole : keys_rise snapshots ≡ true → All IsSnapshot snapshots → All IsWhole snapshots
  all_whole rise each k d within =
      let found = each_named snapshots rise k d within in
      (ap (λ o. elim o [ None ↦ [] | Some x ↦ x.files ]) found, each k d within)

  -- they are those of the plain store
  pub indexes_are : map (λ x. x.kept) catalogue ≡ map shown_snapshot snapshots → AllPairs Rattle.core_state.specs.Numbers.DifferInNumber catalogue → keys_rise snapshots ≡ true → All IsSnapshot snapshots
      → left_in catalogue snapshots 0 (indexes_in catalogue) ≡ sweeps.indexes_in snapshots
  indexes_are same once rise each =
      left_all catalogue snapshots (indexes_in catalogue) ∙ snapshots_left catalogue snapshots same (each_numbered catalogue once) (all_whole rise each)

-- ---- the collector that opens

-- its plan is the new sweep
pub started_shows : {D : Type 0} (parts : Parts D) (s : Store) (acts lane moment : ℕ) (c : Collector) → Shows parts s → AreNumbered acts parts.catalogue.listed → IsNewCollector parts lane moment c
    → ShowsSweep acts parts.catalogue.listed s.snapshots c (new_sweep s moment)
started_shows parts s acts lane moment c shows numbers new =
    let catalogue = parts.catalogue.listed in
    let sound = shows.sound in record {
      start = ap (λ (p : Plan). p.start) new.plan_is;
      cutoff = ap (λ (p : Plan). p.cutoff) new.plan_is ∙ ap (cutoff_of moment) (ap oldest_kept shows.sessions ∙ oldest_is s.snapshots s.sessions);
      unmarked = ap (λ (p : Plan). unmarked_by catalogue s.snapshots p.indexes p.stage) new.plan_is ∙ indexes_are catalogue s.snapshots shows.catalogue numbers.once sound.order sound.each;
      to_visit = ap (λ (p : Plan). visits_by p.stage) new.plan_is;
      removed = ap (λ (p : Plan). p.removed) new.plan_is;
      few = subst (λ (p : Plan). FitsRemoved p.stage p.removed) (sym new.plan_is) refl;
      pages = subst (λ (o : Option MarkedPages). IfSome o (λ q. HasPages catalogue s.snapshots q (next_index c.plan))) (sym new.none_open) tt;
      numbers = subst (λ (p : Plan). All (HasNumber acts) p.indexes) (sym new.plan_is) (numbers_in acts catalogue numbers.given);
    }

-- ---- loops

-- one session more
pub oldest_next : (xs : List Session) (i : ℕ) (x : Session) (oldest next : Option ℕ) → i < length xs → x ≡ get_or xs i x → next ≡ earlier_of oldest x
    → earliest oldest (oldest_kept (drop i xs)) ≡ oldest_kept xs → earliest next (oldest_kept (drop (i + 1) xs)) ≡ oldest_kept xs
oldest_next xs i x oldest next lt at is so_far =
    let rest = drop (i + 1) xs in
    ap (λ o. earliest o (oldest_kept rest)) is
    ∙ earliest_step oldest (oldest_kept rest) x
    ∙ ap (λ y. earliest oldest (earlier_of (oldest_kept rest) y)) at
    ∙ sym (ap (λ ys. earliest oldest (oldest_kept ys)) (drop_more xs i x lt))
    ∙ so_far

pub oldest_end : (xs : List Session) (i : ℕ) (oldest : Option ℕ) → length xs ≤ i → earliest oldest (oldest_kept (drop i xs)) ≡ oldest_kept xs → oldest ≡ oldest_kept xs
oldest_end xs i oldest le so_far = sym (earliest_all oldest) ∙ sym (ap (λ ys. earliest oldest (oldest_kept ys)) (drop_all i xs le)) ∙ so_far

-- ---- what refuses it, test by test

abbrev pub busy : Option Collector → Result (Unit {0}) Refusal
busy c = if_none (λ (x : Collector). CollectorBusy x.lane) c

module _ (c : Option Collector) (k : KeptAt) where
  abbrev after_session : Result (Unit {0}) Refusal → Result (Unit {0}) Refusal
  after_session r = r >>= λ _. busy c >>= λ _. if_none Unreadable (first_unreadable k.catalogue)

  abbrev after_busy : Result (Unit {0}) Refusal → Result (Unit {0}) Refusal
  after_busy r = r >>= λ _. if_none Unreadable (first_unreadable k.catalogue)

  pub told_session : (refusal : Refusal) → idle_in k ≡ Err refusal → start_told c k ≡ Err refusal
  unfolding start_told
  told_session refusal is = ap after_session is

  pub told_busy : (ahead : Collector) → idle_in k ≡ Ok tt → c ≡ Some ahead → start_told c k ≡ Err (CollectorBusy ahead.lane)
  unfolding start_told
  told_busy ahead idle is = ap after_session idle ∙ ap (λ o. after_busy (busy o)) is

  pub told_damaged : (name : List ℕ) → idle_in k ≡ Ok tt → c ≡ None → first_unreadable k.catalogue ≡ Some name → start_told c k ≡ Err (Unreadable name)
  unfolding start_told
  told_damaged name idle none is = ap after_session idle ∙ ap (λ o. after_busy (busy o)) none ∙ ap (if_none Unreadable) is

  pub told_free : idle_in k ≡ Ok tt → c ≡ None → first_unreadable k.catalogue ≡ None → start_told c k ≡ Ok tt
  unfolding start_told
  told_free idle none whole = ap after_session idle ∙ ap (λ o. after_busy (busy o)) none ∙ ap (if_none Unreadable) whole

pub busy_has_text : (lane : ℕ) → lane < 2 ^ 32 → ReplyHasText (Refused (CollectorBusy lane))
unfolding reply_text refusal_text
busy_has_text lane lt = (lt, omega arith)

abbrev pub index_of : ℕ → StoredFile → IndexAt
index_of number f = record { snapshot = number; name = f.name }

-- one file more
module _ (number : ℕ) (xs : List StoredFile) (i : ℕ) (x : StoredFile) (old before after_ : List IndexAt) (lt : i < length xs) (at : x ≡ get_or xs i x) where
  abbrev indexes_among : List StoredFile → List IndexAt
  indexes_among fs = map (index_of number) (filter (λ f. is_index_name f.name) fs)

  more : indexes_among (take (i + 1) xs) ≡ indexes_among (take i xs) ++ indexes_among (x ∷ [])
  more =
      ap indexes_among (take_more xs i x lt ∙ ap (λ y. take i xs ++ y ∷ []) (sym at))
      ∙ ap (map (index_of number)) (filter-append (λ f. is_index_name f.name) (take i xs) (x ∷ []))
      ∙ map-append (index_of number) (filter (λ f. is_index_name f.name) (take i xs)) (filter (λ f. is_index_name f.name) (x ∷ []))

  one : (b : Bool) → is_index_name x.name ≡ b → indexes_among (x ∷ []) ≡ map (index_of number) (cond b (x ∷ []) [])
  one b is = ap (λ t. map (index_of number) (cond t (x ∷ []) [])) is

  pub indexes_pushed : is_index_name x.name ≡ true → after_ ≡ before ++ index_of number x ∷ [] → before ≡ old ++ indexes_among (take i xs) → after_ ≡ old ++ indexes_among (take (i + 1) xs)
  indexes_pushed is pushed so_far =
      pushed
      ∙ ap (λ is. is ++ index_of number x ∷ []) so_far
      ∙ append_assoc old (indexes_among (take i xs)) (index_of number x ∷ [])
      ∙ ap (λ is. old ++ is) (sym (more ∙ ap (λ is. indexes_among (take i xs) ++ is) (one true is)))

  pub indexes_kept : is_index_name x.name ≡ false → after_ ≡ before → before ≡ old ++ indexes_among (take i xs) → after_ ≡ old ++ indexes_among (take (i + 1) xs)
  indexes_kept is same so_far =
      same ∙ so_far ∙ ap (λ is. old ++ is) (sym (more ∙ ap (λ is. indexes_among (take i xs) ++ is) (one false is) ∙ append-nil (indexes_among (take i xs))))

-- one snapshot more
pub indexes_next : (xs : List Listed) (i : ℕ) (x : Listed) → i < length xs → x ≡ get_or xs i x → indexes_in (take i xs) ++ indexes_of x ≡ indexes_in (take (i + 1) xs)
indexes_next xs i x lt at =
    ap (λ is. indexes_in (take i xs) ++ is) (sym (append-nil (indexes_of x)))
    ∙ sym (flat_map-append indexes_of (take i xs) (x ∷ []))
    ∙ sym (ap indexes_in (take_more xs i x lt ∙ ap (λ y. take i xs ++ y ∷ []) (sym at)))

-- of a plan that begins none are at hand
pub fits_new : (moment : ℕ) (oldest : Option ℕ) (catalogue : List Listed) (p : Plan) → p ≡ begun moment oldest (indexes_in catalogue) → FitsPages p None
fits_new moment oldest catalogue p is =
    subst (λ q. FitsPages q None) (sym is)
    (record { named = names_in catalogue; begun = λ some. absurd (omega (arith, some)); within = λ some. absurd (none_is some); few = omega arith })
  where
    none_is : false ≡ true → ⊥
    none_is e = cc

-- what refuses it is handed on
pub opening_stops : {D : Type 0} (parts : Parts D) (before : Option Collector) (at : Place) (stop : Stop) (r : Result Collector Stop) → IsErrAnd r (λ x. x ≡ stop)
    → Decides (λ (may : Unit {0}). may) (start_told before) parts at.lane (Err stop) → GivesCollector parts before at r
opening_stops parts before at stop (Ok c) is decides = absurd is
opening_stops parts before at stop (Err x) is decides = subst (λ y. GivesCollector parts before at (Err y)) (sym is) (by_stop stop decides)
  where
    by_stop : (y : Stop) → Decides (λ (may : Unit {0}). may) (start_told before) parts at.lane (Err y) → GivesCollector parts before at (Err y)
    by_stop (stops.Refused refusal) decides = decides.0
    by_stop stops.NoMemory decides = tt
    by_stop stops.DiskFailed decides = absurd decides
