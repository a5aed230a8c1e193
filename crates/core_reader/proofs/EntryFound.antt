-- What is found of an entry is what is told of it.
use Rattle.disk_trait.specs.declared.disk.Disk.{Ghosts}
use Rattle.std.proofs.Common.{◌≡◌, ℕ, zero, suc, ◌%◌, ◌/◌, ◌<◌, arith, List, [], ◌∷◌, slice_get, Option, None, Some, Result, Ok, Err, IfOk, IsErrAnd, refl, sym, ap, subst, ◌∙◌}
use Rattle.disk_trait.specs.Files.{Files}
use Rattle.store_types.specs.declared.names.Digest32.{Digest32}
use Rattle.store_types.specs.declared.refusal.Refusal.{Refusal}
use Rattle.std.specs.Option.{option_map}
use Rattle.store_types.specs.declared.refusal.Refusal.TheVariants.{Unreadable}
use Rattle.store_types.specs.Chain.Refusing.{◌>>=◌, or_else}
use Rattle.store_files.specs.DynamicIndex.{Ended}
use Rattle.index_pages.specs.Paged.{page_count}
use Rattle.paged_indexes.specs.declared.index.IndexPages.{IndexPages}
use Rattle.paged_indexes.specs.declared.kinds.IndexKind.{IndexKind}
use Rattle.paged_indexes.specs.declared.kinds.IndexEntry.{IndexEntry}
use Rattle.snapshot_files.specs.Indexes.{index_opened, kind_of_index}
use Rattle.restore_reader.specs.Plan.{ends_of}
use Rattle.store_stops.specs.declared.stop.Stop.{Stop}
use Rattle.store_stops.specs.declared.stop.Stop.TheVariants.{Refused, NoMemory, DiskFailed}
use Rattle.store_stops.specs.Stops.{Gives}
use Rattle.core_state.specs.declared.indexes.Indexes.{Indexes}
use Rattle.core_state.specs.declared.indexes.OpenIndex.{OpenIndex}
use Rattle.core_state.specs.declared.indexes.OpenPage.{OpenPage}
use Rattle.core_state.specs.Indexed.{open_of}
use Rattle.core_reader.specs.declared.entries.Found.{Found}
use Rattle.core_reader.specs.Entries.{IsFirst, IsNext, IsTurn, IsTurnOf, ReadsTurnOf, at_hand, digest_among, digest_on, entries_on, entry_at, entry_of, entry_on, want_entry}
use Rattle.core_reader.specs.EntryReads.{FindsAs, FindsBy, FindsFirst, FindsNext}

-- ---- it stopped

module _ {D : Type 0} (d : Ghosts D) (disk : D) (told : Files → Result Digest32 Refusal) (Reads : Files → Found → Type 0) where
  pub finds_stop : (stop : Stop) (result : Result Found Stop) → IsErrAnd result (λ x. x ≡ stop) → (d.honest disk → Gives (λ (f : Found). f.digest) (Err stop) (told (d.content disk))) → FindsAs d disk told Reads result
  finds_stop stop (Ok found) stops gives = absurd stops
  finds_stop stop (Err x) stops gives = subst (λ (y : Stop). FindsAs d disk told Reads (Err y)) (sym stops) (record { gives = gives; reads = λ honest. tt })

-- whatever it gives, where its refusal is that of the whole
pub stops_by : {A B : Type 0} (f : A → B) (stop : Stop) (step : Result B Refusal) (told : Result Digest32 Refusal) → ((refusal : Refusal) → step ≡ Err refusal → told ≡ Err refusal) → Gives f (Err stop) step
    → Gives (λ (found : Found). found.digest) (Err stop) told
stops_by f (Refused refusal) step told so gives = so refusal gives
stops_by f NoMemory step told so gives = tt
stops_by f DiskFailed step told so gives = tt

-- ---- of an index that is open

module _ (pages : IndexPages) (page : Option OpenPage) (place : ℕ) (m : Files) (path : List ℕ) where
  abbrev on_then : Result (Unit {0}) Refusal → Result (List Ended) Refusal → Result Digest32 Refusal
  on_then wanted entries = wanted >>= λ _. entries >>= digest_on path place

  on_is : entry_on pages page place m path ≡ on_then (want_entry pages place) (entries_on page place m path pages)
  unfolding entry_on
  on_is = refl

  -- there is no such entry
  pub on_unwanted : (refusal : Refusal) → want_entry pages place ≡ Err refusal → entry_on pages page place m path ≡ Err refusal
  on_unwanted refusal none = on_is ∙ ap (λ r. on_then r (entries_on page place m path pages)) none

  module _ (wanted : want_entry pages place ≡ Ok tt) where
    -- its page is not read
    pub on_unread : (refusal : Refusal) → entries_on page place m path pages ≡ Err refusal → entry_on pages page place m path ≡ Err refusal
    on_unread refusal none = on_is ∙ ap (λ r. on_then r (entries_on page place m path pages)) wanted ∙ ap (λ (r : Result (List Ended) Refusal). r >>= digest_on path place) none

    -- it is told by its page
    pub on_told : (entries : List Ended) → entries_on page place m path pages ≡ Ok entries → entry_on pages page place m path ≡ digest_on path place entries
    on_told entries read = on_is ∙ ap (λ r. on_then r (entries_on page place m path pages)) wanted ∙ ap (λ (r : Result (List Ended) Refusal). r >>= digest_on path place) read

-- ---- of one that is opened for it

module _ (of_kind : IndexKind) (place : ℕ) (m : Files) (path : List ℕ) where
  abbrev then_on : Result IndexPages Refusal → Result Digest32 Refusal
  then_on opened = opened >>= λ pages. entry_on pages None place m path

  pub first_unopened : (refusal : Refusal) → index_opened m path of_kind ≡ Err refusal → entry_at of_kind place m path ≡ Err refusal
  unfolding entry_at
  first_unopened refusal none = ap then_on none

  pub first_opened : (pages : IndexPages) → index_opened m path of_kind ≡ Ok pages → entry_at of_kind place m path ≡ entry_on pages None place m path
  unfolding entry_at
  first_opened pages opened = ap then_on opened

-- ---- the digest among those of its page

-- what the entries show of their digests is theirs
pub among_is : (es : List IndexEntry) (i : ℕ) → digest_among (ends_of es) i ≡ option_map (λ (e : IndexEntry). e.digest) (slice_get es i)
among_is [] i = refl
among_is (e ∷ es) zero = refl
among_is (e ∷ es) (suc i) = among_is es i

pub digest_there : (path : List ℕ) (place : ℕ) (es : List IndexEntry) (e : IndexEntry) → slice_get es (place % 1024) ≡ Some e → digest_on path place (ends_of es) ≡ Ok e.digest
digest_there path place es e at =
    ap (or_else (Unreadable path)) (among_is es (place % 1024) ∙ ap (option_map (λ (e : IndexEntry). e.digest)) at)

pub digest_none : (path : List ℕ) (place : ℕ) (es : List IndexEntry) → slice_get es (place % 1024) ≡ None → digest_on path place (ends_of es) ≡ Err (Unreadable path)
digest_none path place es none =
    ap (or_else (Unreadable path)) (among_is es (place % 1024) ∙ ap (option_map (λ (e : IndexEntry). e.digest)) none)

-- ---- what is found, by the index's pages

module _ {D : Type 0} (d : Ghosts D) (disk : D) (told : Files → Result Digest32 Refusal) (Reads : Files → Found → Type 0) (pages : IndexPages) (page : Option OpenPage) (place : ℕ) (path : List ℕ)
    (told_is : d.honest disk → told (d.content disk) ≡ entry_on pages page place (d.content disk) path) where
  -- there is no such entry
  pub finds_none : (refusal : Refusal) (result : Result Found Stop) → IsErrAnd result (λ x. x ≡ Refused refusal) → want_entry pages place ≡ Err refusal → FindsAs d disk told Reads result
  finds_none refusal result stops none = finds_stop d disk told Reads (Refused refusal) result stops (λ h. told_is h ∙ on_unwanted pages page place (d.content disk) path refusal none)

  module _ (wanted : want_entry pages place ≡ Ok tt) where
    -- its page is not read
    pub finds_no_page : {A : Type 0} (f : A → List Ended) (stop : Stop) (result : Result Found Stop) → IsErrAnd result (λ x. x ≡ stop)
        → (d.honest disk → Gives f (Err stop) (entries_on page place (d.content disk) path pages)) → FindsAs d disk told Reads result
    finds_no_page f stop result stops gives =
        finds_stop d disk told Reads stop result stops
        (λ h. stops_by f stop _ _ (λ refusal none. told_is h ∙ on_unread pages page place (d.content disk) path wanted refusal none) (gives h))

    module _ (entries : List Ended) (read : d.honest disk → entries_on page place (d.content disk) path pages ≡ Ok entries) where
      -- the page has no such entry
      pub finds_no_digest : (stop : Stop) (result : Result Found Stop) → IsErrAnd result (λ x. x ≡ stop) → Gives {A = Digest32} (λ x. x) (Err stop) (digest_on path place entries) → FindsAs d disk told Reads result
      finds_no_digest stop result stops gives =
          finds_stop d disk told Reads stop result stops
          (λ h. stops_by {A = Digest32} (λ x. x) stop _ _ (λ refusal none. told_is h ∙ on_told pages page place (d.content disk) path wanted entries (read h) ∙ none) gives)

      -- it is found
      pub finds_it : (found : Found) → digest_on path place entries ≡ Ok found.digest → (d.honest disk → Reads (d.content disk) found) → FindsAs d disk told Reads (Ok found)
      finds_it found is reads = record { gives = λ h. told_is h ∙ on_told pages page place (d.content disk) path wanted entries (read h) ∙ is; reads = reads }

  -- memory is wanting
  pub finds_short : (result : Result Found Stop) → IsErrAnd result (λ x. x ≡ NoMemory) → FindsAs d disk told Reads result
  finds_short result stops = finds_stop d disk told Reads NoMemory result stops (λ h. tt)

-- of an index that is opened for it
pub opened_told : {D : Type 0} (d : Ghosts D) (disk : D) (path : List ℕ) (of_kind kind : IndexKind) (place : ℕ) (pages : IndexPages) → of_kind ≡ kind → (d.honest disk → index_opened (d.content disk) path of_kind ≡ Ok pages)
    → d.honest disk → entry_at kind place (d.content disk) path ≡ entry_on pages None place (d.content disk) path
opened_told d disk path of_kind kind place pages same opened h =
    first_opened kind place (d.content disk) path pages (ap (index_opened (d.content disk) path) (sym same) ∙ opened h)

-- which is not opened
pub finds_unopened : {D : Type 0} (d : Ghosts D) (disk : D) (path name : List ℕ) (of_kind : IndexKind) (place : ℕ) (stop : Stop) (result : Result Found Stop) → of_kind ≡ kind_of_index name → IsErrAnd result (λ x. x ≡ stop)
    → (d.honest disk → Gives {A = IndexPages} (λ p. p) (Err stop) (index_opened (d.content disk) path of_kind)) → FindsFirst d disk path name place result
finds_unopened d disk path name of_kind place stop result same stops gives =
    finds_stop d disk _ _ stop result stops
    (λ h. stops_by {A = IndexPages} (λ p. p) stop _ _ (λ refusal none. first_unopened (kind_of_index name) place (d.content disk) path refusal (ap (index_opened (d.content disk) path) (sym same) ∙ none)) (gives h))

-- ---- beside what the lane keeps

abbrev FindsOf : {D : Type 0} → Ghosts D → D → List ℕ → Option OpenIndex → Option OpenPage → List ℕ → ℕ → Result Found Stop → Type 0
FindsOf d disk path o page name place result = FindsAs d disk (λ m. entry_of o page (kind_of_index name) place m path) (λ m f. ReadsTurnOf o m path name f.turn) result

module _ {D : Type 0} (d : Ghosts D) (disk : D) (path name : List ℕ) (row : Indexes) (place : ℕ) (result : Result Found Stop) where
  pub finds_first : open_of name row ≡ None → FindsFirst d disk path name place result → FindsBy d disk path row name place result
  finds_first none finds = subst (λ o. FindsOf d disk path o (at_hand row name place) name place result) (sym none) finds

  pub finds_next : (o : OpenIndex) → open_of name row ≡ Some o → FindsNext d disk path o.pages (at_hand row name place) place result → FindsBy d disk path row name place result
  finds_next o is finds = subst (λ o. FindsOf d disk path o (at_hand row name place) name place result) (sym is) finds

  pub turns_first : open_of name row ≡ None → IfOk result (λ f. IsFirst name place f.turn) → IfOk result (λ f. IsTurn row name place f.turn)
  turns_first none only = subst (λ o. IfOk result (λ f. IsTurnOf o (at_hand row name place) name place f.turn)) (sym none) only

  pub turns_next : (o : OpenIndex) → open_of name row ≡ Some o → IfOk result (λ f. IsNext o.pages (at_hand row name place) name place f.turn) → IfOk result (λ f. IsTurn row name place f.turn)
  turns_next o is only = subst (λ o. IfOk result (λ f. IsTurnOf o (at_hand row name place) name place f.turn)) (sym is) only

-- ---- the page that has an entry

-- the same entries
pub read_as : (read : Result (List Ended) Refusal) (es xs : List IndexEntry) → read ≡ Ok (ends_of xs) → es ≡ xs → read ≡ Ok (ends_of es)
read_as read es xs is same = is ∙ ap (λ (ys : List IndexEntry). Ok (ends_of ys)) (sym same)

pub below_pages : (place count : ℕ) → place < count → place / 1024 < page_count count
below_pages place count below = omega (arith, below)
