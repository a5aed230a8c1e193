-- An entry of an index that stands there is the archive's piece, whether its page is at hand or read.
use Rattle.std.proofs.Common.{◌≡◌, ℕ, ◌+◌, ◌*◌, ◌/◌, ◌%◌, ◌<◌, ◌≤◌, ⊎_elim, Bool, nat_lt, List, [], length, take, drop, get_or, Option, Some, None, Result, Ok, Err, refl, sym, ap, ◌∙◌, arith}
use Rattle.std.specs.Prelude.{option_map}
use Rattle.std.proofs.lemmas.Bool.{cases_lt, lt-ltb, le-ltb}
use Rattle.std.proofs.lemmas.List.{get_or-drop, get_or-take, length-drop, length-take}
use Rattle.std.proofs.lemmas.Option.{slice_get-get_or, slice_get_past}
use Rattle.disk_trait.specs.Files.{Files}
use Rattle.store_types.specs.declared.names.Digest32.{Digest32}
use Rattle.store_types.specs.declared.refusal.Refusal.{Refusal}
use Rattle.store_types.specs.declared.refusal.Refusal.TheVariants.{BadRange, Unreadable}
use Rattle.store_types.specs.Chain.Refusing.{◌>>=◌, or_else, unless}
use Rattle.store_files.specs.DynamicIndex.{Ended}
use Rattle.index_pages.specs.Paged.{page_count}
use Rattle.paged_indexes.specs.declared.index.IndexPages.{IndexPages}
use Rattle.paged_indexes.specs.declared.kinds.IndexKind.{IndexKind}
use Rattle.paged_indexes.specs.Laws.{IsIndex}
use Rattle.snapshot_files.specs.Indexes.{entries_or, index_opened, page_entries}
use Rattle.restore_reader.specs.Plan.{ends_of}
use Rattle.core_state.specs.declared.indexes.OpenPage.{OpenPage}
use Rattle.core_reader.specs.Entries.{count_of, digest_among, digest_of_end, digest_on, entries_on, entry_at, entry_on}

-- ---- an entry within its page

-- it is the one that the index has at its place
page_entry : (es : List Ended) (place : ℕ) → place < length es → digest_among (take 1024 (drop (place / 1024 * 1024) es)) (place % 1024) ≡ digest_among es place
page_entry es place below =
    let none : Ended = record { end = 0; digest = [] } in
    let k = place / 1024 * 1024 in
    let r = place % 1024 in
    let rest = drop k es in
    let len = length-take 1024 rest in
    let behind = length-drop k es in
    let at : k + r ≡ place = omega arith in
    let low : r < 1024 = omega arith in
    let inside : r < length (take 1024 rest) = omega (arith, len, behind, below) in
    ap (option_map digest_of_end)
    (slice_get-get_or (take 1024 rest) r none inside
    ∙ ap (λ (e : Ended). Some e) (get_or-take 1024 rest r none low ∙ get_or-drop k es r none ∙ ap (λ n. get_or es n none) at)
    ∙ sym (slice_get-get_or es place none below))

among_some : (es : List Ended) (place : ℕ) → place < length es → (digest : Digest32) × (digest_among es place ≡ Some digest)
among_some es place below =
    let none : Ended = record { end = 0; digest = [] } in
    (digest_of_end (get_or es place none), ap (option_map digest_of_end) (slice_get-get_or es place none below))

-- ---- of an index that stands there

module _ (m : Files) (path : List ℕ) (p : IndexPages) (es : List Ended) (is : IsIndex m p es) where
  abbrev page : ℕ → List Ended
  page i = take 1024 (drop (i * 1024) es)

  pub page_there : (i : ℕ) → i < page_count (length es) → page_entries m path p i ≡ Ok (page i)
  unfolding page_entries
  page_there i below = ap (entries_or path) (is.pages i below).read

  abbrev told : ℕ → Result Digest32 Refusal
  told place = or_else (BadRange (length es)) (digest_among es place)

  digest_of_page : (place : ℕ) → place < length es → digest_on path place (page (place / 1024)) ≡ told place
  digest_of_page place below =
      let some = among_some es place below in
      ap (or_else (Unreadable path)) (page_entry es place below ∙ some.1) ∙ sym (ap (or_else (BadRange (length es))) some.1)

  abbrev digest_then : ℕ → Result (List Ended) Refusal → Result Digest32 Refusal
  digest_then place r = r >>= digest_on path place

  -- a page that is at hand is its page
  abbrev pub IsPageAt : ℕ → Option OpenPage → Type 0
  IsPageAt place None = Unit {0}
  IsPageAt place (Some q) = (q.number ≡ place / 1024) × (ends_of q.entries.items ≡ page q.number)

  entries_are : (o : Option OpenPage) (place : ℕ) → place < length es → IsPageAt place o → entries_on o place m path p ≡ Ok (page (place / 1024))
  entries_are None place below at = page_there (place / 1024) (omega (arith, below))
  entries_are (Some q) place below at = ap Ok (at.1 ∙ ap page at.0)

  abbrev on_by : ℕ → Bool → Result (List Ended) Refusal → Result Digest32 Refusal
  on_by place b entries = unless (BadRange (count_of p)) b >>= λ _. digest_then place entries

  on_is : (o : Option OpenPage) (place : ℕ) → entry_on p o place m path ≡ on_by place (nat_lt place (count_of p)) (entries_on o place m path p)
  unfolding entry_on
  on_is o place = refl

  later : (o : Option OpenPage) (place : ℕ) → IsPageAt place o → entry_on p o place m path ≡ told place
  later o place at = ⊎_elim inside past (cases_lt place (length es))
    where
      inside : place < length es → entry_on p o place m path ≡ told place
      inside below =
          on_is o place ∙ ap (λ b. on_by place b (entries_on o place m path p)) (lt-ltb place (count_of p) (omega (arith, is.count, below)))
          ∙ ap (digest_then place) (entries_are o place below at) ∙ digest_of_page place below

      past : length es ≤ place → entry_on p o place m path ≡ told place
      past beyond =
          on_is o place ∙ ap (λ b. on_by place b (entries_on o place m path p)) (le-ltb place (count_of p) (omega (arith, is.count, beyond))) ∙ ap (λ n. Err (BadRange n)) is.count
          ∙ sym (ap (λ (o : Option Ended). or_else (BadRange (length es)) (option_map digest_of_end o)) (slice_get_past es place beyond))

  -- one that is opened for it
  pub entry_first : (of_kind : IndexKind) (place : ℕ) → index_opened m path of_kind ≡ Ok p → entry_at of_kind place m path ≡ told place
  unfolding entry_at
  entry_first of_kind place opens = ap (λ (r : Result IndexPages Refusal). r >>= λ pages. entry_on pages None place m path) opens ∙ later None place tt

  pub entry_later : (pages : IndexPages) (o : Option OpenPage) (place : ℕ) → pages ≡ p → IsPageAt place o → entry_on pages o place m path ≡ told place
  entry_later pages o place same at = ap (λ q. entry_on q o place m path) same ∙ later o place at
