-- The page of an entry, as its index is opened.
use Rattle.std.proofs.Common.{◌≡◌, ◌+◌, ◌-◌, ◌*◌, ◌/◌, ◌<◌, ◌≤◌, ℕ, zero, suc, min, Bool, true, false, nat_lt, List, [], ◌∷◌, ◌++◌, length, take, drop, Some, Ok, refl, sym, ap, subst, ◌∙◌, arith}
use Rattle.std.specs.FinMap.{get}
use Rattle.std.proofs.lemmas.Bool.{ltb-true}
use Rattle.std.proofs.lemmas.List.{drop-append-le, drop_all, length-append, length-drop, length-map, length-take, map_push, take-append-le, take_all}
use Rattle.std.proofs.Math.Seq.{drop-append-add}
use Rattle.disk_trait.specs.Files.{Files}
use Rattle.store_types.specs.declared.refusal.Refusal.TheVariants.{BadRange}
use Rattle.store_types.specs.Chain.Refusing.{unless}
use Rattle.store_files.specs.Cells.{entry_limit}
use Rattle.store_files.specs.DynamicIndex.{Ended}
use Rattle.dynamic_index.specs.Pieces.{last_end}
use Rattle.index_pages.specs.Paged.{page_count}
use Rattle.paged_indexes.specs.declared.index.IndexPages.{IndexPages}
use Rattle.paged_indexes.specs.declared.kinds.IndexEntry.{IndexEntry}
use Rattle.paged_indexes.specs.declared.kinds.IndexKind.{IndexKind}
use Rattle.paged_indexes.specs.Handing.{HandsOn, HandsSome, ended_of}
use Rattle.paged_indexes.specs.Index.{entries_in, pages_by, told_by}
use Rattle.paged_indexes.proofs.PagesRead.{opened_is_index}
use Rattle.restore_reader.specs.Plan.{ends_of}
use Rattle.snapshot_files.specs.Indexes.{entries_or, index_opened, page_entries}
use Rattle.snapshot_files.proofs.Opened.{opened_there}
use Rattle.core_state.proofs.KeptPages.{opens_as}
use Rattle.core_reader.specs.declared.entries.PageTaken.{PageTaken}
use Rattle.core_reader.specs.Entries.{count_of, want_entry}
use Rattle.core_reader.specs.EntryReads.{IsTaken}
use Rattle.core_reader.specs.Ranges.{AreKept}
use Rattle.core_reader.proofs.EntryFound.{below_pages}

-- there is such an entry
pub want_below : (pages : IndexPages) (place : ℕ) → want_entry pages place ≡ Ok tt → place < count_of pages
want_below pages place is = by_test (nat_lt place (count_of pages)) refl is
  where
    by_test : (b : Bool) → nat_lt place (count_of pages) ≡ b → unless (BadRange (count_of pages)) b ≡ Ok tt → place < count_of pages
    by_test true t e = ltb-true place (count_of pages) t
    by_test false t e = cc

-- ---- one entry more

abbrev pub Taken : PageTaken → ℕ → List Ended → Type 0
Taken p base entries = IsTaken p entries

-- it is passed over
pub passes_one : (old new : PageTaken) (es : List Ended) (e : Ended) → 0 < old.skip → new.skip ≡ old.skip - 1 → new.entries.items ≡ old.entries.items → IsTaken old es → IsTaken new (es ++ e ∷ [])
passes_one old new es e some skip same is =
    let more = length-append es (e ∷ []) in
    let skipped = is.skipped in
    let none : drop entry_limit es ≡ [] = drop_all entry_limit es (omega (arith, some, skipped)) in
    let still : drop entry_limit (es ++ e ∷ []) ≡ [] = drop_all entry_limit (es ++ e ∷ []) (omega (arith, some, skipped, more)) in
    record {
      skipped = omega (arith, some, skip, skipped, more);
      taken = ap ends_of same ∙ is.taken ∙ ap (take 1024) (none ∙ sym still);
    }

few_taken : (old : PageTaken) (es : List Ended) → IsTaken old es → length old.entries.items ≡ min 1024 (length es - entry_limit)
few_taken old es is =
    let same = ap length is.taken in
    omega (arith, same, length-map old.entries.items ended_of, length-take 1024 (drop entry_limit es), length-drop entry_limit es)

-- it is taken
pub takes_one : (old new : PageTaken) (es : List Ended) (e : IndexEntry) → old.skip ≡ 0 → new.skip ≡ old.skip → length old.entries.items < 1024 → new.entries.items ≡ old.entries.items ++ e ∷ []
    → IsTaken old es → IsTaken new (es ++ ended_of e ∷ [])
takes_one old new es e none skip room pushed is =
    let more = length-append es (ended_of e ∷ []) in
    let skipped = is.skipped in
    let many : entry_limit ≤ length es = omega (arith, none, skipped) in
    let rest = drop entry_limit es in
    let few : length rest < 1024 = omega (arith, room, few_taken old es is, length-drop entry_limit es) in
    let all : take 1024 rest ≡ rest = take_all 1024 rest (omega (arith, few)) in
    let same : take 1024 (rest ++ ended_of e ∷ []) ≡ rest ++ ended_of e ∷ [] = take_all 1024 (rest ++ ended_of e ∷ []) (omega (arith, few, length-append rest (ended_of e ∷ []))) in
    record {
      skipped = omega (arith, none, skip, skipped, more);
      taken = ap ends_of pushed ∙ map_push ended_of old.entries.items e
          ∙ ap (λ xs. xs ++ ended_of e ∷ []) (is.taken ∙ all)
          ∙ sym (ap (take 1024) (drop-append-le entry_limit es (ended_of e ∷ []) many) ∙ same);
    }

-- it is one too many
pub leaves_one : (old new : PageTaken) (es : List Ended) (e : Ended) → old.skip ≡ 0 → new ≡ old → 1024 ≤ length old.entries.items → IsTaken old es → IsTaken new (es ++ e ∷ [])
leaves_one old new es e none same full is =
    let more = length-append es (e ∷ []) in
    let skipped = is.skipped in
    let many : entry_limit ≤ length es = omega (arith, none, skipped) in
    let rest = drop entry_limit es in
    let most : 1024 ≤ length rest = omega (arith, full, few_taken old es is, length-drop entry_limit es) in
    subst (λ p. IsTaken p (es ++ e ∷ [])) (sym same) (record {
      skipped = omega (arith, none, skipped, more);
      taken = is.taken ∙ sym (ap (take 1024) (drop-append-le entry_limit es (e ∷ []) many) ∙ take-append-le 1024 rest (e ∷ []) most);
    })

-- ---- all of them

-- so many that are passed over before
abbrev no_entry : Ended
no_entry = record { end = 0; digest = [] }

unfoldable fillers : ℕ → List Ended
fillers zero = []
fillers (suc n) = no_entry ∷ fillers n

fillers_end : (n : ℕ) → last_end 0 (fillers n) ≡ 0
unfolding fillers
fillers_end zero = refl
fillers_end (suc n) = fillers_end n

length-fillers : (n : ℕ) → length (fillers n) ≡ n
unfolding fillers
length-fillers zero = refl
length-fillers (suc n) = ap suc (length-fillers n)

-- the page is taken that begins behind so many
taken_from : (old new : PageTaken) (k : ℕ) (es : List Ended) → k ≤ entry_limit → old.skip ≡ k → old.entries.items ≡ [] → HandsOn Taken 0 es old new → ends_of new.entries.items ≡ take 1024 (drop k es)
taken_from old new k es few skip none hands =
    let n = entry_limit - k in
    let before = fillers n in
    let long : length before ≡ n = length-fillers n in
    let at : length before + k ≡ entry_limit = omega (arith, few, long) in
    let begins : IsTaken old before =
    record {
      skipped = omega (arith, few, skip, long);
      taken = ap ends_of none ∙ sym (ap (take 1024) (drop_all entry_limit before (omega (arith, long))));
    } in
    (hands 0 before begins (fillers_end n)).taken ∙ ap (λ j. take 1024 (drop j (before ++ es))) (sym at) ∙ ap (take 1024) (drop-append-add before es k)

module _ (pages : IndexPages) (place : ℕ) (old new : PageTaken) (skip : old.skip ≡ place / 1024 * 1024) (none : old.entries.items ≡ []) (below : place < count_of pages)
    (some : HandsSome Taken (pages_by pages) (told_by pages) old new) where
  page_few : place / 1024 * 1024 ≤ entry_limit
  page_few = omega (arith, below, some.many, (some.fit).limit)

  -- on any disk
  pub first_kept : AreKept pages (place / 1024) (ends_of new.entries.items)
  first_kept =
      let x = some.pages (place / 1024) (below_pages place (count_of pages) below) in
      record {
        bytes = x.bytes;
        kept = x.kept;
        told = x.told ∙ ap Ok (sym (taken_from old new (place / 1024 * 1024) some.entries page_few skip none some.hands));
      }

  -- of an honest one
  pub first_read : (m : Files) (path : List ℕ) (kind : IndexKind) → index_opened m path kind ≡ Ok pages
      → ((text : List ℕ) (entries : List Ended) → get m path ≡ Some text → entries_in kind text ≡ Some entries → HandsOn Taken 0 entries old new)
      → page_entries m path pages (place / 1024) ≡ Ok (ends_of new.entries.items)
  unfolding page_entries
  first_read m path kind opened those =
      let there = opened_there m path kind pages opened in
      let es = there.entries in
      let is = opened_is_index m path there.text kind pages es there.there (opens_as m path kind pages opened) there.read in
      let low : place / 1024 < page_count (length es) = below_pages place (length es) (omega (arith, below, is.count)) in
      ap (entries_or path) (is.pages (place / 1024) low).read
      ∙ ap Ok (sym (taken_from old new (place / 1024 * 1024) es page_few skip none (those there.text es there.there there.read)))
