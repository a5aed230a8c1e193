-- The digests that are marked next, as the entries of one page or two are read.
use Rattle.std.proofs.Common.{◌≡◌, ◌<◌, ◌≤◌, ◌+◌, ◌-◌, ◌*◌, ◌/◌, ◌%◌, ℕ, min, Bool, true, false, cond, nat_lt, List, [], ◌∷◌, ◌++◌, append-nil, append_assoc, drop, length, length-append, length-drop, length-take, map, replicate, take, Option, None, Result, Ok, Err, refl, sym, ap, subst, ◌∙◌, arith}
use Rattle.std.proofs.lemmas.Bool.{ltb-false, ltb-true}
use Rattle.std.proofs.lemmas.List.{drop-append-le, drop-drop, drop-map, drop-take, drop_all, length-map, length-replicate, map_push, take-append-le, take-map, take-take, take_all}
use Rattle.std.proofs.lemmas.Nat.{div-add-mod'}
use Rattle.std.proofs.Math.Seq.{drop-append-add, take-add}
use Rattle.disk_trait.specs.Files.{Files}
use Rattle.store_types.specs.Chain.Refusing.{◌>>=◌}
use Rattle.store_types.specs.declared.names.Digest32.{Digest32}
use Rattle.store_types.specs.declared.refusal.Refusal.{Refusal}
use Rattle.store_files.specs.DynamicIndex.{Ended}
use Rattle.dynamic_index.specs.Pieces.{last_end}
use Rattle.index_pages.specs.Paged.{page_at, page_count}
use Rattle.gc_plan.specs.Plan.{mark_limit}
use Rattle.paged_indexes.specs.declared.index.IndexPages.{IndexPages}
use Rattle.paged_indexes.specs.Handing.{HandsOn}
use Rattle.paged_indexes.specs.Index.{entries_read, pages_by, told_at, told_by}
use Rattle.paged_indexes.specs.Laws.{IsIndex}
use Rattle.snapshot_files.specs.Indexes.{entries_or}
use Rattle.core_state.specs.declared.marked.MarkedPage.{MarkedPage}
use Rattle.core_collect.specs.declared.marking.Batch.{Batch}
use Rattle.core_collect.specs.Entries.{IsBatch, TakesAll, bytes_at, bytes_of, entry_digests, marked_from, next_entries, next_read, page_told, reaches_on}

-- ---- entries that are taken

abbrev digest_in : Ended → List ℕ
digest_in e = e.digest

-- entries with these digests, each of which ends there
abbrev at_end : ℕ → List (List ℕ) → List Ended
at_end start digests = map (λ d. let e : Ended = record { end = start; digest = d } in e) digests

at_end_digests : (start : ℕ) (ds : List (List ℕ)) → entry_digests (at_end start ds) ≡ ds
at_end_digests start [] = refl
at_end_digests start (d ∷ ds) = ap (λ xs. d ∷ xs) (at_end_digests start ds)

at_end_last : (start : ℕ) (ds : List (List ℕ)) → last_end start (at_end start ds) ≡ start
at_end_last start [] = refl
at_end_last start (d ∷ ds) = at_end_last start ds

joined : (xs ys : List Ended) → entry_digests (xs ++ ys) ≡ entry_digests xs ++ entry_digests ys
joined [] ys = refl
joined (x ∷ xs) ys = ap (λ ds. x.digest ∷ ds) (joined xs ys)

abbrev pub Taken : Batch → ℕ → List Ended → Type 0
Taken b base entries = IsBatch b (entry_digests entries)

-- wherever they begin, they are taken behind those before
pub hands_all : (start : ℕ) (entries : List Ended) (old new : Batch) → HandsOn Taken start entries old new → TakesAll old new entries
hands_all start entries old new hands ds batch =
    let before = at_end start ds in
    subst (IsBatch new) (joined before entries ∙ ap (λ xs. xs ++ entry_digests entries) (at_end_digests start ds))
    (hands start before (subst (IsBatch old) (sym (at_end_digests start ds)) batch) (at_end_last start ds))

pub takes_none : (old new : Batch) (entries : List Ended) → TakesAll old new entries → TakesAll old new (entries ++ [])
takes_none old new entries takes = subst (TakesAll old new) (sym (append-nil entries)) takes

pub takes_both : (old mid new : Batch) (xs ys : List Ended) → TakesAll old mid xs → TakesAll mid new ys → TakesAll old new (xs ++ ys)
takes_both old mid new xs ys first second ds batch =
    subst (IsBatch new) (append_assoc ds (entry_digests xs) (entry_digests ys) ∙ ap (λ es. ds ++ es) (sym (joined xs ys)))
    (second (ds ++ entry_digests xs) (first ds batch))

-- one more entry is passed over, is taken, or is one too many
pub passes_one : (old new : Batch) (e : Ended) (ds : List (List ℕ)) → 0 < old.skip → new.skip ≡ old.skip - 1 → new.digests.items ≡ old.digests.items → IsBatch old ds → IsBatch new (ds ++ e.digest ∷ [])
passes_one old new e ds some skip same batch =
    let more = length-append ds (e.digest ∷ []) in
    let skipped = batch.skipped in
    let none : drop 1024 ds ≡ [] = drop_all 1024 ds (omega (arith, some, skipped)) in
    let still : drop 1024 (ds ++ e.digest ∷ []) ≡ [] = drop_all 1024 (ds ++ e.digest ∷ []) (omega (arith, some, skipped, more)) in
    record {
      skipped = omega (arith, some, skip, skipped, more);
      taken = ap bytes_of same ∙ batch.taken ∙ ap (take mark_limit) (none ∙ sym still);
    }

pub taken_one : (b : Batch) (before : List Ended) (e : Ended) → IsBatch b (entry_digests before ++ e.digest ∷ []) → IsBatch b (entry_digests (before ++ e ∷ []))
taken_one b before e batch = subst (IsBatch b) (sym (joined before (e ∷ []))) batch

-- behind those that are passed over
behind_one : (ds : List (List ℕ)) (d : List ℕ) → 1024 ≤ length ds → drop 1024 (ds ++ d ∷ []) ≡ drop 1024 ds ++ d ∷ []
behind_one ds d many = drop-append-le 1024 ds (d ∷ []) many

few_taken : (old : Batch) (ds : List (List ℕ)) → IsBatch old ds → length old.digests.items ≡ min mark_limit (length ds - 1024)
few_taken old ds batch =
    let same = ap length batch.taken in
    omega (arith, same, length-map old.digests.items (λ (d : Digest32). d.0), length-take mark_limit (drop 1024 ds), length-drop 1024 ds)

pub takes_one : (old new : Batch) (e : Ended) (d : Digest32) (ds : List (List ℕ)) → old.skip ≡ 0 → new.skip ≡ old.skip → length old.digests.items < mark_limit → new.digests.items ≡ old.digests.items ++ d ∷ [] → d.0 ≡ e.digest
    → IsBatch old ds → IsBatch new (ds ++ e.digest ∷ [])
takes_one old new e d ds none skip room pushed is batch =
    let more = length-append ds (e.digest ∷ []) in
    let skipped = batch.skipped in
    let many : 1024 ≤ length ds = omega (arith, none, skipped) in
    let rest = drop 1024 ds in
    let long = length-drop 1024 ds in
    let few : length rest < mark_limit = omega (arith, room, few_taken old ds batch, long) in
    let all : take mark_limit rest ≡ rest = take_all mark_limit rest (omega (arith, few)) in
    let same : take mark_limit (rest ++ e.digest ∷ []) ≡ rest ++ e.digest ∷ [] = take_all mark_limit (rest ++ e.digest ∷ []) (omega (arith, few, length-append rest (e.digest ∷ []))) in
    record {
      skipped = omega (arith, none, skip, skipped, more);
      taken = ap bytes_of pushed ∙ map_push (λ (x : Digest32). x.0) old.digests.items d
          ∙ ap (λ xs. xs ++ d.0 ∷ []) (batch.taken ∙ all) ∙ ap (λ x. rest ++ x ∷ []) is
          ∙ sym (ap (take mark_limit) (behind_one ds e.digest many) ∙ same);
    }

pub leaves_one : (old new : Batch) (e : Ended) (ds : List (List ℕ)) → old.skip ≡ 0 → new ≡ old → mark_limit ≤ length old.digests.items → IsBatch old ds → IsBatch new (ds ++ e.digest ∷ [])
leaves_one old new e ds none same full batch =
    let more = length-append ds (e.digest ∷ []) in
    let skipped = batch.skipped in
    let many : 1024 ≤ length ds = omega (arith, none, skipped) in
    let rest = drop 1024 ds in
    let long = length-drop 1024 ds in
    let most : mark_limit ≤ length rest = omega (arith, full, few_taken old ds batch, long) in
    subst (λ b. IsBatch b (ds ++ e.digest ∷ [])) (sym same) (record {
      skipped = omega (arith, none, skipped, more);
      taken = batch.taken ∙ sym (ap (take mark_limit) (behind_one ds e.digest many) ∙ take-append-le mark_limit rest (e.digest ∷ []) most);
    })

-- ---- before the first is read, and once all are

-- so many that are passed over before
abbrev fillers : ℕ → List (List ℕ)
fillers n = replicate n []

pub begins_batch : (b : Batch) (k : ℕ) → k ≤ 1024 → b.skip ≡ k → b.digests.items ≡ [] → IsBatch b (fillers (1024 - k))
begins_batch b k few skip none =
    let long = length-replicate (1024 - k) (let x : List ℕ = [] in x) in
    record {
      skipped = omega (arith, few, skip, long);
      taken = ap bytes_of none ∙ sym (ap (take mark_limit) (drop_all 1024 (fillers (1024 - k)) (omega (arith, long))));
    }

pub whole_batch : (old new : Batch) (k : ℕ) (entries : List Ended) → k ≤ 1024 → old.skip ≡ k → old.digests.items ≡ [] → TakesAll old new entries → bytes_of new.digests.items ≡ marked_from k (entry_digests entries)
whole_batch old new k entries few skip none takes =
    let xs = fillers (1024 - k) in
    let ds = entry_digests entries in
    let long = length-replicate (1024 - k) (let x : List ℕ = [] in x) in
    let at : length xs + k ≡ 1024 = omega (arith, few, long) in
    (takes xs (begins_batch old k few skip none)).taken ∙ ap (λ n. take mark_limit (drop n (xs ++ ds))) (sym at) ∙ ap (take mark_limit) (drop-append-add xs ds k)

-- ---- one page or two

-- the entries that a page's bytes spell
pub told_is : (m : Files) (path : List ℕ) (p : IndexPages) (at_hand : Option MarkedPage) (i : ℕ) (bytes : List ℕ) (es : List Ended) → bytes_at m p at_hand i ≡ Ok bytes → told_by p i bytes ≡ Ok es
    → page_told m path p at_hand i ≡ Ok es
unfolding page_told
told_is m path p at_hand i bytes es read told = ap (λ r. entries_or path (entries_read p i r)) read ∙ ap (entries_or path) told

-- what is at hand is not the page
pub told_anew : (m : Files) (path : List ℕ) (p : IndexPages) (at_hand : Option MarkedPage) (i : ℕ) → bytes_at m p at_hand i ≡ page_at m (pages_by p) i → page_told m path p at_hand i ≡ page_told m path p None i
unfolding page_told
told_anew m path p at_hand i same = ap (λ r. entries_or path (entries_read p i r)) same

module _ (m : Files) (path : List ℕ) (p : IndexPages) (at_hand : Option MarkedPage) (first : ℕ) where
  abbrev i : ℕ
  i = first / 1024

  abbrev reach : Bool
  reach = reaches_on (pages_by p).count first

  abbrev page : Result (List Ended) Refusal
  page = page_told m path p at_hand i

  abbrev following : Result (List Ended) Refusal
  following = page_told m path p None (i + 1)

  abbrev behind : List Ended → Bool → Result (List Ended) Refusal
  behind xs b = (cond b following (Ok [])) >>= λ ys. Ok (xs ++ ys)

  by_first : (r : Result (List Ended) Refusal) → page ≡ r → next_entries m path p at_hand first ≡ (r >>= λ xs. behind xs reach)
  unfolding next_entries
  by_first r is = ap (λ q. q >>= λ xs. behind xs reach) is

  pub next_one : (xs : List Ended) → page ≡ Ok xs → reach ≡ false → next_entries m path p at_hand first ≡ Ok (xs ++ [])
  next_one xs is off = by_first (Ok xs) is ∙ ap (behind xs) off

  pub next_two : (xs ys : List Ended) → page ≡ Ok xs → reach ≡ true → following ≡ Ok ys → next_entries m path p at_hand first ≡ Ok (xs ++ ys)
  next_two xs ys is on next = by_first (Ok xs) is ∙ ap (behind xs) on ∙ ap (λ r. r >>= λ zs. let q : Result (List Ended) Refusal = Ok (xs ++ zs) in q) next

  pub next_none : (refusal : Refusal) → page ≡ Err refusal → next_entries m path p at_hand first ≡ Err refusal
  next_none refusal is = by_first (Err refusal) is

  pub next_stops : (xs : List Ended) (refusal : Refusal) → page ≡ Ok xs → reach ≡ true → following ≡ Err refusal → next_entries m path p at_hand first ≡ Err refusal
  next_stops xs refusal is on next = by_first (Ok xs) is ∙ ap (behind xs) on ∙ ap (λ r. r >>= λ zs. let q : Result (List Ended) Refusal = Ok (xs ++ zs) in q) next

  -- their digests
  pub read_of : (r : Result (List Ended) Refusal) → next_entries m path p at_hand first ≡ r
      → next_read m path p at_hand first ≡ (r >>= λ es. Ok (marked_from (first % 1024) (entry_digests es)))
  unfolding next_read
  read_of r is = ap (λ q. q >>= λ es. let x : Result (List (List ℕ)) Refusal = Ok (marked_from (first % 1024) (entry_digests es)) in x) is

-- ---- of the index that stands there

module _ {A : Type 0} (es : List A) (first i k : ℕ) (at : i * 1024 + k ≡ first) (few : k < 1024) where
  abbrev xs : List A
  xs = drop (i * 1024) es

  from_first : drop k xs ≡ drop first es
  from_first = drop-drop k (i * 1024) es ∙ ap (λ n. drop n es) at

  -- they reach into the next page
  pub two_pages : take mark_limit (drop k (take 1024 xs ++ take 1024 (drop ((i + 1) * 1024) es))) ≡ take mark_limit (drop first es)
  two_pages =
      let far : i * 1024 + 1024 ≡ (i + 1) * 1024 = omega arith in
      let next : take 1024 (drop ((i + 1) * 1024) es) ≡ take 1024 (drop 1024 xs) = ap (λ n. take 1024 (drop n es)) (sym far) ∙ ap (take 1024) (sym (drop-drop 1024 (i * 1024) es)) in
      let both : take 1024 xs ++ take 1024 (drop 1024 xs) ≡ take 2048 xs = sym (take-add 1024 1024 xs) in
      let split : k + (2048 - k) ≡ 2048 = omega (arith, few) in
      ap (λ ys. take mark_limit (drop k (take 1024 xs ++ ys))) next
      ∙ ap (λ ys. take mark_limit (drop k ys)) both
      ∙ ap (λ n. take mark_limit (drop k (take n xs))) (sym split)
      ∙ ap (take mark_limit) (drop-take k (2048 - k) xs)
      ∙ take-take mark_limit (2048 - k) (drop k xs) (omega (arith, few))
      ∙ ap (take mark_limit) from_first

  -- they end in its page
  pub one_page : min (first + mark_limit) (length es) ≤ (i + 1) * 1024 → take mark_limit (drop k (take 1024 xs ++ [])) ≡ take mark_limit (drop first es)
  one_page ends =
      let split : k + (1024 - k) ≡ 1024 = omega (arith, few) in
      ap (λ ys. take mark_limit (drop k ys)) (append-nil (take 1024 xs))
      ∙ ap (λ n. take mark_limit (drop k (take n xs))) (sym split)
      ∙ ap (take mark_limit) (drop-take k (1024 - k) xs)
      ∙ by_room (nat_lt (1024 - k) mark_limit) refl
      ∙ ap (take mark_limit) from_first
    where
      by_room : (b : Bool) → nat_lt (1024 - k) mark_limit ≡ b → take mark_limit (take (1024 - k) (drop k xs)) ≡ take mark_limit (drop k xs)
      by_room false room = take-take mark_limit (1024 - k) (drop k xs) (ltb-false (1024 - k) mark_limit room)
      by_room true tight =
          let less = ltb-true (1024 - k) mark_limit tight in
          let long : length (drop k xs) ≡ length es - first = ap length from_first ∙ length-drop first es in
          ap (take mark_limit) (take_all (1024 - k) (drop k xs) (omega (arith, less, long, ends, at, few)))

pub digests_as : (es ys : List Ended) (first k : ℕ) → take mark_limit (drop k ys) ≡ take mark_limit (drop first es) → marked_from k (entry_digests ys) ≡ marked_from first (entry_digests es)
digests_as es ys first k same =
    ap (take mark_limit) (drop-map digest_in k ys) ∙ take-map digest_in mark_limit (drop k ys)
    ∙ ap (map digest_in) same
    ∙ sym (ap (take mark_limit) (drop-map digest_in first es) ∙ take-map digest_in mark_limit (drop first es))

-- those of the first page are the first of all
pub first_page : (es : List Ended) → marked_from 0 (entry_digests (take 1024 (drop 0 es) ++ [])) ≡ marked_from 0 (entry_digests es)
first_page es = digests_as es (take 1024 (drop 0 es) ++ []) 0 0 (one_page es 0 0 0 refl (omega arith) (omega arith))

module _ (m : Files) (path : List ℕ) (p : IndexPages) (es : List Ended) (is : IsIndex m p es) (at_hand : Option MarkedPage) (first : ℕ) (below : first < length es)
    (same : bytes_at m p at_hand (first / 1024) ≡ page_at m (pages_by p) (first / 1024)) where
  pages_are : (j : ℕ) → j < page_count (length es) → page_told m path p None j ≡ Ok (take 1024 (drop (j * 1024) es))
  unfolding page_told told_at
  pages_are j low = ap (entries_or path) (is.pages j low).read

  here : page_told m path p at_hand (first / 1024) ≡ Ok (take 1024 (drop (first / 1024 * 1024) es))
  here = told_anew m path p at_hand (first / 1024) same ∙ pages_are (first / 1024) (omega (arith, below))

  -- the next digests are the index's
  pub next_is : next_read m path p at_hand first ≡ Ok (marked_from first (entry_digests es))
  next_is = by_reach (reaches_on (pages_by p).count first) refl
    where
      at : first / 1024 * 1024 + first % 1024 ≡ first
      at = div-add-mod' first 1024

      few : first % 1024 < 1024
      few = omega arith

      by_reach : (b : Bool) → reaches_on (pages_by p).count first ≡ b → next_read m path p at_hand first ≡ Ok (marked_from first (entry_digests es))
      by_reach true on =
          let xs = take 1024 (drop (first / 1024 * 1024) es) in
          let ys = take 1024 (drop ((first / 1024 + 1) * 1024) es) in
          let less = ltb-true ((first / 1024 + 1) * 1024) (min (first + mark_limit) (pages_by p).count) on in
          let next : page_told m path p None (first / 1024 + 1) ≡ Ok ys = pages_are (first / 1024 + 1) (omega (arith, less, is.count)) in
          read_of m path p at_hand first (Ok (xs ++ ys)) (next_two m path p at_hand first xs ys here on next)
          ∙ ap (λ ds. let r : Result (List (List ℕ)) Refusal = Ok ds in r) (digests_as es (xs ++ ys) first (first % 1024) (two_pages es first (first / 1024) (first % 1024) at few))
      by_reach false off =
          let xs = take 1024 (drop (first / 1024 * 1024) es) in
          let ends = ltb-false ((first / 1024 + 1) * 1024) (min (first + mark_limit) (pages_by p).count) off in
          read_of m path p at_hand first (Ok (xs ++ [])) (next_one m path p at_hand first xs here off)
          ∙ ap (λ ds. let r : Result (List (List ℕ)) Refusal = Ok ds in r)
          (digests_as es (xs ++ []) first (first % 1024) (one_page es first (first / 1024) (first % 1024) at few (subst (λ n. min (first + mark_limit) n ≤ (first / 1024 + 1) * 1024) is.count ends)))
