-- What is read of an index: its next digests, or that it is unreadable.
use Rattle.std.proofs.Common.{◌≡◌, ⊎_elim, ◌<◌, ◌+◌, ◌/◌, ◌==◌, ◌||◌, ℕ, zero, suc, Bool, true, false, cond, List, [], ◌∷◌, get_or, length, map, option_map, Option, Some, None, IfSome, IsSomeAnd, Result, Ok, Err, refl, sym, ap, subst, ◌∙◌, arith}
use Rattle.std.specs.FinMap.{get}
use Rattle.std.specs.List.{find}
use Rattle.std.proofs.lemmas.List.{length-map}
use Rattle.disk_trait.specs.Files.{Files}
use Rattle.sha2.specs.Sha256.{sha256}
use Rattle.store_types.specs.FileNames.{is_blob_name, is_dynamic_name, is_fixed_name, is_index_name}
use Rattle.store_types.specs.declared.refusal.Refusal.{Refusal}
use Rattle.store_files.specs.Archive.{Content, File, archive, archive_text, blob, Snapshot, ends_from, file_named, file_text}
use Rattle.store_files.specs.DynamicIndex.{Ended}
use Rattle.store_files.specs.Folder.{file_path}
use Rattle.store_model.specs.Stands.{FitsContent, StandsFor, keys_rise, names_content}
use Rattle.store_model.specs.Store.{snapshot_named}
use Rattle.index_pages.specs.Paged.{page_at, page_text, paged}
use Rattle.paged_indexes.specs.declared.kinds.IndexKind.{IndexKind}
use Rattle.paged_indexes.specs.declared.index.IndexPages.{IndexPages}
use Rattle.paged_indexes.specs.declared.index.IndexPages.TheVariants as pages
use Rattle.paged_indexes.specs.Dynamic.{dynamic_paged}
use Rattle.paged_indexes.specs.Fixed.{fixed_paged}
use Rattle.paged_indexes.specs.Index.{entries_in, pages_by}
use Rattle.paged_indexes.specs.Laws.{IsIndex}
use Rattle.paged_indexes.proofs.PagesRead.{opened_is_index}
use Rattle.restore_reader.specs.Shown.{pages_of}
use Rattle.snapshot_files.specs.Indexes.{index_opened, kind_of_index}
use Rattle.snapshot_files.proofs.Archives.{archive_read, blob_no_dynamic, blob_no_fixed, layout_index}
use Rattle.snapshot_files.proofs.Opened.{opened_there, unopened_there}
use Rattle.gc_plan.specs.declared.IndexAt.{IndexAt}
use Rattle.store_history.specs.Sweeping.{digests_of}
use Rattle.store_history.proofs.Found.{each_named}
use Rattle.core_state.specs.declared.kept.Kept.{Kept}
use Rattle.core_state.specs.declared.kept.Listed.{Listed}
use Rattle.core_state.specs.declared.marked.MarkedPages.{MarkedPages}
use Rattle.core_state.specs.declared.marked.MarkedPage.{MarkedPage}
use Rattle.core_state.specs.MarkedPage.{IsPageOfText}
use Rattle.core_state.specs.Found.{kept_named, path_in, path_of_kept}
use Rattle.core_state.specs.Shown.{files_named, shown_snapshot}
use Rattle.core_state.specs.Sweeps.{AreOfText, ArePages, by_number, digests_in, digests_named}
use Rattle.core_state.proofs.Finding.{found_in, mapped}
use Rattle.core_state.proofs.Found.{IsThere, is_there, kept_is, not_there, there_fits, there_kind, there_named, there_text}
use Rattle.core_state.proofs.KeptPages.{index_is_kept, kept_is as pages_kept, opens_as, there_path}
use Rattle.core_collect.specs.Entries.{IsHad, bytes_at, bytes_of, entry_digests, marked_from, next_read}
use Rattle.core_collect.specs.Marking.{first_standing, marked_next, passed_over, path_at, standing_as, standing_by}
use Rattle.core_collect.specs.declared.marking.Opened.{Opened}
use Rattle.core_collect.proofs.Batches.{next_is}
use Rattle.core_collect.proofs.LastPages.{read_is, reads_again, same_bytes}
use Rattle.core_collect.proofs.Lists.{each_like}

-- ---- an index of the plain store

digests_end : (start : ℕ) (pieces : List (List ℕ)) → map (λ (e : Ended). e.digest) (ends_from start pieces) ≡ map sha256 pieces
digests_end start [] = refl
digests_end start (p ∷ ps) = ap (λ ds. sha256 p ∷ ds) (digests_end (start + length p) ps)

no_blob : (name : List ℕ) → is_blob_name name ≡ true → is_index_name name ≡ true → ⊥
no_blob name kind index = by_tests (is_fixed_name name) (is_dynamic_name name) (blob_no_fixed name kind) (blob_no_dynamic name kind) index
  where
    by_tests : (a b : Bool) → a ≡ false → b ≡ false → (a || b) ≡ true → ⊥
    by_tests false false e f h = cc
    by_tests false true e f h = cc
    by_tests true b e f h = cc

-- what an opening keeps is that of the index's file
abbrev pub IsOfFile : List Snapshot → List ℕ → Kept → IndexPages → Type 0
IsOfFile snapshots name k p = IsSomeAnd (file_named name (files_named k.key snapshots)) (λ f. p ≡ pages_of name (file_path k.key name) (file_text f.content))

-- What stands there is an index, with the digests of the snapshot's file. What an opening keeps of it is what is kept of that file, and its
-- pages are read by that.
pub record IsPlain (m : Files) (snapshots : List Snapshot) (k : Kept) (name path : List ℕ) : Type 0 where
  pub text : List ℕ
  pub entries : List Ended
  pub there : get m path ≡ Some text
  pub path_is : path ≡ file_path k.key name
  pub is_text : IsSomeAnd (file_named name (files_named k.key snapshots)) (λ f. file_text f.content ≡ text)
  pub read : entries_in (kind_of_index name) text ≡ Some entries
  pub digests : entry_digests entries ≡ digests_named k.key name snapshots
  pub opens : (p : IndexPages) → index_opened m path (kind_of_index name) ≡ Ok p → IsOfFile snapshots name k p
  pub is_index : (p : IndexPages) → IsOfFile snapshots name k p → IsIndex m p entries

module _ (m : Files) (snapshots : List Snapshot) (k : Kept) (name path : List ℕ) (t : IsThere snapshots k.key name path) where
  abbrev IsOf : IndexPages → File → Type 0
  IsOf p f = p ≡ pages_of name (file_path k.key name) (file_text f.content)

  plain_by : (c : Content) → (t.file).content ≡ c → names_content c name ≡ true → is_index_name name ≡ true → FitsContent c → get m path ≡ Some (file_text c) → IsPlain m snapshots k name path
  unfolding file_text
  plain_by (blob bytes) is kind index fits there = absurd (no_blob name kind index)
  plain_by (archive a) is kind index fits there =
      let named : file_named name (files_named k.key snapshots) ≡ Some t.file = there_named snapshots k.key name path t in
      let text : file_text (t.file).content ≡ file_text (archive a) = ap file_text is in record {
        text = archive_text a;
        entries = ends_from 0 a.pieces;
        there = there;
        path_is = there_path snapshots k.key name path t;
        is_text = subst (λ o. IsSomeAnd o (λ f. file_text f.content ≡ archive_text a)) (sym named) text;
        read = ap (λ q. entries_in q (archive_text a)) (layout_index a name kind) ∙ archive_read a fits;
        digests = digests_end 0 a.pieces ∙ sym (ap digests_in named ∙ ap digests_of is);
        opens = λ p opened.
            subst (λ o. IsSomeAnd o (IsOf p)) (sym named)
            (pages_kept m snapshots k.key name path t a there p (opens_as m path (kind_of_index name) p opened)
            ∙ sym (ap (pages_of name (file_path k.key name)) text));
        is_index = λ p are.
            let of_file : IsOf p t.file = subst (λ o. IsSomeAnd o (IsOf p)) named are in
            let is_kept = of_file ∙ ap (pages_of name (file_path k.key name)) text in
            subst (λ q. IsIndex m q (ends_from 0 a.pieces)) (sym is_kept) (index_is_kept m snapshots k.key name path t a there fits kind);
      }

-- ---- by the catalogue

module _ (catalogue : List Listed) (snapshots : List Snapshot) (same : map (λ x. x.kept) catalogue ≡ map shown_snapshot snapshots) (rise : keys_rise snapshots ≡ true) where
  -- what is kept under a number is what is kept of its snapshot
  abbrev IsNamed : Listed → Type 0
  IsNamed x = kept_named (x.kept).key catalogue ≡ Some (x.kept)

  all_named : (k : ℕ) (d : Listed) → k < length catalogue → IsNamed (get_or catalogue k d)
  all_named k d within =
      let x = get_or catalogue k d in
      let like = each_like (λ (x : Listed). x.kept) shown_snapshot (λ y. snapshot_named y.key snapshots ≡ Some y) catalogue snapshots same (each_named snapshots rise) k d within in
      let y = like.0 in
      ap (λ (q : Kept). kept_named q.key catalogue) like.1 ∙ kept_is catalogue snapshots y.key same ∙ ap (option_map shown_snapshot) like.2 ∙ ap Some (sym like.1)

  numbered_named : (number : ℕ) (k : Kept) → by_number number catalogue ≡ Some k → kept_named k.key catalogue ≡ Some k
  numbered_named number k at =
      let found = mapped (λ (x : Listed). x.kept) (find (λ (x : Listed). x.number == number) catalogue) k at in
      let named : IsNamed found.0 = found_in IsNamed _ catalogue found.0 all_named found.1 in
      ap (λ (q : Kept). kept_named q.key catalogue) found.2 ∙ named ∙ ap Some (sym found.2)

  module _ (i : IndexAt) (k : Kept) (at : by_number i.snapshot catalogue ≡ Some k) where
    path_same : path_in k.key i.name catalogue ≡ path_at i catalogue
    path_same = ap (path_of_kept i.name) (numbered_named i.snapshot k at) ∙ sym (ap (path_of_kept i.name) at)

    -- it has no such file
    pub no_digests : path_at i catalogue ≡ None → digests_named k.key i.name snapshots ≡ []
    no_digests missing = ap digests_in (not_there i.name catalogue snapshots k.key same (path_same ∙ missing))

    -- and its index is read so
    pub index_plain : (m : Files) (path : List ℕ) → StandsFor m snapshots → is_index_name i.name ≡ true → path_at i catalogue ≡ Some path → IsPlain m snapshots k i.name path
    index_plain m path stands index found =
        let there : IsThere snapshots k.key i.name path = is_there i.name catalogue snapshots k.key path same (path_same ∙ found) in
        plain_by m snapshots k i.name path there (there.file).content refl (there_kind snapshots k.key i.name path there stands.each) index (there_fits snapshots k.key i.name path there stands.each)
        (there_text m snapshots k.key i.name path there stands.files)

some_none : (es : List Ended) → ◌≡◌ {A = Option (List Ended)} (Some es) None → ⊥
some_none es e = cc

-- it is opened
pub plain_opens : (m : Files) (snapshots : List Snapshot) (k : Kept) (name path : List ℕ) (refusal : Refusal) → IsPlain m snapshots k name path → index_opened m path (kind_of_index name) ≡ Err refusal → ⊥
plain_opens m snapshots k name path refusal plain is =
    some_none plain.entries (sym plain.read ∙ (unopened_there m path (kind_of_index name) refusal plain.text plain.there is).0)

-- what it keeps is of as many entries as there are, of which the next are its digests, where what is at hand is what would be read
pub plain_count : (m : Files) (snapshots : List Snapshot) (k : Kept) (name path : List ℕ) (p : IndexPages) → IsPlain m snapshots k name path → IsOfFile snapshots name k p
    → (pages_by p).count ≡ length (digests_named k.key name snapshots)
plain_count m snapshots k name path p plain are =
    (plain.is_index p are).count ∙ sym (length-map plain.entries (λ (e : Ended). e.digest)) ∙ ap length plain.digests

pub plain_next : (m : Files) (snapshots : List Snapshot) (k : Kept) (name path : List ℕ) (p : IndexPages) (at_hand : Option MarkedPage) (first : ℕ) → IsPlain m snapshots k name path → IsOfFile snapshots name k p
    → ((i : ℕ) → bytes_at m p at_hand i ≡ page_at m (pages_by p) i) → first < (pages_by p).count → next_read m path p at_hand first ≡ Ok (marked_from first (digests_named k.key name snapshots))
plain_next m snapshots k name path p at_hand first plain are same below =
    let is = plain.is_index p are in
    next_is m path p plain.entries is at_hand first (subst (λ n. first < n) is.count below) (same (first / 1024))
    ∙ ap (λ ds. let r : Result (List (List ℕ)) Refusal = Ok (marked_from first ds) in r) plain.digests

-- ---- the pages at hand of a plain store's index

both_of : {A : Type 0} {P Q : A → Type 0} (o : Option A) → IsSomeAnd o P → IsSomeAnd o Q → (x : A) × P x × Q x
both_of None p q = absurd p
both_of (Some x) p q = (x, p, q)

each_of : {A : Type 0} {P Q : A → Type 0} (o : Option A) → ((x : A) → P x → Q x) → IsSomeAnd o P → IsSomeAnd o Q
each_of None go p = absurd p
each_of (Some x) go p = go x p

-- where it is said to stand
named_there : (name path text : List ℕ) → (pages_by (pages_of name path text)).name ≡ path
unfolding paged
named_there name path text = by_kind (is_fixed_name name)
  where
    by_kind : (b : Bool) → (pages_by (cond b (pages.Fixed (fixed_paged path text)) (pages.Dynamic (dynamic_paged path text)))).name ≡ path
    by_kind true = refl
    by_kind false = refl

pub file_of : (snapshots : List Snapshot) (k : Kept) (name : List ℕ) (p : MarkedPages) → ArePages snapshots name p (Some k) → IsOfFile snapshots name k p.kept
file_of snapshots k name p are = each_of (file_named name (files_named k.key snapshots)) (λ f has. has.kept) are

-- none was read yet
pub first_pages : (snapshots : List Snapshot) (k : Kept) (name : List ℕ) (p : MarkedPages) → p.last ≡ None → IsOfFile snapshots name k p.kept → ArePages snapshots name p (Some k)
first_pages snapshots k name p none are =
    each_of (file_named name (files_named k.key snapshots))
    (λ f has. record { kept = has; last = subst (λ o. IfSome o (IsPageOfText p.kept (file_text f.content))) (sym none) tt }) are

module _ (m : Files) (snapshots : List Snapshot) (k : Kept) (name path : List ℕ) (plain : IsPlain m snapshots k name path) where
  stands_at : (p : IndexPages) (f : File) → file_text f.content ≡ plain.text → p ≡ pages_of name (file_path k.key name) (file_text f.content) → get m (pages_by p).name ≡ Some (file_text f.content)
  stands_at p f text kept =
      ap (λ q. get m (pages_by q).name) kept ∙ ap (get m) (named_there name (file_path k.key name) (file_text f.content) ∙ sym plain.path_is) ∙ plain.there ∙ ap Some (sym text)

  -- what is at hand is what would be read
  pub plain_bytes : (p : MarkedPages) → ArePages snapshots name p (Some k) → (i : ℕ) → bytes_at m p.kept p.last i ≡ page_at m (pages_by p.kept) i
  plain_bytes p are i =
      let (f, has, text) = both_of (file_named name (files_named k.key snapshots)) are plain.is_text in
      let there = stands_at p.kept f text has.kept in
      same_bytes m p.kept p.last (λ q is.
      let same : q.bytes ≡ page_text (pages_by p.kept) q.number (file_text f.content) = subst (λ o. IfSome o (IsPageOfText p.kept (file_text f.content))) is has.last in
      reads_again m (pages_by p.kept) q.number (file_text f.content) there q.bytes same ((p.fits).read q is).kept) i

  -- and so it is of the page that is read next
  pub plain_pages : (p r : MarkedPages) → r.kept ≡ p.kept → IfSome r.last (IsHad m p.kept p.last) → ArePages snapshots name p (Some k) → ArePages snapshots name r (Some k)
  plain_pages p r same had are = each_of (file_named name (files_named k.key snapshots)) (λ f both. page_now f both.0 both.1) both
    where
      both : IsSomeAnd (file_named name (files_named k.key snapshots)) (λ f. AreOfText name (file_path k.key name) (file_text f.content) p × (file_text f.content ≡ plain.text))
      both = pair (file_named name (files_named k.key snapshots)) are plain.is_text
        where
          pair : (o : Option File) → IsSomeAnd o (λ f. AreOfText name (file_path k.key name) (file_text f.content) p) → IsSomeAnd o (λ f. file_text f.content ≡ plain.text)
              → IsSomeAnd o (λ f. AreOfText name (file_path k.key name) (file_text f.content) p × (file_text f.content ≡ plain.text))
          pair None a b = absurd a
          pair (Some f) a b = (a, b)

      page_now : (f : File) → AreOfText name (file_path k.key name) (file_text f.content) p → file_text f.content ≡ plain.text → AreOfText name (file_path k.key name) (file_text f.content) r
      page_now f has text = record { kept = same ∙ has.kept; last = by_last r.last had }
        where
          there : get m (pages_by p.kept).name ≡ Some (file_text f.content)
          there = stands_at p.kept f text has.kept

          by_last : (o : Option MarkedPage) → IfSome o (IsHad m p.kept p.last) → IfSome o (IsPageOfText r.kept (file_text f.content))
          by_last None had = tt
          by_last (Some q) had =
              let read : page_at m (pages_by p.kept) q.number ≡ Ok q.bytes =
              ⊎_elim {C = page_at m (pages_by p.kept) q.number ≡ Ok q.bytes} (λ at. sym (plain_bytes p are q.number) ∙ at) (λ at. at) had in
              subst (λ x. q.bytes ≡ page_text (pages_by x) q.number (file_text f.content)) (sym same) (read_is m (pages_by p.kept) q.number (file_text f.content) there q.bytes read)

-- ---- by what was read

some_more : (n : ℕ) → (n == 0) ≡ false → 0 < n
some_more zero e = cc
some_more (suc n) e = omega arith

-- it was opened, and these are its first digests
pub opened_stands : (m : Files) (path : List ℕ) (kind : IndexKind) (x : Opened) → index_opened m path kind ≡ Ok x.pages
    → ((text : List ℕ) (entries : List Ended) → get m path ≡ Some text → entries_in kind text ≡ Some entries → bytes_of x.digests.items ≡ marked_from 0 (entry_digests entries))
    → standing_as m path (index_opened m path kind) ≡ first_standing x
opened_stands m path kind x opened taken =
    let there = opened_there m path kind x.pages opened in
    let es = there.entries in
    let p = x.pages in
    let is = opened_is_index m path there.text kind p es there.there (opens_as m path kind p opened) there.read in
    ap (standing_as m path) opened ∙ by_count p es is (taken there.text es there.there there.read) ((pages_by p).count == 0) refl
  where
    by_count : (p : IndexPages) (es : List Ended) → IsIndex m p es → bytes_of x.digests.items ≡ marked_from 0 (entry_digests es) → (b : Bool) → ((pages_by p).count == 0) ≡ b
        → cond ((pages_by p).count == 0) passed_over (standing_by path p (next_read m path p None 0)) ≡ cond ((pages_by p).count == 0) passed_over (marked_next p (bytes_of x.digests.items))
    by_count p es is taken true none =
        ap (λ c. cond c passed_over (standing_by path p (next_read m path p None 0))) none ∙ sym (ap (λ c. cond c passed_over (marked_next p (bytes_of x.digests.items))) none)
    by_count p es is taken false some =
        let count = is.count in
        let more : 0 < length es = some_more (length es) (ap (λ n. n == 0) (sym count) ∙ some) in
        ap (λ c. cond c passed_over (standing_by path p (next_read m path p None 0))) some
        ∙ ap (standing_by path p) (next_is m path p es is None 0 more refl)
        ∙ ap (marked_next p) (sym taken)
        ∙ sym (ap (λ c. cond c passed_over (marked_next p (bytes_of x.digests.items))) some)
