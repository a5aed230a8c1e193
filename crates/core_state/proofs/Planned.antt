-- The plan of the open collector stays the history's sweep as a snapshot is finished, as one is forgotten, and over acts that do neither.
use Rattle.std.proofs.Common.{◌≡◌, ◌≢◌, ℕ, Bool, true, false, not, ◌==◌, cond, if◌then◌else◌, List, [], ◌∷◌, ◌++◌, drop, filter, Option, Some, None, refl, sym, ap, subst, ◌∙◌}
use Rattle.std.specs.Prelude.{option_map, AllPairs, IsSomeAnd}
use Rattle.std.specs.List.{All, find, flat_map}
use Rattle.std.proofs.lemmas.Bool.{eqb-true}
use Rattle.std.proofs.lemmas.List.Elements.{All-head, All-tail, All-weaker}
use Rattle.store_types.specs.declared.names.SnapshotKey.{SnapshotKey}
use Rattle.store_types.specs.KeyOrder.{same_key_equiv}
use Rattle.store_types.specs.Names.{key_lt, same_key}
use Rattle.store_files.specs.Archive.{Snapshot, file_named, file_text}
use Rattle.store_files.specs.Folder.{file_path}
use Rattle.store_model.specs.Store.{insert_snapshot, snapshot_named, without_snapshot}
use Rattle.snapshot_files.proofs.Removals.{named-without}
use Rattle.gc_plan.specs.declared.IndexAt.{IndexAt}
use Rattle.store_history.specs.Sweeping.{Unmarked, unmarked_of}
use Rattle.core_state.specs.declared.kept.Kept.{Kept}
use Rattle.core_state.specs.declared.kept.Listed.{Listed}
use Rattle.core_state.specs.declared.marked.MarkedPages.{MarkedPages}
use Rattle.core_state.specs.Catalogue.{insert_listed, without_listed}
use Rattle.core_state.specs.Numbers.{DifferInNumber}
use Rattle.core_state.specs.Sweeps.{AreOfText, ArePages, by_number, digests_in, digests_named, left_at, left_in, left_of_kept}
use Rattle.core_state.proofs.Numbering.{head_differs, tail_differs}
use Rattle.core_state.proofs.Readers.{named_still}

not_equal : (a b : ℕ) → a ≢ b → (a == b) ≡ false
not_equal a b ne = by_test (a == b) refl
  where
    by_test : (t : Bool) → (a == b) ≡ t → t ≡ false
    by_test true is = absurd (ne (eqb-true a b is))
    by_test false is = refl

-- ---- the snapshot with a number

abbrev numbered : ℕ → List Listed → Option Listed
numbered number xs = find (λ x. x.number == number) xs

inserted_at : (number : ℕ) (new : Listed) (xs : List Listed) → (new.number == number) ≡ false → numbered number (insert_listed new xs) ≡ numbered number xs
inserted_at number new [] off = ap (λ b. cond b (Some new) None) off
inserted_at number new (x ∷ xs) off = by_order (key_lt (new.kept).key (x.kept).key) (inserted_at number new xs off)
  where
    by_order : (b : Bool) → numbered number (insert_listed new xs) ≡ numbered number xs
        → numbered number (if b then new ∷ x ∷ xs else x ∷ insert_listed new xs) ≡ numbered number (x ∷ xs)
    by_order true ih = ap (λ b. cond b (Some new) (numbered number (x ∷ xs))) off
    by_order false ih = ap (cond (x.number == number) (Some x)) ih

-- one more, with another number
pub kept_inserted : (number : ℕ) (new : Listed) (xs : List Listed) → new.number ≢ number → by_number number (insert_listed new xs) ≡ by_number number xs
kept_inserted number new xs other = ap (option_map (λ x. x.kept)) (inserted_at number new xs (not_equal new.number number other))

none_numbered : (number : ℕ) (key : SnapshotKey) (xs : List Listed) → All (λ (y : Listed). y.number ≢ number) xs → numbered number (without_listed key xs) ≡ None
none_numbered number key [] all = refl
none_numbered number key (x ∷ xs) all =
    by_test (same_key (x.kept).key key) (none_numbered number key xs (All-tail (λ (y : Listed). y.number ≢ number) x xs all))
  where
    by_test : (b : Bool) → numbered number (without_listed key xs) ≡ None
        → numbered number (cond (not b) (x ∷ without_listed key xs) (without_listed key xs)) ≡ None
    by_test true ih = ih
    by_test false ih =
        ap (λ t. cond t (Some x) (numbered number (without_listed key xs))) (not_equal x.number number (All-head (λ (y : Listed). y.number ≢ number) x xs all)) ∙ ih

-- what is kept of a snapshot, unless it is the one with this key
abbrev pub keep_unless : SnapshotKey → Option Kept → Option Kept
keep_unless key None = None
keep_unless key (Some k) = cond (same_key k.key key) None (Some k)

-- one less
pub kept_forgotten : (number : ℕ) (key : SnapshotKey) (xs : List Listed) → AllPairs DifferInNumber xs → by_number number (without_listed key xs) ≡ keep_unless key (by_number number xs)
kept_forgotten number key [] once = refl
kept_forgotten number key (x ∷ xs) once =
    by_test (x.number == number) refl (same_key (x.kept).key key) refl (kept_forgotten number key xs (tail_differs x xs once))
  where
    others : (x.number == number) ≡ true → All (λ (y : Listed). y.number ≢ number) xs
    others at = All-weaker (DifferInNumber x) (λ (y : Listed). y.number ≢ number) (λ y differs same. differs (eqb-true x.number number at ∙ sym same)) xs (head_differs x xs once)

    right : (b : Bool) → (x.number == number) ≡ b → keep_unless key (option_map (λ y. y.kept) (cond b (Some x) (numbered number xs))) ≡ keep_unless key (by_number number (x ∷ xs))
    right b at = sym (ap (λ t. keep_unless key (option_map (λ y. y.kept) (cond t (Some x) (numbered number xs)))) at)

    by_test : (b : Bool) → (x.number == number) ≡ b → (g : Bool) → same_key (x.kept).key key ≡ g → by_number number (without_listed key xs) ≡ keep_unless key (by_number number xs)
        → option_map (λ y. y.kept) (numbered number (cond (not g) (x ∷ without_listed key xs) (without_listed key xs))) ≡ keep_unless key (by_number number (x ∷ xs))
    by_test true at true gone ih =
        ap (option_map (λ y. y.kept)) (none_numbered number key xs (others at)) ∙ sym (ap (λ t. cond t None (Some (x.kept))) gone) ∙ right true at
    by_test true at false gone ih =
        ap (λ t. option_map (λ y. y.kept) (cond t (Some x) (numbered number (without_listed key xs)))) at ∙ sym (ap (λ t. cond t None (Some (x.kept))) gone) ∙ right true at
    by_test false at true gone ih = ih ∙ right false at
    by_test false at false gone ih =
        ap (λ t. option_map (λ y. y.kept) (cond t (Some x) (numbered number (without_listed key xs)))) at ∙ ih ∙ right false at

-- ---- the digests of an index

pub digests_as : (key : SnapshotKey) (name : List ℕ) (xs ys : List Snapshot) → snapshot_named key ys ≡ snapshot_named key xs → digests_named key name ys ≡ digests_named key name xs
digests_as key name xs ys same = ap (λ (o : Option Snapshot). digests_in (file_named name (elim o [ None ↦ [] | Some x ↦ x.files ]))) same

-- its pages are those of the same file
pub pages_as : (name : List ℕ) (q : MarkedPages) (k : Kept) (xs ys : List Snapshot) → snapshot_named k.key ys ≡ snapshot_named k.key xs → ArePages xs name q (Some k) → ArePages ys name q (Some k)
pages_as name q k xs ys same has =
    subst (λ (o : Option Snapshot). IsSomeAnd (file_named name (elim o [ None ↦ [] | Some x ↦ x.files ])) (λ f. AreOfText name (file_path k.key name) (file_text f.content) q)) (sym same) has

-- ---- what is left of an index

module _ (catalogue : List Listed) (snapshots : List Snapshot) where
  -- a finished snapshot of another key and number
  module _ (new : Listed) (x : Snapshot) where
    -- the key is none's that is kept
    abbrev pub IsNewKey : Type 0
    IsNewKey = (number : ℕ) (k : Kept) → by_number number catalogue ≡ Some k → same_key x.key k.key ≡ false

    finished_kept : IsNewKey → (number : ℕ) (name : List ℕ) (first : ℕ) (o : Option Kept) → by_number number catalogue ≡ o
        → left_of_kept (insert_snapshot x snapshots) name first o ≡ left_of_kept snapshots name first o
    finished_kept fresh number name first None at = refl
    finished_kept fresh number name first (Some k) at =
        ap (λ ds. unmarked_of k.key name (drop first ds)) (digests_as k.key name snapshots (insert_snapshot x snapshots) (named_still k.key x snapshots (fresh number k at)))

    pub finished_left : IsNewKey → (i : IndexAt) → new.number ≢ i.snapshot → (first : ℕ)
        → left_at (insert_listed new catalogue) (insert_snapshot x snapshots) first i ≡ left_at catalogue snapshots first i
    finished_left fresh i other first =
        ap (left_of_kept (insert_snapshot x snapshots) i.name first) (kept_inserted i.snapshot new catalogue other)
        ∙ finished_kept fresh i.snapshot i.name first (by_number i.snapshot catalogue) refl

  -- the snapshot with this key is forgotten
  module _ (key : SnapshotKey) where
    abbrev spares : Unmarked → Bool
    spares u = not (same_key u.key key)

    -- all of one index has its snapshot's key
    filtered : (k : SnapshotKey) (name : List ℕ) (ds : List (List ℕ)) (g : Bool) → same_key k key ≡ g → cond g [] (unmarked_of k name ds) ≡ filter spares (unmarked_of k name ds)
    filtered k name [] true gone = refl
    filtered k name [] false gone = refl
    filtered k name (d ∷ ds) true gone = let u : Unmarked = record { key = k; name = name; digests = d ∷ ds } in sym (ap (λ t. cond (not t) (u ∷ []) []) gone)
    filtered k name (d ∷ ds) false gone = let u : Unmarked = record { key = k; name = name; digests = d ∷ ds } in sym (ap (λ t. cond (not t) (u ∷ []) []) gone)

    forgotten_kept : (name : List ℕ) (first : ℕ) (o : Option Kept)
        → left_of_kept (without_snapshot key snapshots) name first (keep_unless key o) ≡ filter spares (left_of_kept snapshots name first o)
    forgotten_kept name first None = refl
    forgotten_kept name first (Some k) = by_test (same_key k.key key) refl
      where
        by_test : (g : Bool) → same_key k.key key ≡ g
            → left_of_kept (without_snapshot key snapshots) name first (cond (same_key k.key key) None (Some k)) ≡ filter spares (left_of_kept snapshots name first (Some k))
        by_test true gone =
            ap (λ t. left_of_kept (without_snapshot key snapshots) name first (cond t None (Some k))) gone
            ∙ filtered k.key name (drop first (digests_named k.key name snapshots)) true gone
        by_test false gone =
            ap (λ t. left_of_kept (without_snapshot key snapshots) name first (cond t None (Some k))) gone
            ∙ ap (λ ds. unmarked_of k.key name (drop first ds)) (digests_as k.key name snapshots (without_snapshot key snapshots) (named-without key k.key snapshots (same_key_equiv.symm key k.key ∙ gone)))
            ∙ filtered k.key name (drop first (digests_named k.key name snapshots)) false gone

    pub forgotten_left : AllPairs DifferInNumber catalogue → (i : IndexAt) (first : ℕ)
        → left_at (without_listed key catalogue) (without_snapshot key snapshots) first i ≡ filter spares (left_at catalogue snapshots first i)
    forgotten_left once i first =
        ap (left_of_kept (without_snapshot key snapshots) i.name first) (kept_forgotten i.snapshot key catalogue once)
        ∙ forgotten_kept i.name first (by_number i.snapshot catalogue)

-- ---- over the list of indexes

filter_append : {A : Type 0} (p : A → Bool) (xs ys : List A) → filter p (xs ++ ys) ≡ filter p xs ++ filter p ys
filter_append p [] ys = refl
filter_append p (x ∷ xs) ys = by_test (p x) (filter_append p xs ys)
  where
    by_test : (b : Bool) → filter p (xs ++ ys) ≡ filter p xs ++ filter p ys → cond b (x ∷ filter p (xs ++ ys)) (filter p (xs ++ ys)) ≡ cond b (x ∷ filter p xs) (filter p xs) ++ filter p ys
    by_test true ih = ap (λ zs. x ∷ zs) ih
    by_test false ih = ih

module _ (f g : ℕ → IndexAt → List Unmarked) (p : Unmarked → Bool) where
  rest_left : (is : List IndexAt) → ((i : IndexAt) (first : ℕ) → g first i ≡ filter p (f first i)) → flat_map (g 0) is ≡ filter p (flat_map (f 0) is)
  rest_left [] each = refl
  rest_left (i ∷ is) each =
      ap (λ xs. xs ++ flat_map (g 0) is) (each i 0) ∙ ap (λ xs. filter p (f 0 i) ++ xs) (rest_left is each) ∙ sym (filter_append p (f 0 i) (flat_map (f 0) is))

module _ (c c2 : List Listed) (s s2 : List Snapshot) where
  -- each index is as before
  same_rest : (is : List IndexAt) → All (λ (i : IndexAt). (first : ℕ) → left_at c2 s2 first i ≡ left_at c s first i) is → flat_map (left_at c2 s2 0) is ≡ flat_map (left_at c s 0) is
  same_rest [] each = refl
  same_rest (i ∷ is) each =
      ap (λ xs. xs ++ flat_map (left_at c2 s2 0) is) (All-head (λ (j : IndexAt). (first : ℕ) → left_at c2 s2 first j ≡ left_at c s first j) i is each 0)
      ∙ ap (λ xs. left_at c s 0 i ++ xs) (same_rest is (All-tail (λ (j : IndexAt). (first : ℕ) → left_at c2 s2 first j ≡ left_at c s first j) i is each))

  pub same_left : (first : ℕ) (is : List IndexAt) → All (λ (i : IndexAt). (first : ℕ) → left_at c2 s2 first i ≡ left_at c s first i) is → left_in c2 s2 first is ≡ left_in c s first is
  same_left first [] each = refl
  same_left first (i ∷ is) each =
      ap (λ xs. xs ++ flat_map (left_at c2 s2 0) is) (All-head (λ (j : IndexAt). (first : ℕ) → left_at c2 s2 first j ≡ left_at c s first j) i is each first)
      ∙ ap (λ xs. left_at c s first i ++ xs) (same_rest is (All-tail (λ (j : IndexAt). (first : ℕ) → left_at c2 s2 first j ≡ left_at c s first j) i is each))

  -- each index is filtered
  pub filtered_left : (p : Unmarked → Bool) (first : ℕ) (is : List IndexAt) → ((i : IndexAt) (n : ℕ) → left_at c2 s2 n i ≡ filter p (left_at c s n i)) → left_in c2 s2 first is ≡ filter p (left_in c s first is)
  filtered_left p first [] each = refl
  filtered_left p first (i ∷ is) each =
      ap (λ xs. xs ++ flat_map (left_at c2 s2 0) is) (each i first)
      ∙ ap (λ xs. filter p (left_at c s first i) ++ xs) (rest_left (left_at c s) (left_at c2 s2) p is each)
      ∙ sym (filter_append p (left_at c s first i) (flat_map (left_at c s 0) is))
