-- Names of which none stands twice give each snapshot once.
use Rattle.std.proofs.Common.{◌≡◌, ◌≢◌, ◌⊎◌, inl, inr, ⊎_elim, ℕ, suc, List, [], ◌∷◌, ◌++◌, Bool, true, false, T, ◌&&◌, ◌||◌, get_or, map, eqb, Option, Some, None, append_assoc, refl, sym, ap, subst, ◌∙◌, arith}
use Rattle.std.specs.Prelude.{codes, IsSome}
use Rattle.std.specs.List.{All, AllPairs, Contains, cons_option, filter_map, list_any, starts_with}
use Rattle.std.specs.Ordering.{is_lt, is_eq, eq_by_cmp}
use Rattle.std.specs.declared.cmp.Ordering.{Ordering}
use Rattle.std.specs.declared.cmp.Ordering.TheVariants.{Less, Equal, Greater}
use Rattle.std.specs.FinMap.{get, keys, entries, entries_sorted, contains_key-keys}
use Rattle.std.specs.FinMap.Entries.{is_sorted, below_all}
use Rattle.std.proofs.lemmas.Bool.{and_parts}
use Rattle.std.proofs.lemmas.Bool.Decides.{eqb_tells}
use Rattle.std.proofs.lemmas.List.Elements.{All-nil, All-cons, All-head, All-tail, All-append, filter_passes}
use Rattle.std.proofs.lemmas.List.Folds.{list_any-append}
use Rattle.std.proofs.lemmas.List.Kept.{AllPairs-cons, AllPairs-filter}
use Rattle.std.proofs.lemmas.Map.Views.{any-filter_same}
use Rattle.std.proofs.lemmas.Map.Text.{is_eq-slice_cmp}
use Rattle.std.proofs.lemmas.Slice.Eq.{bytes_eq-Decides}
use Rattle.disk_trait.specs.Files.{Files}
use Rattle.store_types.specs.declared.names.Kind.{Kind}
use Rattle.store_types.specs.declared.names.Kind.TheVariants.{Ct, Host, Vm}
use Rattle.store_types.specs.declared.names.SnapshotKey.{SnapshotKey}
use Rattle.store_types.specs.FileNames.{manifest_name}
use Rattle.store_types.specs.Times.{time_text}
use Rattle.store_types.specs.Names.{IsKey, text_cmp, same_key, kind_text, key_text, group_text}
use Rattle.store_types.proofs.OrderLaws.{same_keys}
use Rattle.store_files.specs.Folder.{manifest_path}
use Rattle.store_model.proofs.Insertions.{Contains-here, Contains-later, Contains-cases}
use Rattle.snapshot_files.specs.Scanned.{FoundSnapshot, NamesManifests, found_at, found_named, names_under, folder_names}
use Rattle.snapshot_files.proofs.Named.{named_is, at_name, at_there}

-- ---- pairs

pub pairs_nil : {A : Type 0} (R : A → A → Type 0) → AllPairs R []
pairs_nil R i j d lt within = absurd (omega (arith, within))

pub pairs_tail : {A : Type 0} (R : A → A → Type 0) (x : A) (xs : List A) → AllPairs R (x ∷ xs) → AllPairs R xs
pairs_tail R x xs h i j d lt within = h (suc i) (suc j) d (omega (arith, lt)) (omega (arith, within))

pub pairs_head : {A : Type 0} (R : A → A → Type 0) (x : A) (xs : List A) → AllPairs R (x ∷ xs) → All (R x) xs
pairs_head R x xs h k d lt = h 0 (suc k) d (omega arith) (omega (arith, lt))

pairs_append : {A : Type 0} (R : A → A → Type 0) (xs ys : List A) → AllPairs R xs → AllPairs R ys → All (λ x. All (R x) ys) xs → AllPairs R (xs ++ ys)
pairs_append R [] ys h k cross = k
pairs_append R (x ∷ xs) ys h k cross =
    AllPairs-cons R x (xs ++ ys) (All-append (R x) xs ys (pairs_head R x xs h) (All-head (λ z. All (R z) ys) x xs cross))
    (pairs_append R xs ys (pairs_tail R x xs h) k (All-tail (λ z. All (R z) ys) x xs cross))

-- ---- the names differ

to_true : (b : Bool) → T b → b ≡ true
to_true true h = refl
to_true false h = absurd h

both_parts : (a b : Bool) → T (a && b) → T a × T b
both_parts true true h = (tt, tt)
both_parts true false h = absurd h
both_parts false b h = absurd h

not_less : (o : Ordering) → is_eq o ≡ true → is_lt o ≡ true → ⊥
not_less Less e f = cc
not_less Equal e f = cc
not_less Greater e f = cc

below_differs : (a b : List ℕ) → is_lt (text_cmp a b) ≡ true → a ≢ b
below_differs a b lt e = not_less (text_cmp a b) (is_eq-slice_cmp a b ∙ (bytes_eq-Decides a b).1 e) lt

abbrev pub names_of : List (List ℕ × List ℕ) → List (List ℕ)
names_of es = map (λ e. e.0) es

below_each : (name : List ℕ) (es : List (List ℕ × List ℕ)) → T (below_all text_cmp name es) → All (λ n. name ≢ n) (names_of es)
below_each name [] h = All-nil (λ n. name ≢ n)
below_each name (e ∷ es) h =
    let parts = both_parts (is_lt (text_cmp name e.0)) (below_all text_cmp name es) h in
    All-cons (λ n. name ≢ n) e.0 (names_of es) (below_differs name e.0 (to_true (is_lt (text_cmp name e.0)) parts.0)) (below_each name es parts.1)

abbrev pub Differ : List ℕ → List ℕ → Type 0
Differ a b = a ≢ b

pub entries_differ : (es : List (List ℕ × List ℕ)) → T (is_sorted text_cmp es) → AllPairs Differ (names_of es)
entries_differ [] h = pairs_nil Differ
entries_differ (e ∷ es) h =
    let parts = both_parts (below_all text_cmp e.0 es) (is_sorted text_cmp es) h in
    AllPairs-cons Differ e.0 (names_of es) (below_each e.0 es parts.0) (entries_differ es parts.1)

-- no name of a map stands twice
pub names_differ : (files : Files) → AllPairs Differ (keys files)
names_differ files = entries_differ (entries files) (entries_sorted files)

-- ---- folders

first_tested : (c x : ℕ) (b : Bool) → (eqb c x && b) ≡ true → x ≡ c
first_tested c x b h = by_test (eqb_tells c x)
  where
    by_test : ((eqb c x ≡ true) × (c ≡ x)) ⊎ ((eqb c x ≡ false) × (c ≢ x)) → x ≡ c
    by_test (inl same) = sym same.1
    by_test (inr other) = let parts = and_parts (eqb c x) b h in let e : true ≡ false = sym parts.0 ∙ other.0 in cc

-- the first byte is that of the folder
first_byte : (c : ℕ) (rest name : List ℕ) → starts_with eqb name (c ∷ rest) ≡ true → get_or name 0 0 ≡ c
first_byte c rest [] h = cc
first_byte c rest (x ∷ xs) h = first_tested c x _ h

begin_so : (c : ℕ) (rest : List ℕ) (files : Files) → All (λ n. get_or n 0 0 ≡ c) (names_under (c ∷ rest) files)
begin_so c rest files k d lt = first_byte c rest _ (filter_passes (λ n. starts_with eqb n (c ∷ rest)) (keys files) k d lt)

apart : (a b : ℕ) → (a ≡ b → ⊥) → (xs ys : List (List ℕ)) → All (λ n. get_or n 0 0 ≡ a) xs → All (λ n. get_or n 0 0 ≡ b) ys → All (λ x. All (Differ x) ys) xs
apart a b ne xs ys in_a in_b k d lt j e lt_j same = ne (sym (in_a k d lt) ∙ ap (λ n. get_or n 0 0) same ∙ in_b j e lt_j)

-- each name stands once
pub folders_differ : (files : Files) → AllPairs Differ (folder_names files)
folders_differ files =
    let all : AllPairs Differ (keys files) = names_differ files in
    let ct = names_under (codes "ct/") files in
    let host = names_under (codes "host/") files in
    let vm = names_under (codes "vm/") files in
    let in_ct = begin_so 99 (codes "t/") files in
    let in_host = begin_so 104 (codes "ost/") files in
    let in_vm = begin_so 118 (codes "m/") files in
    let first = pairs_append Differ ct host (AllPairs-filter Differ (λ n. starts_with eqb n (codes "ct/")) (keys files) all)
    (AllPairs-filter Differ (λ n. starts_with eqb n (codes "host/")) (keys files) all) (apart 99 104 (λ e. omega (arith, e)) ct host in_ct in_host) in
    pairs_append Differ (ct ++ host) vm first (AllPairs-filter Differ (λ n. starts_with eqb n (codes "vm/")) (keys files) all)
    (All-append (λ x. All (Differ x) vm) ct host (apart 99 118 (λ e. omega (arith, e)) ct vm in_ct in_vm) (apart 104 118 (λ e. omega (arith, e)) host vm in_host in_vm))

-- ---- a manifest's name is among them

abbrev folder_of : Kind → List ℕ
folder_of Ct = codes "ct/"
folder_of Host = codes "host/"
folder_of Vm = codes "vm/"

begins : (kind : Kind) (rest : List ℕ) → starts_with eqb (kind_text kind ++ 47 ∷ rest) (folder_of kind) ≡ true
begins Ct rest = refl
begins Host rest = refl
begins Vm rest = refl

path_begins : (key : SnapshotKey) → (rest : List ℕ) × (manifest_path key ≡ kind_text key.kind ++ 47 ∷ rest)
unfolding key_text group_text
path_begins key =
    let rest = key.id ++ 47 ∷ (time_text key.time ++ 47 ∷ manifest_name) in
    let is : manifest_path key ≡ kind_text key.kind ++ 47 ∷ rest = simp append_assoc refl in
    (rest, is)

abbrev pub has_name : List ℕ → List (List ℕ) → Bool
has_name name names = list_any (eq_by_cmp text_cmp name) names

pub same_text : (a b : List ℕ) → eq_by_cmp text_cmp a b ≡ true → a ≡ b
same_text a b e = (bytes_eq-Decides a b).0 (sym (is_eq-slice_cmp a b) ∙ e)

-- in its folder
in_its_folder : (key : SnapshotKey) (files : Files) → has_name (manifest_path key) (keys files) ≡ true → has_name (manifest_path key) (names_under (folder_of key.kind) files) ≡ true
in_its_folder key files h =
    let path = path_begins key in
    let starts : starts_with eqb (manifest_path key) (folder_of key.kind) ≡ true = ap (λ n. starts_with eqb n (folder_of key.kind)) path.1 ∙ begins key.kind path.0 in
    any-filter_same (eq_by_cmp text_cmp (manifest_path key)) (λ n. starts_with eqb n (folder_of key.kind)) true
    (λ n e. ap (λ m. starts_with eqb m (folder_of key.kind)) (sym (same_text (manifest_path key) n e)) ∙ starts) (keys files)
    ∙ h

or_left : (a b : Bool) → a ≡ true → (a || b) ≡ true
or_left true b e = refl
or_left false b e = cc

or_right : (a b : Bool) → b ≡ true → (a || b) ≡ true
or_right true b e = refl
or_right false b e = e

tied : (a b : List ℕ) → a ≡ b → eq_by_cmp text_cmp a b ≡ true
tied a b e = is_eq-slice_cmp a b ∙ (bytes_eq-Decides a b).1 e

-- a name that is found in a list stands there, and the other way round
pub any_has : (q : List ℕ) (names : List (List ℕ)) → has_name q names ≡ true → Contains names q
any_has q [] h = cc
any_has q (n ∷ ns) h = by_case (eq_by_cmp text_cmp q n) refl h (λ k. any_has q ns k)
  where
    by_case : (t : Bool) → eq_by_cmp text_cmp q n ≡ t → (t || has_name q ns) ≡ true → (has_name q ns ≡ true → Contains ns q) → Contains (n ∷ ns) q
    by_case true e h later = subst (Contains (n ∷ ns)) (sym (same_text q n e)) (Contains-here n ns)
    by_case false e h later = Contains-later n ns q (later h)

pub has_any : (q : List ℕ) (names : List (List ℕ)) → Contains names q → has_name q names ≡ true
has_any q [] (k, lt, at) = absurd (omega (arith, lt))
has_any q (n ∷ ns) has =
    ⊎_elim
    (λ (e : n ≡ q). ap (λ t. t || has_name q ns) (tied q n (sym e)))
    (λ (c : Contains ns q). or_right (eq_by_cmp text_cmp q n) (has_name q ns) (has_any q ns c))
    (Contains-cases n ns q has)

-- a name of a map at which something stands
pub there_among : (files : Files) (name : List ℕ) → IsSome (get files name) → Contains (keys files) name
there_among files name there = any_has name (keys files) (sym (contains_key-keys files name) ∙ there)

by_kind : (kind : Kind) (name : List ℕ) (files : Files) → has_name name (names_under (folder_of kind) files) ≡ true → has_name name (folder_names files) ≡ true
by_kind kind name files h =
    let test = eq_by_cmp text_cmp name in
    let ct = names_under (codes "ct/") files in
    let host = names_under (codes "host/") files in
    let vm = names_under (codes "vm/") files in
    list_any-append test (ct ++ host) vm ∙ ap (λ b. b || list_any test vm) (list_any-append test ct host) ∙ among kind h
  where
    among : (kind : Kind) → has_name name (names_under (folder_of kind) files) ≡ true
        → ((has_name name (names_under (codes "ct/") files) || has_name name (names_under (codes "host/") files)) || has_name name (names_under (codes "vm/") files)) ≡ true
    among Ct h = or_left _ _ (or_left _ _ h)
    among Host h = or_left _ _ (or_right _ _ h)
    among Vm h = or_right _ _ h

has_manifest : (key : SnapshotKey) (files : Files) → IsSome (get files (manifest_path key)) → has_name (manifest_path key) (folder_names files) ≡ true
has_manifest key files there =
    by_kind key.kind (manifest_path key) files (in_its_folder key files (sym (contains_key-keys files (manifest_path key)) ∙ there))

pub manifest_among : (key : SnapshotKey) (files : Files) → IsSome (get files (manifest_path key)) → Contains (folder_names files) (manifest_path key)
manifest_among key files there = any_has (manifest_path key) (folder_names files) (has_manifest key files there)

-- ---- what names give

-- not the same snapshot
abbrev pub Apart : FoundSnapshot → FoundSnapshot → Type 0
Apart x y = same_key y.key x.key ≡ false

abbrev pub keys_of : List FoundSnapshot → List SnapshotKey
keys_of found = map (λ (x : FoundSnapshot). x.key) found

pub not_true : (b : Bool) → (b ≡ true → ⊥) → b ≡ false
not_true true h = absurd (h refl)
not_true false h = refl

module _ (files : Files) where
  abbrev pub all_named : List (List ℕ) → List FoundSnapshot
  all_named names = filter_map (found_named files) names

  abbrev pub Stands : FoundSnapshot → Type 0
  Stands x = IsKey x.key × (found_at files x.key ≡ Some x)

  pub each_stands : (names : List (List ℕ)) → All Stands (all_named names)
  each_stands [] = All-nil Stands
  each_stands (n ∷ ns) = by_case (found_named files n) refl (each_stands ns)
    where
      by_case : (o : Option FoundSnapshot) → found_named files n ≡ o → All Stands (all_named ns) → All Stands (cons_option o (all_named ns))
      by_case None e rest = rest
      by_case (Some x) e rest = let named = named_is files n x e in All-cons Stands x (all_named ns) (named.1, named.2) rest

  pub apart_from : (n : List ℕ) (x : FoundSnapshot) → n ≡ manifest_path x.key → (ns : List (List ℕ)) → All (Differ n) ns → All (Apart x) (all_named ns)
  apart_from n x is [] h = All-nil (Apart x)
  apart_from n x is (m ∷ ns) h = by_case (found_named files m) refl (apart_from n x is ns (All-tail (Differ n) m ns h))
    where
      by_case : (o : Option FoundSnapshot) → found_named files m ≡ o → All (Apart x) (all_named ns) → All (Apart x) (cons_option o (all_named ns))
      by_case None e rest = rest
      by_case (Some y) e rest =
          All-cons (Apart x) y (all_named ns)
          (not_true (same_key y.key x.key) (λ same. All-head (Differ n) m ns h (is ∙ ap manifest_path (sym ((same_keys y.key x.key).0 same)) ∙ sym (named_is files m y e).0)))
          rest

  pub all_apart : (names : List (List ℕ)) → AllPairs Differ names → AllPairs Apart (all_named names)
  all_apart [] h = pairs_nil Apart
  all_apart (n ∷ ns) h = by_case (found_named files n) refl (all_apart ns (pairs_tail Differ n ns h))
    where
      by_case : (o : Option FoundSnapshot) → found_named files n ≡ o → AllPairs Apart (all_named ns) → AllPairs Apart (cons_option o (all_named ns))
      by_case None e rest = rest
      by_case (Some x) e rest = AllPairs-cons Apart x (all_named ns) (apart_from n x (named_is files n x e).0 ns (pairs_head Differ n ns h)) rest

  later : (o : Option FoundSnapshot) (xs : List FoundSnapshot) (key : SnapshotKey) → Contains (keys_of xs) key → Contains (keys_of (cons_option o xs)) key
  later None xs key has = has
  later (Some x) xs key has = Contains-later x.key (keys_of xs) key has

  pub is_found : (key : SnapshotKey) (x : FoundSnapshot) → found_named files (manifest_path key) ≡ Some x → x.key ≡ key
      → (names : List (List ℕ)) → has_name (manifest_path key) names ≡ true → Contains (keys_of (all_named names)) key
  is_found key x is same [] h = cc
  is_found key x is same (n ∷ ns) h = by_case (eq_by_cmp text_cmp (manifest_path key) n) refl (is_found key x is same ns) h
    where
      by_case : (t : Bool) → eq_by_cmp text_cmp (manifest_path key) n ≡ t → (has_name (manifest_path key) ns ≡ true → Contains (keys_of (all_named ns)) key)
          → (t || has_name (manifest_path key) ns) ≡ true → Contains (keys_of (all_named (n ∷ ns))) key
      by_case true e rest h =
          subst (λ o. Contains (keys_of (cons_option o (all_named ns))) key) (sym (ap (found_named files) (sym (same_text (manifest_path key) n e)) ∙ is))
          (subst (λ k. Contains (x.key ∷ keys_of (all_named ns)) k) same (Contains-here x.key (keys_of (all_named ns))))
      by_case false e rest h = later (found_named files n) (all_named ns) key (rest h)

  -- each whose manifest is there is found
  pub all_found : (names : List (List ℕ)) → NamesManifests files names → (key : SnapshotKey) → IsKey key → IsSome (get files (manifest_path key))
      → Contains (keys_of (all_named names)) key
  all_found names named key is there =
      let x = at_name files key is there in
      is_found key x.0 x.1 x.2 names (has_any (manifest_path key) names (named.each key is there))

  -- and no other
  pub found_there : (xs : List FoundSnapshot) → All Stands xs → (key : SnapshotKey) → Contains (keys_of xs) key → IsSome (get files (manifest_path key))
  found_there [] each key (k, lt, at) = absurd (omega (arith, lt))
  found_there (x ∷ xs) each key has =
      ⊎_elim
      (λ (e : x.key ≡ key). subst (λ k. IsSome (get files (manifest_path k))) e (at_there files x.key x (All-head Stands x xs each).1))
      (λ (c : Contains (keys_of xs) key). found_there xs (All-tail Stands x xs each) key c)
      (Contains-cases x.key (keys_of xs) key has)
