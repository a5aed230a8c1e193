-- What opening leaves of a map stands for the list that the map stood for.
use Rattle.std.proofs.Common.{◌≡◌, ◌⊎◌, ◌<◌, inl, inr, ⊎_elim, ℕ, zero, suc, true, List, [], ◌∷◌, ◌++◌, Option, Some, None, is_some, length, get_or, map, refl, sym, ap, subst, ◌∙◌, arith}
use Rattle.std.proofs.lemmas.List.Elements.{Contains-push_cases}
use Rattle.std.specs.FinMap.{get, keys, remove}
use Rattle.std.specs.List.{Contains}
use Rattle.std.specs.Option.{IsSome}
use Rattle.disk_trait.specs.Disk.{MayGo}
use Rattle.disk_trait.specs.Laws.{by_name, placed_same, placed_other}
use Rattle.store_types.specs.declared.names.SnapshotKey.{SnapshotKey}
use Rattle.store_types.specs.FileNames.{manifest_name}
use Rattle.store_types.specs.Names.{IsKey}
use Rattle.store_files.specs.Archive.{File, Snapshot}
use Rattle.store_files.specs.Folder.{Files, file_path, manifest_path, chunk_name}
use Rattle.store_model.specs.Stands.{StandsFor, names_content}
use Rattle.store_model.proofs.Insertions.{Contains-here, Contains-later}
use Rattle.store_model.proofs.Paths.{same_path, content_plain, manifest_plain, chunk_apart}
use Rattle.store_model.proofs.StandsLemmas.{Agrees, stands_agree}
use Rattle.snapshot_files.proofs.StandingLemmas.{name_plain}
use Rattle.snapshot_files.specs.Leaving.{IsLeaving, MayClean, Cleans}
use Rattle.snapshot_files.specs.Removed.{Goes}
use Rattle.snapshot_files.proofs.Names.{there_is}
use Rattle.snapshot_files.proofs.Endings.{manifest_not_temporary, stored_not_temporary, chunk_not_temporary}

no_some : (o : Option (List ℕ)) → o ≡ None → IsSome o → ⊥
no_some None e some = cc
no_some (Some x) e some = cc

abbrev keys_of : List Snapshot → List SnapshotKey
keys_of xs = map (λ (x : Snapshot). x.key) xs

has_key : (xs : List Snapshot) (k : ℕ) (d : Snapshot) → k < length xs → Contains (keys_of xs) (get_or xs k d).key
has_key [] k d lt = absurd (omega (arith, lt))
has_key (x ∷ xs) zero d lt = Contains-here x.key (keys_of xs)
has_key (x ∷ xs) (suc k) d lt = Contains-later x.key (keys_of xs) (get_or xs k d).key (has_key xs k d (omega (arith, lt)))

-- as it was, or gone
abbrev Told : Files → Files → List ℕ → Type 0
Told m c q = (get c q ≡ get m q) ⊎ ((get c q ≡ None) × IsLeaving m q)

-- where a manifest was not there, nothing is there after it
pub manifest_stays : (m c : Files) → MayClean m m c → (key : SnapshotKey) → IsKey key → get c (manifest_path key) ≡ get m (manifest_path key)
manifest_stays m c may key is = told (may (manifest_path key))
  where
    told : Told m c (manifest_path key) → get c (manifest_path key) ≡ get m (manifest_path key)
    told (inl same) = same
    told (inr (none, inl (name, e))) = absurd (manifest_not_temporary key name e)
    told (inr (none, inr (k, is_k, (name, grammar, at), lacks))) =
        let same = same_path key k manifest_name name is is_k manifest_plain (name_plain name grammar) at in
        none ∙ sym (ap (λ (x : SnapshotKey). get m (manifest_path x)) same.0 ∙ lacks)

pub chunk_stays : (m c : Files) → MayClean m m c → (digest : List ℕ) → get c (chunk_name digest) ≡ get m (chunk_name digest)
chunk_stays m c may digest = told (may (chunk_name digest))
  where
    told : Told m c (chunk_name digest) → get c (chunk_name digest) ≡ get m (chunk_name digest)
    told (inl same) = same
    told (inr (none, inl (name, e))) = absurd (chunk_not_temporary digest name e)
    told (inr (none, inr (k, is_k, (name, grammar, at), lacks))) = absurd (chunk_apart digest k name at)

module _ (m c : Files) (snapshots : List Snapshot) (s : StandsFor m snapshots) (may : MayClean m m c) where
  -- a file of a snapshot in the list is no orphan
  same_file : (key : SnapshotKey) (f : File) → IsKey key → Contains (keys_of snapshots) key → names_content f.content f.name ≡ true
      → get c (file_path key f.name) ≡ get m (file_path key f.name)
  same_file key f is has named = told (may (file_path key f.name))
    where
      told : Told m c (file_path key f.name) → get c (file_path key f.name) ≡ get m (file_path key f.name)
      told (inl same) = same
      told (inr (none, inl (name, e))) = absurd (stored_not_temporary f.content key f.name name named e)
      told (inr (none, inr (k, is_k, (name, grammar, at), lacks))) =
          let same = same_path key k f.name name is is_k (content_plain f.content f.name named) (name_plain name grammar) at in
          absurd (no_some (get m (manifest_path key)) (ap (λ (x : SnapshotKey). get m (manifest_path x)) same.0 ∙ lacks) ((s.manifests key is).1 has))

  agrees : Agrees m c snapshots
  agrees = record {
    manifests = manifest_stays m c may;
    files = λ k d lt. λ i e lt2.
        let x = get_or snapshots k d in
        let is = s.each k d lt in
        same_file x.key (get_or x.files i e) is.key (has_key snapshots k d lt) (is.kinds i e lt2);
    chunks = chunk_stays m c may;
  }

  pub stands_cleaned : StandsFor c snapshots
  stands_cleaned = stands_agree m c snapshots agrees s

-- ---- one after another

pub cleans_none : (read b c : Files) → c ≡ b → MayClean read b c
cleans_none read b c e q = inl (ap (λ m. get m q) e)

pub cleans_one : (read b c : Files) (name : List ℕ) → IsLeaving read name → MayGo name b c → MayClean read b c
cleans_one read b c name is (inl e) q = cleans_none read b c e q
cleans_one read b c name is (inr e) q =
    by_name q name ((get c q ≡ get b q) ⊎ ((get c q ≡ None) × IsLeaving read q))
    (λ same. inr (ap (λ m. get m q) e ∙ ap (get (remove b name)) same ∙ placed_same b name None, subst (IsLeaving read) (sym same) is))
    (λ ne. inl (ap (λ m. get m q) e ∙ placed_other b name None q ne))

pub cleans_more : (read a b c : Files) → MayClean read a b → MayClean read b c → MayClean read a c
cleans_more read a b c one two q = told (one q) (two q)
  where
    told : (get b q ≡ get a q) ⊎ ((get b q ≡ None) × IsLeaving read q) → (get c q ≡ get b q) ⊎ ((get c q ≡ None) × IsLeaving read q)
        → (get c q ≡ get a q) ⊎ ((get c q ≡ None) × IsLeaving read q)
    told (inl e) (inl f) = inl (f ∙ e)
    told (inr gone) (inl f) = inr (f ∙ gone.0, gone.1)
    told x (inr gone) = inr gone

-- what is gone does not come back
pub stays_gone : (read b c : Files) (q : List ℕ) → get b q ≡ None → MayClean read b c → get c q ≡ None
stays_gone read b c q none may = told (may q)
  where
    told : (get c q ≡ get b q) ⊎ ((get c q ≡ None) × IsLeaving read q) → get c q ≡ None
    told (inl e) = e ∙ none
    told (inr gone) = gone.0

-- ---- names that were gone through

pub goes_none : (read c : Files) → Goes read [] c
goes_none read c q has leaving = absurd (omega (arith, has.1))

pub goes_more : (read : Files) (names : List (List ℕ)) (n : List ℕ) (b c : Files) → Goes read names b → MayClean read b c → Goes read (n ∷ []) c → Goes read (names ++ n ∷ []) c
goes_more read names n b c one may two q has leaving =
    ⊎_elim
    (λ (was : Contains names q). stays_gone read b c q (one q was leaving) may)
    (λ (e : n ≡ q). two q (subst (Contains (n ∷ [])) e (Contains-here n [])) leaving)
    (Contains-push_cases names n q has)

pub goes_here : (read c : Files) (n : List ℕ) → get c n ≡ None → Goes read (n ∷ []) c
goes_here read c n none q (zero, lt, is) leaving = ap (get c) (sym is) ∙ none
goes_here read c n none q (suc k, lt, is) leaving = absurd (omega (arith, lt))

pub goes_not : (read c : Files) (n : List ℕ) → (IsLeaving read n → ⊥) → Goes read (n ∷ []) c
goes_not read c n never q (zero, lt, is) leaving = absurd (never (subst (IsLeaving read) (sym is) leaving))
goes_not read c n never q (suc k, lt, is) leaving = absurd (omega (arith, lt))

-- all names of a map were gone through
pub cleans_all : (m c : Files) → MayClean m m c → Goes m (keys m) c → Cleans m c
cleans_all m c may goes = record {
  only = may;
  gone = λ q leaving. by_there q leaving (get m q) refl;
}
  where
    by_there : (q : List ℕ) → IsLeaving m q → (o : Option (List ℕ)) → get m q ≡ o → get c q ≡ None
    by_there q leaving None e = stays_gone m m c q e may
    by_there q leaving (Some bytes) e = goes q (there_is m q (ap is_some e)) leaving
