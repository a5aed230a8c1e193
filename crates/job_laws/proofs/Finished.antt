-- Of a snapshot that FINISH takes no file differs from what the manifest lists.
use Rattle.std.proofs.Common.{◌≡◌, zero, suc, ℕ, Bool, true, false, List, [], ◌∷◌, map, not, cond, Option, Some, None, is_none, Ok, Err, Result, refl, sym, ap, ◌∙◌, arith, ◌+◌, ◌==◌, if◌then◌else◌}
use Rattle.std.specs.List.{All, Contains, cons_option, filter_map}
use Rattle.std.specs.Option.{option_map, option_or}
use Rattle.std.specs.Str.{bytes_eq}
use Rattle.std.proofs.lemmas.Bool.{eqb-true}
use Rattle.std.proofs.lemmas.List.Elements.{All-contains, All-contains_itself, All-cons, All-head, All-nil, All-tail}
use Rattle.std.proofs.lemmas.Slice.Eq.{bytes_eq-Decides}
use Rattle.store_types.specs.declared.names.Kind.{Kind}
use Rattle.store_types.specs.declared.names.Kind.TheVariants.{Ct, Host, Vm}
use Rattle.store_types.specs.declared.names.SnapshotKey.{SnapshotKey}
use Rattle.store_types.specs.FileNames.{manifest_name}
use Rattle.store_types.specs.Names.{kind_rank, key_text}
use Rattle.store_files.specs.Archive.{File, Snapshot, file_named, pieces_of}
use Rattle.store_files.specs.Manifest.{Manifest, manifest_of}
use Rattle.store_files.specs.Manifest.Fields.{Fact}
use Rattle.store_files.specs.Manifest.Mismatch.{Mismatch, mismatch, key_mismatch, fact_mismatch, fact_named, listed_mismatch, unlisted_mismatch, upload_mismatch}
use Rattle.wire_commands.specs.declared.rows.FileFault.TheVariants.{Differs}
use Rattle.store_model.specs.AdminSteps.{facts_in}
use Rattle.store_model.specs.Manifests.{beside_manifest, fact_of}
use Rattle.store_model.specs.Stands.{IsSnapshot}
use Rattle.store_model.proofs.ListingLemmas.{Listing, listing}
use Rattle.job_laws.specs.Verifies.{undamaged, damage_from, row_of, fault_in, is_as_listed, is_listed, names_snapshot, FinishedSnapshotsDoNotDiffer}
use Rattle.job_laws.proofs.Judged.{fact, found, its_fact, true_false}

-- ---- options

no_first : {X : Type 0} (a b : Option X) → option_or a b ≡ None → (a ≡ None) × (b ≡ None)
no_first None b h = (refl, h)
no_first (Some x) b h = cc

-- ---- the key

same_kind : (a b : Kind) → kind_rank a ≡ kind_rank b → a ≡ b
same_kind Ct Ct h = refl
same_kind Host Host h = refl
same_kind Vm Vm h = refl
same_kind Ct Host h = absurd (omega (arith, h))
same_kind Ct Vm h = absurd (omega (arith, h))
same_kind Host Ct h = absurd (omega (arith, h))
same_kind Host Vm h = absurd (omega (arith, h))
same_kind Vm Ct h = absurd (omega (arith, h))
same_kind Vm Host h = absurd (omega (arith, h))

same_key : (a b : SnapshotKey) → key_mismatch a b ≡ None → a ≡ b
same_key a b h = by_tests (kind_rank a.kind == kind_rank b.kind) (bytes_eq a.id b.id) (a.time == b.time) refl refl refl h
  where
    by_tests : (k i t : Bool) → (kind_rank a.kind == kind_rank b.kind) ≡ k → bytes_eq a.id b.id ≡ i → (a.time == b.time) ≡ t
        → (if not k then Some (let m : Mismatch = record { file = []; field = 1 } in m) else
        if not i then Some (let m : Mismatch = record { file = []; field = 2 } in m) else
        if not t then Some (let m : Mismatch = record { file = []; field = 3 } in m) else
        None) ≡ None → a ≡ b
    by_tests false i t kind id time h = cc
    by_tests true false t kind id time h = cc
    by_tests true true false kind id time h = cc
    by_tests true true true kind id time h =
        let kinds = same_kind a.kind b.kind (eqb-true (kind_rank a.kind) (kind_rank b.kind) kind) in
        let ids = (bytes_eq-Decides a.id b.id).0 id in
        let times = eqb-true a.time b.time time in
        ap (λ k. (let y : SnapshotKey = record { kind = k; id = a.id; time = a.time } in y)) kinds
        ∙ ap (λ i. (let y : SnapshotKey = record { kind = b.kind; id = i; time = a.time } in y)) ids
        ∙ ap (λ t. (let y : SnapshotKey = record { kind = b.kind; id = b.id; time = t } in y)) times

-- ---- the uploads

fact_there : (name : List ℕ) (ts : List Fact) (t : Fact) → fact_named name ts ≡ Some t → Contains ts t
fact_there name [] t h = cc
fact_there name (u ∷ us) t h = by_test (bytes_eq u.name name) h (fact_there name us t)
  where
    by_test : (b : Bool) → cond b (Some u) (fact_named name us) ≡ Some t → (fact_named name us ≡ Some t → Contains us t) → Contains (u ∷ us) t
    by_test true is go = (zero, omega arith, cc)
    by_test false is go = (let h = go is in (suc h.0, omega (arith, h.1), h.2))

-- a file beside the manifest is an upload
beside_named : (name : List ℕ) (f : File) → bytes_eq name manifest_name ≡ false → (fs : List File) → file_named name fs ≡ Some f
    → fact_named name (map fact_of (beside_manifest fs)) ≡ Some (fact_of f)
beside_named name f other [] h = cc
beside_named name f other (g ∷ gs) h = by_name (bytes_eq g.name name) refl h (beside_named name f other gs)
  where
    rest : Option Fact
    rest = fact_named name (map fact_of (beside_manifest gs))

    by_kind : (b c : Bool) → bytes_eq g.name name ≡ b → bytes_eq g.name manifest_name ≡ c
        → cond b (Some g) (file_named name gs) ≡ Some f → (file_named name gs ≡ Some f → rest ≡ Some (fact_of f))
        → fact_named name (map fact_of (cond (not c) (g ∷ beside_manifest gs) (beside_manifest gs))) ≡ Some (fact_of f)
    by_kind true true same its is go = absurd (true_false (sym its ∙ ap (λ n. bytes_eq n manifest_name) ((bytes_eq-Decides g.name name).0 same) ∙ other))
    by_kind true false same its is go =
        let first : g ≡ f = cc in
        ap (λ b. cond b (Some (fact_of g)) rest) same ∙ ap (λ (y : File). Some (fact_of y)) first
    by_kind false true same its is go = go is
    by_kind false false same its is go = ap (λ b. cond b (Some (fact_of g)) rest) same ∙ go is

    by_name : (b : Bool) → bytes_eq g.name name ≡ b → cond b (Some g) (file_named name gs) ≡ Some f → (file_named name gs ≡ Some f → rest ≡ Some (fact_of f))
        → fact_named name (map fact_of (beside_manifest (g ∷ gs))) ≡ Some (fact_of f)
    by_name b same is go = by_kind b (bytes_eq g.name manifest_name) same refl is go

all_uploaded : (listed uploads : List Fact) → listed_mismatch listed uploads ≡ None → All (λ (t : Fact). upload_mismatch t (fact_named t.name uploads) ≡ None) listed
all_uploaded [] uploads h = All-nil (λ (t : Fact). upload_mismatch t (fact_named t.name uploads) ≡ None)
all_uploaded (t ∷ ts) uploads h =
    let both = no_first (upload_mismatch t (fact_named t.name uploads)) (listed_mismatch ts uploads) h in
    All-cons (λ (u : Fact). upload_mismatch u (fact_named u.name uploads) ≡ None) t ts both.0 (all_uploaded ts uploads both.1)

module _ (x : Snapshot) (m : Manifest) (fits : IsSnapshot x) (l : Listing x.key x.files m) where
  abbrev uploads : List Fact
  uploads = map fact_of (beside_manifest x.files)

  apart : (key_mismatch m.key x.key ≡ None) × (listed_mismatch m.files uploads ≡ None)
  unfolding mismatch
  apart =
      let first = no_first (key_mismatch m.key x.key) (option_or (listed_mismatch m.files uploads) (unlisted_mismatch m.files uploads)) l.same in
      (first.0, (no_first (listed_mismatch m.files uploads) (unlisted_mismatch m.files uploads) first.1).0)

  facts_are : facts_in x.files ≡ m.files
  facts_are =
      ap (λ (o : Option (List ℕ)). elim o [
        | None ↦ []
        | Some b ↦ elim (manifest_of b) [ Ok m ↦ m.files | Err cause ↦ [] ]
      ]) l.there
      ∙ ap (λ (r : Result Manifest ℕ). elim r [ Ok m ↦ m.files | Err cause ↦ [] ]) l.read

  names_it : names_snapshot x ≡ true
  names_it =
      ap (λ (o : Option (List ℕ)). elim o [
        | None ↦ false
        | Some b ↦ elim (manifest_of b) [ Ok m ↦ bytes_eq (key_text m.key) (key_text x.key) | Err cause ↦ false ]
      ]) l.there
      ∙ ap (λ (r : Result Manifest ℕ). elim r [ Ok m ↦ bytes_eq (key_text m.key) (key_text x.key) | Err cause ↦ false ]) l.read
      ∙ (bytes_eq-Decides (key_text m.key) (key_text x.key)).1 (ap key_text (same_key m.key x.key apart.0))

  module _ (f : File) (there : Contains x.files f) where
    is_uploaded : bytes_eq f.name manifest_name ≡ false → is_listed (facts_in x.files) f ≡ true
    is_uploaded other =
        let its = its_fact x fits f there other in
        let t = fact f.name its.0 its.1 in
        let listed : fact_named f.name m.files ≡ Some t = ap (fact_named f.name) (sym facts_are) ∙ its.2 in
        let sent : fact_named f.name uploads ≡ Some (fact_of f) = beside_named f.name f other x.files (found x fits f there) in
        let same : upload_mismatch t (fact_named f.name uploads) ≡ None =
        All-contains (λ (u : Fact). upload_mismatch u (fact_named u.name uploads) ≡ None) m.files t (all_uploaded m.files uploads apart.1) (fact_there f.name m.files t listed) in
        ap (λ (o : Option Fact). elim o [ None ↦ false | Some u ↦ is_none (fact_mismatch u (fact_of f)) ]) its.2
        ∙ ap is_none (ap (upload_mismatch t) (sym sent) ∙ same)

    as_listed : is_as_listed x f ≡ true
    as_listed = by_name (bytes_eq f.name manifest_name) refl
      where
        by_name : (b : Bool) → bytes_eq f.name manifest_name ≡ b → (if b then names_snapshot x else is_listed (facts_in x.files) f) ≡ true
        by_name true is = names_it
        by_name false is = is_uploaded is

  no_damage : (name : List ℕ) (place : ℕ) (ps : List (List ℕ)) → damage_from undamaged name place ps ≡ None
  no_damage name place [] = refl
  no_damage name place (p ∷ ps) = no_damage name (place + 1) ps

  none_differ : (fs : List File) → All (Contains x.files) fs → filter_map (fault_in undamaged x) fs ≡ []
  none_differ [] there = refl
  none_differ (f ∷ fs) there =
      ap (λ b. cons_option (option_map (row_of f) (option_or (if b then None else Some Differs) (damage_from undamaged f.name 0 (pieces_of f.content)))) (filter_map (fault_in undamaged x) fs)) (as_listed f (All-head (Contains x.files) f fs there))
      ∙ ap (λ o. cons_option (option_map (row_of f) o) (filter_map (fault_in undamaged x) fs)) (no_damage f.name 0 (pieces_of f.content))
      ∙ none_differ fs (All-tail (Contains x.files) f fs there)

pub finished_snapshots_do_not_differ : FinishedSnapshotsDoNotDiffer
finished_snapshots_do_not_differ x m fits h = none_differ x m fits (listing x.key x.files m h) x.files (All-contains_itself x.files)
