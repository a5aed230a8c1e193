-- Whether a file leaves, by its name and the manifests that are there.
use Rattle.std.proofs.Common.{◌≡◌, ◌++◌, ◌-◌, inl, inr, ℕ, Bool, true, false, not, eqb, List, Option, Some, None, is_some, length, take, refl, sym, ap, ◌∙◌}
use Rattle.std.specs.Prelude.{codes, String}
use Rattle.std.specs.List.{ends_with}
use Rattle.std.specs.BTreeSet.{BTreeSet, contains_text}
use Rattle.std.specs.FinMap.{get}
use Rattle.std.specs.declared.alloc.Global.{Global}
use Rattle.std.proofs.lemmas.Bool.Decides.{Decides-eqb}
use Rattle.std.proofs.lemmas.Slice.Eq.{ends_is}
use Rattle.store_types.specs.declared.names.SnapshotKey.{SnapshotKey}
use Rattle.store_files.specs.Folder.{Files, manifest_path}
use Rattle.store_model.proofs.Paths.{same_path}
use Rattle.snapshot_files.proofs.StandingLemmas.{name_plain}
use Rattle.snapshot_files.specs.Leaving.{IsTemporary, IsLeaving}
use Rattle.snapshot_files.specs.Removed.{TellsSnapshot, HasManifests, TellsLeaving}

abbrev tail : List ℕ
tail = codes ".tmp"

not_both : false ≡ true → ⊥
not_both e = cc

-- by the test of its end
tells_ending : (q : List ℕ) → (ends_with eqb q tail ≡ true → q ≡ take (length q - length tail) q ++ tail) × ((front : List ℕ) → q ≡ front ++ tail → ends_with eqb q tail ≡ true)
tells_ending q = ends_is Decides-eqb q tail (ends_with eqb q tail) refl

not_temporary : (q : List ℕ) → false ≡ ends_with eqb q tail → IsTemporary q → ⊥
not_temporary q other (name, at) = not_both (other ∙ (tells_ending q).1 name at)

pub tells_temporary : (read : Files) (q : List ℕ) → true ≡ ends_with eqb q tail → TellsLeaving read q true
tells_temporary read q ends = (λ _. inl (take (length q - length tail) q, (tells_ending q).0 (sym ends)), λ e. absurd (not_both (sym e)))

pub tells_foreign : (read : Files) (q : List ℕ) → false ≡ ends_with eqb q tail → TellsSnapshot q None → TellsLeaving read q false
tells_foreign read q other tells = (λ e. absurd (not_both e), λ _. stays)
  where
    stays : IsLeaving read q → ⊥
    stays (inl temporary) = not_temporary q other temporary
    stays (inr (key, is, its, lacks)) = tells key is its

none_of : (o : Option (List ℕ)) → true ≡ not (is_some o) → o ≡ None
none_of None e = refl
none_of (Some x) e = cc

some_of : (o : Option (List ℕ)) → false ≡ not (is_some o) → o ≡ None → ⊥
some_of None e none = cc
some_of (Some x) e none = cc

-- a file of a snapshot leaves where the manifest is not there
pub tells_file : (manifests : BTreeSet (String Global)) (read : Files) (q : List ℕ) (key : SnapshotKey) (leaves : Bool) → false ≡ ends_with eqb q tail → TellsSnapshot q (Some key)
    → leaves ≡ not (contains_text manifests (manifest_path key)) → HasManifests manifests read → TellsLeaving read q leaves
tells_file manifests read q key leaves other (is, (name, grammar, at)) e has =
    (λ on. inr (key, is, (name, grammar, at), none_of (get read (manifest_path key)) (sym on ∙ there)), stays)
  where
    there : leaves ≡ not (is_some (get read (manifest_path key)))
    there = e ∙ ap not (has key is)

    stays : leaves ≡ false → IsLeaving read q → ⊥
    stays off (inl temporary) = not_temporary q other temporary
    stays off (inr (k, is_k, (n, grammar_n, at_n), lacks)) =
        let same = same_path key k name n is is_k (name_plain name grammar) (name_plain n grammar_n) (sym at ∙ at_n) in
        some_of (get read (manifest_path key)) (sym off ∙ there) (ap (λ (x : SnapshotKey). get read (manifest_path x)) same.0 ∙ lacks)
