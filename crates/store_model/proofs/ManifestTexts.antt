-- The refusals of a manifest have a spelling.
use Rattle.std.proofs.Common.{◌≡◌, ◌≤◌, ℕ, Bool, true, false, not, List, [], ◌∷◌, Option, Some, None, Result, Ok, Err, subst, arith}
use Rattle.std.specs.Prelude.{codes}
use Rattle.std.specs.Str.{bytes_eq}
use Rattle.std.specs.List.{list_any}
use Rattle.serde_json.specs.Data.{Data, Items, no_items, item}
use Rattle.serde_json.specs.Find.{get}
use Rattle.store_types.specs.declared.names.SnapshotKey.{SnapshotKey}
use Rattle.store_types.specs.Chain.Refusing.{◌>>=◌, unless, or_else}
use Rattle.store_files.specs.Manifest.{Manifest, manifest_of, files_in, json_of, bad_file, bad_crypt, bad_json, bad_field, listed_twice}
use Rattle.store_files.specs.Manifest.Fields.{Fact, fact_in, is_plain, key_in, list_in}

-- ---- causes

abbrev IsCause : ℕ → Type 0
IsCause cause = (1 ≤ cause) × (cause ≤ 5)

-- the refusal of a result is a cause
abbrev Causes : {A : Type 0} → Result A ℕ → Type 0
Causes (Ok x) = Unit {0}
Causes (Err cause) = IsCause cause

bound : {A B : Type 0} (r : Result A ℕ) (f : A → Result B ℕ) → Causes r → ((x : A) → Causes (f x)) → Causes (r >>= f)
bound (Ok x) f h g = g x
bound (Err cause) f h g = h

wanted : {A : Type 0} (cause : ℕ) (o : Option A) → IsCause cause → Causes (or_else cause o)
wanted cause None h = h
wanted cause (Some x) h = tt

tested : (cause : ℕ) (b : Bool) → IsCause cause → Causes (unless cause b)
tested cause true h = tt
tested cause false h = h

abbrev others_of : Fact → Result (List Fact) ℕ → Result (List Fact) ℕ
others_of f r = r >>= (λ others. Ok (f ∷ others))

-- the entries from one on, which is this fact
abbrev entry_of : List (List ℕ) → Data → Items → Fact → Result (List Fact) ℕ
entry_of before d ds f =
    unless bad_crypt (is_plain (get (codes "crypt-mode") d)) >>= (λ u. unless listed_twice (not (list_any (bytes_eq f.name) before)) >>= (λ v. others_of f (files_in (f.name ∷ before) ds)))

others_cause : (f : Fact) (r : Result (List Fact) ℕ) → Causes r → Causes (others_of f r)
others_cause f (Ok fs) h = tt
others_cause f (Err cause) h = h

entry_cause : (before : List (List ℕ)) (d : Data) (ds : Items) (f : Fact) → Causes (files_in (f.name ∷ before) ds) → Causes (entry_of before d ds f)
entry_cause before d ds f h =
    let plain = is_plain (get (codes "crypt-mode") d) in
    let new = not (list_any (bytes_eq f.name) before) in
    let later : Result (List Fact) ℕ = others_of f (files_in (f.name ∷ before) ds) in
    bound (unless bad_crypt plain) (λ u. unless listed_twice new >>= (λ v. later)) (tested bad_crypt plain (omega arith, omega arith))
    (λ u. bound (unless listed_twice new) (λ v. later) (tested listed_twice new (omega arith, omega arith)) (λ v. others_cause f (files_in (f.name ∷ before) ds) h))

files_cause : (before : List (List ℕ)) (ds : Items) → Causes (files_in before ds)
unfolding files_in
files_cause before no_items = tt
files_cause before (item d ds) =
    bound (or_else bad_file (fact_in d)) (entry_of before d ds) (wanted bad_file (fact_in d) (omega arith, omega arith)) (λ f. entry_cause before d ds f (files_cause (f.name ∷ before) ds))

manifest_cause : (bytes : List ℕ) → Causes (manifest_of bytes)
unfolding manifest_of
manifest_cause bytes =
    let made : SnapshotKey → Items → Result Manifest ℕ = λ k ds. files_in [] ds >>= (λ fs. Ok (record { key = k; files = fs })) in
    let keyed : Data → SnapshotKey → Result Manifest ℕ = λ d k. or_else bad_field (list_in d) >>= made k in
    bound (or_else bad_json (json_of bytes)) (λ d. or_else bad_field (key_in d) >>= keyed d) (wanted bad_json (json_of bytes) (omega arith, omega arith))
    (λ d. bound (or_else bad_field (key_in d)) (keyed d) (wanted bad_field (key_in d) (omega arith, omega arith))
    (λ k. bound (or_else bad_field (list_in d)) (made k) (wanted bad_field (list_in d) (omega arith, omega arith))
    (λ ds. bound (files_in [] ds) (λ fs. Ok (record { key = k; files = fs })) (files_cause [] ds) (λ fs. tt))))

-- bytes that are no manifest
pub cause_fits : (bytes : List ℕ) (cause : ℕ) → manifest_of bytes ≡ Err cause → IsCause cause
cause_fits bytes cause is = subst Causes is (manifest_cause bytes)
