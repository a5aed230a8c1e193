-- The snapshot of a manifest has a text.
use Rattle.std.proofs.Common.{◌≡◌, ℕ, List, [], Option, Some, None, Result, Ok, Err, subst}
use Rattle.std.specs.Prelude.{IfOk, IfSome, MatchResult}
use Rattle.serde_json.specs.Data.{Data, Items}
use Rattle.store_types.specs.declared.names.SnapshotKey.{SnapshotKey}
use Rattle.store_types.specs.Chain.Refusing.{◌>>=◌, or_else}
use Rattle.store_types.specs.Names.{IsKey}
use Rattle.store_files.specs.Manifest.Fields.{Fact, key_in, list_in}
use Rattle.store_files.specs.Manifest.{Manifest, files_in, bad_field}
use Rattle.manifest.specs.declared.facts.Manifest as facts
use Rattle.manifest.specs.Views.{manifest_view}
use Rattle.manifest.specs.Reading.{manifest_in}
use Rattle.manifest.proofs.Keys.{key_in-fits}

abbrev pub HasKey : Result Manifest ℕ → Type 0
HasKey read = IfOk read (λ m. IsKey m.key)

with_files : (key : SnapshotKey) (files : Result (List Fact) ℕ) → IsKey key → HasKey (files >>= (λ fs. Ok (record { key = key; files = fs })))
with_files key (Ok fs) fits = fits
with_files key (Err e) fits = tt

abbrev listed : SnapshotKey → Option Items → Result Manifest ℕ
listed key items = do
  list ← or_else bad_field items
  files ← files_in [] list
  Ok (record { key = key; files = files })

with_list : (key : SnapshotKey) (items : Option Items) → IsKey key → HasKey (listed key items)
with_list key None fits = tt
with_list key (Some list) fits = with_files key (files_in [] list) fits

with_key : (key : Option SnapshotKey) (items : Option Items) → IfSome key IsKey → HasKey (or_else bad_field key >>= (λ k. listed k items))
with_key None items fits = tt
with_key (Some k) items fits = with_list k items fits

pub manifest_in-key : (d : Data) → HasKey (manifest_in d)
manifest_in-key d = with_key (key_in d) (list_in d) (key_in-fits d)

-- so has that of what was read
pub read-key : {E A : Type 0} (d : Data) (read : Result (Result facts.Manifest E) A) (Q : E → Type 0) →
    IfOk read (λ r. MatchResult r (λ m. manifest_in d ≡ Ok (manifest_view m)) Q) → IfOk read (λ r. IfOk r (λ m. IsKey m.key))
read-key d (Ok (Ok m)) Q is = subst HasKey is (manifest_in-key d)
read-key d (Ok (Err e)) Q is = tt
read-key d (Err a) Q is = tt
