-- What the manifest of a finished snapshot lists, as it is read.
use Rattle.std.proofs.Common.{◌≡◌, ℕ, Bool, nat_le, length, List, Option, Some, ap, ◌∙◌}
use Rattle.std.proofs.lemmas.Bool.{le-leb}
use Rattle.disk_trait.specs.Files.{Files}
use Rattle.store_types.specs.Chain.Reading.{◌>>=◌, only_if}
use Rattle.blob_codec.specs.Blob.{blob}
use Rattle.store_files.specs.Archive.{Snapshot}
use Rattle.store_files.specs.Manifest.{Manifest}
use Rattle.store_files.specs.Folder.{manifest_path}
use Rattle.core_state.specs.Listing.{listing_in, listing_at}
use Rattle.core_admin.specs.FilesTold.{HasBytes}
use Rattle.snapshot_files.proofs.Manifests.{HasManifest}
use Rattle.core_admin.proofs.FactLemmas.{manifest_read}

abbrev with_listed : List ℕ → Option Manifest → Option (List ℕ × Manifest)
with_listed bytes o = o >>= λ x. Some (bytes, x)

abbrev limited : Option Manifest → Option Manifest
limited o = o >>= λ x. only_if (nat_le (length x.files) 63) >>= λ _. Some x

abbrev within : Manifest → Bool → Option Manifest
within x b = only_if b >>= λ _. Some x

pub listing_is : (m : Files) (x : Snapshot) (h : HasManifest m x) → HasBytes m (manifest_path x.key) → listing_at m (manifest_path x.key) ≡ Some (blob h.bytes, h.listed)
listing_is m x h are =
    ap (λ o. o >>= λ bytes. with_listed bytes (listing_in bytes)) h.there
    ∙ ap (with_listed (blob h.bytes)) (ap limited (manifest_read m x h (are (blob h.bytes) h.there)) ∙ ap (within h.listed) (le-leb (length (h.listed).files) 63 h.few))
