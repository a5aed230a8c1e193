-- A datastore's names and bytes, and the snapshots that they give.
use Rattle.std.specs.Prelude.{◌≡◌, ℕ, pos, List, [], ◌∷◌, ◌++◌, codes, refl, replicate}
use Rattle.hex.specs.Hex.{encode_lower}
use Rattle.sha2.specs.Sha256.{sha256}
use Rattle.store_types.specs.declared.names.Kind.TheVariants.{Host}
use Rattle.blob_codec.specs.Blob as blobs
use Rattle.store_files.specs.Archive.{dynamic, Archive, archive, blob, Snapshot, archive_text, csum_by}
use Rattle.store_files.specs.Folder.{chunk_name}
use Rattle.store_model.specs.Load.{Entries, snapshots_in}
use Rattle.store_model.proofs.OnLiterals.{store_model_on_literals, digests_on_literals, loading_on_literals}

abbrev two_pieces : Archive
two_pieces = record { layout = dynamic; uuid = replicate 16 7; ctime = pos 5; reserved = replicate 4032 0; pieces = codes "abc" ∷ codes "de" ∷ [] }

abbrev manifest : List ℕ
manifest =
    codes "{\"backup-id\":\"a\",\"backup-time\":1579069803,\"backup-type\":\"host\",\"files\":[{\"crypt-mode\":\"none\",\"csum\":\""
    ++ encode_lower (csum_by dynamic two_pieces).0 ++ codes "\",\"filename\":\"root.didx\",\"size\":5}]}"

abbrev snapshot : Snapshot
snapshot = record {
  key = record { kind = Host; id = codes "a"; time = 1579069803 };
  files = record { name = codes "index.json.blob"; content = blob manifest } ∷ record { name = codes "root.didx"; content = archive two_pieces } ∷ [];
}

abbrev whole : Entries
whole = (chunk_name (sha256 (codes "abc")), blobs.blob (codes "abc")) ∷ (chunk_name (sha256 (codes "de")), blobs.blob (codes "de"))
    ∷ (codes "host/a/2020-01-15T06:30:03Z/index.json.blob", blobs.blob manifest)
    ∷ (codes "host/a/2020-01-15T06:30:03Z/root.didx", archive_text two_pieces) ∷ []

loaded : snapshots_in whole ≡ snapshot ∷ []
unfolding digests_on_literals loading_on_literals store_model_on_literals
loaded = refl

-- a listed file is missing
damaged : snapshots_in ((codes "host/a/2020-01-15T06:30:03Z/index.json.blob", blobs.blob manifest) ∷ []) ≡ []
unfolding digests_on_literals loading_on_literals store_model_on_literals
damaged = refl

nothing : snapshots_in [] ≡ []
unfolding loading_on_literals
nothing = refl
