-- What a manifest on the disk lists.
use Rattle.std.specs.Prelude.{ℕ, List, length, nat_le, Option, Some}
use Rattle.std.specs.FinMap.{get}
use Rattle.disk_trait.specs.Files.{Files}
use Rattle.store_types.specs.Chain.Reading.{◌>>=◌, only_if}
use Rattle.store_files.specs.Manifest.{Manifest}
use Rattle.store_model.specs.Load.{read_manifest}

-- where it reads and lists 63 files at most
abbrev pub listing_in : List ℕ → Option Manifest
listing_in bytes = do
  x ← read_manifest bytes
  _ ← only_if (nat_le (length x.files) 63)
  Some x

-- the bytes that stand at the path, and what they list
abbrev pub listing_at : Files → List ℕ → Option (List ℕ × Manifest)
listing_at m path = do
  bytes ← get m path
  x ← listing_in bytes
  Some (bytes, x)
