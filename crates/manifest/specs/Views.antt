-- What the types say, in the words of the definitions of manifests.
use Rattle.std.specs.Prelude.{ℕ, List, [], map, Option, Some, None}
use Rattle.store_files.specs.Manifest.Fields.{Fact}
use Rattle.store_files.specs.Manifest as listing
use Rattle.store_files.specs.Manifest.Mismatch as comparing
use Rattle.manifest.specs.declared.facts.FileFact.{FileFact}
use Rattle.manifest.specs.declared.facts.Manifest.{Manifest}
use Rattle.manifest.specs.declared.facts.Mismatch.{Mismatch}

abbrev pub fact_view : FileFact → Fact
fact_view f = record { name = f.name; size = f.size; csum = f.csum }

abbrev pub manifest_view : Manifest → listing.Manifest
manifest_view m = record { key = m.key; files = map fact_view m.files }

-- the file's name, or no bytes
abbrev pub name_or_nothing : Option (List ℕ) → List ℕ
name_or_nothing None = []
name_or_nothing (Some name) = name

abbrev pub mismatch_view : Mismatch → comparing.Mismatch
mismatch_view m = record { file = name_or_nothing m.file; field = m.field }
