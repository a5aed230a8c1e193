-- What a reader's calls answer and leave.
use Rattle.std.specs.Prelude.{ℕ, Bool, List, [], ◌∷◌, ◌++◌, if◌then◌else◌, Option, Result, Ok}
use Rattle.std.specs.List.{list_any, find}
use Rattle.std.specs.Str.{bytes_eq}
use Rattle.store_types.specs.declared.names.SnapshotKey.{SnapshotKey}
use Rattle.store_types.specs.declared.refusal.Refusal.{Refusal}
use Rattle.store_types.specs.declared.refusal.Refusal.TheVariants.{NotAllowed}
use Rattle.store_types.specs.Chain.Refusing.{◌>>=◌, or_else}
use Rattle.store_model.specs.ReaderSteps.{want_range}
use Rattle.paged_indexes.specs.declared.index.IndexPages.{IndexPages}
use Rattle.restore_reader.specs.declared.index.Table.{Table}
use Rattle.restore_reader.specs.Kept.{noted_by}
use Rattle.restore_reader.specs.Session.{Noted, Reading}

abbrev pub opened : SnapshotKey → Reading
opened key = record { key = key; noted = [] }

-- ---- downloads

abbrev pub is_downloaded : Reading → List ℕ → Bool
is_downloaded r name = list_any (λ x. bytes_eq name x.name) r.noted

-- an archive that was downloaded before stays as it was
abbrev pub downloaded : Reading → List ℕ → Table → IndexPages → Reading
downloaded r name table pages =
    if is_downloaded r name then r else record r { noted = r.noted ++ noted_by name table pages ∷ [] }

-- ---- chunks

abbrev pub has_digest : List ℕ → Noted → Bool
has_digest digest x = list_any (λ d. bytes_eq d digest) x.digests

-- a piece of a downloaded archive has the digest
abbrev pub is_allowed : Reading → List ℕ → Bool
is_allowed r digest = list_any (has_digest digest) r.noted

-- ---- ranges

abbrev pub noted_as : Reading → List ℕ → Option Noted
noted_as r name = find (λ x. bytes_eq name x.name) r.noted

-- the index whose pages are read for it
unfoldable pub range_plan : Reading → List ℕ → ℕ → ℕ → Result IndexPages Refusal
range_plan r name offset len = do
  x ← or_else NotAllowed (noted_as r name)
  _ ← want_range x.size offset len
  Ok x.pages
