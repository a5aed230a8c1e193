-- What the names that were listed before files went tell of what is left.
use Rattle.std.proofs.Common.{ℕ, List, Option, sym, subst}
use Rattle.std.specs.FinMap.{keys}
use Rattle.std.specs.Option.{IsSome}
use Rattle.store_types.specs.declared.names.Digest32.{Digest32}
use Rattle.store_files.specs.Folder.{Files, manifest_path}
use Rattle.chunk_store.specs.Listed.{Lists as ListsDigests}
use Rattle.snapshot_files.specs.Scanned.{NamesManifests}
use Rattle.snapshot_files.proofs.Listing.{names_differ, there_among}
use Rattle.snapshot_files.specs.Leaving.{MayClean}
use Rattle.snapshot_files.proofs.Leavers.{chunk_stays, manifest_stays}

-- each manifest that is left was there
pub names_cleaned : (m c : Files) → MayClean m m c → NamesManifests c (keys m)
names_cleaned m c may = record {
  once = names_differ m;
  each = λ key is there. there_among m (manifest_path key) (subst (λ (o : Option (List ℕ)). IsSome o) (manifest_stays m c may key is) there);
}

-- the chunks' files are those that were there
pub digests_cleaned : (m c : Files) (digests : List Digest32) → MayClean m m c → ListsDigests m digests → ListsDigests c digests
digests_cleaned m c digests may lists = record {
  rising = lists.rising;
  each = lists.each;
  exactly = λ d is. (
    λ has. subst (λ (o : Option (List ℕ)). IsSome o) (sym (chunk_stays m c may d.0)) ((lists.exactly d is).0 has),
    λ there. (lists.exactly d is).1 (subst (λ (o : Option (List ℕ)). IsSome o) (chunk_stays m c may d.0) there),
  );
}
