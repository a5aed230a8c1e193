-- What is found at names, in order, is all there is.
use Rattle.std.proofs.Common.{◌≡◌, ℕ, zero, suc, List, [], ◌∷◌, Bool, true, false, refl, ◌∙◌, arith}
use Rattle.std.specs.Cmp.{IsEquivalence, IsStrictWeakOrder}
use Rattle.std.specs.List.{All, AllPairs, filter_map}
use Rattle.std.specs.List.Sorted.{IsPermutation, IsSortedBy}
use Rattle.std.proofs.lemmas.Bool.{and_from}
use Rattle.std.proofs.lemmas.List.Sorted.{All-permutation, Contains-permutation, IsPermutation-map, ranks_by, sorted_far}
use Rattle.std.proofs.lemmas.Map.Keys.{IsDistinct-IsPermutation, IsDistinct-from_apart, apart_from_distinct}
use Rattle.disk_trait.specs.Files.{Files}
use Rattle.store_types.specs.KeyOrder.{key_cmp_total, same_key_equiv}
use Rattle.store_types.specs.Names.{key_cmp, key_lt, same_key}
use Rattle.store_model.proofs.Insertions.{lt_back}
use Rattle.snapshot_files.specs.Scanned.{FoundSnapshot, IsInOrder, Lists, NamesManifests, found_lt, found_named, found_rise, folder_names}
use Rattle.snapshot_files.proofs.Listing.{Apart, Stands, keys_of, all_named, each_stands, all_apart, all_found, found_there, folders_differ, manifest_among, pairs_tail}

-- ---- no two have one key

abbrev same_found : FoundSnapshot → FoundSnapshot → Bool
same_found x y = same_key y.key x.key

flips_by : IsEquivalence same_key → (x y : FoundSnapshot) → same_found x y ≡ same_found y x
flips_by e x y = e.symm y.key x.key

flips : (x y : FoundSnapshot) → same_found x y ≡ same_found y x
flips = flips_by same_key_equiv

still_apart : (xs ys : List FoundSnapshot) → IsPermutation xs ys → AllPairs Apart xs → AllPairs Apart ys
still_apart xs ys same differ i j d lt within =
    apart_from_distinct same_found ys i j d (IsDistinct-IsPermutation same_found flips xs ys same (IsDistinct-from_apart same_found xs differ)) lt within

-- ---- in order

by_keys : IsStrictWeakOrder found_lt
by_keys = ranks_by key_cmp_total (λ (x : FoundSnapshot). x.key)

abbrev NotAfter : FoundSnapshot → FoundSnapshot → Type 0
NotAfter x y = found_lt y x ≡ false

none_after : (ys : List FoundSnapshot) → IsSortedBy found_lt ys → AllPairs NotAfter ys
none_after ys up i j d lt within = sorted_far found_lt by_keys ys up i j d (omega (arith, lt)) within

rises : (ys : List FoundSnapshot) → AllPairs NotAfter ys → AllPairs Apart ys → found_rise ys ≡ true
rises [] up differ = refl
rises (x ∷ []) up differ = refl
rises (x ∷ y ∷ ys) up differ =
    let not_after : key_lt y.key x.key ≡ false = up zero (suc zero) x (omega arith) (omega arith) in
    let other : same_key x.key y.key ≡ false = flips y x ∙ differ zero (suc zero) x (omega arith) (omega arith) in
    and_from (key_lt x.key y.key) (found_rise (y ∷ ys)) (lt_back key_cmp key_cmp_total y.key x.key not_after other)
    (rises (y ∷ ys) (pairs_tail NotAfter x (y ∷ ys) up) (pairs_tail Apart x (y ∷ ys) differ))

-- ---- all of them

pub all_in_order : (P : FoundSnapshot → Type 0) (xs ys : List FoundSnapshot) → IsInOrder xs ys → All P xs → All P ys
all_in_order P xs ys is h = All-permutation P xs ys is.same h

-- of names among which each manifest's is, these are all snapshots
pub lists_named : (files : Files) (names : List (List ℕ)) (sorted : List FoundSnapshot) → NamesManifests files names
    → IsInOrder (filter_map (found_named files) names) sorted → Lists files sorted
lists_named files names sorted named is =
    let found = all_named files names in
    let each = all_in_order (Stands files) found sorted is (each_stands files names) in
    record {
      rising = rises sorted (none_after sorted is.rising) (still_apart found sorted is.same (all_apart files names named.once));
      each = each;
      exactly = λ key is_key. (
        λ has. found_there files sorted each key has,
        λ there.
            Contains-permutation (keys_of found) (keys_of sorted) key (IsPermutation-map (λ (x : FoundSnapshot). x.key) found sorted is.same)
            (all_found files names named key is_key there),
      );
    }

-- the names in the folders of snapshots are such
pub names_folders : (files : Files) → NamesManifests files (folder_names files)
names_folders files = record { once = folders_differ files; each = λ key is there. manifest_among key files there }
