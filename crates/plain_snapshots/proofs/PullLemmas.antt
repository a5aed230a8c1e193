-- Which snapshots a SYNC pulls, one by one.
use Rattle.std.proofs.Common.{◌≡◌, ℕ, ◌+◌, ◌<◌, Bool, true, false, cond, List, [], ◌∷◌, ◌++◌, map, take, filter, length, get_or, Option, Some, None, refl, sym, ap, ◌∙◌, append-nil}
use Rattle.std.specs.List.{last_or}
use Rattle.std.proofs.lemmas.List.{take-map, take_more}
use Rattle.std.proofs.lemmas.List.Elements.{filter-append}
use Rattle.store_types.specs.declared.names.SnapshotKey.{SnapshotKey}
use Rattle.store_files.specs.Archive.{Snapshot}

-- what passes a test, with one more
module _ (test : Snapshot → Bool) (xs : List Snapshot) (i : ℕ) (x : Snapshot) (below : i < length xs) (is : x ≡ get_or xs i x) where
  one_more : filter test (take (i + 1) xs) ≡ filter test (take i xs) ++ cond (test x) (x ∷ []) []
  one_more = ap (filter test) (take_more xs i x below ∙ ap (λ y. take i xs ++ y ∷ []) (sym is)) ∙ filter-append test (take i xs) (x ∷ [])

  pub kept_more : (kept new : List Snapshot) → kept ≡ filter test (take i xs) → test x ≡ true → new ≡ kept ++ x ∷ [] → new ≡ filter test (take (i + 1) xs)
  kept_more kept new so_far h pushed =
      pushed ∙ ap (λ l. l ++ x ∷ []) so_far ∙ sym (one_more ∙ ap (λ b. filter test (take i xs) ++ cond b (x ∷ []) []) h)

  pub kept_still : (kept new : List Snapshot) → kept ≡ filter test (take i xs) → test x ≡ false → new ≡ kept → new ≡ filter test (take (i + 1) xs)
  kept_still kept new so_far h same =
      same ∙ so_far ∙ sym (one_more ∙ ap (λ b. filter test (take i xs) ++ cond b (x ∷ []) []) h ∙ append-nil (filter test (take i xs)))

-- ---- the last key

abbrev pub key_of_last : Option SnapshotKey → List Snapshot → Option SnapshotKey
key_of_last o xs = last_or o (map (λ (x : Snapshot). x.key) xs)

last_pushed : (o : Option SnapshotKey) (xs : List Snapshot) (x : Snapshot) → key_of_last o (xs ++ x ∷ []) ≡ Some x.key
last_pushed o [] x = refl
last_pushed o (y ∷ ys) x = last_pushed (Some y.key) ys x

pub last_more : (xs : List Snapshot) (i : ℕ) (x : Snapshot) → i < length xs → x ≡ get_or xs i x → Some x.key ≡ key_of_last None (take (i + 1) xs)
last_more xs i x below is =
    sym (ap (key_of_last None) (take_more xs i x below ∙ ap (λ y. take i xs ++ y ∷ []) (sym is)) ∙ last_pushed None (take i xs) x)

-- the first of them, as the code takes them
pub first_told : (xs : List Snapshot) (n : ℕ) → key_of_last None (take n xs) ≡ last_or None (take n (map (λ (x : Snapshot). x.key) xs))
first_told xs n = ap (last_or None) (sym (take-map (λ (x : Snapshot). x.key) n xs))
