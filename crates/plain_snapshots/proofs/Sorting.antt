-- Snapshots come to their places one by one, the last first.
use Rattle.std.proofs.Common.{◌≡◌, List, [], ◌∷◌, ◌++◌, refl, ap}
use Rattle.store_files.specs.Archive.{Snapshot}
use Rattle.store_model.specs.Store.{insert_snapshot}
use Rattle.store_model.specs.Load.{in_order}

-- these among snapshots that are in order
abbrev pub placed : List Snapshot → List Snapshot → List Snapshot
placed [] sorted = sorted
placed (x ∷ xs) sorted = insert_snapshot x (placed xs sorted)

pub placed_last : (xs : List Snapshot) (x : Snapshot) (sorted : List Snapshot) → placed (xs ++ x ∷ []) sorted ≡ placed xs (insert_snapshot x sorted)
placed_last [] x sorted = refl
placed_last (y ∷ ys) x sorted = ap (insert_snapshot y) (placed_last ys x sorted)

pub placed_all : (xs : List Snapshot) → placed xs [] ≡ in_order xs
unfolding in_order
placed_all [] = refl
placed_all (y ∷ ys) = ap (insert_snapshot y) (placed_all ys)
