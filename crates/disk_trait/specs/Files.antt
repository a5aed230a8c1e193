-- A map from names to bytes: what a disk holds, as it reads or as a crash leaves it.
use Rattle.std.specs.Prelude.{◌≡◌, ◌≢◌, ◌<◌, ℕ, List, Option, Some, None, length}
use Rattle.std.specs.Ordering.{nat_cmp}
use Rattle.std.specs.Cmp.Lexicographic.{slice_cmp}
use Rattle.std.specs.FinMap.{FinMap, get, insert, remove}

abbrev pub Files : Type 0
Files = FinMap (slice_cmp nat_cmp) (List ℕ)

-- what stands at a name
abbrev pub at : Files → List ℕ → Option (List ℕ)
at files name = get files name

-- with these bytes at the name, or with nothing there
abbrev pub placed : Files → List ℕ → Option (List ℕ) → Files
placed files name None = remove files name
placed files name (Some bytes) = insert files name bytes

-- What stood at `from` stands at `to`, and nothing at `from`; where nothing stood at `from`, nothing stands at `to`.
abbrev pub renamed : Files → List ℕ → List ℕ → Files
renamed files from to = placed (remove files from) to (get files from)

-- the same at every other name
abbrev pub SameBut : List ℕ → Files → Files → Type 0
SameBut name old new = (other : List ℕ) → other ≢ name → get new other ≡ get old other

-- each name has at most 255 bytes
abbrev pub HasShortNames : Files → Type 0
HasShortNames files = (name : List ℕ) → 255 < length name → get files name ≡ None
