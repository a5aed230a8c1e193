-- The places of a history that a seat knows for its own.
use Rattle.std.specs.Prelude.{ℕ, ◌≡◌, ◌≤◌, suc, Bool, false, List, [], ◌∷◌, map, cond, ◌==◌, ◌||◌, Option, Some, None, slice_get}
use Rattle.std.specs.List.{filter_map}
use Rattle.store_history.specs.declared.act.Event.{Event}
use Rattle.store_history.specs.History.{lane, own}

-- the events at these places
abbrev pub picked : List Event → List ℕ → List Event
picked h places = filter_map (λ i. slice_get h i) places

-- the places of a lane's events
abbrev pub places_of : ℕ → List Event → List ℕ
places_of k [] = []
places_of k (e ∷ es) = cond (lane e == k) (0 ∷ map suc (places_of k es)) (map suc (places_of k es))

abbrev pub has : List ℕ → ℕ → Bool
has [] i = false
has (m ∷ ms) i = (m == i) || has ms i

-- each is greater than the one before it, and the first is at least this
abbrev pub Rises : ℕ → List ℕ → Type 0
Rises low [] = Unit {0}
Rises low (m ∷ ms) = (low ≤ m) × Rises (suc m) ms

abbrev pub is_by : ℕ → Option Event → Bool
is_by k None = false
is_by k (Some e) = lane e == k

-- The places rise, and are just those at which the lane's events stand.
pub record AreOwn (k : ℕ) (h : List Event) (places : List ℕ) : Type 0 where
  pub rise : Rises 0 places
  pub same : (i : ℕ) → has places i ≡ is_by k (slice_get h i)

-- the events at these places are those of the lane
abbrev pub PicksOwn : Type 0
PicksOwn = (k : ℕ) (h : List Event) (places : List ℕ) → AreOwn k h places → picked h places ≡ own k h

-- every event is of this lane
abbrev pub AreOf : ℕ → List Event → Type 0
AreOf k [] = Unit {0}
AreOf k (e ∷ es) = (lane e ≡ k) × AreOf k es
