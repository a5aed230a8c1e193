-- The ports of a check, and what was read of them.
use Rattle.std.specs.Prelude.{◌≡◌, ◌≢◌, ℕ, ◌+◌, ◌*◌, ◌^◌, ◌<◌, ◌≤◌, List, [], length, map, Option, None, Result, slice_index_or}
use Rattle.port_traits.specs.declared.source.Source as sources
use Rattle.port_traits.specs.Bytes.{TakesFrom}
use Rattle.port_traits.specs.Faults.{Rose}
use Rattle.store_history.specs.declared.port.Port.{Port}
use Rattle.replay.specs.Reading.{IsAtEnd, IsTooLong, ReadsOut, HasReadCause}
use Rattle.replay.specs.declared.reading.Unread.{Unread}

-- all of a port's bytes were read, and these are all that it held
pub record IsRead (left left' : Option (List ℕ)) (bytes : List ℕ) : Type 0 where
  pub took : TakesFrom left left' bytes
  pub ended : IsAtEnd left'
  pub within : length bytes < 2 ^ 40

module _ {S K : Type 0} (source : sources.Ghosts S) where
  -- what is left at a port, where that is told, and how often it failed
  abbrev pub left_at : List (Port S K) → ℕ → Option (List ℕ)
  left_at ports i = slice_index_or (map (λ p. source.left p.source) ports) i None

  abbrev pub faults_at : List (Port S K) → ℕ → ℕ
  faults_at ports i = slice_index_or (map (λ p. source.faults p.source) ports) i 0

  -- no sink was touched, and no count of faults fell
  pub record Keeps (old new : List (Port S K)) : Type 0 where
    pub count : length new ≡ length old
    pub sinks : map (λ p. p.sink) new ≡ map (λ p. p.sink) old
    pub later : (i : ℕ) → faults_at old i ≤ faults_at new i

  -- one port alone was read, to its end where the call did not fail
  pub record ReadsAt {A : Type 0} (place : ℕ) (old new : List (Port S K)) (tells : List ℕ → A → Type 0) (result : Result A Unread) : Type 0 where
    pub keeps : Keeps old new
    pub others : (i : ℕ) → i ≢ place → left_at new i ≡ left_at old i
    pub reads : ReadsOut (left_at old place) (left_at new place) tells result
    pub cause : HasReadCause (faults_at old place) (faults_at new place) result

  -- each second port from this one on was read to its end, and no other: these are all that they held
  pub record ReadsEach (first : ℕ) (old new : List (Port S K)) (texts : List (List ℕ)) : Type 0 where
    pub keeps : Keeps old new
    pub each : (k : ℕ) → k < length texts → IsRead (left_at old (first + 2 * k)) (left_at new (first + 2 * k)) (slice_index_or texts k [])
    pub others : (i : ℕ) → ((k : ℕ) → k < length texts → i ≢ first + 2 * k) → left_at new i ≡ left_at old i

  -- ---- why not

  pub record SomeRose (old new : List (Port S K)) : Type 0 where
    pub place : ℕ
    pub here : place < length old
    pub rose : Rose (faults_at old place) (faults_at new place)

  -- one of each second port from this one on
  pub record NthTooLong (first : ℕ) (old new : List (Port S K)) : Type 0 where
    pub nth : ℕ
    pub here : first + 2 * nth < length old
    pub long : IsTooLong (left_at old (first + 2 * nth)) (left_at new (first + 2 * nth))

  pub record SomeTooLong (old new : List (Port S K)) : Type 0 where
    pub place : ℕ
    pub here : place < length old
    pub long : IsTooLong (left_at old place) (left_at new place)
