-- What a lane's read gives.
use Rattle.std.specs.Prelude.{ℕ, ◌≡◌, ◌<◌, ◌≤◌, ◌+◌, ◌^◌, List, [], length, Option, IfSome}
use Rattle.port_traits.specs.Bytes.{TakesFrom}
use Rattle.port_traits.specs.Faults.{Rose}
use Rattle.wire_frames.specs.Frames.{fed}
use Rattle.lane.specs.declared.input.Input.{Input}
use Rattle.lane.specs.declared.input.Taken.{Taken}
use Rattle.lane.specs.declared.input.Taken.TheVariants.{More, End, Fault, TooLong, NoMemory}

-- what waits to be answered is all that was taken behind the front
abbrev pub IsWhole : Input → Type 0
IsWhole input = (input.cutter).offset + length (input.cutter).bytes ≡ input.taken

-- as long as fewer than five bytes of a frame are held, this many more are five at most
abbrev pub AsksFew : Input → ℕ → Type 0
AsksFew input size = IsWhole input → length (input.cutter).bytes < 5 → length (input.cutter).bytes + size ≤ 5

-- this piece was fed
pub record Feeds (old new : Input) (piece : List ℕ) : Type 0 where
  pub fed_is : new.cutter ≡ fed old.cutter piece
  pub front : new.front ≡ old.front
  pub taken : new.taken ≡ old.taken + length piece

-- there is no memory for this piece
pub record Drops (old new : Input) (piece : List ℕ) : Type 0 where
  pub front : new.front ≡ old.front
  pub taken : new.taken ≡ old.taken + length piece
  pub many : 5 < length (old.cutter).bytes + length piece

-- nothing was taken
pub record Stays (old new : Input) : Type 0 where
  pub cutter : new.cutter ≡ old.cutter
  pub front : new.front ≡ old.front
  pub taken : new.taken ≡ old.taken

-- a piece came from the source, and was fed
pub record TakesMore (left left' : Option (List ℕ)) (old new : Input) : Type 0 where
  pub piece : List ℕ
  pub some : 0 < length piece
  pub feeds : Feeds old new piece
  pub took : TakesFrom left left' piece

-- a piece came for which there is no memory, and with it more than five bytes of a frame
pub record TakesInVain (left left' : Option (List ℕ)) (old new : Input) : Type 0 where
  pub piece : List ℕ
  pub drops : Drops old new piece
  pub took : TakesFrom left left' piece
  pub known : IsWhole old → 5 ≤ length (old.cutter).bytes

pub record TakesNothing (left left' : Option (List ℕ)) (old new : Input) : Type 0 where
  pub stays : Stays old new
  pub took : TakesFrom left left' []
  pub nothing : IfSome left (λ xs. xs ≡ [])

pub record TakesTooLong (left left' : Option (List ℕ)) (old new : Input) : Type 0 where
  pub stays : Stays old new
  pub same : left' ≡ left
  pub all : old.taken ≡ 2 ^ 40

abbrev pub Takes : Option (List ℕ) → Option (List ℕ) → Input → Input → Taken → Type 0
Takes left left' old new More = TakesMore left left' old new
Takes left left' old new End = TakesNothing left left' old new
Takes left left' old new Fault = Stays old new
Takes left left' old new TooLong = TakesTooLong left left' old new
Takes left left' old new NoMemory = TakesInVain left left' old new

-- a piece was fed, or there is no memory for it
abbrev pub IsFed : Input → Input → List ℕ → Taken → Type 0
IsFed old new piece More = Feeds old new piece
IsFed old new piece NoMemory = Drops old new piece
IsFed old new piece _ = ⊥

-- The source's count of faults never falls, and it failed only where the count rose.
abbrev pub IsFault : ℕ → ℕ → Taken → Type 0
IsFault before now Fault = (before ≤ now) × Rose before now
IsFault before now _ = before ≤ now
