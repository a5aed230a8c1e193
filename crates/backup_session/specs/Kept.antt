-- What a session keeps in memory.
use Rattle.std.specs.Prelude.{◌≡◌, ℕ, ◌<◌, ◌≤◌, Bool, false, List, [], ◌∷◌, map, length, Option, Some, None, Result, Ok, IsOk, MatchResult}
use Rattle.std.specs.List.{list_any, remove}
use Rattle.std.specs.Str.{bytes_eq}
use Rattle.store_types.specs.Names.{IsKey, name_lt}
use Rattle.store_types.specs.declared.refusal.Refusal.{Refusal}
use Rattle.blob_codec.specs.Blob.{data_of}
use Rattle.manifest.specs.declared.facts.FileFact.{FileFact}
use Rattle.backup_session.specs.declared.state.Begun.{Begun}
use Rattle.backup_session.specs.declared.state.Pending.{Pending}
use Rattle.backup_session.specs.Session.{Pool, length_at, Open, Writing, Session, StopsBy, settled, held}

abbrev pub open_of : Begun → Open
open_of b = record { number = b.number; name = b.name; index = b.index }

abbrev pub opens_of : List Begun → List Open
opens_of begun = map open_of begun

-- one of these indexes has the name
abbrev pub among_begun : List ℕ → List Begun → Bool
among_begun name begun = list_any (λ b. bytes_eq b.name name) begun

-- at the place stands a file more than before
abbrev pub IsInsertedAt : List FileFact → List FileFact → ℕ → Type 0
IsInsertedAt old new place = (place < length new) × (remove new place ≡ old)

-- a length that is kept is a piece's
abbrev pub HasLengths : Pool → Type 0
HasLengths pool = (digest : List ℕ) (n : ℕ) → length_at pool digest ≡ Some n → (1 ≤ n) × (n ≤ 16_777_216)

-- a manifest's text that is kept is a blob's
abbrev pub HoldsBlob : Option (List ℕ) → Type 0
HoldsBlob None = Unit {0}
HoldsBlob (Some text) = IsOk (data_of text)

-- none of these files has a lesser name
abbrev pub NoneBefore : List ℕ → List FileFact → Type 0
NoneBefore name [] = Unit {0}
NoneBefore name (f ∷ fs) = (name_lt f.name name ≡ false) × NoneBefore name fs

-- in byte order of the names
abbrev pub Ascends : List FileFact → Type 0
Ascends [] = Unit {0}
Ascends (f ∷ fs) = NoneBefore f.name fs × Ascends fs

-- what is so of every writer
pub record IsWriting (w : Writing) : Type 0 where
  pub key : IsKey w.key
  pub lengths : HasLengths w.pool
  pub begun : length w.begun ≤ 16
  pub files : Ascends w.files
  pub manifest : HoldsBlob w.manifest

-- ---- the pending file is among the files already

-- without it
abbrev pub before : Pending → Writing → Writing
before p w = record w { files = remove w.files p.place }

-- the index that became the file is not open any more
abbrev pub left_of : Option ℕ → List Open → List Open
left_of None begun = begun
left_of (Some place) begun = remove begun place

abbrev pub text_of : Option (List ℕ) → Option (List ℕ) → Option (List ℕ)
text_of None old = old
text_of (Some text) old = Some text

-- with it
abbrev pub after : Pending → Writing → Writing
after p w = record w { begun = left_of p.closes w.begun; manifest = text_of p.manifest w.manifest }

abbrev pub session_of : Option Pending → Writing → Session
session_of None w = settled w
session_of (Some p) w = held (before p w) (after p w)

-- the places are there, and a manifest's text is a blob's
abbrev pub IsClosing : Option ℕ → List Open → Type 0
IsClosing None begun = Unit {0}
IsClosing (Some place) begun = place < length begun

abbrev pub IsPlaced : Option Pending → Writing → Type 0
IsPlaced None w = Unit {0}
IsPlaced (Some p) w = (p.place < length w.files) × IsClosing p.closes w.begun × HoldsBlob p.manifest

-- ---- what a call gives and leaves that makes a file pending

-- the step answers so; without the pending file the writer is as before, and with it as the step leaves it
pub record LeavesPending {B : Type 0} (old new : Writing) (p : Pending) (step : Result (Writing × B) Refusal) (answer : B) : Type 0 where
  pub stepped : step ≡ Ok (after p new, answer)
  pub back : before p new ≡ old
  pub placed : IsPlaced (Some p) new

abbrev pub HoldsBack : {A B : Type 0} → (A → B) → (A → Pending) → Writing → Writing → Result A Refusal → Result (Writing × B) Refusal → Type 0
HoldsBack show pending old new result step = MatchResult result (λ a. LeavesPending old new (pending a) step (show a)) (StopsBy old new step)
