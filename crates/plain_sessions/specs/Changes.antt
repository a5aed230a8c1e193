-- What the commands change of a writer.
use Rattle.std.specs.Prelude.{ℕ, IsTrue, ◌+◌, ◌<◌, List, [], ◌∷◌, ◌++◌, length}
use Rattle.std.specs.List.{list_any}
use Rattle.store_model.specs.Store.{Begun, Writer, Session, none, writer, reader, insert_file}
use Rattle.store_model.specs.WriterSteps.{with_pool}
use Rattle.store_model.specs.Archives.{change_first, without_first}
use Rattle.store_model.specs.WriterCalls.{has_number, with_pieces}
use Rattle.plain_sessions.specs.declared.changes.Change.{Change}
use Rattle.plain_sessions.specs.declared.changes.Change.TheVariants.{Pool, Begin, Grow, Close, Upload}

-- the first archive of this number gets these pieces
abbrev pub with_grown : ℕ → List (List ℕ) → List Begun → List Begun
with_grown number pieces begun = change_first (has_number number) (with_pieces pieces) begun

abbrev pub changed : Change → Writer → Writer
changed (Pool pieces) w = with_pool pieces.items w
changed (Begin b) w = record w { begun = w.begun ++ b ∷ [] }
changed (Grow number pieces) w = record w { begun = with_grown number pieces.items w.begun }
changed (Close number f) w = record w { begun = without_first (has_number number) w.begun; files = insert_file f w.files }
changed (Upload f) w = record w { files = insert_file f w.files }

-- the session's writer, where it is one
abbrev pub changed_in : Change → Session → Session
changed_in c none = none
changed_in c (writer w) = writer (changed c w)
changed_in c (reader r) = reader r

-- there is room for one more file
abbrev pub HasRoom : Writer → Type 0
HasRoom w = length w.files + length w.begun < 64

-- there is room for an archive that is begun and for a file, and one that is closed is open
abbrev pub FitsWriter : Change → Writer → Type 0
FitsWriter (Begin b) w = (length w.begun < 16) × HasRoom w
FitsWriter (Close number f) w = IsTrue (list_any (has_number number) w.begun)
FitsWriter (Upload f) w = HasRoom w
FitsWriter _ w = Unit {0}

abbrev pub FitsSession : Change → Session → Type 0
FitsSession c (writer w) = FitsWriter c w
FitsSession c _ = Unit {0}
