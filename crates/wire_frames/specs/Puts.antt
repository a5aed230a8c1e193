-- Frames that are put into a sink, by what it has taken before and after.
use Rattle.std.specs.Prelude.{ℕ, List, ◌++◌, Option, Result, is_ok}
use Rattle.port_traits.specs.Bytes.{Writes, WritesCounted}
use Rattle.wire_frames.specs.Frames.{frame}

module _ {K : Type 0} (taken : K → Option (List ℕ)) where
  -- the frame whose body is the head and then the rest, whole where the call did not fail
  abbrev pub PutsBody : {A E : Type 0} → K → K → List ℕ → List ℕ → Result A E → Type 0
  PutsBody old new head rest result = Writes (taken old) (taken new) (frame (head ++ rest)) (is_ok result)

  -- the same, with a count of the bytes before and after
  abbrev pub PutsBodyCounted : {A E : Type 0} → K → K → ℕ → ℕ → List ℕ → List ℕ → Result A E → Type 0
  PutsBodyCounted old new before after head rest result = WritesCounted (taken old) (taken new) before after (frame (head ++ rest)) (is_ok result)
