-- What an act of a lane finds: what is kept of the lane, and of the store as a whole.
use Rattle.std.specs.Prelude.{ℕ, List}
use Rattle.lock_book.specs.Locks.{Locks}
use Rattle.core_state.specs.declared.indexes.Indexes.{Indexes}
use Rattle.core_state.specs.declared.kept.Listed.{Listed}
use Rattle.core_state.specs.declared.kept.Session.{Session}
use Rattle.core_state.specs.declared.parts.Parts.{Parts}
use Rattle.core_state.specs.Indexed.{row_at}
use Rattle.core_state.specs.Wanted.{session_at}

-- the lane, its session, what it keeps of indexes, the finished snapshots, and who holds what
pub record KeptAt : Type 0 where
  pub lane : ℕ
  pub session : Session
  pub row : Indexes
  pub catalogue : List Listed
  pub locks : Locks

abbrev pub kept_at : {D : Type 0} → Parts D → ℕ → KeptAt
kept_at parts lane =
    record { lane = lane; session = session_at parts lane; row = row_at parts lane; catalogue = parts.catalogue.listed; locks = parts.locks }
