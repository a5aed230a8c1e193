-- What an act does to a store, as far as chunks matter.
use Rattle.std.proofs.Common.{◌≡◌, ◌⊎◌, inl, ℕ, List, [], Some, refl}
use Rattle.store_types.specs.declared.names.SnapshotKey.{SnapshotKey}
use Rattle.store_files.specs.Archive.{Snapshot}
use Rattle.store_model.specs.Store.{Session, none, Writer, writer, Reader, reader, Store, session, with_session}
use Rattle.store_upkeep.specs.Safety.{In, Has, HasAppended, MayAppend, IsFinished, IsOfBase, IsPooled}
use Rattle.store_upkeep.proofs.Members.{each_session}

-- ---- one writer

-- The writer v goes on as x. What is new to be appended was sent by the act or is of its base; what was appended anew was touched by it.
pub record GoesOn (s : Store) (Sent Touched : List ℕ → Type 0) (v x : Writer) : Type 0 where
  pub start : x.start ≡ v.start
  pub base : x.base ≡ v.base
  pub keeps : (d : List ℕ) → MayAppend v d → MayAppend x d
  pub pool : (d : List ℕ) → MayAppend x d → MayAppend v d ⊎ (Sent d ⊎ IsOfBase s v d)
  pub appended : (d : List ℕ) → HasAppended x d → HasAppended v d ⊎ (MayAppend x d × Touched d)

-- a writer that begins at this moment, whose base is finished
pub record Begins (t : Store) (m : ℕ) (x : Writer) : Type 0 where
  pub start : x.start ≡ m
  pub base : (key : SnapshotKey) → x.base ≡ Some key → IsFinished t.snapshots key
  pub pool : x.pool ≡ []
  pub begun : x.begun ≡ []
  pub files : x.files ≡ []

-- the lane's session in t, as it comes from s
abbrev pub IsWriting : Store → Store → ℕ → (List ℕ → Type 0) → (List ℕ → Type 0) → ℕ → Session → Type 0
IsWriting s t m Sent Touched j y =
    (x : Writer) → y ≡ writer x → ((v : Writer) × (session s j ≡ writer v) × GoesOn s Sent Touched v x) ⊎ ((session s j ≡ none) × Begins t m x)

abbrev pub IsReading : Store → Store → ℕ → Session → Type 0
IsReading s t j y = (r : Reader) → y ≡ reader r → ((q : Reader) × (session s j ≡ reader q) × (q.key ≡ r.key)) ⊎ IsFinished t.snapshots r.key

-- ---- the snapshots

-- a running writer appended all that the snapshot has
abbrev pub IsNew : Store → Snapshot → Type 0
IsNew s x = (lane : ℕ) × (v : Writer) × (session s lane ≡ writer v) × ((d : List ℕ) → Has x.files d → HasAppended v d)

-- no writer has it as base, and no reader has it
pub record IsFree (t : Store) (key : SnapshotKey) : Type 0 where
  pub bases : (lane : ℕ) (x : Writer) → session t lane ≡ writer x → x.base ≡ Some key → ⊥
  pub readers : (lane : ℕ) (r : Reader) → session t lane ≡ reader r → r.key ≡ key → ⊥

-- ---- the whole

-- From s to t: by an act at this moment that sends and touches these chunks and forgets these snapshots.
pub record Moves (s t : Store) (m : ℕ) (Sent Touched : List ℕ → Type 0) (Gone : SnapshotKey → Type 0) : Type 0 where
  pub writers : (lane : ℕ) → IsWriting s t m Sent Touched lane (session t lane)
  pub readers : (lane : ℕ) → IsReading s t lane (session t lane)
  pub comes : (x : Snapshot) → In x t.snapshots → In x s.snapshots ⊎ IsNew s x
  pub remains : (x : Snapshot) → In x s.snapshots → In x t.snapshots ⊎ (IsFree t x.key × Gone x.key)
  pub gone : (x : Snapshot) → In x t.snapshots → Gone x.key → ⊥
  pub sent : (d : List ℕ) → Sent d → Touched d
  pub named : (d : List ℕ) → Touched d → Sent d ⊎ IsPooled s d

-- ---- what stays

pub still_writer : (s : Store) (Sent Touched : List ℕ → Type 0) (v : Writer) → GoesOn s Sent Touched v v
still_writer s Sent Touched v = record {
  start = refl;
  base = refl;
  keeps = λ d h. h;
  pool = λ d h. inl h;
  appended = λ d h. inl h;
}

pub writing_still : (s t : Store) (m : ℕ) (Sent Touched : List ℕ → Type 0) (j : ℕ) → IsWriting s t m Sent Touched j (session s j)
writing_still s t m Sent Touched j x is = inl (x, is, still_writer s Sent Touched x)

pub reading_still : (s t : Store) (j : ℕ) → IsReading s t j (session s j)
reading_still s t j r is = inl (r, is, refl)

-- nothing is touched, and no snapshot forgotten
pub record IsQuiet (Sent Touched : List ℕ → Type 0) (Gone : SnapshotKey → Type 0) : Type 0 where
  pub sent : (d : List ℕ) → Sent d → ⊥
  pub touched : (d : List ℕ) → Touched d → ⊥
  pub gone : (key : SnapshotKey) → Gone key → ⊥

pub no_writer : (x : Writer) → none ≡ writer x → ⊥
no_writer x e = cc

pub no_reader : (r : Reader) → none ≡ reader r → ⊥
no_reader r e = cc

module _ (s : Store) (m : ℕ) (Sent Touched : List ℕ → Type 0) (Gone : SnapshotKey → Type 0) where
  -- the store is as it was
  pub still : IsQuiet Sent Touched Gone → Moves s s m Sent Touched Gone
  still quiet = record {
    writers = writing_still s s m Sent Touched;
    readers = reading_still s s;
    comes = λ x h. inl h;
    remains = λ x h. inl h;
    gone = λ x h g. quiet.gone x.key g;
    sent = λ d h. absurd (quiet.sent d h);
    named = λ d h. absurd (quiet.touched d h);
  }

  -- the lane's session is another
  module _ (k : ℕ) (y : Session) where
    pub turned : IsWriting s (with_session s k y) m Sent Touched k y → IsReading s (with_session s k y) k y → ((key : SnapshotKey) → Gone key → ⊥)
        → ((d : List ℕ) → Sent d → Touched d) → ((d : List ℕ) → Touched d → Sent d ⊎ IsPooled s d) → Moves s (with_session s k y) m Sent Touched Gone
    turned writing reading none_gone sent named = record {
      writers = each_session s.sessions k y (IsWriting s (with_session s k y) m Sent Touched) writing (writing_still s (with_session s k y) m Sent Touched);
      readers = each_session s.sessions k y (IsReading s (with_session s k y)) reading (reading_still s (with_session s k y));
      comes = λ x h. inl h;
      remains = λ x h. inl h;
      gone = λ x h g. none_gone x.key g;
      sent = sent;
      named = named;
    }

  -- the lane's session ends
  pub ends_here : (k : ℕ) → IsQuiet Sent Touched Gone → Moves s (with_session s k none) m Sent Touched Gone
  ends_here k quiet = turned k none (λ x e. absurd (no_writer x e)) (λ r e. absurd (no_reader r e)) quiet.gone (λ d h. absurd (quiet.sent d h)) (λ d h. absurd (quiet.touched d h))
