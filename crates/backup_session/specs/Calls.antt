-- What each call of a writer that may be refused, or may want memory, gives and leaves.
use Rattle.std.specs.Prelude.{◌≡◌, ℕ, List, Result, Ok, Err, MatchResult, Vec}
use Rattle.std.specs.declared.alloc.Global.{Global}
use Rattle.store_types.specs.declared.names.Digest32.{Digest32}
use Rattle.store_types.specs.declared.refusal.Refusal.{Refusal}
use Rattle.blob_codec.specs.Blob.{blob as blob_text}
use Rattle.store_model.specs.Store.{Writer}
use Rattle.store_model.specs.WriterCalls as plain
use Rattle.manifest.specs.declared.facts.FileFact.{FileFact}
use Rattle.backup_session.specs.declared.state.Begun.{Begun}
use Rattle.backup_session.specs.declared.state.Pending.{Pending}
use Rattle.backup_session.specs.Indexes.{text_of}
use Rattle.backup_session.specs.Session.{Writing, Session, settled, held}
use Rattle.backup_session.specs.Steps as steps
use Rattle.backup_session.specs.Answers.{Does, DoesPlainly}
use Rattle.backup_session.specs.Kept.{HoldsBack, open_of}

-- ---- what is kept in memory

-- the answer is the step's, and the step is done
abbrev pub StateDoes : {A : Type 0} → Writing → Writing → Result A Refusal → (Writing → Result (Writing × A) Refusal) → Type 0
StateDoes old new result step = Does (λ a. a) (λ w. w) old new result (step old)

-- a fixed index is begun
abbrev pub StateBeginsFixed : Writing → Writing → List ℕ → ℕ → ℕ → ℕ → Result ℕ Refusal → Type 0
StateBeginsFixed old new name size chunk_size moment result = StateDoes old new result (λ w. steps.new_fixed w name size chunk_size moment)

-- the index is as it is said to be, and the answer is its file's text and what a manifest lists of it; or the refusal
abbrev pub TellsClosed : Begun → ℕ → ℕ → Digest32 → Result (Vec ℕ Global × FileFact) Refusal → Type 0
TellsClosed b count size csum told = MatchResult told
    (λ closed. (steps.want_close b.index count size csum ≡ Ok tt) × (closed.0.items ≡ text_of b.index) × (closed.1 ≡ steps.fact_of (open_of b)))
    (λ refusal. steps.want_close b.index count size csum ≡ Err refusal)

-- an index is closed, and its file held back
abbrev pub StateCloses : Writing → Writing → ℕ → ℕ → ℕ → Digest32 → Result (Vec ℕ Global × Pending) Refusal → Type 0
StateCloses old new number count size csum result =
    HoldsBack (λ (a : Vec ℕ Global × Pending). a.0.items) (λ (a : Vec ℕ Global × Pending). a.1) old new result (steps.close_index old number count size csum)

-- a blob is taken, and its file held back
abbrev pub StateTakesBlob : Writing → Writing → List ℕ → List ℕ → Result Pending Refusal → Type 0
StateTakesBlob old new name text result = HoldsBack (λ (p : Pending). tt) (λ (p : Pending). p) old new result (steps.blob old name text)

-- ---- a session

-- the answer is the step's, and the step is done, with no file pending
abbrev pub Settles : {A : Type 0} → Session → Session → Result A Refusal → (Writing → Result (Writing × A) Refusal) → Type 0
Settles old new result step = Does (λ a. a) settled old new result (step old.writer)

-- so it is of each plain writer that the session shows
abbrev pub Mirrors : {A : Type 0} → Session → Session → Result A Refusal → (Writer → Result (Writer × A) Refusal) → Type 0
Mirrors old new result step = DoesPlainly (λ a. a) settled old new result step

-- a fixed index is begun
abbrev pub BeginsFixed : Session → Session → List ℕ → ℕ → ℕ → ℕ → Result ℕ Refusal → Type 0
BeginsFixed old new name size chunk_size moment result = Settles old new result (λ w. steps.new_fixed w name size chunk_size moment)

abbrev pub BeginsFixedPlainly : Session → Session → List ℕ → ℕ → ℕ → ℕ → Result ℕ Refusal → Type 0
BeginsFixedPlainly old new name size chunk_size moment result = Mirrors old new result (λ w. plain.new_fixed w name size chunk_size moment)

-- an index is closed, and its file is pending
abbrev pub Closes : Session → Session → ℕ → ℕ → ℕ → Digest32 → Result (Vec ℕ Global) Refusal → Type 0
Closes old new number count size csum result =
    Does (λ (text : Vec ℕ Global). text.items) (held old.writer) old new result (steps.close_index old.writer number count size csum)

abbrev pub ClosesPlainly : Session → Session → ℕ → ℕ → ℕ → Digest32 → Result (Vec ℕ Global) Refusal → Type 0
ClosesPlainly old new number count size csum result =
    DoesPlainly (λ (text : Vec ℕ Global). text.items) (held old.writer) old new result (λ w. plain.close_index w number count size csum)

-- a blob is taken, and its file is pending
abbrev pub TakesBlob : Session → Session → List ℕ → List ℕ → Result (Unit {0}) Refusal → Type 0
TakesBlob old new name text result = Does (λ u. u) (held old.writer) old new result (steps.blob old.writer name text)

-- whatever data the text is of
abbrev pub TakesBlobPlainly : Session → Session → List ℕ → List ℕ → Result (Unit {0}) Refusal → Type 0
TakesBlobPlainly old new name text result =
    (contents : List ℕ) → text ≡ blob_text contents → DoesPlainly (λ u. u) (held old.writer) old new result (λ w. plain.put_data w name contents)
