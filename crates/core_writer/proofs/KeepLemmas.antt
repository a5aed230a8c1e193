-- A writer's session when a file of it was pending: as before, or with the file.
use Rattle.std.proofs.Common.{length, ◌≡◌, ◌<◌, ℕ, true, List, [], ◌∷◌, Option, Some, None, Ok, get_or, set, refl, sym, ap, ap₂, ◌∙◌}
use Rattle.std.proofs.lemmas.List.{get_or_default, set-get_or}
use Rattle.std.specs.List.{AllByRecursion}
use Rattle.store_types.specs.declared.names.SnapshotKey.{SnapshotKey}
use Rattle.store_files.specs.Archive.{File}
use Rattle.store_model.specs.Store as model
use Rattle.store_model.specs.Store.{Begun, Store, session}
use Rattle.store_files.specs.Folder.{file_path}
use Rattle.backup_session.specs.Session as rows
use Rattle.backup_session.specs.Session.{settled, held, kept}
use Rattle.backup_session.specs.Shown.{IsOpen, Shows, shown}
use Rattle.core_state.specs.declared.kept.StoredFile.{StoredFile}
use Rattle.core_state.specs.declared.kept.Session.{Session}
use Rattle.core_state.specs.declared.kept.Session.TheVariants.{Idle, Writer}
use Rattle.core_state.specs.Closing.{is_writer}
use Rattle.core_state.specs.Wanted.{want_writer}
use Rattle.core_state.proofs.Commanding.{is_writing}
use Rattle.core_state.specs.declared.kept.Writing.{Writing}
use Rattle.core_state.specs.Holds.{IsBegun, IsSound}
use Rattle.core_state.specs.Shown.{shown_file, shown_files, shown_writer}
use Rattle.core_writer.specs.Uploaded.{insert_stored}
use Rattle.core_writer.specs.Pending.{grown}
use Rattle.core_writer.proofs.GrownLemmas.{shown_insert}

-- ---- as before

-- what was found at the lane stands there
pub found_stays : {A : Type 0} (items : List A) (lane : ℕ) (found : A) → found ≡ get_or items lane found → set items lane found ≡ items
found_stays items lane found at = ap (set items lane) at ∙ set-get_or items lane found

-- what was found at the lane is its writer
pub found_writer : (items : List Session) (lane : ℕ) (found : Session) (w : Writing) → lane < length items → found ≡ get_or items lane found → want_writer (get_or items lane Idle) ≡ Ok w → found ≡ Writer w
found_writer items lane found w lt at wants = at ∙ get_or_default items lane found Idle lt ∙ is_writing (get_or items lane Idle) w wants

-- what is found twice is the same
pub found_again : (items : List Session) (lane : ℕ) (found again : Session) → lane < length items → found ≡ get_or items lane found → again ≡ get_or items lane again → again ≡ found
found_again items lane found again within at at2 = at2 ∙ get_or_default items lane again found within ∙ sym at

-- the lane has the writer that was found
pub found_at : (items : List Session) (lane : ℕ) (found : Session) (w : Writing) → lane < length items → found ≡ get_or items lane found → found ≡ Writer w → get_or items lane Idle ≡ Writer w
found_at items lane found w lt at is = sym (at ∙ get_or_default items lane found Idle lt) ∙ is

-- or the other way round
pub found_wants : (items : List Session) (lane : ℕ) (found : Session) (w : Writing) → lane < length items → found ≡ get_or items lane found → found ≡ Writer w → want_writer (get_or items lane Idle) ≡ Ok w
found_wants items lane found w lt at is = ap want_writer (sym (at ∙ get_or_default items lane found Idle lt) ∙ is)

-- so it has one
pub found_writes : (items : List Session) (lane : ℕ) (found : Session) (w : Writing) → lane < length items → found ≡ get_or items lane found → want_writer (get_or items lane Idle) ≡ Ok w → is_writer found ≡ true
found_writes items lane found w lt at wants = ap is_writer (found_writer items lane found w lt at wants)

are_open : (pool : List (List ℕ)) (bs : List Begun) → AllByRecursion (IsBegun pool) bs → AllByRecursion IsOpen bs
are_open pool [] h = tt
are_open pool (b ∷ bs) h = ((h.0).is_open, are_open pool bs h.1)

-- the code's session shows the lane's writer
pub shows_found : (s : Store) (lane : ℕ) (w : model.Writer) (found : Writing) → IsSound s → session s lane ≡ model.writer w → shown_writer w ≡ found → Shows (found.session).writer w
shows_found s lane w found h at is = record { same = ap (λ x. (x.session).writer) (sym is); begun = are_open w.pool w.begun (h.writers lane w at).begun }

key_shown : (w : model.Writer) → (shown w).key ≡ w.key
unfolding shown
key_shown w = refl

-- the file that was made of a name
pub file_is : (w : model.Writer) (found : Writing) (new : File) (file : StoredFile) (key : SnapshotKey) → shown_writer w ≡ found → key ≡ ((found.session).writer).key → file.name ≡ new.name → file.path ≡ file_path key new.name → file ≡ shown_file w.key new
file_is w found new file key is key_is name path =
    let made : List ℕ → List ℕ → StoredFile = λ n p. record { name = n; path = p } in
    ap₂ made name (path ∙ ap (λ k. file_path k new.name) (key_is ∙ ap (λ x. ((x.session).writer).key) (sym is) ∙ key_shown w))

-- what is kept shows the writer with the file
pub shown_with : (w after : model.Writer) (new : File) (begun : List Begun) (found : Writing) (file : StoredFile) (x : rows.Writing) (mid left : rows.Session) (files : List StoredFile)
    → shown_writer w ≡ found → after ≡ grown w new begun → file ≡ shown_file w.key new → mid ≡ held (found.session).writer x → Shows x after → left ≡ kept mid → files ≡ insert_stored file found.files
    → Writer (record { session = left; files = files }) ≡ Writer (shown_writer after)
shown_with w after new begun found file x mid left files is after_is named mid_is shows left_is files_is =
    let made : rows.Session → List StoredFile → Session = λ y fs. Writer (record { session = y; files = fs }) in
    ap₂ made (left_is ∙ ap kept mid_is ∙ ap settled shows.same)
    (files_is ∙ ap₂ insert_stored named (ap (λ v. v.files) (sym is)) ∙ sym (shown_insert w.key new w.files) ∙ ap (λ v. shown_files v.key v.files) (sym after_is))

-- what is pending
pending_or : rows.Writing → Option rows.Writing → rows.Writing
pending_or x (Some y) = y
pending_or x None = x

pub held_same : (x a b : rows.Writing) → held x a ≡ held x b → a ≡ b
unfolding pending_or
held_same x a b e = ap (λ (s : rows.Session). pending_or x s.pending) e
