-- What the code finds at a lane, and what a changed session leaves.
use Rattle.std.proofs.Common.{◌≡◌, ◌≢◌, true, ⊎_elim, ℕ, zero, suc, ◌<◌, length, get_or, set, map, List, [], ◌∷◌, refl, sym, ap, ◌∙◌, arith}
use Rattle.std.proofs.lemmas.Bool.{cases_eq}
use Rattle.std.proofs.lemmas.List.{get_or-set_same, get_or-set_other, map-set, length-map, get_or_default}
use Rattle.store_files.specs.Archive.{Snapshot}
use Rattle.store_model.specs.Store as model
use Rattle.store_model.specs.Store.{Store, session, with_session}
use Rattle.wire_commands.specs.declared.command.Command.TheVariants.{Abort, CloseReader}
use Rattle.store_history.specs.declared.act.Act.{Act}
use Rattle.store_history.specs.declared.act.Act.TheVariants.{Plain}
use Rattle.store_history.specs.Legal as plain
use Rattle.core_state.specs.Closing.{closes}
use Rattle.core_state.specs.declared.kept.Session.{Session}
use Rattle.core_state.specs.declared.kept.Session.TheVariants.{Idle, Writer, Reader}
use Rattle.core_state.specs.declared.kept.Writing.{Writing}
use Rattle.restore_reader.specs.Session.{Reading}
use Rattle.core_state.specs.Shown.{shown_session, shown_writer, shown_reader}

pub by_lane : (i lane : ℕ) (P : Type 0) → (i ≡ lane → P) → (i ≢ lane → P) → P
by_lane i lane P same other = ⊎_elim same other (cases_eq i lane)

-- ---- lanes of the model

pub session_same : (s : Store) (lane : ℕ) (x : model.Session) → lane < length s.sessions → session (with_session s lane x) lane ≡ x
session_same s lane x lt = get_or-set_same s.sessions lane x model.none lt

pub session_other : (s : Store) (lane : ℕ) (x : model.Session) (i : ℕ) → i ≢ lane → session (with_session s lane x) i ≡ session s i
session_other s lane x i ne = get_or-set_other s.sessions lane i x model.none ne

-- what a session after a change of a lane's is
pub changed : (s : Store) (lane : ℕ) (x : model.Session) (i : ℕ) (y : model.Session) (P : Type 0) → lane < length s.sessions → session (with_session s lane x) i ≡ y
    → (i ≡ lane → x ≡ y → P) → (i ≢ lane → session s i ≡ y → P) → P
changed s lane x i y P lt is here there = by_lane i lane P
    (λ e. here e (sym (session_same s lane x lt) ∙ ap (session (with_session s lane x)) (sym e) ∙ is))
    (λ ne. there ne (sym (session_other s lane x i ne) ∙ is))

pub writers_same : (v w : model.Writer) → model.writer v ≡ model.writer w → v ≡ w
writers_same v w e = cc

pub no_writer_none : (w : model.Writer) → model.none ≡ model.writer w → ⊥
no_writer_none w e = cc

pub no_reader_none : (r : model.Reader) → model.none ≡ model.reader r → ⊥
no_reader_none r e = cc

pub no_writer_reader : (w : model.Writer) (r : model.Reader) → model.reader r ≡ model.writer w → ⊥
no_writer_reader w r e = cc

pub no_reader_writer : (w : model.Writer) (r : model.Reader) → model.writer w ≡ model.reader r → ⊥
no_reader_writer w r e = cc

-- ---- what is kept of them

at_map : (ss : List Snapshot) (xs : List model.Session) (i : ℕ) → get_or (map (shown_session ss) xs) i Idle ≡ shown_session ss (get_or xs i model.none)
at_map ss [] i = refl
at_map ss (x ∷ xs) zero = refl
at_map ss (x ∷ xs) (suc i) = at_map ss xs i

pub shown_set : (ss : List Snapshot) (s : Store) (lane : ℕ) (x : model.Session) → map (shown_session ss) (with_session s lane x).sessions ≡ set (map (shown_session ss) s.sessions) lane (shown_session ss x)
shown_set ss s lane x = map-set (shown_session ss) s.sessions lane x

-- what the code finds at a lane
pub at_lane : (items : List Session) (s : Store) (lane : ℕ) (found : Session) → items ≡ map (shown_session s.snapshots) s.sessions → length s.sessions ≡ 64 → lane < 64 → found ≡ get_or items lane found
    → found ≡ shown_session s.snapshots (session s lane)
at_lane items s lane found shown lanes lt is =
    let ss = s.snapshots in
    let within : lane < length (map (shown_session ss) s.sessions) = omega (arith, length-map s.sessions (shown_session ss), lanes, lt) in
    is ∙ ap (λ x. get_or x lane found) shown ∙ get_or_default (map (shown_session ss) s.sessions) lane found Idle within ∙ at_map ss s.sessions lane

-- an act that ends the session of the store ends the one that is kept of it
shown_closes : (ss : List Snapshot) (act : Act) (x : model.Session) → plain.closes act x ≡ true → closes act (shown_session ss x) ≡ true
shown_closes ss (Plain Abort) (model.writer w) e = refl
shown_closes ss (Plain CloseReader) (model.reader r) e = refl
shown_closes ss act x e = cc

pub closes_found : (items : List Session) (s : Store) (lane : ℕ) (act : Act) → items ≡ map (shown_session s.snapshots) s.sessions → plain.closes act (session s lane) ≡ true → closes act (get_or items lane Idle) ≡ true
closes_found items s lane act shown e = ap (λ x. closes act (get_or x lane Idle)) shown ∙ ap (closes act) (at_map s.snapshots s.sessions lane) ∙ shown_closes s.snapshots act (session s lane) e

shows_writer : (ss : List Snapshot) (x : model.Session) (w : Writing) → shown_session ss x ≡ Writer w → (v : model.Writer) × (x ≡ model.writer v) × (shown_writer v ≡ w)
shows_writer ss model.none w e = cc
shows_writer ss (model.writer v) w e = (v, refl, writings v w e)
  where
    writings : (v : model.Writer) (w : Writing) → Writer (shown_writer v) ≡ Writer w → shown_writer v ≡ w
    writings v w e = cc
shows_writer ss (model.reader r) w e = cc

-- the lane's writer, of which the code keeps this
pub writer_found : (s : Store) (lane : ℕ) (found : Session) (w : Writing) → found ≡ shown_session s.snapshots (session s lane) → found ≡ Writer w → (v : model.Writer) × (session s lane ≡ model.writer v) × (shown_writer v ≡ w)
writer_found s lane found w is e = shows_writer s.snapshots (session s lane) w (sym is ∙ e)

shows_reader : (ss : List Snapshot) (x : model.Session) (r : Reading) → shown_session ss x ≡ Reader r → (v : model.Reader) × (x ≡ model.reader v) × (shown_reader ss v ≡ r)
shows_reader ss model.none r e = cc
shows_reader ss (model.writer w) r e = cc
shows_reader ss (model.reader v) r e = (v, refl, readings v r e)
  where
    readings : (v : model.Reader) (r : Reading) → Reader (shown_reader ss v) ≡ Reader r → shown_reader ss v ≡ r
    readings v r e = cc

-- the lane's reader
pub reader_found : (s : Store) (lane : ℕ) (found : Session) (r : Reading) → found ≡ shown_session s.snapshots (session s lane) → found ≡ Reader r → (v : model.Reader) × (session s lane ≡ model.reader v) × (shown_reader s.snapshots v ≡ r)
reader_found s lane found r is e = shows_reader s.snapshots (session s lane) r (sym is ∙ e)
