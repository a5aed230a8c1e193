-- What a lane keeps of indexes as an entry is read, and behind it.
use Rattle.disk_trait.specs.declared.disk.Disk.{Ghosts}
use Rattle.std.proofs.Common.{◌≡◌, ◌<◌, ℕ, Bool, true, false, List, length, get_or, get_or-set_same, set, Result, Ok, Err, IfErr, IfOk, IsErrAnd, refl, sym, ap, subst, ◌∙◌, arith}
use Rattle.std.proofs.lemmas.List.{get_or_default, set-get_or}
use Rattle.disk_trait.specs.Files.{Files}
use Rattle.store_types.specs.declared.names.Digest32.{Digest32}
use Rattle.store_types.specs.declared.refusal.ChunkFault.{ChunkFault}
use Rattle.store_types.specs.declared.refusal.Refusal.{Refusal}
use Rattle.store_types.specs.declared.refusal.Refusal.TheVariants.{Damaged}
use Rattle.store_types.specs.FileNames.{is_index_name}
use Rattle.wire_commands.specs.declared.reply.Reply.{Reply}
use Rattle.store_history.specs.declared.act.Act.TheVariants.{ReadChunk}
use Rattle.store_model.specs.Store.{Store, session}
use Rattle.store_stops.specs.declared.stop.Stop.{Stop}
use Rattle.store_stops.specs.declared.stop.Stop.TheVariants.{Refused, NoMemory, DiskFailed}
use Rattle.store_stops.specs.Stops.{Gives, IfRefused}
use Rattle.core_state.specs.Kept.{kept_at}
use Rattle.core_state.specs.declared.entering.Place.{Place}
use Rattle.core_state.specs.declared.indexes.Indexes.{Indexes}
use Rattle.core_state.specs.declared.indexes.Indexes.TheVariants.{Unread}
use Rattle.core_state.specs.declared.parts.Parts.{Parts}
use Rattle.core_state.specs.Commands.{keeps_row, row_stays}
use Rattle.core_state.specs.Holds.{Holds}
use Rattle.core_state.specs.Indexed.{FitsRow, FitsRows, row_at, row_in}
use Rattle.core_state.proofs.Rows.{rows_but, rows_put}
use Rattle.core_state.proofs.Sessions.{by_lane}
use Rattle.core_reader.specs.declared.entries.Turn.{Turn}
use Rattle.core_reader.specs.Entries.{IsTurn, ReadsTurn, entry_by}
use Rattle.core_reader.specs.NotesEntry.{NotesEntry, is_found, kept_by}
use Rattle.core_reader.proofs.ReadEntry.{index_there, turned_fits}
use Rattle.core_reader.proofs.ReadPart.{IsPlaced}

-- ---- what the code finds

module _ {D : Type 0} (old : Parts D) (lane : ℕ) (lt : lane < 64) where
  pub row_there : lane < length old.indexes.items
  row_there = omega (arith, old.rows, old.indexes.ok.0, lt)

  pub row_found : (found : Indexes) → found ≡ get_or old.indexes.items lane found → found ≡ row_at old lane
  row_found found here = here ∙ get_or_default old.indexes.items lane found Unread row_there

  -- a row that is as it was
  pub row_put_back : (left : Indexes) → left ≡ row_at old lane → set old.indexes.items lane left ≡ old.indexes.items
  row_put_back left same = ap (set old.indexes.items lane) same ∙ set-get_or old.indexes.items lane Unread

  row_left : (left : Indexes) → row_in (set old.indexes.items lane left) lane ≡ left
  row_left left = get_or-set_same old.indexes.items lane left Unread row_there

-- what is told of an entry beside what was found
pub ok_rowed : (found row : Indexes) (name : List ℕ) (place : ℕ) (m : Files) (q : List ℕ) (digest : Digest32) → found ≡ row → entry_by found name place m q ≡ Ok digest → entry_by row name place m q ≡ Ok digest
ok_rowed found row name place m q digest is told = ap (λ r. entry_by r name place m q) (sym is) ∙ told

pub err_rowed : {A : Type 0} (f : A → Digest32) (found row : Indexes) (name : List ℕ) (place : ℕ) (m : Files) (q : List ℕ) (e : Stop) → found ≡ row → Gives f (Err e) (entry_by found name place m q)
    → Gives {A = Digest32} (λ digest. digest) (Err e) (entry_by row name place m q)
err_rowed f found row name place m q (Refused refusal) is told = ap (λ r. entry_by r name place m q) (sym is) ∙ told
err_rowed f found row name place m q NoMemory is told = tt
err_rowed f found row name place m q DiskFailed is told = tt

-- what holds of a stop that was read before
pub err_at : {A : Type 0} (P : Stop → Type 0) (read : Result A Stop) (e : Stop) → read ≡ Err e → IfErr read P → P e
err_at P read e was h = subst (λ r. IfErr r P) was h

pub ok_at : {A : Type 0} (P : A → Type 0) (read : Result A Stop) (x : A) → read ≡ Ok x → IfOk read P → P x
ok_at P read x was h = subst (λ r. IfOk r P) was h

-- ---- what it leaves

abbrev IsNoDamage : Refusal → Type 0
IsNoDamage refusal = (digest : Digest32) (found : ChunkFault) → refusal ≡ Damaged digest found → ⊥

false_true : false ≡ true → ⊥
false_true e = cc

-- a stop that tells of no chunk
unfound_by : (stop : Stop) (result : Result Reply Stop) → IsErrAnd result (λ x. x ≡ stop) → IfRefused IsNoDamage stop → is_found result ≡ false
unfound_by stop (Ok reply) stops none = absurd stops
unfound_by stop (Err x) stops none = subst (λ (y : Stop). is_found {A = Reply} (Err y) ≡ false) (sym stops) (by_stop stop none)
  where
    by_refusal : (refusal : Refusal) → IsNoDamage refusal → is_found {A = Reply} (Err (Refused refusal)) ≡ false
    by_refusal (Damaged digest found) none = absurd (none digest found refl)
    by_refusal _ none = refl

    by_stop : (stop : Stop) → IfRefused IsNoDamage stop → is_found {A = Reply} (Err stop) ≡ false
    by_stop (Refused refusal) none = by_refusal refusal none
    by_stop NoMemory none = refl
    by_stop DiskFailed none = refl

-- and the stop of the chunk's read is the act's
pub found_by : {A : Type 0} (stop : Stop) (read : Result A Stop) (result : Result Reply Stop) → read ≡ Err stop → IsErrAnd result (λ x. x ≡ stop) → is_found result ≡ is_found read
found_by stop read (Ok reply) was stops = absurd stops
found_by {A} stop read (Err x) was stops = subst (λ (y : Stop). is_found {A = Reply} (Err y) ≡ is_found read) (sym stops) (by_stop stop ∙ ap is_found (sym was))
  where
    by_refusal : (refusal : Refusal) → is_found {A = Reply} (Err (Refused refusal)) ≡ is_found {A = A} (Err (Refused refusal))
    by_refusal (Damaged digest found) = refl
    by_refusal _ = refl

    by_stop : (stop : Stop) → is_found {A = Reply} (Err stop) ≡ is_found {A = A} (Err stop)
    by_stop (Refused refusal) = by_refusal refusal
    by_stop NoMemory = refl
    by_stop DiskFailed = refl

module _ {D : Type 0} (d : Ghosts D) (old new : Parts D) (at : Place) (name : List ℕ) (place : ℕ) (lt : at.lane < 64) where
  -- it stopped before
  pub notes_none : (stop : Stop) (result : Result Reply Stop) → IsErrAnd result (λ x. x ≡ stop) → IfRefused IsNoDamage stop → new.indexes.items ≡ old.indexes.items → NotesEntry d old new at.lane name place result
  notes_none stop result stops none same = record {
    stays = λ _. ap (λ rows. row_in rows at.lane) same;
    turns = λ found. absurd (false_true (sym (unfound_by stop result stops none) ∙ found));
  }

-- it turned to what was opened and read
module _ {D : Type 0} (d : Ghosts D) (old : Parts D) (rows : List Indexes) (at : Place) (name : List ℕ) (place : ℕ) (lt : at.lane < 64)
    (path : List ℕ) (placed : IsPlaced name (kept_at old at.lane) path) (good : is_index_name name ≡ true) (q : List ℕ) (here : q ≡ path) (found mid left : Indexes) (turn : Turn) (b : Bool)
    (is : found ≡ row_at old at.lane) (same : mid ≡ row_at old at.lane) (kept : left ≡ kept_by b turn mid) (l : rows ≡ set old.indexes.items at.lane left)
    (only : IsTurn found name place turn) (reads : d.honest old.disk → ReadsTurn found (d.content old.disk) q name turn) where
  left_is : left ≡ kept_by b turn (row_at old at.lane)
  left_is = kept ∙ ap (kept_by b turn) same

  row_is : row_in rows at.lane ≡ kept_by b turn (row_at old at.lane)
  row_is = ap (λ xs. row_in xs at.lane) l ∙ row_left old at.lane lt left ∙ left_is

  only_here : IsTurn (row_at old at.lane) name place turn
  only_here = subst (λ row. IsTurn row name place turn) is only

  reads_here : d.honest old.disk → ReadsTurn (row_at old at.lane) (d.content old.disk) path name turn
  reads_here honest = subst (λ row. ReadsTurn row (d.content old.disk) path name turn) is (subst (λ p. ReadsTurn found (d.content old.disk) p name turn) here (reads honest))

  fits_by : (s : Store) → Holds d old s → (b : Bool) → FitsRow s.snapshots (session s at.lane) (kept_by b turn (row_at old at.lane))
  fits_by s h true = turned_fits d old s at.lane name path place lt placed good h turn only_here (reads_here h.honest)
  fits_by s h false = (h.shows).indexes at.lane

  -- what the lanes keep is of their sessions
  pub row_fits : (s : Store) → Holds d old s → FitsRows s rows
  row_fits s h =
      subst (FitsRows s) (sym l)
      (rows_put s at.lane old.indexes.items left (row_there old at.lane lt) (subst (FitsRow s.snapshots (session s at.lane)) (sym left_is) (fits_by s h b)) (h.shows).indexes)

  pub row_leaves : (i : ℕ) → (i ≡ at.lane → keeps_row (ReadChunk name place) ≡ true) → row_in rows i ≡ row_at old i
  row_leaves = rows_but old rows at.lane (ReadChunk name place) left refl l

  unfound : (stop : Stop) → row_stays (Err stop) (ReadChunk name place) ≡ true → is_found {A = Reply} (Err stop) ≡ false
  unfound (Refused refusal) stays = by_refusal refusal stays
    where
      by_refusal : (refusal : Refusal) → row_stays (Err (Refused refusal)) (ReadChunk name place) ≡ true → is_found {A = Reply} (Err (Refused refusal)) ≡ false
      by_refusal (Damaged digest fault) stays = cc
      by_refusal _ stays = refl
  unfound NoMemory stays = refl
  unfound DiskFailed stays = refl

  -- where it stopped by this, the lane keeps what it kept, but by a damaged chunk
  pub row_stopped : (stop : Stop) → is_found {A = Reply} (Err stop) ≡ b → (i : ℕ) → (i ≡ at.lane → row_stays (Err stop) (ReadChunk name place) ≡ true) → row_in rows i ≡ row_at old i
  row_stopped stop told i stays =
      by_lane i at.lane (row_in rows i ≡ row_at old i)
      (λ here. subst (λ n. row_in rows n ≡ row_at old n) (sym here) (row_is ∙ ap (λ x. kept_by x turn (row_at old at.lane)) (sym told ∙ unfound stop (stays here)))) (λ other. row_leaves i (λ here. absurd (other here)))

  pub notes_kept : (new : Parts D) → new.indexes.items ≡ rows → (result : Result Reply Stop) → is_found result ≡ b → NotesEntry d old new at.lane name place result
  notes_kept new same_rows result told = record {
    stays = λ none. ap (λ xs. row_in xs at.lane) same_rows ∙ row_is ∙ ap (λ x. kept_by x turn (row_at old at.lane)) (sym told ∙ none);
    turns = λ there. (
      path,
      index_there name place (kept_at old at.lane) placed.reading path placed.reads good placed.found,
      record { turn = turn; is = ap (λ xs. row_in xs at.lane) same_rows ∙ row_is ∙ ap (λ x. kept_by x turn (row_at old at.lane)) (sym told ∙ there); only = only_here; reads = reads_here },
    );
  }
