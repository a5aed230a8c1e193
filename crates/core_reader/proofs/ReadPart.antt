-- A VERIFY's read of a part of a file is the store's.
use Rattle.disk_trait.specs.declared.disk.Disk.{Ghosts}
use Rattle.std.proofs.Common.{◌≡◌, ◌<◌, ◌≤◌, ⊎_elim, ℕ, true, nat_le, nat_lt, List, length, Option, Some, None, Result, Ok, Err, IsTrue, refl, sym, ap, subst, ◌∙◌}
use Rattle.std.proofs.lemmas.Bool.{cases_lt, le-leb, lt-ltb, or_left, or_right}
use Rattle.std.specs.Option.{option_map}
use Rattle.std.specs.Result.{result_ok}
use Rattle.store_types.specs.declared.refusal.Refusal.{Refusal}
use Rattle.store_types.specs.declared.refusal.Refusal.TheVariants.{BadRange, NoFile, Unreadable}
use Rattle.store_types.specs.Chain.Refusing.{◌>>=◌}
use Rattle.store_types.specs.FileNames.{is_file_name}
use Rattle.wire_commands.specs.declared.command.Command.TheVariants.{Download}
use Rattle.wire_commands.specs.declared.reply.Reply.{Reply}
use Rattle.wire_commands.specs.declared.reply.Reply.TheVariants as replies
use Rattle.wire_commands.specs.HasText.{ReplyHasText}
use Rattle.store_model.specs.Store as model
use Rattle.store_model.specs.Store.{Store, Outcome, session, want_reader}
use Rattle.store_model.specs.ReaderSteps.{note, read_file}
use Rattle.store_model.specs.Steps.{outcome}
use Rattle.store_files.specs.Archive.{file_text}
use Rattle.restore_reader.specs.Session.{Reading}
use Rattle.snapshot_files.specs.Parts.{FillsPart, RefusesPart, part_at, part_from, part_reply}
use Rattle.snapshot_files.specs.declared.parts.FilePart.{FilePart}
use Rattle.store_stops.specs.declared.stop.Stop.{Stop}
use Rattle.core_state.specs.Kept.{KeptAt, kept_at}
use Rattle.core_state.specs.declared.parts.Parts.{Parts}
use Rattle.core_state.specs.Found.{path_in}
use Rattle.core_state.specs.Holds.{Holds, Shows}
use Rattle.store_history.specs.Replies.{answers_part, refuses_part}
use Rattle.store_stops.specs.Stops.{Gives, IfRefused}
use Rattle.store_stops.specs.declared.stop.Stop.TheVariants.{Refused, NoMemory, DiskFailed}
use Rattle.core_state.specs.Unreadables.{Asked}
use Rattle.core_state.specs.Wanted.{reader_in, session_at}
use Rattle.core_state.proofs.Commanding.{reader_shown, reader_wanted, refused_by_state}
use Rattle.core_state.proofs.Texts.{no_file_has_text, wrong_state_has_text}
use Rattle.core_reader.specs.Asked.{as_part, asked_part, place_of}
use Rattle.core_reader.proofs.Downloads.{down_absent, down_unread, part_there, step_there, stored, with_part}

-- ---- the step, which is a DOWNLOAD's without its note

abbrev given_only : Store → Outcome → Outcome
given_only s o = o >>= λ given. Ok (s, given.1)

read_as : (s : Store) (lane m : ℕ) (name : List ℕ) (offset : ℕ) → read_file s lane name offset ≡ given_only s (outcome s lane m (Download name offset))
unfolding read_file outcome
read_as s lane m name offset = refl

unnoted : (s : Store) (lane : ℕ) (r : model.Reader) (part : Result Reply Refusal) → given_only s (with_part s lane r part) ≡ (part >>= λ reply. Ok (s, reply))
unnoted s lane r (Ok reply) = refl
unnoted s lane r (Err refusal) = refl

read_unread : (s : Store) (lane : ℕ) (name : List ℕ) (offset : ℕ) (refusal : Refusal) → want_reader (session s lane) ≡ Err refusal → read_file s lane name offset ≡ Err refusal
read_unread s lane name offset refusal no_reader = read_as s lane 0 name offset ∙ ap (given_only s) (down_unread s lane 0 name offset refusal no_reader)

read_absent : {D : Type 0} (parts : Parts D) (s : Store) (lane : ℕ) (name : List ℕ) (offset : ℕ) (r : Reading) → Shows parts s → lane < 64 → reader_in (session_at parts lane) ≡ Ok r
    → is_file_name name ≡ true → path_in r.key name parts.catalogue.listed ≡ None → read_file s lane name offset ≡ Err NoFile
read_absent parts s lane name offset r shows lt reads good missing =
    let (v, at, is) = reader_shown parts s lane r shows lt reads in
    read_as s lane 0 name offset ∙ ap (given_only s) (down_absent s lane 0 name offset parts.catalogue.listed v r shows.catalogue at is good missing)

-- ---- where the file stands

-- a file of the reader's snapshot that has this name stands there
pub record IsPlaced (name : List ℕ) (k : KeptAt) (path : List ℕ) : Type 0 where
  pub reading : Reading
  pub reads : reader_in k.session ≡ Ok reading
  pub found : path_in reading.key name k.catalogue ≡ Some path

module _ (name : List ℕ) (k : KeptAt) where
  pub place_unread : (refusal : Refusal) → reader_in k.session ≡ Err refusal → place_of name k ≡ Err refusal
  unfolding place_of
  place_unread refusal no_reader = rw no_reader refl

  pub place_absent : (r : Reading) → reader_in k.session ≡ Ok r → path_in r.key name k.catalogue ≡ None → place_of name k ≡ Err NoFile
  unfolding place_of
  place_absent r at missing = rw (at, missing) refl

  pub place_there : (r : Reading) (path : List ℕ) → reader_in k.session ≡ Ok r → path_in r.key name k.catalogue ≡ Some path → place_of name k ≡ Ok path
  unfolding place_of
  place_there r path at found = rw (at, found) refl

  pub place_is : (path : List ℕ) → place_of name k ≡ Ok path → IsPlaced name k path
  place_is path e = by_reader (reader_in k.session) refl
    where
      same : (a b : List ℕ) → ◌≡◌ {A = Result (List ℕ) Refusal} (Ok a) (Ok b) → a ≡ b
      same a b e = cc

      apart : (refusal : Refusal) → ◌≡◌ {A = Result (List ℕ) Refusal} (Err refusal) (Ok path) → ⊥
      apart refusal e = cc

      by_path : (r : Reading) (o : Option (List ℕ)) → reader_in k.session ≡ Ok r → path_in r.key name k.catalogue ≡ o → IsPlaced name k path
      by_path r None at missing = absurd (apart NoFile (sym (place_absent r at missing) ∙ e))
      by_path r (Some p) at found = record { reading = r; reads = at; found = found ∙ ap (λ q. Some q) (same p path (sym (place_there r p at found) ∙ e)) }

      by_reader : (o : Result Reading Refusal) → reader_in k.session ≡ o → IsPlaced name k path
      by_reader (Ok r) at = by_path r (path_in r.key name k.catalogue) at refl
      by_reader (Err refusal) no_reader = absurd (apart refusal (sym (place_unread refusal no_reader) ∙ e))

  -- or why there is none
  pub place_refused : (P : Refusal → Type 0) → ((refusal : Refusal) → reader_in k.session ≡ Err refusal → P refusal)
      → ((r : Reading) → reader_in k.session ≡ Ok r → path_in r.key name k.catalogue ≡ None → P NoFile)
      → (refusal : Refusal) → place_of name k ≡ Err refusal → P refusal
  place_refused P unread absent refusal e = by_reader (reader_in k.session) refl
    where
      same : (a b : Refusal) → ◌≡◌ {A = Result (List ℕ) Refusal} (Err a) (Err b) → a ≡ b
      same a b e = cc

      apart : (path : List ℕ) → ◌≡◌ {A = Result (List ℕ) Refusal} (Ok path) (Err refusal) → ⊥
      apart path e = cc

      by_path : (r : Reading) (o : Option (List ℕ)) → reader_in k.session ≡ Ok r → path_in r.key name k.catalogue ≡ o → P refusal
      by_path r None at missing = subst P (same NoFile refusal (sym (place_absent r at missing) ∙ e)) (absent r at missing)
      by_path r (Some p) at found = absurd (apart p (sym (place_there r p at found) ∙ e))

      by_reader : (o : Result Reading Refusal) → reader_in k.session ≡ o → P refusal
      by_reader (Ok r) at = by_path r (path_in r.key name k.catalogue) at refl
      by_reader (Err q) no_reader = subst P (same q refusal (sym (place_unread q no_reader) ∙ e)) (unread q no_reader)

  -- a stop before the file is read
  pub place_stops : (P : Refusal → Type 0) (stop : Stop) → ((refusal : Refusal) → place_of name k ≡ Err refusal → P refusal)
      → Gives {A = List ℕ} (λ path. path) (Err stop) (place_of name k) → IfRefused P stop
  place_stops P (Refused refusal) so gives = so refusal gives
  place_stops P NoMemory so gives = tt
  place_stops P DiskFailed so gives = tt

  pub place_text : (refusal : Refusal) → place_of name k ≡ Err refusal → ReplyHasText (replies.Refused refusal)
  place_text = place_refused (λ r. ReplyHasText (replies.Refused r)) (λ r e. refused_by_state k.session r (λ q. ReplyHasText (replies.Refused q)) (λ state. wrong_state_has_text state) e)
      (λ r at missing. no_file_has_text)

  -- it tells of no file
  pub place_untold : (refusal : Refusal) → place_of name k ≡ Err refusal → (n : List ℕ) → refusal ≡ Unreadable n → ⊥
  place_untold = place_refused (λ r. (n : List ℕ) → r ≡ Unreadable n → ⊥) (λ r e. refused_by_state k.session r (λ q. (n : List ℕ) → q ≡ Unreadable n → ⊥) (λ state n is. cc) e)
      (λ r at missing n is. cc)

-- ---- the store refuses it too, or gives the part

pub read_refuses : {D : Type 0} (parts : Parts D) (s : Store) (lane : ℕ) (name : List ℕ) (offset : ℕ) → Shows parts s → lane < 64 → is_file_name name ≡ true
    → (refusal : Refusal) → place_of name (kept_at parts lane) ≡ Err refusal → read_file s lane name offset ≡ Err refusal
read_refuses parts s lane name offset shows lt good =
    place_refused name (kept_at parts lane) (λ r. read_file s lane name offset ≡ Err r)
    (λ r e. read_unread s lane name offset r (reader_wanted parts s lane r shows lt e))
    (λ r reads missing. read_absent parts s lane name offset r shows lt reads good missing)

module _ {D : Type 0} (d : Ghosts D) (old : Parts D) (s : Store) (lane : ℕ) (name path q : List ℕ) (offset : ℕ) (lt : lane < 64) (good : is_file_name name ≡ true)
    (there : IsPlaced name (kept_at old lane) path) (here : q ≡ path) (h : Holds d old s) where
  read_there : read_file s lane name offset ≡ (part_at (d.content old.disk) q offset >>= λ reply. Ok (s, reply))
  read_there =
      let r = there.reading in
      let found = there.found in
      let (v, at, is) = reader_shown old s lane r h.shows lt there.reads in
      let content = stored d old s lane 0 name path offset v r at is good h found in
      read_as s lane 0 name offset
      ∙ ap (given_only s) (step_there d old s lane 0 name path offset v r at is good h found)
      ∙ unnoted s lane (note name content v) (part_from (file_text content) offset)
      ∙ ap (λ (p : Result Reply Refusal). p >>= λ reply. Ok (s, reply)) (sym (part_there d old s lane 0 name path offset v r at is good h found))
      ∙ ap (λ p. part_at (d.content old.disk) p offset >>= λ reply. Ok (s, reply)) (sym here)

  pub read_refused : (refusal : Refusal) → part_at (d.content old.disk) q offset ≡ Err refusal → read_file s lane name offset ≡ Err refusal
  read_refused refusal gives = read_there ∙ ap (λ (p : Result Reply Refusal). p >>= λ reply. Ok (s, reply)) gives

  pub read_given : (part : Reply) → part_at (d.content old.disk) q offset ≡ Ok part → read_file s lane name offset ≡ Ok (s, part)
  read_given part gives = read_there ∙ ap (λ (p : Result Reply Refusal). p >>= λ reply. Ok (s, reply)) gives

-- ---- what is asked for

module _ (name : List ℕ) (offset : ℕ) (k : KeptAt) where
  abbrev asked_by : Result (List ℕ) Refusal → Option Asked
  asked_by o = option_map (as_part offset) (result_ok o)

  pub part_unplaced : (refusal : Refusal) → place_of name k ≡ Err refusal → (asked_part name offset k ≡ None) × ((n : List ℕ) → refusal ≡ Unreadable n → ⊥)
  part_unplaced refusal e = (ap asked_by e, place_untold name k refusal e)

  pub part_asked : (path : List ℕ) → place_of name k ≡ Ok path → asked_part name offset k ≡ Some (as_part offset path)
  part_asked path e = ap asked_by e

  pub part_refused : (refusal : Refusal) → place_of name k ≡ Err refusal → refuses_part refusal ≡ true
  part_refused = place_refused name k (λ r. refuses_part r ≡ true) (λ r e. refused_by_state k.session r (λ q. refuses_part q ≡ true) (λ state. refl) e) (λ r at missing. refl)

-- ---- what is answered

refusal_answers : (path : List ℕ) (r : Refusal) → RefusesPart path r → refuses_part r ≡ true
refusal_answers path (BadRange size) h = refl
refusal_answers path (Unreadable name) h = refl
refusal_answers path _ h = absurd h

pub read_error_answers : (path : List ℕ) (e : Stop) → IfRefused (RefusesPart path) e → IfRefused (λ r. IsTrue (refuses_part r)) e
read_error_answers path (Refused refusal) h = refusal_answers path refusal h
read_error_answers path NoMemory h = tt
read_error_answers path DiskFailed h = tt

-- a part is not empty before the file's end
pub filled_answers : (offset : ℕ) (part : FilePart) → FillsPart offset part → answers_part offset (part_reply part) ≡ true
filled_answers offset part fills =
    let size = length part.bytes in
    ⊎_elim
    (λ (before : offset < part.total). or_right (nat_le part.total offset) (nat_lt 0 size) (lt-ltb 0 size (fills before)))
    (λ (behind : part.total ≤ offset). or_left (nat_le part.total offset) (nat_lt 0 size) (le-leb part.total offset behind))
    (cases_lt offset part.total)
