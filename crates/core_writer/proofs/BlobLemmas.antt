-- BLOB that is done leaves what the store has.
use Rattle.std.proofs.Common.{◌≡◌, ℕ, ◌+◌, Bool, true, false, not, nat_lt, length, get_or, List, Result, Ok, Err, IsErrAnd, IsErrOf, refl, sym, ap, subst, ◌∙◌, arith}
use Rattle.std.proofs.lemmas.List.Elements.{All-nil}
use Rattle.std.specs.List.{Contains}
use Rattle.std.specs.Result.{IsOk}
use Rattle.blob_codec.specs.Blob as blobs
use Rattle.blob_codec.specs.Laws.{AreBytes}
use Rattle.blob_codec.proofs.RoundTrips.{blob-from_data_of}
use Rattle.store_types.specs.declared.refusal.Refusal.{Refusal}
use Rattle.store_types.specs.declared.refusal.Refusal.TheVariants.{BadBlob, BadName, Exists, TooMany}
use Rattle.store_types.specs.declared.refusal.BadBlob.{BadBlob as Reason}
use Rattle.store_types.specs.Chain.Refusing.{◌>>=◌, unless}
use Rattle.store_types.specs.FileNames.{is_blob_name}
use Rattle.store_files.specs.Archive.{blob, File, file_text}
use Rattle.wire_commands.specs.HasText.{ReplyHasText}
use Rattle.wire_commands.specs.declared.reply.Reply.TheVariants.{Refused}
use Rattle.store_history.specs.Acts.{IsChecked}
use Rattle.store_history.specs.History.{data_in}
use Rattle.store_model.specs.Store.{Store, Writer, writer, session}
use Rattle.store_files.specs.Folder.{file_path}
use Rattle.store_model.specs.Stands.{FitsContent}
use Rattle.store_model.specs.WriterCalls as calls
use Rattle.store_model.specs.WriterSteps.{checked_blob}
use Rattle.chunk_store.proofs.Blobs.{data_are_bytes}
use Rattle.backup_session.specs.Answers.{Leaves, LeavesShown, takes_blob}
use Rattle.core_writer.specs.Does.{Does, DoesPlainly}
use Rattle.backup_session.specs.Session as rows_of
use Rattle.backup_session.specs.Session.{Writing, held}
use Rattle.backup_session.specs.Shown.{Shows}
use Rattle.backup_session.specs.Steps as rows
use Rattle.core_state.specs.declared.kept.StoredFile.{StoredFile}
use Rattle.core_state.specs.declared.kept.Session.TheVariants as sessions
use Rattle.core_state.specs.declared.kept.Writing.{Writing as Kept}
use Rattle.core_state.specs.declared.kept.Session.{Session}
use Rattle.store_stops.specs.declared.stop.Stop.{Stop}
use Rattle.store_stops.specs.declared.stop.Stop.TheVariants as stops
use Rattle.core_state.specs.Changes.{blob_put, file_put}
use Rattle.store_history.specs.Replies.{answers_blob, refuses_blob}
use Rattle.core_state.proofs.Sessions.{writer_found}
use Rattle.core_state.specs.Shown.{shown_writer}
use Rattle.core_state.specs.Holds.{IsWriter, IsSound}
use Rattle.core_state.proofs.Texts.{bad_name_has_text, exists_has_text, too_many_has_text}
use Rattle.core_writer.specs.Names.{IsNoName}
use Rattle.core_writer.specs.Pending.{MakesPending, MayAdd}
use Rattle.core_writer.specs.declared.files.NewFile.{NewFile}
use Rattle.core_writer.proofs.BlobStep.{IsTaken, HasRoom, bad_name, has_room, refused, taken as taken_as, unchecked, done}
use Rattle.core_writer.proofs.KeepLemmas.{held_same, shows_found}
use Rattle.core_writer.proofs.GrownLemmas.{has_named-insert, unlike, none_named}

abbrev pub blob_file : List ℕ → List ℕ → File
blob_file name contents = record { name = name; content = blob contents }

text_is : (contents : List ℕ) → file_text (blob contents) ≡ blobs.blob contents
unfolding file_text
text_is contents = refl

-- ---- what the check gave

checked_ok : (text : List ℕ) → IsChecked (Ok text) → (p : List ℕ) × (blobs.data_of text ≡ Ok p)
checked_ok text h = by_data (blobs.data_of text) h
  where
    by_data : (r : Result (List ℕ) Reason) → IsOk r → (p : List ℕ) × (r ≡ Ok p)
    by_data (Ok p) h = (p, refl)
    by_data (Err e) h = cc

-- the contents of an upload that was checked
pub record IsBlobOf (text : List ℕ) (p : List ℕ) : Type 0 where
  pub wanted : data_in (Ok text) ≡ Ok p
  pub text_is : text ≡ blobs.blob p
  pub fits : FitsContent (blob p)

pub blob_of : (text : List ℕ) → IsChecked (Ok text) → AreBytes text → (p : List ℕ) × IsBlobOf text p
blob_of text h bytes =
    let ok = checked_ok text h in
    let spelling = blob-from_data_of text ok.0 bytes ok.1 in (
      ok.0,
      record {
        wanted = ap (λ r. elim r [ Ok piece ↦ Ok piece | Err fault ↦ Err (BadBlob fault) ]) ok.1;
        text_is = spelling.0;
        fits = (spelling.1, data_are_bytes ok.0 (subst AreBytes spelling.0 bytes));
      },
    )

-- ---- the file may be added

pub blob_may_add : (s : Store) (w : Writer) (name p : List ℕ) (after : Writer) → IsWriter s.snapshots w → IsTaken name p w after → FitsContent (blob p) → MayAdd w (blob_file name p) w.begun
blob_may_add s w name p after h is fits =
    let room : HasRoom name w = has_room name w is.room in
    let below = room.room in
    record {
      named = is.named;
      fits = fits;
      free = room.free;
      count = omega (arith, below);
      pieces = All-nil (Contains w.pool);
      begun_are = h.begun;
      free_open = λ i d l. has_named-insert (get_or w.begun i d).name (blob_file name p) w.files
          (unlike name (get_or w.begun i d).name (none_named name w.begun room.free_open i d l)) (h.free i d l);
      differ = h.differ;
    }

-- ---- what the session does

-- what a name may be refused for
Told : Refusal → Type 0
Told r = (refuses_blob r ≡ true) × ReplyHasText (Refused r)

told_by : (a b c : Bool) (r : Refusal) → (unless BadName a >>= λ _. unless Exists (not b) >>= λ _. unless (TooMany 64) c) ≡ Err r → Told r
unfolding Told
told_by false b c r is = let same : BadName ≡ r = cc in subst Told same (refl, bad_name_has_text)
told_by true true c r is = let same : Exists ≡ r = cc in subst Told same (refl, exists_has_text)
told_by true false false r is = let same : TooMany 64 ≡ r = cc in subst Told same (refl, too_many_has_text 64 (omega arith))
told_by true false true r is = cc

pub want_blob_told : (name : List ℕ) (w : Writing) (r : Refusal) → rows.want_blob name w ≡ Err r → (refuses_blob r ≡ true) × ReplyHasText (Refused r)
unfolding Told
want_blob_told name w r is = told_by (is_blob_name name) (rows.has_file name w.files w.begun) (nat_lt (length w.files + length w.begun) 64) r is

with_blob : List ℕ → List ℕ → Writing → Writing
with_blob name text w = record w { files = rows.insert_fact (rows.blob_fact name text) w.files; manifest = rows.manifest_with name text w.manifest }

row_by : Writing → Result (Writing × Unit {0}) Refusal → Writing
row_by w (Ok made) = made.0
row_by w (Err r) = w

not_refused_by : (t : Result (Unit {0}) Refusal) (u : Unit {0}) (r : Refusal) (w : Writing) → t ≡ Ok u → (let made : Result (Writing × Unit {0}) Refusal = Ok (w, tt) in t >>= λ _. made) ≡ Err r → ⊥
not_refused_by (Ok v) u r w e is = cc
not_refused_by (Err q) u r w e is = cc

-- what was asked before is not refused
pub not_refused : (name text : List ℕ) (w : Writing) (u : Unit {0}) (r : Refusal) → rows.want_blob name w ≡ Ok u → rows.blob w name text ≡ Err r → ⊥
unfolding rows.blob with_blob
not_refused name text w u r free is = not_refused_by (rows.want_blob name w) u r (with_blob name text w) free is

key_by : (t : Result (Unit {0}) Refusal) (w made after : Writing) (u : Unit {0}) → made.key ≡ w.key → (let done : Result (Writing × Unit {0}) Refusal = Ok (made, tt) in t >>= λ _. done) ≡ Ok (after, u) → after.key ≡ w.key
unfolding row_by
key_by (Ok v) w made after u same is = ap (λ x. x.key) (sym (ap (row_by w) is)) ∙ same
key_by (Err q) w made after u same is = cc

pub key_stays : (name text : List ℕ) (w after : Writing) (u : Unit {0}) → rows.blob w name text ≡ Ok (after, u) → after.key ≡ w.key
unfolding rows.blob with_blob
key_stays name text w after u is = key_by (rows.want_blob name w) w (with_blob name text w) after u refl is

-- ---- the session

module _ (name : List ℕ) (checked : Result (List ℕ) Refusal) (found : Session) (w : Kept) (is : found ≡ sessions.Writer w) where
  abbrev Makes : Session → Result NewFile Stop → Type 0
  Makes new result = MakesPending found new (λ s lane. checked_blob s lane name (data_in checked)) answers_blob (blob_put name checked) result

  stops_at : (new : Session) (result : Result NewFile Stop) (stop : Stop) → IsErrAnd result (λ x. x ≡ stop) → Makes new (Err stop) → Makes new result
  stops_at new (Ok n) stop ended p = absurd ended
  stops_at new (Err x) stop ended p = subst (λ y. Makes new (Err y)) (sym ended) p

  -- memory was wanting
  pub blob_short : (result : Result NewFile Stop) → IsErrAnd result (λ x. x ≡ stops.NoMemory) → Makes (sessions.Writer w) result
  blob_short result ended = stops_at (sessions.Writer w) result stops.NoMemory ended (record { text = tt; answers = tt; same = sym is; change = tt; pending = tt })

  -- the text is no file's name
  pub blob_unnamed : (stop : Stop) (result : Result NewFile Stop) → IsErrAnd result (λ x. x ≡ stop) → IsNoName name stop → Makes (sessions.Writer w) result
  blob_unnamed stop result ended bad = stops_at (sessions.Writer w) result stop ended (by_stop stop bad)
    where
      by_stop : (stop : Stop) → IsNoName name stop → Makes (sessions.Writer w) (Err stop)
      by_stop (stops.Refused r) bad =
          subst (λ x. Makes (sessions.Writer w) (Err (stops.Refused x))) (sym bad.0) (record {
            text = bad_name_has_text;
            answers = refl;
            same = sym is;
            change = tt;
            pending = λ s lane sound at. let f = writer_found s lane found w at is in bad_name s lane name (data_in checked) f.0 f.1 bad.1;
          })
      by_stop stops.NoMemory bad = record { text = tt; answers = tt; same = sym is; change = tt; pending = tt }
      by_stop stops.DiskFailed bad = absurd bad

  module _ (called : List ℕ) (called_is : called ≡ name) where
    -- the session wants no such blob
    pub blob_unwanted : (r : Refusal) (result : Result NewFile Stop) → IsErrAnd result (λ x. x ≡ stops.Refused r) → Err r ≡ rows.want_blob called (w.session).writer → ((v : Writer) → Shows (w.session).writer v → Err r ≡ takes_blob called v)
        → Makes (sessions.Writer w) result
    blob_unwanted r result ended wants plain =
        let told = want_blob_told called (w.session).writer r (sym wants) in
        stops_at (sessions.Writer w) result (stops.Refused r) ended (record {
          text = told.1;
          answers = told.0;
          same = sym is;
          change = tt;
          pending = λ s lane sound at.
              let f = writer_found s lane found w at is in
              refused s lane name (data_in checked) f.0 r f.1 (ap (λ n. takes_blob n f.0) (sym called_is) ∙ sym (plain f.0 (shows_found s lane f.0 w sound f.1 f.2)));
        })

    module _ (takes : (v : Writer) → Shows (w.session).writer v → Ok tt ≡ takes_blob called v) where
      takes_it : (s : Store) (lane : ℕ) (v : Writer) → IsSound s → session s lane ≡ writer v → shown_writer v ≡ w → takes_blob name v ≡ Ok tt
      takes_it s lane v sound at shown = ap (λ n. takes_blob n v) (sym called_is) ∙ sym (takes v (shows_found s lane v w sound at shown))

      -- the upload is no blob
      pub blob_unchecked : (r : Refusal) (result : Result NewFile Stop) → IsErrAnd result (λ x. x ≡ stops.Refused r) → checked ≡ Err r → refuses_blob r ≡ true → ReplyHasText (Refused r) → Makes (sessions.Writer w) result
      blob_unchecked r result ended was kind text = stops_at (sessions.Writer w) result (stops.Refused r) ended (record {
        text = text;
        answers = kind;
        same = sym is;
        change = tt;
        pending = λ s lane sound at. let f = writer_found s lane found w at is in unchecked s lane name (data_in checked) f.0 r f.1 (takes_it s lane f.0 sound f.1 f.2) (ap data_in was);
      })

      module _ (new : rows_of.Session) (taken : Result (Unit {0}) Stop) (text : List ℕ) (was : checked ≡ Ok text) (checked_is : IsChecked checked) (are : AreBytes text) (asked : Ok tt ≡ rows.want_blob called (w.session).writer)
          (does : Does (λ u. u) (held (w.session).writer) w.session new taken (rows.blob (w.session).writer called text))
          (plain : (contents : List ℕ) → text ≡ blobs.blob contents → DoesPlainly (λ u. u) (held (w.session).writer) w.session new taken (λ v. calls.put_data v called contents)) where
        abbrev left : Session
        left = sessions.Writer (record w { session = new })

        pub blob_stopped : (stop : Stop) (result : Result NewFile Stop) → IsErrAnd result (λ x. x ≡ stop) → taken ≡ Err stop → (IsErrOf taken stops.DiskFailed → ⊥) → Makes left result
        blob_stopped stop result ended at uncalled = stops_at left result stop ended (by_stop stop at)
          where
            by_stop : (stop : Stop) → taken ≡ Err stop → Makes left (Err stop)
            by_stop (stops.Refused r) at =
                let refuses : (rows.blob (w.session).writer called text ≡ Err r) × (new ≡ w.session) =
                subst (λ t. Does (λ u. u) (held (w.session).writer) w.session new t (rows.blob (w.session).writer called text)) at does in
                absurd (not_refused called text (w.session).writer tt r (sym asked) refuses.0)
            by_stop stops.NoMemory at =
                let same : new ≡ w.session = subst (λ t. Does (λ u. u) (held (w.session).writer) w.session new t (rows.blob (w.session).writer called text)) at does in
                record { text = tt; answers = tt; same = ap (λ x. let y : Kept = record w { session = x } in sessions.Writer y) same ∙ sym is; change = tt; pending = tt }
            by_stop stops.DiskFailed at = absurd (uncalled at)

        pub blob_done : (u : Unit {0}) (file : StoredFile) → taken ≡ Ok u → file.name ≡ called → file.path ≡ file_path ((w.session).writer).key called → Makes left (Ok (record { file = file; text = text }))
        blob_done u file at file_is path =
            let leaves : Leaves (held (w.session).writer) new (rows.blob (w.session).writer called text) tt =
            subst (λ t. Does (λ u. u) (held (w.session).writer) w.session new t (rows.blob (w.session).writer called text)) at does in
            let (p, spelled) = blob_of text (subst IsChecked was checked_is) are in
            record {
              text = tt;
              answers = tt;
              same = tt;
              change = λ x x_is. ap (λ c. blob_put name c x) was ∙ ap (λ n. file_put n text x) (sym called_is ∙ sym file_is);
              pending = record {
                found = w;
                after = leaves.after;
                old_is = is;
                new_is = ap (λ x. let y : Kept = record w { session = x } in sessions.Writer y) leaves.left;
                key = key_stays called text (w.session).writer leaves.after tt leaves.stepped;
                path = path ∙ ap (file_path ((w.session).writer).key) (sym file_is);
                adds = λ s lane sound here.
                    let f = writer_found s lane found w here is in
                    let shown : LeavesShown (held (w.session).writer) new (calls.put_data f.0 called p) tt =
                    subst (λ t. DoesPlainly (λ u. u) (held (w.session).writer) w.session new t (λ v. calls.put_data v called p)) at (plain p spelled.text_is) f.0 (shows_found s lane f.0 w sound f.1 f.2) in
                    let after = taken_as called p f.0 shown.plain shown.stepped in
                    record {
                      before = f.0;
                      after = shown.plain;
                      new = blob_file called p;
                      begun = (f.0).begun;
                      at = f.1;
                      shown = f.2;
                      may = blob_may_add s f.0 called p shown.plain (sound.writers lane f.0 f.1) after spelled.fits;
                      same = after.same;
                      text_is = spelled.text_is ∙ sym (text_is p);
                      shows = subst (λ x. Shows x shown.plain) (held_same (w.session).writer shown.after leaves.after (sym shown.left ∙ leaves.left)) shown.shows;
                      named = file_is;
                      step = ap (λ n. checked_blob s lane n (data_in checked)) (sym called_is) ∙ done s lane called (data_in checked) f.0 p f.1 (sym (takes f.0 (shows_found s lane f.0 w sound f.1 f.2))) (ap data_in was ∙ spelled.wanted);
                    };
              };
            }
