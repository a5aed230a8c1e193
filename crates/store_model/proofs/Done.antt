-- The walk through the tests of each command: what one that was done has found, and how the store then differs.
use Rattle.std.proofs.Common.{◌++◌, ◌≡◌, ℕ, Bool, true, false, List, [], ◌∷◌, map, length, nat_le, nat_lt, slice_get, if◌then◌else◌, Option, Some, None, Result, Ok, Err, refl, ap, subst, sym}
use Rattle.store_types.specs.declared.names.Digest32.{Digest32}
use Rattle.store_types.specs.declared.append.AppendEntry.{AppendEntry}
use Rattle.store_types.specs.declared.refusal.Refusal.{Refusal}
use Rattle.store_types.specs.declared.refusal.Refusal.TheVariants.{BadName, GroupBusy, SnapshotBusy, TooMany, NoFile, NoSnapshot, BadRange, NotAllowed}
use Rattle.store_types.specs.Chain.Refusing.{◌>>=◌, unless, or_else, if_none}
use Rattle.store_types.specs.FileNames.{is_blob_name, is_file_name, is_index_name, is_fixed_name, is_dynamic_name}
use Rattle.store_types.specs.Names.{group_of_key}
use Rattle.store_files.specs.Archive.{dynamic, fixed, Content, archive, blob, file_text, file_named, pieces_of, piece_with, content_of, csum_by}
use Rattle.wire_commands.specs.declared.command.Command.{Command}
use Rattle.wire_commands.specs.declared.command.Command.TheVariants as commands
use Rattle.wire_commands.specs.declared.reply.Reply.{Reply}
use Rattle.wire_commands.specs.declared.reply.Reply.TheVariants as replies
use Rattle.store_model.specs.Store.{with_session, none, Writer, writer, Reader, reader, Session, Store, Outcome, session, want_writer, want_reader, group_holder, snapshot_holder, in_group, latest_in, snapshot_named}
use Rattle.store_model.specs.Heads.{key_in, group_in, after_in, idle_key, idle_group}
use Rattle.store_model.specs.Uploads.{want_room}
use Rattle.store_model.specs.Archives.{new_archive, want_sizes, want_number, want_entries, pieces_named, want_facts}
use Rattle.store_model.specs.Manifests.{finish_check}
use Rattle.store_model.specs.WriterSteps.{goes_on, open_writer, want_newer, base_of, previous, want_data, checked_blob, put_blob, finish, abort}
use Rattle.store_model.specs.WriterCalls as calls
use Rattle.store_model.specs.ArchiveSteps.{new_fixed, new_dynamic, check_chunk, checked_chunk, put_chunk, named, append, close_index}
use Rattle.store_model.specs.ReaderSteps.{open_reader, reader_files, is_noted, note, download, noted_pieces, get_chunk, range_of, range, read_file, read_chunk, close_reader}
use Rattle.store_model.specs.AdminSteps.{list, files, want_free, forget, group, counts_fit, prune_group}
use Rattle.store_model.specs.Steps.{outcome, answered}
use Rattle.store_model.specs.Done.{IsBlobDone, IsChunkDone, IsDone, IsAnswer, Effect, nothing, sends, appends, finishes, forgets, effect_of, IsGrown, taken, sent, begun, appended, filed, stored, IsNext, ends, opens, writes, enters, reads, Shape, same, turned, more, less, Leaves}

-- ---- a test that did not refuse

pub ok_same : {A : Type 0} (x y : A) → ◌≡◌ {A = Result A Refusal} (Ok x) (Ok y) → x ≡ y
ok_same x y e = cc

pub err_ok : {A : Type 0} (refusal : Refusal) (x : A) → ◌≡◌ {A = Result A Refusal} (Err refusal) (Ok x) → ⊥
err_ok refusal x e = cc

-- what the first test gave, and what the rest made of it
pub passed : {A B : Type 0} (x : Result A Refusal) (f : A → Result B Refusal) (b : B) → (x >>= f) ≡ Ok b → (a : A) × (x ≡ Ok a) × (f a ≡ Ok b)
passed (Ok a) f b e = (a, refl, e)
passed (Err refusal) f b e = absurd (err_ok refusal b e)

holds : {B : Type 0} (refusal : Refusal) (test : Bool) (f : Unit {0} → Result B Refusal) (b : B) → (unless refusal test >>= f) ≡ Ok b → (test ≡ true) × (f tt ≡ Ok b)
holds refusal true f b e = (refl, e)
holds refusal false f b e = absurd (err_ok refusal b e)

found : {A B : Type 0} (refusal : Refusal) (o : Option A) (f : A → Result B Refusal) (b : B) → (or_else refusal o >>= f) ≡ Ok b → (x : A) × (o ≡ Some x) × (f x ≡ Ok b)
found refusal None f b e = absurd (err_ok refusal b e)
found refusal (Some x) f b e = (x, refl, e)

free : {A B : Type 0} (refusal : A → Refusal) (o : Option A) (f : Unit {0} → Result B Refusal) (b : B) → (if_none refusal o >>= f) ≡ Ok b → (o ≡ None) × (f tt ≡ Ok b)
free refusal None f b e = (refl, e)
free refusal (Some x) f b e = absurd (err_ok (refusal x) b e)

writing : {B : Type 0} (x : Session) (f : Writer → Result B Refusal) (b : B) → (want_writer x >>= f) ≡ Ok b → (v : Writer) × (x ≡ writer v) × (f v ≡ Ok b)
writing none f b e = absurd (err_ok _ b e)
writing (writer v) f b e = (v, refl, e)
writing (reader r) f b e = absurd (err_ok _ b e)

reading : {B : Type 0} (x : Session) (f : Reader → Result B Refusal) (b : B) → (want_reader x >>= f) ≡ Ok b → (r : Reader) × (x ≡ reader r) × (f r ≡ Ok b)
reading none f b e = absurd (err_ok _ b e)
reading (writer v) f b e = absurd (err_ok _ b e)
reading (reader r) f b e = (r, refl, e)

free_alone : {A : Type 0} (refusal : A → Refusal) (o : Option A) (u : Unit {0}) → if_none refusal o ≡ Ok u → o ≡ None
free_alone refusal None u e = refl
free_alone refusal (Some x) u e = absurd (err_ok (refusal x) u e)

-- ---- what a command that was done has found

module _ (s : Store) (k : ℕ) where
  blob_done : (name : List ℕ) (checked : Result (List ℕ) Refusal) (after : Store × Reply) → checked_blob s k name checked ≡ Ok after → IsBlobDone s k name checked after
  unfolding checked_blob goes_on
  blob_done name checked after e =
      let (v, runs, e1) = writing (session s k) _ after e in
      let (named, e2) = holds BadName (is_blob_name name) _ after e1 in
      let (u, room, e3) = passed (want_room name v) _ after e2 in
      let (contents, has, e4) = passed checked _ after e3 in
      (v, contents, runs, named, room, has, sym (ok_same _ after e4))

  pub chunk_done : (checked : Result (List ℕ) Refusal) (after : Store × Reply) → checked_chunk s k checked ≡ Ok after → IsChunkDone s k checked after
  unfolding checked_chunk goes_on
  chunk_done checked after e =
      let (v, runs, e1) = writing (session s k) _ after e in
      let (piece, has, e2) = passed checked _ after e1 in
      (v, piece, runs, has, sym (ok_same _ after e2))

  -- a writer's own commands, by what its call gave
  fixed_done : (m : ℕ) (name : List ℕ) (size cut : ℕ) (after : Store × Reply) (v : Writer) (w : Writer × ℕ) → session s k ≡ writer v → calls.new_fixed v name size cut m ≡ Ok w
      → after ≡ (with_session s k (writer w.0), replies.Number w.1) → IsDone s k m (commands.NewFixed name size cut) after
  unfolding calls.new_fixed
  fixed_done m name size cut after v w runs begins at =
      let (named, e1) = holds BadName (is_fixed_name name) _ w begins in
      let (u, room, e2) = passed (want_room name v) _ w e1 in
      let (u', few, e3) = passed (want_number (length v.begun)) _ w e2 in
      let (u'', fits, e4) = passed (want_sizes size cut) _ w e3 in
      (v, runs, named, room, few, fits, subst (λ b. after ≡ (with_session s k (writer b.0), replies.Number b.1)) (sym (ok_same _ w e4)) at)

  dynamic_done : (m : ℕ) (name : List ℕ) (after : Store × Reply) (v : Writer) (w : Writer × ℕ) → session s k ≡ writer v → calls.new_dynamic v name m ≡ Ok w
      → after ≡ (with_session s k (writer w.0), replies.Number w.1) → IsDone s k m (commands.NewDynamic name) after
  unfolding calls.new_dynamic
  dynamic_done m name after v w runs begins at =
      let (named, e1) = holds BadName (is_dynamic_name name) _ w begins in
      let (u, room, e2) = passed (want_room name v) _ w e1 in
      let (u', few, e3) = passed (want_number (length v.begun)) _ w e2 in
      (v, runs, named, room, few, subst (λ b. after ≡ (with_session s k (writer b.0), replies.Number b.1)) (sym (ok_same _ w e3)) at)

  append_done : (m number : ℕ) (entries : List AppendEntry) (after : Store × Reply) (v : Writer) (w : Writer × Unit {0}) → session s k ≡ writer v
      → calls.append v number (map named entries) ≡ Ok w → after ≡ (with_session s k (writer w.0), replies.Done) → IsDone s k m (commands.Append number entries) after
  unfolding calls.append
  append_done m number entries after v w runs grows at =
      let (b, opened, e1) = found NoFile (calls.begun_at number v) _ w grows in
      let (u, few, e2) = passed (want_entries (length (b.archive).pieces) (length (map named entries))) _ w e1 in
      let (pieces, are, e3) = passed (pieces_named (λ digest. piece_with digest v.pool) (λ p. length p) (b.archive).layout 0 (length (content_of b.archive)) (map named entries)) _ w e2 in
      (v, b, pieces, runs, opened, few, are, subst (λ g. after ≡ (with_session s k (writer g.0), replies.Done)) (sym (ok_same _ w e3)) at)

  close_done : (m number count size : ℕ) (csum : Digest32) (after : Store × Reply) (v : Writer) (w : Writer × List ℕ) → session s k ≡ writer v
      → calls.close_index v number count size csum ≡ Ok w → after ≡ (with_session s k (writer w.0), replies.Done) → IsDone s k m (commands.CloseIndex number count size csum) after
  unfolding calls.close_index
  close_done m number count size csum after v w runs closes at =
      let (b, opened, e1) = found NoFile (calls.begun_at number v) _ w closes in
      let (u, right, e2) = passed (want_facts (b.archive).layout (length (b.archive).pieces) (length (content_of b.archive)) (csum_by (b.archive).layout b.archive) count size csum) _ w e1 in
      (v, b, runs, opened, right, subst (λ g. after ≡ (with_session s k (writer g.0), replies.Done)) (sym (ok_same _ w e2)) at)

  walk : (m : ℕ) (c : Command) (after : Store × Reply) → outcome s k m c ≡ Ok after → IsDone s k m c after
  unfolding outcome open_writer previous new_fixed new_dynamic put_chunk append close_index goes_on put_blob finish abort open_reader download get_chunk range close_reader list files want_free forget group prune_group
  walk m (commands.OpenWriter text) after e =
      let (key, is, e1) = passed (idle_key s k text) _ after e in
      let (alone, e2) = free GroupBusy (group_holder s (group_of_key key)) _ after e1 in
      let (u, newer, e3) = passed (want_newer key.time (latest_in (group_of_key key) s.snapshots)) _ after e2 in
      let (few, e4) = holds (TooMany 4096) (nat_lt (length (in_group (group_of_key key) s.snapshots)) 4096) _ after e3 in
      (key, is, alone, newer, few, sym (ok_same _ after e4))
  walk m (commands.Previous name offset) after e =
      let (v, runs, e1) = writing (session s k) _ after e in
      let (named, e2) = holds BadName (is_file_name name) _ after e1 in
      let (x, base, e3) = found NoSnapshot (base_of s v) _ after e2 in
      let (f, has, e4) = found NoFile (file_named name x.files) _ after e3 in
      let (within, e5) = holds (BadRange (length (file_text f.content))) (nat_le offset (length (file_text f.content))) _ after e4 in
      (v, x, f, runs, named, base, has, within, sym (ok_same _ after e5))
  walk m (commands.NewFixed name size cut) after e =
      let (v, runs, e1) = writing (session s k) _ after e in
      let (w, begins, e2) = passed (calls.new_fixed v name size cut m) _ after e1 in
      fixed_done m name size cut after v w runs begins (sym (ok_same _ after e2))
  walk m (commands.NewDynamic name) after e =
      let (v, runs, e1) = writing (session s k) _ after e in
      let (w, begins, e2) = passed (calls.new_dynamic v name m) _ after e1 in
      dynamic_done m name after v w runs begins (sym (ok_same _ after e2))
  walk m (commands.Chunk digest bytes) after e = chunk_done (check_chunk digest bytes) after e
  walk m (commands.Append number entries) after e =
      let (v, runs, e1) = writing (session s k) _ after e in
      let (w, grows, e2) = passed (calls.append v number (map named entries)) _ after e1 in
      append_done m number entries after v w runs grows (sym (ok_same _ after e2))
  walk m (commands.CloseIndex number count size csum) after e =
      let (v, runs, e1) = writing (session s k) _ after e in
      let (w, closes, e2) = passed (calls.close_index v number count size csum) _ after e1 in
      close_done m number count size csum after v w runs closes (sym (ok_same _ after e2))
  walk m (commands.Blob name bytes) after e = blob_done name (want_data bytes) after e
  walk m commands.Finish after e =
      let (v, runs, e1) = writing (session s k) _ after e in
      let (listing, right, e2) = passed (finish_check v) _ after e1 in
      (v, listing, runs, right, sym (ok_same _ after e2))
  walk m commands.Abort after e = let (v, runs, e1) = writing (session s k) _ after e in (v, runs, sym (ok_same _ after e1))
  walk m (commands.OpenReader text) after e =
      let (key, is, e1) = passed (idle_key s k text) _ after e in
      let (x, there, e2) = found NoSnapshot (snapshot_named key s.snapshots) _ after e1 in
      (key, x, is, there, sym (ok_same _ after e2))
  walk m (commands.Download name offset) after e =
      let (r, opened, e1) = reading (session s k) _ after e in
      let (named, e2) = holds BadName (is_file_name name) _ after e1 in
      let (f, has, e3) = found NoFile (file_named name (reader_files s r)) _ after e2 in
      let (within, e4) = holds (BadRange (length (file_text f.content))) (nat_le offset (length (file_text f.content))) _ after e3 in
      (r, f, opened, named, has, within, sym (ok_same _ after e4))
  walk m (commands.GetChunk digest) after e =
      let (r, opened, e1) = reading (session s k) _ after e in
      let (piece, has, e2) = found NotAllowed (piece_with digest (noted_pieces (reader_files s r) r)) _ after e1 in
      (r, piece, opened, has, sym (ok_same _ after e2))
  walk m (commands.Range name offset len) after e =
      let (r, opened, e1) = reading (session s k) _ after e in
      let (named, e2) = holds BadName (is_index_name name) _ after e1 in
      let (f, has, e3) = found NoFile (file_named name (reader_files s r)) _ after e2 in
      let (bytes, within, e4) = passed (range_of (reader_files s r) r name offset len) _ after e3 in
      (r, f, bytes, opened, named, has, within, sym (ok_same _ after e4))
  walk m commands.CloseReader after e = let (r, opened, e1) = reading (session s k) _ after e in (r, opened, sym (ok_same _ after e1))
  walk m (commands.List text) after e = let (from, is, e1) = passed (after_in s k text) _ after e in (from, is, sym (ok_same _ after e1))
  walk m (commands.Files text) after e =
      let (key, is, e1) = passed (key_in s k text) _ after e in
      let (x, there, e2) = found NoSnapshot (snapshot_named key s.snapshots) _ after e1 in
      (key, x, is, there, sym (ok_same _ after e2))
  walk m (commands.Forget text) after e =
      let (key, is, e1) = passed (idle_key s k text) _ after e in
      let (u, frees, e2) = passed (want_free s key) _ after e1 in
      let (x, there, e3) = found NoSnapshot (snapshot_named key s.snapshots) _ u frees in
      (key, x, is, there, free_alone SnapshotBusy (snapshot_holder s key) u e3, sym (ok_same _ after e2))
  walk m (commands.Prune name keep dry) after e =
      let (g, is, e1) = passed (idle_group s k name) _ after e in
      let (few, e2) = holds (TooMany 1000) (counts_fit keep) _ after e1 in
      (g, is, few, sym (ok_same _ after e2))
  walk m (commands.Verify text) after e = sym (ok_same _ after e)
  walk m (commands.Sync name) after e = sym (ok_same _ after e)
  walk m commands.Gc after e = sym (ok_same _ after e)
  walk m (commands.Group name) after e = let (g, is, e1) = passed (group_in s k name) _ after e in (g, is, sym (ok_same _ after e1))
  walk m commands.Bye after e = sym (ok_same _ after e)

pub done : (s : Store) (k m : ℕ) (c : Command) (after : Store × Reply) → outcome s k m c ≡ Ok after → IsDone s k m c after
done s k m c after e = walk s k m c after e

-- ---- what it leaves

note_key : (name : List ℕ) (content : Content) (r : Reader) → (note name content r).key ≡ r.key
note_key name (archive a) r = by_test (is_noted r name)
  where
    by_test : (b : Bool) → (if b then r else record r { noted = r.noted ++ name ∷ [] }).key ≡ r.key
    by_test true = refl
    by_test false = refl
note_key name (blob bytes) r = refl

module _ (s : Store) (k m : ℕ) (after : Store × Reply) where
  leaves : (e : Effect) (t : Store) (r : Reply) → after ≡ (t, r) → IsAnswer r → Shape s k m e t → Leaves s k m e after
  leaves e t r is fine differs = record { store = subst (Shape s k m e) (ap (λ a. a.0) (sym is)) differs; reply = subst IsAnswer (ap (λ a. a.1) (sym is)) fine }

  -- the store stays
  stays : (e : Effect) (r : Reply) → after ≡ (s, r) → IsAnswer r → Leaves s k m e after
  stays e r is fine = leaves e s r is fine (same refl)

  -- the lane's session is another
  turns : (e : Effect) (x : Session) (r : Reply) → after ≡ (with_session s k x, r) → IsAnswer r → IsNext s k m e x → Leaves s k m e after
  turns e x r is fine next = leaves e (with_session s k x) r is fine (turned x next refl)

  -- its writer goes on
  goes : (e : Effect) (v w : Writer) (r : Reply) → after ≡ (with_session s k (writer w), r) → IsAnswer r → session s k ≡ writer v → IsGrown s v e w → Leaves s k m e after
  goes e v w r is fine runs grows = turns e (writer w) r is fine (writes v w runs grows refl)

  blob_leaves : (e : Effect) (name : List ℕ) (checked : Result (List ℕ) Refusal) → IsBlobDone s k name checked after → Leaves s k m e after
  blob_leaves e name checked d = goes e d.0 _ _ d.6 tt d.2 (stored name d.1 refl)

  chunk_leaves : (checked : Result (List ℕ) Refusal) → IsChunkDone s k checked after → Leaves s k m sends after
  chunk_leaves checked d = goes sends d.0 _ _ d.4 tt d.2 (sent d.1 refl refl)

  pub shape : (c : Command) → IsDone s k m c after → Leaves s k m (effect_of c) after
  shape (commands.OpenWriter text) d = turns nothing _ _ d.5 tt (opens text d.0 d.1 d.2 d.3 refl)
  shape (commands.Previous name offset) d = goes nothing d.0 _ _ d.8 tt d.3 (taken d.1 name d.2 d.5 d.6 refl)
  shape (commands.NewFixed name size chunk_size) d = goes nothing d.0 _ _ d.6 tt d.1 (begun name (new_archive (fixed size chunk_size) 4016 (d.0).key name m) refl refl)
  shape (commands.NewDynamic name) d = goes nothing d.0 _ _ d.5 tt d.1 (begun name (new_archive dynamic 4032 (d.0).key name m) refl refl)
  shape (commands.Chunk digest bytes) d = chunk_leaves (check_chunk digest bytes) d
  shape (commands.Append number entries) d = goes appends d.0 _ _ d.7 tt d.3 (appended number d.2 refl refl)
  shape (commands.CloseIndex number count size csum) d = goes nothing d.0 _ _ d.5 tt d.2 (filed number d.1 d.3 refl)
  shape (commands.Blob name bytes) d = blob_leaves nothing name (want_data bytes) d
  shape commands.Finish d = leaves finishes _ _ d.4 tt (more d.0 refl d.2 refl)
  shape commands.Abort d = turns nothing none _ d.2 tt (ends refl)
  shape (commands.OpenReader text) d = turns nothing _ _ d.4 tt (enters d.1 _ d.3 refl)
  shape (commands.Download name offset) d = turns nothing _ _ d.6 tt (reads d.0 _ d.2 (note_key name (d.1).content d.0) refl)
  shape (commands.GetChunk digest) d = stays nothing _ d.4 tt
  shape (commands.Range name offset len) d = stays nothing _ d.7 tt
  shape commands.CloseReader d = turns nothing none _ d.2 tt (ends refl)
  shape (commands.List text) d = stays nothing _ d.2 tt
  shape (commands.Files text) d = stays nothing _ d.4 tt
  shape (commands.Forget text) d = leaves (forgets text) _ _ d.5 tt (less text d.0 refl d.2 d.4 refl)
  shape (commands.Prune name keep dry) d = stays nothing _ d.3 tt
  shape (commands.Verify text) d = stays nothing _ d tt
  shape (commands.Sync name) d = stays nothing _ d tt
  shape commands.Gc d = stays nothing _ d tt
  shape (commands.Group name) d = stays nothing _ d.2 tt
  shape commands.Bye d = turns nothing none _ d tt (ends refl)

  -- a command, an upload that was checked, and a VERIFY's own reads
  pub command_left : (c : Command) → outcome s k m c ≡ Ok after → Leaves s k m (effect_of c) after
  command_left c is = shape c (done s k m c after is)

  pub blob_left : (name : List ℕ) (checked : Result (List ℕ) Refusal) → checked_blob s k name checked ≡ Ok after → Leaves s k m nothing after
  blob_left name checked is = blob_leaves nothing name checked (blob_done s k name checked after is)

  pub chunk_left : (checked : Result (List ℕ) Refusal) → checked_chunk s k checked ≡ Ok after → Leaves s k m sends after
  chunk_left checked is = chunk_leaves checked (chunk_done s k checked after is)

  pub entry_left : (name : List ℕ) (entry : ℕ) → read_chunk s k name entry ≡ Ok after → Leaves s k m nothing after
  unfolding read_chunk
  entry_left name entry e =
      let (r, opened, e1) = reading (session s k) _ after e in
      let (named, e2) = holds NoFile (is_index_name name) _ after e1 in
      let (f, has, e3) = found NoFile (file_named name (reader_files s r)) _ after e2 in
      let (piece, at, e4) = found (BadRange (length (pieces_of f.content))) (slice_get (pieces_of f.content) entry) _ after e3 in
      stays nothing _ (sym (ok_same _ after e4)) tt

pub part_left : (s : Store) (k m : ℕ) (after : Store × Reply) (name : List ℕ) (offset : ℕ) → read_file s k name offset ≡ Ok after → Leaves s k m nothing after
unfolding read_file outcome
part_left s k m after name offset e =
    let (given, gives, e1) = passed (download s k name offset) _ after e in
    stays s k m after nothing given.1 (sym (ok_same _ after e1)) (command_left s k m given (commands.Download name offset) gives).reply

-- ---- what it leaves, done or refused

pub answered_shape : (s : Store) (k m : ℕ) (e : Effect) (o : Outcome) → ((after : Store × Reply) → o ≡ Ok after → Leaves s k m e after) → Shape s k m e (answered s o).0
answered_shape s k m e (Ok after) left = (left after refl).store
answered_shape s k m e (Err refusal) left = same refl

-- a writer that goes on keeps its key
pub grown_key : (s : Store) (v : Writer) (e : Effect) (w : Writer) → IsGrown s v e w → w.key ≡ v.key
grown_key s v e w (taken x name f base has is) = ap (λ (x : Writer). x.key) is
grown_key s v e w (sent piece sending is) = ap (λ (x : Writer). x.key) is
grown_key s v e w (begun name a empty is) = ap (λ (x : Writer). x.key) is
grown_key s v e w (appended number pieces appending is) = ap (λ (x : Writer). x.key) is
grown_key s v e w (filed number b at is) = ap (λ (x : Writer). x.key) is
grown_key s v e w (stored name contents is) = ap (λ (x : Writer). x.key) is
