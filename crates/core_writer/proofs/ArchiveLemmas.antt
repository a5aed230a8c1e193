-- NEW_DYNAMIC and NEW_FIXED are the store's: a writer's open archives, and what goes on with them.
use Rattle.disk_trait.specs.declared.disk.Disk.{Ghosts}
use Rattle.std.proofs.Common.{◌≡◌, ℕ, zero, suc, ◌*◌, ◌<◌, ◌≤◌, Bool, true, false, not, ◌||◌, nat_le, length, get_or, set, None, take, pos, slice_index, List, [], ◌∷◌, ◌++◌, Result, Ok, Err, refl, sym, ap, ap₂, subst, ◌∙◌, arith}
use Rattle.std.proofs.lemmas.Bool.{or_parts, and_parts, and_from, leb-true}
use Rattle.std.proofs.lemmas.List.{length-append, length-replicate, length-set, length-take-le}
use Rattle.std.proofs.lemmas.List.Elements.{All-nil, All-cons, All-append}
use Rattle.std.proofs.lemmas.Slice.Eq.{bytes_eq-Decides}
use Rattle.std.specs.Bool.{IsTrue}
use Rattle.std.specs.Int.{w32, w64, to_be_bytes}
use Rattle.std.specs.List.{AllByRecursion, list_any, list_all}
use Rattle.std.specs.Prelude.{FitsSigned}
use Rattle.std.specs.Str.{bytes_eq}
use Rattle.sha1.specs.Sha1.{sha1, digest_bytes}
use Rattle.uuid.specs.Parts.{zero_bytes, with_variant}
use Rattle.uuid.specs.declared.Variant.TheVariants.{RFC4122}
use Rattle.disk_trait.specs.Files.{Files}
use Rattle.store_types.specs.declared.names.SnapshotKey.{SnapshotKey}
use Rattle.store_types.specs.declared.refusal.Refusal.{Refusal}
use Rattle.store_types.specs.declared.refusal.Refusal.TheVariants.{BadName, WrongSize, TooMany}
use Rattle.store_types.specs.Chain.Refusing.{◌>>=◌, unless}
use Rattle.store_types.specs.FileNames.{is_index_name, is_fixed_name, is_dynamic_name}
use Rattle.store_types.specs.Names.{same_group, group_of_key}
use Rattle.store_files.specs.Cells.{entry_limit}
use Rattle.store_files.specs.Archive.{Archive, archive}
use Rattle.store_files.specs.FixedIndex.{is_chunk_size, piece_count}
use Rattle.wire_commands.specs.declared.reply.Reply.{Reply}
use Rattle.wire_commands.specs.declared.reply.Reply.TheVariants.{Number}
use Rattle.store_model.specs.Store as model
use Rattle.store_model.specs.Store.{Begun, Store, Outcome, Writer, writer, session, with_session}
use Rattle.store_model.specs.Uploads.{want_room}
use Rattle.store_files.specs.Folder.{file_path}
use Rattle.store_model.specs.Archives.{uuid_of, new_archive, want_number, free_number}
use Rattle.store_model.specs.ArchiveSteps as steps
use Rattle.store_model.specs.WriterCalls as calls
use Rattle.store_model.specs.WriterSteps as writing
use Rattle.store_model.specs.Steps.{outcome}
use Rattle.store_model.specs.Stands.{names_content}
use Rattle.backup_session.specs.Shown.{HasSizes}
use Rattle.core_state.specs.declared.kept.Session.{Session}
use Rattle.core_state.specs.declared.kept.Session.TheVariants as kept
use Rattle.core_state.specs.declared.kept.Writing.{Writing}
use Rattle.core_state.specs.declared.parts.Parts.{Parts}
use Rattle.core_state.specs.Holds.{IsBegun, reserved_len, has_named, names_differ, IsWriter, IsOnDisk, HasUploads, Holds, Shows}
use Rattle.core_state.specs.Named.{is_named}
use Rattle.core_state.proofs.NamedLemmas.{list_all-at, writer_named}
use Rattle.core_state.specs.Indexed.{FitsRows}
use Rattle.core_state.proofs.LockLemmas.{locked_writes_on}
use Rattle.core_state.proofs.Rows.{rows_writing}
use Rattle.core_state.proofs.Soundness.{IsAlone, sound_writer, disk_writer, shows_changed}
use Rattle.core_writer.specs.declared.archives.NewIndex.{NewIndex}
use Rattle.core_writer.specs.declared.archives.NewIndex.TheVariants.{Dynamic, Fixed}
use Rattle.core_writer.specs.Stepped.{GoesOn}
use Rattle.core_writer.specs.NewIndexes.{layout_of, new_command, new_plain}
use Rattle.core_writer.proofs.BlobStep.{has_room}
use Rattle.core_writer.proofs.FixedPieces.{size_fits}

-- ---- the lane's writer goes on as another of its snapshot

module _ {D : Type 0} (g : Ghosts D) where
  pub goes_on : (old new : Parts D) (s : Store) (lane : ℕ) (y : Session) (o : Outcome) (reply : Reply)
      → lane < 64 → new.disk ≡ old.disk → new.catalogue.listed ≡ old.catalogue.listed → new.sessions.items ≡ set old.sessions.items lane y → new.locks ≡ old.locks → new.indexes.items ≡ old.indexes.items
      → GoesOn s lane y o reply → Holds g old s → (after : Store) × (o ≡ Ok (after, reply)) × Shows new after × IsOnDisk (g.content old.disk) after
  goes_on old new s lane y o reply lt d c l k r on h =
      let sound = (h.shows).sound in
      let w = on.before in
      let v = on.after in
      let within : lane < length s.sessions = omega (arith, sound.lanes, lt) in
      let alone : IsAlone s lane v = λ i x ne is same.
      ne (sound.apart i lane x w is on.at (subst (λ (k : SnapshotKey). IsTrue (same_group (group_of_key x.key) (group_of_key k))) on.key same)) in (
        with_session s lane (writer v),
        on.step,
        shows_changed old new s lane (writer v) y c l on.shown (locked_writes_on old.locks new.locks s lane w v within k on.at on.key on.base (h.shows).locks)
            (subst (FitsRows (with_session s lane (writer v))) (sym r) (rows_writing s lane old.indexes.items within (h.shows).indexes w v on.at on.base on.pool)) (sound_writer s lane v lt on.is_writer alone sound) h.shows,
        disk_writer (g.content old.disk) s lane v within (on.uploads (g.content old.disk) (h.files.writers lane w on.at)) h.files,
      )

-- no file of the lane's writer is pending
pub settled_at : (items : List Session) (lane : ℕ) (found : Session) (w : Writing) → list_all is_named items ≡ true → lane < length items → found ≡ get_or items lane found → found ≡ kept.Writer w → (w.session).pending ≡ None
settled_at items lane found w named within at is =
    (writer_named w (sym (ap is_named is) ∙ list_all-at is_named items lane found named within at)).1

-- ---- NEW_DYNAMIC and NEW_FIXED, step by step

abbrev new_step : Store → ℕ → (Writer → Result (Writer × ℕ) Refusal) → Result Writer Refusal → Outcome
new_step s lane call wanted = wanted >>= λ w. call w >>= λ begun. writing.goes_on s lane begun.0 (Number begun.1)

step_by : (s : Store) (lane moment : ℕ) (name : List ℕ) (kind : NewIndex) → outcome s lane moment (new_command kind name) ≡ new_step s lane (λ w. new_plain kind w name moment) (model.want_writer (session s lane))
unfolding outcome steps.new_dynamic steps.new_fixed
step_by s lane moment name Dynamic = refl
step_by s lane moment name (Fixed size chunk_size) = refl

module _ (s : Store) (lane moment : ℕ) (kind : NewIndex) (name : List ℕ) where
  step_is : outcome s lane moment (new_command kind name) ≡ new_step s lane (λ w. new_plain kind w name moment) (model.want_writer (session s lane))
  step_is = step_by s lane moment name kind

  pub not_writing : (r : Refusal) → model.want_writer (session s lane) ≡ Err r → outcome s lane moment (new_command kind name) ≡ Err r
  not_writing r none = step_is ∙ ap (new_step s lane (λ w. new_plain kind w name moment)) none

  writing_is : (w : Writer) → session s lane ≡ writer w → outcome s lane moment (new_command kind name) ≡ (new_plain kind w name moment >>= λ begun. writing.goes_on s lane begun.0 (Number begun.1))
  writing_is w at = step_is ∙ ap (λ x. new_step s lane (λ w. new_plain kind w name moment) (model.want_writer x)) at

  pub refused : (w : Writer) (r : Refusal) → session s lane ≡ writer w → new_plain kind w name moment ≡ Err r → outcome s lane moment (new_command kind name) ≡ Err r
  refused w r at is = writing_is w at ∙ ap (λ x. x >>= λ begun. writing.goes_on s lane begun.0 (Number begun.1)) is

  pub begins : (w v : Writer) (n : ℕ) → session s lane ≡ writer w → new_plain kind w name moment ≡ Ok (v, n)
      → outcome s lane moment (new_command kind name) ≡ Ok (with_session s lane (writer v), Number n)
  unfolding writing.goes_on
  begins w v n at is = writing_is w at ∙ ap (λ x. x >>= λ begun. writing.goes_on s lane begun.0 (Number begun.1)) is

-- the name of no index
pub bad_name : (kind : NewIndex) (w : Writer) (name : List ℕ) (moment : ℕ) → is_index_name name ≡ false → new_plain kind w name moment ≡ Err BadName
unfolding calls.new_dynamic calls.new_fixed
bad_name Dynamic w name moment bad = let no = (or_parts (is_fixed_name name) (is_dynamic_name name) bad).1 in rw no refl
bad_name (Fixed size chunk_size) w name moment bad = let no = (or_parts (is_fixed_name name) (is_dynamic_name name) bad).0 in rw no refl

-- an archive of this kind without pieces
abbrev pub made : NewIndex → Writer → List ℕ → ℕ → Archive
made kind w name moment = new_archive (layout_of kind) (reserved_len (layout_of kind)) w.key name moment

-- what the tests gave
pub record IsNew (kind : NewIndex) (name : List ℕ) (moment : ℕ) (w v : Writer) : Type 0 where
  pub named : names_content (archive (made kind w name moment)) name ≡ true
  pub sizes : HasSizes (layout_of kind)
  pub room : want_room name w ≡ Ok tt
  pub same : v ≡ calls.begin w name (made kind w name moment)

writer_of : Writer → Result (Writer × ℕ) Refusal → Writer
writer_of w (Ok begun) = begun.0
writer_of w (Err r) = w

module _ (name : List ℕ) (moment n : ℕ) (w v : Writer) where
  abbrev begun : Archive → Result (Writer × ℕ) Refusal
  begun a = Ok (calls.begin w name a, free_number (calls.numbers w))

  dynamic_by : (a : Bool) (r t : Result (Unit {0}) Refusal) → is_dynamic_name name ≡ a → want_room name w ≡ r
      → (unless BadName a >>= λ _. r >>= λ _. t >>= λ _. begun (made Dynamic w name moment)) ≡ Ok (v, n) → IsNew Dynamic name moment w v
  unfolding writer_of
  dynamic_by false r t e f is = cc
  dynamic_by true (Err q) t e f is = cc
  dynamic_by true (Ok u) (Err q) e f is = cc
  dynamic_by true (Ok u) (Ok k) e f is = record { named = e; sizes = tt; room = f; same = sym (ap (writer_of w) is) }

  fixed_by : (size cut : ℕ) (a b c : Bool) (r t : Result (Unit {0}) Refusal) → is_fixed_name name ≡ a → want_room name w ≡ r → is_chunk_size cut ≡ b → nat_le (piece_count size cut) entry_limit ≡ c
      → (unless BadName a >>= λ _. r >>= λ _. t >>= λ _. (unless (WrongSize 0 cut) b >>= λ _. unless (TooMany entry_limit) c) >>= λ _. begun (made (Fixed size cut) w name moment)) ≡ Ok (v, n) → IsNew (Fixed size cut) name moment w v
  unfolding writer_of
  fixed_by size cut false b c r t e f g h is = cc
  fixed_by size cut true b c (Err q) t e f g h is = cc
  fixed_by size cut true b c (Ok u) (Err q) e f g h is = cc
  fixed_by size cut true false c (Ok u) (Ok k) e f g h is = cc
  fixed_by size cut true true false (Ok u) (Ok k) e f g h is = cc
  fixed_by size cut true true true (Ok u) (Ok k) e f g h is =
      let limit = leb-true (piece_count size cut) entry_limit h in
      record { named = e; sizes = (record { chunk_size = g; limit = limit }, size_fits size cut g limit); room = f; same = sym (ap (writer_of w) is) }

pub is_new : (kind : NewIndex) (name : List ℕ) (moment n : ℕ) (w v : Writer) → new_plain kind w name moment ≡ Ok (v, n) → IsNew kind name moment w v
unfolding calls.new_dynamic calls.new_fixed
is_new Dynamic name moment n w v is = dynamic_by name moment n w v _ _ (want_number (length w.begun)) refl refl is
is_new (Fixed size cut) name moment n w v is = fixed_by name moment n w v size cut _ _ _ _ (want_number (length w.begun)) refl refl refl refl is

-- ---- soundness

unlike : (a b : List ℕ) → bytes_eq a b ≡ false → bytes_eq b a ≡ false
unlike a b e = by_test (bytes_eq b a) refl
  where
    both : true ≡ false → ⊥
    both e = cc

    by_test : (t : Bool) → bytes_eq b a ≡ t → t ≡ false
    by_test true is = absurd (both (sym ((bytes_eq-Decides a b).1 (sym ((bytes_eq-Decides b a).0 is))) ∙ e))
    by_test false is = refl

any_more : {A : Type 0} (p : A → Bool) (xs : List A) (x : A) → list_any p xs ≡ false → p x ≡ false → list_any p (xs ++ x ∷ []) ≡ false
any_more p [] x none is = ap (λ b. b || false) is
any_more p (y ∷ ys) x none is = let both = or_parts (p y) (list_any p ys) none in ap₂ (λ a b. a || b) both.0 (any_more p ys x both.1 is)

differ_more : (bs : List Begun) (b : Begun) → names_differ bs ≡ true → list_any (λ x. bytes_eq x.name b.name) bs ≡ false → names_differ (bs ++ b ∷ []) ≡ true
differ_more [] b differ free = refl
differ_more (c ∷ bs) b differ free =
    let both = and_parts (not (list_any (λ x. bytes_eq x.name c.name) bs)) (names_differ bs) differ in
    let apart = or_parts (bytes_eq c.name b.name) (list_any (λ x. bytes_eq x.name b.name) bs) free in
    and_from (not (list_any (λ x. bytes_eq x.name c.name) (bs ++ b ∷ []))) (names_differ (bs ++ b ∷ []))
    (ap not (any_more (λ x. bytes_eq x.name c.name) bs b (none _ both.0) (unlike c.name b.name apart.0))) (differ_more bs b both.1 apart.1)
  where
    none : (t : Bool) → not t ≡ true → t ≡ false
    none true e = cc
    none false e = refl

begun_more : (pool : List (List ℕ)) (bs : List Begun) (b : Begun) → AllByRecursion (IsBegun pool) bs → IsBegun pool b → AllByRecursion (IsBegun pool) (bs ++ b ∷ [])
begun_more pool [] b all is = (is, tt)
begun_more pool (c ∷ bs) b all is = (all.0, begun_more pool bs b all.1 is)

digest_length : (h : List ℕ) (n : ℕ) → length (digest_bytes h n) ≡ n * 4
unfolding digest_bytes
digest_length h zero = refl
digest_length h (suc n) = omega (arith, length-append (digest_bytes h n) (to_be_bytes w32 (slice_index h n)), digest_length h n, four (slice_index h n))
  where
    four : (x : ℕ) → length (to_be_bytes w32 x) ≡ 4
    four x = refl

sha1_length : (m : List ℕ) → length (sha1 m) ≡ 20
unfolding sha1
sha1_length m = digest_length _ 5

-- an identifier has 16 bytes
pub uuid_length : (key : SnapshotKey) (name : List ℕ) → length (uuid_of key name) ≡ 16
unfolding uuid_of
uuid_length key name =
    let text = sha1 (zero_bytes ++ file_path key name) in
    let long : 16 ≤ length text = omega (arith, sha1_length (zero_bytes ++ file_path key name)) in
    let cut = take 16 text in
    let marked = with_variant cut RFC4122 in
    length-set marked 6 _ ∙ length-set cut 8 _ ∙ length-take-le 16 text long

pub is_writer_begun : (s : Store) (kind : NewIndex) (w v : Writer) (name : List ℕ) (moment : ℕ) → length (uuid_of w.key name) ≡ 16 → FitsSigned w64 (pos moment) → IsNew kind name moment w v → IsWriter s.snapshots w → IsWriter s.snapshots v
is_writer_begun s kind w v name moment uuid ctime is h =
    let a = made kind w name moment in
    let b : Begun = record { number = free_number (calls.numbers w); name = name; archive = a } in
    let room = has_room name w is.room in
    let new : IsWriter s.snapshots (calls.begin w name a) = record {
      key = h.key;
      newer = h.newer;
      room = h.room;
      names = h.names;
      kinds = h.kinds;
      contents = h.contents;
      count = omega (arith, length-append w.begun (b ∷ []), room.room);
      pool = h.pool;
      begun = begun_more w.pool w.begun b h.begun (record {
        is_open = record { name = is.named; sizes = is.sizes; pieces = refl };
        uuid = uuid;
        ctime = ctime;
        reserved = length-replicate {A = ℕ} (reserved_len (layout_of kind)) 0;
        limit = omega arith;
        pieces = All-nil _;
      });
      pooled = h.pooled;
      free = All-append (λ (x : Begun). has_named x.name w.files ≡ false) w.begun (b ∷ []) h.free (All-cons (λ (x : Begun). has_named x.name w.files ≡ false) b [] room.free (All-nil _));
      differ = differ_more w.begun b h.differ room.free_open;
    } in
    subst (IsWriter s.snapshots) (sym is.same) new

pub has_uploads_begun : (m : Files) (kind : NewIndex) (w v : Writer) (name : List ℕ) (moment : ℕ) → IsNew kind name moment w v → HasUploads m w → HasUploads m v
has_uploads_begun m kind w v name moment is h =
    let new : HasUploads m (calls.begin w name (made kind w name moment)) = record { files = h.files; pool = h.pool } in
    subst (HasUploads m) (sym is.same) new
