-- A writer's commands, by how their tests came out.
use Rattle.std.proofs.Common.{◌≡◌, ℕ, true, false, set, List, length, Option, None, Some, Result, Ok, Err, refl, sym, ap, ◌∙◌}
use Rattle.std.specs.Prelude.{nat_lt, is_some}
use Rattle.store_types.specs.declared.names.SnapshotKey.{SnapshotKey}
use Rattle.store_types.specs.declared.refusal.Refusal.{Refusal}
use Rattle.store_types.specs.declared.refusal.Refusal.TheVariants.{BadName, GroupBusy, TooMany, NoSnapshot, NoFile}
use Rattle.store_types.specs.Chain.Refusing.{◌>>=◌, unless, or_else, if_none}
use Rattle.store_types.specs.FileNames.{is_file_name, is_blob_name}
use Rattle.store_types.specs.Names.{group_of_key}
use Rattle.store_files.specs.Archive.{File, Snapshot, blob, pieces_of, file_named}
use Rattle.wire_commands.specs.declared.reply.Reply.{Reply}
use Rattle.wire_commands.specs.declared.reply.Reply.TheVariants.{Done, Base}
use Rattle.store_model.specs.Store.{Store, Session, Writer, none, writer, reader, session, with_session, want_writer, group_holder, in_group, latest_in, insert_snapshot, insert_file, ended}
use Rattle.store_model.specs.Uploads.{want_room}
use Rattle.store_model.specs.Heads.{idle_key}
use Rattle.store_model.specs.WriterSteps.{open_writer, new_writer, base_text, want_newer, with_pool, base_of as base_snapshot, previous, want_data, checked_blob, put_blob, goes_on, finish, snapshot_of, abort}
use Rattle.store_model.specs.Manifests.{finish_check}
use Rattle.plain_sessions.specs.Uploading.{upload_of}
use Rattle.plain_sessions.specs.Finishing.{finished_of}
use Rattle.plain_store.specs.Writers.{base_of}
use Rattle.plain_store.specs.Parts.{file_part}
use Rattle.plain_store.proofs.PartLemmas.{in_range, its_part, part_in_row}

-- ---- tests in a row

err_is : {A : Type 0} (r q : Refusal) → (let e : Result A Refusal = Err r in e ≡ Err q) → r ≡ q
err_is r q e = cc

ok_is : {A : Type 0} (a b : A) → (let e : Result A Refusal = Ok a in e ≡ Ok b) → a ≡ b
ok_is a b e = cc

-- two tests, and a third with a value
module _ {A B C U : Type 0} (f : A → B) (go : A → Result C Refusal) where
  refused_in_row : (a b : Result U Refusal) (c : Result A Refusal) (r : Refusal)
      → (a >>= λ _. b >>= λ _. c >>= λ x. (let y : Result B Refusal = Ok (f x) in y)) ≡ Err r → (a >>= λ _. b >>= λ _. c >>= go) ≡ Err r
  refused_in_row (Err e) b c r h = ap (λ q. Err q) (err_is {A = B} e r h)
  refused_in_row (Ok t) (Err e) c r h = ap (λ q. Err q) (err_is {A = B} e r h)
  refused_in_row (Ok t) (Ok u) (Err e) r h = ap (λ q. Err q) (err_is {A = B} e r h)
  refused_in_row (Ok t) (Ok u) (Ok x) r h = cc

  passed_in_row : (a b : Result U Refusal) (c : Result A Refusal) (z : B)
      → (a >>= λ _. b >>= λ _. c >>= λ x. (let y : Result B Refusal = Ok (f x) in y)) ≡ Ok z
      → (x : A) × ((a >>= λ _. b >>= λ _. c >>= go) ≡ go x) × (f x ≡ z)
  passed_in_row (Err e) b c z h = cc
  passed_in_row (Ok t) (Err e) c z h = cc
  passed_in_row (Ok t) (Ok u) (Err e) z h = cc
  passed_in_row (Ok t) (Ok u) (Ok x) z h = (x, refl, ok_is {A = B} (f x) z h)

-- ---- OPEN_WRITER

abbrev is_free : Store → SnapshotKey → Result (Unit {0}) Refusal
is_free s key = if_none GroupBusy (group_holder s (group_of_key key))

abbrev is_newer : Store → SnapshotKey → Result (Unit {0}) Refusal
is_newer s key = want_newer key.time (latest_in (group_of_key key) s.snapshots)

abbrev has_room : Store → SnapshotKey → Result (Unit {0}) Refusal
has_room s key = unless (TooMany 4096) (nat_lt (length (in_group (group_of_key key) s.snapshots)) 4096)

module _ (s : Store) (lane moment : ℕ) (text : List ℕ) where
  pub open_not_begun : (r : Refusal) → idle_key s lane text ≡ Err r → open_writer s lane moment text ≡ Err r
  unfolding open_writer
  open_not_begun r e = rw e refl

  module _ (key : SnapshotKey) (begins : idle_key s lane text ≡ Ok key) where
    abbrev latest : Unit {0} → Option SnapshotKey
    latest _ = latest_in (group_of_key key) s.snapshots

    abbrev opened : Option SnapshotKey → Store × Reply
    opened base = (with_session s lane (writer (new_writer key moment base)), Base (base_text base))

    abbrev goes : Unit {0} → Result (Store × Reply) Refusal
    goes _ = Ok (opened (latest_in (group_of_key key) s.snapshots))

    tests_are : open_writer s lane moment text ≡ (is_free s key >>= λ _. is_newer s key >>= λ _. has_room s key >>= goes)
    unfolding open_writer goes_on
    tests_are = rw begins refl

    pub open_refused : (r : Refusal) → base_of s key ≡ Err r → open_writer s lane moment text ≡ Err r
    open_refused r h = tests_are ∙ refused_in_row latest goes (is_free s key) (is_newer s key) (has_room s key) r h

    pub open_goes : (base copy : Option SnapshotKey) (told : List ℕ) (w : Writer) (after : Store)
        → base_of s key ≡ Ok base → copy ≡ base → told ≡ base_text base → w ≡ new_writer key moment copy
        → after ≡ with_session s lane (writer w) → open_writer s lane moment text ≡ Ok (after, Base told)
    open_goes base copy told w after h same tells new is =
        let p = passed_in_row latest goes (is_free s key) (is_newer s key) (has_room s key) base h in
        tests_are ∙ p.1 ∙ ap (λ b. Ok (opened b)) p.2 ∙ rw (is, new, same, tells) refl

-- ---- PREVIOUS

module _ (s : Store) (lane : ℕ) (name : List ℕ) (offset : ℕ) where
  pub previous_not_writer : (r : Refusal) → want_writer (session s lane) ≡ Err r → previous s lane name offset ≡ Err r
  unfolding previous
  previous_not_writer r e = rw e refl

  module _ (w : Writer) (e : want_writer (session s lane) ≡ Ok w) where
    pub previous_no_name : is_file_name name ≡ false → previous s lane name offset ≡ Err BadName
    unfolding previous
    previous_no_name bad = rw (e, bad) refl

    module _ (good : is_file_name name ≡ true) where
      abbrev after_base : Snapshot → Result (Store × Reply) Refusal
      after_base base =
          or_else NoFile (file_named name base.files) >>= λ f. in_range f offset >>= λ _. goes_on s lane (with_pool (pieces_of f.content) w) (its_part f offset)

      by_base : previous s lane name offset ≡ (or_else NoSnapshot (base_snapshot s w) >>= after_base)
      unfolding previous
      by_base = rw (e, good) refl

      pub previous_no_base : base_snapshot s w ≡ None → previous s lane name offset ≡ Err NoSnapshot
      previous_no_base gone = by_base ∙ ap (λ o. or_else NoSnapshot o >>= after_base) gone

      module _ (base : Snapshot) (there : base_snapshot s w ≡ Some base) where
        abbrev looks : File × Reply → Result (Store × Reply) Refusal
        looks x = Ok (with_session s lane (writer (with_pool (pieces_of (x.0).content) w)), x.1)

        looks_are : previous s lane name offset ≡ (file_part base.files name offset >>= looks)
        unfolding goes_on
        looks_are = by_base ∙ ap (λ o. or_else NoSnapshot o >>= after_base) there ∙ part_in_row (or_else NoFile (file_named name base.files)) offset looks

        pub previous_refused : (r : Refusal) → file_part base.files name offset ≡ Err r → previous s lane name offset ≡ Err r
        previous_refused r h = looks_are ∙ ap (λ p. p >>= looks) h

        pub previous_goes : (f : File) (reply : Reply) (pieces : List (List ℕ)) (after : Store) → file_part base.files name offset ≡ Ok (f, reply) → pieces ≡ pieces_of f.content
            → after ≡ with_session s lane (writer (with_pool pieces w)) → previous s lane name offset ≡ Ok (after, reply)
        previous_goes f reply pieces after h same is =
            looks_are ∙ ap (λ p. p >>= looks) h ∙ ap (λ ps. Ok (with_session s lane (writer (with_pool ps w)), reply)) (sym same) ∙ ap (λ a. Ok (a, reply)) (sym is)

-- ---- BLOB

pub is_writer : (x : Session) (w : Writer) → want_writer x ≡ Ok w → x ≡ writer w
is_writer none w h = cc
is_writer (writer v) w h = ap (λ u. writer u) (ok_is {A = Writer} v w h)
is_writer (reader r) w h = cc

module _ (s : Store) (lane : ℕ) (name bytes : List ℕ) where
  pub put_not_writer : (r : Refusal) → want_writer (session s lane) ≡ Err r → put_blob s lane name bytes ≡ Err r
  unfolding put_blob checked_blob
  put_not_writer r e = rw e refl

  module _ (w : Writer) (is : want_writer (session s lane) ≡ Ok w) where
    abbrev file : List ℕ → File
    file x = record { name = name; content = blob x }

    abbrev puts : File → Result (Store × Reply) Refusal
    puts f = Ok (with_session s lane (writer (record w { files = insert_file f w.files })), Done)

    abbrev goes_with : List ℕ → Result (Store × Reply) Refusal
    goes_with x = puts (file x)

    put_tests : put_blob s lane name bytes ≡ (unless BadName (is_blob_name name) >>= λ _. want_room name w >>= λ _. want_data bytes >>= goes_with)
    unfolding put_blob checked_blob goes_on
    put_tests = rw is refl

    pub put_refused : (r : Refusal) → upload_of w name bytes ≡ Err r → put_blob s lane name bytes ≡ Err r
    put_refused r h = put_tests ∙ refused_in_row file goes_with (unless BadName (is_blob_name name)) (want_room name w) (want_data bytes) r h

    pub put_goes : (f : File) → upload_of w name bytes ≡ Ok f
        → put_blob s lane name bytes ≡ Ok (with_session s lane (writer (record w { files = insert_file f w.files })), Done)
    put_goes f h =
        let p = passed_in_row file goes_with (unless BadName (is_blob_name name)) (want_room name w) (want_data bytes) f h in
        put_tests ∙ p.1 ∙ ap puts p.2

-- ---- FINISH

made_in_row : {A C U : Type 0} (t : Result U Refusal) (x : A) (k : A → Result C Refusal) → (t >>= λ _. k x) ≡ ((t >>= λ _. (let r : Result A Refusal = Ok x in r)) >>= k)
made_in_row (Err e) x k = refl
made_in_row (Ok u) x k = refl

module _ (s : Store) (lane : ℕ) where
  pub finish_not_writer : (r : Refusal) → want_writer (session s lane) ≡ Err r → finish s lane ≡ Err r
  unfolding finish
  finish_not_writer r e = rw e refl

  module _ (w : Writer) (e : want_writer (session s lane) ≡ Ok w) where
    abbrev finishes : Snapshot → Result (Store × Reply) Refusal
    finishes x = Ok (record (with_session s lane none) { snapshots = insert_snapshot x s.snapshots }, Done)

    finish_tests : finish s lane ≡ (finished_of w >>= finishes)
    unfolding finish
    finish_tests = rw e (made_in_row (finish_check w) (snapshot_of w) finishes)

    pub finish_refused : (r : Refusal) → finished_of w ≡ Err r → finish s lane ≡ Err r
    finish_refused r h = finish_tests ∙ ap (λ t. t >>= finishes) h

    -- as the code does it
    pub finish_as : (x : Snapshot) → finished_of w ≡ Ok x → (snapshots new : List Snapshot) (sessions : List Session) (after : Store)
        → (let store : Store = record { snapshots = snapshots; sessions = sessions } in store ≡ s)
        → new ≡ insert_snapshot x snapshots → after ≡ record { snapshots = new; sessions = set sessions lane none } → finish s lane ≡ Ok (after, Done)
    finish_as x h snapshots new sessions after store placed is =
        let listed : snapshots ≡ s.snapshots = ap (λ (x : Store). x.snapshots) store in
        let held : sessions ≡ s.sessions = ap (λ (x : Store). x.sessions) store in
        finish_tests ∙ ap (λ t. t >>= finishes) h ∙ rw (is, placed, listed, held) refl

pub is_there : {A : Type 0} (o : Option A) → is_some o ≡ true → (x : A) × (o ≡ Some x)
is_there None h = cc
is_there (Some x) h = (x, refl)

pub is_absent : {A : Type 0} (o : Option A) → is_some o ≡ false → o ≡ None
is_absent None h = refl
is_absent (Some x) h = cc

-- ---- ABORT

module _ (s : Store) (lane : ℕ) where
  pub abort_not_writer : (r : Refusal) → want_writer (session s lane) ≡ Err r → abort s lane ≡ Err r
  unfolding abort
  abort_not_writer r e = rw e refl

  pub abort_goes : (w : Writer) (after : Store) → want_writer (session s lane) ≡ Ok w → after ≡ ended s lane → abort s lane ≡ Ok (after, Done)
  unfolding abort
  abort_goes w after e is = rw (e, is) refl
