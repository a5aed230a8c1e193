-- The commands on archives, by how their tests came out.
use Rattle.std.proofs.Common.{◌≡◌, ℕ, List, [], ◌∷◌, length, map, Result, Ok, Err, refl, sym, ap, subst, ◌∙◌}
use Rattle.store_types.specs.declared.append.AppendEntry.{AppendEntry}
use Rattle.store_types.specs.declared.names.Digest32.{Digest32}
use Rattle.store_types.specs.declared.refusal.Refusal.{Refusal}
use Rattle.store_types.specs.declared.refusal.Refusal.TheVariants.{BadName, NoFile}
use Rattle.store_types.specs.Chain.Refusing.{◌>>=◌, unless, or_else}
use Rattle.store_types.specs.FileNames.{is_fixed_name, is_dynamic_name}
use Rattle.store_files.specs.Archive.{dynamic, fixed, File, archive, content_of, csum_by, archive_text}
use Rattle.wire_commands.specs.declared.reply.Reply.{Reply}
use Rattle.wire_commands.specs.declared.reply.Reply.TheVariants.{Done, Number}
use Rattle.store_model.specs.Store.{Store, Session, Begun, Writer, writer, session, with_session, want_writer}
use Rattle.store_model.specs.Uploads.{want_room}
use Rattle.store_model.specs.WriterSteps.{goes_on, with_pool, with_file}
use Rattle.store_model.specs.Archives.{new_archive, want_sizes, want_number, free_number, change_first, without_first, want_entries, want_facts}
use Rattle.store_model.specs.WriterCalls as calls
use Rattle.store_model.specs.WriterCalls.{numbers, begin, has_number, begun_at, with_pieces}
use Rattle.store_model.specs.ArchiveSteps.{new_fixed, new_dynamic, check_chunk, checked_chunk, put_chunk, append, close_index, named}
use Rattle.plain_sessions.specs.declared.changes.Change.{Change}
use Rattle.plain_sessions.specs.declared.changes.Change.TheVariants.{Begin, Close}
use Rattle.plain_sessions.specs.Archiving.{begun_of, fixed_begun_of, pieces_from, appended, closed_of}
use Rattle.plain_sessions.specs.Changes.{changed, changed_in, FitsWriter, FitsSession}
use Rattle.plain_store.proofs.WriterLemmas.{is_writer}

-- ---- changes

module _ (s : Store) (lane : ℕ) (w : Writer) (is : want_writer (session s lane) ≡ Ok w) where
  pub writer_changed : (change : Change) → with_session s lane (changed_in change (session s lane)) ≡ with_session s lane (writer (changed change w))
  writer_changed change = ap (λ x. with_session s lane (changed_in change x)) (is_writer (session s lane) w is)

  pub writer_fits : (change : Change) → FitsWriter change w → FitsSession change (session s lane)
  writer_fits change fits = subst (λ x. FitsSession change x) (sym (is_writer (session s lane) w is)) fits

-- a change that needs no room
pub fits_anyway : (change : Change) (x : Session) → ((w : Writer) → FitsWriter change w) → FitsSession change x
fits_anyway change (writer w) fits = fits w
fits_anyway change _ fits = tt

-- ---- tests in a row

three_in_row : {A B R U : Type 0} (a b c : Result U Refusal) (x : A) (y : B) (f : A → Result R Refusal) (g : B → Result R Refusal) → f x ≡ g y
    → ((a >>= λ _. b >>= λ _. c >>= λ _. (let r : Result A Refusal = Ok x in r)) >>= f) ≡ ((a >>= λ _. b >>= λ _. c >>= λ _. (let r : Result B Refusal = Ok y in r)) >>= g)
three_in_row (Err e) b c x y f g same = refl
three_in_row (Ok t) (Err e) c x y f g same = refl
three_in_row (Ok t) (Ok u) (Err e) x y f g same = refl
three_in_row (Ok t) (Ok u) (Ok v) x y f g same = same

then_given : {B C R U : Type 0} (t : Result U Refusal) (q : Result B Refusal) (h : B → C) (k : C → Result R Refusal)
    → ((t >>= λ _. q >>= λ p. (let r : Result C Refusal = Ok (h p) in r)) >>= k) ≡ ((t >>= λ _. q) >>= λ p. k (h p))
then_given (Err e) q h k = refl
then_given (Ok u) (Err e) h k = refl
then_given (Ok u) (Ok p) h k = refl

then_made : {B C R U : Type 0} (t : Result U Refusal) (x : B) (y : C) (k : B → Result R Refusal) (l : C → Result R Refusal) → k x ≡ l y
    → ((t >>= λ _. (let r : Result B Refusal = Ok x in r)) >>= k) ≡ ((t >>= λ _. (let r : Result C Refusal = Ok y in r)) >>= l)
then_made (Err e) x y k l same = refl
then_made (Ok u) x y k l same = same

four_in_row : {A B R U : Type 0} (a b c d : Result U Refusal) (x : A) (y : B) (f : A → Result R Refusal) (g : B → Result R Refusal) → f x ≡ g y
    → ((a >>= λ _. b >>= λ _. c >>= λ _. d >>= λ _. (let r : Result A Refusal = Ok x in r)) >>= f) ≡ ((a >>= λ _. b >>= λ _. c >>= λ _. d >>= λ _. (let r : Result B Refusal = Ok y in r)) >>= g)
four_in_row (Err e) b c d x y f g same = refl
four_in_row (Ok t) b c d x y f g same = three_in_row b c d x y f g same

-- ---- NEW_FIXED

abbrev begins_at : Store → ℕ → Writer → Begun → Result (Store × Reply) Refusal
begins_at s lane w b = Ok (with_session s lane (writer (changed (Begin b) w)), Number b.number)

module _ (s : Store) (lane moment : ℕ) (name : List ℕ) (size chunk_size : ℕ) where
  pub fixed_not_writer : (r : Refusal) → want_writer (session s lane) ≡ Err r → new_fixed s lane moment name size chunk_size ≡ Err r
  unfolding new_fixed
  fixed_not_writer r e = rw e refl

  module _ (w : Writer) (is : want_writer (session s lane) ≡ Ok w) where
    fixed_tests : new_fixed s lane moment name size chunk_size ≡ (fixed_begun_of w name size chunk_size moment >>= begins_at s lane w)
    unfolding new_fixed calls.new_fixed goes_on
    fixed_tests =
        rw is
        (four_in_row (unless BadName (is_fixed_name name)) (want_room name w) (want_number (length w.begun)) (want_sizes size chunk_size)
        (begin w name (new_archive (fixed size chunk_size) 4016 w.key name moment), free_number (numbers w))
        (record { number = free_number (numbers w); name = name; archive = new_archive (fixed size chunk_size) 4016 w.key name moment })
        (λ x. Ok (with_session s lane (writer x.0), Number x.1)) (begins_at s lane w) refl)

    pub fixed_refused : (r : Refusal) → fixed_begun_of w name size chunk_size moment ≡ Err r → new_fixed s lane moment name size chunk_size ≡ Err r
    fixed_refused r h = fixed_tests ∙ ap (λ t. t >>= begins_at s lane w) h

    pub fixed_goes : (b : Begun) → fixed_begun_of w name size chunk_size moment ≡ Ok b
        → new_fixed s lane moment name size chunk_size ≡ Ok (with_session s lane (writer (changed (Begin b) w)), Number b.number)
    fixed_goes b h = fixed_tests ∙ ap (λ t. t >>= begins_at s lane w) h

-- ---- NEW_DYNAMIC

module _ (s : Store) (lane moment : ℕ) (name : List ℕ) where
  pub new_not_writer : (r : Refusal) → want_writer (session s lane) ≡ Err r → new_dynamic s lane moment name ≡ Err r
  unfolding new_dynamic
  new_not_writer r e = rw e refl

  module _ (w : Writer) (is : want_writer (session s lane) ≡ Ok w) where
    abbrev begins : Begun → Result (Store × Reply) Refusal
    begins b = Ok (with_session s lane (writer (changed (Begin b) w)), Number b.number)

    new_tests : new_dynamic s lane moment name ≡ (begun_of w name moment >>= begins)
    unfolding new_dynamic calls.new_dynamic goes_on
    new_tests =
        rw is
        (three_in_row (unless BadName (is_dynamic_name name)) (want_room name w) (want_number (length w.begun))
        (begin w name (new_archive dynamic 4032 w.key name moment), free_number (numbers w))
        (record { number = free_number (numbers w); name = name; archive = new_archive dynamic 4032 w.key name moment })
        (λ x. Ok (with_session s lane (writer x.0), Number x.1)) begins refl)

    pub new_refused : (r : Refusal) → begun_of w name moment ≡ Err r → new_dynamic s lane moment name ≡ Err r
    new_refused r h = new_tests ∙ ap (λ t. t >>= begins) h

    pub new_goes : (b : Begun) → begun_of w name moment ≡ Ok b → new_dynamic s lane moment name ≡ Ok (with_session s lane (writer (changed (Begin b) w)), Number b.number)
    new_goes b h = new_tests ∙ ap (λ t. t >>= begins) h

-- where an archive is begun there is room for it
-- ---- CHUNK

module _ (s : Store) (lane : ℕ) (digest : Digest32) (bytes : List ℕ) where
  pub chunk_not_writer : (r : Refusal) → want_writer (session s lane) ≡ Err r → put_chunk s lane digest bytes ≡ Err r
  unfolding put_chunk checked_chunk
  chunk_not_writer r e = rw e refl

  module _ (w : Writer) (is : want_writer (session s lane) ≡ Ok w) where
    pub chunk_refused : (r : Refusal) → check_chunk digest bytes ≡ Err r → put_chunk s lane digest bytes ≡ Err r
    unfolding put_chunk checked_chunk
    chunk_refused r h = rw (is, h) refl

    pub chunk_goes : (piece : List ℕ) (pieces : List (List ℕ)) → check_chunk digest bytes ≡ Ok piece → pieces ≡ piece ∷ []
        → put_chunk s lane digest bytes ≡ Ok (with_session s lane (writer (with_pool pieces w)), Done)
    unfolding put_chunk checked_chunk goes_on
    chunk_goes piece pieces h one = rw (is, h, one) refl

-- ---- APPEND

module _ (s : Store) (lane number : ℕ) (entries : List AppendEntry) where
  pub append_not_writer : (r : Refusal) → want_writer (session s lane) ≡ Err r → append s lane number entries ≡ Err r
  unfolding append
  append_not_writer r e = rw e refl

  module _ (w : Writer) (is : want_writer (session s lane) ≡ Ok w) where
    abbrev grown : List (List ℕ) → Result (Store × Reply) Refusal
    grown pieces = Ok (with_session s lane (writer (record w { begun = change_first (has_number number) (with_pieces pieces) w.begun })), Done)

    append_tests : append s lane number entries ≡ (appended w number (map named entries) >>= grown)
    unfolding append calls.append goes_on
    append_tests = rw is (by_begun (or_else NoFile (begun_at number w)))
      where
        by_begun : (o : Result Begun Refusal)
            → ((o >>= λ b. want_entries (length (b.archive).pieces) (length (map named entries)) >>= λ _.
            pieces_from w.pool (b.archive).layout 0 (length (content_of b.archive)) (map named entries) >>= λ pieces.
            (let r : Result (Writer × Unit {0}) Refusal = Ok (record w { begun = change_first (has_number number) (with_pieces pieces) w.begun }, tt) in r)) >>= λ x. goes_on s lane x.0 Done)
            ≡ ((o >>= λ b. want_entries (length (b.archive).pieces) (length (map named entries)) >>= λ _.
            pieces_from w.pool (b.archive).layout 0 (length (content_of b.archive)) (map named entries)) >>= grown)
        by_begun (Err e) = refl
        by_begun (Ok b) =
            then_given (want_entries (length (b.archive).pieces) (length (map named entries)))
            (pieces_from w.pool (b.archive).layout 0 (length (content_of b.archive)) (map named entries))
            (λ pieces. (record w { begun = change_first (has_number number) (with_pieces pieces) w.begun }, tt)) (λ x. goes_on s lane x.0 Done)

    pub append_refused : (r : Refusal) → appended w number (map named entries) ≡ Err r → append s lane number entries ≡ Err r
    append_refused r h = append_tests ∙ ap (λ t. t >>= grown) h

    pub append_goes : (pieces : List (List ℕ)) → appended w number (map named entries) ≡ Ok pieces
        → append s lane number entries ≡ Ok (with_session s lane (writer (record w { begun = change_first (has_number number) (with_pieces pieces) w.begun })), Done)
    append_goes pieces h = append_tests ∙ ap (λ t. t >>= grown) h

-- ---- CLOSE_INDEX

module _ (s : Store) (lane number count size : ℕ) (csum : Digest32) where
  pub close_not_writer : (r : Refusal) → want_writer (session s lane) ≡ Err r → close_index s lane number count size csum ≡ Err r
  unfolding close_index
  close_not_writer r e = rw e refl

  module _ (w : Writer) (is : want_writer (session s lane) ≡ Ok w) where
    abbrev closes : File → Result (Store × Reply) Refusal
    closes f = Ok (with_session s lane (writer (changed (Close number f) w)), Done)

    abbrev facts : Begun → Result (Unit {0}) Refusal
    facts b = want_facts (b.archive).layout (length (b.archive).pieces) (length (content_of b.archive)) (csum_by (b.archive).layout b.archive) count size csum

    close_tests : close_index s lane number count size csum ≡ (closed_of w number count size csum >>= closes)
    unfolding close_index calls.close_index goes_on
    close_tests = rw is (by_begun (or_else NoFile (begun_at number w)))
      where
        by_begun : (o : Result Begun Refusal)
            → ((o >>= λ b. facts b >>= λ _.
            (let r : Result (Writer × List ℕ) Refusal = Ok (with_file b.name (archive b.archive) (record w { begun = without_first (has_number number) w.begun }), archive_text b.archive) in r)) >>= λ x. goes_on s lane x.0 Done)
            ≡ ((o >>= λ b. facts b >>= λ _. (let r : Result File Refusal = Ok (record { name = b.name; content = archive b.archive }) in r)) >>= closes)
        by_begun (Err e) = refl
        by_begun (Ok b) =
            then_made (facts b)
            (with_file b.name (archive b.archive) (record w { begun = without_first (has_number number) w.begun }), archive_text b.archive)
            (record { name = b.name; content = archive b.archive }) (λ x. goes_on s lane x.0 Done) closes refl

    pub close_refused : (r : Refusal) → closed_of w number count size csum ≡ Err r → close_index s lane number count size csum ≡ Err r
    close_refused r h = close_tests ∙ ap (λ t. t >>= closes) h

    pub close_goes : (f : File) → closed_of w number count size csum ≡ Ok f
        → close_index s lane number count size csum ≡ Ok (with_session s lane (writer (changed (Close number f) w)), Done)
    close_goes f h = close_tests ∙ ap (λ t. t >>= closes) h
