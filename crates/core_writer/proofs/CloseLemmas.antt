-- CLOSE_INDEX is the store's: the open archive becomes a file.
use Rattle.std.proofs.Common.{◌≡◌, ◌+◌, ℕ, Bool, true, false, not, ◌||◌, cond, length, get_or, map, List, [], ◌∷◌, Option, Some, None, Result, Ok, Err, IfErr, IsErrAnd, IsErrOf, nat_le, refl, sym, ap, subst, ◌∙◌, arith}
use Rattle.std.proofs.lemmas.Bool.{and_parts, and_from, or_parts}
use Rattle.std.proofs.lemmas.List.Elements.{All-cons, All-head, All-tail, All-contains, All-weaker}
use Rattle.std.specs.List.{All, AllByRecursion, Contains, find, list_any}
use Rattle.std.specs.Option.{option_map}
use Rattle.std.specs.Prelude.{◌==◌}
use Rattle.std.specs.Str.{bytes_eq}
use Rattle.store_types.specs.declared.names.Digest32.{Digest32}
use Rattle.store_types.specs.declared.refusal.CloseFault.{CloseFault}
use Rattle.store_types.specs.declared.refusal.CloseFault.TheVariants.{Count, Size, Csum, Rest}
use Rattle.store_types.specs.declared.refusal.Refusal.{Refusal}
use Rattle.store_types.specs.declared.refusal.Refusal.TheVariants.{WrongState, NoFile, BadClose}
use Rattle.store_types.specs.declared.refusal.Refusal.TheVariants as refusals
use Rattle.store_types.specs.Chain.Refusing.{◌>>=◌, unless, or_else}
use Rattle.store_files.specs.Archive.{Layout, dynamic, fixed, Archive, archive, File, archive_text, file_text, content_of, csum_by}
use Rattle.wire_commands.specs.declared.command.Command.TheVariants.{CloseIndex}
use Rattle.wire_commands.specs.declared.reply.Reply.TheVariants.{Done, Refused}
use Rattle.store_model.specs.Store as model
use Rattle.store_model.specs.Store.{Begun, Store, Writer, writer, session, with_session}
use Rattle.store_model.specs.Archives.{without_first, want_facts, want_size}
use Rattle.store_model.specs.ArchiveSteps as steps
use Rattle.store_files.specs.Folder.{IsPiece}
use Rattle.store_model.specs.Steps.{outcome}
use Rattle.store_files.specs.Folder.{file_path}
use Rattle.store_model.specs.WriterCalls as calls
use Rattle.store_model.specs.WriterSteps.{goes_on}
use Rattle.wire_commands.specs.HasText.{FitsRefusal, ReplyHasText}
use Rattle.backup_session.specs.Answers.{Leaves, LeavesShown}
use Rattle.backup_session.specs.Answers as backups
use Rattle.core_writer.specs.Does.{Does, DoesPlainly}
use Rattle.backup_session.specs.Indexes.{layout_of, count_of, end_of, csum_of, text_of as text_of_index}
use Rattle.backup_session.specs.Session as sessions
use Rattle.backup_session.specs.Session.{held}
use Rattle.backup_session.specs.Shown.{Shows, shown, shown_begun}
use Rattle.backup_session.specs.Steps as rows
use Rattle.core_state.specs.declared.kept.Session.{Session}
use Rattle.core_state.specs.declared.kept.Session.TheVariants as states
use Rattle.core_state.specs.declared.kept.StoredFile.{StoredFile}
use Rattle.core_state.specs.declared.kept.Writing.{Writing}
use Rattle.store_stops.specs.Stops.{answered_of}
use Rattle.store_stops.specs.declared.stop.Stop.{Stop}
use Rattle.store_stops.specs.declared.stop.Stop.TheVariants as stops
use Rattle.core_state.specs.Changes.{file_put, index_put}
use Rattle.core_state.specs.Holds.{IsBegun, has_named, names_differ, IsWriter}
use Rattle.core_state.specs.Named.{is_named}
use Rattle.store_history.specs.Replies.{answers_closing, refuses_closing}
use Rattle.snapshot_files.specs.Reads.{StopHasText}
use Rattle.core_state.proofs.Sessions.{writer_found}
use Rattle.core_state.proofs.Texts.{bad_close_has_text, no_file_has_text, wrong_state_has_text}
use Rattle.core_state.specs.Shown.{shown_writer}
use Rattle.core_writer.proofs.ArchiveFits.{fits_closed}
use Rattle.core_writer.specs.Pending.{MakesPending, MayAdd, grown}
use Rattle.core_writer.specs.declared.files.NewFile.{NewFile}
use Rattle.core_writer.proofs.GrownLemmas.{has_named-insert, unlike, none_named}
use Rattle.core_writer.proofs.KeepLemmas.{held_same, shows_found}

-- ---- an archive that is taken out

-- the open archive of a number, and those that stay open
record IsTaken (pool : List (List ℕ)) (files : List File) (begun left : List Begun) (b : Begun) : Type 0 where
  is_begun : IsBegun pool b
  free : has_named b.name files ≡ false
  count : length left + 1 ≡ length begun
  begun_are : AllByRecursion (IsBegun pool) left
  left_free : All (λ x. has_named x.name files ≡ false) left
  differ : names_differ left ≡ true
  apart : All (λ x. bytes_eq x.name b.name ≡ false) left

not_true : (b : Bool) → not b ≡ true → b ≡ false
not_true true e = cc
not_true false e = refl

-- what none is, none of those that stay is, nor what was found
any_left : (p q : Begun → Bool) (bs : List Begun) → list_any q bs ≡ false → list_any q (without_first p bs) ≡ false
any_left p q [] h = refl
any_left p q (x ∷ xs) h = let both = or_parts (q x) (list_any q xs) h in by_test (p x) both.0 both.1 (any_left p q xs both.1)
  where
    by_test : (t : Bool) → q x ≡ false → list_any q xs ≡ false → list_any q (without_first p xs) ≡ false → list_any q (cond t xs (x ∷ without_first p xs)) ≡ false
    by_test true here rest left = rest
    by_test false here rest left = ap (λ t. t || list_any q (without_first p xs)) here ∙ left

any_found : (p q : Begun → Bool) (bs : List Begun) (b : Begun) → find p bs ≡ Some b → list_any q bs ≡ false → q b ≡ false
any_found p q [] b e h = cc
any_found p q (x ∷ xs) b e h =
    let both = or_parts (q x) (list_any q xs) h in by_test (p x) e (λ later. any_found p q xs b later both.1) both.0
  where
    by_test : (t : Bool) → cond t (Some x) (find p xs) ≡ Some b → (find p xs ≡ Some b → q b ≡ false) → q x ≡ false → q b ≡ false
    by_test true e later here = let same : x ≡ b = cc in subst (λ y. q y ≡ false) same here
    by_test false e later here = later e

module _ (pool : List (List ℕ)) (files : List File) (p : Begun → Bool) where
  abbrev IsFree : Begun → Type 0
  IsFree x = has_named x.name files ≡ false

  taken_out : (bs : List Begun) (b : Begun) → find p bs ≡ Some b → AllByRecursion (IsBegun pool) bs → All IsFree bs → names_differ bs ≡ true → IsTaken pool files bs (without_first p bs) b
  taken_out [] b e all free differ = cc
  taken_out (x ∷ xs) b e all free differ =
      let both = and_parts (not (list_any (λ y. bytes_eq y.name x.name) xs)) (names_differ xs) differ in
      let apart = not_true (list_any (λ y. bytes_eq y.name x.name) xs) both.0 in
      by_test (p x) e apart (λ later. taken_out xs b later all.1 (All-tail IsFree x xs free) both.1)
    where
      by_test : (t : Bool) → cond t (Some x) (find p xs) ≡ Some b → list_any (λ y. bytes_eq y.name x.name) xs ≡ false → (find p xs ≡ Some b → IsTaken pool files xs (without_first p xs) b)
          → IsTaken pool files (x ∷ xs) (cond t xs (x ∷ without_first p xs)) b
      by_test true e apart later =
          let same : x ≡ b = cc in
          let both = and_parts (not (list_any (λ y. bytes_eq y.name x.name) xs)) (names_differ xs) differ in
          subst (IsTaken pool files (x ∷ xs) xs) same
          (record {
            is_begun = all.0;
            free = All-head IsFree x xs free;
            count = omega arith;
            begun_are = all.1;
            left_free = All-tail IsFree x xs free;
            differ = both.1;
            apart = none_named x.name xs apart;
          })
      by_test false e apart later =
          let rest = later e in
          let count = rest.count in
          let left = without_first p xs in
          record {
            is_begun = rest.is_begun;
            free = rest.free;
            count = omega (arith, count);
            begun_are = (all.0, rest.begun_are);
            left_free = All-cons IsFree x left (All-head IsFree x xs free) rest.left_free;
            differ = and_from (not (list_any (λ y. bytes_eq y.name x.name) left)) (names_differ left) (ap not (any_left p (λ y. bytes_eq y.name x.name) xs apart)) rest.differ;
            apart = All-cons (λ y. bytes_eq y.name b.name ≡ false) x left (unlike x.name b.name (any_found p (λ y. bytes_eq y.name x.name) xs b e apart)) rest.apart;
          }

-- ---- the call

abbrev pub index_file : Begun → File
index_file b = record { name = b.name; content = archive b.archive }

abbrev pub left_open : ℕ → Writer → List Begun
left_open number w = without_first (calls.has_number number) w.begun

text_is_of : (a : Archive) → archive_text a ≡ file_text (archive a)
unfolding file_text
text_is_of a = refl

close_may_add : (s : Store) (w : Writer) (number : ℕ) (b : Begun) → IsWriter s.snapshots w → calls.begun_at number w ≡ Some b → want_size (b.archive).layout (length (content_of b.archive)) ≡ Ok tt → MayAdd w (index_file b) (left_open number w)
close_may_add s w number b h found full =
    let taken = taken_out w.pool w.files (calls.has_number number) w.begun b found h.begun h.free h.differ in
    let count = taken.count in
    let within = h.count in
    record {
      named = ((taken.is_begun).is_open).name;
      fits = (fits_closed w.pool b h.pool taken.is_begun full, All-weaker (Contains w.pool) IsPiece (λ x in_pool. All-contains IsPiece w.pool x h.pool in_pool) (b.archive).pieces (taken.is_begun).pieces);
      free = taken.free;
      count = omega (arith, count, within);
      pieces = (taken.is_begun).pieces;
      begun_are = taken.begun_are;
      free_open = λ i d l. let x = get_or (left_open number w) i d in
          has_named-insert x.name (index_file b) w.files (unlike b.name x.name (taken.apart i d l)) (taken.left_free i d l);
      differ = taken.differ;
    }

-- what the call that closes leaves and gives
record IsClosed (number : ℕ) (w after : Writer) (text : List ℕ) : Type 0 where
  b : Begun
  found : calls.begun_at number w ≡ Some b
  full : want_size (b.archive).layout (length (content_of b.archive)) ≡ Ok tt
  same : after ≡ grown w (index_file b) (left_open number w)
  text_is : text ≡ archive_text b.archive

module _ (number count size : ℕ) (csum : Digest32) (w : Writer) where
  facts_of : Begun → Result (Unit {0}) Refusal
  facts_of b = want_facts (b.archive).layout (length (b.archive).pieces) (length (content_of b.archive)) (csum_by (b.archive).layout b.archive) count size csum

  closing : Begun → Result (Writer × List ℕ) Refusal
  closing b = Ok (grown w (index_file b) (left_open number w), archive_text b.archive)

  writer_of : Result (Writer × List ℕ) Refusal → Writer
  writer_of (Ok closed) = closed.0
  writer_of (Err r) = w

  text_of : Result (Writer × List ℕ) Refusal → List ℕ
  text_of (Ok closed) = closed.1
  text_of (Err r) = []

  full_by : (a b c : Bool) (f g h : Refusal) (last : Result (Unit {0}) Refusal) (u : Unit {0}) → (unless f a >>= λ _. unless g b >>= λ _. unless h c >>= λ _. last) ≡ Ok u → last ≡ Ok tt
  full_by false b c f g h last u is = cc
  full_by true false c f g h last u is = cc
  full_by true true false f g h last u is = cc
  full_by true true true f g h (Ok v) u is = refl
  full_by true true true f g h (Err r) u is = cc

  is_full : (b : Begun) (u : Unit {0}) → facts_of b ≡ Ok u → want_size (b.archive).layout (length (content_of b.archive)) ≡ Ok tt
  unfolding facts_of
  is_full b u is = full_by (count == length (b.archive).pieces) (size == length (content_of b.archive)) (bytes_eq csum.0 (csum_by (b.archive).layout b.archive).0)
      (BadClose (Count (length (b.archive).pieces))) (BadClose (Size (length (content_of b.archive)))) (BadClose (Csum (csum_by (b.archive).layout b.archive))) (want_size (b.archive).layout (length (content_of b.archive))) u is

  closed_by : (o : Option Begun) (after : Writer) (text : List ℕ) → calls.begun_at number w ≡ o → (or_else NoFile o >>= λ b. facts_of b >>= λ _. closing b) ≡ Ok (after, text) → IsClosed number w after text
  unfolding closing writer_of text_of
  closed_by None after text found is = cc
  closed_by (Some b) after text found is = by_facts (facts_of b) refl is
    where
      by_facts : (t : Result (Unit {0}) Refusal) → facts_of b ≡ t → (t >>= λ _. closing b) ≡ Ok (after, text) → IsClosed number w after text
      by_facts (Err r) e is = cc
      by_facts (Ok u) e is = record { b = b; found = found; full = is_full b u e; same = sym (ap writer_of is); text_is = sym (ap text_of is) }

  is_closed : (after : Writer) (text : List ℕ) → calls.close_index w number count size csum ≡ Ok (after, text) → IsClosed number w after text
  unfolding calls.close_index facts_of closing
  is_closed after text is = closed_by (calls.begun_at number w) after text refl is

  no_index : calls.begun_at number w ≡ None → calls.close_index w number count size csum ≡ Err NoFile
  unfolding calls.close_index
  no_index none = rw none refl

-- ---- the step

module _ (s : Store) (lane moment number count size : ℕ) (csum : Digest32) where
  pub not_writing : (r : Refusal) → model.want_writer (session s lane) ≡ Err r → outcome s lane moment (CloseIndex number count size csum) ≡ Err r
  unfolding outcome steps.close_index
  not_writing r none = rw none refl

  pub refused : (w : Writer) (r : Refusal) → session s lane ≡ writer w → calls.close_index w number count size csum ≡ Err r → outcome s lane moment (CloseIndex number count size csum) ≡ Err r
  unfolding outcome steps.close_index
  refused w r at is = rw (at, is) refl

  closes : (w after : Writer) (text : List ℕ) → session s lane ≡ writer w → calls.close_index w number count size csum ≡ Ok (after, text)
      → outcome s lane moment (CloseIndex number count size csum) ≡ Ok (with_session s lane (writer after), Done)
  unfolding outcome steps.close_index goes_on
  closes w after text at is = rw (at, is) refl

-- ---- what the session keeps of it

find_shown : (number : ℕ) (bs : List Begun) → find (rows.has_number number) (map shown_begun bs) ≡ option_map shown_begun (find (calls.has_number number) bs)
find_shown number [] = refl
find_shown number (b ∷ bs) = by_test (b.number == number) (find_shown number bs)
  where
    by_test : (t : Bool) → find (rows.has_number number) (map shown_begun bs) ≡ option_map shown_begun (find (calls.has_number number) bs)
        → cond t (Some (shown_begun b)) (find (rows.has_number number) (map shown_begun bs)) ≡ option_map shown_begun (cond t (Some b) (find (calls.has_number number) bs))
    by_test true rest = refl
    by_test false rest = rest

begun_shown : (number : ℕ) (w : Writer) → rows.begun_at number (shown w) ≡ option_map shown_begun (calls.begun_at number w)
unfolding shown
begun_shown number w = find_shown number w.begun

found_shown : (number : ℕ) (w : Writer) (found : Writing) → shown_writer w ≡ found → rows.begun_at number (found.session).writer ≡ option_map shown_begun (calls.begun_at number w)
found_shown number w found is = ap (λ (x : Writing). rows.begun_at number (x.session).writer) (sym is) ∙ begun_shown number w

-- no index of the number is open
pub none_at : (s : Store) (lane moment number count size : ℕ) (csum : Digest32) (w : Writer) (found : Writing) → session s lane ≡ writer w → shown_writer w ≡ found
    → option_map (λ b. b.name) (rows.begun_at number (found.session).writer) ≡ None → outcome s lane moment (CloseIndex number count size csum) ≡ Err NoFile
none_at s lane moment number count size csum w found at is none =
    refused s lane moment number count size csum w NoFile at
    (no_index number count size csum w (by_found (calls.begun_at number w) (ap (option_map (λ b. b.name)) (sym (found_shown number w found is)) ∙ none)))
  where
    by_found : (o : Option Begun) → option_map (λ b. b.name) (option_map shown_begun o) ≡ None → o ≡ None
    by_found None e = refl
    by_found (Some b) e = cc

name_at : (number : ℕ) (w : Writer) (found : Writing) (name : List ℕ) (b : Begun) → shown_writer w ≡ found → Some name ≡ option_map (λ x. x.name) (rows.begun_at number (found.session).writer) → calls.begun_at number w ≡ Some b → name ≡ b.name
name_at number w found name b is named at =
    let both : Some name ≡ Some b.name = named ∙ ap (option_map (λ x. x.name)) (found_shown number w found is) ∙ ap (λ o. option_map (λ x. x.name) (option_map shown_begun o)) at in cc

-- ---- the refusals, and the key

faults_by : (a b c : Bool) (f g h : CloseFault) (last : Result (Unit {0}) Refusal) (q : Refusal) → ((r : Refusal) → last ≡ Err r → refuses_closing r ≡ true)
    → (unless (BadClose f) a >>= λ _. unless (BadClose g) b >>= λ _. unless (BadClose h) c >>= λ _. last) ≡ Err q → refuses_closing q ≡ true
faults_by false b c f g h last q more is = let same : BadClose f ≡ q = cc in ap refuses_closing (sym same)
faults_by true false c f g h last q more is = let same : BadClose g ≡ q = cc in ap refuses_closing (sym same)
faults_by true true false f g h last q more is = let same : BadClose h ≡ q = cc in ap refuses_closing (sym same)
faults_by true true true f g h last q more is = more q is

size_told : (layout : Layout) (end : ℕ) (q : Refusal) → want_size layout end ≡ Err q → refuses_closing q ≡ true
size_told dynamic end q is = cc
size_told (fixed size cut) end q is = by_test (nat_le size end) is
  where
    by_test : (b : Bool) → unless (BadClose (Rest size)) b ≡ Err q → refuses_closing q ≡ true
    by_test true e = cc
    by_test false e = let same : BadClose (Rest size) ≡ q = cc in ap refuses_closing (sym same)

faults_told : (layout : Layout) (pieces end count size : ℕ) (found csum : Digest32) (q : Refusal) → want_facts layout pieces end found count size csum ≡ Err q → refuses_closing q ≡ true
faults_told layout pieces end count size found csum q is =
    faults_by (count == pieces) (size == end) (bytes_eq csum.0 found.0) (Count pieces) (Size end) (Csum found) (want_size layout end) q (λ r e. size_told layout end r e) is

module _ (number count size : ℕ) (csum : Digest32) (w : sessions.Writing) where
  row_of : Result (sessions.Writing × List ℕ) Refusal → sessions.Writing
  row_of (Ok closed) = closed.0
  row_of (Err r) = w

  told_by : (o : Option sessions.Open) (facts : sessions.Open → Result (Unit {0}) Refusal) (made : sessions.Open → sessions.Writing × List ℕ) (r : Refusal)
      → ((b : sessions.Open) (q : Refusal) → facts b ≡ Err q → refuses_closing q ≡ true) → (let done : sessions.Open → Result (sessions.Writing × List ℕ) Refusal = λ b. Ok (made b) in or_else NoFile o >>= λ b. facts b >>= λ _. done b) ≡ Err r → refuses_closing r ≡ true
  told_by None facts made r told is = let same : NoFile ≡ r = cc in ap refuses_closing (sym same)
  told_by (Some b) facts made r told is = by_facts (facts b) (told b) is
    where
      by_facts : (t : Result (Unit {0}) Refusal) → ((q : Refusal) → t ≡ Err q → refuses_closing q ≡ true) → (let done : Result (sessions.Writing × List ℕ) Refusal = Ok (made b) in t >>= λ _. done) ≡ Err r → refuses_closing r ≡ true
      by_facts (Ok u) told is = cc
      by_facts (Err q) told is = let same : q ≡ r = cc in ap refuses_closing (sym same) ∙ told q refl

  pub closing_refuses : (r : Refusal) → rows.close_index w number count size csum ≡ Err r → refuses_closing r ≡ true
  unfolding rows.close_index
  closing_refuses r is = told_by (rows.begun_at number w) (λ b. rows.want_close b.index count size csum) (λ b. (record w { begun = without_first (rows.has_number number) w.begun; files = rows.insert_fact (rows.fact_of b) w.files }, text_of_index b.index)) r
      (λ b q told. faults_told (layout_of b.index) (count_of b.index) (end_of b.index) count size (csum_of b.index) csum q told) is

  key_by : (o : Option sessions.Open) (facts : sessions.Open → Result (Unit {0}) Refusal) (made : sessions.Open → sessions.Writing × List ℕ) (after : sessions.Writing) (text : List ℕ)
      → ((b : sessions.Open) → (made b).0.key ≡ w.key) → (let done : sessions.Open → Result (sessions.Writing × List ℕ) Refusal = λ b. Ok (made b) in or_else NoFile o >>= λ b. facts b >>= λ _. done b) ≡ Ok (after, text) → after.key ≡ w.key
  unfolding row_of
  key_by None facts made after text same is = cc
  key_by (Some b) facts made after text same is = by_facts (facts b) is
    where
      by_facts : (t : Result (Unit {0}) Refusal) → (let done : Result (sessions.Writing × List ℕ) Refusal = Ok (made b) in t >>= λ _. done) ≡ Ok (after, text) → after.key ≡ w.key
      by_facts (Ok u) is = ap (λ (x : sessions.Writing). x.key) (sym (ap row_of is)) ∙ same b
      by_facts (Err q) is = cc

  pub key_stays : (after : sessions.Writing) (text : List ℕ) → rows.close_index w number count size csum ≡ Ok (after, text) → after.key ≡ w.key
  unfolding rows.close_index
  key_stays after text is = key_by (rows.begun_at number w) (λ b. rows.want_close b.index count size csum) (λ b. (record w { begun = without_first (rows.has_number number) w.begun; files = rows.insert_fact (rows.fact_of b) w.files }, text_of_index b.index)) after text (λ b. refl) is

-- ---- the session

refused_text : (r : Refusal) → refuses_closing r ≡ true → FitsRefusal r → ReplyHasText (Refused r)
refused_text (WrongState state) is fits = wrong_state_has_text state
refused_text NoFile is fits = no_file_has_text
refused_text (BadClose fault) is fits = bad_close_has_text fault fits
refused_text _ is fits = cc

-- a stop by the call has a spelling
pub stop_text : (number count size : ℕ) (csum : Digest32) {A : Type 0} (show : A → List ℕ) (old new : sessions.Session) (told : Result A Refusal)
    → backups.Does show (held old.writer) old new told (rows.close_index old.writer number count size csum) → IfErr told FitsRefusal → IfErr (answered_of told) StopHasText
stop_text number count size csum show old new (Ok x) does fits = tt
stop_text number count size csum show old new (Err refusals.NoMemory) does fits = tt
stop_text number count size csum show old new (Err r) does fits = refused_text r (closing_refuses number count size csum old.writer r does.0) fits

module _ (moment number count size : ℕ) (csum : Digest32) (found : Session) (w : Writing) (named : is_named found ≡ true) (is : found ≡ states.Writer w) where
  abbrev Makes : Session → Result NewFile Stop → Type 0
  Makes new result = MakesPending found new (λ s lane. outcome s lane moment (CloseIndex number count size csum)) answers_closing (λ x. index_put (rows.begun_at number (x.session).writer) x) result

  stops_at : (new : Session) (result : Result NewFile Stop) (stop : Stop) → IsErrAnd result (λ x. x ≡ stop) → Makes new (Err stop) → Makes new result
  stops_at new (Ok n) stop ended p = absurd ended
  stops_at new (Err x) stop ended p = subst (λ y. Makes new (Err y)) (sym ended) p

  -- memory was wanting
  pub index_short : (result : Result NewFile Stop) → IsErrAnd result (λ x. x ≡ stops.NoMemory) → Makes (states.Writer w) result
  index_short result ended = stops_at (states.Writer w) result stops.NoMemory ended (record { text = tt; answers = tt; same = sym is; change = tt; pending = tt })

  -- no index of the number is open
  pub index_none : (r : Refusal) (result : Result NewFile Stop) → IsErrAnd result (λ x. x ≡ stops.Refused r) → r ≡ NoFile → option_map (λ b. b.name) (rows.begun_at number (w.session).writer) ≡ None → Makes (states.Writer w) result
  index_none r result ended r_is none = stops_at (states.Writer w) result (stops.Refused r) ended (subst (λ x. Makes (states.Writer w) (Err (stops.Refused x))) (sym r_is) (record {
    text = no_file_has_text;
    answers = refl;
    same = sym is;
    change = tt;
    pending = λ s lane sound at. let f = writer_found s lane found w at is in none_at s lane moment number count size csum f.0 w f.1 f.2 none;
  }))

  module _ {A : Type 0} (show : A → List ℕ) (new : sessions.Session) (closed : Result A Stop)
      (does : Does show (held (w.session).writer) w.session new closed (rows.close_index (w.session).writer number count size csum))
      (plain : DoesPlainly show (held (w.session).writer) w.session new closed (λ v. calls.close_index v number count size csum)) where
    abbrev left : Session
    left = states.Writer (record w { session = new })

    as_found : new ≡ w.session → left ≡ found
    as_found same = ap (λ x. let y : Writing = record w { session = x } in states.Writer y) same ∙ sym is

    pub index_stopped : (stop : Stop) (result : Result NewFile Stop) → IsErrAnd result (λ x. x ≡ stop) → closed ≡ Err stop → StopHasText stop → (IsErrOf closed stops.DiskFailed → ⊥) → Makes left result
    index_stopped stop result ended was text uncalled = stops_at left result stop ended (by_stop stop was text)
      where
        by_stop : (stop : Stop) → closed ≡ Err stop → StopHasText stop → Makes left (Err stop)
        by_stop (stops.Refused r) was text =
            let refuses : (rows.close_index (w.session).writer number count size csum ≡ Err r) × (new ≡ w.session) =
            subst (λ t. Does show (held (w.session).writer) w.session new t (rows.close_index (w.session).writer number count size csum)) was does in
            record {
              text = text;
              answers = closing_refuses number count size csum (w.session).writer r refuses.0;
              same = as_found refuses.1;
              change = tt;
              pending = λ s lane sound at.
                  let f = writer_found s lane found w at is in
                  refused s lane moment number count size csum f.0 r f.1
                  (subst (λ t. DoesPlainly show (held (w.session).writer) w.session new t (λ v. calls.close_index v number count size csum)) was plain f.0 (shows_found s lane f.0 w sound f.1 f.2));
            }
        by_stop stops.NoMemory was text =
            let same : new ≡ w.session = subst (λ t. Does show (held (w.session).writer) w.session new t (rows.close_index (w.session).writer number count size csum)) was does in
            record { text = tt; answers = tt; same = as_found same; change = tt; pending = tt }
        by_stop stops.DiskFailed was text = absurd (uncalled was)

    -- the index's file, as the writer has it open
    index_is : (name text : List ℕ) (after : sessions.Writing) → Some name ≡ option_map (λ b. b.name) (rows.begun_at number (w.session).writer) → rows.close_index (w.session).writer number count size csum ≡ Ok (after, text)
        → index_put (rows.begun_at number (w.session).writer) w ≡ file_put name text w
    unfolding rows.close_index
    index_is name text after named stepped = by_begun (rows.begun_at number (w.session).writer) named stepped
      where
        same_text : (made : sessions.Writing) (x : List ℕ) (t : Result (Unit {0}) Refusal) → (let done : Result (sessions.Writing × List ℕ) Refusal = Ok (made, x) in t >>= λ _. done) ≡ Ok (after, text) → x ≡ text
        same_text made x (Ok u) e = ap text_told e
          where
            text_told : Result (sessions.Writing × List ℕ) Refusal → List ℕ
            text_told (Ok p) = p.1
            text_told (Err q) = []
        same_text made x (Err q) e = cc

        by_begun : (o : Option sessions.Open) → Some name ≡ option_map (λ b. b.name) o
            → (or_else NoFile o >>= λ b. rows.want_close b.index count size csum >>= λ _. let done : Result (sessions.Writing × List ℕ) Refusal = Ok (record (w.session).writer { begun = without_first (rows.has_number number) ((w.session).writer).begun; files = rows.insert_fact (rows.fact_of b) ((w.session).writer).files }, text_of_index b.index) in done) ≡ Ok (after, text)
            → index_put o w ≡ file_put name text w
        by_begun None named e = cc
        by_begun (Some b) named e =
            let same : name ≡ b.name = cc in
            ap (λ n. file_put n (text_of_index b.index) w) (sym same) ∙ ap (λ t. file_put name t w) (same_text _ (text_of_index b.index) (rows.want_close b.index count size csum) e)

    pub index_done : (a : A) (file : StoredFile) (text : List ℕ) → closed ≡ Ok a → text ≡ show a → Some file.name ≡ option_map (λ b. b.name) (rows.begun_at number (w.session).writer)
        → file.path ≡ file_path ((w.session).writer).key file.name → Makes left (Ok (record { file = file; text = text }))
    index_done a file text was text_is name path =
        let leaves : Leaves (held (w.session).writer) new (rows.close_index (w.session).writer number count size csum) (show a) =
        subst (λ t. Does show (held (w.session).writer) w.session new t (rows.close_index (w.session).writer number count size csum)) was does in
        record {
          text = tt;
          answers = tt;
          same = tt;
          change = λ x x_is. subst (λ y. index_put (rows.begun_at number (y.session).writer) y ≡ file_put file.name text y) (writings w x (sym is ∙ x_is))
              (subst (λ t. index_put (rows.begun_at number (w.session).writer) w ≡ file_put file.name t w) (sym text_is) (index_is file.name (show a) leaves.after name leaves.stepped));
          pending = record {
            found = w;
            after = leaves.after;
            old_is = is;
            new_is = ap (λ x. let y : Writing = record w { session = x } in states.Writer y) leaves.left;
            key = key_stays number count size csum (w.session).writer leaves.after (show a) leaves.stepped;
            path = path;
            adds = λ s lane sound at.
                let f = writer_found s lane found w at is in
                let shown : LeavesShown (held (w.session).writer) new (calls.close_index f.0 number count size csum) (show a) =
                subst (λ t. DoesPlainly show (held (w.session).writer) w.session new t (λ v. calls.close_index v number count size csum)) was plain f.0 (shows_found s lane f.0 w sound f.1 f.2) in
                let closed_is = is_closed number count size csum f.0 shown.plain (show a) shown.stepped in
                record {
                  before = f.0;
                  after = shown.plain;
                  new = index_file closed_is.b;
                  begun = left_open number f.0;
                  at = f.1;
                  shown = f.2;
                  may = close_may_add s f.0 number closed_is.b (sound.writers lane f.0 f.1) closed_is.found closed_is.full;
                  same = closed_is.same;
                  text_is = text_is ∙ closed_is.text_is ∙ text_is_of (closed_is.b).archive;
                  shows = subst (λ x. Shows x shown.plain) (held_same (w.session).writer shown.after leaves.after (sym shown.left ∙ leaves.left)) shown.shows;
                  named = name_at number f.0 w file.name closed_is.b f.2 name closed_is.found;
                  step = closes s lane moment number count size csum f.0 shown.plain (show a) f.1 shown.stepped ∙ ap (λ v. Ok (with_session s lane (writer v), Done)) closed_is.same;
                };
          };
        }
      where
        writings : (a b : Writing) → states.Writer a ≡ states.Writer b → a ≡ b
        writings a b e = cc
