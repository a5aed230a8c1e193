-- NEW_DYNAMIC and NEW_FIXED in a session: the refusals of the session's call, and the writer with one more open archive.
use Rattle.std.proofs.Common.{◌≡◌, ℕ, ◌<◌, ◌≤◌, ◌^◌, Bool, true, false, List, [], ◌∷◌, None, pos, Result, Ok, Err, IfErr, IsErrOf, IsErrAnd, refl, sym, ap, ap₂, subst, ◌∙◌, arith}
use Rattle.std.proofs.lemmas.Bool.{or_parts}
use Rattle.std.specs.Int.{w64}
use Rattle.std.specs.List.{AllByRecursion, Contains}
use Rattle.std.specs.Prelude.{FitsSigned}
use Rattle.store_types.specs.declared.refusal.Refusal.{Refusal}
use Rattle.store_types.specs.declared.refusal.Refusal.TheVariants.{BadName, Exists, TooMany, WrongSize}
use Rattle.store_types.specs.declared.refusal.Refusal.TheVariants as refusals
use Rattle.store_types.specs.Chain.Refusing.{◌>>=◌, unless}
use Rattle.store_types.specs.FileNames.{is_file_name, is_index_name, is_blob_name}
use Rattle.store_files.specs.Cells.{entry_limit}
use Rattle.store_types.specs.Names.{IsKey}
use Rattle.store_types.specs.Times.{last_moment}
use Rattle.wire_commands.specs.declared.reply.Reply.{Reply}
use Rattle.wire_commands.specs.declared.reply.Reply.TheVariants.{Number, Refused}
use Rattle.wire_commands.specs.HasText.{ReplyHasText}
use Rattle.store_model.specs.Store.{Begun, Store, Outcome, Writer}
use Rattle.store_model.specs.Steps.{outcome}
use Rattle.backup_session.specs.Answers.{LeavesShown}
use Rattle.backup_session.specs.Answers as backups
use Rattle.core_writer.specs.Does.{Does, TellsPlainly}
use Rattle.backup_session.specs.Session as sessions
use Rattle.backup_session.specs.Session.{settled}
use Rattle.backup_session.specs.Shown.{IsOpen, Shows, shown}
use Rattle.backup_session.specs.Steps as rows
use Rattle.core_state.specs.declared.kept.Session.{Session}
use Rattle.core_state.specs.declared.kept.Session.TheVariants as kept
use Rattle.core_state.specs.declared.kept.Writing.{Writing}
use Rattle.core_state.specs.Shown.{shown_writer, shown_files}
use Rattle.core_state.specs.Holds.{IsBegun, IsWriter}
use Rattle.core_state.specs.Named.{is_named}
use Rattle.store_history.specs.Replies.{refuses_index, refuses_fixed}
use Rattle.snapshot_files.specs.Reads.{StopHasText}
use Rattle.store_stops.specs.Stops.{answered_of}
use Rattle.store_stops.specs.declared.stop.Stop.{Stop}
use Rattle.store_stops.specs.declared.stop.Stop.TheVariants as stops
use Rattle.store_stops.specs.declared.stop.Stop.TheVariants.{DiskFailed}
use Rattle.core_state.proofs.NamedLemmas.{writer_named, writer_stays_named}
use Rattle.core_state.proofs.Sessions.{writer_found}
use Rattle.core_state.proofs.Texts.{bad_name_has_text, exists_has_text, number_has_text, too_many_has_text, wrong_size_has_text}
use Rattle.core_writer.specs.declared.archives.NewIndex.{NewIndex}
use Rattle.core_writer.specs.declared.archives.NewIndex.TheVariants.{Dynamic, Fixed}
use Rattle.core_writer.specs.NewIndexes.{answers_new, new_command, new_plain, new_rows}
use Rattle.core_writer.specs.Names.{IsNoName}
use Rattle.core_writer.specs.Stepped.{StepsQuietly}
use Rattle.core_writer.proofs.ArchiveLemmas.{bad_name, refused, begins, IsNew, is_new, uuid_length, is_writer_begun, has_uploads_begun}

-- a moment of the order fits an index's field
pub moment_fits : (moment : ℕ) → moment ≤ last_moment → FitsSigned w64 (pos moment)
moment_fits moment h = omega (arith, h)

pub not_index : (name : List ℕ) → is_file_name name ≡ false → is_index_name name ≡ false
not_index name h = (or_parts (is_index_name name) (is_blob_name name) h).0

-- ---- the refusals

abbrev pub refuses_new : NewIndex → Refusal → Bool
refuses_new Dynamic r = refuses_index r
refuses_new (Fixed size cut) r = refuses_fixed r

answers_refused : (kind : NewIndex) (r : Refusal) → refuses_new kind r ≡ true → answers_new kind (Refused r) ≡ true
answers_refused Dynamic r h = h
answers_refused (Fixed size cut) r h = h

answers_number : (kind : NewIndex) (n : ℕ) → answers_new kind (Number n) ≡ true
answers_number Dynamic n = refl
answers_number (Fixed size cut) n = refl

answers_name : (kind : NewIndex) → answers_new kind (Refused BadName) ≡ true
answers_name Dynamic = refl
answers_name (Fixed size cut) = refl

-- each refusal of the session's call has this
abbrev Each : (Refusal → Type 0) → NewIndex → Type 0
Each Q Dynamic = Q BadName × Q Exists × Q (TooMany 64) × Q (TooMany 16)
Each Q (Fixed size cut) = Q BadName × Q Exists × Q (TooMany 64) × Q (TooMany 16) × Q (WrongSize 0 cut) × Q (TooMany entry_limit)

err_same : {A : Type 0} (x y : Refusal) → ◌≡◌ {A = Result A Refusal} (Err x) (Err y) → x ≡ y
err_same x y e = cc

refused_by : (Q : Refusal → Type 0) {A : Type 0} (x r : Refusal) → Q x → ◌≡◌ {A = Result A Refusal} (Err x) (Err r) → Q r
refused_by Q {A} x r is e = subst Q (err_same {A = A} x r e) is

dynamic_by : (Q : Refusal → Type 0) → Each Q Dynamic → {A : Type 0} (a b c d : Bool) (made : A) (r : Refusal)
    → (((unless BadName a >>= λ _. (unless Exists b >>= λ _. unless (TooMany 64) c) >>= λ _. unless (TooMany 16) d)) >>= λ _. Ok made) ≡ Err r → Q r
dynamic_by Q each {A = A} false b c d made r is = refused_by Q {A = A} BadName r each.0 is
dynamic_by Q each {A = A} true false c d made r is = refused_by Q {A = A} Exists r each.1 is
dynamic_by Q each {A = A} true true false d made r is = refused_by Q {A = A} (TooMany 64) r each.2 is
dynamic_by Q each {A = A} true true true false made r is = refused_by Q {A = A} (TooMany 16) r each.3 is
dynamic_by Q each {A = A} true true true true made r is = cc

fixed_by : (Q : Refusal → Type 0) (size cut : ℕ) → Each Q (Fixed size cut) → {A : Type 0} (a b c d f g : Bool) (made : A) (r : Refusal)
    → ((unless BadName a >>= λ _. (unless Exists b >>= λ _. unless (TooMany 64) c) >>= λ _. unless (TooMany 16) d >>= λ _. unless (WrongSize 0 cut) f >>= λ _. unless (TooMany entry_limit) g) >>= λ _. Ok made) ≡ Err r → Q r
fixed_by Q size cut each {A = A} false b c d f g made r is = refused_by Q {A = A} BadName r each.0 is
fixed_by Q size cut each {A = A} true false c d f g made r is = refused_by Q {A = A} Exists r each.1 is
fixed_by Q size cut each {A = A} true true false d f g made r is = refused_by Q {A = A} (TooMany 64) r each.2 is
fixed_by Q size cut each {A = A} true true true false f g made r is = refused_by Q {A = A} (TooMany 16) r each.3 is
fixed_by Q size cut each {A = A} true true true true false g made r is = refused_by Q {A = A} (WrongSize 0 cut) r each.4 is
fixed_by Q size cut each {A = A} true true true true true false made r is = refused_by Q {A = A} (TooMany entry_limit) r each.5 is
fixed_by Q size cut each {A = A} true true true true true true made r is = cc

index_by : (Q : Refusal → Type 0) (kind : NewIndex) (w : sessions.Writing) (name : List ℕ) (moment : ℕ) (r : Refusal) → Each Q kind → new_rows kind w name moment ≡ Err r → Q r
unfolding rows.new_dynamic rows.new_fixed
index_by Q Dynamic w name moment r each is = dynamic_by Q each _ _ _ _ _ r is
index_by Q (Fixed size cut) w name moment r each is = fixed_by Q size cut each _ _ _ _ _ _ _ r is

index_refusal : (kind : NewIndex) (w : sessions.Writing) (name : List ℕ) (moment : ℕ) (r : Refusal) → new_rows kind w name moment ≡ Err r → refuses_new kind r ≡ true
index_refusal kind w name moment r is = index_by (λ x. refuses_new kind x ≡ true) kind w name moment r (each kind) is
  where
    each : (kind : NewIndex) → Each (λ x. refuses_new kind x ≡ true) kind
    each Dynamic = (refl, refl, refl, refl)
    each (Fixed size cut) = (refl, refl, refl, refl, refl, refl)

-- the length of pieces fits its field
abbrev pub FitsCut : NewIndex → Type 0
FitsCut Dynamic = Unit {0}
FitsCut (Fixed size cut) = cut < 2 ^ 64

HasText : Refusal → Type 0
HasText r = ReplyHasText (Refused r)

pub index_text : (kind : NewIndex) (w : sessions.Writing) (name : List ℕ) (moment : ℕ) (r : Refusal) → FitsCut kind → new_rows kind w name moment ≡ Err r → ReplyHasText (Refused r)
unfolding HasText
index_text kind w name moment r fits is = index_by HasText kind w name moment r (each kind fits) is
  where
    each : (kind : NewIndex) → FitsCut kind → Each HasText kind
    each Dynamic fits = (bad_name_has_text, exists_has_text, too_many_has_text 64 (omega arith), too_many_has_text 16 (omega arith))
    each (Fixed size cut) fits =
        (bad_name_has_text, exists_has_text, too_many_has_text 64 (omega arith), too_many_has_text 16 (omega arith), wrong_size_has_text 0 cut (omega arith) fits, too_many_has_text entry_limit (omega arith))

-- so has the stop that it becomes
pub stop_text : (kind : NewIndex) (old new : sessions.Session) (name : List ℕ) (moment : ℕ) (told : Result ℕ Refusal) → FitsCut kind
    → backups.Does (λ n. n) settled old new told (new_rows kind old.writer name moment) → IfErr (answered_of told) StopHasText
stop_text kind old new name moment (Ok n) fits does = tt
stop_text kind old new name moment (Err refusals.NoMemory) fits does = tt
stop_text kind old new name moment (Err r) fits does = index_text kind old.writer name moment r fits does.0

-- ---- the session stays named

made_is : (t : Result (Unit {0}) Refusal) (made after : sessions.Writing) (k n : ℕ) → (let answer : Result (sessions.Writing × ℕ) Refusal = Ok (made, k) in t >>= λ _. answer) ≡ Ok (after, n) → after ≡ made
made_is (Ok u) made after k n is = sym (ap (λ x. x.0) (same (made, k) (after, n) is))
  where
    same : (x y : sessions.Writing × ℕ) → ◌≡◌ {A = Result (sessions.Writing × ℕ) Refusal} (Ok x) (Ok y) → x ≡ y
    same x y e = cc
made_is (Err r) made after k n is = cc

key_of : (kind : NewIndex) (w after : sessions.Writing) (name : List ℕ) (moment n : ℕ) → new_rows kind w name moment ≡ Ok (after, n) → after.key ≡ w.key
unfolding rows.new_dynamic rows.new_fixed
key_of Dynamic w after name moment n is = ap (λ x. x.key) (made_is (rows.want_dynamic name w) (rows.begin_dynamic w name moment) after _ n is)
key_of (Fixed size cut) w after name moment n is = ap (λ x. x.key) (made_is (rows.want_fixed name size cut w) (rows.begin_fixed w name size cut moment) after _ n is)

key_stays : (kind : NewIndex) (old new : sessions.Session) (name : List ℕ) (moment : ℕ) (result : Result ℕ Stop) → Does (λ n. n) settled old new result (new_rows kind old.writer name moment) → (new.writer).key ≡ (old.writer).key
key_stays kind old new name moment (Ok n) h = ap (λ x. (x.writer).key) h.left ∙ key_of kind old.writer h.after name moment n h.stepped
key_stays kind old new name moment (Err (stops.Refused r)) h = ap (λ x. (x.writer).key) h.1
key_stays kind old new name moment (Err stops.NoMemory) h = ap (λ x. (x.writer).key) h
key_stays kind old new name moment (Err stops.DiskFailed) h = ap (λ x. (x.writer).key) h

pub named_begun : (kind : NewIndex) (found : Session) (w : Writing) (new : sessions.Session) (name : List ℕ) (moment : ℕ) (result : Result ℕ Stop) → is_named found ≡ true → found ≡ kept.Writer w
    → Does (λ n. n) settled w.session new result (new_rows kind (w.session).writer name moment) → new.pending ≡ None → is_named (kept.Writer (record w { session = new })) ≡ true
named_begun kind found w new name moment result named is does none =
    writer_stays_named (record w { session = new }) (subst IsKey (sym (key_stays kind w.session new name moment result does)) (writer_named w (sym (ap is_named is) ∙ named)).0) none

-- ---- the writer

all_open : (pool : List (List ℕ)) (bs : List Begun) → AllByRecursion (IsBegun pool) bs → AllByRecursion IsOpen bs
all_open pool [] h = tt
all_open pool (b ∷ bs) h = ((h.0).is_open, all_open pool bs h.1)

shows_writer : (s : Store) (w : Writing) (v : Writer) → shown_writer v ≡ w → IsWriter s.snapshots v → Shows (w.session).writer v
shows_writer s w v is h = record { same = sym (ap (λ x. (x.session).writer) is); begun = all_open v.pool v.begun h.begun }

kept_begun : (w : Writing) (u v : Writer) (new : sessions.Session) (after : sessions.Writing) → shown_writer u ≡ w → v.key ≡ u.key → v.files ≡ u.files → new ≡ settled after → after ≡ shown v
    → kept.Writer (record w { session = new }) ≡ kept.Writer (shown_writer v)
kept_begun w u v new after is key files left shows =
    let same : w.files ≡ shown_files v.key v.files = sym (ap (λ x. x.files) is) ∙ ap₂ (λ k fs. shown_files k fs) (sym key) (sym files) in
    ap₂ (λ a b. kept.Writer (record { session = a; files = b })) (left ∙ ap settled shows) same

-- ---- the session

module _ (moment : ℕ) (kind : NewIndex) (name : List ℕ) (found : Session) (w : Writing) (named : is_named found ≡ true) (is : found ≡ kept.Writer w) where
  abbrev step_at : Store → ℕ → Outcome
  step_at s lane = outcome s lane moment (new_command kind name)

  abbrev Quietly : Session → Result Reply Stop → Type 0
  Quietly new result = StepsQuietly found new step_at (answers_new kind) result

  stops_at : (new : Session) (result : Result Reply Stop) (stop : Stop) → IsErrAnd result (λ x. x ≡ stop) → Quietly new (Err stop) → Quietly new result
  stops_at new (Ok reply) stop ended p = absurd ended
  stops_at new (Err x) stop ended p = subst (λ y. Quietly new (Err y)) (sym ended) p

  -- the text is no file's name, or memory is wanting
  pub begin_unnamed : (stop : Stop) (result : Result Reply Stop) → IsErrAnd result (λ x. x ≡ stop) → IsNoName name stop → Quietly (kept.Writer w) result
  begin_unnamed stop result stopped bad = stops_at (kept.Writer w) result stop stopped (by_stop stop bad)
    where
      by_stop : (stop : Stop) → IsNoName name stop → Quietly (kept.Writer w) (Err stop)
      by_stop (stops.Refused r) bad =
          subst (λ x. Quietly (kept.Writer w) (Err (stops.Refused x))) (sym bad.0) (record {
            text = bad_name_has_text;
            answers = answers_name kind;
            plain = tt;
            named = sym (ap is_named is) ∙ named;
            writes = refl;
            same = sym is;
            step = λ s lane sound at. let f = writer_found s lane found w at is in refused s lane moment kind name f.0 BadName f.1 (bad_name kind f.0 name moment (not_index name bad.1));
          })
      by_stop stops.NoMemory bad = record { text = tt; answers = tt; plain = tt; named = sym (ap is_named is) ∙ named; writes = refl; same = sym is; step = tt }
      by_stop stops.DiskFailed bad = absurd bad

  module _ (new : sessions.Session) (result : Result ℕ Stop) (called : List ℕ) (called_is : called ≡ name)
      (does_so : Does (λ n. n) settled w.session new result (new_rows kind (w.session).writer called moment)) (none : new.pending ≡ None)
      (plain_so : (v : Writer) → Shows (w.session).writer v → TellsPlainly (λ n. n) settled new (new_plain kind v called moment) result) where
    does : Does (λ n. n) settled w.session new result (new_rows kind (w.session).writer name moment)
    does = subst (λ x. Does (λ n. n) settled w.session new result (new_rows kind (w.session).writer x moment)) called_is does_so

    plain : (v : Writer) → Shows (w.session).writer v → TellsPlainly (λ n. n) settled new (new_plain kind v name moment) result
    plain v shows = subst (λ x. TellsPlainly (λ n. n) settled new (new_plain kind v x moment) result) called_is (plain_so v shows)

    abbrev left : Session
    left = kept.Writer (record w { session = new })

    left_named : is_named left ≡ true
    left_named = named_begun kind found w new name moment result named is does none

    pub begin_stopped : (stop : Stop) (ended : Result Reply Stop) → IsErrAnd ended (λ x. x ≡ stop) → result ≡ Err stop → StopHasText stop → (IsErrOf result DiskFailed → ⊥) → Quietly left ended
    begin_stopped stop ended stopped was text uncalled = stops_at left ended stop stopped (by_stop stop was text)
      where
        by_stop : (stop : Stop) → result ≡ Err stop → StopHasText stop → Quietly left (Err stop)
        by_stop (stops.Refused r) was text =
            let refuses : (new_rows kind (w.session).writer name moment ≡ Err r) × (new ≡ w.session) =
            subst (λ x. Does (λ n. n) settled w.session new x (new_rows kind (w.session).writer name moment)) was does in
            record {
              text = text;
              answers = answers_refused kind r (index_refusal kind (w.session).writer name moment r refuses.0);
              plain = tt;
              named = left_named;
              writes = refl;
              same = ap (λ x. let y : Writing = record w { session = x } in kept.Writer y) refuses.1 ∙ sym is;
              step = λ s lane sound at.
                  let f = writer_found s lane found w at is in
                  refused s lane moment kind name f.0 r f.1
                  (subst (λ x. TellsPlainly (λ n. n) settled new (new_plain kind f.0 name moment) x) was
                  (plain f.0 (shows_writer s w f.0 f.2 (sound.writers lane f.0 f.1))));
            }
        by_stop stops.NoMemory was text =
            let same : new ≡ w.session = subst (λ x. Does (λ n. n) settled w.session new x (new_rows kind (w.session).writer name moment)) was does in
            record { text = tt; answers = tt; plain = tt; named = left_named; writes = refl; same = ap (λ x. let y : Writing = record w { session = x } in kept.Writer y) same ∙ sym is; step = tt }
        by_stop stops.DiskFailed was text = absurd (uncalled was)

    pub begin_done : (n : ℕ) → n < 256 → moment ≤ last_moment → result ≡ Ok n → Quietly left (Ok (Number n))
    begin_done n fits in_time was = record {
      text = number_has_text n fits;
      answers = answers_number kind n;
      plain = tt;
      named = left_named;
      writes = refl;
      same = tt;
      step = λ s lane sound at.
          let f = writer_found s lane found w at is in
          let is_writer = sound.writers lane f.0 f.1 in
          let t : LeavesShown settled new (new_plain kind f.0 name moment) n =
          subst (λ x. TellsPlainly (λ k. k) settled new (new_plain kind f.0 name moment) x) was (plain f.0 (shows_writer s w f.0 f.2 is_writer)) in
          let begun : IsNew kind name moment f.0 t.plain = is_new kind name moment n f.0 t.plain t.stepped in
          let key : (t.plain).key ≡ (f.0).key = ap (λ x. x.key) begun.same in
          record {
            before = f.0;
            after = t.plain;
            at = f.1;
            step = begins s lane moment kind name f.0 t.plain n f.1 t.stepped;
            shown = kept_begun w f.0 t.plain new t.after f.2 key (ap (λ x. x.files) begun.same) t.left (t.shows).same;
            key = key;
            base = ap (λ x. x.base) begun.same;
            pool = λ p has. subst (λ (x : Writer). Contains x.pool p) (sym begun.same) has;
            is_writer = is_writer_begun s kind f.0 t.plain name moment (uuid_length (f.0).key name) (moment_fits moment in_time) begun is_writer;
            uploads = λ m. has_uploads_begun m kind f.0 t.plain name moment begun;
          };
    }
