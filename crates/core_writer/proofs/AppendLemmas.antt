-- APPEND is the store's.
use Rattle.std.specs.List.{Contains}
use Rattle.std.proofs.Common.{◌≡◌, ℕ, true, List, map, None, Result, Ok, Err, IsErrAnd, IsErrOf, refl, sym, ap, subst, ◌∙◌}
use Rattle.store_types.specs.declared.append.AppendEntry.{AppendEntry}
use Rattle.store_types.specs.declared.refusal.Refusal.{Refusal}
use Rattle.store_types.specs.Names.{IsKey}
use Rattle.wire_commands.specs.declared.command.Command.TheVariants.{Append}
use Rattle.wire_commands.specs.declared.reply.Reply.{Reply}
use Rattle.wire_commands.specs.declared.reply.Reply.TheVariants.{Done}
use Rattle.store_model.specs.Store as model
use Rattle.store_model.specs.Store.{Store, Outcome, writer, session, with_session}
use Rattle.store_model.specs.ArchiveSteps as steps
use Rattle.store_model.specs.WriterCalls as calls
use Rattle.store_model.specs.WriterSteps.{goes_on}
use Rattle.store_model.specs.Steps.{outcome}
use Rattle.backup_session.specs.Answers.{LeavesShown}
use Rattle.core_writer.specs.Does.{Does, DoesPlainly}
use Rattle.backup_session.specs.Session as rows
use Rattle.backup_session.specs.Session.{settled}
use Rattle.backup_session.specs.Shown.{Shows}
use Rattle.backup_session.specs.Steps as row_steps
use Rattle.core_state.specs.declared.kept.Session.{Session}
use Rattle.core_state.specs.declared.kept.Session.TheVariants as kept
use Rattle.core_state.specs.declared.kept.Writing.{Writing}
use Rattle.store_stops.specs.declared.stop.Stop.{Stop}
use Rattle.store_stops.specs.declared.stop.Stop.TheVariants as stops
use Rattle.core_state.specs.Named.{is_named}
use Rattle.store_history.specs.Replies.{answers_append}
use Rattle.core_state.specs.Shown.{shown_writer, shown_files}
use Rattle.snapshot_files.specs.Reads.{StopHasText}
use Rattle.core_state.proofs.NamedLemmas.{writer_named, writer_stays_named}
use Rattle.core_state.proofs.Sessions.{writer_found}
use Rattle.core_state.proofs.Texts.{done_has_text}
use Rattle.core_writer.specs.Stepped.{StepsQuietly}
use Rattle.core_writer.proofs.AppendRefusals.{append_refuses, append_key}
use Rattle.core_writer.proofs.AppendedLemmas.{HasGrown, has_grown, is_writer_appended, has_uploads_appended}
use Rattle.core_writer.proofs.KeepLemmas.{shows_found}

-- ---- the step

module _ (s : Store) (lane moment number : ℕ) (entries : List AppendEntry) where
  pub not_writing : (r : Refusal) → model.want_writer (session s lane) ≡ Err r → outcome s lane moment (Append number entries) ≡ Err r
  unfolding outcome steps.append
  not_writing r none = rw none refl

  refused : (w : model.Writer) (r : Refusal) → session s lane ≡ writer w → calls.append w number (map steps.named entries) ≡ Err r → outcome s lane moment (Append number entries) ≡ Err r
  unfolding outcome steps.append
  refused w r at is = rw (at, is) refl

  grows : (w v : model.Writer) → session s lane ≡ writer w → calls.append w number (map steps.named entries) ≡ Ok (v, tt) → outcome s lane moment (Append number entries) ≡ Ok (with_session s lane (writer v), Done)
  unfolding outcome steps.append goes_on
  grows w v at is = rw (at, is) refl

-- ---- the session

module _ (moment number : ℕ) (entries : List AppendEntry) (found : Session) (w : Writing) (named : is_named found ≡ true) (is : found ≡ kept.Writer w) where
  abbrev step_at : Store → ℕ → Outcome
  step_at s lane = outcome s lane moment (Append number entries)

  abbrev Quietly : Session → Result Reply Stop → Type 0
  Quietly new result = StepsQuietly found new step_at answers_append result

  stops_at : (new : Session) (result : Result Reply Stop) (stop : Stop) → IsErrAnd result (λ x. x ≡ stop) → Quietly new (Err stop) → Quietly new result
  stops_at new (Ok reply) stop ended p = absurd ended
  stops_at new (Err x) stop ended p = subst (λ y. Quietly new (Err y)) (sym ended) p

  module _ (new : rows.Session) (result : Result (Unit {0}) Stop) (does : Does (λ u. u) settled w.session new result (row_steps.append (w.session).writer number (map steps.named entries))) (none : new.pending ≡ None)
      (plain : DoesPlainly (λ u. u) settled w.session new result (λ v. calls.append v number (map steps.named entries))) where
    abbrev left : Session
    left = kept.Writer (record w { session = new })

    key_by : (t : Result (Unit {0}) Stop) → Does (λ u. u) settled w.session new t (row_steps.append (w.session).writer number (map steps.named entries)) → (new.writer).key ≡ ((w.session).writer).key
    key_by (Ok u) h = ap (λ (x : rows.Session). (x.writer).key) h.left ∙ append_key (w.session).writer number (map steps.named entries) h.after h.stepped
    key_by (Err (stops.Refused r)) h = ap (λ (x : rows.Session). (x.writer).key) h.1
    key_by (Err stops.NoMemory) h = ap (λ (x : rows.Session). (x.writer).key) h
    key_by (Err stops.DiskFailed) h = ap (λ (x : rows.Session). (x.writer).key) h

    left_named : is_named left ≡ true
    left_named = writer_stays_named (record w { session = new }) (subst IsKey (sym (key_by result does)) (writer_named w (sym (ap is_named is) ∙ named)).0) none

    as_found : new ≡ w.session → left ≡ found
    as_found same = ap (λ x. let y : Writing = record w { session = x } in kept.Writer y) same ∙ sym is

    pub append_stopped : (stop : Stop) (ended : Result Reply Stop) → IsErrAnd ended (λ x. x ≡ stop) → result ≡ Err stop → StopHasText stop → (IsErrOf result stops.DiskFailed → ⊥) → Quietly left ended
    append_stopped stop ended stopped was text uncalled = stops_at left ended stop stopped (by_stop stop was text)
      where
        by_stop : (stop : Stop) → result ≡ Err stop → StopHasText stop → Quietly left (Err stop)
        by_stop (stops.Refused r) was text =
            let refuses : (row_steps.append (w.session).writer number (map steps.named entries) ≡ Err r) × (new ≡ w.session) =
            subst (λ t. Does (λ u. u) settled w.session new t (row_steps.append (w.session).writer number (map steps.named entries))) was does in
            record {
              text = text;
              answers = append_refuses (w.session).writer number (map steps.named entries) r refuses.0;
              plain = tt;
              named = left_named;
              writes = refl;
              same = as_found refuses.1;
              step = λ s lane sound at.
                  let f = writer_found s lane found w at is in
                  refused s lane moment number entries f.0 r f.1
                  (subst (λ t. DoesPlainly (λ u. u) settled w.session new t (λ v. calls.append v number (map steps.named entries))) was plain f.0 (shows_found s lane f.0 w sound f.1 f.2));
            }
        by_stop stops.NoMemory was text =
            let same : new ≡ w.session = subst (λ t. Does (λ u. u) settled w.session new t (row_steps.append (w.session).writer number (map steps.named entries))) was does in
            record { text = tt; answers = tt; plain = tt; named = left_named; writes = refl; same = as_found same; step = tt }
        by_stop stops.DiskFailed was text = absurd (uncalled was)

    kept_after : (v after : model.Writer) → HasGrown number v after → shown_writer v ≡ w → (x : rows.Writing) → new ≡ settled x → Shows x after → left ≡ kept.Writer (shown_writer after)
    kept_after v after grown v_is x left_is shows =
        let files : w.files ≡ shown_files after.key after.files = ap (λ (y : Writing). y.files) (sym v_is) ∙ ap (λ (y : model.Writer). shown_files y.key y.files) (sym grown.same) in
        ap (λ f. let y : Writing = record { session = new; files = f } in kept.Writer y) files
        ∙ ap (λ z. let y : Writing = record { session = z; files = shown_files after.key after.files } in kept.Writer y) (left_is ∙ ap settled shows.same)

    pub append_done : (u : Unit {0}) → result ≡ Ok u → Quietly left (Ok Done)
    append_done u was = record {
      text = done_has_text;
      answers = refl;
      plain = tt;
      named = left_named;
      writes = refl;
      same = tt;
      step = λ s lane sound at.
          let f = writer_found s lane found w at is in
          let leaves : LeavesShown settled new (calls.append f.0 number (map steps.named entries)) tt =
          subst (λ t. DoesPlainly (λ u. u) settled w.session new t (λ v. calls.append v number (map steps.named entries))) was plain f.0 (shows_found s lane f.0 w sound f.1 f.2) in
          let grown = has_grown number (map steps.named entries) f.0 leaves.plain leaves.stepped in
          record {
            before = f.0;
            after = leaves.plain;
            at = f.1;
            step = grows s lane moment number entries f.0 leaves.plain f.1 leaves.stepped;
            shown = kept_after f.0 leaves.plain grown f.2 leaves.after leaves.left leaves.shows;
            key = ap (λ (x : model.Writer). x.key) grown.same;
            base = ap (λ (x : model.Writer). x.base) grown.same;
            pool = λ p has. subst (λ (x : model.Writer). Contains x.pool p) (sym grown.same) has;
            is_writer = is_writer_appended s number f.0 leaves.plain grown (sound.writers lane f.0 f.1);
            uploads = λ m. has_uploads_appended m number f.0 leaves.plain grown;
          };
    }
