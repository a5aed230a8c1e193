-- Each act that is done moves the store.
use Rattle.std.proofs.Common.{◌≡◌, ⊎_elim, ◌⊎◌, inl, inr, ◌<◌, ℕ, Bool, true, false, cond, not, List, [], ◌∷◌, length, map, get_or, Option, Some, None, Result, Ok, Err, refl, sym, subst, ap, ◌∙◌, arith, true≢false, lt-ltb}
use Rattle.std.specs.List.{position, position_or_len}
use Rattle.std.specs.Str.{bytes_eq}
use Rattle.std.proofs.lemmas.Bool.{cases_lt, false≢true}
use Rattle.std.proofs.lemmas.List.{get_or_past}
use Rattle.std.proofs.lemmas.List.Sums.{fails_before_first}
use Rattle.sha2.specs.Sha256.{sha256}
use Rattle.store_types.specs.declared.append.AppendEntry.{AppendEntry}
use Rattle.store_types.specs.declared.names.Digest32.{Digest32}
use Rattle.store_types.specs.declared.names.SnapshotKey.{SnapshotKey}
use Rattle.store_types.specs.declared.names.GroupKey.{GroupKey}
use Rattle.store_types.specs.declared.refusal.Refusal.{Refusal}
use Rattle.store_types.specs.declared.refusal.Refusal.TheVariants.{NoMemory}
use Rattle.store_types.specs.Names.{same_key, same_group, key_of, group_of_key}
use Rattle.store_types.proofs.OrderLaws.{same_keys}
use Rattle.store_files.specs.Archive.{File, Snapshot, pieces_of, file_named, content_of}
use Rattle.wire_commands.specs.declared.command.Command.{Command}
use Rattle.wire_commands.specs.declared.command.Command.TheVariants as commands
use Rattle.wire_commands.specs.declared.reply.Reply.{Reply}
use Rattle.wire_commands.specs.declared.reply.Reply.TheVariants.{Done, Refused}
use Rattle.store_model.specs.Store.{Begun, Session, none, Writer, writer, Reader, reader, Store, Outcome, session, with_session, holds_snapshot, is_key, snapshot_holder, in_group, keys_in, latest_in, snapshot_named, insert_snapshot, without_snapshot}
use Rattle.store_model.specs.WriterSteps.{new_writer, base_of, snapshot_of}
use Rattle.store_model.specs.WriterCalls.{has_number}
use Rattle.store_model.specs.WriterCalls as calls
use Rattle.store_model.specs.ArchiveSteps.{named}
use Rattle.store_model.specs.Steps.{answered}
use Rattle.store_model.specs.Done.{Effect, IsGrown, IsNext, Shape, grown, NamesPieces}
use Rattle.store_model.specs.Done as shapes
use Rattle.store_model.proofs.Finding.{found_passes}
use Rattle.store_model.proofs.Done.{err_ok, done, chunk_done}
use Rattle.store_model.proofs.HeadLemmas.{idle_key_found}
use Rattle.store_history.specs.declared.act.Act.{Act}
use Rattle.store_history.specs.declared.act.Act.TheVariants as acts
use Rattle.store_model.specs.Weave.{fault_refusal}
use Rattle.store_history.specs.declared.act.Event.{Event}
use Rattle.store_history.specs.Acts.{IsCheckedChunk, IsWellFormed, stepping, reaching, starting, sweeping, wanting, ending, class_of}
use Rattle.store_history.specs.History.{World, data_in, act_outcome, moved, after, lane, moment, kind, reply, EntryKind, kind_of, step_kind, short_kind, fault_kind, end_kind}
use Rattle.store_history.specs.Legal.{Right, IsRight}
use Rattle.store_history.proofs.Checking.{checked_digest}
use Rattle.store_history.proofs.ActShapes.{act_effect, act_left}
use Rattle.store_history.specs.Sweeping.{names_key, forgets}
use Rattle.store_upkeep.specs.Safety.{In, Has, IsFinished, IsOfBase, IsPooled}
use Rattle.store_upkeep.proofs.Members.{in_filter, filter_in, map_in, find_in, last_in, insert_snapshot_in, in_insert_snapshot, each_session}
use Rattle.store_upkeep.proofs.Freshness.{Touches, Sends}
use Rattle.store_upkeep.proofs.Moving.{GoesOn, Begins, IsWriting, IsReading, IsNew, IsFree, Moves, IsQuiet, still, turned, ends_here, writing_still, reading_still, no_writer, no_reader}
use Rattle.store_upkeep.proofs.Writing.{AreNamed, named_by, pools, puts_blob, begins_archive, appends, closes}

-- ---- what an act does

abbrev pub Forgets : Act → Option Reply → SnapshotKey → Type 0
Forgets a r key = forgets a r key ≡ true

-- the store and the reply that an act of this moment gives
abbrev MovesTo : ℕ → Act → Store → Store × Reply → Type 0
MovesTo m a s after = Moves s after.0 m (Sends a (Some after.1)) (Touches a (Some after.1)) (Forgets a (Some after.1))

-- ---- acts that touch nothing and forget nothing

abbrev changes : Act → Bool
changes (acts.Chunk digest checked) = true
changes (acts.Plain (commands.Append number entries)) = true
changes (acts.Plain (commands.Forget text)) = true
changes a = false

pub quiet_act : (a : Act) (r : Option Reply) → changes a ≡ false → IsQuiet (Sends a r) (Touches a r) (Forgets a r)
quiet_act (acts.Chunk digest checked) r off = absurd (true≢false off)
quiet_act (acts.Plain (commands.Append number entries)) r off = absurd (true≢false off)
quiet_act (acts.Plain (commands.Forget text)) r off = absurd (true≢false off)
quiet_act a r off = record { sent = λ d h. h; touched = λ d h. h; gone = λ key h. false≢true h }

pub sends_done : (a : Act) (r : Option Reply) (d : List ℕ) → Sends a r d → r ≡ Some Done
sends_done (acts.Chunk digest checked) (Some Done) d h = refl
sends_done a r d h = absurd h

pub touches_done : (a : Act) (r : Option Reply) (d : List ℕ) → Touches a r d → r ≡ Some Done
touches_done (acts.Chunk digest checked) (Some Done) d h = refl
touches_done (acts.Plain (commands.Append number entries)) (Some Done) d h = refl
touches_done a r d h = absurd h

pub forgets_done : (a : Act) (r : Option Reply) (key : SnapshotKey) → forgets a r key ≡ true → r ≡ Some Done
forgets_done (acts.Plain (commands.Forget text)) (Some Done) key h = refl
forgets_done a r key h = absurd (false≢true h)

-- nor does an act that was not done
pub quiet_reply : (a : Act) (r : Option Reply) → (r ≡ Some Done → ⊥) → IsQuiet (Sends a r) (Touches a r) (Forgets a r)
quiet_reply a r off = record {
  sent = λ d h. off (sends_done a r d h);
  touched = λ d h. off (touches_done a r d h);
  gone = λ key h. off (forgets_done a r key h);
}

-- ---- sessions

same_writers : (v w : Writer) → writer v ≡ writer w → v ≡ w
same_writers v w e = cc

same_readers : (q r : Reader) → reader q ≡ reader r → q ≡ r
same_readers q r e = cc

writer_reader : (v : Writer) (r : Reader) → writer v ≡ reader r → ⊥
writer_reader v r e = cc

reader_writer : (r : Reader) (v : Writer) → reader r ≡ writer v → ⊥
reader_writer r v e = cc

-- ---- the lane's session is another

module _ (s : Store) (k m : ℕ) (Sent Touched : List ℕ → Type 0) (Gone : SnapshotKey → Type 0) where
  -- its writer goes on
  on : (v x : Writer) → session s k ≡ writer v → GoesOn s Sent Touched v x → ((key : SnapshotKey) → Gone key → ⊥) → ((d : List ℕ) → Sent d → Touched d)
      → ((d : List ℕ) → Touched d → Sent d ⊎ IsPooled s d) → Moves s (with_session s k (writer x)) m Sent Touched Gone
  on v x was goes none_gone sent named =
      turned s m Sent Touched Gone k (writer x) (λ y e. inl (v, was, subst (GoesOn s Sent Touched v) (same_writers x y e) goes)) (λ r e. absurd (writer_reader x r e)) none_gone sent named

  on_quietly : (v x : Writer) → session s k ≡ writer v → GoesOn s Sent Touched v x → IsQuiet Sent Touched Gone → Moves s (with_session s k (writer x)) m Sent Touched Gone
  on_quietly v x was goes quiet = on v x was goes quiet.gone (λ d h. absurd (quiet.sent d h)) (λ d h. absurd (quiet.touched d h))

  -- a writer begins
  begins : (x : Writer) → session s k ≡ none → Begins (with_session s k (writer x)) m x → IsQuiet Sent Touched Gone → Moves s (with_session s k (writer x)) m Sent Touched Gone
  begins x idle begun quiet =
      turned s m Sent Touched Gone k (writer x) (λ y e. inr (idle, subst (Begins (with_session s k (writer x)) m) (same_writers x y e) begun)) (λ r e. absurd (writer_reader x r e))
      quiet.gone (λ d h. absurd (quiet.sent d h)) (λ d h. absurd (quiet.touched d h))

  -- a reader begins, or goes on
  reads : (x : Reader) → (((q : Reader) × (session s k ≡ reader q) × (q.key ≡ x.key)) ⊎ IsFinished s.snapshots x.key) → IsQuiet Sent Touched Gone → Moves s (with_session s k (reader x)) m Sent Touched Gone
  reads x from quiet =
      turned s m Sent Touched Gone k (reader x) (λ y e. absurd (reader_writer x y e))
      (λ r e. subst (λ (z : Reader). ((q : Reader) × (session s k ≡ reader q) × (q.key ≡ z.key)) ⊎ IsFinished s.snapshots z.key) (same_readers x r e) from)
      quiet.gone (λ d h. absurd (quiet.sent d h)) (λ d h. absurd (quiet.touched d h))

  -- the writer's snapshot is finished
  finishes : (v : Writer) → session s k ≡ writer v → IsQuiet Sent Touched Gone
      → Moves s (record (with_session s k none) { snapshots = insert_snapshot (snapshot_of v) s.snapshots }) m Sent Touched Gone
  finishes v was quiet = record {
    writers = each_session s.sessions k none (IsWriting s t m Sent Touched) (λ x e. absurd (no_writer x e)) (writing_still s t m Sent Touched);
    readers = each_session s.sessions k none (IsReading s t) (λ r e. absurd (no_reader r e)) (reading_still s t);
    comes = λ x h. by_place x (insert_snapshot_in (snapshot_of v) s.snapshots x h);
    remains = λ x h. inl (in_insert_snapshot (snapshot_of v) s.snapshots x h);
    gone = λ x h g. quiet.gone x.key g;
    sent = λ d h. absurd (quiet.sent d h);
    named = λ d h. absurd (quiet.touched d h);
  }
    where
      t : Store
      t = record (with_session s k none) { snapshots = insert_snapshot (snapshot_of v) s.snapshots }

      by_place : (x : Snapshot) → (x ≡ snapshot_of v) ⊎ In x s.snapshots → In x s.snapshots ⊎ IsNew s x
      by_place x (inl e) = inr (k, v, was, λ d h. inr (subst (λ (y : Snapshot). Has y.files d) e h))
      by_place x (inr old) = inl old

-- ---- FORGET

none_passes : {X : Type 0} (p : X → Bool) (xs : List X) (i : ℕ) (d : X) → position p xs ≡ None → i < length xs → p (get_or xs i d) ≡ false
none_passes p xs i d free lt = ⊎_elim
    (λ within. absurd (some_none _ (sym (ap (λ b. cond b (Some (position_or_len p xs)) None) (lt-ltb (position_or_len p xs) (length xs) within)) ∙ free)))
    (λ past. fails_before_first p xs i d (omega (arith, past, lt)))
    (cases_lt (position_or_len p xs) (length xs))
  where
    some_none : (i : ℕ) → Some i ≡ None → ⊥
    some_none i e = cc

-- no lane holds it
not_held : (s : Store) (key : SnapshotKey) (lane : ℕ) → snapshot_holder s key ≡ None → holds_snapshot key (session s lane) ≡ false
not_held s key lane free = ⊎_elim
    (λ within. none_passes (holds_snapshot key) s.sessions lane none free within)
    (λ past. ap (holds_snapshot key) (get_or_past s.sessions lane none past))
    (cases_lt lane (length s.sessions))

free_of : (s : Store) (left : List Snapshot) (key : SnapshotKey) → snapshot_holder s key ≡ None → IsFree (record s { snapshots = left }) key
free_of s left key free = record {
  bases = λ lane x runs base. true≢false (sym (ap (holds_snapshot key) runs ∙ ap (is_key key) base ∙ (same_keys key key).1 refl) ∙ not_held s key lane free);
  readers = λ lane r reads is. true≢false (sym (ap (holds_snapshot key) reads ∙ (same_keys key r.key).1 (sym is)) ∙ not_held s key lane free);
}

module _ (s : Store) (m : ℕ) (text : List ℕ) (key : SnapshotKey) (is : key_of text ≡ Some key) (free : snapshot_holder s key ≡ None) where
  abbrev forgot : Store
  forgot = record s { snapshots = without_snapshot key s.snapshots }

  abbrev one : Act
  one = acts.Plain (commands.Forget text)

  not_true : (b : Bool) → not b ≡ true → b ≡ false
  not_true true e = absurd (false≢true e)
  not_true false e = refl

  forgotten : (x : SnapshotKey) → Forgets one (Some Done) x → same_key x key ≡ true
  forgotten x h = ap (λ o. names_key o x) (sym is) ∙ h

  kept_or_gone : (x : Snapshot) → In x s.snapshots → (b : Bool) → same_key x.key key ≡ b → In x forgot.snapshots ⊎ (IsFree forgot x.key × Forgets one (Some Done) x.key)
  kept_or_gone x h true e = inr (subst (IsFree forgot) (sym ((same_keys x.key key).0 e)) (free_of s (without_snapshot key s.snapshots) key free), ap (λ o. names_key o x.key) is ∙ e)
  kept_or_gone x h false e = inl (in_filter (λ y. not (same_key y.key key)) s.snapshots x h (ap not e))

  forgets_one : Moves s forgot m (Sends one (Some Done)) (Touches one (Some Done)) (Forgets one (Some Done))
  forgets_one = record {
    writers = writing_still s forgot m (Sends one (Some Done)) (Touches one (Some Done));
    readers = reading_still s forgot;
    comes = λ x h. inl (filter_in (λ y. not (same_key y.key key)) s.snapshots x h).0;
    remains = λ x h. kept_or_gone x h (same_key x.key key) refl;
    gone = λ x h g. true≢false (sym (forgotten x.key g) ∙ not_true (same_key x.key key) (filter_in (λ y. not (same_key y.key key)) s.snapshots x h).1);
    sent = λ d h. absurd h;
    named = λ d h. absurd h;
  }

-- ---- what a command finds

latest_finished : (g : GroupKey) (xs : List Snapshot) (key : SnapshotKey) → latest_in g xs ≡ Some key → IsFinished xs key
latest_finished g xs key e =
    let at = map_in (λ (x : Snapshot). x.key) (in_group g xs) key (last_in (keys_in g xs) key e) in
    (at.0, (filter_in (λ (x : Snapshot). same_group (group_of_key x.key) g) xs at.0 at.1).0, sym at.2)

named_finished : (key : SnapshotKey) (xs : List Snapshot) (x : Snapshot) → snapshot_named key xs ≡ Some x → In x xs × (x.key ≡ key)
named_finished key xs x e =
    (find_in (λ y. same_key y.key key) xs x e, (same_keys x.key key).0 (found_passes (λ y. same_key y.key key) xs x e))

based : (s : Store) (v : Writer) (x : Snapshot) → base_of s v ≡ Some x → (key : SnapshotKey) × (v.base ≡ Some key) × In x s.snapshots × (x.key ≡ key)
based s v x e = by_base v.base refl e
  where
    none_found : None ≡ Some x → ⊥
    none_found e = cc

    by_base : (o : Option SnapshotKey) → v.base ≡ o → elim o [ None ↦ None | Some key ↦ snapshot_named key s.snapshots ] ≡ Some x
        → (key : SnapshotKey) × (v.base ≡ Some key) × In x s.snapshots × (x.key ≡ key)
    by_base None is e = absurd (none_found e)
    by_base (Some key) is e = let at = named_finished key s.snapshots x e in (key, is, at.0, at.1)

of_base : (s : Store) (v : Writer) (x : Snapshot) (name : List ℕ) (f : File) → base_of s v ≡ Some x → file_named name x.files ≡ Some f → (d : List ℕ) → In d (map sha256 (pieces_of f.content)) → IsOfBase s v d
of_base s v x name f base found d h =
    let at = based s v x base in
    (at.0, at.1, (x, at.2, at.3, (f, find_in (λ (g : File). bytes_eq g.name name) x.files f found, h)))

named_digests : (entries : List AppendEntry) → map (λ e. (e.0).0) (map named entries) ≡ map (λ e. (e.digest).0) entries
named_digests [] = refl
named_digests (e ∷ es) = ap (λ ds. (e.digest).0 ∷ ds) (named_digests es)

-- ---- an act that sends, appends and forgets nothing

record IsSilent (e : Effect) : Type 0 where
  sending : e ≡ shapes.sends → ⊥
  appending : e ≡ shapes.appends → ⊥
  forgetting : (text : List ℕ) → e ≡ shapes.forgets text → ⊥

silent : (a : Act) → IsWellFormed a → changes a ≡ false → IsSilent (act_effect a)
silent (acts.Chunk digest checked) formed off = absurd (true≢false off)
silent (acts.Plain (commands.Chunk digest bytes)) formed off = absurd formed
silent (acts.Plain (commands.Append number entries)) formed off = absurd (true≢false off)
silent (acts.Plain (commands.Forget text)) formed off = absurd (true≢false off)
silent (acts.JobGroup (commands.Prune name keep dry)) formed off = record { sending = λ e. cc; appending = λ e. cc; forgetting = λ text e. cc }
silent (acts.JobGroup c) formed off = absurd formed
silent a formed off = record { sending = λ e. cc; appending = λ e. cc; forgetting = λ text e. cc }

module _ (s : Store) (k m : ℕ) (e : Effect) (Sent Touched : List ℕ → Type 0) (Gone : SnapshotKey → Type 0) (none_of : IsSilent e) (quiet : IsQuiet Sent Touched Gone) where
  grows : (v w : Writer) → IsGrown s v e w → GoesOn s Sent Touched v w
  grows v w (shapes.taken x name f base has is) = subst (GoesOn s Sent Touched v) (sym is) (pools s Sent Touched v (pieces_of f.content) (λ d h. inr (of_base s v x name f base has d h)))
  grows v w (shapes.sent piece sends is) = absurd (none_of.sending sends)
  grows v w (shapes.begun name a empty is) = subst (GoesOn s Sent Touched v) (sym is) (begins_archive s Sent Touched v name a empty)
  grows v w (shapes.appended number pieces appends is) = absurd (none_of.appending appends)
  grows v w (shapes.filed number b at is) = subst (GoesOn s Sent Touched v) (sym is) (closes s Sent Touched v number b (find_in (has_number number) v.begun b at))
  grows v w (shapes.stored name contents is) = subst (GoesOn s Sent Touched v) (sym is) (puts_blob s Sent Touched v name contents)

  abbrev Into : Session → Type 0
  Into x = Moves s (with_session s k x) m Sent Touched Gone

  next_moves : (x : Session) → IsNext s k m e x → Into x
  next_moves x (shapes.ends is) = subst Into (sym is) (ends_here s m Sent Touched Gone k quiet)
  next_moves x (shapes.opens text key takes alone newer is) =
      subst Into (sym is) (begins s k m Sent Touched Gone (new_writer key m (latest_in (group_of_key key) s.snapshots)) (idle_key_found s k text key takes).0
      (record { start = refl; base = latest_finished (group_of_key key) s.snapshots; pool = refl; begun = refl; files = refl }) quiet)
  next_moves x (shapes.writes v w runs goes is) = subst Into (sym is) (on_quietly s k m Sent Touched Gone v w runs (grows v w goes) quiet)
  next_moves x (shapes.enters y r there is) =
      subst Into (sym is) (reads s k m Sent Touched Gone r (inr (let at = named_finished r.key s.snapshots y there in (y, at.0, at.1))) quiet)
  next_moves x (shapes.reads q r reading kept is) = subst Into (sym is) (reads s k m Sent Touched Gone r (inl (q, reading, sym kept)) quiet)

  abbrev To : Store → Type 0
  To t = Moves s t m Sent Touched Gone

  shape_moves : (t : Store) → Shape s k m e t → To t
  shape_moves t (shapes.same is) = subst To (sym is) (still s m Sent Touched Gone quiet)
  shape_moves t (shapes.turned x next is) = subst To (sym is) (next_moves x next)
  shape_moves t (shapes.more v ends runs is) = subst To (sym is) (finishes s k m Sent Touched Gone v runs quiet)
  shape_moves t (shapes.less text key takes named free is) = absurd (none_of.forgetting text takes)

-- ---- CHUNK and APPEND

one_digest : (d piece digest : List ℕ) → sha256 piece ≡ digest → In d (map sha256 (piece ∷ [])) → d ≡ digest
one_digest d piece digest same (inl e) = e ∙ same
one_digest d piece digest same (inr h) = absurd h

pub digest_is : (digest : Digest32) (checked : Result (List ℕ) Refusal) (piece : List ℕ) → IsCheckedChunk digest checked → data_in checked ≡ Ok piece → sha256 piece ≡ digest.0
digest_is digest (Ok bytes) piece formed is = checked_digest digest bytes piece formed is
digest_is digest (Err refusal) piece formed is = absurd (err_ok refusal piece is)

module _ (s : Store) (k m : ℕ) where
  sends_piece : (digest : Digest32) (checked : Result (List ℕ) Refusal) (w : Writer) (piece : List ℕ) → session s k ≡ writer w → sha256 piece ≡ digest.0
      → Moves s (with_session s k (writer (calls.chunk w piece))) m (λ d. d ≡ digest.0) (λ d. d ≡ digest.0) (Forgets (acts.Chunk digest checked) (Some Done))
  sends_piece digest checked w piece runs same =
      on s k m (λ d. d ≡ digest.0) (λ d. d ≡ digest.0) (Forgets (acts.Chunk digest checked) (Some Done)) w (calls.chunk w piece) runs
      (pools s (λ d. d ≡ digest.0) (λ d. d ≡ digest.0) w (piece ∷ []) (λ d h. inl (one_digest d piece digest.0 same h)))
      (λ key h. false≢true h) (λ d h. h) (λ d h. inl h)

  appends_pieces : (number : ℕ) (entries : List AppendEntry) (v : Writer) (b : Begun) (pieces : List (List ℕ)) → session s k ≡ writer v → NamesPieces v b entries pieces
      → Moves s (with_session s k (writer (grown v number pieces))) m (λ d. ⊥) (λ d. In d (map (λ e. (e.digest).0) entries)) (Forgets (acts.Plain (commands.Append number entries)) (Some Done))
  appends_pieces number entries v b pieces runs are =
      on s k m (λ d. ⊥) (λ d. In d (map (λ e. (e.digest).0) entries)) (Forgets (acts.Plain (commands.Append number entries)) (Some Done)) v (grown v number pieces) runs
      (appends s (λ d. ⊥) (λ d. In d (map (λ e. (e.digest).0) entries)) v number (map named entries) pieces all (λ d h. subst (In d) (named_digests entries) h))
      (λ key h. false≢true h) (λ d h. absurd h) (λ d h. inr (k, v, runs, all.all d (subst (In d) (sym (named_digests entries)) h)))
    where
      all : AreNamed v.pool (map named entries) pieces
      all = named_by v.pool (b.archive).layout (length (content_of b.archive)) (map named entries) pieces are

-- ---- an act that was done

act_does : (R : Option (List Snapshot)) (w : World) (k m : ℕ) (a : Act) → IsWellFormed a → (after : Store × Reply) → act_outcome R w k m a ≡ Ok after → MovesTo m a w.store after
unfolding act_outcome
act_does R w k m (acts.Chunk digest checked) formed after is =
    let d = chunk_done w.store k (data_in checked) after is in
    subst (MovesTo m (acts.Chunk digest checked) w.store) (sym d.4) (sends_piece w.store k m digest checked d.0 d.1 d.2 (digest_is digest checked d.1 formed d.3))
act_does R w k m (acts.Plain (commands.Append number entries)) formed after is =
    let d = done w.store k m (commands.Append number entries) after is in
    subst (MovesTo m (acts.Plain (commands.Append number entries)) w.store) (sym d.7) (appends_pieces w.store k m number entries d.0 d.1 d.2 d.3 d.6)
act_does R w k m (acts.Plain (commands.Forget text)) formed after is =
    let d = done w.store k m (commands.Forget text) after is in
    subst (MovesTo m (acts.Plain (commands.Forget text)) w.store) (sym d.5) (forgets_one w.store m text d.0 (idle_key_found w.store k text d.0 d.2).1 d.4)
act_does R w k m a formed after is =
    shape_moves w.store k m (act_effect a) (Sends a (Some after.1)) (Touches a (Some after.1)) (Forgets a (Some after.1))
    (silent a formed refl) (quiet_act a (Some after.1) refl) after.0 (act_left R w k m a after is).store

-- ---- what is answered

pub refused_done : (refusal : Refusal) (r : Option Reply) → r ≡ Some (Refused refusal) → r ≡ Some Done → ⊥
refused_done refusal r is done = let clash : Some (Refused refusal) ≡ Some Done = sym is ∙ done in cc

-- a command or a step that was answered so
answer_moves : (m : ℕ) (a : Act) (s : Store) (o : Outcome) (r : Option Reply) → ((after : Store × Reply) → o ≡ Ok after → MovesTo m a s after) → r ≡ Some (answered s o).1
    → Moves s (answered s o).0 m (Sends a r) (Touches a r) (Forgets a r)
answer_moves m a s (Ok after) r does is = subst (λ x. Moves s after.0 m (Sends a x) (Touches a x) (Forgets a x)) (sym is) (does after refl)
answer_moves m a s (Err refusal) r does is = still s m _ _ _ (quiet_reply a r (refused_done refusal r is))

module _ (R : Option (List Snapshot)) (w : World) (k m : ℕ) (r : Option Reply) where
  -- it moves the store so, whatever its entry's kind
  abbrev MovesBy : Act → EntryKind → Type 0
  MovesBy a n = Moves w.store (moved R w k m a n).store m (Sends a r) (Touches a r) (Forgets a r)

  stepping_moves : (a : Act) → IsWellFormed a → (n : EntryKind) → Right R w k m a r stepping n → MovesBy a n
  unfolding moved
  stepping_moves a formed step_kind right = answer_moves m a w.store (act_outcome R w k m a) r (act_does R w k m a formed) right.1
  stepping_moves a formed short_kind right = still w.store m _ _ _ (quiet_reply a r (refused_done NoMemory r right.0))
  stepping_moves a formed fault_kind right = still w.store m _ _ _ (quiet_reply a r (refused_done (fault_refusal w.fault) r right))
  stepping_moves a formed _ right = absurd right

  -- no act of a collector, want of memory or lane's end touches a chunk
  starting_moves : (n : EntryKind) → Right R w k m acts.Start r starting n → MovesBy acts.Start n
  unfolding moved act_outcome
  starting_moves end_kind right = absurd right
  starting_moves n right = still w.store m _ _ _ (quiet_act acts.Start None refl)

  list_moves : (c : Command) (n : EntryKind) → Right R w k m (acts.RemoteList c) r reaching n → MovesBy (acts.RemoteList c) n
  unfolding moved act_outcome
  list_moves c end_kind right = absurd right
  list_moves c n right = still w.store m _ _ _ (quiet_act (acts.RemoteList c) None refl)

  file_moves : (snapshot name : List ℕ) (offset : ℕ) (n : EntryKind) → Right R w k m (acts.RemoteFile snapshot name offset) r reaching n
      → MovesBy (acts.RemoteFile snapshot name offset) n
  unfolding moved act_outcome
  file_moves snapshot name offset end_kind right = absurd right
  file_moves snapshot name offset n right = still w.store m _ _ _ (quiet_act (acts.RemoteFile snapshot name offset) None refl)

  chunk_moves : (digest : Digest32) (n : EntryKind) → Right R w k m (acts.RemoteChunk digest) r reaching n → MovesBy (acts.RemoteChunk digest) n
  unfolding moved act_outcome
  chunk_moves digest end_kind right = absurd right
  chunk_moves digest n right = still w.store m _ _ _ (quiet_act (acts.RemoteChunk digest) None refl)

  sweeping_moves : (n : EntryKind) → Right R w k m acts.Step r sweeping n → MovesBy acts.Step n
  unfolding moved act_outcome
  sweeping_moves end_kind right = absurd right
  sweeping_moves n right = still w.store m _ _ _ (quiet_act acts.Step None refl)

  wanting_moves : (n : EntryKind) → Right R w k m acts.Short r wanting n → MovesBy acts.Short n
  unfolding moved act_outcome
  wanting_moves end_kind right = absurd right
  wanting_moves n right = still w.store m _ _ _ (quiet_act acts.Short None refl)

  ending_moves : (n : EntryKind) → Right R w k m acts.End r ending n → MovesBy acts.End n
  unfolding moved
  ending_moves step_kind right = absurd right
  ending_moves end_kind right = ends_here w.store m _ _ _ k (quiet_act acts.End None refl)
  ending_moves n right = still w.store m _ _ _ (quiet_act acts.End None refl)

  act_moves : (a : Act) → IsWellFormed a → (n : EntryKind) → Right R w k m a r (class_of a) n → MovesBy a n
  act_moves acts.Start formed n right = starting_moves n right
  act_moves (acts.RemoteList c) formed n right = list_moves c n right
  act_moves (acts.RemoteFile snapshot name offset) formed n right = file_moves snapshot name offset n right
  act_moves (acts.RemoteChunk digest) formed n right = chunk_moves digest n right
  act_moves acts.Step formed n right = sweeping_moves n right
  act_moves acts.Short formed n right = wanting_moves n right
  act_moves acts.End formed n right = ending_moves n right
  act_moves a formed n right = stepping_moves a formed n right

-- each event of a legal history moves the store
pub event_moves : (R : Option (List Snapshot)) (w : World) (e : Event) → IsRight R w e
    → Moves w.store (after R w e).store (moment e) (Sends e.act (reply e)) (Touches e.act (reply e)) (Forgets e.act (reply e))
unfolding after
event_moves R w e right = act_moves R w (lane e) (moment e) (reply e) e.act right.formed (kind_of (kind e)) right.says
