-- The core's book stays that of the history, and its chunks the chunk files, with one act more.
use Rattle.std.proofs.Common.{◌≡◌, ◌≢◌, ◌<◌, ◌↔◌, ℕ, max, Bool, true, false, if◌then◌else◌, is_some, length, List, [], ◌∷◌, ◌++◌, map, Option, Some, None, Result, Ok, Err, refl, sym, ap, subst, ◌∙◌, arith}
use Rattle.std.specs.Prelude.{option_map}
use Rattle.std.specs.Bool.{IsTrue}
use Rattle.std.specs.FinMap.{get}
use Rattle.std.specs.Option.{IsSome}
use Rattle.std.proofs.lemmas.List.Elements.{All-contains, Contains-push}
use Rattle.std.proofs.lemmas.Slice.Eq.{bytes_eq-Decides}
use Rattle.sha2.specs.Sha256.{sha256}
use Rattle.disk_trait.specs.Files.{Files}
use Rattle.disk_trait.specs.Laws.{by_name, other_name}
use Rattle.disk_trait.specs.declared.disk.Disk.{Ghosts}
use Rattle.port_traits.specs.declared.clock.Clock as clocks
use Rattle.store_types.specs.declared.names.Digest32.{Digest32}
use Rattle.store_types.specs.declared.refusal.Refusal.{Refusal}
use Rattle.store_types.specs.declared.refusal.Refusal.TheVariants as refusals
use Rattle.store_types.specs.declared.order.TheConstants.{COMMAND_KIND, START_KIND}
use Rattle.blob_codec.specs.Blob.{blob}
use Rattle.store_files.specs.Archive.{Snapshot}
use Rattle.store_files.specs.Folder.{IsDigest, chunk_name}
use Rattle.wire_commands.specs.declared.command.Command.TheVariants.{Append}
use Rattle.wire_commands.specs.declared.reply.Reply.{Reply}
use Rattle.wire_commands.specs.declared.reply.Reply.TheVariants as replies
use Rattle.store_model.specs.ArchiveSteps.{checked_chunk}
use Rattle.store_model.specs.Steps.{answered}
use Rattle.store_model.specs.Store as model
use Rattle.store_model.specs.Store.{Store, Outcome, with_session}
use Rattle.store_model.specs.WriterCalls.{chunk}
use Rattle.store_model.proofs.Paths.{chunk_apart}
use Rattle.store_model.proofs.Done.{err_ok}
use Rattle.store_model.proofs.Done as walks
use Rattle.atime_book.specs.Touches.{greatest}
use Rattle.chunk_store.proofs.Names.{chunk_not_temporary, same_digest}
use Rattle.store_history.specs.declared.act.Act.{Act}
use Rattle.store_history.specs.declared.act.Act.TheVariants.{Plain, Chunk}
use Rattle.store_history.specs.declared.act.Answer.{Answer}
use Rattle.store_history.specs.declared.act.Event.{Event}
use Rattle.store_history.specs.Acts.{IsCheckedChunk, IsWellFormed, class_of, stepping}
use Rattle.store_history.specs.History.{World, act_outcome, after as world_after, data_in, kind, kind_of, lane as lane_of, moment, moved, opened}
use Rattle.store_history.specs.Legal.{Right}
use Rattle.store_history.specs.LastTouches.{LastTouches, SameTouches, dated, is_one_of, touches_by_entry, touched_by}
use Rattle.store_history.proofs.Checking.{checked_digest}
use Rattle.store_history.specs.Sweeping.{Swept, swept_after, swept_at}
use Rattle.store_history.proofs.SweptLonger.{is_swept_longer, swept_longer}
use Rattle.core_state.specs.declared.state.Core.{Core}
use Rattle.core_state.specs.Answers.{HasCause, IsAnswered, IsCaused, done, short, failed, halted}
use Rattle.store_history.specs.Answered.{fault_after}
use Rattle.core_state.specs.Applies.{ActKeeps, IsClearFor}
use Rattle.core_state.specs.Changes.{Change, after, by_reply}
use Rattle.core_state.specs.Collectors.{collector_by}
use Rattle.core_state.specs.Commands.{change_at, is_step}
use Rattle.core_state.specs.History.{History, StandsFor, event_of, then_event, world}
use Rattle.core_state.specs.Holds.{IsOnDisk}
use Rattle.core_state.specs.KeepsTouches.{KeepsTouches, swept_of, touches_of_history}
use Rattle.store_history.specs.Replies.{may_answer}
use Rattle.core_state.specs.Upkeeps.{touches_kept}
use Rattle.core_state.proofs.Chunks.{is_digest}
use Rattle.core_state.proofs.Entered.{world_more}
use Rattle.core_state.proofs.ForeignLemmas.{MissesChunk, no_fault_before, not_faulted, others_kept}
use Rattle.core_state.proofs.LaterPlans.{plans_more}
use Rattle.core_state.proofs.Recorded.{numbers_more}
use Rattle.core_state.proofs.Recovering.{StandsMore, last_right}
use Rattle.core_state.proofs.Sessions.{session_same}
use Rattle.core_state.proofs.Touching.{refusal_untouched, same_back, same_then, entry_touches_same}
use Rattle.core_state.proofs.Unswept.{fits_other, no_sweep, unswept_touches}

-- ---- which chunks are there after an act

dated_one : (b : Bool) (when : ℕ) (last : Option ℕ) → is_some (if b then option_map (λ last. max last when) last else last) ≡ is_some last
dated_one true when None = refl
dated_one true when (Some m) = refl
dated_one false when last = refl

dated_there : (x : List ℕ) (when : ℕ) (t : LastTouches) → is_some ((dated when t).last x) ≡ is_some (t.last x)
dated_there x when t = dated_one (t.undated x) when (t.last x)

-- it is no CHUNK of this digest
abbrev IsOther : List ℕ → Act → Type 0
IsOther x (Chunk digest checked) = digest.0 ≢ x
IsOther x act = Unit {0}

touched_there : (x : List ℕ) (act : Act) (reply : Option Reply) (when : ℕ) (t : LastTouches) → IsOther x act → is_some ((touched_by act reply when t).last x) ≡ is_some (t.last x)
touched_there x (Chunk digest checked) (Some replies.Done) when t other = ap (λ b. is_some (if b then Some (greatest (t.last x) when) else t.last x)) (other_name digest.0 x other)
touched_there x (Plain (Append number entries)) (Some replies.Done) when t other = dated_one (is_one_of x (map (λ e. (e.digest).0) entries)) when (t.last x)
touched_there x act reply when t other = refl

touches_there : (x : List ℕ) (act : Act) (reply : Option Reply) (when : ℕ) (t : LastTouches) → IsOther x act → is_some ((touches_by_entry act reply when t).last x) ≡ is_some (t.last x)
touches_there x act reply when t other = dated_there x when (touched_by act reply when t) ∙ touched_there x act reply when t other

refused_there : (x : List ℕ) (act : Act) (refusal : Refusal) (when : ℕ) (t : LastTouches) → is_some ((touches_by_entry act (Some (replies.Refused refusal)) when t).last x) ≡ is_some (t.last x)
refused_there x act refusal when t =
    dated_there x when (touched_by act (Some (replies.Refused refusal)) when t) ∙ sym (ap is_some ((refusal_untouched act refusal when t).last x))

sent_there : (digest : Digest32) (checked : Result (List ℕ) Refusal) (when : ℕ) (t : LastTouches) → is_some ((touches_by_entry (Chunk digest checked) (Some replies.Done) when t).last digest.0) ≡ true
sent_there digest checked when t =
    dated_there digest.0 when (touched_by (Chunk digest checked) (Some replies.Done) when t)
    ∙ ap (λ b. is_some (if b then Some (greatest (t.last digest.0) when) else t.last digest.0)) ((bytes_eq-Decides digest.0 digest.0).1 refl)

-- ---- a CHUNK of the plain store

refused_done : (refusal : Refusal) → replies.Refused refusal ≡ replies.Done → ⊥
refused_done refusal e = cc

-- done, its piece is in the pool of the lane's writer
chunk_done : (s : Store) (lane : ℕ) (r : Result (List ℕ) Refusal) → (answered s (checked_chunk s lane r)).1 ≡ replies.Done
    → (w : model.Writer) × (piece : List ℕ) × (r ≡ Ok piece) × ((answered s (checked_chunk s lane r)).0 ≡ with_session s lane (model.writer (chunk w piece)))
chunk_done s lane r = by_outcome (checked_chunk s lane r) refl
  where
    by_outcome : (o : Outcome) → checked_chunk s lane r ≡ o → (answered s o).1 ≡ replies.Done
        → (w : model.Writer) × (piece : List ℕ) × (r ≡ Ok piece) × ((answered s o).0 ≡ with_session s lane (model.writer (chunk w piece)))
    by_outcome (Ok after) e is = let d = walks.chunk_done s lane r after e in (d.0, d.1, d.3, ap (λ (x : Store × Reply). x.0) d.4)
    by_outcome (Err refusal) e is = absurd (refused_done refusal is)

-- which has the digest under which it was sent
piece_digest : (digest : Digest32) (checked : Result (List ℕ) Refusal) (piece : List ℕ) → IsCheckedChunk digest checked → data_in checked ≡ Ok piece → sha256 piece ≡ digest.0
piece_digest digest (Ok bytes) piece formed is = checked_digest digest bytes piece formed is
piece_digest digest (Err refusal) piece formed is = absurd (err_ok refusal piece is)

-- and its chunk file is there, where the store after it is on the disk
chunk_there : (m : Files) (s : Store) (lane : ℕ) (w : model.Writer) (digest : Digest32) (piece : List ℕ) → lane < length s.sessions → sha256 piece ≡ digest.0
    → IsOnDisk m (with_session s lane (model.writer (chunk w piece))) → is_some (get m (chunk_name digest.0)) ≡ true
chunk_there m s lane w digest piece lt named disk =
    let uploads = disk.writers lane (chunk w piece) (session_same s lane (model.writer (chunk w piece)) lt) in
    let there : get m (chunk_name (sha256 piece)) ≡ Some (blob piece) =
    All-contains (λ p. get m (chunk_name (sha256 p)) ≡ Some (blob p)) (w.pool ++ piece ∷ []) piece uploads.pool (Contains-push w.pool piece) in
    subst (λ q. is_some (get m (chunk_name q)) ≡ true) named (ap is_some there)

-- ---- one act

store_after : (R : Option (List Snapshot)) (w : World) (e : Event) → kind e ≡ COMMAND_KIND → (world_after R w e).store ≡ (answered w.store (act_outcome R w (lane_of e) (moment e) e.act)).0
unfolding world_after moved
store_after R w e zero = ap (λ n. (moved R w (lane_of e) (moment e) e.act (kind_of n)).store) zero

both : {A B : Type 0} (a a2 : Option A) (b b2 : Option B) → is_some a2 ≡ is_some a → is_some b2 ≡ is_some b → IsSome a ↔ IsSome b → IsSome a2 ↔ IsSome b2
both a a2 b b2 p q same = (λ h. q ∙ same.0 (sym p ∙ h), λ h. p ∙ same.1 (sym q ∙ h))

after_refused : (change : Change) (r : Refusal) (m : Files) → (r ≡ refusals.DiskFault → ⊥) → after (by_reply change (Some (replies.Refused r))) m ≡ m
after_refused change refusals.DiskFault m other = absurd (other refl)
after_refused change r m other = refl

some_none : (n : ℕ) → Some n ≡ None → ⊥
some_none n e = cc

same_some : (a b : Reply) → Some a ≡ Some b → a ≡ b
same_some a b e = cc

false_true : false ≡ true → ⊥
false_true e = cc

memory_apart : refusals.NoMemory ≡ refusals.DiskFault → ⊥
memory_apart e = cc

-- what is known of an act, where no fault has come
record IsCalm {D E C : Type 0} (d : Ghosts D) (clock : clocks.Ghosts C) (old new : Core D E C) (act : Act) (answer : Answer) (h : History) : Type 0 where
  pub none : new.fault ≡ None
  pub inside : (answer.entry).lane < 64
  pub formed : IsWellFormed act
  pub keeps : ActKeeps d old new (answer.entry).lane act answer
  -- it is no mark, visit or end of a collector
  pub no : is_step act ≡ false
  pub fault : new.fault ≡ fault_after (length (old.journal).entries.items) (answer.entry).kind old.fault
  pub cause : IsCaused d old new act answer
  pub s : StandsFor d clock.readings old h
  pub so : StandsFor d clock.readings new (then_event h (event_of act answer (d.calls (new.parts).disk)))
  pub was : (x : List ℕ) → IsDigest x → IsSome (get (d.content (old.parts).disk) (chunk_name x)) ↔ IsSome ((touches_of_history h).last x)

module _ {D E C : Type 0} (d : Ghosts D) (clock : clocks.Ghosts C) (old new : Core D E C) (answer : Answer) (h : History) where
  abbrev k : ℕ
  k = (answer.entry).lane

  abbrev w : World
  w = world h

  abbrev read : Files
  read = d.content (old.parts).disk

  abbrev reads : Files
  reads = d.content (new.parts).disk

  abbrev e : Act → Event
  e act = event_of act answer (d.calls (new.parts).disk)

  abbrev t : Act → LastTouches
  t act = touches_by_entry act answer.reply (answer.entry).moment (touches_of_history h)

  -- the chunk file is there where the chunk was touched
  abbrev Present : Act → List ℕ → Type 0
  Present act x = IsSome (get reads (chunk_name x)) ↔ IsSome ((t act).last x)

  abbrev Calm : Act → Type 0
  Calm act = IsCalm d clock old new act answer h

  others : (act : Act) → Calm act → (x : List ℕ) → IsDigest x → MissesChunk (chunk_name x) act → IsOther x act → Present act x
  others act f x is misses other =
      let same = others_kept d old new w.store k (length (old.journal).entries.items) act answer f.inside (f.s).shows (f.s).honest f.fault f.cause f.keeps f.no f.none (chunk_name x) (chunk_apart x) misses in
      both (get read (chunk_name x)) (get reads (chunk_name x)) ((touches_of_history h).last x) ((t act).last x) (ap is_some same) (touches_there x act answer.reply (answer.entry).moment (touches_of_history h) other) (f.was x is)

  before : (act : Act) → Calm act → old.fault ≡ None
  before act f = no_fault_before (length (old.journal).entries.items) (answer.entry).kind old.fault (sym f.fault ∙ f.none)

  refused : (act : Act) → Calm act → (r : Refusal) → answer.reply ≡ Some (replies.Refused r) → (r ≡ refusals.DiskFault → ⊥) → (x : List ℕ) → IsDigest x → Present act x
  refused act f r told other x is =
      let same : reads ≡ read =
      (f.keeps).content f.no (before act f) (not_faulted d old new act answer f.cause f.none) (f.s).honest
      ∙ ap (λ o. after (by_reply (change_at old.parts k act) o) read) told ∙ after_refused (change_at old.parts k act) r read other in
      both (get read (chunk_name x)) (get reads (chunk_name x)) ((touches_of_history h).last x) ((t act).last x) (ap (λ (m : Files). is_some (get m (chunk_name x))) same)
      (ap (λ o. is_some ((touches_by_entry act o (answer.entry).moment (touches_of_history h)).last x)) told ∙ refused_there x act r (answer.entry).moment (touches_of_history h)) (f.was x is)

  -- ---- a CHUNK

  module _ (digest : Digest32) (checked : Result (List ℕ) Refusal) (f : Calm (Chunk digest checked)) where
    abbrev sends : Act
    sends = Chunk digest checked

    module _ (zero : (answer.entry).kind ≡ COMMAND_KIND) (told : answer.reply ≡ Some replies.Done) where
      chunk_out : act_outcome h.remote w k (answer.entry).moment sends ≡ checked_chunk w.store k (data_in checked)
      unfolding act_outcome
      chunk_out = refl

      right : Right h.remote w k (answer.entry).moment sends answer.reply stepping (kind_of (answer.entry).kind)
      right = (last_right h.remote (opened h.opening) h.events (e sends) (f.so).legal).says

      says : answer.reply ≡ Some (answered w.store (act_outcome h.remote w k (answer.entry).moment sends)).1
      says = (subst (λ n. Right h.remote w k (answer.entry).moment sends answer.reply stepping (kind_of n)) zero right).1

      its : (v : model.Writer) × (piece : List ℕ) × (data_in checked ≡ Ok piece) × ((answered w.store (checked_chunk w.store k (data_in checked))).0 ≡ with_session w.store k (model.writer (chunk v piece)))
      its = chunk_done w.store k (data_in checked)
          (same_some _ replies.Done (sym (says ∙ ap (λ (o : Outcome). Some (answered w.store o).1) chunk_out) ∙ told))

      named : sha256 its.1 ≡ digest.0
      named = piece_digest digest checked its.1 f.formed its.2

      on_disk : IsOnDisk reads (with_session w.store k (model.writer (chunk its.0 its.1)))
      on_disk = subst (IsOnDisk reads)
          (ap (λ (x : World). x.store) (world_more h (e sends)) ∙ store_after h.remote w (e sends) zero ∙ ap (λ (o : Outcome). (answered w.store o).0) chunk_out ∙ its.3)
          ((f.so).files (sym (f.so).fault ∙ f.none))

      put : is_some (get reads (chunk_name digest.0)) ≡ true
      put = let lanes = (f.s).shows.sound.lanes in let lt = f.inside in chunk_there reads w.store k its.0 digest its.1 (omega (arith, lanes, lt)) named on_disk

      here : Present sends digest.0
      here = (
        λ _. ap (λ o. is_some ((touches_by_entry sends o (answer.entry).moment (touches_of_history h)).last digest.0)) told ∙ sent_there digest checked (answer.entry).moment (touches_of_history h),
        λ _. put,
      )

      sent : (x : List ℕ) → IsDigest x → Present sends x
      sent x is = by_name digest.0 x (Present sends x)
          (λ same. subst (Present sends) same here)
          (λ ne. others sends f x is (λ same. ne (same_digest digest.0 x (subst IsDigest named (is_digest its.1)) is (sym same)), chunk_not_temporary x digest.0) ne)

    by_reply_told : (answer.entry).kind ≡ COMMAND_KIND → (reply : Reply) → answer.reply ≡ Some reply → IsTrue (may_answer sends reply) → (x : List ℕ) → IsDigest x → Present sends x
    by_reply_told zero replies.Done told may x is = sent zero told x is
    by_reply_told zero (replies.Refused r) told may x is = refused sends f r told (λ same. not_faulted d old new sends answer f.cause f.none (told ∙ ap (λ (v : Refusal). Some (replies.Refused v)) same)) x is
    by_reply_told zero reply told may x is = absurd (false_true may)

    by_cause : HasCause d old new sends answer → (x : List ℕ) → IsDigest x → Present sends x
    by_cause (done calm zero reply told may) x is = by_reply_told zero reply told may x is
    by_cause (short two told) x is = refused sends f refusals.NoMemory told memory_apart x is
    by_cause (failed calm five told fault rose) x is = absurd (some_none answer.place (sym fault ∙ f.none))
    by_cause (halted place hurt five told) x is = absurd (some_none place (sym hurt ∙ before sends f))

  -- ---- any act

  present : (act : Act) → Calm act → (x : List ℕ) → IsDigest x → Present act x
  present (Chunk digest checked) f x is = by_cause digest checked f f.cause x is
  present act f x is = others act f x is tt tt

-- where the core stands for the history then
pub touches_by : {D E C : Type 0} (d : Ghosts D) (clock : clocks.Ghosts C) (old new : Core D E C) (lane : ℕ) (act : Act) (answer : Answer) → lane < 64 → IsWellFormed act
    → IsAnswered d old new lane answer → IsCaused d old new act answer → ActKeeps d old new lane act answer
    → is_step act ≡ false → new.collector ≡ collector_by (answer.entry).kind lane old.collector → ((answer.entry).kind ≡ START_KIND → ⊥)
    → (h : History) → StandsFor d clock.readings old h → KeepsTouches d old h → StandsFor d clock.readings new (then_event h (event_of act answer (d.calls (new.parts).disk)))
    → KeepsTouches d new (then_event h (event_of act answer (d.calls (new.parts).disk)))
touches_by d clock old new lane act answer lt formed answers cause keeps unstepped collector opens_none h s touches so = record {
  touches = subst (λ (t : LastTouches). SameTouches (touches_kept new.upkeep) t) (sym (ap (λ w. w.touches) longer))
      (same_then (touches_kept new.upkeep) plain after_.touches touched (same_back after_.touches plain unswept));
  present = λ none x digest.
      subst (λ (o : Option ℕ). IsSome (get (d.content (new.parts).disk) (chunk_name x)) ↔ IsSome o) (sym (ap (λ w. w.touches.last x) longer ∙ unswept.last x))
      (present d clock old new answer h act
      (record {
        none = none;
        inside = subst (λ l. l < 64) (sym is) lt;
        formed = formed;
        keeps = subst (λ l. ActKeeps d old new l act answer) (sym is) keeps;
        no = unstepped;
        fault = answers.fault;
        cause = cause;
        s = s;
        so = so;
        was = touches.present (no_fault_before (length (old.journal).entries.items) (answer.entry).kind old.fault (sym answers.fault ∙ none));
      }) x digest);
  sweep = plans_more d clock old new lane act answer h lt formed answers keeps unstepped collector opens_none s so touches;
  is_swept = is_swept_longer h.remote (opened h.opening) (swept_at h.opening) h.events e touches.is_swept
      (fits_other (world h) (swept_of h) (lane_of e) answer.reply (class_of act) (kind_of (answer.entry).kind) (no_sweep act unstepped));
  numbers = numbers_more old new lane act answer answers.place answers.entries keeps.listed touches.numbers;
}
  where
    is : (answer.entry).lane ≡ lane
    is = answers.lane_is

    e : Event
    e = event_of act answer (d.calls (new.parts).disk)

    after_ : Swept
    after_ = swept_after h.remote (world h) (swept_of h) e

    longer : swept_of (then_event h e) ≡ after_
    longer = swept_longer h.remote h.opening h.events e

    plain : LastTouches
    plain = touches_by_entry act answer.reply (answer.entry).moment (touches_of_history h)

    unswept : SameTouches after_.touches plain
    unswept = unswept_touches h.remote (world h) (swept_of h) e (no_sweep act unstepped)

    touched : SameTouches (touches_kept new.upkeep) plain
    touched = same_then (touches_kept new.upkeep) (touches_by_entry act answer.reply (answer.entry).moment (touches_kept old.upkeep)) plain (keeps.upkeep unstepped)
        (entry_touches_same act answer.reply (answer.entry).moment (touches_kept old.upkeep) (touches_of_history h) touches.touches)

pub touches_more : {D E C : Type 0} (d : Ghosts D) (clock : clocks.Ghosts C) (old new : Core D E C) (lane : ℕ) (act : Act) (answer : Answer) → lane < 64 → IsWellFormed act
    → StandsMore d clock old new act answer → IsAnswered d old new lane answer → IsCaused d old new act answer → ActKeeps d old new lane act answer
    → is_step act ≡ false → new.collector ≡ collector_by (answer.entry).kind lane old.collector → ((answer.entry).kind ≡ START_KIND → ⊥)
    → (h : History) → StandsFor d clock.readings old h → KeepsTouches d old h → IsClearFor act (then_event h (event_of act answer (d.calls (new.parts).disk)))
    → KeepsTouches d new (then_event h (event_of act answer (d.calls (new.parts).disk)))
touches_more d clock old new lane act answer lt formed more answers cause keeps unstepped collector opens_none h s touches clear =
    touches_by d clock old new lane act answer lt formed answers cause keeps unstepped collector opens_none h s touches (more h s clear)
