-- An event of a lane whose SYNC is open moves the run as the definitions say, and the lane stays beside the one that `weave` has.
use Rattle.std.proofs.Common.{◌≡◌, ◌==◌, inl, inr, ℕ, zero, suc, ◌-◌, Bool, false, List, [], ◌∷◌, length, filter, Option, Some, None, is_none, Ok, Err, Result, refl, sym, ap, subst, ◌∙◌, ◌||◌, slice_index_or, slice_set, if◌then◌else◌, IfSome, IsSome, take as take_first}
use Rattle.std.specs.List.{All, Contains, last_or}
use Rattle.std.proofs.lemmas.List.Elements.{All-contains_itself, All-filter, All-weaker}
use Rattle.store_types.specs.declared.names.GroupKey.{GroupKey}
use Rattle.store_types.specs.declared.order.Entry.{Entry}
use Rattle.store_types.specs.declared.refusal.Refusal.{Refusal}
use Rattle.store_types.specs.declared.refusal.Refusal.TheVariants.{NoMemory, NoRemote, RemoteFault}
use Rattle.store_types.specs.Chain.Refusing.{◌>>=◌, or_else}
use Rattle.store_types.specs.Names.{IsKey, group_of_key, same_group}
use Rattle.store_files.specs.Archive.{Snapshot}
use Rattle.wire_commands.specs.declared.command.Command.TheVariants as commands
use Rattle.wire_commands.specs.declared.reply.Reply.{Reply}
use Rattle.wire_commands.specs.declared.reply.Reply.TheVariants.{Keys, Refused}
use Rattle.wire_commands.specs.Inputs.{front}
use Rattle.store_model.specs.declared.ending.Ending.{Ending}
use Rattle.store_model.specs.declared.ending.Ending.TheVariants as endings
use Rattle.store_model.specs.Job.{Asking, Job, over, asking}
use Rattle.store_model.specs.Jobs.{take as job_take}
use Rattle.store_model.specs.Lanes.{Run, Next, job_step, sync, collecting, end, lane_next, front_next, next_of}
use Rattle.store_model.specs.AdminSteps.{group, group_texts}
use Rattle.store_model.specs.Stands.{IsSnapshot, group_limit}
use Rattle.store_model.specs.Steps.{answered, outcome}
use Rattle.store_model.specs.Store.{Store, in_group, keys_in}
use Rattle.store_model.specs.Heads.{group_in, idle_in, idle_group}
use Rattle.store_model.specs.Weave.{begin_sync, go_on, tell, stepped as weave_stepped, passed, short, remote_failed, faulted, fault_refusal, is_cut_off, entered, known}
use Rattle.store_history.specs.declared.act.Act.{Act}
use Rattle.store_history.specs.declared.act.Act.TheVariants as acts
use Rattle.store_history.specs.declared.act.Answer.{Answer}
use Rattle.store_history.specs.declared.act.Event.{Event}
use Rattle.store_history.specs.Acts.{Class, stepping, reaching, starting, sweeping, wanting, ending, class_of}
use Rattle.store_history.specs.History.{World, open_on, halted_on, act_outcome, moved, EntryKind, kind_of, step_kind, pass_kind, short_kind, start_kind, close_kind, fault_kind, end_kind, remote_kind, no_kind, kind, reply}
use Rattle.store_history.specs.Legal.{Right, Says, Refuses}
use Rattle.store_history.specs.LaneRun.{Task, steps, pulls, sweeps, Ahead, ahead, pull, pull_ahead, ahead_by, job_in, Position, lane_of, next_at, tells, goes_on, pulls_on, heard_at, heard, leaves_unheld, heard_as, Asks, Does, IsIdle, IsShut}
use Rattle.store_history.specs.Pulling as model
use Rattle.store_history.specs.Pulling.{Pulling, comparing, SyncJob, act_of, compared, sought, take, is_ending}
use Rattle.store_history.specs.Remote.{IsList, IsRemote, may_read, ReadsIn, Reads}
use Rattle.store_types.specs.FileNames.{manifest_name}
use Rattle.store_types.specs.declared.order.TheConstants.{COMMAND_KIND, PART_KIND, MEMORY_KIND, FAULT_KIND}
use Rattle.store_model.specs.SyncJob.{new_index, is_later as job_later, next_snapshot as job_next_snapshot, to_pull}
use Rattle.store_history.proofs.Beside.{Beside, BesideBy, IsOther, Pulls, Waits, asks_no_other, at_plain, at_sync, bare, besides, is_at, no_pull, pull_in, all_keys, pulled_same, remote_texts, shown}
use Rattle.store_model.proofs.Done.{passed as tested}
use Rattle.store_model.proofs.HeadLemmas.{idle_group_found}
use Rattle.store_history.proofs.Keyed.{HasKeys}
use Rattle.store_history.proofs.Events.{Becomes, all_faulted, all_short, asked, at_next, end_halted, tests_pass, noted, nx, plainly}
use Rattle.store_history.proofs.Meaning.{Shows, ShowsJob, texts_of, asked_alike, no_read, reads_on, shows_snapshots, taken, unread}
use Rattle.store_history.proofs.Placed.{run_of, at, keep_is, same_lane, go_is, sweep_in, model_next, model_is, IsNoStep, no_job, open_at, open_model}
use Rattle.store_history.proofs.Plainly.{ArePlain, IsPlainJob, take_plainly}
use Rattle.store_history.proofs.Unheld.{flagged, heard_open}
use Rattle.store_history.proofs.Wanting.{Goes}

-- ---- how a SYNC begins

-- its group is named, as GROUP's
group_begins : (s : Store) (k : ℕ) (text : List ℕ) (g : GroupKey) → idle_group s k text ≡ Ok g → group_in s k text ≡ Ok g
unfolding idle_group
group_begins s k text g e = let (u, idle, named) = tested (idle_in s k) (λ _. group_in s k text) g e in named

-- ---- what the positions have in common

-- the job's step is next on the lane that `weave` has
pub next_shown : (p : Position) (j : Asking) → model_next (shown p j) ≡ job_step j p.left
unfolding lane_next
next_shown p j = refl

-- a SYNC whose job is open is behind its command
pull_is : (L : List Snapshot) (x : Pulling) (j : Asking) (p : Position) → p.task ≡ Some (pulls x) → Shows L x j → next_at p ≡ pull x p.left
unfolding next_at
pull_is L (comparing group remote) j p going h = absurd h
pull_is L x j p going h = ap (λ (t : Option Task). ahead_by t (p.size - length p.left) p.left) going

next_in : Ahead → Next
next_in (ahead n) = n
next_in a = end

-- one whose command is next still asks for its group
wait_is : (p : Position) (group name left : List ℕ) (remote : List (List ℕ)) → p.task ≡ Some (pulls (comparing group remote)) → next_at (bare p) ≡ ahead (sync name left)
    → next_at p ≡ pull (comparing group remote) left
unfolding next_at next_in
wait_is p group name left remote going next =
    subst (λ (t : Option Task). ahead_by (no_pull t) (p.size - length p.left) p.left ≡ ahead (sync name left) → ahead_by t (p.size - length p.left) p.left ≡ pull (comparing group remote) left) (sym going)
    (λ e. ap (λ a. pull_ahead (comparing group remote) p.left (next_in a)) e) next

bare_idle : (t : Option Task) → IsIdle (no_pull t)
bare_idle None = tt
bare_idle (Some (steps j)) = tt
bare_idle (Some (pulls x)) = tt
bare_idle (Some (sweeps b)) = tt

-- a SYNC that is next stands at the front
front_sync : (t : Option Task) (offset : ℕ) (left group behind : List ℕ) → IsIdle t → ahead_by t offset left ≡ ahead (sync group behind) → ahead_by None offset left ≡ ahead (sync group behind)
front_sync None offset left group behind idle e = e
front_sync (Some (steps j)) offset left group behind idle e = cc
front_sync (Some (pulls x)) offset left group behind idle e = absurd idle
front_sync (Some (sweeps b)) offset left group behind idle e = cc

-- the position that `weave` has goes on so too where the SYNC's command was next
beside_bare : (R : Option (List Snapshot)) (s : Store) (k : ℕ) (L : List Snapshot) (p : Position) (next : SyncJob) (job : Job) (left : List ℕ) (is_spent : Bool)
    → R ≡ Some L → ShowsJob L next job
    → Beside R s k (record (pulls_on p left next) { is_unheld = false; is_spent = is_spent }) (record (goes_on (bare p) left job) { is_unheld = false; is_spent = is_spent })
unfolding pulls_on goes_on
beside_bare R s k L p (model.reports r) job left is_spent there h =
    ap (λ (y : Job). record (goes_on (bare p) left y) { is_unheld = false; is_spent = is_spent }) h
beside_bare R s k L p (model.asks x) job left is_spent there h =
    inr (record {
      list = L;
      job = h.0;
      there = there;
      is = ap (λ (y : Job). record (goes_on (bare p) left y) { is_unheld = false; is_spent = is_spent }) h.1;
      shows = h.2;
    })

begins_plain : (pulled : List (List ℕ)) (xs : List Snapshot) → IsPlainJob (job_next_snapshot pulled xs)
unfolding job_next_snapshot
begins_plain pulled [] = refl
begins_plain pulled (x ∷ xs) = tt

-- ---- what is heard

-- a SYNC's step or read with its reply
abbrev pub pulled : Position → Answer → SyncJob → Position
pulled p a next = record (pulls_on p p.left next) { is_unheld = false; is_spent = a.last || p.is_spent }

abbrev pub gone : Position → Position → Answer → Job → Position
gone p q a job = record (goes_on q p.left job) { is_unheld = false; is_spent = a.last || p.is_spent }

pulls_spent : (p : Position) (left : List ℕ) (next : SyncJob) → (pulls_on p left next).is_spent ≡ p.is_spent
unfolding pulls_on
pulls_spent p left (model.reports r) = refl
pulls_spent p left (model.asks x) = refl

heard_pulled : (p : Position) (x : Pulling) (left : List ℕ) (a : Answer) (y : Reply) → next_at p ≡ pull x left → a.reply ≡ Some y
    → heard p a ≡ record (pulls_on p left (take x y)) { is_unheld = false; is_spent = a.last || p.is_spent }
unfolding heard heard_at
heard_pulled p x left a y next told =
    ap (λ z. flagged a (heard_at p (a.entry).kind a.reply z)) next
    ∙ ap (λ (r : Option Reply). flagged a (heard_at p (a.entry).kind r (pull x left))) told
    ∙ ap (λ b. record (pulls_on p left (take x y)) { is_unheld = false; is_spent = a.last || b }) (pulls_spent p left (take x y))

-- ---- which refusal

-- of any act that a SYNC asks
refused_alike : (L : List Snapshot) (x : Pulling) (j : Asking) (z : Refusal) (c : Class) → class_of (act_of x) ≡ c → Shows L x j → ShowsJob L (take x (Refused z)) (job_take j (Refused z))
refused_alike L x j z stepping is h = taken L x j (Refused z) h is
refused_alike L x j z reaching is h = unread L x j z h is
refused_alike L x j z starting is h = absurd (asks_no_other x (subst IsOther (sym is) tt))
refused_alike L x j z sweeping is h = absurd (asks_no_other x (subst IsOther (sym is) tt))
refused_alike L x j z wanting is h = absurd (asks_no_other x (subst IsOther (sym is) tt))
refused_alike L x j z ending is h = absurd (asks_no_other x (subst IsOther (sym is) tt))

-- a read of a remote that is there is refused by nothing
may_is : (L : List Snapshot) (s : Store) (k : ℕ) (x : Pulling) (j : Asking) → Shows L x j → class_of (act_of x) ≡ reaching → may_read (Some L) s k (act_of x) ≡ Ok tt
may_is L s k (model.seeking group) j h away = absurd h
may_is L s k (comparing group remote) j h away = absurd h
may_is L s k (model.rejecting path) j h away = absurd h
may_is L s k (model.starting c) j h away = cc
may_is L s k (model.reading_manifest c bytes) j h away = refl
may_is L s k (model.reading_file c t name bytes) j h away = refl
may_is L s k (model.opening c t i) j h away = absurd (no_read L (new_index i.layout i.name) away)
may_is L s k (model.reading_chunk c t i e later) j h away = refl
may_is L s k (model.sending_chunk c t i e later bytes) j h away = absurd (no_read L (commands.Chunk e.digest bytes) away)
may_is L s k (model.appending c t i e later) j h away = absurd (no_read L (commands.Append 0 (take_first 4096 (e ∷ later))) away)
may_is L s k (model.closing_index c t i) j h away = absurd (no_read L (commands.CloseIndex 0 (length i.entries) i.size i.csum) away)
may_is L s k (model.sending_blob c t name bytes) j h away = absurd (no_read L (commands.Blob name bytes) away)
may_is L s k (model.sending_manifest c t) j h away = absurd (no_read L (commands.Blob manifest_name t.manifest) away)
may_is L s k (model.finishing c) j h away = cc
may_is L s k (model.aborting first) j h away = cc

no_reply : IsSome (let r : Option Reply = None in r) → ⊥
no_reply h = cc

-- what the remote has was given
read_told : (L : List Snapshot) (x : Pulling) (j : Asking) (r : Option Reply) → Shows L x j → class_of (act_of x) ≡ reaching → Reads L (act_of x) r → (y : Reply) × (r ≡ Some y)
read_told L (model.reading_manifest c bytes) j (Some y) h away reads = (y, refl)
read_told L (model.reading_manifest c bytes) j None h away reads = absurd (no_reply reads.0)
read_told L (model.reading_file c t name bytes) j (Some y) h away reads = (y, refl)
read_told L (model.reading_file c t name bytes) j None h away reads = absurd (no_reply reads.0)
read_told L (model.reading_chunk c t i e later) j (Some y) h away reads = (y, refl)
read_told L (model.reading_chunk c t i e later) j None h away reads = absurd (no_reply reads.0)
read_told L (model.seeking group) j r h away reads = absurd h
read_told L (comparing group remote) j r h away reads = absurd h
read_told L (model.rejecting path) j r h away reads = absurd h
read_told L (model.starting c) j r h away reads = cc
read_told L (model.opening c t i) j r h away reads = absurd (no_read L (new_index i.layout i.name) away)
read_told L (model.sending_chunk c t i e later bytes) j r h away reads = absurd (no_read L (commands.Chunk e.digest bytes) away)
read_told L (model.appending c t i e later) j r h away reads = absurd (no_read L (commands.Append 0 (take_first 4096 (e ∷ later))) away)
read_told L (model.closing_index c t i) j r h away reads = absurd (no_read L (commands.CloseIndex 0 (length i.entries) i.size i.csum) away)
read_told L (model.sending_blob c t name bytes) j r h away reads = absurd (no_read L (commands.Blob name bytes) away)
read_told L (model.sending_manifest c t) j r h away reads = absurd (no_read L (commands.Blob manifest_name t.manifest) away)
read_told L (model.finishing c) j r h away reads = cc
read_told L (model.aborting first) j r h away reads = cc

-- ---- the events

reads_here : (R : Option (List Snapshot)) (L : List Snapshot) (a : Act) (r : Option Reply) → R ≡ Some L → ReadsIn R a r → Reads L a r
reads_here R L a r there h = subst (λ (o : Option (List Snapshot)). ReadsIn o a r) there h

module _ (R : Option (List Snapshot)) (w : World) (qs : List Position) (k m : ℕ) (es : List Ending) (later : List Entry)
    (knows : sweep_in (at qs k).task ≡ open_on k w.collecting) where
  abbrev q : Position
  q = at qs k

  -- the run goes on, and the lane is beside again
  abbrev pub Turns : Act → ℕ → Position → Type 0
  Turns a n p' =
      (q' : Position) × (entered (known es) (run_of R w qs) w.events (noted R w qs k m n) later ≡ Some (run_of R (moved R w k m a (kind_of n)) (slice_set qs k q')))
      × Beside R (moved R w k m a (kind_of n)).store k p' q'

  module _ (p : Position) (x : Pulling) (going : p.task ≡ Some (pulls x)) (b : Pulls R p x q) where
    abbrev L : List Snapshot
    L = b.list

    abbrev j : Asking
    j = b.job

    step_next : model_next q ≡ job_step j p.left
    step_next = ap model_next b.is ∙ next_shown p j

    kept : ArePlain (job_in q.task)
    kept = subst ArePlain (sym (ap (λ (y : Position). job_in y.task) b.is)) (at_plain (is_ending x) j (is_at L x j b.shows))

    off : sweep_in q.task ≡ None
    off = ap (λ (y : Position). sweep_in y.task) b.is

    -- both have heard this
    both : (s : Store) (a : Answer) (y : Reply) (job : Job) → a.reply ≡ Some y → ShowsJob L (take x y) job → Beside R s k (heard p a) (gone p (shown p j) a job)
    both s a y job told shows =
        subst (λ (p' : Position). Beside R s k p' (gone p (shown p j) a job)) (sym (heard_pulled p x p.left a y (pull_is L x j p going b.shows) told))
        (besides R s k L p j (take x y) job p.left (a.last || p.is_spent) b.there shows)

    -- the lane is the same
    gone_lane : (a : Answer) (n : ℕ) (y : Reply) → a.reply ≡ Some y → lane_of (heard_at q n a.reply (ahead (model_next q))) ≡ lane_of (gone p (shown p j) a (job_take j y))
    unfolding heard_at
    gone_lane a n y told =
        ap (λ (r : Option Reply). lane_of (heard_at q n r (ahead (model_next q)))) told
        ∙ ap (λ (z : Next). lane_of (heard_at q n (Some y) (ahead z))) step_next
        ∙ ap (λ (u : Position). lane_of (goes_on u p.left (job_take j y))) b.is
        ∙ flags (job_take j y)
      where
        flags : (job : Job) → lane_of (goes_on (shown p j) p.left job) ≡ lane_of (gone p (shown p j) a job)
        flags job = refl

    -- a refusal is heard alike
    refused : (act : Act) (a : Answer) (z : Refusal) → a.reply ≡ Some (Refused z)
        → Becomes R w qs k m act (kind_of (a.entry).kind) (a.entry).kind a.reply (model_next q) (entered (known es) (run_of R w qs) w.events (noted R w qs k m (a.entry).kind) later)
        → Turns act (a.entry).kind (heard p a)
    refused act a z told h = (
      gone p (shown p j) a (job_take j (Refused z)),
      h ∙ ap Some (same_lane R (moved R w k m act (kind_of (a.entry).kind)) qs k (heard_at q (a.entry).kind a.reply (ahead (model_next q))) (gone p (shown p j) a (job_take j (Refused z))) (gone_lane a (a.entry).kind (Refused z) told)),
      both (moved R w k m act (kind_of (a.entry).kind)).store a (Refused z) (job_take j (Refused z)) told (refused_alike L x j z (class_of (act_of x)) refl b.shows),
    )

    -- ---- a step of the job

    -- a step of a job has a reply
    step_told : (a : Act) (r : Option Reply) (n : EntryKind) → Right R w k m a r stepping n → (y : Reply) × (r ≡ Some y)
    step_told a r step_kind h = ((answered w.store (act_outcome R w k m a)).1, h.1)
    step_told a r short_kind h = (Refused NoMemory, h.0)
    step_told a r fault_kind h = (Refused (fault_refusal w.fault), h)
    step_told a r pass_kind h = absurd h
    step_told a r start_kind h = absurd h
    step_told a r close_kind h = absurd h
    step_told a r end_kind h = absurd h
    step_told a r remote_kind h = absurd h
    step_told a r no_kind h = absurd h

    stepped : (a : Answer) (act : Act) → act ≡ act_of x → class_of (act_of x) ≡ stepping → Right R w k m act a.reply stepping (kind_of (a.entry).kind)
        → ((a.entry).kind ≡ FAULT_KIND → is_cut_off (run_of R w qs) k (slice_index_or es k endings.Clean) later ≡ false)
        → Turns act (a.entry).kind (heard p a)
    stepped a act is local right cut =
        let class : class_of act ≡ stepping = ap class_of is ∙ local in
        let told = step_told act a.reply (kind_of (a.entry).kind) right in
        let asks : Asks (ahead (model_next q)) act = subst (λ (z : Next). Asks (ahead z) act) (sym step_next) (is ∙ asked_alike L x j b.shows local) in (
          gone p (shown p j) a (job_take j told.0),
          asked R w qs k m es later knows kept (a.entry).kind act a.reply asks cut (subst (λ c. Right R w k m act a.reply c (kind_of (a.entry).kind)) (sym class) right)
              ∙ ap Some (same_lane R (moved R w k m act (kind_of (a.entry).kind)) qs k (heard_at q (a.entry).kind a.reply (ahead (model_next q))) (gone p (shown p j) a (job_take j told.0)) (gone_lane a (a.entry).kind told.0 told.1)),
          both (moved R w k m act (kind_of (a.entry).kind)).store a told.0 (job_take j told.0) told.1 (taken L x j told.0 b.shows local),
        )

    -- ---- a read of the remote

    entry_is : (n : ℕ) → Option Run
    entry_is n = entered (known es) (run_of R w qs) w.events (noted R w qs k m n) later

    next_seen : next_of (run_of R w qs) k ≡ job_step j p.left
    next_seen = nx R w qs k m es later knows kept ∙ step_next

    reading_passed : (a : Answer) (act : Act) (y : Reply) → (a.entry).kind ≡ PART_KIND → act ≡ act_of x → a.reply ≡ Some y → class_of (act_of x) ≡ reaching → IsList L → Reads L (act_of x) (Some y)
        → Turns act 1 (heard p a)
    unfolding entered passed moved goes_on
    reading_passed a act y one is told away list reads = (
      gone p (shown p j) a (asking j),
      ap (λ (z : Next). passed (run_of R w qs) z) next_seen
          ∙ ap (λ c. if c then Some (run_of R w qs) else None) (at_sync (is_ending x) j (is_at L x j b.shows))
          ∙ ap Some (sym (keep_is R w qs k (gone p (shown p j) a (asking j)) (ap lane_of (sym b.is)))),
      both w.store a y (asking j) told (reads_on L list x j y b.shows away reads),
    )

    reading_failed : (a : Answer) (act : Act) → a.reply ≡ Some (Refused RemoteFault) → Turns act 7 (heard p a)
    unfolding entered remote_failed moved
    reading_failed a act told = (
      gone p (shown p j) a (job_take j (Refused RemoteFault)),
      ap (λ (z : Next). remote_failed (run_of R w qs) k z) next_seen
          ∙ ap (λ c. if c then Some (go_on (run_of R w qs) k p.left (job_take j (Refused RemoteFault))) else None) (at_sync (is_ending x) j (is_at L x j b.shows))
          ∙ ap Some (
          go_is R w qs k p.left (job_take j (Refused RemoteFault)) (take_plainly j (Refused RemoteFault) (at_plain (is_ending x) j (is_at L x j b.shows)) refl)
          ∙ same_lane R w qs k (goes_on q p.left (job_take j (Refused RemoteFault))) (gone p (shown p j) a (job_take j (Refused RemoteFault)))
          (ap (λ (u : Position). lane_of (goes_on u p.left (job_take j (Refused RemoteFault)))) b.is)
          ),
      both w.store a (Refused RemoteFault) (job_take j (Refused RemoteFault)) told (refused_alike L x j RemoteFault (class_of (act_of x)) refl b.shows),
    )

    -- memory was wanting
    was_short : (a : Answer) (act : Act) → a.reply ≡ Some (Refused NoMemory) → (a.entry).kind ≡ MEMORY_KIND → Turns act 2 (heard p a)
    unfolding entered
    was_short a act told two =
        let goes : Goes (ahead (model_next q)) = subst (λ (z : Next). Goes (ahead z)) (sym step_next) tt in
        let short_is = ap (λ (z : Next). short (run_of R w qs) k z) (nx R w qs k m es later knows kept)
        ∙ all_short R w qs k m act (model_next q) a.reply (no_job q) goes (at_next R w qs k m es later knows kept) (plainly R w qs k m es later knows kept) told in
        subst (λ n. Turns act n (heard p a)) two
        (refused act a NoMemory told (subst (λ n. Becomes R w qs k m act (kind_of n) n a.reply (model_next q) (entered (known es) (run_of R w qs) w.events (noted R w qs k m n) later)) (sym two) short_is))

    met_fault : (a : Answer) (act : Act) → class_of act ≡ reaching → a.reply ≡ Some (Refused (fault_refusal w.fault)) → (a.entry).kind ≡ FAULT_KIND
        → is_cut_off (run_of R w qs) k (slice_index_or es k endings.Clean) later ≡ false → Turns act 5 (heard p a)
    unfolding entered
    met_fault a act away told five cut =
        let halts = ap (λ c. halted_on k c w.collecting) away ∙ end_halted R w qs k m (model_next q) (open_model q ∙ off) in
        let fault_is = ap (λ (z : Next). Some (faulted (run_of R w qs) k w.events (slice_index_or es k endings.Clean) later z)) (nx R w qs k m es later knows kept)
        ∙ all_faulted R w qs k m (slice_index_or es k endings.Clean) later act (model_next q) a.reply halts (plainly R w qs k m es later knows kept) cut told in
        subst (λ n. Turns act n (heard p a)) five
        (refused act a (fault_refusal w.fault) told (subst (λ n. Becomes R w qs k m act (kind_of n) n a.reply (model_next q) (entered (known es) (run_of R w qs) w.events (noted R w qs k m n) later)) (sym five) fault_is))

    -- by its kind
    read : (n : ℕ) (a : Answer) (act : Act) → (a.entry).kind ≡ n → act ≡ act_of x → class_of (act_of x) ≡ reaching → IsList L → Right R w k m act a.reply reaching (kind_of n)
        → (n ≡ 5 → is_cut_off (run_of R w qs) k (slice_index_or es k endings.Clean) later ≡ false) → Turns act n (heard p a)
    read zero a act num is away list right cut =
        absurd (subst (λ o. Refuses o a.reply) (ap (λ (y : Act). may_read R w.store k y) is ∙ ap (λ (o : Option (List Snapshot)). may_read o w.store k (act_of x)) b.there ∙ may_is L w.store k x j b.shows away) right.1)
    read (suc zero) a act num is away list right cut =
        let reads = subst (λ y. Reads L y a.reply) is (reads_here R L act a.reply b.there right.2) in
        let told = read_told L x j a.reply b.shows away reads in
        reading_passed a act told.0 num is told.1 away list (subst (Reads L (act_of x)) told.1 reads)
    read (suc (suc zero)) a act num is away list right cut = was_short a act right num
    read (suc (suc (suc zero))) a act num is away list right cut = absurd right
    read (suc (suc (suc (suc zero)))) a act num is away list right cut = absurd right
    read (suc (suc (suc (suc (suc zero))))) a act num is away list right cut = met_fault a act (ap class_of is ∙ away) right num (cut refl)
    read (suc (suc (suc (suc (suc (suc zero)))))) a act num is away list right cut = absurd right
    read (suc (suc (suc (suc (suc (suc (suc zero))))))) a act num is away list right cut = reading_failed a act right.2
    read (suc (suc (suc (suc (suc (suc (suc (suc n)))))))) a act num is away list right cut = absurd right

    want : (n : ℕ) (a : Answer) (act : Act) → (a.entry).kind ≡ n → Right R w k m act a.reply wanting (kind_of n) → Turns act n (heard p a)
    want (suc (suc zero)) a act num right = was_short a act right num
    want zero a act num right = absurd right
    want (suc zero) a act num right = absurd right
    want (suc (suc (suc zero))) a act num right = absurd right
    want (suc (suc (suc (suc zero)))) a act num right = absurd right
    want (suc (suc (suc (suc (suc zero))))) a act num right = absurd right
    want (suc (suc (suc (suc (suc (suc zero)))))) a act num right = absurd right
    want (suc (suc (suc (suc (suc (suc (suc zero))))))) a act num right = absurd right
    want (suc (suc (suc (suc (suc (suc (suc (suc n)))))))) a act num right = absurd right

  -- ---- where the SYNC's command is next still

  module _ (p : Position) (x : Pulling) (going : p.task ≡ Some (pulls x)) (b : Waits R w.store k p x q) where
    wait_idle : IsIdle q.task
    wait_idle = subst (λ (y : Position). IsIdle y.task) (sym b.is) (bare_idle p.task)

    wait_next : model_next q ≡ sync b.group b.left
    unfolding next_in
    wait_next = ap next_in (sym (model_is q wait_idle) ∙ ap next_at b.is ∙ b.next)

    wait_off : sweep_in q.task ≡ None
    wait_off = sym (open_model q) ∙ ap (λ (n : Next). open_at (ahead n)) wait_next

    wait_kept : ArePlain (job_in q.task)
    wait_kept = idle_plain (job_in q.task) (no_job q (subst IsNoStep (sym wait_next) tt))
      where
        idle_plain : (o : Option Asking) → o ≡ None → ArePlain o
        idle_plain None h = tt
        idle_plain (Some y) h = cc

    -- what is heard
    wait_heard : (a : Answer) (y : Reply) → a.reply ≡ Some y
        → heard p a ≡ record (pulls_on p b.left (take (comparing b.group b.remote) y)) { is_unheld = false; is_spent = a.last || p.is_spent }
    wait_heard a y told =
        let open_is = going ∙ ap (λ (z : Pulling). Some (pulls z)) b.state in
        heard_pulled p (comparing b.group b.remote) b.left a y (wait_is p b.group b.group b.left b.remote open_is b.next) told

    abbrev waited : Answer → Job → Position
    waited a job = record (goes_on (bare p) b.left job) { is_unheld = false; is_spent = a.last || p.is_spent }

    -- both have heard it
    wait_both : (s : Store) (a : Answer) (y : Reply) (job : Job) → a.reply ≡ Some y → ShowsJob b.list (take (comparing b.group b.remote) y) job → Beside R s k (heard p a) (waited a job)
    wait_both s a y job told shows =
        subst (λ (p' : Position). Beside R s k p' (waited a job)) (sym (wait_heard a y told))
        (beside_bare R s k b.list p (take (comparing b.group b.remote) y) job b.left (a.last || p.is_spent) b.there shows)

    -- a refusal is told
    wait_refused : (act : Act) (a : Answer) (z : Refusal) → a.reply ≡ Some (Refused z)
        → Becomes R w qs k m act (kind_of (a.entry).kind) (a.entry).kind a.reply (model_next q) (entered (known es) (run_of R w qs) w.events (noted R w qs k m (a.entry).kind) later)
        → lane_of (heard_at q (a.entry).kind (Some (Refused z)) (ahead (sync b.group b.left))) ≡ lane_of (waited a (over (Refused z)))
        → Turns act (a.entry).kind (heard p a)
    unfolding take compared
    wait_refused act a z told h same = (
      waited a (over (Refused z)),
      h ∙ ap Some (same_lane R (moved R w k m act (kind_of (a.entry).kind)) qs k (heard_at q (a.entry).kind a.reply (ahead (model_next q))) (waited a (over (Refused z)))
          (ap (λ (r : Option Reply). lane_of (heard_at q (a.entry).kind r (ahead (model_next q)))) told ∙ ap (λ (y : Next). lane_of (heard_at q (a.entry).kind (Some (Refused z)) (ahead y))) wait_next ∙ same)),
      wait_both (moved R w k m act (kind_of (a.entry).kind)).store a (Refused z) (over (Refused z)) told refl,
    )

    wait_short : (a : Answer) (act : Act) → a.reply ≡ Some (Refused NoMemory) → (a.entry).kind ≡ MEMORY_KIND → Turns act 2 (heard p a)
    unfolding entered heard_at goes_on
    wait_short a act told two =
        let goes : Goes (ahead (model_next q)) = subst (λ (z : Next). Goes (ahead z)) (sym wait_next) tt in
        let short_is = ap (λ (z : Next). short (run_of R w qs) k z) (nx R w qs k m es later knows wait_kept)
        ∙ all_short R w qs k m act (model_next q) a.reply (no_job q) goes (at_next R w qs k m es later knows wait_kept) (plainly R w qs k m es later knows wait_kept) told in
        subst (λ n. Turns act n (heard p a)) two
        (wait_refused act a NoMemory told
        (subst (λ n. Becomes R w qs k m act (kind_of n) n a.reply (model_next q) (entered (known es) (run_of R w qs) w.events (noted R w qs k m n) later)) (sym two) short_is)
        (ap (λ n. lane_of (heard_at q n (Some (Refused NoMemory)) (ahead (sync b.group b.left)))) two ∙ ap (λ (u : Position). lane_of (tells u b.left (Refused NoMemory))) b.is))

    wait_fault : (a : Answer) (act : Act) → class_of act ≡ stepping → a.reply ≡ Some (Refused (fault_refusal w.fault)) → (a.entry).kind ≡ FAULT_KIND
        → is_cut_off (run_of R w qs) k (slice_index_or es k endings.Clean) later ≡ false → Turns act 5 (heard p a)
    unfolding entered heard_at goes_on
    wait_fault a act local told five cut =
        let halts = ap (λ c. halted_on k c w.collecting) local ∙ end_halted R w qs k m (model_next q) (open_model q ∙ wait_off) in
        let fault_is = ap (λ (z : Next). Some (faulted (run_of R w qs) k w.events (slice_index_or es k endings.Clean) later z)) (nx R w qs k m es later knows wait_kept)
        ∙ all_faulted R w qs k m (slice_index_or es k endings.Clean) later act (model_next q) a.reply halts (plainly R w qs k m es later knows wait_kept) cut told in
        subst (λ n. Turns act n (heard p a)) five
        (wait_refused act a (fault_refusal w.fault) told
        (subst (λ n. Becomes R w qs k m act (kind_of n) n a.reply (model_next q) (entered (known es) (run_of R w qs) w.events (noted R w qs k m n) later)) (sym five) fault_is)
        (ap (λ n. lane_of (heard_at q n (Some (Refused (fault_refusal w.fault))) (ahead (sync b.group b.left)))) five ∙ ap (λ (u : Position). lane_of (tells u b.left (Refused (fault_refusal w.fault)))) b.is))

    -- the group that is here was told: what is later on the remote is pulled
    abbrev here : List Snapshot
    here = (w.store).snapshots

    abbrev later_there : List Snapshot
    later_there = filter (job_later (last_or None (take_first group_limit (keys_in b.key here)))) (in_group b.key b.list)

    pulls_these : to_pull R w.store k b.group ≡ Ok later_there
    unfolding to_pull
    pulls_these =
        ap (λ (o : Result GroupKey Refusal). o >>= λ g. or_else NoRemote R >>= λ snapshots. Ok (filter (job_later (last_or None (take_first group_limit (keys_in g here)))) (in_group g snapshots))) b.begins
        ∙ ap (λ (o : Option (List Snapshot)). or_else NoRemote o >>= λ snapshots. Ok (filter (job_later (last_or None (take_first group_limit (keys_in b.key here)))) (in_group b.key snapshots))) b.there

    group_here : act_outcome R w k m (acts.Plain (commands.Group b.group)) ≡ Ok (w.store, Keys (group_texts b.key here))
    unfolding act_outcome outcome group
    group_here = ap (λ (o : Result GroupKey Refusal). o >>= λ g. Ok (w.store, Keys (group_texts g here))) (group_begins w.store k b.group b.key b.begins)

    compared_here : IsList b.list → HasKeys w.store → ShowsJob b.list (take (comparing b.group b.remote) (Keys (group_texts b.key here))) (job_next_snapshot [] later_there)
    unfolding take compared
    compared_here list named =
        let fine : All (λ y. IsKey y.key) b.list = All-weaker IsSnapshot (λ y. IsKey y.key) (λ y h. h.key) b.list list.each in
        subst (λ xs. ShowsJob b.list (model.next_snapshot [] xs) (job_next_snapshot [] later_there))
        (sym (ap (filter (model.is_later (model.newest_in (group_texts b.key here)))) b.texts ∙ pulled_same b.key here b.list named.snapshots fine))
        (shows_snapshots b.list [] later_there
        (All-filter (job_later (last_or None (take_first group_limit (keys_in b.key here)))) (Contains b.list) (in_group b.key b.list)
        (All-filter (λ y. same_group (group_of_key y.key) b.key) (Contains b.list) b.list (All-contains_itself b.list))))

    wait_begins : (a : Answer) → IsList b.list → HasKeys w.store → (a.entry).kind ≡ COMMAND_KIND → Says R w k m (acts.Plain (commands.Group b.group)) a.reply
        → Turns (acts.Plain (commands.Group b.group)) 0 (heard p a)
    unfolding entered weave_stepped begin_sync moved
    wait_begins a list named zero_is says =
        let same : (answered w.store (act_outcome R w k m (acts.Plain (commands.Group b.group)))) ≡ (w.store, Keys (group_texts b.key here)) = ap (answered w.store) group_here in
        let told : a.reply ≡ Some (Keys (group_texts b.key here)) = says ∙ ap (λ (y : Store × Reply). Some y.1) same in
        let store_is : (answered w.store (act_outcome R w k m (acts.Plain (commands.Group b.group)))).0 ≡ w.store = ap (λ (y : Store × Reply). y.0) same in
        let job = job_next_snapshot [] later_there in
        let w' : World = record w { store = (answered w.store (act_outcome R w k m (acts.Plain (commands.Group b.group)))).0 } in (
          waited a job,
          ap (λ (z : Next). weave_stepped (run_of R w qs) k m z) (nx R w qs k m es later knows wait_kept ∙ wait_next)
              ∙ ap (λ (o : Result (List Snapshot) Refusal). Some (elim o [ Err refusal ↦ tell (run_of R w qs) k b.left (Refused refusal) | Ok snapshots ↦ go_on (run_of R w qs) k b.left (job_next_snapshot [] snapshots) ])) pulls_these
              ∙ ap Some (
              go_is R w qs k b.left job (begins_plain [] later_there)
              ∙ same_lane R w qs k (goes_on q b.left job) (waited a job) (ap (λ (u : Position). lane_of (goes_on u b.left job)) b.is)
              ∙ ap (λ (s : Store). run_of R (record w { store = s }) (slice_set qs k (waited a job))) (sym store_is)
              ),
          wait_both w'.store a (Keys (group_texts b.key here)) job told (compared_here list named),
        )

    -- by its class
    wait_step : (n : ℕ) (a : Answer) → (a.entry).kind ≡ n → IsList b.list → HasKeys w.store → Right R w k m (acts.Plain (commands.Group b.group)) a.reply stepping (kind_of n)
        → (n ≡ 5 → is_cut_off (run_of R w qs) k (slice_index_or es k endings.Clean) later ≡ false) → Turns (acts.Plain (commands.Group b.group)) n (heard p a)
    wait_step zero a num list named right cut = wait_begins a list named num right.1
    wait_step (suc zero) a num list named right cut = absurd right
    wait_step (suc (suc zero)) a num list named right cut = wait_short a (acts.Plain (commands.Group b.group)) right.0 num
    wait_step (suc (suc (suc zero))) a num list named right cut = absurd right
    wait_step (suc (suc (suc (suc zero)))) a num list named right cut = absurd right
    wait_step (suc (suc (suc (suc (suc zero))))) a num list named right cut = wait_fault a (acts.Plain (commands.Group b.group)) refl right num (cut refl)
    wait_step (suc (suc (suc (suc (suc (suc zero)))))) a num list named right cut = absurd right
    wait_step (suc (suc (suc (suc (suc (suc (suc zero))))))) a num list named right cut = absurd right
    wait_step (suc (suc (suc (suc (suc (suc (suc (suc n)))))))) a num list named right cut = absurd right

    wait_want : (n : ℕ) (a : Answer) (act : Act) → (a.entry).kind ≡ n → Right R w k m act a.reply wanting (kind_of n) → Turns act n (heard p a)
    wait_want (suc (suc zero)) a act num right = wait_short a act right num
    wait_want zero a act num right = absurd right
    wait_want (suc zero) a act num right = absurd right
    wait_want (suc (suc (suc zero))) a act num right = absurd right
    wait_want (suc (suc (suc (suc zero)))) a act num right = absurd right
    wait_want (suc (suc (suc (suc (suc zero))))) a act num right = absurd right
    wait_want (suc (suc (suc (suc (suc (suc zero)))))) a act num right = absurd right
    wait_want (suc (suc (suc (suc (suc (suc (suc zero))))))) a act num right = absurd right
    wait_want (suc (suc (suc (suc (suc (suc (suc (suc n)))))))) a act num right = absurd right

  -- ---- any event of the lane

  list_of : (o : Option (List Snapshot)) (L : List Snapshot) → o ≡ Some L → IsRemote o → IsList L
  list_of o L is h = subst IsRemote is h

  module _ (p : Position) (x : Pulling) (going : p.task ≡ Some (pulls x)) (remote : IsRemote R) (named : HasKeys w.store) where
    asks_by : (a : Act) → Asks (next_at p) a → a ≡ act_of x
    unfolding next_at
    asks_by a h = by_pull x p.left (front_next (p.size - length p.left) (front p.left)) (subst (λ (t : Option Task). Asks (ahead_by t (p.size - length p.left) p.left) a) going h)
      where
        by_pull : (y : Pulling) (left : List ℕ) (n : Next) → Asks (pull_ahead y left n) a → a ≡ act_of y
        by_pull (comparing group remote) left (sync name behind) h = h
        by_pull (comparing group remote) left n h = absurd h
        by_pull y left n h = h

    -- memory was wanting for no frame
    held : (v : Event) → Turns v.act (kind v) (heard p v.answer) → Turns v.act (kind v) (record (heard p v.answer) { is_unheld = leaves_unheld p v.answer })
    held v turns = subst (Turns v.act (kind v)) (sym (heard_open p v.answer (ap is_none going))) turns

    pulled_by : (c : Class) (e : Ending) (v : Event) (vs : List Event) (b : Pulls R p x (at qs k)) → c ≡ class_of v.act → Does c e p v vs → Right R w k m v.act (reply v) c (kind_of (kind v))
        → (kind v ≡ FAULT_KIND → is_cut_off (run_of R w qs) k (slice_index_or es k endings.Clean) later ≡ false) → Turns v.act (kind v) (heard_as c e p v.answer)
    pulled_by stepping e v vs b class does right cut =
        let is = asks_by v.act does.1 in stepped p x going b v.answer v.act is (sym (ap class_of is) ∙ sym class) right cut
    pulled_by reaching e v vs b class does right cut =
        let is = asks_by v.act does.1 in
        read p x going b (kind v) v.answer v.act refl is (sym (ap class_of is) ∙ sym class) (list_of R b.list b.there remote) right cut
    pulled_by wanting e v vs b class does right cut = held v (want p x going b (kind v) v.answer v.act refl right)
    pulled_by starting e v vs b class does right cut = absurd (asks_no_other x (subst IsOther (class ∙ ap class_of (asks_by v.act does.1)) tt))
    pulled_by sweeping e v vs b class does right cut = absurd (asks_no_other x (subst IsOther (class ∙ ap class_of (asks_by v.act does)) tt))
    pulled_by ending e v vs b class does right cut = absurd (subst IsShut going does.2)

    waited_by : (c : Class) (e : Ending) (v : Event) (vs : List Event) (b : Waits R w.store k p x (at qs k)) → c ≡ class_of v.act → Does c e p v vs → Right R w k m v.act (reply v) c (kind_of (kind v))
        → (kind v ≡ FAULT_KIND → is_cut_off (run_of R w qs) k (slice_index_or es k endings.Clean) later ≡ false) → Turns v.act (kind v) (heard_as c e p v.answer)
    waited_by stepping e v vs b class does right cut =
        let is : v.act ≡ acts.Plain (commands.Group b.group) = asks_by v.act does.1 ∙ ap act_of b.state in
        subst (λ a. Turns a (kind v) (heard p v.answer)) (sym is)
        (wait_step p x going b (kind v) v.answer refl (list_of R b.list b.there remote) named (subst (λ a. Right R w k m a (reply v) stepping (kind_of (kind v))) is right) cut)
    waited_by wanting e v vs b class does right cut = held v (wait_want p x going b (kind v) v.answer v.act refl right)
    waited_by reaching e v vs b class does right cut = absurd (group_steps (class ∙ ap class_of (asks_by v.act does.1 ∙ ap act_of b.state)))
      where
        group_steps : (let c : Class = reaching in c) ≡ stepping → ⊥
        group_steps h = cc
    waited_by starting e v vs b class does right cut = absurd (asks_no_other x (subst IsOther (class ∙ ap class_of (asks_by v.act does.1)) tt))
    waited_by sweeping e v vs b class does right cut = absurd (asks_no_other x (subst IsOther (class ∙ ap class_of (asks_by v.act does)) tt))
    waited_by ending e v vs b class does right cut = absurd (subst IsShut going does.2)

    -- an event of a lane whose SYNC is open
    pub reached : (c : Class) (e : Ending) (v : Event) (vs : List Event) → BesideBy R w.store k p (Some x) (at qs k) → c ≡ class_of v.act → Does c e p v vs → Right R w k m v.act (reply v) c (kind_of (kind v))
        → (kind v ≡ FAULT_KIND → is_cut_off (run_of R w qs) k (slice_index_or es k endings.Clean) later ≡ false) → Turns v.act (kind v) (heard_as c e p v.answer)
    reached c e v vs (inl b) class does right cut = waited_by c e v vs b class does right cut
    reached c e v vs (inr b) class does right cut = pulled_by c e v vs b class does right cut

  -- ---- where none is open

  -- a SYNC opens by what the remote tells of its group
  module _ (p : Position) (idle : IsIdle p.task) (same : at qs k ≡ p) (remote : IsRemote R) where
    pub begun_here : (v : Event) (group left : List ℕ) (r : Option Reply) (n : ℕ) → next_at p ≡ ahead (sync group left) → Right R w k m (acts.RemoteList (commands.Sync group)) r reaching (kind_of n) → n ≡ 1
        → (is_unheld is_spent : Bool) → (let p' : Position = record (heard_at p n r (ahead (sync group left))) { is_unheld = is_unheld; is_spent = is_spent } in BesideBy R w.store k p' (pull_in p'.task) (bare p'))
    unfolding to_pull heard_at pulls_on sought next_at
    begun_here v group left r n next right one is_unheld is_spent =
        let h = subst (λ i. Right R w k m (acts.RemoteList (commands.Sync group)) r reaching (kind_of i)) one right in
        let tests = tests_pass (λ g snapshots. filter (job_later (last_or None (take_first group_limit (keys_in g (w.store).snapshots)))) (in_group g snapshots)) (idle_group w.store k group) R h.1 in
        let key = (tests.0).0 in
        let list = (tests.1).0 in
        let fine = list_of R list (tests.1).1 remote in
        let told : r ≡ Some (Keys (group_texts key list)) =
        subst (λ (o : Option GroupKey). IfSome o (λ g. r ≡ Some (Keys (group_texts g list)))) (idle_group_found w.store k group key (tests.0).1).1 (reads_here R list (acts.RemoteList (commands.Sync group)) r (tests.1).1 h.2) in
        let texts : filter model.is_key (group_texts key list) ≡ texts_of (in_group key list) =
        ap (filter model.is_key) (remote_texts key list (fine.groups key))
        ∙ all_keys (in_group key list) (All-filter (λ y. same_group (group_of_key y.key) key) (λ y. IsKey y.key) list (All-weaker IsSnapshot (λ y. IsKey y.key) (λ y g. g.key) list fine.each)) in
        subst (λ i. let p' : Position = record (heard_at p i r (ahead (sync group left))) { is_unheld = is_unheld; is_spent = is_spent } in BesideBy R w.store k p' (pull_in p'.task) (bare p')) (sym one)
        (subst (λ (o : Option Reply). let p' : Position = record (heard_at p 1 o (ahead (sync group left))) { is_unheld = is_unheld; is_spent = is_spent } in BesideBy R w.store k p' (pull_in p'.task) (bare p')) (sym told)
        (inl (record {
          group = group;
          remote = filter model.is_key (group_texts key list);
          left = left;
          key = key;
          list = list;
          state = refl;
          is = refl;
          next = front_sync p.task (p.size - length p.left) p.left group left idle next;
          there = (tests.1).1;
          begins = (tests.0).1;
          texts = texts;
        })))
