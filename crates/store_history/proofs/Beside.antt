-- A lane whose SYNC is open, and the lane as `weave` has it beside it.
use Rattle.std.proofs.Common.{◌≡◌, ◌⊎◌, inr, ℕ, Bool, true, false, List, [], ◌∷◌, ◌++◌, map, filter, length, Option, Some, None, option_map, Ok, refl, sym, ap, subst, ◌∙◌, arith, IfSome, is_some, cond, ◌≤◌, take as take_first}
use Rattle.std.specs.List.{All, last_or}
use Rattle.store_types.specs.declared.names.GroupKey.{GroupKey}
use Rattle.store_types.specs.declared.names.SnapshotKey.{SnapshotKey}
use Rattle.store_types.specs.declared.refusal.Refusal.{Refusal}
use Rattle.store_types.specs.FileNames.{manifest_name}
use Rattle.std.proofs.lemmas.List.{length-map, take_all}
use Rattle.std.proofs.lemmas.List.Elements.{All-cons, All-filter, All-head, All-nil, All-tail, All-take}
use Rattle.store_types.specs.Names.{IsKey, group_of_key, key_text, same_group}
use Rattle.store_types.proofs.KeyLaws.{keys}
use Rattle.store_files.specs.Archive.{Snapshot}
use Rattle.wire_commands.specs.declared.command.Command.{Command}
use Rattle.wire_commands.specs.declared.command.Command.TheVariants as commands
use Rattle.wire_commands.specs.declared.reply.Reply.TheVariants.{Refused}
use Rattle.store_model.specs.Job.{Pull, Asking, is_sync, beginning, sending, aborting as job_aborting, Job, asking}
use Rattle.store_model.specs.Lanes.{sync}
use Rattle.store_model.specs.Stands.{group_limit}
use Rattle.store_model.specs.Store.{Store, in_group, keys_in}
use Rattle.store_model.specs.Heads.{idle_group}
use Rattle.store_model.specs.SyncJob.{is_later as job_later, next_command, next_snapshot, new_index}
use Rattle.store_model.specs.AdminSteps.{group_texts}
use Rattle.store_history.specs.Acts.{Class, stepping, reaching, class_of, act_of_command}
use Rattle.store_history.specs.LaneRun.{Task, steps, pulls, ahead, Position, next_at, goes_on, pulls_on, is_stopping}
use Rattle.store_history.specs.Pulling.{Pulling, seeking, comparing, starting as pull_starting, reading_manifest, reading_file, opening, reading_chunk, sending_chunk, appending, closing_index, sending_blob, sending_manifest, finishing, rejecting, aborting, SyncJob, reports, asks, act_of, is_after, is_ending, is_key, is_later, newest_in, time_of}
use Rattle.store_history.proofs.Events.{command_class}
use Rattle.store_history.proofs.Meaning.{Sends, Shows, ShowsJob, texts_of}
use Rattle.store_history.proofs.Plainly.{KeepsPlain}

-- ---- the two positions

-- as `weave` has it where the SYNC's command is next, and where its job is open
abbrev pub no_pull : Option Task → Option Task
no_pull (Some (pulls x)) = None
no_pull t = t

abbrev pub bare : Position → Position
bare p = record p { task = no_pull p.task }

-- the SYNC that is open
abbrev pub pull_in : Option Task → Option Pulling
pull_in (Some (pulls x)) = Some x
pull_in t = None

abbrev pub shown : Position → Asking → Position
shown p j = record p { task = Some (steps j) }

-- The SYNC's group is next: its command is, and this is what the remote has of it.
pub record Waits (R : Option (List Snapshot)) (s : Store) (k : ℕ) (p : Position) (x : Pulling) (q : Position) : Type 0 where
  pub group : List ℕ
  pub remote : List (List ℕ)
  pub left : List ℕ
  pub key : GroupKey
  pub list : List Snapshot
  pub state : x ≡ comparing group remote
  pub is : q ≡ bare p
  pub next : next_at (bare p) ≡ ahead (sync group left)
  pub there : R ≡ Some list
  pub begins : idle_group s k group ≡ Ok key
  pub texts : remote ≡ texts_of (in_group key list)

-- Its job is open.
pub record Pulls (R : Option (List Snapshot)) (p : Position) (x : Pulling) (q : Position) : Type 0 where
  pub list : List Snapshot
  pub job : Asking
  pub there : R ≡ Some list
  pub is : q ≡ shown p job
  pub shows : Shows list x job

abbrev pub BesideBy : Option (List Snapshot) → Store → ℕ → Position → Option Pulling → Position → Type 0
BesideBy R s k p None q = q ≡ p
BesideBy R s k p (Some x) q = Waits R s k p x q ⊎ Pulls R p x q

abbrev pub Beside : Option (List Snapshot) → Store → ℕ → Position → Position → Type 0
Beside R s k p q = BesideBy R s k p (pull_in p.task) q

-- ---- what its job is

abbrev pub IsGoing : Asking → Type 0
IsGoing (beginning p) = Unit {0}
IsGoing (sending p c cs) = Unit {0}
IsGoing _ = ⊥

-- it ends its writer, or goes on
abbrev pub IsAt : Bool → Asking → Type 0
IsAt true j = (z : Refusal) × (j ≡ job_aborting (Refused z))
IsAt false j = IsGoing j

goes_by : (p : Pull) (cs : List Command) (j : Asking) → Sends p cs j → IsGoing j
unfolding next_command next_snapshot
goes_by p (c ∷ cs) j h = subst IsGoing (same h) tt
  where
    same : {a b : Asking} → asking a ≡ asking b → a ≡ b
    same e = cc
goes_by p [] j h = by_later p.later h
  where
    same : {a b : Asking} → asking a ≡ asking b → a ≡ b
    same e = cc

    by_later : (xs : List Snapshot) → next_snapshot (p.pulled ++ key_text (p.snapshot).key ∷ []) xs ≡ asking j → IsGoing j
    by_later [] e = cc
    by_later (x ∷ xs) e = subst IsGoing (same e) tt

pub is_at : (L : List Snapshot) (x : Pulling) (j : Asking) → Shows L x j → IsAt (is_ending x) j
is_at L (seeking group) j h = absurd h
is_at L (comparing group remote) j h = absurd h
is_at L (rejecting path) j h = absurd h
is_at L (pull_starting c) j h = subst IsGoing (sym h.2) tt
is_at L (aborting first) j h = (first, h)
is_at L (reading_manifest c bytes) j h = goes_by h.0 _ j h.3
is_at L (reading_file c s name bytes) j h = goes_by (h.0).pull _ j h.5
is_at L (opening c s i) j h = goes_by (h.0).pull _ j h.3
is_at L (reading_chunk c s i e later) j h = goes_by (h.0).pull _ j h.7
is_at L (sending_chunk c s i e later bytes) j h = goes_by (h.0).pull _ j h.4
is_at L (appending c s i e later) j h = goes_by (h.0).pull _ j h.4
is_at L (closing_index c s i) j h = goes_by (h.0).pull _ j h.2
is_at L (sending_blob c s name bytes) j h = goes_by (h.0).pull _ j h.1
is_at L (sending_manifest c s) j h = goes_by (h.0).pull _ j h.1
is_at L (finishing c) j h = goes_by h.0 _ j h.2

-- so it is a SYNC's, it tells no collector's report, and it stops where the SYNC ends
going_sync : (j : Asking) → IsGoing j → is_sync j ≡ true
going_sync (beginning p) h = refl
going_sync (sending p c cs) h = refl
going_sync j h = absurd h

pub at_sync : (b : Bool) (j : Asking) → IsAt b j → is_sync j ≡ true
at_sync true j h = ap is_sync h.1
at_sync false j h = going_sync j h

going_plain : (j : Asking) → IsGoing j → KeepsPlain j
going_plain (beginning p) h = tt
going_plain (sending p c cs) h = tt
going_plain j h = absurd h

pub at_plain : (b : Bool) (j : Asking) → IsAt b j → KeepsPlain j
at_plain true j h = subst KeepsPlain (sym h.1) refl
at_plain false j h = going_plain j h

going_stops : (j : Asking) → IsGoing j → is_stopping j ≡ false
going_stops (beginning p) h = refl
going_stops (sending p c cs) h = refl
going_stops j h = absurd h

pub at_stops : (b : Bool) (j : Asking) → IsAt b j → is_stopping j ≡ b
at_stops true j h = ap is_stopping h.1
at_stops false j h = going_stops j h

-- ---- what it asks is a step, or a read

abbrev pub IsOther : Class → Type 0
IsOther stepping = ⊥
IsOther reaching = ⊥
IsOther _ = Unit {0}

command_other : (c : Command) → IsOther (class_of (act_of_command c)) → ⊥
command_other c h = subst IsOther (command_class c) h

-- a SYNC asks for nothing else
pub asks_no_other : (x : Pulling) → IsOther (class_of (act_of x)) → ⊥
asks_no_other (seeking group) h = h
asks_no_other (comparing group remote) h = h
asks_no_other (rejecting path) h = h
asks_no_other (pull_starting c) h = h
asks_no_other (aborting first) h = h
asks_no_other (reading_manifest c bytes) h = h
asks_no_other (reading_file c s name bytes) h = h
asks_no_other (opening c s i) h = command_other (new_index i.layout i.name) h
asks_no_other (reading_chunk c s i e later) h = h
asks_no_other (sending_chunk c s i e later bytes) h = command_other (commands.Chunk e.digest bytes) h
asks_no_other (appending c s i e later) h = command_other (commands.Append 0 (take_first 4096 (e ∷ later))) h
asks_no_other (closing_index c s i) h = command_other (commands.CloseIndex 0 (length i.entries) i.size i.csum) h
asks_no_other (sending_blob c s name bytes) h = command_other (commands.Blob name bytes) h
asks_no_other (sending_manifest c s) h = command_other (commands.Blob manifest_name s.manifest) h
asks_no_other (finishing c) h = h

-- ---- after an answer

-- the position that `weave` has goes on with the lane's own
pub besides : (R : Option (List Snapshot)) (s : Store) (k : ℕ) (L : List Snapshot) (p : Position) (j : Asking) (next : SyncJob) (job : Job) (left : List ℕ) (is_spent : Bool)
    → R ≡ Some L → ShowsJob L next job
    → Beside R s k (record (pulls_on p left next) { is_unheld = false; is_spent = is_spent }) (record (goes_on (shown p j) left job) { is_unheld = false; is_spent = is_spent })
unfolding pulls_on goes_on
besides R s k L p j (reports r) job left is_spent there h =
    ap (λ (y : Job). record (goes_on (shown p j) left y) { is_unheld = false; is_spent = is_spent }) h
besides R s k L p j (asks x) job left is_spent there h =
    inr (record {
      list = L;
      job = h.0;
      there = there;
      is = ap (λ (y : Job). record (goes_on (shown p j) left y) { is_unheld = false; is_spent = is_spent }) h.1;
      shows = h.2;
    })

-- ---- the SYNC's first step

last_map : {X Y : Type 0} (f : X → Y) (o : Option X) (xs : List X) → last_or (option_map f o) (map f xs) ≡ option_map f (last_or o xs)
last_map f o [] = refl
last_map f o (x ∷ xs) = last_map f (Some x) xs

texts_map : (keys : List SnapshotKey) (o : Option SnapshotKey) → All IsKey keys → IfSome o IsKey → time_of (last_or (option_map key_text o) (map key_text keys)) ≡ option_map (λ (k : SnapshotKey). k.time) (last_or o keys)
texts_map [] None all first = refl
texts_map [] (Some key) all first = ap (option_map (λ (k : SnapshotKey). k.time)) (keys key first)
texts_map (key ∷ rest) o all first = texts_map rest (Some key) (All-tail IsKey key rest all) (All-head IsKey key rest all)

-- a snapshot's time is told by its text
later_same : (newest : Option SnapshotKey) (x : Snapshot) → IsKey x.key → is_later (option_map (λ (k : SnapshotKey). k.time) newest) (key_text x.key) ≡ job_later newest x
later_same None x fine = refl
later_same (Some key) x fine = ap (is_after key.time) (ap (option_map (λ (k : SnapshotKey). k.time)) (keys x.key fine))

-- those that are later by their texts are those that are later
later_texts : (newest : Option SnapshotKey) (xs : List Snapshot) → All (λ x. IsKey x.key) xs
    → filter (is_later (option_map (λ (k : SnapshotKey). k.time) newest)) (texts_of xs) ≡ texts_of (filter (job_later newest) xs)
later_texts newest [] all = refl
later_texts newest (x ∷ xs) all =
    ap (λ b. cond b (key_text x.key ∷ filter (is_later (option_map (λ (k : SnapshotKey). k.time) newest)) (texts_of xs)) (filter (is_later (option_map (λ (k : SnapshotKey). k.time) newest)) (texts_of xs)))
    (later_same newest x (All-head (λ y. IsKey y.key) x xs all))
    ∙ by_test (job_later newest x) (later_texts newest xs (All-tail (λ y. IsKey y.key) x xs all))
  where
    by_test : (b : Bool) → filter (is_later (option_map (λ (k : SnapshotKey). k.time) newest)) (texts_of xs) ≡ texts_of (filter (job_later newest) xs)
        → cond b (key_text x.key ∷ filter (is_later (option_map (λ (k : SnapshotKey). k.time) newest)) (texts_of xs)) (filter (is_later (option_map (λ (k : SnapshotKey). k.time) newest)) (texts_of xs))
        ≡ texts_of (cond b (x ∷ filter (job_later newest) xs) (filter (job_later newest) xs))
    by_test true rest = ap (λ l. key_text x.key ∷ l) rest
    by_test false rest = rest

keys_of_all : (xs : List Snapshot) → All (λ x. IsKey x.key) xs → All IsKey (map (λ x. x.key) xs)
keys_of_all [] all = All-nil IsKey
keys_of_all (x ∷ xs) all = All-cons IsKey x.key (map (λ y. y.key) xs) (All-head (λ y. IsKey y.key) x xs all) (keys_of_all xs (All-tail (λ y. IsKey y.key) x xs all))

-- What is pulled, by the texts: where the store has these of the group, and the remote those.
pub pulled_same : (g : GroupKey) (here there : List Snapshot) → All (λ x. IsKey x.key) here → All (λ x. IsKey x.key) there
    → filter (is_later (newest_in (group_texts g here))) (texts_of (in_group g there))
    ≡ texts_of (filter (job_later (last_or None (take_first group_limit (keys_in g here)))) (in_group g there))
pulled_same g here there fine also =
    let ks = take_first group_limit (keys_in g here) in
    ap (λ (o : Option ℕ). filter (is_later o) (texts_of (in_group g there)))
    (texts_map ks None (All-take IsKey group_limit (keys_in g here) (keys_of_all (in_group g here) (All-filter (λ x. same_group (group_of_key x.key) g) (λ x. IsKey x.key) here fine))) tt)
    ∙ later_texts (last_or None ks) (in_group g there) (All-filter (λ x. same_group (group_of_key x.key) g) (λ x. IsKey x.key) there also)

-- what the remote tells of a group is all of it
pub all_keys : (xs : List Snapshot) → All (λ x. IsKey x.key) xs → filter is_key (texts_of xs) ≡ texts_of xs
all_keys [] all = refl
all_keys (x ∷ xs) all =
    ap (λ (o : Option SnapshotKey). cond (is_some o) (key_text x.key ∷ filter is_key (texts_of xs)) (filter is_key (texts_of xs))) (keys x.key (All-head (λ y. IsKey y.key) x xs all))
    ∙ ap (λ l. key_text x.key ∷ l) (all_keys xs (All-tail (λ y. IsKey y.key) x xs all))

map_twice : (xs : List Snapshot) → map key_text (map (λ x. x.key) xs) ≡ texts_of xs
map_twice [] = refl
map_twice (x ∷ xs) = ap (λ l. key_text x.key ∷ l) (map_twice xs)

pub remote_texts : (g : GroupKey) (L : List Snapshot) → length (in_group g L) ≤ group_limit → group_texts g L ≡ texts_of (in_group g L)
remote_texts g L few =
    ap (map key_text) (take_all group_limit (keys_in g L) (let len = length-map (in_group g L) (λ (x : Snapshot). x.key) in omega (arith, len, few)))
    ∙ map_twice (in_group g L)
