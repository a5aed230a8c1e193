-- A SYNC whose reads the remote's list answers asks what the job asks that knows the list, and reads for that.
use Rattle.std.proofs.Common.{◌≡◌, ◌⊎◌, inl, inr, ℕ, true, false, List, [], ◌∷◌, ◌++◌, filter, length, Option, Some, None, IfSome, Result, Ok, Err, refl, sym, ap, subst, ◌∙◌, take as take_first}
use Rattle.std.specs.List.{All, Contains, fold, last_or}
use Rattle.std.proofs.lemmas.List.Elements.{All-contains_itself, All-filter, All-weaker}
use Rattle.store_types.specs.declared.names.GroupKey.{GroupKey}
use Rattle.store_types.specs.declared.refusal.Refusal.{Refusal}
use Rattle.store_types.specs.declared.refusal.Refusal.TheVariants.{BadName, NoRemote}
use Rattle.store_types.specs.Chain.Refusing.{◌>>=◌, or_else}
use Rattle.store_types.specs.FileNames.{manifest_name}
use Rattle.store_types.specs.Names.{IsKey, group_of, group_of_key, same_group}
use Rattle.blob_codec.specs.Blob as blobs
use Rattle.store_files.specs.Archive.{Layout, dynamic, fixed, Content, archive, blob, File, Snapshot, digest_of, file_named}
use Rattle.wire_commands.specs.declared.command.Command.{Command}
use Rattle.wire_commands.specs.declared.command.Command.TheVariants.{Append, Blob, Chunk, CloseIndex, Finish}
use Rattle.wire_commands.specs.declared.reply.Reply.{Reply}
use Rattle.wire_commands.specs.declared.reply.Reply.TheVariants.{Keys, Refused}
use Rattle.store_model.specs.AdminSteps.{group as group_here, group_texts}
use Rattle.store_model.specs.Job.{Pull, Asking, sending, Job, asking}
use Rattle.store_model.specs.Jobs.{take as job_take, take_more as job_takes}
use Rattle.store_model.specs.Stands.{IsSnapshot, group_limit}
use Rattle.store_model.specs.Store.{Store, Outcome, in_group, keys_in}
use Rattle.store_model.specs.Heads.{group_in, idle_group}
use Rattle.store_model.proofs.HeadLemmas.{idle_group_found}
use Rattle.store_model.specs.SyncJob.{commands_of, file_commands, is_later as job_later, listed_files, new_index, next_command, next_snapshot, text_of, to_pull, uploads}
use Rattle.store_history.specs.declared.act.Act.TheVariants.{RemoteChunk, RemoteFile}
use Rattle.store_history.specs.Acts.{Class, stepping, reaching, class_of}
use Rattle.store_history.specs.Pulling.{Pulling, seeking, comparing, starting, reading_manifest, reading_file, opening, reading_chunk, sending_chunk, appending, closing_index, sending_blob, sending_manifest, finishing, rejecting, aborting, SyncJob, reports, asks, act_of, is_key, is_later, newest_in, next_snapshot as next_pulled, sought, compared, take, take_more}
use Rattle.store_history.specs.Remote.{IsList, Reads}
use Rattle.store_history.proofs.Beside.{IsOther, all_keys, asks_no_other, pulled_same, remote_texts}
use Rattle.store_history.proofs.Meaning.{Sends, Shows, ShowsJob, asked_alike, behind_chunks, chunks_from, files_from, no_read, reads_on, shows_snapshots, taken, texts_of, unread}
use Rattle.job_laws.specs.Pulls.{AreToldBy, IsAlike, IsOfFile, IsReadFor, IsToldBy, PullsByTheList, is_refusal, pull_after, replies_by, replies_to_job}

-- ---- what a read is for

asked_is : (p : Pull) (d : Command) (ds cs : List Command) (j : Asking) → cs ≡ d ∷ ds → Sends p cs j → j ≡ sending p d ds
unfolding next_command
asked_is p d ds cs j is asked = same (subst (λ xs. Sends p xs j) is asked)
  where
    same : Sends p (d ∷ ds) j → j ≡ sending p d ds
    same e = cc

-- of commands with one among them there is a first
first_of : (cs : List Command) (c : Command) (ds : List Command) → (d : Command) × (later : List Command) × (cs ++ c ∷ ds ≡ d ∷ later)
first_of [] c ds = (c, ds, refl)
first_of (d ∷ cs) c ds = (d, cs ++ c ∷ ds, refl)

commands_first : (x : Snapshot) → (d : Command) × (later : List Command) × (commands_of x ≡ d ∷ later)
unfolding commands_of
commands_first x = first_of (uploads [] (listed_files x)) (Blob manifest_name (text_of (file_named manifest_name x.files))) (Finish ∷ [])

-- a file's first command is of that file
index_named : (l : Layout) (name : List ℕ) → IsOfFile (new_index l name) name
index_named dynamic name = refl
index_named (fixed size chunk_size) name = refl

file_first : (sent : List (List ℕ)) (name : List ℕ) (content : Content) (fs : List File) (x : Snapshot)
    → (d : Command) × (later : List Command) × (files_from sent ((let f : File = record { name = name; content = content } in f) ∷ fs) x ≡ d ∷ later) × IsOfFile d name
unfolding uploads file_commands
file_first sent name (archive a) fs x = (new_index a.layout name, _, refl, index_named a.layout name)
file_first sent name (blob bytes) fs x = (Blob name (blobs.blob bytes), _, refl, refl)

reads_for : (L : List Snapshot) (x : Pulling) (j : Asking) → Shows L x j → class_of (act_of x) ≡ reaching → IsReadFor j (act_of x)
reads_for L (reading_manifest c bytes) j h away =
    let p = h.0 in
    let first = commands_first p.snapshot in
    subst (λ y. IsReadFor y (RemoteFile c.snapshot manifest_name (length bytes))) (sym (asked_is p first.0 first.1 (commands_of p.snapshot) j first.2 h.3))
    ((h.1).snapshot, inl (refl, sym first.2))
reads_for L (reading_file c s name bytes) j h away =
    let a = h.0 in
    let f = h.1 in
    let first = file_first a.sent f.name f.content a.files (a.pull).snapshot in
    subst (λ y. IsReadFor y (RemoteFile c.snapshot name (length bytes))) (sym (asked_is a.pull first.0 first.1 (files_from a.sent (f ∷ a.files) (a.pull).snapshot) j first.2 h.5))
    ((a.course).snapshot, inr (subst (IsOfFile first.0) (sym h.3) first.3))
reads_for L (reading_chunk c s i e later) j h away =
    let a = h.0 in
    let p = h.1 in
    let rest = chunks_from (p ∷ a.sent) a.to_come (behind_chunks a.from a.after a.files (a.pull).snapshot) in
    subst (λ y. IsReadFor y (RemoteChunk e.digest)) (sym (asked_is a.pull (Chunk (digest_of p) (blobs.blob p)) rest (Chunk (digest_of p) (blobs.blob p) ∷ rest) j refl h.7)) h.4
reads_for L (seeking group) j h away = absurd h
reads_for L (comparing group remote) j h away = absurd h
reads_for L (rejecting path) j h away = absurd h
reads_for L (starting c) j h away = cc
reads_for L (opening c s i) j h away = absurd (no_read L (new_index i.layout i.name) away)
reads_for L (sending_chunk c s i e later bytes) j h away = absurd (no_read L (Chunk e.digest bytes) away)
reads_for L (appending c s i e later) j h away = absurd (no_read L (Append 0 (take_first 4096 (e ∷ later))) away)
reads_for L (closing_index c s i) j h away = absurd (no_read L (CloseIndex 0 (length i.entries) i.size i.csum) away)
reads_for L (sending_blob c s name bytes) j h away = absurd (no_read L (Blob name bytes) away)
reads_for L (sending_manifest c s) j h away = absurd (no_read L (Blob manifest_name s.manifest) away)
reads_for L (finishing c) j h away = cc
reads_for L (aborting first) j h away = cc

-- ---- behind one reply, and behind all

read_told : {A : Type 0} → (false ≡ true) ⊎ A → A
read_told (inl e) = cc
read_told (inr reads) = reads

module _ (L : List Snapshot) (list : IsList L) where
  -- behind these replies they stand for one another
  Behind : SyncJob → Job → List Reply → Type 0
  Behind pull job rs = ShowsJob L (fold take_more pull rs) (fold job_takes job (replies_to_job pull rs))

  -- wherever they do
  GoesOn : List Reply → Type 0
  GoesOn rs = (pull : SyncJob) (job : Job) → ShowsJob L pull job → AreToldBy L pull rs → Behind pull job rs

  -- a read is refused to both; what it gave the job knows
  by_read : (x : Pulling) (j : Asking) (r : Reply) (rs : List Reply) → Shows L x j → class_of (act_of x) ≡ reaching → (is_refusal r ≡ true) ⊎ Reads L (act_of x) (Some r)
      → AreToldBy L (take x r) rs → GoesOn rs → ShowsJob L (fold take_more (take x r) rs) (fold job_takes (asking j) (replies_by reaching r ++ replies_to_job (take x r) rs))
  unfolding Behind GoesOn
  by_read x j (Refused z) rs h away told later go = go (take x (Refused z)) (job_take j (Refused z)) (unread L x j z h away) later
  by_read x j r rs h away told later go = go (take x r) (asking j) (reads_on L list x j r h away (read_told told)) later

  by_class : (x : Pulling) (j : Asking) (r : Reply) (rs : List Reply) → Shows L x j → IsToldBy L (asks x) r → AreToldBy L (take x r) rs → GoesOn rs
      → (c : Class) → class_of (act_of x) ≡ c → ShowsJob L (fold take_more (take x r) rs) (fold job_takes (asking j) (replies_by c r ++ replies_to_job (take x r) rs))
  unfolding Behind GoesOn
  by_class x j r rs h told later go stepping is = go (take x r) (job_take j r) (taken L x j r h is) later
  by_class x j r rs h told later go reaching is = by_read x j r rs h is (told is) later go
  by_class x j r rs h told later go c is = absurd (asks_no_other x (subst IsOther (sym is) tt))

  shows_behind : (rs : List Reply) → GoesOn rs
  unfolding Behind GoesOn
  shows_behind [] pull job h told = h
  shows_behind (r ∷ rs) (reports z) job h told = shows_behind rs (reports z) job h told.1
  shows_behind (r ∷ rs) (asks x) job h told =
      subst (λ (y : Job). Behind (asks x) y (r ∷ rs)) (sym h.1) (by_class x h.0 r rs h.2 told.0 told.1 (shows_behind rs) (class_of (act_of x)) refl)

  alike : (pull : SyncJob) (job : Job) → ShowsJob L pull job → IsAlike pull job
  alike (reports z) job h = subst (IsAlike (reports z)) (sym h) refl
  alike (asks x) job h = subst (IsAlike (asks x)) (sym h.1) (by_act (class_of (act_of x)) refl)
    where
      by_act : (c : Class) → class_of (act_of x) ≡ c → IsAlike (asks x) (asking h.0)
      by_act stepping is = inl (asked_alike L x h.0 h.2 is)
      by_act reaching is = inr (reads_for L x h.0 h.2 is)
      by_act c is = absurd (asks_no_other x (subst IsOther (sym is) tt))

  all_alike : (rs : List Reply) (pull : SyncJob) (job : Job) → ShowsJob L pull job → AreToldBy L pull rs → IsAlike (fold take_more pull rs) (fold job_takes job (replies_to_job pull rs))
  unfolding Behind GoesOn
  all_alike rs pull job h told = alike (fold take_more pull rs) (fold job_takes job (replies_to_job pull rs)) (shows_behind rs pull job h told)

-- ---- where it begins

module _ (L : List Snapshot) (list : IsList L) (here : List Snapshot) (named : All (λ x. IsKey x.key) here) (g : GroupKey) where
  abbrev later : List Snapshot
  later = filter (job_later (last_or None (take_first group_limit (keys_in g here)))) (in_group g L)

  fine : All (λ x. IsKey x.key) L
  fine = All-weaker IsSnapshot (λ x. IsKey x.key) (λ x h. h.key) L list.each

  in_list : All (Contains L) later
  in_list =
      All-filter (job_later (last_or None (take_first group_limit (keys_in g here)))) (Contains L) (in_group g L)
      (All-filter (λ x. same_group (group_of_key x.key) g) (Contains L) L (All-contains_itself L))

  -- all that the remote has of the group is told, and of it the later is pulled
  texts_are : filter (is_later (newest_in (group_texts g here))) (filter is_key (group_texts g L)) ≡ texts_of later
  texts_are =
      ap (λ ts. filter (is_later (newest_in (group_texts g here))) (filter is_key ts)) (remote_texts g L (list.groups g))
      ∙ ap (filter (is_later (newest_in (group_texts g here)))) (all_keys (in_group g L) (All-filter (λ x. same_group (group_of_key x.key) g) (λ x. IsKey x.key) L fine))
      ∙ pulled_same g here L named fine

  shows_begun : (group : List ℕ) → ShowsJob L (pull_after group (Keys (group_texts g L) ∷ Keys (group_texts g here) ∷ [])) (next_snapshot [] later)
  unfolding take sought compared
  shows_begun group =
      subst (λ ts. ShowsJob L (next_pulled [] ts) (next_snapshot [] later)) (sym texts_are) (shows_snapshots L [] later in_list)

-- the group is named where the job begins
pulled_of : (L : List Snapshot) (from : GroupKey → List Snapshot → List Snapshot) (group : Result GroupKey Refusal) (xs : List Snapshot)
    → (group >>= λ g. or_else NoRemote (Some L) >>= λ snapshots. Ok (from g snapshots)) ≡ Ok xs → (g : GroupKey) × (group ≡ Ok g) × (from g L ≡ xs)
pulled_of L from (Err z) xs h = cc
pulled_of L from (Ok g) xs h = (g, refl, cc)

there_is : (o : Option GroupKey) (g : GroupKey) (told : GroupKey → Reply) (there : Reply) → o ≡ Some g → IfSome o (λ k. Some there ≡ Some (told k)) → told g ≡ there
there_is None g told there is h = cc
there_is (Some k) g told there is h = cc

abbrev reply_in : Reply → Outcome → Reply
reply_in r (Ok after) = after.1
reply_in r (Err z) = r

here_is : (s : Store) (o : Option GroupKey) (g : GroupKey) (told : GroupKey → Reply) (here : Reply) → o ≡ Some g → (or_else BadName o >>= λ k. let done : Outcome = Ok (s, told k) in done) ≡ Ok (s, here) → told g ≡ here
here_is s None g told here is h = cc
here_is s (Some k) g told here is h = ap told (same is) ∙ ap (reply_in here) h
  where
    same : Some k ≡ Some g → g ≡ k
    same e = cc

pub pulls_by_the_list : PullsByTheList
unfolding to_pull group_here group_in
pulls_by_the_list L s lane group snapshots there here rs list named pulls told_there told_here told =
    let from = λ (g : GroupKey) (xs : List Snapshot). filter (job_later (last_or None (take_first group_limit (keys_in g s.snapshots)))) (in_group g xs) in
    let known = pulled_of L from (idle_group s lane group) snapshots pulls in
    let g = known.0 in
    let found = (idle_group_found s lane group g known.1).1 in
    let has_there = there_is (group_of group) g (λ k. Keys (group_texts k L)) there found told_there in
    let has_here = here_is s (group_of group) g (λ k. Keys (group_texts k s.snapshots)) here found told_here in
    let shows : ShowsJob L (pull_after group (there ∷ here ∷ [])) (next_snapshot [] snapshots) =
    subst (λ r. ShowsJob L (pull_after group (r ∷ here ∷ [])) (next_snapshot [] snapshots)) has_there
    (subst (λ r. ShowsJob L (pull_after group (Keys (group_texts g L) ∷ r ∷ [])) (next_snapshot [] snapshots)) has_here
    (subst (λ xs. ShowsJob L (pull_after group (Keys (group_texts g L) ∷ Keys (group_texts g s.snapshots) ∷ [])) (next_snapshot [] xs)) known.2
    (shows_begun L list s.snapshots named g group))) in
    all_alike L list rs (pull_after group (there ∷ here ∷ [])) (next_snapshot [] snapshots) shows told
