-- A SYNC's acts and replies by what its job asks, and a reply for which there is no memory.
use Rattle.std.proofs.Common.{◌≡◌, inl, inr, ℕ, Bool, true, false, List, [], ◌∷◌, ◌++◌, length, Option, Some, None, Result, Ok, Err, IfOk, OnErr, if◌then◌else◌, nat_le, nat_lt, refl, sym, ap, subst, ◌∙◌}
use Rattle.store_types.specs.declared.refusal.Refusal.TheVariants.{NoMemory}
use Rattle.store_types.specs.declared.append.AppendEntry.{AppendEntry}
use Rattle.store_types.specs.FileNames.{manifest_name}
use Rattle.blob_codec.specs.Blob.{data_of, blob_limit}
use Rattle.store_files.specs.Archive.{Layout, dynamic, fixed}
use Rattle.store_files.specs.Manifest.{Manifest}
use Rattle.wire_commands.specs.declared.command.Command.{Command}
use Rattle.wire_commands.specs.declared.command.Command.TheVariants as commands
use Rattle.wire_commands.specs.declared.reply.Reply.{Reply}
use Rattle.wire_commands.specs.declared.reply.Reply.TheVariants as replies
use Rattle.wire_commands.specs.HasText.{ReplyHasText}
use Rattle.store_model.specs.JobReplies.{IsWithinGroup}
use Rattle.store_model.specs.Load.{read_manifest}
use Rattle.store_model.specs.SyncJob.{new_index}
use Rattle.std.proofs.lemmas.Bool.{leb-true, eq-eqb}
use Rattle.store_history.specs.declared.act.Act.{Act}
use Rattle.store_history.specs.declared.act.Act.TheVariants as acts
use Rattle.store_history.specs.declared.act.Answer.{Answer}
use Rattle.store_history.specs.Acts.{IsWellFormed, act_of_command}
use Rattle.store_history.proofs.Ending.{is_formed}
use Rattle.store_model.specs.SizeLimits.{size_limit}
use Rattle.store_history.specs.Pulling.{Course, Stock, Index, Pulling, seeking, reading_manifest, reading_file, opening, reading_chunk, sending_chunk, sending_blob, sending_manifest, aborting, SyncJob, reports, asks, act_of, rejects, index_in, is_index, index_read, blob_read, file_read, next_file, stock_of, manifest_read, manifest_part, file_part, manifest_told, file_told, chunk_told, take, take_more, blob_size, mismatched, with_chunk}
use Rattle.pull_steps.specs.declared.ask.Ask.{Ask}
use Rattle.pull_steps.specs.Asked as asked_of
use Rattle.pull_steps.specs.Asked.{AsksNext, act_of_ask, report_of}
use Rattle.pull_steps.specs.Taken.{IsReadOf, IsReplyTo}
use Rattle.lane.specs.declared.acts.Told.{Told}
use Rattle.lane.specs.Acting.{HasReply, MayTell}
use Rattle.lane.specs.Pulling.{IsFormed}
use Rattle.lane.specs.Tasks.{pulls, done, pull_stage, taken, taken_by, IsActOf, IsOver, IsAnswerTo, IsDroppable, MayWant, first_stage}
use Rattle.lane.proofs.Formed.{given, of_either}
use Rattle.lane.proofs.Stages.{IsDropped, told_is, tells_is}

false_true : false ≡ true → ⊥
false_true e = cc

-- ---- its acts

index_replied : (l : Layout) (name : List ℕ) → HasReply (act_of_command (new_index l name))
index_replied dynamic name = tt
index_replied (fixed size chunk_size) name = tt

index_formed : (l : Layout) (name : List ℕ) → IsWellFormed (act_of_command (new_index l name))
index_formed dynamic name = tt
index_formed (fixed size chunk_size) name = tt

asked_replied : (x : Pulling) → HasReply (act_of x)
asked_replied (opening c s x) = index_replied x.layout x.name
asked_replied x = tt

pub pulls_replied : (x : Pulling) (act : Act) → IsActOf (pulls x) act → HasReply act
pulls_replied x act (inl is) = subst HasReply (sym is) (asked_replied x)
pulls_replied x act (inr is) = subst HasReply (sym is.0) tt

asked_formed : (x : Pulling) → IsFormed x → IsWellFormed (act_of x)
asked_formed (reading_manifest c bytes) sound = sound.0
asked_formed (reading_file c s name bytes) sound = (sound.0).0
asked_formed (opening c s x) sound = index_formed x.layout x.name
asked_formed (sending_chunk c s x e later blob) sound = is_formed (commands.Chunk e.digest blob) tt
asked_formed (sending_blob c s name bytes) sound = is_formed (commands.Blob name bytes) tt
asked_formed (sending_manifest c s) sound = is_formed (commands.Blob manifest_name s.manifest) tt
asked_formed x sound = tt

pub pulls_formed : (x : Pulling) (act : Act) → IsFormed x → IsActOf (pulls x) act → IsWellFormed act
pulls_formed x act sound (inl is) = subst IsWellFormed (sym is) (asked_formed x sound)
pulls_formed x act sound (inr is) = subst IsWellFormed (sym is.0) tt

-- ---- what is told is a reply to it

first_within : (group : List ℕ) (act : Act) (told : Told) → IsActOf (pulls (seeking group)) act → MayTell act told → (r : Reply) → told.reply ≡ r → IsWithinGroup r
first_within group act told of tells (replies.Keys remote) says =
    leb-true (length remote) 4096
    (given (acts.RemoteList (commands.Sync group)) act told (of_either (seeking group) act of) tells (replies.Keys remote) says (λ h. false_true h) (λ h. h))
first_within group act told of tells r says = tt

pub pulls_form : (x : Pulling) (act : Act) (told : Told) → IsActOf (pulls x) act → MayTell act told → ReplyHasText told.reply → IsReplyTo (asks x) told.reply
pulls_form (seeking group) act told of tells text = (first_within group act told of tells told.reply refl, text)
pulls_form x act told of tells text = (tt, text)

-- ---- a reply for which there is no memory

-- all one whether it was taken: want of memory behind it ends its writer
record DropsAlike (job : SyncJob) : Type 0 where
  pub wants : MayWant (pull_stage job)
  pub ends : take_more job (replies.Refused NoMemory) ≡ asks (aborting NoMemory)

rejects_alike : (c : Course) (name : List ℕ) → DropsAlike (rejects c name)
unfolding take
rejects_alike c name = record { wants = refl; ends = refl }

next_alike : (c : Course) (s : Stock) → DropsAlike (next_file c s)
unfolding next_file take file_told
next_alike c s = by_names s.names
  where
    by_names : (ns : List (List ℕ)) → DropsAlike (elim ns [ [] ↦ asks (sending_manifest c s) | name ∷ names ↦ asks (reading_file c (record s { names = names }) name []) ])
    by_names [] = record { wants = refl; ends = refl }
    by_names (name ∷ names) = record { wants = refl; ends = refl }

manifest_alike : (c : Course) (bytes : List ℕ) (o : Option Manifest) → DropsAlike (manifest_read c bytes o)
unfolding manifest_read
manifest_alike c bytes None = rejects_alike c manifest_name
manifest_alike c bytes (Some m) = by_test (nat_le (length m.files) 63)
  where
    by_test : (b : Bool) → DropsAlike (if b then next_file c (stock_of bytes m) else rejects c manifest_name)
    by_test true = next_alike c (stock_of bytes m)
    by_test false = rejects_alike c manifest_name

manifest_part_alike : (c : Course) (bytes : List ℕ) (total : ℕ) → DropsAlike (manifest_part c bytes total)
unfolding manifest_part take manifest_told
manifest_part_alike c bytes total = by_tests (nat_lt blob_limit total) (nat_lt (length bytes) total)
  where
    by_tests : (long more : Bool) → DropsAlike (
        if long then rejects c manifest_name else
        if more then asks (reading_manifest c bytes) else
        manifest_read c bytes (read_manifest bytes))
    by_tests true more = rejects_alike c manifest_name
    by_tests false true = record { wants = refl; ends = refl }
    by_tests false false = manifest_alike c bytes (read_manifest bytes)

index_alike : (c : Course) (s : Stock) (name : List ℕ) (o : Option Index) → DropsAlike (index_read c s name o)
unfolding index_read take
index_alike c s name None = rejects_alike c name
index_alike c s name (Some x) = record { wants = refl; ends = refl }

blob_alike : (c : Course) (s : Stock) (name bytes : List ℕ) → DropsAlike (blob_read c s name bytes)
unfolding blob_read take
blob_alike c s name bytes = by_blob (data_of bytes)
  where
    by_blob : {E : Type 0} (o : Result (List ℕ) E) → DropsAlike (elim o [ Ok contents ↦ asks (sending_blob c s name bytes) | Err cause ↦ rejects c name ])
    by_blob (Ok contents) = record { wants = refl; ends = refl }
    by_blob (Err cause) = rejects_alike c name

file_alike : (c : Course) (s : Stock) (name bytes : List ℕ) → DropsAlike (file_read c s name bytes)
unfolding file_read
file_alike c s name bytes = by_name (is_index name)
  where
    by_name : (b : Bool) → DropsAlike (if b then index_read c s name (index_in name bytes) else blob_read c s name bytes)
    by_name true = index_alike c s name (index_in name bytes)
    by_name false = blob_alike c s name bytes

file_part_alike : (c : Course) (s : Stock) (name bytes : List ℕ) (total : ℕ) → DropsAlike (file_part c s name bytes total)
unfolding file_part take file_told
file_part_alike c s name bytes total = by_tests (nat_lt (size_limit name) total) (nat_lt (length bytes) total)
  where
    by_tests : (long more : Bool) → DropsAlike (if long then rejects c name else if more then asks (reading_file c s name bytes) else file_read c s name bytes)
    by_tests true more = rejects_alike c name
    by_tests false true = record { wants = refl; ends = refl }
    by_tests false false = file_alike c s name bytes

taken_pull : (job : SyncJob) (n : ℕ) (r : Reply) → taken_by (pull_stage job) n (Some r) ≡ pull_stage (take_more job r)
taken_pull (reports report) n r = refl
taken_pull (asks x) n r = refl

-- a read, and what its reply makes of it
dropped_to : (x : Pulling) (after : SyncJob) → DropsAlike (asks x) → DropsAlike after → IsDropped (pulls x) (pull_stage after)
dropped_to x after a b = record {
  wants = b.wants;
  again = a.wants;
  ends = λ n. taken_pull after n (replies.Refused NoMemory) ∙ ap pull_stage (b.ends ∙ sym a.ends) ∙ sym (taken_pull (asks x) n (replies.Refused NoMemory));
}

chunk_alike : (c : Course) (s : Stock) (x : Index) (e : AppendEntry) (later : List AppendEntry) (r : Reply) → IsReadOf (asks (reading_chunk c s x e later)) r
    → DropsAlike (take (reading_chunk c s x e later) r)
unfolding take chunk_told
chunk_alike c s x e later (replies.Data blob) h =
    subst (λ b. DropsAlike (if b then asks (sending_chunk c (with_chunk e blob s) x e later blob) else mismatched e))
    (sym (eq-eqb (length blob) (blob_size x e later) h)) (record { wants = refl; ends = refl })
chunk_alike c s x e later r h = absurd h

read_alike : (x : Pulling) (r : Reply) → IsReadOf (asks x) r → DropsAlike (asks x) × DropsAlike (take x r)
unfolding take manifest_told file_told chunk_told
read_alike (reading_manifest c bytes) (replies.Part total more) h = (record { wants = refl; ends = refl }, manifest_part_alike c (bytes ++ more) total)
read_alike (reading_file c s name bytes) (replies.Part total more) h = (record { wants = refl; ends = refl }, file_part_alike c s name (bytes ++ more) total)
read_alike (reading_chunk c s x e later) r h = (record { wants = refl; ends = refl }, chunk_alike c s x e later r h)
read_alike x r h = absurd h

pub read_dropped : (x : Pulling) (r : Reply) → IsReadOf (asks x) r → IsDropped (pulls x) (pull_stage (take x r))
read_dropped x r h = let a = read_alike x r h in dropped_to x (take x r) a.0 a.1

pub no_read : (x : Pulling) (r : Reply) → IsReadOf (asks x) r → r ≡ replies.Refused NoMemory → ⊥
no_read x r h is = refused x (subst (λ r. IsReadOf (asks x) r) is h)
  where
    refused : (x : Pulling) → IsReadOf (asks x) (replies.Refused NoMemory) → ⊥
    refused (reading_manifest c bytes) h = h
    refused (reading_file c s name bytes) h = h
    refused (reading_chunk c s x e later) h = h
    refused x h = h

-- ---- as the job has it

-- its next act
pub pull_over : (job : SyncJob) → AsksNext job None → IsOver (pull_stage job)
pull_over (reports report) none = tt
pull_over (asks x) none = absurd none

pub pull_asks : (job : SyncJob) (asked : Ask) (act : Act) → AsksNext job (Some asked) → act ≡ act_of_ask asked → IsActOf (pull_stage job) act
pull_asks (reports report) asked act next is = absurd next
pull_asks (asks x) asked act next is = inl (is ∙ next)

pub pull_wants : (job : SyncJob) → asked_of.MayWant job → IsActOf (pull_stage job) acts.Short
pull_wants (reports report) may = absurd may
pull_wants (asks x) may = inr (refl, may)

-- its beginning
pub pull_first : {E : Type 0} (c : Command) (group : List ℕ) (begun : Result SyncJob E) → c ≡ commands.Sync group → IfOk begun (λ job. job ≡ asks (seeking group))
    → IfOk begun (λ job. pull_stage job ≡ first_stage c)
pull_first c group (Ok job) is started = ap pull_stage started ∙ ap first_stage (sym is)
pull_first c group (Err e) is started = tt

pub pull_may : {E : Type 0} (c : Command) (group : List ℕ) (begun : Result SyncJob E) → c ≡ commands.Sync group → OnErr begun (MayWant (first_stage c))
pull_may c group (Ok job) is = tt
pull_may c group (Err e) is = subst (λ (c : Command). MayWant (first_stage c)) (sym is) refl

-- what it takes
pub pull_form : (job : SyncJob) (a : Answer) (r : Reply) → a.reply ≡ Some r → IsAnswerTo (pull_stage job) a → IsReplyTo job r
pull_form (reports report) a r is of = absurd of
pull_form (asks x) a r is of = told_is a r (IsReplyTo (asks x)) is of

pub pull_taken : (job new : SyncJob) (a : Answer) (r : Reply) → a.reply ≡ Some r → new ≡ take_more job r → pull_stage new ≡ taken (pull_stage job) a
pull_taken job new a r is same = ap pull_stage same ∙ sym (ap (λ o. taken_by (pull_stage job) (a.entry).kind o) is ∙ taken_pull job (a.entry).kind r)

pub pull_drops : (job : SyncJob) (a : Answer) (r : Reply) → a.reply ≡ Some r → IsReadOf job r → IsDroppable (pull_stage job) a
pull_drops (reports report) a r is read = absurd read
pull_drops (asks x) a r is read = tells_is a r (IsReadOf (asks x)) is read

-- its report
pub pull_ended : (job : SyncJob) → IsOver (pull_stage job) → asked_of.IsOver job
pull_ended (reports report) over = tt
pull_ended (asks x) over = absurd over

pub pull_reports : (job : SyncJob) (r : Reply) → IsOver (pull_stage job) → r ≡ report_of job → pull_stage job ≡ done r
pull_reports (reports report) r over is = ap done (sym is)
pull_reports (asks x) r over is = absurd over
