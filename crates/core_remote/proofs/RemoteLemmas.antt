-- What refuses a read of the remote is what refuses the plain store's.
use Rattle.std.proofs.Common.{◌≡◌, ◌<◌, ℕ, Bool, true, false, is_some, List, filter, take, Option, None, Some, IfOk, IsSome, IsTrue, MatchResult, Result, Ok, Err, refl, sym, ap, ◌∙◌}
use Rattle.std.specs.List.{last_or}
use Rattle.store_types.specs.Chain.Refusing.{◌>>=◌, or_else, unless}
use Rattle.store_types.specs.Names.{group_of, key_of}
use Rattle.store_types.specs.declared.names.Digest32.{Digest32}
use Rattle.store_types.specs.declared.names.FileName.{FileName}
use Rattle.store_types.specs.declared.names.GroupKey.{GroupKey}
use Rattle.store_types.specs.declared.refusal.Refusal.{Refusal}
use Rattle.store_types.specs.declared.refusal.Refusal.TheVariants.{NoRemote}
use Rattle.store_files.specs.Archive.{Snapshot}
use Rattle.wire_commands.specs.declared.command.Command.{Command}
use Rattle.wire_commands.specs.declared.command.Command.TheVariants.{Sync}
use Rattle.wire_commands.specs.declared.reply.Reply.{Reply}
use Rattle.wire_commands.specs.declared.reply.Reply.TheVariants as replies
use Rattle.wire_commands.specs.HasText.{ReplyHasText}
use Rattle.store_model.specs.Heads as model
use Rattle.store_model.specs.Jobs.{IsSync}
use Rattle.store_model.specs.Stands.{group_limit}
use Rattle.store_model.specs.Store.{Store, in_group, keys_in}
use Rattle.store_model.proofs.Done.{passed}
use Rattle.store_model.specs.SyncJob.{is_later, to_pull}
use Rattle.store_history.specs.declared.act.Act.{Act}
use Rattle.store_history.specs.declared.act.Act.TheVariants.{RemoteChunk, RemoteFile, RemoteList}
use Rattle.store_history.specs.declared.act.Family.TheVariants.{Reaches}
use Rattle.store_history.specs.Acts.{IsWellFormed, family_of}
use Rattle.store_history.specs.Remote as rules
use Rattle.store_history.proofs.Families.{by_remote}
use Rattle.core_state.specs.declared.parts.Parts.{Parts}
use Rattle.store_stops.specs.declared.stop.Stop.{Stop}
use Rattle.store_stops.specs.declared.stop.Stop.TheVariants as stops
use Rattle.core_state.specs.Heads.{idle_group}
use Rattle.core_state.specs.Holds.{Shows}
use Rattle.core_state.specs.Kept.{KeptAt, kept_at}
use Rattle.store_history.specs.Replies.{may_answer, may_give, refuses_sync}
use Rattle.core_state.proofs.HeadLemmas.{idle_group_is, idle_group_named, idle_group_refuses, refuses_then, refuses_unless}
use Rattle.core_state.proofs.RemoteReads.{GivesFit}
use Rattle.snapshot_files.specs.Reads.{StopHasText}
use Rattle.core_remote.specs.RemoteActs.{EndsBy, HasName, read_told}

-- the well-formed ones, one by one
pub by_read : (P : Act → Type 0) → ((group : List ℕ) → P (RemoteList (Sync group))) → ((snapshot : List ℕ) (name : FileName) (offset : ℕ) → IsSome (key_of snapshot) → P (RemoteFile snapshot name offset))
    → ((digest : Digest32) → P (RemoteChunk digest)) → (act : Act) → family_of act ≡ Reaches → IsWellFormed act → P act
by_read P list file chunk = by_remote (λ act. IsWellFormed act → P act) by_command file (λ digest formed. chunk digest)
  where
    by_command : (c : Command) → IsSync c → P (RemoteList c)
    by_command (Sync group) formed = list group
    by_command c formed = absurd formed

abbrev done : Result (Unit {0}) Refusal
done = Ok tt

-- ---- the same tests

module _ (from : GroupKey → List Snapshot → List Snapshot) where
  -- in the same order
  pulled_same : (head : Result GroupKey Refusal) (R : Option (List Snapshot))
      → ((head >>= λ g. or_else NoRemote R >>= λ snapshots. Ok (from g snapshots)) >>= λ _. done) ≡ (head >>= λ _. unless NoRemote (is_some R))
  pulled_same (Err e) R = refl
  pulled_same (Ok g) None = refl
  pulled_same (Ok g) (Some snapshots) = refl

-- the remote's snapshots of the group that are later than the newest here
abbrev later_in : Store → GroupKey → List Snapshot → List Snapshot
later_in s g snapshots = filter (is_later (last_or None (take group_limit (keys_in g s.snapshots)))) (in_group g snapshots)

there_same : (R : Option (List Snapshot)) → (or_else NoRemote R >>= λ snapshots. done) ≡ unless NoRemote (is_some R)
there_same None = refl
there_same (Some snapshots) = refl

-- a core that shows the store, and has a remote where it is given one, tells what the plain store tells
pub told_same : {D : Type 0} (parts : Parts D) (s : Store) (k : ℕ) (R : Option (List Snapshot)) → Shows parts s → k < 64
    → (act : Act) → family_of act ≡ Reaches → IsWellFormed act → rules.may_read R s k act ≡ read_told act (is_some R) (kept_at parts k)
unfolding to_pull
told_same parts s k R shows lt =
    by_read (λ act. rules.may_read R s k act ≡ read_told act (is_some R) (kept_at parts k))
    (λ group. pulled_same (later_in s) (model.idle_group s k group) R ∙ ap (λ head. head >>= λ _. unless NoRemote (is_some R)) (sym (idle_group_is parts s k shows lt group)))
    (λ snapshot name offset formed. there_same R) (λ digest. there_same R)

-- ---- it is one of the act's refusals

error_same : {A : Type 0} (a b : Refusal) → ◌≡◌ {A = Result A Refusal} (Err a) (Err b) → a ≡ b
error_same a b e = cc

ok_error : {A : Type 0} (x : A) (r : Refusal) → ◌≡◌ {A = Result A Refusal} (Ok x) (Err r) → ⊥
ok_error x r e = cc

module _ (act : Act) (r : Refusal) where
  unread : (has : Bool) → may_answer act (replies.Refused NoRemote) ≡ true → unless NoRemote has ≡ Err r → may_answer act (replies.Refused r) ≡ true
  unread true may e = absurd (ok_error tt r e)
  unread false may e = ap (λ x. may_answer act (replies.Refused x)) (sym (error_same NoRemote r e)) ∙ may

refuses_by : (has : Bool) (x : KeptAt) (r : Refusal) (act : Act) → family_of act ≡ Reaches → IsWellFormed act → read_told act has x ≡ Err r → may_answer act (replies.Refused r) ≡ true
refuses_by has x r =
    by_read (λ act. read_told act has x ≡ Err r → may_answer act (replies.Refused r) ≡ true) (λ group. begun group)
    (λ snapshot name offset formed. unread (RemoteFile snapshot name offset) r has refl) (λ digest. unread (RemoteChunk digest) r has refl)
  where
    begun : (group : List ℕ) → read_told (RemoteList (Sync group)) has x ≡ Err r → may_answer (RemoteList (Sync group)) (replies.Refused r) ≡ true
    begun group e =
        refuses_then (λ r. refuses_sync r ≡ true) (idle_group group x) (λ g. unless NoRemote has) (idle_group_refuses (λ r. refuses_sync r ≡ true) x group (λ state. refl) refl)
        (λ g. refuses_unless (λ r. refuses_sync r ≡ true) NoRemote has refl) r e

-- ---- whether it is read

unless_there : (has : Bool) → unless NoRemote has ≡ done → has ≡ true
unless_there true e = refl
unless_there false e = cc

-- where it is, what it names is there to be named
pub has_name : (has : Bool) (x : KeptAt) (act : Act) → family_of act ≡ Reaches → IsWellFormed act → read_told act has x ≡ done → HasName act
has_name has x =
    by_read (λ act. read_told act has x ≡ done → HasName act) (λ group. begun group) (λ snapshot name offset named told. named) (λ digest told. tt)
  where
    begun : (group : List ℕ) → read_told (RemoteList (Sync group)) has x ≡ done → IsSome (group_of group)
    begun group e = let (g, head, there) = passed (idle_group group x) (λ _. unless NoRemote has) tt e in ap is_some (idle_group_named x group g head)

-- and there is a remote
pub has_remote : (has : Bool) (x : KeptAt) (act : Act) → family_of act ≡ Reaches → IsWellFormed act → read_told act has x ≡ done → has ≡ true
has_remote has x =
    by_read (λ act. read_told act has x ≡ done → has ≡ true) (λ group. begun group) (λ snapshot name offset named. unless_there has) (λ digest. unless_there has)
  where
    begun : (group : List ℕ) → read_told (RemoteList (Sync group)) has x ≡ done → has ≡ true
    begun group e = let (g, head, there) = passed (idle_group group x) (λ _. unless NoRemote has) tt e in unless_there has there

pub ends_fit : (act : Act) (has : Bool) (x : KeptAt) (ended : Result Reply Stop) → family_of act ≡ Reaches → IsWellFormed act → EndsBy (read_told act has x) ended → IfOk ended (λ reply. IsTrue (may_give act reply)) → MatchResult ended ReplyHasText StopHasText
    → GivesFit act ended
ends_fit act has x (Ok reply) is formed told kind text = (kind, text)
ends_fit act has x (Err (stops.Refused r)) is formed told kind text = (refuses_by has x r act is formed told, text)
ends_fit act has x (Err stops.NoMemory) is formed told kind text = tt
ends_fit act has x (Err stops.DiskFailed) is formed told kind text = tt
