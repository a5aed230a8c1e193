-- SYNCs that report a refusal; and one of a snapshot, beside a list that has it.
use Rattle.std.proofs.Common.{◌≡◌, ◌≤◌, ◌<◌, inr, ℕ, pos, Bool, true, false, cond, List, [], ◌∷◌, ◌++◌, length, Some, Ok, codes, refl, arith, nat_lt, IsTrue, Option, None, ap, ◌==◌, if◌then◌else◌}
use Rattle.std.specs.Prelude.{⊤}
use Rattle.std.specs.List.{All, fold}
use Rattle.std.specs.FinMap.{get-from_entries}
use Rattle.std.proofs.lemmas.Cmp.{nat_list_cmp_total}
use Rattle.std.proofs.lemmas.Bool.{ltb-true}
use Rattle.std.proofs.lemmas.List.Elements.{All-cons, All-nil, All-weaker}
use Rattle.std.proofs.lemmas.List.Sums.{AllPass-from_list_all}
use Rattle.store_types.specs.declared.names.Kind.TheVariants.{Host}
use Rattle.sha2.specs.Sha256.{sha256}
use Rattle.store_types.specs.declared.append.AppendEntry.{AppendEntry}
use Rattle.store_types.specs.declared.refusal.ChunkFault.TheVariants.{Other}
use Rattle.store_types.specs.declared.refusal.Refusal.TheVariants.{Damaged, NoMemory, NoRemote, RemoteFault, Unreadable, WrongState}
use Rattle.store_types.specs.declared.refusal.SessionState.TheVariants.{Idle}
use Rattle.store_types.specs.FileNames.{manifest_name}
use Rattle.store_types.specs.Names.{IsKey, group_of_key, same_group, text_cmp}
use Rattle.blob_codec.specs.Blob as blobs
use Rattle.store_files.specs.Archive.{dynamic, archive, blob, File, Snapshot, digest_of, file_text}
use Rattle.store_files.specs.Manifest.{Manifest}
use Rattle.wire_commands.specs.declared.command.Command.TheVariants.{Sync}
use Rattle.wire_commands.specs.declared.reply.Reply.{Reply}
use Rattle.wire_commands.specs.declared.reply.Reply.TheVariants.{Base, Data, Done, Keys, Part, Refused}
use Rattle.store_model.specs.AdminSteps.{group as group_here}
use Rattle.store_model.specs.Jobs.{take_more as job_takes}
use Rattle.store_model.specs.Manifests.{listing_of}
use Rattle.store_model.specs.Stands.{FitsContent, IsSnapshot, group_limit, names_content}
use Rattle.store_model.specs.Store.{store_of}
use Rattle.store_model.specs.SyncJob.{next_snapshot as job_begins, to_pull, uploads}
use Rattle.store_model.proofs.ListingLemmas.{listing_lists}
use Rattle.store_model.proofs.OnLiterals.{digests_on_literals, manifests_on_literals, store_model_on_literals}
use Rattle.store_history.specs.declared.act.Act.TheVariants.{RemoteList}
use Rattle.store_history.specs.Acts.{reaching, stepping}
use Rattle.store_history.specs.Pulling.{Course, Stock, reading_file, rejecting, SyncJob, reports, asks, blob_read, compared, file_part, file_read, file_told, finished, index_in, index_read, manifest_part, manifest_read, manifest_told, next_file, next_snapshot, sought, started, take, take_more, Index, reading_manifest, opening, reading_chunk, sending_chunk, appending, aborting, chunk_told, next_chunk, next_append, with_chunk, size_sent, blob_size, mismatched}
use Rattle.store_history.specs.Remote.{IsList, Reads, text_in}
use Rattle.job_laws.specs.Pulls.{AreToldBy, IsAlike, IsFirstRefusal, digests_sent, pull_after, replies_to_job}
use Rattle.job_laws.proofs.ByTheList.{pulls_by_the_list}
use Rattle.job_laws.proofs.FirstRefusals.{first_refusal_told}

unfoldable on_pulls : ⊤
unfolding take sought compared started manifest_told manifest_part manifest_read file_told file_part file_read index_read index_in blob_read chunk_told next_chunk next_append next_file finished next_snapshot store_model_on_literals
on_pulls = tt

abbrev host : List ℕ
host = codes "host/a"

abbrev newer : List ℕ
newer = codes "host/a/2020-01-15T12:00:00Z"

-- its manifest is empty, which is none
abbrev begun : List Reply
begun = Keys (newer ∷ []) ∷ Keys [] ∷ Base [] ∷ Part 0 [] ∷ []

abbrev name : List ℕ
name = newer ++ codes "/index.json.blob"

bad_manifest : pull_after host begun ≡ asks (rejecting name)
unfolding on_pulls
bad_manifest = refl

-- it is told behind the step that ends the writer, whatever this is replied
told_bad : pull_after host (begun ++ Done ∷ []) ≡ reports (Refused (Unreadable name))
unfolding on_pulls
told_bad = refl

told_again : pull_after host (begun ++ Refused RemoteFault ∷ Done ∷ []) ≡ reports (Refused (Unreadable name))
unfolding on_pulls
told_again = refl

told_refused : pull_after host (begun ++ Refused (WrongState Idle) ∷ []) ≡ reports (Refused (Unreadable name))
unfolding on_pulls
told_refused = refl

bad_first : IsFirstRefusal host (begun ++ Done ∷ []) (Unreadable name)
bad_first = (first_refusal_told host (begun ++ Done ∷ []) (Refused (Unreadable name)) (Unreadable name) told_bad).0 refl

-- but for want of memory
told_short : pull_after host (begun ++ Refused NoMemory ∷ Done ∷ []) ≡ reports (Refused NoMemory)
unfolding on_pulls
told_short = refl

-- of two refusals the first is told
told_first : pull_after host (Keys (newer ∷ []) ∷ Keys [] ∷ Base [] ∷ Refused RemoteFault ∷ Refused (WrongState Idle) ∷ []) ≡ reports (Refused RemoteFault)
unfolding on_pulls
told_first = refl

-- and where the SYNC may not begin, that
told_none : pull_after host (Refused NoRemote ∷ []) ≡ reports (Refused NoRemote)
unfolding on_pulls
told_none = refl

-- ---- other files that are none

abbrev course : Course
course = record { snapshot = newer; later = []; pulled = [] }

abbrev stock : Stock
stock = record { manifest = []; names = []; sent = [] }

-- one of no bytes is neither a blob nor an index
bad_blob : take (reading_file course stock (codes "a.blob") []) (Part 0 []) ≡ asks (rejecting (newer ++ codes "/a.blob"))
unfolding on_pulls
bad_blob = refl

bad_index : take (reading_file course stock (codes "a.didx") []) (Part 0 []) ≡ asks (rejecting (newer ++ codes "/a.didx"))
unfolding on_pulls
bad_index = refl

-- what is too long is not read on
long_index : take (reading_file course stock (codes "a.didx") []) (Part 41947137 (codes "abc")) ≡ asks (rejecting (newer ++ codes "/a.didx"))
unfolding on_pulls
long_index = refl

long_index_part : take (reading_file course stock (codes "a.didx") []) (Part 41947136 (codes "abc")) ≡ asks (reading_file course stock (codes "a.didx") (codes "abc"))
unfolding on_pulls
long_index_part = refl

long_manifest : take (reading_manifest course []) (Part 16777229 (codes "abc")) ≡ asks (rejecting name)
unfolding on_pulls
long_manifest = refl

-- ---- chunks of another length than the index says

abbrev abc : AppendEntry
abc = record { digest = digest_of (codes "abc"); offset = 0 }

-- an archive of one piece, of so many bytes
abbrev index : ℕ → Index
index size = record { name = codes "a.didx"; layout = dynamic; entries = abc ∷ []; size = size; csum = digest_of [] }

abbrev abc_blob : List ℕ
abc_blob = blobs.blob (codes "abc")

as_long : take (reading_chunk course stock (index 3) abc []) (Data abc_blob) ≡ asks (sending_chunk course (with_chunk abc abc_blob stock) (index 3) abc [] abc_blob)
unfolding on_pulls
as_long = refl

another_length : take (reading_chunk course stock (index 2000) abc []) (Data abc_blob) ≡ asks (aborting (Damaged (abc.digest) (Other abc.digest)))
unfolding on_pulls digests_on_literals
another_length = refl

-- of one that was sent before too
abbrev sent_abc : Stock
sent_abc = record { manifest = []; names = []; sent = (sha256 (codes "abc"), 15) ∷ [] }

kept : size_sent sent_abc abc ≡ Some 15
unfolding digests_on_literals
kept = get-from_entries {R = text_cmp} nat_list_cmp_total ((sha256 (codes "abc"), 15) ∷ []) (sha256 (codes "abc"))

abbrev walks : ℕ → Option ℕ → SyncJob
walks size k =
    elim k [
      | None ↦ asks (reading_chunk course sent_abc (index size) abc [])
      | Some n ↦ if n == blob_size (index size) abc [] then next_chunk course sent_abc (index size) [] else mismatched abc
    ]

sent_before : take (opening course sent_abc (index 3)) Done ≡ asks (appending course sent_abc (index 3) abc [])
unfolding on_pulls
sent_before = ap (walks 3) kept

another_before : take (opening course sent_abc (index 2000)) Done ≡ asks (aborting (Damaged abc.digest (Other abc.digest)))
unfolding on_pulls
another_before = ap (walks 2000) kept

-- ---- a whole SYNC, of a snapshot with its manifest alone

abbrev manifest : List ℕ
manifest = codes "{\"backup-id\":\"a\",\"backup-time\":1579069803,\"backup-type\":\"host\",\"files\":[]}"

abbrev k : List ℕ
k = codes "host/a/2020-01-15T06:30:03Z"

abbrev alone : Snapshot
alone = record {
  key = record { kind = Host; id = codes "a"; time = 1579069803 };
  files = record { name = manifest_name; content = blob manifest } ∷ [];
}

abbrev file : List ℕ
file = blobs.blob manifest

-- the group, there and here
abbrev group_told : List Reply
group_told = Keys (k ∷ []) ∷ Keys [] ∷ []

-- OPEN_WRITER, the read of the manifest, BLOB and FINISH
abbrev later_told : List Reply
later_told = Base [] ∷ Part (length file) file ∷ Done ∷ Done ∷ []

told_whole : pull_after host (group_told ++ later_told) ≡ reports (Keys (k ∷ []))
unfolding on_pulls manifests_on_literals
told_whole = refl

-- ---- a list that a remote may have

abbrev list : List Snapshot
list = alone ∷ []

abbrev listing : Manifest
listing = record { key = alone.key; files = [] }

is_listing : listing_of alone.key alone.files ≡ Ok listing
unfolding on_pulls manifests_on_literals
is_listing = refl

is_byte : ℕ → Bool
is_byte b = nat_lt b 256

are_bytes : All (λ b. b < 256) manifest
unfolding is_byte
are_bytes =
    All-weaker (λ b. is_byte b ≡ true) (λ b. b < 256) (λ b h. ltb-true b 256 h) manifest
    (AllPass-from_list_all is_byte manifest refl)

is_snapshot : IsSnapshot alone
is_snapshot = record {
  key = (refl, omega arith);
  names = refl;
  kinds = All-cons (λ (f : File). IsTrue (names_content f.content f.name)) manifest_file [] refl (All-nil (λ (f : File). IsTrue (names_content f.content f.name)));
  contents = All-cons (λ (f : File). FitsContent f.content) manifest_file [] (omega arith, are_bytes) (All-nil (λ (f : File). FitsContent f.content));
  manifest = listing_lists alone.key alone.files listing is_listing (omega arith);
  count = omega arith;
}
  where
    manifest_file : File
    manifest_file = record { name = manifest_name; content = blob manifest }

is_list : IsList list
is_list = record {
  order = refl;
  each = All-cons IsSnapshot alone [] is_snapshot (All-nil IsSnapshot);
  groups = λ g. by_group (same_group (group_of_key alone.key) g);
  clear = λ p q none. absurd (omega (arith, none.1));
}
  where
    by_group : (b : Bool) → length (cond b list []) ≤ group_limit
    by_group true = omega arith
    by_group false = omega arith

-- ---- what it is told there

abbrev begun_whole : SyncJob
begun_whole = pull_after host group_told

step_told : stepping ≡ reaching → ⊥
step_told h = cc

are_told : AreToldBy list begun_whole later_told
unfolding on_pulls manifests_on_literals text_in file_text
are_told =
    (λ step. absurd (step_told step), (λ read. inr (refl, refl), (λ step. absurd (step_told step), (λ step. absurd (step_told step), tt))))

group_there : Reads list (RemoteList (Sync host)) (Some (Keys (k ∷ [])))
unfolding on_pulls
group_there = refl

none_here : group_here (store_of []) 0 host ≡ Ok (store_of [], Keys [])
unfolding on_pulls
none_here = refl

to_come : to_pull (Some list) (store_of []) 0 host ≡ Ok list
unfolding on_pulls
to_come = refl

-- So it is the job that knows the list.
is_pulled : IsAlike (fold take_more begun_whole later_told) (fold job_takes (job_begins [] list) (replies_to_job begun_whole later_told))
is_pulled =
    pulls_by_the_list list (store_of []) 0 host list (Keys (k ∷ [])) (Keys []) later_told is_list (All-nil (λ (x : Snapshot). IsKey x.key)) to_come
    group_there none_here are_told

-- ---- what is sent: of two files of one piece this once

abbrev one_piece : List ℕ → File
one_piece name = record { name = name; content = archive (record { layout = dynamic; uuid = []; ctime = pos 0; reserved = []; pieces = codes "a" ∷ [] }) }

sent_once : digests_sent (uploads [] (one_piece (codes "a.didx") ∷ one_piece (codes "b.didx") ∷ [])) ≡ digest_of (codes "a") ∷ []
unfolding on_pulls digests_on_literals
sent_once = refl
