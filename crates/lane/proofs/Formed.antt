-- What holds of a SYNC at each point.
use Rattle.std.proofs.Common.{◌≡◌, ◌≤◌, ◌+◌, ◌^◌, ◌⊎◌, inl, inr, ℕ, suc, Bool, true, false, List, [], ◌∷◌, ◌++◌, length, filter, drop, nat_le, nat_lt, Option, Some, None, Result, Ok, Err, IsTrue, if◌then◌else◌, refl, ap, subst, arith, ◌==◌}
use Rattle.std.specs.List.{All}
use Rattle.std.proofs.lemmas.Bool.{leb-true}
use Rattle.std.proofs.lemmas.List.{length-map}
use Rattle.std.proofs.lemmas.List.Elements.{All-cons, All-filter, All-head, All-nil, All-tail}
use Rattle.store_types.specs.declared.append.AppendEntry.{AppendEntry}
use Rattle.store_types.specs.declared.refusal.Refusal.{Refusal}
use Rattle.store_types.specs.declared.refusal.Refusal.TheVariants.{NoMemory, RemoteFault, DiskFault, Halted}
use Rattle.store_types.specs.FileNames.{manifest_name, is_fixed_name}
use Rattle.blob_codec.specs.Blob.{data_of, blob_limit}
use Rattle.store_files.specs.FixedIndex.{FixedIndex, fixed_of}
use Rattle.store_files.specs.DynamicIndex.{DynamicIndex, Ended, dynamic_of}
use Rattle.store_files.specs.Manifest.{Manifest}
use Rattle.store_files.specs.declared.causes.IndexFault.{IndexFault}
use Rattle.dynamic_index.proofs.Reading.{dynamic_of-fits}
use Rattle.fixed_index.proofs.Reading.{fixed_of-fits}
use Rattle.wire_commands.specs.declared.command.Command.TheVariants as commands
use Rattle.wire_commands.specs.declared.reply.Reply.{Reply}
use Rattle.wire_commands.specs.declared.reply.Reply.TheVariants as replies
use Rattle.store_model.specs.Load.{read_manifest}
use Rattle.store_history.specs.declared.act.Act.{Act}
use Rattle.store_history.specs.declared.act.Act.TheVariants as acts
use Rattle.store_model.specs.SizeLimits.{size_limit}
use Rattle.store_history.specs.Pulling.{Pulling, seeking, comparing, starting, reading_manifest, reading_file, opening, reading_chunk, sending_chunk, appending, closing_index, sending_blob, sending_manifest, finishing, rejecting, aborting, SyncJob, reports, asks, Course, Stock, Index, act_of, is_key, is_later, newest_in, next_snapshot, finished, stops, ends, rejected, rejects, next_append, next_chunk, fixed_as, dynamic_as, fixed_entries, dynamic_entries, fixed_in, dynamic_in, index_in, is_index, index_read, blob_read, file_read, next_file, stock_of, manifest_read, batch, sought, compared, started, manifest_part, file_part, manifest_told, file_told, chunk_told, goes_on, take, size_sent, blob_size, mismatched, with_chunk}
use Rattle.store_history.specs.Replies.{may_answer, may_give}
use Rattle.lane.specs.declared.acts.Told.{Told}
use Rattle.lane.specs.Acting.{IsRefused, MayTell}
use Rattle.lane.specs.Pulling.{HasKeys, IsFew, IsFormed}
use Rattle.lane.specs.Tasks.{pulls, pull_stage, IsActOf, IsSound}

false_true : false ≡ true → ⊥
false_true e = cc

-- ---- behind its first step

-- it asks neither of the two that come first
abbrev pub IsOn : SyncJob → Type 0
IsOn (reports report) = Unit {0}
IsOn (asks (seeking group)) = ⊥
IsOn (asks (comparing group remote)) = ⊥
IsOn (asks x) = IsFormed x

pub on_sound : (job : SyncJob) → IsOn job → IsSound (pull_stage job)
on_sound (reports report) on = tt
on_sound (asks (seeking group)) on = absurd on
on_sound (asks (comparing group remote)) on = absurd on
on_sound (asks x) on = on

AreKeys : List (List ℕ) → Type 0
AreKeys xs = All (λ text. is_key text ≡ true) xs

-- ---- the ends

pub stops_on : (refusal : Refusal) → IsOn (stops refusal)
stops_on DiskFault = tt
stops_on (Halted place) = tt
stops_on refusal = tt

ends_on : (first : Refusal) (r : Reply) → IsOn (ends first r)
ends_on first (replies.Refused NoMemory) = tt
ends_on first (replies.Refused RemoteFault) = tt
ends_on first r = tt

rejected_on : (path : List ℕ) (r : Reply) → IsOn (rejected path r)
rejected_on path (replies.Refused NoMemory) = tt
rejected_on path (replies.Refused RemoteFault) = tt
rejected_on path r = tt

goes_on_on : (r : Reply) (job : SyncJob) → IsOn job → IsOn (goes_on r job)
goes_on_on (replies.Refused refusal) job on = stops_on refusal
goes_on_on r job on = on

-- ---- from snapshot to snapshot

snapshot_on : (pulled xs : List (List ℕ)) → AreKeys xs → IsOn (next_snapshot pulled xs)
unfolding next_snapshot AreKeys
snapshot_on pulled [] keys = tt
snapshot_on pulled (x ∷ xs) keys = (All-head (λ text. is_key text ≡ true) x xs keys, All-tail (λ text. is_key text ≡ true) x xs keys)

keys_kept : (xs : List (List ℕ)) → AreKeys (filter is_key xs)
unfolding AreKeys
keys_kept [] = All-nil (λ text. is_key text ≡ true)
keys_kept (x ∷ xs) = by_test (is_key x) refl (keys_kept xs)
  where
    by_test : (b : Bool) → is_key x ≡ b → All (λ text. is_key text ≡ true) (filter is_key xs)
        → All (λ text. is_key text ≡ true) (if b then x ∷ filter is_key xs else filter is_key xs)
    by_test true is rest = All-cons (λ text. is_key text ≡ true) x (filter is_key xs) is rest
    by_test false is rest = rest

pub filter_few : {A : Type 0} (p : A → Bool) (xs : List A) → length (filter p xs) ≤ length xs
filter_few p [] = omega arith
filter_few {A} p (x ∷ xs) = by_test (p x) (filter_few p xs)
  where
    by_test : (b : Bool) → length (filter p xs) ≤ length xs → length (if b then x ∷ filter p xs else filter p xs) ≤ length (x ∷ xs)
    by_test true few = omega (arith, few)
    by_test false few = omega (arith, few)

compared_on : (remote : List (List ℕ)) (r : Reply) → AreKeys remote → IsOn (compared remote r)
unfolding compared AreKeys
compared_on remote (replies.Keys here) keys =
    snapshot_on [] (filter (is_later (newest_in here)) remote) (All-filter (is_later (newest_in here)) (λ text. is_key text ≡ true) remote keys)
compared_on remote r keys = tt

started_on : (c : Course) (r : Reply) → HasKeys c → IsOn (started c r)
unfolding started
started_on c (replies.Base snapshot) keys = keys
started_on c r keys = tt

-- ---- an index

append_on : (c : Course) (s : Stock) (x : Index) (es : List AppendEntry) → HasKeys c → IsFew s → IsOn (next_append c s x es)
unfolding next_append
append_on c s x [] keys few = (keys, few)
append_on c s x (e ∷ es) keys few = (keys, few)

chunk_on : (c : Course) (s : Stock) (x : Index) (es : List AppendEntry) → HasKeys c → IsFew s → length x.entries ≤ 2 ^ 20 → length es ≤ length x.entries → IsOn (next_chunk c s x es)
unfolding next_chunk
chunk_on c s x [] keys few most within = append_on c s x x.entries keys few
chunk_on c s x (e ∷ es) keys few most within = from_state (size_sent s e) (chunk_on c s x es keys few most (omega (arith, within)))
  where
    by_size : (b : Bool) → IsOn (next_chunk c s x es) → IsOn (if b then next_chunk c s x es else mismatched e)
    by_size true on = on
    by_size false on = tt

    from_state : (k : Option ℕ) → IsOn (next_chunk c s x es)
        → IsOn (elim k [ None ↦ asks (reading_chunk c s x e es) | Some size ↦ if size == blob_size x e es then next_chunk c s x es else mismatched e ])
    from_state None on = (keys, few, most, omega (arith, within))
    from_state (Some size) on = by_size (size == blob_size x e es) on

fixed_length : (size offset : ℕ) (ds : List (List ℕ)) → length (fixed_entries size offset ds) ≡ length ds
fixed_length size offset [] = refl
fixed_length size offset (d ∷ ds) = ap suc (fixed_length size (offset + size) ds)

dynamic_length : (start : ℕ) (es : List Ended) → length (dynamic_entries start es) ≡ length es
dynamic_length start [] = refl
dynamic_length start (e ∷ es) = ap suc (dynamic_length e.end es)

-- an index that was read has not too many entries
abbrev pub IsFewIndex : Option Index → Type 0
IsFewIndex None = Unit {0}
IsFewIndex (Some x) = length x.entries ≤ 2 ^ 20

fixed_few : (name bytes : List ℕ) → IsFewIndex (fixed_in name bytes)
fixed_few name bytes = by_index (fixed_of bytes) refl
  where
    by_index : (o : Result FixedIndex IndexFault) → fixed_of bytes ≡ o → IsFewIndex (elim o [ Ok x ↦ Some (fixed_as name x) | Err cause ↦ None ])
    by_index (Err cause) is = tt
    by_index (Ok x) is = let few = (fixed_of-fits bytes x is).limit in let same = fixed_length x.chunk_size 0 x.digests in omega (arith, few, same)

dynamic_few : (name bytes : List ℕ) → IsFewIndex (dynamic_in name bytes)
dynamic_few name bytes = by_index (dynamic_of bytes) refl
  where
    by_index : (o : Result DynamicIndex IndexFault) → dynamic_of bytes ≡ o → IsFewIndex (elim o [ Ok x ↦ Some (dynamic_as name x) | Err cause ↦ None ])
    by_index (Err cause) is = tt
    by_index (Ok x) is = let few = (dynamic_of-fits bytes x is).0 in let same = dynamic_length 0 x.entries in omega (arith, few, same)

pub index_few : (name bytes : List ℕ) → IsFewIndex (index_in name bytes)
unfolding index_in
index_few name bytes = by_name (is_fixed_name name)
  where
    by_name : (b : Bool) → IsFewIndex (if b then fixed_in name bytes else dynamic_in name bytes)
    by_name true = fixed_few name bytes
    by_name false = dynamic_few name bytes

index_on : (c : Course) (s : Stock) (name : List ℕ) (o : Option Index) → HasKeys c → IsFew s → IsFewIndex o → IsOn (index_read c s name o)
unfolding index_read
index_on c s name None keys few most = tt
index_on c s name (Some x) keys few most = (keys, few, most)

-- ---- a whole file

blob_on : (c : Course) (s : Stock) (name bytes : List ℕ) → HasKeys c → IsFew s → IsOn (blob_read c s name bytes)
unfolding blob_read
blob_on c s name bytes keys few = by_blob (data_of bytes)
  where
    by_blob : {E : Type 0} (o : Result (List ℕ) E) → IsOn (elim o [ Ok contents ↦ asks (sending_blob c s name bytes) | Err cause ↦ rejects c name ])
    by_blob (Ok contents) = (keys, few)
    by_blob (Err cause) = tt

file_on : (c : Course) (s : Stock) (name bytes : List ℕ) → HasKeys c → IsFew s → IsOn (file_read c s name bytes)
unfolding file_read
file_on c s name bytes keys few = by_name (is_index name)
  where
    by_name : (b : Bool) → IsOn (if b then index_read c s name (index_in name bytes) else blob_read c s name bytes)
    by_name true = index_on c s name (index_in name bytes) keys few (index_few name bytes)
    by_name false = blob_on c s name bytes keys few

next_on : (c : Course) (s : Stock) → HasKeys c → IsFew s → IsOn (next_file c s)
unfolding next_file
next_on c s keys few = by_names s.names few
  where
    by_names : (ns : List (List ℕ)) → length ns ≤ 63
        → IsOn (elim ns [ [] ↦ asks (sending_manifest c s) | name ∷ names ↦ asks (reading_file c (record s { names = names }) name []) ])
    by_names [] h = keys
    by_names (name ∷ names) h = (keys, omega (arith, h))

manifest_on : (c : Course) (bytes : List ℕ) (o : Option Manifest) → HasKeys c → IsOn (manifest_read c bytes o)
unfolding manifest_read
manifest_on c bytes None keys = tt
manifest_on c bytes (Some m) keys = by_test (nat_le (length m.files) 63) refl
  where
    by_test : (b : Bool) → nat_le (length m.files) 63 ≡ b → IsOn (if b then next_file c (stock_of bytes m) else rejects c manifest_name)
    by_test true is =
        let few = leb-true (length m.files) 63 is in
        let same = length-map m.files (λ f. f.name) in
        next_on c (stock_of bytes m) keys (omega (arith, few, same))
    by_test false is = tt

manifest_part_on : (c : Course) (bytes : List ℕ) (total : ℕ) → HasKeys c → IsOn (manifest_part c bytes total)
unfolding manifest_part
manifest_part_on c bytes total keys = by_tests (nat_lt blob_limit total) (nat_lt (length bytes) total)
  where
    by_tests : (long more : Bool) → IsOn (if long then rejects c manifest_name else if more then asks (reading_manifest c bytes) else manifest_read c bytes (read_manifest bytes))
    by_tests true more = tt
    by_tests false true = keys
    by_tests false false = manifest_on c bytes (read_manifest bytes) keys

file_part_on : (c : Course) (s : Stock) (name bytes : List ℕ) (total : ℕ) → HasKeys c → IsFew s → IsOn (file_part c s name bytes total)
unfolding file_part
file_part_on c s name bytes total keys few = by_tests (nat_lt (size_limit name) total) (nat_lt (length bytes) total)
  where
    by_tests : (long more : Bool) → IsOn (if long then rejects c name else if more then asks (reading_file c s name bytes) else file_read c s name bytes)
    by_tests true more = tt
    by_tests false true = (keys, few)
    by_tests false false = file_on c s name bytes keys few

manifest_told_on : (c : Course) (bytes : List ℕ) (r : Reply) → HasKeys c → IsOn (manifest_told c bytes r)
unfolding manifest_told
manifest_told_on c bytes (replies.Part total more) keys = manifest_part_on c (bytes ++ more) total keys
manifest_told_on c bytes (replies.Refused refusal) keys = stops_on refusal
manifest_told_on c bytes r keys = tt

file_told_on : (c : Course) (s : Stock) (name bytes : List ℕ) (r : Reply) → HasKeys c → IsFew s → IsOn (file_told c s name bytes r)
unfolding file_told
file_told_on c s name bytes (replies.Part total more) keys few = file_part_on c s name (bytes ++ more) total keys few
file_told_on c s name bytes (replies.Refused refusal) keys few = stops_on refusal
file_told_on c s name bytes r keys few = tt

chunk_told_on : (c : Course) (s : Stock) (x : Index) (e : AppendEntry) (later : List AppendEntry) (r : Reply) → IsFormed (reading_chunk c s x e later) → IsOn (chunk_told c s x e later r)
unfolding chunk_told
chunk_told_on c s x e later (replies.Data blob) formed = by_size (length blob == blob_size x e later)
  where
    by_size : (b : Bool) → IsOn (if b then asks (sending_chunk c (with_chunk e blob s) x e later blob) else mismatched e)
    by_size true = formed
    by_size false = tt
chunk_told_on c s x e later (replies.Refused refusal) formed = stops_on refusal
chunk_told_on c s x e later r formed = tt

-- ---- each reply

-- its first step is behind it
abbrev pub IsOpen : Pulling → Type 0
IsOpen (seeking group) = ⊥
IsOpen x = Unit {0}

pub take_on : (x : Pulling) (r : Reply) → IsOpen x → IsFormed x → IsOn (take x r)
unfolding take finished AreKeys
take_on (seeking group) r begun formed = absurd begun
take_on (comparing group remote) r begun formed = compared_on remote r formed.1
take_on (starting c) r begun formed = started_on c r formed
take_on (reading_manifest c bytes) r begun formed = manifest_told_on c bytes r formed
take_on (reading_file c s name bytes) r begun formed = file_told_on c s name bytes r formed.0 formed.1
take_on (opening c s x) r begun formed =
    goes_on_on r (next_chunk c s x x.entries) (chunk_on c s x x.entries formed.0 formed.1 formed.2 (omega arith))
take_on (reading_chunk c s x e later) r begun formed = chunk_told_on c s x e later r formed
take_on (sending_chunk c s x e later blob) r begun formed =
    let within = formed.3 in
    goes_on_on r (next_chunk c s x later) (chunk_on c s x later formed.0 formed.1 formed.2 (omega (arith, within)))
take_on (appending c s x e later) r begun formed = goes_on_on r (next_append c s x (drop batch (e ∷ later))) (append_on c s x (drop batch (e ∷ later)) formed.0 formed.1)
take_on (closing_index c s x) r begun formed = goes_on_on r (next_file c s) (next_on c s formed.0 formed.1)
take_on (sending_blob c s name bytes) r begun formed = goes_on_on r (next_file c s) (next_on c s formed.0 formed.1)
take_on (sending_manifest c s) r begun formed = goes_on_on r (asks (finishing c)) formed
take_on (finishing c) r begun formed = goes_on_on r (finished c) (snapshot_on (c.pulled ++ c.snapshot ∷ []) c.later formed.1)
take_on (rejecting path) r begun formed = rejected_on path r
take_on (aborting first) r begun formed = ends_on first r

-- ---- what its reads give

module _ (a act : Act) (told : Told) (of : (act ≡ a) ⊎ (act ≡ acts.Short)) (tells : MayTell act told) where
  -- where the tests of such a read give no such reply
  pub given : (r : Reply) → told.reply ≡ r → (IsTrue (may_answer a r) → ⊥) → (IsRefused r → ⊥) → IsTrue (may_give a r)
  given r says none ok = by of (subst (λ r. IsTrue (may_answer act r) ⊎ (IsTrue (may_give act r) ⊎ IsRefused r)) says tells.reply_is)
    where
      short_none : IsTrue (may_answer acts.Short r) → ⊥
      short_none h = false_true h

      short_gives : IsTrue (may_give acts.Short r) → ⊥
      short_gives h = false_true h

      by : (act ≡ a) ⊎ (act ≡ acts.Short) → IsTrue (may_answer act r) ⊎ (IsTrue (may_give act r) ⊎ IsRefused r) → IsTrue (may_give a r)
      by (inl is) (inl may) = absurd (none (subst (λ b. IsTrue (may_answer b r)) is may))
      by (inl is) (inr (inl may)) = subst (λ b. IsTrue (may_give b r)) is may
      by (inr is) (inl may) = absurd (short_none (subst (λ b. IsTrue (may_answer b r)) is may))
      by (inr is) (inr (inl may)) = absurd (short_gives (subst (λ b. IsTrue (may_give b r)) is may))
      by h (inr (inr refused)) = absurd (ok refused)

pub of_either : (x : Pulling) (act : Act) → IsActOf (pulls x) act → (act ≡ act_of x) ⊎ (act ≡ acts.Short)
of_either x act (inl is) = inl is
of_either x act (inr is) = inr is.0

sought_sound : (group : List ℕ) (act : Act) (told : Told) → IsActOf (pulls (seeking group)) act → MayTell act told → (r : Reply) → told.reply ≡ r → IsSound (pull_stage (sought group r))
unfolding sought AreKeys
sought_sound group act told of tells (replies.Keys remote) says =
    let may = given (acts.RemoteList (commands.Sync group)) act told (of_either (seeking group) act of) tells (replies.Keys remote) says (λ h. false_true h) (λ h. h) in
    let few = leb-true (length remote) 4096 may in
    let less = filter_few is_key remote in
    (omega (arith, few, less), keys_kept remote)
sought_sound group act told of tells r says = tt

pub take_sound : (x : Pulling) (act : Act) (told : Told) → IsActOf (pulls x) act → MayTell act told → IsFormed x → IsSound (pull_stage (take x told.reply))
unfolding take
take_sound (seeking group) act told of tells formed = sought_sound group act told of tells told.reply refl
take_sound x act told of tells formed = on_sound (take x told.reply) (take_on x told.reply tt formed)
