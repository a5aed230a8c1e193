-- What `weave` has for a SYNC that reads the remote: each of its states stands for one of the job that knows the remote's list.
use Rattle.std.proofs.Common.{◌≡◌, ℕ, zero, suc, ◌+◌, ◌≤◌, Bool, true, false, List, [], ◌∷◌, ◌++◌, map, length, Option, Some, Ok, Err, Result, refl, sym, ap, subst, ◌∙◌, arith, take as take_first, drop, nat_lt, if◌then◌else◌, is_some, IsTrue, IfSome, None, ◌==◌}
use Rattle.std.specs.List.{All, Contains, concat, flat_map}
use Rattle.std.proofs.lemmas.Bool.{eq-eqb, le-leb, le-ltb, ltb-false}
use Rattle.std.proofs.lemmas.List.{append_assoc, append-nil, take-append-drop, length-append, length-drop}
use Rattle.std.proofs.lemmas.List.Elements.{All-contains, All-contains_itself, All-head, All-tail}
use Rattle.std.proofs.Math.Seq.{drop-append_seam}
use Rattle.std.specs.FinMap.{get, get-from_entries}
use Rattle.std.proofs.lemmas.Cmp.{nat_list_cmp_total}
use Rattle.sha2.specs.Sha256.{sha256}
use Rattle.store_types.specs.declared.append.AppendEntry.{AppendEntry}
use Rattle.store_types.specs.declared.refusal.Refusal.{Refusal}
use Rattle.store_types.specs.declared.refusal.Refusal.TheVariants.{BadRange, DiskFault, Halted, NoMemory, RemoteFault}
use Rattle.store_types.specs.declared.refusal.BadBlob.{BadBlob}
use Rattle.store_types.specs.FileNames.{manifest_name}
use Rattle.store_types.specs.Names.{key_text, text_cmp}
use Rattle.blob_codec.specs.Blob.{blob_limit}
use Rattle.blob_codec.specs.Blob as blobs
use Rattle.blob_codec.proofs.RoundTrips.{data_of-blob}
use Rattle.store_files.specs.Archive.{Archive, Content, archive, blob, File, Snapshot, digest_of, size_of, csum_of, file_named, file_text}
use Rattle.wire_commands.specs.declared.command.Command.{Command}
use Rattle.wire_commands.specs.declared.command.Command.TheVariants.{Append, Blob, Chunk, CloseIndex, Finish}
use Rattle.wire_commands.specs.declared.reply.Reply.{Reply}
use Rattle.wire_commands.specs.declared.reply.Reply.TheVariants.{Base, Data, Part, Refused}
use Rattle.wire_commands.specs.declared.command.Command.TheVariants as commands
use Rattle.store_files.specs.Manifest.{Manifest}
use Rattle.store_model.specs.Load.{read_manifest}
use Rattle.store_model.specs.SizeLimits.{size_limit}
use Rattle.store_model.specs.Stands.{FitsContent, IsSnapshot, names_content, pieces_in}
use Rattle.store_model.specs.WriterSteps.{part_limit, part_of}
use Rattle.store_model.specs.Job.{Pull, Asking, beginning, sending, aborting as job_aborting, step_of, Job, over, asking, stopped}
use Rattle.store_model.specs.Jobs.{take as job_take}
use Rattle.store_model.specs.SyncJob.{unsent, entries_from, appends, new_index, uploads, listed_files, text_of, commands_of, next_snapshot as job_next_snapshot, next_command, begun, replied}
use Rattle.store_history.specs.Pulling.{Course, Stock, Index, Pulling, seeking, comparing, starting, reading_manifest, reading_file, opening, reading_chunk, sending_chunk, appending, closing_index, sending_blob, sending_manifest, finishing, rejecting, aborting, SyncJob, reports, asks, act_of, stops, goes_on, ends, take, next_snapshot, finished, next_append, next_chunk, next_file, with_chunk, stock_of, started, manifest_told, file_told, chunk_told, manifest_part, file_part, manifest_read, file_read, index_read, blob_read, index_in, rejects, sent_in, end_before, blob_size, mismatched}
use Rattle.store_history.specs.Acts.{Class, stepping, reaching, class_of, act_of_command, act_of_step}
use Rattle.store_history.specs.Remote.{IsList, part_told, piece_in, Reads, text_in}
use Rattle.store_history.proofs.Events.{command_class}
use Rattle.store_history.proofs.Listed.{few, files_listed, manifest, manifest_here, manifest_read as manifest_told_as, manifest_short, names_listed, piece_here, piece_there, text_here}
use Rattle.store_history.proofs.Indexes.{IsIndexOf, archive_read, blob_apart}
use Rattle.store_history.proofs.SizeLimits.{file_short}
use Rattle.store_history.proofs.Sending.{Alike, HasSizes, sizes_sent, IsBehind, all_behind, behind_known, behind_sent, known, known_sent, uploads_same, was}

-- ---- the commands to come

abbrev pub manifest_text : Snapshot → List ℕ
manifest_text x = text_of (file_named manifest_name x.files)

abbrev pub last_of : Snapshot → List Command
last_of x = Blob manifest_name (manifest_text x) ∷ Finish ∷ []

abbrev pub files_from : List (List ℕ) → List File → Snapshot → List Command
files_from sent fs x = uploads sent fs ++ last_of x

-- behind the APPENDs of an archive, and behind its chunks
abbrev pub behind_appends : Archive → List (List ℕ) → List File → Snapshot → List Command
behind_appends a after fs x = CloseIndex 0 (length a.pieces) (size_of (archive a)) (csum_of (archive a)) ∷ files_from after fs x

abbrev pub behind_chunks : Archive → List (List ℕ) → List File → Snapshot → List Command
behind_chunks a after fs x = appends (length a.pieces) (entries_from 0 a.pieces) ++ behind_appends a after fs x

abbrev pub chunks_from : List (List ℕ) → List (List ℕ) → List Command → List Command
chunks_from sent ps later = map (λ p. Chunk (digest_of p) (blobs.blob p)) (unsent sent ps) ++ later

abbrev pub archive_from : List (List ℕ) → List ℕ → Archive → List File → Snapshot → List Command
archive_from sent name a fs x = new_index a.layout name ∷ chunks_from sent a.pieces (behind_chunks a (a.pieces ++ sent) fs x)

-- those of an archive, and then of the files behind it
pub archive_first : (sent : List (List ℕ)) (name : List ℕ) (a : Archive) (fs : List File) (x : Snapshot)
    → files_from sent ((let f : File = record { name = name; content = archive a } in f) ∷ fs) x ≡ archive_from sent name a fs x
unfolding uploads Rattle.store_model.specs.SyncJob.file_commands
archive_first sent name a fs x =
    let chunks = map (λ p. Chunk (digest_of p) (blobs.blob p)) (unsent sent a.pieces) in
    let sends = appends (length a.pieces) (entries_from 0 a.pieces) in
    let close = CloseIndex 0 (length a.pieces) (size_of (archive a)) (csum_of (archive a)) in
    let later = uploads (a.pieces ++ sent) fs in
    ap (λ l. new_index a.layout name ∷ l) (
    append_assoc (chunks ++ sends ++ close ∷ []) later (last_of x)
    ∙ append_assoc (chunks ++ sends) (close ∷ []) (later ++ last_of x)
    ∙ append_assoc chunks sends ((close ∷ []) ++ (later ++ last_of x))
    )

-- ---- what the states know

abbrev pub texts_of : List Snapshot → List (List ℕ)
texts_of xs = map (λ x. key_text x.key) xs

-- a snapshot of the list is pulled, before others of it
pub record IsCourse (L : List Snapshot) (c : Course) (p : Pull) : Type 0 where
  pub there : Contains L p.snapshot
  pub others : All (Contains L) p.later
  pub snapshot : c.snapshot ≡ key_text (p.snapshot).key
  pub later : c.later ≡ texts_of p.later
  pub pulled : c.pulled ≡ p.pulled

-- these files of it are to come, and these pieces were sent
pub record IsStock (L : List Snapshot) (x : Snapshot) (s : Stock) (fs : List File) (sent : List (List ℕ)) : Type 0 where
  pub manifest : s.manifest ≡ manifest_text x
  pub names : s.names ≡ map (λ f. f.name) fs
  pub files : All (Contains x.files) fs
  pub are_sent : Alike (known s) (was sent)
  pub sizes : HasSizes (flat_map pieces_in L) s

pub record AtFiles (L : List Snapshot) (c : Course) (s : Stock) : Type 0 where
  pub pull : Pull
  pub files : List File
  pub sent : List (List ℕ)
  pub course : IsCourse L c pull
  pub stock : IsStock L pull.snapshot s files sent

-- and of this archive's pieces the last are to come
pub record AtIndex (L : List Snapshot) (c : Course) (s : Stock) (i : Index) : Type 0 where
  pub pull : Pull
  pub name : List ℕ
  pub from : Archive
  pub files : List File
  -- those that were sent, and those that will have been
  pub sent : List (List ℕ)
  pub after : List (List ℕ)
  pub to_come : List (List ℕ)
  pub course : IsCourse L c pull
  pub stock : IsStock L pull.snapshot s files sent
  pub index : IsIndexOf i name from
  pub file : Contains (pull.snapshot).files (let f : File = record { name = name; content = archive from } in f)
  pub pieces : All (Contains from.pieces) to_come

-- the pieces to come begin at this offset of the archive
abbrev pub BeginAt : Index → ℕ → List (List ℕ) → Type 0
BeginAt i o ps = i.size ≡ o + length (concat ps)

-- the bytes are the first of the text
abbrev pub IsPart : List ℕ → List ℕ → Type 0
IsPart bytes text = (rest : List ℕ) × (bytes ++ rest ≡ text)

-- the job's commands are these, from the one that it asks on
abbrev pub Sends : Pull → List Command → Asking → Type 0
Sends p cs j = next_command p cs ≡ asking j

-- the state stands for the job
abbrev pub Shows : List Snapshot → Pulling → Asking → Type 0
Shows L (starting c) j = (p : Pull) × IsCourse L c p × (j ≡ beginning p)
Shows L (reading_manifest c bytes) j = (p : Pull) × IsCourse L c p × IsPart bytes (manifest_text p.snapshot) × Sends p (commands_of p.snapshot) j
Shows L (reading_file c s name bytes) j =
    (a : AtFiles L c s) × (f : File) × Contains ((a.pull).snapshot).files f × (name ≡ f.name) × IsPart bytes (file_text f.content)
    × Sends a.pull (files_from a.sent (f ∷ a.files) (a.pull).snapshot) j
Shows L (opening c s i) j =
    (a : AtIndex L c s i) × (a.to_come ≡ (a.from).pieces) × IsBehind a.to_come a.sent a.after
    × Sends a.pull (new_index (a.from).layout a.name ∷ chunks_from a.sent a.to_come (behind_chunks a.from a.after a.files (a.pull).snapshot)) j
Shows L (reading_chunk c s i e later) j =
    (a : AtIndex L c s i) × (p : List ℕ) × (o : ℕ) × Contains (a.from).pieces p × (e.digest ≡ digest_of p) × (later ≡ entries_from o a.to_come)
    × IsBehind (p ∷ a.to_come) a.sent a.after
    × Sends a.pull (Chunk (digest_of p) (blobs.blob p) ∷ chunks_from (p ∷ a.sent) a.to_come (behind_chunks a.from a.after a.files (a.pull).snapshot)) j
    × (o ≡ e.offset + length p) × BeginAt i o a.to_come
Shows L (sending_chunk c s i e later bytes) j =
    (a : AtIndex L c s i) × (o : ℕ) × (later ≡ entries_from o a.to_come) × IsBehind a.to_come a.sent a.after
    × Sends a.pull (Chunk e.digest bytes ∷ chunks_from a.sent a.to_come (behind_chunks a.from a.after a.files (a.pull).snapshot)) j
    × BeginAt i o a.to_come
Shows L (appending c s i e later) j =
    (a : AtIndex L c s i) × (n : ℕ) × (length later ≤ n) × Alike (was a.after) (was a.sent)
    × Sends a.pull (Append 0 (take_first 4096 (e ∷ later)) ∷ appends n (drop 4096 (e ∷ later)) ++ behind_appends a.from a.after a.files (a.pull).snapshot) j
Shows L (closing_index c s i) j =
    (a : AtIndex L c s i) × Alike (was a.after) (was a.sent) × Sends a.pull (behind_appends a.from a.after a.files (a.pull).snapshot) j
Shows L (sending_blob c s name bytes) j =
    (a : AtFiles L c s) × Sends a.pull (Blob name bytes ∷ files_from a.sent a.files (a.pull).snapshot) j
Shows L (sending_manifest c s) j = (a : AtFiles L c s) × Sends a.pull (last_of (a.pull).snapshot) j
Shows L (finishing c) j = (p : Pull) × IsCourse L c p × Sends p (Finish ∷ []) j
Shows L (aborting first) j = j ≡ job_aborting (Refused first)
Shows L x j = ⊥

-- both go on, or report the same
abbrev pub ShowsJob : List Snapshot → SyncJob → Job → Type 0
ShowsJob L (reports r) job = job ≡ over r
ShowsJob L (asks x) job = (j : Asking) × (job ≡ asking j) × Shows L x j

-- ---- refusals

shows_stopped : (L : List Snapshot) (z : Refusal) → ShowsJob L (stops z) (stopped job_aborting z)
shows_stopped L DiskFault = refl
shows_stopped L (Halted place) = refl
shows_stopped L z = (job_aborting (Refused z), refl, refl)

-- behind a command that was replied both go on alike
shows_replied : (L : List Snapshot) (p : Pull) (later : List Command) (next : SyncJob) (r : Reply)
    → ShowsJob L next (next_command p later) → ShowsJob L (goes_on r next) (replied p later r)
unfolding replied
shows_replied L p later next (Refused z) h = shows_stopped L z
shows_replied L p later next r h = h

sent_is : (p : Pull) (c : Command) (cs : List Command) (j : Asking) → Sends p (c ∷ cs) j → j ≡ sending p c cs
unfolding next_command
sent_is p c cs j h = cc

-- the job that asks this command takes its reply
shows_taken : (L : List Snapshot) (p : Pull) (c : Command) (cs : List Command) (j : Asking) (next : SyncJob) (r : Reply)
    → Sends p (c ∷ cs) j → ShowsJob L next (next_command p cs) → ShowsJob L (goes_on r next) (job_take j r)
unfolding job_take
shows_taken L p c cs j next r asked h =
    subst (λ y. ShowsJob L (goes_on r next) (job_take y r)) (sym (sent_is p c cs j asked)) (shows_replied L p cs next r h)

-- ---- what comes next

-- of commands with one among them the first is asked
asks_one : (p : Pull) (cs : List Command) (c : Command) (ds : List Command) → (j : Asking) × Sends p (cs ++ c ∷ ds) j
unfolding next_command
asks_one p [] c ds = (sending p c ds, refl)
asks_one p (d ∷ cs) c ds = (sending p d (cs ++ c ∷ ds), refl)

pub shows_snapshots : (L : List Snapshot) (pulled : List (List ℕ)) (xs : List Snapshot) → All (Contains L) xs
    → ShowsJob L (next_snapshot pulled (texts_of xs)) (job_next_snapshot pulled xs)
unfolding next_snapshot job_next_snapshot
shows_snapshots L pulled [] there = refl
shows_snapshots L pulled (x ∷ xs) there =
    let p : Pull = record { snapshot = x; later = xs; pulled = pulled } in (
      beginning p,
      refl,
      (p, record { there = All-head (Contains L) x xs there; others = All-tail (Contains L) x xs there; snapshot = refl; later = refl; pulled = refl }, refl),
    )

module _ (L : List Snapshot) (c : Course) (s : Stock) where
  shows_files : (p : Pull) (fs : List File) (sent : List (List ℕ)) → IsCourse L c p → IsStock L p.snapshot s fs sent
      → ShowsJob L (next_file c s) (next_command p (files_from sent fs p.snapshot))
  unfolding next_file next_command uploads
  shows_files p [] sent course stock =
      let at : AtFiles L c s = record { pull = p; files = []; sent = sent; course = course; stock = stock } in
      subst (λ (names : List (List ℕ)). ShowsJob L (elim names [ [] ↦ asks (sending_manifest c s) | name ∷ later ↦ asks (reading_file c (record s { names = later }) name []) ]) (next_command p (last_of p.snapshot)))
      (sym stock.names) (sending p (Blob manifest_name (manifest_text p.snapshot)) (Finish ∷ []), refl, (at, refl))
  shows_files p (f ∷ fs) sent course stock =
      let s' : Stock = record s { names = map (λ g. g.name) fs } in
      let at : AtFiles L c s' = record {
        pull = p;
        files = fs;
        sent = sent;
        course = course;
        stock = record { manifest = stock.manifest; names = refl; files = All-tail (Contains (p.snapshot).files) f fs stock.files; are_sent = stock.are_sent; sizes = stock.sizes };
      } in
      let first = asks_one p (uploads sent (f ∷ fs)) (Blob manifest_name (manifest_text p.snapshot)) (Finish ∷ []) in
      subst (λ (names : List (List ℕ)). ShowsJob L (elim names [ [] ↦ asks (sending_manifest c s) | name ∷ later ↦ asks (reading_file c (record s { names = later }) name []) ]) (next_command p (files_from sent (f ∷ fs) p.snapshot)))
      (sym stock.names)
      (first.0, first.1, (at, f, All-head (Contains (p.snapshot).files) f fs stock.files, refl, (file_text f.content, refl), first.1))

begins_first : (size : ℕ) (bytes : List ℕ) → size ≡ length bytes → size ≡ 0 + length bytes
begins_first size bytes is = omega (arith, is)

-- a chunk of the remote has the size that its entry asks
end_is : (i : Index) (o : ℕ) (ps : List (List ℕ)) → BeginAt i o ps → end_before i (entries_from o ps) ≡ o
end_is i o [] begins = omega (arith, begins)
end_is i o (p ∷ ps) begins = refl

pub size_is : (i : Index) (e : AppendEntry) (p : List ℕ) (o : ℕ) (ps : List (List ℕ)) → o ≡ e.offset + length p → BeginAt i o ps
    → length (blobs.blob p) ≡ blob_size i e (entries_from o ps)
unfolding blobs.blob
size_is i e p o ps at begins = let end = end_is i o ps begins in omega (arith, at, end)

length-entries : (o : ℕ) (ps : List (List ℕ)) → length (entries_from o ps) ≡ length ps
length-entries o [] = refl
length-entries o (p ∷ ps) = ap suc (length-entries (o + length p) ps)

module _ (L : List Snapshot) (c : Course) (s : Stock) (i : Index) where
  shows_appends : (a : AtIndex L c s i) → Alike (was a.after) (was a.sent) → (es : List AppendEntry) (n : ℕ) → length es ≤ n
      → ShowsJob L (next_append c s i es) (next_command a.pull (appends n es ++ behind_appends a.from a.after a.files (a.pull).snapshot))
  unfolding next_append next_command appends
  shows_appends a all [] zero few =
      (sending a.pull (CloseIndex 0 (length (a.from).pieces) (size_of (archive a.from)) (csum_of (archive a.from))) (files_from a.after a.files (a.pull).snapshot), refl, (a, all, refl))
  shows_appends a all [] (suc n) few =
      (sending a.pull (CloseIndex 0 (length (a.from).pieces) (size_of (archive a.from)) (csum_of (archive a.from))) (files_from a.after a.files (a.pull).snapshot), refl, (a, all, refl))
  shows_appends a all (e ∷ es) zero few = absurd (omega (arith, few))
  shows_appends a all (e ∷ es) (suc n) few = (
    sending a.pull (Append 0 (take_first 4096 (e ∷ es))) (appends n (drop 4096 (e ∷ es)) ++ behind_appends a.from a.after a.files (a.pull).snapshot),
    refl,
    (a, n, omega (arith, few), all, refl),
  )

  module _ (p : Pull) (name : List ℕ) (from : Archive) (fs : List File) (after : List (List ℕ)) (course : IsCourse L c p) (index : IsIndexOf i name from)
      (file : Contains (p.snapshot).files (let f : File = record { name = name; content = archive from } in f)) where
    abbrev at : (sent qs : List (List ℕ)) → IsStock L p.snapshot s fs sent → All (Contains from.pieces) qs → AtIndex L c s i
    at sent qs stock pieces = record {
      pull = p;
      name = name;
      from = from;
      files = fs;
      sent = sent;
      after = after;
      to_come = qs;
      course = course;
      stock = stock;
      index = index;
      file = file;
      pieces = pieces;
    }

    shows_chunks : (sent : List (List ℕ)) (o : ℕ) (qs : List (List ℕ)) → IsStock L p.snapshot s fs sent → All (Contains from.pieces) qs → IsBehind qs sent after → BeginAt i o qs
        → ShowsJob L (next_chunk c s i (entries_from o qs)) (next_command p (chunks_from sent qs (behind_chunks from after fs p.snapshot)))
    unfolding next_chunk next_command
    shows_chunks sent o [] stock pieces behind begins =
        subst (λ es. ShowsJob L (next_append c s i es) (next_command p (behind_chunks from after fs p.snapshot))) (sym index.entries)
        (shows_appends (at sent [] stock pieces) behind (entries_from 0 from.pieces) (length from.pieces) (let len = length-entries 0 from.pieces in omega (arith, len)))
    shows_chunks sent o (q ∷ qs) stock pieces behind begins =
        from_state (get (sent_in s) (sha256 q)) refl (shows_chunks sent (o + length q) qs stock rest)
      where
        e : AppendEntry
        e = record { digest = digest_of q; offset = o }

        later : List AppendEntry
        later = entries_from (o + length q) qs

        rest : All (Contains from.pieces) qs
        rest = All-tail (Contains from.pieces) q qs pieces

        here : Contains from.pieces q
        here = All-head (Contains from.pieces) q qs pieces

        on : BeginAt i (o + length q) qs
        on = let len = length-append q (concat qs) in omega (arith, begins, len)

        -- what is kept of the piece is its blob's size
        sized : (n : ℕ) → get (sent_in s) (sha256 q) ≡ Some n → (n == blob_size i e later) ≡ true
        sized n kept =
            let is = stock.sizes q n (piece_there L p.snapshot (let f : File = record { name = name; content = archive from } in f) q course.there file here) kept in
            eq-eqb n (blob_size i e later) (is ∙ size_is i e q (o + length q) qs refl on)

        was_so : (k : Option ℕ) → get (sent_in s) (sha256 q) ≡ k → was sent q ≡ is_some k
        was_so k kept = sym (stock.are_sent q) ∙ ap is_some kept

        -- the commands to come, where the piece was sent, or was not
        commands : Bool → List Command
        commands b = map (λ r. Chunk (digest_of r) (blobs.blob r)) (if b then unsent sent qs else q ∷ unsent (q ∷ sent) qs) ++ behind_chunks from after fs p.snapshot

        from_state : (k : Option ℕ) → get (sent_in s) (sha256 q) ≡ k
            → (IsBehind qs sent after → BeginAt i (o + length q) qs → ShowsJob L (next_chunk c s i later) (next_command p (chunks_from sent qs (behind_chunks from after fs p.snapshot))))
            → ShowsJob L (elim k [ None ↦ asks (reading_chunk c s i e later) | Some size ↦ if size == blob_size i e later then next_chunk c s i later else mismatched e ])
            (next_command p (commands (was sent q)))
        from_state None kept go =
            subst (λ b. ShowsJob L (asks (reading_chunk c s i e later)) (next_command p (commands b))) (sym (was_so None kept)) (
              sending p (Chunk (digest_of q) (blobs.blob q)) (chunks_from (q ∷ sent) qs (behind_chunks from after fs p.snapshot)),
              refl,
              (at sent qs stock rest, q, o + length q, here, refl, refl, behind, refl, refl, on),
            )
        from_state (Some n) kept go =
            subst (λ b. ShowsJob L (if b then next_chunk c s i later else mismatched e) (next_command p (commands (was sent q)))) (sym (sized n kept))
            (subst (λ b. ShowsJob L (next_chunk c s i later) (next_command p (commands b))) (sym (was_so (Some n) kept))
            (go (behind_known q qs sent after (was_so (Some n) kept) behind) on))

-- ---- the reply to a command of the snapshot's, or to the step that opens or ends its writer

module _ (L : List Snapshot) where
  -- an index is behind its last piece: the files to come are the same
  closed_on : (c : Course) (s : Stock) (i : Index) (a : AtIndex L c s i) → Alike (was a.after) (was a.sent)
      → ShowsJob L (next_file c s) (next_command a.pull (files_from a.after a.files (a.pull).snapshot))
  closed_on c s i a all =
      subst (λ cs. ShowsJob L (next_file c s) (next_command a.pull (cs ++ last_of (a.pull).snapshot))) (sym (uploads_same a.after a.sent a.files all))
      (shows_files L c s a.pull a.files a.sent a.course a.stock)

  chunks_on : (c : Course) (s : Stock) (i : Index) (a : AtIndex L c s i) (o : ℕ) → IsBehind a.to_come a.sent a.after → BeginAt i o a.to_come
      → ShowsJob L (next_chunk c s i (entries_from o a.to_come)) (next_command a.pull (chunks_from a.sent a.to_come (behind_chunks a.from a.after a.files (a.pull).snapshot)))
  chunks_on c s i a o behind begins = shows_chunks L c s i a.pull a.name a.from a.files a.after a.course a.index a.file a.sent o a.to_come a.stock a.pieces behind begins

  shows_begun : (c : Course) (p : Pull) (r : Reply) → IsCourse L c p → ShowsJob L (started c r) (begun p r)
  unfolding started begun commands_of
  shows_begun c p (Base base) course =
      let first = asks_one p (uploads [] (listed_files p.snapshot)) (Blob manifest_name (manifest_text p.snapshot)) (Finish ∷ []) in
      (first.0, first.1, (p, course, (manifest_text p.snapshot, refl), first.1))
  shows_begun c p r course = refl

  shows_ended : (first : Refusal) (r : Reply) → ShowsJob L (ends first r) (job_take (job_aborting (Refused first)) r)
  unfolding job_take
  shows_ended first (Refused NoMemory) = (job_aborting (Refused first), refl, refl)
  shows_ended first (Refused RemoteFault) = (job_aborting (Refused first), refl, refl)
  shows_ended first r = refl

  -- where the state asks for a step both take its reply alike
  pub taken : (x : Pulling) (j : Asking) (r : Reply) → Shows L x j → class_of (act_of x) ≡ stepping → ShowsJob L (take x r) (job_take j r)
  unfolding take job_take finished next_command
  taken (seeking group) j r h local = absurd h
  taken (comparing group remote) j r h local = absurd h
  taken (rejecting path) j r h local = absurd h
  taken (reading_manifest c bytes) j r h local = cc
  taken (reading_file c s name bytes) j r h local = cc
  taken (reading_chunk c s i e later) j r h local = cc
  taken (starting c) j r h local = subst (λ y. ShowsJob L (started c r) (job_take y r)) (sym h.2) (began r)
    where
      began : (y : Reply) → ShowsJob L (started c y) (job_take (beginning h.0) y)
      began y = shows_begun c h.0 y h.1
  taken (opening c s i) j r h local =
      let a = h.0 in
      shows_taken L a.pull (new_index (a.from).layout a.name) (chunks_from a.sent a.to_come (behind_chunks a.from a.after a.files (a.pull).snapshot)) j (next_chunk c s i i.entries) r h.3
      (subst (λ es. ShowsJob L (next_chunk c s i es) (next_command a.pull (chunks_from a.sent a.to_come (behind_chunks a.from a.after a.files (a.pull).snapshot))))
      (ap (entries_from 0) h.1 ∙ sym (a.index).entries) (chunks_on c s i a 0 h.2 (subst (BeginAt i 0) (sym h.1) (begins_first i.size (concat (a.from).pieces) (a.index).ends))))
  taken (sending_chunk c s i e later bytes) j r h local =
      let a = h.0 in
      shows_taken L a.pull (Chunk e.digest bytes) (chunks_from a.sent a.to_come (behind_chunks a.from a.after a.files (a.pull).snapshot)) j (next_chunk c s i later) r h.4
      (subst (λ es. ShowsJob L (next_chunk c s i es) (next_command a.pull (chunks_from a.sent a.to_come (behind_chunks a.from a.after a.files (a.pull).snapshot))))
      (sym h.2) (chunks_on c s i a h.1 h.3 h.5))
  taken (appending c s i e later) j r h local =
      let a = h.0 in
      shows_taken L a.pull (Append 0 (take_first 4096 (e ∷ later))) (appends h.1 (drop 4096 (e ∷ later)) ++ behind_appends a.from a.after a.files (a.pull).snapshot) j
      (next_append c s i (drop 4096 (e ∷ later))) r h.4
      (shows_appends L c s i a h.3 (drop 4096 (e ∷ later)) h.1 (let len = length-drop 4096 (e ∷ later) in let few = h.2 in omega (arith, len, few)))
  taken (closing_index c s i) j r h local =
      let a = h.0 in
      shows_taken L a.pull (CloseIndex 0 (length (a.from).pieces) (size_of (archive a.from)) (csum_of (archive a.from))) (files_from a.after a.files (a.pull).snapshot) j (next_file c s) r h.2
      (closed_on c s i a h.1)
  taken (sending_blob c s name bytes) j r h local =
      let a = h.0 in
      shows_taken L a.pull (Blob name bytes) (files_from a.sent a.files (a.pull).snapshot) j (next_file c s) r h.1
      (shows_files L c s a.pull a.files a.sent a.course a.stock)
  taken (sending_manifest c s) j r h local =
      let a = h.0 in
      shows_taken L a.pull (Blob manifest_name (manifest_text (a.pull).snapshot)) (Finish ∷ []) j (asks (finishing c)) r h.1 (last_asked a.pull a.course)
    where
      last_asked : (p : Pull) → IsCourse L c p → ShowsJob L (asks (finishing c)) (next_command p (Finish ∷ []))
      last_asked p course = (sending p Finish [], refl, (p, course, refl))
  taken (finishing c) j r h local = shows_taken L h.0 Finish [] j (finished c) r h.2 (done h.0 h.1)
    where
      done : (p : Pull) → IsCourse L c p → ShowsJob L (finished c) (next_command p [])
      done p course =
          subst (λ xs. ShowsJob L (next_snapshot (c.pulled ++ c.snapshot ∷ []) xs) (job_next_snapshot (p.pulled ++ key_text (p.snapshot).key ∷ []) p.later)) (sym course.later)
          (subst (λ name. ShowsJob L (next_snapshot (c.pulled ++ name ∷ []) (texts_of p.later)) (job_next_snapshot (p.pulled ++ key_text (p.snapshot).key ∷ []) p.later)) (sym course.snapshot)
          (subst (λ ys. ShowsJob L (next_snapshot (ys ++ key_text (p.snapshot).key ∷ []) (texts_of p.later)) (job_next_snapshot (p.pulled ++ key_text (p.snapshot).key ∷ []) p.later)) (sym course.pulled)
          (shows_snapshots L (p.pulled ++ key_text (p.snapshot).key ∷ []) p.later course.others)))
  taken (aborting first) j r h local = subst (λ y. ShowsJob L (ends first r) (job_take y r)) (sym h) (shows_ended first r)

  -- and it asks what the job asks
  step_is : (p : Pull) (d : Command) (cs : List Command) (j : Asking) → Sends p (d ∷ cs) j → act_of_step (step_of j) ≡ act_of_command d
  step_is p d cs j h = ap (λ y. act_of_step (step_of y)) (sent_is p d cs j h)

  pub asked_alike : (x : Pulling) (j : Asking) → Shows L x j → class_of (act_of x) ≡ stepping → act_of x ≡ act_of_step (step_of j)
  asked_alike (seeking group) j h local = absurd h
  asked_alike (comparing group remote) j h local = absurd h
  asked_alike (rejecting path) j h local = absurd h
  asked_alike (reading_manifest c bytes) j h local = cc
  asked_alike (reading_file c s name bytes) j h local = cc
  asked_alike (reading_chunk c s i e later) j h local = cc
  asked_alike (starting c) j h local = ap (λ name. act_of_command (commands.OpenWriter name)) (h.1).snapshot ∙ ap (λ y. act_of_step (step_of y)) (sym h.2)
  asked_alike (opening c s i) j h local =
      let a = h.0 in
      ap (λ l. act_of_command (new_index l i.name)) (a.index).layout ∙ ap (λ n. act_of_command (new_index (a.from).layout n)) (a.index).named
      ∙ sym (step_is a.pull (new_index (a.from).layout a.name) (chunks_from a.sent a.to_come (behind_chunks a.from a.after a.files (a.pull).snapshot)) j h.3)
  asked_alike (sending_chunk c s i e later bytes) j h local =
      let a = h.0 in
      sym (step_is a.pull (Chunk e.digest bytes) (chunks_from a.sent a.to_come (behind_chunks a.from a.after a.files (a.pull).snapshot)) j h.4)
  asked_alike (appending c s i e later) j h local =
      let a = h.0 in
      sym (step_is a.pull (Append 0 (take_first 4096 (e ∷ later))) (appends h.1 (drop 4096 (e ∷ later)) ++ behind_appends a.from a.after a.files (a.pull).snapshot) j h.4)
  asked_alike (closing_index c s i) j h local =
      let a = h.0 in
      ap (λ n. act_of_command (CloseIndex 0 n i.size i.csum)) (ap length (a.index).entries ∙ length-entries 0 (a.from).pieces)
      ∙ ap (λ n. act_of_command (CloseIndex 0 (length (a.from).pieces) n i.csum)) (a.index).size
      ∙ ap (λ d. act_of_command (CloseIndex 0 (length (a.from).pieces) (size_of (archive a.from)) d)) (a.index).csum
      ∙ sym (step_is a.pull (CloseIndex 0 (length (a.from).pieces) (size_of (archive a.from)) (csum_of (archive a.from))) (files_from a.after a.files (a.pull).snapshot) j h.2)
  asked_alike (sending_blob c s name bytes) j h local =
      let a = h.0 in sym (step_is a.pull (Blob name bytes) (files_from a.sent a.files (a.pull).snapshot) j h.1)
  asked_alike (sending_manifest c s) j h local =
      let a = h.0 in
      ap (λ b. act_of_command (Blob manifest_name b)) (a.stock).manifest
      ∙ sym (step_is a.pull (Blob manifest_name (manifest_text (a.pull).snapshot)) (Finish ∷ []) j h.1)
  asked_alike (finishing c) j h local = sym (step_is h.0 Finish [] j h.2)
  asked_alike (aborting first) j h local = ap (λ y. act_of_step (step_of y)) (sym h)

  -- ---- the reads

  pub no_read : (d : Command) → class_of (act_of_command d) ≡ reaching → ⊥
  no_read d h = other (sym (command_class d) ∙ h)
    where
      other : (let x : Class = stepping in x) ≡ reaching → ⊥
      other e = cc

  -- the job is at a command of the snapshot's
  stops_sent : (p : Pull) (cs front : List Command) (d : Command) (ds : List Command) → cs ≡ front ++ d ∷ ds → (j : Asking) → Sends p cs j
      → (z : Refusal) → ShowsJob L (stops z) (job_take j (Refused z))
  unfolding job_take replied
  stops_sent p cs front d ds is j asked z = by_front front (subst (λ xs. Sends p xs j) is asked)
    where
      stops_at : (first : Command) (later : List Command) → j ≡ sending p first later → ShowsJob L (stops z) (job_take j (Refused z))
      stops_at first later same = subst (λ y. ShowsJob L (stops z) (job_take y (Refused z))) (sym same) (shows_stopped L z)

      by_front : (xs : List Command) → Sends p (xs ++ d ∷ ds) j → ShowsJob L (stops z) (job_take j (Refused z))
      by_front [] h = stops_at d ds (sent_is p d ds j h)
      by_front (first ∷ xs) h = stops_at first (xs ++ d ∷ ds) (sent_is p first (xs ++ d ∷ ds) j h)

  -- a refusal of a read stops both alike
  pub unread : (x : Pulling) (j : Asking) (z : Refusal) → Shows L x j → class_of (act_of x) ≡ reaching → ShowsJob L (take x (Refused z)) (job_take j (Refused z))
  unfolding take manifest_told file_told chunk_told commands_of
  unread (reading_manifest c bytes) j z h away = stops_sent h.0 (commands_of (h.0).snapshot) (uploads [] (listed_files (h.0).snapshot)) (Blob manifest_name (manifest_text (h.0).snapshot)) (Finish ∷ []) commands_are j h.3 z
    where
      commands_are : commands_of (h.0).snapshot ≡ uploads [] (listed_files (h.0).snapshot) ++ last_of (h.0).snapshot
      commands_are = refl
  unread (reading_file c s name bytes) j z h away =
      let a = h.0 in
      stops_sent a.pull (files_from a.sent (h.1 ∷ a.files) (a.pull).snapshot) (uploads a.sent (h.1 ∷ a.files)) (Blob manifest_name (manifest_text (a.pull).snapshot)) (Finish ∷ []) refl j h.5 z
  unread (reading_chunk c s i e later) j z h away =
      let a = h.0 in
      stops_sent a.pull (Chunk (digest_of h.1) (blobs.blob h.1) ∷ chunks_from (h.1 ∷ a.sent) a.to_come (behind_chunks a.from a.after a.files (a.pull).snapshot)) []
      (Chunk (digest_of h.1) (blobs.blob h.1)) (chunks_from (h.1 ∷ a.sent) a.to_come (behind_chunks a.from a.after a.files (a.pull).snapshot)) refl j h.7 z
  unread (seeking group) j z h away = absurd h
  unread (comparing group remote) j z h away = absurd h
  unread (rejecting path) j z h away = absurd h
  unread (starting c) j z h away = cc
  unread (opening c s i) j z h away = absurd (no_read (new_index i.layout i.name) away)
  unread (sending_chunk c s i e later bytes) j z h away = absurd (no_read (Chunk e.digest bytes) away)
  unread (appending c s i e later) j z h away = absurd (no_read (Append 0 (take_first 4096 (e ∷ later))) away)
  unread (closing_index c s i) j z h away = absurd (no_read (CloseIndex 0 (length i.entries) i.size i.csum) away)
  unread (sending_blob c s name bytes) j z h away = absurd (no_read (Blob name bytes) away)
  unread (sending_manifest c s) j z h away = absurd (no_read (Blob manifest_name s.manifest) away)
  unread (finishing c) j z h away = cc
  unread (aborting first) j z h away = cc

-- ---- what a read gives

-- the bytes that were read, and those of the part, are the first of the text
module _ (bytes rest : List ℕ) where
  abbrev more : List ℕ
  more = take_first part_limit rest

  part_is : part_told (bytes ++ rest) (length bytes) ≡ Part (length (bytes ++ rest)) more
  part_is =
      ap (λ b. if b then part_of (bytes ++ rest) (length bytes) else Refused (BadRange (length (bytes ++ rest)))) (le-leb (length bytes) (length (bytes ++ rest)) (let len = length-append bytes rest in omega (arith, len)))
      ∙ ap (λ xs. Part (length (bytes ++ rest)) (take_first part_limit xs)) (drop-append_seam bytes rest)

  goes_further : (bytes ++ more) ++ drop part_limit rest ≡ bytes ++ rest
  goes_further = append_assoc bytes more (drop part_limit rest) ∙ ap (λ xs. bytes ++ xs) (take-append-drop part_limit rest)

no_rest : (xs ys : List ℕ) → nat_lt (length xs) (length (xs ++ ys)) ≡ false → xs ++ ys ≡ xs
no_rest xs [] h = append-nil xs
no_rest xs (y ∷ ys) h =
    let len = length-append xs (y ∷ ys) in
    let all = ltb-false (length xs) (length (xs ++ y ∷ ys)) h in
    absurd (omega (arith, len, all))

module _ (L : List Snapshot) (list : IsList L) where
  -- ---- the manifest

  module _ (c : Course) (p : Pull) (course : IsCourse L c p) (j : Asking) (asked : Sends p (commands_of p.snapshot) j) where
    abbrev x : Snapshot
    x = p.snapshot

    abbrev m : Manifest
    m = manifest L list x course.there

    none_sent : (q : List ℕ) → known (stock_of (manifest_text x) m) q ≡ false
    none_sent q = ap is_some (get-from_entries {R = text_cmp} nat_list_cmp_total [] (sha256 q))

    none_sized : HasSizes (flat_map pieces_in L) (stock_of (manifest_text x) m)
    none_sized q n here got = absurd (nothing (sym (get-from_entries {R = text_cmp} nat_list_cmp_total [] (sha256 q)) ∙ got))
      where
        nothing : {k : ℕ} → None ≡ Some k → ⊥
        nothing e = cc

    listed_stock : IsStock L x (stock_of (manifest_text x) m) (listed_files x) []
    listed_stock = record {
      manifest = refl;
      names = names_listed L list x course.there;
      files = files_listed L list x course.there;
      are_sent = none_sent;
      sizes = none_sized;
    }

    commands_are : commands_of x ≡ files_from [] (listed_files x) x
    unfolding commands_of
    commands_are = refl

    all_read : ShowsJob L (manifest_read c (manifest_text x) (read_manifest (manifest_text x))) (asking j)
    unfolding manifest_read
    all_read =
        subst (λ (o : Option Manifest). ShowsJob L (manifest_read c (manifest_text x) o) (asking j)) (sym (manifest_told_as L list x course.there))
        (subst (λ b. ShowsJob L (if b then next_file c (stock_of (manifest_text x) m) else rejects c manifest_name) (asking j)) (sym (le-leb (length m.files) 63 (few L list x course.there)))
        (subst (λ job. ShowsJob L (next_file c (stock_of (manifest_text x) m)) job) (ap (next_command p) (sym commands_are) ∙ asked)
        (shows_files L c (stock_of (manifest_text x) m) p (listed_files x) [] course listed_stock)))

    manifest_on : (bytes rest : List ℕ) → bytes ++ rest ≡ manifest_text x → ShowsJob L (manifest_part c bytes (length (bytes ++ rest))) (asking j)
    unfolding manifest_part
    manifest_on bytes rest is =
        subst (λ b. ShowsJob L (if b then rejects c manifest_name else if nat_lt (length bytes) (length (bytes ++ rest)) then asks (reading_manifest c bytes) else manifest_read c bytes (read_manifest bytes)) (asking j)) (sym short)
        (by_test (nat_lt (length bytes) (length (bytes ++ rest))) refl)
      where
        short : nat_lt blob_limit (length (bytes ++ rest)) ≡ false
        short = le-ltb blob_limit (length (bytes ++ rest)) (subst (λ (t : List ℕ). length t ≤ blob_limit) (sym is) (manifest_short L list x course.there))

        by_test : (b : Bool) → nat_lt (length bytes) (length (bytes ++ rest)) ≡ b
            → ShowsJob L (if b then asks (reading_manifest c bytes) else manifest_read c bytes (read_manifest bytes)) (asking j)
        by_test true h = (j, refl, (p, course, (rest, is), asked))
        by_test false h =
            subst (λ (bs : List ℕ). ShowsJob L (manifest_read c bs (read_manifest bs)) (asking j)) (sym is ∙ no_rest bytes rest h) all_read

  -- ---- a file

  module _ (c : Course) (s : Stock) (a : AtFiles L c s) (j : Asking) where
    abbrev y : Snapshot
    y = (a.pull).snapshot

    fits_file : (f : File) → Contains y.files f → IsTrue (names_content f.content f.name) × FitsContent f.content
    fits_file f there =
        let whole : IsSnapshot y = All-contains IsSnapshot L y list.each (a.course).there in (
          All-contains (λ (g : File). IsTrue (names_content g.content g.name)) y.files f whole.kinds there,
          All-contains (λ (g : File). FitsContent g.content) y.files f whole.contents there,
        )

    file_all : (name : List ℕ) (content : Content) → (let f : File = record { name = name; content = content } in Contains y.files f)
        → Sends a.pull (files_from a.sent ((let f : File = record { name = name; content = content } in f) ∷ a.files) y) j
        → ShowsJob L (file_read c s name (file_text content)) (asking j)
    unfolding file_read index_read blob_read file_text uploads Rattle.store_model.specs.SyncJob.file_commands
    file_all name (archive from) there asked =
        let fits = fits_file (record { name = name; content = archive from }) there in
        let is = archive_read name from fits.0 fits.1 in
        let at : AtIndex L c s is.0 = record {
          pull = a.pull;
          name = name;
          from = from;
          files = a.files;
          sent = a.sent;
          after = from.pieces ++ a.sent;
          to_come = from.pieces;
          course = a.course;
          stock = a.stock;
          index = is.3;
          file = there;
          pieces = All-contains_itself from.pieces;
        } in
        subst (λ b. ShowsJob L (if b then index_read c s name (index_in name (file_text (archive from))) else blob_read c s name (file_text (archive from))) (asking j)) (sym is.1)
        (subst (λ (o : Option Index). ShowsJob L (index_read c s name o) (asking j)) (sym is.2)
        (j, refl, (at, refl, all_behind from.pieces a.sent, ap (next_command a.pull) (sym (archive_first a.sent name from a.files y)) ∙ asked)))
    file_all name (blob bytes) there asked =
        let fits = fits_file (record { name = name; content = blob bytes }) there in
        subst (λ b. ShowsJob L (if b then index_read c s name (index_in name (blobs.blob bytes)) else blob_read c s name (blobs.blob bytes)) (asking j)) (sym (blob_apart name fits.0))
        (subst (λ (o : Result (List ℕ) BadBlob). ShowsJob L (elim o [ Ok contents ↦ asks (sending_blob c s name (blobs.blob bytes)) | Err cause ↦ rejects c name ]) (asking j)) (sym (data_of-blob bytes (fits.1).1 (fits.1).0))
        (j, refl, (a, asked)))

    file_on : (f : File) → Contains y.files f → Sends a.pull (files_from a.sent (f ∷ a.files) y) j
        → (bytes rest : List ℕ) → bytes ++ rest ≡ file_text f.content → ShowsJob L (file_part c s f.name bytes (length (bytes ++ rest))) (asking j)
    unfolding file_part
    file_on f there asked bytes rest is =
        subst (λ b. ShowsJob L (if b then rejects c f.name else if nat_lt (length bytes) (length (bytes ++ rest)) then asks (reading_file c s f.name bytes) else file_read c s f.name bytes) (asking j)) (sym short)
        (by_test (nat_lt (length bytes) (length (bytes ++ rest))) refl)
      where
        fits : IsTrue (names_content f.content f.name) × FitsContent f.content
        fits = fits_file f there

        short : nat_lt (size_limit f.name) (length (bytes ++ rest)) ≡ false
        short = le-ltb (size_limit f.name) (length (bytes ++ rest)) (subst (λ (t : List ℕ). length t ≤ size_limit f.name) (sym is) (file_short f.name f.content fits.0 fits.1))

        by_test : (b : Bool) → nat_lt (length bytes) (length (bytes ++ rest)) ≡ b
            → ShowsJob L (if b then asks (reading_file c s f.name bytes) else file_read c s f.name bytes) (asking j)
        by_test true h = (j, refl, (a, f, there, refl, (rest, is), asked))
        by_test false h =
            subst (λ (bs : List ℕ). ShowsJob L (file_read c s f.name bs) (asking j)) (sym is ∙ no_rest bytes rest h) (file_all f.name f.content there asked)

  -- ---- each read

  -- what the list has is what was given
  given : {X : Type 0} (o : Option X) (v : X) (r : Reply) (told : X → Reply) → o ≡ Some v → IfSome o (λ u. Some r ≡ Some (told u)) → r ≡ told v
  given o v r told is h = same (subst (λ q. IfSome q (λ u. Some r ≡ Some (told u))) is h)
    where
      same : {s t : Reply} → Some s ≡ Some t → s ≡ t
      same e = cc

  -- a read that gave what the remote has leaves the job as it is
  pub reads_on : (z : Pulling) (j : Asking) (r : Reply) → Shows L z j → class_of (act_of z) ≡ reaching → Reads L (act_of z) (Some r) → ShowsJob L (take z r) (asking j)
  unfolding take manifest_told file_told chunk_told
  reads_on (reading_manifest c bytes) j r h away reads =
      let p = h.0 in
      let rest = (h.2).0 in
      let named = ap (λ t. text_in L t manifest_name) (h.1).snapshot ∙ manifest_here L list p.snapshot (h.1).there in
      let told = given (text_in L c.snapshot manifest_name) (manifest_text p.snapshot) r (λ t. part_told t (length bytes)) named reads.1 in
      let part = told ∙ ap (λ t. part_told t (length bytes)) (sym (h.2).1) ∙ part_is bytes rest in
      subst (λ y. ShowsJob L (manifest_told c bytes y) (asking j)) (sym part)
      (subst (λ (t : List ℕ). ShowsJob L (manifest_part c (bytes ++ more bytes rest) (length t)) (asking j)) (goes_further bytes rest)
      (manifest_on c p h.1 j h.3 (bytes ++ more bytes rest) (drop part_limit rest) (goes_further bytes rest ∙ (h.2).1)))
  reads_on (reading_file c s name bytes) j r h away reads =
      let a = h.0 in
      let f = h.1 in
      let rest = (h.4).0 in
      let y = (a.pull).snapshot in
      let named = ap (λ t. text_in L t name) (a.course).snapshot ∙ ap (text_in L (key_text y.key)) h.3 ∙ text_here L list y (a.course).there f h.2 in
      let told = given (text_in L c.snapshot name) (file_text f.content) r (λ t. part_told t (length bytes)) named reads.1 in
      let part = told ∙ ap (λ t. part_told t (length bytes)) (sym (h.4).1) ∙ part_is bytes rest in
      subst (λ w. ShowsJob L (file_told c s name bytes w) (asking j)) (sym part)
      (subst (λ (n : List ℕ). ShowsJob L (file_part c s n (bytes ++ more bytes rest) (length (bytes ++ rest))) (asking j)) (sym h.3)
      (subst (λ (t : List ℕ). ShowsJob L (file_part c s f.name (bytes ++ more bytes rest) (length t)) (asking j)) (goes_further bytes rest)
      (file_on c s a j f h.2 h.5 (bytes ++ more bytes rest) (drop part_limit rest) (goes_further bytes rest ∙ (h.4).1))))
  reads_on (reading_chunk c s i e later) j r h away reads =
      let a = h.0 in
      let p = h.1 in
      let y = (a.pull).snapshot in
      let there = piece_there L y (let f : File = record { name = a.name; content = archive a.from } in f) p (a.course).there a.file h.3 in
      let named = ap (piece_in L) h.4 ∙ piece_here L list y (a.course).there (record { name = a.name; content = archive a.from }) p a.file h.3 in
      let told = given (piece_in L e.digest) p r (λ q. Data (blobs.blob q)) named reads.1 in
      let s' = with_chunk e (blobs.blob p) s in
      let at : AtIndex L c s' i = record {
        pull = a.pull;
        name = a.name;
        from = a.from;
        files = a.files;
        sent = p ∷ a.sent;
        after = a.after;
        to_come = a.to_come;
        course = a.course;
        stock = record {
          manifest = (a.stock).manifest;
          names = (a.stock).names;
          files = (a.stock).files;
          are_sent = known_sent s e p (blobs.blob p) a.sent h.4 (a.stock).are_sent;
          sizes = sizes_sent (flat_map pieces_in L) s e p list.clear there h.4 (a.stock).sizes;
        };
        index = a.index;
        file = a.file;
        pieces = a.pieces;
      } in
      let sized : (length (blobs.blob p) == blob_size i e later) ≡ true =
      eq-eqb (length (blobs.blob p)) (blob_size i e later) (size_is i e p h.2 a.to_come h.8 h.9 ∙ ap (blob_size i e) (sym h.5)) in
      subst (λ w. ShowsJob L (chunk_told c s i e later w) (asking j)) (sym told) (
      subst (λ b. ShowsJob L (if b then asks (sending_chunk c s' i e later (blobs.blob p)) else mismatched e) (asking j)) (sym sized) (
        j,
        refl,
        (
          at,
          h.2,
          h.5,
          behind_sent p a.to_come a.sent a.after h.6,
          subst (λ d. Sends a.pull (Chunk d (blobs.blob p) ∷ chunks_from (p ∷ a.sent) a.to_come (behind_chunks a.from a.after a.files y)) j) (sym h.4) h.7,
          h.9,
        ),
      ))
  reads_on (seeking group) j r h away reads = absurd h
  reads_on (comparing group remote) j r h away reads = absurd h
  reads_on (rejecting path) j r h away reads = absurd h
  reads_on (starting c) j r h away reads = cc
  reads_on (opening c s i) j r h away reads = absurd (no_read L (new_index i.layout i.name) away)
  reads_on (sending_chunk c s i e later bytes) j r h away reads = absurd (no_read L (Chunk e.digest bytes) away)
  reads_on (appending c s i e later) j r h away reads = absurd (no_read L (Append 0 (take_first 4096 (e ∷ later))) away)
  reads_on (closing_index c s i) j r h away reads = absurd (no_read L (CloseIndex 0 (length i.entries) i.size i.csum) away)
  reads_on (sending_blob c s name bytes) j r h away reads = absurd (no_read L (Blob name bytes) away)
  reads_on (sending_manifest c s) j r h away reads = absurd (no_read L (Blob manifest_name s.manifest) away)
  reads_on (finishing c) j r h away reads = cc
  reads_on (aborting first) j r h away reads = cc
