-- A VERIFY's reads answer what stands on an honest disk.
use Rattle.disk_trait.specs.declared.disk.Disk.{Ghosts}
use Rattle.std.proofs.Common.{◌≡◌, ℕ, true, false, List, Result, Ok, Err, IfOk, sym, ap, subst, ◌∙◌}
use Rattle.disk_trait.specs.Files.{Files}
use Rattle.store_types.specs.declared.names.Digest32.{Digest32}
use Rattle.store_types.specs.declared.refusal.Refusal.{Refusal}
use Rattle.store_types.specs.declared.refusal.Refusal.TheVariants.{NoFile}
use Rattle.store_types.specs.Chain.Refusing.{◌>>=◌}
use Rattle.store_types.specs.FileNames.{is_index_name}
use Rattle.wire_commands.specs.declared.reply.Reply.{Reply}
use Rattle.wire_commands.specs.declared.reply.Reply.TheVariants.{Data}
use Rattle.snapshot_files.specs.Parts.{part_reply}
use Rattle.core_state.specs.Kept.{kept_at}
use Rattle.core_state.specs.declared.indexes.Indexes.{Indexes}
use Rattle.core_state.specs.Indexed.{row_at}
use Rattle.core_reader.specs.Entries.{entry_by}
use Rattle.snapshot_files.specs.Parts.{part_at}
use Rattle.store_stops.specs.declared.stop.Stop.{Stop}
use Rattle.core_state.specs.declared.entering.Place.{Place}
use Rattle.core_state.specs.declared.parts.Parts.{Parts}
use Rattle.store_stops.specs.declared.stop.Stop.TheVariants.{Refused, NoMemory, DiskFailed}
use Rattle.store_history.specs.Replies.{reply_told}
use Rattle.core_state.specs.Stops.{told}
use Rattle.store_stops.specs.Stops.{Gives}
use Rattle.core_state.proofs.FromState.{Stops, stopped}
use Rattle.core_reader.specs.AnsweredBy.{ActReads, chunk_told, part_told}
use Rattle.core_reader.specs.Asked.{index_of, place_of}
use Rattle.core_reader.specs.Chunks.{bytes_at}
use Rattle.core_reader.proofs.ReadEntry.{entry_here, index_there, index_unnamed, index_unplaced}
use Rattle.core_reader.proofs.ReadPart.{IsPlaced}
use Rattle.core_reader.proofs.Telling.{as_reply}

-- ---- how a read stops

-- it is refused as is wanted
pub stop_told : (wanted : Result Reply Refusal) (stop : Stop) (result : Result Reply Stop) → Stops result stop → Gives {A = Reply} (λ reply. reply) (Err stop) wanted
    → IfOk (told result) (λ reply. reply ≡ reply_told wanted)
stop_told wanted stop result stops gives = stopped (λ r. IfOk (told r) (λ reply. reply ≡ reply_told wanted)) result stop stops (by_stop stop gives)
  where
    by_stop : (stop : Stop) → Gives {A = Reply} (λ reply. reply) (Err stop) wanted → IfOk (told (Err stop)) (λ reply. reply ≡ reply_told wanted)
    by_stop (Refused refusal) gives = sym (ap reply_told gives)
    by_stop NoMemory gives = tt
    by_stop DiskFailed gives = tt

-- what stops the first stops both
first_stops : {A : Type 0} (rest : A → Result Reply Refusal) (stop : Stop) (first : Result A Refusal) → Gives {A = A} (λ x. x) (Err stop) first → Gives {A = Reply} (λ reply. reply) (Err stop) (first >>= rest)
first_stops {A} rest (Refused refusal) first gives = ap (λ (o : Result A Refusal). o >>= rest) gives
first_stops rest NoMemory first gives = tt
first_stops rest DiskFailed first gives = tt

-- ---- a part of a file

module _ {D : Type 0} (d : Ghosts D) (old : Parts D) (at : Place) (name : List ℕ) (offset : ℕ) where
  abbrev part_here : Result Reply Refusal
  part_here = part_told name offset (d.content old.disk) (kept_at old at.lane)

  abbrev placed : Result (List ℕ) Refusal
  placed = place_of name (kept_at old at.lane)

  abbrev part_in : List ℕ → Result Reply Refusal
  part_in path = part_at (d.content old.disk) path offset

  -- there is no such file
  pub part_missing : (stop : Stop) (result : Result Reply Stop) → Stops result stop → Gives {A = List ℕ} (λ path. path) (Err stop) placed → ActReads d (part_told name offset) old at result
  part_missing stop result stops gives = λ honest. stop_told part_here stop result stops (first_stops {A = List ℕ} part_in stop placed gives)

  module _ (path q : List ℕ) (there : placed ≡ Ok path) (here : q ≡ path) where
    part_wanted : part_here ≡ part_in q
    part_wanted = ap (λ (o : Result (List ℕ) Refusal). o >>= part_in) there ∙ ap part_in (sym here)

    -- it is refused by what stands there
    pub part_unread : (e : Stop) (result : Result Reply Stop) → Stops result e → (d.honest old.disk → Gives part_reply (Err e) (part_in q))
        → ActReads d (part_told name offset) old at result
    part_unread e result stops gives = λ honest.
        stop_told part_here e result stops
        (subst (λ w. Gives {A = Reply} (λ reply. reply) (Err e) w) (sym part_wanted) (as_reply e _ (gives honest)))

    -- it is given
    pub part_answers : (part : Reply) → (d.honest old.disk → part_in q ≡ Ok part) → ActReads d (part_told name offset) old at (Ok part)
    part_answers part gives = λ honest. sym (ap reply_told (part_wanted ∙ gives honest))

-- ---- the chunk at an entry

module _ {D : Type 0} (d : Ghosts D) (old : Parts D) (at : Place) (name : List ℕ) (place : ℕ) where
  abbrev row : Indexes
  row = row_at old at.lane

  abbrev chunk_here : Result Reply Refusal
  chunk_here = chunk_told name place (d.content old.disk) (kept_at old at.lane)

  abbrev indexed : Result (List ℕ) Refusal
  indexed = index_of name (kept_at old at.lane)

  abbrev data_in : List ℕ → Result Reply Refusal
  data_in bytes = Ok (Data bytes)

  abbrev bytes_in : Digest32 → Result Reply Refusal
  bytes_in digest = bytes_at (d.content old.disk) digest >>= data_in

  abbrev chunk_in : List ℕ → Result Reply Refusal
  chunk_in path = entry_by row name place (d.content old.disk) path >>= bytes_in

  -- there is no such file
  pub chunk_missing : (stop : Stop) (result : Result Reply Stop) → Stops result stop → Gives {A = List ℕ} (λ path. path) (Err stop) (place_of name (kept_at old at.lane))
      → ActReads d (chunk_told name place) old at result
  chunk_missing stop result stops gives = λ honest. stop_told chunk_here stop result stops (first_stops {A = List ℕ} chunk_in stop indexed (by_stop stop gives))
    where
      by_stop : (stop : Stop) → Gives {A = List ℕ} (λ path. path) (Err stop) (place_of name (kept_at old at.lane)) → Gives {A = List ℕ} (λ path. path) (Err stop) indexed
      by_stop (Refused refusal) gives = index_unplaced name place (kept_at old at.lane) refusal gives
      by_stop NoMemory gives = tt
      by_stop DiskFailed gives = tt

  module _ (path : List ℕ) (there : IsPlaced name (kept_at old at.lane) path) where
    -- its name is no index's
    pub chunk_unindexed : is_index_name name ≡ false → ActReads d (chunk_told name place) old at (Err (Refused NoFile))
    chunk_unindexed bad = λ honest.
        sym (ap reply_told (ap (λ (o : Result (List ℕ) Refusal). o >>= chunk_in) (index_unnamed name place (kept_at old at.lane) there.reading there.reads bad)))

    module _ (good : is_index_name name ≡ true) (q : List ℕ) (here : q ≡ path) where
      abbrev entry : Result Digest32 Refusal
      entry = entry_by row name place (d.content old.disk) q

      chunk_wanted : chunk_here ≡ (entry >>= bytes_in)
      chunk_wanted =
          ap (λ (o : Result (List ℕ) Refusal). o >>= chunk_in) (index_there name place (kept_at old at.lane) there.reading path there.reads good there.found)
          ∙ ap (λ (o : Result Digest32 Refusal). o >>= bytes_in) (sym (entry_here (d.content old.disk) path q row name place here))

      -- the entry is refused by what stands there
      pub entry_unread : (e : Stop) (result : Result Reply Stop) → Stops result e → (d.honest old.disk → Gives {A = Digest32} (λ digest. digest) (Err e) entry)
          → ActReads d (chunk_told name place) old at result
      entry_unread e result stops gives = λ honest.
          stop_told chunk_here e result stops
          (subst (λ w. Gives {A = Reply} (λ reply. reply) (Err e) w) (sym chunk_wanted)
          (first_stops {A = Digest32} bytes_in e entry (gives honest)))

      module _ (digest : Digest32) (n : Files) (read : entry ≡ Ok digest) (same : n ≡ d.content old.disk) where
        bytes_wanted : chunk_here ≡ (bytes_at n digest >>= data_in)
        bytes_wanted = chunk_wanted ∙ ap (λ (o : Result Digest32 Refusal). o >>= bytes_in) read ∙ ap (λ f. bytes_at f digest >>= data_in) (sym same)

        -- the chunk is
        pub chunk_stops : (stop : Stop) (result : Result Reply Stop) → Stops result stop → Gives {A = List ℕ} (λ bytes. bytes) (Err stop) (bytes_at n digest)
            → IfOk (told result) (λ reply. reply ≡ reply_told chunk_here)
        chunk_stops stop result stops gives =
            stop_told chunk_here stop result stops
            (subst (λ w. Gives {A = Reply} (λ reply. reply) (Err stop) w) (sym bytes_wanted) (first_stops {A = List ℕ} data_in stop (bytes_at n digest) gives))

        -- it is given
        pub chunk_given : (bytes : List ℕ) → bytes_at n digest ≡ Ok bytes → Data bytes ≡ reply_told chunk_here
        chunk_given bytes gives = sym (ap reply_told (bytes_wanted ∙ ap (λ (o : Result (List ℕ) Refusal). o >>= data_in) gives))
