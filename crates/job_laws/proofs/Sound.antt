-- A VERIFY of a snapshot that the store may hold: what each step is answered, and how the job comes to its end.
use Rattle.std.proofs.Common.{◌≡◌, ℕ, zero, suc, ◌+◌, ◌≤◌, ◌<◌, Bool, true, false, List, [], ◌∷◌, ◌++◌, map, length, Option, Some, None, Result, Ok, Err, ◌&&◌, refl, sym, ap, subst, ◌∙◌, arith, take as take_first, drop, nat_lt, slice_get, if◌then◌else◌, ◌==◌}
use Rattle.std.specs.List.{All, concat, cons_option, filter_map, flat_map}
use Rattle.std.specs.Option.{option_map, option_or}
use Rattle.std.specs.Str.{bytes_eq}
use Rattle.std.proofs.lemmas.Bool.{eq-eqb, le-leb, le-ltb, lt-ltb, ltb-false, ltb-true}
use Rattle.std.proofs.lemmas.List.{append_assoc, append-nil, get_or-set_same, length-append, length-drop, length-map, length-set, take-append-drop}
use Rattle.std.proofs.lemmas.List.Folds.{concat-append}
use Rattle.std.proofs.lemmas.List.Elements.{All-head, All-tail}
use Rattle.std.proofs.lemmas.Slice.Eq.{bytes_eq-Decides}
use Rattle.std.proofs.Math.Seq.{drop-append_seam}
use Rattle.sha2.specs.Sha256.{sha256}
use Rattle.store_types.specs.declared.names.SnapshotKey.{SnapshotKey}
use Rattle.store_types.specs.declared.refusal.BadBlob.{BadBlob}
use Rattle.store_types.specs.declared.refusal.Refusal.TheVariants as refusals
use Rattle.store_types.specs.declared.refusal.Refusal.TheVariants.{BadName, NoSnapshot}
use Rattle.store_types.specs.Chain.Refusing.{◌>>=◌, or_else}
use Rattle.store_types.specs.FileNames.{is_file_name, is_index_name}
use Rattle.store_types.specs.Names.{key_of, key_text}
use Rattle.store_types.proofs.KeyLaws.{key_one, keys}
use Rattle.blob_codec.specs.Blob as blobs
use Rattle.blob_codec.proofs.RoundTrips.{data_of-blob}
use Rattle.store_files.specs.Archive.{File, Snapshot, digest_of, file_named, file_text, pieces_of}
use Rattle.store_files.specs.Folder.{IsPiece}
use Rattle.store_files.specs.Manifest.Fields.{Fact}
use Rattle.wire_commands.specs.declared.rows.FileRow.{FileRow}
use Rattle.wire_commands.specs.declared.rows.FileFault.{FileFault}
use Rattle.wire_commands.specs.declared.rows.FileFault.TheVariants.{Damaged}
use Rattle.wire_commands.specs.declared.rows.FaultRow.{FaultRow}
use Rattle.wire_commands.specs.declared.reply.Reply.{Reply}
use Rattle.wire_commands.specs.declared.reply.Reply.TheVariants.{Data, Done, Files, Part, Refused, Verified}
use Rattle.store_model.specs.declared.step.Step.{Step}
use Rattle.store_model.specs.Heads.{key_in, idle_in, idle_key}
use Rattle.store_model.specs.AdminSteps.{fact_shown, facts_in, file_row, file_rows, files}
use Rattle.store_types.specs.declared.piece.Piece.{Piece}
use Rattle.store_model.specs.SizeLimits.{size_limit}
use Rattle.store_model.specs.Job.{Visit, opening, listing, reading, checking, closing, Asking, Job, asking, step_of}
use Rattle.store_model.specs.Jobs.{take}
use Rattle.store_model.specs.JobSteps.{step_outcome}
use Rattle.store_model.specs.ReaderSteps.{open_reader, reader_files, download, read_file, read_chunk, close_reader}
use Rattle.store_model.specs.Stands.{IsSnapshot, pieces_in}
use Rattle.store_model.specs.Steps.{answered, outcome}
use Rattle.store_model.specs.Store.{Reader, Session, none, reader, Store, Outcome, session, with_session, ended, snapshot_named, want_idle, want_reader}
use Rattle.store_model.specs.VerifyJob.{Judged, digest, judged, next_file, file_done, file_read, next_chunk, opened, listed, too_long, part_read, read_part, checked, chunk_fault, is_piece, is_piece_of}
use Rattle.store_model.specs.WriterSteps.{part_limit, part_of}
use Rattle.job_laws.specs.Verifies.{Damage, ReadAs, MayReply, EndsIn, chunk_read, chunk_reads, damage_from, fault_in, first_fault, is_as_listed, reads_from, reads_of_file, report_of, row_of, IsOther, SoundSnapshotsVerify}
use Rattle.job_laws.proofs.Judged.{Shows, each_shows, fault_shown, named_piece, row}

-- ---- damage

whole_chunk : (p : List ℕ) → IsPiece p → chunk_fault (named_piece p) (blobs.blob p) ≡ None
whole_chunk p is =
    ap (λ (r : Result (List ℕ) BadBlob). elim r as (λ z. Option FileFault) [
      | Err cause ↦ Some (Damaged (digest_of p))
      | Ok piece ↦ if is_piece (named_piece p) piece then None else Some (Damaged (digest_of p))
    ]) (data_of-blob p is.2 is.1)
    ∙ ap (λ b. if b && is_piece_of (digest_of p) p then None else Some (Damaged (digest_of p))) (eq-eqb (length p) (length p) refl)
    ∙ ap (λ b. if b && bytes_eq (sha256 p) (sha256 p) then None else Some (Damaged (digest_of p))) (lt-ltb 0 (length p) is.0)
    ∙ ap (λ b. if b then None else Some (Damaged (digest_of p))) ((bytes_eq-Decides (sha256 p) (sha256 p)).1 refl)

other_chunk : (p bytes : List ℕ) → IsPiece p → IsOther (blobs.blob p) bytes → chunk_fault (named_piece p) bytes ≡ Some (Damaged (digest_of p))
other_chunk p bytes is other = by_data (blobs.data_of bytes) refl
  where
    by_test : (q : List ℕ) (a b c : Bool) → (digest_of q ≡ digest_of p → ⊥) → bytes_eq (sha256 q) (sha256 p) ≡ c
        → (if a && (b && c) then None else Some (Damaged (digest_of p))) ≡ Some (Damaged (digest_of p))
    by_test q true true true off same = absurd (off (ap digest ((bytes_eq-Decides (sha256 q) (sha256 p)).0 same)))
    by_test q true true false off same = refl
    by_test q true false c off same = refl
    by_test q false b c off same = refl

    by_data : (r : Result (List ℕ) BadBlob) → blobs.data_of bytes ≡ r
        → (elim r as (λ z. Option FileFault) [
          | Err cause ↦ Some (Damaged (digest_of p))
          | Ok piece ↦ if is_piece (named_piece p) piece then None else Some (Damaged (digest_of p))
        ]) ≡ Some (Damaged (digest_of p))
    by_data (Err cause) read = refl
    by_data (Ok q) read = by_test q (length q == length p) (nat_lt 0 (length q)) (bytes_eq (sha256 q) (sha256 p)) (other p q (data_of-blob p is.2 is.1) read) refl

-- the first of three
first_of : (fault : Option FileFault) (b : Bool) (its : FileFault) (later : Option FileFault)
    → option_or (option_or fault (if b then Some its else None)) later ≡ option_or fault (if b then Some its else later)
first_of None true its later = refl
first_of None false its later = refl
first_of (Some fault) b its later = refl

no_other : (o : Option FileFault) → option_or o None ≡ o
no_other None = refl
no_other (Some fault) = refl

module _ (x : Snapshot) (fits : IsSnapshot x) (lane : ℕ) (bad : Damage) where
  abbrev own : Reader
  own = record { key = x.key; noted = [] }

  -- ---- what the plain store answers

  module _ (t : Store) (moment : ℕ) (there : snapshot_named x.key t.snapshots ≡ Some x) where
    key_is : key_of (key_text x.key) ≡ Some x.key
    key_is = keys x.key fits.key

    open_told : session t lane ≡ none → step_outcome t lane moment (step_of (opening (key_text x.key))) ≡ Ok (with_session t lane (reader own), Done)
    unfolding outcome open_reader idle_key idle_in key_in
    open_told idle =
        ap (λ (y : Session). (want_idle y >>= (λ u. or_else BadName (key_of (key_text x.key)))) >>= (λ key. or_else NoSnapshot (snapshot_named key t.snapshots) >>= (λ z.
        Ok (with_session t lane (reader (record { key = key; noted = [] })), Done)))) idle
        ∙ ap (λ (o : Option SnapshotKey). or_else BadName o >>= (λ key. or_else NoSnapshot (snapshot_named key t.snapshots) >>= (λ z.
        Ok (with_session t lane (reader (record { key = key; noted = [] })), Done)))) key_is
        ∙ ap (λ (o : Option Snapshot). or_else NoSnapshot o >>= (λ z. Ok (with_session t lane (reader own), Done))) there

    files_told : step_outcome t lane moment (step_of (listing (key_text x.key))) ≡ Ok (t, Files (file_rows x.files))
    unfolding outcome files key_in
    files_told =
        ap (λ (o : Option SnapshotKey). or_else BadName o >>= (λ key. or_else NoSnapshot (snapshot_named key t.snapshots) >>= (λ y. Ok (t, Files (file_rows y.files))))) key_is
        ∙ ap (λ (o : Option Snapshot). or_else NoSnapshot o >>= (λ y. Ok (t, Files (file_rows y.files)))) there

    close_told : session t lane ≡ reader own → close_reader t lane ≡ Ok (ended t lane, Done)
    unfolding close_reader
    close_told reads = ap (λ (y : Session). want_reader y >>= (λ u. Ok (ended t lane, Done))) reads

    module _ (reads : session t lane ≡ reader own) (f : File) (found : file_named f.name x.files ≡ Some f) where
      files_are : reader_files t own ≡ x.files
      files_are = ap (λ (o : Option Snapshot). elim o [ None ↦ [] | Some y ↦ y.files ]) there

      file_is : file_named f.name (reader_files t own) ≡ Some f
      file_is = ap (file_named f.name) files_are ∙ found

      part_told : (offset : ℕ) → is_file_name f.name ≡ true → offset ≤ length (file_text f.content)
          → read_file t lane f.name offset ≡ Ok (t, part_of (file_text f.content) offset)
      unfolding read_file download
      part_told offset named within =
          rw (reads, named, file_is, le-leb offset (length (file_text f.content)) within)

      chunk_told : (place : ℕ) (p : List ℕ) → is_index_name f.name ≡ true → slice_get (pieces_of f.content) place ≡ Some p
          → read_chunk t lane f.name place ≡ Ok (t, Data (blobs.blob p))
      unfolding read_chunk
      chunk_told place p named here = rw (reads, named, file_is, here)

  -- ---- steps

  -- with the snapshot's reader the job comes to its end, with these reads of chunks and this report
  abbrev Leads : List Step → Reply → Job → Type 0
  Leads reads report job = (n : ℕ) × ((s : Store) → session s lane ≡ reader own → lane < length s.sessions → EndsIn bad n reads x report lane s job)

  -- what the store is and answers behind a step
  abbrev StepsOn : ℕ → List Step → Reply → Asking → Store → Store × Reply → Type 0
  StepsOn n later report a t after =
      ((after.0).snapshots ≡ t.snapshots) × ((r : Reply) → MayReply bad (step_of a) after.1 r → EndsIn bad n later x report lane after.0 (take a r))

  -- by a step that leaves the store as it is
  by_step : (later : List Step) (report : Reply) (a : Asking) (reply : Reply) (job : Job)
      → ((t : Store) (moment : ℕ) → session t lane ≡ reader own → snapshot_named x.key t.snapshots ≡ Some x → step_outcome t lane moment (step_of a) ≡ Ok (t, reply))
      → ((r : Reply) → MayReply bad (step_of a) reply r → take a r ≡ job) → Leads later report job → Leads (chunk_read (step_of a) ++ later) report (asking a)
  by_step later report a reply job told goes next = (suc next.0, stepped)
    where
      stepped : (s : Store) → session s lane ≡ reader own → lane < length s.sessions → EndsIn bad (suc next.0) (chunk_read (step_of a) ++ later) x report lane s (asking a)
      stepped s reads inside = (
        later,
        refl,
        (λ t moment between.
            subst (λ (o : Outcome). StepsOn next.0 later report a t (answered t o)) (sym (told t moment (between.own ∙ reads) between.there)) (
              refl,
              (λ r is. subst (EndsIn bad next.0 later x report lane t) (sym (goes r is)) (next.1 t (between.own ∙ reads) (subst (λ n. lane < n) (sym between.lanes) inside))),
            )),
      )

  idle_again : (t : Store) → lane < length t.sessions → session (ended t lane) lane ≡ none
  idle_again t inside = get_or-set_same t.sessions lane none none inside

  -- the reader is closed
  closes : (files entries bytes : ℕ) (faults : List FaultRow) → Leads [] (Verified files entries bytes faults) (asking (closing (Verified files entries bytes faults)))
  unfolding take outcome
  closes files entries bytes faults = (suc zero, stepped)
    where
      report : Reply
      report = Verified files entries bytes faults

      stepped : (s : Store) → session s lane ≡ reader own → lane < length s.sessions → EndsIn bad (suc zero) [] x report lane s (asking (closing report))
      stepped s reads inside = (
        [],
        refl,
        (λ t moment between.
            subst (λ (o : Outcome). StepsOn zero [] report (closing report) t (answered t o)) (sym (close_told t moment between.there (between.own ∙ reads))) (
              refl,
              (λ r is. subst (λ q. EndsIn bad zero [] x report lane (ended t lane) (take (closing report) q)) (sym is) (refl, refl, idle_again t (subst (λ n. lane < n) (sym between.lanes) inside))),
            )),
      )

  -- ---- the walk

  abbrev at : ℕ → ℕ → ℕ → List FaultRow → List FileRow → Visit
  at files entries bytes faults later =
      record { snapshot = key_text x.key; files = files; entries = entries; bytes = bytes; faults = faults; later = later }

  abbrev rows : List File → List FileRow
  rows fs = map file_row (filter_map (fact_shown (facts_in x.files)) fs)

  -- a file, before those with these reads
  module _ (behind : List Step) (report : Reply) (f : File) (shows : Shows x f) where
    abbrev r : FileRow
    r = row f.name shows.size shows.csum

    -- what a read of the chunk at this place brings it to
    chunk_goes : (v : Visit) (fault : Option FileFault) (place : ℕ) (p : List ℕ) (later : List Piece) → IsPiece p → (b : Bool) (q : Reply) → ReadAs b (Data (blobs.blob p)) q
        → take (checking v r fault place (named_piece p) later) q ≡ next_chunk v r (option_or fault (if b then Some (Damaged (digest_of p)) else None)) (place + 1) later
    unfolding take checked
    chunk_goes v fault place p later piece false q is =
        ap (take (checking v r fault place (named_piece p) later)) is
        ∙ ap (λ o. next_chunk v r (option_or fault o) (place + 1) later) (whole_chunk p piece)
    chunk_goes v fault place p later piece true (Refused (refusals.Damaged asked found)) is = refl
    chunk_goes v fault place p later piece true (Data bytes) is = ap (λ o. next_chunk v r (option_or fault o) (place + 1) later) (other_chunk p bytes piece is)
    chunk_goes v fault place p later piece true q is = absurd is

    -- its chunks from a place on
    chunks : (v : Visit) (fault : Option FileFault) (place : ℕ) (ps : List (List ℕ)) → ((i : ℕ) → slice_get (pieces_of f.content) (place + i) ≡ slice_get ps i)
        → All (λ p. IsPiece p × (is_index_name f.name ≡ true)) ps → Leads behind report (file_done v r (option_or fault (damage_from bad f.name place ps)))
        → Leads (reads_from f.name place ps ++ behind) report (next_chunk v r fault place (map named_piece ps))
    unfolding next_chunk
    chunks v fault place [] here are done = subst (λ o. Leads behind report (file_done v r o)) (no_other fault) done
    chunks v fault place (p ∷ ps) here are done =
        let first = All-head (λ p. IsPiece p × (is_index_name f.name ≡ true)) p ps are in
        let first_is : slice_get (pieces_of f.content) place ≡ Some p = (let e : place + 0 ≡ place = omega arith in subst (λ n. slice_get (pieces_of f.content) n ≡ Some p) e (here 0)) in
        let its = option_or fault (if bad f.name place then Some (Damaged (digest_of p)) else None) in
        let later = chunks v its (place + 1) ps (λ i. (let e : (place + 1) + i ≡ place + suc i = omega arith in ap (slice_get (pieces_of f.content)) e ∙ here (suc i)))
        (All-tail (λ p. IsPiece p × (is_index_name f.name ≡ true)) p ps are)
        (subst (λ o. Leads behind report (file_done v r o)) (sym (first_of fault (bad f.name place) (Damaged (digest_of p)) (damage_from bad f.name (place + 1) ps))) done) in
        by_step (reads_from f.name (place + 1) ps ++ behind) report (checking v r fault place (named_piece p) (map named_piece ps)) (Data (blobs.blob p)) (next_chunk v r its (place + 1) (map named_piece ps))
        (λ t moment reads there. chunk_told t moment there reads f shows.found place p first.1 first_is)
        (chunk_goes v fault place p (map named_piece ps) first.0 (bad f.name place)) later

    no_rest : (xs ys : List ℕ) → nat_lt (length xs) (length (xs ++ ys)) ≡ false → xs ++ ys ≡ xs
    no_rest xs [] h = append-nil xs
    no_rest xs (y ∷ ys) h =
        let len = length-append xs (y ∷ ys) in
        let all = ltb-false (length xs) (length (xs ++ y ∷ ys)) h in
        absurd (omega (arith, len, all))

    abbrev its : List Step
    its = reads_of_file f ++ behind

    -- its parts behind these bytes of it
    module _ (v : Visit) (bytes rest : List ℕ) (is : bytes ++ rest ≡ file_text f.content) where
      abbrev more : List ℕ
      more = take_first part_limit rest

      further : (bytes ++ more) ++ drop part_limit rest ≡ file_text f.content
      further = append_assoc bytes more (drop part_limit rest) ∙ ap (λ xs. bytes ++ xs) (take-append-drop part_limit rest) ∙ is

      told : (t : Store) (moment : ℕ) → session t lane ≡ reader own → snapshot_named x.key t.snapshots ≡ Some x
          → read_file t lane f.name (length bytes) ≡ Ok (t, Part (length (file_text f.content)) more)
      told t moment reads there =
          part_told t moment there reads f shows.found (length bytes) shows.named (let len = length-append bytes rest in let size = ap length is in omega (arith, len, size))
          ∙ ap (λ xs. Ok (t, Part (length (file_text f.content)) (take_first part_limit xs))) (ap (drop (length bytes)) (sym is) ∙ drop-append_seam bytes rest)

      one_part : (length (bytes ++ more) < length (file_text f.content) → Leads its report (asking (reading v r (bytes ++ more))))
          → Leads its report (file_read v r (judged v.snapshot r (file_text f.content))) → Leads its report (asking (reading v r bytes))
      unfolding take read_part part_read
      one_part go done =
          by_step its report (reading v r bytes) (Part (length (file_text f.content)) more)
          (take (reading v r bytes) (Part (length (file_text f.content)) more)) told (λ q is. ap (take (reading v r bytes)) is)
          (subst (λ b. Leads its report (
          if b then file_done v r (Some (too_long r (length (file_text f.content)))) else
          if nat_lt (length (bytes ++ more)) (length (file_text f.content)) then asking (reading v r (bytes ++ more)) else
          file_read v r (judged v.snapshot r (bytes ++ more))))
          (sym (le-ltb (size_limit f.name) (length (file_text f.content)) shows.short))
          (by_test (nat_lt (length (bytes ++ more)) (length (file_text f.content))) refl))
        where
          by_test : (b : Bool) → nat_lt (length (bytes ++ more)) (length (file_text f.content)) ≡ b
              → Leads its report (if b then asking (reading v r (bytes ++ more)) else file_read v r (judged v.snapshot r (bytes ++ more)))
          by_test true h = go (ltb-true (length (bytes ++ more)) (length (file_text f.content)) h)
          by_test false h =
              subst (λ (bs : List ℕ). Leads its report (file_read v r (judged v.snapshot r bs)))
              (sym further ∙ no_rest (bytes ++ more) (drop part_limit rest) (ap (λ xs. nat_lt (length (bytes ++ more)) (length xs)) further ∙ h)) done

      left : length (bytes ++ more) < length (file_text f.content) → length (drop part_limit rest) + 1 ≤ length rest
      left h =
          let size = ap length further in
          let both = length-append (bytes ++ more) (drop part_limit rest) in
          let dropped = length-drop part_limit rest in
          omega (arith, h, size, both, dropped)

    parts : (v : Visit) (n : ℕ) (bytes rest : List ℕ) → length rest ≤ n → bytes ++ rest ≡ file_text f.content
        → Leads its report (file_read v r (judged v.snapshot r (file_text f.content))) → Leads its report (asking (reading v r bytes))
    parts v zero bytes rest few is done = one_part v bytes rest is (λ h. absurd (let less = left v bytes rest is h in omega (arith, less, few))) done
    parts v (suc n) bytes rest few is done =
        one_part v bytes rest is
        (λ h. parts v n (bytes ++ more v bytes rest is) (drop part_limit rest) (let less = left v bytes rest is h in omega (arith, less, few)) (further v bytes rest is) done) done

    -- all of it
    whole : (files entries bytes : ℕ) (faults : List FaultRow) (later : List FileRow) (fs : List File) (all : List FaultRow)
        → faults ++ filter_map (fault_in bad x) (f ∷ fs) ≡ all
        → ((more : List FaultRow) → more ++ filter_map (fault_in bad x) fs ≡ all
        → Leads behind report (next_file (at (files + 1) (entries + length (map named_piece (pieces_of f.content))) (bytes + length (concat (pieces_of f.content))) more later) later))
        → Leads its report (asking (reading (at files entries bytes faults later) r []))
    unfolding file_read file_done
    whole files entries bytes faults later fs all are next =
        parts v (length (file_text f.content)) [] (file_text f.content) (omega arith) refl
        (subst (λ (j : Judged). Leads its report (file_read v r j)) (sym shows.told)
        (chunks counted (fault_shown (is_as_listed x f)) 0 (pieces_of f.content) from_first shows.pieces (done (first_fault bad x f) are)))
      where
        v : Visit
        v = at files entries bytes faults later

        counted : Visit
        counted = at files (entries + length (map named_piece (pieces_of f.content))) (bytes + length (concat (pieces_of f.content))) faults later

        from_first : (i : ℕ) → slice_get (pieces_of f.content) (0 + i) ≡ slice_get (pieces_of f.content) i
        from_first i = (let e : 0 + i ≡ i = omega arith in ap (slice_get (pieces_of f.content)) e)

        done : (o : Option FileFault) → faults ++ cons_option (option_map (row_of f) o) (filter_map (fault_in bad x) fs) ≡ all → Leads behind report (file_done counted r o)
        done None is = next faults is
        done (Some fault) is = next (faults ++ row_of f fault ∷ []) (append_assoc faults (row_of f fault ∷ []) (filter_map (fault_in bad x) fs) ∙ is)

  abbrev pieces_from : List File → List (List ℕ)
  pieces_from fs = flat_map (λ (f : File). pieces_of f.content) fs

  walk : (fs : List File) → All (Shows x) fs → (files entries bytes : ℕ) (faults : List FaultRow) (before : List FileRow) (all_files all_entries all_bytes : ℕ) (all : List FaultRow)
      → files + length fs ≡ all_files → entries + length (pieces_from fs) ≡ all_entries → bytes + length (concat (pieces_from fs)) ≡ all_bytes
      → faults ++ filter_map (fault_in bad x) fs ≡ all
      → Leads (flat_map reads_of_file fs) (Verified all_files all_entries all_bytes all) (next_file (at files entries bytes faults before) (rows fs))
  unfolding next_file
  walk [] shown files entries bytes faults before all_files all_entries all_bytes all f e b are =
      let files_is : files ≡ all_files = omega (arith, f) in
      let entries_is : entries ≡ all_entries = omega (arith, e) in
      let bytes_is : bytes ≡ all_bytes = omega (arith, b) in
      let faults_is : faults ≡ all = sym (append-nil faults) ∙ are in
      let is : Verified files entries bytes faults ≡ Verified all_files all_entries all_bytes all = cc in
      subst (λ (report : Reply). Leads [] report (asking (closing (Verified files entries bytes faults)))) is (closes files entries bytes faults)
  walk (g ∷ fs) shown files entries bytes faults before all_files all_entries all_bytes all f e b are =
      let shows = All-head (Shows x) g fs shown in
      let report = Verified all_files all_entries all_bytes all in
      let ps = pieces_of g.content in
      let count = length-append ps (pieces_from fs) in
      let own_count = length-map ps named_piece in
      let joined = ap length (concat-append ps (pieces_from fs)) ∙ length-append (concat ps) (concat (pieces_from fs)) in
      subst (λ (o : Option Fact). Leads (flat_map reads_of_file (g ∷ fs)) report (next_file (at files entries bytes faults before) (map file_row (cons_option o (filter_map (fact_shown (facts_in x.files)) fs))))) (sym shows.shown)
      (whole (flat_map reads_of_file fs) report g shows files entries bytes faults (rows fs) fs all are (λ more is.
      walk fs (All-tail (Shows x) g fs shown) (files + 1) (entries + length (map named_piece ps)) (bytes + length (concat ps)) more (rows fs) all_files all_entries all_bytes all
      (omega (arith, f)) (omega (arith, e, count, own_count)) (omega (arith, b, joined)) is))

  verified : Leads (chunk_reads x) (report_of bad x) (asking (listing (key_text x.key)))
  unfolding take listed
  verified =
      by_step (chunk_reads x) (report_of bad x) (listing (key_text x.key)) (Files (file_rows x.files)) (take (listing (key_text x.key)) (Files (file_rows x.files)))
      (λ t moment reads there. files_told t moment there) (λ q is. ap (take (listing (key_text x.key))) is)
      (walk x.files (each_shows x fits) 0 0 0 [] [] (length x.files) (length (pieces_in x)) (length (concat (pieces_in x))) (filter_map (fault_in bad x) x.files)
      (omega arith) (omega arith) (omega arith) refl)

  from_start : (s : Store) → lane < length s.sessions → session s lane ≡ none → (n : ℕ) × EndsIn bad n (chunk_reads x) x (report_of bad x) lane s (asking (opening (key_text x.key)))
  unfolding take opened
  from_start s inside idle = (suc verified.0, stepped)
    where
      stepped : EndsIn bad (suc verified.0) (chunk_reads x) x (report_of bad x) lane s (asking (opening (key_text x.key)))
      stepped = (
        chunk_reads x,
        refl,
        (λ t moment between.
            let within : lane < length t.sessions = subst (λ n. lane < n) (sym between.lanes) inside in
            subst (λ (o : Outcome). StepsOn verified.0 (chunk_reads x) (report_of bad x) (opening (key_text x.key)) t (answered t o)) (sym (open_told t moment between.there (between.own ∙ idle))) (
              refl,
              (λ r is. subst (λ q. EndsIn bad verified.0 (chunk_reads x) x (report_of bad x) lane (with_session t lane (reader own)) (take (opening (key_text x.key)) q)) (sym is)
                  (verified.1 (with_session t lane (reader own)) (get_or-set_same t.sessions lane (reader own) none within)
                  (subst (λ n. lane < n) (sym (length-set t.sessions lane (reader own))) within))),
            )),
      )

pub sound_snapshots_verify : SoundSnapshotsVerify
sound_snapshots_verify x text s lane bad fits named inside idle =
    subst (λ t. (n : ℕ) × EndsIn bad n (chunk_reads x) x (report_of bad x) lane s (asking (opening t))) (sym (key_one text x.key named).1) (from_start x fits lane bad s inside idle)
