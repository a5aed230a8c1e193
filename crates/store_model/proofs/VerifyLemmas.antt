-- What whole files say to a VERIFY, how it goes on from one to the next, and its report.
use Rattle.std.proofs.Common.{◌≡◌, ℕ, ◌+◌, ◌-◌, ◌*◌, ◌≤◌, true, false, List, [], ◌∷◌, ◌++◌, length, Option, None, Some, Ok, refl, sym, ap, ◌∙◌, arith, length-append}
use Rattle.std.specs.Prelude.{◌<◌, ◌^◌, All, nat_lt}
use Rattle.std.specs.List.{flat_map}
use Rattle.std.specs.Option.{option_or}
use Rattle.std.specs.Str.{bytes_eq}
use Rattle.std.proofs.lemmas.Bool.{and_parts, ltb-true, lt-ltb, le-ltb, eqb-true}
use Rattle.std.proofs.lemmas.List.Elements.{All-nil, All-cons, All-head, All-tail}
use Rattle.sha2.specs.Sha256.{sha256}
use Rattle.store_types.specs.FileNames.{is_fixed_name, is_dynamic_name, manifest_name}
use Rattle.blob_codec.specs.Blob.{data_of}
use Rattle.store_files.specs.FixedIndex.{FixedIndex, fixed_of}
use Rattle.store_files.specs.FixedIndex as fixed_index
use Rattle.store_files.specs.DynamicIndex.{DynamicIndex, Ended, dynamic_of}
use Rattle.store_files.specs.DynamicIndex as dynamic_index
use Rattle.wire_commands.specs.declared.rows.FileRow.{FileRow}
use Rattle.wire_commands.specs.declared.rows.FileFault.{FileFault}
use Rattle.wire_commands.specs.declared.rows.FileFault.TheVariants as faults
use Rattle.wire_commands.specs.declared.rows.FaultRow.{FaultRow}
use Rattle.wire_commands.specs.declared.reply.Reply.TheVariants.{Verified}
use Rattle.wire_commands.specs.ReplyText.{file_fault_text, fault_row_text, reply_text}
use Rattle.wire_commands.specs.HasText.{FitsFileFault, FitsFaultRow, ReplyHasText}
use Rattle.store_types.specs.declared.piece.Piece.{Piece}
use Rattle.store_model.specs.SizeLimits.{size_limit}
use Rattle.store_model.specs.Job.{Visit, asking, reading, closing}
use Rattle.store_model.specs.FaultRows.{fault_fits, IsFitRow}
use Rattle.store_model.specs.VerifyJob.{Judged, tally, next_file, digest, without_entries, compared, last_end, fixed_pieces, fixed_judged, dynamic_pieces, dynamic_judged, manifest_fault, blob_fault, blob_judged, judged, file_done, file_read, too_long, part_read}

-- ---- the report

fault_short : (f : FileFault) → FitsFileFault f → length (file_fault_text f) ≤ 33
fault_short faults.Differs h = omega arith
fault_short (faults.Damaged d) h = omega (arith, h)
fault_short faults.Unreadable h = omega arith

rows_short : (rows : List FaultRow) → All FitsFaultRow rows → length (flat_map fault_row_text rows) ≤ 290 * length rows
rows_short [] fit = omega arith
rows_short (r ∷ rs) fit =
    let first = All-head FitsFaultRow r rs fit in
    let rest = rows_short rs (All-tail FitsFaultRow r rs fit) in
    simp length-append (omega (arith, first.0, fault_short r.fault first.1, rest))

-- the test's rows
fault_of_test : (f : FileFault) → fault_fits f ≡ true → FitsFileFault f
fault_of_test (faults.Damaged d) h = eqb-true (length d.0) 32 h
fault_of_test f h = tt

pub rows_of_test : (rows : List FaultRow) → All IsFitRow rows → All FitsFaultRow rows
rows_of_test [] fit = All-nil FitsFaultRow
rows_of_test (r ∷ rs) fit =
    let parts = and_parts (nat_lt (length r.file) 256) (fault_fits r.fault) (All-head IsFitRow r rs fit) in
    All-cons FitsFaultRow r rs (ltb-true (length r.file) 256 parts.0, fault_of_test r.fault parts.1) (rows_of_test rs (All-tail IsFitRow r rs fit))

pub verified_spelled : (files entries bytes : ℕ) (rows : List FaultRow) → files < 256 → entries < 2 ^ 64 → bytes < 2 ^ 64 → length rows ≤ files → All FitsFaultRow rows
    → ReplyHasText (Verified files entries bytes rows)
unfolding reply_text
verified_spelled files entries bytes rows few counted summed within fit =
    ((few, counted, summed, omega (arith, few, within), fit), simp length-append (omega (arith, few, within, rows_short rows fit)))

-- ---- from file to file

module _ (v : Visit) where
  pub next_none : (later : List FileRow) → length later ≡ 0 → asking (closing (tally v)) ≡ next_file v later
  unfolding next_file
  next_none [] h = refl
  next_none (r ∷ rs) h = absurd (omega arith)

  pub next_some : (later rest : List FileRow) (row : FileRow) → later ≡ row ∷ rest → asking (reading (record v { later = rest }) row []) ≡ next_file v later
  unfolding next_file
  next_some later rest row is = sym (ap (next_file v) is)

-- where the files to come are told, those before do not matter
pub next_any : (v : Visit) (before later : List FileRow) → next_file (record v { later = before }) later ≡ next_file v later
unfolding next_file
next_any v before [] = refl
next_any v before (r ∷ rs) = refl

-- ---- parts of a file

module _ (v : Visit) (row : FileRow) (bytes : List ℕ) (total : ℕ) where
  pub part_too_long : size_limit row.file < total → file_done v row (Some (too_long row total)) ≡ part_read v row bytes total
  unfolding part_read
  part_too_long h = rw (lt-ltb (size_limit row.file) total h) refl

  module _ (fits : total ≤ size_limit row.file) where
    -- more of the file is to come
    pub part_more : length bytes < total → asking (reading v row bytes) ≡ part_read v row bytes total
    unfolding part_read
    part_more h = rw (le-ltb (size_limit row.file) total fits, lt-ltb (length bytes) total h) refl

    pub part_whole : total ≤ length bytes → file_read v row (judged v.snapshot row bytes) ≡ part_read v row bytes total
    unfolding part_read
    part_whole within = rw (le-ltb (size_limit row.file) total fits, le-ltb (length bytes) total within) refl

-- ---- the pieces of an index, one behind another

abbrev pub piece : List ℕ → ℕ → Piece
piece d len = record { digest = digest d; length = len }

pub fixed_pieces_more : (size chunk_size offset : ℕ) (ds : List (List ℕ)) (d : List ℕ)
    → fixed_pieces size chunk_size offset (ds ++ d ∷ [])
    ≡ fixed_pieces size chunk_size offset ds ++ piece d (fixed_index.piece_len size chunk_size (offset + length ds * chunk_size)) ∷ []
fixed_pieces_more size chunk_size offset [] d = ap (λ n. piece d (fixed_index.piece_len size chunk_size n) ∷ []) (omega arith)
fixed_pieces_more size chunk_size offset (x ∷ ds) d =
    ap (λ l. piece x (fixed_index.piece_len size chunk_size offset) ∷ l)
    (fixed_pieces_more size chunk_size (offset + chunk_size) ds d
    ∙ ap (λ n. fixed_pieces size chunk_size (offset + chunk_size) ds ++ piece d (fixed_index.piece_len size chunk_size n) ∷ []) (omega arith))

-- where the last of these entries ends, or the start where there is none
abbrev pub end_behind : ℕ → List Ended → ℕ
end_behind start [] = start
end_behind start (e ∷ es) = end_behind e.end es

pub dynamic_pieces_more : (start : ℕ) (es : List Ended) (e : Ended)
    → dynamic_pieces start (es ++ e ∷ []) ≡ dynamic_pieces start es ++ piece e.digest (e.end - end_behind start es) ∷ []
dynamic_pieces_more start [] e = refl
dynamic_pieces_more start (x ∷ es) e = ap (λ l. piece x.digest (x.end - start) ∷ l) (dynamic_pieces_more x.end es e)

-- ---- an index that is read

made : {fault fault' : Option FileFault} {bytes bytes' : ℕ} {entries entries' : List Piece} → fault ≡ fault' → bytes ≡ bytes' → entries ≡ entries'
    → let a : Judged = record { fault = fault; bytes = bytes; entries = entries } in let b : Judged = record { fault = fault'; bytes = bytes'; entries = entries' } in a ≡ b
made f b d = cc

module _ (row : FileRow) (bytes : List ℕ) (fault : Option FileFault) (total : ℕ) (csum : List ℕ) (entries : List Piece) (differs : fault ≡ compared row total csum) where
  compared_so : (size : ℕ) (sum : List ℕ) → total ≡ size → csum ≡ sum → fault ≡ compared row size sum
  compared_so size sum sized summed = differs ∙ ap (λ n. compared row n csum) sized ∙ ap (compared row size) summed

  pub fixed_read : (x : FixedIndex) → fixed_of bytes ≡ Ok x → total ≡ x.size → csum ≡ fixed_index.csum_of x → entries ≡ fixed_pieces x.size x.chunk_size 0 x.digests
      → (let j : Judged = record { fault = fault; bytes = total; entries = entries } in j) ≡ fixed_judged row bytes
  unfolding fixed_judged
  fixed_read x reads sized summed named = rw (reads, fixed_judged) (made (compared_so x.size (fixed_index.csum_of x) sized summed) sized named)

  pub dynamic_read : (x : DynamicIndex) → dynamic_of bytes ≡ Ok x → total ≡ last_end x.entries → csum ≡ dynamic_index.csum_of x → entries ≡ dynamic_pieces 0 x.entries
      → (let j : Judged = record { fault = fault; bytes = total; entries = entries } in j) ≡ dynamic_judged row bytes
  unfolding dynamic_judged
  dynamic_read x reads sized summed named = rw (reads, dynamic_judged) (made (compared_so (last_end x.entries) (dynamic_index.csum_of x) sized summed) sized named)

-- ---- a blob

module _ (snapshot name bytes contents : List ℕ) (reads : data_of bytes ≡ Ok contents) where
  pub blob_manifest : bytes_eq name manifest_name ≡ true → manifest_fault snapshot contents ≡ blob_fault snapshot name bytes
  blob_manifest h = rw (blob_fault, reads, h) refl

  pub blob_other : bytes_eq name manifest_name ≡ false → None ≡ blob_fault snapshot name bytes
  blob_other h = rw (blob_fault, reads, h) refl

-- ---- by the file's name

module _ (snapshot bytes : List ℕ) (row : FileRow) where
  pub judged_fixed : is_fixed_name row.file ≡ true → fixed_judged row bytes ≡ judged snapshot row bytes
  unfolding judged
  judged_fixed h = rw h refl

  module _ (other : is_fixed_name row.file ≡ false) where
    pub judged_dynamic : is_dynamic_name row.file ≡ true → dynamic_judged row bytes ≡ judged snapshot row bytes
    unfolding judged
    judged_dynamic h = rw (other, h) refl

    pub judged_blob : is_dynamic_name row.file ≡ false → without_entries (option_or (compared row (length bytes) (sha256 bytes)) (blob_fault snapshot row.file bytes)) ≡ judged snapshot row bytes
    unfolding judged blob_judged
    judged_blob h = rw (other, h) refl
