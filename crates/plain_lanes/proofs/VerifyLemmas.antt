-- What a VERIFY makes of the replies to its steps.
use Rattle.std.proofs.Common.{◌≡◌, ℕ, true, false, List, [], ◌∷◌, length, Option, None, Some, refl, sym, ap, ◌∙◌, arith}
use Rattle.std.specs.Prelude.{◌+◌, ◌<◌, ◌≤◌, ◌&&◌, Bool, if◌then◌else◌}
use Rattle.std.specs.Option.{option_or}
use Rattle.std.specs.Prelude.{nat_lt}
use Rattle.std.proofs.lemmas.Bool.{lt-ltb, ltb-false, ltb-true, eq-eqb}
use Rattle.store_types.specs.declared.refusal.Refusal.TheVariants.{Damaged, Unreadable}
use Rattle.wire_commands.specs.declared.rows.FileRow.{FileRow}
use Rattle.wire_commands.specs.declared.rows.FileFault.{FileFault}
use Rattle.wire_commands.specs.declared.rows.FileFault.TheVariants as faults
use Rattle.wire_commands.specs.declared.reply.Reply.{Reply}
use Rattle.wire_commands.specs.declared.reply.Reply.TheVariants.{Done, Part, Data, Files, Refused}
use Rattle.wire_commands.specs.HasText.{FitsFileFault}
use Rattle.store_types.specs.declared.piece.Piece.{Piece}
use Rattle.store_model.specs.SizeLimits.{size_limit}
use Rattle.store_model.specs.Job.{Visit, over, asking, listing, checking, closing, ended_by}
use Rattle.store_model.specs.VerifyJob.{file_done, next_chunk, with_fault, opened, listed, read_part, chunk_fault, checked, too_long}
use Rattle.store_model.specs.FaultRows.{fault_fits}
use Rattle.plain_lanes.specs.Visits.{is_done, is_files, is_part, is_data, fault_told, long_fault_of, chunk_told, unreadable_told, chunk_judged, with_faults, read_by, checked_by}

-- ---- the report

fault_tested : (f : FileFault) → FitsFileFault f → fault_fits f ≡ true
fault_tested (faults.Damaged d) h = eq-eqb (length d.0) 32 h
fault_tested f h = refl

pub row_tested : (file : List ℕ) (f : FileFault) → length file < 256 → FitsFileFault f → (nat_lt (length file) 256 && fault_fits f) ≡ true
row_tested file f short fits = rw (lt-ltb (length file) 256 short, fault_tested f fits) refl

-- ---- from file to file

-- one more file, with its fault
pub fault_pushed : (v : Visit) (row : FileRow) (fault : Option FileFault)
    → with_fault row fault (record v { files = v.files + 1 }) ≡ (let y : Visit = record v { files = v.files + 1; faults = with_faults row fault v.faults } in y)
fault_pushed v row None = refl
fault_pushed v row (Some fault) = refl

-- on to the next chunk of a file
module _ (v : Visit) (row : FileRow) (fault : Option FileFault) (place : ℕ) where
  pub no_chunk : (pieces : List Piece) → length pieces ≡ 0 → file_done v row fault ≡ next_chunk v row fault place pieces
  unfolding next_chunk
  no_chunk [] h = refl
  no_chunk (p ∷ ps) h = absurd (omega arith)

  pub a_chunk : (pieces rest : List Piece) (p : Piece) → pieces ≡ p ∷ rest → asking (checking v row fault place p rest) ≡ next_chunk v row fault place pieces
  unfolding next_chunk
  a_chunk pieces rest p is = sym (ap (next_chunk v row fault place) is)

-- ---- a part

-- whether the file is longer than one of its kind may be
module _ (row : FileRow) (total : ℕ) where
  long_by : (b : Bool) → nat_lt (size_limit row.file) total ≡ b → (fault : Option FileFault) → long_fault_of row total ≡ fault
      → (if b then Some (too_long row total) else None) ≡ fault
  long_by b is fault told = sym (ap (λ x. if x then Some (too_long row total) else None) is) ∙ told

  pub long_some : (f : FileFault) → long_fault_of row total ≡ Some f → (size_limit row.file < total) × (f ≡ too_long row total)
  long_some f told = by_test (nat_lt (size_limit row.file) total) refl
    where
      by_test : (b : Bool) → nat_lt (size_limit row.file) total ≡ b → (size_limit row.file < total) × (f ≡ too_long row total)
      by_test true is = let same = long_by true is (Some f) told in (ltb-true (size_limit row.file) total is, cc)
      by_test false is = let same = long_by false is (Some f) told in absurd (cc)

  pub long_none : long_fault_of row total ≡ None → total ≤ size_limit row.file
  long_none told = by_test (nat_lt (size_limit row.file) total) refl
    where
      by_test : (b : Bool) → nat_lt (size_limit row.file) total ≡ b → total ≤ size_limit row.file
      by_test true is = let same = long_by true is None told in absurd (cc)
      by_test false is = ltb-false (size_limit row.file) total is

-- ---- the replies

pub opens_done : (snapshot : List ℕ) (reply : Reply) → is_done reply ≡ true → asking (listing snapshot) ≡ opened snapshot reply
unfolding opened
opens_done snapshot Done h = refl
opens_done snapshot reply h = cc

pub opens_not : (snapshot : List ℕ) (reply : Reply) → is_done reply ≡ false → over reply ≡ opened snapshot reply
unfolding opened
opens_not snapshot Done h = cc
opens_not snapshot reply h = refl

pub listed_not : (snapshot : List ℕ) (reply : Reply) → is_files reply ≡ false → ended_by closing reply ≡ listed snapshot reply
unfolding listed
listed_not snapshot (Files rows) h = cc
listed_not snapshot (Refused refusal) h = refl
listed_not snapshot reply h = refl

module _ (v : Visit) (row : FileRow) where
  -- a fault ends the file
  pub fault_read : (reply : Reply) (fault : FileFault) → fault_told reply ≡ Some fault → file_done v row (Some fault) ≡ read_by v row reply
  fault_read reply fault h = rw (h, read_by) refl

  pub ended_read : (reply : Reply) → fault_told reply ≡ None → ended_by closing reply ≡ read_by v row reply
  ended_read reply h = rw (h, read_by) refl

  pub read_not : (bytes : List ℕ) (reply : Reply) → is_part reply ≡ false → read_by v row reply ≡ read_part v row bytes reply
  unfolding read_part
  read_not bytes (Part total more) h = cc
  read_not bytes (Refused (Damaged asked found)) h = refl
  read_not bytes (Refused (Unreadable name)) h = refl
  read_not bytes (Refused refusal) h = refl
  read_not bytes reply h = refl

  module _ (fault : Option FileFault) where
    pub unreadable_done : (reply : Reply) → unreadable_told reply ≡ true → file_done v row (option_or fault (Some faults.Unreadable)) ≡ checked_by v row fault reply
    unreadable_done (Refused (Unreadable name)) h = refl
    unreadable_done (Refused refusal) h = cc
    unreadable_done reply h = cc

    pub checked_ended : (reply : Reply) → unreadable_told reply ≡ false → ended_by closing reply ≡ checked_by v row fault reply
    checked_ended (Refused (Unreadable name)) h = cc
    checked_ended (Refused refusal) h = refl
    checked_ended reply h = refl

    module _ (place : ℕ) (p : Piece) (later : List Piece) where
      pub chunk_checked : (reply : Reply) (found : Option FileFault) → chunk_judged reply p ≡ Some found
          → next_chunk v row (option_or fault found) (place + 1) later ≡ checked v row fault place p later reply
      unfolding checked
      chunk_checked (Data bytes) found h = ap (λ x. next_chunk v row (option_or fault x) (place + 1) later) (let is : found ≡ chunk_fault p bytes = cc in is)
      chunk_checked (Refused (Damaged asked given)) found h = ap (λ x. next_chunk v row (option_or fault x) (place + 1) later) (let is : found ≡ Some (faults.Damaged p.digest) = cc in is)
      chunk_checked (Refused refusal) found h = cc
      chunk_checked reply found h = cc

      pub not_checked : (reply : Reply) → chunk_judged reply p ≡ None → checked_by v row fault reply ≡ checked v row fault place p later reply
      unfolding checked
      not_checked (Data bytes) h = cc
      not_checked (Refused (Damaged asked given)) h = cc
      not_checked (Refused (Unreadable name)) h = refl
      not_checked (Refused refusal) h = refl
      not_checked reply h = refl

-- the fault of a chunk that a reply tells
pub fault_judged : (reply : Reply) (p : Piece) (f : FileFault) → chunk_told reply p.digest ≡ Some f → chunk_judged reply p ≡ Some (Some f)
fault_judged (Data bytes) p f h = cc
fault_judged (Refused (Damaged asked given)) p f h = ap (λ o. (let x : Option (Option FileFault) = Some o in x)) h
fault_judged (Refused refusal) p f h = cc
fault_judged reply p f h = cc

pub none_judged : (reply : Reply) (p : Piece) → is_data reply ≡ false → chunk_told reply p.digest ≡ None → chunk_judged reply p ≡ None
none_judged (Data bytes) p other h = cc
none_judged (Refused (Damaged asked given)) p other h = cc
none_judged (Refused refusal) p other h = refl
none_judged reply p other h = refl
