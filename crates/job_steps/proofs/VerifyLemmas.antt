-- What a VERIFY makes of the replies to its steps.
use Rattle.std.proofs.Common.{◌≡◌, ℕ, ◌≤◌, Bool, true, false, List, ◌∷◌, ◌++◌, drop, length, Option, None, Some, refl, sym, ap, subst, ◌∙◌, arith, if◌then◌else◌}
use Rattle.std.specs.Prelude.{◌+◌, ◌<◌, is_some, nat_lt}
use Rattle.std.specs.Option.{option_map, option_or}
use Rattle.std.proofs.lemmas.Bool.{true≢false, false≢true, ltb-true, ltb-false, lt-ltb, le-ltb, eq-eqb}
use Rattle.store_types.specs.declared.names.Digest32.{Digest32}
use Rattle.store_types.specs.declared.refusal.Refusal.TheVariants.{Damaged, Unreadable}
use Rattle.wire_commands.specs.declared.rows.FileRow.{FileRow}
use Rattle.wire_commands.specs.declared.rows.FileFault.{FileFault}
use Rattle.wire_commands.specs.declared.rows.FileFault.TheVariants as faults
use Rattle.wire_commands.specs.declared.reply.Reply.{Reply}
use Rattle.wire_commands.specs.declared.reply.Reply.TheVariants.{Part, Data, Refused}
use Rattle.store_model.specs.declared.step.Step.TheVariants.{ReadChunk}
use Rattle.store_types.specs.declared.piece.Piece.{Piece}
use Rattle.store_model.specs.SizeLimits.{size_limit}
use Rattle.store_model.specs.Job.{Visit, asking, reading, closing, next, ended_by}
use Rattle.store_model.specs.Jobs.{take, take_more}
use Rattle.store_model.specs.VerifyJob.{Judged, file_done, next_chunk, with_fault, judged, file_read, too_long, part_read, read_part, checked}
use Rattle.store_model.proofs.VerifyLemmas.{part_more, part_too_long, part_whole}
use Rattle.job_steps.specs.declared.chunks.Chunks.{Chunks}
use Rattle.job_steps.specs.declared.stages.Checking.{Checking}
use Rattle.job_steps.specs.declared.stages.Reading.{Reading}
use Rattle.job_steps.specs.declared.stages.Whole.{Whole}
use Rattle.job_steps.specs.declared.visit.Visit as stages
use Rattle.job_steps.specs.Checks.{checked_by, fault_of, fault_told, found_by, job_of, read_by, read_on, reading_of, shown_whole, stops, unread_by}
use Rattle.job_steps.specs.FaultRows.{IsFitFault}
use Rattle.job_steps.specs.Replies.{EndsInText}
use Rattle.job_steps.specs.States.{chunks_of}
use Rattle.job_steps.specs.Visits.{HasNext, IsRead, IsSettled, fault_in, judged_by, long_fault, next_piece, pieces_left, place_in, shown_visit}
use Rattle.job_steps.proofs.BatchLemmas.{fault_settled, left_is, none_left}

-- the files to come are as they were
pub later_kept : (v : Visit) (row : FileRow) (fault : Option FileFault) → (with_fault row fault v).later ≡ v.later
later_kept v row None = refl
later_kept v row (Some fault) = refl

-- ---- parts of a file

inner : {A : Type 0} {x y : A} → (let a : Option A = Some x in a) ≡ Some y → x ≡ y
inner e = cc

module _ (v : Visit) (row : FileRow) (bytes : List ℕ) (total : ℕ) where
  pub judged_more : length bytes < total → judged_by v row bytes total ≡ None
  judged_more h = rw (lt-ltb (length bytes) total h, judged_by) refl

  pub judged_whole : total ≤ length bytes → judged_by v row bytes total ≡ Some (judged v.snapshot row bytes)
  judged_whole within = rw (le-ltb (length bytes) total within, judged_by) refl

-- of a file that is not too long, or is
pub not_long : (row : FileRow) (total : ℕ) → None ≡ long_fault row total → total ≤ size_limit row.file
not_long row total is = by_test (nat_lt (size_limit row.file) total) refl is
  where
    by_test : (b : Bool) → nat_lt (size_limit row.file) total ≡ b → None ≡ (if b then Some (too_long row total) else None) → total ≤ size_limit row.file
    by_test true h none = let clash : None ≡ Some (too_long row total) = none in absurd cc
    by_test false h none = ltb-false (size_limit row.file) total h

pub long_done : (v : Visit) (row : FileRow) (bytes : List ℕ) (total : ℕ) (fault : FileFault) → Some fault ≡ long_fault row total
    → file_done v row (Some fault) ≡ part_read v row bytes total
long_done v row bytes total fault is = by_test (nat_lt (size_limit row.file) total) refl is
  where
    by_test : (b : Bool) → nat_lt (size_limit row.file) total ≡ b → Some fault ≡ (if b then Some (too_long row total) else None) → file_done v row (Some fault) ≡ part_read v row bytes total
    by_test true h some = ap (file_done v row) some ∙ part_too_long v row bytes total (ltb-true (size_limit row.file) total h)
    by_test false h some = let clash : Some fault ≡ None = some in absurd cc

-- a part is behind the bytes of the same file
module _ (r after : Reading) (visit : after.visit ≡ r.visit) (row : after.row ≡ r.row) where
  module _ (more : List ℕ) (total : ℕ) (fits : total ≤ size_limit r.row.file) (bytes : after.bytes.items ≡ r.bytes.items ++ more) where
    goes_on : asking (reading (shown_visit r.visit) r.row (r.bytes.items ++ more)) ≡ reading_of after
    goes_on =
        sym
        (ap (λ (x : stages.Visit). asking (reading (shown_visit x) after.row after.bytes.items)) visit
        ∙ ap (λ x. asking (reading (shown_visit r.visit) x after.bytes.items)) row ∙ ap (λ x. asking (reading (shown_visit r.visit) r.row x)) bytes)

    ends_so : (j : Judged) → file_read (shown_visit r.visit) r.row j ≡ file_read (shown_visit after.visit) after.row j
    ends_so j =
        sym (ap (λ (x : stages.Visit). file_read (shown_visit x) after.row j) visit ∙ ap (λ x. file_read (shown_visit r.visit) x j) row)

    by_test : (whole : Option Whole) → option_map shown_whole whole ≡ judged_by (shown_visit r.visit) r.row (r.bytes.items ++ more) total
        → (t : Bool) → nat_lt (length (r.bytes.items ++ more)) total ≡ t
        → read_on after whole ≡ part_read (shown_visit r.visit) r.row (r.bytes.items ++ more) total
    by_test None told true h =
        let short : length (r.bytes.items ++ more) < total = ltb-true (length (r.bytes.items ++ more)) total h in
        sym goes_on ∙ part_more (shown_visit r.visit) r.row (r.bytes.items ++ more) total fits short
    by_test None told false h =
        let within : total ≤ length (r.bytes.items ++ more) = ltb-false (length (r.bytes.items ++ more)) total h in
        let is = told ∙ judged_whole (shown_visit r.visit) r.row (r.bytes.items ++ more) total within in
        absurd (false≢true (ap is_some is))
    by_test (Some w) told true h =
        let short : length (r.bytes.items ++ more) < total = ltb-true (length (r.bytes.items ++ more)) total h in
        let is = told ∙ judged_more (shown_visit r.visit) r.row (r.bytes.items ++ more) total short in
        absurd (true≢false (ap is_some is))
    by_test (Some w) told false h =
        let within : total ≤ length (r.bytes.items ++ more) = ltb-false (length (r.bytes.items ++ more)) total h in
        let is = told ∙ judged_whole (shown_visit r.visit) r.row (r.bytes.items ++ more) total within in
        let same : shown_whole w ≡ judged (shown_visit r.visit).snapshot r.row (r.bytes.items ++ more) = inner is in
        sym (ends_so (shown_whole w)) ∙ ap (file_read (shown_visit r.visit) r.row) same ∙ part_whole (shown_visit r.visit) r.row (r.bytes.items ++ more) total fits within

    pub part_taken : (whole : Option Whole) → option_map shown_whole whole ≡ judged_by (shown_visit r.visit) r.row (r.bytes.items ++ more) total
        → read_on after whole ≡ part_read (shown_visit r.visit) r.row (r.bytes.items ++ more) total
    part_taken whole told = by_test whole told (nat_lt (length (r.bytes.items ++ more)) total) refl

-- the file is whole, and its chunks come next
pub chunks_first : (v after : Visit) (row : FileRow) (w : Whole)
    → after ≡ (let y : Visit = record v { entries = v.entries + length (w.chunks.entries.items); bytes = v.bytes + w.bytes } in y)
    → next_chunk after row (fault_in w.fault w.chunks) (place_in w.chunks) (pieces_left w.chunks) ≡ file_read v row (shown_whole w)
unfolding file_read
chunks_first v after row w is =
    let at : place_in w.chunks ≡ 0 = omega (arith, w.unread.0, ap length w.unread.1.1) in
    ap (λ f. next_chunk after row f (place_in w.chunks) (pieces_left w.chunks)) (fault_settled w.fault w.chunks w.unread.1)
    ∙ ap (λ n. next_chunk after row w.fault n (drop n w.chunks.entries.items)) at
    ∙ ap (λ (x : Visit). next_chunk x row w.fault 0 w.chunks.entries.items) is

-- a fault ends the file
module _ (r : Reading) (reply : Reply) where
  pub fault_read : (fault : FileFault) → fault_told reply ≡ Some fault → file_done (shown_visit r.visit) r.row (Some fault) ≡ unread_by r reply
  fault_read fault h = rw (h, unread_by) refl

  pub ended_read : fault_told reply ≡ None → ended_by closing reply ≡ unread_by r reply
  ended_read h = rw (h, unread_by) refl

-- any reply to the read of a part, as the model has it
pub read_is : (r : Reading) (reply : Reply) → read_by r reply ≡ take_more (reading_of r) reply
unfolding take read_part
read_is r (Part total more) = refl
read_is r (Refused (Damaged asked found)) = refl
read_is r (Refused (Unreadable name)) = refl
read_is r (Refused refusal) = refl
read_is r reply = refl

-- ---- a chunk

taken : (v : Visit) (row : FileRow) (fault : Option FileFault) (place : ℕ) (p : Piece) (left later : List Piece) (reply : Reply) → left ≡ p ∷ later
    → checked v row fault place p later reply ≡ take_more (next_chunk v row fault place left) reply
unfolding take next_chunk
taken v row fault place p left later reply is = sym (ap (λ xs. take_more (next_chunk v row fault place xs) reply) is)

module _ (c : Checking) where
  by_reply : (reply : Reply)
      → checked_by c reply ≡ checked (shown_visit c.visit) c.row (fault_of c) (place_in c.chunks) (next_piece c.chunks) (drop 1 (pieces_left c.chunks)) reply
  unfolding checked
  by_reply (Data bytes) = refl
  by_reply (Refused (Damaged asked found)) = refl
  by_reply (Refused (Unreadable name)) = refl
  by_reply (Refused refusal) = refl
  by_reply reply = refl

  -- any reply to the read of a chunk, as the model has it
  pub checked_is : (reply : Reply) → checked_by c reply ≡ take_more (job_of c) reply
  checked_is reply =
      by_reply reply
      ∙ taken (shown_visit c.visit) c.row (fault_of c) (place_in c.chunks) (next_piece c.chunks) (pieces_left c.chunks) (drop 1 (pieces_left c.chunks)) reply (left_is c.chunks c.next)

  -- the next chunk is read, with this fault of it
  pub found_so : (fault : Option FileFault) (place : ℕ) (left : List Piece) (found : Option FileFault)
      → fault ≡ option_or (fault_of c) found → place ≡ place_in c.chunks + 1 → left ≡ drop 1 (pieces_left c.chunks)
      → next_chunk (shown_visit c.visit) c.row fault place left ≡ found_by c found
  found_so fault place left found told at later =
      ap (λ f. next_chunk (shown_visit c.visit) c.row f place left) told
      ∙ ap (λ n. next_chunk (shown_visit c.visit) c.row (option_or (fault_of c) found) n left) at
      ∙ ap (next_chunk (shown_visit c.visit) c.row (option_or (fault_of c) found) (place_in c.chunks + 1)) later

  -- what is asked
  pub asks_chunk : next (job_of c) ≡ Some (ReadChunk (c.row).file (place_in c.chunks))
  unfolding next_chunk
  asks_chunk =
      ap (λ xs. next (next_chunk (shown_visit c.visit) c.row (fault_of c) (place_in c.chunks) xs)) (left_is c.chunks c.next)

  pub goes_on_checking : stops (job_of c) ≡ false
  unfolding next_chunk
  goes_on_checking =
      ap (λ xs. stops (next_chunk (shown_visit c.visit) c.row (fault_of c) (place_in c.chunks) xs)) (left_is c.chunks c.next)

-- behind the last chunk the file is done
pub chunks_done : (v : stages.Visit) (row : FileRow) (fault : Option FileFault) (chunks : Chunks) → IsRead chunks → IsSettled chunks
    → file_done (shown_visit v) row fault ≡ chunks_of v row fault chunks
unfolding next_chunk
chunks_done v row fault chunks read settled =
    sym
    (ap (λ f. next_chunk (shown_visit v) row f (place_in chunks) (pieces_left chunks)) (fault_settled fault chunks settled)
    ∙ ap (next_chunk (shown_visit v) row fault (place_in chunks)) (none_left chunks read))

-- a job that reads chunks has a text
pub chunks_text : (v : stages.Visit) (row : FileRow) (fault : Option FileFault) (chunks : Chunks) → HasNext chunks → EndsInText (chunks_of v row fault chunks)
unfolding next_chunk
chunks_text v row fault chunks next =
    subst (λ xs. EndsInText (next_chunk (shown_visit v) row (fault_in fault chunks) (place_in chunks) xs)) (sym (left_is chunks next)) tt

-- a damaged chunk's fault has a text
pub damaged_fits : (d : Digest32) → length (d.0) ≡ 32 → IsFitFault (Some (faults.Damaged d))
damaged_fits d h = eq-eqb (length (d.0)) 32 h
