-- The reply that a body spells, by the form of the command's replies.
use Rattle.std.specs.Prelude.{ℕ, zero, suc, List, length, ◌==◌, nat_le, if◌then◌else◌, Option, Some, None}
use Rattle.std.specs.Int.{w64}
use Rattle.wire_commands.specs.declared.rows.ListRow.{ListRow}
use Rattle.wire_commands.specs.declared.rows.FileRow.{FileRow}
use Rattle.wire_commands.specs.declared.rows.PruneMark.{PruneMark}
use Rattle.wire_commands.specs.declared.rows.PruneMark.TheVariants.{Removed, Kept, Held, Gone}
use Rattle.wire_commands.specs.declared.rows.PruneRow.{PruneRow}
use Rattle.wire_commands.specs.declared.rows.FileFault.{FileFault}
use Rattle.wire_commands.specs.declared.rows.FileFault.TheVariants.{Differs, Damaged, Unreadable}
use Rattle.wire_commands.specs.declared.rows.FaultRow.{FaultRow}
use Rattle.store_types.specs.Chain.Reading.{◌>>=◌, only_if}
use Rattle.wire_frames.specs.Frames.{body_limit}
use Rattle.wire_commands.specs.declared.reply.Reply.{Reply}
use Rattle.wire_commands.specs.declared.reply.Reply.TheVariants.{Done, Base, Part, Data, Number, Listing, Files, Keys, Marks, Verified, Collected, Refused}
use Rattle.wire_commands.specs.Fields.{Read, whole, byte_at, number_at, digest_at, text_at, flag_at, rows_at, few_rows_at}
use Rattle.wire_commands.specs.ReplyText.{Form, empty, base, part, rest, number, listing, files, keys, marks, verified, collected, files_fit, reply_form}
use Rattle.wire_commands.specs.RefusalReading.{zeros_at, made as field_made, refusal_from}

abbrev pub list_row_at : List ℕ → Read ListRow
list_row_at bytes = do
  snapshot ← text_at bytes
  damaged ← flag_at snapshot.1
  count ← byte_at damaged.1
  _ ← only_if (files_fit damaged.0 count.0)
  Some (record { snapshot = snapshot.0; damaged = damaged.0; files = count.0 }, count.1)

abbrev pub file_row_at : List ℕ → Read FileRow
file_row_at bytes = do
  file ← text_at bytes
  size ← number_at w64 file.1
  csum ← digest_at size.1
  Some (record { file = file.0; size = size.0; csum = csum.0 }, csum.1)

abbrev pub mark_from : ℕ → Option PruneMark
mark_from n =
    if n == 0 then Some Removed else
    if n == 1 then Some Kept else
    if n == 2 then Some Held else
    if n == 3 then Some Gone else
    None

abbrev pub mark_at : List ℕ → Read PruneMark
mark_at bytes = do
  n ← byte_at bytes
  mark ← mark_from n.0
  Some (mark, n.1)

abbrev pub prune_row_at : List ℕ → Read PruneRow
prune_row_at bytes = do
  snapshot ← text_at bytes
  mark ← mark_at snapshot.1
  Some (record { snapshot = snapshot.0; mark = mark.0 }, mark.1)

abbrev pub file_fault_from : ℕ → List ℕ → Read FileFault
file_fault_from code bytes =
    if code == 19 then field_made (λ _. Differs) (zeros_at 32 bytes) else
    if code == 23 then field_made Damaged (digest_at bytes) else
    if code == 24 then field_made (λ _. Unreadable) (zeros_at 32 bytes) else
    None

abbrev pub file_fault_at : List ℕ → Read FileFault
file_fault_at bytes = do
  code ← byte_at bytes
  file_fault_from code.0 code.1

abbrev pub fault_row_at : List ℕ → Read FaultRow
fault_row_at bytes = do
  file ← text_at bytes
  fault ← file_fault_at file.1
  Some (record { file = file.0; fault = fault.0 }, fault.1)

unfoldable pub part_in : List ℕ → Option Reply
part_in bytes = do
  total ← number_at w64 bytes
  Some (Part total.0 total.1)

unfoldable pub verified_in : List ℕ → Option Reply
verified_in bytes = do
  count ← byte_at bytes
  entries ← number_at w64 count.1
  total ← number_at w64 entries.1
  faults ← whole (few_rows_at fault_row_at total.1)
  Some (Verified count.0 entries.0 total.0 faults)

unfoldable pub collected_in : List ℕ → Option Reply
collected_in bytes = do
  start ← number_at w64 bytes
  cutoff ← number_at w64 start.1
  used ← number_at w64 cutoff.1
  pending ← number_at w64 used.1
  removed ← whole (number_at w64 pending.1)
  Some (Collected start.0 cutoff.0 used.0 pending.0 removed)

unfoldable pub made : {A : Type 0} → (A → Reply) → Option A → Option Reply
made make None = None
made make (Some x) = Some (make x)

-- behind the 0
unfoldable pub fields_in : Form → List ℕ → Option Reply
fields_in empty bytes = if length bytes == 0 then Some Done else None
fields_in base bytes = made Base (whole (text_at bytes))
fields_in part bytes = part_in bytes
fields_in rest bytes = Some (Data bytes)
fields_in number bytes = made Number (whole (byte_at bytes))
fields_in listing bytes = made Listing (whole (rows_at list_row_at bytes))
fields_in files bytes = made Files (whole (few_rows_at file_row_at bytes))
fields_in keys bytes = made Keys (whole (rows_at text_at bytes))
fields_in marks bytes = made Marks (whole (rows_at prune_row_at bytes))
fields_in verified bytes = verified_in bytes
fields_in collected bytes = collected_in bytes

abbrev pub accepted : Option Form → List ℕ → Option Reply
accepted None bytes = None
accepted (Some form) bytes = fields_in form bytes

unfoldable pub reply_from : Option Form → ℕ → List ℕ → Option Reply
reply_from form zero bytes = accepted form bytes
reply_from form (suc n) bytes = made Refused (refusal_from (suc n) bytes)

-- the reply to a command of this code whose text this is
unfoldable pub reply_of : ℕ → List ℕ → Option Reply
reply_of code body = do
  _ ← only_if (nat_le (length body) body_limit)
  first ← byte_at body
  reply_from (reply_form code) first.0 first.1
