-- The one spelling of each reply, and which form the reply to a command has.
use Rattle.std.specs.Prelude.{◌≡◌, ℕ, Bool, not, ◌||◌, List, [], ◌∷◌, ◌++◌, ◌==◌, if◌then◌else◌, Option, Some, None, ⊤}
use Rattle.std.specs.List.{flat_map}
use Rattle.wire_commands.specs.declared.rows.ListRow.{ListRow}
use Rattle.wire_commands.specs.declared.rows.FileRow.{FileRow}
use Rattle.wire_commands.specs.declared.rows.PruneMark.{PruneMark}
use Rattle.wire_commands.specs.declared.rows.PruneMark.TheVariants.{Removed, Kept, Held, Gone}
use Rattle.wire_commands.specs.declared.rows.PruneRow.{PruneRow}
use Rattle.wire_commands.specs.declared.rows.FileFault.{FileFault}
use Rattle.wire_commands.specs.declared.rows.FileFault.TheVariants.{Differs, Damaged, Unreadable}
use Rattle.wire_commands.specs.declared.rows.FaultRow.{FaultRow}
use Rattle.wire_commands.specs.declared.reply.Reply.{Reply}
use Rattle.wire_commands.specs.declared.reply.Reply.TheVariants.{Done, Base, Part, Data, Number, Listing, Files, Keys, Marks, Verified, Collected, Refused}
use Rattle.wire_commands.specs.Fields.{u64, text, flag, rows, few_rows}
use Rattle.wire_commands.specs.RefusalText.{zeros, refusal_text}

-- a snapshot, whether it is damaged, and how many files it has
abbrev pub list_row_text : ListRow → List ℕ
list_row_text r = text r.snapshot ++ flag r.damaged ++ r.files ∷ []

-- a damaged snapshot has 0 files
abbrev pub files_fit : Bool → ℕ → Bool
files_fit damaged files = not damaged || files == 0

abbrev pub file_row_text : FileRow → List ℕ
file_row_text r = text r.file ++ u64 r.size ++ r.csum.0

abbrev pub mark_number : PruneMark → ℕ
mark_number Removed = 0
mark_number Kept = 1
mark_number Held = 2
mark_number Gone = 3

abbrev pub prune_row_text : PruneRow → List ℕ
prune_row_text r = text r.snapshot ++ mark_number r.mark ∷ []

-- the refusal's number, and the digest of the damaged chunk or zeros
abbrev pub file_fault_text : FileFault → List ℕ
file_fault_text Differs = 19 ∷ zeros 32
file_fault_text (Damaged digest) = 23 ∷ digest.0
file_fault_text Unreadable = 24 ∷ zeros 32

abbrev pub fault_row_text : FaultRow → List ℕ
fault_row_text r = text r.file ++ file_fault_text r.fault

unfoldable pub reply_text : Reply → List ℕ
reply_text Done = 0 ∷ []
reply_text (Base snapshot) = 0 ∷ text snapshot
reply_text (Part total bytes) = 0 ∷ u64 total ++ bytes
reply_text (Data bytes) = 0 ∷ bytes
reply_text (Number n) = 0 ∷ n ∷ []
reply_text (Listing snapshots) = 0 ∷ rows list_row_text snapshots
reply_text (Files files) = 0 ∷ few_rows file_row_text files
reply_text (Keys snapshots) = 0 ∷ rows text snapshots
reply_text (Marks snapshots) = 0 ∷ rows prune_row_text snapshots
reply_text (Verified count entries bytes faults) =
    0 ∷ count ∷ u64 entries ++ u64 bytes ++ few_rows fault_row_text faults
reply_text (Collected start cutoff used pending removed) =
    0 ∷ u64 start ++ u64 cutoff ++ u64 used ++ u64 pending ++ u64 removed
reply_text (Refused refusal) = refusal_text refusal

-- the rows, or the field that takes the rest
abbrev pub behind_head : Reply → List ℕ
behind_head (Part total bytes) = bytes
behind_head (Data bytes) = bytes
behind_head (Listing snapshots) = flat_map list_row_text snapshots
behind_head (Files files) = flat_map file_row_text files
behind_head (Keys snapshots) = flat_map text snapshots
behind_head (Marks snapshots) = flat_map prune_row_text snapshots
behind_head (Verified count entries bytes faults) = flat_map fault_row_text faults
behind_head _ = []

-- the forms of replies that are no refusals
pub data Form : Type 0 where
  empty : Form
  base : Form
  part : Form
  rest : Form
  number : Form
  listing : Form
  files : Form
  keys : Form
  marks : Form
  verified : Form
  collected : Form

-- the form of the reply to a command of the code, where there is such a command
abbrev pub reply_form : ℕ → Option Form
reply_form code =
    if code == 10 then Some base else
    if code == 11 then Some part else
    if code == 12 then Some number else
    if code == 13 then Some number else
    if code == 14 then Some empty else
    if code == 15 then Some empty else
    if code == 16 then Some empty else
    if code == 17 then Some empty else
    if code == 18 then Some empty else
    if code == 19 then Some empty else
    if code == 20 then Some empty else
    if code == 21 then Some part else
    if code == 22 then Some rest else
    if code == 23 then Some rest else
    if code == 24 then Some empty else
    if code == 30 then Some listing else
    if code == 31 then Some files else
    if code == 32 then Some empty else
    if code == 33 then Some marks else
    if code == 34 then Some verified else
    if code == 35 then Some keys else
    if code == 36 then Some collected else
    if code == 40 then Some keys else
    if code == 63 then Some empty else
    None

-- the form of a reply that is no refusal
abbrev pub form_of : Reply → Option Form
form_of Done = Some empty
form_of (Base snapshot) = Some base
form_of (Part total bytes) = Some part
form_of (Data bytes) = Some rest
form_of (Number n) = Some number
form_of (Listing snapshots) = Some listing
form_of (Files rows) = Some files
form_of (Keys snapshots) = Some keys
form_of (Marks snapshots) = Some marks
form_of (Verified count entries bytes faults) = Some verified
form_of (Collected start cutoff used pending removed) = Some collected
form_of (Refused refusal) = None

-- a refusal has any form
abbrev pub HasForm : Option Form → Reply → Type 0
HasForm form (Refused refusal) = ⊤
HasForm form r = form ≡ form_of r

-- a reply to a command of the code
abbrev pub AnswersCode : ℕ → Reply → Type 0
AnswersCode code r = HasForm (reply_form code) r
