-- What is read of a file.
use Rattle.std.specs.Prelude.{◌≡◌, ◌<◌, ℕ, List, Result, Ok, Err, length, nat_le}
use Rattle.std.specs.FinMap.{get}
use Rattle.disk_trait.specs.declared.disk.Disk.{Ghosts}
use Rattle.disk_trait.specs.Files.{Files}
use Rattle.store_types.specs.Chain.Refusing.{◌>>=◌, or_else, unless}
use Rattle.store_types.specs.declared.refusal.Refusal.{Refusal}
use Rattle.store_types.specs.declared.refusal.Refusal.TheVariants.{BadRange, Unreadable}
use Rattle.wire_commands.specs.declared.reply.Reply.{Reply}
use Rattle.wire_commands.specs.declared.reply.Reply.TheVariants.{Part}
use Rattle.wire_commands.specs.HasText.{ReplyHasText}
use Rattle.store_model.specs.WriterSteps.{part_of}
use Rattle.snapshot_files.specs.declared.parts.FilePart.{FilePart}
use Rattle.store_stops.specs.declared.stop.Stop.{Stop}
use Rattle.store_stops.specs.Stops.{Gives}

-- a part of a file's text from an offset, or the refusal of the offset
abbrev pub part_from : List ℕ → ℕ → Result Reply Refusal
part_from text offset = unless (BadRange (length text)) (nat_le offset (length text)) >>= λ _. Ok (part_of text offset)

-- of the file that stands at the path
abbrev pub part_at : Files → List ℕ → ℕ → Result Reply Refusal
part_at content path offset = or_else (Unreadable path) (get content path) >>= λ text. part_from text offset

abbrev pub IsPart : Reply → Type 0
IsPart (Part total bytes) = Unit {0}
IsPart reply = ⊥

-- the reply that a part makes
abbrev pub part_reply : FilePart → Reply
part_reply p = Part p.total p.bytes

-- which has a spelling
abbrev pub PartHasText : FilePart → Type 0
PartHasText p = ReplyHasText (part_reply p)

-- it is not empty before the file's end
abbrev pub FillsPart : ℕ → FilePart → Type 0
FillsPart offset p = offset < p.total → 0 < length p.bytes

-- the refusals of a part of the file at a path: of the offset, or of the file
abbrev pub RefusesPart : List ℕ → Refusal → Type 0
RefusesPart path (BadRange size) = Unit {0}
RefusesPart path (Unreadable name) = name ≡ path
RefusesPart path refusal = ⊥

-- a part, or its refusal
abbrev pub IsPartOf : List ℕ → Result Reply Refusal → Type 0
IsPartOf path (Ok reply) = IsPart reply
IsPartOf path (Err refusal) = RefusesPart path refusal

-- of an honest disk: the part is that of the file at the path, or the refusal
abbrev pub ReadsPart : {D : Type 0} → Ghosts D → D → List ℕ → ℕ → Result FilePart Stop → Type 0
ReadsPart d disk path offset result = d.honest disk → Gives part_reply result (part_at (d.content disk) path offset)
