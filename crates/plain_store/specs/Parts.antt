-- Parts of files.
use Rattle.std.specs.Prelude.{ℕ, List, length, nat_le, Result, Ok}
use Rattle.store_types.specs.declared.refusal.Refusal.{Refusal}
use Rattle.store_types.specs.declared.refusal.Refusal.TheVariants.{NoFile, BadRange}
use Rattle.store_types.specs.Chain.Refusing.{◌>>=◌, unless, or_else}
use Rattle.store_files.specs.Archive.{File, file_text, file_named}
use Rattle.wire_commands.specs.declared.reply.Reply.{Reply}
use Rattle.store_model.specs.WriterSteps.{part_of}

-- a part of a file's text, where the offset is within it
abbrev pub part_from : List ℕ → ℕ → Result Reply Refusal
part_from text offset = do
  _ ← unless (BadRange (length text)) (nat_le offset (length text))
  Ok (part_of text offset)

-- the first file of a name, and the part of its text
abbrev pub file_part : List File → List ℕ → ℕ → Result (File × Reply) Refusal
file_part files name offset = do
  f ← or_else NoFile (file_named name files)
  part ← part_from (file_text f.content) offset
  Ok (f, part)
