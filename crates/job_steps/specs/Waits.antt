-- Chunks that were read and are to be tested.
use Rattle.std.specs.Prelude.{◌≡◌, List, [], ◌∷◌, Option, is_none}
use Rattle.std.specs.Option.{option_or}
use Rattle.wire_commands.specs.declared.rows.FileFault.{FileFault}
use Rattle.store_model.specs.VerifyJob as verify
use Rattle.job_steps.specs.declared.part.Waiting.{Waiting}

-- the first fault of a file whose fault so far is this, with these chunks
abbrev pub fault_with : Option FileFault → List Waiting → Option FileFault
fault_with fault [] = fault
fault_with fault (w ∷ ws) = fault_with (option_or fault (verify.chunk_fault w.piece w.blob)) ws

-- whatever the file's fault so far, its first fault with these is as with those
abbrev pub SameFaults : List Waiting → List Waiting → Type 0
SameFaults old new = (fault : Option FileFault) → fault_with fault new ≡ fault_with fault old

-- a test of each was done
abbrev pub IsTested : Waiting → Type 0
IsTested w = w.is_whole ≡ is_none (verify.chunk_fault w.piece w.blob)
