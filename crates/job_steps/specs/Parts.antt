-- The parts of a batch that threads test.
use Rattle.std.specs.Prelude.{List, [], ◌∷◌, Option, None}
use Rattle.std.specs.Option.{option_or}
use Rattle.std.specs.declared.thread.PromisedHandle.{PromisedHandle}
use Rattle.wire_commands.specs.declared.rows.FileFault.{FileFault}
use Rattle.job_steps.specs.declared.tested.TestOf.{TestOf}
use Rattle.job_steps.specs.declared.tested.Tested.{Tested}
use Rattle.job_steps.specs.Waits.{fault_with}

-- the first fault of the chunks that were handed over, by the threads' promises
abbrev pub parts_fault : List (PromisedHandle Tested TestOf) → Option FileFault
parts_fault [] = None
parts_fault (p ∷ ps) = option_or (fault_with None p.promise.0.value.chunks.items) (parts_fault ps)
