use Rattle.std.proofs.Common.{◌≡◌, take, map}
use Rattle.command_line.specs.Reading.{texts}
use Rattle.command_line.proofs.reading.all_copied.Given as goal

abbrev pub invariant-loop-text : goal.invariant-loop-text
invariant-loop-text l = texts l.copies.items ≡ map (λ t. t.now) (take l.text-index l.all)
