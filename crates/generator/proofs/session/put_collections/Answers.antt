use Rattle.std.proofs.Common.{◌∷◌, []}
use Rattle.wire_commands.specs.declared.command.Command.TheVariants.{Gc, Bye}
use Rattle.generator.proofs.CommandTexts.{has_text, gc_fits, bye_fits}
use Rattle.generator.proofs.SessionLemmas.{both_put, puts_then}
use Rattle.generator.proofs.session.put_collections.Goals as goal

pub put-requires : goal.put-requires
put-requires c = has_text _ gc_fits

pub put-requires-2 : goal.put-requires-2
put-requires-2 c = has_text _ gc_fits

pub put-requires-3 : goal.put-requires-3
put-requires-3 c = has_text _ gc_fits

pub put-requires-4 : goal.put-requires-4
put-requires-4 c = has_text _ gc_fits

pub put-requires-5 : goal.put-requires-5
put-requires-5 c = has_text _ bye_fits

pub returns : goal.returns
returns c =
    let old = c.args.input.now.items in
    let two = both_put old _ c.put-2.new.input.items (Gc ∷ []) (Gc ∷ []) c.in_ok-put.ensures c.in_ok-put-2.ensures in
    let three = both_put old _ c.put-3.new.input.items (Gc ∷ Gc ∷ []) (Gc ∷ []) two c.in_ok-put-3.ensures in
    let four = both_put old _ c.put-4.new.input.items (Gc ∷ Gc ∷ Gc ∷ []) (Gc ∷ []) three c.in_ok-put-4.ensures in
    puts_then old _ c.put-5.new.input.items (Gc ∷ Gc ∷ Gc ∷ Gc ∷ []) (Bye ∷ []) c.put-5.result four c.put-5.ensures
