use Rattle.std.proofs.Common.{◌≡◌, ◌∷◌, ◌++◌, [], sym, subst, lit<}
use Rattle.wire_commands.specs.HasText.{HasText}
use Rattle.wire_commands.specs.declared.command.Command.TheVariants as commands
use Rattle.std.proofs.Common.{false}
use Rattle.generator.specs.Sessions.{input_of, two_last}
use Rattle.generator.specs.Manifests.{snapshot_of, group_of}
use Rattle.generator.proofs.CommandTexts.{has_text, short_snapshot, short_group, verify_fits, forget_fits, prune_fits, bye_fits}
use Rattle.generator.proofs.SessionLemmas.{both_put, puts_then}
use Rattle.generator.proofs.session.put_upkeep.Goals as goal

pub put-requires : goal.put-requires
put-requires c = subst (λ s. HasText (commands.Verify s)) (sym c.in_ok-snapshot.ensures) (has_text _ (verify_fits _ (short_snapshot c.args.k 3 c.requires (lit< tt))))

pub put-requires-2 : goal.put-requires-2
put-requires-2 c = subst (λ s. HasText (commands.Forget s)) (sym c.in_ok-snapshot-2.ensures) (has_text _ (forget_fits _ (short_snapshot c.args.k 0 c.requires (lit< tt))))

pub put-requires-3 : goal.put-requires-3
put-requires-3 c = subst (λ g. HasText (commands.Prune g two_last false)) (sym c.in_ok-group.ensures) (has_text _ (prune_fits _ (short_group c.args.k c.requires)))

pub put-requires-4 : goal.put-requires-4
put-requires-4 c = has_text _ bye_fits

pub returns : goal.returns
returns c =
    let old = c.args.input.now.items in
    let k = c.args.k in
    let verify = commands.Verify (snapshot_of k 3) in
    let forget = commands.Forget (snapshot_of k 0) in
    let prune = commands.Prune (group_of k) two_last false in
    let first = subst (λ s. c.put.new.input.items ≡ old ++ input_of (commands.Verify s ∷ [])) c.in_ok-snapshot.ensures c.in_ok-put.ensures in
    let second = subst (λ s. c.put-2.new.input.items ≡ c.put.new.input.items ++ input_of (commands.Forget s ∷ [])) c.in_ok-snapshot-2.ensures c.in_ok-put-2.ensures in
    let third = subst (λ g. c.put-3.new.input.items ≡ c.put-2.new.input.items ++ input_of (commands.Prune g two_last false ∷ [])) c.in_ok-group.ensures c.in_ok-put-3.ensures in
    let two = both_put old _ c.put-2.new.input.items (verify ∷ []) (forget ∷ []) first second in
    let three = both_put old _ c.put-3.new.input.items (verify ∷ forget ∷ []) (prune ∷ []) two third in
    puts_then old _ c.put-4.new.input.items (verify ∷ forget ∷ prune ∷ []) (commands.Bye ∷ []) c.put-4.result three c.put-4.ensures
