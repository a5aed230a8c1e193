use Rattle.std.proofs.Common.{◌≡◌, ◌∷◌, ◌++◌, [], sym, subst}
use Rattle.wire_commands.specs.HasText.{HasText}
use Rattle.wire_commands.specs.declared.command.Command.TheVariants as commands
use Rattle.generator.specs.Sessions.{Puts, previous, input_of}
use Rattle.generator.specs.Manifests.{snapshot_of, archive_name}
use Rattle.generator.proofs.CommandTexts.{has_text, open_fits, new_fits, short_snapshot}
use Rattle.generator.proofs.SessionLemmas.{both_put, puts_then}
use Rattle.generator.proofs.session.put_opening.Goals as goal

pub put-requires : goal.put-requires
put-requires c =
    subst (λ s. HasText (commands.OpenWriter s)) (sym c.in_ok-snapshot.ensures)
    (has_text _ (open_fits _ (short_snapshot c.args.k c.args.j c.requires.lane c.requires.snapshot)))

pub put-requires-2 : goal.put-requires-2
put-requires-2 c = subst (λ f. HasText (commands.NewDynamic f)) (sym c.in_ok-file.ensures) (has_text _ new_fits)

pub returns : goal.returns
returns c =
    let old = c.args.input.now.items in
    let name = snapshot_of c.args.k c.args.j in
    let first = subst (λ s. c.put.new.input.items ≡ old ++ input_of (commands.OpenWriter s ∷ [])) c.in_ok-snapshot.ensures c.in_ok-put.ensures in
    let second = both_put old _ c.put_previous.new.input.items (commands.OpenWriter name ∷ []) (previous c.args.j) first c.in_ok-put_previous.ensures in
    let last = subst (λ f. Puts c.put_previous.new.input.items c.put-2.new.input.items (commands.NewDynamic f ∷ []) c.put-2.result) c.in_ok-file.ensures c.put-2.ensures in
    puts_then old _ c.put-2.new.input.items (commands.OpenWriter name ∷ previous c.args.j) (commands.NewDynamic archive_name ∷ []) c.put-2.result second last
