use Rattle.std.proofs.Common.{◌≡◌, ◌∷◌, ◌++◌, [], ap, sym, subst, ◌∙◌, rules}
use Rattle.wire_commands.specs.HasText.{HasText}
use Rattle.wire_commands.specs.declared.command.Command.TheVariants as commands
use Rattle.std.proofs.Common.{false, nat_eq, if◌then◌else◌}
use Rattle.generator.specs.Sessions.{Puts, previous, input_of}
use Rattle.generator.proofs.SessionLemmas.{puts_none}
use Rattle.generator.specs.Manifests.{archive_name}
use Rattle.generator.proofs.CommandTexts.{has_text, previous_fits}
use Rattle.generator.proofs.session.put_previous.Goals as goal

pub put-requires : goal.put-requires
put-requires c = subst (λ f. HasText (commands.Previous f 0)) (sym c.in_ok-file.ensures) (has_text _ previous_fits)

pub returns : goal.returns
returns c =
    let later : nat_eq c.args.j 0 ≡ false = search rules in
    let named = subst (λ f. Puts c.args.input.now.items c.put.new.input.items (commands.Previous f 0 ∷ []) c.put.result) c.in_ok-file.ensures c.put.ensures in
    subst (λ b. Puts c.args.input.now.items c.put.new.input.items (if b then [] else commands.Previous archive_name 0 ∷ []) c.put.result) (sym later) named

pub returns-then-j-eq0 : goal.returns-then-j-eq0
returns-then-j-eq0 c =
    let old = c.args.input.now.items in
    puts_none old ∙ ap (λ j. old ++ input_of (previous j)) (sym c.if-j-eq0.true)
