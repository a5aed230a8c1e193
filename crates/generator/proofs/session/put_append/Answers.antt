use Rattle.std.proofs.Common.{◌∷◌, [], ap, sym, subst, arith, ◌∙◌}
use Rattle.wire_commands.specs.HasText.{HasText}
use Rattle.wire_commands.specs.declared.command.Command.TheVariants as commands
use Rattle.std.proofs.Common.{length}
use Rattle.generator.specs.Pieces.{pieces}
use Rattle.generator.specs.Archives.{entries_from}
use Rattle.generator.specs.Sessions.{Puts}
use Rattle.generator.proofs.PieceLemmas.{entries-from, length-facts}
use Rattle.generator.proofs.CommandTexts.{has_text, append_fits}
use Rattle.generator.proofs.session.put_append.Goals as goal

pub entries_of-requires : goal.entries_of-requires
entries_of-requires c = omega (arith, ap length c.requires ∙ length-facts c.args.k c.args.j)

pub put-requires : goal.put-requires
put-requires c =
    let are = c.from_vec-entries.ensures ∙ c.in_ok-entries_of.ensures ∙ ap (entries_from 0) c.requires ∙ entries-from 0 (pieces c.args.k c.args.j) in
    subst (λ es. HasText (commands.Append 0 es)) (sym are) (has_text _ (append_fits c.args.k c.args.j))

pub returns : goal.returns
returns c =
    let are = c.from_vec-entries.ensures ∙ c.in_ok-entries_of.ensures ∙ ap (entries_from 0) c.requires ∙ entries-from 0 (pieces c.args.k c.args.j) in
    subst (λ es. Puts c.args.input.now.items c.put.new.input.items (commands.Append 0 es ∷ []) c.put.result) are c.put.ensures
