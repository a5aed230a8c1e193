use Rattle.std.proofs.Common.{◌≤◌, ◌∷◌, [], length, ap, sym, subst, arith, ◌∙◌}
use Rattle.wire_commands.specs.HasText.{HasText}
use Rattle.wire_commands.specs.declared.command.Command.TheVariants as commands
use Rattle.store_types.specs.FileNames.{manifest_name}
use Rattle.blob_codec.specs.Blob.{blob}
use Rattle.generator.specs.Sessions.{Puts}
use Rattle.generator.proofs.CommandTexts.{has_text, blob_fits}
use Rattle.generator.proofs.session.put_manifest.Goals as goal

pub blob_of-requires : goal.blob_of-requires
blob_of-requires c = omega (arith, ap length c.deref.ensures.value, c.in_ok-text.ensures.short)

pub put-requires : goal.put-requires
put-requires c =
    let blob_is = c.in_ok-blob.ensures ∙ ap blob (c.deref.ensures.value ∙ c.in_ok-text.ensures.text) in
    let short = subst (λ t. length t ≤ 300) c.in_ok-text.ensures.text c.in_ok-text.ensures.short in
    let sent = subst (λ b. HasText (commands.Blob manifest_name b)) (sym blob_is) (has_text _ (blob_fits _ short)) in
    subst (λ f. HasText (commands.Blob f c.in_ok-blob.blob)) (sym c.in_ok-file.ensures) sent

pub returns : goal.returns
returns c =
    let old = c.args.input.now.items in
    let new = c.put.new.input.items in
    let blob_is = c.in_ok-blob.ensures ∙ ap blob (c.deref.ensures.value ∙ c.in_ok-text.ensures.text) in
    let named = subst (λ f. Puts old new (commands.Blob f c.in_ok-blob.blob ∷ []) c.put.result) c.in_ok-file.ensures c.put.ensures in
    subst (λ b. Puts old new (commands.Blob manifest_name b ∷ []) c.put.result) blob_is named
