use Rattle.std.proofs.Common.{◌≤◌, List, ℕ, length, sym, subst}
use Rattle.wire_commands.specs.declared.reply.Reply.TheVariants.{Keys}
use Rattle.wire_commands.specs.HasText.{ReplyHasText}
use Rattle.plain_snapshots.proofs.RowTexts.{keys_spelled}
use Rattle.plain_snapshots.proofs.Telling.{few_texts}
use Rattle.plain_snapshots.proofs.listing.keys_reply.Goals as goal

pub returns-clause-spelled : goal.returns-clause-spelled
returns-clause-spelled c =
    let texts = c.in_ok-texts.texts.items in
    let few = subst (λ (l : List (List ℕ)). length l ≤ 4096) (sym c.in_ok-texts.ensures.texts) (few_texts c.args.group.now c.args.snapshots.now) in
    subst (λ (l : List (List ℕ)). ReplyHasText (Keys l)) (sym c.from_vec.ensures) (keys_spelled texts few c.in_ok-texts.ensures.fits)
