use Rattle.std.proofs.Common.{◌≤◌, List, length, sym, subst}
use Rattle.std.specs.Prelude.{option_map}
use Rattle.wire_commands.specs.declared.rows.ListRow.{ListRow}
use Rattle.wire_commands.specs.declared.reply.Reply.TheVariants.{Listing}
use Rattle.wire_commands.specs.HasText.{ReplyHasText}
use Rattle.plain_snapshots.proofs.RowTexts.{listing_spelled}
use Rattle.plain_snapshots.proofs.Telling.{few_listed}
use Rattle.plain_snapshots.proofs.listing.list_reply.Goals as goal

pub returns-clause-spelled : goal.returns-clause-spelled
returns-clause-spelled c =
    let rows = c.in_ok-rows.rows.items in
    let few = subst (λ (l : List ListRow). length l ≤ 1024) (sym c.in_ok-rows.ensures.rows) (few_listed c.args.snapshots.now (option_map (λ key. key.now) c.args.after)) in
    subst (λ (l : List ListRow). ReplyHasText (Listing l)) (sym c.from_vec.ensures) (listing_spelled rows few c.in_ok-rows.ensures.fits)
