use Rattle.std.proofs.Common.{◌≤◌, List, length, ap, sym, subst, arith}
use Rattle.wire_commands.specs.declared.rows.FileRow.{FileRow}
use Rattle.wire_commands.specs.declared.reply.Reply.TheVariants.{Files}
use Rattle.wire_commands.specs.HasText.{ReplyHasText}
use Rattle.plain_snapshots.proofs.RowTexts.{files_spelled}
use Rattle.plain_snapshots.proofs.listing.files_reply.Goals as goal

pub returns-clause-spelled : goal.returns-clause-spelled
returns-clause-spelled c =
    let rows = c.in_ok-rows.rows.items in
    let few : length rows ≤ 64 = omega (arith, c.in_ok-rows.ensures.count, ap length c.deref.ensures.value, c.snapshot.invariant) in
    subst (λ (l : List FileRow). ReplyHasText (Files l)) (sym c.from_vec.ensures) (files_spelled rows few c.in_ok-rows.ensures.fits)
