use Rattle.std.proofs.Common.{◌≤◌, List, length, sym, ap, subst, arith}
use Rattle.wire_commands.specs.declared.rows.PruneRow.{PruneRow}
use Rattle.wire_commands.specs.declared.reply.Reply.TheVariants.{Marks}
use Rattle.wire_commands.specs.HasText.{ReplyHasText}
use Rattle.plain_lanes.proofs.PruneLemmas.{marks_spelled}
use Rattle.plain_lanes.proofs.prune.grouped.Goals as goal

pub returns-then-dry-clause-spelled : goal.returns-then-dry-clause-spelled
returns-then-dry-clause-spelled c =
    let rows = c.in_ok-rows.rows.items in
    let told = (rw c.in-Keys.is at c.requires) in
    let few : length rows ≤ 4096 = omega (arith, c.in_ok-rows.ensures.count, ap length c.into_vec.ensures, told.1) in
    subst (λ (rs : List PruneRow). ReplyHasText (Marks rs)) (sym c.from_vec.ensures) (marks_spelled rows few c.in_ok-rows.ensures.fits)
